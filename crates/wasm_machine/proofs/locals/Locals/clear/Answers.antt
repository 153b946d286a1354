use Rattle.std.proofs.Common.{◌≡◌, List, [], ◌∷◌, ◌++◌, ◌∙◌, length, ap, sym, arith}
use Rattle.std.proofs.lemmas.List.{append-nil}
use Rattle.wasm_syntax.specs.declared.types.Value.{Value}
use Rattle.wasm_syntax.specs.declared.types.ValueType.{ValueType}
use Rattle.wasm_syntax.specs.Reduction.{zeros}
use Rattle.wasm_machine.specs.Held.{held}
use Rattle.wasm_machine.proofs.locals.Locals.clear.Goals as goal

no_zeros : (vs : List Value) (us : List ValueType) → length us ≡ 0 → vs ≡ vs ++ zeros us
no_zeros vs [] e = sym (append-nil vs)
no_zeros vs (u ∷ us) e = absurd (omega (arith, e))
