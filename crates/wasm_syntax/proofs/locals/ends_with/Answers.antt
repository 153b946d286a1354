use Rattle.std.proofs.Common.{◌≡◌, ◌-◌, true, List, length, refl, sym, ap, ◌∙◌}
use Rattle.std.specs.Prelude.{slice_get}
use denote.Enum.Bare.{sameb}
use Rattle.wasm_syntax.specs.contracts.types.ValueType.{the_type}
use Rattle.wasm_syntax.specs.declared.types.ValueType.{ValueType}
use Rattle.wasm_syntax.specs.declared.types.ValueType.TheVariants.{I32, I64}
use Rattle.wasm_syntax.specs.declared.locals.LocalRun.{LocalRun}
use Rattle.wasm_syntax.proofs.RunLists.{last-of}
use Rattle.wasm_syntax.proofs.locals.ends_with.Goals as goal

are_same : (t u : ValueType) → sameb the_type t u ≡ true → t ≡ u
are_same I32 I32 e = refl
are_same I32 I64 e = absurd cc
are_same I64 I32 e = absurd cc
are_same I64 I64 e = refl

pub returns-in-Some : goal.returns-in-Some
returns-in-Some c = λ yes front r parts.
    let is = sym (last-of front r) ∙ sym (ap (λ (l : List LocalRun). slice_get l (length l - 1)) parts) ∙ sym c.last.ensures ∙ c.in-Some.is in
    let same : r ≡ c.in-Some.run' = cc in
    ap (λ (q : LocalRun). q.of) same ∙ are_same _ c.args.of (sym c.eq.ensures ∙ yes)
