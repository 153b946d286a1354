use Rattle.std.proofs.Common.{◌≡◌, ◌∙◌, refl, sym, subst, Option, Some, None, List, ◌++◌, ◌∷◌, []}
use Rattle.std.specs.Prelude.{IfSome, IfNone}
use Rattle.wasm_syntax.specs.declared.types.ValueType.{ValueType}
use Rattle.wasm_syntax.specs.declared.locals.LocalRun.{LocalRun}
use Rattle.wasm_syntax.specs.LocalRuns.{IsOpen, same, shorter, EndsWith}
use Rattle.wasm_syntax.proofs.locals.open.Goals as goal

opened : (old new : List LocalRun) (t : ValueType) (r : Option LocalRun) → EndsWith old t → IfSome r (λ m. old ≡ new ++ m ∷ []) → IfNone r ((old ≡ []) × (new ≡ [])) → IsOpen old new t
opened old new t (Some m) ends some none = shorter m some (ends new m some)
opened old new t None ends some none = same (none.1 ∙ sym none.0)

pub returns-then-ends_with : goal.returns-then-ends_with
returns-then-ends_with c = opened c.args.runs.now c.pop-last.new.self c.args.of c.pop-last.result (subst (λ (l : List LocalRun). EndsWith l c.args.of) c.as_slice.ensures (c.if-ends_with.ensures refl)) c.pop-last.ensures.some c.pop-last.ensures.none
