use Rattle.std.proofs.Common.{◌≡◌, ℕ, ◌+◌, ◌-◌, List, ◌++◌, drop, sym, ap, ◌∙◌, arith}
use Rattle.std.specs.Prelude.{replicate}
use Rattle.std.proofs.lemmas.List.{append-nil, drop-replicate}
use Rattle.wasm_syntax.specs.declared.types.ValueType.{ValueType}
use Rattle.wasm_syntax.specs.LocalLists.{kept_types}
use Rattle.wasm_syntax.proofs.locals.LocalList.run.Goals as goal

all_alike : (n x : ℕ) (t : ValueType) (all : List ValueType) → all ≡ replicate n t → drop x all ≡ replicate (n - x) t ++ drop (x + (n - x)) all
all_alike n x t all e =
    let none : n - (x + (n - x)) ≡ 0 = omega arith in
    ap (drop x) e ∙ drop-replicate x n t
    ∙ sym (append-nil (replicate (n - x) t))
    ∙ ap (λ (l : List ValueType). replicate (n - x) t ++ l) (sym (ap (drop (x + (n - x))) e ∙ drop-replicate (x + (n - x)) n t ∙ ap (λ (k : ℕ). replicate k t) none))

pub returns-in-Same-clause-run : goal.returns-in-Same-clause-run
returns-in-Same-clause-run c = all_alike c.in-Same.n c.args.x c.in-Same.of c.args.self.now (sym c.self.view_is ∙ ap kept_types c.in-Same.is)
