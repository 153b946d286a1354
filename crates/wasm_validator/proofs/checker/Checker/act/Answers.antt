use Rattle.std.proofs.Common.{ℕ, List, IfOk, sym, subst, ◌∙◌}
use Rattle.wasm_syntax.specs.declared.row.Row.{Row}
use Rattle.wasm_syntax.specs.declared.row.Row.TheVariants as row
use Rattle.wasm_syntax.specs.Rows.{labels_of}
use Rattle.wasm_validator.specs.Checking.{Tells}
use Rattle.wasm_validator.specs.Scopes.{context_in}
use Rattle.wasm_validator.specs.Stepping.{acted_by}
use Rattle.wasm_validator.proofs.checker.Checker.act.Goals as goal

pub returns-in-Br : goal.returns-in-Br
returns-in-Br c = λ alone. subst (λ (r : Row). Tells c.branch-self.result (acted_by (context_in c.args.names) c.args.self.now r (labels_of c.args.i.now)) c.branch-self.new.self) (sym c.in-Br.is ∙ c.row.ensures) (c.branch-self.ensures (context_in c.args.names) (labels_of c.args.i.now))

pub returns-in-BrIf : goal.returns-in-BrIf
returns-in-BrIf c = λ alone. subst (λ (r : Row). IfOk c.branch_if.result (λ may. Tells may (acted_by (context_in c.args.names) c.args.self.now r (labels_of c.args.i.now)) c.branch_if.new.self)) (sym c.in-BrIf.is ∙ c.row.ensures) (c.branch_if.ensures (context_in c.args.names) (labels_of c.args.i.now))

pub returns-in-BrTable : goal.returns-in-BrTable
returns-in-BrTable c = λ alone.
    let labelled = subst (λ (ls : List ℕ). Tells c.branch_to_one.result (acted_by (context_in c.args.names) c.args.self.now (row.BrTable c.in-BrTable.l) ls) c.branch_to_one.new.self) c.labels.ensures (c.branch_to_one.ensures (context_in c.args.names)) in
    subst (λ (r : Row). Tells c.branch_to_one.result (acted_by (context_in c.args.names) c.args.self.now r (labels_of c.args.i.now)) c.branch_to_one.new.self) (sym c.in-BrTable.is ∙ c.row.ensures) labelled
