use Rattle.std.proofs.Common.{arith, ap, ◌∙◌, sym, ◌≡◌, ◌-◌, length, Err}
use Rattle.wasm_reader.proofs.Whole.{sections_end, sections_lack}
use Rattle.wasm_reader.proofs.module.complete.Goals as goal

pub returns-then-not-is_complete-clause-err : goal.returns-then-not-is_complete-clause-err
returns-then-not-is_complete-clause-err c = λ m.
    let zero : 0 ≡ length c.args.b.now - length c.args.b.now = omega arith in
    (omega arith, sections_lack 0 c.args.before m (sym c.if-not-is_complete.ensures) ∙ ap (λ n. Err (record { number = 4; left = n })) zero)

pub returns-clause-ok : goal.returns-clause-ok
returns-clause-ok c = λ m. sections_end 0 c.args.before m (sym c.if-not-is_complete.ensures)
