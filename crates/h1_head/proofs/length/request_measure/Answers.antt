use Rattle.std.proofs.Common.{sym, ◌∙◌, Some}
use Rattle.h1_head.proofs.Measured.{request_measure-told}
use Rattle.h1_head.proofs.length.request_measure.Goals as goal

pub returns-in-Absent-Number : goal.returns-in-Absent-Number
returns-in-Absent-Number c =
    let none = rw c.in-Absent-Number.is-0 at c.requires.codings in
    let one = rw c.in-Absent-Number.is-1 at c.told_by-told.ensures in
    sym (rw none (request_measure-told c.args.minor _ (Some c.in-Absent-Number.n) one) ∙ c.exact_measure.ensures)
