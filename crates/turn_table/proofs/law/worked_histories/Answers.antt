use Rattle.std.proofs.Common.{refl}
use Rattle.turn_table.proofs.Rows.{stale_row, stale}
use Rattle.turn_table.proofs.law.worked_histories.Goals as goal

pub returns-clause-row_is_legal : goal.returns-clause-row_is_legal
returns-clause-row_is_legal c = refl

pub returns-clause-stale_row_is_not : goal.returns-clause-stale_row_is_not
returns-clause-stale_row_is_not c = stale_row

pub returns-clause-stale_call : goal.returns-clause-stale_call
returns-clause-stale_call c = stale
