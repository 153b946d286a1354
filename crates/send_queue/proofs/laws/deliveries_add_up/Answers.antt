use Rattle.send_queue.proofs.Deliveries.{delivers_none, delivers-push, happened-of_turns, marks_at-of_turns, nothing_waits, in_order, log_never_waits, short_is_noted, noted_is_short}
use Rattle.send_queue.proofs.laws.deliveries_add_up.Goals as goal

pub returns-clause-turns : goal.returns-clause-turns
returns-clause-turns c = record { none = delivers_none; more = delivers-push; events = happened-of_turns; all = marks_at-of_turns; nothing_waits = nothing_waits; in_order = in_order }

pub returns-clause-log : goal.returns-clause-log
returns-clause-log c = log_never_waits

pub returns-clause-short : goal.returns-clause-short
returns-clause-short c = λ n line side steps none. (short_is_noted n line side steps none, noted_is_short n line side steps none)
