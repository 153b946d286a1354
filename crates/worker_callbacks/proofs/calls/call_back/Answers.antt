use Rattle.filter_host.specs.Runs.{cut_callback, cut_short, goes_callback}
use Rattle.worker_callbacks.proofs.Answered.{answered}
use Rattle.worker_callbacks.proofs.calls.call_back.Goals as goal

pub returns-in_err-answer-clause-run : goal.returns-in_err-answer-clause-run
returns-in_err-answer-clause-run g c = rw (← c.room.view_is) (cut_callback _ _ c.from_residual.result c.from_residual.ensures.0 (rw c.get-id.ensures at c.in_err-answer.ensures.run))

pub returns-in_err-answer-2-clause-run : goal.returns-in_err-answer-2-clause-run
returns-in_err-answer-2-clause-run g c =
    rw (← c.room.view_is) (cut_short _ c.from_residual-in_err-answer-2.result c.from_residual-in_err-answer-2.ensures.0 (goes_callback _ (rw c.get-id.ensures at c.in_ok-answer.ensures.run)))

pub returns-clause-run : goal.returns-clause-run
returns-clause-run g c =
    rw (← c.room.view_is)
    (answered g.K.Traffic.takes g.met.K.Traffic.renews _ _ _ _ _ _ _ _ _ (goes_callback _ (rw c.get-id.ensures at c.in_ok-answer.ensures.run)) c.value_of.ensures c.in_ok-answer-2.ensures)
