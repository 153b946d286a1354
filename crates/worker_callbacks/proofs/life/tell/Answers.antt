use Rattle.filter_host.specs.Runs.{cut_part, goes_part}
use Rattle.worker_callbacks.proofs.life.tell.Goals as goal

pub returns-in_err-call_live-clause-run : goal.returns-in_err-call_live-clause-run
returns-in_err-call_live-clause-run g c = cut_part _ _ c.from_residual.result c.from_residual.ensures.0 c.in_err-call_live.ensures.run

pub returns-clause-run : goal.returns-clause-run
returns-clause-run g c = goes_part _ c.in_ok-call_live.ensures.run
