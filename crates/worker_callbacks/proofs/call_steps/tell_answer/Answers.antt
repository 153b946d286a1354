use Rattle.std.proofs.Common.{sym}
use Rattle.filter_host.specs.Course.{ends}
use Rattle.filter_host.specs.Runs.{cut_part, goes_part, goes_as}
use Rattle.worker_model.specs.Steps.{both}
use Rattle.worker_callbacks.proofs.call_steps.tell_answer.Goals as goal

pub returns-in_err-call_live-clause-run : goal.returns-in_err-call_live-clause-run
returns-in_err-call_live-clause-run g c = cut_part _ _ c.from_residual.result c.from_residual.ensures.0 c.in_err-call_live.ensures.run

pub returns-clause-run : goal.returns-clause-run
returns-clause-run g c = goes_as (goes_part _ c.in_ok-call_live.ensures.run) (λ i. ends (both c.call_live.new.host (sym c.put_call_answer.ensures i)))
