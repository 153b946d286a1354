use Rattle.std.proofs.Common.{◌≡◌, drop}
use Rattle.worker_model.specs.Wants.{with_call_dues}
use Rattle.worker.proofs.call_wants.with_calls.Given as goal

abbrev pub invariant-loop-c : goal.invariant-loop-c
invariant-loop-c l = with_call_dues l.first (drop l.c-index l.calls) ≡ with_call_dues l.fn.due l.calls
