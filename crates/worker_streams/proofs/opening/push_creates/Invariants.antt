use Rattle.std.proofs.Common.{◌≡◌, ◌++◌}
use Rattle.streams_model.specs.Opening.{create_jobs}
use Rattle.worker_streams.proofs.opening.push_creates.Given as goal

abbrev pub invariant-loop-at : goal.invariant-loop-at
invariant-loop-at l = l.jobs ≡ l.fn.jobs ++ create_jobs l.line l.at
