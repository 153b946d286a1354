use Rattle.std.proofs.Common.{◌≡◌, ◌++◌, drop}
use Rattle.streams_model.specs.Ending.{close_jobs}
use Rattle.worker_streams.proofs.ending.push_all_closes.Given as goal

abbrev pub invariant-loop-f : goal.invariant-loop-f
invariant-loop-f l = l.jobs ++ close_jobs l.l (drop l.f-index l.filters) ≡ l.fn.jobs ++ close_jobs l.fn.l l.fn.filters
