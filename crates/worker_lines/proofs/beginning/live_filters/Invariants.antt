use Rattle.std.proofs.Common.{◌≡◌, ◌++◌, drop}
use Rattle.std.specs.Prelude.{filter, not}
use Rattle.worker_model.specs.Steps.{is_gone}
use Rattle.worker_lines.proofs.beginning.live_filters.Given as goal

abbrev pub invariant-loop-f : goal.invariant-loop-f
invariant-loop-f l = l.live ++ filter (λ f. not (is_gone l.dead f)) (drop l.f-index l.filters) ≡ filter (λ f. not (is_gone l.dead f)) l.filters
