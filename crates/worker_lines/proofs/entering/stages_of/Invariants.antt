use Rattle.std.proofs.Common.{◌≡◌, ◌++◌, drop}
use Rattle.std.specs.Prelude.{map, filter}
use Rattle.worker_model.specs.Steps.{new_stage, is_live}
use Rattle.worker_lines.proofs.entering.stages_of.Given as goal

abbrev pub invariant-loop-f : goal.invariant-loop-f
invariant-loop-f l = l.stages.items ++ map (new_stage l.response) (filter (is_live l.dead) (drop l.f-index l.filters)) ≡ map (new_stage l.response) (filter (is_live l.dead) l.filters)
