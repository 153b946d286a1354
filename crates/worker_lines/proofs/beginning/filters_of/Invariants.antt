use Rattle.std.proofs.Common.{◌≡◌, ◌++◌, drop}
use Rattle.worker_model.specs.Steps.{filters_of}
use Rattle.worker_lines.proofs.beginning.filters_of.Given as goal

abbrev pub invariant-loop-plugin : goal.invariant-loop-plugin
invariant-loop-plugin l = l.filters ++ filters_of l.plugins (drop l.plugin-index l.list) ≡ filters_of l.plugins l.list
