use Rattle.std.proofs.Common.{◌≡◌}
use Rattle.std.specs.Prelude.{length}
use Rattle.header_maps.specs.Faults.{are_values_for}
use Rattle.pair_codec.proofs.lists.has_values.Given as goal

-- all are right where those that are left are
abbrev pub invariant-loop-name : goal.invariant-loop-name
invariant-loop-name l = are_values_for l.kind l.form ≡ are_values_for l.kind l.left

abbrev pub decreases-loop-name : goal.decreases-loop-name
decreases-loop-name l = length l.left
