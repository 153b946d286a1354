use Rattle.std.proofs.Common.{◌≡◌, ◌≤◌, ◌+◌}
use Rattle.std.specs.Prelude.{length}
use Rattle.header_maps.specs.Pairs.{plain_count}
use Rattle.pair_codec.proofs.lists.is_few.Given as goal

-- those so far, which are at most 100, and those that are left
abbrev pub invariant-loop-name : goal.invariant-loop-name
invariant-loop-name l = (plain_count l.form ≡ l.count + plain_count l.left) × (l.count ≤ 100)

abbrev pub decreases-loop-name : goal.decreases-loop-name
decreases-loop-name l = length l.left
