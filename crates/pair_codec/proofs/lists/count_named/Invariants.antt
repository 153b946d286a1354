use Rattle.std.proofs.Common.{◌≡◌, ◌≤◌, ◌+◌}
use Rattle.std.specs.Prelude.{length, filter}
use Rattle.http_header.specs.Token.{lowercase}
use Rattle.header_maps.specs.Pairs.{is_named}
use Rattle.pair_codec.proofs.lists.count_named.Given as goal

-- those so far, and those that are left
abbrev pub invariant-loop-field : goal.invariant-loop-field
invariant-loop-field l =
    (length (filter (is_named (lowercase l.name)) l.form) ≡ l.count + length (filter (is_named (lowercase l.name)) l.left))
    × (l.count + length l.left ≤ l.most)

abbrev pub decreases-loop-field : goal.decreases-loop-field
decreases-loop-field l = length l.left
