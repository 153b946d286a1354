use Rattle.std.proofs.Common.{◌≡◌}
use Rattle.std.specs.Prelude.{length}
use Rattle.std.specs.List.{list_all}
use Rattle.header_maps.specs.Kinds.{is_name_for}
use Rattle.header_maps.specs.Pairs.{Pair}
use Rattle.pair_codec.proofs.lists.has_names.Given as goal

-- all are names where those that are left are
abbrev pub invariant-loop-name : goal.invariant-loop-name
invariant-loop-name l = list_all (λ (f : Pair). is_name_for l.kind f.0) l.form ≡ list_all (λ (f : Pair). is_name_for l.kind f.0) l.left

abbrev pub decreases-loop-name : goal.decreases-loop-name
decreases-loop-name l = length l.left
