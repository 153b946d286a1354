use Rattle.std.proofs.Common.{◌≡◌, ◌++◌, take}
use Rattle.std.specs.List.{flat_map}
use Rattle.pair_codec.specs.Serialised.{sizes_bytes}
use Rattle.pair_codec.proofs.writing.put_list_sizes.Given as goal

-- the sizes of the pairs so far stand behind what was there
abbrev pub invariant-loop-at : goal.invariant-loop-at
invariant-loop-at l = l.out ≡ l.initial.out ++ flat_map sizes_bytes (take l.at l.list.pairs)
