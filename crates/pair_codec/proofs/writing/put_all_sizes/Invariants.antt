use Rattle.std.proofs.Common.{◌≡◌, ◌++◌, take}
use Rattle.std.specs.List.{flat_map}
use Rattle.pair_codec.specs.Serialised.{sizes_bytes}
use Rattle.pair_codec.proofs.writing.put_all_sizes.Given as goal

-- the sizes of the pairs so far stand behind what was there
abbrev pub invariant-loop-name : goal.invariant-loop-name
invariant-loop-name l = l.out ≡ l.initial.out ++ flat_map sizes_bytes (take l.name-index l.pairs)
