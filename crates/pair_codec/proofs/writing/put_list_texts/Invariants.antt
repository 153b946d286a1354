use Rattle.std.proofs.Common.{◌≡◌, ◌++◌, take}
use Rattle.std.specs.List.{flat_map}
use Rattle.pair_codec.specs.Serialised.{texts_bytes}
use Rattle.pair_codec.proofs.writing.put_list_texts.Given as goal

-- the texts of the pairs so far stand behind what was there
abbrev pub invariant-loop-at : goal.invariant-loop-at
invariant-loop-at l = l.out ≡ l.initial.out ++ flat_map texts_bytes (take l.at l.list.pairs)
