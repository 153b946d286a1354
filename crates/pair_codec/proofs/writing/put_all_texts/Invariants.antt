use Rattle.std.proofs.Common.{◌≡◌, ◌++◌, take}
use Rattle.std.specs.List.{flat_map}
use Rattle.pair_codec.specs.Serialised.{texts_bytes}
use Rattle.pair_codec.proofs.writing.put_all_texts.Given as goal

-- the texts of the pairs so far stand behind what was there
abbrev pub invariant-loop-name : goal.invariant-loop-name
invariant-loop-name l = l.out ≡ l.initial.out ++ flat_map texts_bytes (take l.name-index l.pairs)
