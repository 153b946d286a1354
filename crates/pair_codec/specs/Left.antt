-- The pairs that a serialised form still has.
use Rattle.std.specs.Prelude.{◌≡◌, ◌≤◌, ◌*◌, true, List, [], Option, None, Some, length, is_some}
use Rattle.header_maps.specs.Pairs.{Pair}
use Rattle.pair_codec.specs.Reading.{texts_in}
use Rattle.pair_codec.specs.declared.serialised.Serialised.TheInside.{Inside}

abbrev pub or_none : Option (List Pair) → List Pair
or_none None = []
or_none (Some pairs) = pairs

-- so many, whose sizes stand there and whose texts stand here
abbrev pub pairs_left : Inside → List Pair
pairs_left a = or_none (texts_in a.count a.sizes.now a.texts.now)

-- they were judged
pub record IsLeft (a : Inside) : Type 0 where
  pub sized : 8 * a.count ≤ length a.sizes.now
  pub read : is_some (texts_in a.count a.sizes.now a.texts.now) ≡ true
