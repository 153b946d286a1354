-- The lengths of bodies, of the model and of the code; and lines of fields, one list after another.
use Rattle.std.specs.Prelude.{◌≡◌, ◌++◌, List, refl}
use Rattle.std.proofs.lemmas.Grind.{flat_map-append}
use Rattle.h1_model.specs.Fields.{Pair}
use Rattle.h1_model.specs.Wire.{field_line, field_lines}
use Rattle.h1_head.specs.Measures.{seen_length}
use Rattle.h1_head.specs.declared.head.Length.{Length}
use Rattle.h1_head.specs.declared.head.Length.TheVariants as lengths
use Rattle.exchange.specs.Heads.{length_in, length_of}

pub length_back : (l : Length) → length_in (seen_length l) ≡ l
length_back lengths.Nothing = refl
length_back (lengths.Exactly n) = refl
length_back lengths.Chunked = refl
length_back lengths.UntilEnd = refl

pub length_seen : (l : Length) → length_of l ≡ seen_length l
length_seen lengths.Nothing = refl
length_seen (lengths.Exactly n) = refl
length_seen lengths.Chunked = refl
length_seen lengths.UntilEnd = refl

pub lines_join : (a b : List Pair) → field_lines (a ++ b) ≡ field_lines a ++ field_lines b
lines_join a b = flat_map-append field_line a b
