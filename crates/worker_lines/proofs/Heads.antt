-- The lengths of bodies, of the model and of the code.
use Rattle.std.specs.Prelude.{◌≡◌, refl}
use Rattle.h1_head.specs.Measures.{seen_length}
use Rattle.h1_head.specs.declared.head.Length.{Length}
use Rattle.h1_head.specs.declared.head.Length.TheVariants as lengths
use Rattle.exchange.specs.Heads.{length_in}

pub length_back : (l : Length) → length_in (seen_length l) ≡ l
length_back lengths.Nothing = refl
length_back (lengths.Exactly n) = refl
length_back lengths.Chunked = refl
length_back lengths.UntilEnd = refl
