-- Where a head ends, as the code's values say it.
use Rattle.std.specs.Prelude.{ℕ, ◌≤◌, ⊤}
use Rattle.h1_text.specs.declared.lines.Cut as code
use Rattle.h1_text.specs.declared.lines.Cut.TheVariants as cuts
use Rattle.h1_model.specs.Lines.{Cut, whole, too_large, unfinished}

-- the cut that a value says
abbrev pub seen_cut : code.Cut → Cut
seen_cut (cuts.Whole len lines) = whole len
seen_cut cuts.TooLarge = too_large
seen_cut cuts.Unfinished = unfinished

-- a whole head or section lies within so many bytes
abbrev pub IsCutWithin : ℕ → code.Cut → Type 0
IsCutWithin n (cuts.Whole len lines) = len ≤ n
IsCutWithin n cuts.TooLarge = ⊤
IsCutWithin n cuts.Unfinished = ⊤
