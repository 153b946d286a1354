-- Where more of a size line changes nothing.
use Rattle.std.specs.Prelude.{◌≡◌, ◌≤◌, ◌+◌, ℕ, Bool, ◌&&◌, true, List, ◌++◌, length}
use Rattle.std.specs.List.{list_all}
use Rattle.h1_model.specs.Chunks.{is_before_end, is_no_line_end, size_open, size_step, size_line_limit, Place, sought, waiting}

-- a byte at which no size line ends, and for which none is refused within its extensions: any but CR and LF
abbrev pub extends : ℕ → Bool
extends b = is_before_end b && is_no_line_end b

-- a size line has come as far as into its extensions: with more of them it is the front of one, as long as there is room for its CR LF
abbrev pub IsExtending : List ℕ → Type 0
IsExtending line = (more : List ℕ) → list_all extends more ≡ true → length line + length more + 2 ≤ size_line_limit → size_step (line ++ more) ≡ size_open

-- the same of a text from a place on: nothing is next, whatever more of the extensions comes
abbrev pub IsWithinSize : Place → List ℕ → Type 0
IsWithinSize place text = (more : List ℕ) → list_all extends more ≡ true → length text + length more + 2 ≤ size_line_limit → sought place (text ++ more) ≡ waiting
