-- What it is that a name was seen.
use Rattle.std.specs.Prelude.{ℕ, List, Contains}

-- the name is one of these
unfoldable pub IsSeen : List (List ℕ) → List ℕ → Type 0
IsSeen names q = Contains names q
