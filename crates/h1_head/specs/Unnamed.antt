-- The fields that a list of members does not name.
use Rattle.std.specs.Prelude.{ℕ, not, List, filter, bytes_eq}
use Rattle.std.specs.List.{list_any}
use Rattle.http_header.specs.Token.{lowercase}
use Rattle.h1_model.specs.Fields.{Pair}

-- those of some fields, with names in lower case, that none of the members names, in any case of letters
abbrev pub unnamed : List (List ℕ) → List Pair → List Pair
unnamed members fields = filter (λ (f : Pair). not (list_any (λ m. bytes_eq (lowercase m) f.0) members)) fields
