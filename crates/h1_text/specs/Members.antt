-- The members of a list, one after another.
use Rattle.std.specs.Prelude.{ℕ, Bool, ◌==◌, List, [], Option, None, Some}
use Rattle.h1_model.specs.Fields.{members}

-- the test that a byte is a comma
abbrev pub is_comma : ℕ → Bool
is_comma b = b == 44

-- the members after a comma, if there was one
abbrev pub rest_members : Option (List ℕ) → List (List ℕ)
rest_members None = []
rest_members (Some rest) = members rest
