-- Which members can be names that are looked for, by how they begin and how long they are.
use Rattle.std.specs.Borrow.{Bor}
use Rattle.std.specs.Prelude.{◌≡◌, ◌+◌, ◌*◌, ◌%◌, ◌<◌, ℕ, Bool, ◌&&◌, true, false, List, [], ◌∷◌, length, Option, None, Some, option_copied, slice_index_or, min}
use Rattle.http_header.specs.Token.{lowercase}
use Rattle.h1_text.specs.declared.wanted.Wanted.{Wanted}
use Rattle.h1_text.specs.declared.names.ListedNames.{ListedNames}
use Rattle.h1_text.specs.Members.{rest_members}
use Rattle.h1_text.specs.Names.{byte_at}

-- the first byte, and a comma where there is none
abbrev pub first_of : List ℕ → ℕ
first_of [] = 44
first_of (b ∷ bytes) = b

-- the shape of a name in lower case
abbrev pub shape_of : List ℕ → ℕ
shape_of name = byte_at name 0 % 32 * 32 + min (length name) 31

-- a name begins as these bytes do
abbrev pub begins : Wanted → List ℕ → Bool
begins w bytes = slice_index_or w.firsts (first_of bytes) true

-- a member looks like a name
abbrev pub has : Wanted → List ℕ → Bool
has w m = begins w m && slice_index_or w.shapes (shape_of (lowercase m)) true

-- whatever is this name, in any case of letters, looks like one
abbrev pub CanBe : Wanted → List ℕ → Type 0
CanBe w name = (m : List ℕ) → lowercase m ≡ lowercase name → has w m ≡ true

-- there is a place for each byte, and blanks count as what a name begins with
pub record HasBlanks (w : Wanted) : Type 0 where
  pub bytes : length w.firsts ≡ 256
  pub space : slice_index_or w.firsts 32 true ≡ true
  pub tab : slice_index_or w.firsts 9 true ≡ true

-- the test fails on all that looks like no name
abbrev pub IsLostOn : Wanted → (List ℕ → Bool) → Type 0
IsLostOn w p = (m : List ℕ) → has w m ≡ false → p m ≡ false

-- the next member and those after it
abbrev pub members_from : Option (Bor (List ℕ) × Option (Bor (List ℕ))) → List (List ℕ)
members_from None = []
members_from (Some r) = r.0.now ∷ rest_members (option_copied r.1)

-- how long what is left is, and a comma with it
abbrev pub rest_len : Option (List ℕ) → ℕ
rest_len None = 0
rest_len (Some rest) = length rest + 1

-- it is noted what the names look like that are not marked
abbrev pub AreWanted : ListedNames → Wanted → Type 0
AreWanted listed wanted = (k : ℕ) → k < length listed.tree.names → slice_index_or listed.marks.items k false ≡ false
    → CanBe wanted (slice_index_or listed.tree.names k [])
