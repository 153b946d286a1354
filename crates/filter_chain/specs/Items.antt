-- Items, and how many bytes they are.
use Rattle.std.specs.Prelude.{ℕ, ◌+◌, Bool, true, false, List, [], ◌∷◌, ◌++◌, length, Option, None, Some}
use Rattle.filter_chain.specs.declared.item.ChainItem.{ChainItem}
use Rattle.filter_chain.specs.declared.item.ChainItem.TheVariants.{Head, Piece, Trailers}
use Rattle.filter_chain.specs.declared.item.Held.{Held}
use Rattle.filter_chain.specs.declared.item.Held.TheVariants as held

abbrev pub bytes_in : ChainItem → List ℕ
bytes_in (Head end) = []
bytes_in (Piece bytes end) = bytes
bytes_in Trailers = []

abbrev pub item_bytes : List ChainItem → List ℕ
item_bytes [] = []
item_bytes (i ∷ items) = bytes_in i ++ item_bytes items

abbrev pub size : List ChainItem → ℕ
size [] = 0
size (i ∷ items) = length (bytes_in i) + size items

-- what is held, as a piece: an empty one without end is none
abbrev pub piece_of : List ℕ → Bool → List ChainItem
piece_of [] false = []
piece_of [] true = Piece [] true ∷ []
piece_of (b ∷ bytes) end = Piece (b ∷ bytes) end ∷ []

-- what a stage holds, as items, where these are the bytes
abbrev pub held_items : Held → List ℕ → List ChainItem
held_items held.Nothing bytes = []
held_items (held.Head end) bytes = Head end ∷ []
held_items (held.Body end) bytes = piece_of bytes end
held_items (held.Trailers false) bytes = Trailers ∷ []
held_items (held.Trailers true) bytes = piece_of bytes false ++ Trailers ∷ []

-- it holds bytes
abbrev pub holds_bytes : Held → Bool
holds_bytes held.Nothing = false
holds_bytes (held.Head end) = false
holds_bytes (held.Body end) = true
holds_bytes (held.Trailers body) = body

-- it may be asked
abbrev pub is_free : Held → Bool
is_free held.Nothing = true
is_free (held.Head end) = false
is_free (held.Body end) = true
is_free (held.Trailers body) = false

-- how many bytes the first has, where it is a piece
abbrev pub first_of : List ChainItem → Option ℕ
first_of [] = None
first_of (Head end ∷ items) = None
first_of (Piece bytes end ∷ items) = Some (length bytes)
first_of (Trailers ∷ items) = None
