-- Names, the tree in which they are looked for, and which of them are listed.
use Rattle.std.specs.Prelude.{◌≡◌, ◌<◌, ℕ, zero, suc, Bool, ◌&&◌, false, List, [], length, Option, None, Some, ◌==◌, ◌%◌, nat_lt, bytes_eq, slice_get, slice_index, slice_index_or, if◌then◌else◌}
use Rattle.std.specs.List.{list_any}
use Rattle.http_header.specs.Token.{lowercase}
use Rattle.h1_model.specs.Fields.{members}
use Rattle.h1_text.specs.declared.names.NamesLeft as next
use Rattle.h1_text.specs.declared.names.NamesLeft.TheVariants as nexts
use Rattle.h1_text.specs.declared.names.Node.{Node}
use Rattle.h1_text.specs.declared.names.NameTree.{NameTree}
use Rattle.h1_text.specs.declared.names.ListedNames.{ListedNames}

-- the byte at a place of a name in lower case, and 0 after its end
abbrev pub byte_at : List ℕ → ℕ → ℕ
byte_at name place = slice_index name place % 128

-- what stands after a node for a name in lower case
abbrev pub next_in : List ℕ → Option Node → next.NamesLeft
next_in name None = nexts.Nothing
next_in name (Some node) = slice_index_or node.next (byte_at name node.place) nexts.Nothing

-- The number of the one name of a tree that a name in lower case may be, where so many steps are taken at most: it depends on that name alone.
abbrev pub number_from : ℕ → List Node → List ℕ → next.NamesLeft → Option ℕ
number_from zero nodes name from = None
number_from (suc n) nodes name nexts.Nothing = None
number_from (suc n) nodes name (nexts.Name k) = Some k
number_from (suc n) nodes name (nexts.Node at) = number_from n nodes name (next_in name (slice_get nodes at))

-- how many steps are taken at most
abbrev pub step_limit : ℕ
step_limit = 128

-- the name of this number is this one, which is in lower case
abbrev pub is_name : List (List ℕ) → List ℕ → ℕ → Bool
is_name names name k = nat_lt k (length names) && bytes_eq (lowercase (slice_index_or names k [])) name

abbrev pub if_named : List (List ℕ) → List ℕ → Option ℕ → Option ℕ
if_named names name None = None
if_named names name (Some k) = if is_name names name k then Some k else None

-- the number under which a name in lower case is found, by some names and a tree of them
abbrev pub found_in : List (List ℕ) → List Node → next.NamesLeft → List ℕ → Option ℕ
found_in names nodes root name = if_named names name (number_from step_limit nodes name root)

-- it is this number
abbrev pub is_number : ℕ → Option ℕ → Bool
is_number k None = false
is_number k (Some n) = k == n

-- a member is found under this number, and a member of one of the values
abbrev pub is_met_by : (List ℕ → Option ℕ) → ℕ → List (List ℕ) → Bool
is_met_by search k ms = list_any (λ m. is_number k (search (lowercase m))) ms

abbrev pub is_met_among : (List ℕ → Option ℕ) → ℕ → List (List ℕ) → Bool
is_met_among search k values = list_any (λ value. is_met_by search k (members value)) values

-- the same, as the code's values say it
abbrev pub number_of : NameTree → List ℕ → Option ℕ
number_of tree name = number_from step_limit tree.nodes.items name tree.root

abbrev pub name_in_tree : NameTree → List ℕ → Option ℕ
name_in_tree tree name = if_named tree.names name (number_of tree name)

abbrev pub is_met : NameTree → ℕ → List (List ℕ) → Bool
is_met tree k ms = is_met_by (name_in_tree tree) k ms

abbrev pub is_met_in : NameTree → ℕ → List (List ℕ) → Bool
is_met_in tree k values = is_met_among (name_in_tree tree) k values

-- marked are exactly those names under whose numbers a member of these values is found
pub record AreMarked (values : List (List ℕ)) (listed : ListedNames) : Type 0 where
  pub each : (k : ℕ) → k < length listed.tree.names → slice_index_or listed.marks.items k false ≡ is_met_in listed.tree k values
  pub count : length listed.marks.items ≡ length listed.tree.names
