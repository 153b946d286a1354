-- What the calls of filters make of the list of a request.
use Rattle.std.specs.Prelude.{◌≡◌, ◌≤◌, ℕ, true, List, [], ◌∷◌, length, Some, Ok}
use Rattle.std.specs.List.{list_all}
use Rattle.abi_maps.specs.Maps.{added_to, replaced_in, removed_from, set_from}
use Rattle.header_maps.specs.Headers.{Headers}
use Rattle.header_maps.specs.Kept.{byte_limit, is_short}
use Rattle.header_maps.specs.Pairs.{Pair}
use Rattle.h1_model.specs.Head.{Head}
use Rattle.h1_model.specs.Target.{absolute}
use Rattle.law_lines.specs.Requests.{IsJudged}
use Rattle.pair_codec.specs.Reading.{pairs_in}
use Rattle.law_read_back.specs.Examples.{asked_head, made_fields}
use Rattle.law_read_back.specs.Sent.{IsRequestList}

-- A call of a filter makes this list of that one: a field is put after the others, one is replaced, those of a name are removed, or all are set. (A filter
-- hands over no name and no value of more bytes than its memory has, which are 16,777,216 at most.)
pub data Changes (l m : Headers) : Type 0 where
  adds : (name value : List ℕ) → length value ≤ byte_limit → added_to name value l ≡ Ok m → Changes l m
  replaces : (name value : List ℕ) → length value ≤ byte_limit → replaced_in name value l ≡ Ok m → Changes l m
  removes : (name : List ℕ) → removed_from name l ≡ Ok m → Changes l m
  sets : (bytes : List ℕ) (pairs : List Pair) → pairs_in bytes ≡ Some pairs → list_all is_short pairs ≡ true → set_from bytes l ≡ Ok m → Changes l m

-- any calls, one after the other, by way of these lists
abbrev pub ChangeAll : Headers → List Headers → Headers → Type 0
ChangeAll l [] m = m ≡ l
ChangeAll l (k ∷ ks) m = Changes l k × ChangeAll k ks m

-- WHATEVER FILTERS CALL, the list of a request stays one
abbrev pub FiltersKeepLists : Type 0
FiltersKeepLists = (l m : Headers) (ks : List Headers) → IsRequestList l → ChangeAll l ks m → IsRequestList m

-- AND IT IS ONE where its head was judged, whose target was received in another than the absolute form
abbrev pub HeadsHaveLists : Type 0
HeadsHaveLists = (h : Head) → IsJudged h → (h.form ≡ Some absolute → ⊥) → IsRequestList h.fields

-- worked: another path and one field more
pub record ListExample : Type 0 where
  pub first : IsRequestList asked_head.fields
  pub path : Headers
  pub changed : ChangeAll asked_head.fields (path ∷ made_fields ∷ []) made_fields
