-- What a reader makes of the bytes of one request, and of a front of them.
use Rattle.std.specs.Prelude.{◌≡◌, ◌≤◌, suc, ℕ, Bool, true, false, not, List, [], ◌∷◌, ◌++◌, map, None, codes, bytes_eq}
use Rattle.std.specs.List.{list_all}
use Rattle.header_maps.specs.Kept.{IsHeaders}
use Rattle.header_maps.specs.declared.kind.ListKind.TheVariants as kinds
use Rattle.h1_write.specs.Heads.{IsTail, IsInLimit}
use Rattle.h1_write.specs.Lines.{OutRequest, out_wire, in_items}
use Rattle.h1_write.specs.Requests.{IsReadableRequest, is_for_request}
use Rattle.h1_write.specs.Round.{Ending, body_bytes, Suits, stop_behind, IsReadAs}
use Rattle.h1_model.specs.Fields.{Pair}
use Rattle.h1_model.specs.Head.{Head}
use Rattle.h1_model.specs.Framing.{Framing, no_body, by_length, by_chunks, by_close}
use Rattle.h1_model.specs.Messages.{Item, request, interim, response, octet, end, trailers, Placed, Stop, head, Messages}
use Rattle.h1_model.specs.ReadingLaws.{item_at}

-- how many requests begin among items that are read
abbrev pub requests_begun : List Item → ℕ
requests_begun [] = 0
requests_begun (request h ∷ items) = suc (requests_begun items)
requests_begun (interim h ∷ items) = requests_begun items
requests_begun (response h ∷ items) = requests_begun items
requests_begun (octet b ∷ items) = requests_begun items
requests_begun (end ∷ items) = requests_begun items
requests_begun (trailers fields ∷ items) = requests_begun items

-- the bytes of bodies among them, in order
abbrev pub octets_in : List Item → List ℕ
octets_in [] = []
octets_in (request h ∷ items) = octets_in items
octets_in (interim h ∷ items) = octets_in items
octets_in (response h ∷ items) = octets_in items
octets_in (octet b ∷ items) = b ∷ octets_in items
octets_in (end ∷ items) = octets_in items
octets_in (trailers fields ∷ items) = octets_in items

-- of a body in these pieces, the bytes that its framing carries: none, where there is no body
abbrev pub carried_by : Framing → List (List ℕ) → Ending → List ℕ
carried_by no_body pieces ending = []
carried_by (by_length n) pieces ending = body_bytes pieces ending
carried_by by_chunks pieces ending = body_bytes pieces ending
carried_by by_close pieces ending = body_bytes pieces ending

-- READ AS ONE REQUEST, of bytes that are a front of those of a request: whatever a reader of requests makes of them, whether or not more may come, are a front
-- of the items of that request, so that at most one request begins in them. And where they are all its bytes, it reads exactly those items, which use up all of
-- them. (`one` is so of every request, whatever it holds, by what its items are: it says nothing of the bytes, and is there to be read beside `front`.)
pub record IsReadAsOne (q : OutRequest) (bytes : List ℕ) : Type 0 where
  pub front : (ended : Bool) (items : List Placed) (why : Stop) → Messages bytes ended None items why → (behind : List Item) × (map item_at items ++ behind ≡ in_items q)
  pub few : (ended : Bool) (items : List Placed) (why : Stop) → Messages bytes ended None items why → requests_begun (map item_at items) ≤ 1
  pub whole : bytes ≡ out_wire q → (ended : Bool) → IsReadAs bytes ended None head (in_items q) (stop_behind ended None)
  pub one : requests_begun (in_items q) ≡ 1
  pub carried : octets_in (in_items q) ≡ carried_by q.framing q.pieces q.ending

-- NEVER READ AS TWO, of bytes that are a front of those of a request: whatever a reader of requests makes of them, whether or not more may come, is a front of
-- the items of that request, or nothing at all, as where it refuses the head; so at most one request begins in it. (`one` again says nothing of the bytes.)
pub record IsNeverTwo (q : OutRequest) (bytes : List ℕ) : Type 0 where
  pub front : (ended : Bool) (items : List Placed) (why : Stop) → Messages bytes ended None items why → (behind : List Item) × (map item_at items ++ behind ≡ in_items q)
  pub few : (ended : Bool) (items : List Placed) (why : Stop) → Messages bytes ended None items why → requests_begun (map item_at items) ≤ 1
  pub one : requests_begun (in_items q) ≡ 1

-- A head as it goes out, of which this alone is known: its list is one of a request, and the fields after it and its framing are such as a gateway writes.
-- Its path may be no target, and it may have more than a reader has room for.
pub record IsWritten (framing : Framing) (h : Head) : Type 0 where
  pub kind : h.fields.kind ≡ kinds.Request
  pub list : IsHeaders h.fields
  pub tail : IsTail h.tail.pairs
  pub no_host : list_all (λ (f : Pair). not (bytes_eq f.0 (codes "host"))) h.tail.pairs ≡ true
  pub framed : is_for_request framing ≡ true
  pub told : IsInLimit framing

-- ---- the laws, of a front of a request's bytes

-- where a reader takes the head in
abbrev pub ReadAsOne : Type 0
ReadAsOne = (q : OutRequest) (sent more : List ℕ) → sent ++ more ≡ out_wire q → IsReadableRequest q.framing q.head → Suits q.framing q.pieces q.ending false [] → IsReadAsOne q sent

-- and whatever its path is and however long it is
abbrev pub NeverTwo : Type 0
NeverTwo = (q : OutRequest) (sent more : List ℕ) → sent ++ more ≡ out_wire q → IsWritten q.framing q.head → Suits q.framing q.pieces q.ending false [] → IsNeverTwo q sent
