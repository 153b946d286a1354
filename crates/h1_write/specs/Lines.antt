-- All that is written of a line is read back: requests one after another, and an answer with its interim heads.
use Rattle.std.specs.Prelude.{◌≡◌, ℕ, Bool, true, false, List, [], ◌∷◌, ◌++◌, map, None, Some, codes, bytes_eq}
use Rattle.std.specs.List.{flat_map}
use Rattle.header_maps.specs.declared.kind.ListKind.TheVariants as kinds
use Rattle.h1_model.specs.Framing.{Framing, no_body, OutItem, items_wire}
use Rattle.h1_model.specs.Framing as out
use Rattle.h1_model.specs.Head.{Head}
use Rattle.h1_model.specs.Length.{is_without_body}
use Rattle.h1_model.specs.Messages.{Item, request, response, interim, head, over}
use Rattle.h1_write.specs.Heads.{IsReadable, head_read, connection_read, status_said, frames_body}
use Rattle.h1_write.specs.Requests.{IsReadableRequest, request_read}
use Rattle.h1_write.specs.Round.{Ending, body_items, Suits, length_said, items_read, stop_behind, IsReadAs}

-- a request on its way out: its framing, its head, and the pieces and the end of its body
pub record OutRequest : Type 0 where
  pub framing : Framing
  pub head : Head
  pub pieces : List (List ℕ)
  pub ending : Ending

abbrev pub out_items : OutRequest → List OutItem
out_items q = out.head q.head ∷ body_items q.pieces q.ending

abbrev pub out_wire : OutRequest → List ℕ
out_wire q = items_wire q.framing (out_items q)

abbrev pub in_items : OutRequest → List Item
in_items q = request (request_read q.framing q.head) ∷ items_read None (connection_read q.head) (length_said q.framing) q.pieces q.ending

abbrev pub AreReadable : List OutRequest → Type 0
AreReadable [] = Unit {0}
AreReadable (q ∷ qs) = IsReadableRequest q.framing q.head × Suits q.framing q.pieces q.ending false [] × AreReadable qs

-- REQUESTS that are written one after another are read as the items of each, in order, and nothing else.
abbrev pub RequestLineReadBack : Type 0
RequestLineReadBack =
    (qs : List OutRequest) (ended : Bool) → AreReadable qs → IsReadAs (flat_map out_wire qs) ended None head (flat_map in_items qs) (stop_behind ended None)

abbrev pub AreInterim : List Head → Type 0
AreInterim [] = Unit {0}
AreInterim (g ∷ gs) = IsReadable no_body g × (g.fields.kind ≡ kinds.Interim) × AreInterim gs

abbrev pub interim_out : Head → OutItem
interim_out g = out.interim g

abbrev pub interim_in : List ℕ → Head → Item
interim_in asked g = interim (head_read (bytes_eq asked (codes "HEAD")) no_body g)

abbrev pub response_in : List ℕ → Framing → Head → Item
response_in asked framing h = response (head_read (bytes_eq asked (codes "HEAD")) framing h)

-- AN ANSWER, written with any interim heads in front of it, is read as these heads, the response and its body, and nothing else;
abbrev pub AnswerLineReadBack : Type 0
AnswerLineReadBack =
    (asked : List ℕ) (gs : List Head) (framing : Framing) (h : Head) (pieces : List (List ℕ)) (ending : Ending) (ended : Bool) → AreInterim gs
    → IsReadable framing h → h.fields.kind ≡ kinds.Response → is_without_body (bytes_eq asked (codes "HEAD")) (status_said h.fields) ≡ false
    → frames_body framing ≡ true → Suits framing pieces ending ended []
    → IsReadAs (items_wire framing (map interim_out gs ++ (out.head h ∷ body_items pieces ending))) ended (Some asked) head
    (map (interim_in asked) gs ++ (response_in asked framing h ∷ items_read (Some asked) (connection_read h) (length_said framing) pieces ending)) over

-- and so is one without a body.
abbrev pub BareAnswerLineReadBack : Type 0
BareAnswerLineReadBack =
    (asked : List ℕ) (gs : List Head) (framing : Framing) (h : Head) (ended : Bool) → AreInterim gs → IsReadable framing h
    → h.fields.kind ≡ kinds.Response → is_without_body (bytes_eq asked (codes "HEAD")) (status_said h.fields) ≡ true
    → IsReadAs (items_wire framing (map interim_out gs ++ (out.head h ∷ []))) ended (Some asked) head
    (map (interim_in asked) gs ++ (response_in asked framing h ∷ [])) over
