-- What the text of one side of a line spells, item by item (RFC 9112, sections 2 to 8).
use Rattle.std.specs.Prelude.{◌≡◌, ℕ, zero, suc, ◌+◌, ◌-◌, Bool, true, false, ◌==◌, List, [], ◌∷◌, length, drop, slice_index, bytes_eq, codes, Option, None, Some, if◌then◌else◌}
use Rattle.header_maps.specs.declared.kind.ListKind.{ListKind}
use Rattle.header_maps.specs.declared.kind.ListKind.TheVariants as kinds
use Rattle.header_maps.specs.Operations.{without}
use Rattle.h1_model.specs.Fields.{Pair, fields_not_listed}
use Rattle.h1_model.specs.Length.{BodyLength, nothing, exactly, chunked, until_end}
use Rattle.h1_model.specs.Lines.{empty_line_bytes, after_empty_lines}
use Rattle.h1_model.specs.Head.{Head, HeadStep, found, not_yet, refused, SpellsStep, SpellsResponse}
use Rattle.h1_model.specs.Chunks as chunks
use Rattle.h1_model.specs.Trailers as trailing

-- An item of a message: a head; one byte of a body; the end of a body, after which no trailers stand; or trailers, with which
-- the body ends. (That a message has no body is told by its head's `length`; no end of its own follows.)
pub data Item : Type 0 where
  request : Head → Item
  interim : Head → Item
  response : Head → Item
  octet : ℕ → Item
  end : Item
  trailers : List Pair → Item

-- an item, and the places in the text at which it begins and ends. Empty lines in front of a head are in no item, nor is the coding
-- in front of a byte or of a trailer section; the end of a chunked body, or its trailers, is the section.
pub record Placed : Type 0 where
  pub item : Item
  pub from : ℕ
  pub to : ℕ

-- where a body goes on: so many bytes are to come; a place in the chunked coding, with the values of the head's Connection fields,
-- which name trailers that are dropped; or all that comes until the line ends
pub data Body : Type 0 where
  counted : ℕ → Body
  coded : (connection : List (List ℕ)) → (place : chunks.Place) → Body
  unbounded : Body

-- what is due at a place: a head; what is left of a body; or nothing, since a response is whole
pub data Due : Type 0 where
  head : Due
  body : Body → Due
  done : Due

-- why no further item comes: the text is a rest that spells no whole item; nothing of it is left unread where it has ended, or
-- a response is whole; or it is refused with this number
pub data Stop : Type 0 where
  rest : Stop
  over : Stop
  refusal : ℕ → Stop

-- what stands at a place: an item that uses up so many bytes, and then this is due; or no further item
pub data Step : Type 0 where
  item : Item → ℕ → Due → Step
  stop : Stop → Step

-- what is due after a head with these Connection values and a body of this length, where `bare` is due after one without
abbrev pub due_behind : Due → List (List ℕ) → BodyLength → Due
due_behind bare connection nothing = bare
due_behind bare connection (exactly n) = body (counted n)
due_behind bare connection chunked = body (coded connection chunks.start)
due_behind bare connection until_end = body unbounded

-- what is due after a whole message: after a request the next one, and nothing after a response
abbrev pub due_next : Option (List ℕ) → Due
due_next None = head
due_next (Some asked) = done

-- after the head of a request
abbrev pub due_after : Head → Due
due_after h = due_behind head h.connection h.length

-- a list of the kind that an interim head has
abbrev pub is_interim : ListKind → Bool
is_interim kinds.Request = false
is_interim kinds.Response = false
is_interim kinds.Interim = true
is_interim kinds.Plain = false

-- a response head; after an interim one the response is still due (RFC 9110, section 15.2)
abbrev pub response_item : Head → ℕ → Step
response_item h used =
    if is_interim h.fields.kind then item (interim h) used head else item (response h) used (due_behind done h.connection h.length)

-- the item that a head is, in a text of requests and in one that answers a request
abbrev pub item_of : Option (List ℕ) → Head → ℕ → Step
item_of None h used = item (request h) used (due_after h)
item_of (Some asked) h used = response_item h used

-- an unfinished head in a text of requests that has ended: only empty lines are nothing unread, anything else is malformed
abbrev pub stop_unfinished : Bool → List ℕ → Stop
stop_unfinished false text = rest
stop_unfinished true text = if length (after_empty_lines text) == 0 then over else refusal 400

-- an unfinished head in a text that has ended, where a response is due: there is no response (502)
abbrev pub stop_unanswered : Bool → Stop
stop_unanswered false = rest
stop_unanswered true = refusal 502

abbrev pub stop_at : Bool → Option (List ℕ) → List ℕ → Stop
stop_at ended None text = stop_unfinished ended text
stop_at ended (Some asked) text = stop_unanswered ended

-- the step that a head's answer is
abbrev pub step_from : Bool → Option (List ℕ) → List ℕ → HeadStep → Step
step_from ended asked text (found h used) = item_of asked h used
step_from ended asked text not_yet = stop (stop_at ended asked text)
step_from ended asked text (refused number) = stop (refusal number)

-- what a text spells where a head is due: that of a request, or that of the response to a request of the method `asked`
abbrev pub SpellsHead : Option (List ℕ) → List ℕ → HeadStep → Type 0
SpellsHead None text step = SpellsStep text step
SpellsHead (Some asked) text step = SpellsResponse (bytes_eq asked (codes "HEAD")) text step

-- ---- bodies

-- what is malformed, or ends too early: 400 of a request, 502 of a response
abbrev pub malformed_status : Option (List ℕ) → Stop
malformed_status None = refusal 400
malformed_status (Some asked) = refusal 502

-- no more of a body has come; where none will come, the message is incomplete (as RFC 9112, section 8 says of bodies; an end within
-- the coding after the last chunk is one too)
abbrev pub stop_short : Bool → Option (List ℕ) → Stop
stop_short false asked = rest
stop_short true asked = malformed_status asked

-- a body of so many bytes (RFC 9112, section 6.2)
abbrev pub counted_step : Bool → Option (List ℕ) → ℕ → List ℕ → Step
counted_step ended asked zero text = item end 0 (due_next asked)
counted_step ended asked (suc n) [] = stop (stop_short ended asked)
counted_step ended asked (suc n) (b ∷ text) = item (octet b) 1 (body (counted n))

-- a body that ends with the line, as a response's may (RFC 9112, section 6.3)
abbrev pub unbounded_step : Bool → Option (List ℕ) → List ℕ → Step
unbounded_step false asked [] = stop rest
unbounded_step true asked [] = item end 0 (due_next asked)
unbounded_step ended asked (b ∷ text) = item (octet b) 1 (body unbounded)

-- The trailers that a message keeps, of those that its section keeps: none that its head's Connection lists (RFC 9110,
-- section 7.6.1); and a request's have no `host`, which is the gateway's to write.
abbrev pub trailers_left : Option (List ℕ) → List (List ℕ) → List Pair → List Pair
trailers_left None connection fields = without (codes "host") (fields_not_listed connection fields)
trailers_left (Some asked) connection fields = fields_not_listed connection fields

-- the end of a chunked body, of which these trailers are left
abbrev pub end_step : Option (List ℕ) → ℕ → List Pair → Step
end_step asked used [] = item end used (due_next asked)
end_step asked used (f ∷ fields) = item (trailers (f ∷ fields)) used (due_next asked)

-- after the last chunk's line (where no data is carried)
abbrev pub section_step : Bool → Option (List ℕ) → List (List ℕ) → trailing.ChunkStep → Step
section_step ended asked connection (trailing.carried run) = stop rest
section_step ended asked connection (trailing.ended fields used) = end_step asked used (trailers_left asked connection fields)
section_step ended asked connection trailing.not_yet = stop (stop_short ended asked)
section_step ended asked connection (trailing.refused number) = stop (malformed_status asked)

-- the chunked coding, where this comes next in it (RFC 9112, section 7.1)
abbrev pub IsCodedStep : Bool → Option (List ℕ) → List (List ℕ) → List ℕ → chunks.Sought → Step → Type 0
IsCodedStep ended asked connection text (chunks.data_at at left) step =
    step ≡ item (octet (slice_index text at)) (at + 1) (body (coded connection (chunks.inside (left - 1))))
IsCodedStep ended asked connection text (chunks.section_at at) step =
    (c : trailing.ChunkStep) × trailing.IsEnd at (drop at text) (trailing.section_cut (drop at text)) c
    × (step ≡ section_step ended asked connection c)
IsCodedStep ended asked connection text chunks.waiting step = step ≡ stop (stop_short ended asked)
IsCodedStep ended asked connection text chunks.malformed step = step ≡ stop (malformed_status asked)

-- what stands at a place in a body
abbrev pub BodyStepsTo : Bool → Option (List ℕ) → Body → List ℕ → Step → Type 0
BodyStepsTo ended asked (counted n) text step = step ≡ counted_step ended asked n text
BodyStepsTo ended asked (coded connection place) text step = IsCodedStep ended asked connection text (chunks.sought place text) step
BodyStepsTo ended asked unbounded text step = step ≡ unbounded_step ended asked text

-- how many bytes of the coding stand in front of what comes next in it
abbrev pub coding_before : chunks.Sought → ℕ
coding_before (chunks.data_at at left) = at
coding_before (chunks.section_at at) = at
coding_before chunks.waiting = 0
coding_before chunks.malformed = 0

abbrev pub body_lead : Body → List ℕ → ℕ
body_lead (counted n) text = 0
body_lead (coded connection place) text = coding_before (chunks.sought place text)
body_lead unbounded text = 0

-- ---- the whole

-- From a place on, where that is due, this step comes. `ended` says that no bytes follow; `asked` is the method that a
-- response answers, and none in a text of requests.
abbrev pub StepsTo : Bool → Option (List ℕ) → Due → List ℕ → Step → Type 0
StepsTo ended asked head text step = (h : HeadStep) × SpellsHead asked text h × (step ≡ step_from ended asked text h)
StepsTo ended asked (body b) text step = BodyStepsTo ended asked b text step
StepsTo ended asked done text step = step ≡ stop over

-- how many bytes stand in front of what is due: the empty lines before a head, or the coding before a byte, the end or trailers
abbrev pub lead_of : Due → List ℕ → ℕ
lead_of head text = empty_line_bytes text
lead_of (body b) text = body_lead b text
lead_of done text = 0

-- from the place `at` of the text on, where that is due, the text spells these items, one after the other, and then stops so
abbrev pub SpellsFrom : List ℕ → Bool → Option (List ℕ) → Due → ℕ → List Placed → Stop → Type 0
SpellsFrom text ended asked due at [] why = StepsTo ended asked due (drop at text) (stop why)
SpellsFrom text ended asked due at (placed ∷ items) why =
    (used : ℕ) × (next : Due) × StepsTo ended asked due (drop at text) (item placed.item used next)
    × (placed.from ≡ at + lead_of due (drop at text)) × (placed.to ≡ at + used)
    × SpellsFrom text ended asked next (at + used) items why

-- A line's text, the pieces that came joined, spells these items up to the first refusal or to a rest.
abbrev pub Messages : List ℕ → Bool → Option (List ℕ) → List Placed → Stop → Type 0
Messages text ended asked items why = SpellsFrom text ended asked head 0 items why
