-- THE FATE of a callout, by what passed: the first event or moment that decides. It is told by the whole text that came of its line so far, and not
-- by what a worker keeps.
use Rattle.std.specs.Prelude.{◌≡◌, ℕ, ◌==◌, Bool, true, false, not, List, [], ◌∷◌, ◌++◌, length, nat_lt, nat_le, Some, if◌then◌else◌}
use Rattle.body_buffers.specs.Bodies.{body_limit}
use Rattle.contexts.specs.declared.parts.CallAnswer.{CallAnswer}
use Rattle.gate_io.specs.Events.{is_stop}
use Rattle.gate_io.specs.declared.event.Event.{Event}
use Rattle.gate_io.specs.declared.event.Side.TheVariants.{Down, Up}
use Rattle.gate_io.specs.declared.event.What.{What}
use Rattle.gate_io.specs.declared.event.What.TheVariants as whats
use Rattle.header_maps.specs.Headers.{Headers}
use Rattle.header_maps.specs.Operations.{no_headers}
use Rattle.header_maps.specs.declared.kind.ListKind.TheVariants.{Plain}
use Rattle.h1_model.specs.Messages.{Stop, rest, over, refusal, head}
use Rattle.h1_model.specs.Unread.{Part, head_part, interim_part, piece, trailer_part, Unread}

-- ---- what a text says of a response

-- the final head; all bytes of the body; the trailers
abbrev pub head_in : List Part → Headers
head_in [] = no_headers
head_in (head_part h ∷ parts) = h.fields
head_in (interim_part h ∷ parts) = head_in parts
head_in (piece bytes last ∷ parts) = head_in parts
head_in (trailer_part fields ∷ parts) = head_in parts

-- All bytes of the body, joined.
abbrev pub body_in : List Part → List ℕ
body_in [] = []
body_in (head_part h ∷ parts) = body_in parts
body_in (interim_part h ∷ parts) = body_in parts
body_in (piece bytes last ∷ parts) = bytes ++ body_in parts
body_in (trailer_part fields ∷ parts) = body_in parts

-- The trailers, if any came.
abbrev pub trailers_in : List Part → Headers
trailers_in [] = no_headers
trailers_in (head_part h ∷ parts) = trailers_in parts
trailers_in (interim_part h ∷ parts) = trailers_in parts
trailers_in (piece bytes last ∷ parts) = trailers_in parts
trailers_in (trailer_part fields ∷ parts) = record { kind = Plain; pairs = fields }

-- The answer that these parts make.
abbrev pub answer_in : List Part → CallAnswer
answer_in parts = record { fields = head_in parts; body = body_in parts; trailers = trailers_in parts }

-- it says nothing whole yet; it says this response; or it says none, and never will
pub data Verdict : Type 0 where
  unfinished : Verdict
  whole : CallAnswer → Verdict
  broken : Verdict

-- What the parts say, by why there are no more of them.
abbrev pub verdict_by : List Part → Stop → Verdict
verdict_by parts rest = unfinished
verdict_by parts over = whole (answer_in parts)
verdict_by parts (refusal number) = broken

-- The same, but a body that is too long is no answer.
abbrev pub verdict_of : List Part → Stop → Verdict
verdict_of parts why = if nat_lt body_limit (length (body_in parts)) then broken else verdict_by parts why

-- THE TEXT SAYS SO, where a request of this method was sent
abbrev pub Says : (method : List ℕ) → (ended : Bool) → List ℕ → Verdict → Type 0
Says method ended text v = (parts : List Part) × (why : Stop) × Unread text ended (Some method) head 0 parts why × (v ≡ verdict_of parts why)

-- ---- the fate

-- What becomes of a callout: nothing yet, an answer, or none.
pub data Fate : Type 0 where
  pending : Fate
  answered : CallAnswer → Fate
  failed : Fate

-- what is known of a callout when an event comes: its line, its method, its deadline, and the text that came of its line so far
pub record Known : Type 0 where
  pub line : ℕ
  pub method : List ℕ
  pub due : ℕ
  pub text : List ℕ

-- What is known with more bytes of its line.
abbrev pub with_text : List ℕ → Known → Known
with_text bytes k = record k { text = k.text ++ bytes }

-- By a verdict the fate is decided, or it is that of what passes later.
abbrev pub DecidedBy : Verdict → Fate → Type 0 → Type 0
DecidedBy unfinished fate later = later
DecidedBy (whole a) fate later = fate ≡ answered a
DecidedBy broken fate later = fate ≡ failed

-- By the whole text so far: the fate is what it says, or that of what passes later.
abbrev pub ByText : Known → (ended : Bool) → List ℕ → Fate → Type 0 → Type 0
ByText k ended bytes fate later = (v : Verdict) × Says k.method ended (k.text ++ bytes) v × DecidedBy v fate later

-- where a test holds, and where not
abbrev pub When : Bool → Type 0 → Type 0 → Type 0
When true a b = a
When false a b = b

-- by what an event of its line is
abbrev pub ByEvent : What → Known → Fate → (Known → Type 0) → Type 0
ByEvent (whats.Bytes line Up bytes) k fate later = When (line == k.line) (ByText k false bytes fate (later (with_text bytes k))) (later k)
ByEvent (whats.End line Up) k fate later = When (line == k.line) (ByText k true [] fate (later k)) (later k)
ByEvent (whats.Gone line Up) k fate later = When (line == k.line) (fate ≡ failed) (later k)
ByEvent (whats.Refused line) k fate later = When (line == k.line) (fate ≡ failed) (later k)
ByEvent (whats.Opened line) k fate later = later k
ByEvent (whats.Bytes line Down bytes) k fate later = later k
ByEvent (whats.End line Down) k fate later = later k
ByEvent (whats.Gone line Down) k fate later = later k
ByEvent (whats.Joined line) k fate later = later k
ByEvent (whats.Room line side) k fate later = later k
ByEvent whats.Clock k fate later = later k
ByEvent whats.Stop k fate later = later k

-- THE FATE, by the events after the one at which it began: at each of them its deadline is looked at first. (Nothing more happens after Stop.)
abbrev pub IsFate : Known → List Event → Fate → Type 0
IsFate k [] fate = fate ≡ pending
IsFate k (e ∷ es) fate =
    When (is_stop e.what) (fate ≡ pending)
    (When (nat_le k.due e.now) (fate ≡ failed) (ByEvent e.what k fate (λ l. IsFate l es fate)))
