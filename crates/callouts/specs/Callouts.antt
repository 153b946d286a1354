-- CALLOUTS UNDER WAY: how they begin, what comes of their lines, and when they end.
use Rattle.std.specs.Prelude.{ℕ, ◌+◌, ◌-◌, ◌*◌, Bool, true, false, not, ◌||◌, List, [], ◌++◌, length, map, filter, nat_lt, nat_le, Option, None, Some, codes, bytes_eq, if◌then◌else◌}
use Rattle.body_buffers.specs.Bodies.{body_limit}
use Rattle.contexts.specs.Keyed.{first_of_number, with_first_changed, without_first}
use Rattle.contexts.specs.declared.parts.CallAnswer.{CallAnswer}
use Rattle.contexts.specs.declared.parts.Request.{Request}
use Rattle.filter_host.specs.Heard.{Heard, hands, halts}
use Rattle.gate_io.specs.declared.event.Side.{Side}
use Rattle.gate_io.specs.declared.event.Side.TheVariants.{Down, Up}
use Rattle.gate_io.specs.declared.event.What.{What}
use Rattle.gate_io.specs.declared.event.What.TheVariants as whats
use Rattle.header_maps.specs.Headers.{Headers}
use Rattle.header_maps.specs.Operations.{no_headers}
use Rattle.header_maps.specs.declared.kind.ListKind.TheVariants.{Plain}
use Rattle.h1_model.specs.Length.{BodyLength, nothing as nothing_follows, exactly, chunked, until_end}
use Rattle.h1_model.specs.Messages.{Stop, rest, over, refusal}
use Rattle.h1_model.specs.Unread.{Part, head_part, interim_part, piece, trailer_part, Reading, new_reading, reading_with_bytes, reading_with_end}
use Rattle.h1_model.specs.Wire.{pseudo_of}
use Rattle.callouts.specs.declared.types.Callout.{Callout}
use Rattle.callouts.specs.declared.types.Fated.{Fated}
use Rattle.callouts.specs.declared.types.Outcome.{Outcome}
use Rattle.callouts.specs.declared.types.Outcome.TheVariants as outcome

-- ---- lines: that of an id, and from which number on a line is one

-- The number of the first line that is no client's: 2^31.
abbrev pub first_line : ℕ
first_line = 2147483648

-- The line of the callout of an id.
abbrev pub line_of : ℕ → ℕ
line_of id = first_line + id

-- A line of this number is a callout's.
abbrev pub is_call_line : ℕ → Bool
is_call_line line = nat_le first_line line

-- ---- bounds

-- At most so many callouts are under way at one time in a worker.
abbrev pub most_under_way : ℕ
most_under_way = 64

-- The greatest id. Its line is 2^32 - 1.
abbrev pub last_id : ℕ
last_id = 2147483647

-- so many more find no room: so many are under way, and this id was drawn last
abbrev pub is_full : (more under_way last : ℕ) → Bool
is_full more under_way last = nat_le most_under_way (under_way + more) || nat_le last_id (last + more)

-- ---- one begins

-- the method that the response answers, of which it matters alone whether it is HEAD
abbrev pub asked_by : Headers → List ℕ
asked_by fields = if bytes_eq (pseudo_of fields (codes ":method")) (codes "HEAD") then codes "HEAD" else codes "GET"

-- the moment so many milliseconds later, at most 2^64 - 1
abbrev pub due_of : (now timeout : ℕ) → ℕ
due_of now timeout = if nat_le (now + timeout * 1000000) 18446744073709551615 then now + timeout * 1000000 else 18446744073709551615

-- What a callout has of its answer before anything of it came: no fields, no body, no trailers.
abbrev pub no_answer : CallAnswer
no_answer = record { fields = no_headers; body = []; trailers = no_headers }

-- A callout that begins now under an id: due after its timeout, with a reader that has read nothing.
abbrev pub begun : (id now : ℕ) → Request → Callout
begun id now q = record {
  id = id;
  vm = q.vm;
  context = q.context;
  due = due_of now q.timeout_ms;
  reader = new_reading (Some (asked_by q.fields));
  answer = no_answer;
}

-- ---- which one

-- Its id, by which it is found.
abbrev pub id_of : Callout → ℕ
id_of c = c.id

-- The callout of an id among those under way, if it is there.
abbrev pub callout_in : ℕ → List Callout → Option Callout
callout_in id calls = first_of_number id_of id calls

-- The callouts under way after a change of the one of an id.
abbrev pub on_callout : ℕ → (Callout → Callout) → List Callout → List Callout
on_callout id f calls = with_first_changed id_of id f calls

-- The callouts under way without the one of an id.
abbrev pub without : ℕ → List Callout → List Callout
without id calls = without_first id_of id calls

-- ---- its end

-- What a callout came to, with whom to tell.
abbrev pub fated : Outcome → Callout → Fated
fated o c = record { call = c.id; vm = c.vm; context = c.context; outcome = o }

-- It came to no answer.
abbrev pub failed : Callout → Fated
failed c = fated outcome.Failed c

-- It was answered, by what was read of it.
abbrev pub answered : Callout → Fated
answered c = fated (outcome.Answered c.answer) c

-- ---- deadlines

-- Its deadline is now or has passed.
abbrev pub is_due : ℕ → Callout → Bool
is_due now c = nat_le c.due now

-- the ids of those that are due, rising
abbrev pub due_at : ℕ → List Callout → List ℕ
due_at now calls = map id_of (filter (is_due now) calls)

-- ---- what comes of a line

-- It goes on to be read; it has failed; or nothing comes of that.
pub data Coming : Type 0 where
  reads : Reading → Coming
  fails : Coming
  nothing : Coming

-- of a text that has ended nothing comes any more
abbrev pub more : List ℕ → Reading → Coming
more bytes r = if r.ended then nothing else reads (reading_with_bytes bytes r)

-- of a text that ends now, where it had not ended
abbrev pub no_more : Reading → Coming
no_more r = if r.ended then nothing else reads (reading_with_end r)

-- What an event of its line means for its reader: only what the server's side does counts.
abbrev pub comes_of : What → Reading → Coming
comes_of (whats.Opened line) r = nothing
comes_of (whats.Bytes line Down bytes) r = nothing
comes_of (whats.Bytes line Up bytes) r = more bytes r
comes_of (whats.End line Down) r = nothing
comes_of (whats.End line Up) r = no_more r
comes_of (whats.Gone line Down) r = nothing
comes_of (whats.Gone line Up) r = fails
comes_of (whats.Joined line) r = nothing
comes_of (whats.Refused line) r = fails
comes_of (whats.Room line side) r = nothing
comes_of whats.Clock r = nothing
comes_of whats.Stop r = nothing

-- the line of an event, if it is of one
abbrev pub line_in : What → Option ℕ
line_in (whats.Opened line) = Some line
line_in (whats.Bytes line side bytes) = Some line
line_in (whats.End line side) = Some line
line_in (whats.Gone line side) = Some line
line_in (whats.Joined line) = Some line
line_in (whats.Refused line) = Some line
line_in (whats.Room line side) = Some line
line_in whats.Clock = None
line_in whats.Stop = None

-- The line of an event, if it is of one, is a callout's.
abbrev pub is_of_call : Option ℕ → Bool
is_of_call None = false
is_of_call (Some line) = is_call_line line

-- the callout whose line it is
abbrev pub callout_at : Option ℕ → List Callout → Option Callout
callout_at None calls = None
callout_at (Some line) calls = callout_in (line - first_line) calls

-- ---- reading

-- After a part there is this of the answer; or its body is too long.
pub data Taken : Type 0 where
  has : CallAnswer → Taken
  too_long : Taken

-- The answer with this body, unless that is longer than a body may be.
abbrev pub longer : List ℕ → CallAnswer → Taken
longer body a = if nat_lt body_limit (length body) then too_long else has (record a { body = body })

-- The answer with one more part. An interim head adds nothing.
abbrev pub takes : Part → CallAnswer → Taken
takes (head_part h) a = has (record a { fields = h.fields })
takes (interim_part h) a = has a
takes (piece bytes last) a = longer (a.body ++ bytes) a
takes (trailer_part fields) a = has (record a { trailers = record { kind = Plain; pairs = fields } })

-- It goes on to be read; it waits for more; it was answered; or it has failed. (No part but the last one uses no bytes.)
pub data AfterRead : Type 0 where
  goes_on : Callout → AfterRead
  waits : Callout → AfterRead
  answers : Callout → AfterRead
  breaks : Callout → AfterRead

-- the response is whole with this part, so that none follows
abbrev pub is_bare : BodyLength → Bool
is_bare nothing_follows = true
is_bare (exactly n) = false
is_bare chunked = false
is_bare until_end = false

-- No part follows this one.
abbrev pub is_last : Part → Bool
is_last (head_part h) = is_bare h.length
is_last (interim_part h) = false
is_last (piece bytes last) = last
is_last (trailer_part fields) = true

-- The callout with a part of its answer: it is answered where the response is whole, and read on otherwise.
abbrev pub with_part : (is_whole : Bool) → Callout → AfterRead
with_part true c = answers c
with_part false c = goes_on c

-- The callout with its answer so far, or broken where the body is too long.
abbrev pub after_taken : (is_whole : Bool) → Callout → Taken → AfterRead
after_taken is_whole c (has a) = with_part is_whole (record c { answer = a })
after_taken is_whole c too_long = breaks c

-- The callout with its reader as it is after something was read.
abbrev pub with_reading : Reading → Callout → Callout
with_reading r c = record c { reader = r }

-- by a part that its reader hands on, and by why there is none
abbrev pub after_part : Part → Reading → Callout → AfterRead
after_part p r c = after_taken (is_last p) (with_reading r c) (takes p c.answer)

-- by why its reader hands nothing on: it needs more bytes, the response was whole, or it is malformed
abbrev pub after_stop : Stop → Reading → Callout → AfterRead
after_stop rest r c = waits (with_reading r c)
after_stop over r c = answers (with_reading r c)
after_stop (refusal number) r c = breaks (with_reading r c)

-- What one step of its reader means for a callout.
abbrev pub after_heard : Heard → Callout → AfterRead
after_heard (hands p r) c = after_part p r c
after_heard (halts why r) c = after_stop why r c
