-- ONE STEP AFTER ANOTHER: what becomes of the callouts under way, and what is done next.
use Rattle.std.specs.Prelude.{◌≡◌, ℕ, ◌-◌, ◌==◌, Bool, true, false, List, slice_get, slice_set, Option, None, Some}
use Rattle.std.specs.List.{position}
use Rattle.filter_host.specs.Heard.{Heard, Hears}
use Rattle.gate_io.specs.declared.event.What.{What}
use Rattle.h1_model.specs.Unread.{Part}
use Rattle.callouts.specs.Callouts.{first_line, Coming, reads, fails, nothing, comes_of, line_in, callout_at, on_callout, takes, is_last, AfterRead, goes_on, waits, answers, breaks, after_taken, after_heard, with_reading}
use Rattle.callouts.specs.declared.types.Callout.{Callout}
use Rattle.callouts.specs.declared.types.CallStep.{CallStep}
use Rattle.callouts.specs.declared.types.CallStep.TheVariants as steps

-- the callouts under way after a step, and what is done next, if anything
pub record After : Type 0 where
  pub calls : List Callout
  pub next : Option CallStep

-- this one stands in the place of the one of its id
abbrev pub put_callout : ℕ → Callout → List Callout → List Callout
put_callout id c calls = on_callout id (λ (old : Callout). c) calls

-- ---- something comes of a line

-- The callouts under way by what comes of one: it is to be read, it is to fail, or nothing changes.
abbrev pub after_coming : Callout → Coming → List Callout → After
after_coming c (reads r) calls = record { calls = put_callout c.id (with_reading r c) calls; next = Some (steps.Read c.id) }
after_coming c fails calls = record { calls = calls; next = Some (steps.Fail c.id) }
after_coming c nothing calls = record { calls = calls; next = None }

-- The same by an event, where it is of the line of a callout under way.
abbrev pub after_event_of : Option Callout → What → List Callout → After
after_event_of None what calls = record { calls = calls; next = None }
after_event_of (Some c) what calls = after_coming c (comes_of what c.reader) calls

-- SOMETHING CAME of the line of a callout; where none is under way there, that changes nothing
abbrev pub after_event : What → List Callout → After
after_event what calls = after_event_of (callout_at (line_in what) calls) what calls

-- ---- one part is heard

-- the callout then, and what is done next about it
abbrev pub callout_after : AfterRead → Callout
callout_after (goes_on c) = c
callout_after (waits c) = c
callout_after (answers c) = c
callout_after (breaks c) = c

-- What is done next about the callout of an id.
abbrev pub next_after : ℕ → AfterRead → Option CallStep
next_after id (goes_on c) = Some (steps.Read id)
next_after id (waits c) = None
next_after id (answers c) = Some (steps.Answer id)
next_after id (breaks c) = Some (steps.Fail id)

-- The callouts under way after one part was heard for the callout of an id.
abbrev pub after_read : ℕ → AfterRead → List Callout → After
after_read id a calls = record { calls = put_callout id (callout_after a) calls; next = next_after id a }

-- THE READER OF A CALLOUT IS HEARD, once; where it is not under way, that changes nothing
abbrev pub ReadsOn : ℕ → Option Callout → List Callout → Option CallStep → List Callout → Type 0
ReadsOn id None old next new = (new ≡ old) × (next ≡ None)
ReadsOn id (Some c) old next new =
    (h : Heard) × Hears c.reader h × (new ≡ (after_read id (after_heard h c) old).calls) × (next ≡ (after_read id (after_heard h c) old).next)

-- ---- the same of one callout

-- the callout by what comes of its line, and what is done next about it
abbrev pub callout_by : Coming → Callout → Callout
callout_by (reads r) c = with_reading r c
callout_by fails c = c
callout_by nothing c = c

-- What is done next about the callout of an id, by what came of its line.
abbrev pub next_by : ℕ → Coming → Option CallStep
next_by id (reads r) = Some (steps.Read id)
next_by id fails = Some (steps.Fail id)
next_by id nothing = None

-- what is done next behind a part, with which the response is whole or not
abbrev pub step_by : (is_whole : Bool) → ℕ → CallStep
step_by true id = steps.Answer id
step_by false id = steps.Read id

-- it comes to this by a part that its reader, as it is, handed on
abbrev pub after_own_part : Part → Callout → AfterRead
after_own_part p c = after_taken (is_last p) c (takes p c.answer)

-- what becomes of one by what comes of its line, and by what its reader says
abbrev pub ComesAs : What → Option CallStep → Callout → Callout → Type 0
ComesAs what next old new = (new ≡ callout_by (comes_of what old.reader) old) × (next ≡ next_by old.id (comes_of what old.reader))

-- This became of a callout, and this is done next about it.
abbrev pub IsAfter : Callout → AfterRead → Option CallStep → Callout → Type 0
IsAfter old a next new = (new ≡ callout_after a) × (next ≡ next_after old.id a)

-- What becomes of a callout by one step of its reader.
abbrev pub HearsTo : Option CallStep → Callout → Callout → Type 0
HearsTo next old new = (h : Heard) × Hears old.reader h × IsAfter old (after_heard h old) next new

-- where the callout stands whose line an event is of
abbrev pub place_on : Option ℕ → List Callout → Option ℕ
place_on None calls = None
place_on (Some line) calls = position (λ (c : Callout). c.id == (line - first_line)) calls

-- Where the callout of an event's line stands among those under way, if it does.
abbrev pub place_of : What → List Callout → Option ℕ
place_of what calls = place_on (line_in what) calls

-- the one at a place, from 0, and what becomes of it
abbrev pub AtPlace : (Callout → Callout → Type 0) → ℕ → List Callout → List Callout → Type 0
AtPlace Becomes at old new = (c : Callout) × (d : Callout) × (slice_get old at ≡ Some c) × Becomes c d × (new ≡ slice_set old at d)
