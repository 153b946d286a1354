-- CALLOUTS BY THEMSELVES: how one begins, and what becomes of those under way by events and moments.
use Rattle.std.specs.Prelude.{◌≡◌, ℕ, ◌+◌, Bool, true, false, not, List, [], ◌∷◌, ◌++◌, map, filter, slice_get, Option, None, Some}
use Rattle.std.specs.List.{remove}
use Rattle.contexts.specs.declared.parts.Request.{Request}
use Rattle.filter_host.specs.Heard.{Heard, Hears}
use Rattle.gate_io.specs.declared.event.What.{What}
use Rattle.callouts.specs.Callouts.{begun, is_due, failed, answered, without, callout_at, line_in, comes_of, Coming, reads, fails, nothing, AfterRead, goes_on, waits, answers, breaks, after_heard, with_reading}
use Rattle.callouts.specs.Steps.{put_callout, IsAfter}
use Rattle.callouts.specs.declared.types.Callout.{Callout}
use Rattle.callouts.specs.declared.types.CallStep.{CallStep}
use Rattle.callouts.specs.declared.types.CallStep.TheVariants as steps
use Rattle.callouts.specs.declared.types.Fated.{Fated}

-- those under way, and the id that was drawn last
pub record UnderWay : Type 0 where
  pub calls : List Callout
  pub last : ℕ

-- None is under way, and no id was drawn.
abbrev pub none_under_way : UnderWay
none_under_way = record { calls = []; last = 0 }

-- ONE BEGINS, under the next id
abbrev pub with_begun : Request → ℕ → UnderWay → UnderWay
with_begun q now u = record { calls = u.calls ++ begun (u.last + 1) now q ∷ []; last = u.last + 1 }

-- ---- by a moment: those that are due fail, ids rising, and the others stay

-- Its deadline has not come.
abbrev pub is_not_due : ℕ → Callout → Bool
is_not_due now c = not (is_due now c)

-- What those that are due come to, ids rising: no answer.
abbrev pub due_fates : ℕ → List Callout → List Fated
due_fates now calls = map failed (filter (is_due now) calls)

-- Those that are not due.
abbrev pub without_due : ℕ → List Callout → List Callout
without_due now calls = filter (is_not_due now) calls

-- ---- by an event

-- A callout comes to this by what its reader says, which goes on to be heard behind each part but the last.
abbrev pub GoesOn : AfterRead → AfterRead → List Heard → (Callout → Type 0) → Type 0
GoesOn (goes_on c) a heard later = later c
GoesOn (waits c) a heard later = (heard ≡ []) × (a ≡ waits c)
GoesOn (answers c) a heard later = (heard ≡ []) × (a ≡ answers c)
GoesOn (breaks c) a heard later = (heard ≡ []) × (a ≡ breaks c)

-- By these readings, one after another, a callout comes to its last state in this event.
abbrev pub ReadsThrough : List Heard → Callout → AfterRead → Type 0
ReadsThrough [] c a = ⊥
ReadsThrough (h ∷ heard) c a = Hears c.reader h × GoesOn (after_heard h c) a heard (λ d. ReadsThrough heard d a)

-- it comes to this by what comes of its line
abbrev pub BringsTo : Coming → Callout → AfterRead → Type 0
BringsTo (reads r) c a = (heard : List Heard) × ReadsThrough heard (with_reading r c) a
BringsTo fails c a = a ≡ breaks c
BringsTo nothing c a = a ≡ waits c

-- what became of it, if it is under way no more; and the callouts then
abbrev pub fates_of : AfterRead → List Fated
fates_of (goes_on c) = []
fates_of (waits c) = []
fates_of (answers c) = answered c ∷ []
fates_of (breaks c) = failed c ∷ []

-- The callouts under way after the readings of one: it stays, or it is taken out.
abbrev pub calls_after : ℕ → AfterRead → List Callout → List Callout
calls_after id (goes_on c) calls = put_callout id c calls
calls_after id (waits c) calls = put_callout id c calls
calls_after id (answers c) calls = without id calls
calls_after id (breaks c) calls = without id calls

-- AN EVENT: by it these are under way no more, if it is of the line of one that is; each of them is told of once, since it is taken out
abbrev pub EndsBy : Option Callout → What → List Callout → List Fated → List Callout → Type 0
EndsBy None what old fates new = (fates ≡ []) × (new ≡ old)
EndsBy (Some c) what old fates new = (a : AfterRead) × BringsTo (comes_of what c.reader) c a × (fates ≡ fates_of a) × (new ≡ calls_after c.id a old)

-- An event, over the callouts under way; no id is drawn by it.
abbrev pub Happens : What → UnderWay → List Fated → UnderWay → Type 0
Happens what old fates new = EndsBy (callout_at (line_in what) old.calls) what old.calls fates new.calls × (new.last ≡ old.last)

-- ---- the same step by step

-- what its readings so far, each of which goes on, lead to
abbrev pub Goes : AfterRead → (Callout → Type 0) → Type 0
Goes (goes_on c) later = later c
Goes (waits c) later = ⊥
Goes (answers c) later = ⊥
Goes (breaks c) later = ⊥

-- By these readings, each of which goes on, a callout becomes this one.
abbrev pub LeadsTo : List Heard → Callout → Callout → Type 0
LeadsTo [] c d = d ≡ c
LeadsTo (h ∷ heard) c d = Hears c.reader h × Goes (after_heard h c) (λ e. LeadsTo heard e d)

-- a callout keeps its id on the way
abbrev pub Led : Callout → Callout → Type 0
Led c d = (heard : List Heard) × LeadsTo heard c d × (d.id ≡ c.id)

-- it is to be read on
abbrev pub is_read : Option CallStep → Bool
is_read None = false
is_read (Some (steps.Comes what)) = false
is_read (Some (steps.Read id)) = true
is_read (Some (steps.Fail id)) = false
is_read (Some (steps.Answer id)) = false

-- its readings lead to this, and this is what is done next
abbrev pub ReadsOut : Callout → Option CallStep → Callout → Type 0
ReadsOut old next new = (heard : List Heard) × (a : AfterRead) × ReadsThrough heard old a × IsAfter old a next new

abbrev pub ComesThrough : What → Option CallStep → Callout → Callout → Type 0
ComesThrough what next old new = (a : AfterRead) × BringsTo (comes_of what old.reader) old a × IsAfter old a next new

-- the one at a place is taken out where it has failed or was answered
abbrev pub EndsWith : CallStep → ℕ → List Callout → List Fated → List Callout → Type 0
EndsWith (steps.Comes what) at old fates new = (fates ≡ []) × (new ≡ old)
EndsWith (steps.Read id) at old fates new = (fates ≡ []) × (new ≡ old)
EndsWith (steps.Fail id) at old fates new = (c : Callout) × (slice_get old at ≡ Some c) × (fates ≡ failed c ∷ []) × (new ≡ remove old at)
EndsWith (steps.Answer id) at old fates new = (c : Callout) × (slice_get old at ≡ Some c) × (fates ≡ answered c ∷ []) × (new ≡ remove old at)

abbrev pub EndsAt : Option CallStep → ℕ → List Callout → List Fated → List Callout → Type 0
EndsAt None at old fates new = (fates ≡ []) × (new ≡ old)
EndsAt (Some step) at old fates new = EndsWith step at old fates new
