-- What a world in memory is, as a plain record.
use Rattle.std.specs.Prelude.{◌≡◌, ℕ, ◌==◌, ◌&&◌, ◌⊎◌, min, Bool, true, false, IsTrue, List, [], ◌∷◌, ◌++◌, length, drop, slice_index_or, Option, None, Some, is_none, Result, Ok, Err}
use Rattle.std.proofs.lemmas.Bool.{eqb-true}
use Rattle.gate_io.specs.declared.ends.WorldEnd.{WorldEnd}
use Rattle.gate_io.specs.declared.ends.WorldEnd.TheVariants.{Failed, OutOfMemory}
use Rattle.gate_io.specs.declared.event.Event.{Event}
use Rattle.gate_io.specs.declared.event.Sent.{Sent}
use Rattle.gate_io.specs.declared.event.Side.{Side}
use Rattle.gate_io.specs.declared.event.What.TheVariants.{Stop}
use Rattle.gate_io.specs.declared.passed.Passed.{Passed}
use Rattle.gate_io.specs.declared.passed.Passed.TheVariants.{Asked, Gave, Took}
use Rattle.gate_io.specs.declared.passed.Wants.{Wants}
use Rattle.gate_io.specs.Calls.{risen, IsNext}
use Rattle.gate_io.specs.Events.{Last, Follows, AreInOrder, nothing_given, last_of}
use Rattle.gate_io.specs.Nature.{Nature}
use Rattle.gate_io.specs.Passing.{front, happened}

-- The seed, all that passed, the events that are left, how many bytes of a piece it takes at most (all where None), the
-- numbers from 1 of the calls that are to fail, how many calls counted so far, how many calls of `next` failed, the numbers
-- from 1 of the calls of `send` that are refused memory, and how many calls of `send` counted so far.
pub record MemoryWorld : Type 0 where
  pub seed : List ℕ
  pub trace : List Passed
  pub left : List Event
  pub most : Option ℕ
  pub fails : List ℕ
  pub calls : ℕ
  pub faults : ℕ
  pub refused : List ℕ
  pub sends : ℕ

-- the last event that it gave
abbrev pub last_in : MemoryWorld → Last
last_in w = last_of nothing_given (happened w.trace)

-- its events: those that it gave, and those that are left
abbrev pub events_of : MemoryWorld → List Event
events_of w = happened w.trace ++ w.left

abbrev pub stop_at : ℕ → Event
stop_at now = record { now = now; what = Stop }

-- the next of these events, and Stop at a moment where there is none
abbrev pub next_of : ℕ → List Event → Event
next_of now [] = stop_at now
next_of now (event ∷ events) = event

-- the moment of the last of these events, and 0 where there is none
abbrev pub end_of : List Event → ℕ
end_of events = (last_of nothing_given events).now

-- the k-th of these events, from 0, and behind them Stop at the moment of the last one
abbrev pub script_of : List Event → ℕ → Event
script_of events k = slice_index_or events k (stop_at (end_of events))

-- how many bytes of a piece of n are taken
abbrev pub most_of : Option ℕ → ℕ → ℕ
most_of None n = n
most_of (Some most) n = min most n

-- no member
abbrev pub is_empty : {A : Type 0} → List A → Bool
is_empty [] = true
is_empty (x ∷ xs) = false

abbrev pub nature_of : MemoryWorld → Nature
nature_of w = record {
  seed = w.seed;
  script = λ k. Some (script_of (events_of w) k);
  obeys = false;
  takes_whole = is_none w.most;
  fails_no_call = is_empty w.fails && (w.faults == 0);
}

-- the next call is one of those that are to fail
abbrev pub IsListed : MemoryWorld → Type 0
IsListed w = IsNext w.fails w.calls

-- the next call of `send` is one of those that are refused memory
abbrev pub IsRefused : MemoryWorld → Type 0
IsRefused w = IsNext w.refused w.sends

-- one more call
abbrev pub counted : MemoryWorld → MemoryWorld
counted w = record w { calls = risen w.calls }

-- one more call of `send`
abbrev pub counted_send : MemoryWorld → MemoryWorld
counted_send w = record w { calls = risen w.calls; sends = risen w.sends }

-- it gave its next event
abbrev pub went_on : MemoryWorld → Wants → Event → MemoryWorld
went_on w wants event = record w { trace = w.trace ++ Asked wants ∷ Gave event ∷ []; left = drop 1 w.left; calls = risen w.calls }

-- it took what is noted in these steps
abbrev pub took_more : MemoryWorld → List Passed → MemoryWorld
took_more w steps = record w { trace = w.trace ++ steps; calls = risen w.calls }

-- it took what is noted in these steps of a piece that it was sent
abbrev pub sent_more : MemoryWorld → List Passed → MemoryWorld
sent_more w steps = record w { trace = w.trace ++ steps; calls = risen w.calls; sends = risen w.sends }

-- it failed
abbrev pub failed_once : MemoryWorld → Wants → MemoryWorld
failed_once w wants = record w { trace = w.trace ++ Asked wants ∷ []; calls = risen w.calls; faults = risen w.faults }

-- What a call of `next` does: it fails where its number is listed, and else gives the next event. It is as before, and
-- did not count, where memory ran out.
abbrev pub Answers : MemoryWorld → Wants → Result Event WorldEnd → MemoryWorld → Type 0
Answers old wants (Ok event) new =
    (IsListed old → ⊥) × (event ≡ next_of (last_in old).now old.left) × Follows (last_in old) event × (new ≡ went_on old wants event)
Answers old wants (Err Failed) new = IsListed old × (new ≡ failed_once old wants)
Answers old wants (Err OutOfMemory) new = new ≡ old

-- What a call of another kind does where it is refused: a listed one counts, and one that memory ran out in does not.
-- Nothing else changes.
abbrev pub Refuses : MemoryWorld → MemoryWorld → Type 0
Refuses old new = (IsListed old × (new ≡ counted old)) ⊎ ((IsListed old → ⊥) × (new ≡ old))

-- What a call of `send` does where it is refused: one that is listed, in either list, counts in both rows, and one that
-- memory ran out in counts in none. Nothing else changes.
abbrev pub RefusesPiece : MemoryWorld → MemoryWorld → Type 0
RefusesPiece old new = ((IsListed old ⊎ IsRefused old) × (new ≡ counted_send old)) ⊎ ((IsListed old → ⊥) × (IsRefused old → ⊥) × (new ≡ old))

-- What a call of `send` does: it is refused where its number is listed in either list, and else takes as many bytes as it may.
abbrev pub Offers : {E : Type 0} → MemoryWorld → ℕ → Side → List ℕ → Result ℕ E → MemoryWorld → Type 0
Offers old line side bytes (Ok n) new =
    (IsListed old → ⊥) × (IsRefused old → ⊥) × (n ≡ most_of old.most (length bytes)) × (new ≡ sent_more old (front line side bytes n))
Offers old line side bytes (Err e) new = RefusesPiece old new

-- What a call of `connect`, `close` or `log` does: it is refused where its number is listed, and else takes the thing.
abbrev pub Takes : {T E : Type 0} → MemoryWorld → Sent → Result T E → MemoryWorld → Type 0
Takes old sent (Ok x) new = (IsListed old → ⊥) × (new ≡ took_more old (Took sent ∷ []))
Takes old sent (Err e) new = Refuses old new

-- the last event is the last that passed, and the events that are left may come behind it
pub record IsInStep (last : Last) (trace : List Passed) (left : List Event) : Type 0 where
  pub same : last ≡ last_of nothing_given (happened trace)
  pub order : AreInOrder last left

no_fault : (fails : List ℕ) (n : ℕ) → IsTrue (is_empty fails && (n == 0)) → n ≡ 0
no_fault [] n h = eqb-true n 0 h
no_fault (x ∷ fails) n h = cc

-- a world whose list of failing calls is empty, and of which it is said that it fails no call, counted no fault
pub no_fault_counted : (w : MemoryWorld) → IsTrue (nature_of w).fails_no_call → w.faults ≡ 0
no_fault_counted w h = no_fault w.fails w.faults h
