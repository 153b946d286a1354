-- A world in memory: its nature never changes, it keeps to its script, and its last event is the last that passed.
use Rattle.std.proofs.Common.{◌≡◌, ℕ, zero, suc, Bool, false, List, [], ◌∷◌, ◌++◌, length, drop, refl, sym, ◌∙◌, ap, subst, append_assoc, inl, inr, Some, Result, Ok, Err, IfOk, Contains, arith}
use Rattle.std.specs.Prelude.{◌==◌, ◌&&◌, is_none, slice_index_or}
use Rattle.std.proofs.lemmas.List.{append-nil}
use Rattle.gate_io.specs.declared.ends.WorldEnd.{WorldEnd}
use Rattle.gate_io.specs.declared.ends.WorldEnd.TheVariants.{Failed, OutOfMemory}
use Rattle.gate_io.specs.declared.event.Event.{Event}
use Rattle.gate_io.specs.declared.event.Sent.{Sent}
use Rattle.gate_io.specs.declared.event.Side.{Side}
use Rattle.gate_io.specs.declared.passed.Passed.{Passed}
use Rattle.gate_io.specs.declared.passed.Passed.TheVariants.{Asked, Gave, Took}
use Rattle.gate_io.specs.declared.passed.Wants.{Wants}
use Rattle.gate_io.specs.Calls.{risen}
use Rattle.gate_io.specs.Events.{Last, AreInOrder, after_next, given, is_stop, last_of, last_of-append, nothing_given}
use Rattle.gate_io.specs.Given.{ComesNext}
use Rattle.gate_io.specs.MemoryWorld.{MemoryWorld, Answers, Offers, Refuses, RefusesPiece, Takes, IsInStep, stop_at, next_of, end_of, script_of, last_in, is_empty, nature_of, took_more, failed_once, went_on}
use Rattle.gate_io.specs.Nature.{Nature}
use Rattle.gate_io.specs.Passing.{happened, front}
use Rattle.gate_io.specs.Reads.{happened-append, happened-front}

-- the nature of a world with these events
abbrev of_events : MemoryWorld → List Event → Nature
of_events w events = record {
  seed = w.seed;
  script = λ k. Some (script_of events k);
  obeys = false;
  takes_whole = is_none w.most;
  fails_no_call = is_empty w.fails && (w.faults == 0);
}

-- steps that give no event leave what happened as it was
quiet : (trace steps : List Passed) → happened steps ≡ [] → happened (trace ++ steps) ≡ happened trace
quiet trace steps none = happened-append trace steps ∙ ap (λ (es : List Event). happened trace ++ es) none ∙ append-nil (happened trace)

-- what gives no event changes nothing
still : (w : MemoryWorld) (steps : List Passed) → happened steps ≡ [] → nature_of (took_more w steps) ≡ nature_of w
still w steps none = ap (λ (es : List Event). of_events w (es ++ w.left)) (quiet w.trace steps none)

refused : (w v : MemoryWorld) → Refuses w v → nature_of v ≡ nature_of w
refused w v (inl listed) = ap nature_of listed.1
refused w v (inr free) = ap nature_of free.1

refused_piece : (w v : MemoryWorld) → RefusesPiece w v → nature_of v ≡ nature_of w
refused_piece w v (inl listed) = ap nature_of listed.1
refused_piece w v (inr free) = ap nature_of free.2

-- a call that takes something, or is refused
pub nature_taken : {T E : Type 0} (r : Result T E) (w v : MemoryWorld) (sent : Sent) → Takes w sent r v → nature_of v ≡ nature_of w
nature_taken (Ok x) w v sent a = ap nature_of a.1 ∙ still w (Took sent ∷ []) refl
nature_taken (Err e) w v sent a = refused w v a

-- a call that takes the front of a piece, or is refused
pub nature_offered : {E : Type 0} (r : Result ℕ E) (w v : MemoryWorld) (line : ℕ) (side : Side) (bytes : List ℕ) → Offers w line side bytes r v → nature_of v ≡ nature_of w
nature_offered (Ok n) w v line side bytes a = ap nature_of a.3 ∙ still w (front line side bytes n) (happened-front line side bytes n)
nature_offered (Err e) w v line side bytes a = refused_piece w v a

-- a Stop at the moment of the last event changes no script
stop_ends : (events : List Event) (now k : ℕ) → slice_index_or (events ++ stop_at now ∷ []) k (stop_at now) ≡ slice_index_or events k (stop_at now)
stop_ends [] now zero = refl
stop_ends [] now (suc k) = refl
stop_ends (e ∷ events) now zero = refl
stop_ends (e ∷ events) now (suc k) = stop_ends events now k

end_stays : (events : List Event) → end_of (events ++ stop_at (end_of events) ∷ []) ≡ end_of events
end_stays events = ap (λ (l : Last). l.now) (last_of-append nothing_given events (stop_at (end_of events) ∷ []))

script_stays : (events : List Event) (k : ℕ) → script_of (events ++ stop_at (end_of events) ∷ []) k ≡ script_of events k
script_stays events k =
    ap (λ (now : ℕ). slice_index_or (events ++ stop_at (end_of events) ∷ []) k (stop_at now)) (end_stays events) ∙ stop_ends events (end_of events) k

stopped : (w : MemoryWorld) (events : List Event) → of_events w (events ++ stop_at (end_of events) ∷ []) ≡ of_events w events
stopped w events = λ i. record {
  seed = w.seed;
  script = λ k. Some (script_stays events k i);
  obeys = false;
  takes_whole = is_none w.most;
  fails_no_call = is_empty w.fails && (w.faults == 0);
}

-- the events that were given, once another one is
more_happened : (trace : List Passed) (wants : Wants) (event : Event) → happened (trace ++ Asked wants ∷ Gave event ∷ []) ≡ happened trace ++ event ∷ []
more_happened trace wants event = happened-append trace (Asked wants ∷ Gave event ∷ [])

-- all events of a world that has these left, once it gave one of its own
gave_next : (w : MemoryWorld) (wants : Wants) (left : List Event)
    → of_events w (happened (w.trace ++ Asked wants ∷ Gave (next_of (last_in w).now left) ∷ []) ++ drop 1 left) ≡ of_events w (happened w.trace ++ left)
gave_next w wants [] =
    let before = happened w.trace in
    ap (of_events w) (append-nil (happened (w.trace ++ Asked wants ∷ Gave (stop_at (last_in w).now) ∷ [])) ∙ more_happened w.trace wants (stop_at (last_in w).now))
    ∙ stopped w before ∙ ap (of_events w) (sym (append-nil before))
gave_next w wants (event ∷ left) =
    ap (of_events w) (ap (λ (es : List Event). es ++ left) (more_happened w.trace wants event) ∙ append_assoc (happened w.trace) (event ∷ []) left)

is_listed : (fails : List ℕ) (n : ℕ) → Contains fails n → is_empty fails ≡ false
is_listed [] n listed = absurd (omega (arith, listed.1))
is_listed (x ∷ fails) n listed = refl

failed : (w : MemoryWorld) (wants : Wants) → is_empty w.fails ≡ false → nature_of (failed_once w wants) ≡ nature_of w
failed w wants listed =
    let fails : (is_empty w.fails && (risen w.faults == 0)) ≡ (is_empty w.fails && (w.faults == 0)) =
    ap (λ (b : Bool). b && (risen w.faults == 0)) listed ∙ sym (ap (λ (b : Bool). b && (w.faults == 0)) listed) in
    (λ i. record {
      seed = w.seed;
      script = λ k. Some (script_of (happened (w.trace ++ Asked wants ∷ []) ++ w.left) k);
      obeys = false;
      takes_whole = is_none w.most;
      fails_no_call = fails i;
    })
    ∙ still w (Asked wants ∷ []) refl

pub nature_answered : (r : Result Event WorldEnd) (w v : MemoryWorld) (wants : Wants) → Answers w wants r v → nature_of v ≡ nature_of w
nature_answered (Ok event) w v wants a = ap nature_of a.3 ∙ ap (λ (e : Event). nature_of (went_on w wants e)) a.1 ∙ gave_next w wants w.left
nature_answered (Err Failed) w v wants a = ap nature_of a.1 ∙ failed w wants (is_listed w.fails (risen w.calls) a.0)
nature_answered (Err OutOfMemory) w v wants a = ap nature_of a

-- the event behind those that were given
behind : (past left : List Event) (other : Event) → slice_index_or (past ++ left) (length past) other ≡ slice_index_or left 0 other
behind [] left other = refl
behind (e ∷ past) left other = behind past left other

next_in : (past left : List Event) → next_of (end_of past) left ≡ script_of (past ++ left) (length past)
next_in past [] = ap (λ (es : List Event). stop_at (end_of es)) (sym (append-nil past)) ∙ sym (behind past [] (stop_at (end_of (past ++ []))))
next_in past (e ∷ left) = sym (behind past (e ∷ left) (stop_at (end_of (past ++ e ∷ left))))

-- what a call of `next` gives is the next of the script
pub comes_next : (r : Result Event WorldEnd) (w v : MemoryWorld) (wants : Wants) → Answers w wants r v → IfOk r (ComesNext (nature_of w).script (Some w.trace))
comes_next (Ok event) w v wants a = a.1 ∙ next_in (happened w.trace) w.left
comes_next (Err e) w v wants a = tt

-- what passes without an event keeps the last one
pub still_in_step : (last : Last) (trace steps : List Passed) (left : List Event) → IsInStep last trace left → happened steps ≡ [] → IsInStep last (trace ++ steps) left
still_in_step last trace steps left before none = record { same = before.same ∙ sym (ap (last_of nothing_given) (quiet trace steps none)); order = before.order }

-- the last event once another one passed
pub last_passed : (trace : List Passed) (wants : Wants) (event : Event) → last_of nothing_given (happened (trace ++ Asked wants ∷ Gave event ∷ [])) ≡ given event
last_passed trace wants event = ap (last_of nothing_given) (more_happened trace wants event) ∙ last_of-append nothing_given (happened trace) (event ∷ [])

-- what passes without an event keeps the last one given
still_last : (w : MemoryWorld) (steps : List Passed) → happened steps ≡ [] → last_in (took_more w steps) ≡ last_in w
still_last w steps none = ap (last_of nothing_given) (quiet w.trace steps none)

refused_last : (w v : MemoryWorld) → Refuses w v → last_in v ≡ last_in w
refused_last w v (inl listed) = ap last_in listed.1
refused_last w v (inr free) = ap last_in free.1

refused_piece_last : (w v : MemoryWorld) → RefusesPiece w v → last_in v ≡ last_in w
refused_piece_last w v (inl listed) = ap last_in listed.1
refused_piece_last w v (inr free) = ap last_in free.2

pub last_taken : {T E : Type 0} (r : Result T E) (w v : MemoryWorld) (sent : Sent) → Takes w sent r v → last_in v ≡ last_in w
last_taken (Ok x) w v sent a = ap last_in a.1 ∙ still_last w (Took sent ∷ []) refl
last_taken (Err e) w v sent a = refused_last w v a

pub last_offered : {E : Type 0} (r : Result ℕ E) (w v : MemoryWorld) (line : ℕ) (side : Side) (bytes : List ℕ) → Offers w line side bytes r v → last_in v ≡ last_in w
last_offered (Ok n) w v line side bytes a = ap last_in a.3 ∙ still_last w (front line side bytes n) (happened-front line side bytes n)
last_offered (Err e) w v line side bytes a = refused_piece_last w v a

pub last_answered : (r : Result Event WorldEnd) (w v : MemoryWorld) (wants : Wants) → Answers w wants r v → last_in v ≡ after_next (last_in w) r
last_answered (Ok event) w v wants a = ap last_in a.3 ∙ last_passed w.trace wants event
last_answered (Err Failed) w v wants a = ap last_in a.1 ∙ still_last w (Asked wants ∷ []) refl
last_answered (Err OutOfMemory) w v wants a = ap last_in a

-- events in order stay so once the next of them is given
rest_in_order : (last : Last) (left : List Event) → AreInOrder last left → AreInOrder (given (next_of last.now left)) (drop 1 left)
rest_in_order last [] order = tt
rest_in_order last (event ∷ left) order = order.1

-- a world that gave its next event
pub gave_in_step : (last : Last) (trace : List Passed) (left : List Event) (wants : Wants) (event kept : Event) (stopped : Bool) → IsInStep last trace left
    → event ≡ next_of last.now left → kept ≡ next_of last.now left → stopped ≡ is_stop event.what
    → IsInStep (record { now = event.now; stopped = stopped }) ((trace ++ Asked wants ∷ []) ++ Gave kept ∷ []) (drop 1 left)
gave_in_step last trace left wants event kept stopped before event_is kept_is stop_is =
    let now_is : record { now = event.now; stopped = stopped } ≡ given event = ap (λ (b : Bool). record { now = event.now; stopped = b }) stop_is in
    record {
      same = now_is ∙ ap given (event_is ∙ sym kept_is)
          ∙ sym (ap (λ (steps : List Passed). last_of nothing_given (happened steps)) (append_assoc trace (Asked wants ∷ []) (Gave kept ∷ [])) ∙ last_passed trace wants kept);
      order = subst (λ (l : Last). AreInOrder l (drop 1 left)) (sym (now_is ∙ ap given event_is)) (rest_in_order last left before.order);
    }
