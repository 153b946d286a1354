-- The world of a script: its nature never changes, and what it keeps is that of its trace.
use Rattle.std.proofs.Common.{◌≡◌, ℕ, zero, suc, true, false, List, [], ◌∷◌, ◌++◌, length, drop, refl, sym, ◌∙◌, ap, subst, append_assoc, Option, None, Some}
use Rattle.std.specs.Prelude.{slice_index_or}
use Rattle.std.proofs.lemmas.List.{append-nil}
use Rattle.gate_io.specs.declared.event.Event.{Event}
use Rattle.gate_io.specs.declared.event.Sent.{Sent}
use Rattle.gate_io.specs.declared.event.What.{What}
use Rattle.gate_io.specs.declared.passed.Passed.{Passed}
use Rattle.gate_io.specs.declared.passed.Passed.TheVariants.{Asked, Gave, Took, Short}
use Rattle.gate_io.specs.declared.passed.Wants.{Wants}
use Rattle.gate_io.specs.Events.{Last, AreInOrder, given, is_stop, last_of, last_of-append, nothing_given}
use Rattle.gate_io.specs.MemoryWorld.{stop_at, next_of, end_of, script_of}
use Rattle.gate_io.specs.Nature.{Nature}
use Rattle.gate_io.specs.Passing.{happened, received}
use Rattle.gate_io.specs.Reads.{happened-append, received-append}
use Rattle.gate_io.specs.Scripts.{first_of, gives_its_events}
use Rattle.replay_script.specs.declared.command.Command.{Command}
use Rattle.replay_script.specs.declared.command.Command.TheVariants.{On, At}
use Rattle.replay_script.specs.declared.command.Command.TheVariants.{Stop as StopLine}
use Rattle.replay_script.specs.Scripts.{events_from, events_of, happens, moment_behind}
use Rattle.replay_script.specs.Commands.{what_of}
use Rattle.replay_script.specs.ScriptWorld.{Playing, IsInStep, fresh, in_memory, last, nature, zero_seed, taken_behind, taken_since, took_more, went_on}
use Rattle.replay_script.specs.Laws.{StopsOnce, PlaysItsScript}

-- the nature of a world with these events
abbrev of_events : List Event → Nature
of_events events = record { seed = zero_seed; script = λ k. Some (script_of events k); obeys = false; takes_whole = true; fails_no_call = true }

-- a Stop at the moment of the last event changes no script
stop_ends : (events : List Event) (now k : ℕ) → slice_index_or (events ++ stop_at now ∷ []) k (stop_at now) ≡ slice_index_or events k (stop_at now)
stop_ends [] now zero = refl
stop_ends [] now (suc k) = refl
stop_ends (e ∷ events) now zero = refl
stop_ends (e ∷ events) now (suc k) = stop_ends events now k

end_stays : (events : List Event) → end_of (events ++ stop_at (end_of events) ∷ []) ≡ end_of events
end_stays events = ap (λ (l : Last). l.now) (last_of-append nothing_given events (stop_at (end_of events) ∷ []))

script_stays : (events : List Event) (k : ℕ) → script_of (events ++ stop_at (end_of events) ∷ []) k ≡ script_of events k
script_stays events k =
    ap (λ (now : ℕ). slice_index_or (events ++ stop_at (end_of events) ∷ []) k (stop_at now)) (end_stays events) ∙ stop_ends events (end_of events) k

stopped : (events : List Event) → of_events (events ++ stop_at (end_of events) ∷ []) ≡ of_events events
stopped events = λ i. record { seed = zero_seed; script = λ k. Some (script_stays events k i); obeys = false; takes_whole = true; fails_no_call = true }

-- the events that were given, once another one is, and once something was taken
more_happened : (trace : List Passed) (wants : Wants) (event : Event) → happened (trace ++ Asked wants ∷ Gave event ∷ []) ≡ happened trace ++ event ∷ []
more_happened trace wants event = happened-append trace (Asked wants ∷ Gave event ∷ [])

same_happened : (trace : List Passed) (sent : Sent) → happened (trace ++ Took sent ∷ []) ≡ happened trace
same_happened trace sent = happened-append trace (Took sent ∷ []) ∙ append-nil (happened trace)

-- all events of a world that has these left, once it gave the next of them
gave_next : (trace : List Passed) (left : List Event) (wants : Wants)
    → of_events (happened (trace ++ Asked wants ∷ Gave (next_of (end_of (happened trace)) left) ∷ []) ++ drop 1 left) ≡ of_events (happened trace ++ left)
gave_next trace [] wants =
    let before = happened trace in
    ap of_events (append-nil (happened (trace ++ Asked wants ∷ Gave (stop_at (end_of before)) ∷ [])) ∙ more_happened trace wants (stop_at (end_of before)))
    ∙ stopped before ∙ ap of_events (sym (append-nil before))
gave_next trace (event ∷ left) wants =
    ap of_events (ap (λ (es : List Event). es ++ left) (more_happened trace wants event) ∙ append_assoc (happened trace) (event ∷ []) left)

pub nature_gave : (w : Playing) (wants : Wants) (event : Event) → event ≡ next_of (last w).now w.left → nature (went_on w wants event) ≡ nature w
nature_gave w wants event is = ap (λ (e : Event). nature (went_on w wants e)) is ∙ gave_next w.trace w.left wants

pub nature_took : (w : Playing) (sent : Sent) → nature (took_more w (Took sent ∷ [])) ≡ nature w
nature_took w sent = ap (λ (es : List Event). of_events (es ++ w.left)) (same_happened w.trace sent)

pub last_gave : (w : Playing) (wants : Wants) (event : Event) → last (went_on w wants event) ≡ given event
last_gave w wants event = ap (last_of nothing_given) (more_happened w.trace wants event) ∙ last_of-append nothing_given (happened w.trace) (event ∷ [])

pub last_took : (w : Playing) (sent : Sent) → last (took_more w (Took sent ∷ [])) ≡ last w
last_took w sent = ap (last_of nothing_given) (same_happened w.trace sent)

-- what was taken after the last event, over two parts
taken_behind-append : (before : List Sent) (a b : List Passed) → taken_behind before (a ++ b) ≡ taken_behind (taken_behind before a) b
taken_behind-append before [] b = refl
taken_behind-append before (Asked wants ∷ a) b = taken_behind-append before a b
taken_behind-append before (Gave event ∷ a) b = taken_behind-append [] a b
taken_behind-append before (Took sent ∷ a) b = taken_behind-append (before ++ sent ∷ []) a b
taken_behind-append before (Short line side ∷ a) b = taken_behind-append before a b

-- a world that took something
pub took_in_step : (now : ℕ) (taken more : List Sent) (trace steps : List Passed) (left : List Event) (sent : Sent) → IsInStep now taken trace left
    → more ≡ taken ++ sent ∷ [] → steps ≡ trace ++ Took sent ∷ [] → IsInStep now more steps left
took_in_step now taken more trace steps left sent before more_is steps_is =
    let same : happened steps ≡ happened trace = ap happened steps_is ∙ same_happened trace sent in
    record {
      moment = before.moment ∙ ap (λ (es : List Event). (last_of nothing_given es).now) (sym same);
      order = subst (λ (es : List Event). AreInOrder (last_of nothing_given es) left) (sym same) before.order;
      kept = more_is ∙ ap (λ (s : List Sent). s ++ sent ∷ []) before.kept ∙ sym (ap taken_since steps_is ∙ taken_behind-append [] trace (Took sent ∷ []));
    }

-- events in order stay so once the next of them is given
rest_in_order : (l : Last) (left : List Event) → AreInOrder l left → AreInOrder (given (next_of l.now left)) (drop 1 left)
rest_in_order l [] order = tt
rest_in_order l (event ∷ left) order = order.1

-- a world that gave its next event
pub gave_in_step : (now : ℕ) (taken none : List Sent) (trace steps : List Passed) (left rest : List Event) (wants : Wants) (event : Event) → IsInStep now taken trace left
    → event ≡ next_of now left → rest ≡ drop 1 left → none ≡ [] → steps ≡ trace ++ Asked wants ∷ Gave event ∷ [] → IsInStep event.now none steps rest
gave_in_step now taken none trace steps left rest wants event before event_is rest_is none_is steps_is =
    let l : Last = last_of nothing_given (happened trace) in
    let now_last : last_of nothing_given (happened steps) ≡ given event =
    ap (λ (s : List Passed). last_of nothing_given (happened s)) steps_is ∙ last_gave (record { trace = trace; left = left }) wants event in
    let is : event ≡ next_of (last_of nothing_given (happened trace)).now left = event_is ∙ ap (λ (n : ℕ). next_of n left) before.moment in
    let order : AreInOrder (given event) (drop 1 left) =
    subst (λ (e : Event). AreInOrder (given e) (drop 1 left)) (sym is) (rest_in_order (last_of nothing_given (happened trace)) left before.order) in
    record {
      moment = sym (ap (λ (m : Last). m.now) now_last);
      order = subst (λ (es : List Event). AreInOrder (last_of nothing_given (happened steps)) es) (sym rest_is) (subst (λ (m : Last). AreInOrder m (drop 1 left)) (sym now_last) order);
      kept = none_is ∙ sym (ap taken_since steps_is ∙ taken_behind-append [] trace (Asked wants ∷ Gave event ∷ []));
    }

-- ---- whole scripts

stops_more : (event : Event) (events : List Event) → is_stop event.what ≡ false → StopsOnce events → StopsOnce (event ∷ events)
stops_more event [] goes once = absurd once
stops_more event (next ∷ events) goes once = (goes, once)

-- what happens at a line is no Stop
abbrev GoesOn : Option What → Type 0
GoesOn None = Unit {0}
GoesOn (Some what) = is_stop what ≡ false

goes_on : (c : Command) → GoesOn (what_of c)
goes_on (On worker) = tt
goes_on (At moment) = tt
goes_on StopLine = tt
goes_on c = refl

stops_before : (now : ℕ) (what : Option What) (events : List Event) → GoesOn what → StopsOnce events → StopsOnce (happens now what ++ events)
stops_before now None events goes once = once
stops_before now (Some what) events goes once = stops_more (record { now = now; what = what }) events goes once

stops_once : (now : ℕ) (commands : List Command) → StopsOnce (events_from now commands)
stops_once now [] = refl
stops_once now (c ∷ commands) = stops_before now (what_of c) (events_from (moment_behind now c) commands) (goes_on c) (stops_once (moment_behind now c) commands)

-- two lists of which each ends at its first Stop, where the one is some first events of the other
same_events : (xs es : List Event) (now : ℕ) → StopsOnce xs → StopsOnce es → es ≡ first_of xs now (length es) → es ≡ xs
same_events [] es now X E is = absurd X
same_events xs [] now X E is = absurd E
same_events (x ∷ []) (e ∷ []) now X E is = is
same_events (x ∷ []) (e ∷ (f ∷ es)) now X E is =
    let one : e ≡ x = cc in
    let stops : is_stop e.what ≡ true = ap (λ (y : Event). is_stop y.what) one ∙ ap is_stop X in
    absurd (let no : true ≡ false = sym stops ∙ E.0 in cc)
same_events (x ∷ (y ∷ xs)) (e ∷ []) now X E is =
    let one : e ≡ x = cc in
    let stops : is_stop x.what ≡ true = ap (λ (z : Event). is_stop z.what) (sym one) ∙ ap is_stop E in
    absurd (let no : true ≡ false = sym stops ∙ X.0 in cc)
same_events (x ∷ (y ∷ xs)) (e ∷ (f ∷ es)) now X E is =
    let one : e ≡ x = cc in
    let more : f ∷ es ≡ first_of (y ∷ xs) now (length (f ∷ es)) = cc in
    λ i. one i ∷ same_events (y ∷ xs) (f ∷ es) now X.1 E.1 more i

gave_all : (commands : List Command) (w : Playing) → nature w ≡ nature (fresh (events_of commands)) → StopsOnce (happened w.trace) → happened w.trace ≡ events_of commands
gave_all commands w same once =
    same_events (events_of commands) (happened w.trace) (end_of (events_of commands)) (stops_once 0 commands) once
    (gives_its_events.fresh (in_memory (fresh (events_of commands))) (in_memory w) refl same)

-- where no event is given, what is taken is taken after the last one
taken_all : (before : List Sent) (steps : List Passed) → happened steps ≡ [] → taken_behind before steps ≡ before ++ received steps
taken_all before [] none = sym (append-nil before)
taken_all before (Asked wants ∷ steps) none = taken_all before steps none
taken_all before (Gave event ∷ steps) none = absurd (let no : event ∷ happened steps ≡ [] = none in cc)
taken_all before (Took sent ∷ steps) none = taken_all (before ++ sent ∷ []) steps none ∙ append_assoc before (sent ∷ []) (received steps)
taken_all before (Short line side ∷ steps) none = taken_all before steps none

pub plays_its_script : PlaysItsScript
plays_its_script = record {
  ends = stops_once 0;
  whole = gave_all;
  share = λ trace steps wants event none. taken_behind-append [] trace (Asked wants ∷ Gave event ∷ steps) ∙ taken_all [] steps none;
  joined = λ trace steps wants event. received-append trace (Asked wants ∷ Gave event ∷ steps);
}
