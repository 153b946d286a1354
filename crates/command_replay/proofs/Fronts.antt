-- What the world of a script gave so far are the first of the script's events, and each has its worker.
use Rattle.std.proofs.Common.{◌≡◌, ◌≤◌, ℕ, ◌+◌, List, [], ◌∷◌, ◌++◌, length, map, take, drop, Option, None, Some, refl, sym, ap, ◌∙◌, arith, length-append, length-take-le}
use Rattle.std.proofs.lemmas.List.{append-nil, take-append-drop}
use Rattle.gate_io.specs.declared.event.Event.{Event}
use Rattle.gate_io.specs.declared.event.What.{What}
use Rattle.gate_io.specs.MemoryWorld.{end_of}
use Rattle.gate_io.specs.Passing.{happened}
use Rattle.gate_io.specs.Scripts.{first_of, gives_its_events}
use Rattle.replay_script.specs.declared.command.Command.{Command}
use Rattle.replay_script.specs.Commands.{what_of}
use Rattle.replay_script.specs.ScriptWorld.{Playing, fresh, in_memory, nature}
use Rattle.replay_script.specs.Scripts.{events_from, events_of, happens, moment_behind, worker_behind, worker_of, workers_from, workers_of}
use Rattle.command_replay.specs.Laws.{EachHasItsWorker}
use Rattle.command_replay.specs.Replay.{Placed, place_all, placed, placed_of}

-- the first of these events, and more
pub record Goes (events past : List Event) : Type 0 where
  pub more : List Event
  pub is : events ≡ past ++ more

front_of : (events past : List Event) (now : ℕ) → length past ≤ length events → past ≡ first_of events now (length past) → Goes events past
front_of events [] now low all = record { more = events; is = refl }
front_of [] (e ∷ past) now low all = absurd (omega (arith, low))
front_of (x ∷ events) (e ∷ past) now low all =
    let one : e ≡ x = cc in
    let rest : past ≡ first_of events now (length past) = cc in
    let far = front_of events past now (omega (arith, low)) rest in
    record { more = far.more; is = λ i. sym one i ∷ far.is i }

-- a world of the script, which gave no more than its events
pub goes : (commands : List Command) (w : Playing) → nature w ≡ nature (fresh (events_of commands)) → length (happened w.trace) ≤ length (events_of commands) → Goes (events_of commands) (happened w.trace)
goes commands w same low =
    front_of (events_of commands) (happened w.trace) (end_of (events_of commands)) low
    (gives_its_events.fresh (in_memory (fresh (events_of commands))) (in_memory w) refl same)

-- one that gave as many gave all of them
pub gave_all : (commands : List Command) (w : Playing) → nature w ≡ nature (fresh (events_of commands)) → length (happened w.trace) ≡ length (events_of commands) → happened w.trace ≡ events_of commands
gave_all commands w same count =
    let far = goes commands w same (omega (arith, count)) in
    let both : length (events_of commands) ≡ length (happened w.trace) + length far.more = ap length far.is ∙ length-append (happened w.trace) far.more in
    none_left (events_of commands) (happened w.trace) far.more far.is (omega (arith, both, count))
  where
    none_left : (events past more : List Event) → events ≡ past ++ more → length more ≡ 0 → past ≡ events
    none_left events past [] is none = sym (is ∙ append-nil past)
    none_left events past (e ∷ more) is none = absurd (omega (arith, none))

-- ---- workers and events

one_each : (who now : ℕ) (what : Option What) → length (worker_of who what) ≡ length (happens now what)
one_each who now None = refl
one_each who now (Some what) = refl

each_from : (who now : ℕ) (commands : List Command) → length (workers_from who commands) ≡ length (events_from now commands)
each_from who now [] = refl
each_from who now (c ∷ commands) =
    let some = one_each who now (what_of c) in
    let later = each_from (worker_behind who c) (moment_behind now c) commands in
    let workers = length-append (worker_of who (what_of c)) (workers_from (worker_behind who c) commands) in
    let events = length-append (happens now (what_of c)) (events_from (moment_behind now c) commands) in
    omega (arith, some, later, workers, events)

-- each event has its worker
pub each_has_its_worker : (commands : List Command) → length (workers_of commands) ≡ length (events_of commands)
each_has_its_worker commands = each_from 1 0 commands

placed_events : (ws : List ℕ) (es : List Event) → length ws ≡ length es → map (λ (p : Placed). p.event) (place_all ws es) ≡ es
placed_events [] [] e = refl
placed_events [] (x ∷ es) e = absurd (omega (arith, e))
placed_events (w ∷ ws) [] e = absurd (omega (arith, e))
placed_events (w ∷ ws) (x ∷ es) e = ap (λ (xs : List Event). x ∷ xs) (placed_events ws es (omega (arith, e)))

placed_workers : (ws : List ℕ) (es : List Event) → length ws ≡ length es → map (λ (p : Placed). p.who) (place_all ws es) ≡ ws
placed_workers [] [] e = refl
placed_workers [] (x ∷ es) e = absurd (omega (arith, e))
placed_workers (w ∷ ws) [] e = absurd (omega (arith, e))
placed_workers (w ∷ ws) (x ∷ es) e = ap (λ (ns : List ℕ). w ∷ ns) (placed_workers ws es (omega (arith, e)))

pub all_placed : (commands : List Command) → EachHasItsWorker commands
all_placed commands = record {
  events = placed_events (workers_of commands) (events_of commands) (each_has_its_worker commands);
  workers = placed_workers (workers_of commands) (events_of commands) (each_has_its_worker commands);
}

pub place_both : (ws vs : List ℕ) (es fs : List Event) → length ws ≡ length es → place_all (ws ++ vs) (es ++ fs) ≡ place_all ws es ++ place_all vs fs
place_both [] vs [] fs e = refl
place_both [] vs (x ∷ es) fs e = absurd (omega (arith, e))
place_both (w ∷ ws) vs [] fs e = absurd (omega (arith, e))
place_both (w ∷ ws) vs (x ∷ es) fs e = ap (λ (ps : List Placed). placed w x ∷ ps) (place_both ws vs es fs (omega (arith, e)))

-- some first events at their workers, and the others
pub placed_front : (commands : List Command) (i : ℕ) (past more : List Event) → events_of commands ≡ past ++ more → length past ≡ i → i ≤ length (workers_of commands)
    → placed_of commands ≡ place_all (take i (workers_of commands)) past ++ place_all (drop i (workers_of commands)) more
placed_front commands i past more is count low =
    let whose = workers_of commands in
    let long : length (take i whose) ≡ i = length-take-le i whose low in
    ap (λ (es : List Event). place_all whose es) is
    ∙ ap (λ (ws : List ℕ). place_all ws (past ++ more)) (sym (take-append-drop i whose))
    ∙ place_both (take i whose) (drop i whose) past more (long ∙ sym count)
