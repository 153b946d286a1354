-- A script of one worker is one run of it.
use Rattle.std.proofs.Common.{◌≡◌, ◌≤◌, ℕ, suc, ◌-◌, List, [], ◌∷◌, ◌++◌, length, map, refl, ap, sym, ◌∙◌, subst, arith, get_or-set_same, length-set}
use Rattle.std.specs.Prelude.{All, slice_set}
use Rattle.std.proofs.lemmas.List.{map-append}
use Rattle.filter_host.specs.Course.{ends, Goes, calls_in}
use Rattle.gate_io.specs.declared.event.Event.{Event}
use Rattle.gate_io.specs.declared.event.Sent.{Sent}
use Rattle.worker_meaning.proofs.Folding.{goes_first}
use Rattle.worker_meaning.specs.Meaning.{Run, first_turn, meaning, means, run}
use Rattle.send_queue.proofs.Offers.{solid-append}
use Rattle.send_queue.specs.Delivery.{solid}
use Rattle.send_queue.specs.Turns.{all_sent}
use Rattle.replay_script.specs.Prints.{Told, tell, told}
use Rattle.replay_script.specs.Scripts.{events_of, workers_of}
use Rattle.store_model.specs.Made.{Made, called, measured}
use Rattle.store_model.specs.Sequential.{Stores, Performs, measured_after, performs_joined, stores_after}
use Rattle.worker_model.proofs.Alone.{goes_once}
use Rattle.worker_model.specs.Steps.{Both}
use Rattle.streams_model.specs.Turn.{turn}
use Rattle.command_replay.specs.Laws.{ScriptsOfOneAreRuns}
use Rattle.command_replay.specs.Replay.{Placed, Plays, Setup, first_worker, first_workers, for_worker, placed_of, plan_for, state_at, state_of, stores_for}
use Rattle.command_replay.proofs.Fronts.{all_placed}
use Rattle.command_replay.proofs.Meant.{count_of, first_at}

-- calls change no worker
same_who : (calls : List Made) (s t : Stores) → Performs s calls t → t.who ≡ s.who
same_who [] s t h = ap (λ (x : Stores). x.who) h
same_who (called m ∷ ms) s t h = same_who ms (stores_after s m.vm m.call) t h.1
same_who (measured m ∷ ms) s t h = same_who ms (measured_after s m.vm m.ask) t h.1

same_stores : (who : ℕ) (s : Stores) → s.who ≡ who → for_worker who s ≡ s
same_stores who s e = λ i. record s { who = sym e i }

-- two turns of one worker send what both send
sent_both : (who : ℕ) (a b : List Sent) → tell who (solid (a ++ b)) ≡ tell who (solid a) ++ tell who (solid b)
sent_both who a b = ap (tell who) (solid-append a b) ∙ map-append (told who) (solid a) (solid b)

abbrev AreOfOne : List Placed → Type 0
AreOfOne [] = Unit {0}
AreOfOne (p ∷ events) = (p.who ≡ 1) × AreOfOne events

one_placed : (events : List Placed) (whose : List ℕ) → map (λ (p : Placed). p.who) events ≡ whose → All (λ (who : ℕ). who ≡ 1) whose → AreOfOne events
one_placed [] whose is all = tt
one_placed (p ∷ events) whose is all =
    let here = subst (All (λ (who : ℕ). who ≡ 1)) (sym is) all in
    (here 0 0 (omega arith), one_placed events (map (λ (x : Placed). x.who) events) refl (λ k d low. here (suc k) d (omega (arith, low))))

module _ {H : Type 0} (setup : Setup H) where
  -- what events that are all of worker 1 come to
  record Ran (state : Both H) (s : Stores) (events : List Event) (sent : List Told) (t : Stores) : Type 0 where
    pub ran : Run H
    pub goes : Goes Performs s (means setup.calling (plan_for setup) state events) (ends ran) t
    pub sent_is : sent ≡ tell 1 (solid (all_sent ran.turns))

  none_ran : (state : Both H) (s : Stores) (sent : List Told) (t : Stores) → sent ≡ [] → t ≡ s → Ran state s [] sent t
  unfolding means
  none_ran state s sent t none same = record { ran = run state []; goes = record { met = []; reaches = refl; performed = same }; sent_is = none }

  runs_alone : (states : List (Both H)) (s : Stores) (events : List Placed) (sent : List Told) (after : List (Both H)) (t : Stores) → 1 ≤ length states → AreOfOne events → s.who ≡ 1
      → Plays setup states s events sent after t → Ran (state_at setup states 1) s (map (λ (p : Placed). p.event) events) sent t
  runs_alone states s [] sent after t some one who plays = none_ran (state_at setup states 1) s sent t plays.0 plays.2
  runs_alone states s (p ∷ events) sent after t some one who plays =
      let end = plays.0 in
      let mid = plays.1 in
      let goes : Goes Performs s (turn setup.calling (plan_for setup) (state_at setup states 1) p.event) (ends end) mid =
      subst (λ (x : Stores). Goes Performs x (turn setup.calling (plan_for setup) (state_at setup states 1) p.event) (ends end) mid) (same_stores 1 s who)
      (subst (λ (w : ℕ). Goes Performs (for_worker w s) (turn setup.calling (plan_for setup) (state_at setup states w) p.event) (ends end) mid) one.0 plays.3) in
      let mid_who : mid.who ≡ 1 = same_who (calls_in goes.met) s mid goes.performed ∙ who in
      let later : Plays setup (slice_set states 0 end.state) mid events plays.2 after t =
      subst (λ (w : ℕ). Plays setup (slice_set states (w - 1) end.state) mid events plays.2 after t) one.0 plays.4 in
      let count = length-set states 0 end.state in
      let far = runs_alone (slice_set states 0 end.state) mid events plays.2 after t (omega (arith, some, count)) one.1 mid_who later in
      let state : state_at setup (slice_set states 0 end.state) 1 ≡ end.state = get_or-set_same states 0 end.state (first_worker setup 1).state (omega (arith, some)) in
      let es = map (λ (x : Placed). x.event) events in
      let more : Goes Performs mid (means setup.calling (plan_for setup) end.state es) (ends far.ran) t =
      subst (λ (b : Both H). Goes Performs mid (means setup.calling (plan_for setup) b es) (ends far.ran) t) state far.goes in
      record {
        ran = first_turn p.event end far.ran;
        goes = goes_first setup.calling Performs performs_joined (plan_for setup) (state_at setup states 1) p.event es s mid t end far.ran goes more;
        sent_is =
            plays.5
            ∙ ap (λ (w : ℕ). tell w (solid end.sent) ++ plays.2) one.0
            ∙ ap (λ (l : List Told). tell 1 (solid end.sent) ++ l) far.sent_is
            ∙ sym (sent_both 1 end.sent (all_sent far.ran.turns));
      }

pub scripts_of_one_are_runs : (H : Type 0) → ScriptsOfOneAreRuns H
scripts_of_one_are_runs H setup commands sent some all r =
    let n = setup.config.workers in
    let states = map state_of (first_workers setup n) in
    let s = stores_for (length setup.config.vms) in
    let count = count_of setup n in
    let far = runs_alone setup states s (placed_of commands) sent r.after r.stores (omega (arith, some, count)) (one_placed (placed_of commands) (workers_of commands) (all_placed commands).workers all) refl r.plays in
    let goes : Goes Performs s (meaning setup.calling (first_worker setup 1) (events_of commands)) (ends far.ran) r.stores =
    subst (λ (x : Both H × List Event). Goes Performs s (means setup.calling (plan_for setup) x.0 x.1) (ends far.ran) r.stores) (λ i. (first_at setup n 1 (omega arith) some i, (all_placed commands).events i)) far.goes in
    record {
      is_run = record { ran = far.ran; shared = r.stores; goes = goes; sent_is = far.sent_is };
      any_run = λ old to t new life same.
          let again : Goes Performs s (meaning setup.calling (first_worker setup 1) (events_of commands)) (ends (run to.state life.turns)) t =
          subst (λ (es : List Event). Goes Performs s (meaning setup.calling (first_worker setup 1) es) (ends (run to.state life.turns)) t) same life.goes in
          let one = goes_once (meaning setup.calling (first_worker setup 1) (events_of commands)) far.ran (run to.state life.turns) s r.stores t goes again in
          far.sent_is ∙ ap (λ (x : Run H). tell 1 (solid (all_sent x.turns))) one.0;
    }
