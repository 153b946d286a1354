-- The turns of each worker of a script are those that its events mean.
use Rattle.std.proofs.Common.{◌≡◌, ◌≤◌, ◌<◌, ℕ, zero, suc, ◌-◌, Bool, List, [], ◌∷◌, ◌++◌, length, map, get_or, refl, ap, sym, ◌∙◌, subst, arith, ⊎_elim, eq-eqb, ne_eqb, length-set, get_or-set_same, get_or-set_other}
use Rattle.std.specs.Prelude.{All, if◌then◌else◌, slice_set}
use Rattle.std.proofs.lemmas.Bool.{cases_eq}
use Rattle.std.proofs.lemmas.List.{get_or-map, get_or_append_left, get_or-append_right, length-map}
use Rattle.filter_host.specs.Course.{ends, Reaches}
use Rattle.worker_meaning.proofs.Folding.{reaches_first}
use Rattle.worker_meaning.specs.Meaning.{means, run}
use Rattle.send_queue.specs.Delivery.{solid}
use Rattle.replay_script.specs.Prints.{Told, tell}
use Rattle.replay_script.specs.Scripts.{workers_of}
use Rattle.store_model.specs.Sequential.{Stores}
use Rattle.worker_model.specs.State.{Standing}
use Rattle.worker_model.specs.Steps.{Both}
use Rattle.worker_model.specs.Turn.{Outcome}
use Rattle.streams_model.specs.Turn.{turn}
use Rattle.command_replay.specs.Delivered.{EachMeans, Step, Stepped, events_in, met_in, placed_step, sent_in, steps_of, turns_in}
use Rattle.command_replay.specs.Laws.{EachWorkerMeans}
use Rattle.command_replay.specs.Replay.{Placed, Plays, PlaysFirst, Setup, first_worker, first_workers, placed_of, plan_for, state_at, state_of, stores_for}
use Rattle.command_replay.proofs.Delivering.{AreQuiet, in_its_world, quiet_turn}
use Rattle.command_replay.proofs.Fronts.{all_placed}
use Rattle.command_replay.proofs.Starts.{workers_count}

-- each of these is at a worker up to the last
abbrev pub AreThere : ℕ → List Placed → Type 0
AreThere n [] = Unit {0}
AreThere n (p ∷ events) = (1 ≤ p.who) × (p.who ≤ n) × AreThere n events

pub there_placed : (n : ℕ) (events : List Placed) (whose : List ℕ) → map (λ (p : Placed). p.who) events ≡ whose → All (λ (who : ℕ). (1 ≤ who) × (who ≤ n)) whose → AreThere n events
there_placed n [] whose is all = tt
there_placed n (p ∷ events) whose is all =
    let here = subst (All (λ (who : ℕ). (1 ≤ who) × (who ≤ n))) (sym is) all in
    let first = here 0 0 (omega arith) in
    (first.0, first.1, there_placed n events (map (λ (x : Placed). x.who) events) refl (λ k d low. here (suc k) d (omega (arith, low))))

-- and so is each of some first of them
pub there_front : (n : ℕ) (front more : List Placed) → AreThere n (front ++ more) → AreThere n front
there_front n [] more there = tt
there_front n (p ∷ front) more there = (there.0, there.1, there_front n front more there.2)

module _ {H : Type 0} (setup : Setup H) where
  -- what a worker does at its steps, from a state on
  abbrev MeansFrom : Both H → List Step → Type 0
  MeansFrom state steps = (after : Both H) × Reaches (means setup.calling (plan_for setup) state (events_in steps)) (met_in steps) (ends (run after (turns_in steps)))

  record Steps (n : ℕ) (states : List (Both H)) (s : Stores) (events : List Placed) (sent : List Told) (t : Stores) : Type 0 where
    pub steps : List Step
    pub placed_are : map placed_step steps ≡ events
    pub stepped : Stepped s steps t
    pub sent_is : sent ≡ sent_in steps
    pub quiet : AreQuiet steps
    pub means : (who : ℕ) → 1 ≤ who → who ≤ n → MeansFrom (state_at setup states who) (steps_of who steps)

  no_steps : (state : Both H) → MeansFrom state []
  unfolding means
  no_steps state = (state, refl)

  one_step : (state : Both H) (x : Step) (end : Outcome H) (steps : List Step) → Reaches (turn setup.calling (plan_for setup) state x.event) x.met (ends end) → x.sent ≡ end.sent → MeansFrom end.state steps
      → MeansFrom state (x ∷ steps)
  one_step state x end steps one is more = (
    more.0,
    subst (λ (l : List _). Reaches (means setup.calling (plan_for setup) state (x.event ∷ events_in steps)) (x.met ++ met_in steps) (ends (run more.0 (record { event = x.event; sent = l } ∷ turns_in steps)))) (sym is)
        (reaches_first setup.calling (plan_for setup) state x.event (events_in steps) x.met (met_in steps) end (run more.0 (turns_in steps)) one more.1),
  )

  steps_of_plays : (n : ℕ) (states : List (Both H)) (s : Stores) (events : List Placed) (sent : List Told) (after : List (Both H)) (t : Stores) → length states ≡ n → AreThere n events
      → Plays setup states s events sent after t → Steps n states s events sent t
  steps_of_plays n states s [] sent after t count there plays = record {
    steps = [];
    placed_are = refl;
    stepped = plays.2;
    sent_is = plays.0;
    quiet = tt;
    means = λ who low high. no_steps (state_at setup states who);
  }
  steps_of_plays n states s (p ∷ events) sent after t count there plays =
      let end = plays.0 in
      let behind = slice_set states (p.who - 1) end.state in
      let goes = plays.3 in
      let x : Step = record { who = p.who; event = p.event; met = goes.met; sent = end.sent } in
      let far = steps_of_plays n behind plays.1 events plays.2 after t (length-set states (p.who - 1) end.state ∙ count) there.2 plays.4 in
      let within : p.who - 1 < length states = (let low = there.0 in let high = there.1 in omega (arith, low, high, count)) in
      let same_state : state_at setup behind p.who ≡ end.state = get_or-set_same states (p.who - 1) end.state (first_worker setup p.who).state within in
      let here : MeansFrom (state_at setup states p.who) (x ∷ steps_of p.who far.steps) =
      one_step (state_at setup states p.who) x end (steps_of p.who far.steps) goes.reaches refl (subst (λ (b : Both H). MeansFrom b (steps_of p.who far.steps)) same_state (far.means p.who there.0 there.1)) in
      record {
        steps = x ∷ far.steps;
        placed_are = ap (λ (ps : List Placed). p ∷ ps) far.placed_are;
        stepped = (plays.1, goes.performed, far.stepped);
        sent_is = plays.5 ∙ ap (λ (l : List Told). tell p.who (solid end.sent) ++ l) far.sent_is;
        quiet = (quiet_turn setup.calling (plan_for setup) (state_at setup states p.who) p.event goes.met end goes.reaches, far.quiet);
        means = λ who low high.
            ⊎_elim
            (λ (same : p.who ≡ who).
            subst (λ (b : Bool). MeansFrom (state_at setup states who) (if b then x ∷ steps_of who far.steps else steps_of who far.steps)) (sym (eq-eqb p.who who same))
            (subst (λ (w : ℕ). MeansFrom (state_at setup states w) (x ∷ steps_of w far.steps)) same here))
            (λ (apart : p.who ≡ who → ⊥).
            let other : state_at setup behind who ≡ state_at setup states who =
            get_or-set_other states (p.who - 1) (who - 1) end.state (first_worker setup who).state (λ e. apart (let first = there.0 in omega (arith, first, low, e))) in
            subst (λ (b : Bool). MeansFrom (state_at setup states who) (if b then x ∷ steps_of who far.steps else steps_of who far.steps)) (sym (ne_eqb p.who who apart))
            (subst (λ (b : Both H). MeansFrom b (steps_of who far.steps)) other (far.means who low high)))
            (cases_eq p.who who);
      }

  pub count_of : (n : ℕ) → length (map state_of (first_workers setup n)) ≡ n
  count_of n = length-map (first_workers setup n) state_of ∙ workers_count setup n

  first_get : (n i : ℕ) (d : Standing H) → i < n → get_or (first_workers setup n) i d ≡ first_worker setup (suc i)
  first_get zero i d low = absurd (omega (arith, low))
  first_get (suc n) i d low =
      let before = first_workers setup n in
      let last = first_worker setup (suc n) ∷ [] in
      let none : n - n ≡ 0 = omega arith in
      let at_end : get_or (before ++ last) n d ≡ first_worker setup (suc n) =
      get_or-append_right before last n n d (workers_count setup n) (omega arith) ∙ ap (λ (k : ℕ). get_or last k d) none in
      ⊎_elim
      (λ (same : i ≡ n). subst (λ (k : ℕ). get_or (before ++ last) k d ≡ first_worker setup (suc k)) (sym same) at_end)
      (λ (apart : i ≡ n → ⊥).
      let less : i < n = le_apart i n low apart in
      let count = workers_count setup n in
      get_or_append_left before last d i (omega (arith, less, count)) ∙ first_get n i d less)
      (cases_eq i n)
    where
      le_apart : (i n : ℕ) → i < suc n → (i ≡ n → ⊥) → i < n
      le_apart i n low apart = omega (arith, low, apart)

  -- the first state of a worker
  pub first_at : (n who : ℕ) → 1 ≤ who → who ≤ n → state_at setup (map state_of (first_workers setup n)) who ≡ (first_worker setup who).state
  first_at n who low high =
      let count = workers_count setup n in
      let next : suc (who - 1) ≡ who = omega (arith, low) in
      get_or-map state_of (first_workers setup n) (who - 1) (first_worker setup who) (first_worker setup who).state (omega (arith, low, high, count))
      ∙ ap state_of (first_get n (who - 1) (first_worker setup who) (omega (arith, low, high)))
      ∙ ap (λ (k : ℕ). (first_worker setup k).state) next

-- events that lead through their turns are delivered so
pub each_means : {H : Type 0} (setup : Setup H) (events : List Placed) (sent : List Told) (after : List (Both H)) (t : Stores) → AreThere setup.config.workers events
    → PlaysFirst setup events sent after t → EachMeans setup events sent
each_means setup events sent after t there plays =
    let n = setup.config.workers in
    let states = map state_of (first_workers setup n) in
    let far = steps_of_plays setup n states (stores_for (length setup.config.vms)) events sent after t (count_of setup n) there plays in
    record {
      steps = far.steps;
      placed_are = far.placed_are;
      shared = t;
      stepped = far.stepped;
      sent_is = far.sent_is;
      worlds = λ who low high.
          in_its_world setup who far.steps sent far.sent_is far.quiet (subst (λ (b : Both _). MeansFrom setup b (steps_of who far.steps)) (first_at setup n who low high) (far.means who low high));
    }

pub each_worker_means : (H : Type 0) → EachWorkerMeans H
each_worker_means H setup commands sent all r =
    each_means setup (placed_of commands) sent r.after r.stores (there_placed setup.config.workers (placed_of commands) (workers_of commands) (all_placed commands).workers all) r.plays
