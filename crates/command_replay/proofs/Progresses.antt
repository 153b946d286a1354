-- How far a script was played, and what was written of what it prints.
use Rattle.std.proofs.Common.{◌≡◌, ℕ, zero, suc, ◌+◌, ◌-◌, ◌<◌, ◌≤◌, List, [], ◌∷◌, ◌++◌, length, map, Option, refl, ap, sym, ◌∙◌, subst, append_assoc, arith, get_or, take, drop, length-append, length-take-le}
use Rattle.std.specs.Prelude.{All, slice_set}
use Rattle.std.proofs.lemmas.List.{append-nil, get_or-map, map-set, take_all, take_more}
use Rattle.std.proofs.lemmas.List.Elements.{All-append, All-cons, All-get_or, All-nil, All-set}
use Rattle.gate_io.specs.Passing.{happened}
use Rattle.gate_io.specs.declared.event.Event.{Event}
use Rattle.gate_io.specs.Told.{Gains, GainsFront, gains_nothing, gains_more, gains_then_front}
use Rattle.send_queue.specs.Delivery.{solid}
use Rattle.replay_script.specs.declared.command.Command.{Command}
use Rattle.replay_script.specs.Prints.{Told, last_in, printed_by, tell}
use Rattle.replay_script.specs.ScriptWorld.{Playing, fresh, nature}
use Rattle.replay_script.specs.Scripts.{events_of, workers_of}
use Rattle.filter_host.specs.Course.{ends, Goes}
use Rattle.store_model.specs.Sequential.{Stores, Performs}
use Rattle.worker_model.specs.Plan.{Plan}
use Rattle.worker_model.specs.State.{Standing, rules_of}
use Rattle.worker_model.specs.Steps.{Both}
use Rattle.worker_model.specs.Turn.{Outcome, outcome}
use Rattle.streams_model.specs.Turn.{turn}
use Rattle.command_replay.specs.Delivered.{Prints, PrintsFront}
use Rattle.command_replay.specs.Replay.{Setup, Placed, placed, place_all, placed_of, first_worker, first_workers, for_worker, plan_for, state_at, state_of, stores_for, Plays, PlaysFirst, IsReady, Flushed, Advances}
use Rattle.command_replay.proofs.Fronts.{all_placed, each_has_its_worker, gave_all, goes, place_both, placed_front}
use Rattle.command_replay.proofs.Meant.{AreThere, each_means, there_front, there_placed}
use Rattle.command_replay.proofs.Printing.{last_both, printed_both}
use Rattle.command_replay.proofs.Starts.{workers_count}

-- some first events were played, and of what they print a part was written and the rest waits
pub record Progress {H : Type 0} (setup : Setup H) (front : List Placed) (states : List (Both H)) (stores : Stores) (last : ℕ) (old new : Option (List ℕ)) (waits : List ℕ) : Type 0 where
  pub sent : List Told
  pub plays : PlaysFirst setup front sent states stores
  pub last_is : last ≡ last_in 1 sent
  pub written : List ℕ
  pub gained : Gains old written new
  pub text : printed_by 1 sent ≡ written ++ waits

-- it goes by the plan of all
abbrev pub GoesBy : {H : Type 0} → Setup H → Standing H → Type 0
GoesBy setup worker = rules_of worker.setting ≡ plan_for setup

-- the workers, the world and the stores of a script after its first `i` events
pub record Far {H : Type 0} (setup : Setup H) (commands : List Command) (i : ℕ) (workers : List (Standing H)) (world : Playing) (shared : Stores) (last : ℕ) (old new : Option (List ℕ)) (waits : List ℕ) : Type 0 where
  pub plans : All (GoesBy setup) workers
  pub nature_is : nature world ≡ nature (fresh (events_of commands))
  pub count : length (happened world.trace) ≡ i
  pub progress : Progress setup (place_all (take i (workers_of commands)) (happened world.trace)) (map state_of workers) shared last old new waits

module _ {H : Type 0} (setup : Setup H) where
  -- one more event
  pub plays_more : (states : List (Both H)) (s : Stores) (front : List Placed) (sent : List Told) (mid : List (Both H)) (t : Stores) (p : Placed) (end : Outcome H) (u : Stores)
      → Plays setup states s front sent mid t → Goes Performs (for_worker p.who t) (turn setup.calling (plan_for setup) (state_at setup mid p.who) p.event) (ends end) u
      → Plays setup states s (front ++ (p ∷ [])) (sent ++ tell p.who (solid end.sent)) (slice_set mid (p.who - 1) end.state) u
  plays_more states s [] sent mid t p end u plays goes = (
    end,
    u,
    [],
    subst (λ (x : List (Both H) × Stores). Goes Performs (for_worker p.who x.1) (turn setup.calling (plan_for setup) (state_at setup x.0 p.who) p.event) (ends end) u) (λ i. (plays.1 i, plays.2 i)) goes,
    (refl, ap (λ (m : List (Both H)). slice_set m (p.who - 1) end.state) plays.1, refl),
    ap (λ (ss : List Told). ss ++ tell p.who (solid end.sent)) plays.0 ∙ sym (append-nil (tell p.who (solid end.sent))),
  )
  plays_more states s (e ∷ front) sent mid t p end u plays goes = (
    plays.0,
    plays.1,
    plays.2 ++ tell p.who (solid end.sent),
    plays.3,
    plays_more (slice_set states (e.who - 1) plays.0.state) plays.1 front plays.2 mid t p end u plays.4 goes,
    ap (λ (ss : List Told). ss ++ tell p.who (solid end.sent)) plays.5 ∙ append_assoc (tell e.who (solid plays.0.sent)) plays.2 (tell p.who (solid end.sent)),
  )

  all_go_by : (n : ℕ) → All (GoesBy setup) (first_workers setup n)
  all_go_by zero = All-nil (GoesBy setup)
  all_go_by (suc n) = All-append (GoesBy setup) (first_workers setup n) (first_worker setup (suc n) ∷ []) (all_go_by n)
      (All-cons (GoesBy setup) (first_worker setup (suc n)) [] refl (All-nil (GoesBy setup)))

  module _ (commands : List Command) where
    pub far_start : (workers : List (Standing H)) (world : Playing) (shared : Stores) (last : ℕ) (old : Option (List ℕ)) (waits : List ℕ) → waits ≡ [] → IsReady setup commands workers world shared last
        → Far setup commands 0 workers world shared last old old waits
    far_start workers world shared last old waits none r = record {
      plans = subst (All (GoesBy setup)) (sym r.workers_are) (all_go_by setup.config.workers);
      nature_is = ap nature r.world_is;
      count = ap (λ (w : Playing). length (happened w.trace)) r.world_is;
      progress = record {
        sent = [];
        plays = (refl, ap (map state_of) r.workers_are, r.shared_is);
        last_is = r.last_is;
        written = [];
        gained = gains_nothing old;
        text = sym none;
      };
    }

    -- one event more
    pub far_on : (i who : ℕ) (from : List (Standing H)) (before : Playing) (s : Stores) (last : ℕ) (old new : Option (List ℕ)) (waits : List ℕ) (to : List (Standing H)) (after : Playing) (t : Stores) (last_then : ℕ)
        (waiting : List ℕ) → i < length (workers_of commands) → who ≡ get_or (workers_of commands) i who → who - 1 < length from → Far setup commands i from before s last old new waits
        → Advances setup.calling who from before s last waits to after t last_then waiting → Far setup commands (i + 1) to after t last_then old new waiting
    far_on i who from before s last old new waits to after t last_then waiting low who_is there f a =
        let whose = workers_of commands in
        let past = happened before.trace in
        let p = f.progress in
        let turns = a.at.turns in
        let event = turns.event in
        let sends = tell who (solid turns.sent) in
        let there_is : get_or from (who - 1) a.at.old ≡ a.at.old = sym a.at.old_is in
        let plan : rules_of a.at.old.setting ≡ plan_for setup = subst (GoesBy setup) there_is (All-get_or (GoesBy setup) from (who - 1) a.at.old there f.plans) in
        let state : state_at setup (map state_of from) who ≡ a.at.old.state =
        get_or-map state_of from (who - 1) a.at.old (first_worker setup who).state there ∙ ap state_of there_is in
        let goes : Goes Performs (for_worker who s) (turn setup.calling (plan_for setup) (state_at setup (map state_of from) who) event) (ends (outcome a.at.new.state turns.sent)) t =
        subst (λ (x : Plan × Both H). Goes Performs (for_worker who s) (turn setup.calling x.0 x.1 event) (ends (outcome a.at.new.state turns.sent)) t) (λ j. (plan j, sym state j)) turns.goes in
        let played = plays_more (map state_of (first_workers setup setup.config.workers)) (stores_for (length setup.config.vms)) (place_all (take i whose) past) p.sent (map state_of from) s (placed who event)
        (outcome a.at.new.state turns.sent) t p.plays goes in
        let long : length (take i whose) ≡ i = length-take-le i whose (omega (arith, low)) in
        let whose_are : take (i + 1) whose ≡ take i whose ++ (who ∷ []) = take_more whose i who low ∙ ap (λ (w : ℕ). take i whose ++ (w ∷ [])) (sym who_is) in
        let front : place_all (take i whose) past ++ (placed who event ∷ []) ≡ place_all (take (i + 1) whose) (happened after.trace) =
        sym (ap (λ (x : List ℕ × List Event). place_all x.0 x.1) (λ j. (whose_are j, turns.given j)) ∙ place_both (take i whose) (who ∷ []) past (event ∷ []) (long ∙ sym f.count)) in
        let states : slice_set (map state_of from) (who - 1) a.at.new.state ≡ map state_of to = sym (ap (map state_of) a.at.new_is ∙ map-set state_of from (who - 1) a.at.new) in
        let rules : GoesBy setup a.at.new = ap rules_of turns.setting_is ∙ plan in
        record {
          plans = subst (All (GoesBy setup)) (sym a.at.new_is) (All-set (GoesBy setup) from (who - 1) a.at.new rules f.plans);
          nature_is = turns.nature_is ∙ f.nature_is;
          count = ap length turns.given ∙ length-append past (event ∷ []) ∙ ap (λ (n : ℕ). n + 1) f.count;
          progress = record {
            sent = p.sent ++ sends;
            plays = subst (λ (x : List Placed × List (Both H)). PlaysFirst setup x.0 (p.sent ++ sends) x.1 t) (λ j. (front j, states j)) played;
            last_is = a.last_is ∙ ap (λ (n : ℕ). last_in n sends) p.last_is ∙ sym (last_both 1 p.sent sends);
            written = p.written;
            gained = p.gained;
            text = printed_both 1 p.sent sends ∙ ap (λ (x : List ℕ). x ++ printed_by (last_in 1 p.sent) sends) p.text ∙ append_assoc p.written waits (printed_by (last_in 1 p.sent) sends)
                ∙ ap (λ (x : List ℕ). p.written ++ x) (ap (λ (n : ℕ). waits ++ printed_by n sends) (sym p.last_is) ∙ sym a.waiting_is);
          };
        }

    pub far_flushed : (i : ℕ) (workers : List (Standing H)) (world : Playing) (shared : Stores) (last : ℕ) (old mid new : Option (List ℕ)) (waits waiting : List ℕ)
        → Far setup commands i workers world shared last old mid waits → Flushed waits mid waiting new → Far setup commands i workers world shared last old new waiting
    far_flushed i workers world shared last old mid new waits waiting f g = record {
      plans = f.plans;
      nature_is = f.nature_is;
      count = f.count;
      progress = record {
        sent = f.progress.sent;
        plays = f.progress.plays;
        last_is = f.progress.last_is;
        written = f.progress.written ++ g.written;
        gained = gains_more old f.progress.written mid g.written new f.progress.gained g.gained;
        text = f.progress.text ∙ ap (λ (t : List ℕ). f.progress.written ++ t) g.is ∙ sym (append_assoc f.progress.written g.written waiting);
      };
    }

    -- each event of the script is at a worker that is there
    all_there : All (λ (who : ℕ). (1 ≤ who) × (who ≤ setup.config.workers)) (workers_of commands) → AreThere setup.config.workers (placed_of commands)
    all_there there = there_placed setup.config.workers (placed_of commands) (workers_of commands) (all_placed commands).workers there

    pub all_in : (workers : List (Standing H)) (world : Playing) (shared : Stores) (last : ℕ) (whose : List ℕ) → IsReady setup commands workers world shared last → whose ≡ workers_of commands
        → All (λ (who : ℕ). (1 ≤ who) × (who ≤ length workers)) whose → All (λ (who : ℕ). (1 ≤ who) × (who ≤ setup.config.workers)) (workers_of commands)
    all_in workers world shared last whose ready are there =
        let count : length workers ≡ setup.config.workers = ap length ready.workers_are ∙ workers_count setup setup.config.workers in
        subst (λ (x : ℕ × List ℕ). All (λ (who : ℕ). (1 ≤ who) × (who ≤ x.0)) x.1) (λ j. (count j, are j)) there

    -- a front of what waits was written
    pub far_cut : (i : ℕ) (workers : List (Standing H)) (world : Playing) (shared : Stores) (last : ℕ) (old mid new : Option (List ℕ)) (waits : List ℕ) → i ≤ length (workers_of commands)
        → All (λ (who : ℕ). (1 ≤ who) × (who ≤ setup.config.workers)) (workers_of commands) → Far setup commands i workers world shared last old mid waits → GainsFront mid waits new
        → PrintsFront setup commands old new
    far_cut i workers world shared last old mid new waits low there f g =
        let each = each_has_its_worker commands in
        let so_far = goes commands world f.nature_is (omega (arith, low, each, f.count)) in
        let p = f.progress in
        let front = place_all (take i (workers_of commands)) (happened world.trace) in
        let more = place_all (drop i (workers_of commands)) so_far.more in
        let is = placed_front commands i (happened world.trace) so_far.more so_far.is f.count low in
        record {
          sent = p.sent;
          replays = record { front = front; more = more; after = map state_of workers; stores = shared; is = is; plays = p.plays };
          means = each_means setup front p.sent (map state_of workers) shared (there_front setup.config.workers front more (subst (AreThere setup.config.workers) is (all_there there))) p.plays;
          gained = subst (λ (t : List ℕ). GainsFront old t new) (sym p.text) (gains_then_front old p.written mid waits new p.gained g);
        }

    -- all the events were played
    pub far_done : (i : ℕ) (workers : List (Standing H)) (world : Playing) (shared : Stores) (last : ℕ) (old mid new : Option (List ℕ)) (waits : List ℕ) → i ≡ length (workers_of commands)
        → All (λ (who : ℕ). (1 ≤ who) × (who ≤ setup.config.workers)) (workers_of commands) → Far setup commands i workers world shared last old mid waits → Gains mid waits new
        → Prints setup commands old new
    far_done i workers world shared last old mid new waits whole there f g =
        let whose = workers_of commands in
        let p = f.progress in
        let all : happened world.trace ≡ events_of commands = gave_all commands world f.nature_is (f.count ∙ whole ∙ each_has_its_worker commands) in
        let front : place_all (take i whose) (happened world.trace) ≡ placed_of commands =
        ap (λ (x : List ℕ × List Event). place_all x.0 x.1) (λ j. (take_all i whose (omega (arith, whole)) j, all j)) in
        let plays = subst (λ (x : List Placed). PlaysFirst setup x p.sent (map state_of workers) shared) front p.plays in
        record {
          sent = p.sent;
          replays = record { after = map state_of workers; stores = shared; plays = plays };
          means = each_means setup (placed_of commands) p.sent (map state_of workers) shared (all_there there) plays;
          gained = subst (λ (t : List ℕ). Gains old t new) (sym p.text) (gains_more old p.written mid waits new p.gained g);
        }
