-- Two configurations that say the same play alike: what is said of a replay rests on what its configuration says, and neither on its router nor on how it was read.
use Rattle.std.proofs.Common.{◌≡◌, ℕ, zero, suc, ◌-◌, List, [], ◌∷◌, ◌++◌, length, map, refl, ap, sym, ◌∙◌, subst}
use Rattle.std.specs.Prelude.{slice_index_or, slice_set}
use Rattle.std.proofs.lemmas.List.{map-append}
use Rattle.contexts.specs.Making.{no_contexts}
use Rattle.contexts.specs.declared.parts.Contexts.{Contexts}
use Rattle.filter_host.specs.Course.{ends, Goes}
use Rattle.gate_config.specs.Given.{Given, given}
use Rattle.gate_config.specs.declared.config.Config.{Config}
use Rattle.vm_machines.specs.Making.{slots_from}
use Rattle.command_replay_filters.specs.Filtered.{filtered}
use Rattle.replay_script.specs.Prints.{Told}
use Rattle.replay_script.specs.declared.command.Command.{Command}
use Rattle.command_replay.specs.Replay.{Placed, Plays, Replays, first_worker, first_workers, for_worker, plan_for, placed_of, state_of, stores_for, seed}
use Rattle.store_model.specs.Sequential.{Stores, Performs}
use Rattle.vm_host.specs.Slots.{calling, exported_in, registering_in}
use Rattle.vm_host.specs.declared.slots.Vms.{Vms}
use Rattle.worker_model.specs.Making.{bodies_of, registers_of, with_plugins, with_vms}
use Rattle.worker_model.specs.Plan.{Plan}
use Rattle.worker_model.specs.Steps.{Both, both}
use Rattle.worker_model.specs.Turn.{Outcome, first_vms}
use Rattle.streams_model.specs.Turn.{turn}

abbrev machines_by : Given → Vms
machines_by g = record { slots = slots_from 0 g.vms }

-- what turns go by, and a worker's state, with all that a configuration says taken from this
abbrev plan_by : Plan → Given → Plan
plan_by p g = record p {
  routes = g.routes;
  plugins = g.plugins;
  vms = length g.vms;
  deadline = g.deadline_ms;
  bodies = bodies_of exported_in registering_in (machines_by g) g.plugins;
  registers = registers_of exported_in registering_in g.plugins (machines_by g) (first_vms (length g.vms));
  tcp = g.tcp;
}

abbrev contexts_by : Given → Contexts
contexts_by g = with_plugins (with_vms (no_contexts g.log_level seed) g.vms) g.plugins

abbrev state_by : Both Vms → Given → Both Vms
state_by b g = both (machines_by g) (record b.room { hub = record b.room.hub { contexts = contexts_by g } })

module _ (c d : Config) (same : given c ≡ given d) where
  plan_same : plan_for (filtered c) ≡ plan_for (filtered d)
  unfolding filtered
  plan_same = ap (plan_by (plan_for (filtered c))) same

  state_same : (who : ℕ) → state_of (first_worker (filtered c) who) ≡ state_of (first_worker (filtered d) who)
  unfolding filtered
  state_same who = ap (state_by (state_of (first_worker (filtered c) who))) same

  states_same : (n : ℕ) → map state_of (first_workers (filtered c) n) ≡ map state_of (first_workers (filtered d) n)
  states_same zero = refl
  states_same (suc n) =
      map-append state_of (first_workers (filtered c) n) (first_worker (filtered c) (suc n) ∷ [])
      ∙ (λ i. states_same n i ++ state_same (suc n) i ∷ [])
      ∙ sym (map-append state_of (first_workers (filtered d) n) (first_worker (filtered d) (suc n) ∷ []))

  -- one turn, by its plan and the state at which it begins
  abbrev GoesBy : Plan × Both Vms → Placed → Stores → Outcome Vms → Stores → Type 0
  GoesBy x p s end t = Goes Performs (for_worker p.who s) (turn calling x.0 x.1 p.event) (ends end) t

  plays_same : (states : List (Both Vms)) (s : Stores) (events : List Placed) (sent : List Told) (after : List (Both Vms)) (t : Stores) → Plays (filtered c) states s events sent after t
      → Plays (filtered d) states s events sent after t
  unfolding filtered
  plays_same states s [] sent after t plays = plays
  plays_same states s (p ∷ events) sent after t plays = (
    plays.0,
    plays.1,
    plays.2,
    subst (λ (x : Plan × Both Vms). GoesBy x p s plays.0 plays.1) (λ i. (plan_same i, slice_index_or states (p.who - 1) (state_same p.who i))) plays.3,
    plays_same (slice_set states (p.who - 1) plays.0.state) plays.1 events plays.2 after t plays.4,
    plays.5,
  )

  pub replays_same : (commands : List Command) (sent : List Told) → Replays (filtered c) commands sent → Replays (filtered d) commands sent
  unfolding filtered
  replays_same commands sent r =
      let first = plays_same (map state_of (first_workers (filtered c) c.workers)) (stores_for (length c.vms)) (placed_of commands) sent r.after r.stores r.plays in
      let workers : c.workers ≡ d.workers = ap (λ (g : Given). g.workers) same in
      let vms : length c.vms ≡ length d.vms = ap (λ (g : Given). length g.vms) same in
      let states : map state_of (first_workers (filtered c) c.workers) ≡ map state_of (first_workers (filtered d) d.workers) = states_same c.workers ∙ ap (λ (n : ℕ). map state_of (first_workers (filtered d) n)) workers in
      record {
        after = r.after;
        stores = r.stores;
        plays = subst (λ (x : List (Both Vms) × ℕ). Plays (filtered d) x.0 (stores_for x.1) (placed_of commands) sent r.after r.stores) (λ i. (states i, vms i)) first;
      }
