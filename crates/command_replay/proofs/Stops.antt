-- Stop at further workers sends nothing.
use Rattle.std.proofs.Common.{ℕ, ◌-◌, List, [], ◌∷◌, ◌++◌, length, map, refl, sym, subst, append_assoc}
use Rattle.std.specs.Prelude.{slice_set}
use Rattle.std.proofs.lemmas.List.{append-nil}
use Rattle.filter_host.specs.Course.{ends, Goes}
use Rattle.gate_io.specs.MemoryWorld.{stop_at}
use Rattle.replay_script.specs.Prints.{Told}
use Rattle.store_model.specs.Sequential.{Stores, Performs, performs_nothing}
use Rattle.worker_model.specs.Steps.{Both}
use Rattle.worker_model.specs.Turn.{outcome}
use Rattle.streams_model.specs.Turn.{turn}
use Rattle.command_replay.specs.Laws.{StopStandsForAll, stops}
use Rattle.command_replay.specs.Replay.{Placed, Plays, Setup, first_workers, for_worker, placed, placed_of, plan_for, state_at, state_of, stores_for}
use Rattle.command_replay.proofs.Progresses.{plays_more}

module _ {H : Type 0} (setup : Setup H) (states : List (Both H)) (s : Stores) where
  stops_on : (front : List Placed) (sent : List Told) (mid : List (Both H)) (t : Stores) (now : ℕ) (whose : List ℕ) → Plays setup states s front sent mid t
      → (after : List (Both H)) × (u : Stores) × Plays setup states s (front ++ stops now whose) sent after u
  stops_on front sent mid t now [] plays = (mid, t, subst (λ (es : List Placed). Plays setup states s es sent mid t) (sym (append-nil front)) plays)
  stops_on front sent mid t now (who ∷ whose) plays =
      let stop : List Placed = placed who (stop_at now) ∷ [] in
      let at = state_at setup mid who in
      let then = slice_set mid (who - 1) at in
      let u = for_worker who t in
      let goes : Goes Performs u (turn setup.calling (plan_for setup) at (stop_at now)) (ends (outcome at [])) u = record { met = []; reaches = refl; performed = performs_nothing u } in
      let more = plays_more setup states s front sent mid t (placed who (stop_at now)) (outcome at []) u plays goes in
      let same : Plays setup states s (front ++ stop) sent then u = subst (λ (ss : List Told). Plays setup states s (front ++ stop) ss then u) (append-nil sent) more in
      let all = stops_on (front ++ stop) sent then u now whose same in
      (all.0, all.1, subst (λ (es : List Placed). Plays setup states s es sent all.0 all.1) (append_assoc front stop (stops now whose)) all.2)

pub stop_stands_for_all : (H : Type 0) → StopStandsForAll H
stop_stands_for_all H setup commands sent now whose r =
    stops_on setup (map state_of (first_workers setup setup.config.workers)) (stores_for (length setup.config.vms)) (placed_of commands) sent r.after r.stores now whose r.plays
