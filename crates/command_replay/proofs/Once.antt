-- A script sends one list.
use Rattle.std.proofs.Common.{◌≡◌, ◌-◌, List, [], ◌∷◌, ◌++◌, length, map, sym, ap, ◌∙◌, subst, append_assoc}
use Rattle.std.specs.Prelude.{slice_set}
use Rattle.filter_host.specs.Course.{ends, Goes}
use Rattle.send_queue.specs.Delivery.{solid}
use Rattle.replay_script.specs.Prints.{Told, tell}
use Rattle.store_model.specs.Sequential.{Stores, Performs}
use Rattle.worker_model.proofs.Alone.{goes_once}
use Rattle.worker_model.specs.Steps.{Both}
use Rattle.worker_model.specs.Turn.{Outcome}
use Rattle.streams_model.specs.Turn.{turn}
use Rattle.command_replay.specs.Replay.{Placed, Plays, PlaysFirst, Setup, first_workers, for_worker, placed_of, plan_for, state_at, state_of, stores_for}
use Rattle.command_replay.specs.Laws.{OneReplay, IsFront, FrontsOfOne}

module _ {H : Type 0} (setup : Setup H) where
  turned_once : (states : List (Both H)) (s : Stores) (p : Placed) (x y : Outcome H) (t u : Stores)
      → Goes Performs (for_worker p.who s) (turn setup.calling (plan_for setup) (state_at setup states p.who) p.event) (ends x) t
      → Goes Performs (for_worker p.who s) (turn setup.calling (plan_for setup) (state_at setup states p.who) p.event) (ends y) u → (x ≡ y) × (t ≡ u)
  turned_once states s p x y t u one two = goes_once (turn setup.calling (plan_for setup) (state_at setup states p.who) p.event) x y (for_worker p.who s) t u one two

  plays_once : (states : List (Both H)) (s : Stores) (events : List Placed) (a b : List Told) (x y : List (Both H)) (t u : Stores)
      → Plays setup states s events a x t → Plays setup states s events b y u → a ≡ b
  plays_once states s [] a b x y t u one two = one.0 ∙ sym two.0
  plays_once states s (p ∷ events) a b x y t u one two =
      let end = turned_once states s p one.0 two.0 one.1 two.1 one.3 two.3 in
      let more : Plays setup (slice_set states (p.who - 1) two.0.state) two.1 events one.2 x t =
      subst (λ (o : Outcome H × Stores). Plays setup (slice_set states (p.who - 1) o.0.state) o.1 events one.2 x t) (λ i. (end.0 i, end.1 i)) one.4 in
      let later = plays_once (slice_set states (p.who - 1) two.0.state) two.1 events one.2 two.2 x y t u more two.4 in
      one.5 ∙ (λ i. tell p.who (solid (end.0 i).sent) ++ later i) ∙ sym two.5

  -- what some first events send is a front of what they send with more
  front_once : (states : List (Both H)) (s : Stores) (front more : List Placed) (whole sent : List Told) (x y : List (Both H)) (t u : Stores)
      → Plays setup states s (front ++ more) whole x t → Plays setup states s front sent y u → IsFront sent whole
  front_once states s [] more whole sent x y t u one two = record { rest = whole; is = ap (λ (t : List Told). t ++ whole) (sym two.0) }
  front_once states s (p ∷ front) more whole sent x y t u one two =
      let end = turned_once states s p one.0 two.0 one.1 two.1 one.3 two.3 in
      let later : Plays setup (slice_set states (p.who - 1) two.0.state) two.1 (front ++ more) one.2 x t =
      subst (λ (o : Outcome H × Stores). Plays setup (slice_set states (p.who - 1) o.0.state) o.1 (front ++ more) one.2 x t) (λ i. (end.0 i, end.1 i)) one.4 in
      let far = front_once (slice_set states (p.who - 1) two.0.state) two.1 front more one.2 two.2 x y t u later two.4 in
      record {
        rest = far.rest;
        is = one.5 ∙ (λ i. tell p.who (solid (end.0 i).sent) ++ far.is i) ∙ sym (append_assoc (tell p.who (solid two.0.sent)) two.2 far.rest) ∙ ap (λ (t : List Told). t ++ far.rest) (sym two.5);
      }

pub one_replay : (H : Type 0) → OneReplay H
one_replay H setup commands a b x y =
    plays_once setup (map state_of (first_workers setup setup.config.workers)) (stores_for (length setup.config.vms)) (placed_of commands) a b x.after y.after x.stores y.stores x.plays y.plays

pub fronts_of_one : (H : Type 0) → FrontsOfOne H
fronts_of_one H setup commands whole front a b =
    front_once setup (map state_of (first_workers setup setup.config.workers)) (stores_for (length setup.config.vms)) b.front b.more whole front a.after b.after a.stores b.stores
    (subst (λ (es : List Placed). PlaysFirst setup es whole a.after a.stores) b.is a.plays) b.plays
