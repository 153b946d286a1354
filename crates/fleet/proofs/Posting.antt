-- The seats of all posts go on.
use Rattle.std.proofs.Common.{◌≡◌, ◌≤◌, ◌∙◌, ℕ, List, All, Result, Ok, Err, IfOk, IfErr, Some, None, inl, map, reverse, Option, length, ap, sym, subst}
use Rattle.filter_host.specs.Called.{Calling}
use lib.ListN.{length-map}
use Rattle.gate_config.specs.declared.config.Config.{Config}
use Rattle.gate_io.specs.Nature.{Nature}
use Rattle.gate_io.specs.declared.passed.Passed.{Passed}
use Rattle.shared_seats.specs.Closed.{ClosedOf}
use Rattle.shared_seats.specs.Moving.{SeatsGoOn, seats_nothing, seats_joined}
use Rattle.shared_seats.specs.Seats.{AreAt, SeatsOf, TablesOf}
use Rattle.shared_seats.specs.Workers.{AreShut, ListsGoOn, WentOn}
use Rattle.shared_store.specs.Tables.{table_of}
use Rattle.turn_table.specs.Seats.{TurnTableId}
use Rattle.fleet.specs.Fleet.{Each, HasWorked, IsReady}
use Rattle.worker_model.specs.State.{Standing}
use Rattle.fleet.specs.Made.{made_in}
use Rattle.fleet.specs.Moves.{seats_in, world_in}
use Rattle.fleet.specs.Run.{Worked, Ran, end_of}
use Rattle.fleet.specs.declared.post.Post.{Post}
use Rattle.fleet.specs.declared.run.FleetEnd.{FleetEnd}
use Rattle.fleet.specs.declared.run.FleetEnd.TheVariants as fleet_ends
use Rattle.fleet.proofs.Calls.{lives_made}
use Rattle.fleet.proofs.Causes.{all_clean}
use Rattle.fleet.proofs.Eaches.{all_of, each_at, each_len, each_map, each_reverse, every_back, every_of, every_so}

module _ {W H : Type 0} (trace_of : W → Option (List Passed)) (nature_of : W → Nature) (faults_of : W → ℕ) (calling : Calling H) (first : ℕ → List ℕ → Standing H) where
  one_went : (p q : Post W) → HasWorked trace_of nature_of faults_of calling first p q → WentOn (seats_in p) (seats_in q)
  one_went p q h = record { calls = made_in calling SeatsGoOn _ _ _ _ _ _ _ h.lives; goes = lives_made calling SeatsGoOn seats_nothing seats_joined _ _ _ _ _ _ _ h.lives }

  pub all_went : (before after : List (Post W)) → Each (HasWorked trace_of nature_of faults_of calling first) before after → ListsGoOn (reverse (map seats_in before)) (reverse (map seats_in after))
  all_went before after h =
      let each : Each WentOn (reverse (map seats_in before)) (reverse (map seats_in after)) =
      each_reverse WentOn (map seats_in before) (map seats_in after) (each_map (HasWorked trace_of nature_of faults_of calling first) WentOn seats_in seats_in one_went before after h) in
      record {
        as_many = each_len WentOn (reverse (map seats_in before)) (reverse (map seats_in after)) each;
        each = λ w l m at_l at_m. each_at WentOn w (reverse (map seats_in before)) (reverse (map seats_in after)) l m each at_l at_m;
      }

enough : (tables : TablesOf) (seats : SeatsOf) (n : ℕ) → n ≤ length tables.stores → AreAt tables seats → n ≤ length seats.stores
enough tables seats n low at = subst (λ (k : ℕ). n ≤ k) (sym (ap (λ (ts : List TurnTableId). length ts) at.stores) ∙ length-map seats.stores table_of) low

pub all_ready : {W : Type 0} (tables : TablesOf) (config : Config) (posts : List (Post W)) (lists : List SeatsOf) → length config.vms ≤ length tables.stores → reverse (map seats_in posts) ≡ lists → All (AreAt tables) lists
    → All (λ (p : Post W). IsReady tables config p) posts
all_ready {W} tables config posts lists low is at =
    let At : SeatsOf → Type 0 = AreAt tables in
    let every = every_back At seats_in posts (every_of At (reverse (map seats_in posts)) (subst (λ (ls : List SeatsOf). All At ls) (sym is) at)) in
    all_of (λ (p : Post W). IsReady tables config p) posts (every_so (λ (p : Post W). At (seats_in p)) (λ (p : Post W). IsReady tables config p) (λ p a. (a, enough tables p.seats (length config.vms) low a)) posts every)

pub ran : {W H : Type 0} (trace_of : W → Option (List Passed)) (nature_of : W → Nature) (faults_of : W → ℕ) (calling : Calling H) (first : ℕ → List ℕ → Standing H) (config : Config) (old new : List W)
    (result : Result ClosedOf FleetEnd) (end : Option FleetEnd) → (worked : Worked trace_of nature_of faults_of calling first config old new)
    → ((closed : ClosedOf) × AreShut worked.tables (reverse (map seats_in worked.after)) closed) → IfOk result (AreShut worked.tables (reverse (map seats_in worked.after))) → end ≡ end_of worked.after
    → IfOk result (λ closed. end ≡ None) → IfErr result (λ e. end ≡ Some e) → Ran trace_of nature_of faults_of calling first config old new result
ran trace_of nature_of faults_of calling first config old new (Ok closed) end worked some shut is none err =
    record { ended = record { worked = worked; shut = shut }; clean = all_clean trace_of nature_of faults_of calling first worked.before worked.after worked.worked (sym is ∙ none) }
ran trace_of nature_of faults_of calling first config old new (Err fleet_ends.WorldFault) end worked some shut is none err =
    record { closed = some.0; ended = record { worked = worked; shut = some.1 }; cause_is = sym is ∙ err }
ran trace_of nature_of faults_of calling first config old new (Err fleet_ends.OutOfMemory) end worked some shut is none err =
    inl (record { closed = some.0; ended = record { worked = worked; shut = some.1 }; cause_is = sym is ∙ err })

pub as_many_worlds : {W H : Type 0} (trace_of : W → Option (List Passed)) (nature_of : W → Nature) (faults_of : W → ℕ) (calling : Calling H) (first : ℕ → List ℕ → Standing H) (before after : List (Post W)) (old new : List W)
    → Each (HasWorked trace_of nature_of faults_of calling first) before after → reverse (map world_in before) ≡ old → new ≡ reverse (map world_in after) → length new ≡ length old
as_many_worlds {W} trace_of nature_of faults_of calling first before after old new each old_is new_is =
    let R : W → W → Type 0 = λ x y. Unit {0} in
    let paired : Each R (reverse (map world_in before)) (reverse (map world_in after)) =
    each_reverse R (map world_in before) (map world_in after) (each_map (HasWorked trace_of nature_of faults_of calling first) R world_in world_in (λ x y w. tt) before after each) in
    ap (λ (l : List W). length l) new_is ∙ each_len R (reverse (map world_in before)) (reverse (map world_in after)) paired ∙ ap (λ (l : List W). length l) old_is

pub as_many_stores : {E : Type 0} (result : Result ClosedOf E) (tables : TablesOf) (lists : List SeatsOf) (n : ℕ) → length tables.stores ≡ n → IfOk result (AreShut tables lists) → IfOk result (λ closed. length closed.stores ≡ n)
as_many_stores (Ok closed) tables lists n is shut = shut.as_many ∙ is
as_many_stores (Err e) tables lists n is shut = tt

pub as_many_metrics : {E : Type 0} (result : Result ClosedOf E) (tables : TablesOf) (lists : List SeatsOf) (n : ℕ) → length tables.metrics ≡ n → IfOk result (AreShut tables lists) → IfOk result (λ closed. length closed.metrics ≡ n)
as_many_metrics (Ok closed) tables lists n is shut = shut.as_many_metrics ∙ is
as_many_metrics (Err e) tables lists n is shut = tt
