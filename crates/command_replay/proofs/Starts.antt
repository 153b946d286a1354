-- The workers that play a script may do their first turns.
use Rattle.std.proofs.Common.{◌≡◌, ◌≤◌, ℕ, zero, suc, ◌+◌, List, [], ◌∷◌, ◌++◌, length, refl, ap, sym, ◌∙◌, subst, arith, length-append}
use Rattle.std.specs.Prelude.{All}
use Rattle.shared_store.specs.Fresh.{fresh_stores}
use Rattle.store_model.specs.Sequential.{Stores}
use Rattle.store_model.specs.Store.{empty_store}
use Rattle.worker_model.specs.State.{Standing}
use Rattle.command_replay.specs.Replay.{Setup, CanTurn, Seated, first_worker, first_workers, stores_for}

-- so many stores are so many
stores_count : (n : ℕ) → length (fresh_stores n) ≡ n
stores_count zero = refl
stores_count (suc n) =
    let all = length-append (fresh_stores n) (empty_store n ∷ []) in
    let less = stores_count n in
    omega (arith, all, less)

-- so many workers are so many
pub workers_count : {H : Type 0} (setup : Setup H) (n : ℕ) → length (first_workers setup n) ≡ n
workers_count setup zero = refl
workers_count setup (suc n) =
    let all = length-append (first_workers setup n) (first_worker setup (suc n) ∷ []) in
    let less = workers_count setup n in
    omega (arith, all, less)

-- a worker that is new is seated
pub seated_first : {H : Type 0} (needs : H → ℕ) (setup : Setup H) (who : ℕ) (worker : Standing H) → worker ≡ first_worker setup who → needs setup.host ≤ length setup.config.vms
    → Seated needs (length setup.config.vms) worker
seated_first {H} needs setup who worker is enough =
    subst (Seated needs (length setup.config.vms)) (sym is) (record { vms = omega arith; enough = enough; nothing_waits = refl })

-- one more worker
pub workers_more : {H : Type 0} (setup : Setup H) (n who : ℕ) (workers new : List (Standing H)) (worker : Standing H) → workers ≡ first_workers setup n → worker ≡ first_worker setup who → who ≡ n + 1
    → new ≡ workers ++ (worker ∷ []) → new ≡ first_workers setup (n + 1)
workers_more setup n who workers new worker so_far is who_is added =
    added ∙ (λ i. so_far i ++ (is i ∷ [])) ∙ ap (λ (k : ℕ). first_workers setup n ++ (first_worker setup k ∷ [])) (who_is ∙ next) ∙ ap (first_workers setup) (sym next)
  where
    next : n + 1 ≡ suc n
    next = omega arith

-- the stores are as many as the VMs
pub can_start : {H : Type 0} (needs : H → ℕ) (workers : List (Standing H)) (vms : ℕ) (shared : Stores) → All (Seated needs vms) workers → shared ≡ stores_for vms → CanTurn needs workers shared
can_start needs workers vms shared all is =
    subst (λ (n : ℕ). All (Seated needs n) workers) (sym (ap (λ (s : Stores). length s.stores) is ∙ stores_count vms)) all
