-- What each VM of the configuration came to.
use Rattle.std.proofs.Common.{◌≡◌, ◌<◌, ◌∙◌, ℕ, List, [], ◌∷◌, length, map, reverse, Option, ap, arith}
use Rattle.filter_host.specs.Called.{Calling}
use Rattle.fleet.specs.Laws.{HasOne}
use Rattle.fleet.specs.Moves.{seats_in}
use Rattle.fleet.specs.Run.{Ended}
use Rattle.gate_config.specs.declared.config.Config.{Config}
use Rattle.gate_config.specs.declared.entries.VmEntry.{VmEntry}
use Rattle.gate_io.specs.Nature.{Nature}
use Rattle.gate_io.specs.declared.passed.Passed.{Passed}
use Rattle.shared_seats.specs.Closed.{ClosedOf}
use Rattle.shared_store.specs.Moving.{there}
use Rattle.worker_model.specs.State.{Standing}

module _ {W H : Type 0} (trace_of : W → Option (List Passed)) (nature_of : W → Nature) (faults_of : W → ℕ) (calling : Calling H) (first : ℕ → List ℕ → Standing H) (config : Config) (old new : List W) (closed : ClosedOf) where
  stores_len : Ended trace_of nature_of faults_of calling first config old new closed → length closed.stores ≡ length config.vms
  stores_len ended = ended.shut.as_many ∙ ended.worked.stores

  metrics_len : Ended trace_of nature_of faults_of calling first config old new closed → length closed.metrics ≡ length config.vms
  metrics_len ended = ended.shut.as_many_metrics ∙ ended.worked.metrics

  pub has_one : (vm : ℕ) → (ended : Ended trace_of nature_of faults_of calling first config old new closed) → vm < length config.vms → HasOne vm (reverse (map seats_in ended.worked.after)) closed
  has_one vm ended low =
      let s = there closed.stores vm (let e = stores_len ended in omega (arith, low, e)) in
      let m = there closed.metrics vm (let e = metrics_len ended in omega (arith, low, e)) in
      record { store = s.0; store_there = s.1; calls = ended.shut.each vm s.0 s.1; metrics = m.0; metrics_there = m.1; asks = ended.shut.metrics vm m.0 m.1 }

  pub not_fewer : (a b : VmEntry) → config.vms ≡ a ∷ b ∷ [] → length closed.stores ≡ 1 → Ended trace_of nature_of faults_of calling first config old new closed → ⊥
  not_fewer a b is one ended = let e = stores_len ended in let two : length config.vms ≡ 2 = ap (λ (l : List VmEntry). length l) is in absurd (omega (arith, one, e, two))

  pub not_more : (a b : VmEntry) → config.vms ≡ a ∷ b ∷ [] → length closed.metrics ≡ 3 → Ended trace_of nature_of faults_of calling first config old new closed → ⊥
  not_more a b is three ended = let e = metrics_len ended in let two : length config.vms ≡ 2 = ap (λ (l : List VmEntry). length l) is in absurd (omega (arith, three, e, two))
