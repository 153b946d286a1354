-- A part's call is the store's.
use Rattle.std.proofs.Common.{◌≡◌, ℕ, List, Result, Ok, Err, refl, sym, ap, ◌∙◌}
use Rattle.std.specs.Prelude.{OnOk, OnErr}
use Rattle.store_model.specs.Keys.{Keys, used_by_keys}
use Rattle.store_model.specs.Queues.{Queues}
use Rattle.store_model.specs.Store.{Store, Answer, applied, takes_no_memory}
use Rattle.store_model.specs.Parts.{IsQueueCall, queues_reply, queues_after, queues_take_no_memory, queues_applied, queues_sure}
use Rattle.store_model.specs.declared.call.Call.{Call}
use Rattle.store_model.specs.declared.call.Call.TheVariants.{Get, Set, Register, Resolve, Enqueue, Dequeue, Notice}
use Rattle.store_model.specs.declared.used.Used.{Used}

pub on_ok : {X E P Q : Type 0} (r : Result X E) → (P → Q) → OnOk r P → OnOk r Q
on_ok (Ok x) f p = f p
on_ok (Err e) f p = tt

pub on_err : {X E P Q : Type 0} (r : Result X E) → (P → Q) → OnErr r P → OnErr r Q
on_err (Ok x) f p = tt
on_err (Err e) f p = f p

-- a call that is no Get and no Set
pub queue_call : (call : Call) → ((k : List ℕ) → call ≡ Get k → ⊥) → ((k v : List ℕ) (n : ℕ) → call ≡ Set k v n → ⊥) → IsQueueCall call
queue_call (Get key) get set = absurd (get key refl)
queue_call (Set key value number) get set = absurd (set key value number refl)
queue_call (Register name root) get set = tt
queue_call (Resolve name) get set = tt
queue_call (Enqueue queue item) get set = tt
queue_call (Dequeue queue) get set = tt
queue_call Notice get set = tt

module _ (d : Keys) (q : Queues) (s : Store) (who : ℕ) (call : Call) (other : Used) where
  pub reply_is : record { keys = d; queues = q } ≡ s → IsQueueCall call → other ≡ used_by_keys d → queues_reply other q who call ≡ (applied s who call).reply
  reply_is view own used =
      let t : Store = record { keys = d; queues = q } in
      ap (λ u. queues_reply u q who call) used ∙ sym (ap (λ (a : Answer). a.reply) (queues_applied t who call own)) ∙ ap (λ x. (applied x who call).reply) view

  pub store_is : record { keys = d; queues = q } ≡ s → IsQueueCall call → other ≡ used_by_keys d → record { keys = d; queues = queues_after other q who call } ≡ (applied s who call).store
  store_is view own used =
      let t : Store = record { keys = d; queues = q } in
      (λ i. record { keys = d; queues = queues_after (used i) q who call }) ∙ sym (ap (λ (a : Answer). a.store) (queues_applied t who call own)) ∙ ap (λ x. (applied x who call).store) view

  pub sure_is : record { keys = d; queues = q } ≡ s → IsQueueCall call → takes_no_memory call s ≡ queues_take_no_memory call
  sure_is view own =
      let t : Store = record { keys = d; queues = q } in
      ap (takes_no_memory call) (sym view) ∙ queues_sure t call own
