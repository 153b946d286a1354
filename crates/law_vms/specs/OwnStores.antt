-- Which shared stores a callback asks.
use Rattle.std.specs.Prelude.{◌≡◌, ◌<◌, ℕ, length, Some}
use Rattle.abi_services.specs.Queues.{vm_of_queue}
use Rattle.contexts.specs.declared.parts.Context.{Context}
use Rattle.contexts.specs.declared.parts.Contexts.{Contexts}
use Rattle.contexts.specs.Reached.{context_in}
use Rattle.filter_host.specs.declared.host.Callback.{Callback}
use Rattle.store_model.specs.Program.{Program, done, ask, measure}
use Rattle.store_model.specs.declared.call.Call.{Call}
use Rattle.store_model.specs.declared.call.Call.TheVariants as store
use Rattle.store_model.specs.declared.call.Reply.{Reply}
use Rattle.store_model.specs.declared.metric.MetricAsk.{MetricAsk}
use Rattle.store_model.specs.declared.metric.MetricReply.{MetricReply}
use Rattle.vm_host.specs.declared.slots.Vms.{Vms}
use Rattle.vm_host.specs.Slots.{calling}
use Rattle.law_vms.specs.OwnChanges.{ArePlaced}

-- so is each call that a program makes of a store, and each ask of the metrics, by the number of the store, whatever is replied
abbrev pub AsksOnly : {A : Type 0} → (ℕ → Call → Type 0) → (ℕ → MetricAsk → Type 0) → Program A → Type 0
AsksOnly C M (done a) = Unit {0}
AsksOnly C M (ask n call k) = C n call × ((r : Reply) → AsksOnly C M (k r))
AsksOnly C M (measure n asked k) = M n asked × ((r : MetricReply) → AsksOnly C M (k r))

-- the root of some context of a VM
abbrev pub IsRootOf : Contexts → (vm root : ℕ) → Type 0
IsRootOf h vm root = (e : ℕ) × (c : Context) × (context_in h vm e ≡ Some c) × (c.root ≡ root)

-- What a callback of a VM calls: values of the VM's own store alone. A queue is registered in its own too, with the root of one of its contexts
-- to be told of items; it is looked up, and used by its id, in that of any VM there is. Notices are the worker's.
abbrev pub IsCallOf : Contexts → (vm number : ℕ) → Call → Type 0
IsCallOf h vm n (store.Get key) = n ≡ vm
IsCallOf h vm n (store.Set key value number) = n ≡ vm
IsCallOf h vm n (store.Register name root) = (n ≡ vm) × IsRootOf h vm root
IsCallOf h vm n (store.Resolve name) = n < length h.vms
IsCallOf h vm n (store.Enqueue queue item) = (n < length h.vms) × (n ≡ vm_of_queue queue)
IsCallOf h vm n (store.Dequeue queue) = (n < length h.vms) × (n ≡ vm_of_queue queue)
IsCallOf h vm n store.Notice = ⊥

-- metrics are the VM's own
abbrev pub IsMeasureOf : (vm number : ℕ) → MetricAsk → Type 0
IsMeasureOf vm n asked = n ≡ vm

-- NO CALLBACK ASKS ANOTHER VM'S STORE for values or metrics
abbrev pub CallbacksAskTheirOwn : Type 0
CallbacksAskTheirOwn =
    (v : Vms) (vm : ℕ) (name : Callback) (context first second now : ℕ) (contexts : Contexts) → ArePlaced v
    → AsksOnly (IsCallOf contexts vm) (IsMeasureOf vm) (calling v vm name context first second now contexts)
