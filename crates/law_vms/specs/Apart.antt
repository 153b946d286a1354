-- What a callback of one VM leaves of the others.
use Rattle.std.specs.Prelude.{◌≡◌, ◌≢◌, ℕ, length, Option, None}
use Rattle.contexts.specs.declared.parts.Contexts.{Contexts}
use Rattle.filter_host.specs.Called.{Called}
use Rattle.filter_host.specs.declared.host.CallbackEnd.{CallbackEnd}
use Rattle.filter_host.specs.declared.host.CallbackEnd.TheVariants as call_end
use Rattle.filter_host.specs.declared.host.Callback.{Callback}
use Rattle.store_model.specs.Program.{Program, done, ask, measure}
use Rattle.store_model.specs.declared.call.Reply.{Reply}
use Rattle.store_model.specs.declared.metric.MetricReply.{MetricReply}
use Rattle.vm_host.specs.declared.slots.Vms.{Vms}
use Rattle.vm_host.specs.Slots.{slot_in, calling}
use Rattle.vm_host.specs.Vms.{VmAt}

-- so is each end that a program may come to, whatever the shared stores reply
abbrev pub AllEnds : {A : Type 0} → (A → Type 0) → Program A → Type 0
AllEnds P (done a) = P a
AllEnds P (ask vm call k) = (r : Reply) → AllEnds P (k r)
AllEnds P (measure vm asked k) = (r : MetricReply) → AllEnds P (k r)

-- where a callback died, its VM is no more
abbrev pub IsGone : CallbackEnd → Option VmAt → Type 0
IsGone (call_end.Returned value) live = Unit {0}
IsGone (call_end.Died death) live = live ≡ None

-- What a callback of a VM left of the VMs: as many as there were; every other one as it was; of its own what is known of its module; and where
-- the callback died, its VM is no more
pub record IsApart (before : Vms) (vm : ℕ) (c : Called Vms) : Type 0 where
  pub count : length c.host.slots ≡ length before.slots
  pub others : (other : ℕ) → other ≢ vm → slot_in c.host other ≡ slot_in before other
  pub functions : (slot_in c.host vm).functions ≡ (slot_in before vm).functions
  pub registers : (slot_in c.host vm).registers ≡ (slot_in before vm).registers
  pub gone : IsGone c.end (slot_in c.host vm).live

-- NO CALLBACK REACHES ANOTHER VM
abbrev pub CallbacksAreApart : Type 0
CallbacksAreApart =
    (v : Vms) (vm : ℕ) (name : Callback) (context first second now : ℕ) (contexts : Contexts)
    → AllEnds (IsApart v vm) (calling v vm name context first second now contexts)
