-- What a callback of a VM changes among the contexts of its worker.
use Rattle.std.specs.Prelude.{◌≡◌, ◌≢◌, ℕ, List, length, map, Option, None, Some}
use Rattle.std.specs.Option.{option_map}
use Rattle.contexts.specs.declared.parts.Context.{Context}
use Rattle.contexts.specs.declared.parts.Contexts.{Contexts}
use Rattle.contexts.specs.declared.parts.ExchangeEntry.{ExchangeEntry}
use Rattle.contexts.specs.Reached.{vm_in, context_in, exchange_at}
use Rattle.filter_host.specs.declared.host.Callback.{Callback}
use Rattle.vm_host.specs.declared.slots.Vms.{Vms}
use Rattle.vm_host.specs.Slots.{slot_in, first_slot, no_slot, calling}
use Rattle.vm_host.specs.Vms.{VmAt}
use Rattle.law_vms.specs.Apart.{AllEnds}
use Rattle.wasm_syntax.specs.declared.module.Module.{Module}

-- ---- a machine stands at the number of its contexts

abbrev pub IsPlaced : ℕ → Option VmAt → Type 0
IsPlaced vm None = Unit {0}
IsPlaced vm (Some live) = live.calls.place ≡ vm

abbrev pub ArePlaced : Vms → Type 0
ArePlaced v = (vm : ℕ) → IsPlaced vm (slot_in v vm).live

-- of a VM that begins it is so, and of one that is never started
pub record PlacesBegin : Type 0 where
  pub first : (place : ℕ) (m : Module) (pages fuel : ℕ) → IsPlaced place (first_slot place m pages fuel).live
  pub none : (place : ℕ) → IsPlaced place no_slot.live

-- and it stays so
abbrev pub PlacesStay : Type 0
PlacesStay =
    (v : Vms) (vm : ℕ) (name : Callback) (context first second now : ℕ) (contexts : Contexts) → ArePlaced v
    → AllEnds (λ c. ArePlaced c.host) (calling v vm name context first second now contexts)

-- ---- what is changed

-- a context's id, its plug-in, its root and its exchange
abbrev pub outline : Context → ℕ × ℕ × ℕ × Option ℕ
outline c = (c.id, c.plugin, c.root, c.exchange)

abbrev pub outlines : Contexts → (vm : ℕ) → List (ℕ × ℕ × ℕ × Option ℕ)
outlines h vm = map outline (vm_in h vm).contexts

abbrev pub line_at : Contexts → (n : ℕ) → Option ℕ
line_at h n = option_map (λ (x : ExchangeEntry). x.line) (exchange_at h.exchanges n)

-- no context of a VM is of the exchange at a place
abbrev pub HasNoneAt : Contexts → (vm n : ℕ) → Type 0
HasNoneAt h vm n = (e : ℕ) (c : Context) → context_in h vm e ≡ Some c → c.exchange ≢ Some n

-- From contexts to those that a VM made of them: every other VM has what it had, with all contexts, ids, ticks and properties, and so has an
-- exchange of which the VM has no context. Of its own the name, the configuration, the last id and each context's outline stay. There are as
-- many VMs and as many places for exchanges, each exchange on its line; and the plug-ins, the log's level, the random key, the
-- callouts and the kind of the lines stay.
pub record ChangesItsOwn (vm : ℕ) (before after : Contexts) : Type 0 where
  pub others : (other : ℕ) → other ≢ vm → vm_in after other ≡ vm_in before other
  pub exchanges : (n : ℕ) → HasNoneAt before vm n → exchange_at after.exchanges n ≡ exchange_at before.exchanges n
  pub name : (vm_in after vm).name ≡ (vm_in before vm).name
  pub configuration : (vm_in after vm).configuration ≡ (vm_in before vm).configuration
  pub last : (vm_in after vm).last ≡ (vm_in before vm).last
  pub outlined : outlines after vm ≡ outlines before vm
  pub count : length after.vms ≡ length before.vms
  pub places : length after.exchanges ≡ length before.exchanges
  pub lines : (n : ℕ) → line_at after n ≡ line_at before n
  pub plugins : after.plugins ≡ before.plugins
  pub level : after.level ≡ before.level
  pub random_key : after.random_key ≡ before.random_key
  pub calls : after.calls ≡ before.calls
  pub is_tcp : after.is_tcp ≡ before.is_tcp

-- NO CALLBACK CHANGES WHAT ANOTHER VM HAS
abbrev pub CallbacksChangeTheirOwn : Type 0
CallbacksChangeTheirOwn =
    (v : Vms) (vm : ℕ) (name : Callback) (context first second now : ℕ) (contexts : Contexts) → ArePlaced v
    → AllEnds (λ c. ChangesItsOwn vm contexts c.contexts) (calling v vm name context first second now contexts)
