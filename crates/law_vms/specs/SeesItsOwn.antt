-- What a callback of a VM does depends on nothing that other VMs have.
use Rattle.std.specs.Prelude.{◌≡◌, ◌≢◌, ℕ, List, length, map, Some, slice_get}
use Rattle.contexts.specs.declared.parts.Context.{Context}
use Rattle.contexts.specs.declared.parts.Contexts.{Contexts}
use Rattle.contexts.specs.declared.parts.VmContexts.{VmContexts}
use Rattle.contexts.specs.Reached.{vm_in, context_in, view_at}
use Rattle.filter_host.specs.Called.{Called}
use Rattle.filter_host.specs.declared.host.Callback.{Callback}
use Rattle.store_model.specs.Program.{Program, done, ask, measure}
use Rattle.store_model.specs.declared.call.Reply.{Reply}
use Rattle.store_model.specs.declared.metric.MetricReply.{MetricReply}
use Rattle.vm_host.specs.declared.slots.Vms.{Vms}
use Rattle.vm_host.specs.Slots.{slot_in, calling}
use Rattle.law_vms.specs.Apart.{AllEnds}
use Rattle.law_vms.specs.OwnChanges.{ArePlaced, HasNoneAt}

-- Two programs go in step: they ask the same of the same shared stores, for equal replies once more, and their ends are related so.
abbrev pub InStep : {A B : Type 0} → (A → B → Type 0) → Program A → Program B → Type 0
InStep R (done a) (done b) = R a b
InStep R (done a) (ask wm other l) = ⊥
InStep R (done a) (measure wm other l) = ⊥
InStep R (ask vm call k) (done b) = ⊥
InStep R (ask vm call k) (ask wm other l) = (vm ≡ wm) × (call ≡ other) × ((r : Reply) → InStep R (k r) (l r))
InStep R (ask vm call k) (measure wm other l) = ⊥
InStep R (measure vm asked k) (done b) = ⊥
InStep R (measure vm asked k) (ask wm other l) = ⊥
InStep R (measure vm asked k) (measure wm other l) = (vm ≡ wm) × (asked ≡ other) × ((r : MetricReply) → InStep R (k r) (l r))

abbrev pub names_of : Contexts → List (List ℕ)
names_of h = map (λ (w : VmContexts). w.name) h.vms

-- Contexts look the same to a VM: they agree on what the VM has itself, on the plug-ins and on the exchanges of its contexts, and on what all VMs
-- have in common: their names, the log's level, what the callback asked for so far, the random stream, how many callouts are under way, and whether
-- lines are HTTP. Of what other VMs have they may differ
-- in everything but the name; and in exchanges and plug-ins of which the VM has no context.
pub record LookTheSame (vm : ℕ) (h k : Contexts) : Type 0 where
  pub own : vm_in h vm ≡ vm_in k vm
  pub plugins : (e : ℕ) (c : Context) → context_in h vm e ≡ Some c → slice_get h.plugins c.plugin ≡ slice_get k.plugins c.plugin
  pub views : (e n : ℕ) (c : Context) → context_in h vm e ≡ Some c → c.exchange ≡ Some n → view_at h.exchanges n ≡ view_at k.exchanges n
  pub names : names_of h ≡ names_of k
  pub level : h.level ≡ k.level
  pub effects : h.effects ≡ k.effects
  pub random_key : h.random_key ≡ k.random_key
  pub random_place : h.random_place ≡ k.random_place
  pub calls : h.calls ≡ k.calls
  pub is_tcp : h.is_tcp ≡ k.is_tcp

-- two callbacks of a VM came to the same: the same end, the same lines, the same machine, and contexts that look the same to it
pub record ComeToTheSame (vm : ℕ) (c d : Called Vms) : Type 0 where
  pub end : c.end ≡ d.end
  pub lines : c.lines ≡ d.lines
  pub slot : slot_in c.host vm ≡ slot_in d.host vm
  pub contexts : LookTheSame vm c.contexts d.contexts

-- A CALLBACK SEES NOTHING OF OTHER VMS: two workers of as many VMs, of which this one has the same machine and sees the same; whatever the others
-- have, and whatever the module does
abbrev pub CallbacksSeeTheirOwn : Type 0
CallbacksSeeTheirOwn =
    (v w : Vms) (vm : ℕ) (name : Callback) (context first second now : ℕ) (h k : Contexts) → ArePlaced v → length v.slots ≡ length w.slots
    → slot_in v vm ≡ slot_in w vm → LookTheSame vm h k
    → InStep (ComeToTheSame vm) (calling v vm name context first second now h) (calling w vm name context first second now k)

-- two VMs have no context of one and the same exchange
abbrev pub ShareNone : Contexts → (vm other : ℕ) → Type 0
ShareNone h vm other = (e n : ℕ) (c : Context) → context_in h other e ≡ Some c → c.exchange ≡ Some n → HasNoneAt h vm n

-- the contexts afterwards, with the effects and the place in the random stream that they had before
abbrev pub but_for_those : (before after : Contexts) → Contexts
but_for_those before after = record after { effects = before.effects; random_place = before.random_place }

-- NO OTHER VM SEES WHAT A CALLBACK DID, where the two share no exchange: but for what it asked for, which the worker takes out after it, and for
-- the place in the random stream, from which all VMs of a worker draw
abbrev pub CallbacksAreUnseen : Type 0
CallbacksAreUnseen =
    (v : Vms) (vm other : ℕ) (name : Callback) (context first second now : ℕ) (contexts : Contexts) → ArePlaced v → other ≢ vm → ShareNone contexts vm other
    → AllEnds (λ c. LookTheSame other contexts (but_for_those contexts c.contexts)) (calling v vm name context first second now contexts)
