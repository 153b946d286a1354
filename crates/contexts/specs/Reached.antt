-- What a host call may see of a worker's contexts, and what they are when it has changed some of that.
use Rattle.std.specs.Prelude.{ℕ, ◌==◌, Bool, List, [], ◌++◌, map, Option, None, Some, slice_get, slice_set, slice_index_or}
use Rattle.std.specs.Option.{option_map}
use Rattle.std.specs.List.{list_any}
use Rattle.contexts.specs.Keyed.{first_of_number, with_first_changed}
use Rattle.gate_base.specs.declared.level.Level.{Level}
use Rattle.gate_base.specs.declared.level.Level.TheVariants as levels
use Rattle.contexts.specs.declared.parts.Calls.{Calls}
use Rattle.contexts.specs.declared.parts.Own.{Own}
use Rattle.contexts.specs.declared.parts.Tick.{Tick}
use Rattle.contexts.specs.declared.parts.Context.{Context}
use Rattle.contexts.specs.declared.parts.ExchangeView.{ExchangeView}
use Rattle.contexts.specs.declared.parts.ExchangeEntry.{ExchangeEntry}
use Rattle.contexts.specs.declared.parts.Plugin.{Plugin}
use Rattle.contexts.specs.declared.parts.Effect.{Effect}
use Rattle.contexts.specs.declared.parts.VmContexts.{VmContexts}
use Rattle.contexts.specs.declared.parts.Contexts.{Contexts}

-- ---- COMMON: what each call of a VM sees, whatever its effective context is. (The event's moment and the log so far are
-- no part of the contexts: a call is given the one, and says what it puts after the other.)
pub record Common : Type 0 where
  -- the number of the least level that is logged; the names of all VMs
  pub level : ℕ
  pub names : List (List ℕ)
  -- this VM's contexts; those of them that wait for proxy_done; the effective one
  pub ids : List ℕ
  pub waiting : List ℕ
  pub effective : ℕ
  -- what was asked for in this callback, in the order of the calls
  pub effects : List Effect
  pub random_key : List ℕ
  pub random_place : ℕ
  -- of the worker: how many callouts are under way, and the last id drawn; and whether its lines are streams of bytes
  pub calls : Calls
  pub is_tcp : Bool

-- ---- REACH: what belongs to one context. Where it is not there, all of it is none, but for its VM's name and configuration.
pub record Reach : Type 0 where
  pub root : Option ℕ
  pub plugin : Option Plugin
  pub vm_name : List ℕ
  pub vm_configuration : List ℕ
  -- its own: the stages' buffers with their marks, and its properties
  pub own : Option Own
  -- its root's tick
  pub tick : Option (Option Tick)
  -- what the contexts of its exchange have in common; a root has no exchange
  pub exchange : Option ExchangeView

pub record Seen : Type 0 where
  pub common : Common
  pub reach : Reach

abbrev pub contains : ℕ → List ℕ → Bool
contains n ms = list_any (λ m. m == n) ms

-- the number of a level
abbrev pub level_no : Level → ℕ
level_no levels.Trace = 0
level_no levels.Debug = 1
level_no levels.Info = 2
level_no levels.Warn = 3
level_no levels.Error = 4
level_no levels.Critical = 5

-- ---- where they stand

abbrev pub context_no : Context → ℕ
context_no c = c.id

abbrev pub no_vm : VmContexts
no_vm = record { name = []; configuration = []; effective = 0; last = 0; waiting = []; contexts = [] }

abbrev pub vm_in : Contexts → ℕ → VmContexts
vm_in h vm = slice_index_or h.vms vm no_vm

abbrev pub context_in : Contexts → (vm e : ℕ) → Option Context
context_in h vm e = first_of_number context_no e (vm_in h vm).contexts

-- the exchange at a place; none where the place is free
abbrev pub exchange_at : List (Option ExchangeEntry) → ℕ → Option ExchangeEntry
exchange_at xs n = slice_index_or xs n None

abbrev pub view_at : List (Option ExchangeEntry) → ℕ → Option ExchangeView
view_at xs n = option_map (λ (x : ExchangeEntry). x.view) (exchange_at xs n)

abbrev pub view_in : List (Option ExchangeEntry) → Option ℕ → Option ExchangeView
view_in xs None = None
view_in xs (Some n) = view_at xs n

abbrev pub tick_in : List Context → ℕ → Option (Option Tick)
tick_in cs root = option_map (λ (c : Context). c.tick) (first_of_number context_no root cs)

abbrev pub exchange_of : Option Context → Option ℕ
exchange_of None = None
exchange_of (Some c) = c.exchange

-- ---- THE VIEW
abbrev pub common_of : Contexts → VmContexts → Common
common_of h v = record {
  level = level_no h.level;
  names = map (λ (w : VmContexts). w.name) h.vms;
  ids = map context_no v.contexts;
  waiting = v.waiting;
  effective = v.effective;
  effects = h.effects;
  random_key = h.random_key;
  random_place = h.random_place;
  calls = h.calls;
  is_tcp = h.is_tcp;
}

abbrev pub reach_by : Contexts → VmContexts → Option Context → Reach
reach_by h v None = record { root = None; plugin = None; vm_name = v.name; vm_configuration = v.configuration; own = None; tick = None; exchange = None }
reach_by h v (Some c) = record {
  root = Some c.root;
  plugin = slice_get h.plugins c.plugin;
  vm_name = v.name;
  vm_configuration = v.configuration;
  own = Some c.own;
  tick = tick_in v.contexts c.root;
  exchange = view_in h.exchanges c.exchange;
}

-- what a call of that VM sees, whose effective context is e
abbrev pub seen_of : Contexts → (vm e : ℕ) → Seen
seen_of h vm e = record { common = common_of h (vm_in h vm); reach = reach_by h (vm_in h vm) (context_in h vm e) }

abbrev pub effective_of : Contexts → ℕ → ℕ
effective_of h vm = (vm_in h vm).effective

abbrev pub seen : Contexts → ℕ → Seen
seen h vm = seen_of h vm (effective_of h vm)

-- ---- CHANGES: what a call makes of what it may change. What is none stays.
pub record Changes : Type 0 where
  pub waiting : Option (List ℕ)
  pub effective : Option ℕ
  -- after the others
  pub effects : List Effect
  pub random_place : Option ℕ
  pub own : Option Own
  pub tick : Option (Option Tick)
  pub exchange : Option ExchangeView

abbrev pub no_changes : Changes
no_changes = record { waiting = None; effective = None; effects = []; random_place = None; own = None; tick = None; exchange = None }

abbrev pub or_old : {A : Type 0} → A → Option A → A
or_old a None = a
or_old a (Some b) = b

-- the member of a number changed, where there is a change
abbrev pub changed_by : {A B : Type 0} → (A → ℕ) → ℕ → (B → A → A) → Option B → List A → List A
changed_by number k f None xs = xs
changed_by number k f (Some b) xs = with_first_changed number k (f b) xs

abbrev pub with_own : Own → Context → Context
with_own o c = record c { own = o }

abbrev pub with_tick : Option Tick → Context → Context
with_tick t c = record c { tick = t }

abbrev pub with_view : ExchangeView → ExchangeEntry → ExchangeEntry
with_view s x = record x { view = s }

abbrev pub contexts_after : Changes → ℕ → Option Context → List Context → List Context
contexts_after r e None cs = cs
contexts_after r e (Some c) cs = changed_by context_no c.root with_tick r.tick (changed_by context_no e with_own r.own cs)

-- the exchange at a place changed, where there is a change
abbrev pub viewed_by : ℕ → Option ExchangeView → List (Option ExchangeEntry) → List (Option ExchangeEntry)
viewed_by n None xs = xs
viewed_by n (Some s) xs = slice_set xs n (option_map (with_view s) (exchange_at xs n))

abbrev pub exchanges_by : Changes → Option ℕ → List (Option ExchangeEntry) → List (Option ExchangeEntry)
exchanges_by r None xs = xs
exchanges_by r (Some n) xs = viewed_by n r.exchange xs

abbrev pub exchanges_after : Changes → Option Context → List (Option ExchangeEntry) → List (Option ExchangeEntry)
exchanges_after r None xs = xs
exchanges_after r (Some c) xs = exchanges_by r c.exchange xs

abbrev pub vm_after : Changes → ℕ → Option Context → VmContexts → VmContexts
vm_after s e o v = record v { effective = or_old v.effective s.effective; waiting = or_old v.waiting s.waiting; contexts = contexts_after s e o v.contexts }

-- THE CONTEXTS AFTERWARDS, where the call was one of that VM, and e was its effective context
abbrev pub put_of : Changes → (vm e : ℕ) → Contexts → Contexts
put_of s vm e h = record h {
  vms = slice_set h.vms vm (vm_after s e (context_in h vm e) (vm_in h vm));
  exchanges = exchanges_after s (context_in h vm e) h.exchanges;
  effects = h.effects ++ s.effects;
  random_place = or_old h.random_place s.random_place;
}

abbrev pub put : Changes → ℕ → Contexts → Contexts
put s vm h = put_of s vm (effective_of h vm) h

-- ---- the same of what is seen: what is not there is not made

abbrev pub fitted : {A : Type 0} → Option A → Option A → Option A
fitted None b = None
fitted (Some a) b = Some (or_old a b)

abbrev pub seen_after : Changes → Seen → Seen
seen_after t s = record {
  common = record s.common { waiting = or_old s.common.waiting t.waiting; effective = or_old s.common.effective t.effective; effects = s.common.effects ++ t.effects; random_place = or_old s.common.random_place t.random_place };
  reach = record s.reach { own = fitted s.reach.own t.own; tick = fitted s.reach.tick t.tick; exchange = fitted s.reach.exchange t.exchange };
}
