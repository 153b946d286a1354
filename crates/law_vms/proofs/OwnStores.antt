-- A callback asks the stores of its own VM.
use Rattle.std.proofs.Common.{◌≡◌, ℕ, ◌<◌, ◌==◌, ◌&&◌, ◌||◌, Bool, true, false, length, Option, None, Some, refl, ap, ◌∙◌, subst, sym, nat_lt, nat_le, if◌then◌else◌, List, []}
use Rattle.std.proofs.lemmas.Bool.{ltb-true, false≢true}
use Rattle.std.proofs.lemmas.List.{length-map}
use Rattle.std.proofs.lemmas.Option.{none-some}
use Rattle.std.specs.Option.{option_map}
use Rattle.abi_calls.specs.Hosting.{Hosted, of_called, asking, hosting, wasi_hosting}
use Rattle.abi_model.specs.Asking.{Asking, asks}
use Rattle.abi_model.specs.Calls.{called, only, ending}
use Rattle.abi_model.specs.Rows.{all_inside, input_bytes}
use Rattle.abi_model.specs.Table.{arg, row_of}
use Rattle.abi_model.specs.declared.ends.Outcome.{Outcome}
use Rattle.abi_model.specs.declared.table.HostCall.{HostCall}
use Rattle.abi_model.specs.declared.table.HostCall.TheVariants as call
use Rattle.abi_model.specs.declared.table.Param.{Param}
use Rattle.abi_model.specs.declared.table.WasiCall.{WasiCall}
use Rattle.abi_model.specs.declared.table.WasiCall.TheVariants as wasi
use Rattle.abi_services.specs.Data.{own_get_shared_data, own_set_shared_data}
use Rattle.abi_services.specs.Metrics.{own_define_metric, own_increment_metric, own_record_metric, own_get_metric, kind_of, was_defined, defining}
use Rattle.abi_services.specs.Queues.{own_register_shared_queue, own_resolve_shared_queue, own_dequeue_shared_queue, own_enqueue_shared_queue, is_vm, registering, id_or_absent, resolving, vm_named, vm_of_queue, item_in, was_put}
use Rattle.abi_types.specs.GuestAt.{GuestAt}
use Rattle.contexts.proofs.Places.{from_some}
use Rattle.contexts.specs.Reached.{Seen, no_changes, seen, vm_in, context_in, effective_of, reach_by}
use Rattle.contexts.specs.declared.parts.Context.{Context}
use Rattle.contexts.specs.declared.parts.Contexts.{Contexts}
use Rattle.contexts.specs.declared.parts.VmContexts.{VmContexts}
use Rattle.filter_host.specs.Called.{called_back}
use Rattle.filter_host.specs.declared.host.CallbackEnd.TheVariants as call_end
use Rattle.filter_host.specs.declared.host.Callback.{Callback}
use Rattle.store_model.specs.Program.{Program, done, ask, measure, bind}
use Rattle.store_model.specs.declared.call.Call.{Call}
use Rattle.store_model.specs.declared.call.Call.TheVariants as store
use Rattle.store_model.specs.declared.call.Reply.{Reply}
use Rattle.store_model.specs.declared.metric.MetricAsk.TheVariants as metric
use Rattle.vm_host.specs.Slots.{silent, calling_live, calling_slot, is_at_home, slot_in, with_live, calling}
use Rattle.vm_host.specs.Vms.{VmAt}
use Rattle.law_vms.proofs.Ends.{AllAlong, along_asks, asks_then, asks_along, asks_if}
use Rattle.law_vms.proofs.Looking.{outline_kept}
use Rattle.law_vms.proofs.OwnChanges.{both_left, same_outline, own_same, IsOwn, own_step}
use Rattle.law_vms.proofs.Whole.{CameKeeps, live_keeps}
use Rattle.law_vms.specs.OwnChanges.{IsPlaced, outline, ChangesItsOwn}
use Rattle.law_vms.specs.OwnStores.{AsksOnly, IsRootOf, IsCallOf, IsMeasureOf, CallbacksAskTheirOwn}

both_right : (a b : Bool) → (a && b) ≡ true → b ≡ true
both_right true b is = is
both_right false b is = absurd (false≢true is)

-- what it may ask, of contexts that were before it
module _ (vm : ℕ) (h : Contexts) where
  abbrev Asks : {A : Type 0} → Program A → Type 0
  Asks p = AsksOnly (IsCallOf h vm) (IsMeasureOf vm) p

  row_asks : (row : List Param) (own : Asking) (args : List ℕ) (g : GuestAt) (s : Seen) → Asks (own vm args (input_bytes g.config.store.memory row args) s)
      → AllAlong (IsCallOf h vm) (IsMeasureOf vm) (λ (c : Hosted). Unit {0}) (asking row own vm args g s)
  row_asks row own args g s only_these =
      asks_along (IsCallOf h vm) (IsMeasureOf vm) (asking row own vm args g s)
      (asks_then (IsCallOf h vm) (IsMeasureOf vm) (asks row own vm args g s) of_called
      (asks_if (IsCallOf h vm) (IsMeasureOf vm) (all_inside g.config.store.memory row 0 args)
      (bind (own vm args (input_bytes g.config.store.memory row args) s) (λ o. done (ending 6 row args g o))) (done (called 6 g))
      (asks_then (IsCallOf h vm) (IsMeasureOf vm) (own vm args (input_bytes g.config.store.memory row args) s) (ending 6 row args g) only_these) tt))

  -- ---- queues

  is_there : (n : ℕ) (names : List (List ℕ)) → length names ≡ length h.vms → is_vm n names ≡ true → n < length h.vms
  is_there n names many is = subst (λ m. n < m) many (ltb-true n (length names) (both_right (nat_le n 15) (nat_lt n (length names)) is))

  of_any : (b : Bool) (n : ℕ) (c : Call) (answer : Reply → Outcome) → (b ≡ true → IsCallOf h vm n c) → Asks (if b then ask n c (λ r. done (answer r)) else done (only 1))
  of_any true n c answer may = (may refl, λ r. tt)
  of_any false n c answer may = tt

  resolves : (o : Option ℕ) (name : List ℕ) (names : List (List ℕ)) → length names ≡ length h.vms → Asks (resolving o name names)
  resolves None name names many = tt
  resolves (Some n) name names many = of_any (is_vm n names) n (store.Resolve name) id_or_absent (is_there n names many)

  registers : (name : List ℕ) (o : Option ℕ) → ((root : ℕ) → o ≡ Some root → IsRootOf h vm root) → Asks (registering vm name o)
  registers name None roots = tt
  registers name (Some root) roots = ((refl, roots root refl), λ r. tt)

  -- ---- metrics

  defines : (type : ℕ) (name : List ℕ) → Asks (defining vm type name)
  defines type name =
      asks_if (IsCallOf h vm) (IsMeasureOf vm) (nat_lt 2 type || ((length name == 0) || nat_lt 256 (length name))) (done (only 2))
      (if type == 2 then done (only 12) else measure vm (metric.Define (kind_of type) name) (λ r. done (was_defined r))) tt
      (asks_if (IsCallOf h vm) (IsMeasureOf vm) (type == 2) (done (only 12)) (measure vm (metric.Define (kind_of type) name) (λ r. done (was_defined r))) tt (refl, λ r. tt))

  -- ---- each call

  module _ (k : Contexts) (own : ChangesItsOwn vm h k) where
    abbrev Along : Program Hosted → Type 0
    Along p = AllAlong (IsCallOf h vm) (IsMeasureOf vm) (λ (c : Hosted). Unit {0}) p

    many_names : length (seen k vm).common.names ≡ length h.vms
    many_names = length-map k.vms (λ (w : VmContexts). w.name) ∙ own.count

    root_in : (v : VmContexts) (o : Option Context) (root : ℕ) → (reach_by k v o).root ≡ Some root → (c : Context) × (o ≡ Some c) × (c.root ≡ root)
    root_in v None root is = absurd (none-some root is)
    root_in v (Some c) root is = (c, refl, from_some is)

    root_of : (root : ℕ) → (seen k vm).reach.root ≡ Some root → IsRootOf h vm root
    root_of root is =
        let e = effective_of k vm in
        let there = root_in (vm_in k vm) (context_in k vm e) root is in
        let was = outline_kept (context_in h vm e) there.0 (ap (option_map outline) (sym there.1) ∙ same_outline h k vm e own.outlined) in
        (e, was.0, was.1, sym (ap (λ (y : ℕ × ℕ × ℕ × Option ℕ). y.2) was.2) ∙ there.2)

    env_asks : (c : HostCall) (now : ℕ) (args : List ℕ) (g : GuestAt) → Along (hosting c now vm args g (seen k vm))
    env_asks call.Log now args g = tt
    env_asks call.GetLogLevel now args g = tt
    env_asks call.GetCurrentTimeNanoseconds now args g = tt
    env_asks call.SetTickPeriodMilliseconds now args g = tt
    env_asks call.SetEffectiveContext now args g = tt
    env_asks call.Done now args g = tt
    env_asks call.GetBufferBytes now args g = tt
    env_asks call.GetBufferStatus now args g = tt
    env_asks call.SetBufferBytes now args g = tt
    env_asks call.GetHeaderMapPairs now args g = tt
    env_asks call.SetHeaderMapPairs now args g = tt
    env_asks call.GetHeaderMapSize now args g = tt
    env_asks call.GetHeaderMapValue now args g = tt
    env_asks call.AddHeaderMapValue now args g = tt
    env_asks call.ReplaceHeaderMapValue now args g = tt
    env_asks call.RemoveHeaderMapValue now args g = tt
    env_asks call.ContinueStream now args g = tt
    env_asks call.CloseStream now args g = tt
    env_asks call.SendLocalResponse now args g = tt
    env_asks call.HttpCall now args g = tt
    env_asks call.GetSharedData now args g = row_asks (row_of call.GetSharedData) own_get_shared_data args g (seen k vm) (refl, λ r. tt)
    env_asks call.SetSharedData now args g = row_asks (row_of call.SetSharedData) own_set_shared_data args g (seen k vm) (refl, λ r. tt)
    env_asks call.RegisterSharedQueue now args g = row_asks (row_of call.RegisterSharedQueue) own_register_shared_queue args g (seen k vm) (registers (input_bytes g.config.store.memory (row_of call.RegisterSharedQueue) args).first (seen k vm).reach.root root_of)
    env_asks call.ResolveSharedQueue now args g = row_asks (row_of call.ResolveSharedQueue) own_resolve_shared_queue args g (seen k vm) (resolves (vm_named (input_bytes g.config.store.memory (row_of call.ResolveSharedQueue) args).first (seen k vm).common.names) (input_bytes g.config.store.memory (row_of call.ResolveSharedQueue) args).second (seen k vm).common.names many_names)
    env_asks call.DequeueSharedQueue now args g =
        let names = (seen k vm).common.names in
        row_asks (row_of call.DequeueSharedQueue) own_dequeue_shared_queue args g (seen k vm)
        (of_any (is_vm (vm_of_queue (arg args 0)) names) (vm_of_queue (arg args 0)) (store.Dequeue (arg args 0)) item_in (λ is. (is_there (vm_of_queue (arg args 0)) names many_names is, refl)))
    env_asks call.EnqueueSharedQueue now args g =
        let names = (seen k vm).common.names in
        let item = (input_bytes g.config.store.memory (row_of call.EnqueueSharedQueue) args).first in
        row_asks (row_of call.EnqueueSharedQueue) own_enqueue_shared_queue args g (seen k vm)
        (of_any (is_vm (vm_of_queue (arg args 0)) names) (vm_of_queue (arg args 0)) (store.Enqueue (arg args 0) item) was_put (λ is. (is_there (vm_of_queue (arg args 0)) names many_names is, refl)))
    env_asks call.GetProperty now args g = tt
    env_asks call.SetProperty now args g = tt
    env_asks call.DefineMetric now args g = row_asks (row_of call.DefineMetric) own_define_metric args g (seen k vm) (defines (arg args 0) (input_bytes g.config.store.memory (row_of call.DefineMetric) args).first)
    env_asks call.IncrementMetric now args g = row_asks (row_of call.IncrementMetric) own_increment_metric args g (seen k vm) (refl, λ r. tt)
    env_asks call.RecordMetric now args g = row_asks (row_of call.RecordMetric) own_record_metric args g (seen k vm) (refl, λ r. tt)
    env_asks call.GetMetric now args g = row_asks (row_of call.GetMetric) own_get_metric args g (seen k vm) (refl, λ r. tt)

    wasi_asks : (c : WasiCall) (now : ℕ) (args : List ℕ) (g : GuestAt) → Along (wasi_hosting c now vm args g (seen k vm))
    wasi_asks wasi.FdWrite now args g = tt
    wasi_asks wasi.ClockTimeGet now args g = tt
    wasi_asks wasi.RandomGet now args g = tt
    wasi_asks wasi.EnvironGet now args g = tt
    wasi_asks wasi.ArgsGet now args g = tt
    wasi_asks wasi.EnvironSizesGet now args g = tt
    wasi_asks wasi.ArgsSizesGet now args g = tt
    wasi_asks wasi.ProcExit now args g = tt

-- ---- a callback

live_asks : (v : VmAt) (name : Callback) (context first second now : ℕ) (h : Contexts) → v.calls.place < length h.vms
    → AsksOnly (IsCallOf h v.calls.place) (IsMeasureOf v.calls.place) (calling_live v name context first second now h)
live_asks v name context first second now h there =
    let vm = v.calls.place in
    along_asks (IsCallOf h vm) (IsMeasureOf vm) (CameKeeps v.calls (IsOwn vm h)) (calling_live v name context first second now h)
    (live_keeps v.calls (IsCallOf h vm) (IsMeasureOf vm) (IsOwn vm h) (λ s c. Unit {0})
    (λ s c is good. own_step c.changes vm h s.contexts is.0 is.1)
    (λ s e is. own_step (record no_changes { effective = Some e }) vm h s.contexts is.0 is.1)
    (λ c n args g s is. env_asks vm h s.contexts is.1 c n args g)
    (λ c n args g s is. wasi_asks vm h s.contexts is.1 c n args g)
    v name context first second now h refl (there, own_same vm h))

home_asks : (b : Bool) (most : ℕ) (v : VmAt) (name : Callback) (context first second now : ℕ) (h : Contexts) → is_at_home most v.calls.place h ≡ b
    → AsksOnly (IsCallOf h v.calls.place) (IsMeasureOf v.calls.place) (if b then calling_live v name context first second now h else done (silent (Some v) h))
home_asks true most v name context first second now h home =
    live_asks v name context first second now h (ltb-true v.calls.place (length h.vms) (both_left (nat_lt v.calls.place (length h.vms)) (nat_le (length h.vms) most) home))
home_asks false most v name context first second now h home = tt

slot_asks : (most vm : ℕ) (o : Option VmAt) (name : Callback) (context first second now : ℕ) (h : Contexts) → IsPlaced vm o
    → AsksOnly (IsCallOf h vm) (IsMeasureOf vm) (calling_slot most o name context first second now h)
unfolding calling_slot
slot_asks most vm None name context first second now h placed = tt
slot_asks most vm (Some v) name context first second now h placed =
    subst (λ n. AsksOnly (IsCallOf h n) (IsMeasureOf n) (calling_slot most (Some v) name context first second now h)) placed
    (home_asks (is_at_home most v.calls.place h) most v name context first second now h refl)

pub ask_their_own : CallbacksAskTheirOwn
unfolding calling
ask_their_own v vm name context first second now h placed =
    asks_if (IsCallOf h vm) (IsMeasureOf vm) (nat_lt vm (length v.slots))
    (bind (calling_slot (length v.slots) (slot_in v vm).live name context first second now h) (λ c. done (called_back c.end c.lines (with_live vm c.live v) c.contexts)))
    (done (called_back (call_end.Returned None) [] v h))
    (asks_then (IsCallOf h vm) (IsMeasureOf vm) (calling_slot (length v.slots) (slot_in v vm).live name context first second now h) (λ c. called_back c.end c.lines (with_live vm c.live v) c.contexts)
    (slot_asks (length v.slots) vm (slot_in v vm).live name context first second now h (placed vm)))
    tt
