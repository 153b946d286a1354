-- What of a VM never changes.
use Rattle.std.proofs.Common.{◌≡◌, ℕ, zero, suc, ◌<◌, Bool, true, false, length, List, [], ◌∷◌, Option, None, Some, refl, ap, ◌∙◌, subst, sym, nat_lt, nat_eq, map, slice_get, if◌then◌else◌}
use Rattle.std.proofs.lemmas.Bool.{ltb-true, eqb-true, eqb-false}
use Rattle.std.specs.Prelude.{◌&&◌}
use Rattle.abi_calls.specs.Hosting.{Hosted, hosting, wasi_hosting, of_called, asking}
use Rattle.abi_maps.specs.Buffers.{own_get_buffer_bytes, own_get_buffer_status, own_set_buffer_bytes}
use Rattle.abi_maps.specs.Maps.{own_get_header_map_pairs, own_set_header_map_pairs, own_get_header_map_size, own_get_header_map_value, own_add_header_map_value, own_replace_header_map_value, own_remove_header_map_value}
use Rattle.abi_maps.specs.Streams.{own_continue_stream, own_close_stream, own_send_local_response}
use Rattle.abi_memory.specs.Giving.{Gave, gave, refused, no_allocator, gave_trapped, gave_spent, gave_open, has_place, numbered, numbering, has_room, placed, placing, placing_at, giving_by, giving}
use Rattle.abi_memory.specs.declared.give.Place.{Place}
use Rattle.abi_model.specs.Asking.{Asking, asks}
use Rattle.abi_model.specs.Calls as model
use Rattle.abi_model.specs.Calls.{Own, Does, does, does_made, ending, finishing, gave_then, handing, told, told_at, writing_at}
use Rattle.abi_model.specs.Rows.{all_inside, places_of, input_bytes}
use Rattle.abi_model.specs.Table.{arg, row_of, wasi_row_of}
use Rattle.abi_model.specs.Writing.{Writing, Writes, writes, writes_logged}
use Rattle.abi_model.specs.declared.ends.Gives.{Gives}
use Rattle.abi_model.specs.declared.ends.Gives.TheVariants.{Nothing, Bytes, Number, Numbers, BytesAndNumber, Wide, Written}
use Rattle.abi_model.specs.declared.ends.Outcome.{Outcome}
use Rattle.abi_model.specs.declared.ends.Places.{Places}
use Rattle.abi_model.specs.declared.table.HostCall.{HostCall}
use Rattle.abi_model.specs.declared.table.HostCall.TheVariants as call
use Rattle.abi_model.specs.declared.table.Param.{Param}
use Rattle.abi_model.specs.declared.table.WasiCall.{WasiCall}
use Rattle.abi_model.specs.declared.table.WasiCall.TheVariants as wasi
use Rattle.abi_services.specs.Callouts.{own_http_call}
use Rattle.abi_services.specs.Data.{own_get_shared_data, own_set_shared_data}
use Rattle.abi_services.specs.Files.{are_inside, fd_writes, file_written, pieces}
use Rattle.abi_services.specs.Local.{own_get_log_level, own_get_current_time, own_set_tick_period, own_set_effective_context, own_done}
use Rattle.abi_services.specs.Logging.{own_log}
use Rattle.abi_services.specs.Metrics.{own_define_metric, own_increment_metric, own_record_metric, own_get_metric}
use Rattle.abi_services.specs.Properties.{own_get_property, own_set_property}
use Rattle.abi_services.specs.Queues.{own_register_shared_queue, own_resolve_shared_queue, own_dequeue_shared_queue, own_enqueue_shared_queue}
use Rattle.abi_services.specs.Wasi.{own_clock_time_get, own_random_get, own_nothing, own_no_sizes}
use Rattle.abi_types.specs.GuestAt.{GuestAt, wrote, Alloced, alloc_gave, alloc_none, alloc_trapped, alloc_spent, alloc_open, gave_number, alloced, closed_host, invoked_at, allocating_by, allocating}
use Rattle.contexts.specs.Reached.{Seen, no_changes, seen}
use Rattle.contexts.specs.declared.parts.Contexts.{Contexts}
use Rattle.filter_host.specs.Called.{called_back}
use Rattle.filter_host.specs.declared.host.CallbackEnd.TheVariants as call_end
use Rattle.filter_host.specs.declared.host.Callback.{Callback}
use Rattle.abi_links.specs.Numbers.{number_of}
use Rattle.abi_links.specs.declared.target.ImportTarget.{ImportTarget}
use Rattle.abi_links.specs.declared.target.ImportTarget.TheVariants as target
use Rattle.store_model.specs.Program.{Program, done, bind}
use Rattle.vm_host.specs.Calling.{Abi, Called, called, call_trapped, call_spent, call_open, Returned, returned, run_trapped, run_spent, run_open, asked_at, answered_at, begun_at, serve_result, running_by, running as steps_of, calling_back}
use Rattle.vm_host.specs.Dispatching.{ends_as, served_as, serve_calls, wasi_call, by_target, by_found, dispatching}
use Rattle.vm_host.specs.HostStates.{HostState, host_state}
use Rattle.vm_host.specs.RoleTypes.{function_for, beginner_in, numbers_for, counts_at}
use Rattle.vm_host.specs.Slots.{Came, silent, came_of, by_role, role_of, calling_live, calling_slot, is_at_home, slot_in, with_live, calling}
use Rattle.vm_host.specs.Vms.{VmAt, Ran, ran_as, with_budget, running, running_if, begins_then, calling_if, made_effective}
use Rattle.vm_host.specs.declared.dispatch.Dispatcher.{Dispatcher}
use Rattle.vm_host.specs.declared.roles.Role.{Role}
use Rattle.vm_host.specs.declared.slots.Slot.{Slot}
use Rattle.vm_host.specs.declared.slots.Vms.{Vms}
use Rattle.law_vms.proofs.Apart.{with_other, with_own}
use Rattle.law_vms.proofs.Ends.{all_then, all_done, all_weaker}
use Rattle.law_vms.proofs.Lasting.{KeptBy}
use Rattle.law_vms.proofs.Lives.{all_of, goes_so, life_so}
use Rattle.law_vms.specs.Apart.{AllEnds}
use Rattle.law_vms.specs.Bounds.{fixed, IsSameVm, IsOf, AreOf, VmsKeepTheirBounds}
use Rattle.wasm_syntax.specs.Memory.{bytes_of}
use Rattle.wasm_syntax.specs.ReductionRuns.{Stopped, has_finished, has_asked, has_trapped, has_spent, goes_on, is_stuck, run, enough, run_hosted}
use Rattle.wasm_syntax.specs.declared.types.Value.{Value}
use Rattle.wasm_syntax.specs.declared.types.Value.TheVariants.{I32, I64}

choice : {A : Type 0} (P : A → Type 0) (b : Bool) (x y : A) → P x → P y → P (if b then x else y)
choice P true x y here there = here
choice P false x y here there = there

-- ---- what is given to a guest

abbrev SameGave : GuestAt → Gave → Type 0
SameGave g (gave d) = fixed d ≡ fixed g
SameGave g (refused d) = fixed d ≡ fixed g
SameGave g (no_allocator d) = fixed d ≡ fixed g
SameGave g (gave_trapped c n) = Unit {0}
SameGave g (gave_spent n) = Unit {0}
SameGave g gave_open = Unit {0}

-- what is so of a guest is so of the one that it was
gave_since : (g d : GuestAt) (x : Gave) → fixed d ≡ fixed g → SameGave d x → SameGave g x
gave_since g d (gave e) was is = is ∙ was
gave_since g d (refused e) was is = is ∙ was
gave_since g d (no_allocator e) was is = is ∙ was
gave_since g d (gave_trapped c n) was is = tt
gave_since g d (gave_spent n) was is = tt
gave_since g d gave_open was is = tt

numbering_same : (at v : ℕ) (g : GuestAt) → SameGave g (numbering at v g)
numbering_same at v g = choice (SameGave g) (has_place at 4 g) (gave (numbered at v g)) (refused g) refl refl

writing_same : (at : ℕ) (bytes : List ℕ) (g : GuestAt) → SameGave g (writing_at at bytes g)
writing_same at bytes g = choice (SameGave g) (has_place at (length bytes) g) (gave (wrote at bytes g)) (refused g) refl refl

placing_same : (ptr : ℕ) (bytes : List ℕ) (p : Place) (g : GuestAt) → SameGave g (placing ptr bytes p g)
placing_same ptr bytes p g = choice (SameGave g) (has_room ptr (length bytes) p g) (gave (placed ptr bytes p g)) (refused g) refl refl

placing_at_same : (ptr : ℕ) (bytes : List ℕ) (p : Place) (g : GuestAt) → SameGave g (placing_at ptr bytes p g)
placing_at_same zero bytes p g = refl
placing_at_same (suc ptr) bytes p g = placing_same (suc ptr) bytes p g

abbrev SameAlloced : GuestAt → Alloced → Type 0
SameAlloced g (alloc_gave n d) = fixed d ≡ fixed g
SameAlloced g (alloc_none d) = fixed d ≡ fixed g
SameAlloced g (alloc_trapped c n) = Unit {0}
SameAlloced g (alloc_spent n) = Unit {0}
SameAlloced g alloc_open = Unit {0}

number_same : (o : Option Value) (g d : GuestAt) → fixed d ≡ fixed g → SameAlloced g (gave_number o d)
number_same None g d is = tt
number_same (Some (I32 n)) g d is = is
number_same (Some (I64 n)) g d is = tt

alloced_same : (g : GuestAt) (s : Stopped) → SameAlloced g (alloced g s)
alloced_same g (has_finished v d n) = number_same v g (record g { config = d; fuel = n }) refl
alloced_same g (has_asked x args d n) = tt
alloced_same g (has_trapped c n) = tt
alloced_same g (has_spent n) = tt
alloced_same g goes_on = tt
alloced_same g is_stuck = tt

by_allocator : (o : Option ℕ) (len : ℕ) (g : GuestAt) → SameAlloced g (allocating_by o len g)
by_allocator None len g = refl
by_allocator (Some f) len g = alloced_same g (run_hosted (closed_host g.closed) g.program g.fuel tt (invoked_at f (I32 len ∷ []) g)).stopped

by_alloced : (g : GuestAt) (a : Alloced) (bytes : List ℕ) (p : Place) → SameAlloced g a → SameGave g (giving_by a bytes p)
by_alloced g (alloc_gave ptr d) bytes p is = gave_since g d (placing_at ptr bytes p d) is (placing_at_same ptr bytes p d)
by_alloced g (alloc_none d) bytes p is = is
by_alloced g (alloc_trapped c n) bytes p is = tt
by_alloced g (alloc_spent n) bytes p is = tt
by_alloced g alloc_open bytes p is = tt

giving_same : (bytes : List ℕ) (p : Place) (g : GuestAt) → SameGave g (giving bytes p g)
giving_same [] p g = placing_same 0 [] p g
giving_same (b ∷ bs) p g = by_alloced g (allocating (length (b ∷ bs)) g) (b ∷ bs) p (by_allocator g.allocator (length (b ∷ bs)) g)

then_same : (g : GuestAt) (x : Gave) (go : GuestAt → Gave) → SameGave g x → ((d : GuestAt) → SameGave d (go d)) → SameGave g (gave_then x go)
then_same g (gave d) go is more = gave_since g d (go d) is (more d)
then_same g (refused d) go is more = is
then_same g (no_allocator d) go is more = is
then_same g (gave_trapped c n) go is more = tt
then_same g (gave_spent n) go is more = tt
then_same g gave_open go is more = tt

handing_same : (x : Gives) (p : Places) (g : GuestAt) → SameGave g (handing x p g)
handing_same Nothing p g = refl
handing_same (Bytes bs) p g = giving_same bs (told_at p) g
handing_same (Number n) p g = numbering_same p.first n g
handing_same (Numbers n m) p g = then_same g (numbering p.first n g) (λ d. numbering p.second m d) (numbering_same p.first n g) (λ d. numbering_same p.second m d)
handing_same (BytesAndNumber bs n) p g = then_same g (giving bs (told_at p) g) (λ d. numbering p.third n d) (giving_same bs (told_at p) g) (λ d. numbering_same p.third n d)
handing_same (Wide n) p g = writing_same p.first (bytes_of 8 n) g
handing_same (Written bs) p g = writing_same p.first bs g

-- ---- host calls

abbrev SameCalled : GuestAt → model.Called → Type 0
SameCalled g (model.called status d) = fixed d ≡ fixed g
SameCalled g (model.called_trapped c n) = Unit {0}
SameCalled g (model.called_spent n) = Unit {0}
SameCalled g model.called_open = Unit {0}

finishing_same : (g : GuestAt) (outside status : ℕ) (x : Gave) → SameGave g x → SameCalled g (finishing outside status x)
finishing_same g outside status (gave d) is = is
finishing_same g outside status (refused d) is = is
finishing_same g outside status (no_allocator d) is = is
finishing_same g outside status (gave_trapped c n) is = tt
finishing_same g outside status (gave_spent n) is = tt
finishing_same g outside status gave_open is = tt

ending_same : (outside : ℕ) (row : List Param) (args : List ℕ) (g : GuestAt) (o : Outcome) → SameCalled g (ending outside row args g o)
ending_same outside row args g o = finishing_same g outside o.status (handing o.gives (places_of row args) g) (handing_same o.gives (places_of row args) g)

abbrev SameHosted : GuestAt → Hosted → Type 0
SameHosted g h = SameCalled g h.called

locally_same : (outside : ℕ) (row : List Param) (own : Own) (args : List ℕ) (g : GuestAt) (s : Seen) → SameCalled g (does outside row own args g s).called
locally_same outside row own args g s =
    choice (λ (d : Does). SameCalled g d.called) (all_inside g.config.store.memory row 0 args)
    (does_made outside row args g (own args (input_bytes g.config.store.memory row args) s)) (record { called = model.called outside g; changes = no_changes })
    (ending_same outside row args g (told (own args (input_bytes g.config.store.memory row args) s))) refl

writing_row_same : (outside : ℕ) (row : List Param) (own : Writing) (args : List ℕ) (g : GuestAt) (s : Seen) → SameCalled g (writes outside row own args g s).called
writing_row_same outside row own args g s =
    choice (λ (w : Writes). SameCalled g w.called) (all_inside g.config.store.memory row 0 args)
    (writes_logged outside row args g (own args (input_bytes g.config.store.memory row args) s)) (record { called = model.called outside g; lines = [] })
    (ending_same outside row args g (own args (input_bytes g.config.store.memory row args) s).outcome) refl

files_same : (args : List ℕ) (g : GuestAt) (s : Seen) → SameCalled g (fd_writes args g s).called
files_same args g s =
    let m = g.config.store.memory in
    choice (λ (w : Writes). SameCalled g w.called) (all_inside m (wasi_row_of wasi.FdWrite) 0 args && are_inside m (arg args 1) (arg args 2))
    (writes_logged 21 (wasi_row_of wasi.FdWrite) args g (file_written (arg args 0) (pieces m (arg args 1) (arg args 2)) s)) (record { called = model.called 21 g; lines = [] })
    (ending_same 21 (wasi_row_of wasi.FdWrite) args g (file_written (arg args 0) (pieces m (arg args 1) (arg args 2)) s).outcome) refl

asks_same : (row : List Param) (own : Asking) (vm : ℕ) (args : List ℕ) (g : GuestAt) (s : Seen) → AllEnds (SameCalled g) (asks row own vm args g s)
asks_same row own vm args g s =
    choice (AllEnds (SameCalled g)) (all_inside g.config.store.memory row 0 args)
    (bind (own vm args (input_bytes g.config.store.memory row args) s) (λ o. done (ending 6 row args g o))) (done (model.called 6 g))
    (all_done (SameCalled g) (own vm args (input_bytes g.config.store.memory row args) s) (λ o. ending 6 row args g o) (λ o. ending_same 6 row args g o)) refl

asking_same : (row : List Param) (own : Asking) (vm : ℕ) (args : List ℕ) (g : GuestAt) (s : Seen) → AllEnds (SameHosted g) (asking row own vm args g s)
asking_same row own vm args g s =
    all_then (SameCalled g) (SameHosted g) (asks row own vm args g s) (λ c. done (of_called c)) (asks_same row own vm args g s) (λ c is. is)

hosting_same : (c : HostCall) (now vm : ℕ) (args : List ℕ) (g : GuestAt) (s : Seen) → AllEnds (SameHosted g) (hosting c now vm args g s)
hosting_same call.Log now vm args g s = writing_row_same 6 (row_of call.Log) own_log args g s
hosting_same call.GetLogLevel now vm args g s = locally_same 6 (row_of call.GetLogLevel) own_get_log_level args g s
hosting_same call.GetCurrentTimeNanoseconds now vm args g s = locally_same 6 (row_of call.GetCurrentTimeNanoseconds) (own_get_current_time now) args g s
hosting_same call.SetTickPeriodMilliseconds now vm args g s = locally_same 6 (row_of call.SetTickPeriodMilliseconds) (own_set_tick_period now) args g s
hosting_same call.SetEffectiveContext now vm args g s = locally_same 6 (row_of call.SetEffectiveContext) own_set_effective_context args g s
hosting_same call.Done now vm args g s = locally_same 6 (row_of call.Done) own_done args g s
hosting_same call.GetBufferBytes now vm args g s = locally_same 6 (row_of call.GetBufferBytes) own_get_buffer_bytes args g s
hosting_same call.GetBufferStatus now vm args g s = locally_same 6 (row_of call.GetBufferStatus) own_get_buffer_status args g s
hosting_same call.SetBufferBytes now vm args g s = locally_same 6 (row_of call.SetBufferBytes) own_set_buffer_bytes args g s
hosting_same call.GetHeaderMapPairs now vm args g s = locally_same 6 (row_of call.GetHeaderMapPairs) own_get_header_map_pairs args g s
hosting_same call.SetHeaderMapPairs now vm args g s = locally_same 6 (row_of call.SetHeaderMapPairs) own_set_header_map_pairs args g s
hosting_same call.GetHeaderMapSize now vm args g s = locally_same 6 (row_of call.GetHeaderMapSize) own_get_header_map_size args g s
hosting_same call.GetHeaderMapValue now vm args g s = locally_same 6 (row_of call.GetHeaderMapValue) own_get_header_map_value args g s
hosting_same call.AddHeaderMapValue now vm args g s = locally_same 6 (row_of call.AddHeaderMapValue) own_add_header_map_value args g s
hosting_same call.ReplaceHeaderMapValue now vm args g s = locally_same 6 (row_of call.ReplaceHeaderMapValue) own_replace_header_map_value args g s
hosting_same call.RemoveHeaderMapValue now vm args g s = locally_same 6 (row_of call.RemoveHeaderMapValue) own_remove_header_map_value args g s
hosting_same call.ContinueStream now vm args g s = locally_same 6 (row_of call.ContinueStream) own_continue_stream args g s
hosting_same call.CloseStream now vm args g s = locally_same 6 (row_of call.CloseStream) own_close_stream args g s
hosting_same call.SendLocalResponse now vm args g s = locally_same 6 (row_of call.SendLocalResponse) own_send_local_response args g s
hosting_same call.HttpCall now vm args g s = locally_same 6 (row_of call.HttpCall) (own_http_call vm) args g s
hosting_same call.GetSharedData now vm args g s = asking_same (row_of call.GetSharedData) own_get_shared_data vm args g s
hosting_same call.SetSharedData now vm args g s = asking_same (row_of call.SetSharedData) own_set_shared_data vm args g s
hosting_same call.RegisterSharedQueue now vm args g s = asking_same (row_of call.RegisterSharedQueue) own_register_shared_queue vm args g s
hosting_same call.ResolveSharedQueue now vm args g s = asking_same (row_of call.ResolveSharedQueue) own_resolve_shared_queue vm args g s
hosting_same call.DequeueSharedQueue now vm args g s = asking_same (row_of call.DequeueSharedQueue) own_dequeue_shared_queue vm args g s
hosting_same call.EnqueueSharedQueue now vm args g s = asking_same (row_of call.EnqueueSharedQueue) own_enqueue_shared_queue vm args g s
hosting_same call.GetProperty now vm args g s = locally_same 6 (row_of call.GetProperty) own_get_property args g s
hosting_same call.SetProperty now vm args g s = locally_same 6 (row_of call.SetProperty) own_set_property args g s
hosting_same call.DefineMetric now vm args g s = asking_same (row_of call.DefineMetric) own_define_metric vm args g s
hosting_same call.IncrementMetric now vm args g s = asking_same (row_of call.IncrementMetric) own_increment_metric vm args g s
hosting_same call.RecordMetric now vm args g s = asking_same (row_of call.RecordMetric) own_record_metric vm args g s
hosting_same call.GetMetric now vm args g s = asking_same (row_of call.GetMetric) own_get_metric vm args g s

wasi_same : (c : WasiCall) (now vm : ℕ) (args : List ℕ) (g : GuestAt) (s : Seen) → AllEnds (SameHosted g) (wasi_hosting c now vm args g s)
wasi_same wasi.FdWrite now vm args g s = files_same args g s
wasi_same wasi.ClockTimeGet now vm args g s = locally_same 21 (wasi_row_of wasi.ClockTimeGet) (own_clock_time_get now) args g s
wasi_same wasi.RandomGet now vm args g s = locally_same 21 (wasi_row_of wasi.RandomGet) own_random_get args g s
wasi_same wasi.EnvironGet now vm args g s = locally_same 21 (wasi_row_of wasi.EnvironGet) own_nothing args g s
wasi_same wasi.ArgsGet now vm args g s = locally_same 21 (wasi_row_of wasi.ArgsGet) own_nothing args g s
wasi_same wasi.EnvironSizesGet now vm args g s = locally_same 21 (wasi_row_of wasi.EnvironSizesGet) own_no_sizes args g s
wasi_same wasi.ArgsSizesGet now vm args g s = locally_same 21 (wasi_row_of wasi.ArgsSizesGet) own_no_sizes args g s
wasi_same wasi.ProcExit now vm args g s = tt

-- ---- a host call of a VM

abbrev SameAnswered : {H : Type 0} → GuestAt → Called H → Type 0
SameAnswered g (called v d h) = fixed d ≡ fixed g
SameAnswered g (call_trapped c n h) = Unit {0}
SameAnswered g (call_spent n h) = Unit {0}
SameAnswered g call_open = Unit {0}

as_served : (g : GuestAt) (x : model.Called) (s : HostState) → SameCalled g x → SameAnswered g (ends_as x s)
as_served g (model.called status d) s is = is
as_served g (model.called_trapped c n) s is = tt
as_served g (model.called_spent n) s is = tt
as_served g model.called_open s is = tt

serving_same : (place : ℕ) (s : HostState) (g : GuestAt) (p : Program Hosted) → AllEnds (SameHosted g) p → AllEnds (SameAnswered g) (serve_calls place s p)
serving_same place s g p is = all_then (SameHosted g) (SameAnswered g) p (λ h. done (served_as place s h)) is (λ h same. as_served g h.called _ same)

wasi_call_same : (c : WasiCall) (place now : ℕ) (s : HostState) (args : List Value) (g : GuestAt) → AllEnds (SameAnswered g) (wasi_call c place now s args g)
wasi_call_same wasi.FdWrite place now s args g = serving_same place s g (wasi_hosting wasi.FdWrite now place (map number_of args) g (seen s.contexts place)) (wasi_same wasi.FdWrite now place (map number_of args) g (seen s.contexts place))
wasi_call_same wasi.ClockTimeGet place now s args g = serving_same place s g (wasi_hosting wasi.ClockTimeGet now place (map number_of args) g (seen s.contexts place)) (wasi_same wasi.ClockTimeGet now place (map number_of args) g (seen s.contexts place))
wasi_call_same wasi.RandomGet place now s args g = serving_same place s g (wasi_hosting wasi.RandomGet now place (map number_of args) g (seen s.contexts place)) (wasi_same wasi.RandomGet now place (map number_of args) g (seen s.contexts place))
wasi_call_same wasi.EnvironGet place now s args g = serving_same place s g (wasi_hosting wasi.EnvironGet now place (map number_of args) g (seen s.contexts place)) (wasi_same wasi.EnvironGet now place (map number_of args) g (seen s.contexts place))
wasi_call_same wasi.ArgsGet place now s args g = serving_same place s g (wasi_hosting wasi.ArgsGet now place (map number_of args) g (seen s.contexts place)) (wasi_same wasi.ArgsGet now place (map number_of args) g (seen s.contexts place))
wasi_call_same wasi.EnvironSizesGet place now s args g = serving_same place s g (wasi_hosting wasi.EnvironSizesGet now place (map number_of args) g (seen s.contexts place)) (wasi_same wasi.EnvironSizesGet now place (map number_of args) g (seen s.contexts place))
wasi_call_same wasi.ArgsSizesGet place now s args g = serving_same place s g (wasi_hosting wasi.ArgsSizesGet now place (map number_of args) g (seen s.contexts place)) (wasi_same wasi.ArgsSizesGet now place (map number_of args) g (seen s.contexts place))
wasi_call_same wasi.ProcExit place now s args g = tt

target_same : (k : ImportTarget) (place now : ℕ) (s : HostState) (args : List Value) (g : GuestAt) → AllEnds (SameAnswered g) (by_target k place now s args g)
target_same (target.Proxy c) place now s args g = serving_same place s g (hosting c now place (map number_of args) g (seen s.contexts place)) (hosting_same c now place (map number_of args) g (seen s.contexts place))
target_same target.OtherProxy place now s args g = refl
target_same target.MemoryGrowth place now s args g = refl
target_same (target.Wasi c) place now s args g = wasi_call_same c place now s args g
target_same target.OtherWasi place now s args g = refl

found_same : (o : Option ImportTarget) (place now : ℕ) (s : HostState) (args : List Value) (g : GuestAt) → AllEnds (SameAnswered g) (by_found o place now s args g)
found_same None place now s args g = tt
found_same (Some k) place now s args g = target_same k place now s args g

dispatching_same : (d : Dispatcher) (now : ℕ) (s : HostState) (x : ℕ) (args : List Value) (g : GuestAt) → AllEnds (SameAnswered g) (dispatching d now s x args g)
unfolding dispatching
dispatching_same d now s x args g = found_same (slice_get d.targets x) d.place now s args g

-- ---- a run

abbrev SameReturned : {H : Type 0} → GuestAt → Returned H → Type 0
SameReturned g (returned v d h) = fixed d ≡ fixed g
SameReturned g (run_trapped c n h) = Unit {0}
SameReturned g (run_spent n h) = Unit {0}
SameReturned g run_open = Unit {0}

returned_since : {H : Type 0} (g d : GuestAt) (r : Returned H) → fixed d ≡ fixed g → SameReturned d r → SameReturned g r
returned_since g d (returned v e h) was is = is ∙ was
returned_since g d (run_trapped c n h) was is = tt
returned_since g d (run_spent n h) was is = tt
returned_since g d run_open was is = tt

module _ {H : Type 0} (abi : Abi H) (keeps : (h : H) (x : ℕ) (args : List Value) (g : GuestAt) → AllEnds (SameAnswered g) (abi h x args g)) where
  served_same : (g : GuestAt) (go : GuestAt → H → Program (Returned H)) → ((d : GuestAt) (h : H) → AllEnds (SameReturned d) (go d h)) → (c : Called H) → SameAnswered g c → AllEnds (SameReturned g) (serve_result c go)
  served_same g go more (called v d h) is = all_weaker (SameReturned (answered_at v d)) (SameReturned g) (go (answered_at v d) h) (more (answered_at v d) h) (λ r same. returned_since g (answered_at v d) r is same)
  served_same g go more (call_trapped c n h) is = tt
  served_same g go more (call_spent n h) is = tt
  served_same g go more call_open is = tt

  stopped_same : (s : Stopped) (g : GuestAt) (h : H) (go : GuestAt → H → Program (Returned H)) → ((d : GuestAt) (i : H) → AllEnds (SameReturned d) (go d i)) → AllEnds (SameReturned g) (running_by abi s g h go)
  stopped_same (has_finished v d n) g h go more = refl
  stopped_same (has_asked x args d n) g h go more =
      all_then (SameAnswered g) (SameReturned g) (abi h x args (asked_at x d n g)) (λ c. serve_result c go) (keeps h x args (asked_at x d n g)) (λ c is. served_same g go more c is)
  stopped_same (has_trapped c n) g h go more = tt
  stopped_same (has_spent n) g h go more = tt
  stopped_same goes_on g h go more = tt
  stopped_same is_stuck g h go more = tt

  steps_same : (k : ℕ) (g : GuestAt) (h : H) → AllEnds (SameReturned g) (steps_of abi k g h)
  unfolding steps_of
  steps_same zero g h = tt
  steps_same (suc k) g h = stopped_same (run g.program g.fuel g.config) g h (λ d i. steps_of abi k d i) (λ d i. steps_same k d i)

-- ---- a callback of a VM

abbrev SameRan : VmAt → Ran → Type 0
SameRan v r = IsOf (Some v) r.vm

as_ran : (v : VmAt) (s : HostState) (r : Returned HostState) → SameReturned v.guest r → SameRan v (ran_as v s r)
as_ran v s (returned x g h) is = record { guest = is; calls = refl; functions = refl; start = refl; budget = refl }
as_ran v s (run_trapped c n h) is = tt
as_ran v s (run_spent n h) is = tt
as_ran v s run_open is = tt

as_it_is : (v : VmAt) → IsOf (Some v) (Some v)
as_it_is v = record { guest = refl; calls = refl; functions = refl; start = refl; budget = refl }

runs_same : (v : VmAt) (now f : ℕ) (args : List Value) (s : HostState) → AllEnds (SameRan v) (running v now f args s)
unfolding running
runs_same v now f args s =
    all_then (SameReturned v.guest) (SameRan v) (calling_back (dispatching v.calls now) f args (with_budget v) s) (λ r. done (ran_as v s r))
    (steps_same (dispatching v.calls now) (λ h x more g. dispatching_same v.calls now h x more g) (enough (with_budget v).fuel (invoked_at f args (with_budget v))) (begun_at f args (with_budget v)) s)
    (λ r is. as_ran v s r is)

runs_if_same : (v : VmAt) (now : ℕ) (o : Option ℕ) (args : List Value) (s : HostState) → AllEnds (SameRan v) (running_if v now o args s)
runs_if_same v now None args s = as_it_is v
runs_if_same v now (Some f) args s = runs_same v now f args s

-- one after the other
of_since : (was : VmAt) (mid : VmAt) (is : Option VmAt) → IsSameVm was mid → IsOf (Some mid) is → IsOf (Some was) is
of_since was mid None first second = tt
of_since was mid (Some is) first second = record {
  guest = second.guest ∙ first.guest;
  calls = second.calls ∙ first.calls;
  functions = second.functions ∙ first.functions;
  start = second.start ∙ first.start;
  budget = second.budget ∙ first.budget;
}

begins_same : (v : VmAt) (now : ℕ) (o : Option VmAt) (r : Ran) → IsOf (Some v) o → SameRan v r → AllEnds (SameRan v) (begins_then now o r)
begins_same v now None r of is = is
begins_same v now (Some w) r of is =
    all_weaker (SameRan w) (SameRan v) (running_if w now (beginner_in w.functions) [] r.state) (runs_if_same w now (beginner_in w.functions) [] r.state) (λ t same. of_since v w t.vm of same)

calls_same : (v : VmAt) (now : ℕ) (o : Option ℕ) (r : Role) (context first second : ℕ) (s : HostState) → AllEnds (SameRan v) (calling_if v now o r context first second s)
calls_same v now None r context first second s = as_it_is v
calls_same v now (Some f) r context first second s = runs_same v now f (numbers_for r context first second (counts_at v.calls.place context s.contexts)) (host_state (made_effective v.calls.place context s.contexts) s.lines)

role_same : (o : Option Role) (v : VmAt) (now context first second : ℕ) (s : HostState) → AllEnds (SameRan v) (by_role o v now context first second s)
role_same None v now context first second s =
    all_then (SameRan v) (SameRan v) (running_if v now v.start [] s) (λ r. begins_then now r.vm r) (runs_if_same v now v.start [] s) (λ r is. begins_same v now r.vm r is is)
role_same (Some r) v now context first second s = calls_same v now (function_for v.functions r) r context first second s

abbrev SameCame : Option VmAt → Came → Type 0
SameCame o c = IsOf o c.live

live_same : (v : VmAt) (name : Callback) (context first second now : ℕ) (h : Contexts) → AllEnds (SameCame (Some v)) (calling_live v name context first second now h)
unfolding calling_live
live_same v name context first second now h =
    all_then (SameRan v) (SameCame (Some v)) (by_role (role_of name) v now context first second (host_state h [])) (λ r. done (came_of r)) (role_same (role_of name) v now context first second (host_state h [])) (λ r is. is)

slot_same : (most : ℕ) (o : Option VmAt) (name : Callback) (context first second now : ℕ) (h : Contexts) → AllEnds (SameCame o) (calling_slot most o name context first second now h)
unfolding calling_slot
slot_same most None name context first second now h = tt
slot_same most (Some v) name context first second now h =
    choice (AllEnds (SameCame (Some v))) (is_at_home most v.calls.place h) (calling_live v name context first second now h) (done (silent (Some v) h))
    (live_same v name context first second now h) (as_it_is v)

-- ---- all VMs

as_they_are : (o : Option VmAt) → IsOf o o
as_they_are None = tt
as_they_are (Some v) = as_it_is v

-- with another machine in one slot
put_same : (b : Bool) (v : Vms) (vm at : ℕ) (live : Option VmAt) → nat_eq at vm ≡ b → vm < length v.slots → IsOf (slot_in v vm).live live → IsOf (slot_in v at).live (slot_in (with_live vm live v) at).live
put_same true v vm at live is there of =
    subst (λ n. IsOf (slot_in v n).live (slot_in (with_live vm live v) n).live) (sym (eqb-true at vm is))
    (subst (IsOf (slot_in v vm).live) (sym (ap (λ (s : Slot). s.live) (with_own vm live v there))) of)
put_same false v vm at live is there of =
    subst (IsOf (slot_in v at).live) (sym (ap (λ (s : Slot). s.live) (with_other vm at live v (eqb-false at vm is)))) (as_they_are (slot_in v at).live)

called_if : (b : Bool) (v : Vms) (vm : ℕ) (name : Callback) (context first second now : ℕ) (h : Contexts) → nat_lt vm (length v.slots) ≡ b
    → AllEnds (λ c. AreOf v c.host) (if b then bind (calling_slot (length v.slots) (slot_in v vm).live name context first second now h) (λ c. done (called_back c.end c.lines (with_live vm c.live v) c.contexts)) else done (called_back (call_end.Returned None) [] v h))
called_if true v vm name context first second now h is =
    all_then (SameCame (slot_in v vm).live) (λ c. AreOf v c.host) (calling_slot (length v.slots) (slot_in v vm).live name context first second now h) (λ c. done (called_back c.end c.lines (with_live vm c.live v) c.contexts))
    (slot_same (length v.slots) (slot_in v vm).live name context first second now h)
    (λ c of at. put_same (nat_eq at vm) v vm at c.live refl (ltb-true vm (length v.slots) is) of)
called_if false v vm name context first second now h is = λ at. as_they_are (slot_in v at).live

callbacks_same : (v : Vms) (vm : ℕ) (name : Callback) (context first second now : ℕ) (contexts : Contexts) → AllEnds (λ c. AreOf v c.host) (calling v vm name context first second now contexts)
unfolding calling
callbacks_same v vm name context first second now contexts = called_if (nat_lt vm (length v.slots)) v vm name context first second now contexts refl

-- ---- lives

slot_since : (was mid is : Option VmAt) → IsOf was mid → IsOf mid is → IsOf was is
slot_since was mid None first second = tt
slot_since was None (Some is) first second = absurd second
slot_since None (Some mid) (Some is) first second = absurd first
slot_since (Some was) (Some mid) (Some is) first second = of_since was mid (Some is) first second

of_kept : (was : Vms) → KeptBy calling (AreOf was)
of_kept was v vm name context first second now h are =
    all_of (λ c. AreOf was c.host) (calling v vm name context first second now h)
    (all_weaker (λ c. AreOf v c.host) (λ c. AreOf was c.host) (calling v vm name context first second now h) (callbacks_same v vm name context first second now h)
    (λ c is at. slot_since (slot_in was at).live (slot_in v at).live (slot_in c.host at).live (are at) (is at)))

pub keep_their_bounds : VmsKeepTheirBounds
keep_their_bounds = record {
  callbacks = callbacks_same;
  turns = λ plan b e life. life_so (AreOf b.host) (of_kept b.host) plan b e life (λ at. as_they_are (slot_in b.host at).live);
  steps = λ plan b e goes. goes_so (AreOf b.host) (of_kept b.host) plan b e goes (λ at. as_they_are (slot_in b.host at).live);
}
