-- The host calls of machines keep the maps of requests lists.
use Rattle.std.proofs.Common.{◌≡◌, ℕ, ◌==◌, Bool, true, false, ◌||◌, ◌&&◌, List, length, refl, subst}
use Rattle.std.specs.Prelude.{Option, None, Some, Result, Ok, Err, bytes_eq, cond, nat_lt, if◌then◌else◌}
use Rattle.abi_calls.specs.Hosting.{Hosted, hosting, wasi_hosting, of_called, asking}
use Rattle.abi_maps.specs.Maps.{map_at, map_in, there, on_map, with_map, mapped, no_change, changing_map, added_to, replaced_in, removed_from, set_from, own_get_header_map_pairs, own_get_header_map_size, own_get_header_map_value, own_set_header_map_pairs, own_add_header_map_value, own_replace_header_map_value, own_remove_header_map_value}
use Rattle.abi_maps.specs.Buffers.{own_get_buffer_bytes, own_get_buffer_status, own_set_buffer_bytes, buffer_no, buffered, held_after}
use Rattle.abi_maps.specs.Streams.{continuing, closing, on_stream, is_stream, stream_no, is_too_late, fields_from, refusing, answering, answering_in, answering_with, answer_changes, own_continue_stream, own_close_stream, own_send_local_response}
use Rattle.abi_model.specs.Asking.{Asking, asks}
use Rattle.abi_model.specs.Calls as model
use Rattle.abi_model.specs.Calls.{Own, Made, Does, does, does_made}
use Rattle.abi_model.specs.Rows.{all_inside, input_bytes}
use Rattle.abi_model.specs.Table.{arg, row_of, wasi_row_of}
use Rattle.abi_model.specs.declared.opening.Inputs.{Inputs}
use Rattle.abi_model.specs.declared.table.HostCall.{HostCall}
use Rattle.abi_model.specs.declared.table.HostCall.TheVariants as call
use Rattle.abi_model.specs.declared.table.Param.{Param}
use Rattle.abi_model.specs.declared.table.WasiCall.{WasiCall}
use Rattle.abi_model.specs.declared.table.WasiCall.TheVariants as wasi
use Rattle.abi_types.specs.GuestAt.{GuestAt}
use Rattle.abi_services.specs.Callouts.{upstream, refusal_of, has_no_room, request_for, begun_unless, calling_of, calling_by, own_http_call}
use Rattle.abi_services.specs.Data.{own_get_shared_data, own_set_shared_data}
use Rattle.abi_services.specs.Local.{own_get_log_level, own_get_current_time, own_set_tick_period, own_set_effective_context, own_done, ticked, setting_effective, done_of}
use Rattle.abi_services.specs.Metrics.{own_define_metric, own_increment_metric, own_record_metric, own_get_metric}
use Rattle.abi_services.specs.Properties.{own_get_property, own_set_property, set_in, is_fixed, is_past_limit}
use Rattle.abi_services.specs.Queues.{own_register_shared_queue, own_resolve_shared_queue, own_dequeue_shared_queue, own_enqueue_shared_queue}
use Rattle.abi_services.specs.Wasi.{own_clock_time_get, own_random_get, own_nothing, own_no_sizes, random_limit, randomly}
use Rattle.body_buffers.specs.Bodies.{body_limit}
use Rattle.contexts.specs.declared.parts.Contexts.{Contexts}
use Rattle.contexts.specs.declared.parts.ExchangeView.{ExchangeView}
use Rattle.contexts.specs.declared.parts.Maps.{Maps}
use Rattle.contexts.specs.declared.parts.Own.{Own as OwnParts}
use Rattle.contexts.specs.declared.parts.Request.{Request}
use Rattle.contexts.specs.Reached.{Seen, seen, effective_of, no_changes, contains}
use Rattle.filter_host.specs.Called as course
use Rattle.header_maps.specs.Faults.{set_fault}
use Rattle.header_maps.specs.Headers.{Headers}
use Rattle.header_maps.specs.Operations.{all_set}
use Rattle.header_maps.specs.Pairs.{Pair}
use Rattle.header_maps.specs.declared.kind.ListKind.TheVariants as kinds
use Rattle.pair_codec.specs.Lists.{with_scheme}
use Rattle.pair_codec.specs.Reading.{pairs_in}
use Rattle.store_model.specs.Program.{Program, done, ask, measure}
use Rattle.vm_host.specs.HostStates.{HostState}
use Rattle.vm_host.specs.declared.slots.Vms.{Vms}
use Rattle.law_lines.proofs.Hosts.{AllDone, all_bind, any_done, vms_keep}
use Rattle.law_lines.proofs.Kept.{by_bool}
use Rattle.law_read_back.specs.Maps.{IsFieldList, HasList, AreLists, LeavesLists, MachinesKeepLists}
use Rattle.law_read_back.proofs.Places.{LeavesView, put_lists}
use Rattle.law_read_back.proofs.Shaping.{adding_shapes, replacing_shapes, removing_shapes, setting_shapes}

-- what a call changes leaves what it sees a list
abbrev Leaves : Seen → Hosted → Type 0
Leaves s h = LeavesView h.changes.exchange s.reach.exchange

abbrev MadeLeaves : Seen → Made → Type 0
MadeLeaves s m = LeavesView m.changes.exchange s.reach.exchange

-- ---- a map that is changed

abbrev KeepsBy : (Headers → Result Headers ℕ) → Type 0
KeepsBy f = (l m : Headers) → IsFieldList l → f l ≡ Ok m → IsFieldList m

with_lists : (n : ℕ) (l : Headers) (m : Maps) → HasList m.request → ((n == 0) ≡ true → IsFieldList l) → HasList (with_map n l m).request
with_lists n l m has is = by_number (n == 0) (n == 1) (n == 2) is
  where
    by_number : (a b c : Bool) → (a ≡ true → IsFieldList l)
        → HasList (cond a (record m { request = Some l }) (cond b (record m { request_trailers = Some l }) (cond c (record m { response = Some l }) (record m { response_trailers = Some l })))).request
    by_number true b c is_ = is_ refl
    by_number false true c is_ = has
    by_number false false true is_ = has
    by_number false false false is_ = has

-- what it is made of, where it is that of the request
of_map : (n : ℕ) (f : Headers → Result Headers ℕ) (v : ExchangeView) (l : Headers) → KeepsBy f → HasList v.maps.request → (n == 0) ≡ true → on_map (there (map_at n v.maps)) f ≡ Ok l → IsFieldList l
of_map n f v l keeps has zeroth made =
    by_map v.maps.request has
    (subst (λ (b : Bool). on_map (there (cond b v.maps.request (cond (n == 1) v.maps.request_trailers (cond (n == 2) v.maps.response (cond (n == 3) v.maps.response_trailers None))))) f ≡ Ok l) zeroth made)
  where
    by_map : (o : Option Headers) → HasList o → on_map (there o) f ≡ Ok l → IsFieldList l
    by_map None has_ e = absurd has_
    by_map (Some k) has_ e = keeps k l has_ e

changing_leaves : (n : ℕ) (f : Headers → Result Headers ℕ) (s : Seen) → KeepsBy f → MadeLeaves s (changing_map n f s)
changing_leaves n f s keeps =
    by_bool (MadeLeaves s) (nat_lt 5 n) (model.answers (no_change n s)) (mapped n s.reach.exchange (on_map (there (map_in n s.reach.exchange)) f)) (λ e. tt) (λ e. by_view s.reach.exchange)
  where
    by_result : (v : ExchangeView) (r : Result Headers ℕ) → ((l : Headers) → r ≡ Ok l → HasList v.maps.request → (n == 0) ≡ true → IsFieldList l) → LeavesView (mapped n (Some v) r).changes.exchange (Some v)
    by_result v (Err status) of = tt
    by_result v (Ok l) of = λ has. with_lists n l v.maps has (λ zeroth. of l refl has zeroth)

    by_view : (o : Option ExchangeView) → LeavesView (mapped n o (on_map (there (map_in n o)) f)).changes.exchange o
    by_view None = tt
    by_view (Some v) = by_result v (on_map (there (map_at n v.maps)) f) (λ l made has zeroth. of_map n f v l keeps has zeroth made)

-- ---- streams and local responses

stream_leaves : (n : ℕ) (w : _) (s : Seen) (b : Bool) (p : Option ExchangeView) → LeavesView (on_stream n w s b).changes.exchange p
stream_leaves n w s false p = tt
stream_leaves n w s true p = by_bool (λ (m : Made). LeavesView m.changes.exchange p) (nat_lt 1 n) (model.answers 12) _ (λ e. tt) (λ e. tt)

continuing_leaves : (n : ℕ) (s : Seen) → MadeLeaves s (continuing n s)
continuing_leaves n s = by_bool (MadeLeaves s) (nat_lt 3 n) (model.answers 2) (on_stream n _ s (is_stream s)) (λ e. tt) (λ e. stream_leaves n _ s (is_stream s) s.reach.exchange)

closing_leaves : (n : ℕ) (s : Seen) → MadeLeaves s (closing n s)
closing_leaves n s = by_bool (MadeLeaves s) (nat_lt 3 n) (model.answers 2) (on_stream n _ s (is_stream s)) (λ e. tt) (λ e. stream_leaves n _ s (is_stream s) s.reach.exchange)

answering_leaves : (status : ℕ) (body headers : List ℕ) (s : Seen) → MadeLeaves s (answering status body headers s)
answering_leaves status body headers s =
    by_bool (MadeLeaves s) (nat_lt status 200 || nat_lt 599 status) (model.answers 2)
    (if s.common.is_tcp then model.reads (refusing body headers s) else answering_in status body headers s.reach.exchange s) (λ e. tt)
    (λ e. by_bool (MadeLeaves s) s.common.is_tcp (model.reads (refusing body headers s)) (answering_in status body headers s.reach.exchange s) (λ d. tt) (λ d. by_view s.reach.exchange))
  where
    by_fields : (v : ExchangeView) (r : Result Headers ℕ) → LeavesView (answering_with status body r v s).changes.exchange (Some v)
    by_fields v (Err n) = tt
    by_fields v (Ok fields) = by_bool (λ (m : Made). LeavesView m.changes.exchange (Some v)) (nat_lt body_limit (length body)) (model.answers 10) (model.changing (answer_changes status fields body v s)) (λ e. tt) (λ e. λ has. has)

    by_view : (o : Option ExchangeView) → LeavesView (answering_in status body headers o s).changes.exchange o
    by_view None = tt
    by_view (Some v) = by_bool (λ (m : Made). LeavesView m.changes.exchange (Some v)) (is_too_late v) (model.answers 2) (answering_with status body (fields_from headers) v s) (λ e. tt) (λ e. by_fields v (fields_from headers))

-- ---- a call of a row

does_leaves : (outside : ℕ) (row : List Param) (own : Own) (args : List ℕ) (g : GuestAt) (s : Seen) → ((inputs : Inputs) → MadeLeaves s (own args inputs s)) → LeavesView (does outside row own args g s).changes.exchange s.reach.exchange
does_leaves outside row own args g s leaves =
    by_bool (λ (d : Does). LeavesView d.changes.exchange s.reach.exchange) (all_inside g.config.store.memory row 0 args) (does_made outside row args g (own args (input_bytes g.config.store.memory row args) s)) _
    (λ e. leaves (input_bytes g.config.store.memory row args)) (λ e. tt)

asking_leaves : (row : List Param) (own : Asking) (vm : ℕ) (args : List ℕ) (g : GuestAt) (s : Seen) → AllDone (Leaves s) (asking row own vm args g s)
asking_leaves row own vm args g s = all_bind (λ (c : model.Called). Unit {0}) (Leaves s) (asks row own vm args g s) (λ c. done (of_called c)) (any_done (asks row own vm args g s)) (λ c e. tt)

-- ---- the calls that change no map

ticked_leaves : (now milliseconds : ℕ) (o : Option ℕ) (p : Option ExchangeView) → LeavesView (ticked now milliseconds o).changes.exchange p
ticked_leaves now milliseconds None p = tt
ticked_leaves now milliseconds (Some root) p = tt

effective_leaves : (id : ℕ) (s : Seen) → MadeLeaves s (setting_effective id s)
effective_leaves id s = by_bool (MadeLeaves s) (contains id s.common.ids) (model.changing (record no_changes { effective = Some id })) (model.answers 2) (λ e. tt) (λ e. tt)

done_leaves : (e : ℕ) (s : Seen) → MadeLeaves s (done_of e s)
done_leaves e s = by_bool (MadeLeaves s) (contains e s.common.ids && contains e s.common.waiting) _ (model.answers 1) (λ d. tt) (λ d. tt)

property_leaves : (path value : List ℕ) (s : Seen) (o : Option OwnParts) (p : Option ExchangeView) → LeavesView (set_in path value s o).changes.exchange p
property_leaves path value s None p = tt
property_leaves path value s (Some o) p =
    by_bool (λ (m : Made). LeavesView m.changes.exchange p) (is_fixed path s) (model.answers 2) _ (λ e. tt)
    (λ e. by_bool (λ (m : Made). LeavesView m.changes.exchange p) (is_past_limit path value o) (model.answers 10) _ (λ d. tt) (λ d. tt))

call_leaves : (vm : ℕ) (inputs : Inputs) (timeout : ℕ) (s : Seen) → MadeLeaves s (calling_by vm inputs timeout s.reach.own s)
call_leaves vm inputs timeout s = by_own s.reach.own
  where
    by_refusal : (r : Option ℕ) (q : Request) → MadeLeaves s (begun_unless r q s)
    by_refusal (Some status) q = tt
    by_refusal None q = tt

    by_pairs : (headers trailers : Option (List Pair)) → MadeLeaves s (calling_of vm headers inputs.third trailers timeout s)
    by_pairs None trailers = tt
    by_pairs (Some headers) None = tt
    by_pairs (Some headers) (Some trailers) =
        by_refusal (refusal_of (set_fault kinds.Request (with_scheme headers)) (set_fault kinds.Plain trailers) (has_no_room inputs.third s))
        (request_for vm (all_set kinds.Request (with_scheme headers)) inputs.third (all_set kinds.Plain trailers) timeout s)

    by_own : (o : Option OwnParts) → MadeLeaves s (calling_by vm inputs timeout o s)
    by_own None = tt
    by_own (Some o) =
        by_bool (MadeLeaves s) (bytes_eq inputs.first upstream) (calling_of vm (pairs_in inputs.second) inputs.third (pairs_in inputs.fourth) timeout s) (model.answers 2)
        (λ e. by_pairs (pairs_in inputs.second) (pairs_in inputs.fourth)) (λ e. tt)

buffer_leaves : (n : ℕ) (o : Option OwnParts) (r : Result (List ℕ) ℕ) (p : Option ExchangeView) → LeavesView (buffered n o r).changes.exchange p
buffer_leaves n o (Err status) p = tt
buffer_leaves n None (Ok bytes) p = tt
buffer_leaves n (Some o) (Ok bytes) p = tt

random_leaves : (len : ℕ) (s : Seen) → MadeLeaves s (randomly len s)
random_leaves len s = by_bool (MadeLeaves s) (nat_lt random_limit len) (model.answers 28) _ (λ e. tt) (λ e. tt)

-- ---- all calls

hosted_leaves : (c : HostCall) (now vm : ℕ) (args : List ℕ) (g : GuestAt) (s : Seen) → AllDone (Leaves s) (hosting c now vm args g s)
hosted_leaves call.Log now vm args g s = tt
hosted_leaves call.GetLogLevel now vm args g s = does_leaves 6 (row_of call.GetLogLevel) own_get_log_level args g s (λ inputs. tt)
hosted_leaves call.GetCurrentTimeNanoseconds now vm args g s = does_leaves 6 (row_of call.GetCurrentTimeNanoseconds) (own_get_current_time now) args g s (λ inputs. tt)
hosted_leaves call.SetTickPeriodMilliseconds now vm args g s =
    does_leaves 6 (row_of call.SetTickPeriodMilliseconds) (own_set_tick_period now) args g s (λ inputs. ticked_leaves now (arg args 0) s.reach.root s.reach.exchange)
hosted_leaves call.SetEffectiveContext now vm args g s = does_leaves 6 (row_of call.SetEffectiveContext) own_set_effective_context args g s (λ inputs. effective_leaves (arg args 0) s)
hosted_leaves call.Done now vm args g s = does_leaves 6 (row_of call.Done) own_done args g s (λ inputs. done_leaves s.common.effective s)
hosted_leaves call.GetBufferBytes now vm args g s = does_leaves 6 (row_of call.GetBufferBytes) own_get_buffer_bytes args g s (λ inputs. tt)
hosted_leaves call.GetBufferStatus now vm args g s = does_leaves 6 (row_of call.GetBufferStatus) own_get_buffer_status args g s (λ inputs. tt)
hosted_leaves call.SetBufferBytes now vm args g s =
    does_leaves 6 (row_of call.SetBufferBytes) own_set_buffer_bytes args g s
    (λ inputs.
    buffer_leaves (buffer_no s.common.is_tcp (arg args 0)) s.reach.own (held_after (buffer_no s.common.is_tcp (arg args 0)) (arg args 1) (arg args 2) inputs.first s.reach) s.reach.exchange)
hosted_leaves call.GetHeaderMapPairs now vm args g s = does_leaves 6 (row_of call.GetHeaderMapPairs) own_get_header_map_pairs args g s (λ inputs. tt)
hosted_leaves call.SetHeaderMapPairs now vm args g s =
    does_leaves 6 (row_of call.SetHeaderMapPairs) own_set_header_map_pairs args g s (λ inputs. changing_leaves (arg args 0) (set_from inputs.first) s (λ l m is made. setting_shapes inputs.first l m is made))
hosted_leaves call.GetHeaderMapSize now vm args g s = does_leaves 6 (row_of call.GetHeaderMapSize) own_get_header_map_size args g s (λ inputs. tt)
hosted_leaves call.GetHeaderMapValue now vm args g s = does_leaves 6 (row_of call.GetHeaderMapValue) own_get_header_map_value args g s (λ inputs. tt)
hosted_leaves call.AddHeaderMapValue now vm args g s =
    does_leaves 6 (row_of call.AddHeaderMapValue) own_add_header_map_value args g s
    (λ inputs. changing_leaves (arg args 0) (added_to inputs.first inputs.second) s (λ l m is made. adding_shapes inputs.first inputs.second l m is made))
hosted_leaves call.ReplaceHeaderMapValue now vm args g s =
    does_leaves 6 (row_of call.ReplaceHeaderMapValue) own_replace_header_map_value args g s
    (λ inputs. changing_leaves (arg args 0) (replaced_in inputs.first inputs.second) s (λ l m is made. replacing_shapes inputs.first inputs.second l m is made))
hosted_leaves call.RemoveHeaderMapValue now vm args g s =
    does_leaves 6 (row_of call.RemoveHeaderMapValue) own_remove_header_map_value args g s (λ inputs. changing_leaves (arg args 0) (removed_from inputs.first) s (λ l m is made. removing_shapes inputs.first l m is made))
hosted_leaves call.ContinueStream now vm args g s = does_leaves 6 (row_of call.ContinueStream) own_continue_stream args g s (λ inputs. continuing_leaves (stream_no s.common.is_tcp (arg args 0)) s)
hosted_leaves call.CloseStream now vm args g s = does_leaves 6 (row_of call.CloseStream) own_close_stream args g s (λ inputs. closing_leaves (stream_no s.common.is_tcp (arg args 0)) s)
hosted_leaves call.SendLocalResponse now vm args g s = does_leaves 6 (row_of call.SendLocalResponse) own_send_local_response args g s (λ inputs. answering_leaves (arg args 0) inputs.second inputs.third s)
hosted_leaves call.HttpCall now vm args g s = does_leaves 6 (row_of call.HttpCall) (own_http_call vm) args g s (λ inputs. call_leaves vm inputs (arg args 8) s)
hosted_leaves call.GetSharedData now vm args g s = asking_leaves (row_of call.GetSharedData) own_get_shared_data vm args g s
hosted_leaves call.SetSharedData now vm args g s = asking_leaves (row_of call.SetSharedData) own_set_shared_data vm args g s
hosted_leaves call.RegisterSharedQueue now vm args g s = asking_leaves (row_of call.RegisterSharedQueue) own_register_shared_queue vm args g s
hosted_leaves call.ResolveSharedQueue now vm args g s = asking_leaves (row_of call.ResolveSharedQueue) own_resolve_shared_queue vm args g s
hosted_leaves call.DequeueSharedQueue now vm args g s = asking_leaves (row_of call.DequeueSharedQueue) own_dequeue_shared_queue vm args g s
hosted_leaves call.EnqueueSharedQueue now vm args g s = asking_leaves (row_of call.EnqueueSharedQueue) own_enqueue_shared_queue vm args g s
hosted_leaves call.GetProperty now vm args g s = does_leaves 6 (row_of call.GetProperty) own_get_property args g s (λ inputs. tt)
hosted_leaves call.SetProperty now vm args g s = does_leaves 6 (row_of call.SetProperty) own_set_property args g s (λ inputs. property_leaves inputs.first inputs.second s s.reach.own s.reach.exchange)
hosted_leaves call.DefineMetric now vm args g s = asking_leaves (row_of call.DefineMetric) own_define_metric vm args g s
hosted_leaves call.IncrementMetric now vm args g s = asking_leaves (row_of call.IncrementMetric) own_increment_metric vm args g s
hosted_leaves call.RecordMetric now vm args g s = asking_leaves (row_of call.RecordMetric) own_record_metric vm args g s
hosted_leaves call.GetMetric now vm args g s = asking_leaves (row_of call.GetMetric) own_get_metric vm args g s

wasi_leaves : (c : WasiCall) (now vm : ℕ) (args : List ℕ) (g : GuestAt) (s : Seen) → AllDone (Leaves s) (wasi_hosting c now vm args g s)
wasi_leaves wasi.FdWrite now vm args g s = tt
wasi_leaves wasi.ClockTimeGet now vm args g s = does_leaves 21 (wasi_row_of wasi.ClockTimeGet) (own_clock_time_get now) args g s (λ inputs. tt)
wasi_leaves wasi.RandomGet now vm args g s = does_leaves 21 (wasi_row_of wasi.RandomGet) own_random_get args g s (λ inputs. random_leaves (arg args 1) s)
wasi_leaves wasi.EnvironGet now vm args g s = does_leaves 21 (wasi_row_of wasi.EnvironGet) own_nothing args g s (λ inputs. tt)
wasi_leaves wasi.ArgsGet now vm args g s = does_leaves 21 (wasi_row_of wasi.ArgsGet) own_nothing args g s (λ inputs. tt)
wasi_leaves wasi.EnvironSizesGet now vm args g s = does_leaves 21 (wasi_row_of wasi.EnvironSizesGet) own_no_sizes args g s (λ inputs. tt)
wasi_leaves wasi.ArgsSizesGet now vm args g s = does_leaves 21 (wasi_row_of wasi.ArgsSizesGet) own_no_sizes args g s (λ inputs. tt)
wasi_leaves wasi.ProcExit now vm args g s = tt

leaves_lists : (p : Program (course.Called Vms)) → AllDone (λ (c : course.Called Vms). AreLists c.contexts) p → LeavesLists p
leaves_lists (done c) all = all
leaves_lists (ask vm call k) all = λ r. leaves_lists (k r) (all r)
leaves_lists (measure vm call k) all = λ r. leaves_lists (k r) (all r)

pub machines_keep_lists : MachinesKeepLists
machines_keep_lists v vm name context first second now h are =
    leaves_lists _
    (vms_keep (λ (s : HostState). AreLists s.contexts) (λ (k : Contexts) (place : ℕ) (d : Hosted). Leaves (seen k place) d)
    (λ place s d kept leaves. put_lists d.changes place (effective_of s.contexts place) s.contexts kept leaves)
    (λ place e s kept. put_lists (record no_changes { effective = Some e }) place (effective_of s.contexts place) s.contexts kept tt)
    (λ c n place args g s kept. hosted_leaves c n place args g (seen s.contexts place)) (λ c n place args g s kept. wasi_leaves c n place args g (seen s.contexts place)) v vm name context first second now h are)
