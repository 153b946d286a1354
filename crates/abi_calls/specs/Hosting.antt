-- Any host call of the module `env` and of WASI, by its name: what it does to the guest, the contexts and the log, and what it asks.
use Rattle.std.specs.Prelude.{◌≡◌, ◌++◌, ℕ, List, []}
use Rattle.gate_base.specs.declared.cause.Cause.TheVariants.{Exit}
use Rattle.gate_io.specs.declared.event.Sent.{Sent}
use Rattle.store_model.specs.Made.{Made}
use Rattle.store_model.specs.Program.{Program, done, bind, Runs}
use Rattle.abi_types.specs.GuestAt.{GuestAt}
use Rattle.contexts.specs.declared.parts.Contexts.{Contexts}
use Rattle.contexts.specs.Reached.{Seen, Changes, no_changes, put}
use Rattle.abi_model.specs.Asking.{Asking, asks}
use Rattle.abi_model.specs.Calls.{Called, called_trapped, Own, Does, does, CallEnds}
use Rattle.abi_model.specs.Table.{row_of, wasi_row_of}
use Rattle.abi_model.specs.Writing.{Writing, Writes, writes}
use Rattle.abi_model.specs.declared.table.Param.{Param}
use Rattle.abi_model.specs.declared.table.HostCall.{HostCall}
use Rattle.abi_model.specs.declared.table.HostCall.TheVariants as call
use Rattle.abi_model.specs.declared.table.WasiCall.{WasiCall}
use Rattle.abi_model.specs.declared.table.WasiCall.TheVariants as wasi
use Rattle.abi_model.specs.declared.ends.HostEnd.{HostEnd}
use Rattle.abi_model.specs.declared.ends.HostEnd.TheVariants.{Status, Trapped, FuelSpent, OutOfMemory}
use Rattle.abi_services.specs.Logging.{own_log}
use Rattle.abi_services.specs.Local.{own_get_log_level, own_get_current_time, own_set_tick_period, own_set_effective_context, own_done}
use Rattle.abi_maps.specs.Buffers.{own_get_buffer_bytes, own_get_buffer_status, own_set_buffer_bytes}
use Rattle.abi_maps.specs.Maps.{own_get_header_map_pairs, own_set_header_map_pairs, own_get_header_map_size, own_get_header_map_value, own_add_header_map_value, own_replace_header_map_value, own_remove_header_map_value}
use Rattle.abi_maps.specs.Streams.{own_continue_stream, own_close_stream, own_send_local_response}
use Rattle.abi_services.specs.Callouts.{own_http_call}
use Rattle.abi_services.specs.Data.{own_get_shared_data, own_set_shared_data}
use Rattle.abi_services.specs.Queues.{own_register_shared_queue, own_resolve_shared_queue, own_dequeue_shared_queue, own_enqueue_shared_queue}
use Rattle.abi_services.specs.Properties.{own_get_property, own_set_property}
use Rattle.abi_services.specs.Metrics.{own_define_metric, own_increment_metric, own_record_metric, own_get_metric}
use Rattle.abi_services.specs.Wasi.{own_clock_time_get, own_random_get, own_nothing, own_no_sizes}
use Rattle.abi_services.specs.Files.{fd_writes}

-- how it ends for the guest, what it changes of the contexts, and the lines that it puts after the log
pub record Hosted : Type 0 where
  pub called : Called
  pub changes : Changes
  pub lines : List Sent

abbrev pub of_does : Does → Hosted
of_does d = record { called = d.called; changes = d.changes; lines = [] }

abbrev pub of_writes : Writes → Hosted
of_writes w = record { called = w.called; changes = no_changes; lines = w.lines }

abbrev pub of_called : Called → Hosted
of_called c = record { called = c; changes = no_changes; lines = [] }

abbrev pub locally : (outside : ℕ) → List Param → Own → List ℕ → GuestAt → Seen → Program Hosted
locally outside row own args g s = done (of_does (does outside row own args g s))

abbrev pub writing : (outside : ℕ) → List Param → Writing → List ℕ → GuestAt → Seen → Program Hosted
writing outside row own args g s = done (of_writes (writes outside row own args g s))

abbrev pub asking : List Param → Asking → (vm : ℕ) → List ℕ → GuestAt → Seen → Program Hosted
asking row own vm args g s = bind (asks row own vm args g s) (λ c. done (of_called c))

-- THE CALL of the module `env`
abbrev pub hosting : HostCall → (now vm : ℕ) → List ℕ → GuestAt → Seen → Program Hosted
hosting call.Log now vm args g s = writing 6 (row_of call.Log) own_log args g s
hosting call.GetLogLevel now vm args g s = locally 6 (row_of call.GetLogLevel) own_get_log_level args g s
hosting call.GetCurrentTimeNanoseconds now vm args g s = locally 6 (row_of call.GetCurrentTimeNanoseconds) (own_get_current_time now) args g s
hosting call.SetTickPeriodMilliseconds now vm args g s = locally 6 (row_of call.SetTickPeriodMilliseconds) (own_set_tick_period now) args g s
hosting call.SetEffectiveContext now vm args g s = locally 6 (row_of call.SetEffectiveContext) own_set_effective_context args g s
hosting call.Done now vm args g s = locally 6 (row_of call.Done) own_done args g s
hosting call.GetBufferBytes now vm args g s = locally 6 (row_of call.GetBufferBytes) own_get_buffer_bytes args g s
hosting call.GetBufferStatus now vm args g s = locally 6 (row_of call.GetBufferStatus) own_get_buffer_status args g s
hosting call.SetBufferBytes now vm args g s = locally 6 (row_of call.SetBufferBytes) own_set_buffer_bytes args g s
hosting call.GetHeaderMapPairs now vm args g s = locally 6 (row_of call.GetHeaderMapPairs) own_get_header_map_pairs args g s
hosting call.SetHeaderMapPairs now vm args g s = locally 6 (row_of call.SetHeaderMapPairs) own_set_header_map_pairs args g s
hosting call.GetHeaderMapSize now vm args g s = locally 6 (row_of call.GetHeaderMapSize) own_get_header_map_size args g s
hosting call.GetHeaderMapValue now vm args g s = locally 6 (row_of call.GetHeaderMapValue) own_get_header_map_value args g s
hosting call.AddHeaderMapValue now vm args g s = locally 6 (row_of call.AddHeaderMapValue) own_add_header_map_value args g s
hosting call.ReplaceHeaderMapValue now vm args g s = locally 6 (row_of call.ReplaceHeaderMapValue) own_replace_header_map_value args g s
hosting call.RemoveHeaderMapValue now vm args g s = locally 6 (row_of call.RemoveHeaderMapValue) own_remove_header_map_value args g s
hosting call.ContinueStream now vm args g s = locally 6 (row_of call.ContinueStream) own_continue_stream args g s
hosting call.CloseStream now vm args g s = locally 6 (row_of call.CloseStream) own_close_stream args g s
hosting call.SendLocalResponse now vm args g s = locally 6 (row_of call.SendLocalResponse) own_send_local_response args g s
hosting call.HttpCall now vm args g s = locally 6 (row_of call.HttpCall) (own_http_call vm) args g s
hosting call.GetSharedData now vm args g s = asking (row_of call.GetSharedData) own_get_shared_data vm args g s
hosting call.SetSharedData now vm args g s = asking (row_of call.SetSharedData) own_set_shared_data vm args g s
hosting call.RegisterSharedQueue now vm args g s = asking (row_of call.RegisterSharedQueue) own_register_shared_queue vm args g s
hosting call.ResolveSharedQueue now vm args g s = asking (row_of call.ResolveSharedQueue) own_resolve_shared_queue vm args g s
hosting call.DequeueSharedQueue now vm args g s = asking (row_of call.DequeueSharedQueue) own_dequeue_shared_queue vm args g s
hosting call.EnqueueSharedQueue now vm args g s = asking (row_of call.EnqueueSharedQueue) own_enqueue_shared_queue vm args g s
hosting call.GetProperty now vm args g s = locally 6 (row_of call.GetProperty) own_get_property args g s
hosting call.SetProperty now vm args g s = locally 6 (row_of call.SetProperty) own_set_property args g s
hosting call.DefineMetric now vm args g s = asking (row_of call.DefineMetric) own_define_metric vm args g s
hosting call.IncrementMetric now vm args g s = asking (row_of call.IncrementMetric) own_increment_metric vm args g s
hosting call.RecordMetric now vm args g s = asking (row_of call.RecordMetric) own_record_metric vm args g s
hosting call.GetMetric now vm args g s = asking (row_of call.GetMetric) own_get_metric vm args g s

-- the exit is a trap
abbrev pub exiting : GuestAt → Program Hosted
exiting g = done (of_called (called_trapped Exit g.fuel))

-- THE CALL of WASI
abbrev pub wasi_hosting : WasiCall → (now vm : ℕ) → List ℕ → GuestAt → Seen → Program Hosted
wasi_hosting wasi.FdWrite now vm args g s = done (of_writes (fd_writes args g s))
wasi_hosting wasi.ClockTimeGet now vm args g s = locally 21 (wasi_row_of wasi.ClockTimeGet) (own_clock_time_get now) args g s
wasi_hosting wasi.RandomGet now vm args g s = locally 21 (wasi_row_of wasi.RandomGet) own_random_get args g s
wasi_hosting wasi.EnvironGet now vm args g s = locally 21 (wasi_row_of wasi.EnvironGet) own_nothing args g s
wasi_hosting wasi.ArgsGet now vm args g s = locally 21 (wasi_row_of wasi.ArgsGet) own_nothing args g s
wasi_hosting wasi.EnvironSizesGet now vm args g s = locally 21 (wasi_row_of wasi.EnvironSizesGet) own_no_sizes args g s
wasi_hosting wasi.ArgsSizesGet now vm args g s = locally 21 (wasi_row_of wasi.ArgsSizesGet) own_no_sizes args g s
wasi_hosting wasi.ProcExit now vm args g s = exiting g

-- the end of a call: its calls on the stores were made, and the guest, the contexts and the log are as it says
pub record HasEnded {S : Type 0} (performs : S → List Made → S → Type 0) (s : S) (p : Program Hosted) (vm : ℕ) (h : Contexts) (end : HostEnd) (g : GuestAt) (k : Contexts) (old new : List Sent) (t : S) : Type 0 where
  pub hosted : Hosted
  pub run : Runs performs s p (done hosted) t
  pub called : CallEnds hosted.called end g
  pub contexts : k ≡ put hosted.changes vm h
  pub lines : new ≡ old ++ hosted.lines

-- or it was cut short where memory ran out: some of its calls on the stores were made, and the contexts and the log are as they were
pub record WasCut {S : Type 0} (performs : S → List Made → S → Type 0) (s : S) (p : Program Hosted) (h k : Contexts) (old new : List Sent) (t : S) : Type 0 where
  pub rest : Program Hosted
  pub run : Runs performs s p rest t
  pub contexts : k ≡ h
  pub lines : new ≡ old

abbrev pub HostedEnds : {S : Type 0} → (S → List Made → S → Type 0) → S → Program Hosted → (vm : ℕ) → Contexts → HostEnd → GuestAt → Contexts → (old new : List Sent) → S → Type 0
HostedEnds performs s p vm h (Status n) g k old new t = HasEnded performs s p vm h (Status n) g k old new t
HostedEnds performs s p vm h (Trapped c) g k old new t = HasEnded performs s p vm h (Trapped c) g k old new t
HostedEnds performs s p vm h FuelSpent g k old new t = HasEnded performs s p vm h FuelSpent g k old new t
HostedEnds performs s p vm h OutOfMemory g k old new t = WasCut performs s p h k old new t
