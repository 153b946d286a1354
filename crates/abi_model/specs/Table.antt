-- The table of host calls: their names, and what their parameters are for.
use Rattle.std.specs.Prelude.{ℕ, ◌+◌, List, [], ◌∷◌, Option, bytes_eq, codes, slice_index_or, ◌<◌, ◌^◌, ◌≡◌, length}
use Rattle.std.specs.List.{find}
use Rattle.abi_model.specs.declared.table.Param.{Param}
use Rattle.abi_model.specs.declared.table.Param.TheVariants.{Number, Wide, Input, Result, WideResult, Output}
use Rattle.abi_model.specs.declared.table.HostCall.{HostCall}
use Rattle.abi_model.specs.declared.table.HostCall.TheVariants as call
use Rattle.abi_model.specs.declared.table.WasiCall.{WasiCall}
use Rattle.abi_model.specs.declared.table.WasiCall.TheVariants as wasi

abbrev pub name_of : HostCall → List ℕ
name_of call.Log = codes "proxy_log"
name_of call.GetLogLevel = codes "proxy_get_log_level"
name_of call.GetCurrentTimeNanoseconds = codes "proxy_get_current_time_nanoseconds"
name_of call.SetTickPeriodMilliseconds = codes "proxy_set_tick_period_milliseconds"
name_of call.SetEffectiveContext = codes "proxy_set_effective_context"
name_of call.Done = codes "proxy_done"
name_of call.GetBufferBytes = codes "proxy_get_buffer_bytes"
name_of call.GetBufferStatus = codes "proxy_get_buffer_status"
name_of call.SetBufferBytes = codes "proxy_set_buffer_bytes"
name_of call.GetHeaderMapPairs = codes "proxy_get_header_map_pairs"
name_of call.SetHeaderMapPairs = codes "proxy_set_header_map_pairs"
name_of call.GetHeaderMapSize = codes "proxy_get_header_map_size"
name_of call.GetHeaderMapValue = codes "proxy_get_header_map_value"
name_of call.AddHeaderMapValue = codes "proxy_add_header_map_value"
name_of call.ReplaceHeaderMapValue = codes "proxy_replace_header_map_value"
name_of call.RemoveHeaderMapValue = codes "proxy_remove_header_map_value"
name_of call.ContinueStream = codes "proxy_continue_stream"
name_of call.CloseStream = codes "proxy_close_stream"
name_of call.SendLocalResponse = codes "proxy_send_local_response"
name_of call.HttpCall = codes "proxy_http_call"
name_of call.GetSharedData = codes "proxy_get_shared_data"
name_of call.SetSharedData = codes "proxy_set_shared_data"
name_of call.RegisterSharedQueue = codes "proxy_register_shared_queue"
name_of call.ResolveSharedQueue = codes "proxy_resolve_shared_queue"
name_of call.DequeueSharedQueue = codes "proxy_dequeue_shared_queue"
name_of call.EnqueueSharedQueue = codes "proxy_enqueue_shared_queue"
name_of call.GetProperty = codes "proxy_get_property"
name_of call.SetProperty = codes "proxy_set_property"
name_of call.DefineMetric = codes "proxy_define_metric"
name_of call.IncrementMetric = codes "proxy_increment_metric"
name_of call.RecordMetric = codes "proxy_record_metric"
name_of call.GetMetric = codes "proxy_get_metric"

abbrev pub row_of : HostCall → List Param
row_of call.Log = Number ∷ Input ∷ []
row_of call.GetLogLevel = Result ∷ []
row_of call.GetCurrentTimeNanoseconds = WideResult ∷ []
row_of call.SetTickPeriodMilliseconds = Number ∷ []
row_of call.SetEffectiveContext = Number ∷ []
row_of call.Done = []
row_of call.GetBufferBytes = Number ∷ Number ∷ Number ∷ Result ∷ Result ∷ []
row_of call.GetBufferStatus = Number ∷ Result ∷ Result ∷ []
row_of call.SetBufferBytes = Number ∷ Number ∷ Number ∷ Input ∷ []
row_of call.GetHeaderMapPairs = Number ∷ Result ∷ Result ∷ []
row_of call.SetHeaderMapPairs = Number ∷ Input ∷ []
row_of call.GetHeaderMapSize = Number ∷ Result ∷ []
row_of call.GetHeaderMapValue = Number ∷ Input ∷ Result ∷ Result ∷ []
row_of call.AddHeaderMapValue = Number ∷ Input ∷ Input ∷ []
row_of call.ReplaceHeaderMapValue = Number ∷ Input ∷ Input ∷ []
row_of call.RemoveHeaderMapValue = Number ∷ Input ∷ []
row_of call.ContinueStream = Number ∷ []
row_of call.CloseStream = Number ∷ []
row_of call.SendLocalResponse = Number ∷ Input ∷ Input ∷ Input ∷ Number ∷ []
row_of call.HttpCall = Input ∷ Input ∷ Input ∷ Input ∷ Number ∷ Result ∷ []
row_of call.GetSharedData = Input ∷ Result ∷ Result ∷ Result ∷ []
row_of call.SetSharedData = Input ∷ Input ∷ Number ∷ []
row_of call.RegisterSharedQueue = Input ∷ Result ∷ []
row_of call.ResolveSharedQueue = Input ∷ Input ∷ Result ∷ []
row_of call.DequeueSharedQueue = Number ∷ Result ∷ Result ∷ []
row_of call.EnqueueSharedQueue = Number ∷ Input ∷ []
row_of call.GetProperty = Input ∷ Result ∷ Result ∷ []
row_of call.SetProperty = Input ∷ Input ∷ []
row_of call.DefineMetric = Number ∷ Input ∷ Result ∷ []
row_of call.IncrementMetric = Number ∷ Wide ∷ []
row_of call.RecordMetric = Number ∷ Wide ∷ []
row_of call.GetMetric = Number ∷ WideResult ∷ []

abbrev pub all_calls : List HostCall
all_calls = call.Log ∷ call.GetLogLevel ∷ call.GetCurrentTimeNanoseconds ∷ call.SetTickPeriodMilliseconds ∷ call.SetEffectiveContext ∷ call.Done ∷ call.GetBufferBytes ∷ call.GetBufferStatus ∷ call.SetBufferBytes ∷ call.GetHeaderMapPairs ∷ call.SetHeaderMapPairs ∷ call.GetHeaderMapSize ∷ call.GetHeaderMapValue ∷ call.AddHeaderMapValue ∷ call.ReplaceHeaderMapValue ∷ call.RemoveHeaderMapValue ∷ call.ContinueStream ∷ call.CloseStream ∷ call.SendLocalResponse ∷ call.HttpCall ∷ call.GetSharedData ∷ call.SetSharedData ∷ call.RegisterSharedQueue ∷ call.ResolveSharedQueue ∷ call.DequeueSharedQueue ∷ call.EnqueueSharedQueue ∷ call.GetProperty ∷ call.SetProperty ∷ call.DefineMetric ∷ call.IncrementMetric ∷ call.RecordMetric ∷ call.GetMetric ∷ []

-- THE CALL of a name
abbrev pub call_named : List ℕ → Option HostCall
call_named name = find (λ c. bytes_eq (name_of c) name) all_calls

abbrev pub wasi_name_of : WasiCall → List ℕ
wasi_name_of wasi.FdWrite = codes "fd_write"
wasi_name_of wasi.ClockTimeGet = codes "clock_time_get"
wasi_name_of wasi.RandomGet = codes "random_get"
wasi_name_of wasi.EnvironGet = codes "environ_get"
wasi_name_of wasi.ArgsGet = codes "args_get"
wasi_name_of wasi.EnvironSizesGet = codes "environ_sizes_get"
wasi_name_of wasi.ArgsSizesGet = codes "args_sizes_get"
wasi_name_of wasi.ProcExit = codes "proc_exit"

abbrev pub wasi_row_of : WasiCall → List Param
wasi_row_of wasi.FdWrite = Number ∷ Number ∷ Number ∷ Result ∷ []
wasi_row_of wasi.ClockTimeGet = Number ∷ Wide ∷ WideResult ∷ []
wasi_row_of wasi.RandomGet = Output ∷ []
wasi_row_of wasi.EnvironGet = Number ∷ Number ∷ []
wasi_row_of wasi.ArgsGet = Number ∷ Number ∷ []
wasi_row_of wasi.EnvironSizesGet = Result ∷ Result ∷ []
wasi_row_of wasi.ArgsSizesGet = Result ∷ Result ∷ []
wasi_row_of wasi.ProcExit = Number ∷ []

abbrev pub all_wasi_calls : List WasiCall
all_wasi_calls = wasi.FdWrite ∷ wasi.ClockTimeGet ∷ wasi.RandomGet ∷ wasi.EnvironGet ∷ wasi.ArgsGet ∷ wasi.EnvironSizesGet ∷ wasi.ArgsSizesGet ∷ wasi.ProcExit ∷ []

-- THE CALL of a name
abbrev pub wasi_call_named : List ℕ → Option WasiCall
wasi_call_named name = find (λ c. bytes_eq (wasi_name_of c) name) all_wasi_calls

-- the argument at a place
abbrev pub arg : List ℕ → ℕ → ℕ
arg args i = slice_index_or args i 0

-- each argument from the i-th on is within its type, and there are no more
abbrev pub Are : List Param → ℕ → List ℕ → Type 0
Are [] i args = length args ≡ i
Are (Number ∷ ps) i args = (arg args i < 2 ^ 32) × Are ps (i + 1) args
Are (Wide ∷ ps) i args = (arg args i < 2 ^ 64) × Are ps (i + 1) args
Are (Input ∷ ps) i args = (arg args i < 2 ^ 32) × (arg args (i + 1) < 2 ^ 32) × Are ps (i + 2) args
Are (Result ∷ ps) i args = (arg args i < 2 ^ 32) × Are ps (i + 1) args
Are (WideResult ∷ ps) i args = (arg args i < 2 ^ 32) × Are ps (i + 1) args
Are (Output ∷ ps) i args = (arg args i < 2 ^ 32) × (arg args (i + 1) < 2 ^ 32) × Are ps (i + 2) args
