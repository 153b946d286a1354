-- The machines of VMs write logs, and send nothing else by themselves.
use Rattle.std.proofs.Common.{ℕ, ◌||◌, ◌&&◌, List, [], ◌∷◌, ◌++◌, length}
use Rattle.std.specs.Prelude.{nat_lt}
use Rattle.abi_calls.specs.Hosting.{Hosted, hosting, wasi_hosting, of_called, asking}
use Rattle.abi_model.specs.Asking.{Asking, asks}
use Rattle.abi_model.specs.Calls as model
use Rattle.abi_model.specs.Rows.{all_inside, input_bytes}
use Rattle.abi_model.specs.Table.{arg, row_of, wasi_row_of}
use Rattle.abi_model.specs.Writing.{Logged, quiet, writes, writes_logged}
use Rattle.abi_model.specs.declared.table.HostCall.{HostCall}
use Rattle.abi_model.specs.declared.table.HostCall.TheVariants as call
use Rattle.abi_model.specs.declared.table.Param.{Param}
use Rattle.abi_model.specs.declared.table.WasiCall.{WasiCall}
use Rattle.abi_model.specs.declared.table.WasiCall.TheVariants as wasi
use Rattle.abi_services.specs.Data.{own_get_shared_data, own_set_shared_data}
use Rattle.abi_services.specs.Metrics.{own_define_metric, own_increment_metric, own_record_metric, own_get_metric}
use Rattle.abi_services.specs.Queues.{own_register_shared_queue, own_resolve_shared_queue, own_dequeue_shared_queue, own_enqueue_shared_queue}
use Rattle.abi_services.specs.Files.{are_inside, is_file, level_of_file, lines_of, file_written, fd_writes, pieces}
use Rattle.abi_services.specs.Logging.{text_limit, written, logging, own_log}
use Rattle.abi_types.specs.GuestAt.{GuestAt}
use Rattle.contexts.specs.declared.parts.Contexts.{Contexts}
use Rattle.contexts.specs.Reached.{Seen, seen}
use Rattle.filter_host.specs.Called as course
use Rattle.gate_io.specs.declared.event.Sent.{Sent}
use Rattle.store_model.specs.Program.{Program, done, ask, measure}
use Rattle.vm_host.specs.HostStates.{HostState}
use Rattle.vm_host.specs.Slots as slots
use Rattle.vm_host.specs.declared.slots.Vms.{Vms}
use Rattle.law_lines.specs.Logs.{AreLogs, OnlyLogs, WriteLogs}
use Rattle.law_lines.proofs.Hosts.{AllDone, all_bind, any_done, vms_keep}
use Rattle.law_lines.proofs.Kept.{by_bool}

logs_join : (a b : List Sent) → AreLogs a → AreLogs b → AreLogs (a ++ b)
logs_join [] b e f = f
logs_join (s ∷ a) b e f = (e.0, logs_join a b e.1 f)

-- ---- a host call

abbrev Lines : Hosted → Type 0
Lines h = AreLogs h.lines

logged_lines : (level : ℕ) (text : List ℕ) (s : Seen) → AreLogs (logging level text s).lines
logged_lines level text s =
    by_bool (λ (l : Logged). AreLogs l.lines) (nat_lt 5 level || nat_lt text_limit (length text)) (quiet 2) (written level text s) (λ e. tt)
    (λ e. by_bool (λ (l : Logged). AreLogs l.lines) (nat_lt level s.common.level) (quiet 0) _ (λ d. tt) (λ d. (tt, tt)))

file_lines : (fd : ℕ) (text : List ℕ) (s : Seen) → AreLogs (lines_of fd text s)
file_lines fd text s = by_bool AreLogs (nat_lt (level_of_file fd) s.common.level) [] _ (λ e. tt) (λ e. (tt, tt))

log_hosted : (args : List ℕ) (g : GuestAt) (s : Seen) → AreLogs (writes 6 (row_of call.Log) own_log args g s).lines
log_hosted args g s =
    by_bool (λ (w : _). AreLogs w.lines) (all_inside g.config.store.memory (row_of call.Log) 0 args) (writes_logged 6 (row_of call.Log) args g (own_log args (input_bytes g.config.store.memory (row_of call.Log) args) s)) _
    (λ e. logged_lines (arg args 0) (input_bytes g.config.store.memory (row_of call.Log) args).first s) (λ e. tt)

fd_hosted : (args : List ℕ) (g : GuestAt) (s : Seen) → AreLogs (fd_writes args g s).lines
fd_hosted args g s =
    by_bool (λ (w : _). AreLogs w.lines) (all_inside g.config.store.memory (wasi_row_of wasi.FdWrite) 0 args && are_inside g.config.store.memory (arg args 1) (arg args 2))
    (writes_logged 21 (wasi_row_of wasi.FdWrite) args g (file_written (arg args 0) (pieces g.config.store.memory (arg args 1) (arg args 2)) s)) _ (λ e. file_all (arg args 0) (pieces g.config.store.memory (arg args 1) (arg args 2))) (λ e. tt)
  where
    file_all : (fd : ℕ) (text : List ℕ) → AreLogs (file_written fd text s).lines
    file_all fd text =
        by_bool (λ (l : Logged). AreLogs l.lines) (is_file fd) _ (quiet 8) (λ e. by_bool (λ (l : Logged). AreLogs l.lines) (nat_lt text_limit (length text)) (quiet 28) _ (λ d. tt) (λ d. file_lines fd text s)) (λ e. tt)

asking_hosted : (row : List Param) (own : Asking) (vm : ℕ) (args : List ℕ) (g : GuestAt) (s : Seen) → AllDone Lines (asking row own vm args g s)
asking_hosted row own vm args g s = all_bind (λ (c : model.Called). Unit {0}) Lines (asks row own vm args g s) (λ c. done (of_called c)) (any_done (asks row own vm args g s)) (λ c e. tt)

hosted_logs : (c : HostCall) (now vm : ℕ) (args : List ℕ) (g : GuestAt) (s : Seen) → AllDone Lines (hosting c now vm args g s)
hosted_logs call.Log now vm args g s = log_hosted args g s
hosted_logs call.GetSharedData now vm args g s = asking_hosted (row_of call.GetSharedData) own_get_shared_data vm args g s
hosted_logs call.SetSharedData now vm args g s = asking_hosted (row_of call.SetSharedData) own_set_shared_data vm args g s
hosted_logs call.RegisterSharedQueue now vm args g s = asking_hosted (row_of call.RegisterSharedQueue) own_register_shared_queue vm args g s
hosted_logs call.ResolveSharedQueue now vm args g s = asking_hosted (row_of call.ResolveSharedQueue) own_resolve_shared_queue vm args g s
hosted_logs call.DequeueSharedQueue now vm args g s = asking_hosted (row_of call.DequeueSharedQueue) own_dequeue_shared_queue vm args g s
hosted_logs call.EnqueueSharedQueue now vm args g s = asking_hosted (row_of call.EnqueueSharedQueue) own_enqueue_shared_queue vm args g s
hosted_logs call.DefineMetric now vm args g s = asking_hosted (row_of call.DefineMetric) own_define_metric vm args g s
hosted_logs call.IncrementMetric now vm args g s = asking_hosted (row_of call.IncrementMetric) own_increment_metric vm args g s
hosted_logs call.RecordMetric now vm args g s = asking_hosted (row_of call.RecordMetric) own_record_metric vm args g s
hosted_logs call.GetMetric now vm args g s = asking_hosted (row_of call.GetMetric) own_get_metric vm args g s
hosted_logs c now vm args g s = tt

wasi_logs : (c : WasiCall) (now vm : ℕ) (args : List ℕ) (g : GuestAt) (s : Seen) → AllDone Lines (wasi_hosting c now vm args g s)
wasi_logs wasi.FdWrite now vm args g s = fd_hosted args g s
wasi_logs c now vm args g s = tt

only_logs : (p : Program (course.Called Vms)) → AllDone (λ (c : course.Called Vms). AreLogs c.lines) p → OnlyLogs p
only_logs (done c) all = all
only_logs (ask vm call k) all = λ r. only_logs (k r) (all r)
only_logs (measure vm call k) all = λ r. only_logs (k r) (all r)

pub machines_write_logs : WriteLogs slots.calling
machines_write_logs v vm name context first second now h =
    only_logs _
    (vms_keep (λ (s : HostState). AreLogs s.lines) (λ (k : Contexts) (place : ℕ) (d : Hosted). AreLogs d.lines) (λ place s d are e. logs_join s.lines d.lines are e) (λ place e s are. are)
    (λ c now place args g s are. hosted_logs c now place args g (seen s.contexts place)) (λ c now place args g s are. wasi_logs c now place args g (seen s.contexts place)) v vm name context first second now h tt)
