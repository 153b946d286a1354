-- The calls on metrics: counters and gauges of the caller's own VM name. Histograms are left out.
use Rattle.std.specs.Prelude.{ℕ, ◌==◌, ◌||◌, cond, nat_lt, List, length, if◌then◌else◌}
use Rattle.std.specs.Int.{w64, cast_signed}
use Rattle.store_model.specs.Program.{Program, done, measure}
use Rattle.store_model.specs.declared.metric.MetricKind.{MetricKind}
use Rattle.store_model.specs.declared.metric.MetricKind.TheVariants.{Counter, Gauge}
use Rattle.store_model.specs.declared.metric.MetricAsk.TheVariants as metric
use Rattle.store_model.specs.declared.metric.MetricReply.{MetricReply}
use Rattle.store_model.specs.declared.metric.MetricReply.TheVariants as reply
use Rattle.abi_model.specs.Asking.{Asking}
use Rattle.abi_model.specs.Calls.{only, given}
use Rattle.abi_model.specs.Table.{arg}
use Rattle.abi_model.specs.declared.ends.Outcome.{Outcome}
use Rattle.abi_model.specs.declared.ends.Gives.TheVariants.{Number, Wide}

abbrev pub kind_of : ℕ → MetricKind
kind_of n = cond (n == 0) Counter Gauge

abbrev pub was_defined : MetricReply → Outcome
was_defined (reply.Id id) = given (Number id)
was_defined reply.NotBuilt = only 12
was_defined _ = only 10

-- a type above 2, or a name not of 1 to 256 bytes; then type 2, which is that of histograms
abbrev pub defining : (vm type : ℕ) → List ℕ → Program Outcome
defining vm type name =
    if nat_lt 2 type || ((length name == 0) || nat_lt 256 (length name)) then done (only 2)
    else (if type == 2 then done (only 12) else measure vm (metric.Define (kind_of type) name) (λ r. done (was_defined r)))

abbrev pub own_define_metric : Asking
own_define_metric vm args inputs s = defining vm (arg args 0) inputs.first

abbrev pub was_added : MetricReply → Outcome
was_added reply.Done = only 0
was_added reply.Unknown = only 1
was_added reply.BadKind = only 2
was_added reply.NotBuilt = only 12
was_added _ = only 10

-- the offset is a signed number of 64 bits
abbrev pub adding : (vm id offset : ℕ) → Program Outcome
adding vm id offset = measure vm (metric.Add id (cast_signed w64 offset)) (λ r. done (was_added r))

abbrev pub own_increment_metric : Asking
own_increment_metric vm args inputs s = adding vm (arg args 0) (arg args 1)

abbrev pub recording : (vm id value : ℕ) → Program Outcome
recording vm id value = measure vm (metric.Put id value) (λ r. done (was_added r))

abbrev pub own_record_metric : Asking
own_record_metric vm args inputs s = recording vm (arg args 0) (arg args 1)

abbrev pub total_in : MetricReply → Outcome
total_in (reply.Total value) = given (Wide value)
total_in reply.NotBuilt = only 12
total_in _ = only 1

abbrev pub summing : (vm id : ℕ) → Program Outcome
summing vm id = measure vm (metric.Sum id) (λ r. done (total_in r))

abbrev pub own_get_metric : Asking
own_get_metric vm args inputs s = summing vm (arg args 0)
