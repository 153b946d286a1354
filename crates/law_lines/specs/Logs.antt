-- Machines that write into the log, and send nothing else by themselves.
use Rattle.std.specs.Prelude.{ℕ, List, [], ◌∷◌}
use Rattle.contexts.specs.declared.parts.Contexts.{Contexts}
use Rattle.filter_host.specs.Called.{Called, Calling}
use Rattle.filter_host.specs.declared.host.Callback.{Callback}
use Rattle.gate_io.specs.declared.event.Sent.{Sent}
use Rattle.gate_io.specs.declared.event.Sent.TheVariants as to
use Rattle.store_model.specs.Program.{Program, done, ask, measure}
use Rattle.store_model.specs.declared.call.Reply.{Reply}
use Rattle.store_model.specs.declared.metric.MetricReply.{MetricReply}

abbrev pub IsLog : Sent → Type 0
IsLog (to.Connect line) = ⊥
IsLog (to.Bytes line side bytes) = ⊥
IsLog (to.Close line side) = ⊥
IsLog (to.Log level text) = Unit {0}

abbrev pub AreLogs : List Sent → Type 0
AreLogs [] = Unit {0}
AreLogs (s ∷ sent) = IsLog s × AreLogs sent

-- whatever the stores reply
abbrev pub OnlyLogs : {H : Type 0} → Program (Called H) → Type 0
OnlyLogs (done c) = AreLogs c.lines
OnlyLogs (ask vm call k) = (r : Reply) → OnlyLogs (k r)
OnlyLogs (measure vm call k) = (r : MetricReply) → OnlyLogs (k r)

-- MACHINES WRITE LOGS: what a callback hands over to be sent are lines of the log
abbrev pub WriteLogs : {H : Type 0} → Calling H → Type 0
WriteLogs calling = (host : _) (vm : ℕ) (name : Callback) (context first second now : ℕ) (h : Contexts) → OnlyLogs (calling host vm name context first second now h)
