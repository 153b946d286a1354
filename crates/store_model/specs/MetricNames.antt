-- The names of the metrics of one VM name, and what a call makes of them: a Register of a kind and a name is a definition.
use Rattle.std.specs.Prelude.{ℕ, zero, suc, ◌+◌, ◌≤◌, ◌&&◌, Bool, true, List, [], ◌∷◌, ◌++◌, length, position, is_some, Option, Some, None, nat_lt, if◌then◌else◌}
use Rattle.std.specs.Str.{bytes_eq}
use Rattle.store_model.specs.History.{Acts}
use Rattle.store_model.specs.Metrics.{is_kind}
use Rattle.store_model.specs.declared.call.Call.{Call}
use Rattle.store_model.specs.declared.call.Call.TheVariants.{Register}
use Rattle.store_model.specs.declared.call.Reply.{Reply}
use Rattle.store_model.specs.declared.call.Reply.TheVariants.{Absent, Full, Id}
use Rattle.store_model.specs.declared.metric.MetricKind.{MetricKind}
use Rattle.store_model.specs.declared.metric.MetricKind.TheVariants.{Counter, Gauge}
use Rattle.store_model.specs.declared.metric.MetricName.{MetricName}
use Rattle.store_model.specs.declared.used.TheConstants.{MOST_METRICS}

-- the number of the VM name, and its metrics in the order of their ids from 1
pub record Names : Type 0 where
  pub vm : ℕ
  pub names : List MetricName

abbrev pub no_names : ℕ → Names
no_names vm = record { vm = vm; names = [] }

abbrev pub metric_name : MetricKind → List ℕ → MetricName
metric_name kind name = record { kind = kind; name = name }

-- a definition's bytes: one of the kind, and then the name
abbrev pub kind_byte : MetricKind → ℕ
kind_byte Counter = 0
kind_byte Gauge = 1

abbrev pub defining : MetricKind → List ℕ → List ℕ
defining kind name = kind_byte kind ∷ name

-- what such bytes define, if they do
abbrev pub definition_in : List ℕ → Option MetricName
definition_in (zero ∷ name) = Some (metric_name Counter name)
definition_in (suc zero ∷ name) = Some (metric_name Gauge name)
definition_in _ = None

abbrev pub is_same_name : MetricName → MetricName → Bool
is_same_name n m = is_kind n.kind m.kind && bytes_eq n.name m.name

-- the place of a name among others, if it is there
abbrev pub place_among : List MetricName → MetricName → Option ℕ
place_among ns n = position (is_same_name n) ns

-- A name that is there has its place, from 1. A new one is put last, up to 64.
abbrev pub id_given : List MetricName → Option ℕ → Reply
id_given ns (Some k) = Id (k + 1)
id_given ns None = if nat_lt (length ns) MOST_METRICS then Id (length ns + 1) else Full

abbrev pub with_name : List MetricName → MetricName → Option ℕ → List MetricName
with_name ns n (Some k) = ns
with_name ns n None = if nat_lt (length ns) MOST_METRICS then ns ++ n ∷ [] else ns

abbrev pub define_reply : List MetricName → Option MetricName → Reply
define_reply ns (Some n) = id_given ns (place_among ns n)
define_reply ns None = Absent

abbrev pub define_after : List MetricName → Option MetricName → List MetricName
define_after ns (Some n) = with_name ns n (place_among ns n)
define_after ns None = ns

-- Every other call is answered that nothing is there.
abbrev pub names_reply : Names → Call → Reply
names_reply s (Register name root) = define_reply s.names (definition_in name)
names_reply s _ = Absent

abbrev pub names_after : Names → Call → Names
names_after s (Register name root) = record s { names = define_after s.names (definition_in name) }
names_after s _ = s

-- the names may answer so
abbrev pub IsIdGiven : Reply → Type 0
IsIdGiven Full = Unit {0}
IsIdGiven (Id id) = (1 ≤ id) × (id ≤ MOST_METRICS)
IsIdGiven _ = ⊥

abbrev pub IsAbsent : Reply → Type 0
IsAbsent Absent = Unit {0}
IsAbsent _ = ⊥

abbrev pub IsDefinedReply : Option MetricName → Reply → Type 0
IsDefinedReply (Some n) reply = IsIdGiven reply
IsDefinedReply None reply = IsAbsent reply

abbrev pub IsNamesReply : Call → Reply → Type 0
IsNamesReply (Register name root) reply = IsDefinedReply (definition_in name) reply
IsNamesReply _ reply = IsAbsent reply

-- A definition of a metric that is there takes no memory.
abbrev pub is_there : List MetricName → Option MetricName → Bool
is_there ns (Some n) = is_some (place_among ns n)
is_there ns None = true

abbrev pub names_take_no_memory : Call → Names → Bool
names_take_no_memory (Register name root) s = is_there s.names (definition_in name)
names_take_no_memory _ s = true

abbrev pub names_acts : Acts Names
names_acts = record { empty = no_names; after = λ who call s. names_after s call; reply = λ who call s. names_reply s call; sure = names_take_no_memory }
