-- The replies that each ask of the metrics may have.
use Rattle.std.specs.Prelude.{◌^◌, ◌<◌, ◌≤◌}
use Rattle.store_model.specs.declared.used.TheConstants.{MOST_METRICS}
use Rattle.store_model.specs.declared.metric.MetricAsk.{MetricAsk}
use Rattle.store_model.specs.declared.metric.MetricAsk.TheVariants.{Define, Add, Put, Sum}
use Rattle.store_model.specs.declared.metric.MetricReply.{MetricReply}
use Rattle.store_model.specs.declared.metric.MetricReply.TheVariants.{NotBuilt, Unknown, BadKind, Full, Id, Done, Total}

abbrev pub IsDefineReply : MetricReply → Type 0
IsDefineReply NotBuilt = Unit {0}
IsDefineReply Full = Unit {0}
IsDefineReply (Id id) = (1 ≤ id) × (id ≤ MOST_METRICS)
IsDefineReply _ = ⊥

abbrev pub IsAddReply : MetricReply → Type 0
IsAddReply NotBuilt = Unit {0}
IsAddReply Unknown = Unit {0}
IsAddReply BadKind = Unit {0}
IsAddReply Full = Unit {0}
IsAddReply Done = Unit {0}
IsAddReply _ = ⊥

abbrev pub IsPutReply : MetricReply → Type 0
IsPutReply NotBuilt = Unit {0}
IsPutReply Unknown = Unit {0}
IsPutReply Full = Unit {0}
IsPutReply Done = Unit {0}
IsPutReply _ = ⊥

abbrev pub IsSumReply : MetricReply → Type 0
IsSumReply NotBuilt = Unit {0}
IsSumReply Unknown = Unit {0}
IsSumReply (Total value) = value < 2 ^ 64
IsSumReply _ = ⊥

-- the ask may be answered so
abbrev pub IsReplyToAsk : MetricAsk → MetricReply → Type 0
IsReplyToAsk (Define kind name) reply = IsDefineReply reply
IsReplyToAsk (Add id by) reply = IsAddReply reply
IsReplyToAsk (Put id value) reply = IsPutReply reply
IsReplyToAsk (Sum id) reply = IsSumReply reply
