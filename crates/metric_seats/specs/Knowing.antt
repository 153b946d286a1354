-- What a worker knows of metrics: the ids that it got from definitions of its own, in whichever of its lives, and their kinds.
use Rattle.std.specs.Prelude.{ℕ, zero, suc, ◌-◌, List, [], ◌∷◌, replicate, Option, Some, None, slice_index_or, slice_set}
use Rattle.store_model.specs.MetricNames.{definition_in}
use Rattle.store_model.specs.declared.call.Call.{Call}
use Rattle.store_model.specs.declared.call.Call.TheVariants.{Register}
use Rattle.store_model.specs.declared.call.Reply.{Reply}
use Rattle.store_model.specs.declared.call.Reply.TheVariants.{Id}
use Rattle.store_model.specs.declared.entry.Entry.{Entry}
use Rattle.store_model.specs.declared.metric.MetricKind.{MetricKind}
use Rattle.store_model.specs.declared.metric.MetricName.{MetricName}

-- the kinds of the ids 1 to 64 that are known
abbrev pub Kinds : Type 0
Kinds = List (Option MetricKind)

abbrev pub no_ids : Kinds
no_ids = replicate 64 None

-- a definition was answered with an id
abbrev pub learned : Kinds → Option MetricName → ℕ → Kinds
learned kinds (Some n) id = slice_set kinds (id - 1) (Some n.kind)
learned kinds None id = kinds

abbrev pub learned_by : Kinds → Call → Reply → Kinds
learned_by kinds (Register name root) (Id id) = learned kinds (definition_in name) id
learned_by kinds _ _ = kinds

-- what a worker's own entries made it know
abbrev pub known_from : Kinds → List Entry → Kinds
known_from kinds [] = kinds
known_from kinds (e ∷ es) = known_from (learned_by kinds e.call e.reply) es

abbrev pub known_by : List Entry → Kinds
known_by es = known_from no_ids es

-- the kind of an id that is known
abbrev pub kind_of : Kinds → ℕ → Option MetricKind
kind_of kinds zero = None
kind_of kinds (suc k) = slice_index_or kinds k None
