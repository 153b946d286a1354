-- The metrics of one VM name, as all workers see them, and what a worker's ask makes of them.
use Rattle.std.specs.Prelude.{ℕ, zero, suc, ◌+◌, ◌-◌, ◌%◌, ◌^◌, ◌&&◌, Bool, true, false, List, [], ◌∷◌, ◌++◌, length, replicate, sum_by, position, is_some, slice_get, slice_index_or, slice_set, Option, Some, None, nat_lt, if◌then◌else◌, ℤ, pos, negsuc}
use Rattle.std.specs.Int.{w64, cast_unsigned}
use Rattle.std.specs.Str.{bytes_eq}
use Rattle.store_model.specs.declared.metric.Share.{Share}
use Rattle.store_model.specs.declared.metric.Metric.{Metric}
use Rattle.store_model.specs.declared.metric.MetricKind.{MetricKind}
use Rattle.store_model.specs.declared.metric.MetricKind.TheVariants.{Counter, Gauge}
use Rattle.store_model.specs.declared.metric.MetricAsk.{MetricAsk}
use Rattle.store_model.specs.declared.metric.MetricAsk.TheVariants.{Define, Add, Put, Sum}
use Rattle.store_model.specs.declared.metric.MetricReply.{MetricReply}
use Rattle.store_model.specs.declared.metric.MetricReply.TheVariants.{Unknown, BadKind, Full, Id, Done, Total}
use Rattle.store_model.specs.declared.used.TheConstants.{MOST_METRICS}

abbrev pub no_share : Share
no_share = record { knows = false; word = 0 }

abbrev pub new_metric : MetricKind → List ℕ → Metric
new_metric kind name = record { kind = kind; name = name; shares = replicate 8 no_share }

abbrev pub share_of : Metric → ℕ → Share
share_of m who = slice_index_or m.shares (who - 1) no_share

abbrev pub with_share : Metric → ℕ → Share → Metric
with_share m who share = record m { shares = slice_set m.shares (who - 1) share }

-- a worker got the id
abbrev pub known_to : ℕ → Metric → Metric
known_to who m = with_share m who (record (share_of m who) { knows = true })

-- a worker's word
abbrev pub with_word : Metric → ℕ → ℕ → Metric
with_word m who word = with_share m who (record (share_of m who) { word = word })

abbrev pub is_kind : MetricKind → MetricKind → Bool
is_kind Counter Counter = true
is_kind Gauge Gauge = true
is_kind _ _ = false

-- this is the metric of a kind and a name
abbrev pub is_named : MetricKind → List ℕ → Metric → Bool
is_named kind name m = is_kind kind m.kind && bytes_eq name m.name

abbrev pub no_metric : Metric
no_metric = new_metric Counter []

abbrev pub metric_in : List Metric → ℕ → Metric
metric_in ms k = slice_index_or ms k no_metric

-- the metrics after an ask, and the reply
pub record MetricAnswer : Type 0 where
  pub metrics : List Metric
  pub reply : MetricReply

-- Define: the place from 1 of the metric that there is, or of a new one; from here on the worker knows this id.
abbrev pub defined : List Metric → ℕ → MetricKind → List ℕ → Option ℕ → MetricAnswer
defined ms who kind name (Some k) = record { metrics = slice_set ms k (known_to who (metric_in ms k)); reply = Id (k + 1) }
defined ms who kind name None =
    if nat_lt (length ms) MOST_METRICS then record { metrics = ms ++ known_to who (new_metric kind name) ∷ []; reply = Id (length ms + 1) } else record { metrics = ms; reply = Full }

-- the place of the metric of an id, where this worker knows it
abbrev pub where_known : ℕ → ℕ → Option Metric → Option ℕ
where_known who k (Some m) = if (share_of m who).knows then Some k else None
where_known who k None = None

abbrev pub known_place : List Metric → ℕ → ℕ → Option ℕ
known_place ms who zero = None
known_place ms who (suc k) = where_known who k (slice_get ms k)

-- so much more on a counter's word, up to 2^64 - 1
abbrev pub raised : ℕ → ℕ → ℕ
raised word by = if nat_lt (word + by) (2 ^ 64) then word + by else word

abbrev pub raise_reply : ℕ → ℕ → MetricReply
raise_reply word by = if nat_lt (word + by) (2 ^ 64) then Done else Full

-- Add: a counter rises, and never falls; a gauge goes up or down, modulo 2^64
abbrev pub word_added : MetricKind → ℕ → ℤ → ℕ
word_added Counter word (pos n) = raised word n
word_added Counter word (negsuc n) = word
word_added Gauge word by = (word + cast_unsigned w64 by) % 2 ^ 64

abbrev pub add_reply : MetricKind → ℕ → ℤ → MetricReply
add_reply Counter word (pos n) = raise_reply word n
add_reply Counter word (negsuc n) = BadKind
add_reply Gauge word by = Done

-- Put: a counter rises by the value, a gauge has it
abbrev pub word_put : MetricKind → ℕ → ℕ → ℕ
word_put Counter word value = raised word value
word_put Gauge word value = value

abbrev pub put_reply : MetricKind → ℕ → ℕ → MetricReply
put_reply Counter word value = raise_reply word value
put_reply Gauge word value = Done

-- the caller's own word after an Add or a Put, and the reply
abbrev pub word_after : MetricKind → ℕ → MetricAsk → ℕ
word_after kind word (Add id by) = word_added kind word by
word_after kind word (Put id value) = word_put kind word value
word_after kind word _ = word

abbrev pub word_reply : MetricKind → ℕ → MetricAsk → MetricReply
word_reply kind word (Add id by) = add_reply kind word by
word_reply kind word (Put id value) = put_reply kind word value
word_reply kind word _ = Unknown

-- Add and Put change the caller's own word of a metric that it knows.
abbrev pub counted : List Metric → ℕ → MetricAsk → Option ℕ → MetricAnswer
counted ms who ask (Some k) =
    let m = metric_in ms k in
    let word = (share_of m who).word in
    record { metrics = slice_set ms k (with_word m who (word_after m.kind word ask)); reply = word_reply m.kind word ask }
counted ms who ask None = record { metrics = ms; reply = Unknown }

-- Sum: of all workers' words, modulo 2^64
abbrev pub total : Metric → ℕ
total m = sum_by (λ s. s.word) m.shares % 2 ^ 64

abbrev pub sum_reply : List Metric → Option ℕ → MetricReply
sum_reply ms (Some k) = Total (total (metric_in ms k))
sum_reply ms None = Unknown

-- What a worker's ask makes of the metrics of a VM name.
abbrev pub applied_ask : List Metric → ℕ → MetricAsk → MetricAnswer
applied_ask ms who (Define kind name) = defined ms who kind name (position (is_named kind name) ms)
applied_ask ms who (Add id by) = counted ms who (Add id by) (known_place ms who id)
applied_ask ms who (Put id value) = counted ms who (Put id value) (known_place ms who id)
applied_ask ms who (Sum id) = record { metrics = ms; reply = sum_reply ms (known_place ms who id) }

-- Add, Put and Sum take no memory, nor does a Define of a metric that is there.
abbrev pub ask_takes_no_memory : MetricAsk → List Metric → Bool
ask_takes_no_memory (Define kind name) ms = is_some (position (is_named kind name) ms)
ask_takes_no_memory _ ms = true
