-- What asks of metrics leave, and what they come to.
use Rattle.std.proofs.Common.{◌≡◌, ℕ, zero, suc, ◌+◌, ◌-◌, Bool, true, false, cond, nat_lt, List, [], ◌∷◌, ◌++◌, length, position, Option, Some, None, refl, ap, sym, ◌∙◌, add_assoc, zero-add, add-zero, set, pos, negsuc}
use Rattle.std.specs.Prelude.{◌==◌, not}
use Rattle.std.specs.List.{position_or_len}
use lib.ListN.{length-map}
use lib.Seq.{set-get_or}
use Rattle.store_model.specs.MetricLaws.{AskEntry, IsRefusedAsk, as_metric_reply, id_of, is_done, names_of, rise_by, rise_in_all, rise_of, word_done, word_from}
use Rattle.store_model.specs.MetricNames.{define_after, define_reply, defining, definition_in, id_given, is_same_name, metric_name, place_among, with_name}
use Rattle.store_model.specs.Metrics.{MetricAnswer, applied_ask, counted, defined, is_named, known_place, known_to, metric_in, new_metric, raise_reply, raised, share_of, with_word, word_after, word_reply}
use Rattle.store_model.specs.declared.metric.Metric.{Metric}
use Rattle.store_model.specs.declared.metric.MetricAsk.{MetricAsk}
use Rattle.store_model.specs.declared.metric.MetricAsk.TheVariants.{Define, Add, Put, Sum}
use Rattle.store_model.specs.declared.metric.MetricKind.{MetricKind}
use Rattle.store_model.specs.declared.metric.MetricKind.TheVariants.{Counter, Gauge}
use Rattle.store_model.specs.declared.metric.MetricReply.TheVariants.{Full, Id, Done}
use Rattle.store_model.specs.declared.used.TheConstants.{MOST_METRICS}
use Rattle.store_model.specs.declared.call.Reply.TheVariants as store

-- ---- a counter is the sum of what was added
counted_from : (id word : ℕ) (es : List AskEntry) → word_from Counter id word es ≡ word + rise_in_all id es
counted_from id word [] = sym (add-zero word)
counted_from id word (a ∷ es) =
    counted_from id (cond (id_of a.ask == id) (cond (is_done a.reply) (word_done Counter word a.ask) word) word) es
    ∙ ap (λ x. x + rise_in_all id es) (here (id_of a.ask == id) (is_done a.reply) a.ask)
    ∙ add_assoc word (rise_by id a) (rise_in_all id es)
  where
    one : (asked : MetricAsk) → word_done Counter word asked ≡ word + word_done Counter 0 asked
    one (Define kind name) = sym (add-zero word)
    one (Add i by) = ap (λ x. word + x) (sym (zero-add (rise_of by)))
    one (Put i value) = ap (λ x. word + x) (sym (zero-add value))
    one (Sum i) = sym (add-zero word)

    here : (b d : Bool) (asked : MetricAsk) → cond b (cond d (word_done Counter word asked) word) word ≡ word + cond b (cond d (word_done Counter 0 asked) 0) 0
    here true true asked = one asked
    here true false asked = sym (add-zero word)
    here false d asked = sym (add-zero word)

pub counter_is_sum : (id : ℕ) (es : List AskEntry) → word_from Counter id 0 es ≡ rise_in_all id es
counter_is_sum id es = counted_from id 0 es ∙ zero-add (rise_in_all id es)

-- ---- a refused ask changes nothing
same_metric : (m : Metric) (who : ℕ) → with_word m who (share_of m who).word ≡ m
same_metric m who = λ i. record m { shares = set-get_or m.shares (who - 1) (record { knows = false; word = 0 }) i }

same_list : (ms : List Metric) (k who word : ℕ) → word ≡ (share_of (metric_in ms k) who).word → set ms k (with_word (metric_in ms k) who word) ≡ ms
same_list ms k who word is =
    ap (λ w. set ms k (with_word (metric_in ms k) who w)) is ∙ (ap (set ms k) (same_metric (metric_in ms k) who) ∙ set-get_or ms k (new_metric Counter []))

refused_raise : (word by : ℕ) → IsRefusedAsk (raise_reply word by) → raised word by ≡ word
refused_raise word by = at (nat_lt (word + by) 18446744073709551616)
  where
    at : (b : Bool) → IsRefusedAsk (cond b Done Full) → cond b (word + by) word ≡ word
    at true h = absurd h
    at false h = refl

refused_word : (kind : MetricKind) (word : ℕ) (asked : MetricAsk) → IsRefusedAsk (word_reply kind word asked) → word_after kind word asked ≡ word
refused_word kind word (Define k name) h = refl
refused_word Counter word (Add id (pos n)) h = refused_raise word n h
refused_word Counter word (Add id (negsuc n)) h = refl
refused_word Gauge word (Add id by) h = absurd h
refused_word Counter word (Put id value) h = refused_raise word value h
refused_word Gauge word (Put id value) h = absurd h
refused_word kind word (Sum id) h = refl

refused_count : (ms : List Metric) (who : ℕ) (asked : MetricAsk) (o : Option ℕ) → IsRefusedAsk (counted ms who asked o).reply → (counted ms who asked o).metrics ≡ ms
refused_count ms who asked (Some k) h = same_list ms k who _ (refused_word (metric_in ms k).kind (share_of (metric_in ms k) who).word asked h)
refused_count ms who asked None h = refl

-- a new name, where there is room or not
abbrev answers : List Metric → ℕ → MetricKind → List ℕ → Bool → MetricAnswer
answers ms who kind name b = cond b (record { metrics = ms ++ known_to who (new_metric kind name) ∷ []; reply = Id (length ms + 1) }) (record { metrics = ms; reply = Full })

refused_define : (ms : List Metric) (who : ℕ) (kind : MetricKind) (name : List ℕ) (o : Option ℕ) → IsRefusedAsk (defined ms who kind name o).reply → (defined ms who kind name o).metrics ≡ ms
refused_define ms who kind name (Some k) = λ h. absurd h
refused_define ms who kind name None = at (nat_lt (length ms) MOST_METRICS)
  where
    at : (b : Bool) → IsRefusedAsk (answers ms who kind name b).reply → (answers ms who kind name b).metrics ≡ ms
    at true h = absurd h
    at false h = refl

pub refused_ask : (ms : List Metric) (who : ℕ) (asked : MetricAsk) → IsRefusedAsk (applied_ask ms who asked).reply → (applied_ask ms who asked).metrics ≡ ms
refused_ask ms who (Define kind name) h = refused_define ms who kind name (position (is_named kind name) ms) h
refused_ask ms who (Add id by) h = refused_count ms who (Add id by) (known_place ms who id) h
refused_ask ms who (Put id value) h = refused_count ms who (Put id value) (known_place ms who id) h
refused_ask ms who (Sum id) h = refl

-- ---- a Define is what the names answer
prefix_same : (kind : MetricKind) (name : List ℕ) (ms : List Metric) → position_or_len (is_same_name (metric_name kind name)) (names_of ms) ≡ position_or_len (is_named kind name) ms
prefix_same kind name [] = refl
prefix_same kind name (m ∷ ms) = ap (λ n. cond (not (is_named kind name m)) (1 + n) 0) (prefix_same kind name ms)

place_same : (kind : MetricKind) (name : List ℕ) (ms : List Metric) → place_among (names_of ms) (metric_name kind name) ≡ position (is_named kind name) ms
place_same kind name ms =
    (λ i. cond (nat_lt (prefix_same kind name ms i) (length (names_of ms))) (Some (prefix_same kind name ms i)) None)
    ∙ ap (λ n. cond (nat_lt (position_or_len (is_named kind name) ms) n) (Some (position_or_len (is_named kind name) ms)) None) (length-map ms (λ m. metric_name m.kind m.name))

names_push : (ms : List Metric) (m : Metric) → names_of (ms ++ m ∷ []) ≡ names_of ms ++ metric_name m.kind m.name ∷ []
names_push [] m = refl
names_push (x ∷ ms) m = ap (λ l. metric_name x.kind x.name ∷ l) (names_push ms m)

names_set : (ms : List Metric) (k who : ℕ) → names_of (set ms k (known_to who (metric_in ms k))) ≡ names_of ms
names_set [] k who = refl
names_set (m ∷ ms) zero who = refl
names_set (m ∷ ms) (suc k) who = ap (λ l. metric_name m.kind m.name ∷ l) (names_set ms k who)

defined_reply : (ms : List Metric) (who : ℕ) (kind : MetricKind) (name : List ℕ) (o : Option ℕ) → (defined ms who kind name o).reply ≡ as_metric_reply (id_given (names_of ms) o)
defined_reply ms who kind name (Some k) = refl
defined_reply ms who kind name None = at (nat_lt (length ms) MOST_METRICS) ∙ ap (λ n. as_metric_reply (cond (nat_lt n MOST_METRICS) (store.Id (n + 1)) store.Full)) (sym (length-map ms (λ m. metric_name m.kind m.name)))
  where
    at : (b : Bool) → (answers ms who kind name b).reply ≡ as_metric_reply (cond b (store.Id (length ms + 1)) store.Full)
    at true = refl
    at false = refl

defined_names : (ms : List Metric) (who : ℕ) (kind : MetricKind) (name : List ℕ) (o : Option ℕ) → names_of (defined ms who kind name o).metrics ≡ with_name (names_of ms) (metric_name kind name) o
defined_names ms who kind name (Some k) = names_set ms k who
defined_names ms who kind name None = at (nat_lt (length ms) MOST_METRICS) ∙ ap (λ n. cond (nat_lt n MOST_METRICS) (names_of ms ++ metric_name kind name ∷ []) (names_of ms)) (sym (length-map ms (λ m. metric_name m.kind m.name)))
  where
    at : (b : Bool) → names_of (answers ms who kind name b).metrics ≡ cond b (names_of ms ++ metric_name kind name ∷ []) (names_of ms)
    at true = names_push ms (known_to who (new_metric kind name))
    at false = refl

pub define_is_named : (ms : List Metric) (who : ℕ) (kind : MetricKind) (name : List ℕ) →
    ((applied_ask ms who (Define kind name)).reply ≡ as_metric_reply (define_reply (names_of ms) (definition_in (defining kind name))))
    × (names_of (applied_ask ms who (Define kind name)).metrics ≡ define_after (names_of ms) (definition_in (defining kind name)))
define_is_named ms who Counter name = (
  defined_reply ms who Counter name (position (is_named Counter name) ms) ∙ ap (λ o. as_metric_reply (id_given (names_of ms) o)) (sym (place_same Counter name ms)),
  defined_names ms who Counter name (position (is_named Counter name) ms) ∙ ap (with_name (names_of ms) (metric_name Counter name)) (sym (place_same Counter name ms)),
)
define_is_named ms who Gauge name = (
  defined_reply ms who Gauge name (position (is_named Gauge name) ms) ∙ ap (λ o. as_metric_reply (id_given (names_of ms) o)) (sym (place_same Gauge name ms)),
  defined_names ms who Gauge name (position (is_named Gauge name) ms) ∙ ap (with_name (names_of ms) (metric_name Gauge name)) (sym (place_same Gauge name ms)),
)
