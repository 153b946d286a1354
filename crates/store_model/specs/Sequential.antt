-- Stores that one thread uses, and programs over them.
use Rattle.std.specs.Prelude.{◌≡◌, ℕ, ◌<◌, ◌==◌, List, [], ◌∷◌, ◌++◌, length, map, cond, slice_index_or, slice_set, refl}
use Rattle.std.specs.List.{filter}
use Rattle.std.proofs.Common.{subst, sym, ap, ◌∙◌, length-set, get_or-set_same, get_or-set_other, eq-eqb, ne_eqb, ⊎_elim}
use Rattle.std.proofs.lemmas.Bool.{cases_eq}
use Rattle.store_model.specs.History.{entry, store_acts, value_from, replies_from, IsLegalFrom}
use Rattle.store_model.specs.Made.{Made, MadeCall, called, measured, calls_among, entries_on}
use Rattle.store_model.specs.Metrics.{applied_ask}
use Rattle.store_model.specs.declared.entry.Entry.{Entry}
use Rattle.store_model.specs.Store.{Store, empty_store, applied}
use Rattle.store_model.specs.Program.{Program, done, ask, measure, Reaches, Runs}
use Rattle.store_model.specs.declared.call.Call.{Call}
use Rattle.store_model.specs.declared.call.Reply.{Reply}
use Rattle.store_model.specs.declared.metric.Metric.{Metric}
use Rattle.store_model.specs.declared.metric.MetricAsk.{MetricAsk}
use Rattle.store_model.specs.declared.metric.MetricReply.{MetricReply}

-- the stores and the metrics by the numbers of their VM names, and the worker whose calls and asks they take
pub record Stores : Type 0 where
  pub who : ℕ
  pub stores : List Store
  pub metrics : List (List Metric)

abbrev pub store_at : Stores → ℕ → Store
store_at s vm = slice_index_or s.stores vm (empty_store vm)

abbrev pub reply_at : Stores → ℕ → Call → Reply
reply_at s vm call = (applied (store_at s vm) s.who call).reply

abbrev pub stores_after : Stores → ℕ → Call → Stores
stores_after s vm call = record s { stores = slice_set s.stores vm (applied (store_at s vm) s.who call).store }

abbrev pub metrics_at : Stores → ℕ → List Metric
metrics_at s vm = slice_index_or s.metrics vm []

abbrev pub sum_at : Stores → ℕ → MetricAsk → MetricReply
sum_at s vm asked = (applied_ask (metrics_at s vm) s.who asked).reply

abbrev pub measured_after : Stores → ℕ → MetricAsk → Stores
measured_after s vm asked = record s { metrics = slice_set s.metrics vm (applied_ask (metrics_at s vm) s.who asked).metrics }

-- Each reply is that of the store, or of the metrics, of its number at that place, and t is what is left after all calls and asks.
abbrev pub Performs : Stores → List Made → Stores → Type 0
Performs s [] t = t ≡ s
Performs s (called m ∷ ms) t = (m.reply ≡ reply_at s m.vm m.call) × Performs (stores_after s m.vm m.call) ms t
Performs s (measured m ∷ ms) t = (m.reply ≡ sum_at s m.vm m.ask) × Performs (measured_after s m.vm m.ask) ms t

pub performs_nothing : (s : Stores) → Performs s [] s
performs_nothing s = refl

joined : (a b : List Made) (s t u : Stores) → Performs s a t → Performs t b u → Performs s (a ++ b) u
joined [] b s t u same rest = subst (λ (x : Stores). Performs x b u) same rest
joined (called m ∷ a) b s t u first rest = (first.0, joined a b (stores_after s m.vm m.call) t u first.1 rest)
joined (measured m ∷ a) b s t u first rest = (first.0, joined a b (measured_after s m.vm m.ask) t u first.1 rest)

pub performs_joined : (s t u : Stores) (a b : List Made) → Performs s a t → Performs t b u → Performs s (a ++ b) u
performs_joined s t u a b first rest = joined a b s t u first rest

-- the stores that a program leaves, and its result
pub record Played (A : Type 0) : Type 0 where
  pub stores : Stores
  pub end : A

-- a program over stores that no one else uses: each call and each ask is answered at once
abbrev pub played : {A : Type 0} → Program A → Stores → Played A
played (done a) s = record { stores = s; end = a }
played (ask vm call k) s = played (k (reply_at s vm call)) (stores_after s vm call)
played (measure vm call k) s = played (k (sum_at s vm call)) (measured_after s vm call)

plays : {A : Type 0} (ms : List Made) (p : Program A) (s t : Stores) (a : A) → Reaches p ms (done a) → Performs s ms t → played p s ≡ record { stores = t; end = a }
plays [] p s t a is same = ap (λ (q : Program _). played q s) is ∙ (λ i. record { stores = sym same i; end = a })
plays (m ∷ ms) (done x) s t a reaches performed = elim reaches [ ]
plays (called m ∷ ms) (ask vm call k) s t a reaches performed =
    let v = sym reaches.0 in
    let c = sym reaches.1 in
    (λ i. played (k (reply_at s (v i) (c i))) (stores_after s (v i) (c i)))
    ∙ (λ i. played (k (sym performed.0 i)) (stores_after s m.vm m.call))
    ∙ plays ms (k m.reply) (stores_after s m.vm m.call) t a reaches.2 performed.1
plays (measured m ∷ ms) (ask vm call k) s t a reaches performed = elim reaches [ ]
plays (called m ∷ ms) (measure vm call k) s t a reaches performed = elim reaches [ ]
plays (measured m ∷ ms) (measure vm call k) s t a reaches performed =
    let v = sym reaches.0 in
    let c = sym reaches.1 in
    (λ i. played (k (sum_at s (v i) (c i))) (measured_after s (v i) (c i)))
    ∙ (λ i. played (k (sym performed.0 i)) (measured_after s m.vm m.ask))
    ∙ plays ms (k m.reply) (measured_after s m.vm m.ask) t a reaches.2 performed.1

-- A program that ran to its end over such stores is the one that is played over them.
pub plays_run : {A : Type 0} {p : Program A} {s t : Stores} {a : A} → Runs Performs s p (done a) t → played p s ≡ record { stores = t; end = a }
plays_run {p} {s} {t} {a} run = plays run.calls p s t a run.reaches run.performed

stores_after_same : (s : Stores) (vm v : ℕ) (call : Call) → v < length s.stores → vm ≡ v → store_at (stores_after s vm call) v ≡ (applied (store_at s v) s.who call).store
stores_after_same s vm v call within same =
    subst (λ n. slice_index_or (slice_set s.stores n (applied (store_at s n) s.who call).store) v (empty_store v) ≡ (applied (store_at s v) s.who call).store) (sym same)
    (get_or-set_same s.stores v (applied (store_at s v) s.who call).store (empty_store v) within)

-- Each reply is that of its store after the entries before it, and the store that is left is the one after them: for each store, the calls on it are a legal history.
pub performs_part : (calls : List Made) (s t : Stores) (v : ℕ) → v < length s.stores → Performs s calls t →
    IsLegalFrom store_acts (store_at s v) (entries_on s.who v calls) × (store_at t v ≡ value_from store_acts (store_at s v) (entries_on s.who v calls))
performs_part [] s t v within same = (refl, ap (λ (x : Stores). store_at x v) same)
performs_part (measured m ∷ ms) s t v within performed = performs_part ms (measured_after s m.vm m.ask) t v within performed.1
performs_part (called m ∷ ms) s t v within performed =
    let next = stores_after s m.vm m.call in
    let rest = performs_part ms next t v (subst (λ n. v < n) (sym (length-set s.stores m.vm (applied (store_at s m.vm) s.who m.call).store)) within) performed.1 in
    let P : List Entry → Type 0 = λ h. IsLegalFrom store_acts (store_at s v) h × (store_at t v ≡ value_from store_acts (store_at s v) h) in
    ⊎_elim
    (λ (here : m.vm ≡ v).
    let after = stores_after_same s m.vm v m.call within here in
    let e = entry s.who m.call m.reply in
    subst (λ b. P (map (λ x. entry s.who x.call x.reply) (cond b (m ∷ filter (λ (x : MadeCall). x.vm == v) (calls_among ms)) (filter (λ (x : MadeCall). x.vm == v) (calls_among ms))))) (sym (eq-eqb m.vm v here))
    ((λ i. (performed.0 ∙ ap (λ n. reply_at s n m.call) here) i ∷ (rest.0 ∙ ap (λ x. replies_from store_acts x (entries_on s.who v ms)) after) i), rest.1 ∙ ap (λ x. value_from store_acts x (entries_on s.who v ms)) after))
    (λ (apart : m.vm ≡ v → ⊥).
    let after : store_at next v ≡ store_at s v = get_or-set_other s.stores m.vm v (applied (store_at s m.vm) s.who m.call).store (empty_store v) (λ e. apart (sym e)) in
    subst (λ b. P (map (λ x. entry s.who x.call x.reply) (cond b (m ∷ filter (λ (x : MadeCall). x.vm == v) (calls_among ms)) (filter (λ (x : MadeCall). x.vm == v) (calls_among ms))))) (sym (ne_eqb m.vm v apart))
    (rest.0 ∙ ap (λ x. replies_from store_acts x (entries_on s.who v ms)) after, rest.1 ∙ ap (λ x. value_from store_acts x (entries_on s.who v ms)) after))
    (cases_eq m.vm v)
