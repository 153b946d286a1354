-- Words over histories of asks.
use Rattle.std.specs.Prelude.{◌%◌, map, slice_get, sum, sum_by}
use Rattle.std.proofs.Common.{◌≡◌, ◌≢◌, ℕ, zero, suc, ◌+◌, ◌-◌, ◌==◌, ◌<◌, ◌≤◌, Bool, true, false, cond, nat_lt, All, List, [], ◌∷◌, ◌++◌, length, position, replicate, Option, Some, None, refl, ap, sym, subst, ◌∙◌, arith, set, get_or, get_or-set_same, get_or-set_other, length-set, eq-eqb, ne_eqb, pos, negsuc}
use mathlib.Core.Logic.{dite}
use native.Mathlib.Decide.{ℕ_discrete}
use Rattle.store_model.specs.MetricLaws.{AskEntry, asks_by, id_of, is_done, totals_of, word_done, word_from, workers}
use Rattle.store_model.specs.Metrics.{MetricAnswer, applied_ask, counted, defined, is_named, known_place, known_to, metric_in, new_metric, no_metric, no_share, share_of, sum_reply, total, where_known, with_share, with_word, word_after, word_reply}
use Rattle.store_model.specs.declared.metric.Metric.{Metric}
use Rattle.store_model.specs.declared.metric.Share.{Share}
use Rattle.store_model.specs.declared.metric.MetricAsk.{MetricAsk}
use Rattle.store_model.specs.declared.metric.MetricAsk.TheVariants.{Define, Add, Put, Sum}
use Rattle.store_model.specs.declared.metric.MetricKind.{MetricKind}
use Rattle.store_model.specs.declared.metric.MetricKind.TheVariants.{Counter, Gauge}
use Rattle.store_model.specs.declared.metric.MetricReply.{MetricReply}
use Rattle.store_model.specs.declared.metric.MetricReply.TheVariants.{Full, Id, Done}
use Rattle.store_model.specs.declared.used.TheConstants.{MOST_METRICS}
use Rattle.law_metrics.specs.Histories.{AreAnswered, metrics_after, word_at}

-- ---- shares
-- a worker's share that was written with its old word
word_kept : (m : Metric) (who other : ℕ) (s : Share) → s.word ≡ (share_of m who).word → (share_of (with_share m who s) other).word ≡ (share_of m other).word
word_kept m who other s same = at (who - 1) (other - 1) m.shares same
  where
    at : (i j : ℕ) (l : List Share) → s.word ≡ (get_or l i no_share).word → (get_or (set l i s) j no_share).word ≡ (get_or l j no_share).word
    at i j [] e = refl
    at zero zero (x ∷ l) e = e
    at zero (suc j) (x ∷ l) e = refl
    at (suc i) zero (x ∷ l) e = refl
    at (suc i) (suc j) (x ∷ l) e = at i j l e

-- another worker's word
word_else : (m : Metric) (who other : ℕ) (s : Share) → 1 ≤ who → 1 ≤ other → other ≢ who → (share_of (with_share m who s) other).word ≡ (share_of m other).word
word_else m who other s a b ne = ap (λ (x : Share). x.word) (get_or-set_other m.shares (who - 1) (other - 1) s no_share (λ e. ne (omega arith)))

-- the word that was written, where the worker has a share
word_here : (m : Metric) (who word : ℕ) → (share_of m who).knows ≡ true → (share_of (with_word m who word) who).word ≡ word
word_here m who word knows = at (who - 1) m.shares knows
  where
    at : (i : ℕ) (l : List Share) → (get_or l i no_share).knows ≡ true → (get_or (set l i (record (get_or l i no_share) { word = word })) i no_share).word ≡ word
    at i [] e = absurd (cc)
    at zero (x ∷ l) e = refl
    at (suc i) (x ∷ l) e = at i l e

-- ---- places
-- one metric was changed so that a worker's word stays
set_kept : (ms : List Metric) (j k who : ℕ) (m : Metric) → (share_of m who).word ≡ word_at ms j who → word_at (set ms j m) k who ≡ word_at ms k who
set_kept [] j k who m e = refl
set_kept (x ∷ ms) zero zero who m e = e
set_kept (x ∷ ms) zero (suc k) who m e = refl
set_kept (x ∷ ms) (suc j) zero who m e = refl
set_kept (x ∷ ms) (suc j) (suc k) who m e = set_kept ms j k who m e

abbrev zeros : ℕ → List Share
zeros n = replicate n no_share

no_word : (who : ℕ) → (share_of no_metric who).word ≡ 0
no_word who = at (who - 1) 8
  where
    at : (i n : ℕ) → (get_or (zeros n) i no_share).word ≡ 0
    at i zero = refl
    at zero (suc n) = refl
    at (suc i) (suc n) = at i n

new_word : (kind : MetricKind) (name : List ℕ) (by who : ℕ) → (share_of (known_to by (new_metric kind name)) who).word ≡ 0
new_word kind name by who = word_kept (new_metric kind name) by who (record (share_of (new_metric kind name) by) { knows = true }) refl ∙ no_word who

push_kept : (ms : List Metric) (k who : ℕ) (m : Metric) → (share_of m who).word ≡ 0 → word_at (ms ++ m ∷ []) k who ≡ word_at ms k who
push_kept [] zero who m e = e ∙ sym (no_word who)
push_kept [] (suc k) who m e = refl
push_kept (x ∷ ms) zero who m e = refl
push_kept (x ∷ ms) (suc k) who m e = push_kept ms k who m e

-- ---- a definition leaves all words
abbrev answers : List Metric → ℕ → MetricKind → List ℕ → Bool → MetricAnswer
answers ms who kind name b = cond b (record { metrics = ms ++ known_to who (new_metric kind name) ∷ []; reply = Id (length ms + 1) }) (record { metrics = ms; reply = Full })

define_kept : (ms : List Metric) (by : ℕ) (kind : MetricKind) (name : List ℕ) (o : Option ℕ) (k who : ℕ) → word_at (defined ms by kind name o).metrics k who ≡ word_at ms k who
define_kept ms by kind name (Some j) k who = set_kept ms j k who (known_to by (metric_in ms j)) (word_kept (metric_in ms j) by who (record (share_of (metric_in ms j) by) { knows = true }) refl)
define_kept ms by kind name None k who = at (nat_lt (length ms) MOST_METRICS)
  where
    at : (b : Bool) → word_at (answers ms by kind name b).metrics k who ≡ word_at ms k who
    at true = push_kept ms k who (known_to by (new_metric kind name)) (new_word kind name by who)
    at false = refl

-- ---- the rule of one word
rule_is : (kind : MetricKind) (word : ℕ) (asked : MetricAsk) → word_after kind word asked ≡ cond (is_done (word_reply kind word asked)) (word_done kind word asked) word
rule_is kind word (Define k name) = refl
rule_is Counter word (Add id (pos n)) = up (nat_lt (word + n) 18446744073709551616) n
  where
    up : (b : Bool) (n : ℕ) → cond b (word + n) word ≡ cond (is_done (cond b Done Full)) (word + n) word
    up true n = refl
    up false n = refl
rule_is Counter word (Add id (negsuc n)) = refl
rule_is Gauge word (Add id by) = refl
rule_is Counter word (Put id value) = up (nat_lt (word + value) 18446744073709551616)
  where
    up : (b : Bool) → cond b (word + value) word ≡ cond (is_done (cond b Done Full)) (word + value) word
    up true = refl
    up false = refl
rule_is Gauge word (Put id value) = refl
rule_is kind word (Sum id) = refl

-- ---- kinds stay
set_kind : (ms : List Metric) (j k : ℕ) (m : Metric) → m.kind ≡ (metric_in ms j).kind → (metric_in (set ms j m) k).kind ≡ (metric_in ms k).kind
set_kind [] j k m e = refl
set_kind (x ∷ ms) zero zero m e = e
set_kind (x ∷ ms) zero (suc k) m e = refl
set_kind (x ∷ ms) (suc j) zero m e = refl
set_kind (x ∷ ms) (suc j) (suc k) m e = set_kind ms j k m e

push_kind : (ms : List Metric) (k : ℕ) (m : Metric) → k < length ms → ((metric_in (ms ++ m ∷ []) k).kind ≡ (metric_in ms k).kind) × (k < length (ms ++ m ∷ []))
push_kind [] k m h = absurd (omega arith)
push_kind (x ∷ ms) zero m h = (refl, omega arith)
push_kind (x ∷ ms) (suc k) m h = let p = push_kind ms k m (omega arith) in (p.0, let b = p.1 in omega arith)

-- a metric that is there stays there, with its kind
abbrev Stays : List Metric → ℕ → List Metric → Type 0
Stays old k new = ((metric_in new k).kind ≡ (metric_in old k).kind) × (k < length new)

define_stays : (ms : List Metric) (by : ℕ) (kind : MetricKind) (name : List ℕ) (o : Option ℕ) (k : ℕ) → k < length ms → Stays ms k (defined ms by kind name o).metrics
define_stays ms by kind name (Some j) k h = (set_kind ms j k (known_to by (metric_in ms j)) refl, let e = length-set ms j (known_to by (metric_in ms j)) in omega arith)
define_stays ms by kind name None k h = at (nat_lt (length ms) MOST_METRICS)
  where
    at : (b : Bool) → Stays ms k (answers ms by kind name b).metrics
    at true = push_kind ms k (known_to by (new_metric kind name)) h
    at false = (refl, h)

count_stays : (ms : List Metric) (by : ℕ) (asked : MetricAsk) (o : Option ℕ) (k : ℕ) → k < length ms → Stays ms k (counted ms by asked o).metrics
count_stays ms by asked (Some j) k h =
    let m = with_word (metric_in ms j) by (word_after (metric_in ms j).kind (share_of (metric_in ms j) by).word asked) in
    (set_kind ms j k m refl, let e = length-set ms j m in omega arith)
count_stays ms by asked None k h = (refl, h)

ask_stays : (ms : List Metric) (by : ℕ) (asked : MetricAsk) (k : ℕ) → k < length ms → Stays ms k (applied_ask ms by asked).metrics
ask_stays ms by (Define kind name) k h = define_stays ms by kind name (position (is_named kind name) ms) k h
ask_stays ms by (Add id amount) k h = count_stays ms by (Add id amount) (known_place ms by id) k h
ask_stays ms by (Put id value) k h = count_stays ms by (Put id value) (known_place ms by id) k h
ask_stays ms by (Sum id) k h = (refl, h)

pub asks_stay : (ms : List Metric) (asks : List AskEntry) (k : ℕ) → k < length ms → Stays ms k (metrics_after ms asks)
asks_stay ms [] k h = (refl, h)
asks_stay ms (a ∷ later) k h =
    let first = ask_stays ms a.who a.ask k h in
    let rest = asks_stay (applied_ask ms a.who a.ask).metrics later k first.1 in
    (rest.0 ∙ first.0, rest.1)

-- ---- an id that is known
record IsKnownAt (ms : List Metric) (who id j : ℕ) : Type 0 where
  pub place : id ≡ suc j
  pub knows : (share_of (metric_in ms j) who).knows ≡ true
  pub inside : j < length ms

known_is : (ms : List Metric) (who id j : ℕ) → known_place ms who id ≡ Some j → IsKnownAt ms who id j
known_is ms who zero j e = absurd (cc)
known_is ms who (suc i) j e =
    let f = at ms i e in
    let is : i ≡ j = f.0 in
    record { place = ap suc is; knows = subst (λ n. (share_of (metric_in ms n) who).knows ≡ true) is f.1; inside = subst (λ n. n < length ms) is f.2 }
  where
    here : (m : Metric) (b : Bool) → (share_of m who).knows ≡ b → cond b (Some i) None ≡ Some j → (i ≡ j) × ((share_of m who).knows ≡ true)
    here m true is e = (cc, is)
    here m false is e = absurd (cc)

    at : (l : List Metric) (n : ℕ) → where_known who i (slice_get l n) ≡ Some j → (i ≡ j) × ((share_of (metric_in l n) who).knows ≡ true) × (n < length l)
    at [] n e = absurd (cc)
    at (x ∷ l) zero e = let h = here x (share_of x who).knows refl e in (h.0, h.1, omega arith)
    at (x ∷ l) (suc n) e = let h = at l n e in (h.0, h.1, let b = h.2 in omega arith)

-- ---- one ask
-- what one ask of a worker makes of its word of the metric of id k + 1
abbrev stepped : MetricKind → ℕ → ℕ → MetricAsk → MetricReply → ℕ
stepped kind k word asked reply = cond (id_of asked == k + 1) (cond (is_done reply) (word_done kind word asked) word) word

still : (b : Bool) (n : ℕ) → cond b (cond false n n) n ≡ n
still true n = refl
still false n = refl

same_where : (b : Bool) (word more : ℕ) → word ≡ cond b (cond false more word) word
same_where true word more = refl
same_where false word more = refl

count_own : (ms : List Metric) (who : ℕ) (asked : MetricAsk) (o : Option ℕ) (k : ℕ) (kind : MetricKind) → known_place ms who (id_of asked) ≡ o → (k < length ms → kind ≡ (metric_in ms k).kind)
    → word_at (counted ms who asked o).metrics k who ≡ stepped kind k (word_at ms k who) asked (counted ms who asked o).reply
count_own ms who asked None k kind e same = same_where (id_of asked == k + 1) (word_at ms k who) (word_done kind (word_at ms k who) asked)
count_own ms who asked (Some j) k kind e same =
    let f = known_is ms who (id_of asked) j e in
    let m = metric_in ms j in
    let word = (share_of m who).word in
    let reply = word_reply m.kind word asked in
    dite (ℕ_discrete k j)
    (λ (here : k ≡ j).
    let inside : k < length ms = subst (λ n. n < length ms) (sym here) f.inside in
    let kind_is : kind ≡ m.kind = same inside ∙ ap (λ n. (metric_in ms n).kind) here in
    let is : id_of asked ≡ k + 1 = (let p = f.place in omega arith) in
    let written : word_at (set ms j (with_word m who (word_after m.kind word asked))) j who ≡ word_after m.kind word asked =
    ap (λ (x : Metric). (share_of x who).word) (get_or-set_same ms j (with_word m who (word_after m.kind word asked)) no_metric f.inside) ∙ word_here m who (word_after m.kind word asked) f.knows in
    subst (λ n. word_at (set ms j (with_word m who (word_after m.kind word asked))) n who ≡ stepped kind k (word_at ms n who) asked reply) (sym here)
    (written ∙ (rule_is m.kind word asked ∙ (ap (λ x. cond (is_done reply) (word_done x word asked) word) (sym kind_is) ∙ ap (λ b. cond b (cond (is_done reply) (word_done kind word asked) word) word) (sym (eq-eqb (id_of asked) (k + 1) is))))))
    (λ (ne : k ≢ j).
    let differs : id_of asked ≢ k + 1 = (λ same. ne (let p = f.place in omega arith)) in
    ap (λ (x : Metric). (share_of x who).word) (get_or-set_other ms j k (with_word m who (word_after m.kind word asked)) no_metric ne)
    ∙ ap (λ b. cond b (cond (is_done reply) (word_done kind (word_at ms k who) asked) (word_at ms k who)) (word_at ms k who)) (sym (ne_eqb (id_of asked) (k + 1) differs)))

count_else : (ms : List Metric) (by who : ℕ) (asked : MetricAsk) (o : Option ℕ) (k : ℕ) → 1 ≤ by → 1 ≤ who → who ≢ by → word_at (counted ms by asked o).metrics k who ≡ word_at ms k who
count_else ms by who asked None k a b ne = refl
count_else ms by who asked (Some j) k a b ne =
    let m = metric_in ms j in
    set_kept ms j k who (with_word m by (word_after m.kind (share_of m by).word asked)) (word_else m by who (record (share_of m by) { word = word_after m.kind (share_of m by).word asked }) a b ne)

not_this : (k word more : ℕ) → word ≡ cond (0 == k + 1) more word
not_this k word more = ap (λ b. cond b more word) (sym (ne_eqb 0 (k + 1) (λ e. omega arith)))

sum_is : (ms : List Metric) (o : Option ℕ) (b : Bool) (word more : ℕ) → word ≡ cond b (cond (is_done (sum_reply ms o)) more word) word
sum_is ms (Some j) b word more = same_where b word more
sum_is ms None b word more = same_where b word more

ask_own : (ms : List Metric) (who : ℕ) (asked : MetricAsk) (k : ℕ) (kind : MetricKind) → (k < length ms → kind ≡ (metric_in ms k).kind)
    → word_at (applied_ask ms who asked).metrics k who ≡ stepped kind k (word_at ms k who) asked (applied_ask ms who asked).reply
ask_own ms who (Define kind' name) k kind same =
    define_kept ms who kind' name (position (is_named kind' name) ms) k who ∙ not_this k (word_at ms k who) (cond (is_done (applied_ask ms who (Define kind' name)).reply) (word_done kind (word_at ms k who) (Define kind' name)) (word_at ms k who))
ask_own ms who (Add id by) k kind same = count_own ms who (Add id by) (known_place ms who id) k kind refl same
ask_own ms who (Put id value) k kind same = count_own ms who (Put id value) (known_place ms who id) k kind refl same
ask_own ms who (Sum id) k kind same = sum_is ms (known_place ms who id) (id == k + 1) (word_at ms k who) (word_done kind (word_at ms k who) (Sum id))

ask_else : (ms : List Metric) (by who : ℕ) (asked : MetricAsk) (k : ℕ) → 1 ≤ by → 1 ≤ who → who ≢ by → word_at (applied_ask ms by asked).metrics k who ≡ word_at ms k who
ask_else ms by who (Define kind name) k a b ne = define_kept ms by kind name (position (is_named kind name) ms) k who
ask_else ms by who (Add id amount) k a b ne = count_else ms by who (Add id amount) (known_place ms by id) k a b ne
ask_else ms by who (Put id value) k a b ne = count_else ms by who (Put id value) (known_place ms by id) k a b ne
ask_else ms by who (Sum id) k a b ne = refl

-- ---- all asks
words_from : (ms : List Metric) (asks : List AskEntry) (k who : ℕ) (kind : MetricKind) → 1 ≤ who → All (λ (a : AskEntry). 1 ≤ a.who) asks → AreAnswered ms asks → kind ≡ (metric_in (metrics_after ms asks) k).kind
    → word_at (metrics_after ms asks) k who ≡ word_from kind (k + 1) (word_at ms k who) (asks_by who asks)
words_from ms [] k who kind low each answered is = refl
words_from ms (a ∷ later) k who kind low each answered is =
    let next = (applied_ask ms a.who a.ask).metrics in
    let before : k < length ms → kind ≡ (metric_in ms k).kind = (λ h. is ∙ (asks_stay ms (a ∷ later) k h).0) in
    let rest = words_from next later k who kind low (λ i d h. each (suc i) d (omega arith)) answered.1 is in
    let tail = asks_by who later in
    dite (ℕ_discrete a.who who)
    (λ (mine : a.who ≡ who).
    let here : word_at next k who ≡ stepped kind k (word_at ms k who) a.ask a.reply =
    subst (λ n. word_at (applied_ask ms n a.ask).metrics k who ≡ stepped kind k (word_at ms k who) a.ask (applied_ask ms n a.ask).reply) (sym mine) (ask_own ms who a.ask k kind before)
    ∙ ap (stepped kind k (word_at ms k who) a.ask) (sym answered.0) in
    rest ∙ (ap (λ w. word_from kind (k + 1) w tail) here ∙ ap (λ b. word_from kind (k + 1) (word_at ms k who) (cond b (a ∷ tail) tail)) (sym (eq-eqb a.who who mine))))
    (λ (other : a.who ≢ who).
    rest ∙ (ap (λ w. word_from kind (k + 1) w tail) (ask_else ms a.who who a.ask k (each 0 a (omega arith)) low (λ e. other (sym e))) ∙ ap (λ b. word_from kind (k + 1) (word_at ms k who) (cond b (a ∷ tail) tail)) (sym (ne_eqb a.who who other))))

no_words : (k who : ℕ) → word_at [] k who ≡ 0
no_words k who = no_word who

pub words_asked : (asks : List AskEntry) (k who : ℕ) → 1 ≤ who → All (λ (a : AskEntry). 1 ≤ a.who) asks → AreAnswered [] asks → k < length (metrics_after [] asks)
    → word_at (metrics_after [] asks) k who ≡ word_from (metric_in (metrics_after [] asks) k).kind (k + 1) 0 (asks_by who asks)
words_asked asks k who low each answered inside =
    words_from [] asks k who (metric_in (metrics_after [] asks) k).kind low each answered refl ∙ ap (λ w. word_from (metric_in (metrics_after [] asks) k).kind (k + 1) w (asks_by who asks)) (no_words k who)

-- ---- the totals
-- each metric has eight shares
set_eight : (ms : List Metric) (j k : ℕ) (m : Metric) → length m.shares ≡ 8 → length (metric_in ms k).shares ≡ 8 → length (metric_in (set ms j m) k).shares ≡ 8
set_eight [] j k m new old = old
set_eight (x ∷ ms) zero zero m new old = new
set_eight (x ∷ ms) zero (suc k) m new old = old
set_eight (x ∷ ms) (suc j) zero m new old = old
set_eight (x ∷ ms) (suc j) (suc k) m new old = set_eight ms j k m new old

push_eight : (ms : List Metric) (k : ℕ) (m : Metric) → length m.shares ≡ 8 → length (metric_in ms k).shares ≡ 8 → length (metric_in (ms ++ m ∷ []) k).shares ≡ 8
push_eight [] zero m new old = new
push_eight [] (suc k) m new old = old
push_eight (x ∷ ms) zero m new old = old
push_eight (x ∷ ms) (suc k) m new old = push_eight ms k m new old

abbrev HaveEight : List Metric → Type 0
HaveEight ms = (k : ℕ) → length (metric_in ms k).shares ≡ 8

share_eight : (m : Metric) (who : ℕ) (s : Share) → length m.shares ≡ 8 → length (with_share m who s).shares ≡ 8
share_eight m who s e = length-set m.shares (who - 1) s ∙ e

count_eight : (ms : List Metric) (by : ℕ) (asked : MetricAsk) (o : Option ℕ) → HaveEight ms → HaveEight (counted ms by asked o).metrics
count_eight ms by asked (Some j) all = λ k.
    let m = metric_in ms j in let word = word_after m.kind (share_of m by).word asked in
    set_eight ms j k (with_word m by word) (share_eight m by (record (share_of m by) { word = word }) (all j)) (all k)
count_eight ms by asked None all = all

ask_eight : (ms : List Metric) (by : ℕ) (asked : MetricAsk) → HaveEight ms → HaveEight (applied_ask ms by asked).metrics
ask_eight ms by (Define kind name) all = define (position (is_named kind name) ms)
  where
    push : (b : Bool) → HaveEight (answers ms by kind name b).metrics
    push true k = push_eight ms k (known_to by (new_metric kind name)) (share_eight (new_metric kind name) by (record (share_of (new_metric kind name) by) { knows = true }) refl) (all k)
    push false k = all k

    define : (o : Option ℕ) → HaveEight (defined ms by kind name o).metrics
    define (Some j) = λ k. set_eight ms j k (known_to by (metric_in ms j)) (share_eight (metric_in ms j) by (record (share_of (metric_in ms j) by) { knows = true }) (all j)) (all k)
    define None = push (nat_lt (length ms) MOST_METRICS)
ask_eight ms by (Add id amount) all = count_eight ms by (Add id amount) (known_place ms by id) all
ask_eight ms by (Put id value) all = count_eight ms by (Put id value) (known_place ms by id) all
ask_eight ms by (Sum id) all = all

asks_eight : (ms : List Metric) (asks : List AskEntry) → HaveEight ms → HaveEight (metrics_after ms asks)
asks_eight ms [] all = all
asks_eight ms (a ∷ later) all = asks_eight (applied_ask ms a.who a.ask).metrics later (ask_eight ms a.who a.ask all)

-- the sum of eight shares, worker by worker
eight_words : (l : List Share) → length l ≡ 8 → sum_by (λ s. s.word) l ≡ sum (map (λ who. (get_or l (who - 1) no_share).word) workers)
eight_words (a ∷ b ∷ c ∷ d ∷ e ∷ f ∷ g ∷ h ∷ []) is = refl
eight_words [] is = absurd (omega arith)
eight_words (a ∷ []) is = absurd (omega arith)
eight_words (a ∷ b ∷ []) is = absurd (omega arith)
eight_words (a ∷ b ∷ c ∷ []) is = absurd (omega arith)
eight_words (a ∷ b ∷ c ∷ d ∷ []) is = absurd (omega arith)
eight_words (a ∷ b ∷ c ∷ d ∷ e ∷ []) is = absurd (omega arith)
eight_words (a ∷ b ∷ c ∷ d ∷ e ∷ f ∷ []) is = absurd (omega arith)
eight_words (a ∷ b ∷ c ∷ d ∷ e ∷ f ∷ g ∷ []) is = absurd (omega arith)
eight_words (a ∷ b ∷ c ∷ d ∷ e ∷ f ∷ g ∷ h ∷ i ∷ l) is = absurd (omega arith)

pub totals_asked : (asks : List AskEntry) (k : ℕ) → All (λ (a : AskEntry). 1 ≤ a.who) asks → AreAnswered [] asks → k < length (metrics_after [] asks)
    → total (metric_in (metrics_after [] asks) k) ≡ totals_of (metric_in (metrics_after [] asks) k).kind (k + 1) asks
totals_asked asks k each answered inside =
    let m = metric_in (metrics_after [] asks) k in
    let word : (who : ℕ) → 1 ≤ who → word_at (metrics_after [] asks) k who ≡ word_from m.kind (k + 1) 0 (asks_by who asks) = λ who low. words_asked asks k who low each answered inside in
    let same : sum (map (λ who. word_at (metrics_after [] asks) k who) workers) ≡ sum (map (λ who. word_from m.kind (k + 1) 0 (asks_by who asks)) workers) =
    λ i. sum (word 1 (omega arith) i ∷ word 2 (omega arith) i ∷ word 3 (omega arith) i ∷ word 4 (omega arith) i ∷ word 5 (omega arith) i ∷ word 6 (omega arith) i ∷ word 7 (omega arith) i ∷ word 8 (omega arith) i ∷ []) in
    ap (λ n. n % 18446744073709551616) (eight_words m.shares (asks_eight [] asks (λ j. refl) k) ∙ same)
