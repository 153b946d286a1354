-- A worker's words at the end are what its asks come to.
use Rattle.std.proofs.Common.{◌≡◌, ◌≢◌, ℕ, ◌+◌, ◌==◌, ◌<◌, ◌≤◌, Bool, true, false, cond, nat_lt, List, [], ◌∷◌, map, length, Option, Some, None, refl, ap, sym, subst, ◌∙◌, arith, set, get_or, get_or-set_same, get_or-set_other, length-set, eq-eqb, ne_eqb, pos, negsuc}
use mathlib.Core.List.{IsPrefix}
use mathlib.Core.Logic.{dite}
use mathlib.Core.Option.{some-injective}
use native.Mathlib.Decide.{ℕ_discrete}
use lib.ListN.{get_elem?}
use Rattle.turn_table.proofs.Places.{at_below}
use Rattle.turn_table.proofs.Prefixes.{prefix_trans}
use Rattle.store_model.specs.Made.{MadeAsk}
use Rattle.store_model.specs.MetricLaws.{id_of, is_done, word_done, word_from}
use Rattle.store_model.specs.MetricNames.{names_acts}
use Rattle.store_model.specs.Metrics.{word_after, word_reply}
use Rattle.store_model.specs.declared.entry.Entry.{Entry}
use Rattle.store_model.specs.declared.metric.MetricAsk.{MetricAsk}
use Rattle.store_model.specs.declared.metric.MetricAsk.TheVariants.{Define, Add, Put, Sum}
use Rattle.store_model.specs.declared.metric.MetricKind.{MetricKind}
use Rattle.store_model.specs.declared.metric.MetricKind.TheVariants.{Counter, Gauge}
use Rattle.store_model.specs.declared.metric.MetricName.{MetricName}
use Rattle.store_model.specs.declared.metric.MetricReply.{MetricReply}
use Rattle.store_model.specs.declared.metric.MetricReply.TheVariants.{Full, Done}
use Rattle.turn_table.specs.Histories.{value_after, IsLegalFor}
use Rattle.metric_table.specs.Places.{column_of}
use Rattle.metric_table.specs.Seats.{Counting}
use Rattle.metric_seats.specs.Measuring.{Measures}
use Rattle.metric_seats.specs.Places.{Asked, Counted, CountedIf, Metered, SummedIf, kind_for}
use Rattle.shared_seats.specs.Asked.{asked_by}
use Rattle.shared_seats.proofs.Asks.{asked_begins, measured_begins}
use Rattle.shared_seats.proofs.Knows.{Has, at_most, known_has}

-- ---- the rule of one word
rule_is : (kind : MetricKind) (word : ℕ) (asked : MetricAsk) → word_after kind word asked ≡ cond (is_done (word_reply kind word asked)) (word_done kind word asked) word
rule_is kind word (Define k name) = refl
rule_is Counter word (Add id (pos n)) = up (nat_lt (word + n) 18446744073709551616) n
  where
    up : (b : Bool) (n : ℕ) → cond b (word + n) word ≡ cond (is_done (cond b Done Full)) (word + n) word
    up true n = refl
    up false n = refl
rule_is Counter word (Add id (negsuc n)) = refl
rule_is Gauge word (Add id by) = refl
rule_is Counter word (Put id value) = up (nat_lt (word + value) 18446744073709551616)
  where
    up : (b : Bool) → cond b (word + value) word ≡ cond (is_done (cond b Done Full)) (word + value) word
    up true = refl
    up false = refl
rule_is Gauge word (Put id value) = refl
rule_is kind word (Sum id) = refl

-- what one ask makes of a word of the metric of an id
abbrev stepped : MetricKind → ℕ → ℕ → MetricAsk → MetricReply → ℕ
stepped kind id word asked reply = cond (id_of asked == id) (cond (is_done reply) (word_done kind word asked) word) word

same_where : (b : Bool) (word more : ℕ) → word ≡ cond b (cond false more word) word
same_where true word more = refl
same_where false word more = refl

-- the columns of two metrics of a VM name
columns_apart : (kind other : MetricKind) (id further : ℕ) → 1 ≤ id → id ≤ 64 → 1 ≤ further → further ≤ 64 → id ≢ further → column_of kind id ≢ column_of other further
columns_apart Counter Counter id further a b c d ne = λ e. ne (omega arith)
columns_apart Counter Gauge id further a b c d ne = λ e. absurd (omega arith)
columns_apart Gauge Counter id further a b c d ne = λ e. absurd (omega arith)
columns_apart Gauge Gauge id further a b c d ne = λ e. ne (omega arith)

pub column_within : (kind : MetricKind) (id : ℕ) → 1 ≤ id → id ≤ 64 → column_of kind id < 128
column_within Counter id a b = omega arith
column_within Gauge id a b = omega arith

-- of one id there is one name
has_one : (names : List MetricName) (id : ℕ) (a b : MetricKind) → Has names id a → Has names id b → a ≡ b
has_one names id a b p q =
    let same : p.place ≡ q.place = (let x = p.id_is in let y = q.id_is in omega arith) in
    let name = some-injective p.name q.name (sym p.at ∙ (ap (get_elem? names) same ∙ q.at)) in
    sym p.kind_is ∙ (ap (λ (n : MetricName). n.kind) name ∙ q.kind_is)

pub has_within : (names : List MetricName) (id : ℕ) (kind : MetricKind) → length names ≤ 64 → Has names id kind → (1 ≤ id) × (id ≤ 64)
has_within names id kind few h = let b = at_below names h.place h.name h.at in let e = h.id_is in (omega arith, omega arith)

-- A metric of the names that a history leaves, of which the words that a worker's asks name are spoken of below.
module _ (vm : ℕ) (history : List Entry) (legal : IsLegalFor names_acts vm history) (id : ℕ) (kind : MetricKind) (has : Has (value_after names_acts vm history).names id kind) where
  few : length (value_after names_acts vm history).names ≤ 64
  few = at_most vm history

  here : (1 ≤ id) × (id ≤ 64)
  here = has_within (value_after names_acts vm history).names id kind few has

  abbrev word : Metered → ℕ
  word v = get_or v.words.own (column_of kind id) 0

  -- an Add or a Put
  counted_step : (v w : Metered) (asked : MetricAsk) (reply : MetricReply) (other : MetricKind) → IsPrefix v.names.seen history → length v.words.own ≡ 128 → kind_for v (id_of asked) ≡ Some other → Counted v other (id_of asked) asked reply w → word w ≡ stepped kind id (word v) asked reply
  counted_step v w asked reply other begins long known c =
      let i = id_of asked in
      let theirs = known_has vm v.names.number v.names.seen history i other begins legal known in
      let within = has_within (value_after names_acts vm history).names i other few theirs in
      let own = v.words.own in
      let at = column_of other i in
      let n = word_after other (get_or own at 0) asked in
      let is : word w ≡ get_or (set own at n) (column_of kind id) 0 = ap (λ (x : Counting). get_or x.own (column_of kind id) 0) c.words in
      dite (ℕ_discrete i id)
      (λ (same : i ≡ id).
      let kinds : other ≡ kind = has_one (value_after names_acts vm history).names id other kind (subst (λ k. Has (value_after names_acts vm history).names k other) same theirs) has in
      let columns : at ≡ column_of kind id = λ d. column_of (kinds d) (same d) in
      let room : column_of kind id < length own = (let x = column_within kind id here.0 here.1 in omega arith) in
      let written : get_or (set own at n) (column_of kind id) 0 ≡ word_after kind (word v) asked = (λ d. get_or (set own (columns d) (word_after (kinds d) (get_or own (columns d) 0) asked)) (column_of kind id) 0) ∙ get_or-set_same own (column_of kind id) (word_after kind (word v) asked) 0 room in
      let answered : word_reply kind (word v) asked ≡ reply = sym (c.reply_is ∙ (λ d. word_reply (kinds d) (get_or own (columns d) 0) asked)) in
      is ∙ (written ∙ (rule_is kind (word v) asked ∙ (ap (λ r. cond (is_done r) (word_done kind (word v) asked) (word v)) answered ∙ ap (λ b. cond b (cond (is_done reply) (word_done kind (word v) asked) (word v)) (word v)) (sym (eq-eqb i id same))))))
      (λ (ne : i ≢ id).
      let apart = columns_apart kind other id i here.0 here.1 within.0 within.1 (λ e. ne (sym e)) in
      is ∙ (get_or-set_other own at (column_of kind id) n 0 apart ∙ ap (λ b. cond b (cond (is_done reply) (word_done kind (word v) asked) (word v)) (word v)) (sym (ne_eqb i id ne))))

  abbrev Long : Metered → Type 0
  Long v = length v.words.own ≡ 128

  counted_long : (v w : Metered) (asked : MetricAsk) (reply : MetricReply) (other : MetricKind) → Long v → Counted v other (id_of asked) asked reply w → Long w
  counted_long v w asked reply other long c = ap (λ (x : Counting). length x.own) c.words ∙ (length-set v.words.own (column_of other (id_of asked)) (word_after other (get_or v.words.own (column_of other (id_of asked)) 0) asked) ∙ long)

  counted_if : (v w : Metered) (asked : MetricAsk) (reply : MetricReply) (o : Option MetricKind) → IsPrefix v.names.seen history → Long v → kind_for v (id_of asked) ≡ o → CountedIf o v (id_of asked) asked reply w → (word w ≡ stepped kind id (word v) asked reply) × Long w
  counted_if v w asked reply (Some other) begins long known c = (counted_step v w asked reply other begins long known c, counted_long v w asked reply other long c)
  counted_if v w asked reply None begins long known c = (
    ap word c.place ∙ (same_where (id_of asked == id) (word v) (word_done kind (word v) asked) ∙ ap (λ r. cond (id_of asked == id) (cond (is_done r) (word_done kind (word v) asked) (word v)) (word v)) (sym c.reply_is)),
    subst Long (sym c.place) long,
  )

  summed_if : (v w : Metered) (i : ℕ) (reply : MetricReply) (o : Option MetricKind) → Long v → SummedIf o v i reply w → (word w ≡ stepped kind id (word v) (Sum i) reply) × Long w
  summed_if v w i reply (Some other) long c = (
    ap (λ (x : Counting). get_or x.own (column_of kind id) 0) c.words ∙ (same_where (i == id) (word v) (word_done kind (word v) (Sum i)) ∙ ap (λ r. cond (i == id) (cond (is_done r) (word_done kind (word v) (Sum i)) (word v)) (word v)) (sym c.reply_is)),
    subst (λ (x : Counting). length x.own ≡ 128) (sym c.words) long,
  )
  summed_if v w i reply None long c = (
    ap word c.place ∙ (same_where (i == id) (word v) (word_done kind (word v) (Sum i)) ∙ ap (λ r. cond (i == id) (cond (is_done r) (word_done kind (word v) (Sum i)) (word v)) (word v)) (sym c.reply_is)),
    subst Long (sym c.place) long,
  )

  asked_step : (v w : Metered) (asked : MetricAsk) (reply : MetricReply) → IsPrefix v.names.seen history → Long v → Asked v asked reply w → (word w ≡ stepped kind id (word v) asked reply) × Long w
  asked_step v w (Define other name) reply begins long d = (
    ap (λ (x : Counting). get_or x.own (column_of kind id) 0) d.words ∙ ap (λ b. cond b (cond (is_done reply) (word_done kind (word v) (Define other name)) (word v)) (word v)) (sym (ne_eqb 0 id (λ e. absurd (let h = here.0 in omega arith)))),
    subst (λ (x : Counting). length x.own ≡ 128) (sym d.words) long,
  )
  asked_step v w (Add i by) reply begins long c = counted_if v w (Add i by) reply (kind_for v i) begins long refl c
  asked_step v w (Put i value) reply begins long c = counted_if v w (Put i value) reply (kind_for v i) begins long refl c
  asked_step v w (Sum i) reply begins long c = summed_if v w i reply (kind_for v i) long c

  -- the word after asks
  pub measured_word : (who : ℕ) (v w : Metered) (ms : List MadeAsk) → IsPrefix w.names.seen history → Long v → Measures v ms w → word w ≡ word_from kind id (word v) (map (asked_by who) ms)
  measured_word who v w [] begins long m = ap (λ (x : Counting). get_or x.own (column_of kind id) 0) m.words
  measured_word who v w (a ∷ ms) begins long m =
      let u = m.before in let t = m.after in
      let later = measured_begins t w ms m.rest in
      let now = prefix_trans u.names.seen t.names.seen w.names.seen (asked_begins u t a.ask a.reply m.asked) later in
      let same : word u ≡ word v = ap (λ (x : Counting). get_or x.own (column_of kind id) 0) m.stays.words in
      let step = asked_step u t a.ask a.reply (prefix_trans u.names.seen w.names.seen history now begins) (subst (λ (x : Counting). length x.own ≡ 128) (sym m.stays.words) long) m.asked in
      measured_word who t w ms begins step.1 m.rest ∙ ap (λ n. word_from kind id n (map (asked_by who) ms)) (step.0 ∙ ap (λ n. stepped kind id n a.ask a.reply) same)
