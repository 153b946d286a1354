-- What workers made, and what is left of it.
use Rattle.std.proofs.Common.{◌≡◌, ℕ, zero, suc, ◌+◌, ◌*◌, ◌%◌, ◌^◌, ◌<◌, ◌≤◌, List, [], ◌∷◌, ◌++◌, map, length, get_or, replicate, sum, refl, ap, sym, subst, ◌∙◌, arith, add-one}
use mathlib.Core.Logic.{dite}
use mathlib.Core.Option.{some}
use Rattle.std.proofs.Math.Decide.{dec_lt}
use lib.ListN.{get_elem?, length-map}
use Rattle.store_model.specs.History.{own}
use Rattle.store_model.specs.Made.{Made, entries_on}
use Rattle.store_model.specs.MetricLaws.{AskEntry, asks_by, totals_of, word_from, word_of}
use Rattle.store_model.specs.MetricNames.{Names, names_acts}
use Rattle.store_model.specs.declared.metric.MetricName.{MetricName}
use Rattle.turn_table.specs.Histories.{value_after}
use Rattle.turn_table.specs.Seats.{Seated}
use Rattle.turn_table.proofs.Places.{at_below}
use Rattle.metric_table.specs.Places.{column_of, place_of}
use Rattle.metric_table.specs.Seats.{Counting}
use Rattle.metric_table.specs.Views.{no_words}
use Rattle.metric_seats.specs.Measuring.{Measures, asks_on}
use Rattle.metric_seats.specs.Places.{IsSamePlace, Metered, tables_of}
use Rattle.metric_seats.specs.Totals.{total_in}
use Rattle.metric_seats.specs.declared.table.MetricsClosed.{MetricsClosed}
use Rattle.shared_store.specs.declared.closed.ClosedStore.{ClosedStore}
use Rattle.shared_store.specs.Moving as store
use Rattle.shared_store.specs.Tables.{table_of}
use Rattle.shared_store.specs.Workers.{new_seat}
use Rattle.shared_seats.specs.Asked.{AllMade, AreMerged, asks_from, definitions_by}
use Rattle.shared_seats.specs.Moving.{SeatsGoOn}
use Rattle.shared_seats.specs.Places.{new_place}
use Rattle.shared_seats.specs.Seats.{AreAt, SeatsOf, TablesOf}
use Rattle.shared_seats.specs.Workers.{AreAll, AreNew, AreOf, HasMetrics, HasOneHistory, HaveGiven, ListsGoOn, new_seats}
use Rattle.shared_seats.proofs.Asks.{measured_entries, measured_same}
use Rattle.shared_seats.proofs.Gathering.{same_map}
use Rattle.shared_seats.proofs.Knows.{Has, at_most}
use Rattle.shared_seats.proofs.Lists.{mapped_of, there}
use Rattle.shared_seats.proofs.Words.{column_within, has_within, measured_word}

-- ---- no seat gets lost
-- the seat at a store that a seat goes on from
seat_before : (old new : SeatsOf) (made : List Made) → SeatsGoOn old made new → (vm : ℕ) (w : Seated) → get_elem? new.stores vm ≡ some w → (v : Seated) × (get_elem? old.stores vm ≡ some v) × store.GoesOn vm v w (entries_on v.number vm made)
seat_before old new made goes vm w at =
    let v = there old.stores vm (let h = at_below new.stores vm w at in let e = goes.stores.as_many in omega arith) in
    (v.0, v.1, goes.stores.each vm v.0 w v.1 at)

place_before : (old new : SeatsOf) (made : List Made) → SeatsGoOn old made new → (vm : ℕ) (w : Metered) → get_elem? new.metrics vm ≡ some w → (v : Metered) × (get_elem? old.metrics vm ≡ some v) × Measures v (asks_on vm made) w
place_before old new made goes vm w at =
    let v = there old.metrics vm (let h = at_below new.metrics vm w at in let e = goes.as_many in omega arith) in
    (v.0, v.1, goes.metrics vm v.0 w v.1 at)

tables_alike : (v w : Metered) → IsSamePlace v w → tables_of w ≡ tables_of v
tables_alike v w same = λ i. record { names = (ap (λ (s : Seated). s.table) same.0) i; words = (ap (λ (c : Counting). c.table) same.1) i }

goes_at : (tables : TablesOf) (old new : SeatsOf) (made : List Made) → SeatsGoOn old made new → AreAt tables old → AreAt tables new
goes_at tables old new made goes at = record {
  stores = same_map table_of old.stores new.stores goes.stores.as_many (λ k v w p q. ap (λ (s : Seated). s.table) (goes.stores.each k v w p q).same) ∙ at.stores;
  metrics = record {
    places = same_map tables_of old.metrics new.metrics goes.as_many (λ k v w p q. tables_alike v w (measured_same v w (asks_on k made) (goes.metrics k v w p q))) ∙ at.metrics.places;
    as_many = goes.as_many ∙ (at.metrics.as_many ∙ sym goes.stores.as_many);
  };
}

goes_of : (who : ℕ) (old new : SeatsOf) (made : List Made) → SeatsGoOn old made new → AreOf who old → AreOf who new
goes_of who old new made goes of = record {
  stores = λ vm w at. let b = seat_before old new made goes vm w at in ap (λ (s : Seated). s.number) b.2.same ∙ of.stores vm b.0 b.1;
  metrics = λ vm w at.
      let b = place_before old new made goes vm w at in let same = measured_same b.0 w (asks_on vm made) b.2 in let of = of.metrics vm b.0 b.1 in
      (ap (λ (s : Seated). s.number) same.0 ∙ of.0, ap (λ (c : Counting). c.number) same.1 ∙ of.1);
}

goes_given : (given : ℕ) (old new : SeatsOf) (made : List Made) → SeatsGoOn old made new → HaveGiven given old → HaveGiven given new
goes_given given old new made goes h = record {
  stores = λ vm w at.
      let b = seat_before old new made goes vm w at in let g = h.stores vm b.0 b.1 in
      (ap (λ (s : Seated). s.given) b.2.same ∙ g.0, ap (λ (s : Seated). s.ended) b.2.same ∙ g.1);
  names = λ vm w at.
      let b = place_before old new made goes vm w at in let same = measured_same b.0 w (asks_on vm made) b.2 in let g = h.names vm b.0 b.1 in
      (ap (λ (s : Seated). s.given) same.0 ∙ g.0, ap (λ (s : Seated). s.ended) same.0 ∙ g.1);
  words = λ vm w at.
      let b = place_before old new made goes vm w at in let same = measured_same b.0 w (asks_on vm made) b.2 in let g = h.words vm b.0 b.1 in
      (ap (λ (c : Counting). c.given) same.1 ∙ g.0, ap (λ (c : Counting). c.ended) same.1 ∙ g.1);
}

pub all_go_on : (tables : TablesOf) (old new : List SeatsOf) → AreAll tables old → ListsGoOn old new → AreAll tables new
all_go_on tables old new a goes = record {
  not_empty = let h = goes.as_many in let i = a.not_empty in omega arith;
  each = λ w m at.
      let l = there old w (let h = at_below new w m at in let e = goes.as_many in omega arith) in
      let was = a.each w l.0 l.1 in let went = goes.each w l.0 m l.1 at in
      (goes_at tables l.0 m went.calls went.goes was.0, goes_of (w + 1) l.0 m went.calls went.goes was.1);
  gave = λ m at.
      let l = there old 0 a.not_empty in let went = goes.each 0 l.0 m l.1 at in
      subst (λ n. HaveGiven n m) (sym goes.as_many) (goes_given (length old) l.0 m went.calls went.goes (a.gave l.0 l.1));
}

-- ---- from new seats
-- the seats of a worker, from 0 on, at new tables
record AreFresh (tables : TablesOf) (w : ℕ) (l : SeatsOf) : Type 0 where
  pub given : ℕ
  pub is : l ≡ new_seats (w + 1) given tables

fresh : (tables : TablesOf) (workers : ℕ) (lists : List SeatsOf) → AreNew tables workers lists → (w : ℕ) (l : SeatsOf) → get_elem? lists w ≡ some l → AreFresh tables w l
fresh tables workers lists n zero l at = record { given = workers; is = n.first l at }
fresh tables workers lists n (suc w) l at = record { given = 0; is = n.others w l at ∙ ap (λ k. new_seats k 0 tables) (let e : w + 2 ≡ suc w + 1 = omega arith in e) }

-- what a worker's seats were and are, where it made this
record Worked (tables : TablesOf) (w : ℕ) (made : List Made) (new : List SeatsOf) : Type 0 where
  pub before : SeatsOf
  pub after : SeatsOf
  pub was : AreFresh tables w before
  pub at : get_elem? new w ≡ some after
  pub goes : SeatsGoOn before made after

worked : (tables : TablesOf) (workers w : ℕ) (made : ℕ → List Made) (old new : List SeatsOf) → AllMade tables workers made old new → w < workers → Worked tables w (made (w + 1)) new
worked tables workers w made old new all h =
    let l = there old w (let e = all.are_new.as_many in omega arith) in
    let m = there new w (let e = all.are_new.as_many in let f = all.as_many in omega arith) in
    record { before = l.0; after = m.0; was = fresh tables workers old all.are_new w l.0 l.1; at = m.1; goes = all.each w l.0 m.0 l.1 m.1 }

-- a seat at a new store, and what it went on to
record AtStore (w vm : ℕ) (made : List Made) (after : SeatsOf) : Type 0 where
  pub old : Seated
  pub new : Seated
  pub number : old.number ≡ w + 1
  pub none : old.seen ≡ []
  pub at : get_elem? after.stores vm ≡ some new
  pub goes : store.GoesOn vm old new (entries_on old.number vm made)

at_store : (tables : TablesOf) (w vm : ℕ) (made : List Made) (new : List SeatsOf) → vm < length tables.stores → (x : Worked tables w made new) → AtStore w vm made x.after
at_store tables w vm made new h x =
    let seats : x.before.stores ≡ map (new_seat (w + 1) x.was.given) tables.stores = ap (λ (s : SeatsOf). s.stores) x.was.is in
    let v = there x.after.stores vm (let e = x.goes.stores.as_many in let f = ap length seats in let g = length-map tables.stores (new_seat (w + 1) x.was.given) in omega arith) in
    let b = seat_before x.before x.after made x.goes vm v.0 v.1 in
    let m = mapped_of (new_seat (w + 1) x.was.given) tables.stores vm b.0 (ap (λ l. get_elem? l vm) (sym seats) ∙ b.1) in
    record { old = b.0; new = v.0; number = ap (λ (s : Seated). s.number) (sym m.2); none = ap (λ (s : Seated). s.seen) (sym m.2); at = v.1; goes = b.2 }

pub calls_once : (tables : TablesOf) (workers vm w : ℕ) (made : ℕ → List Made) (old new : List SeatsOf) (c : ClosedStore) → AllMade tables workers made old new → vm < length tables.stores → w < workers → (h : HasOneHistory vm new c) → own (w + 1) h.history ≡ entries_on (w + 1) vm (made (w + 1))
calls_once tables workers vm w made old new c all in_range small h =
    let x = worked tables workers w made old new all small in
    let s = at_store tables w vm (made (w + 1)) new in_range x in
    let entries : own (w + 1) s.new.seen ≡ own (w + 1) s.old.seen ++ entries_on (w + 1) vm (made (w + 1)) = subst (λ n. own n s.new.seen ≡ own n s.old.seen ++ entries_on n vm (made (w + 1))) s.number s.goes.entries in
    (h.seen w x.after s.new x.at s.at).1 ∙ (entries ∙ ap (λ l. own (w + 1) l ++ entries_on (w + 1) vm (made (w + 1))) s.none)

-- a place at new metrics, and what it went on to
record AtMetrics (w vm : ℕ) (made : List Made) (after : SeatsOf) : Type 0 where
  pub old : Metered
  pub new : Metered
  pub number : old.names.number ≡ w + 1
  pub none : old.names.seen ≡ []
  pub zeros : old.words.own ≡ no_words
  pub at : get_elem? after.metrics vm ≡ some new
  pub asked : Measures old (asks_on vm made) new

at_metrics : (tables : TablesOf) (w vm : ℕ) (made : List Made) (new : List SeatsOf) → vm < length tables.metrics → (x : Worked tables w made new) → AtMetrics w vm made x.after
at_metrics tables w vm made new h x =
    let places : x.before.metrics ≡ map (new_place (w + 1) x.was.given) tables.metrics = ap (λ (s : SeatsOf). s.metrics) x.was.is in
    let v = there x.after.metrics vm (let e = x.goes.as_many in let f = ap length places in let g = length-map tables.metrics (new_place (w + 1) x.was.given) in omega arith) in
    let b = place_before x.before x.after made x.goes vm v.0 v.1 in
    let m = mapped_of (new_place (w + 1) x.was.given) tables.metrics vm b.0 (ap (λ l. get_elem? l vm) (sym places) ∙ b.1) in
    record { old = b.0; new = v.0; number = ap (λ (p : Metered). p.names.number) (sym m.2); none = ap (λ (p : Metered). p.names.seen) (sym m.2); zeros = ap (λ (p : Metered). p.words.own) (sym m.2); at = v.1; asked = b.2 }

pub definitions_once : (tables : TablesOf) (workers vm w : ℕ) (made : ℕ → List Made) (old new : List SeatsOf) (c : MetricsClosed) → AllMade tables workers made old new → vm < length tables.metrics → w < workers → (h : HasMetrics vm new c) → own (w + 1) h.history ≡ definitions_by (w + 1) (asks_on vm (made (w + 1)))
definitions_once tables workers vm w made old new c all in_range small h =
    let x = worked tables workers w made old new all small in
    let s = at_metrics tables w vm (made (w + 1)) new in_range x in let asks = asks_on vm (made (w + 1)) in
    let entries : own (w + 1) s.new.names.seen ≡ own (w + 1) s.old.names.seen ++ definitions_by (w + 1) asks = subst (λ n. own n s.new.names.seen ≡ own n s.old.names.seen ++ definitions_by n asks) s.number (measured_entries s.old s.new asks s.asked) in
    (h.seen w x.after s.new x.at s.at).1 ∙ (entries ∙ ap (λ l. own (w + 1) l ++ definitions_by (w + 1) asks) s.none)

all_zero : (n k : ℕ) → let z : ℕ = 0 in get_or (replicate n z) k z ≡ z
all_zero zero k = refl
all_zero (suc n) zero = refl
all_zero (suc n) (suc k) = all_zero n k

-- a metric has its name among those that the history leaves
has_name : (vm k : ℕ) (new : List SeatsOf) (c : MetricsClosed) (n : MetricName) (h : HasMetrics vm new c) → get_elem? c.names.names k ≡ some n → Has (value_after names_acts vm h.history).names (k + 1) n.kind
has_name vm k new c n h at = record { place = k; name = n; id_is = add-one k; at = subst (λ (x : Names). get_elem? x.names k ≡ some n) h.names_are at; kind_is = refl }

pub words_asked : (tables : TablesOf) (workers vm w k : ℕ) (made : ℕ → List Made) (old new : List SeatsOf) (c : MetricsClosed) (n : MetricName) → AllMade tables workers made old new → vm < length tables.metrics → w < workers → HasMetrics vm new c → get_elem? c.names.names k ≡ some n
    → get_or c.totals (place_of (w + 1) n.kind (k + 1)) 0 ≡ word_of n.kind (k + 1) (asks_from (w + 1) vm (made (w + 1)))
words_asked tables workers vm w k made old new c n all in_range small h at =
    let x = worked tables workers w made old new all small in
    let s = at_metrics tables w vm (made (w + 1)) new in_range x in let asks = asks_on vm (made (w + 1)) in
    let has = has_name vm k new c n h at in
    let within = has_within (value_after names_acts vm h.history).names (k + 1) n.kind (at_most vm h.history) has in
    let column = column_of n.kind (k + 1) in
    let row = h.words w x.after s.new x.at s.at in
    let start : get_or s.old.words.own column 0 ≡ 0 = ap (λ l. get_or l column 0) s.zeros ∙ all_zero 128 column in
    row.each column (column_within n.kind (k + 1) within.0 within.1)
    ∙ (measured_word vm h.history h.legal (k + 1) n.kind has (w + 1) s.old s.new asks (h.seen w x.after s.new x.at s.at).0 (ap length s.zeros) s.asked
    ∙ ap (λ z. word_from n.kind (k + 1) z (asks_from (w + 1) vm (made (w + 1)))) start)

-- the word of each number, whether it is a worker's or not
word_is : (tables : TablesOf) (workers vm k : ℕ) (made : ℕ → List Made) (old new : List SeatsOf) (c : MetricsClosed) (n : MetricName) (asks : List AskEntry) → AllMade tables workers made old new → vm < length tables.metrics → HasMetrics vm new c → get_elem? c.names.names k ≡ some n → AreMerged workers vm made asks
    → (w : ℕ) → get_or c.totals (place_of (suc w) n.kind (k + 1)) 0 ≡ word_of n.kind (k + 1) (asks_by (suc w) asks)
word_is tables workers vm k made old new c n asks all in_range h at merged w = dite (dec_lt w workers)
    (λ (small : w < workers).
    subst (λ i. get_or c.totals (place_of i n.kind (k + 1)) 0 ≡ word_of n.kind (k + 1) (asks_by i asks)) (add-one w)
    (words_asked tables workers vm w k made old new c n all in_range small h at ∙ ap (word_of n.kind (k + 1)) (sym (merged.own (w + 1) (omega arith) (omega arith)))))
    (λ (large : w < workers → ⊥).
    let beyond : length new * 128 ≤ place_of (suc w) n.kind (k + 1) = (let e = all.as_many in let f = all.are_new.as_many in let g : workers ≤ w = omega arith in omega arith) in
    h.no_other_words (place_of (suc w) n.kind (k + 1)) beyond ∙ ap (word_of n.kind (k + 1)) (sym (merged.no_others (suc w) (omega arith))))

pub totals_asked : (tables : TablesOf) (workers vm k : ℕ) (made : ℕ → List Made) (old new : List SeatsOf) (c : MetricsClosed) (n : MetricName) (asks : List AskEntry) → AllMade tables workers made old new → vm < length tables.metrics → HasMetrics vm new c → get_elem? c.names.names k ≡ some n → AreMerged workers vm made asks
    → total_in c.totals n.kind (k + 1) ≡ totals_of n.kind (k + 1) asks
totals_asked tables workers vm k made old new c n asks all in_range h at merged =
    let word = word_is tables workers vm k made old new c n asks all in_range h at merged in
    λ i. sum (word 0 i ∷ word 1 i ∷ word 2 i ∷ word 3 i ∷ word 4 i ∷ word 5 i ∷ word 6 i ∷ word 7 i ∷ []) % 2 ^ 64
