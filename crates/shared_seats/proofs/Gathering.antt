-- The lists of all workers' seats: how they are made, and how they come together in worker 1's.
use Rattle.std.proofs.Common.{◌≡◌, ◌≢◌, ⊎_elim, ℕ, zero, suc, ◌+◌, ◌*◌, ◌<◌, ◌≤◌, All, List, [], ◌∷◌, ◌++◌, map, length, refl, ap, sym, subst, ◌∙◌, arith, length-append}
use Rattle.std.specs.Global.{Vec}
use mathlib.Core.List.{IsPrefix}
use mathlib.Core.Logic.{dite}
use mathlib.Core.Option.{some, some-injective}
use native.Mathlib.Decide.{ℕ_discrete}
use lib.ListN.{get_elem?, length-map}
use Rattle.atomic_table.proofs.Lists.{at_longer, at_last, at_map}
use Rattle.store_model.specs.History.{own, store_acts, store_after, IsLegal}
use Rattle.store_model.specs.MetricNames.{names_acts}
use Rattle.store_model.specs.declared.entry.Entry.{Entry}
use Rattle.turn_table.specs.Histories.{value_after, IsLegalFor}
use Rattle.turn_table.specs.Seats.{Closed, Seated, TurnTableId, HasAll}
use Rattle.turn_table.specs.Views.{ended}
use Rattle.turn_table.proofs.Places.{at_below, at_snoc}
use Rattle.turn_table.proofs.Prefixes.{prefix_self, prefix_trans}
use Rattle.turn_table.proofs.Rows.{has_seat}
use Rattle.metric_table.specs.Rule.{IsRow}
use Rattle.metric_table.specs.Seats.{Counting}
use Rattle.metric_table.specs.Views as counting
use Rattle.metric_seats.specs.Places.{Metered, MetricTableId, PlacesJoined, tables_of}
use Rattle.metric_seats.specs.declared.table.MetricsClosed.{MetricsClosed}
use Rattle.shared_store.specs.declared.closed.ClosedStore.{ClosedStore}
use Rattle.shared_store.specs.Tables as store
use Rattle.shared_store.specs.Workers as store_workers
use Rattle.shared_store.specs.Workers.{new_seat}
use Rattle.shared_seats.specs.Closed.{ClosedOf}
use Rattle.shared_seats.specs.Making.{AreBeside, beside}
use Rattle.shared_seats.specs.Places.{AllClosed, AllJoined, MetricsAreNumbered, ArePlaces, MayGive, PlaceClosed, after_split, new_place, next_places}
use Rattle.shared_seats.specs.Seats.{AreAt, SeatsOf, TablesOf}
use Rattle.shared_seats.specs.Workers.{AreAll, AreNew, AreOf, AreShut, HasMetrics, HasOneHistory, HaveGiven, new_seats}
use Rattle.shared_seats.proofs.Lists.{all_of, mapped_of, there}
use Rattle.shared_seats.proofs.Rows.{as_long}

-- worker 1's places at new tables, and what a split makes of them
pub places_given : (n : ℕ) (tables : List MetricTableId) → after_split (map (new_place 1 n) tables) ≡ map (new_place 1 (n + 1)) tables
places_given n [] = refl
places_given n (t ∷ tables) = ap (λ l. new_place 1 (n + 1) t ∷ l) (places_given n tables)

pub places_next : (n : ℕ) (tables : List MetricTableId) → next_places (map (new_place 1 n) tables) ≡ map (new_place (n + 1) 0) tables
places_next n [] = refl
places_next n (t ∷ tables) = ap (λ l. new_place (n + 1) 0 t ∷ l) (places_next n tables)

pub new_places_at : (who given : ℕ) (tables : List MetricTableId) → ArePlaces tables (map (new_place who given) tables)
new_places_at who given [] = refl
new_places_at who given (t ∷ tables) = ap (λ l. t ∷ l) (new_places_at who given tables)

pub places_may_give : (n : ℕ) (tables : List MetricTableId) → n < 8 → All MayGive (map (new_place 1 n) tables)
places_may_give n tables few = all_of MayGive (map (new_place 1 n) tables)
    (λ vm v at. let m = mapped_of (new_place 1 n) tables vm v at in subst MayGive m.2 (record { first = refl; room = few; none = refl }))

-- the lists of the workers from 2 on
abbrev pub OthersBeside : List MetricTableId → List (Vec Seated) → List SeatsOf → Type 0
OthersBeside tables seats others = (k : ℕ) (l : SeatsOf) (s : Vec Seated) → get_elem? others k ≡ some l → get_elem? seats (suc k) ≡ some s → l ≡ beside s.items (k + 2) 0 tables

pub others_more : (tables : List MetricTableId) (seats : List (Vec Seated)) (others : List SeatsOf) (s : Vec Seated) (l : SeatsOf) → OthersBeside tables seats others → get_elem? seats (suc (length others)) ≡ some s → l ≡ beside s.items (length others + 2) 0 tables → OthersBeside tables seats (others ++ l ∷ [])
others_more tables seats others s l are at is k m t at_m at_t = ⊎_elim
    (λ (h : (k < length others) × (get_elem? others k ≡ some m)). are k m t h.1 at_t)
    (λ (h : (k ≡ length others) × (l ≡ m)).
    let same : s ≡ t = some-injective s t (sym at ∙ (ap (λ n. get_elem? seats (suc n)) (sym h.0) ∙ at_t)) in
    sym h.1 ∙ (is ∙ (λ i. beside (same i).items (sym h.0 i + 2) 0 tables)))
    (at_snoc others l m k at_m)

pub lists_beside : (tables : List MetricTableId) (seats : List (Vec Seated)) (s : Vec Seated) (others : List SeatsOf) (places : List Metered) → get_elem? seats 0 ≡ some s → length others + 1 ≡ length seats → places ≡ map (new_place 1 (length seats)) tables → OthersBeside tables seats others
    → AreBeside tables seats (record { stores = s.items; metrics = places } ∷ others)
lists_beside tables seats s others places at long is are = record {
  as_many = omega (arith, long);
  first = λ l t at_l at_t.
      let same : s ≡ t = some-injective s t (sym at ∙ at_t) in
      sym (some-injective (record { stores = s.items; metrics = places }) l at_l) ∙ (λ i. record { stores = (same i).items; metrics = is i });
  others = are;
}

-- seats at new stores, and places at new metrics beside them, are new
pub beside_new : (tables : TablesOf) (workers : ℕ) (seats : List (Vec Seated)) (lists : List SeatsOf) → store_workers.AreNew tables.stores workers seats → AreBeside tables.metrics seats lists → AreNew tables workers lists
beside_new tables workers seats lists new b = record {
  as_many = b.as_many ∙ new.as_many;
  first = λ l at.
      let s = there seats 0 (let h = at_below lists 0 l at in let e = b.as_many in omega arith) in
      b.first l s.0 at s.1 ∙ (λ i. record { stores = new.first s.0 s.1 i; metrics = map (new_place 1 (new.as_many i)) tables.metrics });
  others = λ w l at.
      let s = there seats (suc w) (let h = at_below lists (suc w) l at in let e = b.as_many in omega arith) in
      b.others w l s.0 at s.1 ∙ (λ i. record { stores = new.others w s.0 s.1 i; metrics = map (new_place (w + 2) 0) tables.metrics });
}

new_seats_at : (who given : ℕ) (tables : List TurnTableId) → store.AreAt tables (map (new_seat who given) tables)
new_seats_at who given [] = refl
new_seats_at who given (t ∷ tables) = ap (λ l. t ∷ l) (new_seats_at who given tables)

new_at : (who given : ℕ) (tables : TablesOf) → length tables.metrics ≡ length tables.stores → AreAt tables (new_seats who given tables)
new_at who given tables long = record {
  stores = new_seats_at who given tables.stores;
  metrics = record { places = new_places_at who given tables.metrics; as_many = length-map tables.metrics (new_place who given) ∙ (long ∙ sym (length-map tables.stores (new_seat who given))) };
}

new_of : (who given : ℕ) (tables : TablesOf) → AreOf who (new_seats who given tables)
new_of who given tables = record {
  stores = λ vm v at. ap (λ (s : Seated). s.number) (sym (mapped_of (new_seat who given) tables.stores vm v at).2);
  metrics = λ vm v at. let m = mapped_of (new_place who given) tables.metrics vm v at in (ap (λ (p : Metered). p.names.number) (sym m.2), ap (λ (p : Metered). p.words.number) (sym m.2));
}

new_given : (given : ℕ) (tables : TablesOf) → HaveGiven given (new_seats 1 given tables)
new_given given tables = record {
  stores = λ vm v at. let m = mapped_of (new_seat 1 given) tables.stores vm v at in (ap (λ (s : Seated). s.given) (sym m.2), ap (λ (s : Seated). s.ended) (sym m.2));
  names = λ vm v at. let m = mapped_of (new_place 1 given) tables.metrics vm v at in (ap (λ (p : Metered). p.names.given) (sym m.2), ap (λ (p : Metered). p.names.ended) (sym m.2));
  words = λ vm v at. let m = mapped_of (new_place 1 given) tables.metrics vm v at in (ap (λ (p : Metered). p.words.given) (sym m.2), ap (λ (p : Metered). p.words.ended) (sym m.2));
}

pub new_all : (tables : TablesOf) (workers : ℕ) (lists : List SeatsOf) → length tables.metrics ≡ length tables.stores → 1 ≤ workers → AreNew tables workers lists → AreAll tables lists
new_all tables workers lists long one n = record {
  not_empty = let h = n.as_many in omega arith;
  each = each;
  gave = λ l at. subst (HaveGiven (length lists)) (sym (n.first l at)) (subst (λ k. HaveGiven k (new_seats 1 workers tables)) (sym n.as_many) (new_given workers tables));
}
  where
    each : (w : ℕ) (l : SeatsOf) → get_elem? lists w ≡ some l → AreAt tables l × AreOf (w + 1) l
    each zero l at = subst (λ x. AreAt tables x × AreOf 1 x) (sym (n.first l at)) (new_at 1 workers tables long, new_of 1 workers tables)
    each (suc w) l at = subst (λ x. AreAt tables x × AreOf (suc w + 1) x) (sym (n.others w l at)) (new_at (w + 2) 0 tables long, let e : w + 2 ≡ suc w + 1 = omega arith in subst (λ k. AreOf k (new_seats (w + 2) 0 tables)) e (new_of (w + 2) 0 tables))

-- lists at the tables, each by its place
pub all_at_tables : (tables : TablesOf) (lists : List SeatsOf) → AreAll tables lists → All (AreAt tables) lists
all_at_tables tables lists a = all_of (AreAt tables) lists (λ w l at. (a.each w l at).0)

-- worker 1's place at a VM name's metrics, once those of so many other workers were joined into it
pub record Gathers (lists : List SeatsOf) (joined vm : ℕ) (w : Metered) : Type 0 where
  pub number : w.names.number ≡ 1
  pub given : (w.names.given ≡ length lists) × (w.words.given ≡ length lists)
  pub as_many : (length w.names.ended ≡ joined) × (length w.words.ended ≡ joined)
  pub head : (l : SeatsOf) (v : Metered) → get_elem? lists 0 ≡ some l → get_elem? l.metrics vm ≡ some v → IsPrefix v.names.seen w.names.seen × (own 1 w.names.seen ≡ own 1 v.names.seen)
  pub words : (l : SeatsOf) (v : Metered) → get_elem? lists 0 ≡ some l → get_elem? l.metrics vm ≡ some v → w.words.own ≡ v.words.own
  pub others : (k : ℕ) (l : SeatsOf) (u : Metered) → k < joined → get_elem? lists (suc k) ≡ some l → get_elem? l.metrics vm ≡ some u
      → (get_elem? w.names.ended k ≡ some (ended (k + 2) u.names.seen)) × (get_elem? w.words.ended k ≡ some (counting.ended (k + 2) u.words.own))

pub record Gathered (tables : List MetricTableId) (lists : List SeatsOf) (joined : ℕ) (now : List Metered) : Type 0 where
  pub at : ArePlaces tables now
  pub each : (vm : ℕ) (w : Metered) → get_elem? now vm ≡ some w → Gathers lists joined vm w

pub gather_none : (tables : TablesOf) (lists : List SeatsOf) (l : SeatsOf) → AreAll tables lists → get_elem? lists 0 ≡ some l → Gathered tables.metrics lists 0 l.metrics
gather_none tables lists l a at = let of = a.each 0 l at in let gave = a.gave l at in record {
  at = of.0.metrics.places;
  each = λ vm w at_w.
      let alike : (m : SeatsOf) (v : Metered) → get_elem? lists 0 ≡ some m → get_elem? m.metrics vm ≡ some v → w ≡ v = λ m v at_m at_v.
      let same : m ≡ l = some-injective m l (sym at_m ∙ at) in some-injective w v (sym at_w ∙ (ap (λ (x : SeatsOf). get_elem? x.metrics vm) (sym same) ∙ at_v)) in record {
        number = (of.1.metrics vm w at_w).0;
        given = ((gave.names vm w at_w).0, (gave.words vm w at_w).0);
        as_many = (ap length (gave.names vm w at_w).1, ap length (gave.words vm w at_w).1);
        head = λ m v at_m at_v. subst (λ (s : Metered). IsPrefix s.names.seen w.names.seen × (own 1 w.names.seen ≡ own 1 s.names.seen)) (alike m v at_m at_v) (prefix_self w.names.seen, refl);
        words = λ m v at_m at_v. ap (λ (s : Metered). s.words.own) (alike m v at_m at_v);
        others = λ k m u h. absurd (omega arith);
      };
}

same_tables : (v u w : Metered) → PlacesJoined v u w → tables_of w ≡ tables_of v
same_tables v u w j = λ i. record { names = (ap (λ (s : Seated). s.table) j.names.seat) i; words = (ap (λ (c : Counting). c.table) j.words) i }

-- lists of the same length and the same images have the same images
pub same_map : {A B : Type 0} (f : A → B) (s t : List A) → length t ≡ length s → ((k : ℕ) (v w : A) → get_elem? s k ≡ some v → get_elem? t k ≡ some w → f w ≡ f v) → map f t ≡ map f s
same_map f [] [] e h = refl
same_map f [] (y ∷ t) e h = absurd (omega arith)
same_map f (x ∷ s) [] e h = absurd (omega arith)
same_map f (x ∷ s) (y ∷ t) e h = λ i. h 0 x y refl refl i ∷ same_map f s t (omega arith) (λ k v w p q. h (suc k) v w p q) i

joined_at : (tables : List MetricTableId) (old ended new : List Metered) → ArePlaces tables old → ArePlaces tables ended → AllJoined old ended new → ArePlaces tables new
joined_at tables old ended new p q j = same_map tables_of old new j.as_many
    (λ k v w at_v at_w. let u = there ended k (let h = at_below old k v at_v in let e = as_long tables old ended p q in omega arith) in same_tables v u.0 w (j.each k v u.0 w at_v u.1 at_w)) ∙ p

-- the seats of a number that came back, behind those that had
back : {A : Type 0} (old : List A) (all : List A) (k i : ℕ) (x y : A) → all ≡ old ++ x ∷ [] → length old ≡ k → (i ≡ k → x ≡ y) → (i < k → get_elem? old i ≡ some y) → i < k + 1 → get_elem? all i ≡ some y
back old all k i x y is long here before h = dite (ℕ_discrete i k)
    (λ (e : i ≡ k). ap (λ l. get_elem? l i) is ∙ (at_last old x i (long ∙ sym e) ∙ ap some (here e)))
    (λ (ne : i ≢ k). ap (λ l. get_elem? l i) is ∙ at_longer old (x ∷ []) i y (before (omega arith)))

pub gather_more : (tables : TablesOf) (lists : List SeatsOf) (k : ℕ) (old new : List Metered) (l : SeatsOf) → AreAll tables lists → get_elem? lists (suc k) ≡ some l → Gathered tables.metrics lists k old → AllJoined old l.metrics new → Gathered tables.metrics lists (k + 1) new
gather_more tables lists k old new l a at g j = record {
  at = joined_at tables.metrics old l.metrics new g.at (a.each (suc k) l at).0.metrics.places j;
  each = each;
}
  where
    each : (vm : ℕ) (w : Metered) → get_elem? new vm ≡ some w → Gathers lists (k + 1) vm w
    each vm w at_w =
        let v = there old vm (let h = at_below new vm w at_w in let e = j.as_many in omega arith) in
        let u = there l.metrics vm (let h = at_below old vm v.0 v.1 in let e = as_long tables.metrics old l.metrics g.at (a.each (suc k) l at).0.metrics.places in omega arith) in
        let x = j.each vm v.0 u.0 w v.1 u.1 at_w in let b = g.each vm v.0 v.1 in
        let of = (a.each (suc k) l at).1.metrics vm u.0 u.1 in
        let who : u.0.names.number ≡ k + 2 = of.0 ∙ omega arith in
        let whose : u.0.words.number ≡ k + 2 = of.1 ∙ omega arith in
        let all : w.names.ended ≡ v.0.names.ended ++ ended u.0.names.number u.0.names.seen ∷ [] = ap (λ (s : Seated). s.ended) x.names.seat in
        let all_words : w.words.ended ≡ v.0.words.ended ++ counting.ended u.0.words.number u.0.words.own ∷ [] = ap (λ (c : Counting). c.ended) x.words in record {
          number = ap (λ (s : Seated). s.number) x.names.seat ∙ b.number;
          given = (ap (λ (s : Seated). s.given) x.names.seat ∙ b.given.0, ap (λ (c : Counting). c.given) x.words ∙ b.given.1);
          as_many = (
            ap length all ∙ (length-append v.0.names.ended (ended u.0.names.number u.0.names.seen ∷ []) ∙ ap (λ n. n + 1) b.as_many.0),
            ap length all_words ∙ (length-append v.0.words.ended (counting.ended u.0.words.number u.0.words.own ∷ []) ∙ ap (λ n. n + 1) b.as_many.1),
          );
          head = λ m s at_m at_s. let h = b.head m s at_m at_s in
              (prefix_trans s.names.seen v.0.names.seen w.names.seen h.0 x.names.begins, subst (λ n. own n w.names.seen ≡ own n v.0.names.seen) b.number x.names.entries ∙ h.1);
          words = λ m s at_m at_s. ap (λ (c : Counting). c.own) x.words ∙ b.words m s at_m at_s;
          others = λ i m s h at_m at_s.
              let alike : i ≡ k → u.0 ≡ s = λ here.
              let same : m ≡ l = some-injective m l (sym at_m ∙ (ap (λ n. get_elem? lists (suc n)) here ∙ at)) in
              some-injective u.0 s (sym u.1 ∙ (ap (λ (y : SeatsOf). get_elem? y.metrics vm) (sym same) ∙ at_s)) in (
                back v.0.names.ended w.names.ended k i (ended u.0.names.number u.0.names.seen) (ended (i + 2) s.names.seen) all b.as_many.0
                    (λ here. let n : u.0.names.number ≡ i + 2 = who ∙ ap (λ n. n + 2) (sym here) in λ d. ended (n d) (alike here d).names.seen)
                    (λ below. (b.others i m s below at_m at_s).0) h,
                back v.0.words.ended w.words.ended k i (counting.ended u.0.words.number u.0.words.own) (counting.ended (i + 2) s.words.own) all_words b.as_many.1
                    (λ here. let n : u.0.words.number ≡ i + 2 = whose ∙ ap (λ n. n + 2) (sym here) in λ d. counting.ended (n d) (alike here d).words.own)
                    (λ below. (b.others i m s below at_m at_s).1) h,
              );
        }

-- all were joined
pub gathered_all : (tables : TablesOf) (lists : List SeatsOf) (joined : ℕ) (now : List Metered) → AreAll tables lists → joined + 1 ≡ length lists → Gathered tables.metrics lists joined now → All (λ v. (v.names.number ≡ 1) × HasAll v.names) now
gathered_all tables lists joined now a all g = all_of (λ v. (v.names.number ≡ 1) × HasAll v.names) now (λ vm v at. ((g.each vm v at).number, has vm v at))
  where
    has : (vm : ℕ) (v : Metered) → get_elem? now vm ≡ some v → HasAll v.names
    has vm v at zero low high = absurd (omega arith)
    has vm v at (suc zero) low high = absurd (omega arith)
    has vm v at (suc (suc i)) low high =
        let b = g.each vm v at in let given = b.given.0 in
        let l = there lists (suc i) (omega arith) in
        let u = there l.0.metrics vm (let h = at_below now vm v at in let e = as_long tables.metrics now l.0.metrics g.at (a.each (suc i) l.0 l.1).0.metrics.places in omega arith) in
        (i, ended (i + 2) u.0.names.seen, (b.others i l.0 u.0 (omega arith) l.1 u.1).0, omega arith)

-- what the metrics of a VM name come to
metrics_shut : (lists : List SeatsOf) (joined vm : ℕ) (w : Metered) (c : MetricsClosed) → joined + 1 ≡ length lists → w.names.table.vm ≡ vm → Gathers lists joined vm w → PlaceClosed w c → HasMetrics vm lists c
metrics_shut lists joined vm w c long vm_is b x = record {
  history = w.names.seen;
  legal = subst (λ n. IsLegalFor names_acts n w.names.seen) vm_is x.names.legal;
  names_are = x.names.value_is ∙ ap (λ n. value_after names_acts n w.names.seen) vm_is;
  definitions_is = x.names.count_is;
  seen = seen;
  no_others = subst (λ n. All (λ (e : Entry). (1 ≤ e.who) × (e.who ≤ n)) w.names.seen) b.given.0 (has_seat names_acts w.names c.names c.definitions x.names);
  words = words;
  no_other_words = λ place h. x.words.none_past place (subst (λ n. n * 128 ≤ place) (sym b.given.1) h);
}
  where
    seen : (n : ℕ) (l : SeatsOf) (v : Metered) → get_elem? lists n ≡ some l → get_elem? l.metrics vm ≡ some v → IsPrefix v.names.seen w.names.seen × (own (n + 1) w.names.seen ≡ own (n + 1) v.names.seen)
    seen zero l v p q = b.head l v p q
    seen (suc k) l v p q =
        let within = at_below lists (suc k) l p in let e = x.names.ended k (ended (k + 2) v.names.seen) (b.others k l v (omega arith) p q).0 in
        let n : k + 2 ≡ suc k + 1 = omega arith in (e.0, subst (λ i. own i w.names.seen ≡ own i v.names.seen) n e.1)

    words : (n : ℕ) (l : SeatsOf) (v : Metered) → get_elem? lists n ≡ some l → get_elem? l.metrics vm ≡ some v → IsRow c.totals (n + 1) v.words.own
    words zero l v p q = subst (IsRow c.totals 1) (b.words l v p q) x.words.own
    words (suc k) l v p q =
        let within = at_below lists (suc k) l p in
        let n : k + 2 ≡ suc k + 1 = omega arith in subst (λ i. IsRow c.totals i v.words.own) n (x.words.ended k (counting.ended (k + 2) v.words.own) (b.others k l v (omega arith) p q).1)

-- worker 1's seat at a store, once those of so many other workers were joined into it
pub record SeatGathers (lists : List SeatsOf) (joined vm : ℕ) (w : Seated) : Type 0 where
  pub number : w.number ≡ 1
  pub given : w.given ≡ length lists
  pub as_many : length w.ended ≡ joined
  pub head : (l : SeatsOf) (v : Seated) → get_elem? lists 0 ≡ some l → get_elem? l.stores vm ≡ some v → IsPrefix v.seen w.seen × (own 1 w.seen ≡ own 1 v.seen)
  pub others : (k : ℕ) (l : SeatsOf) (u : Seated) → k < joined → get_elem? lists (suc k) ≡ some l → get_elem? l.stores vm ≡ some u → get_elem? w.ended k ≡ some (ended (k + 2) u.seen)

pub record SeatsGathered (tables : List TurnTableId) (lists : List SeatsOf) (joined : ℕ) (now : List Seated) : Type 0 where
  pub at : store.AreAt tables now
  pub each : (vm : ℕ) (w : Seated) → get_elem? now vm ≡ some w → SeatGathers lists joined vm w

pub seats_none : (tables : TablesOf) (lists : List SeatsOf) (l : SeatsOf) → AreAll tables lists → get_elem? lists 0 ≡ some l → SeatsGathered tables.stores lists 0 l.stores
seats_none tables lists l a at = record {
  at = (a.each 0 l at).0.stores;
  each = λ vm w at_w. record {
    number = (a.each 0 l at).1.stores vm w at_w;
    given = ((a.gave l at).stores vm w at_w).0;
    as_many = ap length ((a.gave l at).stores vm w at_w).1;
    head = λ m v at_m at_v.
        let same : m ≡ l = some-injective m l (sym at_m ∙ at) in
        let is : w ≡ v = some-injective w v (sym at_w ∙ (ap (λ (x : SeatsOf). get_elem? x.stores vm) (sym same) ∙ at_v)) in
        subst (λ (s : Seated). IsPrefix s.seen w.seen × (own 1 w.seen ≡ own 1 s.seen)) is (prefix_self w.seen, refl);
    others = λ k m u h. absurd (omega arith);
  };
}

-- two lists of seats at the same tables are as long
seats_as_long : (tables : List TurnTableId) (a b : List Seated) → store.AreAt tables a → store.AreAt tables b → length a ≡ length b
seats_as_long tables a b p q = sym (length-map a store.table_of) ∙ (ap length (p ∙ sym q) ∙ length-map b store.table_of)

seats_joined_at : (tables : List TurnTableId) (old ended new : List Seated) → store.AreAt tables old → store.AreAt tables ended → store.SeatsJoined old ended new → store.AreAt tables new
seats_joined_at tables old ended new p q j = same_map store.table_of old new j.as_many
    (λ k v w at_v at_w. let u = there ended k (let h = at_below old k v at_v in let e = seats_as_long tables old ended p q in omega arith) in ap (λ (s : Seated). s.table) (j.each k v u.0 w at_v u.1 at_w).seat) ∙ p

pub seats_more : (tables : TablesOf) (lists : List SeatsOf) (k : ℕ) (old new : List Seated) (l : SeatsOf) → AreAll tables lists → get_elem? lists (suc k) ≡ some l → SeatsGathered tables.stores lists k old → store.SeatsJoined old l.stores new → SeatsGathered tables.stores lists (k + 1) new
seats_more tables lists k old new l a at g j = record {
  at = seats_joined_at tables.stores old l.stores new g.at (a.each (suc k) l at).0.stores j;
  each = each;
}
  where
    each : (vm : ℕ) (w : Seated) → get_elem? new vm ≡ some w → SeatGathers lists (k + 1) vm w
    each vm w at_w =
        let v = there old vm (let h = at_below new vm w at_w in let e = j.as_many in omega arith) in
        let u = there l.stores vm (let h = at_below old vm v.0 v.1 in let e = seats_as_long tables.stores old l.stores g.at (a.each (suc k) l at).0.stores in omega arith) in
        let x = j.each vm v.0 u.0 w v.1 u.1 at_w in let b = g.each vm v.0 v.1 in
        let who : u.0.number ≡ k + 2 = (a.each (suc k) l at).1.stores vm u.0 u.1 ∙ omega arith in
        let all : w.ended ≡ v.0.ended ++ ended u.0.number u.0.seen ∷ [] = ap (λ (s : Seated). s.ended) x.seat in record {
          number = ap (λ (s : Seated). s.number) x.seat ∙ b.number;
          given = ap (λ (s : Seated). s.given) x.seat ∙ b.given;
          as_many = ap length all ∙ (length-append v.0.ended (ended u.0.number u.0.seen ∷ []) ∙ ap (λ n. n + 1) b.as_many);
          head = λ m s at_m at_s. let h = b.head m s at_m at_s in
              (prefix_trans s.seen v.0.seen w.seen h.0 x.begins, subst (λ n. own n w.seen ≡ own n v.0.seen) b.number x.entries ∙ h.1);
          others = λ i m s h at_m at_s.
              back v.0.ended w.ended k i (ended u.0.number u.0.seen) (ended (i + 2) s.seen) all b.as_many
              (λ here.
              let same : m ≡ l = some-injective m l (sym at_m ∙ (ap (λ n. get_elem? lists (suc n)) here ∙ at)) in
              let is : u.0 ≡ s = some-injective u.0 s (sym u.1 ∙ (ap (λ (y : SeatsOf). get_elem? y.stores vm) (sym same) ∙ at_s)) in
              let n : u.0.number ≡ i + 2 = who ∙ ap (λ n. n + 2) (sym here) in λ d. ended (n d) (is d).seen)
              (λ below. b.others i m s below at_m at_s) h;
        }

-- all were joined
pub seats_all : (tables : TablesOf) (lists : List SeatsOf) (joined : ℕ) (now : List Seated) → AreAll tables lists → joined + 1 ≡ length lists → SeatsGathered tables.stores lists joined now → All (λ s. (s.number ≡ 1) × HasAll s) now
seats_all tables lists joined now a all g = all_of (λ s. (s.number ≡ 1) × HasAll s) now (λ vm v at. ((g.each vm v at).number, has vm v at))
  where
    has : (vm : ℕ) (v : Seated) → get_elem? now vm ≡ some v → HasAll v
    has vm v at zero low high = absurd (omega arith)
    has vm v at (suc zero) low high = absurd (omega arith)
    has vm v at (suc (suc i)) low high =
        let b = g.each vm v at in let given = b.given in
        let l = there lists (suc i) (omega arith) in
        let u = there l.0.stores vm (let h = at_below now vm v at in let e = seats_as_long tables.stores now l.0.stores g.at (a.each (suc i) l.0 l.1).0.stores in omega arith) in
        (i, ended (i + 2) u.0.seen, b.others i l.0 u.0 (omega arith) l.1 u.1, omega arith)

-- what a store comes to
store_shut : (lists : List SeatsOf) (joined vm : ℕ) (w : Seated) (c : ClosedStore) → joined + 1 ≡ length lists → w.table.vm ≡ vm → SeatGathers lists joined vm w → Closed store_acts w c.store c.calls → HasOneHistory vm lists c
store_shut lists joined vm w c long vm_is b x = record {
  history = w.seen;
  legal = subst (λ n. IsLegal n w.seen) vm_is x.legal;
  store_is = x.value_is ∙ ap (λ n. store_after n w.seen) vm_is;
  calls_is = x.count_is;
  seen = seen;
  no_others = subst (λ n. All (λ (e : Entry). (1 ≤ e.who) × (e.who ≤ n)) w.seen) b.given (has_seat store_acts w c.store c.calls x);
}
  where
    seen : (n : ℕ) (l : SeatsOf) (v : Seated) → get_elem? lists n ≡ some l → get_elem? l.stores vm ≡ some v → IsPrefix v.seen w.seen × (own (n + 1) w.seen ≡ own (n + 1) v.seen)
    seen zero l v p q = b.head l v p q
    seen (suc k) l v p q =
        let within = at_below lists (suc k) l p in let e = x.ended k (ended (k + 2) v.seen) (b.others k l v (omega arith) p q) in
        let n : k + 2 ≡ suc k + 1 = omega arith in (e.0, subst (λ i. own i w.seen ≡ own i v.seen) n e.1)

pub all_shut : (tables : TablesOf) (lists : List SeatsOf) (joined : ℕ) (seats : List Seated) (places : List Metered) (closed : ClosedOf) → AreAll tables lists → joined + 1 ≡ length lists
    → store.AreNumbered tables.stores → SeatsGathered tables.stores lists joined seats → store.TablesClosed seats closed.stores
    → MetricsAreNumbered tables.metrics → Gathered tables.metrics lists joined places → AllClosed places closed.metrics → AreShut tables lists closed
all_shut tables lists joined seats places closed a long stores_numbered s stores numbered g metrics = record {
  as_many = stores.as_many ∙ (sym (length-map seats store.table_of) ∙ ap length s.at);
  as_many_metrics = metrics.as_many ∙ (sym (length-map places tables_of) ∙ ap length g.at);
  each = λ vm c at.
      let w = there seats vm (let h = at_below closed.stores vm c at in let e = stores.as_many in omega arith) in
      store_shut lists joined vm w.0 c long (stores_numbered vm w.0.table (ap (λ l. get_elem? l vm) (sym s.at) ∙ at_map store.table_of seats vm w.0 w.1)) (s.each vm w.0 w.1) (stores.each vm w.0 c w.1 at);
  metrics = λ vm c at.
      let w = there places vm (let h = at_below closed.metrics vm c at in let e = metrics.as_many in omega arith) in
      metrics_shut lists joined vm w.0 c long (numbered vm (tables_of w.0) (ap (λ l. get_elem? l vm) (sym g.at) ∙ at_map tables_of places vm w.0 w.1)) (g.each vm w.0 w.1) (metrics.each vm w.0 c w.1 at);
}
