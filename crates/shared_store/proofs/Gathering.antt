-- The lists of all workers' seats: how they are made, what calls leave of them, and how they are joined into worker 1's.
use Rattle.std.proofs.Common.{◌≡◌, ◌≢◌, ⊎_elim, ℕ, zero, suc, ◌+◌, ◌<◌, ◌≤◌, All, List, [], ◌∷◌, ◌++◌, map, drop, length, get_or, refl, ap, sym, subst, ◌∙◌, arith, length-append}
use Rattle.std.specs.Global.{Vec}
use mathlib.Core.List.{IsPrefix}
use mathlib.Core.Logic.{dite}
use mathlib.Core.Option.{some, some-injective}
use native.Mathlib.Decide.{ℕ_discrete}
use lib.ListN.{get_elem?, length-map}
use Rattle.atomic_table.proofs.Lists.{at_index, at_map, at_longer, at_last}
use Rattle.store_model.specs.History.{own, store_acts, store_after, IsLegal}
use Rattle.store_model.specs.declared.entry.Entry.{Entry}
use Rattle.turn_table.specs.declared.view.Ended.{Ended}
use Rattle.turn_table.specs.Seats.{Seated, TurnTableId, Closed, HasAll}
use Rattle.turn_table.specs.Views.{ended}
use Rattle.turn_table.proofs.Places.{at_below, at_snoc}
use Rattle.turn_table.proofs.Prefixes.{prefix_self, prefix_trans}
use Rattle.turn_table.proofs.Rows.{has_seat}
use Rattle.shared_store.specs.declared.closed.ClosedStore.{ClosedStore}
use Rattle.shared_store.specs.Moving.{there}
use Rattle.shared_store.specs.Tables.{AreAt, AreNumbered, AreOf, SeatsJoined, TablesClosed, after_split, next_seats, table_of}
use Rattle.shared_store.specs.Workers.{AreAll, AreNew, AreShut, ListsGoOn, HasOneHistory, new_seat}
use Rattle.shared_store.proofs.Laws.{all_seats, calls_at, each_on, joined_at, mapped_of, others_go_on}
use Rattle.shared_store.proofs.Rows.{as_long, get_at, next_member}

-- worker 1's seats at new tables, and what a split makes of them
pub seats_given : (n : ℕ) (tables : List TurnTableId) → after_split (map (new_seat 1 n) tables) ≡ map (new_seat 1 (n + 1)) tables
seats_given n [] = refl
seats_given n (t ∷ tables) = ap (λ l. new_seat 1 (n + 1) t ∷ l) (seats_given n tables)

pub seats_next : (n : ℕ) (tables : List TurnTableId) → next_seats (map (new_seat 1 n) tables) ≡ map (new_seat (n + 1) 0) tables
seats_next n [] = refl
seats_next n (t ∷ tables) = ap (λ l. new_seat (n + 1) 0 t ∷ l) (seats_next n tables)

pub new_at : (who given : ℕ) (tables : List TurnTableId) → AreAt tables (map (new_seat who given) tables)
new_at who given [] = refl
new_at who given (t ∷ tables) = ap (λ l. t ∷ l) (new_at who given tables)

new_of : (who given : ℕ) (tables : List TurnTableId) → AreOf who (map (new_seat who given) tables)
new_of who given tables vm v at = ap (λ (s : Seated). s.number) (sym (mapped_of (new_seat who given) tables vm v at).2)

-- the seats of the workers from 2 on
abbrev pub OthersAre : List TurnTableId → List (Vec Seated) → Type 0
OthersAre tables others = (k : ℕ) (l : Vec Seated) → get_elem? others k ≡ some l → l.items ≡ map (new_seat (k + 2) 0) tables

pub others_more : (tables : List TurnTableId) (others : List (Vec Seated)) (l : Vec Seated) → OthersAre tables others → l.items ≡ map (new_seat (length others + 2) 0) tables → OthersAre tables (others ++ l ∷ [])
others_more tables others l are is k m at = ⊎_elim
    (λ (h : (k < length others) × (get_elem? others k ≡ some m)). are k m h.1)
    (λ (h : (k ≡ length others) × (l ≡ m)). ap (λ (x : Vec Seated). x.items) (sym h.1) ∙ (is ∙ ap (λ n. map (new_seat (n + 2) 0) tables) (sym h.0)))
    (at_snoc others l m k at)

pub seats_may_split : (n : ℕ) (tables : List TurnTableId) → n < 8 → All (λ s. (s.number ≡ 1) × (s.given < 8)) (map (new_seat 1 n) tables)
seats_may_split n tables few = all_seats (λ s. (s.number ≡ 1) × (s.given < 8)) (map (new_seat 1 n) tables)
    (λ vm v at. let m = mapped_of (new_seat 1 n) tables vm v at in (ap (λ (s : Seated). s.number) (sym m.2), subst (λ g. g < 8) (ap (λ (s : Seated). s.given) m.2) few))

pub lists_new : (tables : List TurnTableId) (workers : ℕ) (first : Vec Seated) (others : List (Vec Seated)) → length others + 1 ≡ workers → first.items ≡ map (new_seat 1 workers) tables → OthersAre tables others → AreNew tables workers (first ∷ others)
lists_new tables workers first others long is are = record {
  as_many = omega (arith, long);
  first = λ l at. ap (λ (x : Vec Seated). x.items) (sym (some-injective first l at)) ∙ is;
  others = are;
}

pub new_all : (tables : List TurnTableId) (workers : ℕ) (lists : List (Vec Seated)) → 1 ≤ workers → AreNew tables workers lists → AreAll tables lists
new_all tables workers lists one n = record {
  not_empty = let h = n.as_many in omega arith;
  each = each;
  gave = λ l at vm v at_v.
      let m = mapped_of (new_seat 1 workers) tables vm v (subst (λ x. get_elem? x vm ≡ some v) (n.first l at) at_v) in
      (ap (λ (s : Seated). s.given) (sym m.2) ∙ sym n.as_many, ap (λ (s : Seated). s.ended) (sym m.2));
}
  where
    each : (w : ℕ) (l : Vec Seated) → get_elem? lists w ≡ some l → AreAt tables l.items × AreOf (w + 1) l.items
    each zero l at = subst (λ x. AreAt tables x × AreOf 1 x) (sym (n.first l at)) (new_at 1 workers tables, new_of 1 workers tables)
    each (suc w) l at = subst (λ x. AreAt tables x × AreOf (suc w + 1) x) (sym (n.others w l at)) (new_at (w + 2) 0 tables, let e : w + 2 ≡ suc w + 1 = omega arith in subst (λ k. AreOf k (map (new_seat (w + 2) 0) tables)) e (new_of (w + 2) 0 tables))

-- lists at the tables, each by its place
pub all_at_tables : (tables : List TurnTableId) (lists : List (Vec Seated)) → AreAll tables lists → All (λ (l : Vec Seated). AreAt tables l.items) lists
all_at_tables tables lists a k d h = let l = there lists k h in subst (λ (x : Vec Seated). AreAt tables x.items) (sym (get_at lists k l.0 d l.1)) (a.each k l.0 l.1).0

pub all_go_on : (tables : List TurnTableId) (old new : List (Vec Seated)) → AreAll tables old → ListsGoOn old new → AreAll tables new
all_go_on tables old new a goes = record {
  not_empty = let h = goes.as_many in let i = a.not_empty in omega arith;
  each = λ w m at.
      let l = there old w (let h = at_below new w m at in let e = goes.as_many in omega arith) in
      let was = a.each w l.0 l.1 in let went = goes.each w l.0 m l.1 at in
      (calls_at tables l.0.items m.items went.calls was.0 went.goes, others_go_on (w + 1) l.0.items m.items went.calls was.1 went.goes);
  gave = λ m at.
      let l = there old 0 a.not_empty in let went = goes.each 0 l.0 m l.1 at in
      each_on (λ s. (s.given ≡ length new) × (s.ended ≡ [])) l.0.items m.items went.calls went.goes
      (λ v w same h. (ap (λ (s : Seated). s.given) same ∙ h.0, ap (λ (s : Seated). s.ended) same ∙ h.1))
      (λ vm v at_v. let h = a.gave l.0 l.1 vm v at_v in (h.0 ∙ sym goes.as_many, h.1));
}

-- the members of a list but the first, in a loop over them
pub first_list : {A : Type 0} (l : List A) (a : A) → 0 < length l → a ≡ get_or l 0 a → get_elem? l 0 ≡ some a
first_list l a h is = at_index l 0 a h is

pub next_list : {A : Type 0} (l yielded left rest : List A) (x : A) → 0 < length l → yielded ++ left ≡ drop 1 l → left ≡ x ∷ rest → get_elem? l (suc (length yielded)) ≡ some x
next_list [] yielded left rest x h all is = absurd (omega arith)
next_list (a ∷ l) yielded left rest x h all is = next_member yielded left rest l x all is

pub left_of_first : {A : Type 0} (l : List A) → 0 < length l → length (drop 1 l) + 1 ≡ length l
left_of_first [] h = absurd (omega arith)
left_of_first (a ∷ l) h = omega arith

-- worker 1's seat at a VM's table, once those of so many other workers were joined into it
pub record Gathers (lists : List (Vec Seated)) (joined vm : ℕ) (w : Seated) : Type 0 where
  pub number : w.number ≡ 1
  pub given : w.given ≡ length lists
  pub as_many : length w.ended ≡ joined
  pub head : (l : Vec Seated) (v : Seated) → get_elem? lists 0 ≡ some l → get_elem? l.items vm ≡ some v → IsPrefix v.seen w.seen × (own 1 w.seen ≡ own 1 v.seen)
  pub others : (k : ℕ) (l : Vec Seated) (u : Seated) → k < joined → get_elem? lists (suc k) ≡ some l → get_elem? l.items vm ≡ some u → get_elem? w.ended k ≡ some (ended (k + 2) u.seen)

pub record Gathered (tables : List TurnTableId) (lists : List (Vec Seated)) (joined : ℕ) (now : List Seated) : Type 0 where
  pub at : AreAt tables now
  pub each : (vm : ℕ) (w : Seated) → get_elem? now vm ≡ some w → Gathers lists joined vm w

pub gather_none : (tables : List TurnTableId) (lists : List (Vec Seated)) (l : Vec Seated) → AreAll tables lists → get_elem? lists 0 ≡ some l → Gathered tables lists 0 l.items
gather_none tables lists l a at = record {
  at = (a.each 0 l at).0;
  each = λ vm w at_w. record {
    number = (a.each 0 l at).1 vm w at_w;
    given = (a.gave l at vm w at_w).0;
    as_many = ap length (a.gave l at vm w at_w).1;
    head = λ m v at_m at_v.
        let same : m ≡ l = some-injective m l (sym at_m ∙ at) in
        let is : w ≡ v = some-injective w v (sym at_w ∙ (ap (λ (x : Vec Seated). get_elem? x.items vm) (sym same) ∙ at_v)) in
        subst (λ (s : Seated). IsPrefix s.seen w.seen × (own 1 w.seen ≡ own 1 s.seen)) is (prefix_self w.seen, refl);
    others = λ k m u h. absurd (omega arith);
  };
}

pub gather_more : (tables : List TurnTableId) (lists : List (Vec Seated)) (k : ℕ) (old new : List Seated) (l : Vec Seated) → AreAll tables lists → get_elem? lists (suc k) ≡ some l → Gathered tables lists k old → SeatsJoined old l.items new → Gathered tables lists (k + 1) new
gather_more tables lists k old new l a at g j = record {
  at = joined_at tables old l.items new g.at (a.each (suc k) l at).0 j;
  each = each;
}
  where
    each : (vm : ℕ) (w : Seated) → get_elem? new vm ≡ some w → Gathers lists (k + 1) vm w
    each vm w at_w =
        let v = there old vm (let h = at_below new vm w at_w in let e = j.as_many in omega arith) in
        let u = there l.items vm (let h = at_below old vm v.0 v.1 in let e = as_long tables old l.items g.at (a.each (suc k) l at).0 in omega arith) in
        let x = j.each vm v.0 u.0 w v.1 u.1 at_w in let b = g.each vm v.0 v.1 in
        let who : u.0.number ≡ k + 2 = (a.each (suc k) l at).1 vm u.0 u.1 ∙ omega arith in
        let all : w.ended ≡ v.0.ended ++ ended u.0.number u.0.seen ∷ [] = ap (λ (s : Seated). s.ended) x.seat in record {
          number = ap (λ (s : Seated). s.number) x.seat ∙ b.number;
          given = ap (λ (s : Seated). s.given) x.seat ∙ b.given;
          as_many = ap length all ∙ (length-append v.0.ended (ended u.0.number u.0.seen ∷ []) ∙ ap (λ n. n + 1) b.as_many);
          head = λ m s at_m at_s. let h = b.head m s at_m at_s in
              (prefix_trans s.seen v.0.seen w.seen h.0 x.begins, subst (λ n. own n w.seen ≡ own n v.0.seen) b.number x.entries ∙ h.1);
          others = λ i m s h at_m at_s. dite (ℕ_discrete i k)
              (λ (here : i ≡ k).
              let same : m ≡ l = some-injective m l (sym at_m ∙ (ap (λ n. get_elem? lists (suc n)) here ∙ at)) in
              let is : u.0 ≡ s = some-injective u.0 s (sym u.1 ∙ (ap (λ (y : Vec Seated). get_elem? y.items vm) (sym same) ∙ at_s)) in
              let number : u.0.number ≡ i + 2 = who ∙ ap (λ n. n + 2) (sym here) in
              ap (λ e. get_elem? e i) all ∙ (at_last v.0.ended (ended u.0.number u.0.seen) i (b.as_many ∙ sym here) ∙ (λ d. some (ended (number d) (is d).seen))))
              (λ (ne : i ≢ k). ap (λ e. get_elem? e i) all ∙ at_longer v.0.ended (ended u.0.number u.0.seen ∷ []) i (ended (i + 2) s.seen) (b.others i m s (omega arith) at_m at_s));
        }

-- all were joined
pub gathered_all : (tables : List TurnTableId) (lists : List (Vec Seated)) (joined : ℕ) (now : List Seated) → AreAll tables lists → joined + 1 ≡ length lists → Gathered tables lists joined now → All (λ s. (s.number ≡ 1) × HasAll s) now
gathered_all tables lists joined now a all g = all_seats (λ s. (s.number ≡ 1) × HasAll s) now (λ vm v at. ((g.each vm v at).number, has vm v at))
  where
    has : (vm : ℕ) (v : Seated) → get_elem? now vm ≡ some v → (n : ℕ) → 2 ≤ n → n ≤ v.given → (k : ℕ) × (e : Ended) × (get_elem? v.ended k ≡ some e) × (e.number ≡ n)
    has vm v at zero low high = absurd (omega arith)
    has vm v at (suc zero) low high = absurd (omega arith)
    has vm v at (suc (suc i)) low high =
        let b = g.each vm v at in let given = b.given in
        let l = there lists (suc i) (omega arith) in
        let u = there l.0.items vm (let h = at_below now vm v at in let e = as_long tables now l.0.items g.at (a.each (suc i) l.0 l.1).0 in omega arith) in
        (i, ended (i + 2) u.0.seen, b.others i l.0 u.0 (omega arith) l.1 u.1, omega arith)

-- each worker's seat has seen a beginning of what is left, with all its own entries
seen_by : (lists : List (Vec Seated)) (joined vm : ℕ) (w : Seated) (c : ClosedStore) → joined + 1 ≡ length lists → Gathers lists joined vm w → Closed store_acts w c.store c.calls → (n : ℕ) (l : Vec Seated) (v : Seated) → get_elem? lists n ≡ some l → get_elem? l.items vm ≡ some v → IsPrefix v.seen w.seen × (own (n + 1) w.seen ≡ own (n + 1) v.seen)
seen_by lists joined vm w c long b x zero l v p q = b.head l v p q
seen_by lists joined vm w c long b x (suc k) l v p q =
    let within = at_below lists (suc k) l p in let e = x.ended k (ended (k + 2) v.seen) (b.others k l v (omega arith) p q) in
    let n : k + 2 ≡ suc k + 1 = omega arith in (e.0, subst (λ i. own i w.seen ≡ own i v.seen) n e.1)

pub gathered_shut : (tables : List TurnTableId) (lists : List (Vec Seated)) (joined : ℕ) (now : List Seated) (stores : List ClosedStore) → AreNumbered tables → AreAll tables lists → joined + 1 ≡ length lists → Gathered tables lists joined now → TablesClosed now stores → AreShut tables lists stores
gathered_shut tables lists joined now stores numbered a long g closed = record {
  as_many = closed.as_many ∙ (sym (length-map now table_of) ∙ ap length g.at);
  each = each;
}
  where
    each : (vm : ℕ) (c : ClosedStore) → get_elem? stores vm ≡ some c → HasOneHistory vm lists c
    each vm c at_c =
        let w = there now vm (let h = at_below stores vm c at_c in let e = closed.as_many in omega arith) in
        let x = closed.each vm w.0 c w.1 at_c in let b = g.each vm w.0 w.1 in
        let vm_is : w.0.table.vm ≡ vm = numbered vm w.0.table (ap (λ l. get_elem? l vm) (sym g.at) ∙ at_map table_of now vm w.0 w.1) in record {
          history = w.0.seen;
          legal = subst (λ n. IsLegal n w.0.seen) vm_is x.legal;
          store_is = x.value_is ∙ ap (λ n. store_after n w.0.seen) vm_is;
          calls_is = x.count_is;
          seen = λ n l v p q. seen_by lists joined vm w.0 c long b x n l v p q;
          no_others = subst (λ n. All (λ (e : Entry). (1 ≤ e.who) × (e.who ≤ n)) w.0.seen) b.given (has_seat store_acts w.0 c.store c.calls x);
        }
