-- Laws of seats over tables.
use Rattle.std.proofs.Common.{◌≡◌, ◌≢◌, ℕ, zero, suc, ◌+◌, ◌<◌, ◌≤◌, All, List, [], ◌∷◌, ◌++◌, map, length, refl, ap, sym, subst, ◌∙◌, arith}
use mathlib.Core.Logic.{dite}
use native.Mathlib.Decide.{ℕ_discrete}
use mathlib.Core.Option.{some, some-injective, some-ne-none}
use lib.ListN.{get_elem?}
use Rattle.atomic_table.proofs.Lists.{at_map, at_longer, at_last}
use Rattle.store_model.specs.History.{IsLegal, store_acts}
use Rattle.store_model.specs.Made.{Made}
use Rattle.turn_table.specs.declared.view.Ended.{Ended}
use Rattle.turn_table.specs.Views.{ended}
use Rattle.turn_table.specs.Seats.{Seated, TurnTableId, IsSameSeat, Joined, HasAll, first_seat, next_seat}
use Rattle.turn_table.proofs.Places.{at_below}
use Rattle.shared_store.specs.Moving.{SeatsGoOn, there}
use Rattle.shared_store.specs.Tables.{AreAt, AreFirst, AreLegal, AreNumbered, AreOf, SeatsJoined, after_giving, first_seats, next_seats, after_split, table_of}
use Rattle.shared_store.proofs.Rows.{as_long, get_at}

-- two lists whose members at each place are alike
pub same_map : {A B : Type 0} (f : A → B) (s t : List A) → length t ≡ length s → ((k : ℕ) (v w : A) → get_elem? s k ≡ some v → get_elem? t k ≡ some w → f w ≡ f v) → map f t ≡ map f s
same_map f [] [] e h = refl
same_map f [] (y ∷ t) e h = absurd (omega arith)
same_map f (x ∷ s) [] e h = absurd (omega arith)
same_map f (x ∷ s) (y ∷ t) e h = λ i. h 0 x y refl refl i ∷ same_map f s t (omega arith) (λ k v w p q. h (suc k) v w p q) i

pub first_at : (tables : List TurnTableId) → AreAt tables (first_seats tables)
first_at [] = refl
first_at (t ∷ ts) = ap (λ l. t ∷ l) (first_at ts)

given_at : (seats : List Seated) → map table_of (after_split seats) ≡ map table_of seats
given_at [] = refl
given_at (s ∷ seats) = ap (λ l. s.table ∷ l) (given_at seats)

next_at : (seats : List Seated) → map table_of (next_seats seats) ≡ map table_of seats
next_at [] = refl
next_at (s ∷ seats) = ap (λ l. s.table ∷ l) (next_at seats)

pub split_at : (tables : List TurnTableId) (seats : List Seated) → AreAt tables seats → AreAt tables (after_split seats) × AreAt tables (next_seats seats)
split_at tables seats at = (given_at seats ∙ at, next_at seats ∙ at)

pub calls_at : (tables : List TurnTableId) (old new : List Seated) (calls : List Made) → AreAt tables old → SeatsGoOn old calls new → AreAt tables new
calls_at tables old new calls at goes = same_map table_of old new goes.as_many (λ k v w p q. ap (λ (s : Seated). s.table) (goes.each k v w p q).same) ∙ at

pub joined_at : (tables : List TurnTableId) (old ended new : List Seated) → AreAt tables old → AreAt tables ended → SeatsJoined old ended new → AreAt tables new
joined_at tables old ended new p q j = same_map table_of old new j.as_many
    (λ k v w at_v at_w. let u = there ended k (let h = at_below old k v at_v in let e = as_long tables old ended p q in omega arith) in
    ap (λ (s : Seated). s.table) (j.each k v u.0 w at_v u.1 at_w).seat) ∙ p

-- a member of a mapped list comes of one
pub mapped_of : {A B : Type 0} (f : A → B) (l : List A) (k : ℕ) (b : B) → get_elem? (map f l) k ≡ some b → (a : A) × (get_elem? l k ≡ some a) × (f a ≡ b)
mapped_of f [] k b e = absurd (some-ne-none b (sym e))
mapped_of f (x ∷ l) zero b e = (x, refl, some-injective (f x) b e)
mapped_of f (x ∷ l) (suc k) b e = mapped_of f l k b e

-- a fact of worker 1's seat at a new table
from_first : (P : Seated → Type 0) → ((t : TurnTableId) → P (first_seat t)) → (tables : List TurnTableId) (vm : ℕ) (v : Seated) → get_elem? (first_seats tables) vm ≡ some v → P v
from_first P new tables vm v at = let m = mapped_of first_seat tables vm v at in subst P m.2 (new m.0)

pub first_legal : (tables : List TurnTableId) → AreLegal (first_seats tables)
first_legal tables vm v at = from_first (λ s. IsLegal vm s.seen) (λ t. refl) tables vm v at

seen_alike : (f : Seated → Seated) (same : (s : Seated) → (f s).seen ≡ s.seen) (seats : List Seated) → AreLegal seats → AreLegal (map f seats)
seen_alike f same seats legal vm v at = let m = mapped_of f seats vm v at in
    subst (IsLegal vm) (sym (same m.0) ∙ ap (λ (s : Seated). s.seen) m.2) (legal vm m.0 m.1)

pub split_legal : (seats : List Seated) → AreLegal seats → AreLegal (after_split seats) × AreLegal (next_seats seats)
split_legal seats legal = (seen_alike after_giving (λ s. refl) seats legal, seen_alike next_seat (λ s. refl) seats legal)

pub calls_legal : (old new : List Seated) (calls : List Made) → AreLegal old → SeatsGoOn old calls new → AreLegal new
calls_legal old new calls legal goes vm w at =
    let v = there old vm (let h = at_below new vm w at in let e = goes.as_many in omega arith) in
    (goes.each vm v.0 w v.1 at).legal (legal vm v.0 v.1)

pub joined_legal : (tables : List TurnTableId) (old ended new : List Seated) → AreNumbered tables → AreAt tables old → AreAt tables ended → SeatsJoined old ended new → AreLegal new
joined_legal tables old ended new numbered p q j vm w at =
    let v = there old vm (let h = at_below new vm w at in let e = j.as_many in omega arith) in
    let u = there ended vm (let h = at_below old vm v.0 v.1 in let e = as_long tables old ended p q in omega arith) in
    let here = joined_at tables old ended new p q j in
    subst (λ n. IsLegal n w.seen) (numbered vm w.table (ap (λ l. get_elem? l vm) (sym here) ∙ at_map table_of new vm w at)) (j.each vm v.0 u.0 w v.1 u.1 at).legal

-- a fact of each seat, and of the seats that a map gives
each_mapped : (f : Seated → Seated) (P Q : Seated → Type 0) → ((v : Seated) → P v → Q (f v)) → (seats : List Seated) → ((vm : ℕ) (v : Seated) → get_elem? seats vm ≡ some v → P v) → (vm : ℕ) (w : Seated) → get_elem? (map f seats) vm ≡ some w → Q w
each_mapped f P Q more seats each vm w at = let m = mapped_of f seats vm w at in subst Q m.2 (more m.0 (each vm m.0 m.1))

-- a fact of each seat that holds of what it goes on to
pub each_on : (Q : Seated → Type 0) (old new : List Seated) (calls : List Made) → SeatsGoOn old calls new → ((v w : Seated) → IsSameSeat v w → Q v → Q w) → ((vm : ℕ) (v : Seated) → get_elem? old vm ≡ some v → Q v) → (vm : ℕ) (w : Seated) → get_elem? new vm ≡ some w → Q w
each_on Q old new calls goes keeps each vm w at =
    let v = there old vm (let h = at_below new vm w at in let e = goes.as_many in omega arith) in
    keeps v.0 w (goes.each vm v.0 w v.1 at).same (each vm v.0 v.1)

-- each number from 2 to this one came back
abbrev HasUpTo : ℕ → Seated → Type 0
HasUpTo joined v = (n : ℕ) → 2 ≤ n → n ≤ joined → (k : ℕ) × (e : Ended) × (get_elem? v.ended k ≡ some e) × (e.number ≡ n)

pub starts : (tables : List TurnTableId) → AreFirst 1 1 (first_seats tables)
starts tables = record {
  first = λ vm v at. from_first (λ s. s.number ≡ 1) (λ t. refl) tables vm v at;
  gave = λ vm v at. from_first (λ s. s.given ≡ 1) (λ t. refl) tables vm v at;
  has = λ vm v at n low high. absurd (omega arith);
}

pub splits : (given joined : ℕ) (seats : List Seated) → AreFirst given joined seats → AreFirst (given + 1) joined (after_split seats) × AreOf (given + 1) (next_seats seats)
splits given joined seats f = (
  record {
    first = each_mapped after_giving (λ v. v.number ≡ 1) (λ v. v.number ≡ 1) (λ v h. h) seats f.first;
    gave = each_mapped after_giving (λ v. v.given ≡ given) (λ v. v.given ≡ given + 1) (λ v h. ap (λ n. n + 1) h) seats f.gave;
    has = each_mapped after_giving (HasUpTo joined) (HasUpTo joined) (λ v h. h) seats f.has;
  },
  each_mapped next_seat (λ v. v.given ≡ given) (λ v. v.number ≡ given + 1) (λ v h. ap (λ n. n + 1) h) seats f.gave,
)

pub first_goes_on : (given joined : ℕ) (old new : List Seated) (calls : List Made) → AreFirst given joined old → SeatsGoOn old calls new → AreFirst given joined new
first_goes_on given joined old new calls f goes = record {
  first = each_on (λ v. v.number ≡ 1) old new calls goes (λ v w same h. ap (λ (s : Seated). s.number) same ∙ h) f.first;
  gave = each_on (λ v. v.given ≡ given) old new calls goes (λ v w same h. ap (λ (s : Seated). s.given) same ∙ h) f.gave;
  has = each_on (HasUpTo joined) old new calls goes
      (λ v w same h n low high. let x = h n low high in (x.0, x.1, ap (λ (s : Seated). get_elem? s.ended x.0) same ∙ x.2, x.3)) f.has;
}

pub others_go_on : (who : ℕ) (old new : List Seated) (calls : List Made) → AreOf who old → SeatsGoOn old calls new → AreOf who new
others_go_on who old new calls f goes = each_on (λ v. v.number ≡ who) old new calls goes (λ v w same h. ap (λ (s : Seated). s.number) same ∙ h) f

has_more : (joined : ℕ) (v u w : Seated) → Joined store_acts v u w → u.number ≡ joined + 1 → HasUpTo joined v → HasUpTo (joined + 1) w
has_more joined v u w j is h n low high =
    let e : Ended = ended u.number u.seen in
    let all : w.ended ≡ v.ended ++ e ∷ [] = ap (λ (s : Seated). s.ended) j.seat in
    dite (ℕ_discrete n (joined + 1))
    (λ (same : n ≡ joined + 1). (length v.ended, e, ap (λ l. get_elem? l (length v.ended)) all ∙ at_last v.ended e (length v.ended) refl, is ∙ sym same))
    (λ (ne : n ≢ joined + 1). let x = h n low (omega arith) in (x.0, x.1, ap (λ l. get_elem? l x.0) all ∙ at_longer v.ended (e ∷ []) x.0 x.1 x.2, x.3))

pub first_joins : (tables : List TurnTableId) (given joined : ℕ) (old ended new : List Seated) → AreAt tables old → AreAt tables ended → AreFirst given joined old → AreOf (joined + 1) ended → SeatsJoined old ended new → AreFirst given (joined + 1) new
first_joins tables given joined old ended new p q f of j = record {
  first = λ vm w at. let x = both vm w at in ap (λ (s : Seated). s.number) x.4.seat ∙ f.first vm x.0 x.1;
  gave = λ vm w at. let x = both vm w at in ap (λ (s : Seated). s.given) x.4.seat ∙ f.gave vm x.0 x.1;
  has = λ vm w at. let x = both vm w at in has_more joined x.0 x.2 w x.4 (of vm x.2 x.3) (f.has vm x.0 x.1);
}
  where
    both : (vm : ℕ) (w : Seated) → get_elem? new vm ≡ some w → (v : Seated) × (get_elem? old vm ≡ some v) × (u : Seated) × (get_elem? ended vm ≡ some u) × Joined store_acts v u w
    both vm w at =
        let v = there old vm (let h = at_below new vm w at in let e = j.as_many in omega arith) in
        let u = there ended vm (let h = at_below old vm v.0 v.1 in let e = as_long tables old ended p q in omega arith) in
        (v.0, v.1, u.0, u.1, j.each vm v.0 u.0 w v.1 u.1 at)

-- a fact of each seat by its VM is one of all seats
pub all_seats : (P : Seated → Type 0) (seats : List Seated) → ((vm : ℕ) (v : Seated) → get_elem? seats vm ≡ some v → P v) → All P seats
all_seats P seats each k d h = let v = there seats k h in subst P (sym (get_at seats k v.0 d v.1)) (each k v.0 v.1)

pub may_split : (given joined : ℕ) (seats : List Seated) → given < 8 → AreFirst given joined seats → All (λ s. (s.number ≡ 1) × (s.given < 8)) seats
may_split given joined seats few f = all_seats (λ s. (s.number ≡ 1) × (s.given < 8)) seats (λ vm v at. (f.first vm v at, subst (λ n. n < 8) (sym (f.gave vm v at)) few))

pub may_join : (given joined : ℕ) (seats : List Seated) → AreFirst given joined seats → All (λ s. s.number ≡ 1) seats
may_join given joined seats f = all_seats (λ s. s.number ≡ 1) seats f.first

pub may_shut : (given : ℕ) (seats : List Seated) → AreFirst given given seats → All (λ s. (s.number ≡ 1) × HasAll s) seats
may_shut given seats f = all_seats (λ s. (s.number ≡ 1) × HasAll s) seats (λ vm v at. (f.first vm v at, λ n low high. f.has vm v at n low (subst (λ g. n ≤ g) (f.gave vm v at) high)))
