-- Seats by their places.
use Rattle.std.proofs.Common.{◌≡◌, ◌≢◌, ℕ, zero, suc, ◌+◌, ◌<◌, ◌≤◌, List, [], ◌∷◌, ◌++◌, All, map, length, get_or, set, take, drop, refl, ap, sym, subst, ◌∙◌, ⊎_elim, arith, length-set, append_assoc}
use mathlib.Core.Option.{some, some-injective, some-ne-none}
use lib.ListN.{get_elem?, length-map}
use Rattle.atomic_table.proofs.Lists.{at_set, at_index, at_map, at_longer, at_last}
use Rattle.store_model.specs.History.{store_acts}
use Rattle.turn_table.specs.Seats.{Seated, TurnTableId, Joined, Closed}
use Rattle.turn_table.proofs.Places.{at_below, at_snoc}
use Rattle.shared_store.specs.Tables.{AreAt, AreNumbered, table_of}
use Rattle.shared_store.specs.declared.closed.ClosedStore.{ClosedStore}

module _ {A : Type 0} (f : A → A) where
  -- f was done to the first n
  abbrev pub below : ℕ → List A → List A
  below zero l = l
  below (suc n) [] = []
  below (suc n) (x ∷ l) = f x ∷ below n l

  pub below_at : (l : List A) (n : ℕ) (x : A) → get_elem? (below n l) n ≡ some x → get_elem? l n ≡ some x
  below_at [] zero x e = e
  below_at [] (suc n) x e = absurd (some-ne-none x (sym e))
  below_at (y ∷ l) zero x e = e
  below_at (y ∷ l) (suc n) x e = below_at l n x e

  pub below_next : (l : List A) (n : ℕ) (x : A) → get_elem? l n ≡ some x → set (below n l) n (f x) ≡ below (suc n) l
  below_next [] n x e = absurd (some-ne-none x (sym e))
  below_next (y ∷ l) zero x e = ap (λ z. f z ∷ l) (sym (some-injective y x e))
  below_next (y ∷ l) (suc n) x e = ap (λ r. f y ∷ r) (below_next l n x e)

  pub below_all : (l : List A) (n : ℕ) → length l ≤ n → below n l ≡ map f l
  below_all [] zero h = refl
  below_all [] (suc n) h = refl
  below_all (x ∷ l) zero h = absurd (omega arith)
  below_all (x ∷ l) (suc n) h = ap (λ r. f x ∷ r) (below_all l n (omega arith))

  pub below_length : (l : List A) (n : ℕ) → length (below n l) ≡ length l
  below_length l zero = refl
  below_length [] (suc n) = refl
  below_length (x ∷ l) (suc n) = ap suc (below_length l n)

module _ {A B : Type 0} (f : A → B) where
  pub taken_more : (l : List A) (n : ℕ) (x : A) → get_elem? l n ≡ some x → map f (take (suc n) l) ≡ map f (take n l) ++ f x ∷ []
  taken_more [] n x e = absurd (some-ne-none x (sym e))
  taken_more (y ∷ l) zero x e = ap (λ z. f z ∷ []) (some-injective y x e)
  taken_more (y ∷ l) (suc n) x e = ap (λ r. f y ∷ r) (taken_more l n x e)

  pub taken_all : (l : List A) (n : ℕ) → length l ≤ n → map f (take n l) ≡ map f l
  taken_all [] zero h = refl
  taken_all [] (suc n) h = refl
  taken_all (x ∷ l) zero h = absurd (omega arith)
  taken_all (x ∷ l) (suc n) h = ap (λ r. f x ∷ r) (taken_all l n (omega arith))

-- the first n were joined, and the others are as they were
pub record JoinedBelow (n : ℕ) (old ended new : List Seated) : Type 0 where
  pub as_many : length new ≡ length old
  pub done : (k : ℕ) (v u w : Seated) → k < n → get_elem? old k ≡ some v → get_elem? ended k ≡ some u → get_elem? new k ≡ some w → Joined store_acts v u w
  pub others : (k : ℕ) (w : Seated) → n ≤ k → get_elem? new k ≡ some w → get_elem? old k ≡ some w

pub joined_next : (n : ℕ) (old ended new : List Seated) (v u w : Seated) → JoinedBelow n old ended new → get_elem? new n ≡ some v → get_elem? ended n ≡ some u → Joined store_acts v u w → JoinedBelow (n + 1) old ended (set new n w)
joined_next n old ended new v u w j at_v at_u is = record {
  as_many = length-set new n w ∙ j.as_many;
  done = λ k x y z h at_x at_y at_z. ⊎_elim
      (λ (t : (k ≡ n) × (w ≡ z)).
      let x_is : x ≡ v = some-injective x v (sym at_x ∙ (ap (get_elem? old) t.0 ∙ j.others n v (omega arith) at_v)) in
      let y_is : y ≡ u = some-injective y u (sym at_y ∙ (ap (get_elem? ended) t.0 ∙ at_u)) in
      subst (λ (s : Seated × Seated × Seated). Joined store_acts s.0 s.1 s.2) (λ i. (sym x_is i, sym y_is i, t.1 i)) is)
      (λ (t : (k ≢ n) × (get_elem? new k ≡ some z)). let ne = t.0 in j.done k x y z (omega arith) at_x at_y t.1)
      (at_set new n k w z at_z);
  others = λ k z h at_z. ⊎_elim
      (λ (t : (k ≡ n) × (w ≡ z)). let e = t.0 in absurd (omega arith))
      (λ (t : (k ≢ n) × (get_elem? new k ≡ some z)). j.others k z (omega arith) t.1)
      (at_set new n k w z at_z);
}

module _ {A : Type 0} where
  pub get_at : (l : List A) (k : ℕ) (a d : A) → get_elem? l k ≡ some a → get_or l k d ≡ a
  get_at [] k a d e = absurd (some-ne-none a (sym e))
  get_at (x ∷ l) zero a d e = some-injective x a e
  get_at (x ∷ l) (suc k) a d e = get_at l k a d e

  pub all_at : (P : A → Type 0) (l : List A) (k : ℕ) (v : A) → All P l → get_elem? l k ≡ some v → P v
  all_at P l k v all at = subst P (get_at l k v v at) (all k v (at_below l k v at))

  -- a member of a list of which f was done to those before it
  pub below_member : (f : A → A) (old l : List A) (k : ℕ) (v : A) → l ≡ below f k old → k < length old → v ≡ get_or l k v → get_elem? old k ≡ some v
  below_member f old l k v is h e = below_at f old k v (subst (λ x. get_elem? x k ≡ some v) is (at_index l k v (subst (λ n. k < n) (sym (ap length is ∙ below_length f old k)) h) e))

  -- the member that comes next
  pub next_member : (yielded left rest l : List A) (x : A) → yielded ++ left ≡ l → left ≡ x ∷ rest → get_elem? l (length yielded) ≡ some x
  next_member yielded left rest l x all is =
      subst (λ l. get_elem? l (length yielded) ≡ some x) (append_assoc yielded (x ∷ []) rest ∙ (ap (λ l. yielded ++ l) (sym is) ∙ all)) (at_longer (yielded ++ x ∷ []) rest (length yielded) x (at_last yielded x (length yielded) refl))

-- the table of a seat
pub table_at : (tables : List TurnTableId) (seats : List Seated) (k : ℕ) (v : Seated) (t : TurnTableId) → AreAt tables seats → get_elem? seats k ≡ some v → t ≡ get_or tables k t → v.table ≡ t
table_at tables seats k v t at here is = sym (get_at tables k v.table t (ap (λ l. get_elem? l k) (sym at) ∙ at_map table_of seats k v here)) ∙ sym is

-- two lists of seats at the same tables are as long
pub as_long : (tables : List TurnTableId) (a b : List Seated) → AreAt tables a → AreAt tables b → length a ≡ length b
as_long tables a b p q = sym (length-map a table_of) ∙ (ap length (p ∙ sym q) ∙ length-map b table_of)

pub numbered_more : (tables : List TurnTableId) (t : TurnTableId) → AreNumbered tables → t.vm ≡ length tables → AreNumbered (tables ++ t ∷ [])
numbered_more tables t numbered is k u at = ⊎_elim
    (λ (h : (k < length tables) × (get_elem? tables k ≡ some u)). numbered k u h.1)
    (λ (h : (k ≡ length tables) × (t ≡ u)). ap (λ (x : TurnTableId). x.vm) (sym h.1) ∙ (is ∙ sym h.0))
    (at_snoc tables t u k at)

abbrev pub ClosedSoFar : List Seated → List ClosedStore → Type 0
ClosedSoFar seats stores = (vm : ℕ) (v : Seated) (c : ClosedStore) → get_elem? seats vm ≡ some v → get_elem? stores vm ≡ some c → Closed store_acts v c.store c.calls

-- the stores so far, and one more
pub closed_more : (seats : List Seated) (stores : List ClosedStore) (k : ℕ) (v : Seated) (c : ClosedStore) → length stores ≡ k → get_elem? seats k ≡ some v → ClosedSoFar seats stores → Closed store_acts v c.store c.calls → ClosedSoFar seats (stores ++ c ∷ [])
closed_more seats stores k v c long at so_far closed vm u d at_u at_d = ⊎_elim
    (λ (h : (vm < length stores) × (get_elem? stores vm ≡ some d)). so_far vm u d at_u h.1)
    (λ (h : (vm ≡ length stores) × (c ≡ d)).
    let same : v ≡ u = some-injective v u (sym at ∙ (ap (get_elem? seats) (sym (h.0 ∙ long)) ∙ at_u)) in
    subst (λ (x : Seated × ClosedStore). Closed store_acts x.0 x.1.store x.1.calls) (λ i. (same i, h.1 i)) closed)
    (at_snoc stores c d vm at_d)

pub head_of_drop : {A : Type 0} (l : List A) (k : ℕ) (x : A) (r : List A) → drop k l ≡ x ∷ r → (get_elem? l k ≡ some x) × (drop (suc k) l ≡ r)
head_of_drop [] zero x r e = absurd (cc)
head_of_drop [] (suc k) x r e = absurd (cc)
head_of_drop (y ∷ l) zero x r e = (ap some (cc), cc)
head_of_drop (y ∷ l) (suc k) x r e = head_of_drop l k x r e
