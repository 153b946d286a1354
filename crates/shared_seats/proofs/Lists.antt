-- Members of lists by their places.
use Rattle.std.proofs.Common.{◌≡◌, ℕ, zero, suc, ◌+◌, ◌<◌, ◌≤◌, List, [], ◌∷◌, ◌++◌, All, map, length, get_or, set, take, drop, refl, ap, sym, subst, ◌∙◌, arith, append_assoc}
use mathlib.Core.Option.{some, some-injective, some-ne-none}
use lib.ListN.{get_elem?}
use Rattle.atomic_table.proofs.Lists.{at_index, at_longer, at_last}
use Rattle.turn_table.proofs.Places.{at_below}

module _ {A : Type 0} (f : A → A) where
  -- f was done to the first n
  abbrev pub below : ℕ → List A → List A
  below zero l = l
  below (suc n) [] = []
  below (suc n) (x ∷ l) = f x ∷ below n l

  pub below_at : (l : List A) (n : ℕ) (x : A) → get_elem? (below n l) n ≡ some x → get_elem? l n ≡ some x
  below_at [] zero x e = e
  below_at [] (suc n) x e = absurd (some-ne-none x (sym e))
  below_at (y ∷ l) zero x e = e
  below_at (y ∷ l) (suc n) x e = below_at l n x e

  pub below_next : (l : List A) (n : ℕ) (x : A) → get_elem? l n ≡ some x → set (below n l) n (f x) ≡ below (suc n) l
  below_next [] n x e = absurd (some-ne-none x (sym e))
  below_next (y ∷ l) zero x e = ap (λ z. f z ∷ l) (sym (some-injective y x e))
  below_next (y ∷ l) (suc n) x e = ap (λ r. f y ∷ r) (below_next l n x e)

  pub below_all : (l : List A) (n : ℕ) → length l ≤ n → below n l ≡ map f l
  below_all [] zero h = refl
  below_all [] (suc n) h = refl
  below_all (x ∷ l) zero h = absurd (omega arith)
  below_all (x ∷ l) (suc n) h = ap (λ r. f x ∷ r) (below_all l n (omega arith))

  pub below_length : (l : List A) (n : ℕ) → length (below n l) ≡ length l
  below_length l zero = refl
  below_length [] (suc n) = refl
  below_length (x ∷ l) (suc n) = ap suc (below_length l n)

module _ {A B : Type 0} (f : A → B) where
  pub taken_more : (l : List A) (n : ℕ) (x : A) → get_elem? l n ≡ some x → map f (take (suc n) l) ≡ map f (take n l) ++ f x ∷ []
  taken_more [] n x e = absurd (some-ne-none x (sym e))
  taken_more (y ∷ l) zero x e = ap (λ z. f z ∷ []) (some-injective y x e)
  taken_more (y ∷ l) (suc n) x e = ap (λ r. f y ∷ r) (taken_more l n x e)

  -- a member of a mapped list comes of one
  pub mapped_of : (l : List A) (k : ℕ) (b : B) → get_elem? (map f l) k ≡ some b → (a : A) × (get_elem? l k ≡ some a) × (f a ≡ b)
  mapped_of [] k b e = absurd (some-ne-none b (sym e))
  mapped_of (x ∷ l) zero b e = (x, refl, some-injective (f x) b e)
  mapped_of (x ∷ l) (suc k) b e = mapped_of l k b e

module _ {A : Type 0} where
  -- what is at a place of a list
  pub there : (l : List A) (k : ℕ) → k < length l → (x : A) × (get_elem? l k ≡ some x)
  there [] k h = absurd (omega arith)
  there (x ∷ xs) zero h = (x, refl)
  there (x ∷ xs) (suc k) h = there xs k (omega arith)

  pub get_at : (l : List A) (k : ℕ) (a d : A) → get_elem? l k ≡ some a → get_or l k d ≡ a
  get_at [] k a d e = absurd (some-ne-none a (sym e))
  get_at (x ∷ l) zero a d e = some-injective x a e
  get_at (x ∷ l) (suc k) a d e = get_at l k a d e

  pub all_at : (P : A → Type 0) (l : List A) (k : ℕ) (v : A) → All P l → get_elem? l k ≡ some v → P v
  all_at P l k v all at = subst P (get_at l k v v at) (all k v (at_below l k v at))

  -- a fact of each member by its place is one of all
  pub all_of : (P : A → Type 0) (l : List A) → ((k : ℕ) (v : A) → get_elem? l k ≡ some v → P v) → All P l
  all_of P l each k d h = let v = there l k h in subst P (sym (get_at l k v.0 d v.1)) (each k v.0 v.1)

  -- a member of a list of which f was done to those before it
  pub below_member : (f : A → A) (old l : List A) (k : ℕ) (v : A) → l ≡ below f k old → k < length old → v ≡ get_or l k v → get_elem? old k ≡ some v
  below_member f old l k v is h e = below_at f old k v (subst (λ x. get_elem? x k ≡ some v) is (at_index l k v (subst (λ n. k < n) (sym (ap length is ∙ below_length f old k)) h) e))

  -- the member that comes next
  pub next_member : (yielded left rest l : List A) (x : A) → yielded ++ left ≡ l → left ≡ x ∷ rest → get_elem? l (length yielded) ≡ some x
  next_member yielded left rest l x all is =
      subst (λ l. get_elem? l (length yielded) ≡ some x) (append_assoc yielded (x ∷ []) rest ∙ (ap (λ l. yielded ++ l) (sym is) ∙ all)) (at_longer (yielded ++ x ∷ []) rest (length yielded) x (at_last yielded x (length yielded) refl))

  pub head_of_drop : (l : List A) (k : ℕ) (x : A) (r : List A) → drop k l ≡ x ∷ r → (get_elem? l k ≡ some x) × (drop (suc k) l ≡ r)
  head_of_drop [] zero x r e = absurd (cc)
  head_of_drop [] (suc k) x r e = absurd (cc)
  head_of_drop (y ∷ l) zero x r e = (ap some (cc), cc)
  head_of_drop (y ∷ l) (suc k) x r e = head_of_drop l k x r e

  -- the members of a list but the first, in a loop over them
  pub next_but_first : (l yielded left rest : List A) (x : A) → 0 < length l → yielded ++ left ≡ drop 1 l → left ≡ x ∷ rest → get_elem? l (suc (length yielded)) ≡ some x
  next_but_first [] yielded left rest x h all is = absurd (omega arith)
  next_but_first (a ∷ l) yielded left rest x h all is = next_member yielded left rest l x all is

  pub left_of_first : (l : List A) → 0 < length l → length (drop 1 l) + 1 ≡ length l
  left_of_first [] h = absurd (omega arith)
  left_of_first (a ∷ l) h = omega arith
