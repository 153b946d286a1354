-- Views by their places, and what a change of one of them leaves of the others.
use Rattle.std.proofs.Common.{◌≡◌, ◌≢◌, ◌⊎◌, ℕ, zero, suc, ◌<◌, ◌≤◌, List, [], ◌∷◌, ◌++◌, length, set, refl, ap, sym, subst, ◌∙◌, ⊎_elim, inl, inr, arith}
use mathlib.Core.Option.{some, some-injective, some-ne-none}
use lib.ListN.{get_elem?}
use Rattle.atomic_table.proofs.Lists.{at_set}
use Rattle.metric_table.specs.Rule.{AreApart}
use Rattle.metric_table.specs.Views.{Each}
use Rattle.metric_table.specs.declared.view.View.{View}

module _ {A : Type 0} where
  -- a place of a list that has one more member
  pub at_snoc : (l : List A) (a b : A) (i : ℕ) → get_elem? (l ++ a ∷ []) i ≡ some b → ((i < length l) × (get_elem? l i ≡ some b)) ⊎ ((i ≡ length l) × (a ≡ b))
  at_snoc [] a b zero e = inr (refl, some-injective a b e)
  at_snoc [] a b (suc i) e = absurd (some-ne-none b (sym e))
  at_snoc (x ∷ xs) a b zero e = inl (omega arith, e)
  at_snoc (x ∷ xs) a b (suc i) e = ⊎_elim (λ t. inl (let h = t.0 in omega arith, t.1)) (λ t. inr (ap suc t.0, t.1)) (at_snoc xs a b i e)

  pub at_below : (l : List A) (i : ℕ) (b : A) → get_elem? l i ≡ some b → i < length l
  at_below [] i b e = absurd (some-ne-none b (sym e))
  at_below (x ∷ xs) zero b e = omega arith
  at_below (x ∷ xs) (suc i) b e = let h = at_below xs i b e in omega arith

  -- one place has one member
  pub at_same : (l : List A) {i k : ℕ} {a b : A} → get_elem? l i ≡ some a → get_elem? l k ≡ some b → i ≡ k → a ≡ b
  at_same l {i} {k} {a} {b} p q e = some-injective a b (sym p ∙ (ap (get_elem? l) e ∙ q))

-- a fact of each view, once one of them was changed
pub each_set : (K : ℕ → View → Type 0) (views : List View) (id : ℕ) (w : View) → K id w → ((i : ℕ) (d : View) → i ≢ id → get_elem? views i ≡ some d → K i d) → Each (set views id w) K
each_set K views id w new others i d e = ⊎_elim (λ (t : (i ≡ id) × (w ≡ d)). subst (λ (x : ℕ × View). K x.0 x.1) (λ j. (sym t.0 j, t.1 j)) new)
    (λ (t : (i ≢ id) × (get_elem? views i ≡ some d)). others i d t.0 t.1) (at_set views id i w d e)

-- each live view of the second list has the number of the view at its place in the first
abbrev pub KeepsNumbers : List View → List View → Type 0
KeepsNumbers views views' = Each views' (λ i x. 0 < x.number → (y : View) × (get_elem? views i ≡ some y) × (y.number ≡ x.number))

pub numbers_set : (views : List View) (id : ℕ) (v w : View) → get_elem? views id ≡ some v → v.number ≡ w.number → KeepsNumbers views (set views id w)
numbers_set views id v w at same = each_set (λ i x. 0 < x.number → (y : View) × (get_elem? views i ≡ some y) × (y.number ≡ x.number)) views id w (λ live. (v, at, same)) (λ i d ne e live. (d, e, refl))

-- the same where the new view is spent
pub numbers_spent : (views : List View) (id : ℕ) (w : View) → w.number ≡ 0 → KeepsNumbers views (set views id w)
numbers_spent views id w gone = each_set (λ i x. 0 < x.number → (y : View) × (get_elem? views i ≡ some y) × (y.number ≡ x.number)) views id w (λ live. absurd (omega arith)) (λ i d ne e live. (d, e, refl))

pub numbers_trans : (a b c : List View) → KeepsNumbers a b → KeepsNumbers b c → KeepsNumbers a c
numbers_trans a b c p q i x e live =
    let y = q i x e live in let same : y.0.number ≡ x.number = y.2 in let z = p i y.0 y.1 (omega arith) in (z.0, z.1, z.2 ∙ same)

pub apart_numbers : (views views' : List View) → KeepsNumbers views views' → AreApart views → AreApart views'
apart_numbers views views' same apart i k v w ei ek live is =
    let p = same i v ei live in let q = same k w ek (omega arith) in
    let p' : p.0.number ≡ v.number = p.2 in let q' : q.0.number ≡ w.number = q.2 in
    apart i k p.0 q.0 p.1 q.1 (omega arith) (p' ∙ (is ∙ sym q'))

-- a bound on the numbers of the live views, and a number that none of them has
pub below_numbers : (views views' : List View) (n : ℕ) → KeepsNumbers views views' → Each views (λ i w. w.number ≤ n) → Each views' (λ i w. w.number ≤ n)
below_numbers views views' n same below i w at = ⊎_elim (λ (z : w.number ≡ 0). omega arith)
    (λ (live : 0 < w.number). let y = same i w at live in let is : y.0.number ≡ w.number = y.2 in let le = below i y.0 y.1 in omega arith) (zero_or_more w.number)
  where
    zero_or_more : (n : ℕ) → (n ≡ 0) ⊎ (0 < n)
    zero_or_more zero = inl refl
    zero_or_more (suc n) = inr (omega arith)

pub none_numbers : (views views' : List View) (n : ℕ) → 0 < n → KeepsNumbers views views' → Each views (λ i w. w.number ≢ n) → Each views' (λ i w. w.number ≢ n)
none_numbers views views' n pos same none i w at is =
    let is' : w.number ≡ n = is in
    let y = same i w at (omega arith) in none i y.0 y.1 (y.2 ∙ is)
