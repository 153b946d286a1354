-- Beginnings of lists.
use Rattle.std.proofs.Common.{◌≡◌, ◌≤◌, List, [], ◌∷◌, ◌++◌, length, refl, ap, sym, ◌∙◌, arith, append_assoc, length-append}
use Rattle.std.proofs.lemmas.List.{append-nil}
use mathlib.Core.List.{IsPrefix}

module _ {A : Type 0} where
  pub prefix_self : (xs : List A) → IsPrefix xs xs
  prefix_self xs = ([], append-nil xs)

  pub prefix_trans : (xs ys zs : List A) → IsPrefix xs ys → IsPrefix ys zs → IsPrefix xs zs
  prefix_trans xs ys zs p q = (p.0 ++ q.0, sym (append_assoc xs p.0 q.0) ∙ (ap (λ w. w ++ q.0) p.1 ∙ q.1))

  pub prefix_length : (xs ys : List A) → IsPrefix xs ys → length xs ≤ length ys
  prefix_length xs ys p = omega (arith, sym (ap length p.1) ∙ length-append xs p.0)

  -- of two beginnings of one list the shorter begins the longer
  pub prefix_shorter : (xs ys zs : List A) → IsPrefix xs zs → IsPrefix ys zs → length xs ≤ length ys → IsPrefix xs ys
  prefix_shorter [] ys zs p q le = (ys, refl)
  prefix_shorter (x ∷ xs) [] zs p q le = absurd (omega arith)
  prefix_shorter (x ∷ xs) (y ∷ ys) [] p q le = absurd (cc (p.1))
  prefix_shorter (x ∷ xs) (y ∷ ys) (z ∷ zs) p q le =
      let heads : x ≡ y = cc (p.1, q.1) in
      let rest = prefix_shorter xs ys zs (p.0, cc (p.1)) (q.0, cc (q.1)) (omega arith) in
      (rest.0, cc (heads, rest.1))

  -- a beginning as long as the list is the list
  pub prefix_all : (xs ys : List A) → IsPrefix xs ys → length ys ≤ length xs → xs ≡ ys
  prefix_all [] [] p le = refl
  prefix_all [] (y ∷ ys) p le = absurd (omega arith)
  prefix_all (x ∷ xs) [] p le = absurd (cc (p.1))
  prefix_all (x ∷ xs) (y ∷ ys) p le = let rest = prefix_all xs ys (p.0, cc (p.1)) (omega arith) in cc (p.1, rest)

  -- what stands between a list and itself is the list
  pub prefix_between : (xs ys zs : List A) → IsPrefix xs ys → IsPrefix ys zs → xs ≡ zs → ys ≡ zs
  prefix_between xs ys zs p q e = prefix_all ys zs q (omega (arith, prefix_length xs ys p, ap length e))

  pub first_empty : (xs ys : List A) → xs ++ ys ≡ [] → xs ≡ []
  first_empty [] ys e = refl
  first_empty (x ∷ xs) ys e = absurd (cc)

  pub nothing_behind : (xs ys : List A) → xs ++ ys ≡ xs → ys ≡ []
  nothing_behind [] ys e = e
  nothing_behind (x ∷ xs) ys e = nothing_behind xs ys (cc)
