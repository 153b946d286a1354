-- Lists whose members stand to each other, place by place.
use Rattle.std.proofs.Common.{◌≡◌, ℕ, zero, suc, ◌<◌, List, [], ◌∷◌, ◌++◌, length, map, reverse, take, drop, slice_index_or, ap, sym, subst, arith, All}
use Rattle.std.proofs.lemmas.Grind.{common_steps, reverse_onto}
use mathlib.Core.Option.{some, some-injective, some-ne-none}
use lib.ListN.{get_elem?}
use Rattle.fleet.specs.Fleet.{Each}

pub written : {A : Type 0} (n : ℕ) (xs ys : List A) → length xs ≡ length ys → n ≡ length ys → take n (xs ++ drop (length xs) ys) ≡ xs
written n xs ys long is = grind (arith, common_steps)

module _ {A B : Type 0} (R : A → B → Type 0) where
  pub each_append : (xs more : List A) (ys rest : List B) → Each R xs ys → Each R more rest → Each R (xs ++ more) (ys ++ rest)
  each_append [] more [] rest a b = b
  each_append [] more (y ∷ ys) rest a b = absurd a
  each_append (x ∷ xs) more [] rest a b = absurd a
  each_append (x ∷ xs) more (y ∷ ys) rest a b = (a.0, each_append xs more ys rest a.1 b)

  pub each_reverse : (xs : List A) (ys : List B) → Each R xs ys → Each R (reverse xs) (reverse ys)
  each_reverse [] [] a = tt
  each_reverse [] (y ∷ ys) a = absurd a
  each_reverse (x ∷ xs) [] a = absurd a
  each_reverse (x ∷ xs) (y ∷ ys) a =
      subst (λ (us : List A). Each R us (reverse (y ∷ ys))) (sym (reverse_onto xs x []))
      (subst (λ (vs : List B). Each R (reverse xs ++ x ∷ []) vs) (sym (reverse_onto ys y [])) (each_append (reverse xs) (x ∷ []) (reverse ys) (y ∷ []) (each_reverse xs ys a.1) (a.0, tt)))

  pub each_len : (xs : List A) (ys : List B) → Each R xs ys → length ys ≡ length xs
  each_len [] [] a = omega arith
  each_len [] (y ∷ ys) a = absurd a
  each_len (x ∷ xs) [] a = absurd a
  each_len (x ∷ xs) (y ∷ ys) a = ap suc (each_len xs ys a.1)

  pub each_at : (k : ℕ) (xs : List A) (ys : List B) (x : A) (y : B) → Each R xs ys → get_elem? xs k ≡ some x → get_elem? ys k ≡ some y → R x y
  each_at zero [] ys x y a p q = absurd (some-ne-none x (sym p))
  each_at (suc k) [] ys x y a p q = absurd (some-ne-none x (sym p))
  each_at zero (u ∷ us) [] x y a p q = absurd a
  each_at (suc k) (u ∷ us) [] x y a p q = absurd a
  each_at zero (u ∷ us) (v ∷ vs) x y a p q = subst (λ (s : A). R s y) (some-injective u x p) (subst (λ (t : B). R u t) (some-injective v y q) a.0)
  each_at (suc k) (u ∷ us) (v ∷ vs) x y a p q = each_at k us vs x y a.1 p q

pub each_from : {A : Type 0} (R : A → A → Type 0) (xs ys : List A) → length ys ≡ length xs → ((i : ℕ) (d : A) → i < length xs → R (slice_index_or xs i d) (slice_index_or ys i d)) → Each R xs ys
each_from R [] [] e h = tt
each_from R [] (y ∷ ys) e h = absurd (omega (arith, e))
each_from R (x ∷ xs) [] e h = absurd (omega (arith, e))
each_from R (x ∷ xs) (y ∷ ys) e h = (h 0 x (omega arith), each_from R xs ys (omega (arith, e)) (λ i d low. h (suc i) d (omega (arith, low))))

pub each_map : {A B C D : Type 0} (P : A → B → Type 0) (R : C → D → Type 0) (f : A → C) (g : B → D) → ((x : A) (y : B) → P x y → R (f x) (g y)) → (xs : List A) (ys : List B) → Each P xs ys → Each R (map f xs) (map g ys)
each_map P R f g so [] [] a = tt
each_map P R f g so [] (y ∷ ys) a = absurd a
each_map P R f g so (x ∷ xs) [] a = absurd a
each_map P R f g so (x ∷ xs) (y ∷ ys) a = (so x y a.0, each_map P R f g so xs ys a.1)

-- P holds of each
abbrev pub Every : {A : Type 0} → (A → Type 0) → List A → Type 0
Every P [] = Unit {0}
Every P (x ∷ xs) = P x × Every P xs

pub every_of : {A : Type 0} (P : A → Type 0) (xs : List A) → All P xs → Every P xs
every_of P [] h = tt
every_of P (x ∷ xs) h = (h 0 x (omega arith), every_of P xs (λ k d low. h (suc k) d (omega (arith, low))))

pub all_of : {A : Type 0} (P : A → Type 0) (xs : List A) → Every P xs → All P xs
all_of P [] e k d low = absurd (omega (arith, low))
all_of P (x ∷ xs) e zero d low = e.0
all_of P (x ∷ xs) e (suc k) d low = all_of P xs e.1 k d (omega (arith, low))

every_left : {A : Type 0} (P : A → Type 0) (xs ys : List A) → Every P (xs ++ ys) → Every P xs
every_left P [] ys e = tt
every_left P (x ∷ xs) ys e = (e.0, every_left P xs ys e.1)

every_right : {A : Type 0} (P : A → Type 0) (xs ys : List A) → Every P (xs ++ ys) → Every P ys
every_right P [] ys e = e
every_right P (x ∷ xs) ys e = every_right P xs ys e.1

pub every_back : {A B : Type 0} (P : B → Type 0) (f : A → B) (ps : List A) → Every P (reverse (map f ps)) → Every (λ p. P (f p)) ps
every_back P f [] h = tt
every_back P f (p ∷ ps) h =
    let k = subst (λ (l : List _). Every P l) (reverse_onto (map f ps) (f p) []) h in
    ((every_right P (reverse (map f ps)) (f p ∷ []) k).0, every_back P f ps (every_left P (reverse (map f ps)) (f p ∷ []) k))

pub every_so : {A : Type 0} (P Q : A → Type 0) → ((x : A) → P x → Q x) → (xs : List A) → Every P xs → Every Q xs
every_so P Q so [] e = tt
every_so P Q so (x ∷ xs) e = (so x e.0, every_so P Q so xs e.1)

pub all_left : {A : Type 0} (P : A → Type 0) (xs ys : List A) → All P (xs ++ ys) → All P xs
all_left P xs ys h = all_of P xs (every_left P xs ys (every_of P (xs ++ ys) h))
