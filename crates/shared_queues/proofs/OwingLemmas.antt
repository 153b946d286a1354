-- How the notices stand in the order of their numbers.
use Rattle.std.proofs.Common.{◌≡◌, ℕ, zero, suc, ◌+◌, ◌<◌, ◌≤◌, ◌==◌, ◌||◌, Bool, true, false, cond, List, [], ◌∷◌, ◌++◌, get_or, set, Some, All, refl, sym, ap, subst, ◌∙◌, arith, ⊎_elim, eq-eqb, ne_eqb}
use Rattle.std.proofs.lemmas.Bool.{cases_eq, or_right, false_from_ne_true}
use Rattle.std.proofs.lemmas.List.{append_assoc}
use Rattle.std.proofs.lemmas.List.Elements.{All-append, All-cons, All-nil, All-head, All-tail}
use Rattle.shared_queues.specs.Owing.{Owing, is_for, oldest, but_oldest, has, owner_of, owed_from, first_number, IsRising}

-- ---- which numbers a list has
pub has_other : (t y : ℕ) (l : List ℕ) → (y ≡ t → ⊥) → has t (l ++ y ∷ []) ≡ has t l
has_other t y [] ne = ap (λ b. b || false) (ne_eqb y t ne)
has_other t y (x ∷ xs) ne = ap (λ b. (x == t) || b) (has_other t y xs ne)

pub has_new : (y : ℕ) (l : List ℕ) → has y (l ++ y ∷ []) ≡ true
has_new y [] = ap (λ b. b || false) (eq-eqb y y refl)
has_new y (x ∷ xs) = or_right (x == y) (has y (xs ++ y ∷ [])) (has_new y xs)

-- past the first one
pub has_rest : (t x : ℕ) (xs : List ℕ) → (x ≡ t → ⊥) → has t (x ∷ xs) ≡ has t xs
has_rest t x xs ne = ap (λ b. b || has t xs) (ne_eqb x t ne)

pub rising_has : (low high t : ℕ) (l : List ℕ) → IsRising low high l → has t l ≡ true → (low ≤ t) × (t < high)
rising_has low high t [] r h = absurd (cc)
rising_has low high t (x ∷ xs) r h =
    ⊎_elim
    (λ (e : x ≡ t). (omega (arith, e, r.0), omega (arith, e, r.1)))
    (λ (ne : x ≡ t → ⊥).
    let further = rising_has (x + 1) high t xs r.2 (sym (has_rest t x xs ne) ∙ h) in
    (omega (arith, further.0, r.0), further.1))
    (cases_eq x t)

pub rising_lower : (a low high : ℕ) (l : List ℕ) → a ≤ low → IsRising low high l → IsRising a high l
rising_lower a low high [] le r = tt
rising_lower a low high (x ∷ xs) le r = (omega (arith, le, r.0), r.1, r.2)

pub rising_higher : (low high : ℕ) (l : List ℕ) → IsRising low high l → IsRising low (high + 1) l
rising_higher low high [] r = tt
rising_higher low high (x ∷ xs) r = (r.0, omega (arith, r.1), rising_higher (x + 1) high xs r.2)

pub rising_more : (low high : ℕ) (l : List ℕ) → low ≤ high → IsRising low high l → IsRising low (high + 1) (l ++ high ∷ [])
rising_more low high [] le r = (le, omega arith, tt)
rising_more low high (x ∷ xs) le r = (r.0, omega (arith, r.1), rising_more (x + 1) high xs (omega (arith, r.1)) r.2)

pub first_le : (low high t : ℕ) (l : List ℕ) → IsRising low high l → has t l ≡ true → first_number l ≤ t
first_le low high t [] r h = absurd (cc)
first_le low high t (x ∷ xs) r h =
    ⊎_elim
    (λ (e : x ≡ t). omega (arith, e))
    (λ (ne : x ≡ t → ⊥). omega (arith, (rising_has (x + 1) high t xs r.2 (sym (has_rest t x xs ne) ∙ h)).0))
    (cases_eq x t)

pub first_gone : (low high x : ℕ) (xs : List ℕ) → IsRising low high (x ∷ xs) → has x xs ≡ false
first_gone low high x xs r = false_from_ne_true (has x xs) (λ h. absurd (omega (arith, (rising_has (x + 1) high x xs r.2 h).0)))

-- ---- the queue of a number
pub owner-set : (t j : ℕ) (ls : List (List ℕ)) (k : ℕ) (l : List ℕ) → has t l ≡ has t (get_or ls k []) → owner_of t j (set ls k l) ≡ owner_of t j ls
owner-set t j [] k l same = refl
owner-set t j (x ∷ xs) zero l same = ap (λ b. cond b (j ∷ []) (owner_of t (j + 1) xs)) same
owner-set t j (x ∷ xs) (suc k) l same = ap (λ r. cond (has t x) (j ∷ []) r) (owner-set t (j + 1) xs k l same)

pub owner_none : (t j : ℕ) (ls : List (List ℕ)) → ((i : ℕ) → has t (get_or ls i []) ≡ false) → owner_of t j ls ≡ []
owner_none t j [] none = refl
owner_none t j (x ∷ xs) none = ap (λ b. cond b (j ∷ []) (owner_of t (j + 1) xs)) (none 0) ∙ owner_none t (j + 1) xs (λ i. none (suc i))

pub owner_is : (t j : ℕ) (ls : List (List ℕ)) (k : ℕ) → has t (get_or ls k []) ≡ true → ((i : ℕ) → has t (get_or ls i []) ≡ true → i ≡ k) → owner_of t j ls ≡ (j + k) ∷ []
owner_is t j [] k here one = absurd (cc)
owner_is t j (x ∷ xs) zero here one =
    let e : j ≡ j + 0 = omega arith in
    ap (λ b. cond b (j ∷ []) (owner_of t (j + 1) xs)) here ∙ ap (λ n. n ∷ []) e
owner_is t j (x ∷ xs) (suc k) here one =
    let other : has t x ≡ false = false_from_ne_true (has t x) (λ h. absurd (omega (arith, one 0 h))) in
    let e : (j + 1) + k ≡ j + suc k = omega arith in
    ap (λ b. cond b (j ∷ []) (owner_of t (j + 1) xs)) other ∙ owner_is t (j + 1) xs k here (λ i h. omega (arith, one (suc i) h)) ∙ ap (λ n. n ∷ []) e

pub owner_push : (t j : ℕ) (ls : List (List ℕ)) → owner_of t j (ls ++ [] ∷ []) ≡ owner_of t j ls
owner_push t j [] = refl
owner_push t j (x ∷ xs) = ap (λ r. cond (has t x) (j ∷ []) r) (owner_push t (j + 1) xs)

pub owner_all : (P : ℕ → Type 0) (t j : ℕ) (ls : List (List ℕ)) → ((i : ℕ) → has t (get_or ls i []) ≡ true → P (j + i)) → All P (owner_of t j ls)
owner_all P t j [] each = All-nil P
owner_all P t j (x ∷ xs) each =
    at (has t x) refl (owner_all P t (j + 1) xs (λ i g. let e : j + suc i ≡ (j + 1) + i = omega arith in subst P e (each (suc i) g)))
  where
    at : (b : Bool) → has t x ≡ b → All P (owner_of t (j + 1) xs) → All P (cond b (j ∷ []) (owner_of t (j + 1) xs))
    at true h rest =
        let e : j + 0 ≡ j = omega arith in
        All-cons P j [] (subst P e (each 0 h)) (All-nil P)
    at false h rest = rest

-- ---- the queues of so many numbers
pub owed_same : (ls ms : List (List ℕ)) (n t : ℕ) → ((u : ℕ) → t ≤ u → u < t + n → owner_of u 0 ls ≡ owner_of u 0 ms) → owed_from n t ls ≡ owed_from n t ms
owed_same ls ms zero t same = refl
owed_same ls ms (suc n) t same =
    (λ i. same t (omega arith) (omega arith) i ++ owed_same ls ms n (t + 1) (λ u low high. same u (omega (arith, low)) (omega (arith, high))) i)

pub owed_split : (ls : List (List ℕ)) (a b t : ℕ) → owed_from (a + b) t ls ≡ owed_from a t ls ++ owed_from b (t + a) ls
owed_split ls zero b t =
    let n : zero + b ≡ b = omega arith in
    let m : t ≡ t + zero = omega arith in
    ap (λ x. owed_from x t ls) n ∙ ap (λ x. owed_from b x ls) m
owed_split ls (suc a) b t =
    let n : suc a + b ≡ suc (a + b) = omega arith in
    let m : t + 1 + a ≡ t + suc a = omega arith in
    ap (λ x. owed_from x t ls) n ∙ ap (λ r. owner_of t 0 ls ++ r) (owed_split ls a b (t + 1)) ∙ ap (λ x. owner_of t 0 ls ++ (owed_from a (t + 1) ls ++ owed_from b x ls)) m
    ∙ sym (append_assoc (owner_of t 0 ls) (owed_from a (t + 1) ls) (owed_from b (t + suc a) ls))

pub owed_all : (P : ℕ → Type 0) (ls : List (List ℕ)) (n t : ℕ) → ((u : ℕ) → t ≤ u → u < t + n → All P (owner_of u 0 ls)) → All P (owed_from n t ls)
owed_all P ls zero t each = All-nil P
owed_all P ls (suc n) t each = All-append P (owner_of t 0 ls) (owed_from n (t + 1) ls) (each t (omega arith) (omega arith)) (owed_all P ls n (t + 1) (λ u low high. each u (omega (arith, low)) (omega (arith, high))))

-- ---- the oldest one, behind others that are not for this worker
pub oldest_behind : (o : Owing) (who : ℕ) (ks js : List ℕ) → All (λ k. is_for o who k ≡ false) ks → (oldest o who (ks ++ js) ≡ oldest o who js) × (but_oldest o who (ks ++ js) ≡ ks ++ but_oldest o who js)
oldest_behind o who [] js none = (refl, refl)
oldest_behind o who (k ∷ ks) js none =
    let P : ℕ → Type 0 = λ n. is_for o who n ≡ false in
    let rest = oldest_behind o who ks js (All-tail P k ks none) in
    let apart : is_for o who k ≡ false = All-head P k ks none in (
      ap (λ b. cond b (Some k) (oldest o who (ks ++ js))) apart ∙ rest.0,
      ap (λ b. cond b (ks ++ js) (k ∷ but_oldest o who (ks ++ js))) apart ∙ ap (λ l. k ∷ l) rest.1,
    )

pub oldest_here : (o : Owing) (who k : ℕ) (ks : List ℕ) → is_for o who k ≡ true → (oldest o who (k ∷ ks) ≡ Some k) × (but_oldest o who (k ∷ ks) ≡ ks)
oldest_here o who k ks mine = (ap (λ b. cond b (Some k) (oldest o who ks)) mine, ap (λ b. cond b ks (k ∷ but_oldest o who ks)) mine)
