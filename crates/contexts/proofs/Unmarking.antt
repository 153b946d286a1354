-- The members of a list changed one by one, from the front.
use Rattle.std.proofs.Common.{◌≡◌, ◌<◌, ℕ, zero, suc, ◌+◌, List, [], ◌∷◌, length, map, Option, refl, sym, ap, ◌∙◌, arith}
use Rattle.std.specs.Prelude.{slice_set, slice_index_or}
use Rattle.contexts.specs.declared.parts.ExchangeEntry.{ExchangeEntry}
use Rattle.contexts.specs.Effects.{unmarked_at}

-- the first so many are changed
abbrev pub unmarked_to : ℕ → List (Option ExchangeEntry) → List (Option ExchangeEntry)
unmarked_to zero xs = xs
unmarked_to (suc n) [] = []
unmarked_to (suc n) (x ∷ xs) = unmarked_at x ∷ unmarked_to n xs

pub unmarked_all : (xs : List (Option ExchangeEntry)) → unmarked_to (length xs) xs ≡ map unmarked_at xs
unmarked_all [] = refl
unmarked_all (x ∷ xs) = ap (λ ys. unmarked_at x ∷ ys) (unmarked_all xs)

pub length-unmarked : (n : ℕ) (xs : List (Option ExchangeEntry)) → length (unmarked_to n xs) ≡ length xs
length-unmarked zero xs = refl
length-unmarked (suc n) [] = refl
length-unmarked (suc n) (x ∷ xs) = ap suc (length-unmarked n xs)

-- the next one is as it was
next_is : (n : ℕ) (xs : List (Option ExchangeEntry)) (d : Option ExchangeEntry) → slice_index_or (unmarked_to n xs) n d ≡ slice_index_or xs n d
next_is zero xs d = refl
next_is (suc n) [] d = refl
next_is (suc n) (x ∷ xs) d = next_is n xs d

next_set : (n : ℕ) (xs : List (Option ExchangeEntry)) (x : Option ExchangeEntry) → n < length xs → slice_index_or xs n x ≡ x → slice_set (unmarked_to n xs) n (unmarked_at x) ≡ unmarked_to (suc n) xs
next_set zero [] x within is = absurd (omega (arith, within))
next_set zero (y ∷ xs) x within is = ap (λ z. unmarked_at z ∷ xs) (sym is)
next_set (suc n) [] x within is = absurd (omega (arith, within))
next_set (suc n) (y ∷ xs) x within is = ap (λ ys. unmarked_at y ∷ ys) (next_set n xs x (omega (arith, within)) is)

after_is : (n : ℕ) → suc n ≡ n + 1
after_is n = omega arith

pub next_step : (n : ℕ) (xs ys : List (Option ExchangeEntry)) (x z : Option ExchangeEntry) → ys ≡ unmarked_to n xs → n < length xs → x ≡ slice_index_or ys n x → z ≡ unmarked_at x → slice_set ys n z ≡ unmarked_to (n + 1) xs
next_step n xs ys x z there within is now =
    (λ j. slice_set (there j) n (now j))
    ∙ next_set n xs x within (sym (next_is n xs x) ∙ ap (λ zs. slice_index_or zs n x) (sym there) ∙ sym is)
    ∙ ap (λ m. unmarked_to m xs) (after_is n)
