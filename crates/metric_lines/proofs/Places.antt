-- Where a metric is put among others.
use Rattle.std.proofs.Common.{◌≡◌, ℕ, ◌≤◌, Bool, true, false, cond, nat_lt, List, length, Some, None, refl, arith}
use Rattle.std.specs.Prelude.{not, position}
use Rattle.std.specs.List.{position_or_len}
use Rattle.std.proofs.lemmas.Bool.Decides.{nat_tests}
use Rattle.std.proofs.lemmas.List.Sums.{prefix_len-le-length}

module _ {A : Type 0} (p : A → Bool) (l : List A) where
  pub place_found : (at : ℕ) → Some at ≡ position p l → at ≡ position_or_len p l
  place_found at e = by (nat_lt (position_or_len p l) (length l)) e
    where
      by : (b : Bool) → Some at ≡ cond b (Some (position_or_len p l)) None → at ≡ position_or_len p l
      by true e = cc
      by false e = absurd (cc)

  pub place_at_end : None ≡ position p l → length l ≡ position_or_len p l
  place_at_end e = by (nat_lt (position_or_len p l) (length l)) refl e
    where
      by : (b : Bool) → nat_lt (position_or_len p l) (length l) ≡ b → None ≡ cond b (Some (position_or_len p l)) None → length l ≡ position_or_len p l
      by true is e = absurd (cc)
      by false is e =
          let low : length l ≤ position_or_len p l = grind (arith, nat_tests) in
          let high = prefix_len-le-length (λ x. not (p x)) l in omega arith
