-- Numbers as `parse` reads them.
use Rattle.std.proofs.Common.{◌≡◌, ℕ, ◌<◌, ◌^◌, List, [], ◌∷◌, Bool, true, false, not, ◌==◌, ◌&&◌, cond, length, nat_lt, Option, Some, None, Result, Ok, Err, refl, ap, sym, ◌∙◌, arith, rules}
use Rattle.std.specs.List.{list_all}
use Rattle.std.specs.Str.Parse.{digits_value, ParsesUnsigned}
use Rattle.std.proofs.lemmas.Bool.{and_parts}
use Rattle.std.proofs.lemmas.Bool.Decides.{nat_tests}
use Rattle.std.proofs.lemmas.Str.Parse.{IsNumeralModel, numerals_by_value, parse_gives}
use Rattle.command_words.specs.Forms.{is_digit, is_number, number_of}

own : IsNumeralModel (λ ds. list_all is_digit ds ≡ true) (digits_value 10)
own = numerals_by_value (λ ds. list_all is_digit ds ≡ true) (search rules)

digits : (bs : List ℕ) → is_number bs ≡ true → list_all is_digit bs ≡ true
digits [] h = cc
digits (x ∷ []) h = rw h
digits (x ∷ y ∷ bs) h = (and_parts (not (x == 48)) (list_all is_digit (x ∷ y ∷ bs)) h).1

some : (bs : List ℕ) → is_number bs ≡ true → 0 < length bs
some [] h = cc
some (x ∷ bs) h = omega arith

by_size : {E : Type 0} (bs : List ℕ) (e : E) (b : Bool) → nat_lt (digits_value 10 bs) (2 ^ 32) ≡ b → is_number bs ≡ true → ParsesUnsigned {E = E} 32 10 bs (Err e) → None ≡ number_of bs
unfolding number_of
by_size bs e false t h p = rw (h, t)
by_size bs e true t h p =
    let low : digits_value 10 bs < 2 ^ 32 = grind (arith, nat_tests) in
    let bad : Err e ≡ Ok (digits_value 10 bs) = parse_gives own 32 bs (Err e) p (digits bs h) (some bs h) low in cc

pub too_large : {E : Type 0} (bs : List ℕ) (e : E) → is_number bs ≡ true → ParsesUnsigned {E = E} 32 10 bs (Err e) → None ≡ number_of bs
too_large bs e h p = by_size bs e (nat_lt (digits_value 10 bs) (2 ^ 32)) refl h p
