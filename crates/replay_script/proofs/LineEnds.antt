-- No text of a line has an LF in it, so the first LF ends the first line.
use Rattle.std.proofs.Common.{ℕ, suc, ◌/◌, ◌%◌, ◌<◌, ◌^◌, ◌≡◌, ◌≢◌, List, [], ◌∷◌, ◌++◌, get_or, refl, ap, sym, ◌∙◌, subst, arith, Some, decimal, codes, Bool, true, false, cond, eqb, eq-eqb}
use Rattle.std.specs.Char.{digit_value}
use Rattle.std.specs.Str.Parse.{AllDigits}
use Rattle.std.proofs.lemmas.Fmt.{decimal_is_IsNumeral}
use Rattle.hex.specs.Hex.{encode_with, encode_lower, lower_digits, hex_digit_value, IsBytes}
use Rattle.hex.proofs.HexLemmas.{IsDigits-lower_digits}
use Rattle.replay_script.specs.declared.command.Command.{Command}
use Rattle.replay_script.specs.declared.command.Command.TheVariants.{On, At, Open, Bytes, End, Gone, Joined, Refused, UpBytes, UpEnd, UpGone, Clock, Stop}
use Rattle.replay_script.specs.Commands.{IsFree, IsLine, IsPiece, IsInForm, text_of}
use Rattle.replay_script.proofs.Spaces.{line_fits, worker_fits}

-- a byte that stands in neither part stands in neither of both
free_of_both : (b : ℕ) (xs ys : List ℕ) → IsFree b xs → IsFree b ys → IsFree b (xs ++ ys)
free_of_both b [] ys f g = g
free_of_both b (x ∷ xs) ys f g = (f.0, free_of_both b xs ys f.1 g)

digits_have_no_end : (ds : List ℕ) → AllDigits 10 ds → IsFree 10 ds
digits_have_no_end [] all = tt
digits_have_no_end (d ∷ ds) all =
    (λ e. let low : digit_value 10 < 10 = subst (λ (x : ℕ). digit_value x < 10) e all.0 in omega (arith, low), digits_have_no_end ds all.1)

decimal_has_no_end : (n : ℕ) → n < 2 ^ 64 → IsFree 10 (decimal n)
decimal_has_no_end n low = digits_have_no_end (decimal n) (decimal_is_IsNumeral n low).0.1

-- no digit of the table is an LF
digit_is_no_end : (d : ℕ) → d < 16 → get_or lower_digits d 0 ≢ 10
digit_is_no_end d low e =
    let value : hex_digit_value 10 ≡ Some d = ap hex_digit_value (sym e) ∙ IsDigits-lower_digits d low in cc

hex_has_no_end : (bytes : List ℕ) → IsBytes bytes → IsFree 10 (encode_lower bytes)
unfolding encode_with
hex_has_no_end [] each = tt
hex_has_no_end (b ∷ bytes) each =
    let small : b < 256 = each 0 in
    (digit_is_no_end (b / 16) (omega arith), (digit_is_no_end (b % 16) (omega arith), hex_has_no_end bytes (λ i. each (suc i))))

-- a word without an LF, by a test that computes
abbrev no_end : List ℕ → Bool
no_end [] = true
no_end (b ∷ bs) = cond (eqb b 10) false (no_end bs)

test_is_false : (t u : Bool) → cond t false u ≡ true → t ≡ false
test_is_false true u h = cc
test_is_false false u h = refl

word_is_free : (word : List ℕ) → no_end word ≡ true → IsFree 10 word
word_is_free [] test = tt
word_is_free (b ∷ bs) test =
    let other : eqb b 10 ≡ false = test_is_false (eqb b 10) (no_end bs) test in
    ((λ e. let same : eqb b 10 ≡ true = eq-eqb b 10 e in cc), word_is_free bs (let t : cond false false (no_end bs) ≡ true = subst (λ (v : Bool). cond v false (no_end bs) ≡ true) other test in t))

-- a word and a number
numbered : (word : List ℕ) (n : ℕ) → no_end word ≡ true → n < 2 ^ 64 → IsFree 10 (word ++ decimal n)
numbered word n test low = free_of_both 10 word (decimal n) (word_is_free word test) (decimal_has_no_end n low)

-- a word, a number and bytes
with_bytes : (word : List ℕ) (n : ℕ) (bytes : List ℕ) → no_end word ≡ true → IsLine n → IsPiece bytes → IsFree 10 (word ++ (decimal n ++ (32 ∷ encode_lower bytes)))
with_bytes word n bytes test line piece =
    free_of_both 10 word (decimal n ++ (32 ∷ encode_lower bytes)) (word_is_free word test)
    (free_of_both 10 (decimal n) (32 ∷ encode_lower bytes) (decimal_has_no_end n (line_fits n line)) ((λ e. omega (arith, e)), hex_has_no_end bytes piece.each))

-- the text of a command has no LF
pub text_has_no_end : (c : Command) → IsInForm c → IsFree 10 (text_of c)
text_has_no_end (On worker) form = numbered (codes "on ") worker refl (worker_fits worker form)
text_has_no_end (At moment) form = numbered (codes "at ") moment refl form
text_has_no_end (Open line) form = numbered (codes "open ") line refl (line_fits line form)
text_has_no_end (Bytes line bytes) form = with_bytes (codes "bytes ") line bytes refl form.0 form.1
text_has_no_end (End line) form = numbered (codes "end ") line refl (line_fits line form)
text_has_no_end (Gone line) form = numbered (codes "gone ") line refl (line_fits line form)
text_has_no_end (Joined line) form = numbered (codes "joined ") line refl (line_fits line form)
text_has_no_end (Refused line) form = numbered (codes "refused ") line refl (line_fits line form)
text_has_no_end (UpBytes line bytes) form = with_bytes (codes "upbytes ") line bytes refl form.0 form.1
text_has_no_end (UpEnd line) form = numbered (codes "upend ") line refl (line_fits line form)
text_has_no_end (UpGone line) form = numbered (codes "upgone ") line refl (line_fits line form)
text_has_no_end Clock form = word_is_free (codes "clock") refl
text_has_no_end Stop form = word_is_free (codes "stop") refl
