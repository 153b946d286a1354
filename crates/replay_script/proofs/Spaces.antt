-- Words between spaces, and numbers in decimal.
use Rattle.std.proofs.Common.{◌≡◌, ◌≢◌, ℕ, suc, ◌+◌, ◌<◌, ◌≤◌, ◌^◌, List, [], ◌∷◌, ◌++◌, length, get_or, take, drop, refl, ap, sym, ◌∙◌, subst, arith, Result, Ok, decimal, Option, None, Some, IsSome, IfSome, ◌-◌, add-one, true, false, Err, ◌⊎◌, inl, inr, IfOk, length-drop, drop-cons}
use Rattle.std.proofs.lemmas.List.{take_all, take-append-drop}
use Rattle.std.specs.Char.{digit_value}
use Rattle.std.specs.Str.{IsUtf8}
use Rattle.std.specs.Str.Parse.{ParsesUnsigned, AllDigits}
use Rattle.std.proofs.lemmas.Fmt.{parse-decimal, IsAscii-decimal, decimal_is_IsNumeral}
use Rattle.std.proofs.lemmas.Str.{IsUtf8-from_ascii}
use Rattle.hex.specs.Hex.{decode_of, encode_lower}
use Rattle.hex.specs.declared.error.FromHexError.{FromHexError}
use Rattle.hex.specs.declared.error.FromHexError.TheVariants.{OutOfMemory}
use Rattle.hex.proofs.HexLemmas.{decode_of-encode_lower}
use Rattle.replay_script.specs.Commands.{IsFree, IsLine, IsPiece, IsWorker}

-- one more byte that is another
pub free_and : (b : ℕ) (xs : List ℕ) (x : ℕ) → IsFree b xs → x ≢ b → IsFree b (xs ++ (x ∷ []))
free_and b [] x free other = (other, tt)
free_and b (y ∷ xs) x free other = (free.0, free_and b xs x free.1 other)

-- the front before a place is free so far, and the place has the byte
pub parts_are : (b : ℕ) (text : List ℕ) (at : ℕ) → at < length text → get_or text at 0 ≡ b
    → text ≡ take at text ++ (b ∷ take (length text - (at + 1)) (drop (at + 1) text))
parts_are b text at low here =
    rw (take_all (length text - (at + 1)) (drop (at + 1) text) (omega (arith, length-drop (at + 1) text)))
    (sym (take-append-drop at text) ∙ ap (λ (xs : List ℕ). take at text ++ xs) (drop-cons text at 0 low ∙ ap (λ (x : ℕ). x ∷ drop (suc at) text) here ∙ rw (← add-one) refl))

-- the number of a line is one of 64 bits
pub line_fits : (n : ℕ) → IsLine n → n < 2 ^ 64
line_fits n line = omega (arith, line.high)

pub worker_fits : (n : ℕ) → IsWorker n → n < 2 ^ 64
worker_fits n worker = omega (arith, worker.high)

pub worker_is_byte : (n : ℕ) → IsWorker n → n < 2 ^ 8
worker_is_byte n worker = omega (arith, worker.high)

-- a number in decimal is text
pub decimal_is_text : (n : ℕ) (word : List ℕ) → n < 2 ^ 64 → word ≡ decimal n → IsUtf8 word
decimal_is_text n word low e = subst (λ (bs : List ℕ). IsUtf8 bs) (sym e) (IsUtf8-from_ascii (decimal n) (IsAscii-decimal n low))

-- and is read back
pub decimal_is_read : {E : Type 0} (k n : ℕ) (word : List ℕ) (r : Result ℕ E) → n < 2 ^ k → n < 2 ^ 64 → word ≡ decimal n → ParsesUnsigned k 10 word r → r ≡ Ok n
decimal_is_read k n word r small low e parses = parse-decimal k n word r small low e parses

-- a number in range is kept
pub line_is_kept : (r : Option ℕ) (m n : ℕ) → IsLine n → m ≡ n → (1 ≤ m → IsSome r) → IfSome r (λ l. l ≡ m) → r ≡ Some n
line_is_kept None m n line same there value = let no : false ≡ true = there (omega (arith, line.low)) in cc
line_is_kept (Some l) m n line same there value = ap Some (value ∙ same)

pub worker_is_kept : (r : Option ℕ) (m n : ℕ) → IsWorker n → m ≡ n → ((1 ≤ m) × (m ≤ 8) → IsSome r) → IfSome r (λ w. w ≡ m) → r ≡ Some n
worker_is_kept None m n worker same there value =
    let no : false ≡ true = there (omega (arith, worker.low), omega (arith, worker.high)) in cc
worker_is_kept (Some w) m n worker same there value = ap Some (value ∙ same)

-- digits have no space
pub digits_are_free : (ds : List ℕ) → AllDigits 10 ds → IsFree 32 ds
digits_are_free [] all = tt
digits_are_free (d ∷ ds) all =
    (λ e. let low : digit_value 32 < 10 = subst (λ (x : ℕ). digit_value x < 10) e all.0 in omega (arith, low), digits_are_free ds all.1)

pub decimal_is_free : (n : ℕ) → n < 2 ^ 64 → IsFree 32 (decimal n)
decimal_is_free n low = digits_are_free (decimal n) (decimal_is_IsNumeral n low).0.1

-- what is not decoded spells no piece, but for want of memory
pub not_spelled : {E : Type 0} (r : Result (Option (List ℕ)) E) (refusal : FromHexError) (digits : List ℕ)
    → (refusal ≡ OutOfMemory) ⊎ (decode_of digits ≡ Err refusal) → IfOk r (λ found. (found ≡ None) × (refusal ≢ OutOfMemory))
    → IfOk r (λ found. (bytes : List ℕ) → IsPiece bytes → digits ≡ encode_lower bytes → found ≡ Some bytes)
not_spelled (Err e) refusal digits why given = tt
not_spelled (Ok found) refusal digits (inl out) given = λ bytes piece e. absurd (given.1 out)
not_spelled (Ok found) refusal digits (inr bad) given = λ bytes piece e.
    let good : decode_of digits ≡ Ok bytes = ap decode_of e ∙ decode_of-encode_lower bytes piece.each in
    cc

-- what stands before and after the first byte of a kind
pub split_alone : (b : ℕ) (x y r s : List ℕ) → IsFree b x → IsFree b y → x ++ (b ∷ r) ≡ y ++ (b ∷ s) → (x ≡ y) × (r ≡ s)
split_alone b [] [] r s f g e = (refl, cc)
split_alone b [] (d ∷ y) r s f g e = absurd (g.0 (let same : d ≡ b = cc in same))
split_alone b (d ∷ x) [] r s f g e = absurd (f.0 (let same : d ≡ b = cc in same))
split_alone b (d ∷ x) (d' ∷ y) r s f g e =
    let rest : x ++ (b ∷ r) ≡ y ++ (b ∷ s) = cc in
    let head : d ≡ d' = cc in
    let parts = split_alone b x y r s f.1 g.1 rest in
    (cc (parts.0), parts.1)

pub has_no_such : (b : ℕ) (x r : List ℕ) → IsFree b (x ++ (b ∷ r)) → ⊥
has_no_such b [] r f = f.0 refl
has_no_such b (d ∷ x) r f = has_no_such b x r f.1
