-- A text is that of one command at most: the command is read back off its text.
use Rattle.std.proofs.Common.{◌≡◌, ◌≢◌, ℕ, ◌<◌, ◌^◌, List, [], ◌∷◌, ◌++◌, drop, refl, ap, sym, ◌∙◌, Result, Ok, Err, decimal, codes, Bool, true, false, cond, eqb}
use Rattle.std.specs.Prelude.{◌&&◌, if◌then◌else◌}
use Rattle.std.specs.Str.Parse.{digits_value}
use Rattle.std.proofs.lemmas.Bool.{eqb-true}
use Rattle.std.proofs.lemmas.Fmt.{decimal_is_IsNumeral}
use Rattle.hex.specs.Hex.{encode_lower, decode_of}
use Rattle.hex.proofs.HexLemmas.{decode_of-encode_lower}
use Rattle.replay_script.specs.declared.command.Command.{Command}
use Rattle.replay_script.specs.declared.command.Command.TheVariants.{On, At, Open, Bytes, End, Gone, Joined, Refused, UpBytes, UpEnd, UpGone, Clock, Stop}
use Rattle.replay_script.specs.Commands.{IsFree, IsLine, IsPiece, IsInForm, text_of}
use Rattle.replay_script.proofs.Spaces.{decimal_is_free, line_fits, worker_fits}

-- the text begins with this word
abbrev begins : List ℕ → List ℕ → Bool
begins [] text = true
begins (b ∷ word) [] = false
begins (b ∷ word) (x ∷ text) = eqb b x && begins word text

-- what stands before the first space, all where there is none, and what stands after it
abbrev before : List ℕ → List ℕ
before [] = []
before (x ∷ xs) = cond (eqb x 32) [] (x ∷ before xs)

abbrev after : List ℕ → List ℕ
after [] = []
after (x ∷ xs) = cond (eqb x 32) xs (after xs)

abbrev number_in : List ℕ → ℕ
number_in text = digits_value 10 (before text)

abbrev ok_bytes : {E : Type 0} → Result (List ℕ) E → List ℕ
ok_bytes (Ok bytes) = bytes
ok_bytes (Err e) = []

abbrev bytes_in : List ℕ → List ℕ
bytes_in text = ok_bytes (decode_of (after text))

-- the command that a text is, if it is one
abbrev read_text : List ℕ → Command
read_text text =
    if begins (codes "at ") text then At (number_in (drop 3 text))
    else if begins (codes "on ") text then On (number_in (drop 3 text))
    else if begins (codes "open ") text then Open (number_in (drop 5 text))
    else if begins (codes "bytes ") text then Bytes (number_in (drop 6 text)) (bytes_in (drop 6 text))
    else if begins (codes "end ") text then End (number_in (drop 4 text))
    else if begins (codes "gone ") text then Gone (number_in (drop 5 text))
    else if begins (codes "joined ") text then Joined (number_in (drop 7 text))
    else if begins (codes "refused ") text then Refused (number_in (drop 8 text))
    else if begins (codes "upbytes ") text then UpBytes (number_in (drop 8 text)) (bytes_in (drop 8 text))
    else if begins (codes "upend ") text then UpEnd (number_in (drop 6 text))
    else if begins (codes "upgone ") text then UpGone (number_in (drop 7 text))
    else if begins (codes "clock") text then Clock
    else Stop

no_space : (x : ℕ) → x ≢ 32 → eqb x 32 ≡ false
no_space x other = elim (eqb x 32) as (λ (b : Bool). eqb x 32 ≡ b → eqb x 32 ≡ false) [
  | true ↦ λ e. absurd (other (eqb-true x 32 e))
  | false ↦ λ e. e
] refl

before_alone : (w : List ℕ) → IsFree 32 w → before w ≡ w
before_alone [] free = refl
before_alone (x ∷ xs) free =
    ap (λ (b : Bool). cond b [] (x ∷ before xs)) (no_space x free.0) ∙ ap (λ (ys : List ℕ). x ∷ ys) (before_alone xs free.1)

before_space : (w r : List ℕ) → IsFree 32 w → before (w ++ (32 ∷ r)) ≡ w
before_space [] r free = refl
before_space (x ∷ xs) r free =
    ap (λ (b : Bool). cond b [] (x ∷ before (xs ++ (32 ∷ r)))) (no_space x free.0) ∙ ap (λ (ys : List ℕ). x ∷ ys) (before_space xs r free.1)

after_space : (w r : List ℕ) → IsFree 32 w → after (w ++ (32 ∷ r)) ≡ r
after_space [] r free = refl
after_space (x ∷ xs) r free =
    ap (λ (b : Bool). cond b (xs ++ (32 ∷ r)) (after (xs ++ (32 ∷ r)))) (no_space x free.0) ∙ after_space xs r free.1

number_back : (n : ℕ) → n < 2 ^ 64 → number_in (decimal n) ≡ n
number_back n low = ap (digits_value 10) (before_alone (decimal n) (decimal_is_free n low)) ∙ (decimal_is_IsNumeral n low).1

line_back : (n : ℕ) → IsLine n → number_in (decimal n) ≡ n
line_back n line = number_back n (line_fits n line)

first_back : (n : ℕ) (r : List ℕ) → IsLine n → number_in (decimal n ++ (32 ∷ r)) ≡ n
first_back n r line =
    ap (digits_value 10) (before_space (decimal n) r (decimal_is_free n (line_fits n line))) ∙ (decimal_is_IsNumeral n (line_fits n line)).1

bytes_back : (n : ℕ) (bytes : List ℕ) → IsLine n → IsPiece bytes → bytes_in (decimal n ++ (32 ∷ encode_lower bytes)) ≡ bytes
bytes_back n bytes line piece =
    ap (λ (r : List ℕ). ok_bytes (decode_of r)) (after_space (decimal n) (encode_lower bytes) (decimal_is_free n (line_fits n line)))
    ∙ ap ok_bytes (decode_of-encode_lower bytes piece.each)

-- a command is read back
pub read_back : (c : Command) → IsInForm c → read_text (text_of c) ≡ c
read_back (On worker) form = ap On (number_back worker (worker_fits worker form))
read_back (At moment) form = ap At (number_back moment form)
read_back (Open line) form = ap Open (line_back line form)
read_back (Bytes line bytes) form =
    ap (λ (n : ℕ). Bytes n (bytes_in (decimal line ++ (32 ∷ encode_lower bytes)))) (first_back line (encode_lower bytes) form.0)
    ∙ ap (Bytes line) (bytes_back line bytes form.0 form.1)
read_back (End line) form = ap End (line_back line form)
read_back (Gone line) form = ap Gone (line_back line form)
read_back (Joined line) form = ap Joined (line_back line form)
read_back (Refused line) form = ap Refused (line_back line form)
read_back (UpBytes line bytes) form =
    ap (λ (n : ℕ). UpBytes n (bytes_in (decimal line ++ (32 ∷ encode_lower bytes)))) (first_back line (encode_lower bytes) form.0)
    ∙ ap (UpBytes line) (bytes_back line bytes form.0 form.1)
read_back (UpEnd line) form = ap UpEnd (line_back line form)
read_back (UpGone line) form = ap UpGone (line_back line form)
read_back Clock form = refl
read_back Stop form = refl

-- a text is that of one command
pub text_alone : (c d : Command) → IsInForm c → IsInForm d → text_of c ≡ text_of d → c ≡ d
text_alone c d f g e = sym (read_back c f) ∙ ap read_text e ∙ read_back d g
