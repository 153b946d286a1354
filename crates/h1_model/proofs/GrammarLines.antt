-- The lines of a head that `httparse` reads.
use Rattle.std.proofs.Common.{◌≡◌, ℕ, suc, ◌+◌, ◌-◌, ◌<◌, ◌≤◌, Bool, true, false, not, eqb, IsTrue, List, [], ◌∷◌, ◌++◌, map, length, take, drop, Option, None, Some, refl, sym, ap, ◌∙◌, inl, inr, arith}
use Rattle.std.proofs.lemmas.Bool.{cond-true, cond-false, ne_eqb, and_from, and_parts, not-true, ltb-false, false≢true, cases_Bool}
use Rattle.std.proofs.lemmas.List.{append_assoc, append-nil, length-append, length-take-le, take-append-drop, nil_from_length}
use Rattle.std.proofs.lemmas.List.Elements.{All-head, All-tail}
use Rattle.std.proofs.lemmas.List.Folds.{list_all-append}
use Rattle.std.proofs.Math.Seq.{take-append-add}
use Rattle.std.specs.Prelude.{All, nat_lt}
use Rattle.std.specs.Char.{is_ascii_digit}
use Rattle.std.specs.List.{list_all, flat_map}
use Rattle.httparse.specs.Grammar.{is_token_byte, is_uri_byte, is_value_byte, AllPass, LineEnd, crlf, lf, print_end, print_blank, print_version, Field, IsField, print_field, print_section, print_reason, reason_phrase, RequestHead, IsRequestHead, print_request, ReadsRequest, ResponseHead, IsResponseHead, print_response, ReadsResponse}
use Rattle.httparse.proofs.GrammarLemmas.{print_request-append, print_response-append}
use Rattle.h1_model.specs.Lines.{whole_lines, is_empty_line, empty_len, empty_line_bytes, section_of, whole, too_large, cut_at, cut_lines, cut_of, window_cut, head_cut}

-- a byte that does not end a line
abbrev pub is_inside : ℕ → Bool
is_inside b = not (eqb b 10)

-- no byte of the text ends a line
abbrev pub IsOneLine : List ℕ → Type 0
IsOneLine line = list_all is_inside line ≡ true

pub IsOneLine-append : (a b : List ℕ) → IsOneLine a → IsOneLine b → IsOneLine (a ++ b)
IsOneLine-append a b h g = list_all-append is_inside a b ∙ and_from _ _ h g

pub IsOneLine_from_pass : (test : ℕ → Bool) → ((b : ℕ) → test b ≡ true → is_inside b ≡ true) → (line : List ℕ) → AllPass test line
    → IsOneLine line
IsOneLine_from_pass test inside [] all = refl
IsOneLine_from_pass test inside (b ∷ line) all =
    and_from _ _ (inside b (All-head (λ x. IsTrue (test x)) b line all))
    (IsOneLine_from_pass test inside line (All-tail (λ x. IsTrue (test x)) b line all))

-- a test that fails at LF passes only bytes inside a line
inside_of : (test : ℕ → Bool) → test 10 ≡ false → (b : ℕ) → test b ≡ true → is_inside b ≡ true
inside_of test fails b pass =
    let other : eqb b 10 ≡ false = ne_eqb b 10 (λ e. false≢true (sym fails ∙ ap test (sym e) ∙ pass)) in
    ap not other

pub token_line : (line : List ℕ) → AllPass is_token_byte line → IsOneLine line
unfolding is_token_byte
token_line line all = IsOneLine_from_pass is_token_byte (inside_of is_token_byte refl) line all

pub uri_line : (line : List ℕ) → AllPass is_uri_byte line → IsOneLine line
uri_line line all = IsOneLine_from_pass is_uri_byte (inside_of is_uri_byte refl) line all

pub value_line : (line : List ℕ) → AllPass is_value_byte line → IsOneLine line
value_line line all = IsOneLine_from_pass is_value_byte (inside_of is_value_byte refl) line all

pub digit_line : (line : List ℕ) → AllPass is_ascii_digit line → IsOneLine line
digit_line line all = IsOneLine_from_pass is_ascii_digit (inside_of is_ascii_digit refl) line all

-- ---- a line and its end

pub whole_lines-feed_next : (line more : List ℕ) → IsOneLine line → whole_lines (line ++ 10 ∷ more) ≡ (line ++ 10 ∷ []) ∷ whole_lines more
whole_lines-feed_next [] more one = refl
whole_lines-feed_next (b ∷ line) more one =
    let parts = and_parts _ _ one in
    let other : eqb b 10 ≡ false = not-true _ parts.0 in
    let later = whole_lines-feed_next line more parts.1 in
    rw (other, later)

pub whole_lines-end : (line : List ℕ) (end : LineEnd) (more : List ℕ) → IsOneLine line
    → whole_lines (line ++ (print_end end ++ more)) ≡ (line ++ print_end end) ∷ whole_lines more
whole_lines-end line crlf more one =
    let with_cr : IsOneLine (line ++ 13 ∷ []) = IsOneLine-append line (13 ∷ []) one refl in
    let e : line ++ (13 ∷ 10 ∷ more) ≡ (line ++ 13 ∷ []) ++ 10 ∷ more = sym (append_assoc line (13 ∷ []) (10 ∷ more)) in
    ap whole_lines e ∙ whole_lines-feed_next (line ++ 13 ∷ []) more with_cr
    ∙ ap (λ l. l ∷ whole_lines more) (append_assoc line (13 ∷ []) (10 ∷ []))
whole_lines-end line lf more one = whole_lines-feed_next line more one

-- ---- fields

pub field_name_line : (f : Field) → IsField f → IsOneLine (f.name ++ 58 ∷ f.raw)
field_name_line f is =
    IsOneLine-append f.name (58 ∷ f.raw) (token_line f.name is.name.1)
    (IsOneLine-append (58 ∷ []) f.raw refl (value_line f.raw is.raw))

pub whole_lines-field : (f : Field) (more : List ℕ) → IsField f → whole_lines (print_field f ++ more) ≡ print_field f ∷ whole_lines more
whole_lines-field f more is =
    let line = f.name ++ 58 ∷ f.raw in
    ap whole_lines (append_assoc line (print_end f.end) more) ∙ whole_lines-end line f.end more (field_name_line f is)

-- a line that begins with a byte other than CR and LF is not empty
pub filled_line : (b : ℕ) (line : List ℕ) → eqb b 10 ≡ false → eqb b 13 ≡ false → is_empty_line (b ∷ line) ≡ false
filled_line b line no_lf no_cr = rw (no_lf, no_cr)

pub token_first : (name rest : List ℕ) → 0 < length name → AllPass is_token_byte name → is_empty_line (name ++ rest) ≡ false
unfolding is_token_byte
token_first [] rest some all = absurd (omega arith)
token_first (b ∷ name) rest some all =
    let pass : is_token_byte b ≡ true = All-head (λ x. IsTrue (is_token_byte x)) b name all in
    filled_line b (name ++ rest)
    (ne_eqb b 10 (λ e. false≢true (ap is_token_byte (sym e) ∙ pass)))
    (ne_eqb b 13 (λ e. false≢true (ap is_token_byte (sym e) ∙ pass)))

pub print_field-filled : (f : Field) → IsField f → is_empty_line (print_field f) ≡ false
print_field-filled f is =
    ap is_empty_line (append_assoc f.name (58 ∷ f.raw) (print_end f.end))
    ∙ token_first f.name ((58 ∷ f.raw) ++ print_end f.end) is.name.0 is.name.1

pub print_end-empty : (end : LineEnd) → is_empty_line (print_end end) ≡ true
print_end-empty crlf = refl
print_end-empty lf = refl

-- ---- a section

pub whole_lines-section : (fields : List Field) (last : LineEnd) (more : List ℕ) → All IsField fields
    → whole_lines (print_section fields last ++ more) ≡ map print_field fields ++ print_end last ∷ whole_lines more
whole_lines-section [] last more all = whole_lines-end [] last more refl
whole_lines-section (f ∷ fields) last more all =
    let is = All-head IsField f fields all in
    let rest = print_section fields last ++ more in
    let lines = flat_map print_field fields in
    let e : print_section (f ∷ fields) last ++ more ≡ print_field f ++ rest =
    append_assoc (print_field f ++ lines) (print_end last) more ∙ append_assoc (print_field f) lines (print_end last ++ more)
    ∙ ap (λ t. print_field f ++ t) (sym (append_assoc lines (print_end last) more)) in
    ap whole_lines e ∙ whole_lines-field f rest is
    ∙ ap (λ ls. print_field f ∷ ls) (whole_lines-section fields last more (All-tail IsField f fields all))

pub section_of-section : (fields : List Field) (last : LineEnd) (more : List (List ℕ)) → All IsField fields
    → section_of (map print_field fields ++ print_end last ∷ more) ≡ Some (length fields, length (print_section fields last))
section_of-section [] last more all =
    rw print_end-empty
section_of-section (f ∷ fields) last more all =
    let is = All-head IsField f fields all in
    let later = section_of-section fields last more (All-tail IsField f fields all) in
    let filled = print_field-filled f is in
    let count : length fields + 1 ≡ suc (length fields) = omega arith in
    let e : print_section (f ∷ fields) last ≡ print_field f ++ print_section fields last = append_assoc (print_field f) _ _ in
    let len : length (print_field f) + length (print_section fields last) ≡ length (print_section (f ∷ fields) last) =
    sym (ap length e ∙ length-append (print_field f) (print_section fields last)) in
    rw (filled, later, count, len)

-- ---- a head

-- the empty lines in front of a head, its first line without its end, and the rest of it
pub record Parts : Type 0 where
  pub blank : List LineEnd
  pub words : List ℕ
  pub line_end : LineEnd
  pub fields : List Field
  pub last : LineEnd

pub record AreParts (p : Parts) : Type 0 where
  pub words : IsOneLine p.words
  pub fields : All IsField p.fields

-- these are the parts of what is printed
abbrev pub Prints : List ℕ → Parts → Type 0
Prints text p =
    (more : List ℕ) → text ++ more ≡ print_blank p.blank ++ (p.words ++ (print_end p.line_end ++ (print_section p.fields p.last ++ more)))

-- the first line
abbrev pub first_line : Parts → List ℕ
first_line p = p.words ++ print_end p.line_end

-- a head without empty lines in front is its first line and its section
pub printed_lines : (text : List ℕ) (p : Parts) (more : List ℕ) → Prints text p → p.blank ≡ []
    → text ++ more ≡ p.words ++ (print_end p.line_end ++ (print_section p.fields p.last ++ more))
printed_lines text p more prints none =
    prints more ∙ ap (λ b. print_blank b ++ (p.words ++ (print_end p.line_end ++ (print_section p.fields p.last ++ more)))) none

pub whole_lines-head : (text : List ℕ) (p : Parts) (more : List ℕ) → Prints text p → AreParts p → p.blank ≡ []
    → whole_lines (text ++ more) ≡ first_line p ∷ (map print_field p.fields ++ print_end p.last ∷ whole_lines more)
whole_lines-head text p more prints are none =
    ap whole_lines (printed_lines text p more prints none)
    ∙ whole_lines-end p.words p.line_end (print_section p.fields p.last ++ more) are.words
    ∙ ap (λ ls. first_line p ∷ ls) (whole_lines-section p.fields p.last more are.fields)

pub length-head : (text : List ℕ) (p : Parts) → Prints text p → p.blank ≡ []
    → length text ≡ length (first_line p) + length (print_section p.fields p.last)
length-head text p prints none =
    let e : text ≡ first_line p ++ print_section p.fields p.last =
    sym (append-nil text) ∙ printed_lines text p [] prints none
    ∙ ap (λ t. p.words ++ (print_end p.line_end ++ t)) (append-nil (print_section p.fields p.last))
    ∙ sym (append_assoc p.words (print_end p.line_end) (print_section p.fields p.last)) in
    ap length e ∙ length-append (first_line p) (print_section p.fields p.last)

-- the cut of a text that begins with a head
pub window_cut-head : (text : List ℕ) (p : Parts) (more : List ℕ) → Prints text p → AreParts p → p.blank ≡ []
    → window_cut (text ++ more) ≡ cut_at (length (first_line p)) (length p.fields, length (print_section p.fields p.last))
window_cut-head text p more prints are none =
    let n = length (text ++ more) in
    let first = first_line p in
    let after = map print_field p.fields ++ print_end p.last ∷ whole_lines more in
    ap (cut_of n) (whole_lines-head text p more prints are none)
    ∙ ap (cut_lines n (length first) (length after)) (section_of-section p.fields p.last (whole_lines more) are.fields)

-- where so many lines make a whole head, they are at most a hundred, and it ends with them
pub cut_at-whole : (first lines bytes len : ℕ) → cut_at first (lines, bytes) ≡ whole len → (lines ≤ 100) × (first + bytes ≡ len)
cut_at-whole first lines bytes len e =
    elim (cases_Bool (nat_lt 100 lines)) [
      | inl many ↦ absurd (too (sym (cond-true (nat_lt 100 lines) too_large (whole (first + bytes)) many) ∙ e))
      | inr few ↦ (ltb-false 100 lines few, inside (sym (cond-false (nat_lt 100 lines) too_large (whole (first + bytes)) few) ∙ e))
    ]
  where
    too : too_large ≡ whole len → ⊥
    too x = cc

    inside : whole (first + bytes) ≡ whole len → first + bytes ≡ len
    inside x = cc

-- a text with no empty line in front begins with no line end
pub filled_front : (e : LineEnd) (more : List ℕ) → empty_len (whole_lines (print_end e ++ more)) ≡ 0 → ⊥
filled_front crlf more none = omega (arith, none)
filled_front lf more none = omega (arith, none)

pub no_blank : (blank : List LineEnd) (more : List ℕ) → empty_len (whole_lines (print_blank blank ++ more)) ≡ 0 → blank ≡ []
no_blank [] more none = refl
no_blank (e ∷ blank) more none =
    absurd (filled_front e (print_blank blank ++ more)
    (ap (λ t. empty_len (whole_lines t)) (sym (append_assoc (print_end e) (print_blank blank) more)) ∙ none))

take_past : (n : ℕ) (xs ys : List ℕ) → length xs ≤ n → take n (xs ++ ys) ≡ xs ++ take (n - length xs) ys
take_past n xs ys short =
    let e : n ≡ length xs + (n - length xs) = omega arith in
    ap (λ k. take k (xs ++ ys)) e ∙ take-append-add xs ys (n - length xs)

-- A head that is read in the text of a whole head is all of it, and has at most a hundred fields.
pub fills : (rest : List ℕ) (len : ℕ) (text : List ℕ) (p : Parts) (r : List ℕ) → head_cut rest ≡ whole len → len ≤ 65536
    → len ≤ length rest → empty_line_bytes rest ≡ 0 → Prints text p → AreParts p → take len rest ≡ text ++ r
    → (r ≡ []) × (length p.fields ≤ 100)
fills rest len text p r cut limit fits none prints are reads =
    let front = take len rest in
    let behind = drop len rest in
    let split : rest ≡ text ++ (r ++ behind) =
    sym (take-append-drop len rest) ∙ ap (λ t. t ++ behind) reads ∙ append_assoc text r behind in
    let blank : p.blank ≡ [] =
    no_blank p.blank _ (ap (λ t. empty_len (whole_lines t)) (sym (split ∙ prints (r ++ behind))) ∙ none) in
    let front_len : length front ≡ len = length-take-le len rest fits in
    let whole_len : length front ≡ length text + length r = ap length reads ∙ length-append text r in
    let short : length (text ++ r) ≤ 65536 = omega (arith, length-append text r) in
    let joined : rest ≡ (text ++ r) ++ behind = split ∙ sym (append_assoc text r behind) in
    let more = take (65536 - length (text ++ r)) behind in
    let window : take 65536 rest ≡ text ++ (r ++ more) =
    ap (take 65536) joined ∙ take_past 65536 (text ++ r) behind short
    ∙ append_assoc text r more in
    let ends = cut_at-whole (length (first_line p)) (length p.fields) (length (print_section p.fields p.last)) len
    (sym (ap window_cut window ∙ window_cut-head text p (r ++ more) prints are blank) ∙ cut) in
    (nil_from_length r (omega (arith, length-head text p prints blank, ends.1)), ends.0)

-- ---- a request head

version_line : (minor : ℕ) → minor ≤ 1 → IsOneLine (print_version minor)
version_line minor low =
    let digit : eqb (48 + minor) 10 ≡ false = ne_eqb (48 + minor) 10 (λ e. omega (arith, low)) in
    rw digit

-- the request line without its end
abbrev pub request_words : RequestHead → List ℕ
request_words h = h.method ++ 32 ∷ (h.target ++ 32 ∷ print_version h.minor)

abbrev pub request_parts : RequestHead → Parts
request_parts h = record { blank = h.blank; words = request_words h; line_end = h.line_end; fields = h.fields; last = h.last }

pub request_words-line : (h : RequestHead) → IsRequestHead h → IsOneLine (request_words h)
request_words-line h is =
    IsOneLine-append h.method (32 ∷ (h.target ++ 32 ∷ print_version h.minor)) (token_line h.method is.method.1)
    (IsOneLine-append (32 ∷ h.target) (32 ∷ print_version h.minor)
    (IsOneLine-append (32 ∷ []) h.target refl (uri_line h.target is.target.1))
    (IsOneLine-append (32 ∷ []) (print_version h.minor) refl (version_line h.minor is.minor)))

pub request_prints : (h : RequestHead) → Prints (print_request h) (request_parts h)
request_prints h more =
    print_request-append h more
    ∙ ap (λ t. print_blank h.blank ++ t)
    (regroup h.method h.target (print_version h.minor) (print_end h.line_end ++ (print_section h.fields h.last ++ more)))
  where
    regroup : (a b c d : List ℕ) → a ++ 32 ∷ (b ++ 32 ∷ (c ++ d)) ≡ (a ++ 32 ∷ (b ++ 32 ∷ c)) ++ d
    regroup a b c d =
        sym (append_assoc a (32 ∷ (b ++ 32 ∷ c)) d ∙ ap (λ t. a ++ 32 ∷ t) (append_assoc b (32 ∷ c) d))

pub head_fills : (rest : List ℕ) (len : ℕ) (h : RequestHead) (r : List ℕ) → head_cut rest ≡ whole len → len ≤ 65536
    → len ≤ length rest → empty_line_bytes rest ≡ 0 → ReadsRequest (take len rest) h r → (r ≡ []) × (length h.fields ≤ 100)
head_fills rest len h r cut limit fits none reads =
    fills rest len (print_request h) (request_parts h) r cut limit fits none (request_prints h)
    (record { words = request_words-line h reads.0; fields = reads.0.fields }) reads.1

-- ---- a response head

-- the status line without its end
abbrev pub response_words : ResponseHead → List ℕ
response_words h = print_version h.minor ++ 32 ∷ (h.digits ++ print_reason h.reason)

abbrev pub response_parts : ResponseHead → Parts
response_parts h = record { blank = h.blank; words = response_words h; line_end = h.line_end; fields = h.fields; last = h.last }

reason_line : (o : Option (List ℕ)) → AllPass is_value_byte (reason_phrase o) → IsOneLine (print_reason o)
reason_line None all = refl
reason_line (Some phrase) all = IsOneLine-append (32 ∷ []) phrase refl (value_line phrase all)

pub response_words-line : (h : ResponseHead) → IsResponseHead h → IsOneLine (response_words h)
response_words-line h is =
    IsOneLine-append (print_version h.minor) (32 ∷ (h.digits ++ print_reason h.reason)) (version_line h.minor is.minor)
    (IsOneLine-append (32 ∷ h.digits) (print_reason h.reason)
    (IsOneLine-append (32 ∷ []) h.digits refl (digit_line h.digits is.digits.1)) (reason_line h.reason is.reason))

pub response_prints : (h : ResponseHead) → Prints (print_response h) (response_parts h)
response_prints h more =
    print_response-append h more
    ∙ ap (λ t. print_blank h.blank ++ t)
    (regroup (print_version h.minor) h.digits (print_reason h.reason) (print_end h.line_end ++ (print_section h.fields h.last ++ more)))
  where
    regroup : (a b c d : List ℕ) → a ++ 32 ∷ (b ++ (c ++ d)) ≡ (a ++ 32 ∷ (b ++ c)) ++ d
    regroup a b c d =
        sym (append_assoc a (32 ∷ (b ++ c)) d ∙ ap (λ t. a ++ 32 ∷ t) (append_assoc b c d))

pub response_fills : (rest : List ℕ) (len : ℕ) (h : ResponseHead) (r : List ℕ) → head_cut rest ≡ whole len → len ≤ 65536
    → len ≤ length rest → empty_line_bytes rest ≡ 0 → ReadsResponse (take len rest) h r → (r ≡ []) × (length h.fields ≤ 100)
response_fills rest len h r cut limit fits none reads =
    fills rest len (print_response h) (response_parts h) r cut limit fits none (response_prints h)
    (record { words = response_words-line h reads.0; fields = reads.0.fields }) reads.1
