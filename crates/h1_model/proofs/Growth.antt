-- What a text's lines and its cut are when more bytes come.
use Rattle.std.proofs.Common.{◌≡◌, ℕ, suc, ◌+◌, ◌-◌, ◌<◌, ◌≤◌, Bool, true, false, cond, eqb, ◌&&◌, ◌||◌, List, [], ◌∷◌, ◌++◌, length, take, drop, Option, None, Some, option_map, refl, sym, ap, ◌∙◌, inl, inr, arith}
use Rattle.std.proofs.lemmas.Bool.{cond-true, cases_lt, lt-leb, lt-ltb, ltb-true, or_right}
use Rattle.std.proofs.lemmas.List.{length-append, length-take, take_all, take-append-le, drop-append-le, length-drop, drop-drop}
use Rattle.std.proofs.Math.Seq.{take-append-add}
use Rattle.std.specs.Prelude.{nat_lt, nat_le}
use Rattle.h1_model.specs.Lines.{with_first, whole_lines, is_empty_line, empty_len, empty_line_bytes, after_empty_lines, section_of, Cut, whole, too_large, unfinished, cut_at, cut_open, cut_lines, cut_of, window_cut, head_cut}
use Rattle.h1_model.proofs.LineLemmas.{empty_len-empty, empty_len-other, whole_lines-behind}

-- ---- lines

-- the lines of a longer text begin with those of the shorter
pub record LinesGrow (text more : List ℕ) : Type 0 where
  pub others : List (List ℕ)
  pub are : whole_lines (text ++ more) ≡ whole_lines text ++ others

lines_grow_at : (b : ℕ) (text more : List ℕ) (others : List (List ℕ)) (t : Bool) → eqb b 10 ≡ t
    → whole_lines (text ++ more) ≡ whole_lines text ++ others → LinesGrow (b ∷ text) more
lines_grow_at b text more others true feed are =
    record { others = others; are = rw (feed, are) }
lines_grow_at b text more others false inside are = by_lines (whole_lines text) are refl
  where
    by_lines : (ls : List (List ℕ)) → whole_lines (text ++ more) ≡ ls ++ others → whole_lines text ≡ ls → LinesGrow (b ∷ text) more
    by_lines [] same is = record { others = with_first b others; are = rw (inside, same, is) }
    by_lines (l ∷ ls) same is = record { others = others; are = rw (inside, same, is) }

pub lines_grow : (text more : List ℕ) → LinesGrow text more
lines_grow [] more = record { others = whole_lines more; are = refl }
lines_grow (b ∷ text) more =
    let later = lines_grow text more in lines_grow_at b text more later.others (eqb b 10) refl later.are

-- where no line is whole, the first line to come is longer than the text
pub first_grows : (text more line : List ℕ) (lines : List (List ℕ)) → whole_lines text ≡ []
    → whole_lines (text ++ more) ≡ line ∷ lines → length text ≤ length line
first_grows [] more line lines none are = omega arith
first_grows (b ∷ text) more line lines none are = by_test (eqb b 10) refl (first_grows text more)
  where
    by_lines : (ls : List (List ℕ)) → whole_lines (text ++ more) ≡ ls → whole_lines text ≡ [] → with_first b ls ≡ line ∷ lines
        → ((l : List ℕ) (ls : List (List ℕ)) → whole_lines text ≡ [] → whole_lines (text ++ more) ≡ l ∷ ls → length text ≤ length l)
        → suc (length text) ≤ length line
    by_lines [] is empty same later = absurd (nothing same)
      where
        nothing : ◌≡◌ {A = List (List ℕ)} [] (line ∷ lines) → ⊥
        nothing x = cc
    by_lines (l ∷ ls) is empty same later =
        let line_is : b ∷ l ≡ line = cc in
        omega (arith, later l ls empty is, ap length line_is)

    empty_of : (ls : List (List ℕ)) → with_first b ls ≡ [] → ls ≡ []
    empty_of [] e = refl
    empty_of (l ∷ ls) e = absurd (cc)

    by_test : (t : Bool) → eqb b 10 ≡ t
        → ((l : List ℕ) (ls : List (List ℕ)) → whole_lines text ≡ [] → whole_lines (text ++ more) ≡ l ∷ ls → length text ≤ length l)
        → suc (length text) ≤ length line
    by_test true feed later =
        let e : (b ∷ []) ∷ whole_lines text ≡ [] = rw feed at none in absurd (cc)
    by_test false inside later =
        let empty : with_first b (whole_lines text) ≡ [] = rw inside at none in
        let same : with_first b (whole_lines (text ++ more)) ≡ line ∷ lines = rw inside at are in
        by_lines (whole_lines (text ++ more)) refl (empty_of (whole_lines text) empty) same later

-- an empty line has at most two bytes
pub empty_line_short : (line : List ℕ) → 2 < length line → is_empty_line line ≡ false
empty_line_short [] long = absurd (omega arith)
empty_line_short (a ∷ []) long = absurd (omega arith)
empty_line_short (a ∷ b ∷ []) long = absurd (omega arith)
empty_line_short (a ∷ b ∷ c ∷ line) long = tests (eqb a 10) (eqb a 13) (eqb b 10)
  where
    tests : (x y z : Bool) → ((x && false) || (y && (z && false))) ≡ false
    tests true true true = refl
    tests true true false = refl
    tests true false z = refl
    tests false true true = refl
    tests false true false = refl
    tests false false z = refl

-- ---- sections

pub section_of-append : (lines more : List (List ℕ)) (s : ℕ × ℕ) → section_of lines ≡ Some s → section_of (lines ++ more) ≡ Some s
section_of-append [] more s e = absurd (cc)
section_of-append (l ∷ lines) more s e = by_test (is_empty_line l) refl (section_of-append lines more)
  where
    by_section : (o : Option (ℕ × ℕ)) → section_of lines ≡ o
        → option_map {U = ℕ × ℕ} (λ (s : ℕ × ℕ). (s.0 + 1, length l + s.1)) o ≡ Some s
        → ((s : ℕ × ℕ) → section_of lines ≡ Some s → section_of (lines ++ more) ≡ Some s)
        → option_map {U = ℕ × ℕ} (λ (s : ℕ × ℕ). (s.0 + 1, length l + s.1)) (section_of (lines ++ more)) ≡ Some s
    by_section None is same later = absurd (cc)
    by_section (Some r) is same later = rw (later r is) same

    by_test : (t : Bool) → is_empty_line l ≡ t → ((s : ℕ × ℕ) → section_of lines ≡ Some s → section_of (lines ++ more) ≡ Some s)
        → section_of ((l ∷ lines) ++ more) ≡ Some s
    by_test true empty later = rw empty (rw empty at e)
    by_test false filled later = rw filled (by_section (section_of lines) refl (rw filled at e) later)

-- where no line is empty, a section that comes has all of them
pub record ManyOrNone (n : ℕ) (o : Option (ℕ × ℕ)) : Type 0 where
  pub many : (s : ℕ × ℕ) → o ≡ Some s → n ≤ s.0

pub section_of-longer : (lines more : List (List ℕ)) → section_of lines ≡ None → ManyOrNone (length lines) (section_of (lines ++ more))
section_of-longer [] more e = record { many = λ s is. omega arith }
section_of-longer (l ∷ lines) more e = by_test (is_empty_line l) refl (section_of-longer lines more)
  where
    none_of : (o : Option (ℕ × ℕ)) → option_map {U = ℕ × ℕ} (λ (s : ℕ × ℕ). (s.0 + 1, length l + s.1)) o ≡ None → o ≡ None
    none_of None is = refl
    none_of (Some s) is = absurd (cc)

    by_section : (o : Option (ℕ × ℕ)) → ManyOrNone (length lines) o
        → ManyOrNone (suc (length lines)) (option_map {U = ℕ × ℕ} (λ (s : ℕ × ℕ). (s.0 + 1, length l + s.1)) o)
    by_section None later = record { many = λ s is. absurd (cc) }
    by_section (Some r) later =
        record { many = λ s is. (let same : r.0 + 1 ≡ s.0 = ap (λ (p : Option (ℕ × ℕ)). elim p [ None ↦ 0 | Some q ↦ q.0 ]) is in omega (arith, later.many r refl, same)) }

    by_test : (t : Bool) → is_empty_line l ≡ t → (section_of lines ≡ None → ManyOrNone (length lines) (section_of (lines ++ more)))
        → ManyOrNone (suc (length lines)) (section_of ((l ∷ lines) ++ more))
    by_test true empty later = let x : ◌≡◌ {A = Option (ℕ × ℕ)} (Some (0, length l)) None = rw empty at e in absurd (cc)
    by_test false filled later =
        rw filled (by_section (section_of (lines ++ more)) (later (none_of (section_of lines) (rw filled at e))))

-- ---- cuts

-- a cut says something
abbrev pub IsDone : Cut → Type 0
IsDone c = c ≡ unfinished → ⊥

cut_open-many : (bytes lines : ℕ) → 100 < lines → cut_open bytes lines ≡ too_large
cut_open-many bytes lines many = cond-true _ _ _ (or_right (nat_le 65536 bytes) (nat_lt 100 lines) (lt-ltb 100 lines many))

cut_open-done : (bytes lines : ℕ) → bytes < 65536 → IsDone (cut_open bytes lines) → 100 < lines
cut_open-done bytes lines short done = by_test (nat_lt 100 lines) refl
  where
    by_test : (t : Bool) → nat_lt 100 lines ≡ t → 100 < lines
    by_test true many = ltb-true 100 lines many
    by_test false few = absurd (done (rw (lt-leb 65536 bytes short, few)))

cut_at-many : (first : ℕ) (s : ℕ × ℕ) → 100 < s.0 → cut_at first s ≡ too_large
cut_at-many first s many = cond-true _ _ _ (lt-ltb 100 s.0 many)

-- a text of less than 65,536 bytes whose head has come or grown too large: more bytes change nothing
cut_grows : (n k first : ℕ) (after others : List (List ℕ)) (o : Option (ℕ × ℕ)) → section_of after ≡ o → n < 65536
    → IsDone (cut_lines n first (length after) o)
    → cut_lines k first (length (after ++ others)) (section_of (after ++ others)) ≡ cut_lines n first (length after) o
cut_grows n k first after others (Some s) e short done =
    ap (cut_lines k first (length (after ++ others))) (section_of-append after others s e)
cut_grows n k first after others None e short done =
    let many = cut_open-done n (length after) short done in
    let longer = section_of-longer after others e in
    by_section (section_of (after ++ others)) refl longer many ∙ sym (cut_open-many n (length after) many)
  where
    by_section : (o : Option (ℕ × ℕ)) → section_of (after ++ others) ≡ o → ManyOrNone (length after) (section_of (after ++ others))
        → 100 < length after
        → cut_lines k first (length (after ++ others)) (section_of (after ++ others)) ≡ too_large
    by_section None is longer many =
        ap (cut_lines k first (length (after ++ others))) is
        ∙ cut_open-many k (length (after ++ others)) (omega (arith, length-append after others))
    by_section (Some s) is longer many =
        ap (cut_lines k first (length (after ++ others))) is ∙ cut_at-many first s (omega (arith, longer.many s is))

window_grows : (w more : List ℕ) → length w < 65536 → IsDone (window_cut w) → window_cut (w ++ more) ≡ window_cut w
window_grows w more short done = by_lines (whole_lines w) refl
  where
    by_lines : (ls : List (List ℕ)) → whole_lines w ≡ ls → window_cut (w ++ more) ≡ window_cut w
    by_lines [] is =
        let open_is : window_cut w ≡ cut_open (length w) 0 = ap (cut_of (length w)) is in
        let many : 100 < 0 = cut_open-done (length w) 0 short (λ e. done (open_is ∙ e)) in
        absurd (omega arith)
    by_lines (first ∷ after) is =
        let grown = lines_grow w more in
        let n = length w in
        let k = length (w ++ more) in
        let before : window_cut w ≡ cut_of n (first ∷ after) = ap (cut_of n) is in
        ap (cut_of k) (grown.are ∙ ap (λ ls. ls ++ grown.others) is)
        ∙ cut_grows n k (length first) after grown.others (section_of after) refl short (λ e. done (before ∙ e))
        ∙ sym before

pub head_cut-append : (text more : List ℕ) → IsDone (head_cut text) → head_cut (text ++ more) ≡ head_cut text
head_cut-append text more done =
    elim (cases_lt (length text) 65536) [
      | inl short ↦
          let all : take 65536 text ≡ text = take_all 65536 text (omega arith) in
          let e : 65536 ≡ length text + (65536 - length text) = omega arith in
          let longer : take 65536 (text ++ more) ≡ text ++ take (65536 - length text) more =
          ap (λ n. take n (text ++ more)) e ∙ take-append-add text more (65536 - length text) in
          let done_here : IsDone (window_cut text) = λ u. done (ap window_cut all ∙ u) in
          ap window_cut longer ∙ window_grows text (take (65536 - length text) more) short done_here ∙ ap window_cut (sym all)
      | inr long ↦ ap window_cut (take-append-le 65536 text more long)
    ]

-- ---- what fits

pub line_fits : (text line : List ℕ) (lines : List (List ℕ)) → whole_lines text ≡ line ∷ lines → length line ≤ length text
line_fits [] line lines e = absurd (cc)
line_fits (b ∷ text) line lines e = by_test (eqb b 10) refl (line_fits text)
  where
    by_lines : (ls : List (List ℕ)) → whole_lines text ≡ ls → with_first b ls ≡ line ∷ lines
        → ((l : List ℕ) (ls : List (List ℕ)) → whole_lines text ≡ l ∷ ls → length l ≤ length text) → length line ≤ suc (length text)
    by_lines [] is same later = absurd (nothing same)
      where
        nothing : ◌≡◌ {A = List (List ℕ)} [] (line ∷ lines) → ⊥
        nothing x = cc
    by_lines (l ∷ ls) is same later =
        let line_is : b ∷ l ≡ line = cc in
        omega (arith, later l ls is, ap length line_is)

    by_test : (t : Bool) → eqb b 10 ≡ t
        → ((l : List ℕ) (ls : List (List ℕ)) → whole_lines text ≡ l ∷ ls → length l ≤ length text) → length line ≤ suc (length text)
    by_test true feed later =
        let same : (b ∷ []) ∷ whole_lines text ≡ line ∷ lines = rw feed at e in
        let line_is : b ∷ [] ≡ line = cc in
        omega (arith, ap length line_is)
    by_test false inside later =
        let same : with_first b (whole_lines text) ≡ line ∷ lines = rw inside at e in
        by_lines (whole_lines text) refl same later

pub empty_len_fits : (lines : List (List ℕ)) (text : List ℕ) → whole_lines text ≡ lines → empty_len lines ≤ length text
empty_len_fits [] text are = omega arith
empty_len_fits (line ∷ lines) text are =
    by_test (is_empty_line line) refl (empty_len_fits lines (drop (length line) text) (whole_lines-behind text line lines are))
  where
    by_test : (t : Bool) → is_empty_line line ≡ t → empty_len lines ≤ length (drop (length line) text)
        → empty_len (line ∷ lines) ≤ length text
    by_test true empty later =
        omega (arith, later, empty_len-empty line lines empty, length-drop (length line) text, line_fits text line lines are)
    by_test false filled later = omega (arith, empty_len-other line lines filled)

pub section_fits : (lines : List (List ℕ)) (text : List ℕ) (s : ℕ × ℕ) → whole_lines text ≡ lines → section_of lines ≡ Some s
    → s.1 ≤ length text
section_fits [] text s are e = absurd (cc)
section_fits (line ∷ lines) text s are e =
    by_test (is_empty_line line) refl (λ r is. section_fits lines (drop (length line) text) r (whole_lines-behind text line lines are) is)
  where
    by_section : (o : Option (ℕ × ℕ)) → section_of lines ≡ o
        → option_map {U = ℕ × ℕ} (λ (s : ℕ × ℕ). (s.0 + 1, length line + s.1)) o ≡ Some s
        → ((r : ℕ × ℕ) → section_of lines ≡ Some r → r.1 ≤ length (drop (length line) text)) → s.1 ≤ length text
    by_section None is same later = absurd (cc)
    by_section (Some r) is same later =
        let bytes : length line + r.1 ≡ s.1 = ap (λ (p : Option (ℕ × ℕ)). elim p [ None ↦ 0 | Some q ↦ q.1 ]) same in
        omega (arith, later r is, bytes, length-drop (length line) text, line_fits text line lines are)

    by_test : (t : Bool) → is_empty_line line ≡ t
        → ((r : ℕ × ℕ) → section_of lines ≡ Some r → r.1 ≤ length (drop (length line) text)) → s.1 ≤ length text
    by_test true empty later =
        let same : ◌≡◌ {A = Option (ℕ × ℕ)} (Some (0, length line)) (Some s) = rw empty at e in
        let bytes : length line ≡ s.1 = ap (λ (p : Option (ℕ × ℕ)). elim p [ None ↦ 0 | Some q ↦ q.1 ]) same in
        omega (arith, bytes, line_fits text line lines are)
    by_test false filled later = by_section (section_of lines) refl (rw filled at e) later

-- the length in a cut
abbrev pub cut_len : Cut → ℕ
cut_len (whole n) = n
cut_len too_large = 0
cut_len unfinished = 0

cut_open-len : (bytes lines : ℕ) → cut_len (cut_open bytes lines) ≡ 0
cut_open-len bytes lines = by_test (nat_le 65536 bytes || nat_lt 100 lines)
  where
    by_test : (t : Bool) → cut_len (cond t too_large unfinished) ≡ 0
    by_test true = refl
    by_test false = refl

cut_at-len : (first : ℕ) (s : ℕ × ℕ) → cut_len (cut_at first s) ≤ first + s.1
cut_at-len first s = by_test (nat_lt 100 s.0)
  where
    by_test : (t : Bool) → cut_len (cond t too_large (whole (first + s.1))) ≤ first + s.1
    by_test true = omega arith
    by_test false = omega arith

pub window_cut_fits : (w : List ℕ) → cut_len (window_cut w) ≤ length w
window_cut_fits w = by_lines (whole_lines w) refl
  where
    by_section : (first : List ℕ) (after : List (List ℕ)) → whole_lines w ≡ first ∷ after → (o : Option (ℕ × ℕ)) → section_of after ≡ o
        → cut_len (cut_lines (length w) (length first) (length after) o) ≤ length w
    by_section first after is None e = omega (arith, cut_open-len (length w) (length after))
    by_section first after is (Some s) e =
        omega (
          arith,
          cut_at-len (length first) s,
          section_fits after (drop (length first) w) s (whole_lines-behind w first after is) e,
          length-drop (length first) w,
          line_fits w first after is,
        )

    by_lines : (ls : List (List ℕ)) → whole_lines w ≡ ls → cut_len (cut_of (length w) (whole_lines w)) ≤ length w
    by_lines [] is = omega (arith, ap (λ ls. cut_len (cut_of (length w) ls)) is, cut_open-len (length w) 0)
    by_lines (first ∷ after) is =
        let same : cut_len (cut_of (length w) (whole_lines w)) ≡ cut_len (cut_lines (length w) (length first) (length after) (section_of after)) =
        ap (λ ls. cut_len (cut_of (length w) ls)) is in
        omega (arith, same, by_section first after is (section_of after) refl)

pub head_cut_fits : (text : List ℕ) (len : ℕ) → head_cut text ≡ whole len → (len ≤ length text) × (len ≤ 65536)
head_cut_fits text len e =
    let same : cut_len (head_cut text) ≡ len = ap cut_len e in
    let fits = window_cut_fits (take 65536 text) in
    (omega (arith, same, fits, length-take 65536 text), omega (arith, same, fits, length-take 65536 text))

pub skipped_fits : (text : List ℕ) → empty_line_bytes text ≤ length text
skipped_fits text = empty_len_fits (whole_lines text) text refl

-- ---- the empty lines at the front

skipped_by_lines : (text : List ℕ) (lines : List (List ℕ)) → whole_lines text ≡ lines → empty_line_bytes text ≡ empty_len lines
skipped_by_lines text lines are = ap empty_len are

no_line_long : (text : List ℕ) → whole_lines text ≡ [] → IsDone (head_cut text) → 65536 ≤ length text
no_line_long text none done =
    elim (cases_lt (length text) 65536) [
      | inl short ↦
          let all : take 65536 text ≡ text = take_all 65536 text (omega arith) in
          let open_is : head_cut text ≡ cut_open (length text) 0 = ap window_cut all ∙ ap (cut_of (length text)) none in
          let many : 100 < 0 = cut_open-done (length text) 0 short (λ e. done (open_is ∙ e)) in
          absurd (omega arith)
      | inr long ↦ long
    ]

pub skip_grows : (lines : List (List ℕ)) (text more : List ℕ) → whole_lines text ≡ lines → IsDone (head_cut (after_empty_lines text))
    → empty_line_bytes (text ++ more) ≡ empty_line_bytes text
skip_grows [] text more are done = by_lines (whole_lines (text ++ more)) refl ∙ sym (skipped_by_lines text [] are)
  where
    by_lines : (ls : List (List ℕ)) → whole_lines (text ++ more) ≡ ls → empty_line_bytes (text ++ more) ≡ 0
    by_lines [] is = ap empty_len is
    by_lines (l ∷ ls) is =
        let at_start : after_empty_lines text ≡ text = ap (λ n. drop n text) (skipped_by_lines text [] are) in
        let long = no_line_long text are (λ e. done (ap head_cut at_start ∙ e)) in
        let longer = first_grows text more l ls are is in
        ap empty_len is ∙ empty_len-other l ls (empty_line_short l (omega arith))
skip_grows (line ∷ lines) text more are done =
    by_test (is_empty_line line) refl (skip_grows lines (drop (length line) text) more (whole_lines-behind text line lines are))
  where
    by_test : (t : Bool) → is_empty_line line ≡ t
        → (IsDone (head_cut (after_empty_lines (drop (length line) text))) → empty_line_bytes (drop (length line) text ++ more) ≡ empty_line_bytes (drop (length line) text))
        → empty_line_bytes (text ++ more) ≡ empty_line_bytes text
    by_test true empty later =
        let rest = drop (length line) text in
        let grown = lines_grow text more in
        let longer : whole_lines (text ++ more) ≡ line ∷ (lines ++ grown.others) = grown.are ∙ ap (λ ls. ls ++ grown.others) are in
        let fits = line_fits text line lines are in
        let split : drop (length line) (text ++ more) ≡ rest ++ more = drop-append-le (length line) text more fits in
        let rest_longer : whole_lines (rest ++ more) ≡ lines ++ grown.others =
        ap whole_lines (sym split) ∙ whole_lines-behind (text ++ more) line (lines ++ grown.others) longer in
        let rest_are : whole_lines rest ≡ lines = whole_lines-behind text line lines are in
        let here : empty_line_bytes text ≡ length line + empty_line_bytes rest =
        ap empty_len are ∙ empty_len-empty line lines empty ∙ ap (λ ls. length line + empty_len ls) (sym rest_are) in
        let after : after_empty_lines text ≡ after_empty_lines rest =
        ap (λ n. drop n text) here ∙ sym (drop-drop (empty_line_bytes rest) (length line) text) in
        ap empty_len longer ∙ empty_len-empty line (lines ++ grown.others) empty
        ∙ ap (λ ls. length line + empty_len ls) (sym rest_longer)
        ∙ ap (λ n. length line + n) (later (λ e. done (ap head_cut after ∙ e))) ∙ sym here
    by_test false filled later =
        let grown = lines_grow text more in
        let longer : whole_lines (text ++ more) ≡ line ∷ (lines ++ grown.others) = grown.are ∙ ap (λ ls. ls ++ grown.others) are in
        ap empty_len longer ∙ empty_len-other line (lines ++ grown.others) filled
        ∙ sym (ap empty_len are ∙ empty_len-other line lines filled)

pub after_empty_lines-append : (text more : List ℕ) → IsDone (head_cut (after_empty_lines text))
    → after_empty_lines (text ++ more) ≡ after_empty_lines text ++ more
after_empty_lines-append text more done =
    ap (λ n. drop n (text ++ more)) (skip_grows (whole_lines text) text more refl done)
    ∙ drop-append-le (empty_line_bytes text) text more (skipped_fits text)
