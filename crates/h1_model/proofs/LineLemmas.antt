-- Lemmas on the lines of a text.
use Rattle.std.proofs.Common.{◌≡◌, ℕ, zero, suc, ◌+◌, ◌-◌, ◌<◌, ◌≤◌, Bool, true, false, eqb, List, [], ◌∷◌, length, take, drop, get_or, Option, None, Some, refl, sym, ap, ◌∙◌, arith, option_map}
use Rattle.std.proofs.lemmas.List.{drop-drop, length-drop, length-take-le}
use Rattle.h1_model.specs.Lines.{with_first, whole_lines, is_empty_line, empty_len, empty_line_bytes, after_empty_lines, section_of, Cut, cut_at, cut_open, cut_lines, cut_of, window_cut}

pub not_true : (b : Bool) → (b ≡ true → ⊥) → b ≡ false
not_true true h = absurd (h refl)
not_true false h = refl

-- ---- the first line

pub whole_lines-no_feed : (text : List ℕ) → ((k : ℕ) → k < length text → eqb (get_or text k 0) 10 ≡ true → ⊥)
    → whole_lines text ≡ []
whole_lines-no_feed [] h = refl
whole_lines-no_feed (b ∷ bytes) h =
    let other : eqb b 10 ≡ false = not_true _ (h 0 (omega arith)) in
    let later : whole_lines bytes ≡ [] = whole_lines-no_feed bytes (λ k lt. h (suc k) (omega arith)) in
    rw (other, later)

pub whole_lines-feed : (text : List ℕ) (i : ℕ) → i < length text → eqb (get_or text i 0) 10 ≡ true
    → ((k : ℕ) → k < i → eqb (get_or text k 0) 10 ≡ true → ⊥)
    → whole_lines text ≡ take (suc i) text ∷ whole_lines (drop (suc i) text)
whole_lines-feed [] i lt at before = absurd (omega arith)
whole_lines-feed (b ∷ bytes) zero lt at before = rw at
whole_lines-feed (b ∷ bytes) (suc i) lt at before =
    let other : eqb b 10 ≡ false = not_true _ (before 0 (omega arith)) in
    let later : whole_lines bytes ≡ take (suc i) bytes ∷ whole_lines (drop (suc i) bytes) =
    whole_lines-feed bytes i (omega arith) at (λ k lt. before (suc k) (omega arith)) in
    rw (other, later)

-- ---- a section, line by line

-- the cut of a head, of which so many bytes and so many lines after the first stand before these lines, none of them empty
abbrev pub cut_behind : ℕ → ℕ → ℕ → ℕ → Option (ℕ × ℕ) → Cut
cut_behind bytes at before lines None = cut_open bytes (before + lines)
cut_behind bytes at before lines (Some section) = cut_at at (before + section.0, section.1)

abbrev pub cut_from : ℕ → ℕ → ℕ → List (List ℕ) → Cut
cut_from bytes at before lines = cut_behind bytes at before (length lines) (section_of lines)

pub cut_from-nil : (bytes at before : ℕ) → cut_from bytes at before [] ≡ cut_open bytes before
cut_from-nil bytes at before = ap (cut_open bytes) (omega arith)

pub cut_from-empty : (bytes at before : ℕ) (line : List ℕ) (lines : List (List ℕ)) → is_empty_line line ≡ true
    → cut_from bytes at before (line ∷ lines) ≡ cut_at at (before, length line)
cut_from-empty bytes at before line lines empty =
    let none : before + 0 ≡ before = omega arith in
    rw (empty, none)

pub cut_from-line : (bytes at before : ℕ) (line : List ℕ) (lines : List (List ℕ)) → is_empty_line line ≡ false
    → cut_from bytes at before (line ∷ lines) ≡ cut_from bytes (at + length line) (before + 1) lines
cut_from-line bytes at before line lines other = rw other (cases (section_of lines))
  where
    cases : (o : Option (ℕ × ℕ))
        → cut_behind bytes at before (suc (length lines)) (option_map (λ (s : ℕ × ℕ). (s.0 + 1, length line + s.1)) o)
        ≡ cut_behind bytes (at + length line) (before + 1) (length lines) o
    cases None = ap (cut_open bytes) (omega arith)
    cases (Some s) =
        let lines_are : before + (s.0 + 1) ≡ before + 1 + s.0 = omega arith in
        let bytes_are : at + (length line + s.1) ≡ at + length line + s.1 = omega arith in
        rw (lines_are, bytes_are)

-- the first line, and no line after it so far
pub cut_from-first : (bytes : ℕ) (first : List ℕ) (lines : List (List ℕ))
    → cut_from bytes (length first) 0 lines ≡ cut_of bytes (first ∷ lines)
cut_from-first bytes first lines = cases (section_of lines)
  where
    cases : (o : Option (ℕ × ℕ)) → cut_behind bytes (length first) 0 (length lines) o ≡ cut_lines bytes (length first) (length lines) o
    cases None = ap (cut_open bytes) (omega arith)
    cases (Some s) =
        let same : 0 + s.0 ≡ s.0 = omega arith in
        rw same

-- ---- the empty lines at the front

pub empty_len-empty : (line : List ℕ) (lines : List (List ℕ)) → is_empty_line line ≡ true
    → empty_len (line ∷ lines) ≡ length line + empty_len lines
empty_len-empty line lines empty = rw empty

pub empty_len-other : (line : List ℕ) (lines : List (List ℕ)) → is_empty_line line ≡ false → empty_len (line ∷ lines) ≡ 0
empty_len-other line lines other = rw other

-- ---- a window, line by line

pub window_cut-none : (w : List ℕ) → whole_lines w ≡ [] → window_cut w ≡ cut_open (length w) 0
window_cut-none w none = ap (cut_of (length w)) none

pub window_cut-first : (w : List ℕ) (first : ℕ) → first ≤ length w
    → whole_lines w ≡ take first w ∷ whole_lines (drop first w)
    → cut_from (length w) first 0 (whole_lines (drop first w)) ≡ window_cut w
window_cut-first w first fits lines =
    let long : length (take first w) ≡ first = length-take-le first w fits in
    ap (λ n. cut_from (length w) n 0 (whole_lines (drop first w))) (sym long)
    ∙ cut_from-first (length w) (take first w) (whole_lines (drop first w)) ∙ ap (cut_of (length w)) (sym lines)

-- the line at a place
pub line_at : (w : List ℕ) (at len : ℕ) → take (at + len - at) (drop at w) ≡ take len (drop at w)
line_at w at len = let same : at + len - at ≡ len = omega arith in ap (λ n. take n (drop at w)) same

pub length_at : (w : List ℕ) (at len : ℕ) → at + len ≤ length w → length (take len (drop at w)) ≡ len
length_at w at len fits = length-take-le len (drop at w) (omega (arith, length-drop at w))

pub cut_from-next : (n : ℕ) (w : List ℕ) (at len before : ℕ) → at + len ≤ length w
    → whole_lines (drop at w) ≡ take len (drop at w) ∷ whole_lines (drop len (drop at w))
    → is_empty_line (take (at + len - at) (drop at w)) ≡ false
    → cut_from n (at + len) (before + 1) (whole_lines (drop (at + len) w)) ≡ cut_from n at before (whole_lines (drop at w))
cut_from-next n w at len before fits lines other =
    let line = take len (drop at w) in
    let others : is_empty_line line ≡ false = ap is_empty_line (sym (line_at w at len)) ∙ other in
    let step = cut_from-line n at before line (whole_lines (drop len (drop at w))) others in
    let long : length line ≡ len = length_at w at len fits in
    let rest : whole_lines (drop (at + len) w) ≡ whole_lines (drop len (drop at w)) = ap whole_lines (sym (drop-drop len at w)) in
    ap (cut_from n (at + len) (before + 1)) rest
    ∙ ap (λ k. cut_from n (at + k) (before + 1) (whole_lines (drop len (drop at w)))) (sym long)
    ∙ sym step ∙ ap (cut_from n at before) (sym lines)

pub cut_from-end : (n : ℕ) (w : List ℕ) (at len before : ℕ) → at + len ≤ length w
    → whole_lines (drop at w) ≡ take len (drop at w) ∷ whole_lines (drop len (drop at w))
    → is_empty_line (take (at + len - at) (drop at w)) ≡ true
    → cut_at at (before, len) ≡ cut_from n at before (whole_lines (drop at w))
cut_from-end n w at len before fits lines empty =
    let line = take len (drop at w) in
    let empties : is_empty_line line ≡ true = ap is_empty_line (sym (line_at w at len)) ∙ empty in
    ap (λ k. cut_at at (before, k)) (sym (length_at w at len fits))
    ∙ sym (cut_from-empty n at before line (whole_lines (drop len (drop at w))) empties) ∙ ap (cut_from n at before) (sym lines)

pub cut_from-none : (n : ℕ) (w : List ℕ) (at before : ℕ) → whole_lines (drop at w) ≡ []
    → cut_open n before ≡ cut_from n at before (whole_lines (drop at w))
cut_from-none n w at before none = sym (cut_from-nil n at before) ∙ ap (cut_from n at before) (sym none)

-- the lines after the first
pub whole_lines-behind : (text line : List ℕ) (lines : List (List ℕ)) → whole_lines text ≡ line ∷ lines
    → whole_lines (drop (length line) text) ≡ lines
whole_lines-behind [] line lines e = absurd (cc)
whole_lines-behind (b ∷ bytes) line lines e = by_test (whole_lines-behind bytes) (eqb b 10) refl
  where
    by_lines : ((l : List ℕ) (ls : List (List ℕ)) → whole_lines bytes ≡ l ∷ ls → whole_lines (drop (length l) bytes) ≡ ls) → (ls : List (List ℕ)) → whole_lines bytes ≡ ls → with_first b ls ≡ line ∷ lines
        → whole_lines (drop (length line) (b ∷ bytes)) ≡ lines
    by_lines later [] are same = absurd (nothing same)
      where
        nothing : ◌≡◌ {A = List (List ℕ)} [] (line ∷ lines) → ⊥
        nothing x = cc
    by_lines later (l ∷ ls) are same =
        let line_is : b ∷ l ≡ line = cc in
        let lines_are : ls ≡ lines = cc in
        ap (λ (k : List ℕ). whole_lines (drop (length k) (b ∷ bytes))) (sym line_is) ∙ later l ls are ∙ lines_are

    by_test : ((l : List ℕ) (ls : List (List ℕ)) → whole_lines bytes ≡ l ∷ ls → whole_lines (drop (length l) bytes) ≡ ls) → (t : Bool) → eqb b 10 ≡ t → whole_lines (drop (length line) (b ∷ bytes)) ≡ lines
    by_test later true feed =
        let same : (b ∷ []) ∷ whole_lines bytes ≡ line ∷ lines = rw feed at e in
        let line_is : b ∷ [] ≡ line = cc in
        let lines_are : whole_lines bytes ≡ lines = cc in
        ap (λ (k : List ℕ). whole_lines (drop (length k) (b ∷ bytes))) (sym line_is) ∙ lines_are
    by_test later false other =
        let same : with_first b (whole_lines bytes) ≡ line ∷ lines = rw other at e in
        by_lines later (whole_lines bytes) refl same

-- after the empty lines no empty line stands
pub empty_len-behind : (lines : List (List ℕ)) (text : List ℕ) → whole_lines text ≡ lines
    → empty_len (whole_lines (drop (empty_len lines) text)) ≡ 0
empty_len-behind [] text are = ap empty_len are
empty_len-behind (line ∷ lines) text are =
    by_test (empty_len-behind lines (drop (length line) text) (whole_lines-behind text line lines are)) (is_empty_line line) refl
  where
    by_test : empty_len (whole_lines (drop (empty_len lines) (drop (length line) text))) ≡ 0
        → (t : Bool) → is_empty_line line ≡ t → empty_len (whole_lines (drop (empty_len (line ∷ lines)) text)) ≡ 0
    by_test later true empty =
        ap (λ n. empty_len (whole_lines (drop n text))) (empty_len-empty line lines empty)
        ∙ ap (λ (t : List ℕ). empty_len (whole_lines t)) (sym (drop-drop (empty_len lines) (length line) text))
        ∙ later
    by_test later false other =
        ap (λ n. empty_len (whole_lines (drop n text))) (empty_len-other line lines other)
        ∙ ap empty_len are ∙ empty_len-other line lines other

pub skipped-after_empty_lines : (text : List ℕ) → empty_line_bytes (after_empty_lines text) ≡ 0
skipped-after_empty_lines text = empty_len-behind (whole_lines text) text refl
