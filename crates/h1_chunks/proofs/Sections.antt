-- Lemmas on trailer sections.
use Rattle.std.proofs.Common.{◌≡◌, ℕ, ◌+◌, ◌-◌, ◌<◌, ◌≤◌, Bool, true, List, [], ◌∷◌, ◌++◌, map, filter, length, take, drop, get_or, slice_range, Some, None, refl, sym, ap, subst, ◌∙◌, arith}
use Rattle.std.proofs.lemmas.Bool.{and_from, lt-ltb, le-leb}
use Rattle.std.proofs.lemmas.List.{append_assoc, append-nil, length-append, length-map, length-take, length-take-le, length-drop, take-append-drop, drop_all, get_or-map}
use Rattle.std.proofs.lemmas.List.Elements.{All-head, All-tail, All-cons, All-nil}
use Rattle.std.proofs.lemmas.List.Filters.{length-filter_both}
use Rattle.std.proofs.lemmas.List.Sums.{list_all-from_AllPass}
use Rattle.std.proofs.Math.Seq.{take-append-add}
use Rattle.std.specs.Prelude.{All, not}
use Rattle.std.specs.List.{flat_map}
use Rattle.httparse.specs.declared.spans.HeaderSpan.{HeaderSpan}
use Rattle.httparse.specs.Grammar as grammar
use Rattle.httparse.specs.Grammar.{LineEnd, print_end, Field, IsField, print_field, print_section, ReadsSection, trim_ows}
use Rattle.httparse.specs.Spans.{IsSectionAt, name_and_value, header_bytes}
use Rattle.httparse.proofs.TrimLemmas.{AllPass-trim_ows}
use Rattle.http_header.specs.Token as token
use Rattle.header_maps.specs.Faults.{add_fault, is_few}
use Rattle.header_maps.specs.Headers.{Headers}
use Rattle.header_maps.specs.Judged.{is_field_name, is_field_value}
use Rattle.header_maps.specs.Operations.{added}
use Rattle.header_maps.specs.Pairs.{is_plain, plain_count}
use Rattle.h1_model.specs.Fields.{Pair}
use Rattle.h1_model.specs.Lines.{whole_lines, section_of, cut_lines, whole}
use Rattle.h1_model.specs.Trailers.{window_section, section_cut}
use Rattle.h1_model.proofs.GrammarLines.{whole_lines-section, section_of-section, cut_at-whole}
use Rattle.h1_text.specs.Spans.{fields_at}
use Rattle.h1_chunks.specs.Spans.{IsTaken, AreTaken}

-- ---- fields that a list takes

-- both libraries mean the same bytes of a token
same_token : (b : ℕ) → grammar.is_token_byte b ≡ token.is_token_byte b
unfolding grammar.is_token_byte token.is_token_byte
same_token b = refl

field_taken : (f : Field) → IsField f → length f.name ≤ 65535 → IsTaken (name_and_value f)
field_taken f is short = record {
  name = and_from _ _
      (and_from _ _ (lt-ltb 0 (length f.name) is.name.0)
      (list_all-from_AllPass token.is_token_byte f.name (λ k d lt. sym (same_token (get_or f.name k d)) ∙ is.name.1 k d lt)))
      (le-leb (length f.name) 65535 short);
  value = list_all-from_AllPass token.is_value_byte (trim_ows f.raw) (AllPass-trim_ows grammar.is_value_byte f.raw is.raw);
}

section-cons : (f : Field) (fields : List Field) (last : LineEnd) → print_section (f ∷ fields) last ≡ print_field f ++ print_section fields last
section-cons f fields last = append_assoc (print_field f) (flat_map print_field fields) (print_end last)

fields_taken : (fields : List Field) (last : LineEnd) → All IsField fields → length (print_section fields last) ≤ 65536
    → All IsTaken (map name_and_value fields)
fields_taken [] last all short = All-nil IsTaken
fields_taken (f ∷ fields) last all short =
    let len : length (print_section (f ∷ fields) last) ≡ length (print_field f) + length (print_section fields last) =
    ap length (section-cons f fields last) ∙ length-append (print_field f) (print_section fields last) in
    let line : length (print_field f) ≡ length f.name + length (58 ∷ f.raw) + length (print_end f.end) =
    length-append (f.name ++ 58 ∷ f.raw) (print_end f.end) ∙ ap (λ n. n + length (print_end f.end)) (length-append f.name (58 ∷ f.raw)) in
    All-cons IsTaken (name_and_value f) (map name_and_value fields)
    (field_taken f (All-head IsField f fields all) (omega arith))
    (fields_taken fields last (All-tail IsField f fields all) (omega arith))

-- ---- whole sections

take_past : (n : ℕ) (xs ys : List ℕ) → length xs ≤ n → take n (xs ++ ys) ≡ xs ++ take (n - length xs) ys
take_past n xs ys short =
    let e : n ≡ length xs + (n - length xs) = omega arith in
    ap (λ k. take k (xs ++ ys)) e ∙ take-append-add xs ys (n - length xs)

pub few_fields : (text : List ℕ) (len : ℕ) (fields : List Field) (last : LineEnd) → section_cut text ≡ whole len → len ≤ 65536
    → len ≤ length text → ReadsSection (take len text) fields last [] → length fields ≤ 100
few_fields text len fields last cut limit fits reads =
    let section = print_section fields last in
    let more = take (65536 - length section) (drop len text) in
    let front : take len text ≡ section = reads.1 ∙ append-nil section in
    let short : length section ≤ 65536 = omega (arith, ap length front, length-take-le len text fits) in
    let window : take 65536 text ≡ section ++ more =
    ap (take 65536) (sym (take-append-drop len text) ∙ ap (λ (t : List ℕ). t ++ drop len text) front)
    ∙ take_past 65536 section (drop len text) short in
    let n = length (section ++ more) in
    let lines = whole_lines (section ++ more) in
    let found : section_of lines ≡ Some (length fields, length section) =
    ap section_of (whole_lines-section fields last more reads.0) ∙ section_of-section fields last (whole_lines more) reads.0 in
    (cut_at-whole 0 (length fields) (length section) len
    (sym (ap window_section window ∙ ap (cut_lines n 0 (length lines)) found) ∙ cut)).0

pub are_taken : (text : List ℕ) (len count : ℕ) (headers : List HeaderSpan) (fields : List Field) (last : LineEnd)
    → section_cut text ≡ whole len → len ≤ 65536 → len ≤ length text
    → IsSectionAt (take len text) 0 headers (length (take len text)) count fields last
    → AreTaken (fields_at (take len text) (take count headers))
are_taken text len count headers fields last cut limit fits at =
    let front = take len text in
    let reads : ReadsSection front fields last [] =
    subst (λ (r : List ℕ). ReadsSection front fields last r) (drop_all (length front) front (omega arith)) at.reads in
    let short : length (print_section fields last) ≤ 65536 =
    omega (arith, ap length (reads.1 ∙ append-nil (print_section fields last)), length-take-le len text fits) in
    record {
      each = subst (All IsTaken) (sym at.fields_are) (fields_taken fields last reads.0 short);
      few = omega (arith, ap length at.fields_are, length-map fields name_and_value, few_fields text len fields last cut limit fits reads);
    }

-- ---- one field more

length-filter-le : (p : Pair → Bool) (xs : List Pair) → length (filter p xs) ≤ length xs
length-filter-le p xs = omega (arith, length-filter_both p (λ x. not (p x)) (λ x. refl) xs)

pub add_taken : (list : Headers) (name value : List ℕ) → is_field_name name ≡ true → is_field_value value ≡ true
    → length list.pairs < 100 → add_fault list name value ≡ None
add_taken list name value n v few =
    let more = (added list name value).pairs in
    let len : length more ≡ length list.pairs + 1 = length-append list.pairs _ in
    let less : is_few more ≡ true = le-leb (plain_count more) 100 (omega (arith, length-filter-le is_plain more)) in
    rw (n, v, less)

-- the field at a place is one of those that a list takes
pub taken_at : (text : List ℕ) (spans : List HeaderSpan) (i : ℕ) (d : HeaderSpan) (name value : List ℕ) → AreTaken (fields_at text spans)
    → i < length spans → (name, value) ≡ header_bytes text (get_or spans i d) → IsTaken (name, value)
taken_at text spans i d name value taken lt are =
    subst IsTaken (get_or-map (header_bytes text) spans i d ([], []) lt ∙ sym are)
    (taken.each i ([], []) (omega (arith, length-map spans (header_bytes text))))

-- there is room for one field more
pub few_so_far : (text : List ℕ) (spans : List HeaderSpan) (i n : ℕ) → AreTaken (fields_at text spans) → n ≤ i → i < length spans → n < 100
few_so_far text spans i n taken few lt = omega (arith, taken.few, length-map spans (header_bytes text))

slice_short : (text : List ℕ) (a b : ℕ) → length (slice_range text a b) ≤ length text
slice_short text a b = omega (arith, length-take (b - a) (drop a text), length-drop a text)

pub value_short : (text : List ℕ) (span : HeaderSpan) (name value : List ℕ) → (name, value) ≡ header_bytes text span → length text ≤ 65536
    → length value ≤ 16777216
value_short text span name value are short =
    let value_is : value ≡ slice_range text span.value.start span.value.end = ap (λ (p : Pair). p.1) are in
    omega (arith, ap length value_is, slice_short text span.value.start span.value.end)
