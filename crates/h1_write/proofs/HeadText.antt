-- The list of a response head, and the text that it is written as.
use Rattle.std.proofs.Common.{◌≡◌, ℕ, ◌+◌, ◌≤◌, Bool, true, false, cond, not, ◌&&◌, List, [], ◌∷◌, ◌++◌, map, length, take, drop, codes, decimal, Some, Result, refl, sym, ap, subst, ◌∙◌, append_assoc, zero-add, arith}
use Rattle.std.proofs.lemmas.Bool.{and_from, and_parts, cond-true, cond-false, le-ltb, lt-ltb, false≢true}
use Rattle.std.proofs.lemmas.Bool.Decides.{nat_tests}
use Rattle.std.proofs.lemmas.Grind.{flat_map-append}
use Rattle.std.proofs.lemmas.List.{append-nil, take_all}
use Rattle.std.proofs.lemmas.List.Elements.{All-nil}
use Rattle.std.proofs.lemmas.List.Folds.{list_all-append}
use Rattle.std.proofs.lemmas.List.Sums.{AllPass-from_list_all}
use Rattle.std.specs.Char.{is_ascii_digit}
use Rattle.std.specs.List.{AllByRecursion, list_all, find}
use Rattle.std.specs.Option.{option_map}
use Rattle.std.specs.Prelude.{IsTrue, nat_lt, unwrap_or}
use Rattle.std.specs.Str.Parse.{digits_value}
use Rattle.http_header.specs.Token as token
use Rattle.http_header.specs.Token.{lowercase}
use Rattle.httparse.specs.Ascii.{crlf_bytes}
use Rattle.httparse.specs.Grammar.{is_value_byte, crlf, print_field, print_end, print_section, ResponseHead, IsResponseHead, print_response}
use Rattle.httparse.proofs.OnLiterals.{httparse_on_literals}
use Rattle.header_maps.specs.declared.kind.ListKind.{ListKind}
use Rattle.header_maps.specs.declared.kind.ListKind.TheVariants as kinds
use Rattle.header_maps.specs.Headers.{Headers}
use Rattle.header_maps.specs.Judged.{is_status}
use Rattle.header_maps.specs.Kept.{is_kept_field, AreFields, BeginsWith, IsHeaders}
use Rattle.header_maps.specs.Kinds.{pseudo_names}
use Rattle.header_maps.specs.Operations.{status_kind}
use Rattle.header_maps.specs.Pairs.{is_named}
use Rattle.h1_model.specs.Fields.{Pair}
use Rattle.h1_model.specs.Framing.{Framing, no_body, by_length, by_chunks, by_close, framing_line, response_line, start_lines, head_wire}
use Rattle.h1_model.specs.Head.{Head, step_of, SpellsBy, IsStepAt}
use Rattle.h1_model.specs.Lines.{Cut, whole, too_large, is_empty_line, empty_line_bytes, head_cut, window_cut, empty_len, whole_lines}
use Rattle.h1_model.specs.Wire.{field_line, field_lines, is_left_out, sent_among, sent_fields, pseudo_of}
use Rattle.h1_model.proofs.GrammarLines.{AreParts, first_line, whole_lines-head, length-head, window_cut-head, filled_line, response_words-line, response_parts, response_prints}
use Rattle.h1_write.specs.Heads.{framing_fields, written_fields, is_answer_kind, IsTail, IsInLimit, status_said}
use Rattle.h1_write.proofs.Ending.{fields_at, section_is, IsSent, sent_all}
use Rattle.h1_write.proofs.Told.{decimal_digits, IsCode, code_of}
use Rattle.h1_write.proofs.Written.{fields_all}

-- ---- the list

-- the digits of its status, and then fields
record Shape (kind : ListKind) (pairs : List Pair) : Type 0 where
  code : List ℕ
  fields : List Pair
  are : pairs ≡ (codes ":status", code) ∷ fields
  kept : AreFields fields
  digits : IsCode 100 599 code
  kind_is : kind ≡ status_kind (digits_value 10 code)

wider : (low high : ℕ) (v : List ℕ) → IsCode low high v → 100 ≤ low → high ≤ 599 → IsCode 100 599 v
wider low high v is l h = record { three = is.three; digits = is.digits; above = omega (arith, is.above); below = omega (arith, is.below) }

shape : (kind : ListKind) (pairs : List Pair) → is_answer_kind kind ≡ true → BeginsWith kind (pseudo_names kind) pairs → Shape kind pairs
unfolding httparse_on_literals
shape kinds.Request pairs is begins = absurd (false≢true is)
shape kinds.Plain pairs is begins = absurd (false≢true is)
shape kinds.Response [] is begins = absurd begins
shape kinds.Interim [] is begins = absurd begins
shape kinds.Response (p ∷ ps) is begins =
    let value : is_status 200 599 p.1 ≡ true = begins.0.value in
    let code = code_of 200 599 p.1 value in
    let high : nat_lt (digits_value 10 p.1) 200 ≡ false = le-ltb (digits_value 10 p.1) 200 code.above in
    record {
      code = p.1;
      fields = ps;
      are = λ t. (begins.0.name_is t, p.1) ∷ ps;
      kept = begins.1;
      digits = wider 200 599 p.1 code (omega arith) (omega arith);
      kind_is = sym (cond-false (nat_lt (digits_value 10 p.1) 200) kinds.Interim kinds.Response high);
    }
shape kinds.Interim (p ∷ ps) is begins =
    let value : is_status 100 199 p.1 ≡ true = begins.0.value in
    let code = code_of 100 199 p.1 value in
    let low : nat_lt (digits_value 10 p.1) 200 ≡ true = lt-ltb (digits_value 10 p.1) 200 (omega (arith, code.below)) in
    record {
      code = p.1;
      fields = ps;
      are = λ t. (begins.0.name_is t, p.1) ∷ ps;
      kept = begins.1;
      digits = wider 100 199 p.1 code (omega arith) (omega arith);
      kind_is = sym (cond-true (nat_lt (digits_value 10 p.1) 200) kinds.Interim kinds.Response low);
    }

-- the same of a list, whose first value is that of its status
pub record AnswerList (headers : Headers) : Type 0 where
  pub fields : List Pair
  pub are : headers.pairs ≡ (codes ":status", pseudo_of headers (codes ":status")) ∷ fields
  pub kept : AreFields fields
  pub digits : IsCode 100 599 (pseudo_of headers (codes ":status"))
  pub kind_is : headers.kind ≡ status_kind (status_said headers)

code_first : (pairs : List Pair) (code : List ℕ) (fields : List Pair) → pairs ≡ (codes ":status", code) ∷ fields
    → unwrap_or (option_map (λ (f : Pair). f.1) (find (is_named (lowercase (codes ":status"))) pairs)) [] ≡ code
unfolding httparse_on_literals
code_first pairs code fields are =
    ap (λ (ps : List Pair). unwrap_or (option_map (λ (f : Pair). f.1) (find (is_named (lowercase (codes ":status"))) ps)) []) are

pub answer_list : (headers : Headers) → is_answer_kind headers.kind ≡ true → IsHeaders headers → AnswerList headers
answer_list headers kind is =
    let s = shape headers.kind headers.pairs kind is.shape in
    let same : s.code ≡ pseudo_of headers (codes ":status") = sym (code_first headers.pairs s.code s.fields s.are) in
    record {
      fields = s.fields;
      are = s.are ∙ ap (λ (c : List ℕ). (codes ":status", c) ∷ s.fields) same;
      kept = s.kept;
      digits = subst (IsCode 100 599) same s.digits;
      kind_is = s.kind_is ∙ ap (λ (c : List ℕ). status_kind (digits_value 10 c)) same;
    }

-- ---- the fields that go out

first_out : (all fields : List Pair) (code : List ℕ) → sent_among all ((codes ":status", code) ∷ fields) ≡ sent_among all fields
unfolding httparse_on_literals
first_out all fields code = refl

pub answer_sent : (headers : Headers) → AnswerList headers → AllByRecursion IsSent (sent_fields headers.pairs)
answer_sent headers list =
    let all = headers.pairs in
    let same : sent_among all headers.pairs ≡ sent_among all list.fields =
    ap (sent_among all) list.are ∙ first_out all list.fields (pseudo_of headers (codes ":status")) in
    subst (λ (fs : List Pair). AllByRecursion IsSent fs) (sym same) (sent_all all list.fields list.kept.kept)

pub kept_out : (all fields : List Pair) → list_all is_kept_field fields ≡ true → list_all is_kept_field (sent_among all fields) ≡ true
kept_out all [] kept = refl
kept_out all (f ∷ fs) kept =
    let both = and_parts (is_kept_field f) (list_all is_kept_field fs) kept in
    by_test (not (is_left_out all (lowercase f.0))) both.0 (kept_out all fs both.1)
  where
    by_test : (b : Bool) → is_kept_field f ≡ true → list_all is_kept_field (sent_among all fs) ≡ true
        → list_all is_kept_field (cond b (f ∷ sent_among all fs) (sent_among all fs)) ≡ true
    by_test true first later = and_from _ _ first later
    by_test false first later = later

digit_passes : (b : ℕ) → is_ascii_digit b ≡ true → token.is_value_byte b ≡ true
digit_passes b is = grind (arith, nat_tests)

digits_pass : (ds : List ℕ) → list_all is_ascii_digit ds ≡ true → list_all token.is_value_byte ds ≡ true
digits_pass [] are = refl
digits_pass (d ∷ ds) are =
    let both = and_parts (is_ascii_digit d) (list_all is_ascii_digit ds) are in and_from _ _ (digit_passes d both.0) (digits_pass ds both.1)

pub framing_all : (framing : Framing) → IsInLimit framing → list_all is_kept_field (framing_fields framing) ≡ true
unfolding httparse_on_literals token.is_token_byte
framing_all no_body small = refl
framing_all (by_length n) small =
    ap (λ b. b && true) (digits_pass (decimal n) (decimal_digits n (omega (arith, small))))
framing_all by_chunks small = refl
framing_all by_close small = refl

pub written_all : (framing : Framing) (h : Head) → AnswerList h.fields → IsTail h.tail.pairs → IsInLimit framing
    → list_all is_kept_field (written_fields framing h) ≡ true
written_all framing h list tail small =
    let all = h.fields.pairs in
    let same : sent_among all all ≡ sent_among all list.fields =
    ap (sent_among all) list.are ∙ first_out all list.fields (pseudo_of h.fields (codes ":status")) in
    let sent : list_all is_kept_field (sent_fields all) ≡ true = ap (list_all is_kept_field) same ∙ kept_out all list.fields list.kept.kept in
    list_all-append is_kept_field (sent_fields all) (framing_fields framing ++ h.tail.pairs)
    ∙ and_from _ _ sent (list_all-append is_kept_field (framing_fields framing) h.tail.pairs ∙ and_from _ _ (framing_all framing small) tail.kept)

-- ---- the text

pub framing_is : (framing : Framing) → framing_line framing ≡ field_lines (framing_fields framing)
framing_is no_body = refl
framing_is (by_length n) = sym (append-nil (framing_line (by_length n)))
framing_is by_chunks = refl
framing_is by_close = refl

-- the tree that is written, with an empty reason
abbrev pub tree_of : Framing → Head → ResponseHead
tree_of framing h = record {
  blank = [];
  minor = 1;
  digits = pseudo_of h.fields (codes ":status");
  reason = Some [];
  line_end = crlf;
  fields = fields_at (written_fields framing h);
  last = crlf;
}

start_is : (h : Head) (kind : ListKind) → is_answer_kind kind ≡ true → start_lines h kind ≡ response_line h.fields
start_is h kinds.Request is = absurd (false≢true is)
start_is h kinds.Response is = refl
start_is h kinds.Interim is = refl
start_is h kinds.Plain is = absurd (false≢true is)

pub printed : (framing : Framing) (h : Head) → is_answer_kind h.fields.kind ≡ true → head_wire framing h ≡ print_response (tree_of framing h)
unfolding print_response
printed framing h kind =
    let sent = sent_fields h.fields.pairs in
    let told = framing_fields framing in
    let tail = h.tail.pairs in
    let lines : field_lines sent ++ (framing_line framing ++ (field_lines tail ++ crlf_bytes)) ≡ field_lines (written_fields framing h) ++ crlf_bytes =
    ap (λ (t : List ℕ). field_lines sent ++ (t ++ (field_lines tail ++ crlf_bytes))) (framing_is framing)
    ∙ ap (λ (t : List ℕ). field_lines sent ++ t) (sym (append_assoc (field_lines told) (field_lines tail) crlf_bytes))
    ∙ ap (λ (t : List ℕ). field_lines sent ++ (t ++ crlf_bytes)) (sym (flat_map-append field_line told tail))
    ∙ sym (append_assoc (field_lines sent) (field_lines (told ++ tail)) crlf_bytes)
    ∙ ap (λ (t : List ℕ). t ++ crlf_bytes) (sym (flat_map-append field_line sent (told ++ tail))) in
    parts (start_lines h h.fields.kind) (field_lines sent) (framing_line framing) (field_lines tail) crlf_bytes
    ∙ (λ t. start_is h h.fields.kind kind t ++ (lines ∙ section_is (written_fields framing h)) t)
  where
    parts : (a b f t c : List ℕ) → a ++ b ++ f ++ t ++ c ≡ a ++ (b ++ (f ++ (t ++ c)))
    parts a b f t c = simp append_assoc

-- ---- where it ends

pub tree_is : (framing : Framing) (h : Head) → AnswerList h.fields → IsTail h.tail.pairs → IsInLimit framing → IsResponseHead (tree_of framing h)
tree_is framing h list tail small = record {
  minor = omega arith;
  digits = (list.digits.three, AllPass-from_list_all is_ascii_digit (pseudo_of h.fields (codes ":status")) list.digits.digits);
  reason = All-nil (λ b. IsTrue (is_value_byte b));
  fields = fields_all (written_fields framing h) (written_all framing h list tail small);
}

-- a text that is a whole head, with no empty line in front, is its answer
pub spells_whole : (answers : List ℕ → Result Head ℕ → Type 0) (large : ℕ) (text : List ℕ) (answer : Result Head ℕ) → empty_line_bytes text ≡ 0
    → head_cut text ≡ whole (length text) → answers text answer → SpellsBy answers large text (step_of (length text) answer)
spells_whole answers large text answer none cut is =
    let n = length text in
    let step = step_of n answer in
    let taken : answers (take n text) answer = subst (λ (t : List ℕ). answers t answer) (sym (take_all n text (omega arith))) is in
    let here : IsStepAt answers large 0 text (whole n) step = (answer, taken, ap (λ k. step_of k answer) (sym (zero-add n))) in
    let there : IsStepAt answers large 0 text (head_cut text) step = subst (λ (c : Cut). IsStepAt answers large 0 text c step) (sym cut) here in
    subst (λ (k : ℕ). IsStepAt answers large k (drop k text) (head_cut (drop k text)) step) (sym none) there

pub record IsWhole (text : List ℕ) : Type 0 where
  pub none : empty_line_bytes text ≡ 0
  pub cut : head_cut text ≡ whole (length text)

-- so is a response head with few lines and bytes
pub tree_whole : (tree : ResponseHead) → IsResponseHead tree → tree.blank ≡ [] → length tree.fields ≤ 100 → length (print_response tree) ≤ 65536
    → IsWhole (print_response tree)
tree_whole tree is blank few short =
    let text = print_response tree in
    let p = response_parts tree in
    let are : AreParts p = record { words = response_words-line tree is; fields = is.fields } in
    let lines = whole_lines-head text p [] (response_prints tree) are blank in
    let first : is_empty_line (first_line p) ≡ false = filled_line 72 (drop 1 (first_line p)) refl refl in
    let after = map print_field p.fields ++ print_end p.last ∷ whole_lines [] in
    let skip : empty_line_bytes text ≡ 0 =
    ap empty_line_bytes (sym (append-nil text)) ∙ ap empty_len lines
    ∙ cond-false (is_empty_line (first_line p)) (length (first_line p) + empty_len after) 0 first in
    let few_lines : nat_lt 100 (length p.fields) ≡ false = le-ltb 100 (length p.fields) few in
    record {
      none = skip;
      cut = ap window_cut (take_all 65536 text short ∙ sym (append-nil text))
          ∙ window_cut-head text p [] (response_prints tree) are blank
          ∙ cond-false (nat_lt 100 (length p.fields)) too_large (whole (length (first_line p) + length (print_section p.fields p.last))) few_lines
          ∙ ap whole (sym (length-head text p (response_prints tree) blank));
    }
