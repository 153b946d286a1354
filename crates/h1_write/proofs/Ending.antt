-- The trailers that are written are read back.
use Rattle.std.proofs.Common.{◌≡◌, ℕ, ◌+◌, ◌<◌, ◌≤◌, Bool, true, false, not, cond, ◌||◌, List, [], ◌∷◌, ◌++◌, map, filter, length, take, bytes_eq, codes, Some, refl, sym, ap, subst, ◌∙◌, append_assoc, zero-add, arith}
use Rattle.std.proofs.lemmas.Bool.{cond-false, le-ltb, ltb-true, and_parts, false≢true}
use Rattle.std.proofs.lemmas.List.{append-nil, length-append, length-map, take_all}
use Rattle.std.proofs.lemmas.List.Elements.{All-cons, All-nil}
use Rattle.std.proofs.lemmas.List.Sums.{AllPass-from_list_all}
use Rattle.std.specs.List.{AllByRecursion, concat, flat_map, list_all, list_any}
use Rattle.std.specs.Prelude.{All}
use Rattle.http_header.specs.Token as token
use Rattle.http_header.specs.Token.{lowercase}
use Rattle.httparse.specs.Ascii.{crlf_bytes}
use Rattle.httparse.specs.Grammar.{is_token_byte, is_value_byte, trim_ows, crlf, Field, IsField, print_field, print_end, print_section}
use Rattle.httparse.specs.Spans.{name_and_value}
use Rattle.header_maps.specs.Judged.{is_token_text}
use Rattle.header_maps.specs.Kept.{is_kept_field}
use Rattle.header_maps.specs.Pairs.{is_pseudo}
use Rattle.header_maps.proofs.Shapes.{bytes_are, filter_fewer}
use Rattle.h1_model.specs.Fields.{Pair, is_named, values_of, is_listed, lists, lowercase_name}
use Rattle.h1_model.specs.Lines.{head_limit, Cut, whole, whole_lines, section_of, cut_lines}
use Rattle.h1_model.specs.Trailers.{trailer_names, is_trailer_dropped, kept_trailers, section_cut, window_section, IsSectionText, EndsWith, ended, IsEnd}
use Rattle.h1_model.specs.Wire.{field_line, field_lines, is_left_out, sent_among, sent_fields}
use Rattle.h1_model.proofs.GrammarLines.{whole_lines-section, section_of-section}
use Rattle.h1_write.specs.Laws.{read_field, section_wire, trailed_wire, TrailedEndReadBack}
use Rattle.h1_write.proofs.Back.{ends_there, trailers_read_back}

-- ---- lines are fields of the grammar

abbrev pub field_at : Pair → Field
field_at f = record { name = f.0; raw = 32 ∷ f.1; end = crlf }

abbrev pub fields_at : List Pair → List Field
fields_at fs = map field_at fs

line_is : (f : Pair) → field_line f ≡ print_field (field_at f)
line_is f = simp append_assoc

pub lines_are : (fs : List Pair) → field_lines fs ≡ flat_map print_field (fields_at fs)
lines_are [] = refl
lines_are (f ∷ fs) = λ t. line_is f t ++ lines_are fs t

pub section_is : (fs : List Pair) → field_lines fs ++ crlf_bytes ≡ print_section (fields_at fs) crlf
section_is fs = ap (λ (t : List ℕ). t ++ crlf_bytes) (lines_are fs)

-- ---- what a field that goes out is

pub record IsSent (f : Pair) : Type 0 where
  pub field : IsField (field_at f)
  pub low : lowercase f.0 ≡ f.0
  pub other : is_named (codes "connection") f ≡ false
  pub passes : list_any (bytes_eq f.0) trailer_names ≡ false

pub token_read : (bytes : List ℕ) → is_token_text bytes ≡ true → (0 < length bytes) × ((list_all is_token_byte bytes) ≡ true)
unfolding is_token_byte token.is_token_byte
token_read bytes is = let both = and_parts _ _ is in (ltb-true 0 (length bytes) both.0, both.1)

pub kept_is_field : (f : Pair) → is_kept_field f ≡ true → IsField (field_at f)
kept_is_field f kept =
    let parts = and_parts _ _ kept in
    let name = and_parts _ _ (and_parts _ _ parts.0).0 in
    let read = token_read f.0 name.0 in
    record {
      name = (read.0, AllPass-from_list_all is_token_byte f.0 read.1);
      raw = AllPass-from_list_all is_value_byte (32 ∷ f.1) parts.1;
    }

pub kept_low : (f : Pair) → is_kept_field f ≡ true → lowercase f.0 ≡ f.0
kept_low f kept = bytes_are (lowercase f.0) f.0 (and_parts _ _ (and_parts _ _ kept).0).1

-- what is not left out is none of the names of trailers that are dropped
sent_names : (p c k x t e u h l n : Bool) → not (p || (((c || (k || (x || (t || (e || (u || (h || false))))))) || l) || n)) ≡ true
    → (c ≡ false) × ((c || (k || (x || (t || (e || (u || (n || false))))))) ≡ false)
sent_names true c k x t e u h l n is = absurd (false≢true is)
sent_names false true k x t e u h l n is = absurd (false≢true is)
sent_names false false true x t e u h l n is = absurd (false≢true is)
sent_names false false false true t e u h l n is = absurd (false≢true is)
sent_names false false false false true e u h l n is = absurd (false≢true is)
sent_names false false false false false true u h l n is = absurd (false≢true is)
sent_names false false false false false false true h l n is = absurd (false≢true is)
sent_names false false false false false false false true l n is = absurd (false≢true is)
sent_names false false false false false false false false true n is = absurd (false≢true is)
sent_names false false false false false false false false false true is = absurd (false≢true is)
sent_names false false false false false false false false false false is = (refl, refl)

is_sent : (all : List Pair) (f : Pair) → is_kept_field f ≡ true → not (is_left_out all (lowercase f.0)) ≡ true → IsSent f
is_sent all f kept sent =
    let name = lowercase f.0 in
    let low = kept_low f kept in
    let both = sent_names (is_pseudo name) (bytes_eq name (codes "connection")) (bytes_eq name (codes "keep-alive"))
    (bytes_eq name (codes "proxy-connection")) (bytes_eq name (codes "te")) (bytes_eq name (codes "transfer-encoding"))
    (bytes_eq name (codes "upgrade")) (bytes_eq name (codes "host")) (is_listed name all) (bytes_eq name (codes "content-length")) sent in
    record {
      field = kept_is_field f kept;
      low = low;
      other = both.0;
      passes = subst (λ (n : List ℕ). list_any (bytes_eq n) trailer_names ≡ false) low both.1;
    }

pub sent_all : (all fs : List Pair) → list_all is_kept_field fs ≡ true → AllByRecursion IsSent (sent_among all fs)
sent_all all [] kept = tt
sent_all all (f ∷ fs) kept =
    by_test (not (is_left_out all (lowercase f.0))) refl (sent_all all fs (and_parts _ _ kept).1)
  where
    by_test : (b : Bool) → not (is_left_out all (lowercase f.0)) ≡ b → AllByRecursion IsSent (sent_among all fs)
        → AllByRecursion IsSent (cond b (f ∷ sent_among all fs) (sent_among all fs))
    by_test true sent later = (is_sent all f (and_parts _ _ kept).0 sent, later)
    by_test false sent later = later

-- ---- the section

all_fields : (fs : List Pair) → AllByRecursion IsSent fs → All IsField (fields_at fs)
all_fields [] all = All-nil IsField
all_fields (f ∷ fs) all = All-cons IsField (field_at f) (fields_at fs) all.0.field (all_fields fs all.1)

cut_is : (fs : List Pair) → AllByRecursion IsSent fs → length fs ≤ 100 → length (print_section (fields_at fs) crlf) ≤ 65536
    → section_cut (print_section (fields_at fs) crlf) ≡ whole (length (print_section (fields_at fs) crlf))
cut_is fs all few short =
    let section = print_section (fields_at fs) crlf in
    let is = all_fields fs all in
    let lines : whole_lines section ≡ map print_field (fields_at fs) ++ print_end crlf ∷ [] =
    ap whole_lines (sym (append-nil section)) ∙ whole_lines-section (fields_at fs) crlf [] is in
    let found : section_of (whole_lines section) ≡ Some (length (fields_at fs), length section) =
    ap section_of lines ∙ section_of-section (fields_at fs) crlf [] is in
    let few_lines = le-ltb 100 (length (fields_at fs)) (omega (arith, length-map fs field_at)) in
    ap window_section (take_all head_limit section short)
    ∙ ap (cut_lines (length section) 0 (length (whole_lines section))) found
    ∙ cond-false _ _ _ few_lines
    ∙ ap whole (zero-add (length section))

-- ---- what is kept of it

named_none : (fs : List Pair) → AllByRecursion IsSent fs → values_of (codes "connection") (map read_field fs) ≡ []
named_none [] all = refl
named_none (f ∷ fs) all =
    ap (λ b. map (λ (g : Pair). g.1) (cond b (read_field f ∷ filter (is_named (codes "connection")) (map read_field fs)) (filter (is_named (codes "connection")) (map read_field fs))))
    all.0.other
    ∙ named_none fs all.1

listed_none : (name : List ℕ) (all : List Pair) → values_of (codes "connection") all ≡ [] → is_listed name all ≡ false
listed_none name all none = ap (list_any (lists name)) none

pub values_read : (fs : List Pair) → map name_and_value (fields_at fs) ≡ map read_field fs
unfolding trim_ows
values_read [] = refl
values_read (f ∷ fs) = ap (λ (ps : List Pair). read_field f ∷ ps) (values_read fs)

lowered_same : (fs : List Pair) → AllByRecursion IsSent fs → map lowercase_name (map read_field fs) ≡ map read_field fs
lowered_same [] all = refl
lowered_same (f ∷ fs) all = λ t. (all.0.low t, trim_ows f.1) ∷ lowered_same fs all.1 t

kept_all : (all fs : List Pair) → values_of (codes "connection") all ≡ [] → AllByRecursion IsSent fs
    → filter (λ (f : Pair). not (is_trailer_dropped all f.0)) (map read_field fs) ≡ map read_field fs
kept_all all [] none sent = refl
kept_all all (f ∷ fs) none sent =
    let later = filter (λ (g : Pair). not (is_trailer_dropped all g.0)) (map read_field fs) in
    ap (λ b. cond (not (b || is_listed f.0 all)) (read_field f ∷ later) later) sent.0.passes
    ∙ ap (λ b. cond (not b) (read_field f ∷ later) later) (listed_none f.0 all none)
    ∙ ap (λ (ps : List Pair). read_field f ∷ ps) (kept_all all fs none sent.1)

kept_is : (fs : List Pair) → AllByRecursion IsSent fs → map read_field fs ≡ kept_trailers (map name_and_value (fields_at fs))
kept_is fs all =
    sym (ap kept_trailers (values_read fs)
    ∙ ap (λ (ps : List Pair). filter (λ (f : Pair). not (is_trailer_dropped (map read_field fs) f.0)) ps) (lowered_same fs all)
    ∙ kept_all (map read_field fs) fs (named_none fs all) all)

-- ---- the end

end_is : (at : ℕ) (fs : List Pair) → AllByRecursion IsSent fs → length fs ≤ 100 → length (print_section (fields_at fs) crlf) ≤ 65536
    → IsEnd at (print_section (fields_at fs) crlf) (section_cut (print_section (fields_at fs) crlf))
    (ended (map read_field fs) (at + length (print_section (fields_at fs) crlf)))
end_is at fs all few short =
    let section = print_section (fields_at fs) crlf in
    let taken : take (length section) section ≡ section = take_all (length section) section (omega arith) in
    let step = ended (map read_field fs) (at + length section) in
    let text : IsSectionText section (map read_field fs) = record {
      fields = fields_at fs;
      last = crlf;
      reads = (all_fields fs all, sym (append-nil section));
      are = kept_is fs all;
    } in
    let ends : EndsWith at section step = record { trailers = Some (map read_field fs); section = text; is = refl } in
    subst (λ (c : Cut). IsEnd at section c step) (sym (cut_is fs all few short))
    (subst (λ (t : List ℕ). EndsWith at t step) (sym taken) ends)

pub trailed_end_read_back : TrailedEndReadBack
trailed_end_read_back pieces fields room short fits are small =
    let sent = sent_fields fields.pairs in
    let all = sent_all fields.pairs fields.pairs are.kept in
    let few : length sent ≤ 100 =
    omega (arith, are.few, filter_fewer (λ (f : Pair). not (is_left_out fields.pairs (lowercase f.0))) fields.pairs) in
    let same = section_is sent in
    let some : 0 < length (section_wire fields) = omega (arith, length-append (field_lines sent) crlf_bytes) in
    ends_there room (trailed_wire pieces fields) (concat pieces) (section_wire fields) (map read_field sent)
    (trailers_read_back pieces fields room short fits) some
    (λ at. subst (λ (t : List ℕ). IsEnd at t (section_cut t) (ended (map read_field sent) (at + length t))) (sym same)
    (end_is at sent all few (omega (arith, ap length same, small))))
