-- The text that a request head is written as, and where it ends.
use Rattle.std.proofs.Common.{◌≡◌, ℕ, ◌+◌, ◌<◌, ◌≤◌, Bool, true, false, eqb, not, ◌||◌, ◌&&◌, List, [], ◌∷◌, ◌++◌, map, length, get_or, codes, bytes_eq, refl, sym, ap, subst, ◌∙◌, append_assoc, arith}
use Rattle.std.proofs.lemmas.Bool.{and_parts, cond-false, le-ltb, false≢true}
use Rattle.std.proofs.lemmas.Bool.Decides.{nat_tests}
use Rattle.std.proofs.lemmas.Grind.{flat_map-append}
use Rattle.std.proofs.lemmas.List.{append-nil, take_all}
use Rattle.std.proofs.lemmas.List.Elements.{All-cons, All-nil}
use Rattle.std.proofs.lemmas.List.Sums.{AllPass-from_list_all}
use Rattle.std.proofs.lemmas.Str.{IsUtf8-from_ascii}
use Rattle.std.proofs.lemmas.Str.Ascii.{IsAscii-from_all}
use Rattle.std.specs.List.{list_all}
use Rattle.std.specs.Prelude.{All, IsTrue, nat_lt}
use Rattle.httparse.specs.Ascii.{crlf_bytes}
use Rattle.httparse.specs.Grammar.{AllPass, is_token_byte, is_uri_byte, crlf, print_field, print_end, print_section, print_version, RequestHead, IsRequestHead, print_request}
use Rattle.header_maps.specs.declared.kind.ListKind.{ListKind}
use Rattle.header_maps.specs.declared.kind.ListKind.TheVariants as kinds
use Rattle.header_maps.specs.Judged.{is_token_text, is_path, is_path_byte}
use Rattle.header_maps.proofs.Shapes.{bytes_are}
use Rattle.h1_model.specs.Framing.{Framing, framing_line, start_lines, head_wire}
use Rattle.h1_model.specs.Head.{Head}
use Rattle.h1_model.specs.Lines.{whole, too_large, is_empty_line, empty_line_bytes, window_cut, empty_len, whole_lines}
use Rattle.h1_model.specs.Wire.{field_line, field_lines, sent_fields, request_line}
use Rattle.h1_model.proofs.GrammarLines.{AreParts, first_line, whole_lines-head, length-head, window_cut-head, token_first, request_words-line, request_parts, request_prints}
use Rattle.h1_write.specs.Heads.{framing_fields, written_fields, IsTail, IsInLimit}
use Rattle.h1_write.specs.Requests.{method_of, path_of, authority_of, request_fields}
use Rattle.h1_write.proofs.Ending.{fields_at, section_is, token_read}
use Rattle.h1_write.proofs.HeadText.{IsWhole, framing_is}
use Rattle.h1_write.proofs.RequestText.{RequestList, request_all}
use Rattle.h1_write.proofs.Written.{fields_all}

-- ---- the text

abbrev pub tree_of : Framing → Head → RequestHead
tree_of framing h = record {
  blank = [];
  method = method_of h;
  target = path_of h;
  minor = 1;
  line_end = crlf;
  fields = fields_at (request_fields framing h);
  last = crlf;
}

pub printed : (framing : Framing) (h : Head) → h.fields.kind ≡ kinds.Request → head_wire framing h ≡ print_request (tree_of framing h)
unfolding print_request
printed framing h kind =
    let sent = sent_fields h.fields.pairs in
    let told = framing_fields framing in
    let tail = h.tail.pairs in
    let host = field_line (codes "host", authority_of h) in
    let lines : field_lines sent ++ (framing_line framing ++ (field_lines tail ++ crlf_bytes)) ≡ field_lines (written_fields framing h) ++ crlf_bytes =
    ap (λ (t : List ℕ). field_lines sent ++ (t ++ (field_lines tail ++ crlf_bytes))) (framing_is framing)
    ∙ ap (λ (t : List ℕ). field_lines sent ++ t) (sym (append_assoc (field_lines told) (field_lines tail) crlf_bytes))
    ∙ ap (λ (t : List ℕ). field_lines sent ++ (t ++ crlf_bytes)) (sym (flat_map-append field_line told tail))
    ∙ sym (append_assoc (field_lines sent) (field_lines (told ++ tail)) crlf_bytes)
    ∙ ap (λ (t : List ℕ). t ++ crlf_bytes) (sym (flat_map-append field_line sent (told ++ tail))) in
    let with_host : host ++ (field_lines sent ++ (framing_line framing ++ (field_lines tail ++ crlf_bytes))) ≡ field_lines (request_fields framing h) ++ crlf_bytes =
    ap (λ (t : List ℕ). host ++ t) lines ∙ sym (append_assoc host (field_lines (written_fields framing h)) crlf_bytes) in
    ap (λ (k : ListKind). start_lines h k ++ field_lines sent ++ framing_line framing ++ field_lines tail ++ crlf_bytes) kind
    ∙ parts (request_line h) host (field_lines sent) (framing_line framing) (field_lines tail) crlf_bytes
    ∙ ap (λ (t : List ℕ). request_line h ++ t) (with_host ∙ section_is (request_fields framing h))
  where
    parts : (a o b f t c : List ℕ) → a ++ o ++ b ++ f ++ t ++ c ≡ a ++ (o ++ (b ++ (f ++ (t ++ c))))
    parts a o b f t c = simp append_assoc

-- ---- it is a head

path_byte_uri : (b : ℕ) → is_path_byte b ≡ true → (is_uri_byte b ≡ true) × (b < 128)
path_byte_uri b is = (grind (arith, nat_tests), grind (arith, nat_tests))

-- a path is some bytes that are visible
record IsVisible (path : List ℕ) : Type 0 where
  some : 0 < length path
  uri : AllPass is_uri_byte path
  plain : All (λ b. b < 128) path

all_uri : (bs : List ℕ) → list_all is_path_byte bs ≡ true → AllPass is_uri_byte bs × All (λ b. b < 128) bs
all_uri [] are = (All-nil (λ b. IsTrue (is_uri_byte b)), All-nil (λ b. b < 128))
all_uri (b ∷ bs) are =
    let both = and_parts (is_path_byte b) (list_all is_path_byte bs) are in
    let first = path_byte_uri b both.0 in
    let later = all_uri bs both.1 in
    (All-cons (λ b. IsTrue (is_uri_byte b)) b bs first.0 later.0, All-cons (λ b. b < 128) b bs first.1 later.1)

some_bytes : (path : List ℕ) → eqb (get_or path 0 0) 47 ≡ true → 0 < length path
some_bytes [] is = absurd (false≢true is)
some_bytes (b ∷ path) is = omega arith

path_visible : (path : List ℕ) → is_path path ≡ true → IsVisible path
path_visible path is = by_star (bytes_eq path (codes "*")) refl is
  where
    by_star : (b : Bool) → bytes_eq path (codes "*") ≡ b → (b || (eqb (get_or path 0 0) 47 && list_all is_path_byte path)) ≡ true → IsVisible path
    by_star true e is =
        let same : codes "*" ≡ path = sym (bytes_are path (codes "*") e) in
        let of = all_uri (codes "*") refl in
        subst IsVisible same (record { some = omega arith; uri = of.0; plain = of.1 })
    by_star false e is =
        let both = and_parts (eqb (get_or path 0 0) 47) (list_all is_path_byte path) is in
        let of = all_uri path both.1 in
        record { some = some_bytes path both.0; uri = of.0; plain = of.1 }

pub tree_is : (framing : Framing) (h : Head) → RequestList h → IsTail h.tail.pairs → IsInLimit framing → IsRequestHead (tree_of framing h)
tree_is framing h list tail small =
    let token = token_read (method_of h) (and_parts (is_token_text (method_of h)) (not (bytes_eq (method_of h) (codes "CONNECT"))) list.method_is).0 in
    let path = path_visible (path_of h) list.path_is in
    record {
      method = (token.0, AllPass-from_list_all is_token_byte (method_of h) token.1);
      target = (path.some, path.uri);
      target_text = IsUtf8-from_ascii (path_of h) (IsAscii-from_all (path_of h) path.plain);
      minor = omega arith;
      fields = fields_all (request_fields framing h) (request_all framing h list tail small);
    }

-- ---- where it ends

pub tree_whole : (tree : RequestHead) → IsRequestHead tree → tree.blank ≡ [] → length tree.fields ≤ 100 → length (print_request tree) ≤ 65536
    → IsWhole (print_request tree)
tree_whole tree is blank few short =
    let text = print_request tree in
    let p = request_parts tree in
    let are : AreParts p = record { words = request_words-line tree is; fields = is.fields } in
    let lines = whole_lines-head text p [] (request_prints tree) are blank in
    let behind = 32 ∷ (tree.target ++ 32 ∷ print_version tree.minor) in
    let first : is_empty_line (first_line p) ≡ false =
    ap is_empty_line (append_assoc tree.method behind (print_end tree.line_end))
    ∙ token_first tree.method (behind ++ print_end tree.line_end) is.method.0 is.method.1 in
    let after = map print_field p.fields ++ print_end p.last ∷ whole_lines [] in
    let skip : empty_line_bytes text ≡ 0 =
    ap empty_line_bytes (sym (append-nil text)) ∙ ap empty_len lines
    ∙ cond-false (is_empty_line (first_line p)) (length (first_line p) + empty_len after) 0 first in
    let few_lines : nat_lt 100 (length p.fields) ≡ false = le-ltb 100 (length p.fields) few in
    record {
      none = skip;
      cut = ap window_cut (take_all 65536 text short ∙ sym (append-nil text))
          ∙ window_cut-head text p [] (request_prints tree) are blank
          ∙ cond-false (nat_lt 100 (length p.fields)) too_large (whole (length (first_line p) + length (print_section p.fields p.last))) few_lines
          ∙ ap whole (sym (length-head text p (request_prints tree) blank));
    }
