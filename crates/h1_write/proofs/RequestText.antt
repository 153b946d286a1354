-- The list of a request head, and the fields of it that are written.
use Rattle.std.proofs.Common.{◌≡◌, ℕ, Bool, true, false, cond, not, ◌||◌, List, [], ◌∷◌, ◌++◌, codes, refl, sym, ap, subst, ◌∙◌, arith}
use Rattle.std.proofs.lemmas.Bool.{and_from, and_parts, false≢true}
use Rattle.std.proofs.lemmas.Bool.Decides.{nat_tests}
use Rattle.std.proofs.lemmas.List.Folds.{list_all-append}
use Rattle.std.specs.List.{AllByRecursion, list_all, find}
use Rattle.std.specs.Option.{option_map}
use Rattle.std.specs.Prelude.{unwrap_or}
use Rattle.http_header.specs.Token as token
use Rattle.http_header.specs.Token.{lowercase}
use Rattle.httparse.proofs.OnLiterals.{httparse_on_literals}
use Rattle.header_maps.specs.declared.kind.ListKind.{ListKind}
use Rattle.header_maps.specs.declared.kind.ListKind.TheVariants as kinds
use Rattle.header_maps.specs.Judged.{is_method, is_authority, is_path, is_visible}
use Rattle.header_maps.specs.Kept.{is_kept_field, AreFields, BeginsWith, IsHeaders}
use Rattle.header_maps.specs.Kinds.{pseudo_names}
use Rattle.header_maps.specs.Pairs.{is_named}
use Rattle.h1_model.specs.Fields.{Pair, is_hop_name, is_listed}
use Rattle.h1_model.specs.Framing.{Framing}
use Rattle.h1_model.specs.Head.{Head}
use Rattle.h1_model.specs.Wire.{is_left_out, sent_among, sent_fields}
use Rattle.h1_write.specs.Heads.{framing_fields, IsTail, IsInLimit}
use Rattle.h1_write.specs.Requests.{method_of, path_of, authority_of, request_fields}
use Rattle.h1_write.proofs.Ending.{IsSent, sent_all, kept_low}
use Rattle.h1_write.proofs.HeadText.{kept_out, framing_all}
use Rattle.h1_write.proofs.Written.{IsOut}

-- ---- the list

-- the pseudo-headers of a request, and then fields
record Shape (pairs : List Pair) : Type 0 where
  method : List ℕ
  scheme : List ℕ
  authority : List ℕ
  path : List ℕ
  fields : List Pair
  are : pairs ≡ (codes ":method", method) ∷ (codes ":scheme", scheme) ∷ (codes ":authority", authority) ∷ (codes ":path", path) ∷ fields
  kept : AreFields fields
  method_is : is_method method ≡ true
  authority_is : is_authority authority ≡ true
  path_is : is_path path ≡ true

shape : (pairs : List Pair) → BeginsWith kinds.Request (pseudo_names kinds.Request) pairs → Shape pairs
unfolding httparse_on_literals
shape [] begins = absurd begins
shape (m ∷ []) begins = absurd begins.1
shape (m ∷ s ∷ []) begins = absurd begins.1.1
shape (m ∷ s ∷ a ∷ []) begins = absurd begins.1.1.1
shape (m ∷ s ∷ a ∷ p ∷ fields) begins = record {
  method = m.1;
  scheme = s.1;
  authority = a.1;
  path = p.1;
  fields = fields;
  are = λ t. (begins.0.name_is t, m.1) ∷ (begins.1.0.name_is t, s.1) ∷ (begins.1.1.0.name_is t, a.1) ∷ (begins.1.1.1.0.name_is t, p.1) ∷ fields;
  kept = begins.1.1.1.1;
  method_is = begins.0.value;
  authority_is = begins.1.1.0.value;
  path_is = begins.1.1.1.0.value;
}

-- the same of a head, by the values of its list
pub record RequestList (h : Head) : Type 0 where
  pub scheme : List ℕ
  pub fields : List Pair
  pub are : h.fields.pairs
      ≡ (codes ":method", method_of h) ∷ (codes ":scheme", scheme) ∷ (codes ":authority", authority_of h) ∷ (codes ":path", path_of h) ∷ fields
  pub kept : AreFields fields
  pub method_is : is_method (method_of h) ≡ true
  pub authority_is : is_authority (authority_of h) ≡ true
  pub path_is : is_path (path_of h) ≡ true

abbrev value_in : List ℕ → List Pair → List ℕ
value_in name pairs = unwrap_or (option_map (λ (f : Pair). f.1) (find (is_named (lowercase name)) pairs)) []

-- the values that are found
record Found (pairs : List Pair) (s : Shape pairs) : Type 0 where
  method : s.method ≡ value_in (codes ":method") pairs
  authority : s.authority ≡ value_in (codes ":authority") pairs
  path : s.path ≡ value_in (codes ":path") pairs

found_in : (pairs : List Pair) (s : Shape pairs) → Found pairs s
unfolding httparse_on_literals
found_in pairs s = record {
  method = sym (ap (value_in (codes ":method")) s.are);
  authority = sym (ap (value_in (codes ":authority")) s.are);
  path = sym (ap (value_in (codes ":path")) s.are);
}

pub request_list : (h : Head) → h.fields.kind ≡ kinds.Request → IsHeaders h.fields → RequestList h
request_list h kind is =
    let begins : BeginsWith kinds.Request (pseudo_names kinds.Request) h.fields.pairs =
    subst (λ (k : ListKind). BeginsWith k (pseudo_names k) h.fields.pairs) kind is.shape in
    let s = shape h.fields.pairs begins in
    let f = found_in h.fields.pairs s in
    record {
      scheme = s.scheme;
      fields = s.fields;
      are = s.are ∙ (λ t. (codes ":method", f.method t) ∷ (codes ":scheme", s.scheme) ∷ (codes ":authority", f.authority t) ∷ (codes ":path", f.path t) ∷ s.fields);
      kept = s.kept;
      method_is = subst (λ (m : List ℕ). is_method m ≡ true) f.method s.method_is;
      authority_is = subst (λ (a : List ℕ). is_authority a ≡ true) f.authority s.authority_is;
      path_is = subst (λ (p : List ℕ). is_path p ≡ true) f.path s.path_is;
    }

-- ---- the fields that go out

four_out : (all fields : List Pair) (m s a p : List ℕ)
    → sent_among all ((codes ":method", m) ∷ (codes ":scheme", s) ∷ (codes ":authority", a) ∷ (codes ":path", p) ∷ fields) ≡ sent_among all fields
unfolding httparse_on_literals
four_out all fields m s a p = refl

sent_is : (h : Head) (list : RequestList h) → sent_fields h.fields.pairs ≡ sent_among h.fields.pairs list.fields
sent_is h list =
    ap (sent_among h.fields.pairs) list.are ∙ four_out h.fields.pairs list.fields (method_of h) list.scheme (authority_of h) (path_of h)

pub request_sent : (h : Head) → RequestList h → AllByRecursion IsSent (sent_fields h.fields.pairs)
request_sent h list =
    subst (λ (fs : List Pair). AllByRecursion IsSent fs) (sym (sent_is h list)) (sent_all h.fields.pairs list.fields list.kept.kept)

no_hop : (p h l n : Bool) → not (p || ((h || l) || n)) ≡ true → h ≡ false
no_hop true h l n is = absurd (false≢true is)
no_hop false true l n is = absurd (false≢true is)
no_hop false false l n is = refl

out_among : (all fs : List Pair) → list_all is_kept_field fs ≡ true → AllByRecursion (IsOut is_hop_name) (sent_among all fs)
out_among all [] kept = tt
out_among all (f ∷ fs) kept =
    let both = and_parts (is_kept_field f) (list_all is_kept_field fs) kept in
    by_test (not (is_left_out all (lowercase f.0))) refl both.0 (out_among all fs both.1)
  where
    by_test : (b : Bool) → not (is_left_out all (lowercase f.0)) ≡ b → is_kept_field f ≡ true → AllByRecursion (IsOut is_hop_name) (sent_among all fs)
        → AllByRecursion (IsOut is_hop_name) (cond b (f ∷ sent_among all fs) (sent_among all fs))
    by_test true sent first later =
        let low = kept_low f first in
        let no = no_hop _ (is_hop_name (lowercase f.0)) (is_listed (lowercase f.0) all) _ sent in
        (record { low = low; stays = sym (ap is_hop_name low) ∙ no }, later)
    by_test false sent first later = later

pub request_out : (h : Head) → RequestList h → AllByRecursion (IsOut is_hop_name) (sent_fields h.fields.pairs)
request_out h list =
    subst (λ (fs : List Pair). AllByRecursion (IsOut is_hop_name) fs) (sym (sent_is h list)) (out_among h.fields.pairs list.fields list.kept.kept)

visible_passes : (b : ℕ) → is_visible b ≡ true → token.is_value_byte b ≡ true
visible_passes b is = grind (arith, nat_tests)

visible_pass : (bs : List ℕ) → list_all is_visible bs ≡ true → list_all token.is_value_byte bs ≡ true
visible_pass [] are = refl
visible_pass (b ∷ bs) are =
    let both = and_parts (is_visible b) (list_all is_visible bs) are in and_from _ _ (visible_passes b both.0) (visible_pass bs both.1)

host_kept : (authority : List ℕ) → is_authority authority ≡ true → is_kept_field (codes "host", authority) ≡ true
unfolding httparse_on_literals token.is_token_byte
host_kept authority is = visible_pass authority is

pub request_all : (framing : Framing) (h : Head) → RequestList h → IsTail h.tail.pairs → IsInLimit framing
    → list_all is_kept_field (request_fields framing h) ≡ true
request_all framing h list tail small =
    let sent : list_all is_kept_field (sent_fields h.fields.pairs) ≡ true =
    ap (list_all is_kept_field) (sent_is h list) ∙ kept_out h.fields.pairs list.fields list.kept.kept in
    and_from _ _ (host_kept (authority_of h) list.authority_is)
    (list_all-append is_kept_field (sent_fields h.fields.pairs) (framing_fields framing ++ h.tail.pairs)
    ∙ and_from _ _ sent (list_all-append is_kept_field (framing_fields framing) h.tail.pairs ∙ and_from _ _ (framing_all framing small) tail.kept))
