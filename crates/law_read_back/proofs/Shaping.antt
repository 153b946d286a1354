-- Each operation on the fields of a request leaves them fields of a request, and so are those of each head that was judged.
use Rattle.std.proofs.Common.{◌≡◌, inl, inr, ℕ, ◌+◌, ◌<◌, ◌≤◌, ◌==◌, Bool, true, false, not, ◌&&◌, cond, List, [], ◌∷◌, ◌++◌, length, map, filter, take, refl, ap, ◌∙◌, sym, subst, arith, append_assoc, suc}
use Rattle.std.specs.Prelude.{Option, None, Some, MatchOption, is_none, Result, Ok, Err, bytes_eq, codes, unwrap_or, if◌then◌else◌}
use Rattle.std.specs.List.{list_all, list_any, flat_map}
use Rattle.std.proofs.lemmas.Bool.{and_parts}
use Rattle.std.proofs.lemmas.Bool.Decides.{nat_tests}
use Rattle.std.proofs.lemmas.List.{length-map}
use Rattle.abi_maps.specs.Maps.{set_by, added_to, replaced_in, removed_from, set_from}
use Rattle.http_header.specs.Token.{lowercase}
use Rattle.header_maps.specs.declared.kind.ListKind.{ListKind}
use Rattle.header_maps.specs.declared.kind.ListKind.TheVariants as kinds
use Rattle.header_maps.specs.Faults.{Fault, is_few, add_fault, replace_fault, remove_fault, has_each_once, are_names_for, are_values_for, set_fault, request_fault}
use Rattle.header_maps.specs.Headers.{Headers}
use Rattle.header_maps.specs.Judged.{is_field_name, is_field_value, is_method, is_scheme, is_authority, is_path}
use Rattle.header_maps.specs.Kept.{is_kept_field, AreFields, BeginsWith}
use Rattle.header_maps.specs.Kinds.{pseudo_names, is_name_for, is_value_for}
use Rattle.header_maps.specs.Operations.{added, replaced, removed, all_set, with_value, request_headers}
use Rattle.header_maps.specs.Pairs.{Pair, lowered, is_named, is_pseudo, plain_among, plain_count}
use Rattle.header_maps.proofs.Kept.{few_add, NameCase, pseudo, plain, name_case, plain_value}
use Rattle.header_maps.proofs.Replacing.{once_found, begins_put_pseudo, begins_put_plain, with_value_none}
use Rattle.header_maps.proofs.Shapes.{Counted, begins_counted, names_pseudo, begins_add, begins_without, kept_lowered, filter_all, plain_is_none, pseudo_lowercase, name_plain, bytes_are}
use Rattle.h1_model.specs.Fields.{values_of, passing_fields}
use Rattle.h1_model.specs.Head.{Head, HeadStep, found, host_of, measured, head_of_list, head_of_target, early_refusal, IsTargeted, pairs_of, IsAnswer, step_of, IsStepAt, SpellsStep}
use Rattle.h1_model.specs.Head as model
use Rattle.h1_model.specs.Length.{Measure, request_measure}
use Rattle.h1_model.specs.Lines.{Cut, whole, too_large, unfinished, head_cut, empty_line_bytes, after_empty_lines}
use Rattle.h1_model.specs.Listed.{with_fields, request_list, scheme_text}
use Rattle.h1_model.specs.Target.{TargetForm, Target}
use Rattle.httparse.specs.Grammar.{RequestHead}
use Rattle.httparse.proofs.OnLiterals.{httparse_on_literals}
use Rattle.pair_codec.specs.Reading.{pairs_in}
use Rattle.law_read_back.specs.Maps.{IsFieldList, HeadsHaveFieldLists}
use Rattle.law_read_back.proofs.Lists.{no_fault, unrefused, few_is}

counted : (l : Headers) → IsFieldList l → Counted (pseudo_names l.kind) l.pairs
counted l is = begins_counted l.kind (pseudo_names l.kind) l.pairs (names_pseudo l.kind) is.shape

-- ---- one operation

add_shapes : (l : Headers) (name value : List ℕ) → IsFieldList l → is_field_name name ≡ true → is_field_value value ≡ true → is_few (added l name value).pairs ≡ true → IsFieldList (added l name value)
add_shapes l name value is named valued few =
    let k : Counted (pseudo_names l.kind) l.pairs = counted l is in
    let most : plain_count (added l name value).pairs ≤ 100 = few_is (added l name value).pairs few in
    let room : length l.pairs < length (pseudo_names l.kind) + 100 = omega (arith, k.sum, most, few_add l.pairs name value named) in
    record { kind = is.kind; shape = begins_add l.kind (pseudo_names l.kind) l.pairs (lowercase name, value) is.shape (kept_lowered name value named valued) room }

put_shapes : (l : Headers) (name value : List ℕ) → IsFieldList l → is_name_for l.kind name ≡ true → is_value_for l.kind (lowercase name) value ≡ true → list_any (is_named (lowercase name)) l.pairs ≡ true
    → NameCase l.kind name value → IsFieldList (replaced l name value)
put_shapes l name value is named valued there (pseudo o) = record { kind = is.kind; shape = begins_put_pseudo l.kind (pseudo_names l.kind) l.pairs (lowercase name) value o.1 valued is.shape }
put_shapes l name value is named valued there (plain o) =
    let none = plain_is_none (lowercase name) (pseudo_names l.kind) (pseudo_lowercase name ∙ o.0) (names_pseudo l.kind) in
    let right : is_field_value value ≡ true = sym (plain_value l.kind name value o.0) ∙ valued in
    record { kind = is.kind; shape = begins_put_plain l.kind (pseudo_names l.kind) l.pairs (lowercase name) value none right there is.shape }

behind_shapes : (l : Headers) (name value : List ℕ) → IsFieldList l → is_name_for l.kind name ≡ true → is_value_for l.kind (lowercase name) value ≡ true → is_few (replaced l name value).pairs ≡ true
    → list_any (is_named (lowercase name)) l.pairs ≡ false → NameCase l.kind name value → IsFieldList (replaced l name value)
behind_shapes l name value is named valued few absent (pseudo o) =
    let found : list_any (is_named (lowercase name)) l.pairs ≡ true = once_found l.kind (pseudo_names l.kind) l.pairs (lowercase name) o.1 is.shape in
    absurd (cc)
behind_shapes l name value is named valued few absent (plain o) =
    let behind : with_value (lowercase name) value l.pairs ≡ l.pairs ++ (lowercase name, value) ∷ [] = with_value_none (lowercase name) value l.pairs absent in
    let right : is_field_value value ≡ true = sym (plain_value l.kind name value o.0) ∙ valued in
    let all : IsFieldList (added l name value) = add_shapes l name value is o.1 right (ap is_few (sym behind) ∙ few) in
    subst (λ (ps : List Pair). IsFieldList (record { kind = l.kind; pairs = ps })) (sym behind) all

replace_shapes : (l : Headers) (name value : List ℕ) → IsFieldList l → replace_fault l name value ≡ None → IsFieldList (replaced l name value)
replace_shapes l name value is none = by_found (list_any (is_named (lowercase name)) l.pairs) refl
  where
    right : (is_name_for l.kind name ≡ true) × (is_value_for l.kind (lowercase name) value ≡ true) × (is_few (replaced l name value).pairs ≡ true)
    right = no_fault (is_name_for l.kind name) (is_value_for l.kind (lowercase name) value) (is_few (replaced l name value).pairs) none

    by_found : (b : Bool) → list_any (is_named (lowercase name)) l.pairs ≡ b → IsFieldList (replaced l name value)
    by_found true there = put_shapes l name value is right.0 right.1 there (name_case l.kind name value right.0)
    by_found false absent = behind_shapes l name value is right.0 right.1 right.2 absent (name_case l.kind name value right.0)

-- ---- all fields set

filter_holds : (test : Pair → Bool) (ps : List Pair) → list_all test (filter test ps) ≡ true
filter_holds test [] = refl
filter_holds test (p ∷ ps) = by_test (filter_holds test ps) (test p) refl
  where
    by_test : list_all test (filter test ps) ≡ true → (b : Bool) → test p ≡ b → list_all test (cond b (p ∷ filter test ps) (filter test ps)) ≡ true
    by_test later true is = (λ i. is i && later i)
    by_test later false is = later

one_pair : (kind : ListKind) (n : List ℕ) (ns : List (List ℕ)) (of rest : List Pair) → (length of == 1) ≡ true → list_all (is_named n) of ≡ true → are_values_for kind of ≡ true
    → BeginsWith kind ns rest → BeginsWith kind (n ∷ ns) (map lowered of ++ rest)
one_pair kind n ns [] rest one named right b = absurd (cc)
one_pair kind n ns (p ∷ []) rest one named right b =
    let same : lowercase p.0 ≡ n = bytes_are (lowercase p.0) n (and_parts (is_named n p) true named).0 in
    (record { name_is = same; value = subst (λ (x : List ℕ). is_value_for kind x p.1 ≡ true) same (and_parts (is_value_for kind (lowercase p.0) p.1) true right).0 }, b)
one_pair kind n ns (p ∷ q ∷ ps) rest one named right b = absurd (two (length ps) one)
  where
    two : (k : ℕ) → (suc (suc k) == 1) ≡ true → ⊥
    two k is = grind (arith, nat_tests)

each_pair : (kind : ListKind) (names : List (List ℕ)) (given rest : List Pair) → list_all (λ name. length (filter (is_named name) given) == 1) names ≡ true → are_values_for kind given ≡ true → AreFields rest
    → BeginsWith kind names (flat_map (λ name. map lowered (filter (is_named name) given)) names ++ rest)
each_pair kind [] given rest once right fields = fields
each_pair kind (n ∷ ns) given rest once right fields =
    let both = and_parts (length (filter (is_named n) given) == 1) (list_all (λ name. length (filter (is_named name) given) == 1) ns) once in
    let of : List Pair = filter (is_named n) given in
    subst (BeginsWith kind (n ∷ ns)) (sym (append_assoc (map lowered of) (flat_map (λ name. map lowered (filter (is_named name) given)) ns) rest))
    (one_pair kind n ns of (flat_map (λ name. map lowered (filter (is_named name) given)) ns ++ rest) both.0 (filter_holds (is_named n) given)
    (filter_all (λ (f : Pair). is_value_for kind (lowercase f.0) f.1) (is_named n) given right) (each_pair kind ns given rest both.1 right fields))

fields_given : (kind : ListKind) (given : List Pair) → list_all (λ (f : Pair). is_name_for kind f.0) given ≡ true → are_values_for kind given ≡ true → list_all is_kept_field (map lowered (plain_among given)) ≡ true
fields_given kind [] names values = refl
fields_given kind (p ∷ ps) names values = by_pseudo (fields_given kind ps named.1 valued.1) (is_pseudo p.0) refl named.0
  where
    named : (is_name_for kind p.0 ≡ true) × (list_all (λ (f : Pair). is_name_for kind f.0) ps ≡ true)
    named = and_parts (is_name_for kind p.0) (list_all (λ (f : Pair). is_name_for kind f.0) ps) names

    valued : (is_value_for kind (lowercase p.0) p.1 ≡ true) × (are_values_for kind ps ≡ true)
    valued = and_parts (is_value_for kind (lowercase p.0) p.1) (are_values_for kind ps) values

    by_pseudo : list_all is_kept_field (map lowered (plain_among ps)) ≡ true → (b : Bool) → is_pseudo p.0 ≡ b → cond b (list_any (bytes_eq (lowercase p.0)) (pseudo_names kind)) (is_field_name p.0) ≡ true
        → list_all is_kept_field (map lowered (cond (not b) (p ∷ plain_among ps) (plain_among ps))) ≡ true
    by_pseudo later true is name = later
    by_pseudo later false is name = (λ i. kept_lowered p.0 p.1 name (sym (plain_value kind p.0 p.1 is) ∙ valued.0) i && later i)

set_shapes : (kind : ListKind) (given : List Pair) → kind ≡ kinds.Request → set_fault kind given ≡ None → IsFieldList (all_set kind given)
set_shapes kind given of none =
    let right = no_fault (are_names_for kind given) (are_values_for kind given) (is_few given) none in
    let names = and_parts (list_all (λ (f : Pair). is_name_for kind f.0) given) (has_each_once kind given) right.0 in
    let few : plain_count given ≤ 100 = few_is given right.2 in
    record {
      kind = of;
      shape = each_pair kind (pseudo_names kind) given (map lowered (plain_among given)) names.1 right.1
          (record { kept = fields_given kind given names.0 right.1; few = omega (arith, few, length-map (plain_among given) lowered) });
    }

-- ---- what a call of a filter makes of them

pub adding_shapes : (name value : List ℕ) (l m : Headers) → IsFieldList l → added_to name value l ≡ Ok m → IsFieldList m
adding_shapes name value l m is made =
    let u = unrefused (add_fault l name value) (added l name value) m made in
    let right = no_fault (is_field_name name) (is_field_value value) (is_few (added l name value).pairs) u.0 in
    subst IsFieldList u.1 (add_shapes l name value is right.0 right.1 right.2)

pub replacing_shapes : (name value : List ℕ) (l m : Headers) → IsFieldList l → replaced_in name value l ≡ Ok m → IsFieldList m
replacing_shapes name value l m is made =
    let u = unrefused (replace_fault l name value) (replaced l name value) m made in
    subst IsFieldList u.1 (replace_shapes l name value is u.0)

pub removing_shapes : (name : List ℕ) (l m : Headers) → IsFieldList l → removed_from name l ≡ Ok m → IsFieldList m
removing_shapes name l m is made =
    let u = unrefused (remove_fault name) (removed l name) m made in
    let named : is_field_name name ≡ true = (no_fault (is_field_name name) true true u.0).0 in
    let none = plain_is_none (lowercase name) (pseudo_names l.kind) (pseudo_lowercase name ∙ name_plain name named) (names_pseudo l.kind) in
    subst IsFieldList u.1 (record { kind = is.kind; shape = begins_without l.kind (pseudo_names l.kind) l.pairs (lowercase name) none is.shape })

set_by_shapes : (o : Option (List Pair)) (l m : Headers) → IsFieldList l → set_by o l ≡ Ok m → IsFieldList m
set_by_shapes None l m is made = absurd (cc)
set_by_shapes (Some pairs) l m is made =
    let u = unrefused (set_fault l.kind pairs) (all_set l.kind pairs) m made in
    subst IsFieldList u.1 (set_shapes l.kind pairs is.kind u.0)

pub setting_shapes : (bytes : List ℕ) (l m : Headers) → IsFieldList l → set_from bytes l ≡ Ok m → IsFieldList m
setting_shapes bytes l m is made = set_by_shapes (pairs_in bytes) l m is made

-- ---- the fields of a head that was judged

fields_shape : (l : Headers) (fields : List Pair) (out : Headers) → IsFieldList l → with_fields l fields ≡ Some out → IsFieldList out
fields_shape l [] out is e = let same : l ≡ out = cc in subst IsFieldList same is
fields_shape l (f ∷ fields) out is e = by_fault (add_fault l f.0 f.1) refl (λ here. fields_shape (added l f.0 f.1) fields out here) e
  where
    by_fault : (o : Option Fault) → add_fault l f.0 f.1 ≡ o → (IsFieldList (added l f.0 f.1) → with_fields (added l f.0 f.1) fields ≡ Some out → IsFieldList out)
        → (if is_none o then with_fields (added l f.0 f.1) fields else None) ≡ Some out → IsFieldList out
    by_fault None none go more =
        let right = no_fault (is_field_name f.0) (is_field_value f.1) (is_few (added l f.0 f.1).pairs) none in
        go (add_shapes l f.0 f.1 is right.0 right.1 right.2) more
    by_fault (Some fault) none go more = absurd (cc)

first_shapes : (method scheme authority path : List ℕ) → request_fault method scheme authority path ≡ None → IsFieldList (request_headers method scheme authority path)
unfolding httparse_on_literals
first_shapes method scheme authority path none =
    let right : (is_method method && is_scheme scheme && is_authority authority && is_path path) ≡ true
    = (no_fault true (is_method method && is_scheme scheme && is_authority authority && is_path path) true none).1 in
    let one = and_parts ((is_method method && is_scheme scheme) && is_authority authority) (is_path path) right in
    let two = and_parts (is_method method && is_scheme scheme) (is_authority authority) one.0 in
    let three = and_parts (is_method method) (is_scheme scheme) two.0 in
    record {
      kind = refl;
      shape = (record { name_is = refl; value = three.0 }, (record { name_is = refl; value = three.1 }, (record { name_is = refl; value = two.1 }, (record { name_is = refl; value = one.1 }, record { kept = refl; few = omega arith }))));
    }

list_shapes : (method : List ℕ) (t : Target) (host : List ℕ) (fields : List Pair) (headers : Headers) → request_list method t host fields ≡ Some headers → IsFieldList headers
list_shapes method t host fields headers is = by_fault (request_fault method (scheme_text t.scheme) (unwrap_or t.authority host) t.path) refl is
  where
    by_fault : (o : Option Fault) → request_fault method (scheme_text t.scheme) (unwrap_or t.authority host) t.path ≡ o
        → (if is_none o then with_fields (request_headers method (scheme_text t.scheme) (unwrap_or t.authority host) t.path) (passing_fields fields) else None) ≡ Some headers → IsFieldList headers
    by_fault None none e =
        fields_shape (request_headers method (scheme_text t.scheme) (unwrap_or t.authority host) t.path) (passing_fields fields) headers (first_shapes method (scheme_text t.scheme) (unwrap_or t.authority host) t.path none) e
    by_fault (Some fault) none e = absurd (cc)

module _ (h : Head) where
  by_list : (o : Option Headers) (form : Option TargetForm) (minor : ℕ) (fields : List Pair) (m : Result Measure ℕ) → ((l : Headers) → o ≡ Some l → IsFieldList l) → Ok h ≡ head_of_list 400 o form minor fields m → IsFieldList h.fields
  by_list None form minor fields m shapes is = absurd (cc)
  by_list (Some l) form minor fields (Ok measure) shapes is =
      let same : h ≡ model.head_of l form minor fields measure = cc in
      subst IsFieldList (sym (ap (λ (k : Head). k.fields) same)) (shapes l refl)
  by_list (Some l) form minor fields (Err number) shapes is = absurd (cc)

  by_head : (head : RequestHead) → model.IsJudged head.method head.target head.minor (pairs_of head) (Ok h) → IsFieldList h.fields
  by_head head judged = by_early (early_refusal head.method head.minor (pairs_of head)) judged
    where
      host : List ℕ
      host = host_of (values_of (codes "host") (pairs_of head))

      by_parts : (p : Option Target) → Ok h ≡ head_of_target head.method head.minor (pairs_of head) p → IsFieldList h.fields
      by_parts None e = absurd (cc)
      by_parts (Some t) e =
          by_list (request_list head.method t host (pairs_of head)) (Some t.form) head.minor (pairs_of head)
          (request_measure head.minor (values_of (codes "transfer-encoding") (pairs_of head)) (values_of (codes "content-length") (pairs_of head)))
          (λ l is. list_shapes head.method t host (pairs_of head) l is) e

      by_early : (o : Option ℕ) → MatchOption o (IsTargeted head.method head.target head.minor (pairs_of head) (Ok h)) (λ n. ◌≡◌ {A = Result Head ℕ} (Ok h) (Err n)) → IsFieldList h.fields
      by_early None x = by_parts x.parts x.is
      by_early (Some n) x = absurd (cc)

  shape_of : (text : List ℕ) (used : ℕ) → SpellsStep text (found h used) → IsFieldList h.fields
  shape_of text used spells = by_cut (after_empty_lines text) (head_cut (after_empty_lines text)) spells
    where
      by_answer : (front : List ℕ) → IsAnswer front (Ok h) → IsFieldList h.fields
      by_answer front (inl a) = by_head a.head a.judged
      by_answer front (inr a) = let e : ◌≡◌ {A = Result Head ℕ} (Ok h) (Err 400) = a.is in absurd (cc)

      by_result : (front : List ℕ) (n : ℕ) (answer : Result Head ℕ) → IsAnswer front answer → found h used ≡ step_of n answer → IsFieldList h.fields
      by_result front n (Ok k) answers is = let same : k ≡ h = cc in by_answer front (subst (λ (j : Head). IsAnswer front (Ok j)) same answers)
      by_result front n (Err number) answers is = absurd (cc)

      by_cut : (rest : List ℕ) (cut : Cut) → IsStepAt IsAnswer 431 (empty_line_bytes text) rest cut (found h used) → IsFieldList h.fields
      by_cut rest (whole len) is = by_result (take len rest) (empty_line_bytes text + len) is.0 is.1 is.2
      by_cut rest too_large is = absurd (cc)
      by_cut rest unfinished is = absurd (cc)

pub heads_have_field_lists : HeadsHaveFieldLists
heads_have_field_lists h judged = shape_of h judged.text judged.used judged.spells
