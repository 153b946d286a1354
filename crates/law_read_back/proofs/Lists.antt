-- The calls of filters keep the list of a request.
use Rattle.std.proofs.Common.{◌≡◌, ℕ, ◌<◌, ◌≤◌, Bool, true, false, List, [], ◌∷◌, ◌++◌, length, Option, None, Some, Ok, codes, refl, ap, ◌∙◌, sym, subst, arith, lit≤}
use Rattle.std.proofs.lemmas.Bool.{leb-true}
use Rattle.std.specs.List.{list_any}
use Rattle.abi_maps.specs.Maps.{unless, set_by}
use Rattle.header_maps.specs.Faults.{Fault, first_fault, is_few, add_fault, replace_fault, remove_fault, are_names_for, are_values_for, set_fault}
use Rattle.header_maps.specs.Headers.{Headers}
use Rattle.header_maps.specs.Judged.{is_field_name, is_field_value}
use Rattle.header_maps.specs.Kept.{IsHeaders, byte_limit}
use Rattle.header_maps.specs.Kinds.{is_name_for, is_value_for}
use Rattle.header_maps.specs.Operations.{added, replaced, removed, all_set, with_value}
use Rattle.header_maps.specs.Pairs.{Pair, is_named, plain_count}
use Rattle.header_maps.specs.declared.kind.ListKind.TheVariants as kinds
use Rattle.header_maps.proofs.Kept.{few_add, headers_add, headers_put, headers_without, replace_none}
use Rattle.header_maps.proofs.Replacing.{with_value_none}
use Rattle.header_maps.proofs.Setting.{headers_set}
use Rattle.http_header.specs.Token.{lowercase}
use Rattle.http_header.specs.Token as token
use Rattle.httparse.proofs.OnLiterals.{httparse_on_literals}
use Rattle.law_lines.proofs.Readable.{IsRight, is_right}
use Rattle.law_read_back.specs.Lists.{Changes, adds, replaces, removes, sets, FiltersKeepLists, HeadsHaveLists, ListExample}
use Rattle.law_read_back.specs.Sent.{IsRequestList}
use Rattle.law_read_back.proofs.Worked.{asked_list}

pub no_fault : (a b c : Bool) → first_fault a b c ≡ None → (a ≡ true) × (b ≡ true) × (c ≡ true)
no_fault true true true is = (refl, refl, refl)
no_fault true true false is = absurd (cc)
no_fault true false c is = absurd (cc)
no_fault false b c is = absurd (cc)

-- what was refused became nothing
pub unrefused : (o : Option Fault) (l m : Headers) → unless o l ≡ Ok m → (o ≡ None) × (l ≡ m)
unrefused None l m is = (refl, cc)
unrefused (Some f) l m is = absurd (cc)

pub few_is : (pairs : List Pair) → is_few pairs ≡ true → plain_count pairs ≤ 100
few_is pairs is = leb-true (plain_count pairs) 100 is

add_keeps : (l : Headers) (name value : List ℕ) → IsHeaders l → length value ≤ byte_limit → add_fault l name value ≡ None → IsHeaders (added l name value)
add_keeps l name value is short none =
    let right = no_fault (is_field_name name) (is_field_value value) (is_few (added l name value).pairs) none in
    let few : plain_count (added l name value).pairs ≤ 100 = few_is (added l name value).pairs right.2 in
    let room : plain_count l.pairs < 100 = omega (arith, few, few_add l.pairs name value right.0) in
    headers_add l.kind l.pairs name value is right.0 right.1 short room

replace_keeps : (l : Headers) (name value : List ℕ) → IsHeaders l → length value ≤ byte_limit → replace_fault l name value ≡ None → IsHeaders (replaced l name value)
replace_keeps l name value is short none = by_found (list_any (is_named (lowercase name)) l.pairs) refl
  where
    right : (is_name_for l.kind name ≡ true) × (is_value_for l.kind (lowercase name) value ≡ true) × (is_few (replaced l name value).pairs ≡ true)
    right = no_fault (is_name_for l.kind name) (is_value_for l.kind (lowercase name) value) (is_few (replaced l name value).pairs) none

    by_found : (b : Bool) → list_any (is_named (lowercase name)) l.pairs ≡ b → IsHeaders (replaced l name value)
    by_found true there = headers_put l.kind l.pairs name value is right.0 right.1 short there
    by_found false there =
        let behind : with_value (lowercase name) value l.pairs ≡ l.pairs ++ (lowercase name, value) ∷ [] = with_value_none (lowercase name) value l.pairs there in
        let all : IsHeaders (added l name value) = add_keeps l name value is short (replace_none l name value is right.0 right.1 there ∙ none) in
        subst (λ (ps : List Pair). IsHeaders (record { kind = l.kind; pairs = ps })) (sym behind) all

one_keeps : (l m : Headers) → IsRequestList l → Changes l m → IsRequestList m
one_keeps l m is (adds name value short made) =
    let u = unrefused (add_fault l name value) (added l name value) m made in
    subst IsRequestList u.1 (record { kind = is.kind; list = add_keeps l name value is.list short u.0 })
one_keeps l m is (replaces name value short made) =
    let u = unrefused (replace_fault l name value) (replaced l name value) m made in
    subst IsRequestList u.1 (record { kind = is.kind; list = replace_keeps l name value is.list short u.0 })
one_keeps l m is (removes name made) =
    let u = unrefused (remove_fault name) (removed l name) m made in
    subst IsRequestList u.1 (record { kind = is.kind; list = headers_without l.kind l.pairs name is.list (no_fault (is_field_name name) true true u.0).0 })
one_keeps l m is (sets bytes pairs read short made) =
    let set : unless (set_fault l.kind pairs) (all_set l.kind pairs) ≡ Ok m = sym (ap (λ (o : Option (List Pair)). set_by o l) read) ∙ made in
    let u = unrefused (set_fault l.kind pairs) (all_set l.kind pairs) m set in
    let right = no_fault (are_names_for l.kind pairs) (are_values_for l.kind pairs) (is_few pairs) u.0 in
    subst IsRequestList u.1 (record { kind = is.kind; list = headers_set l.kind pairs right.0 right.1 (few_is pairs right.2) short })

pub filters_keep_lists : FiltersKeepLists
filters_keep_lists l m [] is changed = subst IsRequestList (sym changed) is
filters_keep_lists l m (k ∷ ks) is changed = filters_keep_lists k m ks (one_keeps l k is changed.0) changed.1

pub heads_have_lists : HeadsHaveLists
heads_have_lists h judged other =
    let r : IsRight h = is_right h other judged.text judged.used judged.spells in
    record { kind = r.kind; list = r.list }

path_set : Headers
path_set = record {
  kind = kinds.Request;
  pairs = (codes ":method", codes "POST") ∷ (codes ":scheme", codes "http") ∷ (codes ":authority", codes "a") ∷ (codes ":path", codes "/b?c=1") ∷ [];
}

pub list_example : ListExample
unfolding path_set httparse_on_literals token.is_token_byte
list_example = record {
  first = record { kind = refl; list = asked_list };
  path = path_set;
  changed = (replaces (codes ":path") (codes "/b?c=1") (lit≤ tt) refl, (adds (codes "x-b") (codes "2") (lit≤ tt) refl, refl));
}
