-- What the given pairs make, put in order, is what a header list keeps.
use Rattle.std.proofs.Common.{◌≡◌, ℕ, ◌+◌, ◌<◌, ◌≤◌, ◌==◌, Bool, true, false, not, cond, List, [], ◌∷◌, ◌++◌, length, map, filter, take, get_or, refl, sym, ◌∙◌, ap, subst, arith, bytes_eq, Option, Some, append_assoc, append-nil, suc}
use Rattle.std.specs.List.{list_all, list_any, flat_map, join_with_byte}
use Rattle.std.proofs.lemmas.Bool.{and_parts}
use Rattle.std.proofs.lemmas.Bool.Decides.{nat_tests}
use Rattle.std.proofs.lemmas.List.{length-map, map-append, take_more}
use Rattle.std.proofs.lemmas.List.Elements.{filter-append}
use Rattle.std.specs.Char.{to_ascii_lowercase}
use Rattle.http_header.specs.Token.{lowercase}
use Rattle.header_maps.specs.declared.kind.ListKind.{ListKind}
use Rattle.header_maps.specs.Faults.{has_each_once, are_names_for, are_values_for}
use Rattle.header_maps.specs.Judged.{is_field_name}
use Rattle.header_maps.specs.Kept.{is_short, is_kept_field, AreFields, BeginsWith, IsHeaders}
use Rattle.header_maps.specs.Kinds.{pseudo_names, is_name_for, is_value_for}
use Rattle.header_maps.specs.Operations.{in_order}
use Rattle.header_maps.specs.Pairs.{Pair, lowered, is_named, is_pseudo, is_plain, plain_among, plain_count, values_of, joined, joined_behind}
use Rattle.header_maps.proofs.Kept.{listed, plain_value}
use Rattle.header_maps.proofs.Shapes.{filter_all, bytes_are, kept_lowered}

filter_holds : (test : Pair → Bool) (ps : List Pair) → list_all test (filter test ps) ≡ true
filter_holds test [] = refl
filter_holds test (p ∷ ps) =
    let rest = filter_holds test ps in
    let P : Bool → Type 0 = λ k. test p ≡ k → list_all test (cond k (p ∷ filter test ps) (filter test ps)) ≡ true in
    (elim (test p) as P [ true ↦ λ e. rw (e, rest) refl | false ↦ λ e. rest ]) refl

two_or_more : (n : ℕ) → (suc (suc n) == 1) ≡ true → ⊥
two_or_more n h = grind (arith, nat_tests)

-- one pair of a name, in front of what begins with the other names
lead :
    (kind : ListKind) (n : List ℕ) (ns : List (List ℕ)) (found rest : List Pair) → (length found == 1) ≡ true
    → list_all (is_named n) found ≡ true → list_all (λ (f : Pair). is_value_for kind (lowercase f.0) f.1) found ≡ true
    → BeginsWith kind ns rest → BeginsWith kind (n ∷ ns) (map lowered found ++ rest)
lead kind n ns [] rest one named right b = absurd (cc one)
lead kind n ns (p ∷ []) rest one named right b =
    let at = and_parts (is_named n p) true named in
    let value = and_parts (is_value_for kind (lowercase p.0) p.1) true right in
    let same = bytes_are (lowercase p.0) n at.0 in
    (record { name_is = same; value = subst (λ (x : List ℕ). is_value_for kind x p.1 ≡ true) same value.0 }, b)
lead kind n ns (p ∷ q ∷ ps) rest one named right b = absurd (two_or_more (length ps) one)

begins_lead :
    (kind : ListKind) (names : List (List ℕ)) (given rest : List Pair)
    → list_all (λ name. length (filter (is_named name) given) == 1) names ≡ true → are_values_for kind given ≡ true
    → AreFields rest → BeginsWith kind names (flat_map (λ name. map lowered (filter (is_named name) given)) names ++ rest)
begins_lead kind [] given rest once right fields = fields
begins_lead kind (n ∷ ns) given rest once right fields =
    let parts = and_parts (length (filter (is_named n) given) == 1) _ once in
    let found = filter (is_named n) given in
    rw append_assoc
    (lead kind n ns found (flat_map (λ name. map lowered (filter (is_named name) given)) ns ++ rest) parts.0 (filter_holds (is_named n) given)
    (filter_all (λ (f : Pair). is_value_for kind (lowercase f.0) f.1) (is_named n) given right) (begins_lead kind ns given rest parts.1 right fields))

kept_given :
    (kind : ListKind) (given : List Pair) → list_all (λ (f : Pair). is_name_for kind f.0) given ≡ true → are_values_for kind given ≡ true
    → list_all is_kept_field (map lowered (plain_among given)) ≡ true
kept_given kind [] n v = refl
kept_given kind (p ∷ ps) n v =
    let names = and_parts (is_name_for kind p.0) _ n in
    let values = and_parts (is_value_for kind (lowercase p.0) p.1) _ v in
    let rest = kept_given kind ps names.1 values.1 in
    let P : Bool → Type 0 = λ k. is_pseudo p.0 ≡ k
    → cond k (list_any (bytes_eq (lowercase p.0)) (pseudo_names kind)) (is_field_name p.0) ≡ true
    → list_all is_kept_field (map lowered (cond (not k) (p ∷ plain_among ps) (plain_among ps))) ≡ true in
    (elim (is_pseudo p.0) as P [
      | true ↦ λ e a. rest
      | false ↦ λ e a.
          let value = sym (plain_value kind p.0 p.1 e) ∙ values.0 in
          let here = kept_lowered p.0 p.1 a value in rw (here, rest) refl
    ]) refl names.0

all_append : (test : Pair → Bool) (xs ys : List Pair) → list_all test xs ≡ true → list_all test ys ≡ true → list_all test (xs ++ ys) ≡ true
all_append test [] ys h k = k
all_append test (x ∷ xs) ys h k =
    let parts = and_parts (test x) (list_all test xs) h in
    let here : test x ≡ true = parts.0 in rw here (all_append test xs ys parts.1 k)

short_map : (ps : List Pair) → list_all is_short ps ≡ true → list_all is_short (map lowered ps) ≡ true
short_map [] h = refl
short_map (p ∷ ps) h =
    let parts = and_parts (is_short p) (list_all is_short ps) h in
    let same = length-map p.0 to_ascii_lowercase in
    let here : is_short (lowered p) ≡ true = rw same parts.0 in
    rw here (short_map ps parts.1)

short_lead :
    (names : List (List ℕ)) (given : List Pair) → list_all is_short given ≡ true
    → list_all is_short (flat_map (λ name. map lowered (filter (is_named name) given)) names) ≡ true
short_lead [] given h = refl
short_lead (n ∷ ns) given h =
    all_append is_short (map lowered (filter (is_named n) given)) (flat_map (λ name. map lowered (filter (is_named name) given)) ns)
    (short_map (filter (is_named n) given) (filter_all is_short (is_named n) given h)) (short_lead ns given h)

pub headers_set :
    (kind : ListKind) (given : List Pair) → are_names_for kind given ≡ true → are_values_for kind given ≡ true
    → plain_count given ≤ 100 → list_all is_short given ≡ true → IsHeaders (listed kind (in_order kind given))
headers_set kind given n v few short =
    let names = and_parts (list_all (λ (f : Pair). is_name_for kind f.0) given) (has_each_once kind given) n in
    let fields : AreFields (map lowered (plain_among given)) = record {
      kept = kept_given kind given names.0 v;
      few = let same = length-map (plain_among given) lowered in omega (arith, same, few);
    } in
    record {
      shape = begins_lead kind (pseudo_names kind) given (map lowered (plain_among given)) names.1 v fields;
      short = all_append is_short (flat_map (λ name. map lowered (filter (is_named name) given)) (pseudo_names kind)) (map lowered (plain_among given))
          (short_lead (pseudo_names kind) given short) (short_map (plain_among given) (filter_all is_short is_plain given short));
    }

-- one more value is joined behind the others
join_more : (x v : List ℕ) (vs : List (List ℕ)) → join_with_byte 44 (x ∷ (vs ++ v ∷ [])) ≡ join_with_byte 44 (x ∷ vs) ++ 44 ∷ v
join_more x v [] = refl
join_more x v (y ∷ vs) = rw (join_more y v vs) (sym (append_assoc x (44 ∷ join_with_byte 44 (y ∷ vs)) (44 ∷ v)))

pub joined_more : (vs : List (List ℕ)) (v : List ℕ) → joined (vs ++ v ∷ []) ≡ Some (joined_behind (joined vs) v)
joined_more [] v = refl
joined_more (x ∷ vs) v = ap (λ (b : List ℕ). Some b) (join_more x v vs)

pub values_more :
    (n : List ℕ) (items : List Pair) (i : ℕ) (d : Pair) → i < length items
    → values_of n (take (i + 1) items)
    ≡ cond (is_named n (get_or items i d)) (values_of n (take i items) ++ (get_or items i d).1 ∷ []) (values_of n (take i items))
values_more n items i d h =
    let e = take_more items i d h in
    let f = filter-append (is_named n) (take i items) (get_or items i d ∷ []) in
    rw (e, f)
    (elim (is_named n (get_or items i d)) as (λ k. map (λ (p : Pair). p.1) (filter (is_named n) (take i items) ++ cond k (get_or items i d ∷ []) [])
    ≡ cond k (values_of n (take i items) ++ (get_or items i d).1 ∷ []) (values_of n (take i items))) [
      | true ↦ map-append (λ (p : Pair). p.1) (filter (is_named n) (take i items)) (get_or items i d ∷ [])
      | false ↦ ap (map (λ (p : Pair). p.1)) (append-nil (filter (is_named n) (take i items)))
    ])

-- a loop that joins the values of a name takes a pair of that name, or goes on
pub joined_yes :
    (n : List ℕ) (items : List Pair) (i : ℕ) (d : Pair) (so_far : Option (List ℕ)) → i < length items → d ≡ get_or items i d
    → is_named n d ≡ true → so_far ≡ joined (values_of n (take i items))
    → Some (joined_behind so_far d.1) ≡ joined (values_of n (take (i + 1) items))
joined_yes n items i d so_far h e named so =
    let here : is_named n (get_or items i d) ≡ true = subst (λ (p : Pair). is_named n p ≡ true) e named in
    let more = values_more n items i d h in
    rw (so, more, here)
    (subst (λ (p : Pair). Some (joined_behind (joined (values_of n (take i items))) d.1) ≡ joined (values_of n (take i items) ++ p.1 ∷ [])) e
    (sym (joined_more (values_of n (take i items)) d.1)))

pub joined_no :
    (n : List ℕ) (items : List Pair) (i : ℕ) (d : Pair) (so_far : Option (List ℕ)) → i < length items → d ≡ get_or items i d
    → is_named n d ≡ false → so_far ≡ joined (values_of n (take i items)) → so_far ≡ joined (values_of n (take (i + 1) items))
joined_no n items i d so_far h e named so =
    let here : is_named n (get_or items i d) ≡ false = subst (λ (p : Pair). is_named n p ≡ false) e named in
    let more = values_more n items i d h in rw (more, here) so
