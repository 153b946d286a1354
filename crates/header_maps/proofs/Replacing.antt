-- What putting a value at the first field of a name does to the pairs.
use Rattle.std.proofs.Common.{◌≡◌, ℕ, ◌+◌, ◌<◌, ◌≤◌, Bool, true, false, ◌&&◌, ◌||◌, not, cond, List, [], ◌∷◌, ◌++◌, length, filter, take, drop, set, get_or, refl, sym, ◌∙◌, ap, subst, arith, bytes_eq, codes, inl, inr, ◌⊎◌, zero, suc, Some, None, add-one, nat_lt}
use Rattle.std.specs.List.{list_all, list_any, position, position_or_len}
use Rattle.std.proofs.lemmas.Bool.{and_parts}
use Rattle.std.proofs.lemmas.Bool.Decides.{nat_tests}
use Rattle.std.proofs.lemmas.List.Quantifiers.{position-Some}
use Rattle.http_header.specs.Token.{lowercase}
use Rattle.header_maps.specs.declared.kind.ListKind.{ListKind}
use Rattle.header_maps.specs.declared.kind.ListKind.TheVariants.{Request, Response, Interim, Plain}
use Rattle.header_maps.specs.Kept.{is_kept_field, BeginsWith}
use Rattle.header_maps.specs.Judged.{is_field_name, is_field_value}
use Rattle.header_maps.specs.Kinds.{pseudo_names, is_value_for}
use Rattle.header_maps.specs.Operations.{without, with_value}
use Rattle.header_maps.specs.Pairs.{Pair, is_named, is_not_named, is_plain, plain_among, plain_count}
use Rattle.header_maps.proofs.Shapes.{is_none_of, begins_without, filter_all, filter_fewer, bytes_are, same_bytes}

-- the value put at a place, where the first field of the name stands, and the others taken out behind it
at_suc :
    (n value : List ℕ) (items : List Pair) (i : ℕ) (d : Pair) → i < length items → d ≡ get_or items i d → is_named n d ≡ true
    → ((k : ℕ) → k < i → is_named n (get_or items k d) ≡ false)
    → take (suc i) (set items i (d.0, value)) ++ without n (drop (suc i) (set items i (d.0, value))) ≡ with_value n value items
at_suc n value [] i d l e h b = absurd (omega arith)
at_suc n value (p ∷ ps) zero d l e h b =
    let named : is_named n p ≡ true = subst (λ (x : Pair). is_named n x ≡ true) e h in
    let P : Bool → Type 0 = λ k. (d.0, value) ∷ without n ps ≡ cond k ((p.0, value) ∷ without n ps) (p ∷ with_value n value ps) in
    subst P (sym named) (ap (λ (x : Pair). (x.0, value) ∷ without n ps) e)
at_suc n value (p ∷ ps) (suc i) d l e h b =
    let other : is_named n p ≡ false = b 0 (omega arith) in
    let rest = at_suc n value ps i d (omega arith) e h (λ k m. b (suc k) (omega arith)) in
    let P : Bool → Type 0 = λ k.
    p ∷ (take (suc i) (set ps i (d.0, value)) ++ without n (drop (suc i) (set ps i (d.0, value))))
    ≡ cond k ((p.0, value) ∷ without n ps) (p ∷ with_value n value ps) in
    subst P (sym other) (ap (λ xs. p ∷ xs) rest)

pub with_value_at :
    (n value : List ℕ) (items : List Pair) (i : ℕ) (d : Pair) → position (is_named n) items ≡ Some i → d ≡ get_or items i d
    → take (i + 1) (set items i (d.0, value)) ++ without n (drop (i + 1) (set items i (d.0, value))) ≡ with_value n value items
with_value_at n value items i d e f =
    let first = position-Some (is_named n) items i d e in
    let named : is_named n d ≡ true = subst (λ (x : Pair). is_named n x ≡ true) (sym f) first.1 in
    rw add-one (at_suc n value items i d first.0 f named first.2)

-- where no field has the name, it is put last
pub with_value_none :
    (n value : List ℕ) (items : List Pair) → list_any (is_named n) items ≡ false → with_value n value items ≡ items ++ (n, value) ∷ []
with_value_none n value [] h = refl
with_value_none n value (p ∷ ps) h =
    let P : Bool → Type 0 = λ k. (k || list_any (is_named n) ps) ≡ false
    → cond k ((p.0, value) ∷ without n ps) (p ∷ with_value n value ps) ≡ p ∷ (ps ++ (n, value) ∷ []) in
    (elim (is_named n p) as P [ true ↦ λ e. absurd (cc e) | false ↦ λ e. ap (λ xs. p ∷ xs) (with_value_none n value ps e) ]) h

-- with a value put at a field of the name, what held of each pair holds, and there are no more pairs and no more fields
pub all_with_value :
    (test : Pair → Bool) (n value : List ℕ) (ps : List Pair)
    → ((p : Pair) → test p ≡ true → test (p.0, value) ≡ true)
    → list_any (is_named n) ps ≡ true → list_all test ps ≡ true → list_all test (with_value n value ps) ≡ true
all_with_value test n value [] put h t = absurd (cc h)
all_with_value test n value (p ∷ ps) put h t =
    let parts = and_parts _ _ t in
    let here : test p ≡ true = parts.0 in
    let there : test (p.0, value) ≡ true = put p here in
    let rest = filter_all test (is_not_named n) ps parts.1 in
    let P : Bool → Type 0 = λ k. (k || list_any (is_named n) ps) ≡ true
    → list_all test (cond k ((p.0, value) ∷ without n ps) (p ∷ with_value n value ps)) ≡ true in
    (elim (is_named n p) as P [
      | true ↦ λ e. rw there rest
      | false ↦ λ e. rw here (all_with_value test n value ps put e parts.1)
    ]) h

pub fewer_with_value :
    (n value : List ℕ) (ps : List Pair) → list_any (is_named n) ps ≡ true → length (with_value n value ps) ≤ length ps
fewer_with_value n value [] h = absurd (cc h)
fewer_with_value n value (p ∷ ps) h =
    let fewer = filter_fewer (is_not_named n) ps in
    let P : Bool → Type 0 = λ k. (k || list_any (is_named n) ps) ≡ true
    → length (cond k ((p.0, value) ∷ without n ps) (p ∷ with_value n value ps)) ≤ suc (length ps) in
    (elim (is_named n p) as P [
      | true ↦ λ e. omega (arith, fewer)
      | false ↦ λ e. let rest = fewer_with_value n value ps e in omega (arith, rest)
    ]) h

plain_fewer : (keep : Pair → Bool) (ps : List Pair) → plain_count (filter keep ps) ≤ plain_count ps
plain_fewer keep [] = omega arith
plain_fewer keep (p ∷ ps) =
    let rest = plain_fewer keep ps in
    elim (keep p) as (λ k. plain_count (cond k (p ∷ filter keep ps) (filter keep ps)) ≤ length (cond (is_plain p) (p ∷ plain_among ps) (plain_among ps))) [
      | true ↦ elim (is_plain p) as (λ j. length (cond j (p ∷ plain_among (filter keep ps)) (plain_among (filter keep ps))) ≤ length (cond j (p ∷ plain_among ps) (plain_among ps))) [
        | true ↦ omega (arith, rest)
        | false ↦ rest
      ]
      | false ↦ elim (is_plain p) as (λ j. plain_count (filter keep ps) ≤ length (cond j (p ∷ plain_among ps) (plain_among ps))) [
        | true ↦ omega (arith, rest)
        | false ↦ rest
      ]
    ]

pub plain_with_value :
    (n value : List ℕ) (ps : List Pair) → list_any (is_named n) ps ≡ true → plain_count (with_value n value ps) ≤ plain_count ps
plain_with_value n value [] h = absurd (cc h)
plain_with_value n value (p ∷ ps) h =
    let fewer = plain_fewer (is_not_named n) ps in
    let P : Bool → Type 0 = λ k. (k || list_any (is_named n) ps) ≡ true
    → plain_count (cond k ((p.0, value) ∷ without n ps) (p ∷ with_value n value ps)) ≤ length (cond (is_plain p) (p ∷ plain_among ps) (plain_among ps)) in
    (elim (is_named n p) as P [
      | true ↦ λ e. elim (is_plain p) as (λ j. length (cond j ((p.0, value) ∷ plain_among (without n ps)) (plain_among (without n ps))) ≤ length (cond j (p ∷ plain_among ps) (plain_among ps))) [
        | true ↦ omega (arith, fewer)
        | false ↦ fewer
      ]
      | false ↦ λ e. let rest = plain_with_value n value ps e in
          elim (is_plain p) as (λ j. length (cond j (p ∷ plain_among (with_value n value ps)) (plain_among (with_value n value ps))) ≤ length (cond j (p ∷ plain_among ps) (plain_among ps))) [
            | true ↦ omega (arith, rest)
            | false ↦ rest
          ]
    ]) h

-- the name is one of these, and of no other's case
abbrev pub Once : List ℕ → List (List ℕ) → Type 0
Once n [] = ⊥
Once n (m ∷ ms) =
    ((m ≡ n) × (bytes_eq (lowercase m) n ≡ true) × (is_none_of n ms ≡ true)) ⊎ ((bytes_eq (lowercase m) n ≡ false) × Once n ms)

pub other_bytes : (a b : List ℕ) → bytes_eq a b ≡ false → bytes_eq b a ≡ false
other_bytes a b h =
    let P : Bool → Type 0 = λ k. bytes_eq b a ≡ k → k ≡ false in
    (elim (bytes_eq b a) as P [
      | true ↦ λ e. (let same = bytes_are b a e in let is : bytes_eq a b ≡ true = subst (λ (x : List ℕ). bytes_eq x b ≡ true) same (same_bytes b) in cc (h, is))
      | false ↦ λ e. refl
    ]) refl

once_here : (n m : List ℕ) (ms : List (List ℕ)) → n ≡ m → bytes_eq (lowercase m) m ≡ true → is_none_of m ms ≡ true → Once n (m ∷ ms)
once_here n m ms e h o = subst (λ (x : List ℕ). Once x (m ∷ ms)) (sym e) (inl (refl, h, o))

once_next : (n m : List ℕ) (ms : List (List ℕ)) → lowercase m ≡ m → bytes_eq n m ≡ false → Once n ms → Once n (m ∷ ms)
once_next n m ms l h o = inr (subst (λ (x : List ℕ). bytes_eq x n ≡ false) (sym l) (other_bytes n m h), o)

-- the first of the names, or one of the others
once_first :
    (n m : List ℕ) (ms : List (List ℕ)) → lowercase m ≡ m → bytes_eq (lowercase m) m ≡ true → is_none_of m ms ≡ true
    → (list_any (bytes_eq n) ms ≡ true → Once n ms) → list_any (bytes_eq n) (m ∷ ms) ≡ true → Once n (m ∷ ms)
once_first n m ms l h o next any =
    let P : Bool → Type 0 = λ k. bytes_eq n m ≡ k → (k || list_any (bytes_eq n) ms) ≡ true → Once n (m ∷ ms) in
    (elim (bytes_eq n m) as P [
      | true ↦ λ e a. once_here n m ms (bytes_are n m e) h o
      | false ↦ λ e a. once_next n m ms l e (next a)
    ]) refl any

once_last : (n : List ℕ) → list_any (bytes_eq n) [] ≡ true → Once n []
once_last n h = absurd (cc h)

pub once_for : (kind : ListKind) (n : List ℕ) → list_any (bytes_eq n) (pseudo_names kind) ≡ true → Once n (pseudo_names kind)
once_for Request n =
    let last : List (List ℕ) = codes ":path" ∷ [] in
    let third : List (List ℕ) = codes ":authority" ∷ last in
    let second : List (List ℕ) = codes ":scheme" ∷ third in
    once_first n (codes ":method") second refl refl refl
    (once_first n (codes ":scheme") third refl refl refl
    (once_first n (codes ":authority") last refl refl refl (once_first n (codes ":path") [] refl refl refl (once_last n))))
once_for Response n = once_first n (codes ":status") [] refl refl refl (once_last n)
once_for Interim n = once_first n (codes ":status") [] refl refl refl (once_last n)
once_for Plain n = once_last n

-- a value may be put at a pseudo-header
pub begins_put_pseudo :
    (kind : ListKind) (names : List (List ℕ)) (pairs : List Pair) (n value : List ℕ) → Once n names → is_value_for kind n value ≡ true
    → BeginsWith kind names pairs → BeginsWith kind names (with_value n value pairs)
begins_put_pseudo kind [] pairs n value o v b = absurd o
begins_put_pseudo kind (name ∷ names) [] n value o v b = absurd b
begins_put_pseudo kind (name ∷ names) (p ∷ ps) n value o v b =
    let P : Bool → Type 0 = λ k. BeginsWith kind (name ∷ names) (cond k ((p.0, value) ∷ without n ps) (p ∷ with_value n value ps)) in
    elim o [
      | inl at ↦
          let named : is_named n p ≡ true = ap (λ (x : List ℕ). bytes_eq (lowercase x) n) b.0.name_is ∙ at.1 in
          let right : is_value_for kind name value ≡ true = subst (λ (x : List ℕ). is_value_for kind x value ≡ true) (sym at.0) v in
          subst P (sym named) (record { name_is = b.0.name_is; value = right }, begins_without kind names ps n at.2 b.1)
      | inr on ↦
          let other : is_named n p ≡ false = ap (λ (x : List ℕ). bytes_eq (lowercase x) n) b.0.name_is ∙ on.0 in
          subst P (sym other) (b.0, begins_put_pseudo kind names ps n value on.1 v b.1)
    ]

-- and it is there
pub once_found :
    (kind : ListKind) (names : List (List ℕ)) (pairs : List Pair) (n : List ℕ) → Once n names → BeginsWith kind names pairs
    → list_any (is_named n) pairs ≡ true
once_found kind [] pairs n o b = absurd o
once_found kind (name ∷ names) [] n o b = absurd b
once_found kind (name ∷ names) (p ∷ ps) n o b =
    elim o [
      | inl at ↦
          let named : is_named n p ≡ true = ap (λ (x : List ℕ). bytes_eq (lowercase x) n) b.0.name_is ∙ at.1 in rw named refl
      | inr on ↦
          let other : is_named n p ≡ false = ap (λ (x : List ℕ). bytes_eq (lowercase x) n) b.0.name_is ∙ on.0 in
          rw other (once_found kind names ps n on.1 b.1)
    ]

not_true : (k : Bool) → not k ≡ true → k ≡ false
not_true true h = absurd (cc h)
not_true false h = refl

-- a value may be put at a field
pub begins_put_plain :
    (kind : ListKind) (names : List (List ℕ)) (pairs : List Pair) (n value : List ℕ) → is_none_of n names ≡ true
    → is_field_value value ≡ true → list_any (is_named n) pairs ≡ true → BeginsWith kind names pairs
    → BeginsWith kind names (with_value n value pairs)
begins_put_plain kind [] pairs n value o v a b = record {
  kept = all_with_value is_kept_field n value pairs
      (λ p h. let parts = and_parts (is_field_name p.0 && bytes_eq (lowercase p.0) p.0) (is_field_value p.1) h in
      let name : (is_field_name p.0 && bytes_eq (lowercase p.0) p.0) ≡ true = parts.0 in rw (name, v) refl) a b.kept;
  few = let fewer = fewer_with_value n value pairs a in omega (arith, fewer, b.few);
}
begins_put_plain kind (name ∷ names) [] n value o v a b = absurd b
begins_put_plain kind (name ∷ names) (p ∷ ps) n value o v a b =
    let parts = and_parts (not (bytes_eq (lowercase name) n)) (is_none_of n names) o in
    let other : is_named n p ≡ false = ap (λ (x : List ℕ). bytes_eq (lowercase x) n) b.0.name_is ∙ not_true _ parts.0 in
    let there : list_any (is_named n) ps ≡ true = (rw other at a) in
    let P : Bool → Type 0 = λ k. BeginsWith kind (name ∷ names) (cond k ((p.0, value) ∷ without n ps) (p ∷ with_value n value ps)) in
    subst P (sym other) (b.0, begins_put_plain kind names ps n value parts.1 v there b.1)

less_suc : (k n : ℕ) → nat_lt (1 + k) (suc n) ≡ nat_lt k n
less_suc k n = grind (arith, nat_tests)

-- a place is found exactly where a pair has the name
pub within_any : (test : Pair → Bool) (ps : List Pair) → nat_lt (position_or_len test ps) (length ps) ≡ list_any test ps
within_any test [] = refl
within_any test (p ∷ ps) =
    let rest = within_any test ps in
    let P : Bool → Type 0 = λ k. nat_lt (cond (not k) (1 + position_or_len test ps) 0) (suc (length ps)) ≡ (k || list_any test ps) in
    elim (test p) as P [ true ↦ grind (arith, nat_tests) | false ↦ less_suc (position_or_len test ps) (length ps) ∙ rest ]

pub none_named : (test : Pair → Bool) (ps : List Pair) → position test ps ≡ None → list_any test ps ≡ false
none_named test ps h =
    let P : Bool → Type 0 = λ k. nat_lt (position_or_len test ps) (length ps) ≡ k
    → cond k (Some (position_or_len test ps)) None ≡ None → list_any test ps ≡ false in
    (elim (nat_lt (position_or_len test ps) (length ps)) as P [
      | true ↦ λ e a. absurd (cc a)
      | false ↦ λ e a. sym (within_any test ps) ∙ e
    ]) refl h

pub some_named : (test : Pair → Bool) (ps : List Pair) (i : ℕ) → position test ps ≡ Some i → list_any test ps ≡ true
some_named test ps i h =
    let P : Bool → Type 0 = λ k. nat_lt (position_or_len test ps) (length ps) ≡ k
    → cond k (Some (position_or_len test ps)) None ≡ Some i → list_any test ps ≡ true in
    (elim (nat_lt (position_or_len test ps) (length ps)) as P [
      | true ↦ λ e a. sym (within_any test ps) ∙ e
      | false ↦ λ e a. absurd (cc a)
    ]) refl h
