-- The operations keep what every header list keeps.
use Rattle.std.proofs.Common.{◌≡◌, ℕ, ◌+◌, ◌<◌, ◌≤◌, Bool, true, false, not, cond, List, [], ◌∷◌, ◌++◌, length, refl, sym, ◌∙◌, ap, arith, bytes_eq, nat_le, None, Some}
use Rattle.std.specs.List.{list_any}
use Rattle.std.proofs.lemmas.Bool.{and_parts}
use Rattle.std.proofs.lemmas.Bool.Decides.{nat_tests}
use Rattle.http_header.specs.Token.{lowercase}
use Rattle.header_maps.specs.declared.kind.ListKind.{ListKind}
use Rattle.header_maps.specs.Faults.{too_many, is_few, add_fault, replace_fault}
use Rattle.header_maps.specs.Headers.{Headers}
use Rattle.header_maps.specs.Judged.{is_field_name, is_field_value}
use Rattle.header_maps.specs.Kept.{is_short, IsHeaders}
use Rattle.header_maps.specs.Kinds.{pseudo_names, is_name_for, is_value_for}
use Rattle.header_maps.specs.Operations.{without, with_value}
use Rattle.header_maps.specs.Pairs.{Pair, is_named, is_not_named, is_pseudo, plain_count}
use Rattle.header_maps.proofs.Shapes.{Counted, begins_counted, names_pseudo, begins_add, begins_without, kept_lowered, short_lowered, all_add, count_add, filter_all, name_plain, plain_is_none, pseudo_lowercase}
use Rattle.header_maps.proofs.Replacing.{Once, once_for, once_found, begins_put_pseudo, begins_put_plain, all_with_value, plain_with_value, with_value_none}

abbrev pub listed : ListKind → List Pair → Headers
listed kind pairs = record { kind = kind; pairs = pairs }

pub counted : (kind : ListKind) (pairs : List Pair) → IsHeaders (listed kind pairs) → Counted (pseudo_names kind) pairs
counted kind pairs h = begins_counted kind (pseudo_names kind) pairs (names_pseudo kind) h.shape

-- a field is put behind
pub headers_add :
    (kind : ListKind) (pairs : List Pair) (name value : List ℕ) → IsHeaders (listed kind pairs) → is_field_name name ≡ true
    → is_field_value value ≡ true → length value ≤ 16777216 → plain_count pairs < 100
    → IsHeaders (listed kind (pairs ++ (lowercase name, value) ∷ []))
headers_add kind pairs name value h n v l room =
    let k = counted kind pairs h in
    record {
      shape = begins_add kind (pseudo_names kind) pairs (lowercase name, value) h.shape (kept_lowered name value n v) (omega (arith, k.sum));
      short = all_add is_short pairs (lowercase name, value) h.short (short_lowered name value n l);
    }

-- how many fields there are with one more
pub few_add :
    (pairs : List Pair) (name value : List ℕ) → is_field_name name ≡ true
    → plain_count (pairs ++ (lowercase name, value) ∷ []) ≡ plain_count pairs + 1
few_add pairs name value n =
    count_add pairs (lowercase name, value) (ap not (pseudo_lowercase name ∙ name_plain name n))

pub add_many :
    (headers : Headers) (name value : List ℕ) → is_field_name name ≡ true → is_field_value value ≡ true → 100 ≤ plain_count headers.pairs
    → Some too_many ≡ add_fault headers name value
add_many headers name value n v l =
    let more = few_add headers.pairs name value n in
    let many : is_few (headers.pairs ++ (lowercase name, value) ∷ []) ≡ false = rw more (grind (arith, nat_tests)) in
    rw (n, v, many) refl

pub add_room :
    (headers : Headers) (name value : List ℕ) → is_field_name name ≡ true → is_field_value value ≡ true → plain_count headers.pairs < 100
    → None ≡ add_fault headers name value
add_room headers name value n v l =
    let more = few_add headers.pairs name value n in
    let few : is_few (headers.pairs ++ (lowercase name, value) ∷ []) ≡ true = rw more (grind (arith, nat_tests)) in
    rw (n, v, few) refl

-- the fields of a name are taken out
pub headers_without :
    (kind : ListKind) (pairs : List Pair) (name : List ℕ) → IsHeaders (listed kind pairs) → is_field_name name ≡ true
    → IsHeaders (listed kind (without (lowercase name) pairs))
headers_without kind pairs name h n =
    let plain : is_pseudo (lowercase name) ≡ false = pseudo_lowercase name ∙ name_plain name n in
    let none = plain_is_none (lowercase name) (pseudo_names kind) plain (names_pseudo kind) in
    record {
      shape = begins_without kind (pseudo_names kind) pairs (lowercase name) none h.shape;
      short = filter_all is_short (is_not_named (lowercase name)) pairs h.short;
    }

-- a name that a list may have is that of one of its pseudo-headers, or of a field
pub data NameCase (kind : ListKind) (name value : List ℕ) : Type 0 where
  pseudo : (is_pseudo name ≡ true) × Once (lowercase name) (pseudo_names kind) → NameCase kind name value
  plain : (is_pseudo name ≡ false) × (is_field_name name ≡ true) → NameCase kind name value

pub name_case : (kind : ListKind) (name value : List ℕ) → is_name_for kind name ≡ true → NameCase kind name value
name_case kind name value h =
    let P : Bool → Type 0 = λ k. is_pseudo name ≡ k
    → cond k (list_any (bytes_eq (lowercase name)) (pseudo_names kind)) (is_field_name name) ≡ true → NameCase kind name value in
    (elim (is_pseudo name) as P [
      | true ↦ λ e a. pseudo (e, once_for kind (lowercase name) a)
      | false ↦ λ e a. plain (e, a)
    ]) refl h

pub plain_value :
    (kind : ListKind) (name value : List ℕ) → is_pseudo name ≡ false → is_value_for kind (lowercase name) value ≡ is_field_value value
plain_value kind name value e = let other = pseudo_lowercase name ∙ e in rw other refl

shorter : (value : List ℕ) → length value ≤ 16777216 → nat_le (length value) 16777216 ≡ true
shorter value l = grind (arith, nat_tests)

short_put : (value : List ℕ) → length value ≤ 16777216 → (p : Pair) → is_short p ≡ true → is_short (p.0, value) ≡ true
short_put value l p h =
    let parts = and_parts (nat_le (length p.0) 16777216) (nat_le (length p.1) 16777216) h in
    let name : nat_le (length p.0) 16777216 ≡ true = parts.0 in
    rw (name, shorter value l) refl

-- a value is put at a field of the name
pub headers_put :
    (kind : ListKind) (pairs : List Pair) (name value : List ℕ) → IsHeaders (listed kind pairs) → is_name_for kind name ≡ true
    → is_value_for kind (lowercase name) value ≡ true → length value ≤ 16777216 → list_any (is_named (lowercase name)) pairs ≡ true
    → IsHeaders (listed kind (with_value (lowercase name) value pairs))
headers_put kind pairs name value h n v l a =
    let short = all_with_value is_short (lowercase name) value pairs (short_put value l) a h.short in
    elim (name_case kind name value n) [
      | pseudo o ↦ record { shape = begins_put_pseudo kind (pseudo_names kind) pairs (lowercase name) value o.1 v h.shape; short = short }
      | plain o ↦
          let none = plain_is_none (lowercase name) (pseudo_names kind) (pseudo_lowercase name ∙ o.0) (names_pseudo kind) in
          let right = sym (plain_value kind name value o.0) ∙ v in
          record { shape = begins_put_plain kind (pseudo_names kind) pairs (lowercase name) value none right a h.shape; short = short }
    ]

pub replace_found :
    (headers : Headers) (name value : List ℕ) → IsHeaders headers → is_name_for headers.kind name ≡ true
    → is_value_for headers.kind (lowercase name) value ≡ true → list_any (is_named (lowercase name)) headers.pairs ≡ true
    → None ≡ replace_fault headers name value
replace_found headers name value h n v a =
    let k = counted headers.kind headers.pairs h in
    let fewer = plain_with_value (lowercase name) value headers.pairs a in
    let bound : plain_count (with_value (lowercase name) value headers.pairs) ≤ 100 = omega (arith, fewer, k.few) in
    let few : is_few (with_value (lowercase name) value headers.pairs) ≡ true = grind (arith, nat_tests) in
    rw (n, v, few) refl

-- where no field has the name, a field is put behind
pub replace_none :
    (headers : Headers) (name value : List ℕ) → IsHeaders headers → is_name_for headers.kind name ≡ true
    → is_value_for headers.kind (lowercase name) value ≡ true → list_any (is_named (lowercase name)) headers.pairs ≡ false
    → add_fault headers name value ≡ replace_fault headers name value
replace_none headers name value h n v a =
    elim (name_case headers.kind name value n) [
      | pseudo o ↦ absurd (let found = once_found headers.kind (pseudo_names headers.kind) headers.pairs (lowercase name) o.1 h.shape in cc (found, a))
      | plain o ↦
          let same = with_value_none (lowercase name) value headers.pairs a in
          let right = sym (plain_value headers.kind name value o.0) ∙ v in
          rw (n, v, o.1, right, same) refl
    ]
