-- What holds of the field operations.
use Rattle.std.proofs.Common.{◌≡◌, ℕ, ◌+◌, ◌*◌, ◌/◌, ◌%◌, ◌<◌, Bool, true, false, not, cond, List, [], ◌∷◌, ◌++◌, length, map, filter, refl, sym, ◌∙◌, ap, arith, bytes_eq, Some, append-nil, nat_lt, nat_le, zero-add}
use Rattle.std.specs.List.{list_all, list_any, position, position_or_len}
use Rattle.std.proofs.lemmas.Bool.{and_parts, ltb-true, leb-true}
use Rattle.std.proofs.lemmas.Bool.Decides.{nat_tests}
use Rattle.std.proofs.lemmas.List.{map-append}
use Rattle.std.proofs.lemmas.List.Elements.{filter-append}
use Rattle.std.proofs.lemmas.List.Sums.{AllPass-from_list_all, list_all-from_AllPass}
use Rattle.std.specs.Char.{is_ascii_digit, digit_value}
use Rattle.http_header.specs.FieldName.{IsFieldName}
use Rattle.http_header.specs.Token.{lowercase, is_token_byte, is_value_byte}
use Rattle.header_maps.specs.Judged.{is_field_name, is_token_text, status_of}
use Rattle.header_maps.specs.Laws.{JudgedAlike, StatusReadBack, AddedIsFound, RemovedIsAbsent, ReplacedInPlace}
use Rattle.header_maps.specs.Operations.{without, with_value}
use Rattle.header_maps.specs.Pairs.{Pair, is_named, is_not_named, values_of, joined}
use Rattle.header_maps.proofs.Replacing.{within_any}
use Rattle.header_maps.proofs.Setting.{joined_more}
use Rattle.header_maps.proofs.Shapes.{lowercase_twice, bytes_are, same_bytes}

-- the field that is put in has the name
named_own : (name value : List ℕ) → is_named (lowercase name) (lowercase name, value) ≡ true
named_own name value = ap (λ (x : List ℕ). bytes_eq x (lowercase name)) (lowercase_twice name) ∙ same_bytes (lowercase name)

differs : (a b : List ℕ) → (a ≡ b → ⊥) → bytes_eq b a ≡ false
differs a b h =
    let P : Bool → Type 0 = λ k. bytes_eq b a ≡ k → k ≡ false in
    (elim (bytes_eq b a) as P [ true ↦ λ e. absurd (h (sym (bytes_are b a e))) | false ↦ λ e. refl ]) refl

-- and no other name
named_other : (name other value : List ℕ) → (lowercase other ≡ lowercase name → ⊥) → is_named (lowercase other) (lowercase name, value) ≡ false
named_other name other value h =
    ap (λ (x : List ℕ). bytes_eq x (lowercase other)) (lowercase_twice name) ∙ differs (lowercase other) (lowercase name) h

values_add_own : (n : List ℕ) (ps : List Pair) (f : Pair) → is_named n f ≡ true → values_of n (ps ++ f ∷ []) ≡ values_of n ps ++ f.1 ∷ []
values_add_own n ps f h = rw (filter-append (is_named n) ps (f ∷ []), h) (map-append (λ (p : Pair). p.1) (filter (is_named n) ps) (f ∷ []))

values_add_other : (n : List ℕ) (ps : List Pair) (f : Pair) → is_named n f ≡ false → values_of n (ps ++ f ∷ []) ≡ values_of n ps
values_add_other n ps f h = rw (filter-append (is_named n) ps (f ∷ []), h, append-nil (filter (is_named n) ps)) refl

pub added_is_found : AddedIsFound
added_is_found = record {
  found = λ h name value.
      ap joined (values_add_own (lowercase name) h.pairs (lowercase name, value) (named_own name value))
      ∙ joined_more (values_of (lowercase name) h.pairs) value;
  others = λ h name value other d.
      ap joined (values_add_other (lowercase other) h.pairs (lowercase name, value) (named_other name other value d));
}

none_left : (n : List ℕ) (ps : List Pair) → filter (is_named n) (without n ps) ≡ []
none_left n [] = refl
none_left n (p ∷ ps) =
    let rest = none_left n ps in
    let P : Bool → Type 0 = λ k. is_named n p ≡ k → filter (is_named n) (cond (not k) (p ∷ without n ps) (without n ps)) ≡ [] in
    (elim (is_named n p) as P [ true ↦ λ e. rest | false ↦ λ e. rw e rest ]) refl

-- a pair has one name
one_name : (n m : List ℕ) (p : Pair) → (m ≡ n → ⊥) → is_named n p ≡ true → is_named m p ≡ false
one_name n m p d h = let at = bytes_are (lowercase p.0) n h in ap (λ (x : List ℕ). bytes_eq x m) at ∙ differs m n d

others_left : (n m : List ℕ) (ps : List Pair) → (m ≡ n → ⊥) → filter (is_named m) (without n ps) ≡ filter (is_named m) ps
others_left n m [] d = refl
others_left n m (p ∷ ps) d =
    let rest = others_left n m ps d in
    let P : Bool → Type 0 = λ k. is_named n p ≡ k
    → filter (is_named m) (cond (not k) (p ∷ without n ps) (without n ps)) ≡ cond (is_named m p) (p ∷ filter (is_named m) ps) (filter (is_named m) ps) in
    (elim (is_named n p) as P [
      | true ↦ λ e. rw (one_name n m p d e) rest
      | false ↦ λ e. ap (λ (xs : List Pair). cond (is_named m p) (p ∷ xs) xs) rest
    ]) refl

pub removed_is_absent : RemovedIsAbsent
removed_is_absent = record {
  absent = λ h name. ap (λ (ps : List Pair). joined (map (λ (p : Pair). p.1) ps)) (none_left (lowercase name) h.pairs);
  others = λ h name other d. ap (λ (ps : List Pair). joined (map (λ (p : Pair). p.1) ps)) (others_left (lowercase name) (lowercase other) h.pairs d);
}

put_alone :
    (n value : List ℕ) (ps : List Pair) → lowercase n ≡ n → values_of n (with_value n value ps) ≡ value ∷ []
put_alone n value [] l =
    let own : is_named n (n, value) ≡ true = ap (λ (x : List ℕ). bytes_eq x n) l ∙ same_bytes n in rw own refl
put_alone n value (p ∷ ps) l =
    let rest = put_alone n value ps l in
    let none = none_left n ps in
    let P : Bool → Type 0 = λ k. is_named n p ≡ k → values_of n (cond k ((p.0, value) ∷ without n ps) (p ∷ with_value n value ps)) ≡ value ∷ [] in
    (elim (is_named n p) as P [ true ↦ λ e. rw (e, none) refl | false ↦ λ e. rw e rest ]) refl

without_twice : (n : List ℕ) (ps : List Pair) → without n (without n ps) ≡ without n ps
without_twice n [] = refl
without_twice n (p ∷ ps) =
    let rest = without_twice n ps in
    let P : Bool → Type 0 = λ k. is_not_named n p ≡ k → without n (cond k (p ∷ without n ps) (without n ps)) ≡ cond k (p ∷ without n ps) (without n ps) in
    (elim (is_not_named n p) as P [ true ↦ λ e. rw (e, rest) refl | false ↦ λ e. rest ]) refl

put_others : (n value : List ℕ) (ps : List Pair) → lowercase n ≡ n → without n (with_value n value ps) ≡ without n ps
put_others n value [] l =
    let own : is_named n (n, value) ≡ true = ap (λ (x : List ℕ). bytes_eq x n) l ∙ same_bytes n in rw own refl
put_others n value (p ∷ ps) l =
    let rest = put_others n value ps l in
    let twice = without_twice n ps in
    let P : Bool → Type 0 = λ k. is_named n p ≡ k
    → without n (cond k ((p.0, value) ∷ without n ps) (p ∷ with_value n value ps)) ≡ cond (not k) (p ∷ without n ps) (without n ps) in
    (elim (is_named n p) as P [ true ↦ λ e. rw (e, twice) refl | false ↦ λ e. rw (e, rest) refl ]) refl

put_place : (n value : List ℕ) (ps : List Pair) → lowercase n ≡ n → position_or_len (is_named n) (with_value n value ps) ≡ position_or_len (is_named n) ps
put_place n value [] l =
    let own : is_named n (n, value) ≡ true = ap (λ (x : List ℕ). bytes_eq x n) l ∙ same_bytes n in rw own refl
put_place n value (p ∷ ps) l =
    let rest = put_place n value ps l in
    let P : Bool → Type 0 = λ k. is_named n p ≡ k
    → position_or_len (is_named n) (cond k ((p.0, value) ∷ without n ps) (p ∷ with_value n value ps))
    ≡ cond (not k) (1 + position_or_len (is_named n) ps) 0 in
    (elim (is_named n p) as P [ true ↦ λ e. rw e refl | false ↦ λ e. rw (e, rest) refl ]) refl

put_there : (n value : List ℕ) (ps : List Pair) → lowercase n ≡ n → list_any (is_named n) (with_value n value ps) ≡ true
put_there n value [] l =
    let own : is_named n (n, value) ≡ true = ap (λ (x : List ℕ). bytes_eq x n) l ∙ same_bytes n in rw own refl
put_there n value (p ∷ ps) l =
    let rest = put_there n value ps l in
    let P : Bool → Type 0 = λ k. is_named n p ≡ k → list_any (is_named n) (cond k ((p.0, value) ∷ without n ps) (p ∷ with_value n value ps)) ≡ true in
    (elim (is_named n p) as P [ true ↦ λ e. rw e refl | false ↦ λ e. rw (e, rest) refl ]) refl

put_position :
    (n value : List ℕ) (ps : List Pair) → lowercase n ≡ n → position (is_named n) (with_value n value ps) ≡ Some (position_or_len (is_named n) ps)
put_position n value ps l =
    let within = within_any (is_named n) (with_value n value ps) ∙ put_there n value ps l in
    rw within (ap (λ (i : ℕ). Some i) (put_place n value ps l))

pub replaced_in_place : ReplacedInPlace
replaced_in_place = record {
  found = λ h name value. ap joined (put_alone (lowercase name) value h.pairs (lowercase_twice name));
  place = λ h name value. put_position (lowercase name) value h.pairs (lowercase_twice name);
  others = λ h name value. put_others (lowercase name) value h.pairs (lowercase_twice name);
}

judged_names_yes : (name : List ℕ) → is_field_name name ≡ true → IsFieldName name
judged_names_yes name h =
    let parts = and_parts (is_token_text name) (nat_le (length name) 65535) h in
    let token = and_parts (nat_lt 0 (length name)) (list_all is_token_byte name) parts.0 in
    ((ltb-true 0 (length name) token.0, AllPass-from_list_all is_token_byte name token.1), leb-true (length name) 65535 parts.1)

judged_names_no : (name : List ℕ) → IsFieldName name → is_field_name name ≡ true
judged_names_no name h =
    let some : nat_lt 0 (length name) ≡ true = let l = h.0.0 in grind (arith, nat_tests) in
    let short : nat_le (length name) 65535 ≡ true = let l = h.1 in grind (arith, nat_tests) in
    let token = list_all-from_AllPass is_token_byte name h.0.1 in
    rw (some, token, short) refl

pub judged_alike : JudgedAlike
judged_alike = record {
  names = λ name. (judged_names_yes name, judged_names_no name);
  values = λ value. (AllPass-from_list_all is_value_byte value, list_all-from_AllPass is_value_byte value);
}

digit_is : (d : ℕ) → d < 10 → is_ascii_digit (48 + d) ≡ true
digit_is d h = grind (arith, nat_tests)

digit_back : (d : ℕ) → d < 10 → digit_value (48 + d) ≡ d
digit_back d h = grind (arith, nat_tests)

three_digits :
    (a b c : ℕ) → a < 10 → b < 10 → c < 10 → status_of ((48 + a) ∷ (48 + b) ∷ (48 + c) ∷ []) ≡ Some ((a * 10 + b) * 10 + c)
three_digits a b c ha hb hc =
    rw (digit_is a ha, digit_is b hb, digit_is c hc) (rw (digit_back a ha, digit_back b hb, digit_back c hc) (rw zero-add refl))

pub status_read_back : StatusReadBack
status_read_back n h =
    three_digits (n / 100) (n / 10 % 10) (n % 10) (omega arith) (omega arith) (omega arith) ∙ ap (λ (x : ℕ). Some x) (omega arith)
