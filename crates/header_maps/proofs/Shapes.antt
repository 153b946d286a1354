-- What the operations keep of a header list's shape.
use Rattle.std.proofs.Common.{◌≡◌, ℕ, ◌+◌, ◌<◌, ◌≤◌, Bool, true, false, ◌&&◌, not, ◌==◌, cond, List, [], ◌∷◌, ◌++◌, length, filter, refl, sym, ◌∙◌, ap, subst, arith, bytes_eq, nat_le, nat_lt, suc}
use Rattle.std.specs.List.{list_all}
use Rattle.std.proofs.lemmas.Bool.{and_parts}
use Rattle.std.proofs.lemmas.Bool.Decides.{nat_tests}
use Rattle.std.proofs.lemmas.Grind.{common_steps}
use Rattle.std.proofs.lemmas.Slice.Eq.{bytes_eq-Decides}
use Rattle.std.proofs.lemmas.Str.Ascii.{lowercase-lowercase}
use Rattle.std.specs.Char.{to_ascii_lowercase}
use Rattle.std.proofs.lemmas.Bool.{leb-true}
use Rattle.std.proofs.lemmas.List.{length-map}
use Rattle.http_header.proofs.TokenLemmas.{is_token_byte-to_ascii_lowercase}
use Rattle.http_header.specs.Token.{lowercase, is_token_byte}
use Rattle.header_maps.specs.declared.kind.ListKind.{ListKind}
use Rattle.header_maps.specs.declared.kind.ListKind.TheVariants.{Request, Response, Interim, Plain}
use Rattle.header_maps.specs.Judged.{is_field_name, is_field_value, is_token_text}
use Rattle.header_maps.specs.Kept.{is_short, is_kept_field, BeginsWith}
use Rattle.header_maps.specs.Kinds.{pseudo_names}
use Rattle.header_maps.specs.Operations.{without}
use Rattle.header_maps.specs.Pairs.{Pair, is_not_named, is_pseudo, is_plain, plain_among, plain_count}

-- lower case twice is lower case once
pub lowercase_twice : (bytes : List ℕ) → lowercase (lowercase bytes) ≡ lowercase bytes
lowercase_twice [] = refl
lowercase_twice (b ∷ bytes) = rw (lowercase-lowercase b, lowercase_twice bytes)

-- a name is that of a pseudo-header in any case of letters
pub pseudo_lowercase : (name : List ℕ) → is_pseudo (lowercase name) ≡ is_pseudo name
pseudo_lowercase [] = refl
pseudo_lowercase (b ∷ bytes) = grind (arith, nat_tests)

no_colon : is_token_byte 58 ≡ false
unfolding is_token_byte
no_colon = refl

colon_is : (b : ℕ) → (b == 58) ≡ true → b ≡ 58
colon_is b h = grind (arith, nat_tests)

token_no_colon : (b : ℕ) (is_colon : Bool) → (b == 58) ≡ is_colon → is_token_byte b ≡ true → is_colon ≡ false
token_no_colon b true e h = absurd (let at = colon_is b e in let wrong : is_token_byte 58 ≡ true = subst (λ (x : ℕ). is_token_byte x ≡ true) at h in cc (no_colon, wrong))
token_no_colon b false e h = refl

-- the name of a field is no pseudo-header's
pub name_plain : (name : List ℕ) → is_field_name name ≡ true → is_pseudo name ≡ false
name_plain [] h = refl
name_plain (b ∷ bytes) h =
    let token = (and_parts (is_token_text (b ∷ bytes)) _ h).0 in
    let all = (and_parts _ _ token).1 in
    token_no_colon b (b == 58) refl (and_parts _ _ all).0

pub kept_plain : (p : Pair) → is_kept_field p ≡ true → is_plain p ≡ true
kept_plain p h =
    let parts = (and_parts _ _ h).0 in
    let name = (and_parts _ _ parts).0 in
    ap not (name_plain p.0 name)

pub kept_count : (ps : List Pair) → list_all is_kept_field ps ≡ true → plain_count ps ≡ length ps
kept_count [] h = refl
kept_count (p ∷ ps) h =
    let parts = and_parts _ _ h in
    let one = kept_plain p parts.0 in
    let rest = kept_count ps parts.1 in
    rw one (ap suc rest)

pub names_pseudo : (kind : ListKind) → list_all is_pseudo (pseudo_names kind) ≡ true
names_pseudo Request = refl
names_pseudo Response = refl
names_pseudo Interim = refl
names_pseudo Plain = refl

-- how many fields there are
pub record Counted (names : List (List ℕ)) (pairs : List Pair) : Type 0 where
  pub sum : length pairs ≡ plain_count pairs + length names
  pub few : plain_count pairs ≤ 100

pub begins_counted :
    (kind : ListKind) (names : List (List ℕ)) (pairs : List Pair) → list_all is_pseudo names ≡ true → BeginsWith kind names pairs
    → Counted names pairs
begins_counted kind [] pairs h b = let n = kept_count pairs b.kept in record { sum = omega (arith, n); few = omega (arith, n, b.few) }
begins_counted kind (name ∷ names) [] h b = absurd b
begins_counted kind (name ∷ names) (p ∷ ps) h b =
    let parts = and_parts _ _ h in
    let rest = begins_counted kind names ps parts.1 b.1 in
    let pseudo : is_plain p ≡ false = ap (λ (x : List ℕ). not (is_pseudo x)) b.0.name_is ∙ ap not parts.0 in
    record { sum = rw pseudo (omega (arith, rest.sum)); few = rw pseudo rest.few }

-- a field may be put behind
pub begins_add :
    (kind : ListKind) (names : List (List ℕ)) (pairs : List Pair) (f : Pair) → BeginsWith kind names pairs → is_kept_field f ≡ true
    → length pairs < length names + 100 → BeginsWith kind names (pairs ++ f ∷ [])
begins_add kind [] pairs f b h l = record { kept = grind (arith, common_steps, b.kept); few = grind (arith, common_steps) }
begins_add kind (name ∷ names) [] f b h l = absurd b
begins_add kind (name ∷ names) (p ∷ ps) f b h l = (b.0, begins_add kind names ps f b.1 h (omega arith))

-- none of the names is this one, in lower case
abbrev pub is_none_of : List ℕ → List (List ℕ) → Bool
is_none_of n names = list_all (λ m. not (bytes_eq (lowercase m) n)) names

pub filter_all : (test keep : Pair → Bool) (ps : List Pair) → list_all test ps ≡ true → list_all test (filter keep ps) ≡ true
filter_all test keep [] h = refl
filter_all test keep (p ∷ ps) h =
    let parts = and_parts _ _ h in
    let rest = filter_all test keep ps parts.1 in
    let P : Bool → Type 0 = λ k. list_all test (cond k (p ∷ filter keep ps) (filter keep ps)) ≡ true in
    let here : test p ≡ true = parts.0 in
    elim (keep p) as P [ true ↦ rw here rest | false ↦ rest ]

pub filter_fewer : (keep : Pair → Bool) (ps : List Pair) → length (filter keep ps) ≤ length ps
filter_fewer keep [] = omega arith
filter_fewer keep (p ∷ ps) =
    let rest = filter_fewer keep ps in
    let P : Bool → Type 0 = λ k. length (cond k (p ∷ filter keep ps) (filter keep ps)) ≤ suc (length ps) in
    elim (keep p) as P [ true ↦ omega (arith, rest) | false ↦ omega (arith, rest) ]

-- fields of another name may be taken out
pub begins_without :
    (kind : ListKind) (names : List (List ℕ)) (pairs : List Pair) (n : List ℕ) → is_none_of n names ≡ true
    → BeginsWith kind names pairs → BeginsWith kind names (without n pairs)
begins_without kind [] pairs n h b = record {
  kept = filter_all is_kept_field (is_not_named n) pairs b.kept;
  few = let fewer = filter_fewer (is_not_named n) pairs in omega (arith, b.few, fewer);
}
begins_without kind (name ∷ names) [] n h b = absurd b
begins_without kind (name ∷ names) (p ∷ ps) n h b =
    let parts = and_parts _ _ h in
    let stays : is_not_named n p ≡ true = ap (λ (x : List ℕ). not (bytes_eq (lowercase x) n)) b.0.name_is ∙ parts.0 in
    let rest = begins_without kind names ps n parts.1 b.1 in
    let P : Bool → Type 0 = λ k. BeginsWith kind (name ∷ names) (cond k (p ∷ without n ps) (without n ps)) in
    subst P (sym stays) (b.0, rest)

-- no pseudo-header has the name of a field
pub bytes_are : (a b : List ℕ) → bytes_eq a b ≡ true → a ≡ b
bytes_are a b h = (bytes_eq-Decides a b).0 h

pub plain_is_none : (n : List ℕ) (names : List (List ℕ)) → is_pseudo n ≡ false → list_all is_pseudo names ≡ true → is_none_of n names ≡ true
plain_is_none n [] h p = refl
plain_is_none n (m ∷ ms) h p =
    let parts = and_parts _ _ p in
    let rest = plain_is_none n ms h parts.1 in
    let P : Bool → Type 0 = λ k. (bytes_eq (lowercase m) n ≡ k) → (not k && is_none_of n ms) ≡ true in
    (elim (bytes_eq (lowercase m) n) as P [
      | true ↦ λ e. absurd (let same = bytes_are (lowercase m) n e in
          let is : is_pseudo n ≡ true = ap is_pseudo (sym same) ∙ pseudo_lowercase m ∙ parts.0 in cc (h, is))
      | false ↦ λ e. rest
    ]) refl

pub same_bytes : (a : List ℕ) → bytes_eq a a ≡ true
same_bytes a = (bytes_eq-Decides a a).1 refl

token_lowercase : (bytes : List ℕ) → list_all is_token_byte bytes ≡ true → list_all is_token_byte (lowercase bytes) ≡ true
token_lowercase [] h = refl
token_lowercase (b ∷ bytes) h =
    let parts = and_parts _ _ h in
    let here : is_token_byte (to_ascii_lowercase b) ≡ true = is_token_byte-to_ascii_lowercase b parts.0 in
    rw here (token_lowercase bytes parts.1)

-- a name in lower case is a name
pub name_lowercase : (name : List ℕ) → is_field_name name ≡ true → is_field_name (lowercase name) ≡ true
name_lowercase name h =
    let parts = and_parts (is_token_text name) (nat_le (length name) 65535) h in
    let token = and_parts (nat_lt 0 (length name)) (list_all is_token_byte name) parts.0 in
    let same = length-map name to_ascii_lowercase in
    let bytes = token_lowercase name token.1 in
    let some : nat_lt 0 (length name) ≡ true = token.0 in
    let short : nat_le (length name) 65535 ≡ true = parts.1 in
    rw (same, bytes, some, short) refl

-- what is put in is a field
pub kept_lowered :
    (name value : List ℕ) → is_field_name name ≡ true → is_field_value value ≡ true → is_kept_field (lowercase name, value) ≡ true
kept_lowered name value n v =
    let lower = name_lowercase name n in
    let twice : bytes_eq (lowercase (lowercase name)) (lowercase name) ≡ true = rw lowercase_twice (same_bytes (lowercase name)) in
    rw (lower, twice) v

-- and it is short
pub short_lowered :
    (name value : List ℕ) → is_field_name name ≡ true → length value ≤ 16777216 → is_short (lowercase name, value) ≡ true
short_lowered name value n v =
    let parts = and_parts (is_token_text name) (nat_le (length name) 65535) n in
    let few : length name ≤ 65535 = leb-true (length name) 65535 parts.1 in
    let same = length-map name to_ascii_lowercase in
    let first : nat_le (length (lowercase name)) 16777216 ≡ true = rw same (grind (arith, nat_tests)) in
    let second : nat_le (length value) 16777216 ≡ true = grind (arith, nat_tests) in
    rw first second

pub all_add : (test : Pair → Bool) (ps : List Pair) (f : Pair) → list_all test ps ≡ true → test f ≡ true → list_all test (ps ++ f ∷ []) ≡ true
all_add test [] f h t = rw t refl
all_add test (p ∷ ps) f h t = let parts = and_parts _ _ h in let here : test p ≡ true = parts.0 in rw here (all_add test ps f parts.1 t)

pub count_add : (ps : List Pair) (f : Pair) → is_plain f ≡ true → plain_count (ps ++ f ∷ []) ≡ plain_count ps + 1
count_add [] f h = rw h refl
count_add (p ∷ ps) f h =
    let rest = count_add ps f h in
    let P : Bool → Type 0 = λ k. length (cond k (p ∷ plain_among (ps ++ f ∷ [])) (plain_among (ps ++ f ∷ [])))
    ≡ length (cond k (p ∷ plain_among ps) (plain_among ps)) + 1 in
    elim (is_plain p) as P [ true ↦ omega (arith, rest) | false ↦ rest ]
