-- What a whole list that is set keeps of what was given.
use Rattle.std.proofs.Common.{◌≡◌, ℕ, Bool, true, false, ◌||◌, not, cond, List, [], ◌∷◌, ◌++◌, map, filter, refl, sym, ◌∙◌, ap, subst, bytes_eq, inl, inr, append-nil, None}
use Rattle.std.specs.List.{list_all, list_any, flat_map}
use Rattle.std.proofs.lemmas.Bool.{and_parts}
use Rattle.std.proofs.lemmas.List.{map-append}
use Rattle.std.proofs.lemmas.List.Elements.{filter-append}
use Rattle.http_header.specs.Token.{lowercase}
use Rattle.header_maps.specs.declared.kind.ListKind.{ListKind}
use Rattle.header_maps.specs.declared.kind.ListKind.TheVariants.{Request, Response, Interim, Plain}
use Rattle.header_maps.specs.Faults.{first_fault, has_each_once, are_names_for, are_values_for, is_few}
use Rattle.header_maps.specs.Judged.{is_field_name}
use Rattle.header_maps.specs.Kinds.{pseudo_names, is_name_for}
use Rattle.header_maps.specs.Laws.{SetKeepsGiven}
use Rattle.header_maps.specs.Operations.{in_order}
use Rattle.header_maps.specs.Pairs.{Pair, lowered, is_named, is_pseudo, is_plain, plain_among, values_of}
use Rattle.header_maps.proofs.Replacing.{Once, once_for, other_bytes}
use Rattle.header_maps.proofs.Shapes.{lowercase_twice, pseudo_lowercase, bytes_are, is_none_of, plain_is_none, names_pseudo}

abbrev second : Pair → List ℕ
second p = p.1

-- a pair has the same name in lower case
named_lowered : (m : List ℕ) (p : Pair) → is_named m (lowered p) ≡ is_named m p
named_lowered m p = ap (λ (x : List ℕ). bytes_eq x m) (lowercase_twice p.0)

-- a pseudo-header and a field have no name in common
other_class : (m : List ℕ) (p : Pair) → (is_pseudo p.0 ≡ is_pseudo m → ⊥) → is_named m p ≡ false
other_class m p h =
    let P : Bool → Type 0 = λ k. is_named m p ≡ k → k ≡ false in
    (elim (is_named m p) as P [
      | true ↦ λ e. absurd (h (sym (pseudo_lowercase p.0) ∙ ap is_pseudo (bytes_are (lowercase p.0) m e)))
      | false ↦ λ e. refl
    ]) refl

not_is_true : (k : Bool) → not k ≡ true → k ≡ false
not_is_true true h = absurd (cc h)
not_is_true false h = refl

or_parts : (a b : Bool) → (a || b) ≡ false → (a ≡ false) × (b ≡ false)
or_parts true b h = absurd (cc h)
or_parts false b h = (refl, h)

true_is_false : true ≡ false → ⊥
true_is_false h = cc h

values_append : (m : List ℕ) (xs ys : List Pair) → values_of m (xs ++ ys) ≡ values_of m xs ++ values_of m ys
values_append m xs ys = ap (map second) (filter-append (is_named m) xs ys) ∙ map-append second (filter (is_named m) xs) (filter (is_named m) ys)

-- among the pairs of one name none has another
other_none :
    (n m : List ℕ) (given : List Pair) → bytes_eq (lowercase n) m ≡ false → values_of m (map lowered (filter (is_named n) given)) ≡ []
other_none n m [] h = refl
other_none n m (p ∷ ps) h =
    let rest = other_none n m ps h in
    let P : Bool → Type 0 = λ k. is_named n p ≡ k → values_of m (map lowered (cond k (p ∷ filter (is_named n) ps) (filter (is_named n) ps))) ≡ [] in
    (elim (is_named n p) as P [
      | true ↦ λ e.
          let at = bytes_are (lowercase p.0) n e in
          let lower : lowercase n ≡ lowercase p.0 = ap lowercase (sym at) ∙ lowercase_twice p.0 in
          let other : is_named m (lowered p) ≡ false = named_lowered m p ∙ subst (λ (x : List ℕ). bytes_eq x m ≡ false) lower h in
          rw other rest
      | false ↦ λ e. rest
    ]) refl

-- and all have that one
own_all : (m : List ℕ) (given : List Pair) → values_of m (map lowered (filter (is_named m) given)) ≡ values_of m given
own_all m [] = refl
own_all m (p ∷ ps) =
    let rest = own_all m ps in
    let P : Bool → Type 0 = λ k. is_named m p ≡ k
    → values_of m (map lowered (cond k (p ∷ filter (is_named m) ps) (filter (is_named m) ps))) ≡ map second (cond k (p ∷ filter (is_named m) ps) (filter (is_named m) ps)) in
    (elim (is_named m p) as P [
      | true ↦ λ e. let here : is_named m (lowered p) ≡ true = named_lowered m p ∙ e in rw here (ap (λ vs. p.1 ∷ vs) rest)
      | false ↦ λ e. rest
    ]) refl

-- the fields of a name that is no pseudo-header's
fields_all :
    (m : List ℕ) (given : List Pair) → is_pseudo m ≡ false → values_of m (map lowered (plain_among given)) ≡ values_of m given
fields_all m [] h = refl
fields_all m (p ∷ ps) h =
    let rest = fields_all m ps h in
    let P : Bool → Type 0 = λ k. is_pseudo p.0 ≡ k
    → values_of m (map lowered (cond (not k) (p ∷ plain_among ps) (plain_among ps))) ≡ map second (cond (is_named m p) (p ∷ filter (is_named m) ps) (filter (is_named m) ps)) in
    (elim (is_pseudo p.0) as P [
      | true ↦ λ e.
          let other = other_class m p (λ same. true_is_false (sym e ∙ same ∙ h)) in rw other rest
      | false ↦ λ e.
          rw (named_lowered m p)
          (elim (is_named m p) as (λ j. map second (cond j (lowered p ∷ filter (is_named m) (map lowered (plain_among ps))) (filter (is_named m) (map lowered (plain_among ps))))
          ≡ map second (cond j (p ∷ filter (is_named m) ps) (filter (is_named m) ps))) [
            | true ↦ ap (λ vs. p.1 ∷ vs) rest
            | false ↦ rest
          ])
    ]) refl

-- no field has a pseudo-header's name
fields_none : (m : List ℕ) (given : List Pair) → is_pseudo m ≡ true → values_of m (map lowered (plain_among given)) ≡ []
fields_none m [] h = refl
fields_none m (p ∷ ps) h =
    let rest = fields_none m ps h in
    let P : Bool → Type 0 = λ k. is_pseudo p.0 ≡ k → values_of m (map lowered (cond (not k) (p ∷ plain_among ps) (plain_among ps))) ≡ [] in
    (elim (is_pseudo p.0) as P [
      | true ↦ λ e. rest
      | false ↦ λ e.
          let other : is_named m (lowered p) ≡ false = named_lowered m p ∙ other_class m p (λ same. true_is_false (sym h ∙ sym same ∙ e)) in
          rw other rest
    ]) refl

abbrev leads : List (List ℕ) → List Pair → List Pair
leads names given = flat_map (λ name. map lowered (filter (is_named name) given)) names

leads_none :
    (m : List ℕ) (names : List (List ℕ)) (given : List Pair) → is_none_of m names ≡ true → values_of m (leads names given) ≡ []
leads_none m [] given h = refl
leads_none m (n ∷ ns) given h =
    let parts = and_parts (not (bytes_eq (lowercase n) m)) (is_none_of m ns) h in
    let rest = leads_none m ns given parts.1 in
    let here = other_none n m given (not_is_true (bytes_eq (lowercase n) m) parts.0) in
    values_append m (map lowered (filter (is_named n) given)) (leads ns given) ∙ rw (here, rest) refl

leads_own :
    (m : List ℕ) (names : List (List ℕ)) (given : List Pair) → Once m names → values_of m (leads names given) ≡ values_of m given
leads_own m [] given o = absurd o
leads_own m (n ∷ ns) given o =
    values_append m (map lowered (filter (is_named n) given)) (leads ns given)
    ∙ (elim o [
      | inl at ↦
          let rest = leads_none m ns given at.2 in
          let own = subst (λ (x : List ℕ). values_of m (map lowered (filter (is_named x) given)) ≡ values_of m given) (sym at.0) (own_all m given) in
          rw (rest, own) (append-nil (values_of m given))
      | inr on ↦
          let rest = leads_own m ns given on.1 in
          let here = other_none n m given on.0 in
          rw here rest
    ])

-- a pseudo-header of another kind is not given
given_none :
    (kind : ListKind) (m : List ℕ) (given : List Pair) → is_pseudo m ≡ true → list_any (bytes_eq m) (pseudo_names kind) ≡ false
    → list_all (λ (f : Pair). is_name_for kind f.0) given ≡ true → values_of m given ≡ []
given_none kind m [] h a n = refl
given_none kind m (p ∷ ps) h a n =
    let parts = and_parts (is_name_for kind p.0) (list_all (λ (f : Pair). is_name_for kind f.0) ps) n in
    let rest = given_none kind m ps h a parts.1 in
    let P : Bool → Type 0 = λ k. is_named m p ≡ k → map second (cond k (p ∷ filter (is_named m) ps) (filter (is_named m) ps)) ≡ [] in
    (elim (is_named m p) as P [
      | true ↦ λ e.
          absurd (let at = bytes_are (lowercase p.0) m e in
          let pseudo : is_pseudo p.0 ≡ true = sym (pseudo_lowercase p.0) ∙ ap is_pseudo at ∙ h in
          let among : list_any (bytes_eq (lowercase p.0)) (pseudo_names kind) ≡ true =
          sym (ap (λ (k : Bool). cond k (list_any (bytes_eq (lowercase p.0)) (pseudo_names kind)) (is_field_name p.0)) pseudo) ∙ parts.0 in
          let wrong : list_any (bytes_eq m) (pseudo_names kind) ≡ true = subst (λ (x : List ℕ). list_any (bytes_eq x) (pseudo_names kind) ≡ true) at among in
          true_is_false (sym wrong ∙ a))
      | false ↦ λ e. rest
    ]) refl

-- the names of pseudo-headers are in lower case
names_lower : (kind : ListKind) → list_all (λ (n : List ℕ). bytes_eq (lowercase n) n) (pseudo_names kind) ≡ true
names_lower Request = refl
names_lower Response = refl
names_lower Interim = refl
names_lower Plain = refl

none_of_any :
    (m : List ℕ) (names : List (List ℕ)) → list_all (λ (n : List ℕ). bytes_eq (lowercase n) n) names ≡ true
    → list_any (bytes_eq m) names ≡ false → is_none_of m names ≡ true
none_of_any m [] l a = refl
none_of_any m (n ∷ ns) l a =
    let parts = and_parts (bytes_eq (lowercase n) n) (list_all (λ (x : List ℕ). bytes_eq (lowercase x) x) ns) l in
    let both = or_parts (bytes_eq m n) (list_any (bytes_eq m) ns) a in
    let lower = bytes_are (lowercase n) n parts.0 in
    let other : bytes_eq (lowercase n) m ≡ false = subst (λ (x : List ℕ). bytes_eq x m ≡ false) (sym lower) (other_bytes m n both.0) in
    rw other (none_of_any m ns parts.1 both.1)

-- each name has the values that were given
set_values :
    (kind : ListKind) (given : List Pair) (m : List ℕ) → list_all (λ (f : Pair). is_name_for kind f.0) given ≡ true
    → values_of m (in_order kind given) ≡ values_of m given
set_values kind given m n =
    let names = pseudo_names kind in
    let P : Bool → Type 0 = λ k. is_pseudo m ≡ k
    → values_of m (leads (pseudo_names kind) given) ++ values_of m (map lowered (plain_among given)) ≡ values_of m given in
    let Q : Bool → Type 0 = λ k. list_any (bytes_eq m) (pseudo_names kind) ≡ k → is_pseudo m ≡ true
    → values_of m (leads (pseudo_names kind) given) ++ values_of m (map lowered (plain_among given)) ≡ values_of m given in
    values_append m (leads (pseudo_names kind) given) (map lowered (plain_among given))
    ∙ (elim (is_pseudo m) as P [
      | true ↦ λ e.
          (elim (list_any (bytes_eq m) (pseudo_names kind)) as Q [
            | true ↦ λ a s.
                let own = leads_own m (pseudo_names kind) given (once_for kind m a) in
                let none = fields_none m given s in
                rw (own, none) (append-nil (values_of m given))
            | false ↦ λ a s.
                let lead = leads_none m (pseudo_names kind) given (none_of_any m (pseudo_names kind) (names_lower kind) a) in
                let none = fields_none m given s in
                let absent = given_none kind m given s a n in
                rw (lead, none, absent) refl
          ]) refl e
      | false ↦ λ e.
          let lead = leads_none m (pseudo_names kind) given (plain_is_none m (pseudo_names kind) e (names_pseudo kind)) in
          rw lead (fields_all m given e)
    ]) refl

lead_plain : (n : List ℕ) (given : List Pair) → is_pseudo n ≡ true → plain_among (map lowered (filter (is_named n) given)) ≡ []
lead_plain n [] h = refl
lead_plain n (p ∷ ps) h =
    let rest = lead_plain n ps h in
    let P : Bool → Type 0 = λ k. is_named n p ≡ k → plain_among (map lowered (cond k (p ∷ filter (is_named n) ps) (filter (is_named n) ps))) ≡ [] in
    (elim (is_named n p) as P [
      | true ↦ λ e.
          let pseudo : is_pseudo (lowercase p.0) ≡ true = ap is_pseudo (bytes_are (lowercase p.0) n e) ∙ h in
          let no : is_plain (lowered p) ≡ false = ap not pseudo in rw no rest
      | false ↦ λ e. rest
    ]) refl

leads_plain : (names : List (List ℕ)) (given : List Pair) → list_all is_pseudo names ≡ true → plain_among (leads names given) ≡ []
leads_plain [] given h = refl
leads_plain (n ∷ ns) given h =
    let parts = and_parts (is_pseudo n) (list_all is_pseudo ns) h in
    let here = lead_plain n given parts.0 in
    let rest = leads_plain ns given parts.1 in
    filter-append is_plain (map lowered (filter (is_named n) given)) (leads ns given) ∙ rw (here, rest) refl

tail_plain : (given : List Pair) → plain_among (map lowered (plain_among given)) ≡ map lowered (plain_among given)
tail_plain [] = refl
tail_plain (p ∷ ps) =
    let rest = tail_plain ps in
    let P : Bool → Type 0 = λ k. is_pseudo p.0 ≡ k
    → plain_among (map lowered (cond (not k) (p ∷ plain_among ps) (plain_among ps))) ≡ map lowered (cond (not k) (p ∷ plain_among ps) (plain_among ps)) in
    (elim (is_pseudo p.0) as P [
      | true ↦ λ e. rest
      | false ↦ λ e.
          let plain : is_plain (lowered p) ≡ true = ap not (pseudo_lowercase p.0 ∙ e) in
          rw plain (ap (λ xs. lowered p ∷ xs) rest)
    ]) refl

-- the names are right where nothing is at fault
names_right : (n v f : Bool) → first_fault n v f ≡ None → n ≡ true
names_right true v f h = refl
names_right false v f h = absurd (cc h)

pub set_keeps_given : SetKeepsGiven
set_keeps_given = record {
  values = λ kind given name h.
      let names = names_right (are_names_for kind given) (are_values_for kind given) (is_few given) h in
      set_values kind given (lowercase name) (and_parts (list_all (λ (f : Pair). is_name_for kind f.0) given) (has_each_once kind given) names).0;
  fields = λ kind given.
      filter-append is_plain (leads (pseudo_names kind) given) (map lowered (plain_among given))
      ∙ ap (λ xs. xs ++ plain_among (map lowered (plain_among given))) (leads_plain (pseudo_names kind) given (names_pseudo kind))
      ∙ tail_plain given;
}
