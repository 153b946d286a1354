-- What stands in a head, and what its target gives, is no longer than a head may be.
use Rattle.std.proofs.Common.{◌≡◌, ℕ, suc, ◌+◌, ◌-◌, ◌≤◌, Bool, true, false, cond, not, ◌&&◌, eqb, List, [], ◌∷◌, ◌++◌, length, get_or, drop, bytes_eq, Option, None, Some, refl, ap, subst, arith, codes}
use Rattle.std.proofs.lemmas.List.{length-append, length-drop, length-take}
use Rattle.std.specs.Prelude.{IfSome}
use Rattle.std.specs.List.{list_any}
use Rattle.httparse.specs.declared.spans.HeaderSpan.{HeaderSpan}
use Rattle.httparse.specs.Spans.{header_bytes}
use Rattle.http_uri.specs.Grammar.{IsUriText}
use Rattle.h1_model.specs.Fields.{is_named, values_of}
use Rattle.h1_model.specs.Head.{host_of}
use Rattle.h1_model.specs.Target.{Target, origin, absolute, asterisk, Scheme, http, is_path_value, is_options, scheme_of, absolute_path, is_absolute_path, absolute_parts, target_of, IsTargetOf}
use Rattle.h1_model.proofs.FieldLemmas.{values_of-named, values_of-other}
use Rattle.h1_text.specs.Spans.{fields_at}

-- ---- Host

pub host_short : (name text : List ℕ) (spans : List HeaderSpan) → length (host_of (values_of name (fields_at text spans))) ≤ length text
host_short name text [] = omega arith
host_short name text (s ∷ spans) = by_test (is_named name (header_bytes text s)) refl (host_short name text spans)
  where
    by_test : (t : Bool) → is_named name (header_bytes text s) ≡ t → length (host_of (values_of name (fields_at text spans))) ≤ length text
        → length (host_of (values_of name (fields_at text (s ∷ spans)))) ≤ length text
    by_test true named later =
        let same : length (host_of (values_of name (fields_at text (s ∷ spans)))) ≡ length (header_bytes text s).1 =
        ap (λ vs. length (host_of vs)) (values_of-named name (header_bytes text s) (fields_at text spans) named) in
        omega (arith, same, length-take (s.value.end - s.value.start) (drop s.value.start text), length-drop s.value.start text)
    by_test false other later =
        let same : length (host_of (values_of name (fields_at text (s ∷ spans)))) ≡ length (host_of (values_of name (fields_at text spans))) =
        ap (λ vs. length (host_of vs)) (values_of-other name (header_bytes text s) (fields_at text spans) other) in
        omega (arith, same, later)

-- ---- targets

pub record IsShort (parts : Target) : Type 0 where
  pub authority : IfSome parts.authority (λ a. length a ≤ 65536)
  pub path : length parts.path ≤ 65536

cond_some : (b : Bool) (x y : Target) → cond b (Some x) None ≡ Some y → x ≡ y
cond_some true x y e = cc
cond_some false x y e = absurd (cc)

none_some : (y : Target) → ◌≡◌ {A = Option Target} None (Some y) → ⊥
none_some y e = cc

whole_short : (t : List ℕ) (x y : Target) → length t ≤ 65534 → x.authority ≡ None → x.path ≡ t → x ≡ y → IsShort y
whole_short t x y short none path same =
    subst IsShort same (record { authority = rw none tt; path = rw path (omega (arith, short)) })

abbrev path_by : Bool → Bool → Bool → List ℕ → List ℕ
path_by empty options mark tail = cond empty (cond options (codes "*") (codes "/")) (cond mark (47 ∷ tail) tail)

path_by_short : (empty options mark : Bool) (tail : List ℕ) → length (path_by empty options mark tail) ≤ suc (length tail)
path_by_short true true mark tail = omega arith
path_by_short true false mark tail = omega arith
path_by_short false options true tail = omega arith
path_by_short false options false tail = omega arith

absolute_path_short : (method tail : List ℕ) → length (absolute_path method tail) ≤ suc (length tail)
absolute_path_short method tail = path_by_short (eqb (length tail) 0) (is_options method) (eqb (get_or tail 0 0) 63) tail

pub parts_short : (method target : List ℕ) (parts : Target) → IsTargetOf method target (Some parts) → IsShort parts
parts_short method target parts g = by_form g.scheme g.authority g.kept g.reads g.gives
  where
    by_origin : (star options value : Bool) → length target ≤ 65534
        → cond star (cond options (Some (record { form = asterisk; scheme = http; authority = None; path = target })) None)
        (cond value (Some (record { form = origin; scheme = http; authority = None; path = target })) None) ≡ Some parts
        → IsShort parts
    by_origin true options value short e =
        whole_short target (record { form = asterisk; scheme = http; authority = None; path = target }) parts short refl refl
        (cond_some options (record { form = asterisk; scheme = http; authority = None; path = target }) parts e)
    by_origin false options value short e =
        whole_short target (record { form = origin; scheme = http; authority = None; path = target }) parts short refl refl
        (cond_some value (record { form = origin; scheme = http; authority = None; path = target }) parts e)

    by_scheme : (s : Option Scheme) (a path : List ℕ) → length a ≤ 65536 → length path ≤ 65536 → absolute_parts s a path ≡ Some parts → IsShort parts
    by_scheme None a path short_a short_path e = absurd (none_some parts e)
    by_scheme (Some s) a path short_a short_path e =
        let same = cond_some (not (list_any (λ b. eqb b 64) a) && is_absolute_path path)
        (record { form = absolute; scheme = s; authority = Some a; path = path }) parts e in
        subst IsShort same (record { authority = short_a; path = short_path })

    by_form : (s a : Option (List ℕ)) (k : List ℕ) → IsUriText target s a k → target_of method target s a ≡ Some parts → IsShort parts
    by_form None None k reads gives = by_origin (bytes_eq target (codes "*")) (is_options method) (is_path_value target) reads.0 gives
    by_form None (Some a) k reads gives = absurd (none_some parts gives)
    by_form (Some s) None k reads gives = absurd (none_some parts gives)
    by_form (Some s) (Some a) k reads gives =
        let form = reads.1 in
        let at = length s + 3 + length a in
        let tail = drop at target in
        by_scheme (scheme_of s) a (absolute_path method tail)
        (omega (arith, ap length form.spelled, length-append ((form.name ++ codes "://") ++ a) form.tail, length-append (form.name ++ codes "://") a, reads.0))
        (omega (arith, absolute_path_short method tail, length-drop at target, reads.0)) gives
