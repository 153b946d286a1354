-- What a head that is taken in tells of the head that was received.
use Rattle.std.proofs.Common.{◌≡◌, ℕ, Bool, true, false, cond, eqb, ◌&&◌, ◌||◌, not, List, [], ◌∷◌, length, get_or, Option, None, Some, Result, Ok, Err, codes, bytes_eq, refl, sym, ap, ◌∙◌, inl, inr, arith}
use Rattle.std.proofs.lemmas.Bool.{cases_Bool, cond-true, cond-false, and_parts, ne_eqb, lt-ltb}
use Rattle.std.proofs.lemmas.Slice.Eq.{bytes_eq-Decides}
use Rattle.std.specs.Prelude.{MatchOption, is_some, nat_lt}
use Rattle.std.specs.List.{flat_map, list_any}
use Rattle.http_uri.specs.Grammar.{IsUriText}
use Rattle.http_uri.proofs.UriLemmas.{cut_first}
use Rattle.httparse.specs.Grammar.{is_value_byte}
use Rattle.httparse.proofs.TrimLemmas.{AllPass-trim_ows}
use Rattle.h1_model.specs.Fields.{members, values_of}
use Rattle.h1_model.specs.Length.{nothing, exactly, chunked, Measure, one_number, told_measure, is_chunked, request_measure}
use Rattle.h1_model.specs.Target.{origin, absolute, asterisk, Scheme, http, Target, is_path_value, is_options, origin_target, scheme_of, is_absolute_path, absolute_parts, target_of, GivesTarget, IsTargetOf}
use Rattle.h1_model.specs.Head.{Head, host_of, head_of, measured, head_of_list, head_of_target, early_refusal, IsTargeted, is_coded, has_length_field, is_origin}
use Rattle.header_maps.specs.Headers.{Headers}
use Rattle.h1_model.specs.Listed.{request_list}
use Rattle.h1_model.specs.Laws.{has_line, ToldAsReceived, ValuesAccepted, WholeFits}
use Rattle.h1_model.proofs.Growth.{head_cut_fits}

-- ---- lengths

same_measure : (m n : Measure) → ◌≡◌ {A = Result Measure ℕ} (Ok m) (Ok n) → m ≡ n
same_measure m n e = cc

no_measure : (k : ℕ) (m : Measure) → ◌≡◌ {A = Result Measure ℕ} (Err k) (Ok m) → ⊥
no_measure k m e = cc

-- the measure tells a length field
abbrev tells : Measure → Bool
tells m = is_some m.told || is_coded m.length

told_tells : (o : Option ℕ) (m : Measure) → told_measure o ≡ Ok m → tells m ≡ true
told_tells None m e = absurd (no_measure 400 m e)
told_tells (Some n) m e =
    ap tells (sym (same_measure (record { length = cond (eqb n 0) nothing (exactly n); told = Some n }) m e))

coded_tells : (a b : Bool) (m : Measure)
    → cond {A = Result Measure ℕ} a (Err 400) (cond {A = Result Measure ℕ} b (Ok (record { length = chunked; told = None })) (Err 501)) ≡ Ok m
    → tells m ≡ true
coded_tells true b m e = absurd (no_measure 400 m e)
coded_tells false true m e = ap tells (sym (same_measure (record { length = chunked; told = None }) m e))
coded_tells false false m e = absurd (no_measure 501 m e)

some_line : (v : List ℕ) (vs : List (List ℕ)) → nat_lt 0 (length (v ∷ vs)) ≡ true
some_line v vs = lt-ltb 0 (length (v ∷ vs)) (omega arith)

measure_tells : (minor : ℕ) (codings lengths : List (List ℕ)) (m : Measure) → request_measure minor codings lengths ≡ Ok m
    → tells m ≡ (nat_lt 0 (length codings) || nat_lt 0 (length lengths))
measure_tells minor [] [] m e = ap tells (sym (same_measure (record { length = nothing; told = None }) m e))
measure_tells minor [] (v ∷ vs) m e = told_tells (one_number (flat_map members (v ∷ vs))) m e ∙ sym (some_line v vs)
measure_tells minor (c ∷ cs) lengths m e =
    coded_tells (nat_lt 0 (length lengths) || eqb minor 0) (is_chunked (c ∷ cs)) m e
    ∙ sym (ap (λ b. b || nat_lt 0 (length lengths)) (some_line c cs))

-- ---- targets

abbrev begins : List ℕ → Bool
begins target = eqb (get_or target 0 0) 47

same_form : (t u : Target) → Some t ≡ Some u → is_origin (Some t.form) ≡ is_origin (Some u.form)
same_form t u e = ap (λ (o : Option Target). elim o [ None ↦ false | Some x ↦ is_origin (Some x.form) ]) e

no_target : (t : Target) → ◌≡◌ {A = Option Target} None (Some t) → ⊥
no_target t e = cc

star_begins : (target : List ℕ) → bytes_eq target (codes "*") ≡ true → begins target ≡ false
star_begins target e = ap begins ((bytes_eq-Decides target (codes "*")).0 e)

origin_form : (method target : List ℕ) (t : Target) → origin_target method target ≡ Some t → is_origin (Some t.form) ≡ begins target
origin_form method target t e =
    elim (cases_Bool (bytes_eq target (codes "*"))) [
      | inl star ↦ by_star (is_options method) (sym (cond-true _ _ _ star) ∙ e) ∙ sym (star_begins target star)
      | inr other ↦ by_path (is_path_value target) refl (sym (cond-false _ _ _ other) ∙ e)
    ]
  where
    by_star : (b : Bool) → cond b (Some (record { form = asterisk; scheme = http; authority = None; path = target })) None ≡ Some t
        → is_origin (Some t.form) ≡ false
    by_star true e = sym (same_form (record { form = asterisk; scheme = http; authority = None; path = target }) t e)
    by_star false e = absurd (no_target t e)

    by_path : (b : Bool) → is_path_value target ≡ b
        → cond b (Some (record { form = origin; scheme = http; authority = None; path = target })) None ≡ Some t
        → is_origin (Some t.form) ≡ begins target
    by_path true value e =
        sym (same_form (record { form = origin; scheme = http; authority = None; path = target }) t e) ∙ sym (and_parts _ _ value).0
    by_path false value e = absurd (no_target t e)

absolute_form : (s : Option Scheme) (authority path : List ℕ) (t : Target) → absolute_parts s authority path ≡ Some t → is_origin (Some t.form) ≡ false
absolute_form None authority path t e = absurd (no_target t e)
absolute_form (Some s) authority path t e = by_test (not (list_any (λ b. eqb b 64) authority) && is_absolute_path path) e
  where
    by_test : (b : Bool) → cond b (Some (record { form = absolute; scheme = s; authority = Some authority; path = path })) None ≡ Some t
        → is_origin (Some t.form) ≡ false
    by_test true e = sym (same_form (record { form = absolute; scheme = s; authority = Some authority; path = path }) t e)
    by_test false e = absurd (no_target t e)

not_slash : (target : List ℕ) → (get_or target 0 0 ≡ 47 → ⊥) → begins target ≡ false
not_slash target other = ne_eqb (get_or target 0 0) 47 other

form_tells : (method target : List ℕ) (s a : Option (List ℕ)) (k : List ℕ) (t : Target) → IsUriText target s a k
    → target_of method target s a ≡ Some t → is_origin (Some t.form) ≡ begins target
form_tells method target None None k t h e = origin_form method target t e
form_tells method target None (Some a) k t h e = absurd (no_target t e)
form_tells method target (Some s) None k t h e = absurd (no_target t e)
form_tells method target (Some s) (Some a) k t h e =
    absolute_form (scheme_of s) a _ t e ∙ sym (not_slash target (λ slash. cut_first target s a k h.1 slash))

-- ---- heads

same_head : (g h : Head) → ◌≡◌ {A = Result Head ℕ} (Ok g) (Ok h) → h ≡ g
same_head g h e = cc

no_head : (n : ℕ) (h : Head) → ◌≡◌ {A = Result Head ℕ} (Ok h) (Err n) → ⊥
no_head n h e = cc

pub told_as_received : ToldAsReceived
told_as_received method target minor fields head = by_early (early_refusal method minor fields)
  where
    by_measure : (t : Target) (hs : Headers) (r : Result Measure ℕ)
        → request_measure minor (values_of (codes "transfer-encoding") fields) (values_of (codes "content-length") fields) ≡ r
        → GivesTarget method target t → Ok head ≡ measured hs (Some t.form) minor fields r
        → (has_length_field head ≡ (has_line (codes "transfer-encoding") fields || has_line (codes "content-length") fields))
        × (is_origin head.form ≡ begins target)
        × (head.connection ≡ values_of (codes "connection") fields)
    by_measure t hs (Ok m) is gives e =
        let same : head ≡ head_of hs (Some t.form) minor fields m = same_head (head_of hs (Some t.form) minor fields m) head (sym e) in (
          ap has_length_field same ∙ measure_tells minor (values_of (codes "transfer-encoding") fields) (values_of (codes "content-length") fields) m is,
          ap (λ (h : Head). is_origin h.form) same ∙ form_tells method target gives.scheme gives.authority gives.kept t gives.reads gives.gives,
          ap (λ (h : Head). h.connection) same,
        )
    by_measure t hs (Err n) is gives e = absurd (no_head n head e)

    by_list : (t : Target) (o : Option Headers) → GivesTarget method target t
        → Ok head ≡ head_of_list 400 o (Some t.form) minor fields (request_measure minor (values_of (codes "transfer-encoding") fields) (values_of (codes "content-length") fields))
        → (has_length_field head ≡ (has_line (codes "transfer-encoding") fields || has_line (codes "content-length") fields))
        × (is_origin head.form ≡ begins target)
        × (head.connection ≡ values_of (codes "connection") fields)
    by_list t None gives e = absurd (no_head 400 head e)
    by_list t (Some hs) gives e =
        by_measure t hs (request_measure minor (values_of (codes "transfer-encoding") fields) (values_of (codes "content-length") fields)) refl gives e

    by_parts : (p : Option Target) → IsTargetOf method target p → Ok head ≡ head_of_target method minor fields p
        → (has_length_field head ≡ (has_line (codes "transfer-encoding") fields || has_line (codes "content-length") fields))
        × (is_origin head.form ≡ begins target)
        × (head.connection ≡ values_of (codes "connection") fields)
    by_parts None gives e = absurd (no_head 400 head e)
    by_parts (Some t) gives e = by_list t (request_list method t (host_of (values_of (codes "host") fields)) fields) gives e

    by_early : (o : Option ℕ) → MatchOption o (IsTargeted method target minor fields (Ok head)) (λ n. Ok head ≡ Err n)
        → (has_length_field head ≡ (has_line (codes "transfer-encoding") fields || has_line (codes "content-length") fields))
        × (is_origin head.form ≡ begins target)
        × (head.connection ≡ values_of (codes "connection") fields)
    by_early None x = by_parts x.parts x.gives x.is
    by_early (Some n) x = absurd (no_head n head x)

pub values_accepted : ValuesAccepted
values_accepted text head rest reads = λ k d lt. AllPass-trim_ows is_value_byte _ (reads.0.fields k d lt).raw

pub whole_fits : WholeFits
whole_fits = head_cut_fits
