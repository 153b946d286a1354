-- The list of a head is its pseudo-headers and the fields that pass.
use Rattle.std.proofs.Common.{◌≡◌, ◌==◌, ℕ, Bool, true, false, cond, not, ◌&&◌, List, [], ◌∷◌, ◌++◌, map, codes, Option, None, Some, Result, Ok, Err, refl, sym, ap, ◌∙◌}
use Rattle.std.proofs.lemmas.List.{append_assoc, append-nil}
use Rattle.std.specs.Prelude.{MatchOption, is_none, unwrap_or}
use Rattle.http_header.specs.Token.{lowercase}
use Rattle.header_maps.specs.Faults.{add_fault, request_fault, response_fault}
use Rattle.header_maps.specs.Headers.{Headers}
use Rattle.header_maps.specs.declared.kind.ListKind.TheVariants.{Request}
use Rattle.header_maps.specs.Operations.{added, request_headers, response_headers, status_kind}
use Rattle.h1_model.specs.Fields.{Pair, values_of, lowercase_name, is_dropped, passing_among, passing_fields, passing_response_fields, kept_among, kept_fields, kept_response_fields}
use Rattle.h1_model.specs.Head.{Head, host_of, head_of, head_of_list, head_of_target, early_refusal, IsTargeted}
use Rattle.h1_model.specs.Laws.{RequestListed, ResponseListed}
use Rattle.h1_model.specs.Length.{Measure, request_measure, response_measure, is_without_body, measure_of_body}
use Rattle.h1_model.specs.Listed.{with_fields, scheme_text, request_list, response_list}
use Rattle.h1_model.specs.Target.{TargetForm, Target, GivesTarget, IsTargetOf}
use Rattle.h1_model.proofs.FieldLemmas.{kept_among-dropped, kept_among-kept, passing_among-dropped, passing_among-passing}

-- ---- a list

-- the fields stand after the list, with names in lower case
record IsLonger (headers : Headers) (fs : List Pair) (l : Headers) : Type 0 where
  kind : l.kind ≡ headers.kind
  pairs : l.pairs ≡ headers.pairs ++ map lowercase_name fs

no_list : (l : Headers) → ◌≡◌ {A = Option Headers} None (Some l) → ⊥
no_list l e = cc

same_list : (a b : Headers) → Some a ≡ Some b → a ≡ b
same_list a b e = cc

longer : (headers : Headers) (fs : List Pair) (l : Headers) → with_fields headers fs ≡ Some l → IsLonger headers fs l
longer headers [] l e =
    let same = same_list headers l e in
    record {
      kind = ap (λ (h : Headers). h.kind) (sym same);
      pairs = ap (λ (h : Headers). h.pairs) (sym same) ∙ sym (append-nil headers.pairs);
    }
longer headers (f ∷ fs) l e = by_fault (is_none (add_fault headers f.0 f.1)) e (longer (added headers f.0 f.1) fs l)
  where
    by_fault : (b : Bool) → cond b (with_fields (added headers f.0 f.1) fs) None ≡ Some l
        → (with_fields (added headers f.0 f.1) fs ≡ Some l → IsLonger (added headers f.0 f.1) fs l) → IsLonger headers (f ∷ fs) l
    by_fault true e later =
        let x = later e in
        record { kind = x.kind; pairs = x.pairs ∙ append_assoc headers.pairs (lowercase_name f ∷ []) (map lowercase_name fs) }
    by_fault false e later = absurd (no_list l e)

-- ---- the fields that pass

pub passing-kept : (all fs : List Pair) → map lowercase_name (passing_among (is_dropped all) fs) ≡ kept_among all fs
passing-kept all [] = refl
passing-kept all (f ∷ fs) = by_test (is_dropped all (lowercase f.0)) refl (passing-kept all fs)
  where
    by_test : (b : Bool) → is_dropped all (lowercase f.0) ≡ b → map lowercase_name (passing_among (is_dropped all) fs) ≡ kept_among all fs
        → map lowercase_name (passing_among (is_dropped all) (f ∷ fs)) ≡ kept_among all (f ∷ fs)
    by_test true is later =
        ap (map lowercase_name) (passing_among-dropped (is_dropped all) f fs is) ∙ later ∙ sym (kept_among-dropped all f fs is)
    by_test false is later =
        ap (map lowercase_name) (passing_among-passing (is_dropped all) f fs is) ∙ ap (λ (ps : List Pair). lowercase_name f ∷ ps) later
        ∙ sym (kept_among-kept all f fs is)

-- ---- heads

no_head : (n : ℕ) (h : Head) → ◌≡◌ {A = Result Head ℕ} (Ok h) (Err n) → ⊥
no_head n h e = cc

same_head : (g h : Head) → ◌≡◌ {A = Result Head ℕ} (Ok g) (Ok h) → h ≡ g
same_head g h e = cc

-- a head that is taken in has its list
record HasList (o : Option Headers) (head : Head) : Type 0 where
  list : Headers
  is : o ≡ Some list
  has : head.fields ≡ list

has_list : (malformed : ℕ) (o : Option Headers) (form : Option TargetForm) (minor : ℕ) (fields : List Pair) (m : Result Measure ℕ) (head : Head)
    → Ok head ≡ head_of_list malformed o form minor fields m → HasList o head
has_list malformed None form minor fields m head e = absurd (no_head malformed head e)
has_list malformed (Some hs) form minor fields (Ok m) head e =
    record { list = hs; is = refl; has = ap (λ (h : Head). h.fields) (same_head (head_of hs form minor fields m) head (sym e)) }
has_list malformed (Some hs) form minor fields (Err n) head e = absurd (no_head n head e)

pub request_listed : RequestListed
request_listed method target minor fields head = by_early (early_refusal method minor fields)
  where
    Goal : Type 0
    Goal =
        (parts : Target) × GivesTarget method target parts
        × (head.fields.kind ≡ Request)
        × (head.fields.pairs
        ≡ (request_headers method (scheme_text parts.scheme) (unwrap_or parts.authority (host_of (values_of (codes "host") fields))) parts.path).pairs
        ++ kept_fields fields)

    by_fault : (t : Target) (b : Bool) → GivesTarget method target t
        → HasList (cond b (with_fields (request_headers method (scheme_text t.scheme) (unwrap_or t.authority (host_of (values_of (codes "host") fields))) t.path) (passing_fields fields)) None) head
        → Goal
    by_fault t true gives x =
        let l = longer (request_headers method (scheme_text t.scheme) (unwrap_or t.authority (host_of (values_of (codes "host") fields))) t.path) (passing_fields fields) x.list x.is in
        let first = (request_headers method (scheme_text t.scheme) (unwrap_or t.authority (host_of (values_of (codes "host") fields))) t.path).pairs in (
          t,
          gives,
          ap (λ (h : Headers). h.kind) x.has ∙ l.kind,
          ap (λ (h : Headers). h.pairs) x.has ∙ l.pairs ∙ ap (λ (ps : List Pair). first ++ ps) (passing-kept fields fields),
        )
    by_fault t false gives x = absurd (no_list x.list x.is)

    by_parts : (p : Option Target) → IsTargetOf method target p → Ok head ≡ head_of_target method minor fields p → Goal
    by_parts None gives e = absurd (no_head 400 head e)
    by_parts (Some t) gives e =
        by_fault t (is_none (request_fault method (scheme_text t.scheme) (unwrap_or t.authority (host_of (values_of (codes "host") fields))) t.path)) gives
        (has_list 400 (request_list method t (host_of (values_of (codes "host") fields)) fields) (Some t.form) minor fields
        (request_measure minor (values_of (codes "transfer-encoding") fields) (values_of (codes "content-length") fields)) head e)

    by_early : (o : Option ℕ) → MatchOption o (IsTargeted method target minor fields (Ok head)) (λ n. Ok head ≡ Err n) → Goal
    by_early None x = by_parts x.parts x.gives x.is
    by_early (Some n) x = absurd (no_head n head x)

pub response_listed : ResponseListed
response_listed to_head minor status fields head e =
    by_fault (is_none (response_fault status) && not (status == 101))
    (has_list 502 (response_list status fields) None minor fields
    (measure_of_body (is_without_body to_head status)
    (response_measure minor (values_of (codes "transfer-encoding") fields) (values_of (codes "content-length") fields))) head (sym e))
  where
    by_fault : (b : Bool) → HasList (cond b (with_fields (response_headers status) (passing_response_fields fields)) None) head
        → (head.fields.kind ≡ status_kind status)
        × (head.fields.pairs ≡ (response_headers status).pairs ++ kept_response_fields fields)
    by_fault true x =
        let l = longer (response_headers status) (passing_response_fields fields) x.list x.is in
        (ap (λ (h : Headers). h.kind) x.has ∙ l.kind, ap (λ (h : Headers). h.pairs) x.has ∙ l.pairs)
    by_fault false x = absurd (no_list x.list x.is)
