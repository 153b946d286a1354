-- What `httparse` makes of the text of a whole head.
use Rattle.std.proofs.Common.{◌≡◌, ℕ, ◌≤◌, List, [], length, take, drop, slice_range, Bool, Option, None, Result, Err, refl, sym, ap, ◌∙◌, subst, inl, inr}
use Rattle.httparse.specs.declared.spans.HeaderSpan.{HeaderSpan}
use Rattle.httparse.specs.declared.spans.RequestSpans.{RequestSpans}
use Rattle.header_maps.specs.Headers.{Headers}
use Rattle.httparse.specs.declared.spans.ResponseSpans.{ResponseSpans}
use Rattle.httparse.specs.Grammar.{RequestHead, ReadsRequest, ResponseHead, ReadsResponse, status_code}
use Rattle.httparse.specs.Spans.{IsRequestAt, IsResponseAt}
use Rattle.h1_model.specs.Fields.{Pair}
use Rattle.h1_model.specs.Head.{Head, IsJudged, IsAnswer, pairs_of, head_of_list, response_judged, IsResponseAnswer}
use Rattle.h1_model.specs.Length.{Measure}
use Rattle.h1_model.specs.Target.{TargetForm}
use Rattle.h1_model.specs.Lines.{head_cut, empty_line_bytes, whole}
use Rattle.h1_model.proofs.GrammarLines.{head_fills, response_fills}
use Rattle.h1_text.specs.Spans.{fields_at}

-- the judgement of equal parts
judged_along : (m m' t t' : List ℕ) (v v' : ℕ) (fs fs' : List Pair) (a : Result Head ℕ) → m ≡ m' → t ≡ t' → v ≡ v' → fs ≡ fs'
    → IsJudged m t v fs a → IsJudged m' t' v' fs' a
judged_along m m' t t' v v' fs fs' a em et ev ef j =
    subst (λ x. IsJudged x t' v' fs' a) em
    (subst (λ x. IsJudged m x v' fs' a) et
    (subst (λ x. IsJudged m t x fs' a) ev
    (subst (λ x. IsJudged m t v x a) ef j)))

pub head_text : (text : List ℕ) (len : ℕ) (headers : List HeaderSpan) (spans : RequestSpans) (h : RequestHead)
    (method target : List ℕ) (fields : List HeaderSpan) (a : Result Head ℕ)
    → len ≤ length text → len ≤ 65536 → head_cut text ≡ whole len → empty_line_bytes text ≡ 0
    → IsRequestAt (take len text) headers spans h
    → method ≡ slice_range (take len text) spans.method.start spans.method.end
    → target ≡ slice_range (take len text) spans.path.start spans.path.end
    → fields ≡ take spans.headers headers
    → IsJudged method target spans.version (fields_at (take len text) fields) a → IsAnswer (take len text) a
head_text text len headers spans h method target fields a fits limit cut filled at em et ef judged =
    let front = take len text in
    let fills = head_fills text len h (drop spans.len front) cut limit fits filled at.reads in
    inl (record {
      head = h;
      reads = subst (λ (r : List ℕ). ReadsRequest front h r) fills.0 at.reads;
      judged = judged_along method h.method target h.target spans.version h.minor (fields_at front fields) (pairs_of h) a
          (em ∙ at.method) (et ∙ at.path) at.version (ap (fields_at front) ef ∙ at.fields) judged;
    })

pub no_head_text : (text : List ℕ) (len : ℕ) → len ≤ length text → len ≤ 65536 → head_cut text ≡ whole len → empty_line_bytes text ≡ 0
    → ((h : RequestHead) (rest : List ℕ) → ReadsRequest (take len text) h rest → length h.fields ≤ 100 → ⊥)
    → IsAnswer (take len text) (Err 400)
no_head_text text len fits limit cut filled none =
    inr (record {
      none = λ h reads. none h [] reads (head_fills text len h [] cut limit fits filled reads).1;
      is = refl;
    })

-- ---- a response

pub response_text : (to_head : Bool) (text : List ℕ) (len : ℕ) (headers : List HeaderSpan) (spans : ResponseSpans) (h : ResponseHead)
    (fields : List HeaderSpan) (a : Result Head ℕ)
    → len ≤ length text → len ≤ 65536 → head_cut text ≡ whole len → empty_line_bytes text ≡ 0
    → IsResponseAt (take len text) headers spans h → fields ≡ take spans.headers headers
    → a ≡ response_judged to_head spans.version spans.code (fields_at (take len text) fields)
    → IsResponseAnswer to_head (take len text) a
response_text to_head text len headers spans h fields a fits limit cut filled at ef judged =
    let front = take len text in
    let fills = response_fills text len h (drop spans.len front) cut limit fits filled at.reads in
    inl (record {
      head = h;
      reads = subst (λ (r : List ℕ). ReadsResponse front h r) fills.0 at.reads;
      judged = judged
          ∙ ap (λ v. response_judged to_head v spans.code (fields_at front fields)) at.version
          ∙ ap (λ n. response_judged to_head h.minor n (fields_at front fields)) at.code
          ∙ ap (response_judged to_head h.minor (status_code h)) (ap (fields_at front) ef ∙ at.fields);
    })

pub no_response_text : (to_head : Bool) (text : List ℕ) (len : ℕ) → len ≤ length text → len ≤ 65536 → head_cut text ≡ whole len → empty_line_bytes text ≡ 0
    → ((h : ResponseHead) (rest : List ℕ) → ReadsResponse (take len text) h rest → length h.fields ≤ 100 → ⊥)
    → IsResponseAnswer to_head (take len text) (Err 502)
no_response_text to_head text len fits limit cut filled none =
    inr (record {
      none = λ h reads. none h [] reads (response_fills text len h [] cut limit fits filled reads).1;
      is = refl;
    })

-- ---- what is not listed

-- a message whose list is not made is malformed
pub unlisted : (malformed number : ℕ) (form : Option TargetForm) (minor : ℕ) (fields : List Pair) (measure : Result Measure ℕ) (o : Option Headers)
    → number ≡ malformed → o ≡ None → ◌≡◌ {A = Result Head ℕ} (Err number) (head_of_list malformed o form minor fields measure)
unlisted malformed number form minor fields measure o same none =
    ap Err same ∙ sym (ap (λ (x : Option Headers). head_of_list malformed x form minor fields measure) none)
