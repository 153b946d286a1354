-- The numbers that refuse a head.
use Rattle.std.proofs.Common.{◌≡◌, ℕ, ◌+◌, Bool, true, false, cond, eqb, ◌||◌, List, [], ◌∷◌, length, take, Option, None, Some, Result, Ok, Err, codes, bytes_eq, refl, sym, ap, subst, inl, inr}
use Rattle.std.specs.Prelude.{MatchOption, nat_lt}
use Rattle.std.specs.List.{flat_map}
use Rattle.httparse.specs.Grammar.{status_code}
use Rattle.header_maps.specs.Headers.{Headers}
use Rattle.h1_model.specs.Fields.{Pair, members, values_of}
use Rattle.h1_model.specs.Length.{nothing, exactly, chunked, Measure, one_number, told_measure, is_chunked, request_measure, or_malformed, response_measure, is_without_body, measure_of_body}
use Rattle.h1_model.specs.Lines.{Cut, whole, too_large, unfinished, head_cut, empty_line_bytes, after_empty_lines}
use Rattle.h1_model.specs.Listed.{request_list, response_list}
use Rattle.h1_model.specs.Target.{TargetForm, Target}
use Rattle.h1_model.specs.Head.{Head, host_of, head_of, measured, head_of_list, head_of_target, early_refusal, is_host_right, IsTargeted, IsJudged, IsAnswer, pairs_at, response_judged, IsResponseAnswer, refused, step_of, IsStepAt}
use Rattle.h1_model.specs.Laws.{is_request_refusal, RefusalNumbers}

no_refusal : (A : Type 0) (a : A) (n : ℕ) → ◌≡◌ {A = Result A ℕ} (Ok a) (Err n) → ⊥
no_refusal A a n e = cc

same_number : (A : Type 0) (k n : ℕ) → ◌≡◌ {A = Result A ℕ} (Err k) (Err n) → k ≡ n
same_number A k n e = cc

-- the number is one of a request
of_request : (A : Type 0) (k n : ℕ) → is_request_refusal k ≡ true → ◌≡◌ {A = Result A ℕ} (Err k) (Err n) → is_request_refusal n ≡ true
of_request A k n is e = subst (λ x. is_request_refusal x ≡ true) (same_number A k n e) is

-- ---- requests

told_number : (o : Option ℕ) (n : ℕ) → told_measure o ≡ Err n → is_request_refusal n ≡ true
told_number None n e = of_request Measure 400 n refl e
told_number (Some k) n e = absurd (no_refusal Measure (record { length = cond (eqb k 0) nothing (exactly k); told = Some k }) n e)

coded_number : (a b : Bool) (n : ℕ)
    → cond {A = Result Measure ℕ} a (Err 400) (cond {A = Result Measure ℕ} b (Ok (record { length = chunked; told = None })) (Err 501)) ≡ Err n
    → is_request_refusal n ≡ true
coded_number true b n e = of_request Measure 400 n refl e
coded_number false true n e = absurd (no_refusal Measure (record { length = chunked; told = None }) n e)
coded_number false false n e = of_request Measure 501 n refl e

measure_number : (minor : ℕ) (codings lengths : List (List ℕ)) (n : ℕ) → request_measure minor codings lengths ≡ Err n
    → is_request_refusal n ≡ true
measure_number minor [] [] n e = absurd (no_refusal Measure (record { length = nothing; told = None }) n e)
measure_number minor [] (v ∷ vs) n e = told_number (one_number (flat_map members (v ∷ vs))) n e
measure_number minor (c ∷ cs) lengths n e = coded_number (nat_lt 0 (length lengths) || eqb minor 0) (is_chunked (c ∷ cs)) n e

-- a head with a list is refused for its measure alone
by_measure : (hs : Headers) (form : Option TargetForm) (minor : ℕ) (fields : List Pair) (r : Result Measure ℕ) (n : ℕ)
    → measured hs form minor fields r ≡ Err n → r ≡ Err n
by_measure hs form minor fields (Ok m) n e = absurd (no_refusal Head (head_of hs form minor fields m) n e)
by_measure hs form minor fields (Err k) n e = ap (λ x. Err x) (same_number Head k n e)

list_number : (o : Option Headers) (form : Option TargetForm) (minor : ℕ) (fields : List Pair) (codings lengths : List (List ℕ)) (n : ℕ)
    → head_of_list 400 o form minor fields (request_measure minor codings lengths) ≡ Err n → is_request_refusal n ≡ true
list_number None form minor fields codings lengths n e = of_request Head 400 n refl e
list_number (Some hs) form minor fields codings lengths n e =
    measure_number minor codings lengths n (by_measure hs form minor fields (request_measure minor codings lengths) n e)

target_number : (method : List ℕ) (minor : ℕ) (fields : List Pair) (p : Option Target) (n : ℕ) → head_of_target method minor fields p ≡ Err n
    → is_request_refusal n ≡ true
target_number method minor fields None n e = of_request Head 400 n refl e
target_number method minor fields (Some t) n e =
    list_number (request_list method t (host_of (values_of (codes "host") fields)) fields) (Some t.form) minor fields
    (values_of (codes "transfer-encoding") fields) (values_of (codes "content-length") fields) n e

some_same : (k n : ℕ) → Some k ≡ Some n → k ≡ n
some_same k n e = cc

-- CONNECT, then Host
early_number : (a b : Bool) (n : ℕ) → cond {A = Option ℕ} a (Some 501) (cond {A = Option ℕ} b None (Some 400)) ≡ Some n → is_request_refusal n ≡ true
early_number true b n e = subst (λ x. is_request_refusal x ≡ true) (some_same 501 n e) refl
early_number false true n e = absurd (cc)
early_number false false n e = subst (λ x. is_request_refusal x ≡ true) (some_same 400 n e) refl

judged_number : (method target : List ℕ) (minor : ℕ) (fields : List Pair) (n : ℕ) → IsJudged method target minor fields (Err n)
    → is_request_refusal n ≡ true
judged_number method target minor fields n judged = by_early (early_refusal method minor fields) refl judged
  where
    by_early : (o : Option ℕ) → early_refusal method minor fields ≡ o
        → MatchOption o (IsTargeted method target minor fields (Err n)) (λ k. ◌≡◌ {A = Result Head ℕ} (Err n) (Err k)) → is_request_refusal n ≡ true
    by_early None is x = target_number method minor fields x.parts n (sym x.is)
    by_early (Some k) is x =
        of_request Head k n
        (early_number (bytes_eq method (codes "CONNECT")) (is_host_right minor (values_of (codes "host") fields)) k is) (sym x)

answer_number : (front : List ℕ) (n : ℕ) → IsAnswer front (Err n) → is_request_refusal n ≡ true
answer_number front n (inl x) = judged_number x.head.method x.head.target x.head.minor (pairs_at x.head.fields) n x.judged
answer_number front n (inr x) = of_request Head 400 n refl (sym x.is)

-- ---- responses

kept_number : (r : Result Measure ℕ) (n : ℕ) → or_malformed r ≡ Err n → n ≡ 502
kept_number (Ok m) n e = absurd (no_refusal Measure m n e)
kept_number (Err k) n e = sym (same_number Measure 502 n e)

response_number : (minor : ℕ) (codings lengths : List (List ℕ)) (n : ℕ) → response_measure minor codings lengths ≡ Err n → n ≡ 502
response_number minor [] [] n e = absurd (cc)
response_number minor [] (v ∷ vs) n e = kept_number (request_measure minor [] (v ∷ vs)) n e
response_number minor (c ∷ cs) lengths n e = kept_number (request_measure minor (c ∷ cs) lengths) n e

bodied_number : (b : Bool) (r : Result Measure ℕ) (n : ℕ) → measure_of_body b r ≡ Err n → r ≡ Err n
bodied_number b (Ok m) n e = absurd (cc)
bodied_number b (Err k) n e = e

response_judged_number : (to_head : Bool) (minor status : ℕ) (fields : List Pair) (n : ℕ) → response_judged to_head minor status fields ≡ Err n → n ≡ 502
response_judged_number to_head minor status fields n = by_list (response_list status fields)
  where
    measure : Result Measure ℕ
    measure = response_measure minor (values_of (codes "transfer-encoding") fields) (values_of (codes "content-length") fields)

    by_list : (o : Option Headers) → head_of_list 502 o None minor fields (measure_of_body (is_without_body to_head status) measure) ≡ Err n → n ≡ 502
    by_list None e = sym (same_number Head 502 n e)
    by_list (Some hs) e =
        response_number minor (values_of (codes "transfer-encoding") fields) (values_of (codes "content-length") fields) n
        (bodied_number (is_without_body to_head status) measure n
        (by_measure hs None minor fields (measure_of_body (is_without_body to_head status) measure) n e))

response_answer_number : (to_head : Bool) (front : List ℕ) (n : ℕ) → IsResponseAnswer to_head front (Err n) → n ≡ 502
response_answer_number to_head front n (inl x) =
    response_judged_number to_head x.head.minor (status_code x.head) (pairs_at x.head.fields) n (sym x.judged)
response_answer_number to_head front n (inr x) = sym (same_number Head 502 n (sym x.is))

-- ---- steps

refused_same : (k n : ℕ) → refused k ≡ refused n → k ≡ n
refused_same k n e = cc

refused_is : (used n : ℕ) (answer : Result Head ℕ) → refused n ≡ step_of used answer → answer ≡ Err n
refused_is used n (Ok h) e = absurd (cc)
refused_is used n (Err k) e = ap (λ x. Err x) (refused_same k n (sym e))

-- a number that is refused is the one of a head that is too large, or an answer's
step_number : (answers : List ℕ → Result Head ℕ → Type 0) (large : ℕ) (Right : ℕ → Type 0) → Right large
    → ((front : List ℕ) (n : ℕ) → answers front (Err n) → Right n)
    → (at : ℕ) (text : List ℕ) (c : Cut) (n : ℕ) → IsStepAt answers large at text c (refused n) → Right n
step_number answers large Right right each at text (whole len) n x =
    each (take len text) n (subst (answers (take len text)) (refused_is (at + len) n x.0 x.2) x.1)
step_number answers large Right right each at text too_large n x = subst Right (refused_same large n (sym x)) right
step_number answers large Right right each at text unfinished n x = absurd (cc)

pub refusal_numbers : RefusalNumbers
refusal_numbers = record {
  request = λ text n x. step_number IsAnswer 431 (λ k. is_request_refusal k ≡ true) refl answer_number
      (empty_line_bytes text) (after_empty_lines text) (head_cut (after_empty_lines text)) n x;
  response = λ to_head text n x. step_number (IsResponseAnswer to_head) 502 (λ k. k ≡ 502) refl (response_answer_number to_head)
      (empty_line_bytes text) (after_empty_lines text) (head_cut (after_empty_lines text)) n x;
}
