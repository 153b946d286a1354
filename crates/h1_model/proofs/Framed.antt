-- A message that is taken in is framed in one way.
use Rattle.std.proofs.Common.{◌≡◌, ℕ, Bool, true, false, cond, eqb, ◌||◌, List, [], ◌∷◌, length, Option, None, Some, Result, Ok, Err, refl, sym, ap, ◌∙◌, subst, arith}
use Rattle.std.proofs.lemmas.Bool.{and_from, eq-eqb, lt-ltb, false≢true}
use Rattle.std.specs.Prelude.{nat_lt}
use Rattle.std.specs.List.{list_all, flat_map}
use Rattle.h1_model.specs.Fields.{members}
use Rattle.h1_model.specs.Length.{nothing, exactly, chunked, until_end, Measure, number_of, is_number, all_as, one_number, told_measure, is_chunked, request_measure, open_measure, or_malformed, response_measure}
use Rattle.h1_model.specs.Laws.{IsFramedOnce, FramedOnce}

same_measure : (m n : Measure) → ◌≡◌ {A = Result Measure ℕ} (Ok m) (Ok n) → m ≡ n
same_measure m n e = cc

no_measure : (k : ℕ) (m : Measure) → ◌≡◌ {A = Result Measure ℕ} (Err k) (Ok m) → ⊥
no_measure k m e = cc

-- a measure that tells nothing and is neither chunked nor a number, where there is no field
bare : (minor : ℕ) (m : Measure) → (m.length ≡ chunked → ⊥) → ((n : ℕ) → m.length ≡ exactly n → ⊥)
    → m.told ≡ None → IsFramedOnce minor [] [] m
bare minor m no_chunks no_number none = record {
  chunked_alone = λ e. absurd (no_chunks e);
  one_length = λ n e. absurd (no_number n e);
  told_alone = λ n e. absurd (cc (none, e));
  untold = λ _ _. (refl, refl);
  unending = λ _. (refl, refl);
}

-- ---- a number

all_write : (others : List (List ℕ)) (n : ℕ) (o : Option ℕ) → all_as others o ≡ Some n
    → (o ≡ Some n) × (list_all (λ m. is_number (number_of m) n) others ≡ true)
all_write others n None e = absurd (cc)
all_write others n (Some k) e = by_test (list_all (λ m. is_number (number_of m) k) others) refl e
  where
    by_test : (b : Bool) → list_all (λ m. is_number (number_of m) k) others ≡ b → cond b (Some k) None ≡ Some n
        → (Some k ≡ Some n) × (list_all (λ m. is_number (number_of m) n) others ≡ true)
    by_test true all e =
        let same : k ≡ n = cc in
        (ap (λ x. Some x) same, subst (λ x. list_all (λ m. is_number (number_of m) x) others ≡ true) same all)
    by_test false all e = absurd (cc)

one_written : (ms : List (List ℕ)) (n : ℕ) → one_number ms ≡ Some n → list_all (λ m. is_number (number_of m) n) ms ≡ true
one_written [] n e = absurd (cc)
one_written (m ∷ ms) n e =
    let x = all_write ms n (number_of m) e in
    and_from _ _ (ap (λ o. is_number o n) x.0 ∙ eq-eqb n n refl) x.1

measure_of : ℕ → Measure
measure_of n = record { length = cond (eqb n 0) nothing (exactly n); told = Some n }

length_is : (n k : ℕ) (b : Bool) → eqb n 0 ≡ b → cond b nothing (exactly n) ≡ exactly k → n ≡ k
length_is n k true z e = absurd (cc)
length_is n k false z e = cc

no_chunked : (n : ℕ) (b : Bool) → cond b nothing (exactly n) ≡ chunked → ⊥
no_chunked n true e = cc
no_chunked n false e = cc

not_open : (n : ℕ) (b : Bool) → cond b nothing (exactly n) ≡ until_end → ⊥
not_open n true e = cc
not_open n false e = cc

told_framed : (minor : ℕ) (lengths : List (List ℕ)) (o : Option ℕ) (m : Measure) → one_number (flat_map members lengths) ≡ o
    → told_measure o ≡ Ok m → IsFramedOnce minor [] lengths m
told_framed minor lengths None m is e = absurd (no_measure 400 m e)
told_framed minor lengths (Some n) m is e =
    subst (IsFramedOnce minor [] lengths) (same_measure (record { length = cond (eqb n 0) nothing (exactly n); told = Some n }) m e) (record {
      chunked_alone = λ c. absurd (no_chunked n (eqb n 0) c);
      one_length = λ k c. (let same : n ≡ k = length_is n k (eqb n 0) refl c in
          (refl, subst (λ x. list_all (λ m. is_number (number_of m) x) (flat_map members lengths) ≡ true) same (one_written (flat_map members lengths) n is), ap (λ x. Some x) same));
      told_alone = λ k c. (let same : n ≡ k = cc in
          (refl, subst (λ x. list_all (λ m. is_number (number_of m) x) (flat_map members lengths) ≡ true) same (one_written (flat_map members lengths) n is)));
      untold = λ _ x. absurd (cc);
      unending = λ c. absurd (not_open n (eqb n 0) c);
    })

-- ---- the chunked coding

no_lines : (lengths : List (List ℕ)) → nat_lt 0 (length lengths) ≡ false → lengths ≡ []
no_lines [] e = refl
no_lines (l ∷ ls) e = absurd (false≢true (sym e ∙ lt-ltb 0 (length (l ∷ ls)) (omega arith)))

coded_framed : (minor : ℕ) (codings lengths : List (List ℕ)) (a b c : Bool) (m : Measure) → nat_lt 0 (length lengths) ≡ a → eqb minor 0 ≡ b
    → is_chunked codings ≡ c
    → cond {A = Result Measure ℕ} (a || b) (Err 400) (cond {A = Result Measure ℕ} c (Ok (record { length = chunked; told = None })) (Err 501)) ≡ Ok m
    → IsFramedOnce minor codings lengths m
coded_framed minor codings lengths true b c m la lb lc e = absurd (no_measure 400 m e)
coded_framed minor codings lengths false true c m la lb lc e = absurd (no_measure 400 m e)
coded_framed minor codings lengths false false false m la lb lc e = absurd (no_measure 501 m e)
coded_framed minor codings lengths false false true m la lb lc e =
    subst (IsFramedOnce minor codings lengths) (same_measure (record { length = chunked; told = None }) m e) (record {
      chunked_alone = λ _. (no_lines lengths la, lc, λ z. false≢true (sym lb ∙ ap (λ v. eqb v 0) z));
      one_length = λ k x. absurd (cc);
      told_alone = λ k x. absurd (cc);
      untold = λ x _. absurd (cc);
      unending = λ x. absurd (cc);
    })

-- ---- messages

request_framed : (minor : ℕ) (codings lengths : List (List ℕ)) (m : Measure) → request_measure minor codings lengths ≡ Ok m
    → IsFramedOnce minor codings lengths m
request_framed minor [] [] m e =
    subst (IsFramedOnce minor [] []) (same_measure (record { length = nothing; told = None }) m e)
    (bare minor (record { length = nothing; told = None }) (λ x. cc) (λ n x. cc) refl)
request_framed minor [] (v ∷ vs) m e = told_framed minor (v ∷ vs) (one_number (flat_map members (v ∷ vs))) m refl e
request_framed minor (c ∷ cs) lengths m e =
    coded_framed minor (c ∷ cs) lengths (nat_lt 0 (length lengths)) (eqb minor 0) (is_chunked (c ∷ cs)) m refl refl refl e

kept_ok : (r : Result Measure ℕ) (m : Measure) → or_malformed r ≡ Ok m → r ≡ Ok m
kept_ok (Ok x) m e = e
kept_ok (Err k) m e = absurd (no_measure 502 m e)

response_framed : (minor : ℕ) (codings lengths : List (List ℕ)) (m : Measure) → response_measure minor codings lengths ≡ Ok m
    → IsFramedOnce minor codings lengths m
response_framed minor [] [] m e =
    subst (IsFramedOnce minor [] []) (same_measure open_measure m e) (bare minor open_measure (λ x. cc) (λ n x. cc) refl)
response_framed minor [] (v ∷ vs) m e =
    request_framed minor [] (v ∷ vs) m (kept_ok (request_measure minor [] (v ∷ vs)) m e)
response_framed minor (c ∷ cs) lengths m e =
    request_framed minor (c ∷ cs) lengths m (kept_ok (request_measure minor (c ∷ cs) lengths) m e)

pub framed_once : FramedOnce
framed_once = record { request = request_framed; response = response_framed }
