-- The measure of the head of a request that was judged, whatever form its target has, and the framing and the tail that follow from it.
use Rattle.std.proofs.Common.{◌≡◌, inl, inr, ℕ, ◌+◌, ◌==◌, ◌≤◌, Bool, true, false, not, ◌&&◌, ◌||◌, List, [], ◌∷◌, ◌++◌, length, take, refl, sym, subst}
use Rattle.std.proofs.lemmas.Bool.{leb-true}
use Rattle.std.specs.Prelude.{Option, None, Some, MatchOption, Result, Ok, Err, nat_le, nat_lt, codes, bytes_eq, if◌then◌else◌}
use Rattle.std.specs.List.{list_all, flat_map}
use Rattle.std.specs.Char.{is_ascii_digit}
use Rattle.std.specs.Str.Parse.{digits_value}
use Rattle.header_maps.specs.Headers.{Headers}
use Rattle.exchange.specs.Heads.{is_bare, length_in, length_of, request_of, up_framing, up_tail}
use Rattle.h1_write.specs.Heads.{IsTail, IsInLimit}
use Rattle.h1_write.specs.Requests.{is_for_request}
use Rattle.http_header.specs.Token as token
use Rattle.h1_model.specs.Fields.{Pair, values_of, members}
use Rattle.h1_model.specs.Framing.{Framing, framing_of}
use Rattle.h1_model.specs.Head.{Head, found, host_of, head_of, measured, head_of_list, head_of_target, early_refusal, IsTargeted, pairs_of, IsAnswer, step_of, IsStepAt, SpellsStep}
use Rattle.h1_model.specs.Head as model
use Rattle.h1_model.specs.Length.{BodyLength, nothing, exactly, chunked, until_end, Measure, length_limit, number_of, is_number, all_as, one_number, told_measure, is_chunked, request_measure}
use Rattle.h1_model.specs.Lines.{Cut, whole, too_large, unfinished, head_cut, empty_line_bytes, after_empty_lines}
use Rattle.h1_model.specs.Listed.{request_list}
use Rattle.h1_model.specs.Target.{Target}
use Rattle.h1_model.specs.Wire.{close_field}
use Rattle.httparse.specs.Grammar.{RequestHead}
use Rattle.httparse.proofs.OnLiterals.{httparse_on_literals}
use Rattle.law_lines.specs.Requests.{IsJudged}

-- ---- lengths that are told

pub record IsSmall (m : Measure) : Type 0 where
  pub told : (n : ℕ) → m.told ≡ Some n → n ≤ length_limit
  pub exact : (n : ℕ) → m.length ≡ exactly n → n ≤ length_limit
  pub ends : m.length ≡ until_end → ⊥

number_small : (member : List ℕ) (n : ℕ) → number_of member ≡ Some n → n ≤ length_limit
number_small member n is = by_test (nat_lt 0 (length member) && list_all is_ascii_digit member) (nat_le (digits_value 10 member) length_limit) refl is
  where
    by_test : (a b : Bool) → nat_le (digits_value 10 member) length_limit ≡ b → (if a && b then Some (digits_value 10 member) else None) ≡ Some n → n ≤ length_limit
    by_test true true e f = let same : digits_value 10 member ≡ n = cc in subst (λ k. k ≤ length_limit) same (leb-true (digits_value 10 member) length_limit e)
    by_test true false e f = absurd (cc)
    by_test false b e f = absurd (cc)

one_small : (ms : List (List ℕ)) (n : ℕ) → one_number ms ≡ Some n → n ≤ length_limit
one_small [] n is = absurd (cc)
one_small (m ∷ ms) n is = by_first (number_of m) refl is
  where
    by_first : (o : Option ℕ) → number_of m ≡ o → all_as ms o ≡ Some n → n ≤ length_limit
    by_first None e f = absurd (cc)
    by_first (Some k) e f = by_all (list_all (λ j. is_number (number_of j) k) ms) f
      where
        by_all : (b : Bool) → (if b then Some k else None) ≡ Some n → n ≤ length_limit
        by_all true g = let same : k ≡ n = cc in subst (λ j. j ≤ length_limit) same (number_small m k e)
        by_all false g = absurd (cc)

told_small : (o : Option ℕ) → ((n : ℕ) → o ≡ Some n → n ≤ length_limit) → (m : Measure) → told_measure o ≡ Ok m → IsSmall m
told_small None small m is = absurd (cc)
told_small (Some n) small m is =
    let same : record { length = if n == 0 then nothing else exactly n; told = Some n } ≡ m = cc in
    subst IsSmall same (record {
      told = λ k e. let s : n ≡ k = cc in subst (λ j. j ≤ length_limit) s (small n refl);
      exact = λ k e. by_zero (n == 0) k e;
      ends = λ e. no_end (n == 0) e;
    })
  where
    by_zero : (b : Bool) (k : ℕ) → (if b then nothing else exactly n) ≡ exactly k → k ≤ length_limit
    by_zero true k e = absurd (cc)
    by_zero false k e = let s : n ≡ k = cc in subst (λ j. j ≤ length_limit) s (small n refl)

    no_end : (b : Bool) → (if b then nothing else exactly n) ≡ until_end → ⊥
    no_end true e = absurd (cc)
    no_end false e = absurd (cc)

measure_small : (minor : ℕ) (codings lengths : List (List ℕ)) (m : Measure) → request_measure minor codings lengths ≡ Ok m → IsSmall m
measure_small minor [] [] m is =
    let same : record { length = nothing; told = None } ≡ m = cc in
    subst IsSmall same (record { told = λ n e. absurd (cc); exact = λ n e. absurd (cc); ends = λ e. absurd (cc) })
measure_small minor [] (v ∷ vs) m is = told_small (one_number (flat_map members (v ∷ vs))) (λ n e. one_small (flat_map members (v ∷ vs)) n e) m is
measure_small minor (c ∷ cs) lengths m is = by_test (nat_lt 0 (length lengths) || minor == 0) (is_chunked (c ∷ cs)) is
  where
    by_test : (a b : Bool) → if◌then◌else◌ {A = Result Measure ℕ} a (Err 400) (if◌then◌else◌ {A = Result Measure ℕ} b (Ok (record { length = chunked; told = None })) (Err 501)) ≡ Ok m → IsSmall m
    by_test true b e = absurd (cc)
    by_test false true e =
        let same : record { length = chunked; told = None } ≡ m = cc in
        subst IsSmall same (record { told = λ n f. absurd (cc); exact = λ n f. absurd (cc); ends = λ f. absurd (cc) })
    by_test false false e = absurd (cc)

-- ---- of a head that was judged

abbrev IsSmallHead : Head → Type 0
IsSmallHead h = IsSmall (record { length = h.length; told = h.told })

module _ (h : Head) where
  by_head : (head : RequestHead) → model.IsJudged head.method head.target head.minor (pairs_of head) (Ok h) → IsSmallHead h
  by_head head judged = by_early (early_refusal head.method head.minor (pairs_of head)) judged
    where
      by_measure : (headers : Headers) (t : Target) (r : Result Measure ℕ) → request_measure head.minor (values_of (codes "transfer-encoding") (pairs_of head)) (values_of (codes "content-length") (pairs_of head)) ≡ r
          → Ok h ≡ measured headers (Some t.form) head.minor (pairs_of head) r → IsSmallHead h
      by_measure headers t (Err number) measure is = absurd (cc)
      by_measure headers t (Ok measure) judged_so is =
          let same : h ≡ head_of headers (Some t.form) head.minor (pairs_of head) measure = cc in
          subst IsSmallHead (sym same) (measure_small head.minor (values_of (codes "transfer-encoding") (pairs_of head)) (values_of (codes "content-length") (pairs_of head)) measure judged_so)

      by_list : (t : Target) (o : Option Headers)
          → Ok h ≡ head_of_list 400 o (Some t.form) head.minor (pairs_of head) (request_measure head.minor (values_of (codes "transfer-encoding") (pairs_of head)) (values_of (codes "content-length") (pairs_of head)))
          → IsSmallHead h
      by_list t None e = absurd (cc)
      by_list t (Some headers) e = by_measure headers t (request_measure head.minor (values_of (codes "transfer-encoding") (pairs_of head)) (values_of (codes "content-length") (pairs_of head))) refl e

      by_parts : (p : Option Target) → Ok h ≡ head_of_target head.method head.minor (pairs_of head) p → IsSmallHead h
      by_parts None e = absurd (cc)
      by_parts (Some t) e = by_list t (request_list head.method t (host_of (values_of (codes "host") (pairs_of head))) (pairs_of head)) e

      by_early : (o : Option ℕ) → MatchOption o (IsTargeted head.method head.target head.minor (pairs_of head) (Ok h)) (λ n. ◌≡◌ {A = Result Head ℕ} (Ok h) (Err n)) → IsSmallHead h
      by_early None x = by_parts x.parts x.is
      by_early (Some n) x = absurd (cc)

  by_text : (text : List ℕ) (used : ℕ) → SpellsStep text (found h used) → IsSmallHead h
  by_text text used spells = by_cut (after_empty_lines text) (head_cut (after_empty_lines text)) spells
    where
      by_answer : (front : List ℕ) → IsAnswer front (Ok h) → IsSmallHead h
      by_answer front (inl a) = by_head a.head a.judged
      by_answer front (inr a) = let e : ◌≡◌ {A = Result Head ℕ} (Ok h) (Err 400) = a.is in absurd (cc)

      by_result : (front : List ℕ) (n : ℕ) (answer : Result Head ℕ) → IsAnswer front answer → found h used ≡ step_of n answer → IsSmallHead h
      by_result front n (Ok k) answers is = let same : k ≡ h = cc in by_answer front (subst (λ (j : Head). IsAnswer front (Ok j)) same answers)
      by_result front n (Err number) answers is = absurd (cc)

      by_cut : (rest : List ℕ) (cut : Cut) → IsStepAt IsAnswer 431 (empty_line_bytes text) rest cut (found h used) → IsSmallHead h
      by_cut rest (whole len) is = by_result (take len rest) (empty_line_bytes text + len) is.0 is.1 is.2
      by_cut rest too_large is = absurd (cc)
      by_cut rest unfinished is = absurd (cc)

-- ---- the framing that goes up

pub record IsFramed (framing : Framing) : Type 0 where
  pub limit : IsInLimit framing
  pub for_request : is_for_request framing ≡ true

framed_by : (filtered : Bool) (len : BodyLength) (told : Option ℕ) → IsSmall (record { length = len; told = told }) → IsFramed (framing_of (is_bare (length_in len)) filtered false None told (length_of (length_in len)))
framed_by filtered nothing None small = record { limit = tt; for_request = refl }
framed_by filtered nothing (Some n) small = record { limit = small.told n refl; for_request = refl }
framed_by true (exactly n) told small = record { limit = tt; for_request = refl }
framed_by false (exactly n) told small = record { limit = small.exact n refl; for_request = refl }
framed_by true chunked told small = record { limit = tt; for_request = refl }
framed_by false chunked told small = record { limit = tt; for_request = refl }
framed_by filtered until_end told small = absurd (small.ends refl)

pub up_framed : (filtered : Bool) (h : Head) → IsJudged h → IsFramed (up_framing filtered (request_of h))
up_framed filtered h judged = framed_by filtered h.length h.told (by_text h judged.text judged.used judged.spells)

-- ---- `via` and `connection: close`

pub record IsUpTail (fields : List Pair) : Type 0 where
  pub tail : IsTail fields
  pub no_host : list_all (λ (f : Pair). not (bytes_eq f.0 (codes "host"))) fields ≡ true

tail_by : (b : Bool) → IsUpTail ((codes "via", (if b then codes "1.0" else codes "1.1") ++ codes " wasmgate") ∷ close_field ∷ [])
unfolding httparse_on_literals token.is_token_byte
tail_by true = record { tail = record { kept = refl; plain = refl }; no_host = refl }
tail_by false = record { tail = record { kept = refl; plain = refl }; no_host = refl }

pub tail_is : (minor : ℕ) → IsUpTail (up_tail minor)
tail_is minor = tail_by (minor == 0)
