-- What a response head that is taken in tells of the head that was received.
use Rattle.std.proofs.Common.{◌≡◌, ℕ, Bool, true, false, cond, eqb, ◌&&◌, ◌||◌, not, List, [], ◌∷◌, length, Option, None, Some, Result, Ok, Err, codes, refl, sym, ap, ◌∙◌, subst, arith}
use Rattle.std.proofs.lemmas.Bool.{lt-ltb}
use Rattle.std.specs.Prelude.{is_some, nat_lt}
use Rattle.std.specs.List.{flat_map}
use Rattle.header_maps.specs.Headers.{Headers}
use Rattle.h1_model.specs.Fields.{members, values_of}
use Rattle.h1_model.specs.Length.{nothing, exactly, chunked, Measure, one_number, told_measure, is_chunked, request_measure, open_measure, or_malformed, response_measure, is_without_body, without_body, measure_of_body}
use Rattle.h1_model.specs.Listed.{response_list}
use Rattle.h1_model.specs.Head.{Head, head_of, head_of_list, is_coded}
use Rattle.h1_model.specs.Laws.{IsResponseAsReceived, ResponseAsReceived}

same_measure : (m n : Measure) → ◌≡◌ {A = Result Measure ℕ} (Ok m) (Ok n) → m ≡ n
same_measure m n e = cc

no_measure : (k : ℕ) (m : Measure) → ◌≡◌ {A = Result Measure ℕ} (Err k) (Ok m) → ⊥
no_measure k m e = cc

-- there is one of them
abbrev some_of : List (List ℕ) → Bool
some_of values = nat_lt 0 (length values)

some_line : (v : List ℕ) (vs : List (List ℕ)) → some_of (v ∷ vs) ≡ true
some_line v vs = lt-ltb 0 (length (v ∷ vs)) (omega arith)

-- the measure tells of the lines that it was made from
record Tells (codings lengths : List (List ℕ)) (m : Measure) : Type 0 where
  told : is_some m.told ≡ some_of lengths
  coded : is_coded m.length ≡ some_of codings

not_coded : (n : ℕ) (b : Bool) → is_coded (cond b nothing (exactly n)) ≡ false
not_coded n true = refl
not_coded n false = refl

told_tells : (v : List ℕ) (vs : List (List ℕ)) (o : Option ℕ) (m : Measure) → told_measure o ≡ Ok m → Tells [] (v ∷ vs) m
told_tells v vs None m e = absurd (no_measure 400 m e)
told_tells v vs (Some n) m e =
    subst (Tells [] (v ∷ vs)) (same_measure (record { length = cond (eqb n 0) nothing (exactly n); told = Some n }) m e) (record {
      told = sym (some_line v vs);
      coded = not_coded n (eqb n 0);
    })

coded_tells : (c : List ℕ) (cs lengths : List (List ℕ)) (a old b : Bool) (m : Measure) → some_of lengths ≡ a
    → cond {A = Result Measure ℕ} (a || old) (Err 400) (cond {A = Result Measure ℕ} b (Ok (record { length = chunked; told = None })) (Err 501)) ≡ Ok m
    → Tells (c ∷ cs) lengths m
coded_tells c cs lengths true old b m is e = absurd (no_measure 400 m e)
coded_tells c cs lengths false true b m is e = absurd (no_measure 400 m e)
coded_tells c cs lengths false false false m is e = absurd (no_measure 501 m e)
coded_tells c cs lengths false false true m is e =
    subst (Tells (c ∷ cs) lengths) (same_measure (record { length = chunked; told = None }) m e) (record {
      told = sym is;
      coded = sym (some_line c cs);
    })

kept_ok : (r : Result Measure ℕ) (m : Measure) → or_malformed r ≡ Ok m → r ≡ Ok m
kept_ok (Ok x) m e = e
kept_ok (Err k) m e = absurd (no_measure 502 m e)

response_tells : (minor : ℕ) (codings lengths : List (List ℕ)) (m : Measure) → response_measure minor codings lengths ≡ Ok m
    → Tells codings lengths m
response_tells minor [] [] m e = subst (Tells [] []) (same_measure open_measure m e) (record { told = refl; coded = refl })
response_tells minor [] (v ∷ vs) m e =
    told_tells v vs (one_number (flat_map members (v ∷ vs))) m (kept_ok (request_measure minor [] (v ∷ vs)) m e)
response_tells minor (c ∷ cs) lengths m e =
    coded_tells c cs lengths (some_of lengths) (eqb minor 0) (is_chunked (c ∷ cs)) m refl
    (kept_ok (request_measure minor (c ∷ cs) lengths) m e)

bare_told : (b : Bool) (m : Measure) → is_some (without_body b m).told ≡ is_some m.told
bare_told true m = refl
bare_told false m = refl

bare_coded : (b : Bool) (m : Measure) → is_coded (without_body b m).length ≡ (not b && is_coded m.length)
bare_coded true m = refl
bare_coded false m = refl

no_head : (n : ℕ) (h : Head) → ◌≡◌ {A = Result Head ℕ} (Err n) (Ok h) → ⊥
no_head n h e = cc

same_head : (g h : Head) → ◌≡◌ {A = Result Head ℕ} (Ok g) (Ok h) → g ≡ h
same_head g h e = cc

pub response_as_received : ResponseAsReceived
response_as_received to_head minor status fields head = by_list (response_list status fields)
  where
    codings : List (List ℕ)
    codings = values_of (codes "transfer-encoding") fields

    lengths : List (List ℕ)
    lengths = values_of (codes "content-length") fields

    bare : Bool
    bare = is_without_body to_head status

    by_measure : (hs : Headers) (r : Result Measure ℕ) → response_measure minor codings lengths ≡ r
        → head_of_list 502 (Some hs) None minor fields (measure_of_body bare r) ≡ Ok head → IsResponseAsReceived to_head minor status fields head
    by_measure hs (Err n) is e = absurd (no_head n head e)
    by_measure hs (Ok m) is e =
        let tells = response_tells minor codings lengths m is in
        subst (IsResponseAsReceived to_head minor status fields)
        (same_head (head_of hs None minor fields (without_body bare m)) head e) (record {
          told = bare_told bare m ∙ tells.told;
          coded = bare_coded bare m ∙ ap (λ b. not bare && b) tells.coded;
          version = refl;
          close = refl;
          connection = refl;
        })

    by_list : (o : Option Headers) → head_of_list 502 o None minor fields (measure_of_body bare (response_measure minor codings lengths)) ≡ Ok head
        → IsResponseAsReceived to_head minor status fields head
    by_list None e = absurd (no_head 502 head e)
    by_list (Some hs) e = by_measure hs (response_measure minor codings lengths) refl e
