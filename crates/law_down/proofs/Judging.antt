-- What a reader of responses hands on was judged.
use Rattle.std.proofs.Common.{◌≡◌, ◌⊎◌, inl, inr, ℕ, ◌+◌, ◌==◌, ◌<◌, ◌≤◌, Bool, true, false, not, ◌&&◌, List, ◌∷◌, take, codes, refl, ap, ◌∙◌, sym, subst, arith}
use Rattle.std.proofs.lemmas.Bool.Decides.{leb_tells}
use Rattle.std.specs.Prelude.{if◌then◌else◌, Option, None, Some, is_none, Result, Ok, Err, nat_le, bytes_eq}
use Rattle.exchange.specs.Heads.{is_bare, length_in, response_of, status_in}
use Rattle.law_exchange.specs.Responses.{WasJudged}
use Rattle.header_maps.specs.Faults.{first_fault, response_fault}
use Rattle.header_maps.specs.Headers.{Headers}
use Rattle.header_maps.specs.Judged.{status_of, status_text}
use Rattle.header_maps.proofs.Found.{status_read_back}
use Rattle.header_maps.specs.Operations.{response_headers}
use Rattle.httparse.specs.Grammar.{status_code}
use Rattle.h1_model.specs.Fields.{Pair, values_of, passing_response_fields}
use Rattle.h1_model.specs.Head.{Head, HeadStep, found, not_yet, refused, SpellsResponse, IsResponseAnswer, response_judged, pairs_at, head_of_list, measured, step_of, head_of, IsStepAt}
use Rattle.h1_model.specs.Length.{Measure, response_measure, is_without_body, without_body, measure_of_body}
use Rattle.h1_model.specs.Lines.{Cut, whole, too_large, unfinished, head_cut, after_empty_lines, empty_line_bytes}
use Rattle.h1_model.specs.Listed.{response_list, with_fields}
use Rattle.h1_model.specs.Messages.{Step, item, stop, request, interim, response, octet, end, trailers, head as head_due, done, due_behind, is_interim, SpellsHead, step_from}
use Rattle.h1_model.specs.Unread.{interim_part, part, by_itself, piece_before, IsNext}
use Rattle.h1_model.proofs.Listing.{response_listed}
use Rattle.law_down.specs.Downward.{IsInterim}

-- ---- heads

same_ok : {A : Type 0} (a b : A) → ◌≡◌ {A = Result A ℕ} (Ok a) (Ok b) → a ≡ b
same_ok a b is = cc

no_fault : (b : Bool) → is_none (first_fault true b true) ≡ true → b ≡ true
no_fault true is = refl
no_fault false is = absurd (cc)

and_right : (a b : Bool) → (a && b) ≡ true → b ≡ true
and_right true b is = is
and_right false b is = absurd (cc)

and_left : (a b : Bool) → (a && b) ≡ true → a ≡ true
and_left true b is = refl
and_left false b is = absurd (cc)

few : (status : ℕ) → is_none (response_fault status) ≡ true → status < 1000
few status is = by_test (leb_tells status 599)
  where
    high : nat_le status 599 ≡ true
    high = and_right (nat_le 100 status) (nat_le status 599) (no_fault (nat_le 100 status && nat_le status 599) is)

    by_test : ((nat_le status 599 ≡ true) × (status ≤ 599)) ⊎ ((nat_le status 599 ≡ false) × (599 < status)) → status < 1000
    by_test (inl e) = omega (arith, e.1)
    by_test (inr e) = let never : ◌≡◌ {A = Bool} true false = sym high ∙ e.0 in absurd (cc)

-- the status of a list is the one that it was made with
status_first : (fields : Headers) (status : ℕ) (more : List Pair) → fields.pairs ≡ (codes ":status", status_text status) ∷ more → status_in fields ≡ status_of (status_text status)
status_first fields status more are = ap (λ (ps : List Pair). status_in (record fields { pairs = ps })) are

module _ (to_head : Bool) (minor status : ℕ) (fields : List Pair) (h : Head) (is : response_judged to_head minor status fields ≡ Ok h) where
  gone_without : Bool
  gone_without = is_without_body to_head status

  measure_of : Result Measure ℕ
  measure_of = response_measure minor (values_of (codes "transfer-encoding") fields) (values_of (codes "content-length") fields)

  code : is_none (response_fault status) ≡ true → status_in h.fields ≡ Some status
  code legal = status_first h.fields status _ (response_listed to_head minor status fields h is).1 ∙ status_read_back status (few status legal)

  judged : WasJudged (is_bare (length_in h.length)) (response_of to_head h)
  judged = by_list (response_list status fields) refl
    where
      by_measure : (l : Headers) → is_none (response_fault status) ≡ true → (r : Result Measure ℕ) → response_measure minor (values_of (codes "transfer-encoding") fields) (values_of (codes "content-length") fields) ≡ r
          → measured l None minor fields (measure_of_body (is_without_body to_head status) r) ≡ Ok h → WasJudged (is_bare (length_in h.length)) (response_of to_head h)
      by_measure l legal (Err number) was e = absurd (cc)
      by_measure l legal (Ok measure) was e =
          let same : h ≡ head_of l None minor fields (without_body (is_without_body to_head status) measure) = sym (same_ok _ h e) in
          record {
            minor = minor;
            codings = values_of (codes "transfer-encoding") fields;
            lengths = values_of (codes "content-length") fields;
            measure = measure;
            to_head = to_head;
            status = status;
            judged = was;
            received = record { method = refl; code = code legal; length = ap (λ (g : Head). length_in g.length) same; told = ap (λ (g : Head). g.told) same };
            ends = refl;
          }

      by_list : (o : Option Headers) → response_list status fields ≡ o → WasJudged (is_bare (length_in h.length)) (response_of to_head h)
      by_list None at =
          let e : ◌≡◌ {A = Result Head ℕ} (Err 502) (Ok h)
          = sym (ap (λ (o : Option Headers). head_of_list 502 o None minor fields (measure_of_body (is_without_body to_head status) (response_measure minor (values_of (codes "transfer-encoding") fields) (values_of (codes "content-length") fields)))) at) ∙ is in
          absurd (cc)
      by_list (Some l) at =
          by_measure l (no_list (is_none (response_fault status)) (not (status == 101)) at) (response_measure minor (values_of (codes "transfer-encoding") fields) (values_of (codes "content-length") fields)) refl
          (sym (ap (λ (o : Option Headers). head_of_list 502 o None minor fields (measure_of_body (is_without_body to_head status) (response_measure minor (values_of (codes "transfer-encoding") fields) (values_of (codes "content-length") fields)))) at) ∙ is)
        where
          no_list : (a b : Bool) → (if a && b then with_fields (response_headers status) (passing_response_fields fields) else None) ≡ Some l → a ≡ true
          no_list true b e = refl
          no_list false b e = absurd (cc)

pub judged_head : (to_head : Bool) (text : List ℕ) (h : Head) (used : ℕ) → SpellsResponse to_head text (found h used) → WasJudged (is_bare (length_in h.length)) (response_of to_head h)
judged_head to_head text h used spells = by_cut (head_cut (after_empty_lines text)) spells
  where
    same_head : (answer : Result Head ℕ) (at : ℕ) → found h used ≡ step_of at answer → answer ≡ Ok h
    same_head (Ok g) at is = let e : h ≡ g = cc in ap (λ (k : Head). Ok k) (sym e)
    same_head (Err number) at is = absurd (cc)

    by_answer : (front : List ℕ) (answer : Result Head ℕ) → IsResponseAnswer to_head front answer → answer ≡ Ok h → WasJudged (is_bare (length_in h.length)) (response_of to_head h)
    by_answer front answer (inl t) is = judged to_head t.head.minor (status_code t.head) (pairs_at t.head.fields) h (sym t.judged ∙ is)
    by_answer front answer (inr t) is = let e : ◌≡◌ {A = Result Head ℕ} (Err 502) (Ok h) = sym t.is ∙ is in absurd (cc)

    by_cut : (c : Cut) → IsStepAt (IsResponseAnswer to_head) 502 (empty_line_bytes text) (after_empty_lines text) c (found h used) → WasJudged (is_bare (length_in h.length)) (response_of to_head h)
    by_cut (whole len) s = by_answer (take len (after_empty_lines text)) s.0 s.1 (same_head s.0 (empty_line_bytes text + len) s.2)
    by_cut too_large s = absurd (cc)
    by_cut unfinished s = absurd (cc)

-- ---- interim heads

pub interim_is : (ended : Bool) (asked text : List ℕ) (h : Head) (used : ℕ) (due : _) → IsNext ended (Some asked) head_due text (part (interim_part h) used due) → IsInterim h.fields
interim_is ended asked text h used due (inr a) = absurd (no_piece a.behind a.is)
  where
    no_piece : (s : Step) → part (interim_part h) used due ≡ piece_before a.bytes a.used a.mid s → ⊥
    no_piece (item (request g) n d) is = cc
    no_piece (item (interim g) n d) is = cc
    no_piece (item (response g) n d) is = cc
    no_piece (item (octet b) n d) is = cc
    no_piece (item end n d) is = cc
    no_piece (item (trailers fields) n d) is = cc
    no_piece (stop why) is = cc
interim_is ended asked text h used due (inl a) = by_step a.there.0 a.there.1 (subst (λ (s : Step). by_itself s ≡ Some (part (interim_part h) used due)) a.there.2 a.is)
  where
    by_kind : (g : Head) (n : ℕ) → SpellsResponse (bytes_eq asked (codes "HEAD")) text (found g n) → (b : Bool) → is_interim g.fields.kind ≡ b
        → by_itself (if b then item (interim g) n head_due else item (response g) n (due_behind done g.connection g.length)) ≡ Some (part (interim_part h) used due) → IsInterim h.fields
    by_kind g n spells true kind is =
        let same : g ≡ h = cc in
        record { head = g; of = ap (λ (k : Head). k.fields) same; to_head = bytes_eq asked (codes "HEAD"); text = text; used = n; spells = spells; interim = ap (λ (k : Head). is_interim k.fields.kind) (sym same) ∙ kind }
    by_kind g n spells false kind is = absurd (cc)

    by_step : (s : HeadStep) → SpellsHead (Some asked) text s → by_itself (step_from ended (Some asked) text s) ≡ Some (part (interim_part h) used due) → IsInterim h.fields
    by_step (found g n) spells is = by_kind g n spells (is_interim g.fields.kind) refl is
    by_step not_yet spells is = absurd (cc)
    by_step (refused number) spells is = absurd (cc)
