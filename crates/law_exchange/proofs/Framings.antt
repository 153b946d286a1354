-- Framings on their way out.
use Rattle.std.proofs.Common.{◌≡◌, ◌⊎◌, inl, inr, ℕ, ◌==◌, Bool, true, false, not, ◌||◌, ◌&&◌, List, [], ◌∷◌, length, refl, ap, ◌∙◌, sym, subst}
use Rattle.std.proofs.lemmas.Bool.Decides.{eqb_tells}
use Rattle.std.specs.Prelude.{if◌then◌else◌, Option, None, Some, Result, Ok, Err, nat_lt}
use Rattle.std.specs.List.{flat_map}
use Rattle.exchange.specs.declared.types.Request.{Request}
use Rattle.exchange.specs.declared.types.Response.{Response}
use Rattle.exchange.specs.Heads.{is_bare, length_in, length_of, lacks_body, is_204, may_stay, up_framing, down_framing, answer_of, sent_length}
use Rattle.h1_head.specs.declared.head.Length.{Length}
use Rattle.h1_head.specs.declared.head.Length.TheVariants as lengths
use Rattle.h1_model.specs.Fields.{members}
use Rattle.h1_model.specs.Framing.{Framing, no_body, by_length, by_chunks, by_close, may_tell, told_framing, bare_framing, body_framing, kept_framing, for_client, framing_of}
use Rattle.h1_model.specs.Length.{BodyLength, nothing, exactly, chunked, until_end, Measure, open_measure, told_measure, one_number, is_chunked, request_measure, response_measure, or_malformed, is_without_body, without_body}
use Rattle.h1_write.specs.Heads.{frames_body, measure_said}
use Rattle.h1_write.specs.Requests.{request_said}
use Rattle.law_exchange.specs.Framings.{RequestsKeepTheirLength, IsInStep, IsReceived, ResponsesStayInStep, is_chunks}
use Rattle.law_exchange.specs.Responses.{WasJudged}
use Rattle.law_exchange.proofs.Quiet.{by_bool}

-- ---- the measures that are judged

-- what holds of a message without length, of each number told, and of chunks, holds of each measure of a request
by_request : (P : Measure → Type 0) → P (record { length = nothing; told = None }) → ((n : ℕ) → P (record { length = if n == 0 then nothing else exactly n; told = Some n }))
    → P (record { length = chunked; told = None }) → (minor : ℕ) (codings lengths : List (List ℕ)) (measure : Measure) → request_measure minor codings lengths ≡ Ok measure → P measure
by_request P none each chunks minor [] [] measure is = subst P (inside is) none
  where
    inside : {a b : Measure} → ◌≡◌ {A = Result Measure ℕ} (Ok a) (Ok b) → a ≡ b
    inside e = cc
by_request P none each chunks minor [] (v ∷ vs) measure is = by_number (one_number (flat_map members (v ∷ vs))) is
  where
    by_number : (o : Option ℕ) → told_measure o ≡ Ok measure → P measure
    by_number None e = absurd (cc)
    by_number (Some n) e = let same : record { length = if n == 0 then nothing else exactly n; told = Some n } ≡ measure = (cc) in subst P same (each n)
by_request P none each chunks minor (c ∷ cs) ls measure is = by_fault (nat_lt 0 (length ls) || minor == 0) is
  where
    by_coding : (b : Bool) → ◌≡◌ {A = Result Measure ℕ} (if b then Ok (record { length = chunked; told = None }) else Err 501) (Ok measure) → P measure
    by_coding true e = let same : record { length = chunked; told = None } ≡ measure = (cc) in subst P same chunks
    by_coding false e = absurd (cc)

    by_fault : (b : Bool) → ◌≡◌ {A = Result Measure ℕ} (if b then Err 400 else (if is_chunked (c ∷ cs) then Ok (record { length = chunked; told = None }) else Err 501)) (Ok measure) → P measure
    by_fault true e = absurd (cc)
    by_fault false e = by_coding (is_chunked (c ∷ cs)) e

-- ---- requests

abbrev up_for : Measure → Framing
up_for m = framing_of (is_bare (length_in m.length)) false false None m.told (length_of (length_in m.length))

told_up : (n : ℕ) → request_said (up_for (record { length = if n == 0 then nothing else exactly n; told = Some n })) ≡ record { length = if n == 0 then nothing else exactly n; told = Some n }
told_up n = by_zero (n == 0)
  where
    by_zero : (b : Bool) → request_said (up_for (record { length = if b then nothing else exactly n; told = Some n })) ≡ record { length = if n == 0 then nothing else exactly n; told = Some n }
    by_zero true = refl
    by_zero false = refl

requests_kept : (minor : ℕ) (codings lengths : List (List ℕ)) (measure : Measure) (q : Request) → request_measure minor codings lengths ≡ Ok measure
    → q.length ≡ length_in measure.length → q.told ≡ measure.told → request_said (up_framing false q) ≡ measure
requests_kept minor codings lengths measure q judged length told =
    (λ i. request_said (framing_of (is_bare (length i)) false false None (told i) (length_of (length i))))
    ∙ by_request (λ m. request_said (up_for m) ≡ m) refl told_up refl minor codings lengths measure judged

pub requests_keep : RequestsKeepTheirLength
requests_keep = record {
  kept = requests_kept;
  filtered = λ q is. ap (λ b. for_client false (if b then bare_framing None q.told else body_framing true (length_of q.length))) is;
  bare = λ q is.
      ap (λ b. for_client false (if b then bare_framing None q.told else body_framing true (length_of q.length))) is
      ∙ sym (ap (λ b. for_client false (if b then bare_framing None q.told else body_framing false (length_of q.length))) is);
}

-- ---- responses

parts : (a b : Bool) → (a || b) ≡ false → (a ≡ false) × (b ≡ false)
parts true b is = absurd (cc)
parts false b is = (refl, is)

-- a status that lets a response have a body lets it tell a length
may_tell_there : (to_head : Bool) (status : ℕ) → is_without_body to_head status ≡ false → may_tell (Some status) ≡ true
may_tell_there to_head status is =
    let both = parts (to_head || nat_lt status 200) (status == 204 || status == 304) is in
    let low = parts to_head (nat_lt status 200) both.0 in
    let high = parts (status == 204) (status == 304) both.1 in
    λ i. not (low.1 i || high.0 i)

still_frames : (old : Bool) (f : Framing) → frames_body f ≡ true → frames_body (for_client old f) ≡ true
still_frames old no_body is = absurd (cc)
still_frames old (by_length n) is = refl
still_frames true by_chunks is = refl
still_frames false by_chunks is = refl
still_frames old by_close is = refl

unchunked : (f : Framing) → is_chunks (for_client true f) ≡ false
unchunked no_body = refl
unchunked (by_length n) = refl
unchunked by_chunks = refl
unchunked by_close = refl

told_unchunked : (o : Option ℕ) → is_chunks (told_framing o) ≡ false
told_unchunked None = refl
told_unchunked (Some n) = refl

-- a client of HTTP/1.0 is sent no chunks, whatever the response
pub no_chunks_down : (filtered : Bool) (q : Request) (r : Response) (out : Option ℕ) → q.old_client ≡ true → is_chunks (down_framing filtered q r out) ≡ false
no_chunks_down filtered q r out old =
    by_bool (λ f. is_chunks f ≡ false) (lacks_body q.is_head out) _ _
    (λ e. by_bool (λ f. is_chunks f ≡ false) ((is_bare r.length || not filtered) && not (is_204 r.status || is_204 out)) (told_framing r.told) no_body (λ d. told_unchunked r.told) (λ d. refl))
    (λ e. by_bool (λ f. is_chunks f ≡ false) (lacks_body r.to_head r.status) (by_length 0) (framing_of (is_bare r.length) filtered q.old_client r.status r.told (length_of r.length)) (λ d. refl)
    (λ d. subst (λ b. is_chunks (framing_of (is_bare r.length) filtered b r.status r.told (length_of r.length)) ≡ false) (sym old)
    (unchunked (if is_bare r.length then bare_framing r.status r.told else body_framing filtered (length_of r.length)))))

or_true : (a : Bool) → (a || true) ≡ true
or_true true = refl
or_true false = refl

pub never_both : (a : Bool) → (a && false) ≡ false
never_both true = refl
never_both false = refl

-- where no body is awaited no chunks are told, and of 204 nothing is
pub bare_unchunked : (filtered : Bool) (q : Request) (r : Response) (out : Option ℕ) → lacks_body q.is_head out ≡ true → is_chunks (down_framing filtered q r out) ≡ false
bare_unchunked filtered q r out lacks =
    subst (λ b. is_chunks (if b then (if (is_bare r.length || not filtered) && not (is_204 r.status || is_204 out) then told_framing r.told else no_body)
    else (if lacks_body r.to_head r.status then by_length 0 else framing_of (is_bare r.length) filtered q.old_client r.status r.told (length_of r.length))) ≡ false) (sym lacks)
    (by_bool (λ f. is_chunks f ≡ false) ((is_bare r.length || not filtered) && not (is_204 r.status || is_204 out)) (told_framing r.told) no_body (λ d. told_unchunked r.told) (λ d. refl))

pub untold_204 : (filtered : Bool) (q : Request) (r : Response) (out : Option ℕ) → is_204 out ≡ true → down_framing filtered q r out ≡ no_body
untold_204 filtered q r None is = absurd (cc)
untold_204 filtered q r (Some status) is =
    let lacks : lacks_body q.is_head (Some status) ≡ true
    = ap (λ b. (q.is_head || nat_lt status 200) || (b || status == 304)) is ∙ or_true (q.is_head || nat_lt status 200) in
    ap (λ b. if b then (if (is_bare r.length || not filtered) && not (is_204 r.status || status == 204) then told_framing r.told else no_body)
    else (if lacks_body r.to_head r.status then by_length 0 else framing_of (is_bare r.length) filtered q.old_client r.status r.told (length_of r.length))) lacks
    ∙ (ap (λ b. if (is_bare r.length || not filtered) && not (is_204 r.status || b) then told_framing r.told else no_body) is
    ∙ (ap (λ b. if (is_bare r.length || not filtered) && not b then told_framing r.told else no_body) (or_true (is_204 r.status))
    ∙ ap (λ b. if b then told_framing r.told else no_body) (never_both (is_bare r.length || not filtered))))

-- what the framing of a response with a body has to be, for a body of this length
abbrev Frames : Bool → Bool → ℕ → Option ℕ → Length → Type 0
Frames filtered old status told l = frames_body (framing_of (is_bare l) filtered old (Some status) told (length_of l)) ≡ true

kept_frames : (filtered : Bool) (len : BodyLength) → frames_body (kept_framing len) ≡ true → frames_body (body_framing filtered len) ≡ true
kept_frames true len is = refl
kept_frames false len is = is

-- one that tells its length
told_frames : (filtered old : Bool) (status n : ℕ) (l : Length) → may_tell (Some status) ≡ true → (is_bare l ≡ false → l ≡ lengths.Exactly n) → Frames filtered old status (Some n) l
told_frames filtered old status n lengths.Nothing may is = still_frames old (bare_framing (Some status) (Some n)) (ap (λ b. frames_body (if b then by_length n else no_body)) may)
told_frames filtered old status n (lengths.Exactly m) may is = still_frames old (body_framing filtered (exactly m)) (kept_frames filtered (exactly m) refl)
told_frames filtered old status n lengths.Chunked may is = still_frames old (body_framing filtered chunked) (kept_frames filtered chunked refl)
told_frames filtered old status n lengths.UntilEnd may is = still_frames old (body_framing filtered until_end) (kept_frames filtered until_end refl)

abbrev FramesMeasure : Bool → Bool → ℕ → Measure → Type 0
FramesMeasure filtered old status m = Frames filtered old status m.told (length_in m.length)

by_response : (P : Measure → Type 0) → P open_measure → ((n : ℕ) → P (record { length = if n == 0 then nothing else exactly n; told = Some n }))
    → P (record { length = chunked; told = None }) → (minor : ℕ) (codings lengths : List (List ℕ)) (measure : Measure) → response_measure minor codings lengths ≡ Ok measure → P measure
by_response P unending each chunks minor [] [] measure is = let same : open_measure ≡ measure = (cc) in subst P same unending
by_response P unending each chunks minor [] (v ∷ vs) measure is = by_number (one_number (flat_map members (v ∷ vs))) is
  where
    by_number : (o : Option ℕ) → or_malformed (told_measure o) ≡ Ok measure → P measure
    by_number None e = absurd (cc)
    by_number (Some n) e = let same : record { length = if n == 0 then nothing else exactly n; told = Some n } ≡ measure = (cc) in subst P same (each n)
by_response P unending each chunks minor (c ∷ cs) ls measure is = by_fault (nat_lt 0 (length ls) || minor == 0) is
  where
    by_coding : (b : Bool) → or_malformed (if b then Ok (record { length = chunked; told = None }) else Err 501) ≡ Ok measure → P measure
    by_coding true e = let same : record { length = chunked; told = None } ≡ measure = (cc) in subst P same chunks
    by_coding false e = absurd (cc)

    by_fault : (b : Bool) → or_malformed (if b then Err 400 else (if is_chunked (c ∷ cs) then Ok (record { length = chunked; told = None }) else Err 501)) ≡ Ok measure → P measure
    by_fault true e = absurd (cc)
    by_fault false e = by_coding (is_chunked (c ∷ cs)) e

number_frames : (filtered old : Bool) (status : ℕ) → may_tell (Some status) ≡ true → (n : ℕ) → FramesMeasure filtered old status (record { length = if n == 0 then nothing else exactly n; told = Some n })
number_frames filtered old status may n = by_zero (n == 0)
  where
    by_zero : (b : Bool) → FramesMeasure filtered old status (record { length = if b then nothing else exactly n; told = Some n })
    by_zero true = told_frames filtered old status n lengths.Nothing may (λ e. absurd (cc))
    by_zero false = told_frames filtered old status n (lengths.Exactly n) may (λ e. refl)

measured_frames : (filtered old : Bool) (status : ℕ) → may_tell (Some status) ≡ true → (minor : ℕ) (codings lengths : List (List ℕ)) (measure : Measure)
    → response_measure minor codings lengths ≡ Ok measure → FramesMeasure filtered old status measure
measured_frames filtered old status may minor codings ls measure judged =
    by_response (FramesMeasure filtered old status) (still_frames old (body_framing filtered until_end) (kept_frames filtered until_end refl)) (number_frames filtered old status may)
    (still_frames old (body_framing filtered chunked) (kept_frames filtered chunked refl)) minor codings ls measure judged

-- where the client awaits a body: what was received had none whatever it told, or it is framed as a response with a body
by_down : (P : Framing → Type 0) (filtered : Bool) (q : Request) (r : Response) (out : Option ℕ) (status : ℕ) → r.status ≡ Some status → lacks_body q.is_head out ≡ false → P (by_length 0)
    → (is_without_body r.to_head status ≡ false → P (framing_of (is_bare r.length) filtered q.old_client (Some status) r.told (length_of r.length))) → P (down_framing filtered q r out)
by_down P filtered q r out status is awaits empty else_ =
    let later : P (if lacks_body r.to_head r.status then by_length 0 else framing_of (is_bare r.length) filtered q.old_client r.status r.told (length_of r.length))
    = subst (λ (o : Option ℕ). P (if lacks_body r.to_head o then by_length 0 else framing_of (is_bare r.length) filtered q.old_client o r.told (length_of r.length))) (sym is)
    (by_bool P (is_without_body r.to_head status) (by_length 0) (framing_of (is_bare r.length) filtered q.old_client (Some status) r.told (length_of r.length)) (λ e. empty) else_) in
    subst (λ b. P (if b then (if (is_bare r.length || not filtered) && not (is_204 r.status || is_204 out) then told_framing r.told else no_body)
    else (if lacks_body r.to_head r.status then by_length 0 else framing_of (is_bare r.length) filtered q.old_client r.status r.told (length_of r.length)))) (sym awaits) later

frames_down : (filtered : Bool) (q : Request) (r : Response) (out : Option ℕ) (status : ℕ) → r.status ≡ Some status → lacks_body q.is_head out ≡ false
    → (is_without_body r.to_head status ≡ false → Frames filtered q.old_client status r.told r.length) → frames_body (down_framing filtered q r out) ≡ true
frames_down filtered q r out status is awaits else_ = by_down (λ f. frames_body f ≡ true) filtered q r out status is awaits refl else_

in_step : (filtered : Bool) (q : Request) (r : Response) (out status : ℕ) → r.status ≡ Some status
    → (is_without_body r.to_head status ≡ false → Frames filtered q.old_client status r.told r.length) → IsInStep q out (down_framing filtered q r (Some out))
in_step filtered q r out status is frames = record {
  tells = λ awaits. frames_down filtered q r (Some out) status is awaits frames;
  written = λ awaits. ap (λ b. if b then no_body else down_framing filtered q r (Some out)) awaits;
  no_chunks = λ old. no_chunks_down filtered q r (Some out) old;
  none = λ awaits. ap (λ b. if b then no_body else down_framing filtered q r (Some out)) awaits;
  unchunked = λ awaits. bare_unchunked filtered q r (Some out) awaits;
  no_content = λ is. untold_204 filtered q r (Some out) is;
}

abbrev left_of : Bool → ℕ → Measure → Measure
left_of to_head status measure = without_body (is_without_body to_head status) measure

received_frames : (minor : ℕ) (codings ls : List (List ℕ)) (measure : Measure) (to_head : Bool) (status : ℕ) (r : Response) (filtered old : Bool)
    → response_measure minor codings ls ≡ Ok measure → IsReceived to_head status measure r → is_without_body r.to_head status ≡ false → Frames filtered old status r.told r.length
received_frames minor codings ls measure to_head status r filtered old judged is bodied =
    let here : is_without_body to_head status ≡ false = ap (λ b. is_without_body b status) (sym is.method) ∙ bodied in
    let len : r.length ≡ length_in measure.length = is.length ∙ ap (λ b. length_in (without_body b measure).length) here in
    let told : r.told ≡ measure.told = is.told ∙ ap (λ b. (without_body b measure).told) here in
    (λ i. frames_body (framing_of (is_bare (len i)) filtered old (Some status) (told i) (length_of (len i))))
    ∙ measured_frames filtered old status (may_tell_there to_head status here) minor codings ls measure judged

received_in_step : (minor : ℕ) (codings ls : List (List ℕ)) (measure : Measure) (to_head : Bool) (status : ℕ) (r : Response) (filtered : Bool) (q : Request) (out : ℕ)
    → response_measure minor codings ls ≡ Ok measure → IsReceived to_head status measure r → IsInStep q out (down_framing filtered q r (Some out))
received_in_step minor codings ls measure to_head status r filtered q out judged is =
    in_step filtered q r out status is.code (received_frames minor codings ls measure to_head status r filtered q.old_client judged is)

-- an answer with a body tells its length
without_head : (to_head : Bool) (status : ℕ) → is_without_body to_head status ≡ false → is_without_body false status ≡ false
without_head true status is = absurd (cc)
without_head false status is = is

answer_told : (to_head filtered old : Bool) (status : ℕ) (body : List ℕ) → is_without_body to_head status ≡ false
    → Frames filtered old status (if is_without_body false status then None else Some (length body)) (sent_length (is_without_body to_head status) body)
answer_told to_head filtered old status body is =
    (λ i. frames_body (framing_of (is_bare (sent_length (is i) body)) filtered old (Some status) (if without_head to_head status is i then None else Some (length body)) (length_of (sent_length (is i) body))))
    ∙ by_body body
  where
    by_body : (body : List ℕ) → Frames filtered old status (Some (length body)) (sent_length false body)
    by_body [] = told_frames filtered old status 0 lengths.Nothing (may_tell_there to_head status is) (λ e. absurd (cc))
    by_body (b ∷ body) = told_frames filtered old status (length (b ∷ body)) (lengths.Exactly (length (b ∷ body))) (may_tell_there to_head status is) (λ e. refl)

answered_in_step : (answered_to q : Request) (status : ℕ) (body : List ℕ) (filtered : Bool) (out : ℕ)
    → IsInStep q out (down_framing filtered q (answer_of answered_to status body) (Some out))
answered_in_step answered_to q status body filtered out =
    in_step filtered q (answer_of answered_to status body) out status refl (λ bodied. answer_told answered_to.is_head filtered q.old_client status body bodied)

-- ---- heads with an end flag

-- where a body is awaited, one of no bytes is told
abbrev Empties : Bool → Bool → ℕ → Option ℕ → Length → Type 0
Empties filtered old status told l = is_bare l ≡ true → framing_of (is_bare l) filtered old (Some status) told (length_of l) ≡ by_length 0

told_empty : (filtered old : Bool) (status n : ℕ) → may_tell (Some status) ≡ true → n ≡ 0 → framing_of true filtered old (Some status) (Some n) nothing ≡ by_length 0
told_empty filtered old status n may none = ap (λ b. for_client old (if b then by_length n else no_body)) may ∙ ap by_length none

is_zero : (n : ℕ) → (n == 0) ≡ true → n ≡ 0
is_zero n is = by_test (eqb_tells n 0)
  where
    by_test : (((n == 0) ≡ true) × (n ≡ 0)) ⊎ (((n == 0) ≡ false) × (n ≡ 0 → ⊥)) → n ≡ 0
    by_test (inl equal) = equal.1
    by_test (inr other) = let e : ◌≡◌ {A = Bool} false true = sym other.0 ∙ is in absurd (cc)

abbrev EmptyMeasure : Bool → Bool → ℕ → Measure → Type 0
EmptyMeasure filtered old status m = Empties filtered old status m.told (length_in m.length)

number_empty : (filtered old : Bool) (status : ℕ) → may_tell (Some status) ≡ true → (n : ℕ) → EmptyMeasure filtered old status (record { length = if n == 0 then nothing else exactly n; told = Some n })
number_empty filtered old status may n = by_zero (n == 0) (λ e. is_zero n e)
  where
    by_zero : (b : Bool) → (b ≡ true → n ≡ 0) → EmptyMeasure filtered old status (record { length = if b then nothing else exactly n; told = Some n })
    by_zero true zeroed = λ bare. told_empty filtered old status n may (zeroed refl)
    by_zero false zeroed = λ bare. absurd (cc)

measured_empty : (filtered old : Bool) (status : ℕ) → may_tell (Some status) ≡ true → (minor : ℕ) (codings lengths : List (List ℕ)) (measure : Measure)
    → response_measure minor codings lengths ≡ Ok measure → EmptyMeasure filtered old status measure
measured_empty filtered old status may minor codings ls measure judged =
    by_response (EmptyMeasure filtered old status) (λ bare. absurd (cc)) (number_empty filtered old status may) (λ bare. absurd (cc)) minor codings ls measure judged

received_empty : (minor : ℕ) (codings ls : List (List ℕ)) (measure : Measure) (to_head : Bool) (status : ℕ) (r : Response) (filtered old : Bool)
    → response_measure minor codings ls ≡ Ok measure → IsReceived to_head status measure r → is_without_body r.to_head status ≡ false → Empties filtered old status r.told r.length
received_empty minor codings ls measure to_head status r filtered old judged is bodied =
    let here : is_without_body to_head status ≡ false = ap (λ b. is_without_body b status) (sym is.method) ∙ bodied in
    let len : r.length ≡ length_in measure.length = is.length ∙ ap (λ b. length_in (without_body b measure).length) here in
    let told : r.told ≡ measure.told = is.told ∙ ap (λ b. (without_body b measure).told) here in
    λ bare.
    (λ i. framing_of (is_bare (len i)) filtered old (Some status) (told i) (length_of (len i)))
    ∙ measured_empty filtered old status (may_tell_there to_head status here) minor codings ls measure judged (ap is_bare (sym len) ∙ bare)

answer_empty : (to_head filtered old : Bool) (status : ℕ) (body : List ℕ) → is_without_body to_head status ≡ false
    → Empties filtered old status (if is_without_body false status then None else Some (length body)) (sent_length (is_without_body to_head status) body)
answer_empty to_head filtered old status body is =
    λ bare.
    (λ i. framing_of (is_bare (sent_length (is i) body)) filtered old (Some status) (if without_head to_head status is i then None else Some (length body)) (length_of (sent_length (is i) body)))
    ∙ by_body body (ap (λ b. is_bare (sent_length b body)) (sym is) ∙ bare)
  where
    by_body : (body : List ℕ) → Empties filtered old status (Some (length body)) (sent_length false body)
    by_body [] bare = told_empty filtered old status 0 (may_tell_there to_head status is) refl
    by_body (b ∷ body) bare = absurd (cc)

-- What a head of a response tells on its way down, whatever frames it there: where a body is awaited, one; and one of no bytes where it has an
-- end flag.
pub record IsSound (end : Bool) (r : Response) : Type 0 where
  pub tells : (filtered : Bool) (q : Request) (out : Option ℕ) → lacks_body q.is_head out ≡ false → frames_body (down_framing filtered q r out) ≡ true
  pub empty : (filtered : Bool) (q : Request) (out : Option ℕ) → lacks_body q.is_head out ≡ false → end ≡ true → down_framing filtered q r out ≡ by_length 0

pub judged_sound : (end : Bool) (r : Response) → WasJudged end r → IsSound end r
judged_sound end r is = record {
  tells = λ filtered q out awaits.
      frames_down filtered q r out is.status is.received.code awaits
      (received_frames is.minor is.codings is.lengths is.measure is.to_head is.status r filtered q.old_client is.judged is.received);
  empty = λ filtered q out awaits flagged.
      by_down (λ f. f ≡ by_length 0) filtered q r out is.status is.received.code awaits refl
      (λ bodied. received_empty is.minor is.codings is.lengths is.measure is.to_head is.status r filtered q.old_client is.judged is.received bodied (sym is.ends ∙ flagged));
}

pub answer_sound : (end : Bool) (q : Request) (status : ℕ) (body : List ℕ) → (end ≡ true → is_bare (answer_of q status body).length ≡ true) → IsSound end (answer_of q status body)
answer_sound end asked status body ends = record {
  tells = λ filtered q out awaits.
      frames_down filtered q (answer_of asked status body) out status refl awaits (λ bodied. answer_told asked.is_head filtered q.old_client status body bodied);
  empty = λ filtered q out awaits flagged.
      by_down (λ f. f ≡ by_length 0) filtered q (answer_of asked status body) out status refl awaits refl
      (λ bodied. answer_empty asked.is_head filtered q.old_client status body bodied (ends flagged));
}

-- one that nobody filters
abbrev down_for : ℕ → Measure → Framing
down_for status m = framing_of (is_bare (length_in m.length)) false false (Some status) m.told (length_of (length_in m.length))

number_down : (status : ℕ) → may_tell (Some status) ≡ true → (n : ℕ) → measure_said (down_for status (record { length = if n == 0 then nothing else exactly n; told = Some n })) ≡ record { length = if n == 0 then nothing else exactly n; told = Some n }
number_down status may n = by_zero (n == 0)
  where
    by_zero : (b : Bool) → measure_said (down_for status (record { length = if b then nothing else exactly n; told = Some n })) ≡ record { length = if n == 0 then nothing else exactly n; told = Some n }
    by_zero true = ap (λ b. measure_said (for_client false (if b then by_length n else no_body))) may
    by_zero false = refl

responses_kept : (minor : ℕ) (codings ls : List (List ℕ)) (measure : Measure) (to_head : Bool) (status : ℕ) (r : Response) (q : Request) (out : ℕ)
    → response_measure minor codings ls ≡ Ok measure → IsReceived to_head status measure r → q.old_client ≡ false
    → is_without_body to_head status ≡ false → is_without_body q.is_head out ≡ false → measure_said (down_framing false q r (Some out)) ≡ measure
responses_kept minor codings ls measure to_head status r q out judged is young here awaits =
    let len : r.length ≡ length_in measure.length = is.length ∙ ap (λ b. length_in (without_body b measure).length) here in
    let told : r.told ≡ measure.told = is.told ∙ ap (λ b. (without_body b measure).told) here in
    let one : down_framing false q r (Some out) ≡ (if lacks_body r.to_head r.status then by_length 0 else framing_of (is_bare r.length) false q.old_client r.status r.told (length_of r.length))
    = ap (λ b. if b then (if (is_bare r.length || not false) && not (is_204 r.status || is_204 (Some out)) then told_framing r.told else no_body)
    else (if lacks_body r.to_head r.status then by_length 0 else framing_of (is_bare r.length) false q.old_client r.status r.told (length_of r.length))) awaits in
    let two : lacks_body r.to_head r.status ≡ false = (λ i. lacks_body (is.method i) (is.code i)) ∙ here in
    let three : (if lacks_body r.to_head r.status then by_length 0 else framing_of (is_bare r.length) false q.old_client r.status r.told (length_of r.length)) ≡ framing_of (is_bare r.length) false q.old_client r.status r.told (length_of r.length)
    = ap (λ b. if b then by_length 0 else framing_of (is_bare r.length) false q.old_client r.status r.told (length_of r.length)) two in
    let four : framing_of (is_bare r.length) false q.old_client r.status r.told (length_of r.length) ≡ down_for status measure
    = λ i. framing_of (is_bare (len i)) false (young i) (is.code i) (told i) (length_of (len i)) in
    ap measure_said (one ∙ (three ∙ four))
    ∙ by_response (λ m. measure_said (down_for status m) ≡ m) refl (number_down status (may_tell_there to_head status here)) refl minor codings ls measure judged

pub responses_stay : ResponsesStayInStep
responses_stay = record {
  received = received_in_step;
  answered = answered_in_step;
  kept = responses_kept;
  unending = λ x framing endless. ap (λ b. (may_stay x.asked && not x.closes) && not b) endless ∙ never_both (may_stay x.asked && not x.closes);
}
