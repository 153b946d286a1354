-- What a step of the chunk reader says of what stands in a message, and of what is unread next.
use Rattle.std.proofs.Common.{◌≡◌, ◌⊎◌, ℕ, zero, suc, ◌+◌, ◌-◌, ◌≤◌, ◌<◌, Bool, true, false, List, [], ◌∷◌, length, drop, get_or, Option, None, Some, refl, sym, ap, subst, inl, inr, arith}
use Rattle.std.proofs.lemmas.List.{drop-drop}
use Rattle.h1_model.specs.Fields.{Pair}
use Rattle.h1_model.specs.Lines.{Cut, whole, too_large, unfinished}
use Rattle.h1_model.specs.Chunks.{Place, inside, Sought, data_at, section_at, waiting, malformed, sought, Run, run_of}
use Rattle.h1_model.specs.Trailers.{carried, ended, not_yet, refused, end_of, section_cut, IsEnd, IsBehind, SpellsChunks}
use Rattle.h1_model.specs.Messages.{octet, end, body, coded, due_next, Step, item, section_step, end_step, trailers_left, IsCodedStep, StepsTo}
use Rattle.h1_model.specs.Unread.{piece, part, IsNoOctet, IsNext}
use Rattle.h1_model.proofs.ChunkLaws.{run_step, run_zero, run_behind}
use Rattle.h1_model.proofs.Carried.{run_carries, coded_there}
use Rattle.h1_chunks.specs.Answers.{is_data}
use Rattle.h1_stream.specs.Behind.{is_no_end, StandsBehind}
use Rattle.h1_stream.proofs.Bodies.{with_end, without_end}

-- ---- data

-- data that is carried is the run of that place, where data is sought
pub record IsRunOf (place : Place) (text : List ℕ) (run : Run) : Type 0 where
  pub is : run ≡ run_of 16384 place text
  pub sought_data : is_data (sought place text) ≡ true

no_end_carried : (n : ℕ) (trailers : Option (List Pair)) (run : Run) → carried run ≡ end_of n trailers → ⊥
no_end_carried n None run e = cc
no_end_carried n (Some trailers) run e = cc

no_section_carried : (at : ℕ) (text : List ℕ) (cut : Cut) (run : Run) → IsEnd at text cut (carried run) → ⊥
no_section_carried at text (whole len) run x = no_end_carried _ x.trailers run x.is
no_section_carried at text too_large run x = cc
no_section_carried at text unfinished run x = cc

pub carried_is : (place : Place) (text : List ℕ) (run : Run) → SpellsChunks place text (carried run) → IsRunOf place text run
carried_is place text run x = by_sought (sought place text) refl x
  where
    by_sought : (s : Sought) → sought place text ≡ s → IsBehind place text s (carried run) → IsRunOf place text run
    by_sought (data_at at left) is y = record { is = cc; sought_data = ap is_data is }
    by_sought (section_at at) is y = absurd (no_section_carried at (drop at text) (section_cut (drop at text)) run y)
    by_sought waiting is y = absurd (cc)
    by_sought malformed is y = absurd (cc)

-- a run of data has at least a byte
pub run_some : (place : Place) (text : List ℕ) → is_data (sought place text) ≡ true → 0 < length (run_of 16384 place text).bytes
run_some place text some = by_sought (sought place text) refl some
  where
    by_sought : (s : Sought) → sought place text ≡ s → is_data s ≡ true → 0 < length (run_of 16384 place text).bytes
    by_sought (data_at at left) is e =
        let step : run_of 16384 place text ≡ run_behind 16383 place text (data_at at left) = run_step 16383 place text (data_at at left) is in
        let long : 0 < length (run_behind 16383 place text (data_at at left)).bytes = omega arith in
        subst (λ (r : Run). 0 < length r.bytes) (sym step) long
    by_sought (section_at at) is e = absurd (cc)
    by_sought waiting is e = absurd (cc)
    by_sought malformed is e = absurd (cc)

-- it has at most as many as there is room for, and as many where data stands after it
pub run_few : (n : ℕ) (place : Place) (text : List ℕ) → length (run_of n place text).bytes ≤ n
run_few zero place text = subst (λ (r : Run). length r.bytes ≤ 0) (sym (run_zero place text)) (omega arith)
run_few (suc n) place text = by_sought (sought place text) refl (run_few n)
  where
    moved : (s : Sought) → sought place text ≡ s → length (run_behind n place text s).bytes ≤ suc n → length (run_of (suc n) place text).bytes ≤ suc n
    moved s is h = subst (λ (r : Run). length r.bytes ≤ suc n) (sym (run_step n place text s is)) h

    by_sought : (s : Sought) → sought place text ≡ s → ((p : Place) (t : List ℕ) → length (run_of n p t).bytes ≤ n) → length (run_of (suc n) place text).bytes ≤ suc n
    by_sought (data_at at left) is later =
        let less = later (inside (left - 1)) (drop (at + 1) text) in moved (data_at at left) is (omega arith)
    by_sought (section_at at) is later = moved (section_at at) is (omega arith)
    by_sought waiting is later = moved waiting is (omega arith)
    by_sought malformed is later = moved malformed is (omega arith)

abbrev IsFull : ℕ → List ℕ → Run → Type 0
IsFull n text r = is_data (sought r.place (drop r.used text)) ≡ true → length r.bytes ≡ n

pub run_full : (n : ℕ) (place : Place) (text : List ℕ) → IsFull n text (run_of n place text)
run_full zero place text = subst (IsFull 0 text) (sym (run_zero place text)) (λ e. refl)
run_full (suc n) place text = by_sought (sought place text) refl (run_full n)
  where
    moved : (s : Sought) → sought place text ≡ s → IsFull (suc n) text (run_behind n place text s) → IsFull (suc n) text (run_of (suc n) place text)
    moved s is h = subst (IsFull (suc n) text) (sym (run_step n place text s is)) h

    none : (s : Sought) → sought place text ≡ s → is_data s ≡ false → is_data (sought place text) ≡ true → length {A = ℕ} [] ≡ suc n
    none s is no_data e = absurd (cc (ap is_data is))

    by_sought : (s : Sought) → sought place text ≡ s → ((p : Place) (t : List ℕ) → IsFull n t (run_of n p t)) → IsFull (suc n) text (run_of (suc n) place text)
    by_sought (data_at at left) is later =
        let p = inside (left - 1) in
        let t = drop (at + 1) text in
        let r = run_of n p t in
        let full : IsFull n t r = later p t in
        let split : drop (at + 1 + r.used) text ≡ drop r.used t = sym (drop-drop r.used (at + 1) text) in
        moved (data_at at left) is (λ e.
        let e' : is_data (sought r.place (drop r.used t)) ≡ true = subst (λ (u : List ℕ). is_data (sought r.place u) ≡ true) split e in
        let same = full e' in omega arith)
    by_sought (section_at at) is later = moved (section_at at) is (none (section_at at) is refl)
    by_sought waiting is later = moved waiting is (none waiting is refl)
    by_sought malformed is later = moved malformed is (none malformed is refl)

-- ---- what is no data

-- data is sought: a byte stands there
pub byte_there : (is_over : Bool) (asked : Option (List ℕ)) (connection : List (List ℕ)) (place : Place) (text : List ℕ) → is_data (sought place text) ≡ true
    → StandsBehind is_over asked connection place text None
byte_there is_over asked connection place text some = by_sought (sought place text) refl some
  where
    by_sought : (s : Sought) → sought place text ≡ s → is_data s ≡ true → StandsBehind is_over asked connection place text None
    by_sought (data_at at left) is e =
        let step = item (octet (get_or text at 0)) (at + 1) (body (coded connection (inside (left - 1)))) in
        let here : IsCodedStep is_over asked connection text (data_at at left) step = refl in
        record {
          step = step;
          there = subst (λ (s : Sought). IsCodedStep is_over asked connection text s step) (sym is) here;
          ends = refl;
          bytes = inr (ap is_data is);
        }
    by_sought (section_at at) is e = absurd (cc)
    by_sought waiting is e = absurd (cc)
    by_sought malformed is e = absurd (cc)

-- what stands there is the end, without trailers or with them; a rest; or a refusal
pub end_there : (is_over : Bool) (asked : Option (List ℕ)) (connection : List (List ℕ)) (place : Place) (text : List ℕ) (fields : List Pair) (used : ℕ)
    → SpellsChunks place text (ended fields used) → trailers_left asked connection fields ≡ [] → StandsBehind is_over asked connection place text (Some used)
end_there is_over asked connection place text fields used x none =
    record {
      step = section_step is_over asked connection (ended fields used);
      there = coded_there is_over asked connection place text (ended fields used) x tt;
      ends = ap (end_step asked used) none;
      bytes = inl (subst (λ (fs : List Pair). IsNoOctet (end_step asked used fs)) (sym none) tt);
    }

trailers_no_end : (asked : Option (List ℕ)) (used : ℕ) (fields : List Pair) → (fields ≡ [] → ⊥) → (is_no_end (end_step asked used fields) ≡ true) × IsNoOctet (end_step asked used fields)
trailers_no_end asked used [] some = absurd (some refl)
trailers_no_end asked used (f ∷ fields) some = (refl, tt)

pub trailers_there : (is_over : Bool) (asked : Option (List ℕ)) (connection : List (List ℕ)) (place : Place) (text : List ℕ) (fields : List Pair) (used : ℕ)
    → SpellsChunks place text (ended fields used) → (trailers_left asked connection fields ≡ [] → ⊥) → StandsBehind is_over asked connection place text None
trailers_there is_over asked connection place text fields used x some =
    let no = trailers_no_end asked used (trailers_left asked connection fields) some in
    record {
      step = section_step is_over asked connection (ended fields used);
      there = coded_there is_over asked connection place text (ended fields used) x tt;
      ends = no.0;
      bytes = inl no.1;
    }

pub rest_there : (is_over : Bool) (asked : Option (List ℕ)) (connection : List (List ℕ)) (place : Place) (text : List ℕ) → SpellsChunks place text not_yet
    → StandsBehind is_over asked connection place text None
rest_there is_over asked connection place text x =
    record { step = section_step is_over asked connection not_yet; there = coded_there is_over asked connection place text not_yet x tt; ends = refl; bytes = inl tt }

pub refusal_there : (is_over : Bool) (asked : Option (List ℕ)) (connection : List (List ℕ)) (place : Place) (text : List ℕ) (number : ℕ) → SpellsChunks place text (refused number)
    → StandsBehind is_over asked connection place text None
refusal_there is_over asked connection place text number x =
    record { step = section_step is_over asked connection (refused number); there = coded_there is_over asked connection place text (refused number) x tt; ends = refl; bytes = inl tt }

-- ---- pieces

-- a piece of data with the end right after it
pub piece_ends : (is_over : Bool) (asked : Option (List ℕ)) (connection : List (List ℕ)) (place : Place) (text : List ℕ) (run : Run) (n : ℕ) → SpellsChunks place text (carried run)
    → StandsBehind is_over asked connection run.place (drop run.used text) (Some n)
    → IsNext is_over asked (body (coded connection place)) text (part (piece run.bytes true) (run.used + n) (due_next asked))
piece_ends is_over asked connection place text run n x b =
    let r = carried_is place text run x in
    let there : StepsTo is_over asked (body (coded connection run.place)) (drop run.used text) (item end n (due_next asked)) =
    subst (λ (s : Step). StepsTo is_over asked (body (coded connection run.place)) (drop run.used text) s) b.ends b.there in
    let moved : StepsTo is_over asked (body (coded connection (run_of 16384 place text).place)) (drop (run_of 16384 place text).used text) (item end n (due_next asked)) =
    subst (λ (q : Run). StepsTo is_over asked (body (coded connection q.place)) (drop q.used text) (item end n (due_next asked))) r.is there in
    let whole = with_end is_over asked (body (coded connection place)) (body (coded connection (run_of 16384 place text).place)) (due_next asked) text (run_of 16384 place text).bytes (run_of 16384 place text).used n
    (run_carries is_over asked connection 16384 place text) (run_some place text r.sought_data) (run_few 16384 place text) moved in
    subst (λ (q : Run). IsNext is_over asked (body (coded connection place)) text (part (piece q.bytes true) (q.used + n) (due_next asked))) (sym r.is) whole

-- data stands after a run that is full
full_behind : (s : Step) (place : Place) (text : List ℕ) → IsNoOctet s ⊎ (is_data (sought (run_of 16384 place text).place (drop (run_of 16384 place text).used text)) ≡ true)
    → IsNoOctet s ⊎ (length (run_of 16384 place text).bytes ≡ 16384)
full_behind s place text (inl other) = inl other
full_behind s place text (inr some) = inr (run_full 16384 place text some)

-- and one with something else after it
pub piece_goes_on : (is_over : Bool) (asked : Option (List ℕ)) (connection : List (List ℕ)) (place : Place) (text : List ℕ) (run : Run) → SpellsChunks place text (carried run)
    → StandsBehind is_over asked connection run.place (drop run.used text) None
    → IsNext is_over asked (body (coded connection place)) text (part (piece run.bytes false) run.used (body (coded connection run.place)))
piece_goes_on is_over asked connection place text run x b =
    let r = carried_is place text run x in
    let q = run_of 16384 place text in
    let there : StepsTo is_over asked (body (coded connection q.place)) (drop q.used text) b.step =
    subst (λ (q : Run). StepsTo is_over asked (body (coded connection q.place)) (drop q.used text) b.step) r.is b.there in
    let bytes : IsNoOctet b.step ⊎ (is_data (sought q.place (drop q.used text)) ≡ true) =
    subst (λ (q : Run). IsNoOctet b.step ⊎ (is_data (sought q.place (drop q.used text)) ≡ true)) r.is b.bytes in
    let whole = without_end is_over asked (body (coded connection place)) (body (coded connection q.place)) text q.bytes q.used b.step
    (run_carries is_over asked connection 16384 place text) (run_some place text r.sought_data) (run_few 16384 place text) there b.ends (full_behind b.step place text bytes) in
    subst (λ (q : Run). IsNext is_over asked (body (coded connection place)) text (part (piece q.bytes false) q.used (body (coded connection q.place)))) (sym r.is) whole

-- nothing is carried where no data is sought
pub no_data_carried : (place : Place) (text : List ℕ) (run : Run) → SpellsChunks place text (carried run) → is_data (sought place text) ≡ false → ⊥
no_data_carried place text run x none = let r = carried_is place text run x in no_both (is_data (sought place text)) r.sought_data none
  where
    no_both : (b : Bool) → b ≡ true → b ≡ false → ⊥
    no_both true e f = cc
    no_both false e f = cc
