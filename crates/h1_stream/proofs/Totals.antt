-- Something is next at each place.
use Rattle.std.proofs.Common.{◌≡◌, ◌⊎◌, ℕ, zero, suc, ◌+◌, ◌-◌, Bool, true, false, cond, List, [], ◌∷◌, length, take, drop, min, get_or, bytes_eq, codes, Option, None, Some, refl, sym, ap, ◌∙◌, subst, inl, inr, arith}
use Rattle.h1_model.specs.Fields.{Pair}
use Rattle.h1_model.specs.Head.{Head, HeadStep, found, not_yet, refused, IsStepAt, IsAnswer, IsResponseAnswer, SpellsBy}
use Rattle.h1_model.specs.Lines.{Cut, whole, too_large, unfinished, empty_line_bytes, after_empty_lines, head_cut}
use Rattle.h1_model.specs.Chunks.{Place, inside, Sought, data_at, section_at, waiting, malformed, sought, Run, no_run, run_of}
use Rattle.h1_model.specs.Messages as model
use Rattle.h1_model.specs.Messages.{request, interim, response, octet, end, trailers, counted, coded, unbounded, Due, head, body, done, over, rest, due_behind, due_next, stop_short, is_interim, item_of, step_from, response_item, SpellsHead, Step, item, stop, end_step, section_step, trailers_left, IsCodedStep, StepsTo}
use Rattle.h1_model.specs.Trailers as trailing
use Rattle.h1_model.specs.Trailers.{section_cut, IsSectionText, EndsWith, end_of, IsEnd}
use Rattle.h1_model.specs.Unread.{Next, head_part, interim_part, piece, trailer_part, part, none, by_itself, piece_before, IsNoOctet}
use Rattle.h1_model.proofs.Carried.{run_carries}
use Rattle.h1_model.proofs.Readings.{Answers}
use Rattle.h1_model.proofs.Totals as heads
use Rattle.h1_chunks.proofs.Runs.{run_none}
use Rattle.h1_chunks.specs.Answers.{is_data}
use Rattle.h1_stream.proofs.Bodies.{alone, counted_whole, counted_part, unbounded_full, unbounded_whole, unbounded_open}
use Rattle.h1_stream.proofs.Coded.{run_some, run_few, run_full}
use Rattle.h1_stream.specs.Laws.{HasNext, IsEndJudged, IsSectionJudged, IsJudged, NextWhereJudged, JudgedUnlessWhole, SomeNext}

-- ---- steps

-- what is no byte of a body is a part by itself, or none
itself : (s : Step) → IsNoOctet s → (next : Next) × (by_itself s ≡ Some next)
itself (item (request h) used due) other = (part (head_part h) used due, refl)
itself (item (interim h) used due) other = (part (interim_part h) used due, refl)
itself (item (response h) used due) other = (part (head_part h) used due, refl)
itself (item (octet b) used due) other = absurd other
itself (item end used due) other = (part (piece [] true) used due, refl)
itself (item (trailers fields) used due) other = (part (trailer_part fields) used due, refl)
itself (stop why) other = (none why, refl)

by_step : (ended : Bool) (asked : Option (List ℕ)) (due : Due) (text : List ℕ) (s : Step) → StepsTo ended asked due text s → IsNoOctet s
    → HasNext ended asked due text
by_step ended asked due text s there other =
    let n = itself s other in (n.0, alone ended asked due text s n.0 there n.1)

-- ---- heads

response_other : (h : Head) (used : ℕ) → IsNoOctet (response_item h used)
response_other h used = by_kind (is_interim h.fields.kind)
  where
    by_kind : (b : Bool) → IsNoOctet (cond b (item (interim h) used head) (item (response h) used (due_behind done h.connection h.length)))
    by_kind true = tt
    by_kind false = tt

found_other : (asked : Option (List ℕ)) (h : Head) (used : ℕ) → IsNoOctet (item_of asked h used)
found_other None h used = tt
found_other (Some asked) h used = response_other h used

head_other : (ended : Bool) (asked : Option (List ℕ)) (text : List ℕ) (h : HeadStep) → IsNoOctet (step_from ended asked text h)
head_other ended asked text (found h used) = found_other asked h used
head_other ended asked text not_yet = tt
head_other ended asked text (refused number) = tt

head_next : (ended : Bool) (asked : Option (List ℕ)) (text : List ℕ) (h : HeadStep) → SpellsHead asked text h → HasNext ended asked head text
head_next ended asked text h x = by_step ended asked head text (step_from ended asked text h) (h, x, refl) (head_other ended asked text h)

-- ---- bodies with a length, and those that end with the line

counted_next : (ended : Bool) (asked : Option (List ℕ)) (n : ℕ) (text : List ℕ) → HasNext ended asked (body (counted n)) text
counted_next ended asked zero text = by_step ended asked (body (counted 0)) text (item end 0 (due_next asked)) refl tt
counted_next ended asked (suc n) [] = by_step ended asked (body (counted (suc n))) [] (stop (stop_short ended asked)) refl tt
counted_next ended asked (suc n) (b ∷ text) = by_left (suc n - len) refl
  where
    len : ℕ
    len = min (min (length (b ∷ text)) 16384) (suc n)

    by_left : (left : ℕ) → suc n - len ≡ left → HasNext ended asked (body (counted (suc n))) (b ∷ text)
    by_left zero is = (
      part (piece (take len (b ∷ text)) true) len (due_next asked),
      counted_whole ended asked (suc n) len (b ∷ text) (take len (b ∷ text)) refl refl (omega arith) (omega arith) is,
    )
    by_left (suc left) is = (
      part (piece (take len (b ∷ text)) false) len (body (counted (suc n - len))),
      counted_part ended asked (suc n) len (b ∷ text) (take len (b ∷ text)) refl refl (omega arith) (omega arith) (omega (arith, is)),
    )

unbounded_next : (ended : Bool) (asked : Option (List ℕ)) (text : List ℕ) → HasNext ended asked (body unbounded) text
unbounded_next false asked [] = by_step false asked (body unbounded) [] (stop rest) refl tt
unbounded_next true asked [] = by_step true asked (body unbounded) [] (item end 0 (due_next asked)) refl tt
unbounded_next ended asked (b ∷ text) = by_left (length (b ∷ text) - len) refl ended
  where
    len : ℕ
    len = min (length (b ∷ text)) 16384

    by_left : (left : ℕ) → length (b ∷ text) - len ≡ left → (e : Bool) → HasNext e asked (body unbounded) (b ∷ text)
    by_left (suc left) is e = (
      part (piece (take len (b ∷ text)) false) len (body unbounded),
      unbounded_full e asked len (b ∷ text) (take len (b ∷ text)) refl refl (omega arith) (omega (arith, is)),
    )
    by_left zero is true = (
      part (piece (take len (b ∷ text)) true) len (due_next asked),
      unbounded_whole asked len (b ∷ text) (take len (b ∷ text)) refl refl (omega arith) (omega (arith, is)),
    )
    by_left zero is false = (
      part (piece (take len (b ∷ text)) false) len (body unbounded),
      unbounded_open asked len (b ∷ text) (take len (b ∷ text)) refl refl (omega arith) (omega (arith, is)),
    )

-- ---- chunked bodies

end_other : (asked : Option (List ℕ)) (used : ℕ) (fields : List Pair) → IsNoOctet (end_step asked used fields)
end_other asked used [] = tt
end_other asked used (f ∷ fields) = tt

section_other : (ended : Bool) (asked : Option (List ℕ)) (connection : List (List ℕ)) (c : trailing.ChunkStep) → IsNoOctet (section_step ended asked connection c)
section_other ended asked connection (trailing.carried run) = tt
section_other ended asked connection (trailing.ended fields used) = end_other asked used (trailers_left asked connection fields)
section_other ended asked connection trailing.not_yet = tt
section_other ended asked connection (trailing.refused number) = tt

-- the step at a place in the coding, which is a byte only where data is sought
record CodedStep (ended : Bool) (asked : Option (List ℕ)) (connection : List (List ℕ)) (place : Place) (text : List ℕ) : Type 0 where
  pub step : Step
  pub there : StepsTo ended asked (body (coded connection place)) text step
  pub bytes : IsNoOctet step ⊎ (is_data (sought place text) ≡ true)

coded_step : (ended : Bool) (asked : Option (List ℕ)) (connection : List (List ℕ)) (place : Place) (text : List ℕ) → IsSectionJudged place text
    → CodedStep ended asked connection place text
coded_step ended asked connection place text judged = by_sought (sought place text) refl
  where
    there : (s : Sought) (step : Step) → sought place text ≡ s → IsCodedStep ended asked connection text s step
        → StepsTo ended asked (body (coded connection place)) text step
    there s step is x = subst (λ (s : Sought). IsCodedStep ended asked connection text s step) (sym is) x

    by_sought : (s : Sought) → sought place text ≡ s → CodedStep ended asked connection place text
    by_sought (data_at at left) is =
        let step = item (octet (get_or text at 0)) (at + 1) (body (coded connection (inside (left - 1)))) in
        record { step = step; there = there (data_at at left) step is refl; bytes = inr (ap is_data is) }
    by_sought (section_at at) is =
        let c = judged at is in
        let step = section_step ended asked connection c.0 in
        record { step = step; there = there (section_at at) step is (c.0, c.1, refl); bytes = inl (section_other ended asked connection c.0) }
    by_sought waiting is =
        let step = stop (stop_short ended asked) in record { step = step; there = there waiting step is refl; bytes = inl tt }
    by_sought malformed is =
        let step = stop (model.malformed_status asked) in record { step = step; there = there malformed step is refl; bytes = inl tt }

differ : true ≡ false → ⊥
differ e = cc

-- data is there, or none is
coded_by : (ended : Bool) (asked : Option (List ℕ)) (connection : List (List ℕ)) (place : Place) (text : List ℕ)
    → IsSectionJudged (run_of 16384 place text).place (drop (run_of 16384 place text).used text) → (b : Bool) → is_data (sought place text) ≡ b
    → HasNext ended asked (body (coded connection place)) text
coded_by ended asked connection place text judged true some =
    let r = run_of 16384 place text in
    let b = coded_step ended asked connection r.place (drop r.used text) judged in (
      piece_before r.bytes r.used (body (coded connection r.place)) b.step,
      inr (record {
        bytes = r.bytes;
        used = r.used;
        mid = body (coded connection r.place);
        behind = b.step;
        carried = run_carries ended asked connection 16384 place text;
        some = run_some place text some;
        few = run_few 16384 place text;
        there = b.there;
        all = full b.step b.bytes;
        is = refl;
      }),
    )
  where
    full : (s : Step) → IsNoOctet s ⊎ (is_data (sought (run_of 16384 place text).place (drop (run_of 16384 place text).used text)) ≡ true)
        → IsNoOctet s ⊎ (length (run_of 16384 place text).bytes ≡ 16384)
    full s (inl other) = inl other
    full s (inr more) = inr (run_full 16384 place text more)
coded_by ended asked connection place text judged false none_there =
    let nothing : run_of 16384 place text ≡ no_run place = run_none 16384 place text (λ a l e. differ (sym (ap is_data e) ∙ none_there)) in
    let here : IsSectionJudged place text = subst (λ (r : Run). IsSectionJudged r.place (drop r.used text)) nothing judged in
    let b = coded_step ended asked connection place text here in
    by_step ended asked (body (coded connection place)) text b.step b.there (no_byte b.step b.bytes)
  where
    no_byte : (s : Step) → IsNoOctet s ⊎ (is_data (sought place text) ≡ true) → IsNoOctet s
    no_byte s (inl other) = other
    no_byte s (inr some) = absurd (differ (sym some ∙ none_there))

-- ---- the whole

pub next_where_judged : NextWhereJudged
next_where_judged ended asked head text (h, x) = head_next ended asked text h x
next_where_judged ended asked (body (counted n)) text judged = counted_next ended asked n text
next_where_judged ended asked (body (coded connection place)) text judged = coded_by ended asked connection place text judged (is_data (sought place text)) refl
next_where_judged ended asked (body unbounded) text judged = unbounded_next ended asked text
next_where_judged ended asked done text judged = by_step ended asked done text (stop over) refl tt

head_cut_judged : (answers : Answers) (large : ℕ) (text : List ℕ) → ((len : ℕ) → head_cut (after_empty_lines text) ≡ whole len → ⊥)
    → (h : HeadStep) × SpellsBy answers large text h
head_cut_judged answers large text open_yet = by_cut (head_cut (after_empty_lines text)) open_yet
  where
    by_cut : (c : Cut) → ((len : ℕ) → c ≡ whole len → ⊥) → (h : HeadStep) × IsStepAt answers large (empty_line_bytes text) (after_empty_lines text) c h
    by_cut (whole len) later = absurd (later len refl)
    by_cut too_large later = (refused large, refl)
    by_cut unfinished later = (not_yet, refl)

head_judged : (asked : Option (List ℕ)) (text : List ℕ) → ((len : ℕ) → head_cut (after_empty_lines text) ≡ whole len → ⊥) → IsJudged asked head text
head_judged None text open_yet = head_cut_judged IsAnswer 431 text open_yet
head_judged (Some asked) text open_yet = head_cut_judged (IsResponseAnswer (bytes_eq asked (codes "HEAD"))) 502 text open_yet

section_judged : (at : ℕ) (text : List ℕ) (c : Cut) → ((len : ℕ) → c ≡ whole len → ⊥) → (s : trailing.ChunkStep) × IsEnd at text c s
section_judged at text (whole len) open_yet = absurd (open_yet len refl)
section_judged at text too_large open_yet = (trailing.refused 400, refl)
section_judged at text unfinished open_yet = (trailing.not_yet, refl)

pub judged_unless_whole : JudgedUnlessWhole
judged_unless_whole = record {
  heads = head_judged;
  sections = λ at text open_yet. section_judged at (drop at text) (section_cut (drop at text)) open_yet;
}

-- ---- by denial

-- the end with the trailers that a section reads as
end_read : (at : ℕ) (front : List ℕ) (fields : List Pair) → IsSectionText front fields → EndsWith at front (end_of (at + length front) (Some fields))
end_read at front fields section = record { trailers = Some fields; section = section; is = refl }

-- no section gives nothing
end_some : (at : ℕ) (text : List ℕ) (c : Cut) → ((s : trailing.ChunkStep) → IsEnd at text c s → ⊥) → ⊥
end_some at text (whole len) never =
    let front = take len text in
    never (end_of (at + length front) None) (record {
      trailers = None;
      section = λ fields last reads.
          never (end_of (at + length front) (Some _)) (end_read at front _ (record { fields = fields; last = last; reads = reads; are = refl }));
      is = refl;
    })
end_some at text too_large never = never (trailing.refused 400) refl
end_some at text unfinished never = never trailing.not_yet refl

one_place : (a b : ℕ) → section_at a ≡ section_at b → a ≡ b
one_place a b e = cc

no_section_data : (at left a : ℕ) → data_at at left ≡ section_at a → ⊥
no_section_data at left a e = cc

no_section_waiting : (a : ℕ) → waiting ≡ section_at a → ⊥
no_section_waiting a e = cc

no_section_malformed : (a : ℕ) → malformed ≡ section_at a → ⊥
no_section_malformed a e = cc

section_some : (place : Place) (text : List ℕ) → (IsSectionJudged place text → ⊥) → ⊥
section_some place text never = by_sought (sought place text) refl
  where
    by_sought : (s : Sought) → sought place text ≡ s → ⊥
    by_sought (data_at at left) is = never (λ a e. absurd (no_section_data at left a (sym is ∙ e)))
    by_sought (section_at at) is =
        end_some at (drop at text) (section_cut (drop at text))
        (λ s x. never (λ a e. subst (λ (n : ℕ). IsEndJudged n text) (one_place at a (sym is ∙ e)) (s, x)))
    by_sought waiting is = never (λ a e. absurd (no_section_waiting a (sym is ∙ e)))
    by_sought malformed is = never (λ a e. absurd (no_section_malformed a (sym is ∙ e)))

pub some_next : SomeNext
some_next ended asked head text never =
    heads.each_text.some asked text (λ h used x. never (head_next ended asked text (found h used) x)) (λ x. never (head_next ended asked text not_yet x))
    (λ number x. never (head_next ended asked text (refused number) x))
some_next ended asked (body (counted n)) text never = never (counted_next ended asked n text)
some_next ended asked (body (coded connection place)) text never =
    section_some (run_of 16384 place text).place (drop (run_of 16384 place text).used text)
    (λ judged. never (coded_by ended asked connection place text judged (is_data (sought place text)) refl))
some_next ended asked (body unbounded) text never = never (unbounded_next ended asked text)
some_next ended asked done text never = never (next_where_judged ended asked done text tt)
