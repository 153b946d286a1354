-- A text spells one thing, and what it spells stays spelled.
use Rattle.std.proofs.Common.{◌≡◌, ℕ, zero, suc, ◌+◌, ◌-◌, ◌<◌, ◌≤◌, Bool, true, false, List, [], ◌∷◌, ◌++◌, length, take, drop, get_or, Option, None, Some, cond, bytes_eq, codes, Result, Ok, Err, refl, sym, ap, ◌∙◌, subst, inl, inr, arith}
use Rattle.std.proofs.lemmas.List.{take-append-le, drop-append-le, length-drop, length-take, get_or_append_left}
use Rattle.std.specs.Prelude.{MatchOption}
use Rattle.httparse.specs.Grammar.{RequestHead, ResponseHead, status_code}
use Rattle.httparse.proofs.GrammarLemmas.{request_unique, response_unique}
use Rattle.h1_model.specs.Fields.{Pair}
use Rattle.h1_model.specs.Lines.{empty_line_bytes, after_empty_lines, Cut, whole, too_large, unfinished, head_cut}
use Rattle.h1_model.specs.Head.{Head, head_of_target, early_refusal, IsTargeted, IsJudged, pairs_of, pairs_at, IsAnswer, response_judged, IsResponseAnswer, HeadStep, found, not_yet, refused, step_of, IsStepAt, SpellsBy}
use Rattle.h1_model.specs.Messages.{Item, request, interim, response, octet, end, trailers, Placed, counted, coded, unbounded, Due, head, body, done, Stop, rest, over, refusal, Step, item, stop, due_behind, due_after, due_next, is_interim, item_of, stop_at, step_from, SpellsHead, malformed_status, counted_step, unbounded_step, trailers_left, end_step, section_step, IsCodedStep, coding_before, StepsTo, lead_of, SpellsFrom}
use Rattle.h1_model.specs.Chunks as chunks
use Rattle.h1_model.specs.Trailers as trailing
use Rattle.h1_model.specs.Trailers.{section_cut, end_of, IsEnd}
use Rattle.h1_model.specs.Laws.{OneStep, StepStays, OneReading, ReadingGrows, RefusalStays}
use Rattle.h1_model.proofs.ChunkLaws.{one_end, sought_fits, sought_stays, section_within, end_stays}
use Rattle.h1_model.proofs.TargetLemmas.{IsTargetOf-unique}
use Rattle.h1_model.proofs.Growth.{IsDone, head_cut-append, head_cut_fits, skip_grows, skipped_fits, after_empty_lines-append}

-- ---- one step

IsJudged-unique : (m t : List ℕ) (v : ℕ) (fs : List Pair) (a b : Result Head ℕ) → IsJudged m t v fs a → IsJudged m t v fs b → a ≡ b
IsJudged-unique m t v fs a b = by_early (early_refusal m v fs)
  where
    by_early : (o : Option ℕ) → MatchOption o (IsTargeted m t v fs a) (λ n. a ≡ Err n) → MatchOption o (IsTargeted m t v fs b) (λ n. b ≡ Err n)
        → a ≡ b
    by_early None x y = x.is ∙ ap (head_of_target m v fs) (IsTargetOf-unique m t x.parts y.parts x.gives y.gives) ∙ sym y.is
    by_early (Some n) x y = x ∙ sym y

IsAnswer-unique : (front : List ℕ) (a b : Result Head ℕ) → IsAnswer front a → IsAnswer front b → a ≡ b
IsAnswer-unique front a b (inl x) (inl y) =
    let same = (request_unique front x.head y.head [] [] x.reads y.reads).0 in
    let moved : IsJudged y.head.method y.head.target y.head.minor (pairs_of y.head) a =
    subst (λ (h : RequestHead). IsJudged h.method h.target h.minor (pairs_of h) a) same x.judged in
    IsJudged-unique y.head.method y.head.target y.head.minor (pairs_of y.head) a b moved y.judged
IsAnswer-unique front a b (inl x) (inr y) = absurd (y.none x.head x.reads)
IsAnswer-unique front a b (inr x) (inl y) = absurd (x.none y.head y.reads)
IsAnswer-unique front a b (inr x) (inr y) = x.is ∙ sym y.is

IsResponseAnswer-unique : (to_head : Bool) (front : List ℕ) (a b : Result Head ℕ) → IsResponseAnswer to_head front a → IsResponseAnswer to_head front b
    → a ≡ b
IsResponseAnswer-unique to_head front a b (inl x) (inl y) =
    let same = (response_unique front x.head y.head [] [] x.reads y.reads).0 in
    x.judged ∙ ap (λ (h : ResponseHead). response_judged to_head h.minor (status_code h) (pairs_at h.fields)) same ∙ sym y.judged
IsResponseAnswer-unique to_head front a b (inl x) (inr y) = absurd (y.none x.head x.reads)
IsResponseAnswer-unique to_head front a b (inr x) (inl y) = absurd (x.none y.head y.reads)
IsResponseAnswer-unique to_head front a b (inr x) (inr y) = x.is ∙ sym y.is

-- what the text of a whole head gives
abbrev pub Answers : Type 1
Answers = List ℕ → Result Head ℕ → Type 0

-- it gives one thing
abbrev AreUnique : Answers → Type 0
AreUnique answers = (front : List ℕ) (a b : Result Head ℕ) → answers front a → answers front b → a ≡ b

IsStepAt-unique : (answers : Answers) (large at : ℕ) (text : List ℕ) (c : Cut) (a b : HeadStep) → AreUnique answers
    → IsStepAt answers large at text c a → IsStepAt answers large at text c b → a ≡ b
IsStepAt-unique answers large at text (whole len) a b one x y =
    x.2 ∙ ap (step_of (at + len)) (one (take len text) x.0 y.0 x.1 y.1) ∙ sym y.2
IsStepAt-unique answers large at text too_large a b one x y = x ∙ sym y
IsStepAt-unique answers large at text unfinished a b one x y = x ∙ sym y

SpellsBy-unique : (answers : Answers) (large : ℕ) (text : List ℕ) (a b : HeadStep) → AreUnique answers
    → SpellsBy answers large text a → SpellsBy answers large text b → a ≡ b
SpellsBy-unique answers large text a b one x y =
    IsStepAt-unique answers large (empty_line_bytes text) (after_empty_lines text) (head_cut (after_empty_lines text)) a b one x y

pub one_step : OneStep
one_step None text a b x y = SpellsBy-unique IsAnswer 431 text a b IsAnswer-unique x y
one_step (Some asked) text a b x y =
    let to_head = bytes_eq asked (codes "HEAD") in
    SpellsBy-unique (IsResponseAnswer to_head) 502 text a b (IsResponseAnswer-unique to_head) x y

-- ---- a step stays

-- a text whose step is not "not yet" has a cut that says something
done_of : (answers : Answers) (large at : ℕ) (text : List ℕ) (c : Cut) (a : HeadStep) → IsStepAt answers large at text c a → (a ≡ not_yet → ⊥)
    → IsDone c
done_of answers large at text (whole len) a x some = λ e. cc
done_of answers large at text too_large a x some = λ e. cc
done_of answers large at text unfinished a x some = λ e. some x

step_moves : (answers : Answers) (large at : ℕ) (text more : List ℕ) (c : Cut) (a : HeadStep) → head_cut text ≡ c → IsStepAt answers large at text c a
    → IsStepAt answers large at (text ++ more) c a
step_moves answers large at text more (whole len) a is x =
    let same : take len text ≡ take len (text ++ more) = sym (take-append-le len text more (head_cut_fits text len is).0) in
    (x.0, subst (λ t. answers t x.0) same x.1, x.2)
step_moves answers large at text more too_large a is x = x
step_moves answers large at text more unfinished a is x = x

SpellsBy-stays : (answers : Answers) (large : ℕ) (text more : List ℕ) (a : HeadStep) → SpellsBy answers large text a → (a ≡ not_yet → ⊥)
    → SpellsBy answers large (text ++ more) a
SpellsBy-stays answers large text more a x some =
    let left = after_empty_lines text in
    let at = empty_line_bytes text in
    let done : IsDone (head_cut left) = done_of answers large at left (head_cut left) a x some in
    let moved = step_moves answers large at left more (head_cut left) a refl x in
    let cut_is : head_cut left ≡ head_cut (left ++ more) = sym (head_cut-append left more done) in
    let rest_is : left ++ more ≡ after_empty_lines (text ++ more) = sym (after_empty_lines-append text more done) in
    let at_is : at ≡ empty_line_bytes (text ++ more) = sym (skip_grows _ text more refl done) in
    let cut_moved : IsStepAt answers large at (left ++ more) (head_cut (left ++ more)) a =
    subst (λ c. IsStepAt answers large at (left ++ more) c a) cut_is moved in
    let rest_moved : IsStepAt answers large at (after_empty_lines (text ++ more)) (head_cut (after_empty_lines (text ++ more))) a =
    subst (λ t. IsStepAt answers large at t (head_cut t) a) rest_is cut_moved in
    subst (λ n. IsStepAt answers large n (after_empty_lines (text ++ more)) (head_cut (after_empty_lines (text ++ more))) a) at_is rest_moved

pub step_stays : StepStays
step_stays None text more a x some = SpellsBy-stays IsAnswer 431 text more a x some
step_stays (Some asked) text more a x some = SpellsBy-stays (IsResponseAnswer (bytes_eq asked (codes "HEAD"))) 502 text more a x some

-- ---- whole readings

coded_unique : (ended : Bool) (asked : Option (List ℕ)) (connection : List (List ℕ)) (text : List ℕ) (s : chunks.Sought) (a b : Step)
    → IsCodedStep ended asked connection text s a → IsCodedStep ended asked connection text s b → a ≡ b
coded_unique ended asked connection text (chunks.data_at at left) a b x y = x ∙ sym y
coded_unique ended asked connection text (chunks.section_at at) a b x y =
    x.2 ∙ ap (section_step ended asked connection) (one_end at (drop at text) (section_cut (drop at text)) x.0 y.0 x.1 y.1) ∙ sym y.2
coded_unique ended asked connection text chunks.waiting a b x y = x ∙ sym y
coded_unique ended asked connection text chunks.malformed a b x y = x ∙ sym y

-- from a place on, one step comes
pub StepsTo-unique : (ended : Bool) (asked : Option (List ℕ)) (due : Due) (text : List ℕ) (a b : Step)
    → StepsTo ended asked due text a → StepsTo ended asked due text b → a ≡ b
StepsTo-unique ended asked head text a b x y =
    x.2 ∙ ap (step_from ended asked text) (one_step asked text x.0 y.0 x.1 y.1) ∙ sym y.2
StepsTo-unique ended asked (body (counted n)) text a b x y = x ∙ sym y
StepsTo-unique ended asked (body (coded connection place)) text a b x y = coded_unique ended asked connection text (chunks.sought place text) a b x y
StepsTo-unique ended asked (body unbounded) text a b x y = x ∙ sym y
StepsTo-unique ended asked done text a b x y = x ∙ sym y

pub item_is_no_stop : (i : Item) (n : ℕ) (due : Due) (why : Stop) → item i n due ≡ stop why → ⊥
item_is_no_stop i n due why e = cc

pub same_stop : (v w : Stop) → stop v ≡ stop w → v ≡ w
same_stop v w e = cc

pub same_item : (i j : Item) (n m : ℕ) (d e : Due) → item i n d ≡ item j m e → (i ≡ j) × (n ≡ m) × (d ≡ e)
same_item i j n m d e x = (cc, cc, cc)

same_placed : (p q : Placed) → p.item ≡ q.item → p.from ≡ q.from → p.to ≡ q.to → p ≡ q
same_placed p q i f t = λ k. record { item = i k; from = f k; to = t k }

pub SpellsFrom-unique : (text : List ℕ) (ended : Bool) (asked : Option (List ℕ)) (due : Due) (at : ℕ) (xs ys : List Placed) (v w : Stop)
    → SpellsFrom text ended asked due at xs v → SpellsFrom text ended asked due at ys w → (xs ≡ ys) × (v ≡ w)
SpellsFrom-unique text ended asked due at [] [] v w x y =
    (refl, same_stop v w (StepsTo-unique ended asked due (drop at text) (stop v) (stop w) x y))
SpellsFrom-unique text ended asked due at [] (q ∷ ys) v w x y =
    absurd (item_is_no_stop q.item y.0 y.1 v (StepsTo-unique ended asked due (drop at text) (item q.item y.0 y.1) (stop v) y.2 x))
SpellsFrom-unique text ended asked due at (p ∷ xs) [] v w x y =
    absurd (item_is_no_stop p.item x.0 x.1 w (StepsTo-unique ended asked due (drop at text) (item p.item x.0 x.1) (stop w) x.2 y))
SpellsFrom-unique text ended asked due at (p ∷ xs) (q ∷ ys) v w x y =
    let same = same_item p.item q.item x.0 y.0 x.1 y.1
    (StepsTo-unique ended asked due (drop at text) (item p.item x.0 x.1) (item q.item y.0 y.1) x.2 y.2) in
    let first : p ≡ q = same_placed p q same.0 (x.3 ∙ sym y.3) (x.4 ∙ ap (λ n. at + n) same.1 ∙ sym y.4) in
    let used_moved : SpellsFrom text ended asked x.1 (at + y.0) xs v = subst (λ n. SpellsFrom text ended asked x.1 (at + n) xs v) same.1 x.5 in
    let moved : SpellsFrom text ended asked y.1 (at + y.0) xs v = subst (λ d. SpellsFrom text ended asked d (at + y.0) xs v) same.2 used_moved in
    let later = SpellsFrom-unique text ended asked y.1 (at + y.0) xs ys v w moved y.5 in
    (λ k. first k ∷ later.0 k, later.1)

pub one_reading : OneReading
one_reading text ended asked xs ys v w = SpellsFrom-unique text ended asked head 0 xs ys v w

-- ---- a longer text

-- a head that is found is an item that uses up as much
item_uses : (asked : Option (List ℕ)) (of : Head) (i : Item) (n used : ℕ) (next : Due) → item i used next ≡ item_of asked of n → used ≡ n
item_uses None of i n used next e = (same_item i (request of) used n next (due_after of) e).1
item_uses (Some asked) of i n used next e = by_kind (is_interim of.fields.kind) e
  where
    by_kind : (b : Bool) → item i used next ≡ cond b (item (interim of) n head) (item (response of) n (due_behind done of.connection of.length)) → used ≡ n
    by_kind true e = (same_item i (interim of) used n next head e).1
    by_kind false e = (same_item i (response of) used n next (due_behind done of.connection of.length) e).1

-- what a head uses up is there
used_by_fits : (answers : Answers) (large : ℕ) (text : List ℕ) (of : Head) (used : ℕ) → SpellsBy answers large text (found of used) → used ≤ length text
used_by_fits answers large text of used spells = by_cut (head_cut (after_empty_lines text)) refl spells
  where
    used_is : (n : ℕ) (answer : Result Head ℕ) → found of used ≡ step_of n answer → used ≡ n
    used_is n (Ok h) e = cc
    used_is n (Err k) e = absurd (cc)

    by_cut : (c : Cut) → head_cut (after_empty_lines text) ≡ c → IsStepAt answers large (empty_line_bytes text) (after_empty_lines text) c (found of used)
        → used ≤ length text
    by_cut (whole len) is x =
        omega (arith, used_is (empty_line_bytes text + len) x.0 x.2, (head_cut_fits (after_empty_lines text) len is).0, length-drop (empty_line_bytes text) text, skipped_fits text)
    by_cut too_large is x = absurd (cc)
    by_cut unfinished is x = absurd (cc)

used_fits : (asked : Option (List ℕ)) (text : List ℕ) (of : Head) (used : ℕ) → SpellsHead asked text (found of used) → used ≤ length text
used_fits None text of used spells = used_by_fits IsAnswer 431 text of used spells
used_fits (Some asked) text of used spells = used_by_fits (IsResponseAnswer (bytes_eq asked (codes "HEAD"))) 502 text of used spells

found_is_some : (of : Head) (n : ℕ) → found of n ≡ not_yet → ⊥
found_is_some of n e = cc

-- the empty lines before a head that is found stay the same
skipped_stays_by : (answers : Answers) (large : ℕ) (text more : List ℕ) (a : HeadStep) → SpellsBy answers large text a → (a ≡ not_yet → ⊥)
    → empty_line_bytes (text ++ more) ≡ empty_line_bytes text
skipped_stays_by answers large text more a x some =
    skip_grows _ text more refl (done_of answers large (empty_line_bytes text) (after_empty_lines text) (head_cut (after_empty_lines text)) a x some)

skipped_stays : (asked : Option (List ℕ)) (text more : List ℕ) (a : HeadStep) → SpellsHead asked text a → (a ≡ not_yet → ⊥)
    → empty_line_bytes (text ++ more) ≡ empty_line_bytes text
skipped_stays None text more a x some = skipped_stays_by IsAnswer 431 text more a x some
skipped_stays (Some asked) text more a x some = skipped_stays_by (IsResponseAnswer (bytes_eq asked (codes "HEAD"))) 502 text more a x some

-- An item in a text that goes on is one in every longer text, whether or not that ends; as many bytes stand in front of it there,
-- and those that it uses are in the text.
pub record Stays (ended : Bool) (asked : Option (List ℕ)) (due : Due) (text more : List ℕ) (i : Item) (used : ℕ) (next : Due) : Type 0 where
  pub there : StepsTo ended asked due (text ++ more) (item i used next)
  pub lead : lead_of due (text ++ more) ≡ lead_of due text
  pub fits : used ≤ length text

head_stays : (ended : Bool) (asked : Option (List ℕ)) (text more : List ℕ) (i : Item) (used : ℕ) (next : Due)
    → StepsTo false asked head text (item i used next) → Stays ended asked head text more i used next
head_stays ended asked text more i used next x = by_step x.0 x.1 x.2
  where
    by_step : (h : HeadStep) → SpellsHead asked text h → item i used next ≡ step_from false asked text h → Stays ended asked head text more i used next
    by_step (found of n) spells e = record {
      there = (found of n, step_stays asked text more (found of n) spells (found_is_some of n), e);
      lead = skipped_stays asked text more (found of n) spells (found_is_some of n);
      fits = omega (arith, item_uses asked of i n used next e, used_fits asked text of n spells);
    }
    by_step not_yet spells e = absurd (item_is_no_stop i used next (stop_at false asked text) e)
    by_step (refused n) spells e = absurd (item_is_no_stop i used next (refusal n) e)

counted_stays : (ended : Bool) (asked : Option (List ℕ)) (n : ℕ) (text more : List ℕ) (i : Item) (used : ℕ) (next : Due)
    → item i used next ≡ counted_step false asked n text → Stays ended asked (body (counted n)) text more i used next
counted_stays ended asked zero text more i used next e =
    record { there = e; lead = refl; fits = omega (arith, (same_item i end used 0 next (due_next asked) e).1) }
counted_stays ended asked (suc n) [] more i used next e = absurd (item_is_no_stop i used next rest e)
counted_stays ended asked (suc n) (b ∷ text) more i used next e =
    record { there = e; lead = refl; fits = omega (arith, (same_item i (octet b) used 1 next (body (counted n)) e).1) }

unbounded_stays : (ended : Bool) (asked : Option (List ℕ)) (text more : List ℕ) (i : Item) (used : ℕ) (next : Due)
    → item i used next ≡ unbounded_step false asked text → Stays ended asked (body unbounded) text more i used next
unbounded_stays ended asked [] more i used next e = absurd (item_is_no_stop i used next rest e)
unbounded_stays ended asked (b ∷ text) more i used next e =
    record { there = e; lead = refl; fits = omega (arith, (same_item i (octet b) used 1 next (body unbounded) e).1) }

-- the end of a chunked body uses up so many bytes
end_uses : (asked : Option (List ℕ)) (n : ℕ) (fields : List Pair) (i : Item) (used : ℕ) (next : Due) → item i used next ≡ end_step asked n fields
    → used ≡ n
end_uses asked n [] i used next e = (same_item i end used n next (due_next asked) e).1
end_uses asked n (f ∷ fields) i used next e = (same_item i (trailers (f ∷ fields)) used n next (due_next asked) e).1

-- a section's end is in its text
end_within : (at : ℕ) (text : List ℕ) (cut : Cut) (fields : List Pair) (used : ℕ) → section_cut text ≡ cut → IsEnd at text cut (trailing.ended fields used)
    → used ≤ at + length text
end_within at text (whole len) fields used is x = by_trailers x.trailers x.is
  where
    same_used : (fs : List Pair) (n : ℕ) → trailing.ended fields used ≡ trailing.ended fs n → used ≡ n
    same_used fs n e = cc

    by_trailers : (o : Option (List Pair)) → trailing.ended fields used ≡ end_of (at + length (take len text)) o → used ≤ at + length text
    by_trailers None e = absurd (cc)
    by_trailers (Some fs) e = omega (arith, same_used fs (at + length (take len text)) e, length-take len text)
end_within at text too_large fields used is x = absurd (cc)
end_within at text unfinished fields used is x = absurd (cc)

coded_stays : (ended : Bool) (asked : Option (List ℕ)) (connection : List (List ℕ)) (place : chunks.Place) (text more : List ℕ) (i : Item) (used : ℕ) (next : Due)
    → (s : chunks.Sought) → chunks.sought place text ≡ s → IsCodedStep false asked connection text s (item i used next)
    → Stays ended asked (body (coded connection place)) text more i used next
coded_stays ended asked connection place text more i used next (chunks.data_at at left) is x =
    let fits : at < length text = sought_fits place text at left is in
    let stays : chunks.sought place (text ++ more) ≡ chunks.data_at at left = sought_stays place text more (chunks.data_at at left) is no_waiting in
    let same : get_or text at 0 ≡ get_or (text ++ more) at 0 = sym (get_or_append_left text more 0 at fits) in
    let later : IsCodedStep ended asked connection (text ++ more) (chunks.data_at at left) (item i used next) =
    x ∙ ap (λ b. item (octet b) (at + 1) (body (coded connection (chunks.inside (left - 1))))) same in
    record {
      there = subst (λ (s : chunks.Sought). IsCodedStep ended asked connection (text ++ more) s (item i used next)) (sym stays) later;
      lead = ap coding_before stays ∙ sym (ap coding_before is);
      fits = omega (arith, fits, (same_item i (octet (get_or text at 0)) used (at + 1) next (body (coded connection (chunks.inside (left - 1)))) x).1);
    }
  where
    no_waiting : chunks.data_at at left ≡ chunks.waiting → ⊥
    no_waiting e = cc
coded_stays ended asked connection place text more i used next (chunks.section_at at) is x = by_step x.0 x.1 x.2
  where
    no_waiting : chunks.section_at at ≡ chunks.waiting → ⊥
    no_waiting e = cc

    by_step : (c : trailing.ChunkStep) → IsEnd at (drop at text) (section_cut (drop at text)) c → item i used next ≡ section_step false asked connection c
        → Stays ended asked (body (coded connection place)) text more i used next
    by_step (trailing.carried run) it e = absurd (item_is_no_stop i used next rest e)
    by_step trailing.not_yet it e = absurd (item_is_no_stop i used next rest e)
    by_step (trailing.refused n) it e = absurd (item_is_no_stop i used next (malformed_status asked) e)
    by_step (trailing.ended fields n) it e =
        let within : at ≤ length text = section_within place text at is in
        let split : drop at (text ++ more) ≡ drop at text ++ more = drop-append-le at text more within in
        let stays : chunks.sought place (text ++ more) ≡ chunks.section_at at = sought_stays place text more (chunks.section_at at) is no_waiting in
        let longer = end_stays at (drop at text) more (section_cut (drop at text)) (trailing.ended fields n) refl it refl in
        let there : IsEnd at (drop at (text ++ more)) (section_cut (drop at (text ++ more))) (trailing.ended fields n) =
        subst (λ (t : List ℕ). IsEnd at t (section_cut t) (trailing.ended fields n)) (sym split) longer in
        let later : IsCodedStep ended asked connection (text ++ more) (chunks.section_at at) (item i used next) = (trailing.ended fields n, there, e) in
        record {
          there = subst (λ (s : chunks.Sought). IsCodedStep ended asked connection (text ++ more) s (item i used next)) (sym stays) later;
          lead = ap coding_before stays ∙ sym (ap coding_before is);
          fits = omega (
            arith,
            within,
            end_uses asked n (trailers_left asked connection fields) i used next e,
            end_within at (drop at text) (section_cut (drop at text)) fields n refl it,
            length-drop at text,
          );
        }
coded_stays ended asked connection place text more i used next chunks.waiting is x = absurd (item_is_no_stop i used next rest x)
coded_stays ended asked connection place text more i used next chunks.malformed is x = absurd (item_is_no_stop i used next (malformed_status asked) x)

pub item_stays : (ended : Bool) (asked : Option (List ℕ)) (due : Due) (text more : List ℕ) (i : Item) (used : ℕ) (next : Due)
    → StepsTo false asked due text (item i used next) → Stays ended asked due text more i used next
item_stays ended asked head text more i used next x = head_stays ended asked text more i used next x
item_stays ended asked (body (counted n)) text more i used next x = counted_stays ended asked n text more i used next x
item_stays ended asked (body (coded connection place)) text more i used next x =
    coded_stays ended asked connection place text more i used next (chunks.sought place text) refl x
item_stays ended asked (body unbounded) text more i used next x = unbounded_stays ended asked text more i used next x
item_stays ended asked done text more i used next x = absurd (item_is_no_stop i used next over x)

pub record Grows (xs ys : List Placed) : Type 0 where
  pub behind : List Placed
  pub are : ys ≡ xs ++ behind

-- what the longer text spells at the place of an item
record SameFirst (text more : List ℕ) (ended : Bool) (asked : Option (List ℕ)) (at used : ℕ) (next : Due) (p : Placed) (ys : List Placed) (w : Stop) : Type 0 where
  others : List Placed
  are : ys ≡ p ∷ others
  later : SpellsFrom (text ++ more) ended asked next (at + used) others w

same_first : (text more : List ℕ) (ended : Bool) (asked : Option (List ℕ)) (due : Due) (at : ℕ) (p : Placed) (used : ℕ) (next : Due) (ys : List Placed) (w : Stop)
    → at ≤ length text → StepsTo false asked due (drop at text) (item p.item used next)
    → p.from ≡ at + lead_of due (drop at text) → p.to ≡ at + used
    → SpellsFrom (text ++ more) ended asked due at ys w → SameFirst text more ended asked at used next p ys w
same_first text more ended asked due at p used next ys w fits x from to y =
    let s = item_stays ended asked due (drop at text) more p.item used next x in
    let split : drop at (text ++ more) ≡ drop at text ++ more = drop-append-le at text more fits in
    let there : StepsTo ended asked due (drop at (text ++ more)) (item p.item used next) =
    subst (λ (t : List ℕ). StepsTo ended asked due t (item p.item used next)) (sym split) s.there in
    let lead : lead_of due (drop at (text ++ more)) ≡ lead_of due (drop at text) = ap (lead_of due) split ∙ s.lead in
    by_items ys there lead y
  where
    by_items : (ys : List Placed) → StepsTo ended asked due (drop at (text ++ more)) (item p.item used next)
        → lead_of due (drop at (text ++ more)) ≡ lead_of due (drop at text)
        → SpellsFrom (text ++ more) ended asked due at ys w → SameFirst text more ended asked at used next p ys w
    by_items [] there lead y =
        absurd (item_is_no_stop p.item used next w
        (StepsTo-unique ended asked due (drop at (text ++ more)) (item p.item used next) (stop w) there y))
    by_items (q ∷ ys) there lead y =
        let same = same_item p.item q.item used y.0 next y.1
        (StepsTo-unique ended asked due (drop at (text ++ more)) (item p.item used next) (item q.item y.0 y.1) there y.2) in
        let first : q ≡ p = same_placed q p (sym same.0)
        (y.3 ∙ ap (λ n. at + n) lead ∙ sym from) (y.4 ∙ ap (λ n. at + n) (sym same.1) ∙ sym to) in
        let used_moved : SpellsFrom (text ++ more) ended asked y.1 (at + used) ys w =
        subst (λ n. SpellsFrom (text ++ more) ended asked y.1 (at + n) ys w) (sym same.1) y.5 in
        record {
          others = ys;
          are = ap (λ (r : Placed). r ∷ ys) first;
          later = subst (λ d. SpellsFrom (text ++ more) ended asked d (at + used) ys w) (sym same.2) used_moved;
        }

pub place_fits : (text : List ℕ) (asked : Option (List ℕ)) (due : Due) (at : ℕ) (i : Item) (used : ℕ) (next : Due) → at ≤ length text
    → StepsTo false asked due (drop at text) (item i used next) → at + used ≤ length text
place_fits text asked due at i used next fits x =
    omega (arith, (item_stays false asked due (drop at text) [] i used next x).fits, length-drop at text)

grows_from : (text more : List ℕ) (ended : Bool) (asked : Option (List ℕ)) (due : Due) (at : ℕ) (xs ys : List Placed) (v w : Stop) → at ≤ length text
    → SpellsFrom text false asked due at xs v → SpellsFrom (text ++ more) ended asked due at ys w → Grows xs ys
grows_from text more ended asked due at [] ys v w fits x y = record { behind = ys; are = refl }
grows_from text more ended asked due at (p ∷ xs) ys v w fits x y =
    let s = same_first text more ended asked due at p x.0 x.1 ys w fits x.2 x.3 x.4 y in
    let later = grows_from text more ended asked x.1 (at + x.0) xs s.others v w (place_fits text asked due at p.item x.0 x.1 fits x.2) x.5 s.later in
    record { behind = later.behind; are = s.are ∙ ap (λ (r : List Placed). p ∷ r) later.are }

pub reading_grows : ReadingGrows
reading_grows text more ended asked xs ys v w x y =
    let g = grows_from text more ended asked head 0 xs ys v w (omega arith) x y in (g.behind, g.are)

-- a refusal in a text that has not ended is one in every longer text
open_no_refusal : (asked : Option (List ℕ)) (text : List ℕ) (number : ℕ) → refusal number ≡ stop_at false asked text → ⊥
open_no_refusal None text number e = cc
open_no_refusal (Some asked) text number e = cc

head_refused : (ended : Bool) (asked : Option (List ℕ)) (text more : List ℕ) (number : ℕ)
    → StepsTo false asked head text (stop (refusal number)) → StepsTo ended asked head (text ++ more) (stop (refusal number))
head_refused ended asked text more number x = by_step x.0 x.1 x.2
  where
    no_item : (asked : Option (List ℕ)) (of : Head) (n : ℕ) → stop (refusal number) ≡ item_of asked of n → ⊥
    no_item None of n e = item_is_no_stop (request of) n (due_after of) (refusal number) (sym e)
    no_item (Some asked) of n e = by_kind (is_interim of.fields.kind) e
      where
        by_kind : (b : Bool) → stop (refusal number) ≡ cond b (item (interim of) n head) (item (response of) n (due_behind done of.connection of.length)) → ⊥
        by_kind true e = item_is_no_stop (interim of) n head (refusal number) (sym e)
        by_kind false e = item_is_no_stop (response of) n (due_behind done of.connection of.length) (refusal number) (sym e)

    by_step : (h : HeadStep) → SpellsHead asked text h → stop (refusal number) ≡ step_from false asked text h
        → StepsTo ended asked head (text ++ more) (stop (refusal number))
    by_step (found of n) spells e = absurd (no_item asked of n e)
    by_step not_yet spells e = absurd (open_no_refusal asked text number (same_stop (refusal number) (stop_at false asked text) e))
    by_step (refused n) spells e =
        let same : refusal number ≡ refusal n = same_stop (refusal number) (refusal n) e in
        (refused n, step_stays asked text more (refused n) spells (λ e. cc), ap stop same)

no_rest : (number : ℕ) → stop (refusal number) ≡ stop rest → ⊥
no_rest number e = no (same_stop (refusal number) rest e)
  where
    no : refusal number ≡ rest → ⊥
    no e = cc

no_item_refused : (number : ℕ) (i : Item) (used : ℕ) (next : Due) → stop (refusal number) ≡ item i used next → ⊥
no_item_refused number i used next e = item_is_no_stop i used next (refusal number) (sym e)

no_end_refused : (number : ℕ) (asked : Option (List ℕ)) (used : ℕ) (fields : List Pair) → stop (refusal number) ≡ end_step asked used fields → ⊥
no_end_refused number asked used [] e = no_item_refused number end used (due_next asked) e
no_end_refused number asked used (f ∷ fields) e = no_item_refused number (trailers (f ∷ fields)) used (due_next asked) e

counted_refused : (asked : Option (List ℕ)) (n : ℕ) (text : List ℕ) (number : ℕ) → stop (refusal number) ≡ counted_step false asked n text → ⊥
counted_refused asked zero text number e = no_item_refused number end 0 (due_next asked) e
counted_refused asked (suc n) [] number e = no_rest number e
counted_refused asked (suc n) (b ∷ text) number e = no_item_refused number (octet b) 1 (body (counted n)) e

unbounded_refused : (asked : Option (List ℕ)) (text : List ℕ) (number : ℕ) → stop (refusal number) ≡ unbounded_step false asked text → ⊥
unbounded_refused asked [] number e = no_rest number e
unbounded_refused asked (b ∷ text) number e = no_item_refused number (octet b) 1 (body unbounded) e

coded_refused : (ended : Bool) (asked : Option (List ℕ)) (connection : List (List ℕ)) (place : chunks.Place) (text more : List ℕ) (number : ℕ)
    → (s : chunks.Sought) → chunks.sought place text ≡ s → IsCodedStep false asked connection text s (stop (refusal number))
    → StepsTo ended asked (body (coded connection place)) (text ++ more) (stop (refusal number))
coded_refused ended asked connection place text more number (chunks.data_at at left) is x =
    absurd (no_item_refused number (octet (get_or text at 0)) (at + 1) (body (coded connection (chunks.inside (left - 1)))) x)
coded_refused ended asked connection place text more number (chunks.section_at at) is x = by_step x.0 x.1 x.2
  where
    no_waiting : chunks.section_at at ≡ chunks.waiting → ⊥
    no_waiting e = cc

    by_step : (c : trailing.ChunkStep) → IsEnd at (drop at text) (section_cut (drop at text)) c → stop (refusal number) ≡ section_step false asked connection c
        → StepsTo ended asked (body (coded connection place)) (text ++ more) (stop (refusal number))
    by_step (trailing.carried run) it e = absurd (no_rest number e)
    by_step trailing.not_yet it e = absurd (no_rest number e)
    by_step (trailing.ended fields n) it e = absurd (no_end_refused number asked n (trailers_left asked connection fields) e)
    by_step (trailing.refused n) it e =
        let split : drop at (text ++ more) ≡ drop at text ++ more = drop-append-le at text more (section_within place text at is) in
        let stays : chunks.sought place (text ++ more) ≡ chunks.section_at at = sought_stays place text more (chunks.section_at at) is no_waiting in
        let longer = end_stays at (drop at text) more (section_cut (drop at text)) (trailing.refused n) refl it refl in
        let there : IsEnd at (drop at (text ++ more)) (section_cut (drop at (text ++ more))) (trailing.refused n) =
        subst (λ (t : List ℕ). IsEnd at t (section_cut t) (trailing.refused n)) (sym split) longer in
        let later : IsCodedStep ended asked connection (text ++ more) (chunks.section_at at) (stop (refusal number)) = (trailing.refused n, there, e) in
        subst (λ (s : chunks.Sought). IsCodedStep ended asked connection (text ++ more) s (stop (refusal number))) (sym stays) later
coded_refused ended asked connection place text more number chunks.waiting is x = absurd (no_rest number x)
coded_refused ended asked connection place text more number chunks.malformed is x =
    subst (λ (s : chunks.Sought). IsCodedStep ended asked connection (text ++ more) s (stop (refusal number)))
    (sym (sought_stays place text more chunks.malformed is no_waiting)) x
  where
    no_waiting : chunks.malformed ≡ chunks.waiting → ⊥
    no_waiting e = cc

pub refused_at : (asked : Option (List ℕ)) (due : Due) (text more : List ℕ) (ended : Bool) (number : ℕ)
    → StepsTo false asked due text (stop (refusal number)) → StepsTo ended asked due (text ++ more) (stop (refusal number))
refused_at asked head text more ended number x = head_refused ended asked text more number x
refused_at asked (body (counted n)) text more ended number x = absurd (counted_refused asked n text number x)
refused_at asked (body (coded connection place)) text more ended number x =
    coded_refused ended asked connection place text more number (chunks.sought place text) refl x
refused_at asked (body unbounded) text more ended number x = absurd (unbounded_refused asked text number x)
refused_at asked done text more ended number x = absurd (no_over (same_stop (refusal number) over x))
  where
    no_over : refusal number ≡ over → ⊥
    no_over e = cc

stays_from : (text more : List ℕ) (ended : Bool) (asked : Option (List ℕ)) (due : Due) (at : ℕ) (xs ys : List Placed) (number : ℕ) (w : Stop) → at ≤ length text
    → SpellsFrom text false asked due at xs (refusal number) → SpellsFrom (text ++ more) ended asked due at ys w
    → (ys ≡ xs) × (w ≡ refusal number)
stays_from text more ended asked due at [] ys number w fits x y =
    let split : drop at (text ++ more) ≡ drop at text ++ more = drop-append-le at text more fits in
    let there : SpellsFrom (text ++ more) ended asked due at [] (refusal number) =
    subst (λ t. StepsTo ended asked due t (stop (refusal number))) (sym split) (refused_at asked due (drop at text) more ended number x) in
    SpellsFrom-unique (text ++ more) ended asked due at ys [] w (refusal number) y there
stays_from text more ended asked due at (p ∷ xs) ys number w fits x y =
    let s = same_first text more ended asked due at p x.0 x.1 ys w fits x.2 x.3 x.4 y in
    let later = stays_from text more ended asked x.1 (at + x.0) xs s.others number w (place_fits text asked due at p.item x.0 x.1 fits x.2) x.5 s.later in
    (s.are ∙ ap (λ (r : List Placed). p ∷ r) later.0, later.1)

pub refusal_stays : RefusalStays
refusal_stays text more ended asked xs ys number w = stays_from text more ended asked head 0 xs ys number w (omega arith)
