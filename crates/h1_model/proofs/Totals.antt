-- Each text spells something where a head is due: its cut says what, and the text of a whole head is read or is not.
use Rattle.std.proofs.Common.{◌≡◌, ℕ, ◌+◌, Bool, List, take, Option, None, Some, bytes_eq, codes, Result, Ok, Err, refl, inl, inr}
use Rattle.std.specs.Prelude.{MatchOption}
use Rattle.httparse.specs.Grammar.{status_code}
use Rattle.h1_model.specs.Fields.{Pair}
use Rattle.h1_model.specs.Lines.{empty_line_bytes, after_empty_lines, Cut, whole, too_large, unfinished, head_cut}
use Rattle.h1_model.specs.Target.{Target, IsTargetOf}
use Rattle.h1_model.specs.Head.{Head, head_of_target, early_refusal, IsTargeted, IsJudged, pairs_of, pairs_at, IsAnswer, response_judged, IsResponseAnswer, HeadStep, found, not_yet, refused, step_of, IsStepAt, SpellsBy}
use Rattle.h1_model.specs.Messages.{SpellsHead}
use Rattle.h1_model.specs.Laws.{EachText}
use Rattle.h1_model.proofs.Readings.{Answers, one_step}

-- no target gives nothing
target_some : (method target : List ℕ) → ((parts : Option Target) → IsTargetOf method target parts → ⊥) → ⊥
target_some method target never = never None (λ parts gives. never (Some parts) gives)

-- no head that is read goes unjudged
judged_some : (m t : List ℕ) (v : ℕ) (fs : List Pair) → ((a : Result Head ℕ) → IsJudged m t v fs a → ⊥) → ⊥
judged_some m t v fs = by_early (early_refusal m v fs)
  where
    by_early : (o : Option ℕ) → ((a : Result Head ℕ) → MatchOption o (IsTargeted m t v fs a) (λ n. a ≡ Err n) → ⊥) → ⊥
    by_early None never = target_some m t (λ parts gives. never (head_of_target m v fs parts) (record { parts = parts; gives = gives; is = refl }))
    by_early (Some n) never = never (Err n) refl

-- the text of every whole head gives something
abbrev AreTotal : Answers → Type 0
AreTotal answers = (front : List ℕ) → ((a : Result Head ℕ) → answers front a → ⊥) → ⊥

requests_total : AreTotal IsAnswer
requests_total front never =
    never (Err 400) (inr (record {
      none = λ head reads. judged_some head.method head.target head.minor (pairs_of head)
          (λ a judged. never a (inl (record { head = head; reads = reads; judged = judged })));
      is = refl;
    }))

responses_total : (to_head : Bool) → AreTotal (IsResponseAnswer to_head)
responses_total to_head front never =
    never (Err 502) (inr (record {
      none = λ head reads. never (response_judged to_head head.minor (status_code head) (pairs_at head.fields))
          (inl (record { head = head; reads = reads; judged = refl }));
      is = refl;
    }))

spelled_some : (answers : Answers) (large : ℕ) (text : List ℕ) → AreTotal answers → ((step : HeadStep) → SpellsBy answers large text step → ⊥) → ⊥
spelled_some answers large text total never = by_cut (head_cut (after_empty_lines text)) never
  where
    by_cut : (c : Cut) → ((step : HeadStep) → IsStepAt answers large (empty_line_bytes text) (after_empty_lines text) c step → ⊥) → ⊥
    by_cut (whole len) none = total (take len (after_empty_lines text)) (λ a gives. none (step_of (empty_line_bytes text + len) a) (a, gives, refl))
    by_cut too_large none = none (refused large) refl
    by_cut unfinished none = none not_yet refl

step_some : (asked : Option (List ℕ)) (text : List ℕ) → ((step : HeadStep) → SpellsHead asked text step → ⊥) → ⊥
step_some None text never = spelled_some IsAnswer 431 text requests_total never
step_some (Some asked) text never =
    let to_head = bytes_eq asked (codes "HEAD") in spelled_some (IsResponseAnswer to_head) 502 text (responses_total to_head) never

is_there : (head : Head) (used : ℕ) → found head used ≡ not_yet → ⊥
is_there head used e = cc

is_not_refused : (head : Head) (used number : ℕ) → found head used ≡ refused number → ⊥
is_not_refused head used number e = cc

rest_is_no_refusal : (number : ℕ) → not_yet ≡ refused number → ⊥
rest_is_no_refusal number e = cc

pub each_text : EachText
each_text = record {
  some = λ asked text no_head no_rest no_refusal. step_some asked text (by_step asked text no_head no_rest no_refusal);
  head_is_there = λ asked text head used x y. is_there head used (one_step asked text (found head used) not_yet x y);
  head_is_not_refused = λ asked text head used number x y. is_not_refused head used number (one_step asked text (found head used) (refused number) x y);
  rest_is_not_refused = λ asked text number x y. rest_is_no_refusal number (one_step asked text not_yet (refused number) x y);
}
  where
    by_step : (asked : Option (List ℕ)) (text : List ℕ) → ((head : Head) (used : ℕ) → SpellsHead asked text (found head used) → ⊥)
        → (SpellsHead asked text not_yet → ⊥) → ((number : ℕ) → SpellsHead asked text (refused number) → ⊥)
        → (step : HeadStep) → SpellsHead asked text step → ⊥
    by_step asked text no_head no_rest no_refusal (found head used) x = no_head head used x
    by_step asked text no_head no_rest no_refusal not_yet x = no_rest x
    by_step asked text no_head no_rest no_refusal (refused number) x = no_refusal number x
