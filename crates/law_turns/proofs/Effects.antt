-- Two effects of a tick, by computation.
use Rattle.std.proofs.Common.{◌≡◌, true, [], ◌∷◌, map, refl}
use Rattle.std.specs.Fmt.{digits}
use Rattle.h1_model.specs.Moment.{year_from, month_from}
use Rattle.httparse.proofs.OnLiterals.{httparse_on_literals}
use Rattle.httpdate.proofs.OnLiterals.{httpdate_on_literals}
use Rattle.worker_model.specs.Settling.{settling}
use Rattle.worker_model.specs.declared.types.Line.{Line}
use Rattle.law_turns.proofs.Following.{end_by, ends_there, Meets, reaches_by, still_waits}
use Rattle.law_turns.specs.Scenes.{waits_on}
use Rattle.law_turns.specs.Effects.{EffectExamples, calls, in_order, swapped, closes, stays}

head_ends : ends_there [] in_order ≡ true
unfolding settling
head_ends = refl

head_meets : Meets [] in_order
unfolding settling
head_meets = tt

head_asks : (end_by [] in_order).state.host ≡ calls
unfolding settling
head_asks = refl

head_sends : (end_by [] in_order).sent ≡ closes
unfolding settling httparse_on_literals httpdate_on_literals digits year_from month_from
head_sends = refl

head_leaves : map (λ (l : Line). l.number) (end_by [] in_order).state.room.lines ≡ []
unfolding settling
head_leaves = refl

answer_ends : ends_there (waits_on ∷ []) swapped ≡ true
unfolding settling
answer_ends = refl

answer_meets : Meets (waits_on ∷ []) swapped
unfolding settling
answer_meets = (still_waits, tt)

answer_asks : (end_by (waits_on ∷ []) swapped).state.host ≡ calls
unfolding settling
answer_asks = refl

answer_sends : (end_by (waits_on ∷ []) swapped).sent ≡ stays
unfolding settling httparse_on_literals httpdate_on_literals digits year_from month_from
answer_sends = refl

answer_leaves : map (λ (l : Line). l.number) (end_by (waits_on ∷ []) swapped).state.room.lines ≡ 1 ∷ []
unfolding settling
answer_leaves = refl

pub effect_examples : EffectExamples
effect_examples = record {
  head_first = record {
    end = end_by [] in_order;
    reaches = reaches_by [] in_order head_ends head_meets;
    called = head_asks;
    hands_over = head_sends;
    leaves = head_leaves;
  };
  answer_first = record {
    end = end_by (waits_on ∷ []) swapped;
    reaches = reaches_by (waits_on ∷ []) swapped answer_ends answer_meets;
    called = answer_asks;
    hands_over = answer_sends;
    leaves = answer_leaves;
  };
}
