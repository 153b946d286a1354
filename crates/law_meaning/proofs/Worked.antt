-- Worked turns.
use Rattle.std.proofs.Common.{◌∙◌, ap, refl, sym, []}
use Rattle.worker_model.specs.Turn.{Outcome, outcome}
use Rattle.law_meaning.proofs.Splitting.{none_more}
use Rattle.law_meaning.specs.Examples.{TurnExamples}
use Rattle.law_meaning.specs.Walks.{stays, steps}

pub examples : (H : Type 0) → TurnExamples H
examples H = record {
  stop = λ calling plan from now. (refl, refl);
  stop_stays = λ calling plan from to now end h. h.1 ∙ ap (λ (o : Outcome H). o.state) (sym (none_more [] (outcome from []) end h.0).1);
  stop_meets_nothing = λ calling plan from to now m ms end h. absurd h.0;
  one_step = λ calling plan b m ms goes reaches. steps b m m ms [] goes reaches (stays m);
}
