-- The death of a VM, by computation.
use Rattle.std.proofs.Common.{◌≡◌, true, [], ◌∷◌, map, refl}
use Rattle.std.specs.Fmt.{digits}
use Rattle.h1_model.specs.Moment.{year_from, month_from}
use Rattle.httparse.proofs.OnLiterals.{httparse_on_literals}
use Rattle.httpdate.proofs.OnLiterals.{httpdate_on_literals}
use Rattle.worker_model.specs.Settling.{settling}
use Rattle.worker_model.specs.declared.types.Line.{Line}
use Rattle.law_turns.proofs.Following.{end_by, ends_there, Meets, reaches_by, still_waits}
use Rattle.law_turns.specs.Scenes.{waits_on}
use Rattle.law_turns.specs.Death.{DeathExample, calls, sends, turned}

it_ends : ends_there (waits_on ∷ []) turned ≡ true
unfolding settling
it_ends = refl

it_meets : Meets (waits_on ∷ []) turned
unfolding settling
it_meets = (still_waits, tt)

it_asks : (end_by (waits_on ∷ []) turned).state.host ≡ calls
unfolding settling
it_asks = refl

it_sends : (end_by (waits_on ∷ []) turned).sent ≡ sends
unfolding settling httparse_on_literals httpdate_on_literals digits year_from month_from
it_sends = refl

it_leaves : map (λ (l : Line). l.number) (end_by (waits_on ∷ []) turned).state.room.lines ≡ 1 ∷ 2 ∷ []
unfolding settling
it_leaves = refl

pub death_example : DeathExample
death_example = record {
  turns = record {
    end = end_by (waits_on ∷ []) turned;
    reaches = reaches_by (waits_on ∷ []) turned it_ends it_meets;
    called = it_asks;
    hands_over = it_sends;
    leaves = it_leaves;
  };
}
