-- A context that waits, by computation.
use Rattle.std.proofs.Common.{◌≡◌, true, List, [], map, refl}
use Rattle.filter_host.specs.Course.{Course}
use Rattle.store_model.specs.declared.call.Reply.{Reply}
use Rattle.worker_model.specs.Settling.{settling}
use Rattle.worker_model.specs.Turn.{Outcome}
use Rattle.worker_model.specs.declared.types.Line.{Line}
use Rattle.law_turns.proofs.Following.{end_by, ends_there, Meets, reaches_by}
use Rattle.law_turns.specs.Tables.{Call}
use Rattle.law_turns.specs.Waiting.{WaitingExample, first, first_calls, second, second_met, second_calls}

abbrev two : Course (Outcome (List Call))
two = second (end_by [] first).state

one_ends : ends_there [] first ≡ true
unfolding settling
one_ends = refl

one_asks : (end_by [] first).state.host ≡ first_calls
unfolding settling
one_asks = refl

one_sends : (end_by [] first).sent ≡ []
unfolding settling
one_sends = refl

one_leaves : map (λ (l : Line). l.number) (end_by [] first).state.room.lines ≡ []
unfolding settling
one_leaves = refl

two_ends : (reply : Reply) → ends_there (second_met reply) two ≡ true
unfolding settling
two_ends reply = refl

two_meets : (reply : Reply) → Meets (second_met reply) two
unfolding settling
two_meets reply = (refl, refl, tt)

two_asks : (reply : Reply) → (end_by (second_met reply) two).state.host ≡ second_calls
unfolding settling
two_asks reply = refl

two_sends : (reply : Reply) → (end_by (second_met reply) two).sent ≡ []
unfolding settling
two_sends reply = refl

two_leaves : (reply : Reply) → map (λ (l : Line). l.number) (end_by (second_met reply) two).state.room.lines ≡ []
unfolding settling
two_leaves reply = refl

pub waiting_example : WaitingExample
waiting_example = record {
  lingers = record { end = end_by [] first; reaches = reaches_by [] first one_ends tt; called = one_asks; hands_over = one_sends; leaves = one_leaves };
  goes = λ reply. record {
    end = end_by (second_met reply) two;
    reaches = reaches_by (second_met reply) two (two_ends reply) (two_meets reply);
    called = two_asks reply;
    hands_over = two_sends reply;
    leaves = two_leaves reply;
  };
}
