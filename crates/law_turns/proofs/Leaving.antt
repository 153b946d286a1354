-- A client that is gone, and Stop, by computation.
use Rattle.std.proofs.Common.{◌≡◌, true, List, [], ◌∷◌, map, None, refl}
use Rattle.filter_host.specs.Course.{Course}
use Rattle.worker_model.specs.Settling.{settling}
use Rattle.worker_model.specs.Turn.{Outcome}
use Rattle.worker_model.specs.declared.types.Line.{Line}
use Rattle.law_turns.proofs.Following.{end_by, ends_there, reaches_by}
use Rattle.law_turns.specs.Tables.{Call}
use Rattle.law_turns.specs.Leaving.{GoneExample, StopExample, gone, gone_calls, gone_sends, late, idle, ids_of}

gone_ends : ends_there [] gone ≡ true
unfolding settling
gone_ends = refl

gone_asks : (end_by [] gone).state.host ≡ gone_calls
unfolding settling
gone_asks = refl

gone_hands : (end_by [] gone).sent ≡ gone_sends
unfolding settling
gone_hands = refl

gone_leaves : map (λ (l : Line). l.number) (end_by [] gone).state.room.lines ≡ 2 ∷ []
unfolding settling
gone_leaves = refl

gone_roots : ids_of (end_by [] gone) ≡ (1 ∷ 2 ∷ []) ∷ []
unfolding settling
gone_roots = refl

gone_places : (end_by [] gone).state.room.hub.contexts.exchanges ≡ None ∷ []
unfolding settling
gone_places = refl

abbrev behind : Course (Outcome (List Call))
behind = late (end_by [] gone).state

behind_ends : ends_there [] behind ≡ true
unfolding settling
behind_ends = refl

behind_asks : (end_by [] behind).state.host ≡ gone_calls
unfolding settling
behind_asks = refl

behind_hands : (end_by [] behind).sent ≡ []
unfolding settling
behind_hands = refl

behind_leaves : map (λ (l : Line). l.number) (end_by [] behind).state.room.lines ≡ 2 ∷ []
unfolding settling
behind_leaves = refl

abbrev last : Course (Outcome (List Call))
last = idle (end_by [] behind).state

last_ends : ends_there [] last ≡ true
unfolding settling
last_ends = refl

last_asks : (end_by [] last).state.host ≡ gone_calls
unfolding settling
last_asks = refl

last_hands : (end_by [] last).sent ≡ []
unfolding settling
last_hands = refl

last_leaves : map (λ (l : Line). l.number) (end_by [] last).state.room.lines ≡ []
unfolding settling
last_leaves = refl

pub gone_example : GoneExample
gone_example = record {
  goes = record { end = end_by [] gone; reaches = reaches_by [] gone gone_ends tt; called = gone_asks; hands_over = gone_hands; leaves = gone_leaves };
  roots_stay = gone_roots;
  place_is_free = gone_places;
  comes_late = record { end = end_by [] behind; reaches = reaches_by [] behind behind_ends tt; called = behind_asks; hands_over = behind_hands; leaves = behind_leaves };
  goes_idle = record { end = end_by [] last; reaches = reaches_by [] last last_ends tt; called = last_asks; hands_over = last_hands; leaves = last_leaves };
}

pub stop_example : StopExample
stop_example = record {
  stops = record { end = record { state = _; sent = [] }; reaches = refl; called = refl; hands_over = refl; leaves = refl };
  as_it_was = refl;
  stops_at_once = record { end = record { state = _; sent = [] }; reaches = refl; called = refl; hands_over = refl; leaves = refl };
  still_new = refl;
}
