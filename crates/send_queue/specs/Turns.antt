-- What is delivered over turns, one after another.
use Rattle.std.specs.Prelude.{◌≡◌, List, [], ◌∷◌, ◌++◌, Some}
use Rattle.std.specs.Bool.{OnTrue, OnFalse}
use Rattle.gate_io.specs.Events.{is_stop}
use Rattle.gate_io.specs.declared.event.Event.{Event}
use Rattle.gate_io.specs.declared.event.Sent.{Sent}
use Rattle.gate_io.specs.declared.passed.Passed.{Passed}
use Rattle.gate_io.specs.declared.passed.Passed.TheVariants.{Asked, Gave}
use Rattle.gate_io.specs.declared.passed.Wants.{Wants}
use Rattle.send_queue.specs.Cleared.{still_waiting, ended_by}
use Rattle.send_queue.specs.Delivery.{Delivered, Prompt}
use Rattle.send_queue.specs.declared.place.Destination.{Destination}

-- a turn: its event, and what it sends
pub record OneTurn : Type 0 where
  pub event : Event
  pub sent : List Sent

-- what is to go in a turn: what still waits once its event has come, and after it what the turn sends
abbrev pub to_go : List Sent → OneTurn → List Sent
to_go waiting turn = still_waiting turn.event.what waiting ++ turn.sent

-- What passed in a turn: the worker asked, the world gave the event, and took some of what was to go. The rest waits, and
-- nothing was held back. In the turn of Stop nothing is sent and nothing is offered.
pub record HandsOver (waiting : List Sent) (turn : OneTurn) (steps : List Passed) (rest : List Sent) : Type 0 where
  pub wants : Wants
  pub taken : List Passed
  pub steps_are : steps ≡ Asked wants ∷ Gave turn.event ∷ taken
  pub delivered : Delivered (to_go waiting turn) taken rest
  pub offered : OnFalse (is_stop turn.event.what) (Prompt [] (to_go waiting turn) taken rest)
  pub stopped : OnTrue (is_stop turn.event.what) ((turn.sent ≡ []) × (taken ≡ []) × (rest ≡ waiting))

-- What the turns send is delivered in what passed, each turn's after its event, from what waited first to what waits in the end.
abbrev pub Delivers : List Sent → List OneTurn → List Passed → List Sent → Type 0
Delivers waiting [] steps rest = (steps ≡ []) × (rest ≡ waiting)
Delivers waiting (turn ∷ turns) steps rest =
    (now later : List Passed) × (kept : List Sent) × (steps ≡ now ++ later) × HandsOver waiting turn now kept × Delivers kept turns later rest

-- all that the turns send
abbrev pub all_sent : List OneTurn → List Sent
all_sent [] = []
all_sent (turn ∷ turns) = turn.sent ++ all_sent turns

-- no event of the turns ends the place
abbrev pub StaysOpen : Destination → List OneTurn → Type 0
StaysOpen place [] = Unit {0}
StaysOpen place (turn ∷ turns) = (ended_by turn.event.what ≡ Some place → ⊥) × StaysOpen place turns

-- their events
abbrev pub events_of : List OneTurn → List Event
events_of [] = []
events_of (turn ∷ turns) = turn.event ∷ events_of turns
