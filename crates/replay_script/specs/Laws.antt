-- What the world of a script gives in all, and what it is told of what it takes.
use Rattle.std.specs.Prelude.{◌≡◌, false, List, [], ◌∷◌, ◌++◌}
use Rattle.gate_io.specs.declared.event.Event.{Event}
use Rattle.gate_io.specs.declared.event.What.TheVariants.{Stop}
use Rattle.gate_io.specs.declared.passed.Passed.{Passed}
use Rattle.gate_io.specs.declared.passed.Passed.TheVariants.{Asked, Gave}
use Rattle.gate_io.specs.declared.passed.Wants.{Wants}
use Rattle.gate_io.specs.Events.{is_stop}
use Rattle.gate_io.specs.Passing.{happened, received}
use Rattle.replay_script.specs.declared.command.Command.{Command}
use Rattle.replay_script.specs.Scripts.{events_of}
use Rattle.replay_script.specs.ScriptWorld.{Playing, fresh, nature, taken_since}

-- the last of the events is Stop, and no other is
abbrev pub StopsOnce : List Event → Type 0
StopsOnce [] = ⊥
StopsOnce (event ∷ []) = event.what ≡ Stop
StopsOnce (event ∷ (next ∷ events)) = (is_stop event.what ≡ false) × StopsOnce (next ∷ events)

pub record PlaysItsScript : Type 0 where
  -- the events of a script end with its one Stop
  pub ends : (commands : List Command) → StopsOnce (events_of commands)
  -- Whatever was asked of a world that was made of these events, and whatever it took: once it gave Stop, it gave them all,
  -- and no others.
  pub whole : (commands : List Command) (w : Playing) → nature w ≡ nature (fresh (events_of commands)) → StopsOnce (happened w.trace) → happened w.trace ≡ events_of commands
  -- In a turn an event is given, and then things are taken. What was taken since the event is what was taken in the turn, and
  -- these joined, turn by turn, are all that was taken.
  pub share : (trace steps : List Passed) (wants : Wants) (event : Event) → happened steps ≡ [] → taken_since (trace ++ Asked wants ∷ Gave event ∷ steps) ≡ received steps
  pub joined : (trace steps : List Passed) (wants : Wants) (event : Event) → received (trace ++ Asked wants ∷ Gave event ∷ steps) ≡ received trace ++ received steps
