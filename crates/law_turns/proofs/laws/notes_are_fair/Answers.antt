use Rattle.law_turns.proofs.Noted.{notes_are_fair, notes_are_fair_down}
use Rattle.law_turns.proofs.laws.notes_are_fair.Goals as goal

pub returns : goal.returns
returns c = record { up = notes_are_fair; down = notes_are_fair_down }
