-- Worked examples: of which line an event is, and so whose it is; and which callouts are due, and whose lines are read.
use Rattle.std.specs.Prelude.{◌≡◌, [], ◌∷◌, Some, codes}
use Rattle.callouts.specs.Callouts.{begun, line_of}
use Rattle.callouts.specs.Examples.{asks}
use Rattle.callouts.specs.declared.types.CallStep.TheVariants as steps
use Rattle.gate_io.specs.declared.event.Side.TheVariants.{Up}
use Rattle.gate_io.specs.declared.event.What.{What}
use Rattle.gate_io.specs.declared.event.What.TheVariants as whats
use Rattle.worker_model.specs.Room.{Room}
use Rattle.worker_model.specs.Turn.{happening, calls_due, at_moment}
use Rattle.worker_model.specs.Wants.{call_lines, with_call_dues}
use Rattle.worker_model.specs.declared.types.Job.TheVariants as jobs
use Rattle.worker_model.specs.declared.types.OtherStep.TheVariants as others

-- callout 1 is under way
abbrev pub calling : Room → Room
calling room = record room { calls = begun 1 0 asks ∷ [] }

abbrev pub answer : What
answer = whats.Bytes (line_of 1) Up (codes "HTTP/1.1 200 OK")

pub record EventExamples : Type 0 where
  -- the lines of clients are those below 2^31
  pub of_client : (room : Room) → happening (whats.Opened 2147483647) room ≡ jobs.Happen (whats.Opened 2147483647) ∷ []
  pub of_none : (room : Room) → happening (whats.Opened 2147483648) (record room { calls = [] }) ≡ []
  -- what comes on the line of a callout is of that alone, while it is under way
  pub of_callout : (room : Room) → happening answer (calling room) ≡ jobs.Other (others.Call (steps.Comes answer)) ∷ []
  pub of_another : (room : Room) → happening (whats.Refused (line_of 2)) (calling room) ≡ []
  -- an event of no line is none of theirs
  pub of_no_line : (room : Room) → happening whats.Clock (calling room) ≡ jobs.Happen whats.Clock ∷ []
  -- it is due at its moment, a second after it began, and has failed then
  pub is_due : (room : Room) → calls_due (at_moment 1000000000 (calling room)) ≡ jobs.Other (others.Call (steps.Fail 1)) ∷ []
  pub not_yet : (room : Room) → calls_due (at_moment 999999999 (calling room)) ≡ []
  -- more of its response is taken
  pub is_read : (room : Room) → call_lines (calling room).calls ≡ line_of 1 ∷ []
  -- and the worker wants to be called when it is due
  pub is_called : (room : Room) → with_call_dues (Some 2000000000) (calling room).calls ≡ Some 1000000000
