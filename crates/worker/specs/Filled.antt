-- What is sent in a turn, as the code hands it over.
use Rattle.std.specs.Prelude.{ℕ, List}
use Rattle.gate_io.specs.declared.event.Event.{Event}
use Rattle.gate_io.specs.declared.event.Sent.{Sent}
use Rattle.gate_io.specs.declared.event.What.{What}
use Rattle.worker_model.specs.Room.{Room}

-- a room in which this is sent
abbrev pub filled : List Sent → Room → Room
filled sent room = record room { hub = record room.hub { sent = sent } }

abbrev pub event_of : ℕ → What → Event
event_of now what = record { now = now; what = what }
