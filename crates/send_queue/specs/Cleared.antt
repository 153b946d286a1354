-- What an event drops of what waits.
use Rattle.std.specs.Prelude.{List, Option, None, Some, filter, not}
use Rattle.gate_io.specs.declared.event.Sent.{Sent}
use Rattle.gate_io.specs.declared.event.Side.TheVariants.{Up}
use Rattle.gate_io.specs.declared.event.What.{What}
use Rattle.gate_io.specs.declared.event.What.TheVariants.{Opened, Bytes, End, Gone, Joined, Refused, Room, Clock, Stop}
use Rattle.send_queue.specs.Places.{is_same_place, place_of}
use Rattle.send_queue.specs.declared.place.Destination.{Destination}
use Rattle.send_queue.specs.declared.place.Destination.TheVariants.{Peer}

-- the place that takes nothing more once this happened: the connection is gone, or was refused
abbrev pub ended_by : What → Option Destination
ended_by (Opened line) = None
ended_by (Bytes line side bytes) = None
ended_by (End line side) = None
ended_by (Gone line side) = Some (Peer line side)
ended_by (Joined line) = None
ended_by (Refused line) = Some (Peer line Up)
ended_by (Room line side) = None
ended_by Clock = None
ended_by Stop = None

-- the members for the other places, in order
abbrev pub without : Destination → List Sent → List Sent
without place waiting = filter (λ member. not (is_same_place (place_of member) place)) waiting

abbrev pub without_ended : Option Destination → List Sent → List Sent
without_ended None waiting = waiting
without_ended (Some place) waiting = without place waiting

-- what still waits once this happened
abbrev pub still_waiting : What → List Sent → List Sent
still_waiting what waiting = without_ended (ended_by what) waiting
