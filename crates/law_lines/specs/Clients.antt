-- What goes down on a line, among all that is sent.
use Rattle.std.specs.Prelude.{ℕ, List, [], ◌∷◌, map}
use Rattle.std.specs.List.{flat_map}
use Rattle.law_exchange.specs.Traffic.{Traffic, byte, closes, where_line}
use Rattle.gate_io.specs.declared.event.Sent.{Sent}
use Rattle.gate_io.specs.declared.event.Sent.TheVariants as to
use Rattle.gate_io.specs.declared.event.Side.{Side}
use Rattle.gate_io.specs.declared.event.Side.TheVariants.{Down, Up}

abbrev pub side_client : ℕ → ℕ → Side → List Traffic → List Traffic
side_client n m Down traffic = where_line n m traffic
side_client n m Up traffic = []

-- bytes for the client of a line, and the close of its connection
abbrev pub client_of : ℕ → Sent → List Traffic
client_of n (to.Connect m) = []
client_of n (to.Bytes m side bytes) = side_client n m side (map byte bytes)
client_of n (to.Close m side) = side_client n m side (closes ∷ [])
client_of n (to.Log level text) = []

abbrev pub client_traffic : ℕ → List Sent → List Traffic
client_traffic n sent = flat_map (client_of n) sent
