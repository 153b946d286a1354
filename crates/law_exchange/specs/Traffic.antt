-- What goes up on a line, among all that is sent.
use Rattle.std.specs.Prelude.{◌≡◌, ℕ, ◌==◌, List, [], ◌∷◌, ◌++◌, map, if◌then◌else◌}
use Rattle.std.specs.List.{flat_map}
use Rattle.gate_io.specs.declared.event.Sent.{Sent}
use Rattle.gate_io.specs.declared.event.Sent.TheVariants as to
use Rattle.gate_io.specs.declared.event.Side.{Side}
use Rattle.gate_io.specs.declared.event.Side.TheVariants.{Down, Up}
use Rattle.h1_model.specs.Framing.{Framing, OutItem, item_wire}
use Rattle.h1_model.specs.Framing as out

-- a connection up is opened, a byte goes up over it, or it is closed
pub data Traffic : Type 0 where
  opens : Traffic
  byte : ℕ → Traffic
  closes : Traffic

abbrev pub where_line : ℕ → ℕ → List Traffic → List Traffic
where_line n m traffic = if n == m then traffic else []

abbrev pub side_traffic : ℕ → ℕ → Side → List Traffic → List Traffic
side_traffic n m Down traffic = []
side_traffic n m Up traffic = where_line n m traffic

-- of one thing sent, and of all
abbrev pub up_of : ℕ → Sent → List Traffic
up_of n (to.Connect m) = where_line n m (opens ∷ [])
up_of n (to.Bytes m side bytes) = side_traffic n m side (map byte bytes)
up_of n (to.Close m side) = side_traffic n m side (closes ∷ [])
up_of n (to.Log level text) = []

abbrev pub up_traffic : ℕ → List Sent → List Traffic
up_traffic n sent = flat_map (up_of n) sent

-- the traffic that an item of a request is: with its head a connection is opened
abbrev pub item_traffic : Framing → OutItem → List Traffic
item_traffic framing (out.head h) = opens ∷ map byte (item_wire framing (out.head h))
item_traffic framing (out.interim h) = map byte (item_wire framing (out.interim h))
item_traffic framing (out.piece bytes last) = map byte (item_wire framing (out.piece bytes last))
item_traffic framing (out.trailers fields) = map byte (item_wire framing (out.trailers fields))

abbrev pub traffic : Framing → List OutItem → List Traffic
traffic framing items = flat_map (item_traffic framing) items

-- one list is a front of another
abbrev pub IsFront : {A : Type 0} → List A → List A → Type 0
IsFront front whole = (behind : List _) × (front ++ behind ≡ whole)
