-- WHAT HAPPENS ON LINES: lines come and go, texts grow, other exchanges begin and are refused. That leaves a direction as it was.
use Rattle.std.specs.Prelude.{◌≡◌, ℕ, Bool, true, List, Some}
use Rattle.exchange.specs.declared.types.Exchange.{Exchange}
use Rattle.exchange.specs.declared.types.Hub.{Hub}
use Rattle.exchange.specs.Passing.{chain_of, expire_exchange}
use Rattle.gate_io.specs.declared.event.Side.TheVariants.{Down, Up}
use Rattle.gate_io.specs.declared.event.What.{What}
use Rattle.gate_io.specs.declared.event.What.TheVariants as whats
use Rattle.worker_model.specs.Room.{Room}
use Rattle.worker_model.specs.Rooms.{place_in, on_number}
use Rattle.worker_model.specs.Steps.{enter_stages, line_in, is_missed, exchange_on, take_event, end_line, refuse_line, expire_all}
use Rattle.law_flow.specs.Besides.{OthersAreAlien, IsWhole}
use Rattle.law_flow.specs.Rooms.{IsOn, Leaves}

-- no server is lost whose response the exchange waits for
abbrev pub LosesNone : What → ℕ → ℕ → Room → Type 0
LosesNone (whats.Opened number) n place room = Unit {0}
LosesNone (whats.Bytes number side bytes) n place room = Unit {0}
LosesNone (whats.End number side) n place room = Unit {0}
LosesNone (whats.Gone number Down) n place room = Unit {0}
LosesNone (whats.Gone number Up) n place room = is_missed (exchange_on number room) ≡ true → place_in number room.lines ≡ Some place → ⊥
LosesNone (whats.Joined number) n place room = Unit {0}
LosesNone (whats.Refused number) n place room = is_missed (exchange_on number room) ≡ true → place_in number room.lines ≡ Some place → ⊥
LosesNone (whats.Room number side) n place room = Unit {0}
LosesNone whats.Clock n place room = Unit {0}
LosesNone whats.Stop n place room = Unit {0}

pub record EventsLeave : Type 0 where
  -- the event itself. (Where the client of the line is gone, the exchange has ended; its chains are as they were.)
  pub happening : (w : What) (response : Bool) (n : ℕ) (x : Exchange) (room : Room) (on : IsOn n room x) → OthersAreAlien (chain_of response x) on.place room → IsWhole response x room
      → LosesNone w n on.place room → (y : Exchange) × Leaves response n x room y (take_event w room)
  -- another line is read on, closed or dropped
  pub closing : (number : ℕ) (stays : Bool) (response : Bool) (n : ℕ) (x : Exchange) (room : Room) → IsOn n room x → IsWhole response x room → (number ≡ n → ⊥)
      → Leaves response n x room x (end_line (line_in number room.lines) number stays room)
  -- what was read of another line is refused
  pub refusing : (number status : ℕ) (response : Bool) (n : ℕ) (x : Exchange) (room : Room) (on : IsOn n room x) → OthersAreAlien (chain_of response x) on.place room
      → IsWhole response x room → (number ≡ n → ⊥) → Leaves response n x room x (refuse_line (line_in number room.lines) number status room)
  -- the stages of another exchange are made
  pub entering_other : (dead : List ℕ) (m : ℕ) (response : Bool) (n : ℕ) (x : Exchange) (room : Room) (on : IsOn n room x) → IsWhole response x room
      → (place_in m room.lines ≡ Some on.place → ⊥) → Leaves response n x room x (on_number (enter_stages dead) m room)
  -- responses are answered for that are due, and at this moment this one is not
  pub expiring : (response : Bool) (n : ℕ) (x : Exchange) (room : Room) (on : IsOn n room x) → OthersAreAlien (chain_of response x) on.place room → IsWhole response x room
      → ((hub : Hub) → hub.moment ≡ room.hub.moment → expire_exchange n x hub ≡ (x, hub)) → Leaves response n x room x (expire_all room)
