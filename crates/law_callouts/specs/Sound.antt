-- CALLOUTS UNDER WAY ARE SOUND: their ids rise, none is above the one that was drawn last, and they are counted. Each step of a callout leaves
-- them so. A new one has an id that none had, and after its end none has it.
use Rattle.std.specs.Prelude.{◌≡◌, ◌<◌, ◌≤◌, ℕ, List, [], ◌∷◌, length, None, Some}
use Rattle.callouts.specs.Callouts.{begun, callout_in}
use Rattle.callouts.specs.declared.types.Callout.{Callout}
use Rattle.contexts.specs.declared.parts.Request.{Request}
use Rattle.filter_host.specs.Heard.{Heard}
use Rattle.gate_config.specs.declared.config.Config.{Config}
use Rattle.gate_io.specs.declared.event.What.{What}
use Rattle.worker_model.specs.Calls.{take_call_event, take_call_heard, close_call}
use Rattle.worker_model.specs.Making.{first_room}
use Rattle.worker_model.specs.Room.{Room}
use Rattle.worker_model.specs.Rooms.{next_call, begin_call}

-- each id is above the one before it, and the first is above this
abbrev pub AreRising : ℕ → List Callout → Type 0
AreRising low [] = Unit {0}
AreRising low (c ∷ calls) = (low < c.id) × AreRising c.id calls

-- no id is above this
abbrev pub AreUpTo : ℕ → List Callout → Type 0
AreUpTo last [] = Unit {0}
AreUpTo last (c ∷ calls) = (c.id ≤ last) × AreUpTo last calls

-- the callouts of a room: their ids rise up to the one that was drawn last, and host calls see how many there are
pub record AreSound (room : Room) : Type 0 where
  pub rising : AreRising 0 room.calls
  pub drawn : AreUpTo room.hub.contexts.calls.last room.calls
  pub counted : room.hub.contexts.calls.under_way ≡ length room.calls

-- CALLOUTS STAY SOUND, from a new worker on, by each step of a callout
pub record CalloutsStaySound : Type 0 where
  -- of a worker that has done nothing
  pub first : (config : Config) (seed : List ℕ) → AreSound (first_room config seed)
  -- one begins
  pub begins : (q : Request) (room : Room) → AreSound room → AreSound (begin_call q room)
  -- something comes of a line
  pub comes : (what : What) (room : Room) → AreSound room → AreSound (take_call_event what room)
  -- the reader of one is heard
  pub hears : (id : ℕ) (c : Callout) (h : Heard) (room : Room) → callout_in id room.calls ≡ Some c → AreSound room → AreSound (take_call_heard id c h room)
  -- one ends
  pub ends : (id : ℕ) (room : Room) → AreSound room → AreSound (close_call id room)
  -- no callout has the next id; the one that begins has it
  pub is_new : (room : Room) → AreSound room → callout_in (next_call room) room.calls ≡ None
  pub is_there : (q : Request) (room : Room) → AreSound room → callout_in (next_call room) (begin_call q room).calls ≡ Some (begun (next_call room) room.hub.moment q)
  -- after its end none has its id
  pub is_gone : (id : ℕ) (room : Room) → AreSound room → callout_in id (close_call id room).calls ≡ None
