-- What a step of a callout makes of a room.
use Rattle.std.specs.Prelude.{◌≡◌, ℕ, Option, None, Some}
use Rattle.callouts.specs.declared.types.Callout.{Callout}
use Rattle.filter_host.specs.Heard.{Heard, Hears}
use Rattle.worker_model.specs.Calls.{take_call_heard, close_call}
use Rattle.worker_model.specs.Room.{Room}

-- The reader of the callout of an id was heard; where it is not under way, that changes nothing.
abbrev pub ReadsCall : ℕ → Option Callout → Room → Room → Type 0
ReadsCall id None old new = new ≡ old
ReadsCall id (Some c) old new = (h : Heard) × Hears c.reader h × (new ≡ take_call_heard id c h old)

-- the callout of an id is closed, if it is under way
abbrev pub close_if : ℕ → Option Callout → Room → Room
close_if id None room = room
close_if id (Some c) room = close_call id room
