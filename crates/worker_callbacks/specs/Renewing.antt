-- WHAT THE END OF A CALLBACK DOES goes by the contexts as the callback left them.
use Rattle.std.specs.Prelude.{◌≡◌, ℕ, List}
use Rattle.contexts.specs.declared.parts.Contexts.{Contexts}
use Rattle.filter_host.specs.declared.host.CallbackEnd.{CallbackEnd}
use Rattle.gate_io.specs.declared.event.Sent.{Sent}
use Rattle.streams_model.specs.Callbacks.{Takes}
use Rattle.worker_model.specs.Room.{Room}
use Rattle.worker_model.specs.Rooms.{with_contexts}
use Rattle.worker_model.specs.declared.types.Owner.{Owner}

-- the contexts that the worker had before the callback are of no account
abbrev pub Renews : Takes → Type 0
Renews takes = (vm : ℕ) (own : Owner) (end : CallbackEnd) (lines : List Sent) (h before : Contexts) (room : Room) → takes vm own end lines h (with_contexts before room) ≡ takes vm own end lines h room
