-- A callback that left nothing.
use Rattle.std.proofs.Common.{◌≡◌, List, [], ap, sym}
use Rattle.std.proofs.lemmas.List.{append-nil}
use Rattle.contexts.specs.declared.parts.Effect.{Effect}
use Rattle.gate_io.specs.declared.event.Sent.{Sent}
use Rattle.worker_model.specs.Room.{Room}
use Rattle.worker_model.specs.Rooms.{room_with_sent, without_effects}

-- where nothing is sent, all is as it was
pub nothing_sent : (room : Room) → room_with_sent [] room ≡ room
nothing_sent room = ap (λ (sent : List Sent). record room { hub = record room.hub { sent = sent } }) (append-nil room.hub.sent)

-- where there are no effects, nothing is taken out
pub no_effects : (room : Room) → room.hub.contexts.effects ≡ [] → without_effects room ≡ room
no_effects room none = ap (λ (effects : List Effect). record room { hub = record room.hub { contexts = record room.hub.contexts { effects = effects } } }) (sym none)
