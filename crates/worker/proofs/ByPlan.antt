-- What a worker does until everything is at rest, by the list of plug-ins of streams.
use Rattle.std.proofs.Common.{◌≡◌, ℕ, List, [], ◌∷◌, refl, ap, sym}
use Rattle.filter_host.specs.Called.{Calling}
use Rattle.gate_io.specs.declared.event.Sent.{Sent}
use Rattle.worker.specs.Filled.{filled}
use Rattle.worker_model.specs.Plan.{Plan}
use Rattle.worker_model.specs.Room.{Room}
use Rattle.worker_model.specs.Rooms as http
use Rattle.worker_model.specs.Settling.{settling}
use Rattle.streams_model.specs.Rooms.{next_of}
use Rattle.streams_model.specs.Turn.{settles, settles_among, next_among}

-- where it is empty
pub settles_http : {H : Type 0} (calling : Calling H) (plan : Plan) (ts : List ℕ) (most : ℕ) (host : H) (room : Room) → ts ≡ []
    → settling calling plan most host room ≡ settles_among calling plan ts most host room
settles_http calling plan ts most host room none = sym (ap (λ (x : List ℕ). settles_among calling plan x most host room) none)

pub next_http : (ts : List ℕ) (room : Room) → ts ≡ [] → next_among ts room ≡ http.next_of room
next_http ts room none = ap (λ (x : List ℕ). next_among x room) none

-- where it is not
pub settles_streams : {H : Type 0} (calling : Calling H) (plan : Plan) (ts : List ℕ) (most : ℕ) (host : H) (room : Room) → (ts ≡ [] → ⊥)
    → settles calling plan most host room ≡ settles_among calling plan ts most host room
settles_streams calling plan [] most host room some = absurd (some refl)
settles_streams calling plan (p ∷ ps) most host room some = refl

pub next_streams : (ts : List ℕ) (room : Room) → (ts ≡ [] → ⊥) → next_among ts room ≡ next_of room
next_streams [] room some = absurd (some refl)
next_streams (p ∷ ps) room some = refl

-- what is sent changes nothing of what is next
pub next_filled : (ts : List ℕ) (sent : List Sent) (room : Room) → next_among ts (filled sent room) ≡ next_among ts room
next_filled [] sent room = refl
next_filled (p ∷ ps) sent room = refl
