-- WHAT IS READ, as a direction sees that.
use Rattle.std.specs.Prelude.{◌≡◌, ℕ, Bool, false, List, Some}
use Rattle.filter_host.specs.Called.{Calling}
use Rattle.filter_host.specs.Course.{ends, Met, Reaches}
use Rattle.filter_host.specs.Heard.{Heard, hands, halts, Hears}
use Rattle.exchange.specs.declared.types.Exchange.{Exchange}
use Rattle.h1_model.specs.Unread.{Part, head_part, interim_part, piece, trailer_part, Reading}
use Rattle.worker_model.specs.Room.{Room}
use Rattle.worker_model.specs.declared.types.Next.TheVariants as next
use Rattle.worker_model.specs.declared.types.ReadBatch.{ReadBatch}
use Rattle.worker_model.specs.Plan.{Plan}
use Rattle.worker_model.specs.Rooms.{place_in}
use Rattle.worker_model.specs.Steps.{Both, reading_on, step}
use Rattle.law_flow.specs.Besides.{IsWhole}
use Rattle.law_flow.specs.Rooms.{IsOn, Leaves}

-- no exchange begins by this part on the line at the place
abbrev pub BeginsNone : ReadBatch → ℕ → Room → Part → Type 0
BeginsNone r place room (head_part h) = r.up ≡ false → place_in r.line room.lines ≡ Some place → ⊥
BeginsNone r place room (interim_part h) = Unit {0}
BeginsNone r place room (piece bytes last) = Unit {0}
BeginsNone r place room (trailer_part fields) = Unit {0}

abbrev pub HearsNone : ReadBatch → ℕ → Room → Heard → Type 0
HearsNone r place room (hands part new) = BeginsNone r place room part
HearsNone r place room (halts why new) = Unit {0}

-- A READING STEP leaves a direction as it was, where no exchange begins by it on the line.
abbrev pub ReadingLeaves : Type 0 → Type 0
ReadingLeaves H = (calling : Calling H) (plan : Plan) (response : Bool) (n : ℕ) (x : Exchange) (room : Room) (on : IsOn n room x) (host : H) (ms : List Met) (b : Both H) → IsWhole response x room
    → ((r : ReadBatch) (reading : Reading) (h : Heard) → room.reading ≡ Some r → reading_on r room ≡ Some reading → Hears reading h → HearsNone r on.place room h)
    → Reaches (step calling plan next.Read host room) ms (ends b) → (y : Exchange) × Leaves response n x room y b.room
