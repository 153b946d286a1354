-- Members in the order of their places.
use Rattle.std.specs.Prelude.{◌≡◌, ◌≤◌, ℕ, ◌+◌, List, [], ◌∷◌, ◌++◌, length, take, drop}
use Rattle.gate_io.specs.declared.event.Sent.{Sent}
use Rattle.gate_io.specs.declared.event.Side.TheVariants.{Down, Up}
use Rattle.send_queue.specs.Delivery.{IsFilled}
use Rattle.send_queue.specs.Places.{place_of, marks_of, marks_at}
use Rattle.send_queue.specs.declared.place.Destination.{Destination}
use Rattle.send_queue.specs.declared.place.Destination.TheVariants.{Peer, Journal}

-- the number by which places are sorted: the log's, and then those of each line's client and server
abbrev pub rank : Destination → ℕ
rank (Peer line Down) = line + line + 1
rank (Peer line Up) = line + line + 2
rank Journal = 0

-- that of a member's place
abbrev pub rank_of : Sent → ℕ
rank_of member = rank (place_of member)

-- no piece is empty, the first member is of this rank or a higher one, and no other's is lower than that of the one before it
abbrev pub IsSortedFrom : ℕ → List Sent → Type 0
IsSortedFrom least [] = Unit {0}
IsSortedFrom least (member ∷ sent) = (least ≤ rank_of member) × IsFilled member × IsSortedFrom (rank_of member) sent

-- so are the members
abbrev pub IsSorted : List Sent → Type 0
IsSorted sent = IsSortedFrom 0 sent

-- no member is of a higher rank
abbrev pub AreUpTo : ℕ → List Sent → Type 0
AreUpTo most [] = Unit {0}
AreUpTo most (member ∷ sent) = (rank_of member ≤ most) × AreUpTo most sent

-- so many members are of this rank or a lower one, and the others of a higher one
pub record IsEndOf (most end : ℕ) (sent : List Sent) : Type 0 where
  pub within : end ≤ length sent
  pub up_to : AreUpTo most (take end sent)
  pub above : IsSortedFrom (most + 1) (drop end sent)

-- at each place the member stands after what waited
abbrev pub IsBehind : List Sent → Sent → List Sent → Type 0
IsBehind old member new = (place : Destination) → marks_at place new ≡ marks_at place old ++ marks_of place member
