-- Neighbours that are bytes of one line and side, as one member.
use Rattle.std.specs.Prelude.{◌≡◌, ◌==◌, ◌&&◌, Bool, false, List, [], ◌∷◌, ◌++◌, if◌then◌else◌}
use Rattle.gate_io.specs.declared.event.Sent.{Sent}
use Rattle.gate_io.specs.declared.event.Sent.TheVariants.{Bytes}
use Rattle.send_queue.specs.Places.{is_same_side}

-- both are bytes of one line and side
abbrev pub are_one : Sent → Sent → Bool
are_one (Bytes line side bytes) (Bytes l s more) = (line == l) && is_same_side side s
are_one first next = false

-- the bytes of the next after those of the first
abbrev pub as_one : Sent → Sent → Sent
as_one (Bytes line side bytes) (Bytes l s more) = Bytes line side (bytes ++ more)
as_one first next = first

-- a member after the last one
abbrev pub neighbours : Sent → Sent → List Sent
neighbours last member = if are_one last member then as_one last member ∷ [] else last ∷ member ∷ []

-- a member behind joined ones, of which this is the first
abbrev pub behind_all : Sent → List Sent → Sent → List Sent
behind_all first [] member = neighbours first member
behind_all first (next ∷ rest) member = first ∷ behind_all next rest member

-- a member behind joined ones
abbrev pub behind : List Sent → Sent → List Sent
behind [] member = member ∷ []
behind (first ∷ rest) member = behind_all first rest member

-- one member after another, behind joined ones
abbrev pub joined_behind : List Sent → List Sent → List Sent
joined_behind done [] = done
joined_behind done (member ∷ sent) = joined_behind (behind done member) sent

-- the list with such neighbours as one
abbrev pub join_neighbours : List Sent → List Sent
join_neighbours sent = joined_behind [] sent

-- each is apart from the one before it, this one first
abbrev pub FollowApart : Sent → List Sent → Type 0
FollowApart first [] = Unit {0}
FollowApart first (next ∷ rest) = (are_one first next ≡ false) × FollowApart next rest

-- no two neighbours are bytes of one line and side
abbrev pub IsJoined : List Sent → Type 0
IsJoined [] = Unit {0}
IsJoined (first ∷ rest) = FollowApart first rest
