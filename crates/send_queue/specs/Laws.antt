-- Laws of what waits and of what is delivered.
use Rattle.std.specs.Prelude.{◌≡◌, ◌↔◌, ℕ, List, [], ◌∷◌, ◌++◌, Some, Contains}
use Rattle.gate_io.specs.Passing.{happened, received, short_from}
use Rattle.gate_io.specs.declared.event.Sent.{Sent}
use Rattle.gate_io.specs.declared.event.Side.{Side}
use Rattle.gate_io.specs.declared.event.What.{What}
use Rattle.gate_io.specs.declared.passed.Passed.{Passed}
use Rattle.send_queue.specs.Cleared.{still_waiting, ended_by}
use Rattle.send_queue.specs.Delivery.{WasShort, NeverShort, Prompt, solid, AreFilled}
use Rattle.send_queue.specs.Joined.{join_neighbours, behind, IsJoined}
use Rattle.send_queue.specs.Places.{place_of, marks_at}
use Rattle.send_queue.specs.Sorted.{rank, IsSortedFrom}
use Rattle.send_queue.specs.declared.place.Destination.{Destination}
use Rattle.send_queue.specs.declared.place.Destination.TheVariants.{Peer, Journal}
use Rattle.send_queue.specs.Turns.{OneTurn, HandsOver, Delivers, StaysOpen, all_sent, events_of}

-- An event drops all that waits at the place that it ends, and nothing that waits at another.
pub record ClearsOnePlace : Type 0 where
  pub dropped : (what : What) (place : Destination) (waiting : List Sent) → ended_by what ≡ Some place → marks_at place (still_waiting what waiting) ≡ []
  pub kept : (what : What) (place : Destination) (waiting : List Sent) → (ended_by what ≡ Some place → ⊥) → marks_at place (still_waiting what waiting) ≡ marks_at place waiting

-- Joining changes nothing of what each place gets, leaves no two neighbours of one line and side, and does nothing to what is
-- joined. It may be done member by member, or first with a front of the list.
pub record JoinsNeighbours : Type 0 where
  pub marks : (place : Destination) (sent : List Sent) → marks_at place (join_neighbours sent) ≡ marks_at place sent
  pub apart : (sent : List Sent) → IsJoined (join_neighbours sent)
  pub same : (sent : List Sent) → IsJoined sent → join_neighbours sent ≡ sent
  pub once : (sent : List Sent) → join_neighbours (join_neighbours sent) ≡ join_neighbours sent
  pub more : (sent : List Sent) (member : Sent) → join_neighbours (sent ++ member ∷ []) ≡ behind (join_neighbours sent) member
  pub in_parts : (first then_these : List Sent) → join_neighbours (join_neighbours first ++ then_these) ≡ join_neighbours (first ++ then_these)

-- An empty piece is nothing at any place. A list without them is as it is, and so is the list with its neighbours joined.
pub record EmptyPiecesAreNothing : Type 0 where
  pub marks : (place : Destination) (sent : List Sent) → marks_at place (solid sent) ≡ marks_at place sent
  pub same : (sent : List Sent) → AreFilled sent → solid sent ≡ sent
  pub joined : (sent : List Sent) → AreFilled sent → AreFilled (join_neighbours sent)

-- No two places have one rank. Where a list is sorted from the rank of a place on, and begins with a member of another one, nothing
-- in it is for that place.
pub record RanksKeepApart : Type 0 where
  pub apart : (a b : Destination) → rank a ≡ rank b → a ≡ b
  pub together : (place : Destination) (next : Sent) (rest : List Sent) → IsSortedFrom (rank place) (next ∷ rest) → (place_of next ≡ place → ⊥) → marks_at place (next ∷ rest) ≡ []

-- The log takes each line as it is offered: nothing of it waits where nothing was held back.
abbrev pub LogNeverWaits : Type 0
LogNeverWaits = (waited before : List Sent) (steps : List Passed) (after : List Sent) → Prompt waited before steps after → marks_at Journal waited ≡ [] → marks_at Journal after ≡ []

-- Within a turn, a `send` to a side of a line fell short exactly where the shortfalls have this line and side, with the number
-- of events that had been given by then.
abbrev pub ShortIsNoted : Type 0
ShortIsNoted = (n line : ℕ) (side : Side) (steps : List Passed) → happened steps ≡ [] → WasShort (Peer line side) steps ↔ Contains (short_from n steps) (record { line = line; side = side; given = n })

-- What turns deliver adds up.
pub record AddsUp : Type 0 where
  -- no turn
  pub none : (waiting : List Sent) → Delivers waiting [] [] waiting
  -- one turn more
  pub more : (waiting : List Sent) (turns : List OneTurn) (steps : List Passed) (kept : List Sent) (turn : OneTurn) (now : List Passed) (rest : List Sent)
      → Delivers waiting turns steps kept → HandsOver kept turn now rest → Delivers waiting (turns ++ turn ∷ []) (steps ++ now) rest
  -- the events that were given are those of the turns
  pub events : (waiting : List Sent) (turns : List OneTurn) (steps : List Passed) (rest : List Sent) → Delivers waiting turns steps rest → happened steps ≡ events_of turns
  -- At a place that no event ends, what was received and what waits is what waited first and all that the turns sent.
  pub all : (place : Destination) (waiting : List Sent) (turns : List OneTurn) (steps : List Passed) (rest : List Sent) → Delivers waiting turns steps rest → StaysOpen place turns
      → marks_at place (received steps) ++ marks_at place rest ≡ marks_at place waiting ++ marks_at place (all_sent turns)
  -- Where nothing waited and no `send` fell short, nothing waits.
  pub nothing_waits : (place : Destination) (waiting : List Sent) (turns : List OneTurn) (steps : List Passed) (rest : List Sent) → Delivers waiting turns steps rest
      → marks_at place waiting ≡ [] → (WasShort place steps → ⊥) → marks_at place rest ≡ []
  -- Where no `send` at all fell short, what was received is what the turns sent, member by member and in order.
  pub in_order : (turns : List OneTurn) (steps : List Passed) (rest : List Sent) → Delivers [] turns steps rest → NeverShort steps
      → (received steps ≡ solid (all_sent turns)) × (rest ≡ [])
