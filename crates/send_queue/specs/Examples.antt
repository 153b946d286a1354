-- Worked examples: what lists put at places, what an event drops, what is joined, and what is delivered.
use Rattle.std.specs.Prelude.{◌≡◌, ℕ, List, [], ◌∷◌, length, codes, None}
use Rattle.gate_base.specs.declared.level.Level.TheVariants.{Info}
use Rattle.gate_io.specs.declared.event.Event.{Event}
use Rattle.gate_io.specs.declared.event.Sent.{Sent}
use Rattle.gate_io.specs.declared.event.Sent.TheVariants.{Connect, Bytes, Close, Log}
use Rattle.gate_io.specs.declared.event.Side.TheVariants.{Down, Up}
use Rattle.gate_io.specs.declared.event.What.{What}
use Rattle.gate_io.specs.declared.event.What.TheVariants as what
use Rattle.gate_io.specs.declared.passed.Passed.{Passed}
use Rattle.gate_io.specs.declared.passed.Passed.TheVariants.{Asked, Gave, Took, Short}
use Rattle.gate_io.specs.declared.passed.Wants.{Wants}
use Rattle.send_queue.specs.Cleared.{still_waiting}
use Rattle.send_queue.specs.Delivery.{Delivered, Prompt}
use Rattle.send_queue.specs.Joined.{join_neighbours}
use Rattle.send_queue.specs.Places.{opening, octet, closing, logged, marks_at, IsFull}
use Rattle.send_queue.specs.declared.place.Destination.TheVariants.{Peer, Journal}
use Rattle.send_queue.specs.Turns.{OneTurn, Delivers}

-- a request goes up on line 1, and a response down on lines 1 and 2
abbrev both_sides : List Sent
both_sides =
    Connect 1 ∷ Bytes 1 Up (codes "ab") ∷ Log Info (codes "x") ∷ Bytes 1 Down (codes "c") ∷ Close 1 Down ∷ Bytes 1 Up (codes "d") ∷ Close 1 Up
    ∷ Bytes 2 Down (codes "e") ∷ []

pub record PlaceExamples : Type 0 where
  pub up : marks_at (Peer 1 Up) both_sides ≡ opening ∷ octet 97 ∷ octet 98 ∷ octet 100 ∷ closing ∷ []
  pub down : marks_at (Peer 1 Down) both_sides ≡ octet 99 ∷ closing ∷ []
  pub other_line : marks_at (Peer 2 Down) both_sides ≡ octet 101 ∷ []
  pub no_line : marks_at (Peer 3 Up) both_sides ≡ []
  pub log : marks_at Journal both_sides ≡ logged Info (codes "x") ∷ []
  pub full : (bytes : List ℕ) → length bytes ≡ 65535 → IsFull 1 Up (Bytes 1 Up bytes ∷ Bytes 1 Down (codes "a") ∷ Bytes 1 Up (codes "b") ∷ [])
  pub not_full : (bytes : List ℕ) → length bytes ≡ 65535 → IsFull 1 Up (Bytes 1 Up bytes ∷ Bytes 1 Down (codes "a") ∷ Close 1 Up ∷ []) → ⊥

-- a side that is gone leaves the other side
pub record ClearedExamples : Type 0 where
  pub down :
      still_waiting (what.Gone 1 Down) both_sides
      ≡ Connect 1 ∷ Bytes 1 Up (codes "ab") ∷ Log Info (codes "x") ∷ Bytes 1 Up (codes "d") ∷ Close 1 Up ∷ Bytes 2 Down (codes "e") ∷ []
  pub up : still_waiting (what.Gone 1 Up) both_sides ≡ Log Info (codes "x") ∷ Bytes 1 Down (codes "c") ∷ Close 1 Down ∷ Bytes 2 Down (codes "e") ∷ []
  pub refused : still_waiting (what.Refused 1) both_sides ≡ Log Info (codes "x") ∷ Bytes 1 Down (codes "c") ∷ Close 1 Down ∷ Bytes 2 Down (codes "e") ∷ []
  pub ended : still_waiting (what.End 1 Down) both_sides ≡ both_sides
  pub stopped : still_waiting what.Stop both_sides ≡ both_sides

pub record JoinedExamples : Type 0 where
  pub three : join_neighbours (Bytes 1 Up (codes "a") ∷ Bytes 1 Up (codes "b") ∷ Bytes 1 Up (codes "c") ∷ []) ≡ Bytes 1 Up (codes "abc") ∷ []
  pub other_side : join_neighbours (Bytes 1 Up (codes "a") ∷ Bytes 1 Down (codes "b") ∷ []) ≡ Bytes 1 Up (codes "a") ∷ Bytes 1 Down (codes "b") ∷ []
  pub other_line : join_neighbours (Bytes 1 Up (codes "a") ∷ Bytes 2 Up (codes "b") ∷ []) ≡ Bytes 1 Up (codes "a") ∷ Bytes 2 Up (codes "b") ∷ []
  pub apart :
      join_neighbours (Bytes 1 Up (codes "a") ∷ Log Info (codes "x") ∷ Bytes 1 Up (codes "b") ∷ [])
      ≡ Bytes 1 Up (codes "a") ∷ Log Info (codes "x") ∷ Bytes 1 Up (codes "b") ∷ []

-- two bytes and a close
abbrev pub piece : List Sent
piece = Bytes 1 Up (codes "ab") ∷ Close 1 Up ∷ []

-- The world takes a byte, is offered the other one again in the same turn, and takes that too.
abbrev pub again : List Passed
again = Took (Bytes 1 Up (codes "a")) ∷ Short 1 Up ∷ Took (Bytes 1 Up (codes "b")) ∷ []

-- Bytes of which the world takes some, and what may not be: nothing offered, a close before the bytes, the taken bytes in
-- place of the rest, a line of the log that waits, an offer after a shortfall, a shortfall after which nothing waits.
pub record DeliveryExamples : Type 0 where
  pub part : Delivered piece (Took (Bytes 1 Up (codes "a")) ∷ Short 1 Up ∷ []) (Bytes 1 Up (codes "b") ∷ Close 1 Up ∷ [])
  pub part_prompt : Prompt [] piece (Took (Bytes 1 Up (codes "a")) ∷ Short 1 Up ∷ []) (Bytes 1 Up (codes "b") ∷ Close 1 Up ∷ [])
  pub held_back : Prompt [] piece [] piece → ⊥
  pub overtaken : Delivered piece (Took (Close 1 Up) ∷ []) (Bytes 1 Up (codes "ab") ∷ []) → ⊥
  pub wrong_rest : Delivered piece (Took (Bytes 1 Up (codes "a")) ∷ Short 1 Up ∷ []) (Bytes 1 Up (codes "a") ∷ Close 1 Up ∷ []) → ⊥
  pub again_prompt : Prompt [] piece again (Close 1 Up ∷ [])
  pub offered_again : Delivered piece again (Close 1 Up ∷ []) → ⊥
  pub nothing_waits : Delivered (Bytes 1 Up (codes "a") ∷ []) (Took (Bytes 1 Up (codes "a")) ∷ Short 1 Up ∷ []) [] → ⊥
  pub other_side :
      Delivered (Bytes 1 Up (codes "ab") ∷ Bytes 1 Down (codes "c") ∷ []) (Took (Bytes 1 Up (codes "a")) ∷ Short 1 Up ∷ Took (Bytes 1 Down (codes "c")) ∷ []) (Bytes 1 Up (codes "b") ∷ [])
  pub log_waits : Prompt [] (Log Info (codes "x") ∷ []) [] (Log Info (codes "x") ∷ []) → ⊥

-- what happens at a moment
abbrev pub at : ℕ → What → Event
at now happens = record { now = now; what = happens }

-- no bytes are wanted
abbrev pub nothing_wanted : Wants
nothing_wanted = record { down = []; up = []; due = None }

-- a turn that sends two bytes, of which one is taken; a turn with room; and one whose event ends the side
abbrev three_turns : List OneTurn
three_turns =
    record { event = at 5 (what.Opened 1); sent = Bytes 1 Up (codes "ab") ∷ [] } ∷ record { event = at 6 (what.Room 1 Up); sent = Close 1 Up ∷ [] }
    ∷ record { event = at 7 (what.Gone 1 Up); sent = [] } ∷ []

abbrev three_steps : List Passed
three_steps =
    Asked nothing_wanted ∷ Gave (at 5 (what.Opened 1)) ∷ Took (Bytes 1 Up (codes "a")) ∷ Short 1 Up ∷ Asked nothing_wanted ∷ Gave (at 6 (what.Room 1 Up)) ∷ Short 1 Up
    ∷ Asked nothing_wanted ∷ Gave (at 7 (what.Gone 1 Up)) ∷ []

pub record TurnExamples : Type 0 where
  pub three : Delivers [] three_turns three_steps []
  pub stop : Delivers piece (record { event = at 5 what.Stop; sent = [] } ∷ []) (Asked nothing_wanted ∷ Gave (at 5 what.Stop) ∷ []) piece
