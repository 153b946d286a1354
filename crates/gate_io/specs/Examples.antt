-- Worked examples: what passes between a world and its worker, the order of events, scripts, and calls of a world in
-- memory.
use Rattle.std.specs.Prelude.{◌≡◌, ℕ, List, [], ◌∷◌, length, true, Ok, Err, None, Some, codes}
use Rattle.gate_base.specs.declared.level.Level.TheVariants.{Info}
use Rattle.gate_io.specs.declared.ends.WorldEnd.{WorldEnd}
use Rattle.gate_io.specs.declared.ends.WorldEnd.TheVariants.{Failed, OutOfMemory}
use Rattle.gate_io.specs.declared.event.Event.{Event}
use Rattle.gate_io.specs.declared.event.Sent.TheVariants as sent
use Rattle.gate_io.specs.declared.event.Side.TheVariants.{Down, Up}
use Rattle.gate_io.specs.declared.event.What.{What}
use Rattle.gate_io.specs.declared.event.What.TheVariants.{Opened, Bytes, Room, Clock, Stop}
use Rattle.gate_io.specs.declared.passed.Passed.{Passed}
use Rattle.gate_io.specs.declared.passed.Passed.TheVariants.{Asked, Gave, Took, Short}
use Rattle.gate_io.specs.declared.passed.Wants.{Wants}
use Rattle.gate_io.specs.Events.{nothing_given, last_of, AreInOrder, Obeys}
use Rattle.gate_io.specs.MemoryWorld.{MemoryWorld, Answers, Offers, Takes, script_of, most_of}
use Rattle.gate_io.specs.Passing.{asking, sending, happened, received, asked, short}
use Rattle.gate_io.specs.Scripts.{first_of}

abbrev at : ℕ → What → Event
at now what = record { now = now; what = what }

-- bytes of line 1 are wanted from the client, and those of line 2 from the upstream server
abbrev wants : Wants
wants = record { down = 1 ∷ []; up = 2 ∷ []; due = None }

-- A client sends bytes. Of three bytes for the upstream server two are taken, and the third once there is room.
abbrev worked_trace : List Passed
worked_trace =
    Asked wants ∷ Gave (at 5 (Opened 1)) ∷ Asked wants ∷ Gave (at 6 (Bytes 1 Down (codes "abc"))) ∷ Took (sent.Connect 1)
    ∷ Took (sent.Bytes 1 Up (codes "ab")) ∷ Short 1 Up ∷ Took (sent.Log Info (codes "x")) ∷ Asked wants ∷ Gave (at 8 (Room 1 Up))
    ∷ Took (sent.Bytes 1 Up (codes "c")) ∷ Asked wants ∷ []

-- what each call adds, and what is read off
pub record PassingExamples : Type 0 where
  pub given : asking wants (Ok (at 8 Clock)) ≡ Asked wants ∷ Gave (at 8 Clock) ∷ []
  pub failed : asking wants (Err Failed) ≡ Asked wants ∷ []
  pub refused : asking wants (Err OutOfMemory) ≡ []
  pub whole : sending {E = WorldEnd} 1 Up (codes "ab") (Ok 2) ≡ Took (sent.Bytes 1 Up (codes "ab")) ∷ []
  pub part : sending {E = WorldEnd} 1 Up (codes "abc") (Ok 2) ≡ Took (sent.Bytes 1 Up (codes "ab")) ∷ Short 1 Up ∷ []
  pub none : sending {E = WorldEnd} 1 Up (codes "abc") (Ok 0) ≡ Short 1 Up ∷ []
  pub empty : sending {E = WorldEnd} 1 Up [] (Ok 0) ≡ []
  pub unsent : sending 1 Up (codes "abc") (Err OutOfMemory) ≡ []
  pub happened : happened worked_trace ≡ at 5 (Opened 1) ∷ at 6 (Bytes 1 Down (codes "abc")) ∷ at 8 (Room 1 Up) ∷ []
  pub received : received worked_trace ≡ sent.Connect 1 ∷ sent.Bytes 1 Up (codes "ab") ∷ sent.Log Info (codes "x") ∷ sent.Bytes 1 Up (codes "c") ∷ []
  pub asked : asked worked_trace ≡ wants ∷ wants ∷ wants ∷ wants ∷ []
  pub short : short worked_trace ≡ record { line = 1; side = Up; given = 2 } ∷ []

-- moments that stay or rise, Stop behind Stop, sizes of pieces, and what may not be
pub record OrderExamples : Type 0 where
  pub rising : AreInOrder nothing_given (at 5 (Opened 1) ∷ at 5 (Bytes 1 Down (codes "a")) ∷ at 7 Stop ∷ at 9 Stop ∷ [])
  pub falling : AreInOrder nothing_given (at 5 Clock ∷ at 4 Clock ∷ []) → ⊥
  pub behind_stop : AreInOrder nothing_given (at 5 Stop ∷ at 5 Clock ∷ []) → ⊥
  pub stop_earlier : AreInOrder nothing_given (at 5 Stop ∷ at 4 Stop ∷ []) → ⊥
  pub no_bytes : AreInOrder nothing_given (at 5 (Bytes 1 Down []) ∷ []) → ⊥
  pub most_bytes : (bytes : List ℕ) → length bytes ≡ 16384 → AreInOrder nothing_given (at 5 (Bytes 1 Down bytes) ∷ [])
  pub too_many_bytes : (bytes : List ℕ) → length bytes ≡ 16385 → AreInOrder nothing_given (at 5 (Bytes 1 Down bytes) ∷ []) → ⊥
  pub wanted : Obeys wants (Bytes 1 Down (codes "a"))
  pub unwanted : Obeys wants (Bytes 1 Up (codes "a")) → ⊥
  pub wanted_up : Obeys wants (Bytes 2 Up (codes "a"))
  pub unwanted_down : Obeys wants (Bytes 2 Down (codes "a")) → ⊥
  pub last : last_of nothing_given (at 5 Clock ∷ at 7 Stop ∷ []) ≡ record { now = 7; stopped = true }

-- a memory world's events, and Stop at the moment of the last one, or at 0
pub record ScriptExamples : Type 0 where
  pub first : script_of (at 5 Clock ∷ at 7 Clock ∷ []) 0 ≡ at 5 Clock
  pub behind : script_of (at 5 Clock ∷ at 7 Clock ∷ []) 1000 ≡ at 7 Stop
  pub none : script_of [] 3 ≡ at 0 Stop
  pub three : first_of (at 5 Clock ∷ []) 5 3 ≡ at 5 Clock ∷ at 5 Stop ∷ at 5 Stop ∷ []
  pub seven : most_of (Some 7) 10 ≡ 7
  pub fewer : most_of (Some 7) 3 ≡ 3
  pub all : most_of None 10 ≡ 10

-- A world that gives Clock at 5, and takes two bytes of a piece, and whose first and third call are to fail; and the same
-- before its second call.
abbrev world : MemoryWorld
world = record { seed = []; trace = []; left = at 5 Clock ∷ []; most = Some 2; fails = 1 ∷ 3 ∷ []; calls = 0; faults = 0; refused = []; sends = 0 }

abbrev second : MemoryWorld
second = record world { calls = 1 }

-- one of which no call is to fail, and whose second call of `send` is refused memory; and the same after a first one
abbrev refusing : MemoryWorld
refusing = record world { fails = []; refused = 2 ∷ [] }

abbrev sent_once : MemoryWorld
sent_once = record refusing { calls = 7; sends = 1 }

-- a call that is listed, and the next one
pub record CallExamples : Type 0 where
  pub next_fails : Answers world wants (Err Failed) (record world { trace = Asked wants ∷ []; calls = 1; faults = 1 })
  pub next_gives_nothing : (event : Event) (after : MemoryWorld) → Answers world wants (Ok event) after → ⊥
  pub next_gives : Answers second wants (Ok (at 5 Clock)) (record second { trace = Asked wants ∷ Gave (at 5 Clock) ∷ []; left = []; calls = 2 })
  pub next_fails_not : (after : MemoryWorld) → Answers second wants (Err Failed) after → ⊥
  pub send_fails : Offers world 1 Up (codes "abc") (Err OutOfMemory) (record world { calls = 1; sends = 1 })
  pub send_takes_nothing : (n : ℕ) (after : MemoryWorld) → Offers {E = WorldEnd} world 1 Up (codes "abc") (Ok n) after → ⊥
  pub send_takes_two :
      Offers {E = WorldEnd} second 1 Up (codes "abc") (Ok 2) (record second { trace = Took (sent.Bytes 1 Up (codes "ab")) ∷ Short 1 Up ∷ []; calls = 2; sends = 1 })
  pub send_takes_no_more : (after : MemoryWorld) → Offers {E = WorldEnd} second 1 Up (codes "abc") (Ok 3) after → ⊥
  pub connect_fails : Takes {T = Unit {0}} world (sent.Connect 1) (Err OutOfMemory) (record world { calls = 1 })
  pub connects : Takes {E = WorldEnd} second (sent.Connect 1) (Ok (tt {0})) (record second { trace = Took (sent.Connect 1) ∷ []; calls = 2 })
  pub first_send : Offers {E = WorldEnd} refusing 1 Up (codes "a") (Ok 1) (record refusing { trace = Took (sent.Bytes 1 Up (codes "a")) ∷ []; calls = 1; sends = 1 })
  pub second_send : Offers sent_once 1 Up (codes "a") (Err OutOfMemory) (record sent_once { calls = 8; sends = 2 })
  pub second_send_takes_nothing : (n : ℕ) (after : MemoryWorld) → Offers {E = WorldEnd} sent_once 1 Up (codes "a") (Ok n) after → ⊥
  pub other_calls_go_on : Takes {E = WorldEnd} sent_once (sent.Connect 1) (Ok (tt {0})) (record sent_once { trace = Took (sent.Connect 1) ∷ []; calls = 8 })
