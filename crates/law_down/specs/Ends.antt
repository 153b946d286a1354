-- EACH CONNECTION THAT IS OPENED IS CLOSED, over all turns of a worker whose lines are HTTP.
use Rattle.std.specs.List.{list_any}
use Rattle.std.specs.Prelude.{◌≡◌, ◌⊎◌, ℕ, ◌+◌, ◌==◌, Bool, true, false, not, List, [], ◌∷◌, Option, None, Some}
use Rattle.callouts.specs.Callouts.{is_call_line}
use Rattle.gate_config.specs.declared.config.Config.{Config}
use Rattle.gate_io.specs.declared.event.Sent.{Sent}
use Rattle.gate_io.specs.declared.event.Sent.TheVariants as to
use Rattle.gate_io.specs.declared.event.Side.TheVariants.{Down, Up}
use Rattle.gate_io.specs.declared.event.What.{What}
use Rattle.gate_io.specs.declared.event.What.TheVariants as whats
use Rattle.gate_io.specs.declared.passed.Passed.{Passed}
use Rattle.law_lines.specs.Turns.{Worked}
use Rattle.store_model.specs.Made.{Made}
use Rattle.streams_model.specs.Turned.{Whole}
use Rattle.vm_host.specs.Slots as slots
use Rattle.vm_host.specs.declared.slots.Vms.{Vms}
use Rattle.worker_model.specs.Making.{new_worker}
use Rattle.worker_model.specs.Room.{Room}
use Rattle.worker_model.specs.State.{Standing}
use Rattle.worker_model.specs.Steps.{exchange_on, line_in}
use Rattle.worker_model.specs.declared.types.Line.{Line}
use Rattle.law_down.specs.InOrder.{has_up}

-- ---- what is sent

-- it opens a connection to a server for the line
abbrev pub opens_up : ℕ → Sent → Bool
opens_up n (to.Connect m) = m == n
opens_up n (to.Bytes m side bytes) = false
opens_up n (to.Close m side) = false
opens_up n (to.Log level text) = false

-- it closes the line's connection to a server
abbrev pub closes_up : ℕ → Sent → Bool
closes_up n (to.Connect m) = false
closes_up n (to.Bytes m side bytes) = false
closes_up n (to.Close m Up) = m == n
closes_up n (to.Close m Down) = false
closes_up n (to.Log level text) = false

-- it closes the connection of the line's client
abbrev pub closes_down : ℕ → Sent → Bool
closes_down n (to.Connect m) = false
closes_down n (to.Bytes m side bytes) = false
closes_down n (to.Close m Up) = false
closes_down n (to.Close m Down) = m == n
closes_down n (to.Log level text) = false

-- 1 where it is so, and else 0
abbrev pub one_if : Bool → ℕ
one_if true = 1
one_if false = 0

-- of so many things sent this is true
abbrev pub count : (Sent → Bool) → List Sent → ℕ
count is [] = 0
count is (s ∷ sent) = one_if (is s) + count is sent

-- ---- the law

-- the line is there, and its client was not gone
abbrev pub has_client : Option Line → Bool
has_client None = false
has_client (Some line) = not line.is_gone

-- the worker has the client of the line of a number
abbrev pub has_client_on : ℕ → Room → Bool
has_client_on n room = has_client (line_in n room.lines)

-- the line's exchange reads the response of a server
abbrev pub reads_server : ℕ → Room → Bool
reads_server n room = has_up (exchange_on n room)

-- A CLIENT'S CONNECTION IN A TURN in which this happens and this is sent: before it the worker has the client, or not, and after it
pub record ClientEnds (n : ℕ) (what : What) (was : Bool) (sent : List Sent) (is : Bool) : Type 0 where
  -- one that was there, or is opened, and is not there after the turn, was closed in it, or left
  pub ends : (was ≡ true) ⊎ (what ≡ whats.Opened n) → is ≡ false → (what ≡ whats.Gone n Down) ⊎ (list_any (closes_down n) sent ≡ true)
  -- nothing is closed but what was there or is opened; nor is any other there after the turn
  pub closed : list_any (closes_down n) sent ≡ true → (was ≡ true) ⊎ (what ≡ whats.Opened n)
  pub there : is ≡ true → (was ≡ true) ⊎ (what ≡ whats.Opened n)
  -- one that left is not there after the turn
  pub left : what ≡ whats.Gone n Down → is ≡ false

-- CONNECTIONS END. Of the product, where the configuration has no streams of bytes, on each line of a client (those from 2^31 on are of callouts):
pub record ConnectionsEnd (S : Type 0) (performs : S → List Made → S → Type 0) : Type 0 where
  -- over all whole turns since the worker was made, as many connections to servers were closed as were opened; and one was opened more exactly while the line's exchange
  -- reads the response of a server
  pub servers : (config : Config) (who : ℕ) (seed : List ℕ) (host : Vms) (sent : List Sent) (to : Standing Vms) (n : ℕ) → config.tcp ≡ [] → is_call_line n ≡ false
      → Worked slots.calling performs (new_worker slots.exported_in slots.registering_in config who seed host) sent to
      → count (opens_up n) sent ≡ count (closes_up n) sent + one_if (reads_server n to.state.room)
  -- and each whole turn closes the connection of each client that it leaves without a line, unless the client left
  pub clients : (config : Config) (who : ℕ) (seed : List ℕ) (host : Vms) (sent : List Sent) (stop : Bool) (s t : S) (old new : Option (List Passed)) (from after : Standing Vms) (n : ℕ) → config.tcp ≡ [] → is_call_line n ≡ false
      → Worked slots.calling performs (new_worker slots.exported_in slots.registering_in config who seed host) sent from
      → (turn : Whole slots.calling performs stop s old from after t new)
      → ClientEnds n turn.event.what (has_client_on n from.state.room) turn.sent (has_client_on n after.state.room)

-- Worked by hand: a client that connects, whose request goes up over one connection, is closed after that of its server; and what the law refuses
pub record EndExamples : Type 0 where
  pub opened : count (opens_up 7) (to.Connect 7 ∷ to.Bytes 7 Up (71 ∷ []) ∷ to.Connect 9 ∷ to.Close 7 Up ∷ to.Close 7 Down ∷ []) ≡ 1
  pub closed : count (closes_up 7) (to.Connect 7 ∷ to.Bytes 7 Up (71 ∷ []) ∷ to.Connect 9 ∷ to.Close 7 Up ∷ to.Close 7 Down ∷ []) ≡ 1
  pub ends : ClientEnds 7 (whats.End 7 Up) true (to.Close 7 Up ∷ to.Close 7 Down ∷ []) false
  pub leaves : ClientEnds 7 (whats.Gone 7 Down) true (to.Close 7 Up ∷ []) false
  -- a client that is let go without a close, one that is closed and was never there, and one that is closed for another
  pub unclosed : ClientEnds 7 whats.Clock true [] false → ⊥
  pub nobody : ClientEnds 7 whats.Clock false (to.Close 7 Down ∷ []) false → ⊥
  pub other : ClientEnds 7 whats.Clock true (to.Close 8 Down ∷ []) false → ⊥
