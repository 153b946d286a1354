-- What worlds received, counted.
use Rattle.std.specs.Prelude.{ℕ, ◌+◌, ◌%◌, ◌^◌, List, length}
use Rattle.std.specs.List.{sum_by}
use Rattle.gate_io.specs.declared.event.Sent.{Sent}
use Rattle.gate_io.specs.declared.event.Sent.TheVariants.{Connect, Bytes, Close, Log}
use Rattle.gate_io.specs.declared.event.Side.{Side}
use Rattle.gate_io.specs.declared.event.Side.TheVariants.{Down, Up}
use Rattle.workload.specs.declared.tally.Tally.{Tally}

-- 1 for a connection that is to be made to the upstream server
abbrev pub connects_of : Sent → ℕ
connects_of (Connect line) = 1
connects_of (Bytes line side bytes) = 0
connects_of (Close line side) = 0
connects_of (Log level text) = 0

-- how many bytes are for the upstream server
abbrev pub up_of : Sent → ℕ
up_of (Connect line) = 0
up_of (Bytes line Up bytes) = length bytes
up_of (Bytes line Down bytes) = 0
up_of (Close line side) = 0
up_of (Log level text) = 0

-- and how many for the client
abbrev pub down_of : Sent → ℕ
down_of (Connect line) = 0
down_of (Bytes line Up bytes) = 0
down_of (Bytes line Down bytes) = length bytes
down_of (Close line side) = 0
down_of (Log level text) = 0

-- THE COUNTS of what was received, each modulo 2^64
abbrev pub tally_of : List Sent → Tally
tally_of received = record {
  connects = sum_by connects_of received % 2 ^ 64;
  up = sum_by up_of received % 2 ^ 64;
  down = sum_by down_of received % 2 ^ 64;
}

-- the counts of both
abbrev pub sum_of : Tally → Tally → Tally
sum_of a b = record { connects = (a.connects + b.connects) % 2 ^ 64; up = (a.up + b.up) % 2 ^ 64; down = (a.down + b.down) % 2 ^ 64 }

-- ---- a step on the way: one thing more was received
abbrev pub with_sent : Tally → Sent → Tally
with_sent t (Connect line) = record t { connects = (t.connects + 1) % 2 ^ 64 }
with_sent t (Bytes line Up bytes) = record t { up = (t.up + length bytes) % 2 ^ 64 }
with_sent t (Bytes line Down bytes) = record t { down = (t.down + length bytes) % 2 ^ 64 }
with_sent t (Close line side) = t
with_sent t (Log level text) = t
