-- What a read gives.
use Rattle.std.specs.Prelude.{ℕ, ◌≤◌, List, [], take}
use Rattle.live_lines.specs.declared.duplex.Heard.{Heard}
use Rattle.live_lines.specs.declared.duplex.Heard.TheVariants.{Bytes, End, Lost, Nothing}

-- bytes are 1 to 16,384
abbrev pub IsHeard : Heard → Type 0
IsHeard (Bytes n) = (1 ≤ n) × (n ≤ 16384)
IsHeard End = Unit {0}
IsHeard Lost = Unit {0}
IsHeard Nothing = Unit {0}

-- this holds where the end was read
abbrev pub OnEndHeard : Type 0 → Heard → Type 0
OnEndHeard why End = why
OnEndHeard why (Bytes n) = Unit {0}
OnEndHeard why Lost = Unit {0}
OnEndHeard why Nothing = Unit {0}

-- the bytes that were read into the room
abbrev pub bytes_heard : List ℕ → Heard → List ℕ
bytes_heard room (Bytes n) = take n room
bytes_heard room End = []
bytes_heard room Lost = []
bytes_heard room Nothing = []
