-- What is heard of the lines of a worker, and what goes to them.
use Rattle.std.specs.Prelude.{◌≡◌, ◌==◌, ◌⊎◌, ◌&&◌, ℕ, ◌+◌, Bool, false, not, nat_lt, if◌then◌else◌, IsTrue, List, [], set, length, Option, None, Some, IfSome, is_none, slice_get}
use Rattle.std.specs.List.{position, remove, HoldsAt}
use Rattle.gate_io.specs.declared.event.Side.{Side}
use Rattle.gate_io.specs.declared.event.Side.TheVariants.{Down, Up}
use Rattle.gate_io.specs.declared.event.What.{What}
use Rattle.live_lines.specs.Allowed.{HoldsBack}
use Rattle.live_lines.specs.Passing.{HeardOn, SentOn}
use Rattle.live_lines.specs.Told.{IsOf}
use Rattle.live_lines.specs.Waiting.{is_full}
use Rattle.live_lines.specs.declared.line.SocketPair.{SocketPair}
use Rattle.live_lines.specs.declared.upstream.Upstream.{Upstream}

-- so many lines a worker keeps at most, with those that wait to be closed
abbrev pub most_lines : ℕ
most_lines = 256

-- An event of the line at a place, with no bytes of its client while enough waits for its server.
pub record IsHeardAt {P : Type 0} (lines : List (SocketPair P)) (at : ℕ) (what : What) : Type 0 where
  pub line : SocketPair P
  pub stands : slice_get lines at ≡ Some line
  pub of : IsOf line.number what
  pub held : HoldsBack (is_full line.up) what

-- the place that is heard next: that which comes, or the first one after the last
abbrev pub next_place : ℕ → ℕ → ℕ
next_place next count = if nat_lt next count then next else 0

-- and the place that comes after it, where there are lines
abbrev pub place_after : ℕ → ℕ → ℕ
place_after next count = if nat_lt 0 count then next_place next count + 1 else 0

-- no connection of the line is left, and nothing is to be told of one
abbrev pub is_over : {P : Type 0} → SocketPair P → Bool
is_over line = is_none line.down && (is_none line.up && not line.refused)

-- The line at a place is over, and is let go.
pub record LetsGo {P : Type 0} (old : List (SocketPair P)) (at : ℕ) (new : List (SocketPair P)) : Type 0 where
  pub line : SocketPair P
  pub stands : slice_get old at ≡ Some line
  pub over : IsTrue (is_over line)
  pub lines : new ≡ remove old at

-- all lines are as before, or that at the place is let go, which is over
abbrev pub Forgets : {P : Type 0} → List (SocketPair P) → ℕ → List (SocketPair P) → Type 0
Forgets old at new = (new ≡ old) ⊎ LetsGo old at new

-- The line at a place is heard. The others are as before, and where it is over after that, it is let go.
pub record HeardIn {P : Type 0} (gave took : P → Option (List ℕ)) (old : List (SocketPair P)) (at : ℕ) (told : Option What) (new : List (SocketPair P)) : Type 0 where
  pub line : SocketPair P
  pub stands : slice_get old at ≡ Some line
  pub behind : SocketPair P
  pub heard : HeardOn gave took line told behind
  pub lines : Forgets (set old at behind) at new

-- the line at the place that is heard next; or nothing was heard, and all is as before: there are no lines, or that one was passed over
abbrev pub HeardNext : {P : Type 0} → (P → Option (List ℕ)) → (P → Option (List ℕ)) → List (SocketPair P) → ℕ → Option What → List (SocketPair P) → Type 0
HeardNext gave took old next told new = ((told ≡ None) × (new ≡ old)) ⊎ HeardIn gave took old (next_place next (length old)) told new

-- The first n bytes of a piece go to a side of the line at a place. The other lines are as before.
pub record SentTo {P : Type 0} (gave took : P → Option (List ℕ)) (old : List (SocketPair P)) (at : ℕ) (side : Side) (bytes : List ℕ) (n : ℕ) (new : List (SocketPair P)) : Type 0 where
  pub line : SocketPair P
  pub stands : slice_get old at ≡ Some line
  pub behind : SocketPair P
  pub sent : SentOn gave took line side bytes n behind
  pub lines : new ≡ set old at behind

-- Of the line of this number. Where there is none, all are as before.
abbrev pub SentIn : {P : Type 0} → (P → Option (List ℕ)) → (P → Option (List ℕ)) → List (SocketPair P) → ℕ → Side → List ℕ → ℕ → List (SocketPair P) → Type 0
SentIn {P} gave took old number side bytes n new =
    ((position (λ (line : SocketPair P). line.number == number) old ≡ None) × (new ≡ old)) ⊎ ((at : ℕ) × HoldsAt (λ (line : SocketPair P). line.number ≡ number) old at × SentTo gave took old at side bytes n new)

-- The connection to the server of the line at a place is closed. The other lines are as before, and where it is over after that, it is let go.
pub record ClosedUp {P : Type 0} (old : List (SocketPair P)) (at : ℕ) (new : List (SocketPair P)) : Type 0 where
  pub line : SocketPair P
  pub stands : slice_get old at ≡ Some line
  pub behind : SocketPair P
  pub number : behind.number ≡ line.number
  pub down : behind.down ≡ line.down
  pub up : behind.up ≡ None
  pub refused : behind.refused ≡ false
  pub lines : Forgets (set old at behind) at new

-- a closed client takes its line with it
abbrev pub ClosedAt : {P : Type 0} → List (SocketPair P) → ℕ → Side → List (SocketPair P) → Type 0
ClosedAt old at Down new = new ≡ remove old at
ClosedAt old at Up new = ClosedUp old at new

-- a connection of the line of this number is closed, and where there is none, all are as before
abbrev pub ClosedIn : {P : Type 0} → List (SocketPair P) → ℕ → Side → List (SocketPair P) → Type 0
ClosedIn {P} old number side new =
    ((position (λ (line : SocketPair P). line.number == number) old ≡ None) × (new ≡ old)) ⊎ ((at : ℕ) × (position (λ (line : SocketPair P). line.number == number) old ≡ Some at) × ClosedAt old at side new)

-- the connection to the server alone
abbrev pub peer_of : {P : Type 0} → Option (Upstream P) → Option P
peer_of None = None
peer_of (Some up) = Some up.peer

-- The line at a place gets a connection to the server for which nothing waits, or none, and that is to be told. The other lines are as before.
pub record ConnectedAt {P : Type 0} (old : List (SocketPair P)) (at : ℕ) (new : List (SocketPair P)) : Type 0 where
  pub line : SocketPair P
  pub stands : slice_get old at ≡ Some line
  pub behind : SocketPair P
  pub number : behind.number ≡ line.number
  pub down : behind.down ≡ line.down
  pub fresh : IfSome behind.up (λ up. up.waiting ≡ [])
  pub refused : behind.refused ≡ is_none behind.up
  pub lines : new ≡ set old at behind

-- a connection gave and took nothing so far, where it tells of that
abbrev pub IsUnused : {P : Type 0} → (P → Option (List ℕ)) → (P → Option (List ℕ)) → P → Type 0
IsUnused gave took peer = IfSome (gave peer) (λ bytes. bytes ≡ []) × IfSome (took peer) (λ bytes. bytes ≡ [])

-- The line at a place is connected anew, by a connection that gave and took nothing so far, or by none.
pub record BegunAt {P : Type 0} (gave took : P → Option (List ℕ)) (old : List (SocketPair P)) (at : ℕ) (new : List (SocketPair P)) : Type 0 where
  pub connected : ConnectedAt old at new
  pub unused : IfSome connected.behind.up (λ up. IsUnused gave took up.peer)

-- a line of this number is connected anew, and where there is none, all are as before
abbrev pub ConnectedIn : {P : Type 0} → List (SocketPair P) → ℕ → List (SocketPair P) → Type 0
ConnectedIn {P} old number new =
    ((position (λ (line : SocketPair P). line.number == number) old ≡ None) × (new ≡ old)) ⊎ ((at : ℕ) × HoldsAt (λ (line : SocketPair P). line.number ≡ number) old at × ConnectedAt old at new)

-- by such a connection or by none
abbrev pub BegunIn : {P : Type 0} → (P → Option (List ℕ)) → (P → Option (List ℕ)) → List (SocketPair P) → ℕ → List (SocketPair P) → Type 0
BegunIn {P} gave took old number new =
    ((position (λ (line : SocketPair P). line.number == number) old ≡ None) × (new ≡ old)) ⊎ ((at : ℕ) × HoldsAt (λ (line : SocketPair P). line.number ≡ number) old at × BegunAt gave took old at new)
