-- What is heard of the lines of a worker in turn.
use Rattle.std.specs.Prelude.{◌≡◌, ◌==◌, ◌⊎◌, ℕ, ◌+◌, ◌<◌, ◌≤◌, Bool, true, false, List, insert, length, Option, None, Some, IsTrue, slice_get}
use Rattle.std.specs.List.{position}
use Rattle.gate_io.specs.declared.event.What.{What}
use Rattle.gate_io.specs.declared.event.What.TheVariants.{Opened, Bytes, End, Gone, Joined, Refused, Room, Clock, Stop}
use Rattle.live_sockets.specs.Calls.{calls_in, first_call}
use Rattle.live_lines.specs.Lines.{IsHeardAt, HeardIn, is_over, most_lines}
use Rattle.live_lines.specs.Passing.{HeardOn}
use Rattle.live_lines.specs.declared.line.SocketPair.{SocketPair}

-- A line stood before, and nothing was heard of it.
pub record Stood {P : Type 0} (gave took : P → Option (List ℕ)) (old : List (SocketPair P)) (now : SocketPair P) : Type 0 where
  pub at : ℕ
  pub line : SocketPair P
  pub stands : slice_get old at ≡ Some line
  pub heard : HeardOn gave took line None now

-- a line stands among these, or it is over and may be gone
abbrev pub StandsOrIsOver : {P : Type 0} → SocketPair P → List (SocketPair P) → Type 0
StandsOrIsOver line lines = ((at : ℕ) × (slice_get lines at ≡ Some line)) ⊎ IsTrue (is_over line)

-- Nothing was heard of a line, which stands then, or is over and may be gone.
pub record Remains {P : Type 0} (gave took : P → Option (List ℕ)) (line : SocketPair P) (new : List (SocketPair P)) : Type 0 where
  pub behind : SocketPair P
  pub heard : HeardOn gave took line None behind
  pub stands : StandsOrIsOver behind new

-- Each line stood before, nothing was heard of it, and each that stood stands, but for those that are over.
pub record AreKept {P : Type 0} (gave took : P → Option (List ℕ)) (old new : List (SocketPair P)) : Type 0 where
  pub each : (i : ℕ) (now : SocketPair P) → slice_get new i ≡ Some now → Stood gave took old now
  pub all : (i : ℕ) (line : SocketPair P) → slice_get old i ≡ Some line → Remains gave took line new

-- A client's line comes, of a number that no other has. The others are as before, in their order.
pub record Comes {P : Type 0} (old : List (SocketPair P)) (number : ℕ) (new : List (SocketPair P)) : Type 0 where
  pub line : SocketPair P
  pub number_is : line.number ≡ number
  pub client : number < first_call
  pub fresh : position (λ (other : SocketPair P). other.number == number) old ≡ None
  pub at : ℕ
  pub within : at ≤ length old
  pub lines : new ≡ insert old at line

-- the lines but those of callouts are as many as may be kept, or fewer
abbrev pub AreFew : {P : Type 0} → List (SocketPair P) → Type 0
AreFew lines = length lines ≤ most_lines + calls_in lines

-- a line comes, or all are as before
abbrev pub Arrives : {P : Type 0} → List (SocketPair P) → Option ℕ → List (SocketPair P) → Type 0
Arrives old None new = new ≡ old
Arrives old (Some number) new = Comes old number new

-- this line was kept, or all are as before
abbrev pub Begins : {P : Type 0} → List (SocketPair P) → ℕ → Bool → List (SocketPair P) → Type 0
Begins old number false new = new ≡ old
Begins old number true new = Comes old number new

-- Nothing was heard of some lines, and then this of one.
pub record Tells {P : Type 0} (gave took : P → Option (List ℕ)) (old : List (SocketPair P)) (what : What) (new : List (SocketPair P)) : Type 0 where
  pub between : List (SocketPair P)
  pub kept : AreKept gave took old between
  pub at : ℕ
  pub of : IsHeardAt between at what
  pub heard : HeardIn gave took between at (Some what) new

-- what is heard of all lines in turn
abbrev pub Heard : {P : Type 0} → (P → Option (List ℕ)) → (P → Option (List ℕ)) → List (SocketPair P) → Option What → List (SocketPair P) → Type 0
Heard gave took old None new = AreKept gave took old new
Heard gave took old (Some (Opened line)) new = Comes old line new
Heard gave took old (Some (Bytes line side bytes)) new = Tells gave took old (Bytes line side bytes) new
Heard gave took old (Some (End line side)) new = Tells gave took old (End line side) new
Heard gave took old (Some (Gone line side)) new = Tells gave took old (Gone line side) new
Heard gave took old (Some (Joined line)) new = Tells gave took old (Joined line) new
Heard gave took old (Some (Refused line)) new = Tells gave took old (Refused line) new
Heard gave took old (Some (Room line side)) new = Tells gave took old (Room line side) new
Heard gave took old (Some Clock) new = ⊥
Heard gave took old (Some Stop) new = ⊥

-- A line of this number comes behind lines of which nothing was heard.
pub record ComesBehind {P : Type 0} (gave took : P → Option (List ℕ)) (old : List (SocketPair P)) (number : ℕ) (new : List (SocketPair P)) : Type 0 where
  pub between : List (SocketPair P)
  pub kept : AreKept gave took old between
  pub comes : Comes between number new

-- an event of a line was heard of these lines, of the others nothing, and nothing of any of them at Clock and Stop
abbrev pub WasHeard : {P : Type 0} → (P → Option (List ℕ)) → (P → Option (List ℕ)) → List (SocketPair P) → What → List (SocketPair P) → Type 0
WasHeard gave took old Clock new = AreKept gave took old new
WasHeard gave took old Stop new = AreKept gave took old new
WasHeard gave took old (Opened line) new = ComesBehind gave took old line new
WasHeard gave took old (Bytes line side bytes) new = Tells gave took old (Bytes line side bytes) new
WasHeard gave took old (End line side) new = Tells gave took old (End line side) new
WasHeard gave took old (Gone line side) new = Tells gave took old (Gone line side) new
WasHeard gave took old (Joined line) new = Tells gave took old (Joined line) new
WasHeard gave took old (Refused line) new = Tells gave took old (Refused line) new
WasHeard gave took old (Room line side) new = Tells gave took old (Room line side) new
