-- Lines of callouts: they have no client.
use Rattle.std.specs.Prelude.{◌≡◌, ◌==◌, ◌⊎◌, ℕ, ◌<◌, ◌≤◌, Bool, nat_le, IsTrue, List, [], ◌∷◌, ◌++◌, Option, None, IfSome, is_none, count_by}
use Rattle.std.specs.List.{position, HoldsAt}
use Rattle.live_lines.specs.Lines.{BegunIn, ConnectedIn, IsUnused}
use Rattle.live_lines.specs.declared.line.SocketPair.{SocketPair}

-- 2^31: the lines of clients have numbers below it, and those of callouts have not
abbrev pub first_call : ℕ
first_call = 2147483648

-- the line of this number is a callout's
abbrev pub is_call : ℕ → Bool
is_call number = nat_le first_call number

-- so many lines of callouts a worker keeps at most
abbrev pub most_calls : ℕ
most_calls = 64

-- how many of these lines are callouts'
abbrev pub calls_in : {P : Type 0} → List (SocketPair P) → ℕ
calls_in {P} lines = count_by (λ (line : SocketPair P). is_call line.number) lines

-- A callout's line begins after the others. It has no client. It has a connection to the server for which nothing waits, or none, and that is to be told.
pub record Calls {P : Type 0} (old : List (SocketPair P)) (number : ℕ) (new : List (SocketPair P)) : Type 0 where
  pub line : SocketPair P
  pub call : IsTrue (is_call number)
  pub none : position (λ (other : SocketPair P). other.number == number) old ≡ None
  pub few : calls_in old < most_calls
  pub number_is : line.number ≡ number
  pub down : line.down ≡ None
  pub fresh : IfSome line.up (λ up. up.waiting ≡ [])
  pub refused : line.refused ≡ is_none line.up
  pub lines : new ≡ old ++ line ∷ []

-- by a connection that gave and took nothing so far, or by none
pub record CallsAnew {P : Type 0} (gave took : P → Option (List ℕ)) (old : List (SocketPair P)) (number : ℕ) (new : List (SocketPair P)) : Type 0 where
  pub calls : Calls old number new
  pub unused : IfSome calls.line.up (λ up. IsUnused gave took up.peer)

-- no line of a callout may begin under this number: it is a client's, or as many are there as may be, or a line has it
abbrev pub BeginsNone : {P : Type 0} → List (SocketPair P) → ℕ → Type 0
BeginsNone {P} old number = ((number < first_call) ⊎ (most_calls ≤ calls_in old)) ⊎ ((at : ℕ) × HoldsAt (λ (line : SocketPair P). line.number ≡ number) old at)

-- A line of this number is connected: a callout's begins, where it may, and else that which has the number is connected anew. Where there is none, all are as before.
abbrev pub ConnectsIn : {P : Type 0} → List (SocketPair P) → ℕ → List (SocketPair P) → Type 0
ConnectsIn old number new = Calls old number new ⊎ (BeginsNone old number × ConnectedIn old number new)

-- by such a connection, or by none
abbrev pub BeginsIn : {P : Type 0} → (P → Option (List ℕ)) → (P → Option (List ℕ)) → List (SocketPair P) → ℕ → List (SocketPair P) → Type 0
BeginsIn gave took old number new = CallsAnew gave took old number new ⊎ (BeginsNone old number × BegunIn gave took old number new)
