-- What an operator is told of, and how often it happened.
use Rattle.std.specs.Prelude.{◌≡◌, ◌==◌, ◌⊎◌, ℕ, ◌+◌, ◌-◌, ◌^◌, ◌&&◌, min, Bool, true, false, is_none, List, [], ◌∷◌, set, get_or, codes, None}
use Rattle.std.specs.List.{position, starts_with, HoldsAt}
use Rattle.live_lines.specs.declared.fault.Fault.{Fault}
use Rattle.live_lines.specs.declared.fault.Fault.TheVariants.{Refused, Unreachable, EndedEarly, BrokeOff}
use Rattle.live_lines.specs.declared.line.SocketPair.{SocketPair}
use Rattle.live_sockets.specs.declared.notices.Notice.{Notice}
use Rattle.live_sockets.specs.declared.notices.Notice.TheVariants.{Upstream, Undialled, NoPlace, NotAccepted, BeginsAnew, NeverAsked, Dropped, BadGateway, Silent}

-- the place of what went wrong with a connection to the server
abbrev pub place_of_fault : Fault → ℕ
place_of_fault Refused = 0
place_of_fault Unreachable = 1
place_of_fault EndedEarly = 2
place_of_fault BrokeOff = 3

-- the place of a kind of notice
abbrev pub place_of : Notice → ℕ
place_of (Upstream fault) = place_of_fault fault
place_of Undialled = 4
place_of NoPlace = 5
place_of NotAccepted = 6
place_of BeginsAnew = 7
place_of NeverAsked = 8
place_of Dropped = 9
place_of BadGateway = 10
place_of Silent = 11

-- it came so often more, up to 2^32 - 1
abbrev pub counted : List ℕ → Notice → ℕ → List ℕ
counted counts notice more = set counts (place_of notice) (min (get_or counts (place_of notice) 0 + more) (2 ^ 32 - 1))

-- nothing came
abbrev pub none_counted : List ℕ
none_counted = 0 ∷ 0 ∷ 0 ∷ 0 ∷ 0 ∷ 0 ∷ 0 ∷ 0 ∷ 0 ∷ 0 ∷ 0 ∷ 0 ∷ []

-- bytes begin with the first line of an answer 502
abbrev pub begins_bad_gateway : List ℕ → Bool
begins_bad_gateway bytes = starts_with (λ a b. a == b) bytes (codes "HTTP/1.1 502 ")

-- what is offered to the client of a line begins an answer, to which no fault of the connection to the server led that is told by itself
abbrev pub begins_answer : {P : Type 0} → SocketPair P → Bool
begins_answer line = line.is_due && is_none line.fault

-- the line of this number is at a place, and so it is of it, or not
abbrev pub BeginsAt : {P : Type 0} → List (SocketPair P) → ℕ → Bool → Type 0
BeginsAt {P} lines number begins = (at : ℕ) × HoldsAt (λ (line : SocketPair P). (line.number ≡ number) × (begins_answer line ≡ begins)) lines at

-- Bytes that are offered to the client of a line are counted, where they begin an answer 502. They are not where they do not, where no answer begins there, and where no line has the number.
abbrev pub CountsAnswer : {P : Type 0} → List (SocketPair P) → ℕ → List ℕ → List ℕ → List ℕ → Type 0
CountsAnswer {P} lines number bytes old new =
    ((new ≡ counted old BadGateway 1) × ((begins_bad_gateway bytes ≡ true) × BeginsAt lines number true))
    ⊎ ((new ≡ old) × ((begins_bad_gateway bytes ≡ false) ⊎ ((position (λ (line : SocketPair P). line.number == number) lines ≡ None) ⊎ BeginsAt lines number false)))
