-- What the generator of a number gives its four workers: 1,024 requests, each on a line of its own, all at moment 0.
use Rattle.std.specs.Prelude.{ℕ, zero, suc, ◌+◌, ◌%◌, List, [], ◌∷◌, ◌++◌, if◌then◌else◌, nat_eq, replicate, codes, decimal}
use Rattle.gate_io.specs.declared.event.Event.{Event}
use Rattle.gate_io.specs.declared.event.Side.TheVariants.{Down, Up}
use Rattle.gate_io.specs.declared.event.What.{What}
use Rattle.gate_io.specs.declared.event.What.TheVariants.{Opened, Bytes, End}
use Rattle.gate_io.specs.MemoryWorld.{stop_at}

-- A request goes to one of the paths `/k0` to `/k7`, by its number mod 8, and has a body of its number mod 1,024 bytes.
abbrev pub head : ℕ → List ℕ
head number = (codes "POST /k" ++ decimal (number % 8)) ++ ((codes " HTTP/1.1\r\nHost: a\r\nContent-Length: " ++ decimal (number % 1024)) ++ codes "\r\n\r\n")

-- each byte of the body is `x`
abbrev pub request : ℕ → List ℕ
request number = head number ++ replicate (number % 1024) 120

abbrev pub answer : List ℕ
answer = codes "HTTP/1.1 204 No Content\r\n\r\n"

abbrev pub at_start : What → Event
at_start what = record { now = 0; what = what }

-- what happens on a line: it is opened, the client sends the request of a number, the upstream server answers, and the client sends no more
abbrev pub exchange : (line number : ℕ) → List Event
exchange line number = at_start (Opened line) ∷ at_start (Bytes line Down (request number)) ∷ at_start (Bytes line Up answer) ∷ at_start (End line Down) ∷ []

-- what worker `who` is given of request i, which goes to worker 1 + i mod 4, on line i + 1, and has the number i + n
abbrev pub share : (n who i : ℕ) → List Event
share n who i = if nat_eq (1 + i % 4) who then exchange (i + 1) (i + n) else []

-- and of the first requests, from request 0 on
unfoldable pub given_of : (n who requests : ℕ) → List Event
given_of n who zero = []
given_of n who (suc i) = given_of n who i ++ share n who i

-- ALL EVENTS OF A WORKER: its part of the 1,024 requests, and then Stop
abbrev pub events_of : (n who : ℕ) → List Event
events_of n who = given_of n who 1024 ++ stop_at 0 ∷ []
