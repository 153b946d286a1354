-- Worked examples: requests, events of workers, and counts.
use Rattle.std.specs.Prelude.{◌≡◌, ℕ, zero, suc, ◌+◌, List, [], ◌∷◌, ◌++◌, length, replicate, codes}
use Rattle.gate_base.specs.declared.level.Level.TheVariants.{Info}
use Rattle.gate_io.specs.declared.event.Event.{Event}
use Rattle.gate_io.specs.declared.event.Sent.{Sent}
use Rattle.gate_io.specs.declared.event.Sent.TheVariants as sent
use Rattle.gate_io.specs.declared.event.Side.TheVariants.{Down, Up}
use Rattle.gate_io.specs.declared.event.What.{What}
use Rattle.gate_io.specs.declared.event.What.TheVariants.{Opened, Bytes, End, Gone, Joined, Refused, Room, Clock, Stop}
use Rattle.workload.specs.Events.{answer, at_start, events_of, given_of, request}
use Rattle.workload.specs.Tallies.{tally_of}

-- requests by their numbers
pub record RequestExamples : Type 0 where
  pub first : request 0 ≡ codes "POST /k0 HTTP/1.1\r\nHost: a\r\nContent-Length: 0\r\n\r\n"
  pub seventh : request 7 ≡ codes "POST /k7 HTTP/1.1\r\nHost: a\r\nContent-Length: 7\r\n\r\nxxxxxxx"
  pub ninth : request 9 ≡ codes "POST /k1 HTTP/1.1\r\nHost: a\r\nContent-Length: 9\r\n\r\nxxxxxxxxx"
  pub longest : request 1023 ≡ codes "POST /k7 HTTP/1.1\r\nHost: a\r\nContent-Length: 1023\r\n\r\n" ++ replicate 1023 120
  pub again : request 1024 ≡ request 0

-- the lines that are opened
abbrev pub opened_by : What → List ℕ
opened_by (Opened line) = line ∷ []
opened_by (Bytes line side bytes) = []
opened_by (End line side) = []
opened_by (Gone line side) = []
opened_by (Joined line) = []
opened_by (Refused line) = []
opened_by (Room line side) = []
opened_by Clock = []
opened_by Stop = []

abbrev pub opened : List Event → List ℕ
opened [] = []
opened (event ∷ events) = opened_by event.what ++ opened events

-- every fourth number from one on, so many
abbrev pub every_fourth : (first count : ℕ) → List ℕ
every_fourth first zero = []
every_fourth first (suc more) = first ∷ every_fourth (first + 4) more

-- Of the first six requests worker 1 is given the first and the fifth, worker 2 the second and the sixth, worker 4 the fourth; nobody else has any.
pub record SharingExamples : Type 0 where
  pub first_worker :
      given_of 7 1 6
      ≡ at_start (Opened 1) ∷ at_start (Bytes 1 Down (request 7)) ∷ at_start (Bytes 1 Up answer) ∷ at_start (End 1 Down)
      ∷ at_start (Opened 5) ∷ at_start (Bytes 5 Down (request 11)) ∷ at_start (Bytes 5 Up answer) ∷ at_start (End 5 Down) ∷ []
  pub second_worker : opened (given_of 7 2 6) ≡ 2 ∷ 6 ∷ []
  pub fourth_worker : opened (given_of 7 4 6) ≡ 4 ∷ []
  pub fifth_worker : given_of 7 5 6 ≡ []

-- a worker's events, whatever the generator's number: 256 lines with four events each, every fourth line, and Stop
pub record IsShare (who : ℕ) : Type 0 where
  pub events : (n : ℕ) → length (events_of n who) ≡ 1025
  pub lines : (n : ℕ) → opened (events_of n who) ≡ every_fourth who 256

abbrev received : List Sent
received =
    sent.Connect 1 ∷ sent.Bytes 1 Up (codes "abc") ∷ sent.Bytes 1 Down (codes "de") ∷ sent.Close 1 Up ∷ sent.Log Info (codes "fghi")
    ∷ sent.Connect 2 ∷ sent.Bytes 2 Up (codes "j") ∷ []

pub record TallyExamples : Type 0 where
  pub nothing : tally_of [] ≡ record { connects = 0; up = 0; down = 0 }
  pub some : tally_of received ≡ record { connects = 2; up = 4; down = 2 }
