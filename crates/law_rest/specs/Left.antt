-- HOW MUCH IS LEFT TO DO in the room of a worker: a number that each step makes less, whatever the machines do. It is told of rooms whose
-- exchanges have at most `s` filters, and at most as many stages in each direction.
use Rattle.std.specs.Prelude.{◌≡◌, ◌≤◌, ℕ, ◌+◌, ◌*◌, true, List, [], ◌∷◌, length, Option, None, Some, if◌then◌else◌}
use Rattle.callouts.specs.declared.types.Callout.{Callout}
use Rattle.callouts.specs.declared.types.CallStep.{CallStep}
use Rattle.callouts.specs.declared.types.CallStep.TheVariants as steps
use Rattle.exchange.specs.declared.types.Exchange.{Exchange}
use Rattle.gate_config.specs.declared.entries.RouteEntry.{RouteEntry}
use Rattle.gate_io.specs.declared.event.What.{What}
use Rattle.gate_io.specs.declared.event.What.TheVariants as whats
use Rattle.h1_model.specs.Unread.{Reading}
use Rattle.worker_model.specs.Room.{Room}
use Rattle.worker_model.specs.declared.types.Job.{Job}
use Rattle.worker_model.specs.declared.types.Job.TheVariants as jobs
use Rattle.worker_model.specs.declared.types.Line.{Line}
use Rattle.worker_model.specs.declared.types.OtherStep.{OtherStep}
use Rattle.worker_model.specs.declared.types.OtherStep.TheVariants as others
use Rattle.worker_model.specs.declared.types.ReadBatch.{ReadBatch}
use Rattle.law_rest.specs.Moves.{for_each, moves_left}

-- ---- the unit costs

-- WHAT IS BEING READ. After it a context is made for each filter (s); the stages are made (1, and 4 at each for an answer that may pass
-- them); what was read comes to them (1, and 2 at each for an end that took no byte); it is refused (1); its line is closed (1). That it ends
-- is a step (1).
abbrev pub reading_cost : ℕ → ℕ
reading_cost s = 5 + 7 * s

-- AN EXCHANGE, beside its moves. Its end is a step (1), after which the context of each filter is done with (4), its line stays open (1), and
-- what is unread of that is read (as above).
abbrev pub end_cost : ℕ → ℕ
end_cost s = 7 + 11 * s

-- A BYTE that is unread. That a reader uses it is a step (1). With it a head may be whole: an item (2 at each stage), with which an exchange
-- begins (as above) that has a move (1).
abbrev pub byte_cost : ℕ → ℕ
byte_cost s = 9 + 13 * s

-- ---- lines

abbrev pub reader_left : ℕ → Option Reading → ℕ
reader_left s None = 0
reader_left s (Some reading) = for_each (byte_cost s) reading.unread

abbrev pub exchange_left : ℕ → Exchange → ℕ
exchange_left s x = end_cost s + moves_left x + reader_left s x.reader

abbrev pub open_left : ℕ → Option Exchange → ℕ
open_left s None = 0
open_left s (Some x) = exchange_left s x

abbrev pub line_left : ℕ → Line → ℕ
line_left s line = for_each (byte_cost s) line.requests.unread + open_left s line.exchange

abbrev pub lines_left : ℕ → List Line → ℕ
lines_left s [] = 0
lines_left s (line ∷ lines) = line_left s line + lines_left s lines

-- ---- jobs

-- the bytes that come with an event
abbrev pub bytes_of : What → List ℕ
bytes_of (whats.Opened number) = []
bytes_of (whats.Bytes number side bytes) = bytes
bytes_of (whats.End number side) = []
bytes_of (whats.Gone number side) = []
bytes_of (whats.Joined number) = []
bytes_of (whats.Refused number) = []
bytes_of (whats.Room number side) = []
bytes_of whats.Clock = []
bytes_of whats.Stop = []

-- About callouts: a context is told of the end of one in a step; after a part that is read the next one is, or its context is told; and an event
-- brings bytes, which are read. (What its callback begins is read in later turns.)
abbrev pub call_step_left : CallStep → ℕ
call_step_left (steps.Comes what) = 3 + length (bytes_of what)
call_step_left (steps.Read id) = 2
call_step_left (steps.Fail id) = 1
call_step_left (steps.Answer id) = 1

-- what is left to do of a step for other connections than those of exchanges
abbrev pub other_left : OtherStep → ℕ
other_left (others.Call step) = call_step_left step
other_left (others.Tcp step) = 1

-- what is unread of the responses to callouts
abbrev pub calls_left : List Callout → ℕ
calls_left [] = 0
calls_left (c ∷ calls) = length c.reader.unread + calls_left calls

-- Each is one step, and what comes of it: after the making of a root a VM starts and a plug-in is configured; an event brings bytes, which are
-- read; stages that are made may be passed by an answer, at 4 each, and an item costs 2 at each stage; a context that is done with
-- waits (3), and then gets log and delete; after an exchange what is unread of a line that stays open is read; after a notice a root is told
-- of an item (1), and the next notice is taken, which is a part of the turn (1 more).
abbrev pub job_left : ℕ → Job → ℕ
job_left s (jobs.Begin vm) = 1
job_left s (jobs.Root vm plugin first) = 3
job_left s (jobs.Start vm root) = 1
job_left s (jobs.Configure vm root plugin) = 1
job_left s (jobs.Tick vm root) = 1
job_left s jobs.Expire = 1
job_left s (jobs.Happen what) = 1 + reading_cost s + for_each (byte_cost s) (bytes_of what)
job_left s (jobs.Create number k) = 1
job_left s (jobs.Enter number) = 1 + 4 * s
job_left s (jobs.Put number response items) = 1 + for_each (s + s) items
job_left s (jobs.Refuse number status) = 1
job_left s (jobs.Done c) = 4
job_left s (jobs.Log c) = 1
job_left s (jobs.Delete c) = 1
job_left s (jobs.Close number stays) = if stays then 1 + reading_cost s else 1
job_left s (jobs.Notice vm work_left) = 1 + 3 * work_left
job_left s (jobs.Ready vm root queue) = 1
job_left s (jobs.Other step) = other_left step

abbrev pub jobs_left : ℕ → List Job → ℕ
jobs_left s [] = 0
jobs_left s (job ∷ more) = job_left s job + jobs_left s more

-- a part of the turn becomes a job by a step
abbrev pub parts_left : ℕ → List Job → ℕ
parts_left s [] = 0
parts_left s (job ∷ more) = 1 + job_left s job + parts_left s more

-- ---- the whole

-- what was read of it are items that come to a chain, at 2 a stage
abbrev pub reading_left : ℕ → Option ReadBatch → ℕ
reading_left s None = 0
reading_left s (Some r) = reading_cost s + for_each (s + s) r.batch

-- (a context that waits for `proxy_done` may get log and delete, in a step before those)
abbrev pub work_left : ℕ → Room → ℕ
work_left s room =
    lines_left s room.lines + jobs_left s room.jobs + parts_left s room.agenda + for_each 3 room.waits + reading_left s room.reading + calls_left room.calls

-- ---- the rooms of which it is told

-- an exchange of at most so many filters and stages; where it was answered, no stage of its request is left
pub record Fits (s : ℕ) (x : Exchange) : Type 0 where
  pub filters : length x.filters ≤ s
  pub request : length x.request ≤ s
  pub response : length x.response ≤ s
  pub clear : x.is_answered ≡ true → x.request ≡ []

abbrev pub OpenFits : ℕ → Option Exchange → Type 0
OpenFits s None = Unit {0}
OpenFits s (Some x) = Fits s x

-- each open exchange is such a one
abbrev pub AllFit : ℕ → List Line → Type 0
AllFit s [] = Unit {0}
AllFit s (line ∷ lines) = OpenFits s line.exchange × AllFit s lines

-- each route has at most so many filters
abbrev pub RoutesFit : ℕ → List RouteEntry → Type 0
RoutesFit s [] = Unit {0}
RoutesFit s (route ∷ routes) = (length route.filters ≤ s) × RoutesFit s routes
