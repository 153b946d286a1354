-- WHAT A STEP OF A LINE WITHOUT FILTERS DEPENDS ON: the line, the maps of its own exchange, the moment and what is read. Two workers that agree on these, whatever
-- their other lines and their machines are, do the same on the line.
use Rattle.std.specs.Prelude.{◌≡◌, ℕ, ◌==◌, true, List, [], ◌∷◌, ◌++◌, drop, find, length, nat_lt, slice_get, Option, None, Some}
use Rattle.contexts.specs.declared.parts.Contexts.{Contexts}
use Rattle.contexts.specs.Reached.{view_at}
use Rattle.filter_host.specs.Called.{Calling}
use Rattle.filter_host.specs.Course.{ends, Met, Reaches}
use Rattle.exchange.specs.declared.types.Exchange.{Exchange}
use Rattle.gate_io.specs.declared.event.Sent.{Sent}
use Rattle.worker_model.specs.Room.{Room}
use Rattle.worker_model.specs.declared.types.Job.{Job}
use Rattle.worker_model.specs.declared.types.Line.{Line}
use Rattle.worker_model.specs.declared.types.Next.{Next}
use Rattle.worker_model.specs.declared.types.Next.TheVariants as next
use Rattle.worker_model.specs.declared.types.ReadBatch.{ReadBatch}
use Rattle.worker_model.specs.Plan.{Plan}
use Rattle.worker_model.specs.Rooms.{next_of}
use Rattle.worker_model.specs.Steps.{Both, line_in, most_lines, step}
use Rattle.law_lines.specs.Isolation.{IsFree, is_job_of, TakesNoFilters}

-- one exchange is as the other, but for the place of its maps among the contexts; and there is at its place what is at the other's
pub record IsAlike (x : Exchange) (h : Contexts) (y : Exchange) (others : Contexts) : Type 0 where
  pub exchange : y ≡ record x { place = y.place }
  pub maps : view_at others.exchanges y.place ≡ view_at h.exchanges x.place

abbrev pub AreAlike : Option Exchange → Contexts → Option Exchange → Contexts → Type 0
AreAlike None h None others = Unit {0}
AreAlike None h (Some y) others = ⊥
AreAlike (Some x) h None others = ⊥
AreAlike (Some x) h (Some y) others = IsAlike x h y others

-- the line of one room is as that of the other, or there is none in both
abbrev pub LooksAlike : Option Line → Contexts → Option Line → Contexts → Type 0
LooksAlike None h None others = Unit {0}
LooksAlike None h (Some m) others = ⊥
LooksAlike (Some l) h None others = ⊥
LooksAlike (Some l) h (Some m) others = (m ≡ record l { exchange = m.exchange }) × AreAlike l.exchange h m.exchange others

-- there is one line of the number at most
abbrev pub IsLone : ℕ → List Line → Type 0
IsLone n [] = Unit {0}
IsLone n (line ∷ lines) = ((line.number == n) ≡ true → find (λ (l : Line). l.number == n) lines ≡ None) × IsLone n lines

-- TWO ROOMS AGREE on the line, which is free
pub record Agree (n : ℕ) (a b : Room) : Type 0 where
  pub free : IsFree n a.lines
  pub lone : IsLone n a.lines
  pub other_lone : IsLone n b.lines
  pub line : LooksAlike (line_in n a.lines) a.hub.contexts (line_in n b.lines) b.hub.contexts
  pub moment : b.hub.moment ≡ a.hub.moment

-- THE SAME WAS DONE in both: the rooms agree on the line still, the same was sent after what was sent before in each, the same jobs came in front of those of
-- each, and where both were about to read the same, or nothing, so they are now.
pub record DoTheSame (n : ℕ) (a c b d : Room) : Type 0 where
  pub agree : Agree n c d
  pub sent : List Sent
  pub sends : c.hub.sent ≡ a.hub.sent ++ sent
  pub other_sends : d.hub.sent ≡ b.hub.sent ++ sent
  pub front : List Job
  pub jobs : c.jobs ≡ front ++ a.jobs
  pub other_jobs : d.jobs ≡ front ++ b.jobs
  pub reading : b.reading ≡ a.reading → d.reading ≡ c.reading

-- a step of the line in both, and the same: one side of it is read, one job of it is in hand, or the end of its exchange is due. (Late responses are answered for
-- on all lines by one job, of which nothing is said here.)
abbrev pub IsSameStep : ℕ → Room → Next → Room → Next → Type 0
IsSameStep n a next.Read b next.Read = (r : ReadBatch) × (a.reading ≡ Some r) × (b.reading ≡ Some r) × (r.line ≡ n)
IsSameStep n a next.Work b next.Work = (job : Job) × (later : List Job) × (more : List Job) × (a.jobs ≡ job ∷ later) × (b.jobs ≡ job ∷ more) × (is_job_of n job ≡ true)
IsSameStep n a (next.End p) b (next.End q) = (slice_get a.lines p ≡ line_in n a.lines) × (slice_get b.lines q ≡ line_in n b.lines)
IsSameStep n a x b y = ⊥

-- the job in hand is taken off
abbrev pub in_hand : Next → Room → Room
in_hand next.Work room = record room { jobs = drop 1 room.jobs }
in_hand x room = room

-- A STEP OF A FREE LINE DEPENDS ON NOTHING ELSE: where two rooms agree on the line, and both have room for one more line or neither has, and where what is read is
-- the same, and no head whose route has filters, the same step does the same in both, whatever the machines of either are.
abbrev pub StepsDependOnTheLine : Type 0 → Type 0 → Type 0
StepsDependOnTheLine H K =
    (calling : Calling H) (other : Calling K) (plan : Plan) (n : ℕ) (a c : Both H) (b d : Both K) (ms : List Met)
    → Agree n a.room b.room → nat_lt (length b.room.lines) most_lines ≡ nat_lt (length a.room.lines) most_lines
    → IsSameStep n a.room (next_of a.room) b.room (next_of b.room) → TakesNoFilters plan n a.room
    → Reaches (step calling plan (next_of a.room) a.host a.room) ms (ends c) → Reaches (step other plan (next_of b.room) b.host b.room) ms (ends d)
    → DoTheSame n (in_hand (next_of a.room) a.room) c.room (in_hand (next_of b.room) b.room) d.room
