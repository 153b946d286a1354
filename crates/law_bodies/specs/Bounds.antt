-- Bounds and times: how much a stage holds, how many lines are open, which lines stay, and when deadlines and ticks are due.
use Rattle.std.specs.Prelude.{◌≡◌, ◌<◌, ◌≤◌, ℕ, ◌+◌, ◌*◌, Bool, true, false, Contains, List, length, insert, slice_get, None, Some}
use Rattle.contexts.specs.declared.parts.Contexts.{Contexts}
use Rattle.contexts.specs.declared.parts.Tick.{Tick}
use Rattle.exchange.specs.declared.types.Filter.{Filter}
use Rattle.filter_chain.specs.Chains.{bytes_at, fits}
use Rattle.filter_chain.specs.Items.{size}
use Rattle.filter_chain.specs.declared.stage.Stage.{Stage}
use Rattle.worker_model.specs.Room.{Room}
use Rattle.worker_model.specs.Rooms.{place_in}
use Rattle.worker_model.specs.Steps.{accept_line, close_line, done_jobs, due_at, end_line, new_line, next_tick, place_for, read_side, root_jobs}
use Rattle.worker_model.specs.declared.types.Job.TheVariants as jobs
use Rattle.worker_model.specs.declared.types.Line.{Line}

-- A STAGE HOLDS 1,048,576 BYTES, with those that wait for it.
abbrev pub StagesHoldAMegabyte : Type 0
StagesHoldAMegabyte = (h : Contexts) (n : ℕ) (s : Stage) → length (bytes_at h s) + size s.waiting + n ≤ 1048576 → fits h n s ≡ true

-- A LINE IS TAKEN while fewer than 128 are open, AND STAYS where its exchange said so; else it is closed.
pub record LinesAreTakenAndStay : Type 0 where
  pub taken : (number : ℕ) (room : Room) → place_in number room.lines ≡ None → length room.lines < 128
      → accept_line number room ≡ record room { lines = insert room.lines (place_for number room.lines) (new_line number) }
  pub stays : (line : Line) (number : ℕ) (room : Room) → line.is_gone ≡ false → end_line (Some line) number true room ≡ read_side number false room
  pub closes : (line : Line) (number : ℕ) (room : Room) → line.is_gone ≡ false → end_line (Some line) number false room ≡ close_line number room

-- A RESPONSE IS DUE so many milliseconds after its request as are configured, and a tick one period after the moment at which the last was done, where 64 bits of
-- nanoseconds reach so far.
pub record TimesAreKept : Type 0 where
  pub due : (now deadline : ℕ) → (deadline ≡ 0 → ⊥) → now + deadline * 1000000 ≤ 18446744073709551615 → due_at now deadline ≡ Some (now + deadline * 1000000)
  pub never : (now : ℕ) → due_at now 0 ≡ None
  pub tick : (now : ℕ) (t : Tick) → now + t.period ≤ 18446744073709551615 → (next_tick now t).due ≡ now + t.period
  pub period : (now : ℕ) (t : Tick) → (next_tick now t).period ≡ t.period

-- EACH ROOT IS TO BE CONFIGURED once it is made, and each context of a filter is to be done with once its exchange ends: so the jobs say that follow.
pub record ContextsBeginAndEnd : Type 0 where
  pub configured : (vm root plugin : ℕ) (first : Bool) → Contains (root_jobs vm root plugin first) (jobs.Configure vm root plugin)
  pub done : (filters : List Filter) (place : ℕ) (f : Filter) → slice_get filters place ≡ Some f → f.created ≡ true → Contains (done_jobs filters) (jobs.Done (record { vm = f.vm; context = f.context }))
