-- The parts of a turn that are its event, one job or none, and the callouts that are due, one job each.
use Rattle.std.proofs.Common.{◌≡◌, ℕ, Bool, true, false, List, [], ◌∷◌, if◌then◌else◌, refl}
use Rattle.std.specs.Prelude.{Option, None, Some}
use Rattle.callouts.specs.Callouts.{line_in, is_of_call, callout_at, due_at}
use Rattle.callouts.specs.declared.types.CallStep.TheVariants as steps
use Rattle.callouts.specs.declared.types.Callout.{Callout}
use Rattle.gate_io.specs.declared.event.What.{What}
use Rattle.worker_model.specs.Room.{Room}
use Rattle.worker_model.specs.Turn.{comes_if, happening, fail_jobs, calls_due}
use Rattle.worker_model.specs.declared.types.Job.{Job}
use Rattle.worker_model.specs.declared.types.Job.TheVariants as jobs
use Rattle.worker_model.specs.declared.types.OtherStep.TheVariants as others

-- what holds of the event of a line, of none, and of that of a callout holds of whatever it is
pub by_event : (P : List Job → Type 0) (what : What) (room : Room) → (is_of_call (line_in what) ≡ false → P (jobs.Happen what ∷ []))
    → (is_of_call (line_in what) ≡ true → P []) → (is_of_call (line_in what) ≡ true → P (jobs.Other (others.Call (steps.Comes what)) ∷ [])) → P (happening what room)
by_event P what room on_line none of_call = by_test (is_of_call (line_in what)) refl
  where
    by_callout : is_of_call (line_in what) ≡ true → (c : Option Callout) → P (comes_if c what)
    by_callout is None = none is
    by_callout is (Some c) = of_call is

    by_test : (b : Bool) → is_of_call (line_in what) ≡ b → P (if b then comes_if (callout_at (line_in what) room.calls) what else jobs.Happen what ∷ [])
    by_test true is = by_callout is (callout_at (line_in what) room.calls)
    by_test false is = on_line is

-- what holds of none, and of one more, holds of all the callouts that are due
pub by_due : (P : List Job → Type 0) (room : Room) → P [] → ((id : ℕ) (rest : List Job) → P rest → P (jobs.Other (others.Call (steps.Fail id)) ∷ rest)) → P (calls_due room)
by_due P room none more = all (due_at room.hub.moment room.calls)
  where
    all : (ids : List ℕ) → P (fail_jobs ids)
    all [] = none
    all (id ∷ ids) = more id (fail_jobs ids) (all ids)
