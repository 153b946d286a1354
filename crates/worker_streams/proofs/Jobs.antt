-- Jobs that call nothing.
use Rattle.std.proofs.Common.{◌≡◌, ℕ, Bool, List, [], refl}
use Rattle.std.specs.Prelude.{Result, OnOk}
use Rattle.filter_host.specs.Called.{Calling}
use Rattle.filter_host.specs.Course.{Ends}
use Rattle.store_model.specs.Made.{Made}
use Rattle.worker_callbacks.proofs.Quietly.{quiet_ends}
use Rattle.worker_model.specs.Plan.{Plan}
use Rattle.worker_model.specs.Room.{Room}
use Rattle.worker_model.specs.Steps.{both}
use Rattle.worker_model.specs.declared.types.ContextAt.{ContextAt}
use Rattle.worker_model.specs.declared.types.Job.{Job}
use Rattle.worker_model.specs.declared.types.Job.TheVariants as jobs
use Rattle.worker_model.specs.declared.types.OtherStep.{OtherStep}
use Rattle.streams_model.specs.Steps.{works, works_life, run_silent_job}

module _ {S : Type 0} (performs : S → List Made → S → Type 0) (s : S) (here : performs s [] s) where
  -- a job that calls nothing
  pub life_quietly : {H C E : Type 0} (calling : Calling H) (plan : Plan) (job : Job) (host : H) (room new : Room) (r : Result C E)
      → ((vm : ℕ) → job ≡ jobs.Begin vm → ⊥) → ((vm root : ℕ) → job ≡ jobs.Start vm root → ⊥) → ((vm root plugin : ℕ) → job ≡ jobs.Configure vm root plugin → ⊥)
      → ((x : ContextAt) → job ≡ jobs.Done x → ⊥) → ((x : ContextAt) → job ≡ jobs.Log x → ⊥) → ((x : ContextAt) → job ≡ jobs.Delete x → ⊥)
      → OnOk r (new ≡ run_silent_job plan job room) → Ends performs s (works_life calling plan job host room) (λ _. both host new) r s
  life_quietly calling plan (jobs.Begin vm) host room new r a b c d e f is = absurd (a vm refl)
  life_quietly calling plan (jobs.Root vm plugin first) host room new r a b c d e f is = quiet_ends performs s here host (run_silent_job plan (jobs.Root vm plugin first) room) new r is
  life_quietly calling plan (jobs.Start vm root) host room new r a b c d e f is = absurd (b vm root refl)
  life_quietly calling plan (jobs.Configure vm root plugin) host room new r a b c d e f is = absurd (c vm root plugin refl)
  life_quietly calling plan (jobs.Tick vm root) host room new r a b c d e f is = quiet_ends performs s here host (run_silent_job plan (jobs.Tick vm root) room) new r is
  life_quietly calling plan jobs.Expire host room new r a b c d e f is = quiet_ends performs s here host (run_silent_job plan jobs.Expire room) new r is
  life_quietly calling plan (jobs.Happen what) host room new r a b c d e f is = quiet_ends performs s here host (run_silent_job plan (jobs.Happen what) room) new r is
  life_quietly calling plan (jobs.Create number k) host room new r a b c d e f is = quiet_ends performs s here host (run_silent_job plan (jobs.Create number k) room) new r is
  life_quietly calling plan (jobs.Enter number) host room new r a b c d e f is = quiet_ends performs s here host (run_silent_job plan (jobs.Enter number) room) new r is
  life_quietly calling plan (jobs.Put number response items) host room new r a b c d e f is = quiet_ends performs s here host (run_silent_job plan (jobs.Put number response items) room) new r is
  life_quietly calling plan (jobs.Refuse number status) host room new r a b c d e f is = quiet_ends performs s here host (run_silent_job plan (jobs.Refuse number status) room) new r is
  life_quietly calling plan (jobs.Done x) host room new r a b c d e f is = absurd (d x refl)
  life_quietly calling plan (jobs.Log x) host room new r a b c d e f is = absurd (e x refl)
  life_quietly calling plan (jobs.Delete x) host room new r a b c d e f is = absurd (f x refl)
  life_quietly calling plan (jobs.Close number stays) host room new r a b c d e f is = quiet_ends performs s here host (run_silent_job plan (jobs.Close number stays) room) new r is
  life_quietly calling plan (jobs.Notice vm left) host room new r a b c d e f is = quiet_ends performs s here host (run_silent_job plan (jobs.Notice vm left) room) new r is
  life_quietly calling plan (jobs.Ready vm root queue) host room new r a b c d e f is = quiet_ends performs s here host (run_silent_job plan (jobs.Ready vm root queue) room) new r is
  life_quietly calling plan (jobs.Other step) host room new r a b c d e f is = quiet_ends performs s here host (run_silent_job plan (jobs.Other step) room) new r is

-- a job that makes no root, calls for no tick and no item, and is neither of a callout nor of a line
pub works_on : {H : Type 0} (calling : Calling H) (plan : Plan) (job : Job) (host : H) (room : Room)
    → ((vm plugin : ℕ) (first : Bool) → job ≡ jobs.Root vm plugin first → ⊥) → ((vm root : ℕ) → job ≡ jobs.Tick vm root → ⊥)
    → ((vm left : ℕ) → job ≡ jobs.Notice vm left → ⊥) → ((vm root queue : ℕ) → job ≡ jobs.Ready vm root queue → ⊥)
    → ((step : OtherStep) → job ≡ jobs.Other step → ⊥) → works_life calling plan job host room ≡ works calling plan job host room
works_on calling plan (jobs.Begin vm) host room a b c d e = refl
works_on calling plan (jobs.Root vm plugin first) host room a b c d e = absurd (a vm plugin first refl)
works_on calling plan (jobs.Start vm root) host room a b c d e = refl
works_on calling plan (jobs.Configure vm root plugin) host room a b c d e = refl
works_on calling plan (jobs.Tick vm root) host room a b c d e = absurd (b vm root refl)
works_on calling plan jobs.Expire host room a b c d e = refl
works_on calling plan (jobs.Happen what) host room a b c d e = refl
works_on calling plan (jobs.Create number k) host room a b c d e = refl
works_on calling plan (jobs.Enter number) host room a b c d e = refl
works_on calling plan (jobs.Put number response items) host room a b c d e = refl
works_on calling plan (jobs.Refuse number status) host room a b c d e = refl
works_on calling plan (jobs.Done x) host room a b c d e = refl
works_on calling plan (jobs.Log x) host room a b c d e = refl
works_on calling plan (jobs.Delete x) host room a b c d e = refl
works_on calling plan (jobs.Close number stays) host room a b c d e = refl
works_on calling plan (jobs.Notice vm left) host room a b c d e = absurd (c vm left refl)
works_on calling plan (jobs.Ready vm root queue) host room a b c d e = absurd (d vm root queue refl)
works_on calling plan (jobs.Other step) host room a b c d e = absurd (e step refl)
