-- Steps that call nothing.
use Rattle.std.proofs.Common.{◌≡◌, ℕ, Bool, List, [], sym, refl, subst}
use Rattle.std.specs.Prelude.{Result, Ok, Err, OnOk, Option, None, Some}
use Rattle.contexts.specs.declared.parts.Contexts.{Contexts}
use Rattle.filter_host.specs.Called.{Called}
use Rattle.filter_host.specs.Course.{Course, ends, Goes, Ends}
use Rattle.filter_host.specs.Runs.{goes_still, goes_heard, goes_as}
use Rattle.filter_host.specs.declared.host.Callback.{Callback}
use Rattle.h1_model.specs.Unread.{Reading}
use Rattle.store_model.specs.Made.{Made}
use Rattle.store_model.specs.Program.{Program}
use Rattle.worker_model.specs.Room.{Room}
use Rattle.worker_model.specs.declared.types.ContextAt.{ContextAt}
use Rattle.worker_model.specs.declared.types.Job.{Job}
use Rattle.worker_model.specs.declared.types.Job.TheVariants as jobs
use Rattle.worker_model.specs.declared.types.OtherStep.{OtherStep}
use Rattle.worker_model.specs.declared.types.ReadBatch.{ReadBatch}
use Rattle.worker_model.specs.Plan.{Plan}
use Rattle.worker_model.specs.Steps.{Both, both, works, works_life, run_silent_job, reads_in, reads_next, ReadSo, ReadOn, after_heard, reading_on}

-- the end that a part has come to is the function's
pub room_ends_on : {S H C E : Type 0} {performs : S → List Made → S → Type 0} {s t : S} {p : Course (Both H)} (host : H) (a b : Room) (r : Result C E) → OnOk r (b ≡ a)
    → Goes performs s p (ends (both host a)) t → Ends performs s p (λ _. both host b) r t
room_ends_on host a b (Ok x) is goes = goes_as goes (λ i. ends (both host (sym is i)))
room_ends_on host a b (Err e) is goes = (_, goes)

-- the same of a course that is spelled otherwise
pub ends_as : {S A B E : Type 0} (performs : S → List Made → S → Type 0) (s t : S) (p q : Course A) (view : B → A) (r : Result B E) → p ≡ q → Ends performs s p view r t
    → Ends performs s q view r t
ends_as performs s t p q view r same is = subst (λ (x : Course _). Ends performs s x view r t) same is

-- where there is no result, it was cut short
pub cut_of : {S A B E : Type 0} (performs : S → List Made → S → Type 0) (s t : S) (p : Course A) (view : B → A) (r : Result B E) → ((x : B) → r ≡ Ok x → ⊥) → Ends performs s p view r t
    → (q : Course A) × Goes performs s p q t
cut_of performs s t p view (Ok x) other is = absurd (other x refl)
cut_of performs s t p view (Err e) other is = is

module _ {S : Type 0} (performs : S → List Made → S → Type 0) (s : S) (here : performs s [] s) where
  -- nothing was called
  pub quiet_ends : {H C E : Type 0} (host : H) (a b : Room) (r : Result C E) → OnOk r (b ≡ a) → Ends performs s (ends (both host a)) (λ _. both host b) r s
  quiet_ends host a b r is = room_ends_on host a b r is (goes_still performs s s (ends (both host a)) here)

  reads_so : {H : Type 0} (plan : Plan) (host : H) (r : ReadBatch) (o : Option Reading) (old new : Room) → ReadSo plan r o old new
      → Goes performs s (reads_in plan r o host old) (ends (both host new)) s
  reads_so plan host r None old new is = goes_as (goes_still performs s s (ends (both host (record old { reading = None }))) here) (λ i. ends (both host (sym is i)))
  reads_so plan host r (Some reading) old new is =
      goes_as (goes_heard performs s reading (λ h. ends (both host (after_heard plan r h (record old { reading = None })))) is.0 here is.1) (λ i. ends (both host (sym is.2 i)))

  reads_go : {H : Type 0} (plan : Plan) (host : H) (o : Option ReadBatch) (old new : Room) → ReadOn plan o old new → Goes performs s (reads_next plan o host old) (ends (both host new)) s
  reads_go plan host None old new is = goes_as (goes_still performs s s (ends (both host old)) here) (λ i. ends (both host (sym is i)))
  reads_go plan host (Some r) old new is = reads_so plan host r (reading_on r old) old new is

  pub reads_ends : {H C E : Type 0} (plan : Plan) (host : H) (o : Option ReadBatch) (old new : Room) (r : Result C E) → OnOk r (ReadOn plan o old new)
      → Ends performs s (reads_next plan o host old) (λ _. both host new) r s
  reads_ends plan host o old new (Ok x) is = reads_go plan host o old new is
  reads_ends plan host o old new (Err e) is = (_, goes_still performs s s (reads_next plan o host old) here)

  -- a job that calls nothing
  pub life_quietly : {H C E : Type 0} (calling : H → ℕ → Callback → ℕ → ℕ → ℕ → ℕ → Contexts → Program (Called H)) (job : Job) (host : H) (room new : Room) (r : Result C E)
      → ((vm : ℕ) → job ≡ jobs.Begin vm → ⊥) → ((vm root : ℕ) → job ≡ jobs.Start vm root → ⊥) → ((vm root plugin : ℕ) → job ≡ jobs.Configure vm root plugin → ⊥)
      → ((x : ContextAt) → job ≡ jobs.Done x → ⊥) → ((x : ContextAt) → job ≡ jobs.Log x → ⊥) → ((x : ContextAt) → job ≡ jobs.Delete x → ⊥)
      → OnOk r (new ≡ run_silent_job job room) → Ends performs s (works_life calling job host room) (λ _. both host new) r s
  life_quietly calling (jobs.Begin vm) host room new r a b c d e f is = absurd (a vm refl)
  life_quietly calling (jobs.Root vm plugin first) host room new r a b c d e f is = quiet_ends host (run_silent_job (jobs.Root vm plugin first) room) new r is
  life_quietly calling (jobs.Start vm root) host room new r a b c d e f is = absurd (b vm root refl)
  life_quietly calling (jobs.Configure vm root plugin) host room new r a b c d e f is = absurd (c vm root plugin refl)
  life_quietly calling (jobs.Tick vm root) host room new r a b c d e f is = quiet_ends host (run_silent_job (jobs.Tick vm root) room) new r is
  life_quietly calling jobs.Expire host room new r a b c d e f is = quiet_ends host (run_silent_job jobs.Expire room) new r is
  life_quietly calling (jobs.Happen what) host room new r a b c d e f is = quiet_ends host (run_silent_job (jobs.Happen what) room) new r is
  life_quietly calling (jobs.Create number k) host room new r a b c d e f is = quiet_ends host (run_silent_job (jobs.Create number k) room) new r is
  life_quietly calling (jobs.Enter number) host room new r a b c d e f is = quiet_ends host (run_silent_job (jobs.Enter number) room) new r is
  life_quietly calling (jobs.Put number response items) host room new r a b c d e f is = quiet_ends host (run_silent_job (jobs.Put number response items) room) new r is
  life_quietly calling (jobs.Refuse number status) host room new r a b c d e f is = quiet_ends host (run_silent_job (jobs.Refuse number status) room) new r is
  life_quietly calling (jobs.Done x) host room new r a b c d e f is = absurd (d x refl)
  life_quietly calling (jobs.Log x) host room new r a b c d e f is = absurd (e x refl)
  life_quietly calling (jobs.Delete x) host room new r a b c d e f is = absurd (f x refl)
  life_quietly calling (jobs.Close number stays) host room new r a b c d e f is = quiet_ends host (run_silent_job (jobs.Close number stays) room) new r is
  life_quietly calling (jobs.Notice vm left) host room new r a b c d e f is = quiet_ends host (run_silent_job (jobs.Notice vm left) room) new r is
  life_quietly calling (jobs.Ready vm root queue) host room new r a b c d e f is = quiet_ends host (run_silent_job (jobs.Ready vm root queue) room) new r is
  life_quietly calling (jobs.Other step) host room new r a b c d e f is = quiet_ends host (run_silent_job (jobs.Other step) room) new r is

-- a job that makes no context, calls for no tick and no item, and is of HTTP
pub works_on : {H : Type 0} (calling : H → ℕ → Callback → ℕ → ℕ → ℕ → ℕ → Contexts → Program (Called H)) (plan : Plan) (job : Job) (host : H) (room : Room)
    → ((vm plugin : ℕ) (first : Bool) → job ≡ jobs.Root vm plugin first → ⊥) → ((number k : ℕ) → job ≡ jobs.Create number k → ⊥) → ((vm root : ℕ) → job ≡ jobs.Tick vm root → ⊥)
    → ((vm left : ℕ) → job ≡ jobs.Notice vm left → ⊥) → ((vm root queue : ℕ) → job ≡ jobs.Ready vm root queue → ⊥)
    → ((step : OtherStep) → job ≡ jobs.Other step → ⊥) → works_life calling job host room ≡ works calling plan job host room
works_on calling plan (jobs.Begin vm) host room a b c d e f = refl
works_on calling plan (jobs.Root vm plugin first) host room a b c d e f = absurd (a vm plugin first refl)
works_on calling plan (jobs.Start vm root) host room a b c d e f = refl
works_on calling plan (jobs.Configure vm root plugin) host room a b c d e f = refl
works_on calling plan (jobs.Tick vm root) host room a b c d e f = absurd (c vm root refl)
works_on calling plan jobs.Expire host room a b c d e f = refl
works_on calling plan (jobs.Happen what) host room a b c d e f = refl
works_on calling plan (jobs.Create number k) host room a b c d e f = absurd (b number k refl)
works_on calling plan (jobs.Enter number) host room a b c d e f = refl
works_on calling plan (jobs.Put number response items) host room a b c d e f = refl
works_on calling plan (jobs.Refuse number status) host room a b c d e f = refl
works_on calling plan (jobs.Done x) host room a b c d e f = refl
works_on calling plan (jobs.Log x) host room a b c d e f = refl
works_on calling plan (jobs.Delete x) host room a b c d e f = refl
works_on calling plan (jobs.Close number stays) host room a b c d e f = refl
works_on calling plan (jobs.Notice vm left) host room a b c d e f = absurd (d vm left refl)
works_on calling plan (jobs.Ready vm root queue) host room a b c d e f = absurd (e vm root queue refl)
works_on calling plan (jobs.Other step) host room a b c d e f = absurd (f step refl)
