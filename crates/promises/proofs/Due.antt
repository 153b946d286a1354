-- What is due is among the parts of a turn.
use Rattle.std.proofs.Common.{◌≡◌, ◌<◌, ℕ, zero, suc, Bool, true, false, if◌then◌else◌, List, [], ◌∷◌, ◌++◌, Option, Some, sym, ap, ◌∙◌, subst, arith, ⊎_elim}
use Rattle.std.specs.Prelude.{Contains, slice_get}
use Rattle.std.proofs.lemmas.Bool.{cases_eq}
use Rattle.std.proofs.lemmas.List.Elements.{Contains-append_left, Contains-append_right, Contains-push}
use Rattle.contexts.specs.Reached.{vm_in}
use Rattle.contexts.specs.declared.parts.Context.{Context}
use Rattle.contexts.specs.declared.parts.Contexts.{Contexts}
use Rattle.contexts.specs.declared.parts.Tick.{Tick}
use Rattle.gate_io.specs.declared.event.What.{What}
use Rattle.worker_model.specs.Plan.{Plan}
use Rattle.worker_model.specs.Room.{Room}
use Rattle.worker_model.specs.Steps.{is_due_tick}
use Rattle.worker_model.specs.Turn.{agenda_of, at_moment, calls_due, deadline_jobs, happening, is_due_now, new_ticks, notice_of, notices_of, registers_at, start_jobs, ticks_due, ticks_in, ticks_of, vms_in}
use Rattle.worker_model.specs.declared.types.Job.{Job}
use Rattle.worker_model.specs.declared.types.Job.TheVariants as jobs
use Rattle.promises.specs.Due.{DueComes}
use Rattle.promises.proofs.Files.{some_same}

here : (job : Job) (more : List Job) → Contains (job ∷ more) job
here job more = Contains-append_left (job ∷ []) more job (Contains-push [] job)

after : (one job : Job) (more : List Job) → Contains more job → Contains (one ∷ more) job
after one job more there = Contains-append_right (one ∷ []) more job there

in_if : (b : Bool) (one job : Job) (more : List Job) → Contains more job → Contains (if b then one ∷ more else more) job
in_if true one job more there = after one job more there
in_if false one job more there = there

less_of : (v n : ℕ) → v < suc n → (v ≡ n → ⊥) → v < n
less_of v n low apart = omega (arith, low, apart)

-- ---- ticks

tick_in : (now vm : ℕ) (cs : List Context) (i : ℕ) (c : Context) → slice_get cs i ≡ Some c → is_due_now now c.tick ≡ true → Contains (ticks_in now vm cs) (jobs.Tick vm c.id)
tick_in now vm [] zero c at due = absurd (cc at)
tick_in now vm [] (suc i) c at due = absurd (cc at)
tick_in now vm (x ∷ cs) zero c at due =
    let same : x ≡ c = some_same x c at in
    subst (λ (job : Job). Contains (ticks_in now vm (x ∷ cs)) job) (ap (λ (y : Context). jobs.Tick vm y.id) same)
    (subst (λ (b : Bool). Contains (if b then jobs.Tick vm x.id ∷ ticks_in now vm cs else ticks_in now vm cs) (jobs.Tick vm x.id)) (sym (ap (λ (y : Context). is_due_now now y.tick) same ∙ due))
    (here (jobs.Tick vm x.id) (ticks_in now vm cs)))
tick_in now vm (x ∷ cs) (suc i) c at due =
    in_if (is_due_now now x.tick) (jobs.Tick vm x.id) (jobs.Tick vm c.id) (ticks_in now vm cs) (tick_in now vm cs i c at due)

tick_of : (now n : ℕ) (h : Contexts) (vm : ℕ) (job : Job) → vm < n → Contains (ticks_in now vm (vm_in h vm).contexts) job → Contains (ticks_of now n h) job
tick_of now zero h vm job low has = absurd (omega (arith, low))
tick_of now (suc n) h vm job low has =
    ⊎_elim
    (λ (same : vm ≡ n). Contains-append_right (ticks_of now n h) (ticks_in now n (vm_in h n).contexts) job (subst (λ (k : ℕ). Contains (ticks_in now k (vm_in h k).contexts) job) same has))
    (λ (apart : vm ≡ n → ⊥). Contains-append_left (ticks_of now n h) (ticks_in now n (vm_in h n).contexts) job (tick_of now n h vm job (less_of vm n low apart) has))
    (cases_eq vm n)

-- ---- notices

notice_in : (plan : Plan) (vm : ℕ) → slice_get plan.registers vm ≡ Some true → Contains (notice_of plan vm) (jobs.Notice vm 16)
notice_in plan vm is = subst (λ (o : Option Bool). Contains (if registers_at o then jobs.Notice vm 16 ∷ [] else []) (jobs.Notice vm 16)) (sym is) (here (jobs.Notice vm 16) [])

notice_among : (plan : Plan) (n vm : ℕ) (job : Job) → vm < n → Contains (notice_of plan vm) job → Contains (notices_of plan n) job
notice_among plan zero vm job low has = absurd (omega (arith, low))
notice_among plan (suc n) vm job low has =
    ⊎_elim
    (λ (same : vm ≡ n). Contains-append_right (notices_of plan n) (notice_of plan n) job (subst (λ (k : ℕ). Contains (notice_of plan k) job) same has))
    (λ (apart : vm ≡ n → ⊥). Contains-append_left (notices_of plan n) (notice_of plan n) job (notice_among plan n vm job (less_of vm n low apart) has))
    (cases_eq vm n)

-- ---- the parts of a turn

abbrev event_on : Plan → What → Room → List Job
event_on plan what room = happening what room ++ notices_of plan (vms_in room)

abbrev calls_on : Plan → What → Room → List Job
calls_on plan what room = calls_due room ++ event_on plan what room

abbrev deadlines_on : Plan → What → Room → List Job
deadlines_on plan what room = deadline_jobs plan ++ calls_on plan what room

tick_among : (plan : Plan) (what : What) (room : Room) (vm i : ℕ) (c : Context) (t : Tick) → vm < vms_in room → slice_get (vm_in room.hub.contexts vm).contexts i ≡ Some c → c.tick ≡ Some t
    → is_due_tick room.hub.moment t ≡ true → Contains (agenda_of plan what room) (jobs.Tick vm c.id)
tick_among plan what room vm i c t low at tick due =
    let job : Job = jobs.Tick vm c.id in
    let has = tick_in room.hub.moment vm (vm_in room.hub.contexts vm).contexts i c at (ap (is_due_now room.hub.moment) tick ∙ due) in
    Contains-append_right (start_jobs room) (ticks_due room ++ deadlines_on plan what room) job
    (Contains-append_left (ticks_due room) (deadlines_on plan what room) job
    (Contains-append_left (ticks_of room.hub.moment (vms_in room) room.hub.contexts) (new_ticks room) job (tick_of room.hub.moment (vms_in room) room.hub.contexts vm job low has)))

notice_there : (plan : Plan) (what : What) (room : Room) (vm : ℕ) → vm < vms_in room → slice_get plan.registers vm ≡ Some true → Contains (agenda_of plan what room) (jobs.Notice vm 16)
notice_there plan what room vm low is =
    let job : Job = jobs.Notice vm 16 in
    Contains-append_right (start_jobs room) (ticks_due room ++ deadlines_on plan what room) job
    (Contains-append_right (ticks_due room) (deadlines_on plan what room) job
    (Contains-append_right (deadline_jobs plan) (calls_on plan what room) job
    (Contains-append_right (calls_due room) (event_on plan what room) job
    (Contains-append_right (happening what room) (notices_of plan (vms_in room)) job (notice_among plan (vms_in room) vm job low (notice_in plan vm is))))))

pub due_comes : DueComes
due_comes = record {
  ticks = λ plan event room. tick_among plan event.what (at_moment event.now room);
  notices = λ plan event room. notice_there plan event.what (at_moment event.now room);
}
