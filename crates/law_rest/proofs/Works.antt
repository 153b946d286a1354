-- EACH JOB leaves less to do, whatever it calls does.
use Rattle.std.proofs.Common.{ℕ, suc, ◌+◌, ◌*◌, ◌≤◌, Bool, true, false, [], ◌∷◌, ◌++◌, arith}
use Rattle.std.proofs.lemmas.Bool.{eqb-false}
use Rattle.std.specs.Prelude.{Option, None, Some, not, nat_lt, ◌==◌, ◌&&◌, ◌||◌}
use Rattle.callouts.specs.declared.types.CallStep.TheVariants as steps
use Rattle.contexts.specs.Creating.{delete_id}
use Rattle.contexts.specs.declared.parts.Contexts.{Contexts}
use Rattle.contexts.specs.declared.parts.Tick.{Tick}
use Rattle.contexts.specs.Reached.{vm_in, tick_in, contains, seen}
use Rattle.filter_host.specs.Called.{Called}
use Rattle.filter_host.specs.Course.{Course}
use Rattle.filter_host.specs.declared.host.Callback.{Callback}
use Rattle.filter_host.specs.declared.host.Callback.TheVariants as callbacks
use Rattle.filter_host.specs.declared.host.Death.{Death}
use Rattle.filter_host.specs.declared.host.Death.TheVariants as deaths
use Rattle.filter_host.proofs.Holds.{AllEnds}
use Rattle.store_model.specs.Program.{Program}
use Rattle.worker_model.specs.Room.{Room}
use Rattle.worker_model.specs.declared.types.ContextAt.{ContextAt}
use Rattle.worker_model.specs.declared.types.Job.{Job}
use Rattle.worker_model.specs.declared.types.Job.TheVariants as jobs
use Rattle.worker_model.specs.declared.types.NewContext.{NewContext}
use Rattle.worker_model.specs.declared.types.OtherStep.TheVariants as others
use Rattle.worker_model.specs.Plan.{Plan}
use Rattle.worker_model.specs.Rooms.{is_dead}
use Rattle.worker_model.specs.Steps.{Both, nothing_more, with_jobs_first, is_zero, unless_zero, has_vm, await_done, last_jobs, finish_context, delete_context, create_root, line_in, may_stream, create_context, enter_stages, is_due_tick, next_tick, with_tick, tick_of, tick_root, tells, starts, made_with, ticks_with, tells_ready, notice_step, works, vm_length, plugin_length}
use Rattle.exchange.specs.Passing.{put_read_items}
use Rattle.law_rest.specs.Moves.{for_each}
use Rattle.law_rest.specs.Left.{job_left, jobs_left}
use Rattle.law_rest.proofs.Callouts.{works_call_most}
use Rattle.law_rest.proofs.Jobs.{in_front_most, rooting_most, creating_most, entered_leaves, put_leaves, refuses_line_most, expires_most, line_ends_most, happens_most, noticed_most}
use Rattle.law_rest.proofs.Rooms.{AtMost, at_most_more, on_number_most, contexts_most, died_most, calls_live_most}
use Rattle.law_rest.proofs.Sums.{for_each-append}
use Rattle.law_rest.proofs.Tests.{of_if, neither}

-- ---- what comes behind callbacks

zero_most : (s m vm : ℕ) (death : Death) (value : Option (Option ℕ)) (room : Room) → AtMost s m room → AtMost s m (unless_zero vm death value room)
zero_most s m vm death None room a = a
zero_most s m vm death (Some value) room a = of_if (λ (r : Room). AtMost s m r) (is_zero value) _ _ (λ is. died_most s m vm death room a) (λ is. a)

waits_most : (s m : ℕ) (c : ContextAt) (room : Room) → AtMost s m room → AtMost s (m + 3) (await_done c room)
waits_most s m c room a =
    of_if (λ (r : Room). AtMost s (m + 3) r) (has_vm c.vm room.hub.contexts) _ _
    (λ is. contexts_most s (m + 3) _ (record room { waits = room.waits ++ c ∷ [] }) (record { fit = a.fit; few = omega (arith, a.few, for_each-append 3 room.waits (c ∷ [])) }))
    (λ is. at_most_more s m (m + 3) room (omega arith) a)

last_most : (s m : ℕ) (c : ContextAt) (room : Room) → AtMost s m room → AtMost s (m + 3) (with_jobs_first (last_jobs c) room)
last_most s m c room a = at_most_more s (m + jobs_left s (last_jobs c)) (m + 3) (with_jobs_first (last_jobs c) room) (omega arith) (in_front_most s m (last_jobs c) room a)

done_most : (s m : ℕ) (c : ContextAt) (value : Option (Option ℕ)) (room : Room) → AtMost s m room → AtMost s (m + 3) (finish_context c value room)
done_most s m c None room a = last_most s m c room a
done_most s m c (Some value) room a = of_if (λ (r : Room). AtMost s (m + 3) r) (is_zero value) _ _ (λ is. waits_most s m c room a) (λ is. last_most s m c room a)

deletes_most : (s m : ℕ) (c : ContextAt) (value : Option (Option ℕ)) (room : Room) → AtMost s m room → AtMost s m (delete_context c value room)
deletes_most s m c value room a =
    of_if (λ (r : Room). AtMost s m r) (has_vm c.vm room.hub.contexts && contains c.context (seen room.hub.contexts c.vm).common.ids) _ _
    (λ is. contexts_most s m (delete_id c.vm c.context room.hub.contexts) room a) (λ is. a)

ticked_most : (s m vm root : ℕ) (o : Option (Option Tick)) (room : Room) → AtMost s m room → AtMost s m (tick_of vm root o room).1
ticked_most s m vm root None room a = a
ticked_most s m vm root (Some None) room a = a
ticked_most s m vm root (Some (Some t)) room a =
    of_if (λ (r : Bool × Room). AtMost s m r.1) (is_due_tick room.hub.moment t && has_vm vm room.hub.contexts) _ _
    (λ is. contexts_most s m (with_tick vm root (next_tick room.hub.moment t) room.hub.contexts) room a) (λ is. a)

module _ {H : Type 0} (calling : H → ℕ → Callback → ℕ → ℕ → ℕ → ℕ → Contexts → Program (Called H)) (s : ℕ) where
  tells_most : (m vm : ℕ) (name : Callback) (context first : ℕ) (host : H) (room : Room) → AtMost s m room
      → AllEnds (λ (b : Both H). AtMost s m b.room) (tells calling vm name context first host room)
  tells_most m vm name context first host room a = calls_live_most calling s m m vm name context first 0 nothing_more host room a (λ value r here. here)

  starts_most : (m vm : ℕ) (name : Callback) (root size : ℕ) (death : Death) (host : H) (room : Room) → AtMost s m room
      → AllEnds (λ (b : Both H). AtMost s m b.room) (starts calling vm name root size death host room)
  starts_most m vm name root size death host room a =
      calls_live_most calling s m m vm name root size 0 (unless_zero vm death) host room a (λ value r here. zero_most s m vm death value r here)

  made_most : (m : ℕ) (host : H) (r : Option NewContext × Room) → AtMost s m r.1 → AllEnds (λ (b : Both H). AtMost s m b.room) (made_with calling host r)
  made_most m host (None, room) a = a
  made_most m host (Some c, room) a = tells_most m c.vm callbacks.ContextCreate c.context c.root host room a

  ticks_most : (m vm root : ℕ) (host : H) (r : Bool × Room) → AtMost s m r.1 → AllEnds (λ (b : Both H). AtMost s m b.room) (ticks_with calling vm root host r)
  ticks_most m vm root host (due, room) a =
      of_if (λ (c : Course (Both H)). AllEnds (λ (b : Both H). AtMost s m b.room) c) due _ _ (λ is. tells_most m vm callbacks.Tick root 0 host room a) (λ is. a)

  ready_most : (m vm root queue : ℕ) (host : H) (room : Room) → AtMost s m room → AllEnds (λ (b : Both H). AtMost s m b.room) (tells_ready calling vm root queue host room)
  ready_most m vm root queue host room a =
      of_if (λ (c : Course (Both H)). AllEnds (λ (b : Both H). AtMost s m b.room) c) (may_stream vm root room.hub.contexts) _ _
      (λ is. tells_most m vm callbacks.QueueReady root queue host room a) (λ is. a)

  notices_most : (plan : Plan) (m n vm more : ℕ) (host : H) (room : Room) → m + job_left s (jobs.Notice vm more) ≤ suc n → AtMost s m room
      → AllEnds (λ (b : Both H). AtMost s n b.room) (notice_step plan vm more host room)
  notices_most plan m n vm more host room less a =
      of_if (λ (c : Course (Both H)). AllEnds (λ (b : Both H). AtMost s n b.room) c) ((more == 0 || is_dead vm room) || not (nat_lt vm plan.vms)) _ _
      (λ is. at_most_more s m n room (omega arith) a)
      (λ is.
      let each = neither (more == 0 || is_dead vm room) (not (nat_lt vm plan.vms)) is in
      let none = neither (more == 0) (is_dead vm room) each.0 in
      λ reply. noticed_most s m n vm more reply room (eqb-false more 0 none.0) less a)

  -- A JOB
  pub works_most : (plan : Plan) (m n : ℕ) (job : Job) (host : H) (room : Room) → m + job_left s job ≤ suc n → AtMost s m room
      → AllEnds (λ (b : Both H). AtMost s n b.room) (works calling plan job host room)
  works_most plan m n (jobs.Root vm plugin first) host room less a =
      made_most n host (create_root vm plugin first room) (at_most_more s (m + 2) n (create_root vm plugin first room).1 (omega arith) (rooting_most s m vm plugin first room a))
  works_most plan m n (jobs.Create number k) host room less a =
      made_most n host (create_context number k room) (at_most_more s m n (create_context number k room).1 (omega arith) (creating_most s m number k room a))
  works_most plan m n (jobs.Tick vm root) host room less a =
      ticks_most n vm root host (tick_root vm root room) (at_most_more s m n (tick_root vm root room).1 (omega arith) (ticked_most s m vm root (tick_in (vm_in room.hub.contexts vm).contexts root) room a))
  works_most plan m n (jobs.Notice vm more) host room less a = notices_most plan m n vm more host room less a
  works_most plan m n (jobs.Ready vm root queue) host room less a = ready_most n vm root queue host room (at_most_more s m n room (omega arith) a)
  works_most plan m n (jobs.Other (others.Call step)) host room less a = works_call_most calling s m n step host room less a
  works_most plan m n (jobs.Other (others.Tcp step)) host room less a = at_most_more s m n room (omega arith) a
  works_most plan m n (jobs.Begin vm) host room less a = tells_most n vm callbacks.Begin 0 0 host room (at_most_more s m n room (omega arith) a)
  works_most plan m n (jobs.Start vm root) host room less a =
      starts_most n vm callbacks.VmStart root (vm_length vm room.hub.contexts) deaths.Start host room (at_most_more s m n room (omega arith) a)
  works_most plan m n (jobs.Configure vm root plugin) host room less a =
      starts_most n vm callbacks.Configure root (plugin_length plugin room.hub.contexts) deaths.Configure host room (at_most_more s m n room (omega arith) a)
  works_most plan m n (jobs.Done c) host room less a =
      calls_live_most calling s m n c.vm callbacks.Done c.context 0 0 (finish_context c) host room a
      (λ value r here. at_most_more s (m + 3) n (finish_context c value r) (omega arith) (done_most s m c value r here))
  works_most plan m n (jobs.Log c) host room less a = tells_most n c.vm callbacks.Log c.context 0 host room (at_most_more s m n room (omega arith) a)
  works_most plan m n (jobs.Delete c) host room less a =
      calls_live_most calling s n n c.vm callbacks.Delete c.context 0 0 (delete_context c) host room (at_most_more s m n room (omega arith) a) (λ value r here. deletes_most s n c value r here)
  works_most plan m n jobs.Expire host room less a = at_most_more s m n _ (omega arith) (expires_most s m room a)
  works_most plan m n (jobs.Happen what) host room less a = at_most_more s _ n _ (omega arith) (happens_most s m what room a)
  works_most plan m n (jobs.Enter number) host room less a =
      at_most_more s (m + 4 * s) n _ (omega arith) (on_number_most s m (4 * s) (enter_stages room.dead) number room a (λ k x hub fits. entered_leaves s room.dead x fits))
  works_most plan m n (jobs.Put number response items) host room less a =
      at_most_more s (m + for_each (s + s) items) n _ (omega arith) (on_number_most s m (for_each (s + s) items) (put_read_items response items) number room a (put_leaves s response items))
  works_most plan m n (jobs.Refuse number status) host room less a =
      at_most_more s m n _ (omega arith) (refuses_line_most s m number status (line_in number room.lines) room a)
  works_most plan m n (jobs.Close number stays) host room less a = line_ends_most s m n (line_in number room.lines) number stays room less a

-- each job is a step
pub job_some : (s : ℕ) (job : Job) → 1 ≤ job_left s job
job_some s (jobs.Begin vm) = omega arith
job_some s (jobs.Root vm plugin first) = omega arith
job_some s (jobs.Start vm root) = omega arith
job_some s (jobs.Configure vm root plugin) = omega arith
job_some s (jobs.Tick vm root) = omega arith
job_some s jobs.Expire = omega arith
job_some s (jobs.Happen what) = omega arith
job_some s (jobs.Create number k) = omega arith
job_some s (jobs.Enter number) = omega arith
job_some s (jobs.Put number response items) = omega arith
job_some s (jobs.Refuse number status) = omega arith
job_some s (jobs.Done c) = omega arith
job_some s (jobs.Log c) = omega arith
job_some s (jobs.Delete c) = omega arith
job_some s (jobs.Close number true) = omega arith
job_some s (jobs.Close number false) = omega arith
job_some s (jobs.Notice vm more) = omega arith
job_some s (jobs.Ready vm root queue) = omega arith
job_some s (jobs.Other (others.Call (steps.Comes what))) = omega arith
job_some s (jobs.Other (others.Call (steps.Read id))) = omega arith
job_some s (jobs.Other (others.Call (steps.Fail id))) = omega arith
job_some s (jobs.Other (others.Call (steps.Answer id))) = omega arith
job_some s (jobs.Other (others.Tcp step)) = omega arith
