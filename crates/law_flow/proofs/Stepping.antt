-- Why steps that are none of a direction resume stages of it, or leave it as it was.
use Rattle.std.proofs.Common.{◌≡◌, ℕ, Bool, true, false, not, ◌||◌, ◌==◌, List, [], ◌∷◌, ap, ◌∙◌, sym, refl, subst}
use Rattle.callouts.specs.Callouts.{callout_in, after_heard as after_part_heard}
use Rattle.callouts.specs.Steps.{after_event, after_read}
use Rattle.callouts.specs.declared.types.Callout.{Callout}
use Rattle.contexts.specs.declared.parts.CallAnswer.{CallAnswer}
use Rattle.filter_host.proofs.Holds.{all_reached}
use Rattle.filter_host.specs.Called.{Calling}
use Rattle.std.specs.Prelude.{Option, None, Some, slice_get, nat_lt, if◌then◌else◌}
use Rattle.filter_host.specs.Course.{Course, ends, Met, called, measured, heard, Reaches}
use Rattle.filter_host.specs.declared.host.Callback.{Callback}
use Rattle.filter_host.specs.declared.host.Callback.TheVariants as callbacks
use Rattle.filter_host.specs.declared.host.Death.TheVariants as deaths
use Rattle.exchange.specs.declared.types.Exchange.{Exchange}
use Rattle.exchange.specs.declared.types.Hub.{Hub}
use Rattle.exchange.specs.Passing.{chain_of, put_read_items}
use Rattle.worker_model.specs.Room.{Room}
use Rattle.worker_model.specs.declared.types.ContextAt.{ContextAt}
use Rattle.worker_model.specs.declared.types.Job.{Job}
use Rattle.worker_model.specs.declared.types.Job.TheVariants as jobs
use Rattle.worker_model.specs.declared.types.NewContext.{NewContext}
use Rattle.worker_model.specs.declared.types.Next.{Next}
use Rattle.worker_model.specs.declared.types.Owner.TheVariants as owns
use Rattle.worker_model.specs.Calls.{take_call_event, answer_if, put_call_answer, has_listener, close_call}
use Rattle.worker_model.specs.Plan.{Plan}
use Rattle.worker_model.specs.Rooms.{place_in, on_number, lose_vm_in, is_dead}
use Rattle.worker_model.specs.Steps.{Both, both, starts, finishes, forgets, end_at, begin_first_job, release as free_one, is_zero, with_jobs_first, unless_zero, last_jobs, await_done, finish_context, delete_context, vm_length, plugin_length, tick_root, may_stream, create_root, create_context, run_silent_job, take_notice_reply, ask_notice, made_one, calls_live, tells, reads_call, drop_answer, tells_call, ends_call, works, works_first, step}
use Rattle.law_chain.specs.Acts.{AreThere, HoldSame}
use Rattle.law_flow.specs.Besides.{IsWhole}
use Rattle.law_chain.specs.Acts.{NotOf}
use Rattle.law_flow.specs.Elsewhere.{behind_effects}
use Rattle.law_flow.specs.Rooms.{IsOn, Leaves, leaves, Meanwhile, nothing, other}
use Rattle.law_flow.specs.Stepping.{in_hand, Tells, TellsThen, OutlivesBeside, TellsZero, TellsCall, MayJob, begin, root, start, configure, tick, expire, happen, create, enter, put_across, put_elsewhere, refuse, done, log, delete, close, notice, ready, call_comes, call_read, call_fails, call_answered, tcp_step, dies_at_work, start_refused, configure_refused, MayWork, no_job, first_job, MayBeside, reads, moves_across, moves_elsewhere, dies_elsewhere, works as works_on, frees, ends_other, begins, stops, StepsBeside}
use Rattle.law_body.proofs.Apart.{exchanges_pass_by}
use Rattle.law_flow.proofs.Besides.{stays, other_lines, other_direction, quiet_steps}
use Rattle.law_flow.proofs.Callouts.{takes_after, closes_call, puts_answer}
use Rattle.law_flow.proofs.Contexts.{contexts_leave, calls_are}
use Rattle.law_flow.proofs.Deaths.{all_lines_leave}
use Rattle.law_flow.proofs.DeathsBeside.{Comes, moved_died, job_died}
use Rattle.law_flow.proofs.Elsewhere.{other_lines_move, other_direction_moves}
use Rattle.law_flow.proofs.Events.{events_leave}
use Rattle.law_flow.proofs.Jobs.{jobs_leave, tells_are}
use Rattle.law_flow.proofs.Readings.{reading_leaves}

by_bool : {A : Type 0} (P : A → Type 0) (b : Bool) (a c : A) → (b ≡ true → P a) → (b ≡ false → P c) → P (if b then a else c)
by_bool P true a c here there = here refl
by_bool P false a c here there = there refl

left_so : {response : Bool} {n count : ℕ} {x y : Exchange} {room after : Room} → Leaves response n x room y after → Meanwhile response n count x room y after
left_so {response} {n} {count} {x} {y} {room} {after} l = other (leaves l) (nothing y after)

-- first this, and then what comes of it
behind : {response : Bool} {n count : ℕ} {x y : Exchange} {room mid after : Room} → Leaves response n x room y mid → Comes response n count y mid after → Comes response n count x room after
behind l later = (later.0, other (leaves l) later.1)

module _ {H : Type 0} (calling : Calling H) (plan : Plan) (response : Bool) (n count : ℕ) where
  ended_as : (x y : Exchange) (room after : Room) (host : H) (b : Both H) (ns : List Met) → Leaves response n x room y after → Reaches (ends (both host after)) ns (ends b)
      → Comes response n count x room b.room
  ended_as x y room after host b [] l is =
      let is_b : b ≡ both host after = sym (cc) in
      subst (λ (d : Both H). Comes response n count x room d.room) (sym is_b) (y, left_so l)
  ended_as x y room after host b (m ∷ ns) l is = absurd is

  told : (x : Exchange) (host : H) (room : Room) (vm : ℕ) (name : Callback) (context first : ℕ) (b : Both H) (ms : List Met) → IsOn n room x
      → Tells calling response n count x host ms room vm name context first → Reaches (tells calling vm name context first host room) ms (ends b) → Comes response n count x room b.room
  told x host room vm name context first b ms on may reaches =
      tells_are H calling response n count vm name context first x room on host ms b (λ c reached. may c reached) reaches

  -- a VM is started or configured
  not_zero : (vm : ℕ) (death : _) (value : Option ℕ) (room : Room) → is_zero value ≡ false → unless_zero vm death (Some value) room ≡ room
  not_zero vm death value room no_ = ap (λ (b : Bool). if b then lose_vm_in vm death room else room) no_

  started : (x : Exchange) (host : H) (room : Room) (vm at size : ℕ) (name : Callback) (death : _) (b : Both H) (ms : List Met) → IsOn n room x → IsWhole response x room
      → TellsThen calling response n count x host ms room vm name at size (λ value z r. is_zero value ≡ false)
      → Reaches (starts calling vm name at size death host room) ms (ends b) → Comes response n count x room b.room
  started x host room vm at size name death b ms on whole may reaches =
      calls_are H calling response n count vm name at size 0 (unless_zero vm death) x room on host ms b (x, stays response n x room on whole)
      (λ c reached.
      let both_ = may c reached in (
        both_.0,
        λ z z_on.
            let r : Room = behind_effects vm owns.Nobody c room in (
              z,
              subst (λ (q : Room). Leaves response n z r z q) (sym (not_zero vm death both_.0.value r (both_.1 z z_on).1)) (stays response n z r z_on (both_.1 z z_on).0),
            ),
      ))
      reaches

  -- and where that returned 0, its VM is dead
  zero : (vm : ℕ) (death : _) (value : Option ℕ) (room : Room) → is_zero value ≡ true → unless_zero vm death (Some value) room ≡ lose_vm_in vm death room
  zero vm death value room is = ap (λ (b : Bool). if b then lose_vm_in vm death room else room) is

  refused : (x : Exchange) (host : H) (room : Room) (vm at size : ℕ) (name : Callback) (death : _) (b : Both H) (ms : List Met) → IsOn n room x → IsWhole response x room
      → TellsZero calling response n count x host ms room vm name at size
      → Reaches (starts calling vm name at size death host room) ms (ends b) → Comes response n count x room b.room
  refused x host room vm at size name death b ms on whole may reaches =
      calls_are H calling response n count vm name at size 0 (unless_zero vm death) x room on host ms b (x, stays response n x room on whole)
      (λ c reached.
      let both_ = may c reached in (
        both_.0,
        λ z z_on.
            let r : Room = behind_effects vm owns.Nobody c room in
            let o : OutlivesBeside response n vm z r z_on = both_.2 z z_on in (
              z,
              subst (λ (q : Room). Leaves response n z r z q) (sym (zero vm death both_.0.value r both_.1))
                  (all_lines_leave.dying vm death response n z r z_on o.alien o.whole o.opens o.of_request o.of_response),
            ),
      ))
      reaches

  -- a context is done with, or deleted
  whole_alike : (z : Exchange) (room after : Room) → IsOn n room z → IsWhole response z room → after.lines ≡ room.lines → after.hub ≡ room.hub → Leaves response n z room z after
  whole_alike z room after on whole lines hub =
      let l : Leaves response n z room z (record room { jobs = after.jobs }) = jobs_leave.in_hand after.jobs response n z room on whole in
      record {
        on = record {
          place = on.place;
          line = on.line;
          stands = ap (place_in n) lines ∙ on.stands;
          at = ap (λ (ls : List _). slice_get ls on.place) lines ∙ on.at;
          number = on.number;
          exchange = on.exchange;
        };
        chain = refl;
        holds = subst (λ (h : Hub). HoldSame room.hub.contexts h.contexts (chain_of response z)) (sym hub) l.holds;
        there = subst (λ (h : Hub). AreThere h.contexts (chain_of response z)) (sym hub) whole;
      }

  done_leaves : (c : ContextAt) (value : Option ℕ) (z : Exchange) (room : Room) → IsOn n room z → IsWhole response z room → Leaves response n z room z (finish_context c (Some value) room)
  done_leaves c value z room on whole =
      by_bool (Leaves response n z room z) (is_zero value) (await_done c room) (with_jobs_first (last_jobs c) room) (λ e. contexts_leave.waiting c response n z room on whole)
      (λ e. whole_alike z room (with_jobs_first (last_jobs c) room) on whole refl refl)

  finished : (x : Exchange) (host : H) (room : Room) (c : ContextAt) (b : Both H) (ms : List Met) → IsOn n room x → IsWhole response x room
      → TellsThen calling response n count x host ms room c.vm callbacks.Done c.context 0 (λ value z r. Unit {0})
      → Reaches (finishes calling c host room) ms (ends b) → Comes response n count x room b.room
  finished x host room c b ms on whole may reaches =
      calls_are H calling response n count c.vm callbacks.Done c.context 0 0 (finish_context c) x room on host ms b
      (x, whole_alike x room (with_jobs_first (last_jobs c) room) on whole refl refl)
      (λ d reached.
      let both_ = may d reached in
      (both_.0, λ z z_on. (z, done_leaves c both_.0.value z (behind_effects c.vm owns.Nobody d room) z_on (both_.1 z z_on).0)))
      reaches

  deleted_so : (x : Exchange) (host : H) (room : Room) (c : ContextAt) (b : Both H) (ms : List Met) → IsOn n room x → IsWhole response x room → NotOf c.vm c.context (chain_of response x)
      → TellsThen calling response n count x host ms room c.vm callbacks.Delete c.context 0 (λ value z r. NotOf c.vm c.context (chain_of response z))
      → Reaches (forgets calling c host room) ms (ends b) → Comes response n count x room b.room
  deleted_so x host room c b ms on whole not_of may reaches =
      calls_are H calling response n count c.vm callbacks.Delete c.context 0 0 (delete_context c) x room on host ms b
      (x, contexts_leave.deleting c None response n x room on whole not_of)
      (λ d reached.
      let both_ = may d reached in (
        both_.0,
        λ z z_on.
            (z, contexts_leave.deleting c (Some both_.0.value) response n z (behind_effects c.vm owns.Nobody d room) z_on (both_.1 z z_on).0 (both_.1 z z_on).1),
      ))
      reaches

  -- a context was made, and is told of it
  made : (x y : Exchange) (host : H) (room mid : Room) (o : Option NewContext) (b : Both H) (ms : List Met) → Leaves response n x room y mid
      → ((c : NewContext) → o ≡ Some c → Tells calling response n count y host ms mid c.vm callbacks.ContextCreate c.context c.root)
      → Reaches (made_one calling o host mid) ms (ends b) → Comes response n count x room b.room
  made x y host room mid None b ms l may reaches = ended_as x y room mid host b ms l reaches
  made x y host room mid (Some c) b ms l may reaches = behind l (told y host mid c.vm callbacks.ContextCreate c.context c.root b ms l.on (may c refl) reaches)

  noticed_so : (x : Exchange) (host : H) (room : Room) (vm left : ℕ) (b : Both H) (ms : List Met) → IsOn n room x → IsWhole response x room
      → Reaches (ask_notice vm left host room) ms (ends b) → Comes response n count x room b.room
  noticed_so x host room vm left b [] on whole reaches = absurd (cc)
  noticed_so x host room vm left b (called c ∷ ms) on whole reaches =
      ended_as x x room (take_notice_reply vm left c.reply room) host b ms (jobs_leave.noticing vm left c.reply response n x room on whole) reaches.2
  noticed_so x host room vm left b (measured c ∷ ms) on whole reaches = absurd reaches
  noticed_so x host room vm left b (heard h ∷ ms) on whole reaches = absurd reaches

  -- what was heard of a callout
  heard_so : (x : Exchange) (host : H) (room : Room) (id : ℕ) (o : Option Callout) (b : Both H) (ms : List Met) → IsOn n room x → IsWhole response x room
      → Reaches (reads_call id o host room) ms (ends b) → Comes response n count x room b.room
  heard_so x host room id None b ms on whole reaches = ended_as x x room room host b ms (stays response n x room on whole) reaches
  heard_so x host room id (Some c) b ms on whole reaches =
      all_reached (λ (d : Both H). Comes response n count x room d.room) ms (reads_call id (Some c) host room) b
      (λ h hears_. (x, left_so (takes_after (after_read id (after_part_heard h c) room.calls) response n x room on whole))) reaches

  -- its end
  told_end : (x : Exchange) (host : H) (room : Room) (a : Option CallAnswer) (c : Callout) (b : Both H) (ms : List Met) → IsOn n room x → IsWhole response x room
      → (has_listener c room ≡ true → TellsThen calling response n count x host ms (put_call_answer a c.vm c.context room) c.vm callbacks.CallAnswered c.context c.id (λ value z r. Unit {0}))
      → Reaches (tells_call calling a c host room) ms (ends b) → Comes response n count x room b.room
  told_end x host room a c b ms on whole may reaches =
      let mid : Room = put_call_answer a c.vm c.context room in
      let l : Leaves response n x room x mid = puts_answer a c.vm c.context response n x room on whole in
      by_bool (λ (k : Course (Both H)). Reaches k ms (ends b) → Comes response n count x room b.room) (has_listener c room)
      (calls_live calling c.vm callbacks.CallAnswered c.context c.id 0 (drop_answer c.vm c.context) host mid) (ends (both host room))
      (λ e r. behind l
      (calls_are H calling response n count c.vm callbacks.CallAnswered c.context c.id 0 (drop_answer c.vm c.context) x mid l.on host ms b
      (x, puts_answer None c.vm c.context response n x mid l.on l.there)
      (λ d reached.
      let both_ = may e d reached in
      (both_.0, λ z z_on. (z, puts_answer None c.vm c.context response n z (behind_effects c.vm owns.Nobody d mid) z_on (both_.1 z z_on).0)))
      r))
      (λ e r. ended_as x x room room host b ms (stays response n x room on whole) r) reaches

  call_ended : (x : Exchange) (host : H) (room : Room) (is_answered : Bool) (id : ℕ) (b : Both H) (ms : List Met) → IsOn n room x → IsWhole response x room
      → TellsCall calling response n count x host ms room is_answered id
      → Reaches (ends_call calling is_answered id (callout_in id room.calls) host room) ms (ends b) → Comes response n count x room b.room
  call_ended x host room is_answered id b ms on whole may reaches = by_callout (callout_in id room.calls) refl reaches
    where
      by_callout : (o : Option Callout) → callout_in id room.calls ≡ o → Reaches (ends_call calling is_answered id o host room) ms (ends b) → Comes response n count x room b.room
      by_callout None is r = ended_as x x room room host b ms (stays response n x room on whole) r
      by_callout (Some c) is r =
          let l : Leaves response n x room x (close_call id room) = closes_call id response n x room on whole in
          behind l (told_end x host (close_call id room) (answer_if is_answered c) c b ms l.on l.there (λ e. may c is e) r)

  job_comes : (x : Exchange) (host : H) (room : Room) (job : Job) (b : Both H) (ms : List Met) → IsOn n room x → IsWhole response x room → MayJob calling response n count x host ms room job
      → Reaches (works calling plan job host room) ms (ends b) → Comes response n count x room b.room
  job_comes x host room _ b ms on whole (begin vm may) reaches = told x host room vm callbacks.Begin 0 0 b ms on may reaches
  job_comes x host room _ b ms on whole (root vm plugin first left_ may) reaches =
      made x x host room (create_root vm plugin first room).1 (create_root vm plugin first room).0 b ms (contexts_leave.making_root vm plugin first response n x room on whole left_) may reaches
  job_comes x host room _ b ms on whole (start vm at may) reaches =
      started x host room vm at (vm_length vm room.hub.contexts) callbacks.VmStart deaths.Start b ms on whole may reaches
  job_comes x host room _ b ms on whole (configure vm at plugin may) reaches =
      started x host room vm at (plugin_length plugin room.hub.contexts) callbacks.Configure deaths.Configure b ms on whole may reaches
  job_comes x host room _ b ms on whole (tick vm at may) reaches =
      let mid : Room = (tick_root vm at room).1 in
      let l : Leaves response n x room x mid = jobs_leave.ticking vm at response n x room on whole in
      by_bool (λ (k : Course (Both H)). Reaches k ms (ends b) → Comes response n count x room b.room) (tick_root vm at room).0 (tells calling vm callbacks.Tick at 0 host mid) (ends (both host mid))
      (λ e r. behind l (told x host mid vm callbacks.Tick at 0 b ms l.on may r)) (λ e r. ended_as x x room mid host b ms l r) reaches
  job_comes x host room _ b ms on whole (expire there alien nothing_) reaches =
      ended_as x x room (run_silent_job jobs.Expire room) host b ms (events_leave.expiring response n x room there alien whole nothing_) reaches
  job_comes x host room _ b ms on whole (happen w there alien none) reaches =
      let l : (y : Exchange) × Leaves response n x room y (run_silent_job (jobs.Happen w) room) = events_leave.happening w response n x room there alien whole none in
      ended_as x l.0 room (run_silent_job (jobs.Happen w) room) host b ms l.1 reaches
  job_comes x host room _ b ms on whole (create number k left_ may) reaches =
      let l : (y : Exchange) × Leaves response n x room y (create_context number k room).1 = contexts_leave.making_stream number k response n x room on whole left_ in
      made x l.0 host room (create_context number k room).1 (create_context number k room).0 b ms l.1 (λ c is. may c l.0 is l.1.on) reaches
  job_comes x host room _ b ms on whole (enter number there away) reaches =
      ended_as x x room (run_silent_job (jobs.Enter number) room) host b ms (events_leave.entering_other room.dead number response n x room there whole away) reaches
  job_comes x host room _ b ms on whole (put_across items unanswered are) reaches =
      ended_as x (put_read_items (not response) items n x room.hub).0 room (on_number (put_read_items (not response) items) n room) host b ms
      (other_direction.putting response n items x room on whole unanswered are) reaches
  job_comes x host room _ b ms on whole (put_elsewhere number of_response items there alien away) reaches =
      ended_as x x room (on_number (put_read_items of_response items) number room) host b ms
      (other_lines.by_number (put_read_items of_response items) (exchanges_pass_by.putting of_response items) response n number x room there alien whole away) reaches
  job_comes x host room _ b ms on whole (refuse number status there alien apart) reaches =
      ended_as x x room (run_silent_job (jobs.Refuse number status) room) host b ms (events_leave.refusing number status response n x room there alien whole apart) reaches
  job_comes x host room _ b ms on whole (done c may) reaches = finished x host room c b ms on whole may reaches
  job_comes x host room _ b ms on whole (log c may) reaches = told x host room c.vm callbacks.Log c.context 0 b ms on may reaches
  job_comes x host room _ b ms on whole (delete c not_of may) reaches = deleted_so x host room c b ms on whole not_of may reaches
  job_comes x host room _ b ms on whole (close number stay apart) reaches =
      ended_as x x room (run_silent_job (jobs.Close number stay) room) host b ms (events_leave.closing number stay response n x room on whole apart) reaches
  job_comes x host room _ b ms on whole (notice vm left) reaches =
      by_bool (λ (k : Course (Both H)). Reaches k ms (ends b) → Comes response n count x room b.room) ((left == 0 || is_dead vm room) || not (nat_lt vm plan.vms)) (ends (both host room))
      (ask_notice vm left host room) (λ e r. ended_as x x room room host b ms (stays response n x room on whole) r) (λ e r. noticed_so x host room vm left b ms on whole r) reaches
  job_comes x host room _ b ms on whole (ready vm at queue may) reaches =
      by_bool (λ (k : Course (Both H)). Reaches k ms (ends b) → Comes response n count x room b.room) (may_stream vm at room.hub.contexts)
      (tells calling vm callbacks.QueueReady at queue host room) (ends (both host room)) (λ e r. told x host room vm callbacks.QueueReady at queue b ms on may r)
      (λ e r. ended_as x x room room host b ms (stays response n x room on whole) r) reaches
  job_comes x host room _ b ms on whole (call_comes w) reaches =
      ended_as x x room (take_call_event w room) host b ms (takes_after (after_event w room.calls) response n x room on whole) reaches
  job_comes x host room _ b ms on whole (call_read id) reaches = heard_so x host room id (callout_in id room.calls) b ms on whole reaches
  job_comes x host room _ b ms on whole (call_fails id may) reaches = call_ended x host room false id b ms on whole (λ c is e. may c is e) reaches
  job_comes x host room _ b ms on whole (call_answered id may) reaches = call_ended x host room true id b ms on whole (λ c is e. may c is e) reaches
  job_comes x host room _ b ms on whole (tcp_step s) reaches = ended_as x x room room host b ms (stays response n x room on whole) reaches
  job_comes x host room _ b ms on whole (dies_at_work job q is may) reaches =
      job_died calling plan response n count x host room job q b ms on whole is (λ c y reached there. may c y reached there) reaches
  job_comes x host room _ b ms on whole (start_refused vm at may) reaches =
      refused x host room vm at (vm_length vm room.hub.contexts) callbacks.VmStart deaths.Start b ms on whole may reaches
  job_comes x host room _ b ms on whole (configure_refused vm at plugin may) reaches =
      refused x host room vm at (plugin_length plugin room.hub.contexts) callbacks.Configure deaths.Configure b ms on whole may reaches

  work_comes : (x : Exchange) (host : H) (room : Room) (todo : List Job) (b : Both H) (ms : List Met) → IsOn n room x → IsWhole response x room
      → MayWork calling response n count x host ms room todo → Reaches (works_first calling plan todo host room) ms (ends b) → Comes response n count x room b.room
  work_comes x host room _ b ms on whole no_job reaches = ended_as x x room room host b ms (stays response n x room on whole) reaches
  work_comes x host room _ b ms on whole (first_job job later may) reaches =
      let l : Leaves response n x room x (in_hand later room) = jobs_leave.in_hand later response n x room on whole in
      behind l (job_comes x host (in_hand later room) job b ms l.on whole may reaches)

  beside_comes : (x : Exchange) (b m : Both H) (ms : List Met) (nx : Next) → IsOn n b.room x → IsWhole response x b.room → MayBeside calling response n count x b ms nx
      → Reaches (step calling plan nx b.host b.room) ms (ends m) → Comes response n count x b.room m.room
  beside_comes x b m ms _ on whole (reads there none) reaches =
      let l : (y : Exchange) × Leaves response n x b.room y m.room = reading_leaves H calling plan response n x b.room there b.host ms m whole none reaches in
      (l.0, left_so l.1)
  beside_comes x b m ms _ on whole (moves_across q alien may) reaches =
      other_direction_moves H calling plan response n count x b.room q b.host ms m alien whole (λ c reached. may c reached) reaches
  beside_comes x b m ms _ on whole (moves_elsewhere place there alien away may) reaches =
      other_lines_move H calling plan response n count place x b.room there b.host ms m alien whole away (λ a lines hub c is reached. may a lines hub c is reached) reaches
  beside_comes x b m ms _ on whole (dies_elsewhere place there alien away may) reaches =
      moved_died calling plan response n count place x b.room b.host m ms there alien whole away (λ a lines hub c is reached. may a lines hub c is reached) reaches
  beside_comes x b m ms _ on whole (works_on may) reaches = work_comes x b.host b.room b.room.jobs m ms on whole may reaches
  beside_comes x b m ms _ on whole (frees at) reaches =
      ended_as x x b.room (free_one at b.room) b.host m ms (quiet_steps.frees_one response n at x b.room on whole) reaches
  beside_comes x b m ms _ on whole (ends_other place there alien away) reaches =
      ended_as x x b.room (end_at place b.room) b.host m ms (jobs_leave.ending place response n x b.room there alien whole away) reaches
  beside_comes x b m ms _ on whole begins reaches = ended_as x x b.room (begin_first_job b.room.agenda b.room) b.host m ms (quiet_steps.begins response n x b.room on whole) reaches
  beside_comes x b m ms _ on whole stops reaches = ended_as x x b.room b.room b.host m ms (stays response n x b.room on whole) reaches

pub steps_beside : (H : Type 0) → StepsBeside H
steps_beside H calling plan response n count x b m ms nx on whole may reaches = beside_comes calling plan response n count x b m ms nx on whole may reaches
