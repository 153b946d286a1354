-- ONE STEP of a worker whose lines are streams of bytes.
use Rattle.std.specs.Prelude.{ℕ, List, [], ◌∷◌, slice_get, Option, None, Some}
use Rattle.exchange.specs.declared.types.Hub.{Hub}
use Rattle.filter_host.specs.Called.{Calling}
use Rattle.filter_host.specs.Course.{Course, ends, then_do}
use Rattle.filter_host.specs.declared.host.Callback.TheVariants as callbacks
use Rattle.filter_host.specs.declared.host.Death.TheVariants as deaths
use Rattle.streams_model.specs.Callbacks.{called_in, tells, starts, finishes, forgets, made_with, ticks, tells_ready, works_call}
use Rattle.worker_model.specs.Plan.{Plan}
use Rattle.worker_model.specs.Room.{Room}
use Rattle.worker_model.specs.Steps.{Both, both, continue_with, number_of, vm_length, plugin_length, notice_step, release, begin_first_job}
use Rattle.worker_model.specs.declared.types.Asked.{Asked}
use Rattle.worker_model.specs.declared.types.Job.{Job}
use Rattle.worker_model.specs.declared.types.Job.TheVariants as jobs
use Rattle.worker_model.specs.declared.types.Next.{Next}
use Rattle.worker_model.specs.declared.types.Next.TheVariants as next
use Rattle.worker_model.specs.declared.types.OtherStep.{OtherStep}
use Rattle.worker_model.specs.declared.types.OtherStep.TheVariants as others
use Rattle.worker_model.specs.declared.types.Owner.TheVariants.{Stage}
use Rattle.worker_model.specs.declared.types.TcpLine.{TcpLine}
use Rattle.worker_model.specs.declared.types.TcpStep.{TcpStep}
use Rattle.worker_model.specs.declared.types.TcpStep.TheVariants as tcp
use Rattle.streams_model.specs.Asking.{asks_at, callback_of, apply_stage_action}
use Rattle.streams_model.specs.Ending.{end_at, take_event}
use Rattle.streams_model.specs.Lines.{enter_stages}
use Rattle.streams_model.specs.Opening.{close_down, create_context, create_root}
use Rattle.streams_model.specs.Rooms.{with_tcp, on_number, lose_vm_in, take_callback_end}

-- the jobs that call nothing; what belongs to exchanges alone does nothing
abbrev pub run_silent_job : Plan → Job → Room → Room
run_silent_job plan (jobs.Begin vm) room = room
run_silent_job plan (jobs.Root vm plugin first) room = room
run_silent_job plan (jobs.Start vm root) room = room
run_silent_job plan (jobs.Configure vm root plugin) room = room
run_silent_job plan (jobs.Tick vm root) room = room
run_silent_job plan jobs.Expire room = room
run_silent_job plan (jobs.Happen what) room = take_event plan what room
run_silent_job plan (jobs.Create number k) room = room
run_silent_job plan (jobs.Enter number) room = room
run_silent_job plan (jobs.Put number response items) room = room
run_silent_job plan (jobs.Refuse number status) room = room
run_silent_job plan (jobs.Done c) room = room
run_silent_job plan (jobs.Log c) room = room
run_silent_job plan (jobs.Delete c) room = room
run_silent_job plan (jobs.Close number stays) room = room
run_silent_job plan (jobs.Notice vm left) room = room
run_silent_job plan (jobs.Ready vm root queue) room = room
run_silent_job plan (jobs.Other step) room = room

module _ {H : Type 0} (calling : Calling H) where
  -- ---- a move

  -- the callback of a stage
  abbrev pub moved : Option Asked → H → Room → Course (Both H)
  moved None host room = ends (both host room)
  moved (Some a) host room =
      then_do (called_in take_callback_end calling a.vm (callback_of a.response a.ask.kind) a.context a.count (number_of a.ask.end) (Stage a.context a.response) host room)
      (λ b. ends (continue_with (apply_stage_action a) b))

  -- with the lines as they are once it is asked
  abbrev pub moved_with : H → Room → Option Asked × List TcpLine × Hub → Course (Both H)
  moved_with host room (a, lines, hub) = moved a host (with_tcp room (lines, hub))

  -- A MOVE: the stage is asked, its effects are done, and its action is put in force
  abbrev pub move_at : ℕ → H → Room → Course (Both H)
  move_at place host room = moved_with host room (asks_at place (slice_get room.tcp place) room.tcp room.hub)

  -- ---- the job in hand

  -- what is done on a line
  abbrev pub works_tcp : TcpStep → H → Room → Course (Both H)
  works_tcp (tcp.Create number k) host room = made_with take_callback_end calling host (create_context number k room)
  works_tcp (tcp.Enter number) host room = ends (both host (on_number (enter_stages room.dead) number room))
  works_tcp (tcp.UpClose c peer) host room = tells take_callback_end calling c.vm callbacks.UpstreamClose c.context peer host room
  works_tcp (tcp.DownClose c peer) host room = tells take_callback_end calling c.vm callbacks.DownstreamClose c.context peer host room
  works_tcp (tcp.Close number) host room = ends (both host (close_down number room))

  -- for callouts, and on lines
  abbrev pub works_other : OtherStep → H → Room → Course (Both H)
  works_other (others.Call step) host room = works_call take_callback_end calling step host room
  works_other (others.Tcp step) host room = works_tcp step host room

  module _ (plan : Plan) where
    -- what begins a VM, and what ends a context; and what calls nothing
    abbrev pub works_life : Job → H → Room → Course (Both H)
    works_life (jobs.Begin vm) host room = tells take_callback_end calling vm callbacks.Begin 0 0 host room
    works_life (jobs.Start vm root) host room = starts take_callback_end calling lose_vm_in vm callbacks.VmStart root (vm_length vm room.hub.contexts) deaths.Start host room
    works_life (jobs.Configure vm root plugin) host room = starts take_callback_end calling lose_vm_in vm callbacks.Configure root (plugin_length plugin room.hub.contexts) deaths.Configure host room
    works_life (jobs.Done c) host room = finishes take_callback_end calling c host room
    works_life (jobs.Log c) host room = tells take_callback_end calling c.vm callbacks.Log c.context 0 host room
    works_life (jobs.Delete c) host room = forgets take_callback_end calling c host room
    works_life (jobs.Root vm plugin first) host room = ends (both host (run_silent_job plan (jobs.Root vm plugin first) room))
    works_life (jobs.Tick vm root) host room = ends (both host (run_silent_job plan (jobs.Tick vm root) room))
    works_life jobs.Expire host room = ends (both host (run_silent_job plan jobs.Expire room))
    works_life (jobs.Happen what) host room = ends (both host (run_silent_job plan (jobs.Happen what) room))
    works_life (jobs.Create number k) host room = ends (both host (run_silent_job plan (jobs.Create number k) room))
    works_life (jobs.Enter number) host room = ends (both host (run_silent_job plan (jobs.Enter number) room))
    works_life (jobs.Put number response items) host room = ends (both host (run_silent_job plan (jobs.Put number response items) room))
    works_life (jobs.Refuse number status) host room = ends (both host (run_silent_job plan (jobs.Refuse number status) room))
    works_life (jobs.Close number stays) host room = ends (both host (run_silent_job plan (jobs.Close number stays) room))
    works_life (jobs.Notice vm left) host room = ends (both host (run_silent_job plan (jobs.Notice vm left) room))
    works_life (jobs.Ready vm root queue) host room = ends (both host (run_silent_job plan (jobs.Ready vm root queue) room))
    works_life (jobs.Other step) host room = ends (both host (run_silent_job plan (jobs.Other step) room))

    -- THE JOB IN HAND
    abbrev pub works : Job → H → Room → Course (Both H)
    works (jobs.Root vm plugin first) host room = made_with take_callback_end calling host (create_root vm plugin first room)
    works (jobs.Tick vm root) host room = ticks take_callback_end calling vm root host room
    works (jobs.Notice vm left) host room = notice_step plan vm left host room
    works (jobs.Ready vm root queue) host room = tells_ready take_callback_end calling vm root queue host room
    works (jobs.Other step) host room = works_other step host room
    works (jobs.Begin vm) host room = works_life (jobs.Begin vm) host room
    works (jobs.Start vm root) host room = works_life (jobs.Start vm root) host room
    works (jobs.Configure vm root plugin) host room = works_life (jobs.Configure vm root plugin) host room
    works jobs.Expire host room = works_life jobs.Expire host room
    works (jobs.Happen what) host room = works_life (jobs.Happen what) host room
    works (jobs.Create number k) host room = works_life (jobs.Create number k) host room
    works (jobs.Enter number) host room = works_life (jobs.Enter number) host room
    works (jobs.Put number response items) host room = works_life (jobs.Put number response items) host room
    works (jobs.Refuse number status) host room = works_life (jobs.Refuse number status) host room
    works (jobs.Done c) host room = works_life (jobs.Done c) host room
    works (jobs.Log c) host room = works_life (jobs.Log c) host room
    works (jobs.Delete c) host room = works_life (jobs.Delete c) host room
    works (jobs.Close number stays) host room = works_life (jobs.Close number stays) host room

    -- the first job is in hand no more once it is done
    abbrev pub works_first : List Job → H → Room → Course (Both H)
    works_first [] host room = ends (both host room)
    works_first (job ∷ later) host room = works job host (record room { jobs = later })

    -- THE STEP of what is next
    abbrev pub step : Next → H → Room → Course (Both H)
    step next.Read host room = ends (both host room)
    step (next.Move place) host room = move_at place host room
    step next.Work host room = works_first room.jobs host room
    step (next.Free at) host room = ends (both host (release at room))
    step (next.End place) host room = ends (both host (end_at place room))
    step next.Begin host room = ends (both host (begin_first_job room.agenda room))
    step next.Rest host room = ends (both host room)
