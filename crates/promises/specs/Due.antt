-- What is due comes in the turn: ticks, and notices.
use Rattle.std.specs.Prelude.{◌≡◌, ◌<◌, ℕ, true, Contains, slice_get, Some}
use Rattle.contexts.specs.Reached.{vm_in}
use Rattle.contexts.specs.declared.parts.Context.{Context}
use Rattle.contexts.specs.declared.parts.Tick.{Tick}
use Rattle.gate_io.specs.declared.event.Event.{Event}
use Rattle.worker_model.specs.Plan.{Plan}
use Rattle.worker_model.specs.Room.{Room}
use Rattle.worker_model.specs.Turn.{room_for_event, vms_in}
use Rattle.worker_model.specs.Steps.{is_due_tick}
use Rattle.worker_model.specs.declared.types.Job.TheVariants as jobs

-- Of a turn at any event: the tick of each context that is due at its moment is among the turn's parts, and so are the notices of each VM whose module registers
-- queues.
pub record DueComes : Type 0 where
  pub ticks : (plan : Plan) (event : Event) (room : Room) (vm i : ℕ) (c : Context) (t : Tick) → vm < vms_in room → slice_get (vm_in room.hub.contexts vm).contexts i ≡ Some c → c.tick ≡ Some t
      → is_due_tick event.now t ≡ true → Contains (room_for_event plan event room).agenda (jobs.Tick vm c.id)
  pub notices : (plan : Plan) (event : Event) (room : Room) (vm : ℕ) → vm < vms_in room → slice_get plan.registers vm ≡ Some true → Contains (room_for_event plan event room).agenda (jobs.Notice vm 16)
