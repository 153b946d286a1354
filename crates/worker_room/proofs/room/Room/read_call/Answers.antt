use Rattle.callouts.specs.Callouts.{callout_in}
use Rattle.worker_model.specs.Room.{Room}
use Rattle.worker_lines.proofs.Readings.{on_ok}
use Rattle.worker_room.proofs.UnderWay.{reads_room}
use Rattle.worker_room.proofs.room.Room.read_call.Goals as goal

pub returns : goal.returns
returns c =
    let room : Room = record { lines = c.self.inside.lines; hub = c.self.inside.hub; reading = c.self.inside.reading; jobs = c.self.inside.jobs; agenda = c.self.inside.agenda; waits = c.self.inside.waits; dead = c.self.inside.dead; is_begun = c.self.inside.is_begun; calls = c.self.inside.calls; tcp = c.self.inside.tcp } in
    rw (← c.self.view_is) (on_ok c.put_call_step.result
    (λ is. reads_room c.args.id (callout_in c.args.id room.calls) room c.put_call_step.new.self c.read.new.calls c.in_ok-next.next c.in_ok-next.ensures is) c.put_call_step.ensures)
