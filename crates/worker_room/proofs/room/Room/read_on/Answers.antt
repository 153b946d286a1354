use Rattle.std.proofs.Common.{Option, subst}
use Rattle.h1_stream.specs.declared.reader.Step.{Step}
use Rattle.worker_lines.specs.Hearing.{HearsOn}
use Rattle.worker_model.specs.Plan.{plan_of}
use Rattle.worker_model.specs.Room.{Room}
use Rattle.worker_model.specs.Steps.{reading_on}
use Rattle.worker_lines.proofs.Readings.{on_ok}
use Rattle.worker_room.proofs.Readings.{reads_step}
use Rattle.worker_room.proofs.room.Room.read_on.Goals as goal

pub returns-in-Some : goal.returns-in-Some
returns-in-Some c =
    let room : Room = record { lines = c.self.inside.lines; hub = c.self.inside.hub; reading = c.self.inside.reading; jobs = c.self.inside.jobs; agenda = c.self.inside.agenda; waits = c.self.inside.waits; dead = c.self.inside.dead; is_begun = c.self.inside.is_begun; calls = c.self.inside.calls; tcp = c.self.inside.tcp } in
    rw (← c.self.view_is) (on_ok c.hear_step.result
    (λ is. reads_step (plan_of c.args.rules.now) c.args.r (reading_on c.args.r room) room c.hear_step.new.self c.hear.new.self c.in-Some.step
    (subst (λ (o : Option Step). HearsOn c.args.r.up c.args.r.line (reading_on c.args.r room) room.lines o c.hear.new.self) c.in-Some.is c.in_ok-heard.ensures) is) c.hear_step.ensures)
