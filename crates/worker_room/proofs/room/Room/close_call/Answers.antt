use Rattle.std.proofs.Common.{sym, ◌∙◌}
use Rattle.worker_model.specs.Room.{Room}
use Rattle.worker_room.proofs.UnderWay.{none_closed, some_closed}
use Rattle.worker_room.proofs.room.Room.close_call.Goals as goal

pub returns-in-None-clause-room : goal.returns-in-None-clause-room
returns-in-None-clause-room c =
    let room : Room = record { lines = c.self.inside.lines; hub = c.self.inside.hub; reading = c.self.inside.reading; jobs = c.self.inside.jobs; agenda = c.self.inside.agenda; waits = c.self.inside.waits; dead = c.self.inside.dead; is_begun = c.self.inside.is_begun; calls = c.self.inside.calls; tcp = c.self.inside.tcp } in
    rw (← c.self.view_is) (none_closed c.args.id room c.take.new.calls (sym c.take.ensures.value ∙ c.in-None.is) c.take.ensures.rest)

pub returns-in_ok-close_taken-in-Some-clause-room : goal.returns-in_ok-close_taken-in-Some-clause-room
returns-in_ok-close_taken-in-Some-clause-room c =
    let room : Room = record { lines = c.self.inside.lines; hub = c.self.inside.hub; reading = c.self.inside.reading; jobs = c.self.inside.jobs; agenda = c.self.inside.agenda; waits = c.self.inside.waits; dead = c.self.inside.dead; is_begun = c.self.inside.is_begun; calls = c.self.inside.calls; tcp = c.self.inside.tcp } in
    rw (← c.self.view_is) (some_closed c.args.id room c.close_taken.new.self c.take.new.calls c.in-Some.c (sym c.take.ensures.value ∙ c.in-Some.is) c.take.ensures.rest c.in_ok-close_taken-in-Some.ensures)
