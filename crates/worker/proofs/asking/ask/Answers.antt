use Rattle.std.proofs.Common.{◌∙◌, ap}
use Rattle.worker_model.specs.Plan.{plan_of}
use Rattle.worker_model.specs.Room.{Room}
use Rattle.worker.proofs.Turns.{asked_so, obeys_so}
use Rattle.worker.proofs.Wants.{asked_for}
use Rattle.worker.proofs.asking.ask.Goals as goal

pub returns-in-Some-clause-trace : goal.returns-in-Some-clause-trace
returns-in-Some-clause-trace g c =
    let room = c.call_when_due-due.new.room in
    let is = asked_for (plan_of c.args.rules.now) room c.args.outbox.now c.room.inside.lines c.in-Some.asked.now (c.is_quiet.ensures.http c.if-is_quiet.true) (ap (λ (r : Room). r.lines) c.room.view_is)
    (c.is_quiet.ensures.waiting c.if-is_quiet.true) (c.is_quiet.ensures.calls c.if-is_quiet.true) c.in-Some.ensures.down c.in-Some.ensures.up (c.in-Some.ensures.due ∙ c.call_when_due-due.ensures.due) in
    asked_so _ _ _ _ _ is c.next.ensures.trace

pub returns-in-Some-clause-obeys : goal.returns-in-Some-clause-obeys
returns-in-Some-clause-obeys g c =
    let room = c.call_when_due-due.new.room in
    let is = asked_for (plan_of c.args.rules.now) room c.args.outbox.now c.room.inside.lines c.in-Some.asked.now (c.is_quiet.ensures.http c.if-is_quiet.true) (ap (λ (r : Room). r.lines) c.room.view_is)
    (c.is_quiet.ensures.waiting c.if-is_quiet.true) (c.is_quiet.ensures.calls c.if-is_quiet.true) c.in-Some.ensures.down c.in-Some.ensures.up (c.in-Some.ensures.due ∙ c.call_when_due-due.ensures.due) in
    obeys_so _ _ _ _ is c.next.ensures.obeys

pub returns-clause-obeys : goal.returns-clause-obeys
returns-clause-obeys g c = obeys_so _ _ _ _ c.in-Ok.ensures c.next-2.ensures.obeys
