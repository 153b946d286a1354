use Rattle.std.proofs.Common.{◌∙◌, ◌++◌, ap}
use Rattle.gate_io.specs.declared.passed.Wants.{Wants}
use Rattle.worker_model.specs.Plan.{plan_of}
use Rattle.worker_model.specs.Room.{Room}
use Rattle.worker_model.specs.Wants.{call_lines}
use Rattle.worker.proofs.Wants.{looked_is}
use Rattle.worker.proofs.asking.list_wants.Goals as goal

pub returns : goal.returns
returns c =
    let wants : Wants = record c.list_lines.new.wants { up = c.push_call_lines.new.lines; due = c.args.due } in
    let calls = c.as_slice.ensures ∙ ap (λ (r : Room). r.calls) c.room.view_is in
    looked_is (plan_of c.args.rules.now) c.args.room.now c.args.outbox.now wants c.in_ok-list_lines.ensures.down
    (c.in_ok-push_call_lines.ensures ∙ (λ i. c.in_ok-list_lines.ensures.up i ++ call_lines (calls i))) c.requires
