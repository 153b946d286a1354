use Rattle.std.proofs.Common.{◌≡◌, ◌∙◌, sym, ap}
use Rattle.filter_host.specs.Course.{ends}
use Rattle.filter_host.specs.Runs.{cut_short, goes_still, goes_from, goes_as}
use Rattle.worker_model.specs.Room.{Room}
use Rattle.worker_model.specs.Plan.{plan_of}
use Rattle.worker_model.specs.Settling.{is_rest}
use Rattle.worker_model.specs.Steps.{both}
use Rattle.worker_model.specs.Turn.{room_for_event, most_steps}
use Rattle.streams_model.specs.Turn.{settles_for, next_for}
use Rattle.worker.proofs.ByPlan.{next_filled}
use Rattle.worker.proofs.worker.react.Goals as goal

pub returns-in_err-face-clause-run : goal.returns-in_err-face-clause-run
returns-in_err-face-clause-run g c =
    cut_short _ c.from_residual.result c.from_residual.ensures.0 (goes_still g.S.Shared.performs _ _ _ (g.met.S.Shared.nothing c.args.shared.now))

pub returns-in_err-settle_all-clause-run : goal.returns-in_err-settle_all-clause-run
returns-in_err-settle_all-clause-run g c =
    let face_is : c.face.new.room ≡ room_for_event (plan_of c.args.rules.now) c.args.event c.args.room.now = c.in_ok-face.ensures in
    cut_short _ c.from_residual-in_err-settle_all.result c.from_residual-in_err-settle_all.ensures.0
    (goes_from (ap (λ (r : Room). settles_for g.H.Host.calling (plan_of c.args.rules.now) most_steps c.args.host.now r) (sym face_is)) c.in_err-settle_all.ensures.run.1)

pub returns-clause-run : goal.returns-clause-run
returns-clause-run g c =
    let face_is : c.face.new.room ≡ room_for_event (plan_of c.args.rules.now) c.args.event c.args.room.now = c.in_ok-face.ensures in
    goes_as (goes_from (ap (λ (r : Room). settles_for g.H.Host.calling (plan_of c.args.rules.now) most_steps c.args.host.now r) (sym face_is)) c.in_ok-settle_all.ensures.run)
    (λ i. ends (both c.settle_all.new.host (sym c.take_sent.ensures.room i)))

pub returns-clause-rest : goal.returns-clause-rest
returns-clause-rest g c =
    ap is_rest (sym (next_filled c.args.rules.now.config.tcp c.take_sent.result.items c.take_sent.new.room))
    ∙ ap (λ (r : Room). is_rest (next_for (plan_of c.args.rules.now) r)) c.take_sent.ensures.room ∙ c.in_ok-settle_all.ensures.rest
