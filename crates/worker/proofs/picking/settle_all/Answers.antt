use Rattle.std.proofs.Common.{◌≡◌, [], sym, ◌∙◌}
use Rattle.std.proofs.lemmas.Bool.{true≢false}
use Rattle.worker_model.specs.Plan.{plan_of}
use Rattle.worker.proofs.ByPlan.{settles_http, settles_streams, next_http, next_streams}
use Rattle.worker.proofs.Quietly.{ends_as}
use Rattle.worker.proofs.picking.settle_all.Goals as goal

pub returns-then-is_empty-clause-run : goal.returns-then-is_empty-clause-run
returns-then-is_empty-clause-run g c =
    let none : c.args.rules.now.config.tcp ≡ [] = c.is_empty.ensures.0 c.if-is_empty.true in
    ends_as g.S.Shared.performs _ _ _ _ _ _
    (settles_http g.H.Host.calling (plan_of c.args.rules.now) c.args.rules.now.config.tcp c.args.most c.args.host.now c.args.room.now none) c.settle.ensures.run

pub returns-else-is_empty-clause-run : goal.returns-else-is_empty-clause-run
returns-else-is_empty-clause-run g c =
    let some : c.args.rules.now.config.tcp ≡ [] → ⊥ = λ none. true≢false (sym (c.is_empty.ensures.1 none) ∙ c.if-is_empty.false) in
    ends_as g.S.Shared.performs _ _ _ _ _ _
    (settles_streams g.H.Host.calling (plan_of c.args.rules.now) c.args.rules.now.config.tcp c.args.most c.args.host.now c.args.room.now some) c.settle-else-is_empty.ensures.run

pub returns-then-is_empty-clause-rest : goal.returns-then-is_empty-clause-rest
returns-then-is_empty-clause-rest g c =
    let none : c.args.rules.now.config.tcp ≡ [] = c.is_empty.ensures.0 c.if-is_empty.true in
    rw (next_http c.args.rules.now.config.tcp c.settle.new.room none) c.settle.ensures.rest

pub returns-else-is_empty-clause-rest : goal.returns-else-is_empty-clause-rest
returns-else-is_empty-clause-rest g c =
    let some : c.args.rules.now.config.tcp ≡ [] → ⊥ = λ none. true≢false (sym (c.is_empty.ensures.1 none) ∙ c.if-is_empty.false) in
    rw (next_streams c.args.rules.now.config.tcp c.settle-else-is_empty.new.room some) c.settle-else-is_empty.ensures.rest
