use Rattle.std.proofs.Common.{sym, ◌∙◌}
use Rattle.worker_model.specs.Calls.{answer_if}
use Rattle.worker_callbacks.proofs.CallSteps.{unheard_ends}
use Rattle.worker_callbacks.proofs.call_steps.tell_end.Goals as goal

pub returns-then-not-has_listener-clause-run : goal.returns-then-not-has_listener-clause-run
returns-then-not-has_listener-clause-run g c =
    unheard_ends g.S.Shared.performs _ (g.met.S.Shared.nothing c.args.shared.now) g.K.Traffic.takes g.H.Host.calling (answer_if c.args.is_answered c.args.c) c.args.c c.args.host.now c.args.room.now
    (sym c.has_listener.ensures ∙ c.if-not-has_listener.true)
