use Rattle.std.proofs.Common.{sym, ◌∙◌}
use Rattle.callouts.specs.Callouts.{callout_in}
use Rattle.filter_host.specs.Runs.{cut_short, goes_still}
use Rattle.worker_callbacks.proofs.CallSteps.{none_ends, told_ends}
use Rattle.worker_callbacks.proofs.call_steps.end_call.Goals as goal

pub returns-in_err-close_call-clause-run : goal.returns-in_err-close_call-clause-run
returns-in_err-close_call-clause-run g c =
    cut_short _ c.from_residual.result c.from_residual.ensures.0 (goes_still g.S.Shared.performs _ _ _ (g.met.S.Shared.nothing c.args.shared.now))

pub returns-in-None-clause-run : goal.returns-in-None-clause-run
returns-in-None-clause-run g c =
    none_ends g.S.Shared.performs _ (g.met.S.Shared.nothing c.args.shared.now) g.K.Traffic.takes g.H.Host.calling c.args.is_answered c.args.host.now c.args.id (callout_in c.args.id c.args.room.now.calls)
    c.args.room.now c.close_call.new.self (sym c.in_ok-close_call.ensures.call ∙ c.in-None.is) c.in_ok-close_call.ensures.room

pub returns-in-Some-clause-run : goal.returns-in-Some-clause-run
returns-in-Some-clause-run g c =
    told_ends g.S.Shared.performs g.K.Traffic.takes g.H.Host.calling _ _ c.args.is_answered c.args.host.now c.args.id (callout_in c.args.id c.args.room.now.calls) c.in-Some.c
    c.args.room.now c.close_call.new.self _ _ (sym c.in_ok-close_call.ensures.call ∙ c.in-Some.is) c.in_ok-close_call.ensures.room c.tell_end.ensures.run
