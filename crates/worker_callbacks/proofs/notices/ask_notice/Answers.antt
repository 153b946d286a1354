use Rattle.filter_host.specs.Course.{ends}
use Rattle.filter_host.specs.Runs.{cut_short, goes_still, goes_called}
use Rattle.store_model.specs.declared.call.Call.TheVariants as calls
use Rattle.worker_model.specs.Steps.{both, take_notice_reply}
use Rattle.worker_callbacks.proofs.Quietly.{room_ends_on}
use Rattle.worker_callbacks.proofs.notices.ask_notice.Goals as goal

pub returns-in_err-reply-clause-run : goal.returns-in_err-reply-clause-run
returns-in_err-reply-clause-run g c = cut_short _ c.from_residual.result c.from_residual.ensures.0 (goes_still g.S.Shared.performs _ _ _ c.in_err-reply.ensures.err)

pub returns-clause-run : goal.returns-clause-run
returns-clause-run g c =
    room_ends_on _ _ _ c.notice.result c.notice.ensures
    (goes_called g.S.Shared.performs _ _ c.args.vm calls.Notice _ (λ reply. ends (both c.args.host.now (take_notice_reply c.args.vm c.args.left reply c.args.room.now))) c.in_ok-reply.ensures.done)
