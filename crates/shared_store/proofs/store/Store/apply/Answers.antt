use Rattle.std.proofs.Common.{◌≡◌, sym, subst, ◌∙◌}
use Rattle.std.specs.Prelude.{IfOk}
use Rattle.shared_store.proofs.Meets.{on_ok, on_err, queue_call, reply_is, store_is, sure_is}
use Rattle.shared_store.proofs.store.Store.apply.Goals as goal

pub returns-in_default : goal.returns-in_default
returns-in_default c =
    let own = queue_call c.args.call.now c.in_default.not-Get c.in_default.not-Set in
    record {
      reply = subst (λ x. IfOk c.apply.result (λ r. r ≡ x)) (reply_is c.self.inside.data c.self.inside.queues c.args.self.now c.args.who c.args.call.now c.used-other.result c.self.view_is own c.used-other.ensures.used) c.apply.ensures.reply;
      may = c.apply.ensures.may;
      after = on_ok c.apply.result (λ e. (λ i. record { keys = c.self.inside.data; queues = e i }) ∙ store_is c.self.inside.data c.self.inside.queues c.args.self.now c.args.who c.args.call.now c.used-other.result c.self.view_is own c.used-other.ensures.used) c.apply.ensures.after;
      err = on_err c.apply.result (λ e. (λ i. record { keys = c.self.inside.data; queues = e i }) ∙ c.self.view_is) c.apply.ensures.err;
      sure = λ sure. c.apply.ensures.sure (sym (sure_is c.self.inside.data c.self.inside.queues c.args.self.now c.args.who c.args.call.now c.used-other.result c.self.view_is own) ∙ sure);
    }
