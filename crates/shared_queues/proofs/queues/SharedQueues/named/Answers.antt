use Rattle.std.proofs.Common.{Some, None, sym, ◌∙◌, arith}
use Rattle.store_model.proofs.Uses.{named_within}
use Rattle.shared_queues.proofs.Keeping.{named_is}
use Rattle.shared_queues.proofs.queues.SharedQueues.named.Goals as goal

pub returns-in_err-index-clause-index : goal.returns-in_err-index-clause-index
returns-in_err-index-clause-index c =
    c.from_residual.ensures ∙ sym (named_is c.args.self.now c.args.name.now None c.self.invariant c.self.view_is c.in_err-index.ensures.value)

pub returns-clause-index : goal.returns-clause-index
returns-clause-index c = sym (named_is c.args.self.now c.args.name.now (Some c.in_ok-index.index.now) c.self.invariant c.self.view_is c.in_ok-index.ensures.value)

pub returns-clause-within : goal.returns-clause-within
returns-clause-within c =
    omega (arith, named_within 0 c.args.name.now c.args.self.now.queues c.in_ok-index.index.now (named_is c.args.self.now c.args.name.now (Some c.in_ok-index.index.now) c.self.invariant c.self.view_is c.in_ok-index.ensures.value))
