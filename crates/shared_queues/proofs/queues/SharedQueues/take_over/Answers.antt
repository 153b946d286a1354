use Rattle.std.proofs.Common.{refl}
use Rattle.shared_queues.proofs.Keeping.{taken_over}
use Rattle.shared_queues.proofs.queues.SharedQueues.take_over.Goals as goal

pub invariant_of-self : goal.invariant_of-self
invariant_of-self c =
    (taken_over c.self.inside.vm c.self.inside.queues.items c.self.inside.notices c.set.new.self c.args.self.now c.args.index c.args.who c.args.root c.index_mut-queue.result.now
    (record { name = c.index_mut-queue.result.now.name; who = c.args.who; root = c.args.root; items = c.index_mut-queue.result.now.items }) c.self.view_is c.self.invariant c.requires c.index_mut-queue.ensures.value refl c.set.ensures).1

pub returns : goal.returns
returns c =
    (taken_over c.self.inside.vm c.self.inside.queues.items c.self.inside.notices c.set.new.self c.args.self.now c.args.index c.args.who c.args.root c.index_mut-queue.result.now
    (record { name = c.index_mut-queue.result.now.name; who = c.args.who; root = c.args.root; items = c.index_mut-queue.result.now.items }) c.self.view_is c.self.invariant c.requires c.index_mut-queue.ensures.value refl c.set.ensures).0
