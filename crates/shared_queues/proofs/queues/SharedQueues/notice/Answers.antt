use Rattle.shared_queues.proofs.Moving.{noticed, none_noticed, one_noticed}
use Rattle.shared_queues.proofs.queues.SharedQueues.notice.Goals as goal

pub returns-in-None-clause-reply : goal.returns-in-None-clause-reply
returns-in-None-clause-reply c = none_noticed c.self.inside.vm c.self.inside.queues.items c.self.inside.notices c.args.self.now c.args.who c.self.view_is c.self.invariant c.in-None.ensures.index

pub returns-in-None-clause-after : goal.returns-in-None-clause-after
returns-in-None-clause-after c = noticed c.self.inside.vm c.self.inside.queues.items c.self.inside.notices c.take.new.self c.args.self.now c.args.who c.self.view_is c.self.invariant c.take.ensures.owed

pub returns-in-Some-clause-reply : goal.returns-in-Some-clause-reply
returns-in-Some-clause-reply c =
    one_noticed c.self.inside.vm c.self.inside.queues.items c.self.inside.notices c.args.self.now c.args.who c.in-Some.index c.id_at.result c.index.result.now c.self.view_is c.self.invariant c.in-Some.ensures.index c.in-Some.ensures.within c.index.ensures c.id_at.ensures

pub returns-in-Some-clause-after : goal.returns-in-Some-clause-after
returns-in-Some-clause-after c = noticed c.self.inside.vm c.self.inside.queues.items c.self.inside.notices c.take.new.self c.args.self.now c.args.who c.self.view_is c.self.invariant c.take.ensures.owed
