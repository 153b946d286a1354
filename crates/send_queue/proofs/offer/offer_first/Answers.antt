use Rattle.std.proofs.Common.{ℕ, Option, Ok, subst}
use Rattle.std.specs.declared.alloc.AllocError.{AllocError}
use Rattle.send_queue.specs.Taking.{WasOffered}
use Rattle.send_queue.proofs.Offers.{offered_rest}
use Rattle.send_queue.proofs.offer.offer_first.Goals as goal

pub returns-in-Some-clause-offered : goal.returns-in-Some-clause-offered
returns-in-Some-clause-offered g c =
    let whole = (g.W.World.nature c.args.world.now).takes_whole in
    let old = g.W.World.trace c.args.world.now in
    let new = g.W.World.trace c.offer_member.new.world in
    offered_rest whole old new c.args.left.now.items c.put_rest.new.left.items c.args.member c.in-Some.n c.put_rest.result
    (subst (λ (t : Option ℕ). WasOffered {E = AllocError} whole old c.args.member (Ok t) new) c.in-Some.is c.in_ok-n.ensures.offered) c.requires.none c.put_rest.ensures.behind
