use Rattle.std.proofs.Common.{ap, sym, ◌∙◌}
use Rattle.send_queue.specs.Places.{place_of, marks_at}
use Rattle.send_queue.proofs.Offers.{offered_wait}
use Rattle.send_queue.proofs.offer.offer.Goals as goal

pub returns-then-waits_before-clause-offered : goal.returns-then-waits_before-clause-offered
returns-then-waits_before-clause-offered g c =
    offered_wait _ _ c.args.left.now.items c.args.member c.put_behind.new.members.items c.put_behind.result c.put_behind.ensures.behind
    (λ none. c.if-waits_before.ensures.some (place_of c.args.member) (sym c.rank_of-rank.ensures) (ap (marks_at _) c.deref-2.ensures.value ∙ none))
