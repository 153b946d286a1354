use Rattle.std.proofs.Common.{List, ◌++◌, ◌∙◌, refl, ap, arith}
use Rattle.gate_io.specs.Nature.{Nature}
use Rattle.gate_io.specs.declared.event.Sent.{Sent}
use Rattle.send_queue.proofs.Offers.{offered_none, so_far_next, so_far_cut}
use Rattle.send_queue.proofs.offer.offer_all.Goals as goal

pub loop-member-init : goal.loop-member-init
loop-member-init g c =
    let left = c.args.left.now.items in
    record {
      last = refl;
      nature = refl;
      faults = omega arith;
      offered = record {
        before = left;
        members_are = ap (λ (l : List Sent). left ++ l) c.into_iter-member-iterator.ensures.into_iter_gives.0;
        offered = offered_none (g.W.World.nature c.args.world.now).takes_whole (g.W.World.trace c.args.world.now) left;
      };
      sorted = c.requires;
    }

pub loop-member-preserved : goal.loop-member-preserved
loop-member-preserved g c = record {
  last = c.offer.ensures.last ∙ c.loop-member.invariant.last;
  nature = c.offer.ensures.nature ∙ c.loop-member.invariant.nature;
  faults = omega (arith, c.offer.ensures.faults, c.loop-member.invariant.faults);
  offered = so_far_next _ _ _ _ _ _ _ _ _ _ _ _ (ap (λ (n : Nature). n.takes_whole) c.loop-member.invariant.nature) c.in-Some.ensures.steps.0 c.loop-member.invariant.offered c.in_ok-offer.ensures.offered;
  sorted = c.in_ok-offer.ensures.sorted;
}

pub returns-in_err-offer-clause-offered : goal.returns-in_err-offer-clause-offered
returns-in_err-offer-clause-offered g c =
    so_far_cut _ _ _ _ _ _ _ _ _ _ _ _ _ c.offer.result _ (ap (λ (n : Nature). n.takes_whole) c.loop-member.invariant.nature) c.in-Some.ensures.steps.0 c.from_residual.ensures.0
    c.loop-member.invariant.offered c.offer.ensures.offered
