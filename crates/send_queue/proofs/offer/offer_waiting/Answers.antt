use Rattle.std.proofs.Common.{◌∙◌, ap, arith}
use Rattle.gate_io.specs.Nature.{Nature}
use Rattle.send_queue.proofs.Offers.{at_next, at_cut}
use Rattle.send_queue.proofs.offer.offer_waiting.Goals as goal

pub loop-at-preserved : goal.loop-at-preserved
loop-at-preserved g c = record {
  last = c.offer_at.ensures.last ∙ c.loop-at.invariant.last;
  nature = c.offer_at.ensures.nature ∙ c.loop-at.invariant.nature;
  faults = omega (arith, c.offer_at.ensures.faults, c.loop-at.invariant.faults);
  offered = at_next _ _ _ _ _ _ _ _ _ _ (ap (λ (n : Nature). n.takes_whole) c.loop-at.invariant.nature) (omega (arith, c.loop-at-test.true)) c.loop-at.invariant.offered c.in_ok-offer_at.ensures.offered c.in_ok-offer_at.ensures.rest;
  sorted = c.in_ok-offer_at.ensures.sorted;
}

pub returns-in_err-offer_at-clause-offered : goal.returns-in_err-offer_at-clause-offered
returns-in_err-offer_at-clause-offered g c =
    at_cut _ _ _ _ _ _ _ _ _ _ c.offer_at.result _ (ap (λ (n : Nature). n.takes_whole) c.loop-at.invariant.nature) (omega (arith, c.loop-at-test.true)) c.from_residual.ensures.0
    c.loop-at.invariant.offered c.offer_at.ensures.offered
