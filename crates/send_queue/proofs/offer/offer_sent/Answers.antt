use Rattle.std.proofs.Common.{List, [], ◌∷◌, ◌++◌, ◌∙◌, Ok, refl, ap, subst, arith}
use Rattle.std.specs.declared.alloc.AllocError.{AllocError}
use Rattle.gate_io.specs.Nature.{Nature}
use Rattle.gate_io.specs.declared.event.Sent.{Sent}
use Rattle.send_queue.specs.Delivery.{Offered}
use Rattle.send_queue.proofs.Offers.{offered_none, so_far_next, so_far_cut}
use Rattle.send_queue.proofs.offer.offer_sent.Goals as goal

pub loop-member-init : goal.loop-member-init
loop-member-init g c =
    let left = c.args.left.now.items in
    record {
      last = refl;
      nature = refl;
      faults = omega arith;
      offered = record {
        before = left;
        members_are = ap (λ (l : List Sent). left ++ l) c.into_iter-member-iterator.ensures.into_iter_gives.0;
        offered = offered_none (g.W.World.nature c.args.world.now).takes_whole (g.W.World.trace c.args.world.now) left;
      };
      sorted = c.requires;
    }

pub loop-member-preserved : goal.loop-member-preserved
loop-member-preserved g c =
    let whole = (g.W.World.nature c.loop-member.world).takes_whole in
    let left = c.loop-member.left.items in
    let offered : Offered {E = AllocError} whole (g.W.World.trace c.loop-member.world) left (left ++ c.in-Some.member ∷ []) (Ok tt) (g.W.World.trace c.offer.new.world) c.offer.new.left.items =
    subst (λ (m : Sent). Offered {E = AllocError} whole (g.W.World.trace c.loop-member.world) left (left ++ m ∷ []) (Ok tt) (g.W.World.trace c.offer.new.world) c.offer.new.left.items) c.new.ensures
    c.in_ok-offer.ensures.offered in
    record {
      last = c.offer.ensures.last ∙ c.loop-member.invariant.last;
      nature = c.offer.ensures.nature ∙ c.loop-member.invariant.nature;
      faults = omega (arith, c.offer.ensures.faults, c.loop-member.invariant.faults);
      offered = so_far_next _ _ _ _ _ _ _ _ _ _ _ _ (ap (λ (n : Nature). n.takes_whole) c.loop-member.invariant.nature) c.in-Some.ensures.steps.0 c.loop-member.invariant.offered offered;
      sorted = c.in_ok-offer.ensures.sorted;
    }

pub returns-in_err-offer-clause-offered : goal.returns-in_err-offer-clause-offered
returns-in_err-offer-clause-offered g c =
    let whole = (g.W.World.nature c.loop-member.world).takes_whole in
    let left = c.loop-member.left.items in
    let offered : Offered {E = AllocError} whole (g.W.World.trace c.loop-member.world) left (left ++ c.in-Some.member ∷ []) c.offer.result (g.W.World.trace c.offer.new.world) c.offer.new.left.items =
    subst (λ (m : Sent). Offered {E = AllocError} whole (g.W.World.trace c.loop-member.world) left (left ++ m ∷ []) c.offer.result (g.W.World.trace c.offer.new.world) c.offer.new.left.items) c.new.ensures
    c.offer.ensures.offered in
    so_far_cut _ _ _ _ _ _ _ _ _ _ _ _ _ c.offer.result _ (ap (λ (n : Nature). n.takes_whole) c.loop-member.invariant.nature) c.in-Some.ensures.steps.0 c.from_residual.ensures.0
    c.loop-member.invariant.offered offered
