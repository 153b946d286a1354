use Rattle.std.proofs.Common.{◌≡◌, ◌∙◌, ◌++◌, Bool, List, [], Ok, ap, subst}
use Rattle.std.specs.declared.alloc.AllocError.{AllocError}
use Rattle.gate_io.specs.Nature.{Nature}
use Rattle.gate_io.specs.declared.event.Sent.{Sent}
use Rattle.send_queue.specs.Delivery.{Offered}
use Rattle.send_queue.proofs.Offers.{offered_cut, offered_more, offered_lost}
use Rattle.send_queue.proofs.outbox.Outbox.hand_over_with.Goals as goal

pub returns-in_err-offer_again-clause-offered : goal.returns-in_err-offer_again-clause-offered
returns-in_err-offer_again-clause-offered g c =
    let whole = (g.W.World.nature c.args.world.now).takes_whole in
    let a = g.W.World.trace c.args.world.now in
    let b = g.W.World.trace c.offer_again.new.world in
    let all : c.replace-left.result.items ≡ c.args.self.now = ap (λ v. v.items) c.replace-left.ensures.value ∙ c.self.view_is in
    offered_cut whole a b [] c.args.self.now c.args.sent.items _ _ c.offer_again.result c.from_residual.result c.from_residual.ensures.0
    (subst (λ (l : List Sent). Offered {E = AllocError} whole a [] l c.offer_again.result b c.offer_again.new.waiting.items) all c.offer_again.ensures.offered)

-- what waited was offered, and then what is sent
pub returns-in_err-offer_sent-clause-offered : goal.returns-in_err-offer_sent-clause-offered
returns-in_err-offer_sent-clause-offered g c =
    let whole = (g.W.World.nature c.args.world.now).takes_whole in
    let a = g.W.World.trace c.args.world.now in
    let b = g.W.World.trace c.offer_again.new.world in
    let d = g.W.World.trace c.offer_sent.new.world in
    let left = c.offer_again.new.waiting.items in
    let sent = c.args.sent.items in
    let all : c.replace-left.result.items ≡ c.args.self.now = ap (λ v. v.items) c.replace-left.ensures.value ∙ c.self.view_is in
    offered_lost whole a d [] (c.args.self.now ++ sent) c.offer_sent.new.left.items _ c.offer_sent.result c.from_residual-in_err-offer_sent.result c.from_residual-in_err-offer_sent.ensures.0
    (offered_more whole a b d [] c.args.self.now left c.offer_sent.new.left.items sent c.offer_sent.result
    (subst (λ (l : List Sent). Offered {E = AllocError} whole a [] l (Ok tt) b left) all c.in_ok-offer_again.ensures.offered)
    (subst (λ (w : Bool). Offered {E = AllocError} w b left (left ++ sent) c.offer_sent.result d c.offer_sent.new.left.items) (ap (λ (n : Nature). n.takes_whole) c.offer_again.ensures.nature) c.offer_sent.ensures.offered))

pub returns-clause-offered : goal.returns-clause-offered
returns-clause-offered g c =
    let whole = (g.W.World.nature c.args.world.now).takes_whole in
    let a = g.W.World.trace c.args.world.now in
    let b = g.W.World.trace c.offer_again.new.world in
    let d = g.W.World.trace c.offer_sent.new.world in
    let left = c.offer_again.new.waiting.items in
    let sent = c.args.sent.items in
    let all : c.replace-left.result.items ≡ c.args.self.now = ap (λ v. v.items) c.replace-left.ensures.value ∙ c.self.view_is in
    offered_more whole a b d [] c.args.self.now left c.offer_sent.new.left.items sent (Ok tt)
    (subst (λ (l : List Sent). Offered {E = AllocError} whole a [] l (Ok tt) b left) all c.in_ok-offer_again.ensures.offered)
    (subst (λ (w : Bool). Offered {E = AllocError} w b left (left ++ sent) (Ok tt) d c.offer_sent.new.left.items) (ap (λ (n : Nature). n.takes_whole) c.offer_again.ensures.nature) c.in_ok-offer_sent.ensures.offered)
