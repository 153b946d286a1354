use Rattle.std.proofs.Common.{◌≡◌, ℕ, ◌-◌, length, get_or, take, sym, ap, ◌∙◌, arith, length-take}
use Rattle.std.proofs.lemmas.List.{length-map}
use Rattle.shared_queues.specs.Firsts.{Standing}
use Rattle.shared_queues.specs.Tree.{firsts_of}
use Rattle.shared_queues.specs.declared.firsts.Place.{Place}
use Rattle.shared_queues.proofs.Trees.{right_less}
use Rattle.shared_queues.proofs.firsts.Firsts.forget_last.Goals as goal

pub invariant_of-self : goal.invariant_of-self
invariant_of-self c =
    let ps = c.self.inside.places.items in
    let long : length c.args.self.now.whos ≡ length ps = sym (ap (λ (s : Standing). length s.whos) c.self.view_is) ∙ length-map ps (λ (x : Place). x.who) in
    let same : c.pop.new.self.items ≡ take (length ps - 1) ps = c.pop.ensures.rest ∙ ap (λ (n : ℕ). take (n - 1) ps) c.self.inside.places.ok.0 in
    let none : get_or (firsts_of ps) (length ps - 1) 18446744073709551615 ≡ 18446744073709551615 = (λ i. get_or (c.self.view_is i).firsts (sym long i - 1) 18446744073709551615) ∙ c.requires.none_owed in
    record { few = omega (arith, ap length same, length-take (length ps - 1) ps, c.self.invariant.few); right = right_less ps c.pop.new.self.items (omega (arith, c.requires.some, long)) same none c.self.invariant.right }
