use Rattle.std.proofs.Common.{◌≡◌, ◌-◌, ◌<◌, ℕ, All, Global, length, take, sym, ap, subst, ◌∙◌, arith}
use Rattle.std.specs.declared.collections.VecDeque.{VecDeque}
use Rattle.std.proofs.lemmas.List.{take-map, length-map}
use Rattle.shared_queues.specs.Firsts.{Standing}
use Rattle.shared_queues.specs.Owing.{Owing, lists_of}
use Rattle.shared_queues.proofs.Numbers.{last_first}
use Rattle.shared_queues.proofs.Noticing.{Step, forgot}
use Rattle.shared_queues.proofs.notices.Notices.forget_last.Goals as goal

pub forget_last-requires-clause-none_owed : goal.forget_last-requires-clause-none_owed
forget_last-requires-clause-none_owed c =
    last_first c.self.inside.firsts (lists_of c.self.inside.numbers.items) c.self.inside.next c.self.invariant
    (subst (λ (o : Owing). All (λ k. k < length o.whos - 1) o.owed) (sym c.self.view_is) c.requires.none_owed)

left : (c : goal.Joined-pop) → Step c.forget_last.new.self (lists_of c.pop.new.self.items) c.self.inside.next (record c.args.self.now { whos = take (length c.args.self.now.whos - 1) c.args.self.now.whos })
left c =
    let m = length c.args.self.now.whos - 1 in
    let long : length c.self.inside.firsts.whos ≡ length c.args.self.now.whos = ap (λ (o : Owing). length o.whos) c.self.view_is in
    let same : length c.self.inside.firsts.whos - 1 ≡ m = ap (λ n. n - 1) long in
    let ds = c.self.inside.numbers.items in
    let many : length ds ≡ length c.self.inside.firsts.whos = sym (length-map ds (λ (d : VecDeque ℕ Global). d.items)) ∙ c.self.invariant.long in
    forgot c.self.inside.firsts c.forget_last.new.self (lists_of ds) (lists_of c.pop.new.self.items) c.self.inside.next m c.args.self.now c.self.view_is c.self.invariant
    (subst (λ (o : Owing). All (λ k. k < length o.whos - 1) o.owed) (sym c.self.view_is) c.requires.none_owed) (omega (arith, long, c.requires.some))
    (c.forget_last.ensures ∙ ap (λ n. let s : Standing = record { whos = take n c.self.inside.firsts.whos; firsts = take n c.self.inside.firsts.firsts } in s) same)
    (ap lists_of (c.pop.ensures.rest ∙ ap (λ n. take (n - 1) ds) (c.self.inside.numbers.ok.0 ∙ many ∙ long)) ∙ sym (take-map (λ (d : VecDeque ℕ Global). d.items) m ds))

pub invariant_of-self : goal.invariant_of-self
invariant_of-self c = (left c).numbered

pub returns : goal.returns
returns c = (left c).view
