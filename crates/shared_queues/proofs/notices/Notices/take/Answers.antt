use Rattle.std.proofs.Common.{◌≡◌, ◌<◌, ℕ, Global, length, set, drop, ap, ◌∙◌, arith, get_or-set_same}
use Rattle.std.specs.declared.collections.VecDeque.{VecDeque}
use Rattle.std.proofs.lemmas.List.{length-map}
use Rattle.shared_queues.specs.Owing.{lists_of, first_number}
use Rattle.shared_queues.proofs.Numbers.{lists-set, list_at}
use Rattle.shared_queues.proofs.Noticing.{Taken, taken, taken_none}
use Rattle.shared_queues.proofs.notices.Notices.take.Goals as goal

pub returns-in_err-index-clause-index : goal.returns-in_err-index-clause-index
returns-in_err-index-clause-index c =
    c.from_residual.ensures ∙ (taken_none c.self.inside.firsts (lists_of c.self.inside.numbers.items) c.self.inside.next c.args.who c.args.self.now c.self.view_is c.self.invariant c.in_err-index.ensures).0

pub returns-in_err-index-clause-owed : goal.returns-in_err-index-clause-owed
returns-in_err-index-clause-owed c =
    (taken_none c.self.inside.firsts (lists_of c.self.inside.numbers.items) c.self.inside.next c.args.who c.args.self.now c.self.view_is c.self.invariant c.in_err-index.ensures).1

after : (c : goal.After-set_first) → Taken c.set_first.new.self (lists_of (set c.self.inside.numbers.items c.in_ok-index.index c.pop_front.new.self)) c.self.inside.next c.args.who c.in_ok-index.index c.args.self.now
after c =
    let ds = c.self.inside.numbers.items in
    let k = c.in_ok-index.index in
    let less : k < length ds = omega (arith, c.in_ok-index.ensures.within, c.self.invariant.long, length-map ds (λ (d : VecDeque ℕ Global). d.items)) in
    let read : c.index.result.now ≡ c.pop_front.new.self = c.index.ensures ∙ get_or-set_same ds k c.pop_front.new.self c.index.result.now less in
    taken c.self.inside.firsts c.set_first.new.self (lists_of ds) (lists_of (set ds k c.pop_front.new.self)) c.self.inside.next c.args.who k c.first_of-first.result c.pop_front.new.self.items c.args.self.now c.self.view_is c.self.invariant c.in_ok-index.ensures
    (c.pop_front.ensures.rest ∙ ap (drop 1) (list_at ds k c.index_mut.result.now c.index_mut.ensures.value less))
    (c.first_of-first.ensures ∙ ap (λ (d : VecDeque ℕ Global). first_number d.items) read) c.set_first.ensures (lists-set ds k c.pop_front.new.self)

pub invariant_of-self : goal.invariant_of-self
invariant_of-self c = (after c).numbered

pub returns-clause-index : goal.returns-clause-index
returns-clause-index c = (after c).index

pub returns-clause-owed : goal.returns-clause-owed
returns-clause-owed c = (after c).view
