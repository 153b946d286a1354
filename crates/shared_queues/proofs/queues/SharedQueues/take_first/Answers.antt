use Rattle.std.proofs.Common.{◌≡◌, ◌-◌, [], refl, sym, ap, ◌∙◌, arith}
use Rattle.std.proofs.lemmas.List.{nil_from_length}
use Rattle.shared_queues.proofs.Moving.{taken_none, taken_first, first_fits}
use Rattle.shared_queues.proofs.queues.SharedQueues.take_first.Goals as goal

pub invariant_of-self : goal.invariant_of-self
invariant_of-self c =
    let y = c.index_mut-queue.result.now in
    let none : y.items.items ≡ [] = nil_from_length y.items.items (sym y.items.ok.0 ∙ c.in_err-item.ensures.cases.0) in
    (taken_none c.self.inside.vm c.self.inside.queues.items c.self.inside.notices c.args.self.now c.args.index y (record y { items = c.pop_front.new.self }) c.self.view_is c.self.invariant c.requires c.index_mut-queue.ensures.value none
    (λ i. record { name = y.name; who = y.who; root = y.root; items = sym c.in_err-item.ensures.items i })).1

pub returns-in_err-item-clause-after : goal.returns-in_err-item-clause-after
returns-in_err-item-clause-after c =
    let y = c.index_mut-queue.result.now in
    let none : y.items.items ≡ [] = nil_from_length y.items.items (sym y.items.ok.0 ∙ c.in_err-item.ensures.cases.0) in
    (taken_none c.self.inside.vm c.self.inside.queues.items c.self.inside.notices c.args.self.now c.args.index y (record y { items = c.pop_front.new.self }) c.self.view_is c.self.invariant c.requires c.index_mut-queue.ensures.value none
    (λ i. record { name = y.name; who = y.who; root = y.root; items = sym c.in_err-item.ensures.items i })).0

pub overflow_sub-self : goal.overflow_sub-self
overflow_sub-self c =
    let y = c.index_mut-queue.result.now in
    omega (arith, c.len.ensures, first_fits c.self.inside.vm c.self.inside.queues.items c.self.inside.notices c.args.self.now c.args.index c.in_ok-item.item c.pop_front.new.self.items y c.self.view_is c.self.invariant c.requires c.index_mut-queue.ensures.value c.in_ok-item.ensures.items)

pub invariant_of-self-2 : goal.invariant_of-self-2
invariant_of-self-2 c =
    let y = c.index_mut-queue.result.now in
    (taken_first c.self.inside.vm c.self.inside.queues.items c.self.inside.notices c.args.self.now c.args.index c.in_ok-item.item (c.self.inside.bytes - c.len.result) y (record y { items = c.pop_front.new.self }) c.self.view_is c.self.invariant c.requires c.index_mut-queue.ensures.value
    c.in_ok-item.ensures.items refl (ap (λ n. c.self.inside.bytes - n) c.len.ensures)).1

pub returns-clause-after : goal.returns-clause-after
returns-clause-after c =
    let y = c.index_mut-queue.result.now in
    (taken_first c.self.inside.vm c.self.inside.queues.items c.self.inside.notices c.args.self.now c.args.index c.in_ok-item.item (c.self.inside.bytes - c.len.result) y (record y { items = c.pop_front.new.self }) c.self.view_is c.self.invariant c.requires c.index_mut-queue.ensures.value
    c.in_ok-item.ensures.items refl (ap (λ n. c.self.inside.bytes - n) c.len.ensures)).0

pub returns-clause-short : goal.returns-clause-short
returns-clause-short c =
    let y = c.index_mut-queue.result.now in
    omega (
      arith,
      c.self.invariant.counted,
      c.self.invariant.within.bytes,
      first_fits c.self.inside.vm c.self.inside.queues.items c.self.inside.notices c.args.self.now c.args.index c.in_ok-item.item c.pop_front.new.self.items y c.self.view_is c.self.invariant c.requires c.index_mut-queue.ensures.value c.in_ok-item.ensures.items,
    )
