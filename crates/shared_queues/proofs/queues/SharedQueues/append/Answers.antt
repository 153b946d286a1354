use Rattle.std.proofs.Common.{◌+◌, ◌++◌, ◌∷◌, [], length, refl, ap, ◌∙◌}
use Rattle.shared_queues.proofs.Keeping.{appended}
use Rattle.shared_queues.proofs.Moving.{stayed, on_err}
use Rattle.shared_queues.proofs.queues.SharedQueues.append.Goals as goal

pub invariant_of-self : goal.invariant_of-self
invariant_of-self c =
    let y = c.index_mut-queue.result.now in
    (stayed c.self.inside.vm c.self.inside.queues.items c.self.inside.notices c.self.inside.notices c.args.self.now c.args.index y (record y { items = c.reserve.new.self }) c.self.view_is c.self.invariant c.requires.index c.index_mut-queue.ensures.value
    (λ i. record { name = y.name; who = y.who; root = y.root; items = c.reserve.ensures.items i }) refl).1

pub returns-in_err-reserve-clause-err : goal.returns-in_err-reserve-clause-err
returns-in_err-reserve-clause-err c =
    let y = c.index_mut-queue.result.now in
    on_err c.from_residual-in_err-reserve.result _
    (stayed c.self.inside.vm c.self.inside.queues.items c.self.inside.notices c.self.inside.notices c.args.self.now c.args.index y (record y { items = c.reserve.new.self }) c.self.view_is c.self.invariant c.requires.index c.index_mut-queue.ensures.value
    (λ i. record { name = y.name; who = y.who; root = y.root; items = c.reserve.ensures.items i }) refl).0

pub invariant_of-self-in_err-owe : goal.invariant_of-self-in_err-owe
invariant_of-self-in_err-owe c =
    let y = c.index_mut-queue.result.now in
    (stayed c.self.inside.vm c.self.inside.queues.items c.self.inside.notices c.owe.new.self c.args.self.now c.args.index y (record y { items = c.reserve.new.self }) c.self.view_is c.self.invariant c.requires.index c.index_mut-queue.ensures.value
    (λ i. record { name = y.name; who = y.who; root = y.root; items = c.reserve.ensures.items i }) c.in_err-owe.ensures.err).1

pub returns-in_err-owe-clause-err : goal.returns-in_err-owe-clause-err
returns-in_err-owe-clause-err c =
    let y = c.index_mut-queue.result.now in
    on_err c.from_residual-in_err-owe.result _
    (stayed c.self.inside.vm c.self.inside.queues.items c.self.inside.notices c.owe.new.self c.args.self.now c.args.index y (record y { items = c.reserve.new.self }) c.self.view_is c.self.invariant c.requires.index c.index_mut-queue.ensures.value
    (λ i. record { name = y.name; who = y.who; root = y.root; items = c.reserve.ensures.items i }) c.in_err-owe.ensures.err).0

pub invariant_of-self-2 : goal.invariant_of-self-2
invariant_of-self-2 c =
    let y = c.index_mut-queue.result.now in
    (appended c.self.inside.vm c.self.inside.queues.items c.self.inside.notices c.owe.new.self c.args.self.now c.args.index c.args.item.now (c.self.inside.bytes + c.len.result) y (record y { items = c.push_back.new.self }) c.self.view_is c.self.invariant c.requires.index
    c.index_mut-queue.ensures.value c.requires.few c.requires.room
    (λ i. record { name = y.name; who = y.who; root = y.root; items = (c.in_ok-push_back.ensures.items ∙ ap (λ l. l ++ c.in_ok-item.item ∷ []) c.reserve.ensures.items ∙ ap (λ v. y.items.items ++ v ∷ []) c.in_ok-item.ensures) i })
    c.in_ok-owe.ensures.ok (ap (λ n. c.self.inside.bytes + n) (c.len.ensures ∙ ap length c.in_ok-item.ensures))).1

pub returns-clause-ok : goal.returns-clause-ok
returns-clause-ok c =
    let y = c.index_mut-queue.result.now in
    (appended c.self.inside.vm c.self.inside.queues.items c.self.inside.notices c.owe.new.self c.args.self.now c.args.index c.args.item.now (c.self.inside.bytes + c.len.result) y (record y { items = c.push_back.new.self }) c.self.view_is c.self.invariant c.requires.index
    c.index_mut-queue.ensures.value c.requires.few c.requires.room
    (λ i. record { name = y.name; who = y.who; root = y.root; items = (c.in_ok-push_back.ensures.items ∙ ap (λ l. l ++ c.in_ok-item.item ∷ []) c.reserve.ensures.items ∙ ap (λ v. y.items.items ++ v ∷ []) c.in_ok-item.ensures) i })
    c.in_ok-owe.ensures.ok (ap (λ n. c.self.inside.bytes + n) (c.len.ensures ∙ ap length c.in_ok-item.ensures))).0
