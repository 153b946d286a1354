use Rattle.std.proofs.Common.{◌≡◌, ◌≤◌, length, get_or, sum_by, ap, subst, ◌∙◌, sym, arith, List}
use Rattle.std.proofs.lemmas.List.Sums.{sum_by_more_le}
use Rattle.shared_queues.specs.declared.queues.Queue.{Queue}
use Rattle.shared_queues.proofs.Moving.{count_is}
use Rattle.shared_queues.proofs.queues.SharedQueues.item_count.Goals as goal

pub overflow_add-count : goal.overflow_add-count
overflow_add-count c =
    let xs = c.deref-queue-items.result.now in
    let most : sum_by (λ (q : Queue). length q.items.items) xs ≤ 67108864 =
    subst (λ (l : List Queue). sum_by (λ (q : Queue). length q.items.items) l ≤ 67108864) (sym c.deref-queue-items.ensures.value) (count_is c.self.inside.vm c.self.inside.queues.items c.self.inside.notices c.args.self.now c.self.view_is c.self.invariant).1 in
    let item = c.queue-item.result in
    let long : c.len.result ≡ length (get_or xs c.loop-queue.queue-index item).items.items = c.len.ensures ∙ item.items.ok.0 ∙ ap (λ (q : Queue). length q.items.items) c.queue-item.is in
    omega (arith, most, long, c.loop-queue.invariant, sum_by_more_le (λ (q : Queue). length q.items.items) xs c.loop-queue.queue-index item c.loop-queue-test.true)
