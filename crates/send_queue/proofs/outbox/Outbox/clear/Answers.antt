use Rattle.std.proofs.Common.{sym, subst}
use Rattle.std.proofs.lemmas.Bool.{OnTrue_at, OnTrue_from}
use Rattle.send_queue.specs.Sorted.{IsSorted}
use Rattle.send_queue.proofs.Sorting.{sorted-without}
use Rattle.send_queue.proofs.outbox.Outbox.clear.Goals as goal

pub invariant_of-self : goal.invariant_of-self
invariant_of-self c = OnTrue_from c.self.inside.is_sorted (IsSorted c.forget.new.waiting.items) (λ is.
    subst IsSorted (sym c.forget.ensures) (sorted-without c.in-Some.place 0 c.self.inside.waiting.items (OnTrue_at is c.self.invariant)))
