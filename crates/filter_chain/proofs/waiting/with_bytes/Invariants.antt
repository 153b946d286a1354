use Rattle.std.proofs.Common.{◌≡◌, ◌+◌, drop}
use Rattle.filter_chain.specs.Items.{size}
use Rattle.filter_chain.proofs.waiting.with_bytes.Given as goal

abbrev pub invariant-loop-item : goal.invariant-loop-item
invariant-loop-item l = l.some + size l.items ≡ l.sum + size (drop l.item-index l.items)
