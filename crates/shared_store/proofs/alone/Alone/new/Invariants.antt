use Rattle.std.proofs.Common.{◌≡◌, length}
use Rattle.shared_store.specs.Fresh.{fresh_metrics, fresh_stores}
use Rattle.shared_store.proofs.alone.Alone.new.Given as goal

-- those so far are the first ones
abbrev pub invariant-loop-n : goal.invariant-loop-n
invariant-loop-n l = (l.stores.items ≡ fresh_stores l.n) × (l.metrics.items ≡ fresh_metrics l.n) × (length l.metrics.items ≡ length l.stores.items)
