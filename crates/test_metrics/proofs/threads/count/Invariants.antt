use Rattle.std.proofs.Common.{◌≡◌, List}
use Rattle.store_model.specs.Made.{Made}
use Rattle.test_metrics.proofs.threads.count.Given as goal

-- asks were made, and the stores are as many
abbrev pub invariant-loop-turn : goal.invariant-loop-turn
invariant-loop-turn g l = ((made : List Made) × g.S.Shared.performs l.fn.shared made l.shared) × (g.S.Shared.stores l.shared ≡ g.S.Shared.stores l.fn.shared)
