use Rattle.std.proofs.Common.{◌≡◌, List}
use Rattle.store_model.specs.Made.{Made}
use Rattle.test_metrics.proofs.threads.raise.Given as goal

-- calls were made, and the stores are as many
abbrev pub invariant-loop : goal.invariant-loop
invariant-loop g l = ((made : List Made) × g.S.Shared.performs l.fn.shared made l.shared) × (g.S.Shared.stores l.shared ≡ g.S.Shared.stores l.fn.shared)
