use Rattle.std.proofs.Common.{◌≡◌, ◌-◌, ◌≤◌, take, length, Some, []}
use Rattle.wasm_validator.specs.Checking.{walked}
use Rattle.wasm_validator.specs.Scopes.{context_in}
use Rattle.wasm_validator.proofs.Bodies.{begun}
use Rattle.wasm_validator.proofs.body.first_untyped.Given as goal

-- the checker is what the walk so far leads to
abbrev pub invariant-loop-place : goal.invariant-loop-place
invariant-loop-place l =
    record {
      within : l.place ≤ length l.body;
      still_open : l.checker ≡ [] → ⊥;
      walked : walked (context_in l.names) (begun (context_in l.names)) (take l.place l.body) ≡ Some l.checker;
    }

abbrev pub decreases-loop-place : goal.decreases-loop-place
decreases-loop-place l = length l.body - l.place
