use Rattle.std.proofs.Common.{ℕ, ◌-◌, ◌<◌, ◌≤◌}
use Rattle.wasm_syntax.specs.Validity.{IsGood}
use Rattle.wasm_validator.proofs.entries.first_bad.Given as goal

-- those before are valid
abbrev pub invariant-loop-n : goal.invariant-loop-n
invariant-loop-n l =
    record {
      within : l.n ≤ l.most;
      good : (k : ℕ) → k < l.n → IsGood l.m l.p k;
    }

abbrev pub decreases-loop-n : goal.decreases-loop-n
decreases-loop-n l = l.most - l.n
