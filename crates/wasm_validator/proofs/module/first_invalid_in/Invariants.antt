use Rattle.std.proofs.Common.{ℕ, ◌-◌, ◌<◌, ◌≤◌}
use Rattle.wasm_syntax.specs.declared.valid.Part.{Part}
use Rattle.wasm_syntax.specs.Validity.{IsGood, entries_of, turn_of}
use Rattle.wasm_validator.proofs.module.first_invalid_in.Given as goal

-- the parts of the turns before are valid
abbrev pub invariant-loop-turn : goal.invariant-loop-turn
invariant-loop-turn l =
    record {
      within : l.turn ≤ 9;
      good : (q : Part) (k : ℕ) → turn_of q < l.turn → k < entries_of l.m q → IsGood l.m q k;
    }

abbrev pub decreases-loop-turn : goal.decreases-loop-turn
decreases-loop-turn l = 9 - l.turn
