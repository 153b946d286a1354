use Rattle.std.proofs.Common.{ℕ, ◌-◌, ◌<◌, ◌≤◌, length}
use Rattle.wasm_syntax.specs.declared.valid.Part.TheVariants as part
use Rattle.wasm_syntax.specs.Validity.{IsGood}
use Rattle.wasm_validator.proofs.code.first_bad_code.Given as goal

-- the codes before are valid
abbrev pub invariant-loop-index : goal.invariant-loop-index
invariant-loop-index l =
    record {
      within : l.index ≤ length l.m.codes;
      good : (k : ℕ) → k < l.index → IsGood l.m part.Code k;
    }

abbrev pub decreases-loop-index : goal.decreases-loop-index
decreases-loop-index l = length l.m.codes - l.index
