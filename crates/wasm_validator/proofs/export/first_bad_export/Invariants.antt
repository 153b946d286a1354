use Rattle.std.proofs.Common.{ℕ, List, ◌↔◌, ◌-◌, ◌<◌, ◌≤◌, length}
use Rattle.wasm_syntax.specs.declared.valid.Part.TheVariants as part
use Rattle.wasm_syntax.specs.Validity.{IsGood}
use Rattle.wasm_validator.specs.Seen.{IsSeen}
use Rattle.wasm_validator.proofs.ExportNames.{IsNamed}
use Rattle.wasm_validator.proofs.export.first_bad_export.Given as goal

-- the exports before are valid, and their names are those seen
abbrev pub invariant-loop-n : goal.invariant-loop-n
invariant-loop-n l =
    record {
      within : l.n ≤ length l.m.exports;
      good : (k : ℕ) → k < l.n → IsGood l.m part.Export k;
      names : (q : List ℕ) → IsSeen l.seen q ↔ IsNamed l.m.exports l.n q;
    }

abbrev pub decreases-loop-n : goal.decreases-loop-n
decreases-loop-n l = length l.m.exports - l.n
