use Rattle.std.proofs.Common.{◌≡◌, reverse, ◌≤◌, take, length}
use Rattle.wasm_validator.specs.Checking.{all_popped}
use Rattle.wasm_validator.proofs.operands.Operands.pop_all.Given as goal

-- what is left to be taken decides
abbrev pub invariant-loop-left : goal.invariant-loop-left
invariant-loop-left l =
    record {
      within : l.left ≤ length l.ts;
      still : all_popped (reverse l.ts) l.fn.self ≡ all_popped (reverse (take l.left l.ts)) l.self;
    }

abbrev pub decreases-loop-left : goal.decreases-loop-left
decreases-loop-left l = l.left
