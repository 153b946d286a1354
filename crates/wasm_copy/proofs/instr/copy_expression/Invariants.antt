use Rattle.std.proofs.Common.{◌≡◌, take}
use Rattle.wasm_copy.proofs.instr.copy_expression.Given as goal

abbrev pub invariant-loop-instr : goal.invariant-loop-instr
invariant-loop-instr l = l.copy ≡ take l.instr-index l.instr-items
