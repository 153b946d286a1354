use Rattle.std.proofs.Common.{◌≡◌, ◌++◌, take}
use Rattle.std.specs.List.{flat_map}
use Rattle.wasm_writer.specs.Written.{instruction_bytes}
use Rattle.wasm_writer.proofs.code.write_expression.Given as goal

abbrev pub invariant-loop-i : goal.invariant-loop-i
invariant-loop-i l = l.out ≡ l.initial.out ++ flat_map instruction_bytes (take l.i-index l.i-items)
