use Rattle.wasm_writer.proofs.Sizes.{IsSizeSoFar}
use Rattle.wasm_writer.proofs.rules.write_size.Given as goal

abbrev pub invariant-loop-rest : goal.invariant-loop-rest
invariant-loop-rest l = IsSizeSoFar l.fn.out l.out l.n l.rest

abbrev pub decreases-loop-rest : goal.decreases-loop-rest
decreases-loop-rest l = l.rest
