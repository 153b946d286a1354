use Rattle.wasm_syntax.proofs.Written.{IsUnsignedSoFar}
use Rattle.wasm_syntax.proofs.write.spell_unsigned.Given as goal

abbrev pub invariant-loop-rest : goal.invariant-loop-rest
invariant-loop-rest l = IsUnsignedSoFar l.fn.v l.rest l.len l.bytes

abbrev pub decreases-loop-rest : goal.decreases-loop-rest
decreases-loop-rest l = l.rest
