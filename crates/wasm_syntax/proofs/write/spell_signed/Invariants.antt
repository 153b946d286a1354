use Rattle.std.specs.Prelude.{unsigned_abs}
use Rattle.wasm_syntax.proofs.Written.{IsSignedSoFar}
use Rattle.wasm_syntax.proofs.write.spell_signed.Given as goal

abbrev pub invariant-loop-bytes : goal.invariant-loop-bytes
invariant-loop-bytes l = IsSignedSoFar l.fn.v l.rest l.len l.bytes

abbrev pub decreases-loop-bytes : goal.decreases-loop-bytes
decreases-loop-bytes l = unsigned_abs l.rest
