use Rattle.std.proofs.Common.{arith}
use Rattle.wasm_syntax.specs.Numbers.{IsUnsigned, IsShortest}
use Rattle.wasm_syntax.proofs.Shortest.{appended, unsigned_shortest}
use Rattle.wasm_syntax.proofs.write.write_u32.Goals as goal

pub returns-clause-shortest : goal.returns-clause-shortest
returns-clause-shortest c =
    appended c.extend_from_slice.result (IsShortest (λ text. IsUnsigned 32 text c.args.v)) _ _ _ _ c.extend_from_slice.ensures.ok c.spell_unsigned-len.ensures.spelled (unsigned_shortest c.args.v (omega arith))
