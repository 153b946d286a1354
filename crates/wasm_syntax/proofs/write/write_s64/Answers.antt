use Rattle.std.proofs.Common.{ap, ◌∙◌}
use Rattle.std.specs.Int.{w64}
use Rattle.std.proofs.lemmas.Int.{to_z-of_z}
use Rattle.wasm_syntax.specs.Numbers.{IsSigned, IsShortest, signed_bytes}
use Rattle.wasm_syntax.proofs.Shortest.{appended, long_shortest}
use Rattle.wasm_syntax.proofs.write.write_s64.Goals as goal

pub returns-clause-shortest : goal.returns-clause-shortest
returns-clause-shortest c =
    appended c.extend_from_slice.result (IsShortest (λ text. IsSigned 64 text c.args.v)) _ _ _ _ c.extend_from_slice.ensures.ok (c.spell_signed-len.ensures.spelled ∙ ap (signed_bytes 9) (to_z-of_z w64 c.args.v c.ranges.v)) (long_shortest c.args.v c.ranges.v)
