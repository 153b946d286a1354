use Rattle.std.proofs.Common.{rules, ℤ, sym, ◌∙◌}
use Rattle.std.proofs.lemmas.Int.{to_z-of_z}
use Rattle.std.specs.Int.{w64}
use mir.Val.{SFits, to_z}
use Rattle.wasm_syntax.proofs.Written.{signed_goes_on_as, signed_is_written_as}
use Rattle.wasm_syntax.proofs.write.spell_signed.Goals as goal

pub loop-bytes-preserved : goal.loop-bytes-preserved
loop-bytes-preserved c =
    let rest : ℤ = to_z w64 c.loop-bytes.rest-bits in
    let fits : SFits w64 c.high_part_of-rest.result = search rules in
    signed_goes_on_as _ rest _ c.loop-bytes.len c.low_bits_of.result c.loop-bytes.bytes c.loop-bytes.invariant (sym c.loop-bytes-test.ensures) (to_z-of_z w64 c.high_part_of-rest.result fits ∙ c.high_part_of-rest.ensures) c.low_bits_of.ensures

pub returns-clause-spelled : goal.returns-clause-spelled
returns-clause-spelled c =
    let rest : ℤ = to_z w64 c.loop-bytes.rest-bits in
    signed_is_written_as _ c.args.v rest c.loop-bytes.len c.low_bits_of-2.result c.loop-bytes.bytes c.loop-bytes.invariant (sym c.loop-bytes-test.ensures) c.low_bits_of-2.ensures (to_z-of_z w64 c.args.v c.ranges.v)
