use Rattle.std.proofs.Common.{rules, ◌∙◌, ◌≡◌}
use Rattle.std.specs.Int.{w32, w64}
use Rattle.std.proofs.lemmas.Int.{to_z-of_z}
use mir.Val.{SFits, to_z, of_z}
use Rattle.wasm_syntax.specs.Numbers.{IsSigned, IsShortest}
use Rattle.wasm_syntax.proofs.Shortest.{appended, appended_exact, word_shortest, word_as_long}
use Rattle.wasm_syntax.proofs.write.write_s32.Goals as goal

pub returns-clause-shortest : goal.returns-clause-shortest
returns-clause-shortest c =
    let fits : SFits w64 c.from.result = search rules in
    let is : to_z w64 (of_z w64 c.from.result) ≡ c.args.v = to_z-of_z w64 c.from.result fits ∙ (c.from.ensures ∙ to_z-of_z w32 c.args.v c.ranges.v) in
    appended c.extend_from_slice.result (IsShortest (λ text. IsSigned 32 text c.args.v)) _ _ _ _ c.extend_from_slice.ensures.ok (c.spell_signed-len.ensures.spelled ∙ word_as_long c.args.v _ is c.ranges.v) (word_shortest c.args.v c.ranges.v)

pub returns-clause-exact : goal.returns-clause-exact
returns-clause-exact c =
    let fits : SFits w64 c.from.result = search rules in
    let is : to_z w64 (of_z w64 c.from.result) ≡ c.args.v = to_z-of_z w64 c.from.result fits ∙ (c.from.ensures ∙ to_z-of_z w32 c.args.v c.ranges.v) in
    appended_exact c.extend_from_slice.result _ _ _ _ c.extend_from_slice.ensures.ok (c.spell_signed-len.ensures.spelled ∙ word_as_long c.args.v _ is c.ranges.v)
