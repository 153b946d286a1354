use Rattle.std.proofs.Common.{◌<◌, ◌-◌, ◌++◌, [], ◌∷◌, ◌∙◌, length, sym, ap, arith, length-append}
use Rattle.std.proofs.lemmas.Option.{slice_get-get_or}
use Rattle.wasm_syntax.specs.declared.types.Value.TheVariants as value
use Rattle.wasm_machine.proofs.Taken.{one_lower}
use Rattle.wasm_machine.proofs.values.Values.topmost.Goals as goal

pub loop-depth-preserved-in-Some : goal.loop-depth-preserved-in-Some
loop-depth-preserved-in-Some c =
    let h = c.loop-depth.invariant in
    let lower = one_lower c.args.values.now.members c.args.count c.loop-depth.depth c.in-Some.v c.loop-depth-test.true h.low c.requires.there (sym c.in-Some.ensures) in
    record {
      low = omega (arith, h.low);
      members = c.push.ensures ∙ ap (λ xs. xs ++ c.in-Some.v ∷ []) h.members ∙ sym lower;
      many = omega (arith, ap length c.push.ensures, length-append c.loop-depth.taken (c.in-Some.v ∷ []), h.many, c.loop-depth-test.true);
    }

pub loop-depth-preserved : goal.loop-depth-preserved
loop-depth-preserved c =
    let h = c.loop-depth.invariant in
    let within : c.loop-depth.depth - 1 < length c.args.values.now.members = omega (arith, h.low, c.requires.there, c.loop-depth-test.true) in
    absurd (c.in_default.not-Some _ (c.get.ensures ∙ slice_get-get_or c.args.values.now.members (c.loop-depth.depth - 1) (value.I32 0) within))
