use Rattle.std.proofs.Common.{◌<◌, ◌-◌, ◌++◌, [], ◌∷◌, ◌∙◌, length, take, drop, sym, ap, arith, append_assoc, length-append}
use Rattle.std.specs.Prelude.{reverse}
use Rattle.std.proofs.lemmas.Option.{slice_get-get_or}
use Rattle.wasm_syntax.specs.declared.types.Value.TheVariants as value
use Rattle.wasm_machine.proofs.Taken.{one_lower}
use Rattle.wasm_machine.proofs.locals.Locals.take_over.Goals as goal

pub loop-depth-preserved-in-Some : goal.loop-depth-preserved-in-Some
loop-depth-preserved-in-Some c =
    let h = c.loop-depth.invariant in
    let vs = c.args.values.now.members in
    let more = ap (λ s. s.members) c.push.ensures in
    let lower = one_lower vs c.args.count c.loop-depth.depth c.in-Some.v c.loop-depth-test.true h.low c.requires.there (sym c.in-Some.ensures) in
    record {
      low = omega (arith, h.low);
      members = more ∙ ap (λ xs. xs ++ c.in-Some.v ∷ []) h.members ∙ append_assoc c.args.self.now.members (reverse (drop c.loop-depth.depth (take c.args.count vs))) (c.in-Some.v ∷ [])
          ∙ ap (λ xs. c.args.self.now.members ++ xs) (sym lower);
      many = omega (arith, ap length more, length-append c.loop-depth.self.members (c.in-Some.v ∷ []), h.many, c.loop-depth-test.true);
      room = ap (λ s. s.room) c.push.ensures ∙ h.room;
    }

pub loop-depth-preserved : goal.loop-depth-preserved
loop-depth-preserved c =
    let h = c.loop-depth.invariant in
    let within : c.loop-depth.depth - 1 < length c.args.values.now.members = omega (arith, h.low, c.requires.there, c.loop-depth-test.true) in
    absurd (c.in_default.not-Some _ (c.get.ensures ∙ slice_get-get_or c.args.values.now.members (c.loop-depth.depth - 1) (value.I32 0) within))
