use Rattle.std.proofs.Common.{◌≡◌, ◌<◌, ◌+◌, ◌++◌, [], ◌∷◌, ◌∙◌, Some, length, take, sym, ap, arith, append_assoc, length-append}
use Rattle.std.specs.Prelude.{slice_get}
use Rattle.wasm_syntax.specs.Numeric.{zero_of}
use Rattle.wasm_syntax.specs.Reduction.{zeros}
use Rattle.wasm_machine.specs.Held.{held}
use Rattle.wasm_machine.proofs.Marked.{length-zeros, zeros-more}
use Rattle.wasm_machine.proofs.Stretches.{told-kind}
use Rattle.wasm_machine.proofs.locals.Locals.give_zeros.Goals as goal

pub push-requires : goal.push-requires
push-requires c =
    let h = c.loop-x.invariant in
    let ms = c.args.self.now.members in
    let us = c.args.types.now in
    let x = c.loop-x.x in
    let within : x < length us = omega (arith, c.loop-x-test.true, c.len-x-end.ensures.count) in
    let many = length-zeros us x (omega (arith, within)) in
    omega (arith, within, many, length-append ms (zeros (take x us)), ap (λ s. length s.members) h, ap (λ s. s.room) h, c.requires)

pub loop-x-preserved : goal.loop-x-preserved
loop-x-preserved c =
    let h = c.loop-x.invariant in
    let ms = c.args.self.now.members in
    let us = c.args.types.now in
    let x = c.loop-x.x in
    let within : x < length us = omega (arith, c.loop-x-test.true, c.len-x-end.ensures.count) in
    let here : slice_get us x ≡ Some c.listed.result = told-kind us x within ∙ ap (λ t. Some t) (sym c.listed.ensures) in
    let zero = zero_of c.listed.result in
    c.push.ensures
    ∙ ap (λ v. held (c.loop-x.self.members ++ v ∷ []) c.loop-x.self.room) c.zero.ensures
    ∙ ap (λ s. held (s.members ++ zero ∷ []) s.room) h
    ∙ ap (λ vs. held vs c.args.self.now.room) (append_assoc ms (zeros (take x us)) (zero ∷ []))
    ∙ ap (λ vs. held (ms ++ vs) c.args.self.now.room) (sym (zeros-more us x c.listed.result here))
