use Rattle.std.proofs.Common.{◌+◌, ◌∷◌, ◌++◌, [], ◌∙◌, length, take, drop, ap, arith}
use Rattle.wasm_machine.specs.Held.{held}
use Rattle.wasm_machine.specs.Marked.{marked}
use Rattle.wasm_machine.proofs.Marked.{length-marked, marked-push}
use Rattle.wasm_machine.proofs.locals.Locals.push.Goals as goal

pub put-requires-clause-there : goal.put-requires-clause-there
put-requires-clause-there c = omega (arith, c.len.ensures, c.self.invariant.enough, c.self.inside.values.ok.0)

pub put-requires-clause-room : goal.put-requires-clause-room
put-requires-clause-room c =
    let all = length-marked c.self.inside.kinds c.self.inside.given.items c.self.inside.values.items c.self.invariant.marks c.self.invariant.enough in
    omega (arith, c.len.ensures, all, ap (λ s. length s.members) c.self.view_is, ap (λ s. s.room) c.self.view_is, c.requires, c.self.invariant.values_fit)

pub push-requires : goal.push-requires
push-requires c = omega (arith, c.self.invariant.marks, c.self.inside.given.ok, c.self.inside.given.small)

pub push_reserved-requires : goal.push_reserved-requires
push_reserved-requires c =
    let all = length-marked c.self.inside.kinds c.self.inside.given.items c.self.inside.values.items c.self.invariant.marks c.self.invariant.enough in
    omega (arith, c.self.inside.given.ok.0, c.self.invariant.marks, all, ap (λ s. length s.members) c.self.view_is, ap (λ s. s.room) c.self.view_is, c.requires, c.self.invariant.given_fit)

pub returns : goal.returns
returns c =
    let ts = c.self.inside.kinds in
    let gs = c.self.inside.given.items in
    let vs = c.self.inside.values.items in
    let k = c.len.ensures in
    let values = c.put.ensures.items ∙ ap (λ n. take n vs ++ c.args.v ∷ drop (c.len.result + 1) vs) k in
    let more = marked-push ts gs vs (drop (c.len.result + 1) vs) c.push.ensures.0 c.args.v c.self.invariant.marks c.self.invariant.enough in
    (λ i. held (marked (c.push.ensures.1 i) (c.push_reserved.ensures.items i) (values i)) c.self.inside.room)
    ∙ ap (λ xs. held xs c.self.inside.room) more
    ∙ ap (λ s. held (s.members ++ c.args.v ∷ []) s.room) c.self.view_is
