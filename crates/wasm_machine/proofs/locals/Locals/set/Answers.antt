use Rattle.std.proofs.Common.{◌≤◌, ◌∙◌, ◌+◌, length, drop, take, ap, arith}
use Rattle.std.specs.Prelude.{slice_set}
use Rattle.std.proofs.lemmas.List.{drop-set-add, take-set-le}
use Rattle.wasm_machine.proofs.Marked.{marked-set, length-marked}
use Rattle.wasm_machine.proofs.locals.Locals.set.Goals as goal

pub index_mut-requires : goal.index_mut-requires
index_mut-requires c =
    let all = length-marked c.self.inside.kinds c.self.inside.given.items c.self.inside.values.items c.self.invariant.marks c.self.invariant.enough in
    omega (arith, c.requires, ap (λ s. length s.members) c.self.view_is, all, c.self.invariant.enough, c.self.inside.values.ok.0)

pub index_mut-requires-2 : goal.index_mut-requires-2
index_mut-requires-2 c =
    let all = length-marked c.self.inside.kinds c.self.inside.given.items c.self.inside.values.items c.self.invariant.marks c.self.invariant.enough in
    omega (arith, c.requires, ap (λ s. length s.members) c.self.view_is, all, c.self.invariant.marks, c.self.inside.given.ok.0)

pub returns-clause-frame : goal.returns-clause-frame
returns-clause-frame c =
    let inside = c.self.inside in
    let k = c.args.base + c.args.x in
    ap (λ xs. drop c.args.base xs) (marked-set inside.kinds inside.given.items inside.values.items k c.args.v)
    ∙ ap (λ s. drop c.args.base (slice_set s.members k c.args.v)) c.self.view_is
    ∙ drop-set-add c.args.base c.args.self.now.members c.args.x c.args.v

pub returns-clause-below : goal.returns-clause-below
returns-clause-below c =
    let inside = c.self.inside in
    let k = c.args.base + c.args.x in
    let low : c.args.base ≤ k = omega arith in
    ap (λ xs. take c.args.base xs) (marked-set inside.kinds inside.given.items inside.values.items k c.args.v)
    ∙ ap (λ s. take c.args.base (slice_set s.members k c.args.v)) c.self.view_is
    ∙ take-set-le c.args.base c.args.self.now.members k c.args.v low

pub overflow_add-base : goal.overflow_add-base
overflow_add-base c =
    let all = length-marked c.self.inside.kinds c.self.inside.given.items c.self.inside.values.items c.self.invariant.marks c.self.invariant.enough in
    omega (arith, c.requires, ap (λ s. length s.members) c.self.view_is, all, c.self.inside.given.ok, c.self.inside.given.small, c.self.invariant.marks)

pub overflow_add-base-2 : goal.overflow_add-base-2
overflow_add-base-2 c =
    let all = length-marked c.self.inside.kinds c.self.inside.given.items c.self.inside.values.items c.self.invariant.marks c.self.invariant.enough in
    omega (arith, c.requires, ap (λ s. length s.members) c.self.view_is, all, c.self.inside.given.ok, c.self.inside.given.small, c.self.invariant.marks)
