use Rattle.std.proofs.Common.{◌≡◌, ℕ, List, ◌∷◌, ◌≤◌, ◌+◌, ◌-◌, ◌++◌, ◌∙◌, length, ap, arith, false, length-append, refl}
use Rattle.std.specs.Prelude.{replicate}
use Rattle.std.proofs.lemmas.List.{length-replicate}
use Rattle.wasm_syntax.specs.declared.types.Value.TheVariants as value
use Rattle.wasm_syntax.specs.Reduction.{zeros}
use Rattle.wasm_machine.specs.Held.{held}
use Rattle.wasm_machine.specs.Marked.{marked}
use Rattle.wasm_machine.proofs.Marked.{length-marked, marked-zeros, marked-longer}
use Rattle.wasm_machine.proofs.locals.Locals.mark_zeros.Goals as goal

pub append-requires-clause-few : goal.append-requires-clause-few
append-requires-clause-few c = omega (arith, c.self.invariant.marks, c.self.inside.given.ok, c.self.inside.given.small)

pub reach-requires : goal.reach-requires
reach-requires c =
    let all = length-marked c.self.inside.kinds c.self.inside.given.items c.self.inside.values.items c.self.invariant.marks c.self.invariant.enough in
    omega (arith, c.len-count.ensures.count, c.len-before.ensures, all, ap (λ s. length s.members) c.self.view_is, ap (λ s. s.room) c.self.view_is, c.requires.room, c.self.invariant.values_fit)

pub mark-requires-clause-room : goal.mark-requires-clause-room
mark-requires-clause-room c =
    let all = length-marked c.self.inside.kinds c.self.inside.given.items c.self.inside.values.items c.self.invariant.marks c.self.invariant.enough in
    omega (arith, c.len-count.ensures.count, c.self.inside.given.ok.0, c.self.invariant.marks, all, ap (λ s. length s.members) c.self.view_is, ap (λ s. s.room) c.self.view_is, c.requires.room, c.self.invariant.given_fit)

pub returns-then-append-clause-all : goal.returns-then-append-clause-all
returns-then-append-clause-all c is =
    let inside = c.self.inside in
    let ts = inside.kinds in
    let us = c.args.types.now in
    let n = c.len-count.result in
    let more = replicate (c.len-before.result + n - inside.values.len) (value.I32 0) in
    let vs = inside.values.items ++ more in
    let enough : length ts + length us ≤ length vs = omega (arith, length-append inside.values.items more, length-replicate (c.len-before.result + n - inside.values.len) (value.I32 0), c.len-count.ensures.count, c.len-before.ensures, inside.values.ok.0, c.self.invariant.enough) in
    (λ i. held (marked (c.append.ensures.all c.if-append.true i) (c.mark.ensures.items i) (c.reach.ensures.items i)) inside.room)
    ∙ ap (λ (k : ℕ). held (marked (ts ++ us) (inside.given.items ++ replicate k false) vs) inside.room) c.len-count.ensures.count
    ∙ ap (λ xs. held xs inside.room) (marked-zeros ts us inside.given.items vs c.self.invariant.marks enough)
    ∙ ap (λ xs. held (xs ++ zeros us) inside.room) (marked-longer ts inside.given.items inside.values.items more c.self.invariant.enough)
    ∙ ap (λ s. held (s.members ++ zeros us) s.room) c.self.view_is

pub returns-else-append-clause-none : goal.returns-else-append-clause-none
returns-else-append-clause-none c is =
    let inside = c.self.inside in
    ap (λ ts. held (marked ts inside.given.items inside.values.items) inside.room) (c.append.ensures.none c.if-append.false) ∙ c.self.view_is
