use Rattle.std.proofs.Common.{◌≤◌, ◌∙◌, length, drop, sym, ap, arith, length-drop}
use Rattle.std.proofs.lemmas.Option.{slice_get_past}
use Rattle.wasm_machine.proofs.Marked.{length-marked, slice_get-drop}
use Rattle.wasm_machine.proofs.locals.Locals.get.Goals as goal

pub overflow_sub-len : goal.overflow_sub-len
overflow_sub-len c =
    let all = length-marked c.self.inside.kinds c.self.inside.given.items c.self.inside.values.items c.self.invariant.marks c.self.invariant.enough in
    omega (arith, c.requires, c.len.ensures, ap (λ s. length s.members) c.self.view_is, all)

pub at-requires : goal.at-requires
at-requires c =
    let all = length-marked c.self.inside.kinds c.self.inside.given.items c.self.inside.values.items c.self.invariant.marks c.self.invariant.enough in
    omega (arith, c.if-x-len.true, c.requires, c.len.ensures, ap (λ s. length s.members) c.self.view_is, all)

pub returns-then-x-len : goal.returns-then-x-len
returns-then-x-len c = sym (slice_get-drop c.args.base c.args.self.now.members c.args.x ∙ c.at.ensures)

pub returns-else-x-len : goal.returns-else-x-len
returns-else-x-len c =
    let all = length-marked c.self.inside.kinds c.self.inside.given.items c.self.inside.values.items c.self.invariant.marks c.self.invariant.enough in
    let past : length (drop c.args.base c.args.self.now.members) ≤ c.args.x = omega (arith, length-drop c.args.base c.args.self.now.members, c.if-x-len.false, c.requires, c.len.ensures, ap (λ s. length s.members) c.self.view_is, all) in
    sym (slice_get_past (drop c.args.base c.args.self.now.members) c.args.x past)
