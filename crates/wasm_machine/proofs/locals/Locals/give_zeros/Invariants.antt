use Rattle.std.proofs.Common.{◌≡◌, ◌++◌, take}
use Rattle.wasm_syntax.specs.Reduction.{zeros}
use Rattle.wasm_machine.specs.Held.{held}
use Rattle.wasm_machine.proofs.locals.Locals.give_zeros.Given as goal

abbrev pub invariant-loop-x : goal.invariant-loop-x
invariant-loop-x l = l.self ≡ held (l.initial.self.members ++ zeros (take l.x l.types)) l.initial.self.room
