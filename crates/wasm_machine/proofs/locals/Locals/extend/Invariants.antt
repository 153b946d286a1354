use Rattle.std.proofs.Common.{◌≡◌, ◌++◌, take}
use Rattle.wasm_machine.specs.Held.{held}
use Rattle.wasm_machine.proofs.locals.Locals.extend.Given as goal

abbrev pub invariant-loop-v : goal.invariant-loop-v
invariant-loop-v l = l.self ≡ held (l.initial.self.members ++ take l.v-index l.values) l.initial.self.room
