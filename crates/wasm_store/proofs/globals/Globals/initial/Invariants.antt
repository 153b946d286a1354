use Rattle.std.proofs.Common.{◌≡◌, map, take}
use Rattle.wasm_syntax.specs.declared.module.Global.{Global}
use Rattle.wasm_syntax.specs.Stores.{initial}
use Rattle.wasm_store.proofs.globals.Globals.initial.Given as goal

abbrev pub invariant-loop-g : goal.invariant-loop-g
invariant-loop-g l = l.values.items ≡ map (λ (g : Global). initial g.initial) (take l.g-index l.m.globals)
