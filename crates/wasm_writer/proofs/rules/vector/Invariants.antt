use Rattle.std.proofs.Common.{◌≡◌, ◌++◌, take}
use Rattle.std.specs.List.{flat_map}
use Rattle.wasm_writer.proofs.rules.vector.Given as goal

abbrev pub invariant-loop-x : goal.invariant-loop-x
invariant-loop-x g l = l.out ≡ l.initial.out ++ flat_map g.F.Form.bytes (take l.x-index l.x-items)
