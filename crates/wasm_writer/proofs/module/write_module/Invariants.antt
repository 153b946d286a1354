use Rattle.std.proofs.Common.{◌≡◌, ◌++◌, take}
use Rattle.std.specs.List.{flat_map}
use Rattle.wasm_syntax.specs.Grammar.{header}
use Rattle.wasm_writer.specs.Written.{part_bytes}
use Rattle.wasm_writer.proofs.module.write_module.Given as goal

abbrev pub invariant-loop-kind : goal.invariant-loop-kind
invariant-loop-kind l = l.out ≡ header ++ flat_map (part_bytes l.m) (take l.kind-index l.kind-items)
