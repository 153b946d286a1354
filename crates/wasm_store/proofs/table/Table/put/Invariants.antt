use Rattle.std.proofs.Common.{◌≡◌, ◌+◌, map, take, Some}
use Rattle.wasm_syntax.specs.Memory.{written}
use Rattle.wasm_store.proofs.table.Table.put.Given as goal

abbrev pub invariant-loop-f : goal.invariant-loop-f
invariant-loop-f l =
    record {
      place : l.to ≡ l.at + l.f-index;
      so_far : l.self-inside.elements.items ≡ written l.initial.self-inside.elements.items l.at (map Some (take l.f-index l.functions));
    }
