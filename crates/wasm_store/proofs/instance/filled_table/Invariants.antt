use Rattle.std.proofs.Common.{◌≡◌, length, drop, replicate, None}
use Rattle.wasm_syntax.specs.Stores.{with_elements, table_size}
use Rattle.wasm_store.proofs.instance.filled_table.Given as goal

abbrev pub invariant-loop-e : goal.invariant-loop-e
invariant-loop-e l =
    record {
      rest : with_elements l.table (drop l.e-index l.m.elements) ≡ with_elements (replicate (table_size l.m) None) l.m.elements;
      size : length l.table ≡ table_size l.m;
    }
