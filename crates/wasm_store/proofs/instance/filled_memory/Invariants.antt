use Rattle.std.proofs.Common.{◌≡◌, ◌*◌, length, drop, replicate}
use Rattle.wasm_syntax.specs.Memory.{page}
use Rattle.wasm_syntax.specs.Stores.{with_segments, first_pages, growth_bound}
use Rattle.wasm_store.specs.Memories.{IsWhole}
use Rattle.wasm_store.proofs.instance.filled_memory.Given as goal

abbrev pub invariant-loop-s : goal.invariant-loop-s
invariant-loop-s l =
    record {
      rest : with_segments l.memory.bytes (drop l.s-index l.m.segments) ≡ with_segments (replicate (page * first_pages l.m) 0) l.m.segments;
      size : length l.memory.bytes ≡ page * first_pages l.m;
      whole : IsWhole l.memory;
      most : l.memory.most ≡ growth_bound l.m l.pages;
    }
