use Rattle.std.proofs.Common.{◌≡◌, ◌+◌, [], length, take, arith, ap, ◌∙◌}
use Rattle.std.specs.List.{cons_option}
use Rattle.std.proofs.lemmas.List.{length-append}
use Rattle.wasm_syntax.specs.Validity.{imports_of, memory_of}
use Rattle.wasm_validator.proofs.Finding.{imports-more}
use Rattle.wasm_validator.proofs.scope.imported_memories.Goals as goal

pub loop-i-preserved : goal.loop-i-preserved
loop-i-preserved c =
    let one = cons_option (memory_of c.i-item.result.kind) [] in
    let so_far = imports_of memory_of (take c.loop-i.i-index c.args.imports.now) in
    let more : length (imports_of memory_of (take (c.loop-i.i-index + 1) c.args.imports.now)) ≡ length so_far + length one = ap length (imports-more memory_of c.args.imports.now c.loop-i.i-index c.i-item.result c.loop-i-test.true c.i-item.is) ∙ length-append so_far one in
    record {
      counted = omega (arith, more, c.loop-i.invariant.counted, c.memories_in-count.ensures.count);
      most = omega (arith, c.loop-i.invariant.most, c.memories_in-count.ensures.most);
    }
