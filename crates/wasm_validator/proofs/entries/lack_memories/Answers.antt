use Rattle.std.proofs.Common.{rules, refl, ap, ◌∙◌}
use Rattle.wasm_syntax.specs.declared.module.Import.{Import}
use Rattle.wasm_syntax.specs.Validity.{memory_of}
use Rattle.wasm_validator.proofs.Finding.{lacks, lacking-more}
use Rattle.wasm_validator.proofs.entries.lack_memories.Goals as goal

pub returns-then-is_memory : goal.returns-then-is_memory
returns-then-is_memory c = (
  (λ wrong. absurd (search rules)),
  (λ none. absurd (c.is_memory.ensures.yes c.if-is_memory.true (ap (λ (i : Import). memory_of i.kind) c.i-item.is ∙ lacks memory_of c.args.imports.now c.loop-i.i-index c.i-item.result c.loop-i-test.true none))),
)

pub loop-i-preserved : goal.loop-i-preserved
loop-i-preserved c = lacking-more memory_of c.args.imports.now c.loop-i.i-index c.i-item.result c.loop-i-test.true c.i-item.is c.loop-i.invariant (c.if-is_memory.ensures.no refl)
