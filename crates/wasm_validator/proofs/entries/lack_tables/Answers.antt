use Rattle.std.proofs.Common.{rules, refl, ap, ◌∙◌}
use Rattle.wasm_syntax.specs.declared.module.Import.{Import}
use Rattle.wasm_syntax.specs.Validity.{table_of}
use Rattle.wasm_validator.proofs.Finding.{lacks, lacking-more}
use Rattle.wasm_validator.proofs.entries.lack_tables.Goals as goal

pub returns-then-is_table : goal.returns-then-is_table
returns-then-is_table c = (
  (λ wrong. absurd (search rules)),
  (λ none. absurd (c.is_table.ensures.yes c.if-is_table.true (ap (λ (i : Import). table_of i.kind) c.i-item.is ∙ lacks table_of c.args.imports.now c.loop-i.i-index c.i-item.result c.loop-i-test.true none))),
)

pub loop-i-preserved : goal.loop-i-preserved
loop-i-preserved c = lacking-more table_of c.args.imports.now c.loop-i.i-index c.i-item.result c.loop-i-test.true c.i-item.is c.loop-i.invariant (c.if-is_table.ensures.no refl)
