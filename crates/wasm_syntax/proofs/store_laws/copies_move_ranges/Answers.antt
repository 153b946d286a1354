use Rattle.wasm_syntax.proofs.MemoryLaws.{moved_back, above_copied}
use Rattle.wasm_syntax.proofs.store_laws.copies_move_ranges.Goals as goal

pub returns-clause-moved : goal.returns-clause-moved
returns-clause-moved c = moved_back

pub returns-clause-above : goal.returns-clause-above
returns-clause-above c = above_copied
