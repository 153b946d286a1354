use Rattle.wasm_syntax.proofs.MemoryLaws.{one_page_grows}
use Rattle.wasm_syntax.proofs.store_laws.worked_growth.Goals as goal

pub returns-clause-three_pages : goal.returns-clause-three_pages
returns-clause-three_pages c = one_page_grows
