use Rattle.wasm_syntax.proofs.MemoryLaws.{grows, grows_not}
use Rattle.wasm_syntax.proofs.store_laws.growth_adds_pages.Goals as goal

pub returns : goal.returns
returns c = record { added = grows; past = grows_not }
