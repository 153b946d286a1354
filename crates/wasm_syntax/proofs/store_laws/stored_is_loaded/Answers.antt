use Rattle.wasm_syntax.proofs.MemoryLaws.{loaded_back, length-stored, below_stays, above_stays, both_outside}
use Rattle.wasm_syntax.proofs.store_laws.stored_is_loaded.Goals as goal

pub returns : goal.returns
returns c = record { back = loaded_back; length = length-stored; below = below_stays; above = above_stays; outside = both_outside }
