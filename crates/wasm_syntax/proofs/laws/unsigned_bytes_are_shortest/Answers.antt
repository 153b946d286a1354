use Rattle.wasm_syntax.proofs.Shortest.{unsigned_shortest}
use Rattle.wasm_syntax.proofs.laws.unsigned_bytes_are_shortest.Goals as goal

pub returns : goal.returns
returns c = unsigned_shortest
