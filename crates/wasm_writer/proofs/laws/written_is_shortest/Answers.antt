use Rattle.wasm_writer.proofs.Whole.{written_shortest}
use Rattle.wasm_writer.proofs.laws.written_is_shortest.Goals as goal

pub returns : goal.returns
returns c = written_shortest
