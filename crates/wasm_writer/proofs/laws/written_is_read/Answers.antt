use Rattle.wasm_writer.proofs.Whole.{written_read}
use Rattle.wasm_writer.proofs.laws.written_is_read.Goals as goal

pub returns : goal.returns
returns c = written_read
