use Rattle.wasm_syntax.proofs.Shortest.{word_shortest, long_shortest}
use Rattle.wasm_syntax.proofs.laws.signed_bytes_are_shortest.Goals as goal

pub returns : goal.returns
returns c = record { word = word_shortest; long = long_shortest }
