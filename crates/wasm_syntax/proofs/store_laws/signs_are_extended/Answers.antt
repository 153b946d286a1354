use Rattle.wasm_syntax.proofs.SignLaws.{byte, half, byte_to_long, half_to_long, word_to_long}
use Rattle.wasm_syntax.proofs.store_laws.signs_are_extended.Goals as goal

pub returns : goal.returns
returns c = record { byte = byte; half = half; byte_to_long = byte_to_long; half_to_long = half_to_long; word_to_long = word_to_long }
