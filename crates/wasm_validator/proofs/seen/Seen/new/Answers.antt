use Rattle.wasm_validator.proofs.SeenNames.{none_seen}
use Rattle.wasm_validator.proofs.seen.Seen.new.Goals as goal

pub returns : goal.returns
returns c = none_seen c.new.result c.new.ensures.empty
