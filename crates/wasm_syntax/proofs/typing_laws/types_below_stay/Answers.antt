use Rattle.wasm_syntax.proofs.TypingLaws.{types_below_stay}
use Rattle.wasm_syntax.proofs.typing_laws.types_below_stay.Goals as goal

pub returns : goal.returns
returns c = types_below_stay
