use Rattle.wasm_syntax.proofs.TypingLaws.{one_first, valid_has_none}
use Rattle.wasm_syntax.proofs.typing_laws.one_first_invalid.Goals as goal

pub returns : goal.returns
returns c = record { one = one_first; apart = valid_has_none }
