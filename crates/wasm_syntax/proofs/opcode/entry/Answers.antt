use Rattle.std.proofs.Common.{arith}
use Rattle.std.proofs.lemmas.List.{get_or_default}
use Rattle.wasm_syntax.proofs.opcode.entry.Goals as goal

pub returns : goal.returns
returns c = get_or_default c.args.table.now c.args.byte _ _ (omega arith)
