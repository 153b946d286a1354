use Rattle.wasm_syntax.proofs.OperandTable.{agrees_with_row}
use Rattle.wasm_syntax.proofs.store_laws.operands_are_those_of_rows.Goals as goal

pub returns : goal.returns
returns c = agrees_with_row
