use Rattle.wasm_syntax.proofs.RowTable.{rows_of_bytes}
use Rattle.wasm_syntax.proofs.typing_laws.rows_by_their_bytes.Goals as goal

pub returns-clause-rows : goal.returns-clause-rows
returns-clause-rows c = rows_of_bytes
