use Rattle.wasm_syntax.specs.declared.leb.LebEnd.TheVariants.{Truncated, TooLong, UnusedBits}
use Rattle.wasm_syntax.specs.Numbers.{unsigned_at, SetsBeyond}
use Rattle.wasm_syntax.proofs.NumberFaults.{unsigned_reads}
use Rattle.wasm_syntax.proofs.Places.{fault_at, unsigned_number, unsigned_only, unsigned_rest}
use Rattle.wasm_syntax.proofs.leb.read_u32.Goals as goal

pub returns-clause-number : goal.returns-clause-number
returns-clause-number c = unsigned_number c.args.b.now c.args.at c.unsigned.result c.requires c.unsigned.ensures.exact

pub returns-clause-only : goal.returns-clause-only
returns-clause-only c = unsigned_only c.args.b.now c.args.at c.unsigned.result c.unsigned.ensures.exact

pub returns-clause-truncated : goal.returns-clause-truncated
returns-clause-truncated c = fault_at (unsigned_at 16) (SetsBeyond 16) (unsigned_reads 16) Truncated 4 c.args.b.now c.args.at c.unsigned.result c.unsigned.ensures.exact

pub returns-clause-too_long : goal.returns-clause-too_long
returns-clause-too_long c = fault_at (unsigned_at 16) (SetsBeyond 16) (unsigned_reads 16) TooLong 4 c.args.b.now c.args.at c.unsigned.result c.unsigned.ensures.exact

pub returns-clause-unused_bits : goal.returns-clause-unused_bits
returns-clause-unused_bits c = fault_at (unsigned_at 16) (SetsBeyond 16) (unsigned_reads 16) UnusedBits 4 c.args.b.now c.args.at c.unsigned.result c.unsigned.ensures.exact

pub returns-clause-rest : goal.returns-clause-rest
returns-clause-rest c = unsigned_rest c.args.b.now c.args.at c.unsigned.result c.requires c.unsigned.ensures.exact
