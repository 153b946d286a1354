use Rattle.std.proofs.Common.{refl, arith}
use Rattle.wasm_syntax.specs.declared.leb.LebEnd.TheVariants.{Truncated, TooLong, UnusedBits}
use Rattle.wasm_syntax.specs.Numbers.{signed_at, SetsBeyondSign}
use Rattle.wasm_syntax.proofs.NumberFaults.{signed_reads}
use Rattle.wasm_syntax.proofs.Places.{fault_at, signed_number, signed_only, signed_rest}
use Rattle.wasm_syntax.proofs.leb.read_s32.Goals as goal

pub returns-clause-number : goal.returns-clause-number
returns-clause-number c = signed_number 4 4 32 c.args.b.now c.args.at c.signed_word.result (omega arith) (omega arith) refl c.requires c.signed_word.ensures

pub returns-clause-only : goal.returns-clause-only
returns-clause-only c = signed_only 4 4 32 c.args.b.now c.args.at c.signed_word.result (omega arith) refl c.signed_word.ensures

pub returns-clause-truncated : goal.returns-clause-truncated
returns-clause-truncated c = fault_at (signed_at 8) (SetsBeyondSign 8) (signed_reads 8 (omega arith)) Truncated 4 c.args.b.now c.args.at c.signed_word.result c.signed_word.ensures

pub returns-clause-too_long : goal.returns-clause-too_long
returns-clause-too_long c = fault_at (signed_at 8) (SetsBeyondSign 8) (signed_reads 8 (omega arith)) TooLong 4 c.args.b.now c.args.at c.signed_word.result c.signed_word.ensures

pub returns-clause-unused_bits : goal.returns-clause-unused_bits
returns-clause-unused_bits c = fault_at (signed_at 8) (SetsBeyondSign 8) (signed_reads 8 (omega arith)) UnusedBits 4 c.args.b.now c.args.at c.signed_word.result c.signed_word.ensures

pub returns-clause-rest : goal.returns-clause-rest
returns-clause-rest c = signed_rest 4 4 32 c.args.b.now c.args.at c.signed_word.result (omega arith) (omega arith) refl c.requires c.signed_word.ensures
