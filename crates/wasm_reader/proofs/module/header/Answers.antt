use Rattle.std.proofs.Common.{sym, ◌∙◌, arith}
use Rattle.wasm_reader.proofs.Whole.{header_goes_on, header_differs, header_cut}
use Rattle.wasm_reader.proofs.module.header.Goals as goal

pub returns-then-i-b-clause-fault : goal.returns-then-i-b-clause-fault
returns-then-i-b-clause-fault c = rw c.cut_off.ensures (omega arith, sym c.loop-i.invariant.1 ∙ header_cut c.loop-i.i c.args.b.now c.loop-i-test.true (omega arith))

pub returns-then-b-i-clause-fault : goal.returns-then-b-i-clause-fault
returns-then-b-i-clause-fault c = (c.loop-i.invariant.0, sym c.loop-i.invariant.1 ∙ header_differs c.loop-i.i c.args.b.now c.loop-i-test.true (omega arith) c.if-b-i.true)

pub loop-i-preserved : goal.loop-i-preserved
loop-i-preserved c = (omega arith, sym (header_goes_on c.loop-i.i c.args.b.now c.loop-i-test.true (omega arith) c.if-b-i.false) ∙ c.loop-i.invariant.1)
