use Rattle.std.proofs.Common.{arith}
use Rattle.wasm_writer.proofs.Sizes.{size_starts, size_goes_on, size_is_written}
use Rattle.wasm_writer.proofs.rules.write_size.Goals as goal

pub loop-rest-init : goal.loop-rest-init
loop-rest-init c = size_starts c.args.out.now c.args.n (omega arith)

pub loop-rest-preserved : goal.loop-rest-preserved
loop-rest-preserved c = size_goes_on c.args.out.now c.loop-rest.out c.push.new.self c.args.n c.loop-rest.rest c.loop-rest.invariant c.loop-rest-test.true c.in_ok-push.ensures.ok

pub returns : goal.returns
returns c = size_is_written c.push-2.result c.args.out.now c.loop-rest.out c.push-2.new.self c.args.n c.loop-rest.rest c.loop-rest.invariant c.loop-rest-test.false c.push-2.ensures.ok
