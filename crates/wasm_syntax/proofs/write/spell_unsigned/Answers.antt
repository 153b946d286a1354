use Rattle.wasm_syntax.proofs.Written.{unsigned_goes_on, unsigned_is_written}
use Rattle.wasm_syntax.proofs.write.spell_unsigned.Goals as goal

pub loop-rest-preserved : goal.loop-rest-preserved
loop-rest-preserved c = unsigned_goes_on c.args.v c.loop-rest.rest c.loop-rest.len c.loop-rest.bytes c.loop-rest.invariant c.loop-rest-test.true

pub returns-clause-spelled : goal.returns-clause-spelled
returns-clause-spelled c = unsigned_is_written c.args.v c.loop-rest.rest c.loop-rest.len c.loop-rest.bytes c.loop-rest.invariant c.loop-rest-test.false
