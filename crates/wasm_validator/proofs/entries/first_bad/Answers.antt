use Rattle.std.proofs.Common.{arith, rules}
use Rattle.wasm_syntax.specs.Validity.{IsGood}
use Rattle.wasm_validator.proofs.Finding.{grown}
use Rattle.wasm_validator.proofs.entries.first_bad.Goals as goal

pub loop-n-preserved : goal.loop-n-preserved
loop-n-preserved c = record {
  within = omega (arith, c.loop-n-test.true);
  good = grown (IsGood c.args.m.now c.args.p) c.loop-n.n c.loop-n.invariant.good (c.if-not-is_good.ensures.0 (search rules));
}
