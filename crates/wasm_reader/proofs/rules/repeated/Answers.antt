use Rattle.std.proofs.Common.{drop}
use Rattle.std.proofs.lemmas.Result.{err_from_is_err_and}
use Rattle.wasm_syntax.specs.Format.{repeated}
use Rattle.wasm_reader.specs.Steps.{fence_of}
use Rattle.wasm_reader.proofs.Loop.{goes_on, ends, is_done}
use Rattle.wasm_reader.proofs.rules.repeated.Goals as goal

pub returns-in_err-member : goal.returns-in_err-member
returns-in_err-member g c =
    let p = err_from_is_err_and c.from_residual.result c.from_residual.ensures.1 in
    rw (p.1, p.2) (ends g.R.Rule.format c.args.b.now c.in_err-member.field-0.0 (fence_of c.args.b.now c.args.k) c.loop.members c.args.count c.loop.counter (drop c.loop.place c.args.b.now)
    ((repeated c.args.count g.R.Rule.format).reads (fence_of c.args.b.now c.args.k) (drop c.args.at c.args.b.now)) c.loop-test.true c.in_err-member.ensures c.loop.invariant.1)

pub loop-preserved : goal.loop-preserved
loop-preserved g c = (
  c.in_ok-member.ensures.0,
  rw c.in_ok-push.ensures.ok (goes_on g.R.Rule.format (fence_of c.args.b.now c.args.k) c.loop.members c.args.count c.loop.counter (drop c.loop.place c.args.b.now) c.in_ok-member.member (drop c.in_ok-member.behind c.args.b.now)
      ((repeated c.args.count g.R.Rule.format).reads (fence_of c.args.b.now c.args.k) (drop c.args.at c.args.b.now)) c.loop-test.true c.in_ok-member.ensures.1 c.loop.invariant.1),
)

pub returns : goal.returns
returns g c = (
  c.loop.invariant.0,
  is_done g.R.Rule.format (fence_of c.args.b.now c.args.k) c.loop.members c.args.count c.loop.counter (drop c.loop.place c.args.b.now)
      ((repeated c.args.count g.R.Rule.format).reads (fence_of c.args.b.now c.args.k) (drop c.args.at c.args.b.now)) c.loop-test.false c.loop.invariant.1,
)
