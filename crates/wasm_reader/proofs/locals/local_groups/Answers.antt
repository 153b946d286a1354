use Rattle.std.proofs.Common.{◌++◌, drop, length, ap, arith, length-append}
use Rattle.std.specs.Prelude.{replicate}
use Rattle.std.proofs.lemmas.List.{length-replicate}
use Rattle.std.proofs.lemmas.Result.{err_from_is_err_and}
use Rattle.wasm_syntax.specs.Grammar.{local_groups}
use Rattle.wasm_reader.specs.Steps.{fence_of}
use Rattle.wasm_reader.proofs.Groups.{group_read, group_ends, groups_done}
use Rattle.wasm_reader.proofs.locals.local_groups.Goals as goal

pub returns-in_err-n-clause-reads : goal.returns-in_err-n-clause-reads
returns-in_err-n-clause-reads c =
    let p = err_from_is_err_and c.from_residual.result c.from_residual.ensures.1 in
    rw (p.1, p.2) (group_ends c.args.b.now c.in_err-n.field-0.0 c.loop.locals c.args.groups c.loop.counter c.loop.before (fence_of c.args.b.now c.args.k) (drop c.loop.place c.args.b.now)
    ((local_groups c.args.groups 0).reads (fence_of c.args.b.now c.args.k) (drop c.args.at c.args.b.now)) c.loop-test.true c.in_err-n.ensures.reads c.loop.invariant.2)

pub loop-preserved : goal.loop-preserved
loop-preserved c = (
  c.in_ok-n.ensures.reads.0,
  (
    c.in_ok-n.ensures.few_more,
    omega (arith, ap length c.in_ok-declare.ensures, length-append c.loop.locals (replicate c.in_ok-n.n c.in_ok-n.of), length-replicate c.in_ok-n.n c.in_ok-n.of, c.loop.invariant.1.1),
  ),
  rw c.in_ok-declare.ensures (group_read c.loop.locals c.args.groups c.loop.counter c.loop.before c.in_ok-n.n c.in_ok-n.of (fence_of c.args.b.now c.args.k) (drop c.loop.place c.args.b.now) (drop c.in_ok-n.behind c.args.b.now)
      ((local_groups c.args.groups 0).reads (fence_of c.args.b.now c.args.k) (drop c.args.at c.args.b.now)) c.loop-test.true c.in_ok-n.ensures.reads.1 c.loop.invariant.2),
)

pub returns : goal.returns
returns c = record {
  reads = (
    c.loop.invariant.0,
    groups_done c.loop.locals c.args.groups c.loop.counter c.loop.before (fence_of c.args.b.now c.args.k) (drop c.loop.place c.args.b.now)
        ((local_groups c.args.groups 0).reads (fence_of c.args.b.now c.args.k) (drop c.args.at c.args.b.now)) c.loop-test.false c.loop.invariant.2,
  );
  few = omega (arith, c.loop.invariant.1.0, c.loop.invariant.1.1);
}
