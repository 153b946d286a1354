use Rattle.std.proofs.Common.{length, ap, ◌∙◌, arith}
use Rattle.contexts.proofs.Unmarking.{unmarked_to, unmarked_all, length-unmarked, next_step}
use Rattle.contexts.proofs.exchanges.unmark.Goals as goal

pub get_mut-requires : goal.get_mut-requires
get_mut-requires c = omega (arith, c.loop-place-test.true, c.loop-place.invariant.1, ap length c.loop-place.invariant.0, length-unmarked c.loop-place.place c.args.exchanges.now)

pub loop-place-preserved : goal.loop-place-preserved
loop-place-preserved c = (
  next_step c.loop-place.place c.args.exchanges.now c.loop-place.exchanges c.get_mut.result.now c.unmark_at.new.exchange c.loop-place.invariant.0 (omega (arith, c.loop-place-test.true, c.loop-place.invariant.1)) c.get_mut.ensures.value c.unmark_at.ensures,
  c.loop-place.invariant.1,
  omega (arith, c.loop-place-test.true),
)

pub returns : goal.returns
returns c =
    c.loop-place.invariant.0
    ∙ ap (λ n. unmarked_to n c.args.exchanges.now) (omega (arith, c.loop-place-test.false, c.loop-place.invariant.1, c.loop-place.invariant.2))
    ∙ unmarked_all c.args.exchanges.now
