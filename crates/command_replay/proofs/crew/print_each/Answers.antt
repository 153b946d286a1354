use Rattle.command_replay.proofs.Printing.{printed_snoc}
use Rattle.command_replay.proofs.crew.print_each.Goals as goal

pub loop-one-preserved : goal.loop-one-preserved
loop-one-preserved c = printed_snoc c.args.sent.now c.loop-one.one-index c.args.out.now c.loop-one.out c.print_sent.new.out c.one-item.result c.loop-one-test.true c.one-item.is c.loop-one.invariant c.in_ok-print_sent.ensures.ok
