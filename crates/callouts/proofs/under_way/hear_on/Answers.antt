use Rattle.std.proofs.Common.{sym, ◌∙◌}
use Rattle.callouts.proofs.UnderWay.{led_none, led_more, led_out}
use Rattle.callouts.proofs.under_way.hear_on.Goals as goal

pub loop-init : goal.loop-init
loop-init c = led_none c.args.c.now

pub loop-preserved : goal.loop-preserved
loop-preserved c = led_more c.args.c.now c.loop.c c.hear.new.c c.in_ok-next.next c.loop.invariant c.in_ok-next.ensures (sym c.is_read.ensures ∙ c.if-not-is_read.false)

pub returns-then-not-is_read : goal.returns-then-not-is_read
returns-then-not-is_read c = led_out c.args.c.now c.loop.c c.hear.new.c c.in_ok-next.next c.loop.invariant c.in_ok-next.ensures (sym c.is_read.ensures ∙ c.if-not-is_read.true)
