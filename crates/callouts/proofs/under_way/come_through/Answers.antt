use Rattle.std.proofs.Common.{sym, ◌∙◌}
use Rattle.callouts.proofs.Once.{if_ok}
use Rattle.callouts.proofs.UnderWay.{comes_through, comes_only}
use Rattle.callouts.proofs.under_way.come_through.Goals as goal

pub returns-then-is_read : goal.returns-then-is_read
returns-then-is_read c =
    if_ok c.hear_on.result
    (λ out reads_out. comes_through c.args.what.now c.args.c.now c.come.new.c c.hear_on.new.c c.in_ok-next.next out c.in_ok-next.ensures.callout c.in_ok-next.ensures.next (sym c.is_read.ensures ∙ c.if-is_read.true) reads_out)
    c.hear_on.ensures

pub returns : goal.returns
returns c = comes_only c.args.what.now c.args.c.now c.come.new.c c.in_ok-next.next c.in_ok-next.ensures.callout c.in_ok-next.ensures.next (sym c.is_read.ensures ∙ c.if-is_read.false)
