use Rattle.callouts.proofs.Once.{hears_part, hears_none, hears_end, hears_refusal}
use Rattle.callouts.proofs.reading.hear.Goals as goal

pub returns-in_ok-next-in-Item : goal.returns-in_ok-next-in-Item
returns-in_ok-next-in-Item c =
    hears_part c.args.c.now c.take_part.new.c c.next_item.new.self c.in_ok-step.step c.in-Item.item c.in_ok-next-in-Item.next c.in-Item.is c.in_ok-step.ensures.ok c.in_ok-next-in-Item.ensures.callout c.in_ok-next-in-Item.ensures.next

pub returns-in-NotYet : goal.returns-in-NotYet
returns-in-NotYet c = hears_none c.args.c.now c.next_item.new.self c.in_ok-step.step c.in-NotYet.is c.in_ok-step.ensures.ok

pub returns-in-Over : goal.returns-in-Over
returns-in-Over c = hears_end c.args.c.now c.next_item.new.self c.in_ok-step.step c.in-Over.is c.in_ok-step.ensures.ok

pub returns-in-Refused : goal.returns-in-Refused
returns-in-Refused c = hears_refusal c.args.c.now c.next_item.new.self c.in_ok-step.step c.in-Refused.is c.in_ok-step.ensures.ok
