use Rattle.std.proofs.Common.{sym, ap, ◌∙◌}
use Rattle.h1_model.specs.Unread.{Reading, reading_with_end}
use Rattle.callouts.specs.Callouts.{with_reading}
use Rattle.callouts.proofs.Once.{ended_callout, ended_next, open_callout, open_next}
use Rattle.callouts.proofs.reading.take_end.Goals as goal

pub returns-then-has_ended-clause-callout : goal.returns-then-has_ended-clause-callout
returns-then-has_ended-clause-callout c =
    ended_callout (reading_with_end c.args.c.now.reader) c.args.c.now c.args.c.now.reader.ended (sym c.has_ended.ensures ∙ c.if-has_ended.true)

pub returns-then-has_ended-clause-next : goal.returns-then-has_ended-clause-next
returns-then-has_ended-clause-next c =
    ended_next (reading_with_end c.args.c.now.reader) c.args.c.now.id c.args.c.now.reader.ended (sym c.has_ended.ensures ∙ c.if-has_ended.true)

pub returns-clause-callout : goal.returns-clause-callout
returns-clause-callout c =
    ap (λ (r : Reading). with_reading r c.args.c.now) c.end.ensures
    ∙ open_callout (reading_with_end c.args.c.now.reader) c.args.c.now c.args.c.now.reader.ended (sym c.has_ended.ensures ∙ c.if-has_ended.false)

pub returns-clause-next : goal.returns-clause-next
returns-clause-next c =
    open_next (reading_with_end c.args.c.now.reader) c.args.c.now.id c.args.c.now.reader.ended (sym c.has_ended.ensures ∙ c.if-has_ended.false)
