use Rattle.std.proofs.Common.{sym, subst}
use Rattle.h1_model.specs.Messages.{rest}
use Rattle.h1_model.specs.Unread.{Reading, Halts}
use Rattle.h1_stream.specs.Seen.{seen_due, asked_of}
use Rattle.h1_stream.proofs.Quiet.{halts}
use Rattle.h1_stream.proofs.reader.MessageReader.next_item.Goals as goal

pub returns-then-holds-clause-ok : goal.returns-then-holds-clause-ok
returns-then-holds-clause-ok c =
    let r = c.self.inside in
    subst (λ (x : Reading). Halts x rest x) c.self.view_is
    (halts (record { asked = asked_of r.kind; ended = r.ended; due = seen_due r.due; unread = r.text }) r.quiet (sym c.if-holds.ensures) c.self.invariant)
