use Rattle.std.proofs.Common.{◌≡◌, refl, sym, ap, ◌∙◌, subst}
use Rattle.h1_model.specs.Messages.{Due, done, over, stop}
use Rattle.h1_model.specs.Unread.{Reading, none, IsNext}
use Rattle.h1_stream.specs.Seen.{seen_due}
use Rattle.h1_stream.proofs.Bodies.{alone}
use Rattle.h1_stream.proofs.reader.MessageReader.next.Goals as goal

pub returns-in-Done-clause-next : goal.returns-in-Done-clause-next
returns-in-Done-clause-next c =
    let r = c.args.self.now in
    let due_is : r.due ≡ done = sym (ap (λ (r : Reading). r.due) c.self.view_is) ∙ ap seen_due c.in-Done.is in
    subst (λ (d : Due). IsNext r.ended r.asked d r.unread (none over)) (sym due_is) (alone r.ended r.asked done r.unread (stop over) (none over) refl refl)
