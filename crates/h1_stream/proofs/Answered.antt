-- What is taken is an answer.
use Rattle.std.proofs.Common.{sym, subst}
use Rattle.h1_model.specs.Unread.{Reading, IsNext}
use Rattle.h1_stream.specs.declared.next.Next.{Next}
use Rattle.h1_stream.specs.declared.next.Next.TheVariants as nexts
use Rattle.h1_stream.specs.declared.next.Stop.{Stop}
use Rattle.h1_stream.specs.declared.next.Stop.TheVariants as stops
use Rattle.h1_stream.specs.declared.reader.Step.{Step}
use Rattle.h1_stream.specs.Seen.{seen_next, seen_due, gone_on, IsFlagged}
use Rattle.h1_stream.specs.Steps.{Answers, halted, Takes}

pub answered : (old : Reading) (n : Next) (answer : Step) (new : Reading) → IsNext old.ended old.asked old.due old.unread (seen_next old.due n) → IsFlagged n
    → Takes old n answer new → Answers old answer new
answered old (nexts.Part i used d) answer new next flagged taken =
    subst (λ (s : Step). Answers old s new) (sym taken.0) (record { used = used; due = seen_due d; next = next; is = taken.1 }, flagged)
answered old (nexts.Chunks bytes used place) answer new next flagged taken =
    subst (λ (s : Step). Answers old s new) (sym taken.0) (record { used = used; due = gone_on place old.due; next = next; is = taken.1 }, tt)
answered old (nexts.Halt why) answer new next flagged taken = subst (λ (s : Step). Answers old s new) (sym taken.0) (by_why why next)
  where
    by_why : (w : Stop) → IsNext old.ended old.asked old.due old.unread (seen_next old.due (nexts.Halt w)) → Answers old (halted w) new
    by_why stops.Rest x = record { next = x; is = taken.1 }
    by_why stops.Over x = record { next = x; is = taken.1 }
    by_why (stops.Refusal number) x = record { next = x; is = taken.1 }
