-- What an answer of the reader says.
use Rattle.std.specs.Prelude.{◌≡◌, false}
use Rattle.h1_model.specs.Messages as model
use Rattle.h1_model.specs.Unread.{Reading, moved_on, awaiting_bytes, Hands, Halts}
use Rattle.h1_stream.specs.declared.next.Next as next
use Rattle.h1_stream.specs.declared.next.Next.TheVariants as nexts
use Rattle.h1_stream.specs.declared.next.Stop as stop
use Rattle.h1_stream.specs.declared.next.Stop.TheVariants as stops
use Rattle.h1_stream.specs.declared.reader.Step as step
use Rattle.h1_stream.specs.declared.reader.Step.TheVariants as steps
use Rattle.h1_head.specs.declared.item.Item.TheVariants as items
use Rattle.h1_stream.specs.Seen.{seen_part, seen_due, gone_on, HasRightEnd}

-- An item is what is unread next, with its end flag right; or there is none: not as yet, not any more, or it is refused.
abbrev pub Answers : Reading → step.Step → Reading → Type 0
Answers old (steps.Item i) new = Hands old (seen_part i) new × HasRightEnd i
Answers old steps.NotYet new = Halts old model.rest new
Answers old steps.Over new = Halts old model.over new
Answers old (steps.Refused number) new = Halts old (model.refusal number) new

-- the answer that there is no item
abbrev pub halted : stop.Stop → step.Step
halted stops.Rest = steps.NotYet
halted stops.Over = steps.Over
halted (stops.Refusal number) = steps.Refused number

-- the answer for what is next, and the reading after it
abbrev pub Takes : Reading → next.Next → step.Step → Reading → Type 0
Takes old (nexts.Part i used d) answer new = (answer ≡ steps.Item i) × (new ≡ moved_on used (seen_due d) old)
Takes old (nexts.Chunks bytes used place) answer new =
    (answer ≡ steps.Item (items.Piece bytes false)) × (new ≡ moved_on used (gone_on place old.due) old)
Takes old (nexts.Halt why) answer new = (answer ≡ halted why) × (new ≡ awaiting_bytes old)
