use Rattle.std.proofs.Common.{take}
use Rattle.h1_head.specs.Noted.{AreNoted}
use Rattle.h1_text.specs.Spans.{fields_at}
use Rattle.h1_head.proofs.fields.Fields.noted.Given as goal

-- those of the fields so far
abbrev pub invariant-loop-span : goal.invariant-loop-span
invariant-loop-span l = AreNoted (fields_at l.self.text.now (take l.span-index l.self.spans.now)) l.noted
