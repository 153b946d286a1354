use Rattle.std.proofs.Common.{[], take}
use Rattle.std.specs.Prelude.{codes}
use Rattle.h1_model.specs.Fields.{values_of}
use Rattle.h1_text.specs.Spans.{fields_at}
use Rattle.h1_text.specs.Names.{AreMarked}
use Rattle.h1_text.proofs.listed.note_listed.Given as goal

-- those are marked that the fields so far list
abbrev pub invariant-loop-span : goal.invariant-loop-span
invariant-loop-span l =
    AreMarked [] l.fn.listed → AreMarked (values_of (codes "connection") (fields_at l.text (take l.span-index l.spans))) l.listed
