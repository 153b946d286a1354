use Rattle.std.proofs.Common.{[], take}
use Rattle.std.specs.Prelude.{codes}
use Rattle.h1_model.specs.Fields.{values_of}
use Rattle.h1_text.specs.Names.{AreMarked}
use Rattle.h1_head.proofs.write.note_connection.Given as goal

-- those are marked that the fields so far list
abbrev pub invariant-loop-at : goal.invariant-loop-at
invariant-loop-at l =
    AreMarked [] l.fn.listed → AreMarked (values_of (codes "connection") (take l.at l.fields)) l.listed
