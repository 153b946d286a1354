use Rattle.std.proofs.Common.{[], take}
use Rattle.h1_text.specs.Names.{AreMarked}
use Rattle.h1_head.proofs.listed.note_values.Given as goal

-- those are marked that the values so far list
abbrev pub invariant-loop-value : goal.invariant-loop-value
invariant-loop-value l = AreMarked [] l.fn.listed → AreMarked (take l.value-index l.connection) l.listed
