use Rattle.std.proofs.Common.{subst}
use Rattle.h1_stream.specs.declared.reader.Quiet.{Quiet}
use Rattle.h1_stream.specs.Quiet.{IsQuiet}
use Rattle.h1_stream.proofs.Quiet.{stays_lines}
use Rattle.h1_stream.proofs.reader.stays_quiet.Goals as goal

pub returns-in-Lines : goal.returns-in-Lines
returns-in-Lines c =
    λ ended due h. stays_lines ended due c.args.text.now c.args.piece.now (c.ends_no_line.ensures c.if-ends_no_line.true)
    (subst (λ (q : Quiet). IsQuiet q ended due c.args.text.now) c.in-Lines.is h)
