use Rattle.std.proofs.Common.{ap, Err}
use Rattle.config_files.proofs.Steps.{config_stops, text_read}
use Rattle.config_files.proofs.reading.read_text.Goals as goal

pub returns-in-Ok-clause-stopped : goal.returns-in-Ok-clause-stopped
returns-in-Ok-clause-stopped g c =
    text_read (g.F.Files.holds c.args.files.now) c.args.path.now c.as_slice.result.now c.config_in.result (g.F.Files.paths c.args.files.now) (g.F.Files.paths c.read_file.new.files) c.config_in.ensures.refused c.in-Ok.ensures.one

pub returns-in-Err-TooLong-clause-stopped : goal.returns-in-Err-TooLong-clause-stopped
returns-in-Err-TooLong-clause-stopped g c =
    config_stops (g.F.Files.holds c.args.files.now) c.args.path.now c.too_long.result (g.F.Files.paths c.args.files.now) (g.F.Files.paths c.read_file.new.files) c.too_long.ensures.config (c.in-Err-TooLong.ensures.long_read (ap Err c.in-Err-TooLong.field-0-is))
