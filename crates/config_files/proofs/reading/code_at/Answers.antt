use Rattle.std.proofs.Common.{ap, subst, Err}
use Rattle.gate_io.specs.Paths.{ReadsTold}
use Rattle.wasm_syntax.specs.Grammar.{most_bytes, FirstFault}
use Rattle.config_files.proofs.Read.{code_read, long_is_fault, of_long}
use Rattle.config_files.proofs.reading.code_at.Goals as goal

pub returns-in-Err-TooLong-clause-refused : goal.returns-in-Err-TooLong-clause-refused
returns-in-Err-TooLong-clause-refused g c =
    let files = g.F.Files.holds c.args.files.now in
    let read = subst (λ e. ReadsTold files c.args.path.now most_bytes (Err e)) c.in-Err-TooLong.field-0-is c.in-Err-TooLong.ensures.content in
    of_long files c.args.path.now most_bytes (λ bytes. FirstFault bytes 9 0) read long_is_fault

pub returns-in-Ok-clause-refused_read : goal.returns-in-Ok-clause-refused_read
returns-in-Ok-clause-refused_read g c = code_read c.args.path.now c.code_in.result (g.F.Files.paths c.args.files.now) (g.F.Files.paths c.read_file.new.files) c.in-Ok.ensures.one

pub returns-in-Err-TooLong-clause-refused_read : goal.returns-in-Err-TooLong-clause-refused_read
returns-in-Err-TooLong-clause-refused_read g c = c.in-Err-TooLong.ensures.long_read (ap Err c.in-Err-TooLong.field-0-is)
