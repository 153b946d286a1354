use Rattle.std.proofs.Common.{◌≡◌, drop}
use Rattle.gate_io.specs.Paths.{file_at}
use Rattle.gate_io.proofs.mem_files.bytes_at.Given as goal

abbrev pub invariant-loop-file : goal.invariant-loop-file
invariant-loop-file l = file_at (drop l.file-index l.files) l.path ≡ file_at l.files l.path
