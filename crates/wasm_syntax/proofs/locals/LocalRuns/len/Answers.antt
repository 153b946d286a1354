use Rattle.std.proofs.Common.{length, ap, arith}
use Rattle.wasm_syntax.specs.LocalRuns.{end_of}
use Rattle.wasm_syntax.proofs.RunLists.{length-unrolled}
use Rattle.wasm_syntax.proofs.locals.LocalRuns.len.Goals as goal

pub returns : goal.returns
returns c = omega (arith, c.end.ensures, ap length c.self.view_is, length-unrolled 0 c.self.inside.runs c.self.invariant, ap (end_of 0) c.as_slice.ensures)
