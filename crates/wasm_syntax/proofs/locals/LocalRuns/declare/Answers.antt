use Rattle.std.proofs.Common.{length, ap, arith}
use Rattle.wasm_syntax.specs.LocalRuns.{end_of}
use Rattle.wasm_syntax.proofs.RunLists.{length-unrolled}
use Rattle.wasm_syntax.proofs.locals.LocalRuns.declare.Goals as goal

pub overflow_add-end : goal.overflow_add-end
overflow_add-end c = omega (arith, c.requires, c.end.ensures, ap (end_of 0) c.as_slice.ensures, ap length c.self.view_is, length-unrolled 0 c.self.inside.runs c.self.invariant)
