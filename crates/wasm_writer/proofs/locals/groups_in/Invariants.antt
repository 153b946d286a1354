use Rattle.std.proofs.Common.{◌-◌, length}
use Rattle.wasm_writer.proofs.Groups.{IsGroupedSoFar}
use Rattle.wasm_writer.proofs.locals.groups_in.Given as goal

abbrev pub invariant-loop-at : goal.invariant-loop-at
invariant-loop-at l = IsGroupedSoFar l.fn.locals l.groups l.of l.count l.at

abbrev pub decreases-loop-at : goal.decreases-loop-at
decreases-loop-at l = length l.fn.locals - l.at
