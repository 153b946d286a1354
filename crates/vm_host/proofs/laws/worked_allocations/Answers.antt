use Rattle.std.proofs.Common.{refl}
use Rattle.wasm_syntax.specs.ReductionRuns.{walk, walk_hosted}
use Rattle.wasm_syntax.specs.Nested.{nests}
use Rattle.vm_host.proofs.laws.worked_allocations.Goals as goal

pub returns-clause-gave : goal.returns-clause-gave
unfolding walk walk_hosted nests
returns-clause-gave c = refl

pub returns-clause-one_short : goal.returns-clause-one_short
unfolding walk walk_hosted nests
returns-clause-one_short c = refl

pub returns-clause-none : goal.returns-clause-none
unfolding walk walk_hosted nests
returns-clause-none c = refl

pub returns-clause-closed : goal.returns-clause-closed
unfolding walk walk_hosted nests
returns-clause-closed c = refl

pub returns-clause-an_import : goal.returns-clause-an_import
unfolding walk walk_hosted nests
returns-clause-an_import c = refl

pub returns-clause-exits : goal.returns-clause-exits
unfolding walk walk_hosted nests
returns-clause-exits c = refl
