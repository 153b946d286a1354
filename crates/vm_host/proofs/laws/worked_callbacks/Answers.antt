use Rattle.std.proofs.Common.{refl}
use Rattle.wasm_syntax.specs.ReductionRuns.{walk}
use Rattle.wasm_syntax.specs.Nested.{nests}
use Rattle.vm_host.specs.Calling.{running}
use Rattle.vm_host.proofs.laws.worked_callbacks.Goals as goal

pub returns-clause-returned : goal.returns-clause-returned
unfolding walk running nests
returns-clause-returned c = refl

pub returns-clause-one_short : goal.returns-clause-one_short
unfolding walk running nests
returns-clause-one_short c = refl

pub returns-clause-before_the_call : goal.returns-clause-before_the_call
unfolding walk running nests
returns-clause-before_the_call c = refl

pub returns-clause-some_left : goal.returns-clause-some_left
unfolding walk running nests
returns-clause-some_left c = refl

pub returns-clause-an_import : goal.returns-clause-an_import
unfolding walk running nests
returns-clause-an_import c = refl
