use Rattle.std.proofs.Common.{refl}
use Rattle.abi_links.specs.Judging.{target_of}
use Rattle.abi_links.proofs.laws.worked_targets.Goals as goal

pub returns-clause-of_the_table : goal.returns-clause-of_the_table
unfolding target_of
returns-clause-of_the_table c = refl

pub returns-clause-another : goal.returns-clause-another
unfolding target_of
returns-clause-another c = refl

pub returns-clause-growth : goal.returns-clause-growth
unfolding target_of
returns-clause-growth c = refl

pub returns-clause-no_call : goal.returns-clause-no_call
unfolding target_of
returns-clause-no_call c = refl

pub returns-clause-of_wasi : goal.returns-clause-of_wasi
unfolding target_of
returns-clause-of_wasi c = refl

pub returns-clause-of_older_wasi : goal.returns-clause-of_older_wasi
unfolding target_of
returns-clause-of_older_wasi c = refl

pub returns-clause-another_of_wasi : goal.returns-clause-another_of_wasi
unfolding target_of
returns-clause-another_of_wasi c = refl

pub returns-clause-elsewhere : goal.returns-clause-elsewhere
unfolding target_of
returns-clause-elsewhere c = refl

pub returns-clause-of_no_module : goal.returns-clause-of_no_module
unfolding target_of
returns-clause-of_no_module c = refl
