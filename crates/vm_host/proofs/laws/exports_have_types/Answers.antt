use Rattle.std.proofs.Common.{refl}
use Rattle.wasm_syntax.specs.ReductionPrograms.{program_of}
use Rattle.vm_host.specs.RoleTypes.{functions_for}
use Rattle.vm_host.proofs.RoleTies.{are_functions, is_allocator, beginner_takes, start_takes}
use Rattle.vm_host.proofs.laws.exports_have_types.Goals as goal

pub returns-clause-functions : goal.returns-clause-functions
returns-clause-functions c = are_functions

pub returns-clause-allocator : goal.returns-clause-allocator
returns-clause-allocator c = λ m pages valid none. is_allocator (program_of m pages) (functions_for m.exports) (are_functions m pages valid none)

pub returns-clause-start : goal.returns-clause-start
returns-clause-start c = λ m pages valid. start_takes m pages valid m.start refl

pub returns-clause-begins : goal.returns-clause-begins
returns-clause-begins c = λ m pages valid none. beginner_takes (program_of m pages) (functions_for m.exports) (are_functions m pages valid none)
