-- The functions that a program has for the gateway, with their types.
use Rattle.std.specs.Prelude.{◌≡◌, ℕ, ◌==◌, Bool, List, [], ◌∷◌, map, length, take, Option, None, Some, slice_index_or, if◌then◌else◌}
use Rattle.std.specs.Option.{option_or}
use Rattle.wasm_syntax.specs.declared.types.Value.{Value}
use Rattle.wasm_syntax.specs.declared.types.Value.TheVariants.{I32}
use Rattle.wasm_syntax.specs.declared.types.FunctionType.{FunctionType}
use Rattle.wasm_syntax.specs.declared.module.Export.{Export}
use Rattle.wasm_syntax.specs.Reduction.{Program}
use Rattle.wasm_flat.specs.Holds.{HasType}
use Rattle.wasm_machine.specs.Machines.{Takes}
use Rattle.abi_links.specs.Judging.{types_in}
use Rattle.contexts.specs.declared.parts.CallAnswer.{CallAnswer}
use Rattle.contexts.specs.declared.parts.Own.{Own}
use Rattle.contexts.specs.declared.parts.Contexts.{Contexts}
use Rattle.contexts.specs.Reached.{seen_of}
use Rattle.vm_host.specs.declared.roles.Role.{Role}
use Rattle.vm_host.specs.declared.vm.Counts.{Counts}
use Rattle.vm_host.specs.declared.roles.Role.TheVariants as role
use Rattle.vm_host.specs.Roles.{role_name, role_row, place_of, all_roles}
use Rattle.vm_host.specs.Fits.{exported, role_results}

-- the function of each of these roles, in their order
abbrev pub functions_by : List Role → List Export → List (Option ℕ)
functions_by roles exports = map (λ r. exported (role_name r) exports) roles

-- the function of each role, in the order of the roles
abbrev pub functions_for : List Export → List (Option ℕ)
functions_for exports = functions_by all_roles exports

abbrev pub function_for : List (Option ℕ) → Role → Option ℕ
function_for functions r = slice_index_or functions (place_of r) None

-- the one that allocates
abbrev pub allocator_in : List (Option ℕ) → Option ℕ
allocator_in functions = option_or (function_for functions role.MemoryAllocate) (function_for functions role.Malloc)

-- the one that begins, after the module's start function
abbrev pub beginner_in : List (Option ℕ) → Option ℕ
beginner_in functions = option_or (function_for functions role.Initialize) (function_for functions role.Start)

-- the function is of the role's type
pub record HasRole (p : Program) (r : Role) (f : ℕ) : Type 0 where
  pub type : FunctionType
  pub has : HasType p f type
  pub takes : type.parameters ≡ types_in (role_row r)
  pub gives : type.results ≡ role_results r

abbrev pub AreFunctions : Program → List (Option ℕ) → Type 0
AreFunctions p functions = (r : Role) (f : ℕ) → function_for functions r ≡ Some f → HasRole p r f

-- how much came back for the callout of which a context is told, and nothing where it is told of none
abbrev pub counts_in : Option CallAnswer → Counts
counts_in None = record { fields = 0; bytes = 0; trailers = 0 }
counts_in (Some a) = record { fields = length a.fields.pairs; bytes = length a.body; trailers = length a.trailers.pairs }

abbrev pub counts_of : Option Own → Counts
counts_of None = counts_in None
counts_of (Some o) = counts_in o.answer

abbrev pub counts_at : (vm e : ℕ) → Contexts → Counts
counts_at vm e h = counts_of (seen_of h vm e).reach.own

-- the role of which a context is told so
abbrev pub has_counts : Role → Bool
has_counts r = place_of r == place_of role.CallAnswered

abbrev pub third_for : Role → ℕ → Counts → ℕ
third_for r second counts = if has_counts r then counts.fields else second

-- as many numbers as it takes: its context and two more, or its context, one more and the counts
abbrev pub numbers_for : Role → ℕ → ℕ → ℕ → Counts → List Value
numbers_for r context first second counts =
    take (length (role_row r)) (I32 context ∷ I32 first ∷ I32 (third_for r second counts) ∷ I32 counts.bytes ∷ I32 counts.trailers ∷ [])

abbrev pub TakesNothing : Program → Option ℕ → Type 0
TakesNothing p None = Unit {0}
TakesNothing p (Some f) = Takes p f []
