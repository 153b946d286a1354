-- Callbacks and allocations that were worked out by hand.
use Rattle.std.specs.Prelude.{ℕ, ◌+◌, List, [], Option, None, Some}
use Rattle.wasm_syntax.specs.declared.types.Value.{Value}
use Rattle.wasm_syntax.specs.declared.module.Module.{Module}
use Rattle.wasm_syntax.specs.ReductionPrograms.{program_of, first_config}
use Rattle.wasm_syntax.specs.ReductionExamples.{asking_module, sum_module, first_argument}
use Rattle.store_model.specs.Program.{Program, done}
use Rattle.abi_types.specs.declared.guest.Closing.{Closing}
use Rattle.abi_types.specs.GuestAt.{GuestAt}
use Rattle.vm_host.specs.Calling.{Called, called}

-- a guest of a module, on which nothing has run, with so many units
abbrev pub resting : Module → Option ℕ → List Closing → (fuel : ℕ) → GuestAt
resting m allocator closed fuel = record { program = program_of m 1; allocator = allocator; closed = closed; config = first_config m; waiting = []; fuel = fuel }

-- its function of index 1 asks the host with 6, and adds 5 to the answer: it pays 4 units
abbrev pub asking : ℕ → GuestAt
asking fuel = resting asking_module None [] fuel

-- the host answers by the first argument, and counts its calls
abbrev pub echoing : ℕ → ℕ → List Value → GuestAt → Program (Called ℕ)
echoing count x args g = done (called (first_argument args) g (count + 1))

-- its allocator sums the numbers up to the size: of size 1 it pays 19 units
abbrev pub summing : ℕ → GuestAt
summing fuel = resting sum_module (Some 0) [] fuel
