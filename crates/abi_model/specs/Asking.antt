-- Host calls that ask the shared stores. They change no contexts.
use Rattle.std.specs.Prelude.{ℕ, List, if◌then◌else◌}
use Rattle.store_model.specs.Made.{Made}
use Rattle.store_model.specs.Program.{Program, done, bind, Runs}
use Rattle.abi_types.specs.GuestAt.{GuestAt}
use Rattle.contexts.specs.Reached.{Seen}
use Rattle.abi_model.specs.Rows.{all_inside, input_bytes}
use Rattle.abi_model.specs.Calls.{Called, called, called_trapped, called_spent, ending}
use Rattle.abi_model.specs.declared.table.Param.{Param}
use Rattle.abi_model.specs.declared.opening.Inputs.{Inputs}
use Rattle.abi_model.specs.declared.ends.Outcome.{Outcome}
use Rattle.abi_model.specs.declared.ends.HostEnd.{HostEnd}
use Rattle.abi_model.specs.declared.ends.HostEnd.TheVariants.{Status, Trapped, FuelSpent, OutOfMemory}

-- THE CALL ITSELF: from the number of its VM, its arguments, the bytes taken and what it sees
abbrev pub Asking : Type 0
Asking = ℕ → List ℕ → Inputs → Seen → Program Outcome

-- THE CALL of a row
abbrev pub asks : List Param → Asking → (vm : ℕ) → List ℕ → GuestAt → Seen → Program Called
asks row own vm args g s =
    if all_inside g.config.store.memory row 0 args
    then bind (own vm args (input_bytes g.config.store.memory row args) s) (λ o. done (ending 6 row args g o))
    else done (called 6 g)

-- it made its calls and asks and ended, or it was cut short where memory ran out
abbrev pub AskingEnds : {S : Type 0} → (S → List Made → S → Type 0) → S → Program Called → HostEnd → GuestAt → S → Type 0
AskingEnds performs s p (Status n) g t = Runs performs s p (done (called n g)) t
AskingEnds performs s p (Trapped c) g t = Runs performs s p (done (called_trapped c g.fuel)) t
AskingEnds performs s p FuelSpent g t = Runs performs s p (done (called_spent g.fuel)) t
AskingEnds performs s p OutOfMemory g t = (q : Program Called) × Runs performs s p q t
