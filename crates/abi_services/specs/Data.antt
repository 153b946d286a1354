-- The calls on shared data: they go to the store of the caller's own VM name.
use Rattle.std.specs.Prelude.{ℕ, List}
use Rattle.store_model.specs.Program.{Program, done, ask}
use Rattle.store_model.specs.declared.call.Call.TheVariants as store
use Rattle.store_model.specs.declared.call.Reply.{Reply}
use Rattle.store_model.specs.declared.call.Reply.TheVariants as reply
use Rattle.abi_model.specs.Asking.{Asking}
use Rattle.abi_model.specs.Calls.{only, given}
use Rattle.abi_model.specs.Table.{arg}
use Rattle.abi_model.specs.declared.ends.Outcome.{Outcome}
use Rattle.abi_model.specs.declared.ends.Gives.TheVariants.{BytesAndNumber}

-- the value and its number; the number is written after the bytes
abbrev pub got : Reply → Outcome
got (reply.Value value number) = given (BytesAndNumber value number)
got _ = only 1

abbrev pub getting : (vm : ℕ) → List ℕ → Program Outcome
getting vm key = ask vm (store.Get key) (λ r. done (got r))

abbrev pub own_get_shared_data : Asking
own_get_shared_data vm args inputs s = getting vm inputs.first

abbrev pub was_set : Reply → Outcome
was_set (reply.Done number) = only 0
was_set reply.CasMismatch = only 8
was_set _ = only 10

abbrev pub setting : (vm : ℕ) → (key value : List ℕ) → (number : ℕ) → Program Outcome
setting vm key value number = ask vm (store.Set key value number) (λ r. done (was_set r))

abbrev pub own_set_shared_data : Asking
own_set_shared_data vm args inputs s = setting vm inputs.first inputs.second (arg args 4)
