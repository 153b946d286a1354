-- Host calls that give bytes and change nothing: how many bytes there are is told before they are made.
use Rattle.std.specs.Prelude.{◌≡◌, ℕ, List, [], length, Result, Ok, Err}
use Rattle.contexts.specs.Reached.{Seen}
use Rattle.abi_model.specs.Calls.{Own, reads, only, given}
use Rattle.abi_model.specs.declared.opening.Inputs.{Inputs}
use Rattle.abi_model.specs.declared.ends.Gives.{Gives}
use Rattle.abi_model.specs.declared.ends.Gives.TheVariants.{Bytes}
use Rattle.abi_model.specs.declared.ends.Outcome.{Outcome}

-- THE CALL ITSELF: from its arguments, the bytes taken and what it sees, what it answers
abbrev pub Reading : Type 0
Reading = List ℕ → Inputs → Seen → Outcome

abbrev pub reading : Reading → Own
reading own args inputs s = reads (own args inputs s)

-- the bytes that go to memory of the guest's own
abbrev pub bytes_given : Gives → List ℕ
bytes_given (Bytes bs) = bs
bytes_given x = []

-- so many bytes are given, or nothing but a status
abbrev pub Measures : Result ℕ ℕ → Outcome → Type 0
Measures (Ok len) o = (o ≡ given (Bytes (bytes_given o.gives))) × (length (bytes_given o.gives) ≡ len)
Measures (Err status) o = o ≡ only status
