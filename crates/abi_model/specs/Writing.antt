-- Host calls that write to the log.
use Rattle.std.specs.Prelude.{◌≡◌, ◌++◌, ℕ, List, [], if◌then◌else◌}
use Rattle.gate_io.specs.declared.event.Sent.{Sent}
use Rattle.abi_types.specs.GuestAt.{GuestAt}
use Rattle.contexts.specs.Reached.{Seen}
use Rattle.abi_model.specs.Rows.{all_inside, input_bytes}
use Rattle.abi_model.specs.Calls.{Called, called, only, ending}
use Rattle.abi_model.specs.declared.table.Param.{Param}
use Rattle.abi_model.specs.declared.opening.Inputs.{Inputs}
use Rattle.abi_model.specs.declared.ends.Outcome.{Outcome}
use Rattle.abi_model.specs.declared.ends.HostEnd.{HostEnd}
use Rattle.abi_model.specs.declared.ends.HostEnd.TheVariants.{Status, Trapped, FuelSpent, OutOfMemory}

-- what a call answers, and the lines that it puts after the log
pub record Logged : Type 0 where
  pub outcome : Outcome
  pub lines : List Sent

abbrev pub quiet : ℕ → Logged
quiet n = record { outcome = only n; lines = [] }

abbrev pub Writing : Type 0
Writing = List ℕ → Inputs → Seen → Logged

-- what a call does to the guest, and the lines that it puts after the log
pub record Writes : Type 0 where
  pub called : Called
  pub lines : List Sent

abbrev pub writes_logged : (outside : ℕ) → List Param → List ℕ → GuestAt → Logged → Writes
writes_logged outside row args g l = record { called = ending outside row args g l.outcome; lines = l.lines }

-- THE CALL of a row
abbrev pub writes : (outside : ℕ) → List Param → Writing → List ℕ → GuestAt → Seen → Writes
writes outside row own args g s =
    if all_inside g.config.store.memory row 0 args
    then writes_logged outside row args g (own args (input_bytes g.config.store.memory row args) s)
    else (record { called = called outside g; lines = [] })

-- where memory ran out no line was put after it
abbrev pub LogEnds : List Sent → HostEnd → List Sent → List Sent → Type 0
LogEnds lines (Status n) old new = new ≡ old ++ lines
LogEnds lines (Trapped c) old new = new ≡ old ++ lines
LogEnds lines FuelSpent old new = new ≡ old ++ lines
LogEnds lines OutOfMemory old new = new ≡ old
