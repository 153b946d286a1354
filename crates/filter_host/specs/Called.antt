-- What callbacks of machines do, and the end of one: what it wrote into the log, what all machines are then, and what the contexts are.
use Rattle.std.specs.Prelude.{ℕ, List}
use Rattle.contexts.specs.declared.parts.Contexts.{Contexts}
use Rattle.gate_io.specs.declared.event.Sent.{Sent}
use Rattle.filter_host.specs.declared.host.CallbackEnd.{CallbackEnd}
use Rattle.filter_host.specs.declared.host.Callback.{Callback}
use Rattle.store_model.specs.Program.{Program}

pub record Called (H : Type 0) : Type 0 where
  pub end : CallbackEnd
  pub lines : List Sent
  pub host : H
  pub contexts : Contexts

abbrev pub called_back : {H : Type 0} → CallbackEnd → List Sent → H → Contexts → Called H
called_back end lines host contexts = record { end = end; lines = lines; host = host; contexts = contexts }

-- what callbacks of machines do: of machines, a VM, a callback, its context and two numbers, the moment and the contexts
abbrev pub Calling : Type 0 → Type 0
Calling H = H → ℕ → Callback → ℕ → ℕ → ℕ → ℕ → Contexts → Program (Called H)
