-- The events of a script's lines are in order.
use Rattle.std.proofs.Common.{◌≡◌, ℕ, ◌≤◌, false, List, [], ◌∷◌, refl, arith}
use Rattle.gate_io.specs.Events.{Last, AreInOrder, nothing_given}
use Rattle.replay_script.specs.declared.command.Command.{Command}
use Rattle.replay_script.specs.declared.command.Command.TheVariants.{On, At, Bytes, UpBytes, Stop}
use Rattle.replay_script.specs.Scripts.{Standing, at_start, behind, AreLines, events_from, events_of}

-- after an event that was no Stop, at its moment or later
in_order : (s : Standing) (last : Last) (cs : List Command) → last.now ≤ s.now → last.stopped ≡ false → AreLines s cs → AreInOrder last (events_from s.now cs)
in_order s last [] low going lines = (record { rises = low; stays = λ stopped. refl; sized = tt }, tt)
in_order s last (On worker ∷ cs) low going lines = in_order (behind s (On worker)) last cs low going lines.1
in_order s last (At moment ∷ cs) low going lines = in_order (behind s (At moment)) last cs (omega (arith, low, lines.0.rises)) going lines.1
in_order s last (Stop ∷ cs) low going lines = in_order (behind s Stop) last cs low going lines.1
in_order s last (Bytes line bytes ∷ cs) low going lines = (
  record { rises = low; stays = λ stopped. cc; sized = (lines.0.in_form.1.low, lines.0.in_form.1.high) },
  in_order (behind s (Bytes line bytes)) (record { now = s.now; stopped = false }) cs (omega arith) refl lines.1,
)
in_order s last (UpBytes line bytes ∷ cs) low going lines = (
  record { rises = low; stays = λ stopped. cc; sized = (lines.0.in_form.1.low, lines.0.in_form.1.high) },
  in_order (behind s (UpBytes line bytes)) (record { now = s.now; stopped = false }) cs (omega arith) refl lines.1,
)
in_order s last (c ∷ cs) low going lines = (
  record { rises = low; stays = λ stopped. cc; sized = tt },
  in_order (behind s c) (record { now = s.now; stopped = false }) cs (omega arith) refl lines.1,
)

pub events_in_order : (workers : ℕ) (cs : List Command) → AreLines (at_start workers) cs → AreInOrder nothing_given (events_of cs)
events_in_order workers cs lines = in_order (at_start workers) nothing_given cs (omega arith) refl lines
