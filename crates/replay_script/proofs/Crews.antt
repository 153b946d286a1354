-- Each worker of a script's events is there.
use Rattle.std.proofs.Common.{◌≡◌, ◌≤◌, ℕ, List, [], ◌∷◌, ◌++◌, Option, None, Some, arith}
use Rattle.std.specs.Prelude.{All}
use Rattle.std.proofs.lemmas.List.Elements.{All-append, All-cons, All-nil}
use Rattle.gate_io.specs.declared.event.What.{What}
use Rattle.replay_script.specs.declared.command.Command.{Command}
use Rattle.replay_script.specs.declared.command.Command.TheVariants.{On}
use Rattle.replay_script.specs.Commands.{IsInForm, what_of}
use Rattle.replay_script.specs.Scripts.{AreLines, Standing, at_start, behind, worker_behind, worker_of, workers_from, workers_of}

abbrev pub IsThere : ℕ → ℕ → Type 0
IsThere workers who = (1 ≤ who) × (who ≤ workers)

one_there : (workers who : ℕ) (what : Option What) → IsThere workers who → All (IsThere workers) (worker_of who what)
one_there workers who None there = All-nil (IsThere workers)
one_there workers who (Some what) there = All-cons (IsThere workers) who [] there (All-nil (IsThere workers))

-- after a line the worker is one
is_one : (who : ℕ) (c : Command) → IsInForm c → 1 ≤ who → 1 ≤ worker_behind who c
is_one who (On worker) form low = form.low
is_one who c form low = low

all_from : (s : Standing) (cs : List Command) → AreLines s cs → IsThere s.workers s.who → All (IsThere s.workers) (workers_from s.who cs)
all_from s [] lines there = All-cons (IsThere s.workers) s.who [] there (All-nil (IsThere s.workers))
all_from s (c ∷ cs) lines there =
    All-append (IsThere s.workers) (worker_of s.who (what_of c)) (workers_from (worker_behind s.who c) cs) (one_there s.workers s.who (what_of c) there)
    (all_from (behind s c) cs lines.1 (is_one s.who c lines.0.in_form there.0, lines.0.there))

pub all_there : (workers : ℕ) (cs : List Command) → 1 ≤ workers → AreLines (at_start workers) cs → All (IsThere workers) (workers_of cs)
all_there workers cs low lines = all_from (at_start workers) cs lines (omega arith, low)
