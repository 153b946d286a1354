-- The call on the log.
use Rattle.std.specs.Prelude.{ℕ, ◌==◌, ◌||◌, cond, nat_lt, List, [], ◌∷◌, length, if◌then◌else◌}
use Rattle.gate_base.specs.declared.level.Level.{Level}
use Rattle.gate_base.specs.declared.level.Level.TheVariants.{Trace, Debug, Info, Warn, Error, Critical}
use Rattle.gate_io.specs.declared.event.Sent.TheVariants.{Log}
use Rattle.contexts.specs.Reached.{Seen}
use Rattle.abi_model.specs.Calls.{only}
use Rattle.abi_model.specs.Table.{arg}
use Rattle.abi_model.specs.Writing.{Logged, Writing, quiet}

-- how many bytes a line may have
abbrev pub text_limit : ℕ
text_limit = 65536

-- the level of a number; 5 and more are the last
abbrev pub level_at : ℕ → Level
level_at n = cond (n == 0) Trace (cond (n == 1) Debug (cond (n == 2) Info (cond (n == 3) Warn (cond (n == 4) Error Critical))))

-- a line that is not below the least level
abbrev pub written : (level : ℕ) → List ℕ → Seen → Logged
written level text s =
    if nat_lt level s.common.level then quiet 0
    else (record { outcome = only 0; lines = Log (level_at level) text ∷ [] })

abbrev pub logging : (level : ℕ) → List ℕ → Seen → Logged
logging level text s = if nat_lt 5 level || nat_lt text_limit (length text) then quiet 2 else written level text s

abbrev pub own_log : Writing
own_log args inputs s = logging (arg args 0) inputs.first s
