-- The calls on the log level, the clock, ticks and the effective context.
use Rattle.std.specs.Prelude.{ℕ, suc, zero, ◌+◌, ◌-◌, ◌*◌, ◌^◌, ◌&&◌, min, Option, None, Some, if◌then◌else◌}
use Rattle.contexts.specs.declared.parts.Tick.{Tick}
use Rattle.contexts.specs.Creating.{itself}
use Rattle.contexts.specs.Keyed.{without_first}
use Rattle.contexts.specs.Reached.{Seen, no_changes, contains}
use Rattle.abi_model.specs.Calls.{Made, Own, answers, changing, reads, given}
use Rattle.abi_model.specs.Table.{arg}
use Rattle.abi_model.specs.declared.ends.Gives.TheVariants.{Number, Wide}

-- the number of the least level that is logged
abbrev pub own_get_log_level : Own
own_get_log_level args inputs s = reads (given (Number s.common.level))

-- the event's moment, in nanoseconds since 1970-01-01 00:00:00 UTC
abbrev pub own_get_current_time : (now : ℕ) → Own
own_get_current_time now args inputs s = reads (given (Wide now))

-- ---- ticks

-- nanoseconds
abbrev pub period_of : (milliseconds : ℕ) → ℕ
period_of milliseconds = milliseconds * 1000000

-- the period from now on, at most the last moment there is; none where the period is 0
abbrev pub tick_of : (now milliseconds : ℕ) → Option Tick
tick_of now zero = None
tick_of now (suc n) = Some (record { period = period_of (suc n); due = min (now + period_of (suc n)) (2 ^ 64 - 1) })

abbrev pub ticked : (now milliseconds : ℕ) → Option ℕ → Made
ticked now milliseconds None = answers 2
ticked now milliseconds (Some root) = changing (record no_changes { tick = Some (tick_of now milliseconds) })

abbrev pub own_set_tick_period : (now : ℕ) → Own
own_set_tick_period now args inputs s = ticked now (arg args 0) s.reach.root

-- ---- the effective context

abbrev pub setting_effective : ℕ → Seen → Made
setting_effective id s = if contains id s.common.ids then changing (record no_changes { effective = Some id }) else answers 2

abbrev pub own_set_effective_context : Own
own_set_effective_context args inputs s = setting_effective (arg args 0) s

-- it waits no more, where it is there and waits
abbrev pub done_of : (e : ℕ) → Seen → Made
done_of e s =
    if contains e s.common.ids && contains e s.common.waiting
    then changing (record no_changes { waiting = Some (without_first itself e s.common.waiting) }) else answers 1

abbrev pub own_done : Own
own_done args inputs s = done_of s.common.effective s
