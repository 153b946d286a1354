-- A worked turn: a VM dies in a tick. Of two plug-ins that it runs, one lets messages pass then, the other does not.
use Rattle.std.specs.Prelude.{true, false, List, [], ◌∷◌, ◌++◌, Some, codes}
use Rattle.contexts.specs.declared.parts.Contexts.{Contexts}
use Rattle.contexts.specs.Creating.{open_exchange, stream_created}
use Rattle.filter_host.specs.Course.{Course}
use Rattle.filter_host.specs.declared.host.CallbackEnd.TheVariants.{Died}
use Rattle.filter_host.specs.declared.host.Callback.TheVariants.{Tick}
use Rattle.filter_host.specs.declared.host.Death.TheVariants.{Trapped}
use Rattle.exchange.specs.declared.types.Exchange.{Exchange}
use Rattle.filter_chain.specs.declared.item.Held.TheVariants as held
use Rattle.gate_base.specs.declared.cause.Cause.TheVariants.{Unreachable}
use Rattle.gate_base.specs.declared.level.Level.TheVariants.{Critical}
use Rattle.gate_config.specs.declared.entries.PluginEntry.{PluginEntry}
use Rattle.gate_io.specs.declared.event.Sent.{Sent}
use Rattle.gate_io.specs.declared.event.Sent.TheVariants as sent
use Rattle.gate_io.specs.declared.event.Side.TheVariants.{Down, Up}
use Rattle.gate_io.specs.declared.event.What.TheVariants.{Clock}
use Rattle.worker_model.specs.Steps.{with_tick}
use Rattle.worker_model.specs.Turn.{Outcome, turn}
use Rattle.law_turns.specs.Tables.{Call, call, Deed, calling_by, Comes}
use Rattle.law_turns.specs.Scenes.{line_of, first_date, get_map, plugin, contexts_with_roots, filter_of, stage, exchange, line, waits_on, state, event, plan_of}

-- `c` with root 1 lets nothing pass once its VM is dead, `o` with root 2 everything
abbrev pub plugins : List PluginEntry
plugins = plugin (codes "c") false ∷ plugin (codes "o") true ∷ []

-- stream 3 of `o` is of line 1, and stream 4 of `c` of line 2
abbrev pub contexts : Contexts
contexts =
    stream_created 0 1 2 (open_exchange 2 get_map (stream_created 0 2 1 (open_exchange 1 get_map
    (with_tick 0 1 (record { period = 1000000000; due = 0 }) (contexts_with_roots plugins)))))

-- each holds the head of a request
abbrev pub open_held : Exchange
open_held = exchange 0 (filter_of 1 true 3) (stage false 3 (held.Head true)) (stage true 3 held.Nothing)

abbrev pub closed_held : Exchange
closed_held = exchange 1 (filter_of 0 false 4) (stage false 4 (held.Head true)) (stage true 4 held.Nothing)

abbrev pub dies : List Deed
dies = record { name = Tick; context = 1; end = Died (Trapped Unreachable); effects = [] } ∷ []

-- the turn in which the tick is due
abbrev pub turned : Course (Outcome (List Call))
turned = turn (calling_by dies) (plan_of plugins) (state (line 1 (Some open_held) ∷ line 2 (Some closed_held) ∷ []) contexts) (event 0 Clock)

-- no callback follows
abbrev pub calls : List Call
calls = call Tick 1 0 0 ∷ []

-- the log is told first
abbrev pub sends : List Sent
sends =
    sent.Log Critical (codes "vm v died: unreachable")
    ∷ sent.Connect 1
    ∷ sent.Bytes 1 Up (line_of (codes "GET / HTTP/1.1") ++ line_of (codes "host: a") ++ line_of (codes "via: 1.1 wasmgate") ++ line_of (codes "connection: close") ++ line_of [])
    ∷ sent.Bytes 2 Down (line_of (codes "HTTP/1.1 503 ") ++ line_of (codes "content-length: 0") ++ first_date ++ line_of [])
    ∷ []

pub record DeathExample : Type 0 where
  -- line 1's request went up, line 2 was answered, and both stay
  pub turns : Comes turned (waits_on ∷ []) calls sends (1 ∷ 2 ∷ [])
