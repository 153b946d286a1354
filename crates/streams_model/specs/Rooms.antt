-- WHAT A WORKER OF STREAMS DOES NEXT, and what the effects of a callback and the death of a VM do to its lines.
use Rattle.std.specs.List.{list_any}
use Rattle.std.specs.Prelude.{ℕ, ◌==◌, Bool, not, ◌&&◌, ◌||◌, List, [], ◌∷◌, slice_get, slice_set, nat_lt, Option, None, Some, position, if◌then◌else◌}
use Rattle.contexts.specs.declared.parts.Contexts.{Contexts}
use Rattle.contexts.specs.declared.parts.Effect.{Effect}
use Rattle.contexts.specs.declared.parts.EffectKind.{EffectKind}
use Rattle.contexts.specs.declared.parts.EffectKind.TheVariants as what
use Rattle.exchange.specs.declared.types.Filter.{Filter}
use Rattle.exchange.specs.declared.types.Hub.{Hub}
use Rattle.filter_chain.specs.Chains.{ready}
use Rattle.filter_host.specs.declared.host.CallbackEnd.{CallbackEnd}
use Rattle.filter_host.specs.declared.host.CallbackEnd.TheVariants as call_ends
use Rattle.filter_host.specs.declared.host.Death.{Death}
use Rattle.gate_io.specs.declared.event.Sent.{Sent}
use Rattle.worker_model.specs.Room.{Room}
use Rattle.worker_model.specs.Rooms as http
use Rattle.worker_model.specs.Rooms.{is_any, begins_or_rests, ends_or, frees_or, moves_or, is_released, is_own, room_with_sent, with_contexts, without_effects, begin_call}
use Rattle.worker_model.specs.declared.types.Next.{Next}
use Rattle.worker_model.specs.declared.types.Next.TheVariants as next
use Rattle.worker_model.specs.declared.types.Owner.{Owner}
use Rattle.worker_model.specs.declared.types.TcpLine.{TcpLine}
use Rattle.streams_model.specs.Lines.{LineChanges, in_line, apply_change, lose_vm}
use Rattle.streams_model.specs.declared.types.Change.TheVariants as changes

-- ---- what is done on lines

-- where the line of a number stands
abbrev pub place_in : ℕ → List TcpLine → Option ℕ
place_in number lines = position (λ (l : TcpLine). l.number == number) lines

-- the connection of the line has not ended, and the context is that of a filter of it
abbrev pub has_open : ℕ → ℕ → TcpLine → Bool
has_open vm context l = not l.has_ended && list_any (λ (f : Filter). (f.created && f.vm == vm) && f.context == context) l.filters

-- where the line of a context stands, whose connection has not ended
abbrev pub place_of : ℕ → ℕ → List TcpLine → Option ℕ
place_of vm context lines = position (has_open vm context) lines

-- the line stands in its place again
abbrev pub put_back : List TcpLine → ℕ → TcpLine × Hub → List TcpLine × Hub
put_back lines place (l, hub) = (slice_set lines place l, hub)

-- what is done to the line that was found at a place
abbrev pub at_some : LineChanges → List TcpLine → ℕ → Option TcpLine → Hub → List TcpLine × Hub
at_some change lines place None hub = (lines, hub)
at_some change lines place (Some l) hub = put_back lines place (change l hub)

-- what is done to the line at a place, if there is one
abbrev pub at_place : LineChanges → List TcpLine → Option ℕ → Hub → List TcpLine × Hub
at_place change lines None hub = (lines, hub)
at_place change lines (Some place) hub = at_some change lines place (slice_get lines place) hub

-- what is done to all lines, rising
abbrev pub all_lines : LineChanges → List TcpLine → Hub → List TcpLine × Hub
all_lines change [] hub = ([], hub)
all_lines change (l ∷ lines) hub =
    let first = change l hub in
    let more = all_lines change lines first.1 in
    (first.0 ∷ more.0, more.1)

-- these are the lines now, and what they have in common
abbrev pub with_tcp : Room → List TcpLine × Hub → Room
with_tcp room (lines, hub) = record room { tcp = lines; hub = hub }

-- what is done to the line of a number
abbrev pub on_number : LineChanges → ℕ → Room → Room
on_number change number room = with_tcp room (at_place change room.tcp (place_in number room.tcp) room.hub)

-- what is done to the line that has a context of a VM
abbrev pub on_context : LineChanges → ℕ → ℕ → Room → Room
on_context change vm context room = with_tcp room (at_place change room.tcp (place_of vm context room.tcp) room.hub)

-- ---- the death of a VM

-- all lines of streams end or let its stages through
abbrev pub lose_lines : ℕ → Room → Room
lose_lines vm room = with_tcp room (all_lines (lose_vm vm) room.tcp room.hub)

-- It is told in the log.
abbrev pub lose_vm_in : ℕ → Death → Room → Room
lose_vm_in vm death room = lose_lines vm (http.lose_vm_in vm death room)

-- ---- the effects of a callback

-- what the stage of a context holds goes on, unless it is the one whose callback it is, of which the returned action decides
abbrev pub resumes : ℕ → Owner → ℕ → Bool → Room → Room
resumes vm own context response room = if is_own own context response then room else on_context (in_line (apply_change (changes.Resume vm context response))) vm context room

-- An effect. A stream has no local answers.
abbrev pub apply_effect : ℕ → Owner → ℕ → EffectKind → Room → Room
apply_effect vm own context (what.Continue response) room = resumes vm own context response room
apply_effect vm own context what.Close room = on_context (in_line (apply_change changes.Close)) vm context room
apply_effect vm own context (what.Answer status fields body) room = room
apply_effect vm own context (what.Call request) room = begin_call request room

-- in the order of the calls; an effect on a line whose connection has ended does nothing
abbrev pub effects_of : ℕ → Owner → List Effect → Room → Room
effects_of vm own [] room = room
effects_of vm own (e ∷ es) room = effects_of vm own es (apply_effect vm own e.context e.what room)

-- AFTER A CALLBACK: its effects in the order of its calls, or the VM's death
abbrev pub after_callback : ℕ → Owner → CallbackEnd → List Effect → Room → Room
after_callback vm own (call_ends.Returned value) effects room = effects_of vm own effects room
after_callback vm own (call_ends.Died death) effects room = lose_vm_in vm death room

-- the log lines of a callback come in front of its effects
abbrev pub take_callback_end : ℕ → Owner → CallbackEnd → List Sent → Contexts → Room → Room
take_callback_end vm own end lines h room = after_callback vm own end h.effects (without_effects (room_with_sent lines (with_contexts h room)))

-- ---- what is next

-- a stage of the line may be asked
abbrev pub has_move : TcpLine → Bool
has_move l = not l.has_ended && (nat_lt 0 (ready l.down) || nat_lt 0 (ready l.up))

-- the connection of the line has come to its end
abbrev pub is_over : TcpLine → Bool
is_over l = l.has_ended

-- what is next where the chains are at rest and nothing is in hand
abbrev pub next_part : Room → Next
next_part room = frees_or (position (is_released room) room.waits) (ends_or (position is_over room.tcp) (begins_or_rests room.agenda))

-- The chains move, the lowest line first. Then comes the next job in hand; a context that was released; the end of the lowest line whose
-- connection has ended; the next part of the event. Else everything is at rest.
abbrev pub next_of : Room → Next
next_of room = moves_or (position has_move room.tcp) (if is_any room.jobs then next.Work else next_part room)
