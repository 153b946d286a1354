-- WHAT A WORKER DOES NEXT, and what the effects of a callback do.
use Rattle.std.specs.List.{list_any}
use Rattle.std.specs.Prelude.{ℕ, ◌+◌, ◌==◌, Bool, true, false, not, ◌&&◌, ◌||◌, List, [], ◌∷◌, ◌++◌, length, slice_get, slice_set, nat_lt, Option, None, Some, is_some, position, codes, if◌then◌else◌}
use Rattle.callouts.specs.Callouts.{line_of, begun}
use Rattle.callouts.specs.Requests.{request_wire}
use Rattle.callouts.specs.declared.types.Callout.{Callout}
use Rattle.contexts.specs.declared.parts.Effect.{Effect}
use Rattle.contexts.specs.declared.parts.EffectKind.{EffectKind}
use Rattle.contexts.specs.declared.parts.EffectKind.TheVariants as what
use Rattle.contexts.specs.declared.parts.Contexts.{Contexts}
use Rattle.contexts.specs.declared.parts.Request.{Request}
use Rattle.contexts.specs.Reached.{vm_in, contains}
use Rattle.filter_host.specs.declared.host.CallbackEnd.{CallbackEnd}
use Rattle.filter_host.specs.declared.host.CallbackEnd.TheVariants as ends
use Rattle.filter_host.specs.declared.host.Death.{Death}
use Rattle.filter_host.specs.declared.host.Death.TheVariants as deaths
use Rattle.exchange.specs.declared.types.Exchange.{Exchange}
use Rattle.exchange.specs.declared.types.Filter.{Filter}
use Rattle.exchange.specs.declared.types.Hub.{Hub}
use Rattle.exchange.specs.Leaving.{hub_with_sent}
use Rattle.exchange.specs.Maps.{mark}
use Rattle.exchange.specs.Passing.{resume_context, close_exchange, lose_vm}
use Rattle.filter_chain.specs.Chains.{ready}
use Rattle.gate_base.specs.declared.cause.Cause.{Cause}
use Rattle.gate_base.specs.declared.cause.Cause.TheVariants as causes
use Rattle.gate_base.specs.declared.level.Level.TheVariants.{Critical}
use Rattle.gate_io.specs.declared.event.Sent.{Sent}
use Rattle.gate_io.specs.declared.event.Sent.TheVariants.{Connect, Bytes, Log}
use Rattle.gate_io.specs.declared.event.Side.TheVariants.{Up}
use Rattle.worker_model.specs.Changes.{apply_change}
use Rattle.worker_model.specs.declared.types.Change.TheVariants as changes
use Rattle.worker_model.specs.declared.types.ContextAt.{ContextAt}
use Rattle.worker_model.specs.declared.types.Job.{Job}
use Rattle.worker_model.specs.declared.types.Line.{Line}
use Rattle.worker_model.specs.declared.types.Next.{Next}
use Rattle.worker_model.specs.declared.types.Next.TheVariants as next
use Rattle.worker_model.specs.declared.types.Owner.{Owner}
use Rattle.worker_model.specs.declared.types.Owner.TheVariants.{Nobody, Stage}
use Rattle.worker_model.specs.Room.{Room}

-- ---- what is next

abbrev pub exchange_moves : Option Exchange → Bool
exchange_moves None = false
exchange_moves (Some x) = not x.has_ended && (nat_lt 0 (ready x.request) || nat_lt 0 (ready x.response))

abbrev pub exchange_ends : Option Exchange → Bool
exchange_ends None = false
exchange_ends (Some x) = x.has_ended

abbrev pub has_move : Line → Bool
has_move line = exchange_moves line.exchange

abbrev pub is_over : Line → Bool
is_over line = exchange_ends line.exchange

abbrev pub is_any : List Job → Bool
is_any [] = false
is_any (job ∷ jobs) = true

abbrev pub begins_or_rests : List Job → Next
begins_or_rests [] = next.Rest
begins_or_rests (job ∷ jobs) = next.Begin

abbrev pub ends_or : Option ℕ → Next → Next
ends_or None later = later
ends_or (Some place) later = next.End place

abbrev pub frees_or : Option ℕ → Next → Next
frees_or None later = later
frees_or (Some at) later = next.Free at

abbrev pub moves_or : Option ℕ → Next → Next
moves_or None later = later
moves_or (Some place) later = next.Move place

-- a VM died
abbrev pub is_dead : ℕ → Room → Bool
is_dead vm room = list_any (λ (d : ℕ). d == vm) room.dead

-- a context that waits for `proxy_done` does so no more, or its VM died
abbrev pub is_released : Room → ContextAt → Bool
is_released room c = is_dead c.vm room || not (contains c.context (vm_in room.hub.contexts c.vm).waiting)

abbrev pub next_part : Room → Next
next_part room =
    frees_or (position (is_released room) room.waits)
    (ends_or (position is_over room.lines) (begins_or_rests room.agenda))

-- What is being read is read to its rest. Then the chains move, the lowest line first. Then comes the next job in hand; a context that was
-- released; the end that is due on the lowest line; the next part of the event. Else everything is at rest.
abbrev pub next_of : Room → Next
next_of room =
    if is_some room.reading then next.Read
    else moves_or (position has_move room.lines)
    (if is_any room.jobs then next.Work else next_part room)

-- ---- what is done on a line

abbrev pub Changes : Type 0
Changes = ℕ → Exchange → Hub → Exchange × Hub

-- what host calls are told of the exchange goes with it
abbrev pub with_marks : Exchange × Hub → Exchange × Hub
with_marks (x, hub) = (x, record hub { contexts = mark x.is_answered x.has_ended x.is_head_out x.place hub.contexts })

abbrev pub with_result : Line → Exchange × Hub → Line × Hub
with_result line (x, hub) = (record line { exchange = Some x }, hub)

abbrev pub in_exchange : Changes → Line → Option Exchange → Hub → Line × Hub
in_exchange change line None hub = (line, hub)
in_exchange change line (Some x) hub = with_result line (with_marks (change line.number x hub))

abbrev pub in_line : Changes → Line → Hub → Line × Hub
in_line change line hub = in_exchange change line line.exchange hub

abbrev pub put_back : List Line → ℕ → Line × Hub → List Line × Hub
put_back lines place (line, hub) = (slice_set lines place line, hub)

abbrev pub at_some : Changes → List Line → ℕ → Option Line → Hub → List Line × Hub
at_some change lines place None hub = (lines, hub)
at_some change lines place (Some line) hub = put_back lines place (in_line change line hub)

abbrev pub at_place : Changes → List Line → Option ℕ → Hub → List Line × Hub
at_place change lines None hub = (lines, hub)
at_place change lines (Some place) hub = at_some change lines place (slice_get lines place) hub

-- on all lines, rising
abbrev pub all_lines : Changes → List Line → Hub → List Line × Hub
all_lines change [] hub = ([], hub)
all_lines change (line ∷ lines) hub =
    let first = in_line change line hub in
    let others = all_lines change lines first.1 in
    (first.0 ∷ others.0, others.1)

abbrev pub with_lines : Room → List Line × Hub → Room
with_lines room (lines, hub) = record room { lines = lines; hub = hub }

-- where the line of a number stands
abbrev pub place_in : ℕ → List Line → Option ℕ
place_in number lines = position (λ (line : Line). line.number == number) lines

abbrev pub has_open : ℕ → ℕ → Option Exchange → Bool
has_open vm context None = false
has_open vm context (Some x) = not x.has_ended && list_any (λ (f : Filter). (f.created && f.vm == vm) && f.context == context) x.filters

-- where the line stands whose open exchange has a context of a VM
abbrev pub place_of : ℕ → ℕ → List Line → Option ℕ
place_of vm context lines = position (λ (line : Line). has_open vm context line.exchange) lines

abbrev pub on_number : Changes → ℕ → Room → Room
on_number change number room = with_lines room (at_place change room.lines (place_in number room.lines) room.hub)

abbrev pub on_context : Changes → ℕ → ℕ → Room → Room
on_context change vm context room = with_lines room (at_place change room.lines (place_of vm context room.lines) room.hub)

abbrev pub with_contexts : Contexts → Room → Room
with_contexts h room = record room { hub = record room.hub { contexts = h } }

abbrev pub room_with_sent : List Sent → Room → Room
room_with_sent more room = record room { hub = hub_with_sent more room.hub }

-- ---- callouts that are under way

-- so many are, and this id was drawn last
abbrev pub count_calls : (under_way last : ℕ) → Contexts → Contexts
count_calls under_way last h = record h { calls = record { under_way = under_way; last = last } }

-- these are, and no id is drawn for them
abbrev pub with_calls : List Callout → Room → Room
with_calls calls room = record (with_contexts (count_calls (length calls) room.hub.contexts.calls.last room.hub.contexts) room) { calls = calls }

-- one more is, with the id that was drawn last
abbrev pub add_call : Callout → Room → Room
add_call c room = record (with_contexts (count_calls (length (room.calls ++ c ∷ [])) c.id room.hub.contexts) room) { calls = room.calls ++ c ∷ [] }

-- The id of the callout that begins next.
abbrev pub next_call : Room → ℕ
next_call room = room.hub.contexts.calls.last + 1

-- A CALLOUT BEGINS, under the next id: its connection, and then all of its request
abbrev pub begin_call : Request → Room → Room
begin_call q room =
    let id = next_call room in
    room_with_sent (Connect (line_of id) ∷ Bytes (line_of id) Up (request_wire q) ∷ []) (add_call (begun id room.hub.moment q) room)

-- ---- the effects of a callback

abbrev pub same : Bool → Bool → Bool
same true b = b
same false b = not b

-- the effect is on the stage whose callback it is, of which the returned action decides
abbrev pub is_own : Owner → ℕ → Bool → Bool
is_own Nobody context response = false
is_own (Stage c own) context response = c == context && same own response

abbrev pub apply_effect : ℕ → Owner → ℕ → EffectKind → Room → Room
apply_effect vm own context (what.Continue response) room = if is_own own context response then room else on_context (resume_context vm context response) vm context room
apply_effect vm own context what.Close room = on_context close_exchange vm context room
apply_effect vm own context (what.Call request) room = begin_call request room
apply_effect vm own context (what.Answer status fields body) room = on_context (apply_change (changes.Answer status fields body)) vm context room

-- in the order of the calls; an effect on an exchange that has ended does nothing
abbrev pub effects_of : ℕ → Owner → List Effect → Room → Room
effects_of vm own [] room = room
effects_of vm own (e ∷ es) room = effects_of vm own es (apply_effect vm own e.context e.what room)

abbrev pub without_effects : Room → Room
without_effects room = with_contexts (record room.hub.contexts { effects = [] }) room

-- ---- the death of a VM

abbrev pub trap_word : Cause → List ℕ
trap_word causes.Unreachable = codes "unreachable"
trap_word causes.Divide = codes "divide"
trap_word causes.Overflow = codes "overflow"
trap_word causes.Memory = codes "memory"
trap_word causes.Table = codes "table"
trap_word causes.Type = codes "type"
trap_word causes.Stack = codes "stack"
trap_word causes.Exit = codes "exit"

abbrev pub death_word : Death → List ℕ
death_word (deaths.Trapped cause) = trap_word cause
death_word deaths.FuelSpent = codes "fuel"
death_word deaths.Start = codes "start"
death_word deaths.Configure = codes "configure"
death_word deaths.Ids = codes "ids"

abbrev pub death_text : List ℕ → Death → List ℕ
death_text name death = codes "vm " ++ name ++ codes " died: " ++ death_word death

-- It is told in the log, and all lines are answered or let through.
abbrev pub lose_vm_in : ℕ → Death → Room → Room
lose_vm_in vm death room =
    let told : Room = room_with_sent (Log Critical (death_text (vm_in room.hub.contexts vm).name death) ∷ []) room in
    with_lines (record told { dead = room.dead ++ vm ∷ [] }) (all_lines (lose_vm vm) room.lines told.hub)

-- BEHIND A CALLBACK: its effects in the order of its calls, or the VM's death
abbrev pub after_callback : ℕ → Owner → CallbackEnd → List Effect → Room → Room
after_callback vm own (ends.Returned value) effects room = effects_of vm own effects room
after_callback vm own (ends.Died death) effects room = lose_vm_in vm death room

-- what a callback returned, if it did: a value, if it has one
abbrev pub value_of_end : CallbackEnd → Option (Option ℕ)
value_of_end (ends.Returned value) = Some value
value_of_end (ends.Died death) = None

-- the log lines of a callback come in front of its effects
abbrev pub take_callback_end : ℕ → Owner → CallbackEnd → List Sent → Contexts → Room → Room
take_callback_end vm own end lines h room = after_callback vm own end h.effects (without_effects (room_with_sent lines (with_contexts h room)))
