-- Over a worker's life, an exchange in which a dead filter that fails closed has a part has ended.
use Rattle.std.proofs.Common.{◌≡◌, ◌⊎◌, inl, inr, refl, ℕ, zero, suc, ◌==◌, Bool, true, false, not, ◌||◌, ◌&&◌, List, [], ◌∷◌, ◌++◌, length, ap, ◌∙◌, sym, subst, eq-eqb}
use Rattle.std.specs.List.{list_any}
use Rattle.std.specs.Prelude.{if◌then◌else◌, slice_get, slice_set, remove, insert, position, nat_lt, is_some, Option, None, Some}
use Rattle.contexts.specs.Creating.{next_id, plugin_in}
use Rattle.contexts.specs.declared.parts.Contexts.{Contexts}
use Rattle.exchange.specs.declared.types.Exchange.{Exchange}
use Rattle.exchange.specs.declared.types.Filter.{Filter}
use Rattle.exchange.specs.declared.types.Hub.{Hub}
use Rattle.exchange.specs.Answering.{answer_directly}
use Rattle.exchange.specs.Heads.{is_final, path_of, route_in}
use Rattle.exchange.specs.Maps.{put_response, with_fields}
use Rattle.exchange.specs.Passing as passing
use Rattle.exchange.specs.Passing.{has_stage_of, is_there, fails_closed, bypass_vm}
use Rattle.filter_chain.specs.declared.item.ChainItem.{ChainItem}
use Rattle.filter_chain.specs.declared.item.ChainItem.TheVariants as items
use Rattle.filter_chain.specs.declared.stage.Stage.{Stage}
use Rattle.filter_host.proofs.Holds.{all_reached}
use Rattle.filter_host.specs.Heard.{Heard, hands, halts}
use Rattle.filter_host.specs.declared.host.Death.{Death}
use Rattle.filter_host.specs.declared.host.Death.TheVariants as deaths
use Rattle.gate_config.specs.declared.config.Config.{Config}
use Rattle.gate_io.specs.declared.event.Side.TheVariants.{Down, Up}
use Rattle.gate_io.specs.declared.event.What.{What}
use Rattle.gate_io.specs.declared.event.What.TheVariants as whats
use Rattle.h1_model.specs.Head.{Head}
use Rattle.h1_model.specs.Messages.{Stop, rest, over, refusal}
use Rattle.h1_model.specs.Unread.{Part, head_part, interim_part, piece, trailer_part, Reading}
use Rattle.header_maps.specs.Operations.{no_headers}
use Rattle.law_lines.specs.Logs.{WriteLogs}
use Rattle.law_lines.proofs.Happening.{found_fails}
use Rattle.law_lines.proofs.Looks.{look, is_n, line_in_is}
use Rattle.law_lines.proofs.Stepping.{none_found}
use Rattle.law_meaning.specs.Walks.{Step, Walk, stays, steps, turns}
use Rattle.law_vms.specs.MadeVms.{MadeVmsAreInPlace}
use Rattle.law_vms.specs.OwnChanges.{ArePlaced, CallbacksChangeTheirOwn, PlacesStay}
use Rattle.vm_host.specs.Slots.{calling}
use Rattle.vm_host.specs.declared.slots.Vms.{Vms}
use Rattle.worker_model.specs.Moves.{asks_at, asks_in, asks_back, asks_exchange, ended_at, ended_in, ended_back}
use Rattle.worker_model.specs.Plan.{Plan}
use Rattle.worker_model.specs.Room.{Room}
use Rattle.worker_model.specs.Rooms.{Changes, in_exchange, exchange_ends, in_line, at_some, at_place, all_lines, is_dead, is_over, place_in, place_of, on_number, lose_vm_in, next_of}
use Rattle.worker_model.specs.Settling.{is_rest}
use Rattle.worker_model.specs.Steps.{Both, both, is_zero, with_jobs_first, await_done, finish_context, delete_context, last_jobs, has_vm, may_root, is_drawn_out, create_root, with_filter, change_exchange, change_line, line_at, line_at_place, on_line, in_place, line_in, exchange_of_line, exchange_on, may_stream, create_stream, create_filter, filter_at, create_context, enter_stages, with_exchange, exchange_for, free_place, begin_exchange_on, with_reader, read_on, is_last, with_read_mark, on_lines, end_reading, with_item, take_read_item, with_response_head, in_contexts, head_item, put_trailers, take_part, end_of_read, after_heard, without_place, drop_line, close_line, read_side, end_line, refusal_sent, refuse_in, refuse_line, most_lines, new_line, place_for, accept_line, with_further, side_with_more, is_open, is_answered_in, is_read_in, line_reading, receive_on, exchange_without_client, line_without_client, lose_client, is_missed, lose_server, take_event, end_exchange_of, end_with, end_at, step}
use Rattle.worker_model.specs.Turn.{room_for_event, without_sent}
use Rattle.worker_model.specs.declared.types.ContextAt.{ContextAt}
use Rattle.worker_model.specs.declared.types.Job.TheVariants as jobs
use Rattle.worker_model.specs.declared.types.Line.{Line}
use Rattle.worker_model.specs.declared.types.NewContext.{NewContext}
use Rattle.worker_model.specs.declared.types.ReadBatch.{ReadBatch}
use Rattle.law_filters.proofs.Doing.{by_ended, never}
use Rattle.law_filters.proofs.Rooms.{OfExchange, OfLine, OfEach, IsCalm, op_refuses, each_at, each_set, asked_lines, with_asked}
use Rattle.law_filters.proofs.Same.{pick}
use Rattle.law_filters.proofs.Sound.{Any}
use Rattle.law_filters.proofs.Steps.{IsStepped, step_fine}
use Rattle.law_filters.proofs.Thinning.{Keeps, Shut, shuts, still, shut_keeps, reads_in, does, asks, enters, makes, begins, dies}
use Rattle.law_filters.proofs.Walks.{no_over}
use Rattle.law_filters.specs.Ended.{HasPart, for_request, for_response, to_come, IsShutOn, DeadFiltersEndExchanges, closed_filter, its_stage, EndedExamples}
use Rattle.law_filters.specs.Roots.{first_worker, rules_for}

-- ---- rooms

abbrev Of : List ℕ → ℕ → Exchange → Type 0
Of dead n x = Shut dead x

abbrev All : List ℕ → List Line → Type 0
All dead lines = OfEach (Of dead) lines

-- of each exchange on a line
abbrev P : Room → Type 0
P room = All room.dead room.lines

-- ---- lines

in_line_shut : (dead after : List ℕ) (change : Changes) → ((n : ℕ) (x : Exchange) (hub : Hub) → Shut dead x → Shut after (change n x hub).0) → (line : Line) (hub : Hub) → OfLine (Of dead) line → OfLine (Of after) (in_line change line hub).0
in_line_shut dead after change keeps line hub s = by_exchange line.exchange refl s
  where
    by_exchange : (o : Option Exchange) → line.exchange ≡ o → OfExchange (Of dead) line.number o → OfLine (Of after) (in_exchange change line o hub).0
    by_exchange None at is = subst (OfExchange (Of after) line.number) (sym at) tt
    by_exchange (Some x) at is = keeps line.number x hub is

all_shut : (dead after : List ℕ) (change : Changes) → ((n : ℕ) (x : Exchange) (hub : Hub) → Shut dead x → Shut after (change n x hub).0) → (lines : List Line) (hub : Hub) → All dead lines → All after (all_lines change lines hub).0
all_shut dead after change keeps [] hub s = tt
all_shut dead after change keeps (line ∷ lines) hub s = (in_line_shut dead after change keeps line hub s.0, all_shut dead after change keeps lines (in_line change line hub).1 s.1)

module _ (dead : List ℕ) where
  place_shut : (change : Changes) → ((n : ℕ) (x : Exchange) (hub : Hub) → Shut dead x → Shut dead (change n x hub).0) → (lines : List Line) (o : Option ℕ) (hub : Hub) → All dead lines → All dead (at_place change lines o hub).0
  place_shut change keeps lines None hub s = s
  place_shut change keeps lines (Some k) hub s = by_line (slice_get lines k) refl
    where
      by_line : (o : Option Line) → slice_get lines k ≡ o → All dead (at_some change lines k o hub).0
      by_line None at = s
      by_line (Some l) at = each_set (Of dead) lines k (in_line change l hub).0 (in_line_shut dead dead change keeps l hub (each_at (Of dead) lines k l at s)) s

  -- the line of a number
  abbrev Mild : (Line → Line) → Type 0
  Mild change = (line : Line) → OfLine (Of dead) line → OfLine (Of dead) (change line)

  lined : (change : Line → Line) → Mild change → (lines : List Line) (o : Option ℕ) → All dead lines → All dead (line_at_place change lines o)
  lined change mild lines None s = s
  lined change mild lines (Some k) s = by_line (slice_get lines k) refl
    where
      by_line : (o : Option Line) → slice_get lines k ≡ o → All dead (line_at change lines k o)
      by_line None at = s
      by_line (Some l) at = each_set (Of dead) lines k (change l) (mild l (each_at (Of dead) lines k l at s)) s

  on_one : (change : Line → Line) → Mild change → (n : ℕ) (lines : List Line) → All dead lines → All dead (on_line change n lines)
  on_one change mild n lines s = lined change mild lines (place_in n lines) s

  changed : (change : Exchange → Exchange) → ((x : Exchange) → Shut dead x → Shut dead (change x)) → Mild (change_line change)
  changed change keeps line s = by_exchange line.exchange refl s
    where
      by_exchange : (o : Option Exchange) → line.exchange ≡ o → OfExchange (Of dead) line.number o → OfLine (Of dead) (change_exchange change line o)
      by_exchange None at is = subst (OfExchange (Of dead) line.number) (sym at) tt
      by_exchange (Some x) at is = keeps x is

  mild : (change : Exchange → Exchange) → ((x : Exchange) → Keeps x (change x)) → Mild (change_line change)
  mild change keeps = changed change (λ x s. shut_keeps dead x (change x) (keeps x) s)

  reader_mild : (up : Bool) (new : Reading) → Mild (read_on up new)
  reader_mild false new line s = s
  reader_mild true new line s = mild (with_reader new) (λ x. still x (with_reader new x) refl refl refl refl refl (λ e. e)) line s

  mark_mild : (up : Bool) (item : ChainItem) → Mild (change_line (with_read_mark up item))
  mark_mild false item = mild (with_read_mark false item) (λ x. still x (with_read_mark false item x) refl refl refl refl refl (λ e. e))
  mark_mild true item = mild (with_read_mark true item) (λ x. still x (with_read_mark true item x) refl refl refl refl refl (λ e. e))

  side_mild : (up stops_now : Bool) (bytes : List ℕ) → Mild (side_with_more up stops_now bytes)
  side_mild false stops_now bytes line s = s
  side_mild true stops_now bytes line s = mild (with_further stops_now bytes) (λ x. still x (with_further stops_now bytes x) refl refl refl refl refl (λ e. e)) line s

  client_mild : Mild line_without_client
  client_mild line s = by_exchange line.exchange refl s
    where
      by_exchange : (o : Option Exchange) → line.exchange ≡ o → OfExchange (Of dead) line.number o → OfLine (Of dead) (record (change_exchange exchange_without_client line o) { is_gone = true })
      by_exchange None at is = subst (OfExchange (Of dead) line.number) (sym at) tt
      by_exchange (Some x) at is = inl refl

  inserted : (lines : List Line) (k n : ℕ) → All dead lines → All dead (insert lines k (new_line n))
  inserted lines zero n s = (tt, s)
  inserted [] (suc k) n s = (tt, tt)
  inserted (line ∷ lines) (suc k) n s = (s.0, inserted lines k n s.1)

  removed : (lines : List Line) (k : ℕ) → All dead lines → All dead (remove lines k)
  removed [] zero s = tt
  removed [] (suc k) s = tt
  removed (line ∷ lines) zero s = s.1
  removed (line ∷ lines) (suc k) s = (s.0, removed lines k s.1)

-- ---- what callbacks do

dies_so : (vm : ℕ) (death : Death) (room : Room) → P room → P (lose_vm_in vm death room)
dies_so vm death room s = all_shut room.dead (room.dead ++ vm ∷ []) (passing.lose_vm vm) (λ n x hub here. dies room.dead vm n x hub here) room.lines _ s

calm : IsCalm P
calm = record {
  number = λ change n room op s. place_shut room.dead change (does room.dead change op) room.lines (place_in n room.lines) room.hub s;
  context = λ change vm context room op s. place_shut room.dead change (does room.dead change op) room.lines (place_of vm context room.lines) room.hub s;
  all = λ change room op s. all_shut room.dead room.dead change (does room.dead change op) room.lines room.hub s;
  dies = λ vm death room s. dies_so vm death room s;
  hub = λ room h same s. s;
  sent = λ room more none s. s;
  begins = λ q room s. s;
  under_way = λ calls room s. s;
}

-- ---- what is heard

takes_item : (r : ReadBatch) (item : ChainItem) (room : Room) → P room → P (take_read_item r item room)
takes_item r item room s =
    let marked : Room = on_lines (change_line (with_read_mark r.up item)) r.line room in
    let here : P marked = on_one room.dead (change_line (with_read_mark r.up item)) (mark_mild room.dead r.up item) r.line room.lines s in
    pick P (is_last item) (end_reading (with_item item r) None marked) (record marked { reading = Some (with_item item r) }) here here

in_so : (change : ℕ → Contexts → Contexts) (o : Option Exchange) (room : Room) → P room → P (in_contexts change o room)
in_so change None room s = s
in_so change (Some x) room s = s

begins_so : (plan : Plan) (n : ℕ) (head : Head) (room : Room) → P room → P (begin_exchange_on plan n head room)
begins_so plan n head room s =
    let x : Exchange = exchange_for plan (free_place room.hub.contexts) room.hub.moment room.dead head (route_in plan.routes (path_of head.fields)) in
    on_one room.dead (with_exchange x) (λ line is. begins room.dead plan (free_place room.hub.contexts) room.hub.moment head (route_in plan.routes (path_of head.fields))) n room.lines s

part_so : (plan : Plan) (r : ReadBatch) (part : Part) (room : Room) → P room → P (take_part plan r part room)
part_so plan r (head_part head) room s =
    pick P r.up _ _ (takes_item r (head_item head) next (on_one mid.dead (change_line (with_response_head head)) (mild mid.dead (with_response_head head) (λ x. still x (with_response_head head x) refl refl refl refl refl (λ e. e))) r.line mid.lines (in_so (put_response head.fields) (exchange_on r.line room) room s)))
    (takes_item r (head_item head) (begin_exchange_on plan r.line head room) (begins_so plan r.line head room s))
  where
    mid : Room
    mid = in_contexts (put_response head.fields) (exchange_on r.line room) room

    next : Room
    next = on_lines (change_line (with_response_head head)) r.line (in_contexts (put_response head.fields) (exchange_on r.line room) room)
part_so plan r (interim_part head) room s = s
part_so plan r (piece bytes last) room s = takes_item r (items.Piece bytes last) room s
part_so plan r (trailer_part fields) room s =
    takes_item r items.Trailers (in_contexts (put_trailers r.up (with_fields no_headers fields)) (exchange_on r.line room) room) (in_so (put_trailers r.up (with_fields no_headers fields)) (exchange_on r.line room) room s)

stops_so : (r : ReadBatch) (why : Stop) (room : Room) → P room → P (end_of_read r why room)
stops_so r rest room s = s
stops_so r over room s = pick P (r.up || is_some (exchange_on r.line room)) (end_reading r None room) (with_jobs_first (jobs.Close r.line false ∷ []) (end_reading r None room)) s s
stops_so r (refusal status) room s = s

heard_so : (plan : Plan) (r : ReadBatch) (h : Heard) (room : Room) → P room → P (after_heard plan r h room)
heard_so plan r (hands part new) room s = part_so plan r part (on_lines (read_on r.up new) r.line room) (on_one room.dead (read_on r.up new) (reader_mild room.dead r.up new) r.line room.lines s)
heard_so plan r (halts why new) room s = stops_so r why (on_lines (read_on r.up new) r.line room) (on_one room.dead (read_on r.up new) (reader_mild room.dead r.up new) r.line room.lines s)

-- ---- a stage is asked, and an exchange ends

asked_so : (place : ℕ) (room : Room) → P room → P (with_asked room (asked_lines place room))
asked_so place room s = by_line (slice_get room.lines place) refl
  where
    by_exchange : (line : Line) (o : Option Exchange) → slice_get room.lines place ≡ Some line → line.exchange ≡ o → P (with_asked room (asks_back place room.lines (asks_in line o room.hub)))
    by_exchange line None at is = each_set (Of room.dead) room.lines place line (each_at (Of room.dead) room.lines place line at s) s
    by_exchange line (Some x) at is =
        each_set (Of room.dead) room.lines place (record line { exchange = Some (asks_exchange line.number x room.hub).1 })
        (asks room.dead line.number x room.hub (subst (OfExchange (Of room.dead) line.number) is (each_at (Of room.dead) room.lines place line at s))) s

    by_line : (o : Option Line) → slice_get room.lines place ≡ o → P (with_asked room (asks_at place o room.lines room.hub))
    by_line None at = s
    by_line (Some line) at = by_exchange line line.exchange at refl

closed_so : (o : Option (ℕ × Exchange)) (room : Room) → P room → P (end_exchange_of o room)
closed_so None room s = s
closed_so (Some (n, x)) room s = s

ended_so : (place : ℕ) (room : Room) → P room → P (end_at place room)
ended_so place room s = by_line (slice_get room.lines place) refl
  where
    by_exchange : (line : Line) (o : Option Exchange) → slice_get room.lines place ≡ Some line → line.exchange ≡ o → P (end_with room (ended_back place room.lines (ended_in line o)))
    by_exchange line None at is = each_set (Of room.dead) room.lines place line (each_at (Of room.dead) room.lines place line at s) s
    by_exchange line (Some x) at is =
        closed_so (Some (line.number, x)) (record room { lines = slice_set room.lines place (record line { exchange = None }) }) (each_set (Of room.dead) room.lines place (record line { exchange = None }) tt s)

    by_line : (o : Option Line) → slice_get room.lines place ≡ o → P (end_with room (ended_at place o room.lines))
    by_line None at = s
    by_line (Some line) at = by_exchange line line.exchange at refl

-- ---- contexts are made and done with

root_so : (vm plugin : ℕ) (first : Bool) (room : Room) → P room → P (create_root vm plugin first room).1
root_so vm plugin first room s =
    pick (λ (r : Option NewContext × Room). P r.1) (is_dead vm room || not (may_root vm plugin room.hub.contexts)) _ _ s
    (pick (λ (r : Option NewContext × Room). P r.1) (is_drawn_out vm room.hub.contexts) _ _ (dies_so vm deaths.Ids room s) s)

create_so : (n k : ℕ) (room : Room) → P room → P (create_context n k room).1
create_so n k room s = by_filter (filter_at n k room.lines)
  where
    by_root : (f : Filter) (o : Option ℕ) → P (create_stream n k f o room).1
    by_root f None = s
    by_root f (Some root) =
        by_ended (λ (r : Option NewContext × Room). P r.1) (is_dead f.vm room || not (may_stream f.vm root room.hub.contexts)) _ _ (λ e. s)
        (λ e. pick (λ (r : Option NewContext × Room). P r.1) (is_drawn_out f.vm room.hub.contexts) _ _ (dies_so f.vm deaths.Ids room s)
        (on_one room.dead (change_line (with_filter k (record f { created = true; context = next_id room.hub.contexts f.vm }))) (changed room.dead (with_filter k (record f { created = true; context = next_id room.hub.contexts f.vm })) (λ x here. makes room.dead k (record f { created = true; context = next_id room.hub.contexts f.vm }) x (first_none (is_dead f.vm room) (not (may_stream f.vm root room.hub.contexts)) e) here)) n room.lines s))
      where
        first_none : (a b : Bool) → (a || b) ≡ false → a ≡ false
        first_none true b is = is
        first_none false b is = refl

    by_filter : (o : Option Filter) → P (create_filter n k o room).1
    by_filter None = s
    by_filter (Some f) = by_root f (plugin_in room.hub.contexts f.plugin).root

finish_so : (c : ContextAt) (value : Option (Option ℕ)) (room : Room) → P room → P (finish_context c value room)
finish_so c None room s = s
finish_so c (Some v) room s = pick P (is_zero v) (await_done c room) (with_jobs_first (last_jobs c) room) (pick P (has_vm c.vm room.hub.contexts) _ room s s) s

delete_so : (c : ContextAt) (value : Option (Option ℕ)) (room : Room) → P room → P (delete_context c value room)
delete_so c value room s = pick P _ _ room s s

-- ---- lines come and go

drop_so : (n : ℕ) (room : Room) → P room → P (drop_line n room)
drop_so n room s = by_place (place_in n room.lines)
  where
    by_place : (o : Option ℕ) → All room.dead (without_place room.lines o)
    by_place None = s
    by_place (Some k) = removed room.dead room.lines k s

end_so : (o : Option Line) (n : ℕ) (stays_open : Bool) (room : Room) → P room → P (end_line o n stays_open room)
end_so None n stays_open room s = s
end_so (Some line) n stays_open room s =
    pick P line.is_gone (drop_line n room) (if stays_open then read_side n false room else close_line n room) (drop_so n room s) (pick P stays_open (read_side n false room) (close_line n room) s (drop_so n room s))

refuse_so : (o : Option Line) (n status : ℕ) (room : Room) → P room → P (refuse_line o n status room)
refuse_so None n status room s = s
refuse_so (Some line) n status room s = by_exchange line.exchange
  where
    by_exchange : (o : Option Exchange) → P (refuse_in n status o room)
    by_exchange (Some x) = calm.number (passing.refuse_exchange status) n room (op_refuses status) s
    by_exchange None = drop_so n (refusal_sent n status room) (pick P (is_final status) _ room s s)

receive_so : (up stops_now : Bool) (bytes : List ℕ) (n : ℕ) (o : Option Line) (room : Room) → P room → P (receive_on up stops_now bytes n o room)
receive_so up stops_now bytes n o room s =
    let later : Room = on_lines (side_with_more up stops_now bytes) n room in
    let here : P later = on_one room.dead (side_with_more up stops_now bytes) (side_mild room.dead up stops_now bytes) n room.lines s in
    pick P (is_open (line_reading up o) && not (up && is_answered_in (exchange_of_line o))) (if is_read_in up (exchange_of_line o) then read_side n up later else later) room (pick P (is_read_in up (exchange_of_line o)) (read_side n up later) later here here) s

client_so : (n : ℕ) (o : Option Line) (room : Room) → P room → P (lose_client n o room)
client_so n None room s = s
client_so n (Some line) room s = pick P (is_some line.exchange) (on_lines line_without_client n room) (drop_line n room) (on_one room.dead line_without_client (client_mild room.dead) n room.lines s) (drop_so n room s)

server_so : (n : ℕ) (o : Option Exchange) (room : Room) → P room → P (lose_server n o room)
server_so n o room s = pick P (is_missed o) (on_number (passing.refuse_exchange 502) n room) room (calm.number (passing.refuse_exchange 502) n room (op_refuses 502) s) s

accept_so : (n : ℕ) (room : Room) → P room → P (accept_line n room)
accept_so n room s =
    pick P (is_some (place_in n room.lines)) room _ s
    (pick P (nat_lt (length room.lines) most_lines) (record room { lines = insert room.lines (place_for n room.lines) (new_line n) }) _ (inserted room.dead room.lines (place_for n room.lines) n s) s)

event_so : (what : What) (room : Room) → P room → P (take_event what room)
event_so (whats.Opened n) room s = accept_so n room s
event_so (whats.Bytes n Down bytes) room s = receive_so false false bytes n (line_in n room.lines) room s
event_so (whats.Bytes n Up bytes) room s = receive_so true false bytes n (line_in n room.lines) room s
event_so (whats.End n Down) room s = receive_so false true [] n (line_in n room.lines) room s
event_so (whats.End n Up) room s = receive_so true true [] n (line_in n room.lines) room s
event_so (whats.Gone n Down) room s = client_so n (line_in n room.lines) room s
event_so (whats.Gone n Up) room s = server_so n (exchange_on n room) room s
event_so (whats.Joined n) room s = s
event_so (whats.Refused n) room s = server_so n (exchange_on n room) room s
event_so (whats.Room n side) room s = s
event_so whats.Clock room s = s
event_so whats.Stop room s = s

-- ---- EACH STEP

stepped : (plan : Plan) → IsStepped plan (λ room. Unit {0}) Any P P
stepped plan = record {
  last = λ room s. s;
  unread = λ room here s. s;
  read = λ r reading h room at on says here s. heard_so plan r h (record room { reading = None }) s;
  stage = λ place room quiet at any here s. asked_so place room s;
  frees = λ at c room quiet jobless there here s. s;
  over = λ place room quiet jobless here s. ended_so place room s;
  part = λ job later room quiet jobless at here s. s;
  pops = λ job room is here s. s;
  notices = λ vm left root queue room here s. s;
  calls = λ other then_ room here s. s;
  root = λ vm p first room here s. root_so vm p first room s;
  create = λ n k room here s. create_so n k room s;
  finish = λ c value room s. finish_so c value room s;
  delete = λ c value room s. delete_so c value room s;
  happens = λ what room quiet here s. event_so what room s;
  enters = λ n room here s. place_shut room.dead (enter_stages room.dead) (λ m x hub is. enters room.dead x is) room.lines (place_in n room.lines) room.hub s;
  puts = λ n list room here s. place_shut room.dead (passing.put_read_items false list) (λ m x hub is. reads_in room.dead false list m x hub is) room.lines (place_in n room.lines) room.hub s;
  refuses = λ n status room here s. refuse_so (line_in n room.lines) n status room s;
  closes = λ n stays_open room quiet here s. end_so (line_in n room.lines) n stays_open room s;
}

module _ (logs : WriteLogs calling) (change : CallbacksChangeTheirOwn) (stay : PlacesStay) (plan : Plan) where
  abbrev Fine : Both Vms → Type 0
  Fine b = P b.room × ArePlaced b.host

  walked : (b e : Both Vms) (all : List (Step Vms)) → Walk calling plan b all e → Fine b → Fine e
  walked _ _ _ (stays b) is = is
  walked _ _ _ (steps b m e ms more goes reaches later) is =
      walked m e more later
      (all_reached Fine ms (step calling plan (next_of b.room) b.host b.room) m (step_fine logs change stay plan (λ room. Unit {0}) Any P P calm (stepped plan) b.host b.room tt is.0 is.1 (λ place at quiet. tt)) reaches)
  walked _ _ _ (turns b e event all rests goes later) is = walked (both b.host (room_for_event plan event (without_sent b.room))) e all later is

-- ---- what it says

-- of the exchange on a line
on_shut : (n : ℕ) (x : Exchange) (room : Room) → exchange_on n room ≡ Some x → P room → Shut room.dead x
on_shut n x room on s = by_place (place_in n room.lines) on
  where
    by_line : (k : ℕ) (o : Option Line) → slice_get room.lines k ≡ o → exchange_of_line o ≡ Some x → Shut room.dead x
    by_line k None at is = absurd (cc is)
    by_line k (Some l) at is = subst (OfExchange (Of room.dead) l.number) is (each_at (Of room.dead) room.lines k l at s)

    by_place : (o : Option ℕ) → exchange_of_line (in_place room.lines o) ≡ Some x → Shut room.dead x
    by_place None is = absurd (cc is)
    by_place (Some k) is = by_line k (slice_get room.lines k) refl is

or_one : (a b : Bool) → a ≡ true → (a || b) ≡ true
or_one true b is = refl
or_one false b is = absurd (cc is)

or_other : (a b : Bool) → b ≡ true → (a || b) ≡ true
or_other true b is = refl
or_other false b is = is

any_at : {A : Type 0} (p : A → Bool) (these : List A) (k : ℕ) (a : A) → slice_get these k ≡ Some a → p a ≡ true → list_any p these ≡ true
any_at p [] zero a at is = absurd (cc at)
any_at p [] (suc k) a at is = absurd (cc at)
any_at {A} p (b ∷ these) zero a at is = let same : b ≡ a = cc at in or_one (p b) (list_any p these) (ap p same ∙ is)
any_at p (b ∷ these) (suc k) a at is = or_other (p b) (list_any p these) (any_at p these k a at is)

part_there : (f : Filter) (x : Exchange) → HasPart f x → is_there x f ≡ true
part_there f x (for_request k s at its) =
    or_one (has_stage_of f.vm f.context x.request || has_stage_of f.vm f.context x.response) (not x.is_entered && not x.is_answered)
    (or_one (has_stage_of f.vm f.context x.request) (has_stage_of f.vm f.context x.response)
    (any_at (λ (t : Stage). (t.vm == f.vm) && (t.context == f.context)) x.request k s at (λ i. eq-eqb s.vm f.vm its.vm i && eq-eqb s.context f.context its.context i)))
part_there f x (for_response k s at its) =
    or_one (has_stage_of f.vm f.context x.request || has_stage_of f.vm f.context x.response) (not x.is_entered && not x.is_answered)
    (or_other (has_stage_of f.vm f.context x.request) (has_stage_of f.vm f.context x.response)
    (any_at (λ (t : Stage). (t.vm == f.vm) && (t.context == f.context)) x.response k s at (λ i. eq-eqb s.vm f.vm its.vm i && eq-eqb s.context f.context its.context i)))
part_there f x (to_come unentered unanswered) =
    or_other (has_stage_of f.vm f.context x.request || has_stage_of f.vm f.context x.response) (not x.is_entered && not x.is_answered) (λ i. not (unentered i) && not (unanswered i))

its_closed : (n : ℕ) (room : Room) (x : Exchange) (is : IsShutOn n room x) → fails_closed is.its.vm x ≡ true
its_closed n room x is =
    any_at (shuts is.its.vm x) x.filters is.place is.its is.at (λ i. (eq-eqb is.its.vm is.its.vm refl i && not (is.closed i)) && part_there is.its x is.part i)

shut_ended : (n : ℕ) (room : Room) (x : Exchange) → P room → IsShutOn n room x → x.has_ended ≡ true
shut_ended n room x s is = by_shut (on_shut n x room is.on s)
  where
    by_shut : Shut room.dead x → x.has_ended ≡ true
    by_shut (inl ended) = ended
    by_shut (inr none) = absurd (never (fails_closed is.its.vm x) (none is.its.vm is.dead) (its_closed n room x is))

-- at rest no exchange has ended
rest_runs : (n : ℕ) (room : Room) (x : Exchange) → is_rest (next_of room) ≡ true → exchange_on n room ≡ Some x → x.has_ended ≡ false
rest_runs n room x rests on = by_look (look n room.lines) refl (sym (ap exchange_of_line (line_in_is n room.lines)) ∙ on)
  where
    by_look : (o : Option Line) → look n room.lines ≡ o → exchange_of_line o ≡ Some x → x.has_ended ≡ false
    by_look None at is = absurd (cc is)
    by_look (Some l) at is = sym (ap exchange_ends is) ∙ found_fails is_over (is_n n) room.lines l (none_found is_over room.lines (no_over room rests)) at

pub dead_filters_end_exchanges : WriteLogs calling → CallbacksChangeTheirOwn → PlacesStay → MadeVmsAreInPlace → DeadFiltersEndExchanges
dead_filters_end_exchanges logs change stay made = record {
  ended = λ config who seed all to n x walk is. shut_ended n to.room x (known config who seed all to walk) is;
  gone = λ config who seed all to n x walk rests is. never x.has_ended (rest_runs n to.room x rests is.on) (shut_ended n to.room x (known config who seed all to walk) is);
}
  where
    known : (config : Config) (who : ℕ) (seed : List ℕ) (all : List (Step Vms)) (to : Both Vms) → Walk calling (rules_for config who seed) (first_worker config who seed).state all to → P to.room
    known config who seed all to walk = (walked logs change stay (rules_for config who seed) (first_worker config who seed).state to all walk (tt, made.placed config.vms)).0

-- ---- worked

no_place : (ss : List Stage) (k : ℕ) (s : Stage) → ss ≡ [] → slice_get ss k ≡ Some s → ⊥
no_place [] zero s none at = cc at
no_place [] (suc k) s none at = cc at
no_place (t ∷ ss) k s none at = cc none

pub ended_examples : EndedExamples
ended_examples = record {
  part = λ x is. for_response 0 its_stage (λ i. slice_get (is i) 0) (record { vm = refl; context = refl });
  ends = λ n x hub filters request response.
      by_ended (λ (q : Exchange × Hub). q.0.has_ended ≡ true) x.has_ended (x, hub) _ (λ e. e)
      (λ e. by_ended (λ (q : Exchange × Hub). q.0.has_ended ≡ true) (fails_closed 3 x) (answer_directly n 503 [] [] x hub) (bypass_vm 3 n x hub)
      (λ closed. by_ended (λ (q : Exchange × Hub). q.0.has_ended ≡ true) (x.is_head_out || not (is_final 503)) _ _ (λ out. refl) (λ out. refl))
      (λ opens. absurd (never (fails_closed 3 x) opens (three x filters request response))));
  none = λ x entered request response p. no_part x entered request response p;
}
  where
    three : (x : Exchange) → x.filters ≡ closed_filter ∷ [] → x.request ≡ [] → x.response ≡ its_stage ∷ [] → fails_closed 3 x ≡ true
    three x filters request response = λ i.
        list_any (λ (f : Filter). ((f.vm == 3) && not f.fails_open) && ((has_stage_of f.vm f.context (request i) || has_stage_of f.vm f.context (response i)) || (not x.is_entered && not x.is_answered))) (filters i)

    no_part : (x : Exchange) → x.is_entered ≡ true → x.request ≡ [] → x.response ≡ [] → HasPart closed_filter x → ⊥
    no_part x entered request response (for_request k s at its) = no_place x.request k s request at
    no_part x entered request response (for_response k s at its) = no_place x.response k s response at
    no_part x entered request response (to_come unentered unanswered) = never x.is_entered unentered entered
