-- What a worker does besides callbacks leaves who is dead.
use Rattle.std.proofs.Common.{◌≡◌, ℕ, Bool, true, false, not, ◌&&◌, ◌||◌, List, [], ◌∷◌, ◌∙◌, refl}
use Rattle.std.specs.List.{list_any}
use Rattle.std.specs.Prelude.{Option, None, Some, is_some, length, nat_lt, slice_get}
use Rattle.contexts.specs.declared.parts.Contexts.{Contexts}
use Rattle.contexts.specs.declared.parts.Effect.{Effect}
use Rattle.contexts.specs.declared.parts.Tick.{Tick}
use Rattle.contexts.specs.declared.parts.EffectKind.{EffectKind as EffectWhat}
use Rattle.contexts.specs.declared.parts.EffectKind.TheVariants as what
use Rattle.contexts.specs.Reached.{vm_in, tick_in, contains, seen}
use Rattle.filter_host.specs.Heard.{Heard, hands, halts}
use Rattle.exchange.specs.declared.types.Exchange.{Exchange}
use Rattle.exchange.specs.Heads.{is_final}
use Rattle.exchange.specs.Maps.{put_response, with_fields}
use Rattle.filter_chain.specs.declared.item.ChainItem.{ChainItem}
use Rattle.filter_chain.specs.declared.item.ChainItem.TheVariants as items
use Rattle.gate_io.specs.declared.event.Side.TheVariants.{Down, Up}
use Rattle.gate_io.specs.declared.event.What.{What}
use Rattle.gate_io.specs.declared.event.What.TheVariants as whats
use Rattle.header_maps.specs.Operations.{no_headers}
use Rattle.h1_model.specs.Messages.{Stop, rest, over, refusal}
use Rattle.h1_model.specs.Unread.{Part, head_part, interim_part, piece, trailer_part}
use Rattle.store_model.specs.declared.call.Reply.{Reply}
use Rattle.store_model.specs.declared.call.Reply.TheVariants as replies
use Rattle.worker_model.specs.Room.{Room}
use Rattle.worker_model.specs.declared.types.ContextAt.{ContextAt}
use Rattle.worker_model.specs.declared.types.Job.{Job}
use Rattle.worker_model.specs.declared.types.Job.TheVariants as jobs
use Rattle.worker_model.specs.declared.types.Line.{Line}
use Rattle.worker_model.specs.declared.types.Owner.{Owner}
use Rattle.worker_model.specs.declared.types.ReadBatch.{ReadBatch}
use Rattle.worker_model.specs.Moves.{ended_at}
use Rattle.worker_model.specs.Plan.{Plan}
use Rattle.worker_model.specs.Rooms.{apply_effect, effects_of, is_own, place_in}
use Rattle.worker_model.specs.Steps.{after_heard, begin_exchange_on, receive_on, delete_context, finish_context, end_at, end_with, exchange_of_line, exchange_on, expire_all, begin_first_job, release, release_at, take_part, take_event, has_vm, head_item, in_contexts, is_answered_in, is_due_tick, is_last, is_late, is_missed, is_open, is_read_in, is_zero, with_response_head, change_line, end_line, line_in, line_reading, lose_client, lose_server, most_lines, take_notice_reply, on_lines, accept_line, put_trailers, run_silent_job, read_on, refusal_sent, refuse_in, refuse_line, end_of_read, take_read_item, tick_root, tick_of, await_done}
use Rattle.law_body.proofs.Spent.{of_if}

abbrev pub Same : Room → Room → Type 0
Same room after = after.dead ≡ room.dead

-- ---- behind callbacks

does_same : (vm : ℕ) (own : Owner) (context : ℕ) (w : EffectWhat) (room : Room) → Same room (apply_effect vm own context w room)
does_same vm own context (what.Continue response) room = of_if (λ (r : Room). Same room r) (is_own own context response) _ _ (λ is. refl) (λ is. refl)
does_same vm own context what.Close room = refl
does_same vm own context (what.Call request) room = refl
does_same vm own context (what.Answer status fields body) room = refl

pub effects_same : (vm : ℕ) (own : Owner) (es : List Effect) (room : Room) → Same room (effects_of vm own es room)
effects_same vm own [] room = refl
effects_same vm own (e ∷ es) room = effects_same vm own es (apply_effect vm own e.context e.what room) ∙ does_same vm own e.context e.what room

waits_same : (c : ContextAt) (room : Room) → Same room (await_done c room)
waits_same c room = of_if (λ (r : Room). Same room r) (has_vm c.vm room.hub.contexts) _ _ (λ is. refl) (λ is. refl)

pub done_same : (c : ContextAt) (value : Option (Option ℕ)) (room : Room) → Same room (finish_context c value room)
done_same c None room = refl
done_same c (Some value) room = of_if (λ (r : Room). Same room r) (is_zero value) _ _ (λ is. waits_same c room) (λ is. refl)

pub deletes_same : (c : ContextAt) (value : Option (Option ℕ)) (room : Room) → Same room (delete_context c value room)
deletes_same c value room =
    of_if (λ (r : Room). Same room r) (has_vm c.vm room.hub.contexts && contains c.context (seen room.hub.contexts c.vm).common.ids) _ _ (λ is. refl) (λ is. refl)

-- ---- ticks, deadlines, notices

pub ticked_same : (vm root : ℕ) (room : Room) → Same room (tick_root vm root room).1
ticked_same vm root room = by_tick (tick_in (vm_in room.hub.contexts vm).contexts root)
  where
    by_tick : (o : Option (Option Tick)) → Same room (tick_of vm root o room).1
    by_tick None = refl
    by_tick (Some None) = refl
    by_tick (Some (Some t)) = of_if (λ (r : Bool × Room). Same room r.1) (is_due_tick room.hub.moment t && has_vm vm room.hub.contexts) _ _ (λ is. refl) (λ is. refl)

expires_same : (room : Room) → Same room (expire_all room)
expires_same room = of_if (λ (r : Room). Same room r) (list_any (is_late room.hub.moment) room.lines) _ _ (λ is. refl) (λ is. refl)

pub noticed_same : (vm left : ℕ) (reply : Reply) (room : Room) → Same room (take_notice_reply vm left reply room)
noticed_same vm left (replies.Owed root queue) room = refl
noticed_same vm left replies.Absent room = refl
noticed_same vm left (replies.Value value number) room = refl
noticed_same vm left (replies.Done number) room = refl
noticed_same vm left replies.CasMismatch room = refl
noticed_same vm left replies.Full room = refl
noticed_same vm left (replies.Id queue) room = refl
noticed_same vm left (replies.Item item) room = refl
noticed_same vm left replies.Empty room = refl
noticed_same vm left replies.NoneOwed room = refl

-- ---- lines come and go

line_ends_same : (o : Option Line) (number : ℕ) (stays : Bool) (room : Room) → Same room (end_line o number stays room)
line_ends_same None number stays room = refl
line_ends_same (Some line) number stays room =
    of_if (λ (r : Room). Same room r) line.is_gone _ _ (λ is. refl) (λ is. of_if (λ (r : Room). Same room r) stays _ _ (λ reads. refl) (λ closes. refl))

refuses_same : (o : Option Line) (number status : ℕ) (room : Room) → Same room (refuse_line o number status room)
refuses_same None number status room = refl
refuses_same (Some line) number status room = by_exchange line.exchange
  where
    sent_same : Same room (refusal_sent number status room)
    sent_same = of_if (λ (r : Room). Same room r) (is_final status) _ _ (λ is. refl) (λ is. refl)

    by_exchange : (o : Option Exchange) → Same room (refuse_in number status o room)
    by_exchange None = sent_same
    by_exchange (Some x) = refl

-- ---- what happens

comes_same : (up stops_now : Bool) (bytes : List ℕ) (number : ℕ) (o : Option Line) (room : Room) → Same room (receive_on up stops_now bytes number o room)
comes_same up stops_now bytes number o room =
    of_if (λ (r : Room). Same room r) (is_open (line_reading up o) && not (up && is_answered_in (exchange_of_line o))) _ _
    (λ is. of_if (λ (r : Room). Same room r) (is_read_in up (exchange_of_line o)) _ _ (λ reads. refl) (λ other. refl)) (λ is. refl)

loses_down_same : (number : ℕ) (o : Option Line) (room : Room) → Same room (lose_client number o room)
loses_down_same number None room = refl
loses_down_same number (Some line) room = of_if (λ (r : Room). Same room r) (is_some line.exchange) _ _ (λ is. refl) (λ is. refl)

loses_up_same : (number : ℕ) (o : Option Exchange) (room : Room) → Same room (lose_server number o room)
loses_up_same number o room = of_if (λ (r : Room). Same room r) (is_missed o) _ _ (λ is. refl) (λ is. refl)

opens_same : (number : ℕ) (room : Room) → Same room (accept_line number room)
opens_same number room =
    of_if (λ (r : Room). Same room r) (is_some (place_in number room.lines)) _ _ (λ is. refl)
    (λ is. of_if (λ (r : Room). Same room r) (nat_lt (length room.lines) most_lines) _ _ (λ more. refl) (λ full. refl))

happens_same : (w : What) (room : Room) → Same room (take_event w room)
happens_same (whats.Opened number) room = opens_same number room
happens_same (whats.Bytes number Down bytes) room = comes_same false false bytes number (line_in number room.lines) room
happens_same (whats.Bytes number Up bytes) room = comes_same true false bytes number (line_in number room.lines) room
happens_same (whats.End number Down) room = comes_same false true [] number (line_in number room.lines) room
happens_same (whats.End number Up) room = comes_same true true [] number (line_in number room.lines) room
happens_same (whats.Gone number Down) room = loses_down_same number (line_in number room.lines) room
happens_same (whats.Gone number Up) room = loses_up_same number (exchange_on number room) room
happens_same (whats.Joined number) room = refl
happens_same (whats.Refused number) room = loses_up_same number (exchange_on number room) room
happens_same (whats.Room number side) room = refl
happens_same whats.Clock room = refl
happens_same whats.Stop room = refl

-- the jobs that call nothing
pub quietly_same : (job : Job) (room : Room) → Same room (run_silent_job job room)
quietly_same (jobs.Begin vm) room = refl
quietly_same (jobs.Root vm plugin first) room = refl
quietly_same (jobs.Start vm root) room = refl
quietly_same (jobs.Configure vm root plugin) room = refl
quietly_same (jobs.Tick vm root) room = refl
quietly_same jobs.Expire room = expires_same room
quietly_same (jobs.Happen w) room = happens_same w room
quietly_same (jobs.Create number k) room = refl
quietly_same (jobs.Enter number) room = refl
quietly_same (jobs.Put number response items) room = refl
quietly_same (jobs.Refuse number status) room = refuses_same (line_in number room.lines) number status room
quietly_same (jobs.Done c) room = refl
quietly_same (jobs.Log c) room = refl
quietly_same (jobs.Delete c) room = refl
quietly_same (jobs.Close number stays) room = line_ends_same (line_in number room.lines) number stays room
quietly_same (jobs.Notice vm left) room = refl
quietly_same (jobs.Ready vm root queue) room = refl
quietly_same (jobs.Other step) room = refl

-- ---- steps that call nothing

pub begins_same : (todo : List Job) (room : Room) → Same room (begin_first_job todo room)
begins_same [] room = refl
begins_same (job ∷ later) room = refl

pub frees_same : (at : ℕ) (room : Room) → Same room (release at room)
frees_same at room = by_one (slice_get room.waits at)
  where
    by_one : (o : Option ContextAt) → Same room (release_at at o room)
    by_one None = refl
    by_one (Some c) = refl

pub ends_same : (place : ℕ) (room : Room) → Same room (end_at place room)
ends_same place room = by_one (ended_at place (slice_get room.lines place) room.lines)
  where
    by_one : (e : Option (ℕ × Exchange) × List Line) → Same room (end_with room e)
    by_one (None, lines) = refl
    by_one (Some (number, x), lines) = refl

-- ---- what is read

takes_same : (r : ReadBatch) (item : ChainItem) (room : Room) → Same room (take_read_item r item room)
takes_same r item room = of_if (λ (x : Room). Same room x) (is_last item) _ _ (λ is. refl) (λ is. refl)

in_contexts_same : (change : ℕ → Contexts → Contexts) (o : Option Exchange) (room : Room) → Same room (in_contexts change o room)
in_contexts_same change None room = refl
in_contexts_same change (Some x) room = refl

part_same : (plan : Plan) (r : ReadBatch) (p : Part) (room : Room) → Same room (take_part plan r p room)
part_same plan r (head_part h) room =
    of_if (λ (x : Room). Same room x) r.up _ _
    (λ up.
    takes_same r (head_item h) (on_lines (change_line (with_response_head h)) r.line (in_contexts (put_response h.fields) (exchange_on r.line room) room))
    ∙ in_contexts_same (put_response h.fields) (exchange_on r.line room) room)
    (λ down. takes_same r (head_item h) (begin_exchange_on plan r.line h room))
part_same plan r (interim_part h) room = refl
part_same plan r (piece bytes last) room = takes_same r (items.Piece bytes last) room
part_same plan r (trailer_part fields) room =
    takes_same r items.Trailers (in_contexts (put_trailers r.up (with_fields no_headers fields)) (exchange_on r.line room) room)
    ∙ in_contexts_same (put_trailers r.up (with_fields no_headers fields)) (exchange_on r.line room) room

stops_same : (r : ReadBatch) (why : Stop) (room : Room) → Same room (end_of_read r why room)
stops_same r rest room = refl
stops_same r over room = of_if (λ (x : Room). Same room x) (r.up || is_some (exchange_on r.line room)) _ _ (λ is. refl) (λ is. refl)
stops_same r (refusal status) room = refl

pub heard_same : (plan : Plan) (r : ReadBatch) (h : Heard) (room : Room) → Same room (after_heard plan r h (record room { reading = None }))
heard_same plan r (hands p new) room = part_same plan r p (on_lines (read_on r.up new) r.line (record room { reading = None }))
heard_same plan r (halts why new) room = stops_same r why (on_lines (read_on r.up new) r.line (record room { reading = None }))
