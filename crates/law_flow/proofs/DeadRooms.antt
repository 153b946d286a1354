-- Whatever a worker does, the stages of VMs that are dead are spent; so none of them is asked.
use Rattle.std.proofs.Common.{◌≡◌, ℕ, zero, suc, Bool, true, false, not, ◌&&◌, ◌||◌, ◌==◌, List, [], ◌∷◌, ◌++◌, ap, ◌∙◌, sym, refl, subst, inl, inr, eq-eqb}
use Rattle.std.proofs.lemmas.List.Quantifiers.{position-Some}
use Rattle.std.proofs.lemmas.Option.{slice_get-get_or}
use Rattle.std.specs.List.{list_any}
use Rattle.std.specs.Prelude.{Option, None, Some, is_some, length, nat_lt, slice_get, slice_set, remove, insert, option_map, position, get_or, if◌then◌else◌}
use Rattle.contexts.specs.declared.parts.Contexts.{Contexts}
use Rattle.contexts.specs.declared.parts.Effect.{Effect}
use Rattle.contexts.specs.declared.parts.Tick.{Tick}
use Rattle.contexts.specs.declared.parts.EffectKind.{EffectKind as EffectWhat}
use Rattle.contexts.specs.declared.parts.EffectKind.TheVariants as what
use Rattle.contexts.specs.Creating.{next_id, open_exchange, stream_created}
use Rattle.contexts.specs.Reached.{vm_in, tick_in, contains, seen}
use Rattle.filter_host.specs.Heard.{Heard, hands, halts}
use Rattle.filter_host.specs.declared.host.CallbackEnd.{CallbackEnd}
use Rattle.filter_host.specs.declared.host.CallbackEnd.TheVariants as call_ends
use Rattle.filter_host.specs.declared.host.Death.{Death}
use Rattle.filter_host.specs.declared.host.Death.TheVariants as deaths
use Rattle.exchange.specs.declared.types.Exchange.{Exchange}
use Rattle.exchange.specs.declared.types.Filter.{Filter}
use Rattle.exchange.specs.declared.types.Hub.{Hub}
use Rattle.exchange.specs.Answering.{with_held}
use Rattle.exchange.specs.Heads.{is_final, path_of, route_in}
use Rattle.exchange.specs.Maps.{put_response, with_fields}
use Rattle.exchange.specs.Passing.{chain_of, with_chain, finish_put, apply_action, resume_context, close_exchange, lose_vm, refuse_exchange, expire_exchange, put_read_items}
use Rattle.filter_chain.specs.Chains.{asked, ready}
use Rattle.filter_chain.specs.declared.item.ChainItem.{ChainItem}
use Rattle.filter_chain.specs.declared.item.ChainItem.TheVariants as items
use Rattle.filter_chain.specs.declared.item.Asking.{Asking}
use Rattle.filter_chain.specs.declared.item.Asking.TheVariants.{Nothing, Over, Asks}
use Rattle.filter_chain.specs.declared.item.PassOutcome.TheVariants as passed
use Rattle.filter_chain.specs.declared.stage.Stage.{Stage as ChainStage}
use Rattle.gate_base.specs.declared.level.Level.TheVariants.{Critical}
use Rattle.gate_io.specs.declared.event.Sent.{Sent}
use Rattle.gate_io.specs.declared.event.Sent.TheVariants as to
use Rattle.gate_io.specs.declared.event.Side.TheVariants.{Down, Up}
use Rattle.gate_io.specs.declared.event.What.{What}
use Rattle.gate_io.specs.declared.event.What.TheVariants as whats
use Rattle.header_maps.specs.Operations.{no_headers}
use Rattle.h1_model.specs.Head.{Head}
use Rattle.h1_model.specs.Messages.{Stop, rest, over, refusal}
use Rattle.h1_model.specs.Unread.{Part, head_part, interim_part, piece, trailer_part, Reading}
use Rattle.store_model.specs.declared.call.Reply.{Reply}
use Rattle.store_model.specs.declared.call.Reply.TheVariants as replies
use Rattle.worker_model.specs.Changes.{apply_change}
use Rattle.worker_model.specs.Room.{Room}
use Rattle.worker_model.specs.declared.types.Asked.{Asked}
use Rattle.worker_model.specs.declared.types.Change.TheVariants as changes
use Rattle.worker_model.specs.declared.types.ContextAt.{ContextAt}
use Rattle.worker_model.specs.declared.types.Job.{Job}
use Rattle.worker_model.specs.declared.types.Job.TheVariants as jobs
use Rattle.worker_model.specs.declared.types.Line.{Line}
use Rattle.worker_model.specs.declared.types.NewContext.{NewContext}
use Rattle.worker_model.specs.declared.types.Owner.{Owner}
use Rattle.worker_model.specs.declared.types.ReadBatch.{ReadBatch}
use Rattle.worker_model.specs.Moves.{asks_stage, asks_chain, asks_exchange, asks_response, asks_in, asks_back, asks_at, count_of, ended_in, ended_back, ended_at}
use Rattle.worker_model.specs.Plan.{Plan}
use Rattle.worker_model.specs.declared.types.Next.{Next}
use Rattle.worker_model.specs.declared.types.Next.TheVariants as next
use Rattle.worker_model.specs.Rooms.{exchange_moves, has_move, is_over, is_any, begins_or_rests, ends_or, frees_or, moves_or, is_released, next_part, next_of, Changes, in_exchange, in_line, at_some, at_place, all_lines, place_in, place_of, on_number, on_context, with_contexts, room_with_sent, is_own, apply_effect, effects_of, without_effects, is_dead, death_text, lose_vm_in, take_callback_end}
use Rattle.worker_model.specs.Steps.{is_zero, unless_zero, has_vm, await_done, finish_context, delete_context, apply_stage_action, action_of, is_drawn_out, may_root, create_root, with_filter, change_exchange, change_line, line_at, line_at_place, line_in, exchange_on, exchange_of_line, may_stream, create_stream, create_filter, filter_at, create_context, enter_stages, with_exchange, exchange_for, free_place, begin_exchange_on, line_reading, with_reader, read_on, is_last, with_read_mark, on_lines, take_read_item, with_response_head, in_contexts, head_item, put_trailers, take_part, end_of_read, after_heard, without_place, drop_line, close_line, end_line, refusal_sent, refuse_in, refuse_line, most_lines, new_line, place_for, accept_line, with_further, side_with_more, is_open, is_answered_in, is_read_in, receive_on, exchange_without_client, line_without_client, lose_client, is_missed, lose_server, take_event, end_with, end_at, is_due_tick, tick_of, tick_root, is_late, expire_all, take_notice_reply, run_silent_job, begin_first_job, release_at, release}
use Rattle.law_body.specs.Spent.{OrAnswered, IsIn, Spares, AsksOther}
use Rattle.law_body.proofs.Spent.{of_if, none_spent}
use Rattle.law_flow.proofs.DeadEntered.{entered_spares}
use Rattle.law_body.proofs.Sparing.{Stays, stays_spares, dead_are_spared, dead_are_asked_nothing}

-- of an exchange and of a line
abbrev pub Good : List ℕ → Exchange → Type 0
Good dead x = Spares dead x

abbrev pub OpenGood : List ℕ → Option Exchange → Type 0
OpenGood dead None = Unit {0}
OpenGood dead (Some x) = Good dead x

abbrev pub AllGood : List ℕ → List Line → Type 0
AllGood dead [] = Unit {0}
AllGood dead (line ∷ lines) = OpenGood dead line.exchange × AllGood dead lines

abbrev pub RoomGood : Room → Type 0
RoomGood room = AllGood room.dead room.lines

-- ---- lines

good_at : (dead : List ℕ) (lines : List Line) (k : ℕ) (l : Line) → slice_get lines k ≡ Some l → AllGood dead lines → OpenGood dead l.exchange
good_at dead [] k l at good = absurd (cc)
good_at dead (x ∷ xs) zero l at good = let here : x ≡ l = (cc) in subst (λ (y : Line). OpenGood dead y.exchange) here good.0
good_at dead (x ∷ xs) (suc k) l at good = good_at dead xs k l at good.1

set_good : (dead : List ℕ) (lines : List Line) (k : ℕ) (new : Line) → AllGood dead lines → OpenGood dead new.exchange → AllGood dead (slice_set lines k new)
set_good dead [] k new good is = tt
set_good dead (x ∷ xs) zero new good is = (is, good.1)
set_good dead (x ∷ xs) (suc k) new good is = (good.0, set_good dead xs k new good.1 is)

remove_good : (dead : List ℕ) (lines : List Line) (k : ℕ) → AllGood dead lines → AllGood dead (remove lines k)
remove_good dead [] zero good = tt
remove_good dead [] (suc k) good = tt
remove_good dead (x ∷ xs) zero good = good.1
remove_good dead (x ∷ xs) (suc k) good = (good.0, remove_good dead xs k good.1)

insert_good : (dead : List ℕ) (lines : List Line) (k : ℕ) (new : Line) → AllGood dead lines → OpenGood dead new.exchange → AllGood dead (insert lines k new)
insert_good dead [] zero new good is = (is, good)
insert_good dead [] (suc k) new good is = (is, good)
insert_good dead (x ∷ xs) zero new good is = (is, good)
insert_good dead (x ∷ xs) (suc k) new good is = (good.0, insert_good dead xs k new good.1 is)

abbrev pub KeepsBy : List ℕ → List ℕ → Changes → Type 0
KeepsBy dead after change = (n : ℕ) (x : Exchange) (hub : Hub) → Good dead x → Good after (change n x hub).0

in_line_good : (dead after : List ℕ) (change : Changes) (line : Line) (hub : Hub) → KeepsBy dead after change → OpenGood dead line.exchange → OpenGood after (in_line change line hub).0.exchange
in_line_good dead after change line hub keeps good = by_exchange line.exchange refl good
  where
    by_exchange : (o : Option Exchange) → line.exchange ≡ o → OpenGood dead o → OpenGood after (in_exchange change line o hub).0.exchange
    by_exchange None is good_ = subst (λ (o : Option Exchange). OpenGood after o) (sym is) tt
    by_exchange (Some x) is good_ = keeps line.number x hub good_

at_place_good : (dead : List ℕ) (change : Changes) (lines : List Line) (o : Option ℕ) (hub : Hub) → KeepsBy dead dead change → AllGood dead lines → AllGood dead (at_place change lines o hub).0
at_place_good dead change lines None hub keeps good = good
at_place_good dead change lines (Some k) hub keeps good = by_line (slice_get lines k) refl
  where
    by_line : (o : Option Line) → slice_get lines k ≡ o → AllGood dead (at_some change lines k o hub).0
    by_line None at = good
    by_line (Some l) at = set_good dead lines k (in_line change l hub).0 good (in_line_good dead dead change l hub keeps (good_at dead lines k l at good))

all_lines_good : (dead after : List ℕ) (change : Changes) (lines : List Line) (hub : Hub) → KeepsBy dead after change → AllGood dead lines → AllGood after (all_lines change lines hub).0
all_lines_good dead after change [] hub keeps good = tt
all_lines_good dead after change (line ∷ lines) hub keeps good =
    (in_line_good dead after change line hub keeps good.0, all_lines_good dead after change lines (in_line change line hub).1 keeps good.1)

on_number_good : (change : Changes) (number : ℕ) (room : Room) → KeepsBy room.dead room.dead change → RoomGood room → RoomGood (on_number change number room)
on_number_good change number room keeps good = at_place_good room.dead change room.lines (place_in number room.lines) room.hub keeps good

on_context_good : (change : Changes) (vm context : ℕ) (room : Room) → KeepsBy room.dead room.dead change → RoomGood room → RoomGood (on_context change vm context room)
on_context_good change vm context room keeps good = at_place_good room.dead change room.lines (place_of vm context room.lines) room.hub keeps good

-- a change of the line of a number
on_lines_good : (change : Line → Line) (number : ℕ) (room : Room) → ((l : Line) → OpenGood room.dead l.exchange → OpenGood room.dead (change l).exchange) → RoomGood room
    → RoomGood (on_lines change number room)
on_lines_good change number room keeps good = by_place (place_in number room.lines)
  where
    by_line : (k : ℕ) (o : Option Line) → slice_get room.lines k ≡ o → AllGood room.dead (line_at change room.lines k o)
    by_line k None at = good
    by_line k (Some l) at = set_good room.dead room.lines k (change l) good (keeps l (good_at room.dead room.lines k l at good))

    by_place : (o : Option ℕ) → AllGood room.dead (line_at_place change room.lines o)
    by_place None = good
    by_place (Some k) = by_line k (slice_get room.lines k) refl

change_line_good : (dead : List ℕ) (change : Exchange → Exchange) (l : Line) → ((x : Exchange) → Stays x (change x)) → OpenGood dead l.exchange → OpenGood dead (change_line change l).exchange
change_line_good dead change l stays good = by_exchange l.exchange refl good
  where
    by_exchange : (o : Option Exchange) → l.exchange ≡ o → OpenGood dead o → OpenGood dead (change_exchange change l o).exchange
    by_exchange None is good_ = subst (λ (o : Option Exchange). OpenGood dead o) (sym is) tt
    by_exchange (Some x) is good_ = stays_spares (λ (j w : ℕ). IsIn dead w) (λ (j w : ℕ). IsIn dead w) x (change x) (stays x) good_

on_exchange_good : (change : Exchange → Exchange) (number : ℕ) (room : Room) → ((x : Exchange) → Stays x (change x)) → RoomGood room → RoomGood (on_lines (change_line change) number room)
on_exchange_good change number room stays good = on_lines_good (change_line change) number room (λ l here. change_line_good room.dead change l stays here) good

-- ---- the effects of a callback, and deaths

does_good : (vm : ℕ) (own : Owner) (context : ℕ) (w : EffectWhat) (room : Room) → RoomGood room → RoomGood (apply_effect vm own context w room) × ((apply_effect vm own context w room).dead ≡ room.dead)
does_good vm own context (what.Continue response) room good =
    of_if (λ (r : Room). RoomGood r × (r.dead ≡ room.dead)) (is_own own context response) _ _ (λ is. (good, refl))
    (λ is. (on_context_good (resume_context vm context response) vm context room (λ n x hub here. dead_are_spared.resuming vm context response room.dead n x hub here) good, refl))
does_good vm own context what.Close room good = (on_context_good close_exchange vm context room (λ n x hub here. dead_are_spared.closing room.dead n x hub here) good, refl)
does_good vm own context (what.Call request) room good = (good, refl)
does_good vm own context (what.Answer status fields body) room good =
    (on_context_good (apply_change (changes.Answer status fields body)) vm context room (λ n x hub here. dead_are_spared.answering false status fields.pairs body room.dead n x hub here) good, refl)

effects_good : (vm : ℕ) (own : Owner) (es : List Effect) (room : Room) → RoomGood room → RoomGood (effects_of vm own es room) × ((effects_of vm own es room).dead ≡ room.dead)
effects_good vm own [] room good = (good, refl)
effects_good vm own (e ∷ es) room good =
    let one = does_good vm own e.context e.what room good in
    let more = effects_good vm own es (apply_effect vm own e.context e.what room) one.0 in
    (more.0, more.1 ∙ one.1)

died_good : (vm : ℕ) (death : Death) (room : Room) → RoomGood room → RoomGood (lose_vm_in vm death room)
died_good vm death room good =
    all_lines_good room.dead (room.dead ++ vm ∷ []) (lose_vm vm) room.lines
    (room_with_sent (to.Log Critical (death_text (vm_in room.hub.contexts vm).name death) ∷ []) room).hub
    (λ n x hub here. dead_are_spared.dying room.dead vm n x hub here) good

-- ---- what is kept: that they are spared, and that who was dead is

pub record Kept (old new : Room) : Type 0 where
  pub good : RoomGood new
  pub grows : (w : ℕ) → is_dead w old ≡ true → is_dead w new ≡ true

pub kept_then : (a b c : Room) → Kept a b → Kept b c → Kept a c
kept_then a b c one two = record { good = two.good; grows = λ w d. two.grows w (one.grows w d) }

any-first : (p : ℕ → Bool) (a b : List ℕ) → list_any p a ≡ true → list_any p (a ++ b) ≡ true
any-first p [] b is = absurd (cc)
any-first p (x ∷ a) b is = by_bool (p x) is (any-first p a b)
  where
    by_bool : (c : Bool) → (c || list_any p a) ≡ true → (list_any p a ≡ true → list_any p (a ++ b) ≡ true) → (c || list_any p (a ++ b)) ≡ true
    by_bool true is_ later = refl
    by_bool false is_ later = later is_

any-last : (vm : ℕ) (a : List ℕ) → list_any (λ (d : ℕ). d == vm) (a ++ vm ∷ []) ≡ true
any-last vm [] = ap (λ (c : Bool). c || false) (eq-eqb vm vm refl)
any-last vm (x ∷ a) = by_bool (x == vm) (any-last vm a)
  where
    by_bool : (c : Bool) → list_any (λ (d : ℕ). d == vm) (a ++ vm ∷ []) ≡ true → (c || list_any (λ (d : ℕ). d == vm) (a ++ vm ∷ [])) ≡ true
    by_bool true later = refl
    by_bool false later = later

pub died_dead : (vm : ℕ) (death : Death) (room : Room) → is_dead vm (lose_vm_in vm death room) ≡ true
died_dead vm death room = any-last vm room.dead

died_kept : (vm : ℕ) (death : Death) (room : Room) → RoomGood room → Kept room (lose_vm_in vm death room)
died_kept vm death room good = record { good = died_good vm death room good; grows = λ w d. any-first (λ (x : ℕ). x == w) room.dead (vm ∷ []) d }

pub here_kept : (room : Room) → RoomGood room → Kept room room
here_kept room good = record { good = good; grows = λ w d. d }

effects_kept : (vm : ℕ) (own : Owner) (es : List Effect) (room : Room) → RoomGood room → Kept room (effects_of vm own es room)
effects_kept vm own [] room good = here_kept room good
effects_kept vm own (e ∷ es) room good =
    let one = does_good vm own e.context e.what room good in
    kept_then room (apply_effect vm own e.context e.what room) (effects_of vm own es (apply_effect vm own e.context e.what room))
    (record { good = one.0; grows = λ w d. subst (λ (l : List ℕ). list_any (λ (x : ℕ). x == w) l ≡ true) (sym one.1) d })
    (effects_kept vm own es (apply_effect vm own e.context e.what room) one.0)

pub answered_kept : (vm : ℕ) (own : Owner) (end : CallbackEnd) (lines : List Sent) (h : Contexts) (room : Room) → RoomGood room → Kept room (take_callback_end vm own end lines h room)
answered_kept vm own (call_ends.Returned value) lines h room good =
    let k : Kept (without_effects (room_with_sent lines (with_contexts h room))) (effects_of vm own h.effects (without_effects (room_with_sent lines (with_contexts h room))))
    = effects_kept vm own h.effects (without_effects (room_with_sent lines (with_contexts h room))) good in
    record { good = k.good; grows = k.grows }
answered_kept vm own (call_ends.Died death) lines h room good =
    let k : Kept (without_effects (room_with_sent lines (with_contexts h room))) (lose_vm_in vm death (without_effects (room_with_sent lines (with_contexts h room))))
    = died_kept vm death (without_effects (room_with_sent lines (with_contexts h room))) good in
    record { good = k.good; grows = k.grows }

-- ---- what comes behind callbacks

pub zero_kept : (vm : ℕ) (death : Death) (value : Option (Option ℕ)) (room : Room) → RoomGood room → Kept room (unless_zero vm death value room)
zero_kept vm death None room good = here_kept room good
zero_kept vm death (Some value) room good = of_if (λ (r : Room). Kept room r) (is_zero value) _ _ (λ is. died_kept vm death room good) (λ is. here_kept room good)

waits_kept : (c : ContextAt) (room : Room) → RoomGood room → Kept room (await_done c room)
waits_kept c room good =
    of_if (λ (r : Room). Kept room r) (has_vm c.vm room.hub.contexts) _ _ (λ is. record { good = good; grows = λ w d. d }) (λ is. here_kept room good)

pub done_kept : (c : ContextAt) (value : Option (Option ℕ)) (room : Room) → RoomGood room → Kept room (finish_context c value room)
done_kept c None room good = record { good = good; grows = λ w d. d }
done_kept c (Some value) room good =
    of_if (λ (r : Room). Kept room r) (is_zero value) _ _ (λ is. waits_kept c room good) (λ is. record { good = good; grows = λ w d. d })

pub deletes_kept : (c : ContextAt) (value : Option (Option ℕ)) (room : Room) → RoomGood room → Kept room (delete_context c value room)
deletes_kept c value room good =
    of_if (λ (r : Room). Kept room r) (has_vm c.vm room.hub.contexts && contains c.context (seen room.hub.contexts c.vm).common.ids) _ _
    (λ is. record { good = good; grows = λ w d. d }) (λ is. here_kept room good)

pub acts_kept : (a : Asked) (value : Option (Option ℕ)) (room : Room) → RoomGood room → Kept room (apply_stage_action a value room)
acts_kept a None room good = here_kept room good
acts_kept a (Some value) room good = record {
  good = on_number_good (apply_action a.response a.ask.stage (action_of value)) a.line room (λ n x hub here. dead_are_spared.acting a.response a.ask.stage (action_of value) room.dead n x hub here) good;
  grows = λ w d. d;
}

-- ---- contexts are made

pub rooting_kept : (vm plugin : ℕ) (first : Bool) (room : Room) → RoomGood room → Kept room (create_root vm plugin first room).1
rooting_kept vm plugin first room good =
    of_if (λ (r : Option NewContext × Room). Kept room r.1) (is_dead vm room || not (may_root vm plugin room.hub.contexts)) _ _ (λ is. here_kept room good)
    (λ is. of_if (λ (r : Option NewContext × Room). Kept room r.1) (is_drawn_out vm room.hub.contexts) _ _ (λ out. died_kept vm deaths.Ids room good)
    (λ more. record { good = good; grows = λ w d. d }))

filter_stays : (k : ℕ) (f : Filter) (x : Exchange) → Stays x (with_filter k f x)
filter_stays k f x = record { ended = λ e. e; answered = refl; request = refl; response = refl }

streaming_kept : (number k : ℕ) (f : Filter) (o : Option ℕ) (room : Room) → RoomGood room → Kept room (create_stream number k f o room).1
streaming_kept number k f None room good = here_kept room good
streaming_kept number k f (Some root) room good =
    of_if (λ (r : Option NewContext × Room). Kept room r.1) (is_dead f.vm room || not (may_stream f.vm root room.hub.contexts)) _ _ (λ is. here_kept room good)
    (λ is. of_if (λ (r : Option NewContext × Room). Kept room r.1) (is_drawn_out f.vm room.hub.contexts) _ _ (λ out. died_kept f.vm deaths.Ids room good)
    (λ more.
    record {
      good =
          on_exchange_good (with_filter k (record f { created = true; context = next_id room.hub.contexts f.vm })) number (with_contexts (stream_created f.vm root number room.hub.contexts) room)
          (λ x. filter_stays k (record f { created = true; context = next_id room.hub.contexts f.vm }) x) good;
      grows = λ w d. d;
    }))

pub creating_kept : (number k : ℕ) (room : Room) → RoomGood room → Kept room (create_context number k room).1
creating_kept number k room good = by_filter (filter_at number k room.lines)
  where
    by_filter : (o : Option Filter) → Kept room (create_filter number k o room).1
    by_filter None = here_kept room good
    by_filter (Some f) = streaming_kept number k f _ room good

-- ---- ticks, deadlines, notices

pub ticked_kept : (vm root : ℕ) (room : Room) → RoomGood room → Kept room (tick_root vm root room).1
ticked_kept vm root room good = by_tick (tick_in (vm_in room.hub.contexts vm).contexts root)
  where
    by_tick : (o : Option (Option Tick)) → Kept room (tick_of vm root o room).1
    by_tick None = here_kept room good
    by_tick (Some None) = here_kept room good
    by_tick (Some (Some t)) =
        of_if (λ (r : Bool × Room). Kept room r.1) (is_due_tick room.hub.moment t && has_vm vm room.hub.contexts) _ _ (λ is. record { good = good; grows = λ w d. d }) (λ is. here_kept room good)

expires_kept : (room : Room) → RoomGood room → Kept room (expire_all room)
expires_kept room good =
    of_if (λ (r : Room). Kept room r) (list_any (is_late room.hub.moment) room.lines) _ _
    (λ is. record { good = all_lines_good room.dead room.dead expire_exchange room.lines room.hub (λ n x hub here. dead_are_spared.expiring room.dead n x hub here) good; grows = λ w d. d })
    (λ is. here_kept room good)

pub noticed_kept : (vm left : ℕ) (reply : Reply) (room : Room) → RoomGood room → Kept room (take_notice_reply vm left reply room)
noticed_kept vm left (replies.Owed root queue) room good = record { good = good; grows = λ w d. d }
noticed_kept vm left replies.Absent room good = here_kept room good
noticed_kept vm left (replies.Value value number) room good = here_kept room good
noticed_kept vm left (replies.Done number) room good = here_kept room good
noticed_kept vm left replies.CasMismatch room good = here_kept room good
noticed_kept vm left replies.Full room good = here_kept room good
noticed_kept vm left (replies.Id queue) room good = here_kept room good
noticed_kept vm left (replies.Item item) room good = here_kept room good
noticed_kept vm left replies.Empty room good = here_kept room good
noticed_kept vm left replies.NoneOwed room good = here_kept room good

-- ---- lines come and go

drops_line_kept : (number : ℕ) (room : Room) → RoomGood room → Kept room (drop_line number room)
drops_line_kept number room good = record { good = by_place (place_in number room.lines); grows = λ w d. d }
  where
    by_place : (o : Option ℕ) → AllGood room.dead (without_place room.lines o)
    by_place None = good
    by_place (Some k) = remove_good room.dead room.lines k good

closes_line_kept : (number : ℕ) (room : Room) → RoomGood room → Kept room (close_line number room)
closes_line_kept number room good = let k : Kept room (drop_line number room) = drops_line_kept number room good in record { good = k.good; grows = k.grows }

line_ends_kept : (o : Option Line) (number : ℕ) (stays : Bool) (room : Room) → RoomGood room → Kept room (end_line o number stays room)
line_ends_kept None number stays room good = here_kept room good
line_ends_kept (Some line) number stays room good =
    of_if (λ (r : Room). Kept room r) line.is_gone _ _ (λ is. drops_line_kept number room good)
    (λ is. of_if (λ (r : Room). Kept room r) stays _ _ (λ reads. record { good = good; grows = λ w d. d }) (λ closes. closes_line_kept number room good))

refused_kept : (status number : ℕ) (room : Room) → RoomGood room → Kept room (on_number (refuse_exchange status) number room)
refused_kept status number room good =
    record { good = on_number_good (refuse_exchange status) number room (λ n x hub here. dead_are_spared.refusing status room.dead n x hub here) good; grows = λ w d. d }

refuses_kept : (o : Option Line) (number status : ℕ) (room : Room) → RoomGood room → Kept room (refuse_line o number status room)
refuses_kept None number status room good = here_kept room good
refuses_kept (Some line) number status room good = by_exchange line.exchange
  where
    sent_kept : Kept room (refusal_sent number status room)
    sent_kept = of_if (λ (r : Room). Kept room r) (is_final status) _ _ (λ is. record { good = good; grows = λ w d. d }) (λ is. here_kept room good)

    by_exchange : (o : Option Exchange) → Kept room (refuse_in number status o room)
    by_exchange None = kept_then room (refusal_sent number status room) (close_line number (refusal_sent number status room)) sent_kept (closes_line_kept number (refusal_sent number status room) sent_kept.good)
    by_exchange (Some x) = refused_kept status number room good

-- ---- what happens

further_stays : (stops_now : Bool) (bytes : List ℕ) (x : Exchange) → Stays x (with_further stops_now bytes x)
further_stays stops_now bytes x = record { ended = λ e. e; answered = refl; request = refl; response = refl }

further_kept : (up stops_now : Bool) (bytes : List ℕ) (number : ℕ) (room : Room) → RoomGood room → RoomGood (on_lines (side_with_more up stops_now bytes) number room)
further_kept false stops_now bytes number room good = on_lines_good (side_with_more false stops_now bytes) number room (λ l here. here) good
further_kept true stops_now bytes number room good =
    on_lines_good (side_with_more true stops_now bytes) number room (λ l here. change_line_good room.dead (with_further stops_now bytes) l (λ x. further_stays stops_now bytes x) here) good

comes_kept : (up stops_now : Bool) (bytes : List ℕ) (number : ℕ) (o : Option Line) (room : Room) → RoomGood room → Kept room (receive_on up stops_now bytes number o room)
comes_kept up stops_now bytes number o room good =
    of_if (λ (r : Room). Kept room r) (is_open (line_reading up o) && not (up && is_answered_in (exchange_of_line o))) _ _
    (λ is. of_if (λ (r : Room). Kept room r) (is_read_in up (exchange_of_line o)) _ _
    (λ reads. record { good = further_kept up stops_now bytes number room good; grows = λ w d. d }) (λ other. record { good = further_kept up stops_now bytes number room good; grows = λ w d. d }))
    (λ is. here_kept room good)

lost_stays : (x : Exchange) → Stays x (exchange_without_client x)
lost_stays x = record { ended = λ e. refl; answered = refl; request = refl; response = refl }

loses_down_kept : (number : ℕ) (o : Option Line) (room : Room) → RoomGood room → Kept room (lose_client number o room)
loses_down_kept number None room good = here_kept room good
loses_down_kept number (Some line) room good =
    of_if (λ (r : Room). Kept room r) (is_some line.exchange) _ _
    (λ is. record { good = on_lines_good line_without_client number room (λ l here. change_line_good room.dead exchange_without_client l lost_stays here) good; grows = λ w d. d })
    (λ is. drops_line_kept number room good)

loses_up_kept : (number : ℕ) (o : Option Exchange) (room : Room) → RoomGood room → Kept room (lose_server number o room)
loses_up_kept number o room good = of_if (λ (r : Room). Kept room r) (is_missed o) _ _ (λ is. refused_kept 502 number room good) (λ is. here_kept room good)

opens_kept : (number : ℕ) (room : Room) → RoomGood room → Kept room (accept_line number room)
opens_kept number room good =
    of_if (λ (r : Room). Kept room r) (is_some (place_in number room.lines)) _ _ (λ is. here_kept room good)
    (λ is. of_if (λ (r : Room). Kept room r) (nat_lt (length room.lines) most_lines) _ _
    (λ more. record { good = insert_good room.dead room.lines (place_for number room.lines) (new_line number) good tt; grows = λ w d. d })
    (λ full. record { good = good; grows = λ w d. d }))

happens_kept : (what : What) (room : Room) → RoomGood room → Kept room (take_event what room)
happens_kept (whats.Opened number) room good = opens_kept number room good
happens_kept (whats.Bytes number Down bytes) room good = comes_kept false false bytes number (line_in number room.lines) room good
happens_kept (whats.Bytes number Up bytes) room good = comes_kept true false bytes number (line_in number room.lines) room good
happens_kept (whats.End number Down) room good = comes_kept false true [] number (line_in number room.lines) room good
happens_kept (whats.End number Up) room good = comes_kept true true [] number (line_in number room.lines) room good
happens_kept (whats.Gone number Down) room good = loses_down_kept number (line_in number room.lines) room good
happens_kept (whats.Gone number Up) room good = loses_up_kept number (exchange_on number room) room good
happens_kept (whats.Joined number) room good = here_kept room good
happens_kept (whats.Refused number) room good = loses_up_kept number (exchange_on number room) room good
happens_kept (whats.Room number side) room good = here_kept room good
happens_kept whats.Clock room good = here_kept room good
happens_kept whats.Stop room good = here_kept room good

-- the jobs that call nothing
pub quietly_kept : (job : Job) (room : Room) → RoomGood room → Kept room (run_silent_job job room)
quietly_kept (jobs.Begin vm) room good = here_kept room good
quietly_kept (jobs.Root vm plugin first) room good = here_kept room good
quietly_kept (jobs.Start vm root) room good = here_kept room good
quietly_kept (jobs.Configure vm root plugin) room good = here_kept room good
quietly_kept (jobs.Tick vm root) room good = here_kept room good
quietly_kept jobs.Expire room good = expires_kept room good
quietly_kept (jobs.Happen what) room good = happens_kept what room good
quietly_kept (jobs.Create number k) room good = here_kept room good
quietly_kept (jobs.Enter number) room good =
    record { good = on_number_good (enter_stages room.dead) number room (λ n x hub here. entered_spares room.dead x here) good; grows = λ w d. d }
quietly_kept (jobs.Put number response items) room good =
    record { good = on_number_good (put_read_items response items) number room (λ n x hub here. dead_are_spared.putting response items room.dead n x hub here) good; grows = λ w d. d }
quietly_kept (jobs.Refuse number status) room good = refuses_kept (line_in number room.lines) number status room good
quietly_kept (jobs.Done c) room good = here_kept room good
quietly_kept (jobs.Log c) room good = here_kept room good
quietly_kept (jobs.Delete c) room good = here_kept room good
quietly_kept (jobs.Close number stays) room good = line_ends_kept (line_in number room.lines) number stays room good
quietly_kept (jobs.Notice vm left) room good = here_kept room good
quietly_kept (jobs.Ready vm root queue) room good = here_kept room good
quietly_kept (jobs.Other step) room good = here_kept room good

-- ---- steps that call nothing

pub begins_kept : (todo : List Job) (room : Room) → RoomGood room → Kept room (begin_first_job todo room)
begins_kept [] room good = here_kept room good
begins_kept (job ∷ later) room good = record { good = good; grows = λ w d. d }

pub frees_kept : (at : ℕ) (room : Room) → RoomGood room → Kept room (release at room)
frees_kept at room good = by_one (slice_get room.waits at)
  where
    by_one : (o : Option ContextAt) → Kept room (release_at at o room)
    by_one None = here_kept room good
    by_one (Some c) = record { good = good; grows = λ w d. d }

pub ends_kept : (place : ℕ) (room : Room) → RoomGood room → Kept room (end_at place room)
ends_kept place room good = by_line (slice_get room.lines place) refl
  where
    by_exchange : (line : Line) (o : Option Exchange) → OpenGood room.dead line.exchange → Kept room (end_with room (ended_back place room.lines (ended_in line o)))
    by_exchange line None here = record { good = set_good room.dead room.lines place line good here; grows = λ w d. d }
    by_exchange line (Some x) here = record { good = set_good room.dead room.lines place (record line { exchange = None }) good tt; grows = λ w d. d }

    by_line : (o : Option Line) → slice_get room.lines place ≡ o → Kept room (end_with room (ended_at place o room.lines))
    by_line None at = record { good = good; grows = λ w d. d }
    by_line (Some line) at = by_exchange line line.exchange (good_at room.dead room.lines place line at good)

-- ---- what is read

noted_stays : (up : Bool) (item : ChainItem) (x : Exchange) → Stays x (with_read_mark up item x)
noted_stays false item x = record { ended = λ e. e; answered = refl; request = refl; response = refl }
noted_stays true item x = record { ended = λ e. e; answered = refl; request = refl; response = refl }

takes_kept : (r : ReadBatch) (item : ChainItem) (room : Room) → RoomGood room → Kept room (take_read_item r item room)
takes_kept r item room good =
    let on : RoomGood (on_lines (change_line (with_read_mark r.up item)) r.line room) = on_exchange_good (with_read_mark r.up item) r.line room (λ x. noted_stays r.up item x) good in
    of_if (λ (x : Room). Kept room x) (is_last item) _ _ (λ is. record { good = on; grows = λ w d. d }) (λ is. record { good = on; grows = λ w d. d })

in_contexts_kept : (change : ℕ → Contexts → Contexts) (o : Option Exchange) (room : Room) → RoomGood room → Kept room (in_contexts change o room)
in_contexts_kept change None room good = here_kept room good
in_contexts_kept change (Some x) room good = record { good = good; grows = λ w d. d }

keeps_stays : (h : Head) (x : Exchange) → Stays x (with_response_head h x)
keeps_stays h x = record { ended = λ e. e; answered = refl; request = refl; response = refl }

new_good : (plan : Plan) (place now : ℕ) (dead : List ℕ) (h : Head) (route : Option ℕ) → Good dead (exchange_for plan place now dead h route)
new_good plan place now dead h route = inr (record {
  request = none_spent (OrAnswered (λ (j w : ℕ). IsIn dead w) (exchange_for plan place now dead h route));
  response = none_spent (λ (j w : ℕ). IsIn dead w);
})

begun_kept : (plan : Plan) (number : ℕ) (h : Head) (room : Room) → RoomGood room → Kept room (begin_exchange_on plan number h room)
begun_kept plan number h room good =
    let x : Exchange = exchange_for plan (free_place room.hub.contexts) room.hub.moment room.dead h (route_in plan.routes (path_of h.fields)) in
    record {
      good =
          on_lines_good (with_exchange x) number (with_contexts (open_exchange number h.fields room.hub.contexts) room)
          (λ l here. new_good plan (free_place room.hub.contexts) room.hub.moment room.dead h (route_in plan.routes (path_of h.fields))) good;
      grows = λ w d. d;
    }

part_kept : (plan : Plan) (r : ReadBatch) (p : Part) (room : Room) → RoomGood room → Kept room (take_part plan r p room)
part_kept plan r (head_part h) room good =
    of_if (λ (x : Room). Kept room x) r.up _ _
    (λ up.
    let one : Kept room (in_contexts (put_response h.fields) (exchange_on r.line room) room) = in_contexts_kept (put_response h.fields) (exchange_on r.line room) room good in
    let mid : Room = in_contexts (put_response h.fields) (exchange_on r.line room) room in
    let next : Room = on_lines (change_line (with_response_head h)) r.line mid in
    let on : RoomGood next = on_exchange_good (with_response_head h) r.line mid (λ x. keeps_stays h x) one.good in
    kept_then room mid (take_read_item r (head_item h) next) one
    (kept_then mid next (take_read_item r (head_item h) next) (record { good = on; grows = λ w d. d }) (takes_kept r (head_item h) next on)))
    (λ down.
    let one : Kept room (begin_exchange_on plan r.line h room) = begun_kept plan r.line h room good in
    kept_then room (begin_exchange_on plan r.line h room) (take_read_item r (head_item h) (begin_exchange_on plan r.line h room)) one (takes_kept r (head_item h) (begin_exchange_on plan r.line h room) one.good))
part_kept plan r (interim_part h) room good = record { good = good; grows = λ w d. d }
part_kept plan r (piece bytes last) room good = takes_kept r (items.Piece bytes last) room good
part_kept plan r (trailer_part fields) room good =
    let one : Kept room (in_contexts (put_trailers r.up (with_fields no_headers fields)) (exchange_on r.line room) room)
    = in_contexts_kept (put_trailers r.up (with_fields no_headers fields)) (exchange_on r.line room) room good in
    let mid : Room = in_contexts (put_trailers r.up (with_fields no_headers fields)) (exchange_on r.line room) room in
    kept_then room mid (take_read_item r items.Trailers mid) one (takes_kept r items.Trailers mid one.good)

stops_kept : (r : ReadBatch) (why : Stop) (room : Room) → RoomGood room → Kept room (end_of_read r why room)
stops_kept r rest room good = record { good = good; grows = λ w d. d }
stops_kept r over room good =
    of_if (λ (x : Room). Kept room x) (r.up || is_some (exchange_on r.line room)) _ _ (λ is. record { good = good; grows = λ w d. d }) (λ is. record { good = good; grows = λ w d. d })
stops_kept r (refusal status) room good = record { good = good; grows = λ w d. d }

reader_stays : (new : Reading) (x : Exchange) → Stays x (with_reader new x)
reader_stays new x = record { ended = λ e. e; answered = refl; request = refl; response = refl }

read_kept : (up : Bool) (new : Reading) (number : ℕ) (room : Room) → RoomGood room → RoomGood (on_lines (read_on up new) number room)
read_kept false new number room good = on_lines_good (read_on false new) number room (λ l here. here) good
read_kept true new number room good = on_lines_good (read_on true new) number room (λ l here. change_line_good room.dead (with_reader new) l (λ x. reader_stays new x) here) good

pub heard_kept : (plan : Plan) (r : ReadBatch) (h : Heard) (room : Room) → RoomGood room → Kept room (after_heard plan r h (record room { reading = None }))
heard_kept plan r (hands p new) room good =
    let base : Room = record room { reading = None } in
    let on : RoomGood (on_lines (read_on r.up new) r.line base) = read_kept r.up new r.line base good in
    let k : Kept (on_lines (read_on r.up new) r.line base) (take_part plan r p (on_lines (read_on r.up new) r.line base)) = part_kept plan r p (on_lines (read_on r.up new) r.line base) on in
    record { good = k.good; grows = λ w d. k.grows w d }
heard_kept plan r (halts why new) room good =
    let base : Room = record room { reading = None } in
    let on : RoomGood (on_lines (read_on r.up new) r.line base) = read_kept r.up new r.line base good in
    let k : Kept (on_lines (read_on r.up new) r.line base) (end_of_read r why (on_lines (read_on r.up new) r.line base)) = stops_kept r why (on_lines (read_on r.up new) r.line base) on in
    record { good = k.good; grows = λ w d. k.grows w d }

-- ---- a stage is asked: its VM is not dead

pub record AsksSo (room : Room) (r : Option Asked × List Line × Hub) : Type 0 where
  pub good : AllGood room.dead r.1
  pub alive : (a : Asked) → r.0 ≡ Some a → is_dead a.vm room ≡ true → ⊥

-- a chain that is asked
asked_good : (dead : List ℕ) (response : Bool) (n : ℕ) (x : Exchange) (hub : Hub) (r : Asking × List ChainStage × Contexts) → Good dead (with_chain response r.1 x) → AsksOther dead r
    → Good dead (asks_chain response n x hub r).1 × ((a : Asked) → (asks_chain response n x hub r).0 ≡ Some a → IsIn dead a.vm → ⊥)
asked_good dead response n x hub (Nothing, after, h) good other = (good, λ a is d. none_some a is)
  where
    none_some : (a : Asked) → None ≡ Some a → ⊥
    none_some a is = cc
asked_good dead false n x hub (Over k, after, h) good other =
    (dead_are_spared.answering true 413 [] [] dead n (with_chain false after x) (with_held h hub) good, λ a is d. none_some a is)
  where
    none_some : (a : Asked) → None ≡ Some a → ⊥
    none_some a is = cc
asked_good dead true n x hub (Over k, after, h) good other =
    (over_down good, λ a is d. none_some a is)
  where
    none_some : (a : Asked) → None ≡ Some a → ⊥
    none_some a is = cc

    over_down : Good dead (with_chain true after x) → Good dead (finish_put true n passed.Over (with_chain true after x) (with_held h hub)).0
    over_down here = of_if (λ (q : Exchange × Hub). Good dead q.0) ((with_chain true after x).is_head_out || not (is_final 500)) _ _ (λ is. inl refl) (λ is. inl refl)
asked_good dead response n x hub (Asks ask, after, h) good other = (good, λ a is d. by_stage response other a (slice_get (chain_of response (with_chain response after x)) ask.stage) (same_chain response) is d)
  where
    same_chain : (r : Bool) → slice_get (chain_of r (with_chain r after x)) ask.stage ≡ slice_get after ask.stage
    same_chain false = refl
    same_chain true = refl

    by_stage : (r : Bool) → AsksOther dead (Asks ask, after, h) → (a : Asked) (o : Option ChainStage) → o ≡ slice_get after ask.stage
        → asks_stage r n ask (count_of r ask.kind ask.count (with_chain r after x).place (with_held h hub)) (option_map (λ (s : ChainStage). (s.vm, s.context)) o) ≡ Some a → IsIn dead a.vm → ⊥
    by_stage r other_ a None at is d = cc
    by_stage r other_ a (Some s) at is d = other_ s (sym at) (subst (λ (v : ℕ). IsIn dead v) (sym (ap (λ (o : Option Asked). vm_of s.vm o) is)) d)
      where
        vm_of : ℕ → Option Asked → ℕ
        vm_of v None = v
        vm_of v (Some b) = b.vm

exchange_asks : (dead : List ℕ) (n : ℕ) (x : Exchange) (hub : Hub) → Good dead x → x.has_ended ≡ false
    → Good dead (asks_exchange n x hub).1 × ((a : Asked) → (asks_exchange n x hub).0 ≡ Some a → IsIn dead a.vm → ⊥)
exchange_asks dead n x hub good goes = by_response (asks_response x)
  where
    by_response : (r : Bool) → Good dead (asks_chain r n x hub (asked hub.contexts (chain_of r x))).1
        × ((a : Asked) → (asks_chain r n x hub (asked hub.contexts (chain_of r x))).0 ≡ Some a → IsIn dead a.vm → ⊥)
    by_response false = asked_good dead false n x hub (asked hub.contexts x.request) (dead_are_spared.asking_requests dead x hub.contexts good) (dead_are_asked_nothing.requests dead x hub.contexts good goes)
    by_response true = asked_good dead true n x hub (asked hub.contexts x.response) (dead_are_spared.asking_responses dead x hub.contexts good) (dead_are_asked_nothing.responses dead x hub.contexts good goes)

-- what stands at the place that a test finds
found_at : (p : Line → Bool) (xs : List Line) (i : ℕ) → position p xs ≡ Some i → (x : Line) × (slice_get xs i ≡ Some x) × (p x ≡ true)
found_at p [] i is = absurd (cc)
found_at p (y ∷ ys) i is =
    let q = position-Some p (y ∷ ys) i y is in
    (get_or (y ∷ ys) i y, slice_get-get_or (y ∷ ys) i y q.0, q.1)

-- the next is to move a line only where that line moves
move_is : (room : Room) (place : ℕ) → next_of room ≡ next.Move place → position has_move room.lines ≡ Some place
move_is room place =
    of_if IsMove (is_some room.reading) next.Read (moves_or (position has_move room.lines) (if is_any room.jobs then next.Work else next_part room))
    (λ is (e : next.Read ≡ next.Move place). absurd (cc)) (λ is. by_moves (position has_move room.lines) refl)
  where
    IsMove : Next → Type 0
    IsMove n = n ≡ next.Move place → position has_move room.lines ≡ Some place

    by_agenda : (l : List Job) → begins_or_rests l ≡ next.Move place → ⊥
    by_agenda [] e = cc
    by_agenda (job ∷ later) e = cc

    by_end : (o : Option ℕ) → ends_or o (begins_or_rests room.agenda) ≡ next.Move place → ⊥
    by_end None e = by_agenda room.agenda e
    by_end (Some p) e = cc

    by_free : (o : Option ℕ) → frees_or o (ends_or (position is_over room.lines) (begins_or_rests room.agenda)) ≡ next.Move place → ⊥
    by_free None e = by_end (position is_over room.lines) e
    by_free (Some p) e = cc

    by_moves : (o : Option ℕ) → position has_move room.lines ≡ o → IsMove (moves_or o (if is_any room.jobs then next.Work else next_part room))
    by_moves None is =
        of_if IsMove (is_any room.jobs) next.Work (next_part room) (λ some (e : next.Work ≡ next.Move place). absurd (cc)) (λ none e. absurd (by_free (position (is_released room) room.waits) e))
    by_moves (Some p) is = λ e. is ∙ ap (λ (n : ℕ). Some n) (same e)
      where
        same : next.Move p ≡ next.Move place → p ≡ place
        same e = cc

goes_of : (x : Exchange) → exchange_moves (Some x) ≡ true → x.has_ended ≡ false
goes_of x is = by_bool x.has_ended is
  where
    by_bool : (b : Bool) → (not b && (nat_lt 0 (ready x.request) || nat_lt 0 (ready x.response))) ≡ true → b ≡ false
    by_bool true e = absurd (cc)
    by_bool false e = refl

pub asks_so : (place : ℕ) (room : Room) → RoomGood room → next_of room ≡ next.Move place → AsksSo room (asks_at place (slice_get room.lines place) room.lines room.hub)
asks_so place room good is = by_found (found_at has_move room.lines place (move_is room place is))
  where
    by_exchange : (line : Line) → slice_get room.lines place ≡ Some line → (o : Option Exchange) → line.exchange ≡ o → exchange_moves o ≡ true → AsksSo room (asks_back place room.lines (asks_in line o room.hub))
    by_exchange line at None there going = absurd (cc)
    by_exchange line at (Some x) there going =
        let here : Good room.dead x = subst (λ (o : Option Exchange). OpenGood room.dead o) there (good_at room.dead room.lines place line at good) in
        let a = exchange_asks room.dead line.number x room.hub here (goes_of x going) in
        record { good = set_good room.dead room.lines place (record line { exchange = Some (asks_exchange line.number x room.hub).1 }) good a.0; alive = λ b is_ dead. a.1 b is_ dead }

    by_found : (line : Line) × (slice_get room.lines place ≡ Some line) × (has_move line ≡ true) → AsksSo room (asks_at place (slice_get room.lines place) room.lines room.hub)
    by_found (line, at, going) = subst (λ (o : Option Line). AsksSo room (asks_at place o room.lines room.hub)) (sym at) (by_exchange line at line.exchange refl going)
