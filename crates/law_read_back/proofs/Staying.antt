-- Each step leaves the maps of requests lists, and so do turns.
use Rattle.std.proofs.Common.{◌≡◌, ℕ, zero, suc, ◌==◌, Bool, true, false, not, ◌||◌, ◌&&◌, List, [], ◌∷◌, ◌++◌, length, refl, ap, ◌∙◌, sym, subst}
use Rattle.std.proofs.lemmas.List.{append-nil}
use Rattle.std.specs.Prelude.{Option, None, Some, is_some, slice_get, slice_set, remove, insert, nat_lt}
use Rattle.std.specs.List.{list_any}
use Rattle.callouts.specs.Callouts.{begun, callout_in, is_call_line, line_of, without, after_heard as after_part_heard}
use Rattle.callouts.specs.Requests.{request_wire}
use Rattle.callouts.specs.Steps.{After, after_event, after_read}
use Rattle.callouts.specs.declared.types.Callout.{Callout}
use Rattle.callouts.specs.declared.types.CallStep.{CallStep}
use Rattle.callouts.specs.declared.types.CallStep.TheVariants as steps
use Rattle.contexts.specs.declared.parts.CallAnswer.{CallAnswer}
use Rattle.contexts.specs.declared.parts.Contexts.{Contexts}
use Rattle.contexts.specs.declared.parts.Effect.{Effect}
use Rattle.contexts.specs.declared.parts.Own.{Own}
use Rattle.contexts.specs.declared.parts.Tick.{Tick}
use Rattle.contexts.specs.declared.parts.EffectKind.{EffectKind as EffectWhat}
use Rattle.contexts.specs.declared.parts.EffectKind.TheVariants as what
use Rattle.contexts.specs.Creating.{next_id, plugin_in}
use Rattle.contexts.specs.Making.{no_contexts, with_vm, with_plugin}
use Rattle.contexts.specs.Stages.{own_at}
use Rattle.contexts.specs.Reached.{vm_in, tick_in, contains, seen, effective_of, no_changes, put}
use Rattle.filter_host.specs.Called.{Called, Calling}
use Rattle.filter_host.specs.Course.{Course, ends, asks, measures, hears, runs_then}
use Rattle.filter_host.specs.Heard.{Heard, hands, halts, Hears}
use Rattle.filter_host.specs.declared.host.CallbackEnd.{CallbackEnd}
use Rattle.filter_host.specs.declared.host.CallbackEnd.TheVariants as call_ends
use Rattle.filter_host.specs.declared.host.Callback.{Callback}
use Rattle.filter_host.specs.declared.host.Callback.TheVariants as callbacks
use Rattle.filter_host.specs.declared.host.Death.{Death}
use Rattle.filter_host.specs.declared.host.Death.TheVariants as deaths
use Rattle.filter_host.proofs.Holds.{AllEnds, all_then, all_reached}
use Rattle.exchange.specs.declared.types.Exchange.{Exchange}
use Rattle.exchange.specs.declared.types.Filter.{Filter}
use Rattle.exchange.specs.declared.types.Hub.{Hub}
use Rattle.exchange.specs.Answering.{none_held, with_held}
use Rattle.exchange.specs.Heads.{path_of, route_in, is_final}
use Rattle.exchange.specs.Maps.{with_fields, put_response}
use Rattle.exchange.specs.Passing as passing
use Rattle.exchange.specs.Passing.{chain_of, with_chain, finish_put, put_read_items}
use Rattle.law_exchange.specs.Lives.{acts, resumes, closes, answers, dies, refuses, expires}
use Rattle.law_exchange.specs.Traffic.{Traffic, closes as closing, up_traffic}
use Rattle.law_exchange.proofs.Traffic.{ups_join}
use Rattle.filter_chain.specs.Chains.{asked}
use Rattle.filter_chain.specs.declared.item.Asking.{Asking}
use Rattle.filter_chain.specs.declared.item.Asking.TheVariants.{Nothing, Over, Asks}
use Rattle.filter_chain.specs.declared.item.ChainItem.{ChainItem}
use Rattle.filter_chain.specs.declared.item.ChainItem.TheVariants as items
use Rattle.filter_chain.specs.declared.item.PassOutcome.TheVariants as passed
use Rattle.gate_config.specs.declared.entries.PluginEntry.{PluginEntry}
use Rattle.gate_config.specs.declared.entries.VmEntry.{VmEntry}
use Rattle.gate_io.specs.declared.event.Event.{Event}
use Rattle.gate_io.specs.declared.event.Sent.{Sent}
use Rattle.gate_io.specs.declared.event.Sent.TheVariants as to
use Rattle.gate_io.specs.declared.event.Side.TheVariants.{Down, Up}
use Rattle.gate_io.specs.declared.event.What.{What}
use Rattle.gate_io.specs.declared.event.What.TheVariants as whats
use Rattle.gate_io.specs.Events.{is_stop}
use Rattle.header_maps.specs.Operations.{no_headers}
use Rattle.h1_model.specs.Head.{Head}
use Rattle.h1_model.specs.Messages.{Stop, rest, over, refusal, Due, head, body as body_due, done as none_due}
use Rattle.h1_model.specs.Unread.{Part, part, IsNext, head_part, interim_part, piece, trailer_part, Reading}
use Rattle.store_model.specs.Made.{Made}
use Rattle.store_model.specs.Program.{Program, done, ask, measure}
use Rattle.store_model.specs.declared.call.Reply.{Reply}
use Rattle.store_model.specs.declared.call.Reply.TheVariants as replies
use Rattle.vm_host.specs.Slots as slots
use Rattle.vm_host.specs.declared.slots.Vms.{Vms}
use Rattle.worker_model.specs.Calls as callouts
use Rattle.worker_model.specs.Calls.{with_call_step, answer_if, put_call_answer, has_listener, close_call}
use Rattle.worker_model.specs.Changes.{apply_change}
use Rattle.worker_model.specs.Making.{with_vms, with_plugins, contexts_of, new_worker}
use Rattle.worker_model.specs.Moves.{asks_as, asks_response, asks_exchange, asks_in, asks_at, ended_in, ended_back, ended_at}
use Rattle.worker_model.specs.Plan.{Plan}
use Rattle.worker_model.specs.Rooms.{Changes, in_exchange, in_line, at_some, at_place, all_lines, with_lines, place_in, place_of, on_number, on_context, with_contexts, room_with_sent, is_own, with_calls, add_call, next_call, apply_effect, effects_of, without_effects, is_dead, lose_vm_in, death_text, after_callback, take_callback_end, next_of, with_marks}
use Rattle.worker_model.specs.Settling.{settling, is_rest, settling_step, settling_rest, settling_none}
use Rattle.worker_model.specs.State.{Standing, rules_of}
use Rattle.worker_model.specs.Steps.{Both as BothOf, both, Answered, callback_result, Then, continue_with, nothing_more, called_in, called_live, calls_live, is_zero, action_of, with_jobs_first, unless_zero, has_vm, await_done, last_jobs, finish_context, delete_context, apply_stage_action, is_drawn_out, may_root, create_root, may_stream, create_stream, create_filter, filter_at, create_context, begin_exchange_on, line_in, line_reading, reading_on, on_lines, change_line, with_response_head, in_contexts, put_trailers, take_part, take_read_item, head_item, is_last, end_of_read, after_heard, read_on, exchange_on, interim_of, drop_line, close_line, end_line, refusal_sent, fixed_answer, refuse_in, refuse_line, most_lines, accept_line, is_open, is_answered_in, is_read_in, exchange_of_line, receive_on, lose_client, is_missed, lose_server, take_event, close_up, end_exchange_of, end_with, end_at, is_due_tick, next_tick, tick_of, tick_root, is_late, expire_all, take_notice_reply, begin_first_job, release_at, enter_stages, reads_in, reads_next, callback_of, number_of, vm_length, plugin_length, moved, move_at, tells, made_one, ask_notice, notice_step, reads_call, drop_answer, tells_call, ends_call, works_call, works_other, works, works_first, step, with_filter, change_exchange, line_at, line_at_place, on_line, without_place, side_with_more, with_further, line_without_client, exchange_without_client, place_for, new_line, free_place, exchange_for, with_exchange, with_reader, with_read_mark}
use Rattle.worker_model.specs.Turn.{Outcome, turn, turn_by, room_for_event, most_steps, outcome_of}
use Rattle.worker_model.specs.Room.{Room}
use Rattle.worker_model.specs.declared.types.Asked.{Asked}
use Rattle.worker_model.specs.declared.types.Change.TheVariants as changes
use Rattle.worker_model.specs.declared.types.ContextAt.{ContextAt}
use Rattle.worker_model.specs.declared.types.Job.{Job}
use Rattle.worker_model.specs.declared.types.Job.TheVariants as jobs
use Rattle.worker_model.specs.declared.types.Line.{Line}
use Rattle.worker_model.specs.declared.types.NewContext.{NewContext}
use Rattle.worker_model.specs.declared.types.Next.{Next}
use Rattle.worker_model.specs.declared.types.Next.TheVariants as next
use Rattle.worker_model.specs.declared.types.OtherStep.{OtherStep}
use Rattle.worker_model.specs.declared.types.OtherStep.TheVariants as others
use Rattle.worker_model.specs.declared.types.Owner.{Owner}
use Rattle.worker_model.specs.declared.types.Owner.TheVariants.{Nobody, Stage}
use Rattle.worker_model.specs.declared.types.ReadBatch.{ReadBatch}
use Rattle.law_lines.specs.Logs.{AreLogs, OnlyLogs, WriteLogs}
use Rattle.law_lines.specs.Requests.{IsJudged}
use Rattle.law_lines.specs.Turns.{Done, Turns, new_room, sent_in}
use Rattle.law_lines.proofs.Callouts.{begin_up, close_up as call_close_up}
use Rattle.law_lines.proofs.Joining.{ups_joined}
use Rattle.law_lines.proofs.Kept.{by_bool}
use Rattle.law_lines.proofs.Looks.{look, line_in_is}
use Rattle.law_lines.proofs.Machines.{machines_write_logs}
use Rattle.law_lines.proofs.Reader.{head_next, body_next, done_next}
use Rattle.law_lines.proofs.Rooms.{logs_beside}
use Rattle.law_lines.proofs.Stepping.{KnownAll, steps_keep}
use Rattle.law_lines.proofs.Story.{LineOk}
use Rattle.law_lines.proofs.Turning.{facing_all, emptied_all, new_all}
use Rattle.law_lines.proofs.Unused.{reads_clients}
use Rattle.law_lines.proofs.Wholly.{Run, worked_run}
use Rattle.law_read_back.specs.Maps.{AreLists, LeavesLists, KeepLists, AreHeaded, KeptLists, MapsStayLists, MapsOfWorkersStayLists, MapsOfTheProductStayLists}
use Rattle.law_read_back.proofs.Calling.{machines_keep_lists}
use Rattle.law_read_back.proofs.Heading.{Lim, Both, chain_lim, Fine, headed_join, down_headed, sends_fine, held_fine, passed_on_fine, put_in_fine, deed_fine}
use Rattle.law_read_back.proofs.Places.{put_lists, view_lists, opened_lists, ended_lists, deleted_lists, asked_lists, cleared_lists}
use Rattle.law_read_back.proofs.Shaping.{heads_have_field_lists}

-- ---- lines

-- the request of each exchange on a line goes up framed as one
abbrev OpenLim : Option Exchange → Type 0
OpenLim None = Unit {0}
OpenLim (Some x) = Lim x

abbrev AllLim : List Line → Type 0
AllLim [] = Unit {0}
AllLim (l ∷ lines) = OpenLim l.exchange × AllLim lines

lim_at : (lines : List Line) (k : ℕ) (l : Line) → slice_get lines k ≡ Some l → AllLim lines → OpenLim l.exchange
lim_at [] k l at lim = absurd (cc)
lim_at (x ∷ xs) zero l at lim = let here : x ≡ l = cc in subst (λ (y : Line). OpenLim y.exchange) here lim.0
lim_at (x ∷ xs) (suc k) l at lim = lim_at xs k l at lim.1

set_lim : (lines : List Line) (k : ℕ) (l : Line) → AllLim lines → OpenLim l.exchange → AllLim (slice_set lines k l)
set_lim [] k l lim is = tt
set_lim (x ∷ xs) zero l lim is = (is, lim.1)
set_lim (x ∷ xs) (suc k) l lim is = (lim.0, set_lim xs k l lim.1 is)

remove_lim : (lines : List Line) (k : ℕ) → AllLim lines → AllLim (remove lines k)
remove_lim [] zero lim = tt
remove_lim [] (suc k) lim = tt
remove_lim (x ∷ xs) zero lim = lim.1
remove_lim (x ∷ xs) (suc k) lim = (lim.0, remove_lim xs k lim.1)

insert_lim : (lines : List Line) (k : ℕ) (l : Line) → AllLim lines → OpenLim l.exchange → AllLim (insert lines k l)
insert_lim [] zero l lim is = (is, lim)
insert_lim [] (suc k) l lim is = (is, lim)
insert_lim (x ∷ xs) zero l lim is = (is, lim)
insert_lim (x ∷ xs) (suc k) l lim is = (lim.0, insert_lim xs k l lim.1 is)

-- a change of the line of a number
line_lim : (change : Line → Line) (number : ℕ) (lines : List Line) → ((l : Line) → OpenLim l.exchange → OpenLim (change l).exchange) → AllLim lines → AllLim (on_line change number lines)
line_lim change number lines keeps lim = by_place (place_in number lines)
  where
    by_line : (k : ℕ) (o : Option Line) → slice_get lines k ≡ o → AllLim (line_at change lines k o)
    by_line k None at = lim
    by_line k (Some l) at = set_lim lines k (change l) lim (keeps l (lim_at lines k l at lim))

    by_place : (o : Option ℕ) → AllLim (line_at_place change lines o)
    by_place None = lim
    by_place (Some k) = by_line k (slice_get lines k) refl

exchange_lim : (change : Exchange → Exchange) (l : Line) → ((x : Exchange) → Lim x → Lim (change x)) → OpenLim l.exchange → OpenLim (change_line change l).exchange
exchange_lim change l keeps lim = by_exchange l.exchange refl lim
  where
    by_exchange : (o : Option Exchange) → l.exchange ≡ o → OpenLim o → OpenLim (change_exchange change l o).exchange
    by_exchange None is here = subst OpenLim (sym is) tt
    by_exchange (Some x) is here = keeps x here

dropped_lim : (lines : List Line) (o : Option ℕ) → AllLim lines → AllLim (without_place lines o)
dropped_lim lines None lim = lim
dropped_lim lines (Some k) lim = remove_lim lines k lim

module _ (n : ℕ) where
  abbrev pub Good : Room → Type 0
  Good room = Fine n room.hub × AllLim room.lines

  abbrev KeepsFine : Changes → Type 0
  KeepsFine change = (m : ℕ) (x : Exchange) (hub : Hub) → Both n (x, hub) → Both n (change m x hub)

  marking_fine : (p : Exchange × Hub) → Both n p → Both n (with_marks p)
  marking_fine p fine = (held_fine n _ p.1 (view_lists _ p.0.place p.1.contexts (λ v has. has) fine.0.maps) fine.0, fine.1)

  in_line_fine : (change : Changes) (line : Line) (hub : Hub) → KeepsFine change → Fine n hub → OpenLim line.exchange → Fine n (in_line change line hub).1 × OpenLim (in_line change line hub).0.exchange
  in_line_fine change line hub keeps fine lim = by_exchange line.exchange refl lim
    where
      by_exchange : (o : Option Exchange) → line.exchange ≡ o → OpenLim o → Fine n (in_exchange change line o hub).1 × OpenLim (in_exchange change line o hub).0.exchange
      by_exchange None is here = (fine, subst OpenLim (sym is) tt)
      by_exchange (Some x) is here = marking_fine (change line.number x hub) (keeps line.number x hub (fine, here))

  at_place_fine : (change : Changes) (lines : List Line) (o : Option ℕ) (hub : Hub) → KeepsFine change → Fine n hub × AllLim lines → Fine n (at_place change lines o hub).1 × AllLim (at_place change lines o hub).0
  at_place_fine change lines None hub keeps fine = fine
  at_place_fine change lines (Some k) hub keeps fine = by_line (slice_get lines k) refl
    where
      by_line : (o : Option Line) → slice_get lines k ≡ o → Fine n (at_some change lines k o hub).1 × AllLim (at_some change lines k o hub).0
      by_line None at = fine
      by_line (Some l) at =
          let one = in_line_fine change l hub keeps fine.0 (lim_at lines k l at fine.1) in
          (one.0, set_lim lines k (in_line change l hub).0 fine.1 one.1)

  all_lines_fine : (change : Changes) (lines : List Line) (hub : Hub) → KeepsFine change → Fine n hub → AllLim lines → Fine n (all_lines change lines hub).1 × AllLim (all_lines change lines hub).0
  all_lines_fine change [] hub keeps fine lim = (fine, tt)
  all_lines_fine change (line ∷ lines) hub keeps fine lim =
      let one = in_line_fine change line hub keeps fine lim.0 in
      let more = all_lines_fine change lines (in_line change line hub).1 keeps one.0 lim.1 in
      (more.0, (one.1, more.1))

  number_fine : (change : Changes) (number : ℕ) (room : Room) → KeepsFine change → Good room → Good (on_number change number room)
  number_fine change number room keeps fine = at_place_fine change room.lines (place_in number room.lines) room.hub keeps fine

  context_fine : (change : Changes) (vm context : ℕ) (room : Room) → KeepsFine change → Good room → Good (on_context change vm context room)
  context_fine change vm context room keeps fine = at_place_fine change room.lines (place_of vm context room.lines) room.hub keeps fine

  -- ---- the effects of a callback, and deaths

  does_fine : is_call_line n ≡ false → (vm : ℕ) (own : Owner) (context : ℕ) (w : EffectWhat) (room : Room) → Good room → Good (apply_effect vm own context w room)
  does_fine low vm own context (what.Continue response) room fine =
      by_bool Good (is_own own context response) room (on_context (passing.resume_context vm context response) vm context room) (λ e. fine)
      (λ e. context_fine (passing.resume_context vm context response) vm context room (λ m x hub f. deed_fine n m (resumes vm context response) x hub tt f) fine)
  does_fine low vm own context what.Close room fine = context_fine passing.close_exchange vm context room (λ m x hub f. deed_fine n m closes x hub tt f) fine
  does_fine low vm own context (what.Call request) room fine =
      let id : ℕ = next_call room in
      let f : Fine n (add_call (begun id room.hub.moment request) room).hub = record { maps = fine.0.maps; heads = fine.0.heads } in
      (sends_fine n (to.Connect (line_of id) ∷ to.Bytes (line_of id) Up (request_wire request) ∷ []) (add_call (begun id room.hub.moment request) room).hub (subst AreHeaded (sym (begin_up n id (request_wire request) low)) tt) f, fine.1)
  does_fine low vm own context (what.Answer status fields body) room fine =
      context_fine (apply_change (changes.Answer status fields body)) vm context room (λ m x hub f. deed_fine n m (answers false status fields.pairs body) x hub tt f) fine

  effects_fine : is_call_line n ≡ false → (vm : ℕ) (own : Owner) (es : List Effect) (room : Room) → Good room → Good (effects_of vm own es room)
  effects_fine low vm own [] room fine = fine
  effects_fine low vm own (e ∷ es) room fine = effects_fine low vm own es (apply_effect vm own e.context e.what room) (does_fine low vm own e.context e.what room fine)

  died_fine : (vm : ℕ) (death : Death) (room : Room) → Good room → Good (lose_vm_in vm death room)
  died_fine vm death room fine =
      let told : Room = room_with_sent (to.Log _ (death_text (vm_in room.hub.contexts vm).name death) ∷ []) room in
      all_lines_fine (passing.lose_vm vm) room.lines told.hub (λ m x hub f. deed_fine n m (dies vm) x hub tt f) (sends_fine n _ room.hub tt fine.0) fine.1

  behind_fine : is_call_line n ≡ false → (vm : ℕ) (own : Owner) (end : CallbackEnd) (es : List Effect) (room : Room) → Good room → Good (after_callback vm own end es room)
  behind_fine low vm own (call_ends.Returned value) es room fine = effects_fine low vm own es room fine
  behind_fine low vm own (call_ends.Died death) es room fine = died_fine vm death room fine

  answered_fine : is_call_line n ≡ false → (vm : ℕ) (own : Owner) (end : CallbackEnd) (lines : List Sent) (h : Contexts) (room : Room) → AreLogs lines → AreLists h → Good room → Good (take_callback_end vm own end lines h room)
  answered_fine low vm own end lines h room logs are fine =
      let mid : Room = without_effects (room_with_sent lines (with_contexts h room)) in
      behind_fine low vm own end h.effects mid (record { maps = are; heads = subst AreHeaded (sym (logs_beside n lines room.hub mid.hub logs refl).up) fine.0.heads }, fine.1)

  -- ---- what comes behind callbacks

  abbrev ThenFine : Then → Type 0
  ThenFine goes = (value : Option (Option ℕ)) (room : Room) → Good room → Good (goes value room)

  zero_fine : (vm : ℕ) (death : Death) → ThenFine (unless_zero vm death)
  zero_fine vm death None room fine = fine
  zero_fine vm death (Some value) room fine = by_bool Good (is_zero value) (lose_vm_in vm death room) room (λ e. died_fine vm death room fine) (λ e. fine)

  done_fine : (c : ContextAt) → ThenFine (finish_context c)
  done_fine c None room fine = fine
  done_fine c (Some value) room fine =
      by_bool Good (is_zero value) (await_done c room) (with_jobs_first (last_jobs c) room)
      (λ e. by_bool Good (has_vm c.vm room.hub.contexts) _ room (λ d. (record { maps = fine.0.maps; heads = fine.0.heads }, fine.1)) (λ d. fine)) (λ e. fine)

  deletes_fine : (c : ContextAt) → ThenFine (delete_context c)
  deletes_fine c value room fine =
      by_bool Good (has_vm c.vm room.hub.contexts && contains c.context (seen room.hub.contexts c.vm).common.ids) _ room
      (λ e. (held_fine n _ room.hub (deleted_lists c.vm c.context room.hub.contexts fine.0.maps) fine.0, fine.1)) (λ e. fine)

  -- ---- callouts

  closes_call_fine : is_call_line n ≡ false → (id : ℕ) (room : Room) → Good room → Good (close_call id room)
  closes_call_fine low id room fine =
      let f : Fine n (with_calls (without id room.calls) room).hub = record { maps = fine.0.maps; heads = fine.0.heads } in
      (sends_fine n (to.Close (line_of id) Up ∷ []) (with_calls (without id room.calls) room).hub (subst AreHeaded (sym (call_close_up n id low)) tt) f, fine.1)

  answer_fine : (answer : Option CallAnswer) (vm e : ℕ) (room : Room) → Good room → Good (put_call_answer answer vm e room)
  answer_fine answer vm e room fine = (record { maps = by_own (own_at room.hub.contexts vm e); heads = fine.0.heads }, fine.1)
    where
      by_own : (o : Option Own) → AreLists (callouts.with_call_answer answer o vm e room.hub.contexts)
      by_own None = fine.0.maps
      by_own (Some o) = put_lists (record no_changes { own = Some (record o { answer = answer }) }) vm e room.hub.contexts fine.0.maps tt

  -- they are others now, and this comes next for one of them, if anything
  call_step_fine : (calls : List Callout) (step : Option CallStep) (room : Room) → Good room → Good (with_call_step step (record room { calls = calls }))
  call_step_fine calls None room fine = fine
  call_step_fine calls (Some step) room fine = fine

  acts_on_fine : (a : Asked) → ThenFine (apply_stage_action a)
  acts_on_fine a None room fine = fine
  acts_on_fine a (Some value) room fine =
      number_fine (passing.apply_action a.response a.ask.stage (action_of value)) a.line room (λ m x hub f. deed_fine n m (acts a.response a.ask.stage (action_of value)) x hub tt f) fine

  -- ---- contexts are made; ticks, deadlines, notices

  rooting_fine : (vm plugin : ℕ) (first : Bool) (room : Room) → Good room → Good (create_root vm plugin first room).1
  rooting_fine vm plugin first room fine =
      by_bool (λ (p : Option NewContext × Room). Good p.1) (is_dead vm room || not (may_root vm plugin room.hub.contexts)) (None, room) _ (λ e. fine)
      (λ e. by_bool (λ (p : Option NewContext × Room). Good p.1) (is_drawn_out vm room.hub.contexts) (None, lose_vm_in vm deaths.Ids room) _ (λ d. died_fine vm deaths.Ids room fine)
      (λ d. (record { maps = fine.0.maps; heads = fine.0.heads }, fine.1)))

  creating_fine : (number k : ℕ) (room : Room) → Good room → Good (create_context number k room).1
  creating_fine number k room fine = by_filter (filter_at number k room.lines)
    where
      by_root : (f : Filter) (o : Option ℕ) → Good (create_stream number k f o room).1
      by_root f None = fine
      by_root f (Some root) =
          by_bool (λ (p : Option NewContext × Room). Good p.1) (is_dead f.vm room || not (may_stream f.vm root room.hub.contexts)) (None, room) _ (λ e. fine)
          (λ e. by_bool (λ (p : Option NewContext × Room). Good p.1) (is_drawn_out f.vm room.hub.contexts) (None, lose_vm_in f.vm deaths.Ids room) _ (λ d. died_fine f.vm deaths.Ids room fine)
          (λ d.
          let g : Filter = record f { created = true; context = next_id room.hub.contexts f.vm } in (
            record { maps = fine.0.maps; heads = fine.0.heads },
            line_lim (change_line (with_filter k g)) number room.lines (λ l here. exchange_lim (with_filter k g) l (λ x lim. lim) here) fine.1,
          )))

      by_filter : (o : Option Filter) → Good (create_filter number k o room).1
      by_filter None = fine
      by_filter (Some f) = by_root f (plugin_in room.hub.contexts f.plugin).root

  ticked_fine : (vm root : ℕ) (room : Room) → Good room → Good (tick_root vm root room).1
  ticked_fine vm root room fine = by_tick (tick_in (vm_in room.hub.contexts vm).contexts root)
    where
      by_tick : (o : Option (Option Tick)) → Good (tick_of vm root o room).1
      by_tick None = fine
      by_tick (Some None) = fine
      by_tick (Some (Some t)) =
          by_bool (λ (p : Bool × Room). Good p.1) (is_due_tick room.hub.moment t && has_vm vm room.hub.contexts) _ (false, room)
          (λ e. (
            held_fine n _ room.hub
                (put_lists (record no_changes { tick = Some (Some (next_tick room.hub.moment t)) }) vm (effective_of (put (record no_changes { effective = Some root }) vm room.hub.contexts) vm) (put (record no_changes { effective = Some root }) vm room.hub.contexts)
                (put_lists (record no_changes { effective = Some root }) vm (effective_of room.hub.contexts vm) room.hub.contexts fine.0.maps tt) tt) fine.0,
            fine.1,
          )) (λ e. fine)

  expires_fine : (room : Room) → Good room → Good (expire_all room)
  expires_fine room fine =
      by_bool Good (list_any (is_late room.hub.moment) room.lines) (with_lines room (all_lines passing.expire_exchange room.lines room.hub)) room
      (λ e. all_lines_fine passing.expire_exchange room.lines room.hub (λ m x hub f. deed_fine n m expires x hub tt f) fine.0 fine.1) (λ e. fine)

  noticed_fine : (vm more : ℕ) (r : Reply) (room : Room) → Good room → Good (take_notice_reply vm more r room)
  noticed_fine vm more (replies.Owed root queue) room fine = fine
  noticed_fine vm more replies.Absent room fine = fine
  noticed_fine vm more (replies.Value value number) room fine = fine
  noticed_fine vm more (replies.Done number) room fine = fine
  noticed_fine vm more replies.CasMismatch room fine = fine
  noticed_fine vm more replies.Full room fine = fine
  noticed_fine vm more (replies.Id queue) room fine = fine
  noticed_fine vm more (replies.Item item) room fine = fine
  noticed_fine vm more replies.Empty room fine = fine
  noticed_fine vm more replies.NoneOwed room fine = fine

  -- ---- lines come and go

  refused_fine : (status number : ℕ) (room : Room) → Good room → Good (on_number (passing.refuse_exchange status) number room)
  refused_fine status number room fine = number_fine (passing.refuse_exchange status) number room (λ m x hub f. deed_fine n m (refuses status) x hub tt f) fine

  closes_line_fine : (number : ℕ) (room : Room) → Good room → Good (close_line number room)
  closes_line_fine number room fine = (sends_fine n _ room.hub tt fine.0, dropped_lim room.lines (place_in number room.lines) fine.1)

  drops_line_fine : (number : ℕ) (room : Room) → Good room → Good (drop_line number room)
  drops_line_fine number room fine = (fine.0, dropped_lim room.lines (place_in number room.lines) fine.1)

  line_ends_fine : (o : Option Line) (number : ℕ) (stays : Bool) (room : Room) → Good room → Good (end_line o number stays room)
  line_ends_fine None number stays room fine = fine
  line_ends_fine (Some line) number stays room fine =
      by_bool Good line.is_gone (drop_line number room) _ (λ e. drops_line_fine number room fine) (λ e. by_bool Good stays _ (close_line number room) (λ d. fine) (λ d. closes_line_fine number room fine))

  refuses_fine : (o : Option Line) (number status : ℕ) (room : Room) → Good room → Good (refuse_line o number status room)
  refuses_fine None number status room fine = fine
  refuses_fine (Some line) number status room fine = by_exchange line.exchange
    where
      sent : Good (refusal_sent number status room)
      sent = by_bool Good (is_final status) _ room (λ e. (sends_fine n _ room.hub (down_headed n number (fixed_answer status room.hub.moment)) fine.0, fine.1)) (λ e. fine)

      by_exchange : (o : Option Exchange) → Good (refuse_in number status o room)
      by_exchange None = closes_line_fine number (refusal_sent number status room) sent
      by_exchange (Some x) = refused_fine status number room fine

  further_lim : (up ends_now : Bool) (bytes : List ℕ) (number : ℕ) (lines : List Line) → AllLim lines → AllLim (on_line (side_with_more up ends_now bytes) number lines)
  further_lim false ends_now bytes number lines lim = line_lim (side_with_more false ends_now bytes) number lines (λ l here. here) lim
  further_lim true ends_now bytes number lines lim = line_lim (side_with_more true ends_now bytes) number lines (λ l here. exchange_lim (with_further ends_now bytes) l (λ x is. is) here) lim

  comes_fine : (up ends_now : Bool) (bytes : List ℕ) (number : ℕ) (o : Option Line) (room : Room) → Good room → Good (receive_on up ends_now bytes number o room)
  comes_fine up ends_now bytes number o room fine =
      let further : AllLim (on_line (side_with_more up ends_now bytes) number room.lines) = further_lim up ends_now bytes number room.lines fine.1 in
      by_bool Good (is_open (line_reading up o) && not (up && is_answered_in (exchange_of_line o))) _ room
      (λ e. by_bool Good (is_read_in up (exchange_of_line o)) _ _ (λ d. (fine.0, further)) (λ d. (fine.0, further))) (λ e. fine)

  loses_down_fine : (number : ℕ) (o : Option Line) (room : Room) → Good room → Good (lose_client number o room)
  loses_down_fine number None room fine = fine
  loses_down_fine number (Some line) room fine = by_bool Good (is_some line.exchange) _ _ (λ e. (fine.0, line_lim line_without_client number room.lines (λ l here. exchange_lim exchange_without_client l (λ x is. is) here) fine.1))
      (λ e. drops_line_fine number room fine)

  loses_up_fine : (number : ℕ) (o : Option Exchange) (room : Room) → Good room → Good (lose_server number o room)
  loses_up_fine number o room fine = by_bool Good (is_missed o) (on_number (passing.refuse_exchange 502) number room) room (λ e. refused_fine 502 number room fine) (λ e. fine)

  opens_fine : (number : ℕ) (room : Room) → Good room → Good (accept_line number room)
  opens_fine number room fine =
      by_bool Good (is_some (place_in number room.lines)) room _ (λ e. fine) (λ e. by_bool Good (nat_lt (length room.lines) most_lines) _ _ (λ d. (fine.0, insert_lim room.lines (place_for number room.lines) (new_line number) fine.1 tt))
      (λ d. (sends_fine n (to.Close number Down ∷ []) room.hub tt fine.0, fine.1)))

  happens_fine : (w : What) (room : Room) → Good room → Good (take_event w room)
  happens_fine (whats.Opened number) room fine = opens_fine number room fine
  happens_fine (whats.Bytes number Down bytes) room fine = comes_fine false false bytes number (line_in number room.lines) room fine
  happens_fine (whats.Bytes number Up bytes) room fine = comes_fine true false bytes number (line_in number room.lines) room fine
  happens_fine (whats.End number Down) room fine = comes_fine false true [] number (line_in number room.lines) room fine
  happens_fine (whats.End number Up) room fine = comes_fine true true [] number (line_in number room.lines) room fine
  happens_fine (whats.Gone number Down) room fine = loses_down_fine number (line_in number room.lines) room fine
  happens_fine (whats.Gone number Up) room fine = loses_up_fine number (exchange_on number room) room fine
  happens_fine (whats.Joined number) room fine = fine
  happens_fine (whats.Refused number) room fine = loses_up_fine number (exchange_on number room) room fine
  happens_fine (whats.Room number side) room fine = fine
  happens_fine whats.Clock room fine = fine
  happens_fine whats.Stop room fine = fine

  -- ---- an exchange ends

  ends_exchange_fine : (o : Option (ℕ × Exchange)) (room : Room) → Good room → Good (end_exchange_of o room)
  ends_exchange_fine None room fine = fine
  ends_exchange_fine (Some (number, x)) room fine =
      (held_fine n _ _ (ended_lists x.place (none_held x room.hub).contexts (cleared_lists _ x.response (cleared_lists room.hub.contexts x.request fine.0.maps))) (by_reader x.reader), fine.1)
    where
      by_reader : (o : Option Reading) → Fine n (room_with_sent (close_up number o) room).hub
      by_reader None = sends_fine n [] room.hub tt fine.0
      by_reader (Some reading) = sends_fine n (to.Close number Up ∷ []) room.hub (by_bool (λ (t : List Traffic). AreHeaded (t ++ [])) (n == number) (closing ∷ []) [] (λ e. tt) (λ e. tt)) fine.0

  ends_fine : (place : ℕ) (room : Room) → Good room → Good (end_at place room)
  ends_fine place room fine = by_line (slice_get room.lines place)
    where
      by_exchange : (l : Line) (o : Option Exchange) → l.exchange ≡ o → Good (end_with room (ended_at place (Some l) room.lines))
      by_exchange l None is = subst (λ (q : Option Exchange). Good (end_with room (ended_back place room.lines (ended_in l q)))) (sym is) (fine.0, set_lim room.lines place l fine.1 (subst OpenLim (sym is) tt))
      by_exchange l (Some x) is = subst (λ (q : Option Exchange). Good (end_with room (ended_back place room.lines (ended_in l q)))) (sym is) (ends_exchange_fine (Some (l.number, x)) (record room { lines = slice_set room.lines place (record l { exchange = None }) }) (fine.0, set_lim room.lines place (record l { exchange = None }) fine.1 tt))

      by_line : (o : Option Line) → Good (end_with room (ended_at place o room.lines))
      by_line None = fine
      by_line (Some l) = by_exchange l l.exchange refl

  -- ---- a stage is asked

  asks_fine : (m : ℕ) (x : Exchange) (hub : Hub) → Both n (x, hub) → Both n ((asks_exchange m x hub).1, (asks_exchange m x hub).2)
  asks_fine m x hub fine = by_asking (asked hub.contexts (chain_of r x)).0
    where
      r : Bool
      r = asks_response x

      h : Contexts
      h = (asked hub.contexts (chain_of r x)).2

      y : Exchange
      y = with_chain r (asked hub.contexts (chain_of r x)).1 x

      held : Both n (y, with_held h hub)
      held = (held_fine n h hub (asked_lists hub.contexts (chain_of r x) fine.0.maps) fine.0, chain_lim r (asked hub.contexts (chain_of r x)).1 x fine.1)

      by_asking : (a : Asking) → Both n ((asks_as r m a y (with_held h hub)).1, (asks_as r m a y (with_held h hub)).2)
      by_asking Nothing = held
      by_asking (Over k) = marking_fine (finish_put r m passed.Over y (with_held h hub)) (passed_on_fine n m r passed.Over y (with_held h hub) held)
      by_asking (Asks a) = held

  asks_at_fine : (place : ℕ) (o : Option Line) (lines : List Line) (hub : Hub) → slice_get lines place ≡ o → Fine n hub → AllLim lines → Fine n (asks_at place o lines hub).2 × AllLim (asks_at place o lines hub).1
  asks_at_fine place None lines hub at fine lim = (fine, lim)
  asks_at_fine place (Some l) lines hub at fine lim =
      let one = by_exchange l.exchange (lim_at lines place l at lim) refl in
      (one.0, set_lim lines place (asks_in l l.exchange hub).1 lim one.1)
    where
      by_exchange : (o : Option Exchange) → OpenLim o → l.exchange ≡ o → Fine n (asks_in l o hub).2 × OpenLim (asks_in l o hub).1.exchange
      by_exchange None here is = (fine, subst OpenLim (sym is) tt)
      by_exchange (Some x) here is = asks_fine l.number x hub (fine, here)

  -- ---- a reading

  in_contexts_fine : (change : ℕ → Contexts → Contexts) (o : Option Exchange) (room : Room) → ((place : ℕ) (h : Contexts) → AreLists h → AreLists (change place h)) → Good room → Good (in_contexts change o room)
  in_contexts_fine change None room keeps fine = fine
  in_contexts_fine change (Some x) room keeps fine = (held_fine n _ room.hub (keeps x.place room.hub.contexts fine.0.maps) fine.0, fine.1)

  takes_fine : (r : ReadBatch) (item : ChainItem) (room : Room) → Good room → Good (take_read_item r item room)
  takes_fine r item room fine = by_bool Good (is_last item) _ _ (λ e. (fine.0, noted_on)) (λ e. (fine.0, noted_on))
    where
      noted_lim : (up : Bool) (x : Exchange) → Lim x → Lim (with_read_mark up item x)
      noted_lim false x is = is
      noted_lim true x is = is

      noted_on : AllLim (on_line (change_line (with_read_mark r.up item)) r.line room.lines)
      noted_on = line_lim (change_line (with_read_mark r.up item)) r.line room.lines (λ l here. exchange_lim (with_read_mark r.up item) l (λ x is. noted_lim r.up x is) here) fine.1

  trailers_lists : (up : Bool) (map : _) (place : ℕ) (h : Contexts) → AreLists h → AreLists (put_trailers up map place h)
  trailers_lists false map place h are = view_lists _ place h (λ v has. has) are
  trailers_lists true map place h are = view_lists _ place h (λ v has. has) are

  stops_fine : (r : ReadBatch) (why : Stop) (room : Room) → Good room → Good (end_of_read r why room)
  stops_fine r rest room fine = fine
  stops_fine r over room fine = by_bool Good (r.up || is_some (exchange_on r.line room)) _ _ (λ e. fine) (λ e. fine)
  stops_fine r (refusal status) room fine = fine

  hands_fine : (plan : Plan) (r : ReadBatch) (p : Part) (room : Room) → ((h : Head) → p ≡ head_part h → r.up ≡ false → IsJudged h) → Good room → Good (take_part plan r p room)
  hands_fine plan r (head_part h) room judged fine =
      by_bool Good r.up _ _
      (λ e.
      let mid : Room = in_contexts (put_response h.fields) (exchange_on r.line room) room in
      let there : Good mid = in_contexts_fine (put_response h.fields) (exchange_on r.line room) room (λ place k are. view_lists _ place k (λ v has. has) are) fine in
      takes_fine r (head_item h) (on_lines (change_line (with_response_head h)) r.line mid)
      (there.0, line_lim (change_line (with_response_head h)) r.line mid.lines (λ l here. exchange_lim (with_response_head h) l (λ x is. is) here) there.1))
      (λ e.
      let j : IsJudged h = judged h refl e in
      let x : Exchange = exchange_for plan (free_place room.hub.contexts) room.hub.moment room.dead h (route_in plan.routes (path_of h.fields)) in
      takes_fine r (head_item h) (begin_exchange_on plan r.line h room) (
        held_fine n _ room.hub (opened_lists r.line h.fields room.hub.contexts (heads_have_field_lists h j) fine.0.maps) fine.0,
        line_lim (with_exchange x) r.line room.lines (λ l here. record { head = h; judged = j; framed = refl; version = refl }) fine.1,
      ))
  hands_fine plan r (interim_part h) room judged fine = (sends_fine n _ room.hub (down_headed n r.line (interim_of (exchange_on r.line room) h)) fine.0, fine.1)
  hands_fine plan r (piece bytes last) room judged fine = takes_fine r (items.Piece bytes last) room fine
  hands_fine plan r (trailer_part fields) room judged fine =
      takes_fine r items.Trailers (in_contexts (put_trailers r.up (with_fields no_headers fields)) (exchange_on r.line room) room) (in_contexts_fine (put_trailers r.up (with_fields no_headers fields)) (exchange_on r.line room) room (λ place k are. trailers_lists r.up (with_fields no_headers fields) place k are) fine)

-- what a reader has left is noted
read_lim : (up : Bool) (new : Reading) (number : ℕ) (lines : List Line) → AllLim lines → AllLim (on_line (read_on up new) number lines)
read_lim false new number lines lim = line_lim (read_on false new) number lines (λ l here. here) lim
read_lim true new number lines lim = line_lim (read_on true new) number lines (λ l here. exchange_lim (with_reader new) l (λ x is. is) here) lim

-- a head that is handed on where no response is awaited was judged
judged_head : (reading : Reading) (h : Head) (new : Reading) → reading.asked ≡ None → Hears reading (hands (head_part h) new) → IsJudged h
judged_head reading h new none says = by_due reading.due (subst (λ (o : Option (List ℕ)). IsNext reading.ended o reading.due reading.unread (part (head_part h) says.used says.due)) none says.next)
  where
    by_due : (d : Due) → IsNext reading.ended None d reading.unread (part (head_part h) says.used says.due) → IsJudged h
    by_due head at = record { text = reading.unread; used = says.used; spells = (head_next reading.ended None reading.unread (head_part h) says.used says.due at).0 }
    by_due (body_due b) at = absurd (body_next reading.ended None (body_due b) reading.unread (head_part h) says.used says.due tt at)
    by_due none_due at = absurd (done_next reading.ended None reading.unread (head_part h) says.used says.due at)

-- ---- a step

module _ {H : Type 0} (calling : Calling H) (logs : WriteLogs calling) (keeps : KeepLists calling) (plan : Plan) (n : ℕ) (low : is_call_line n ≡ false) where
  abbrev Finely : Course (BothOf H) → Type 0
  Finely course = AllEnds (λ (b : BothOf H). Good n b.room) course

  lists_then : {B : Type 0} (Q : B → Type 0) (p : Program (Called H)) (f : Called H → Course B) → OnlyLogs p → LeavesLists p → ((c : Called H) → AreLogs c.lines → AreLists c.contexts → AllEnds Q (f c)) → AllEnds Q (runs_then p f)
  lists_then Q (done c) f only leaves later = later c only leaves
  lists_then Q (ask vm call k) f only leaves later = λ r. lists_then Q (k r) f (only r) (leaves r) later
  lists_then Q (measure vm call k) f only leaves later = λ r. lists_then Q (k r) f (only r) (leaves r) later

  called_in_fine : (vm : ℕ) (name : Callback) (context first second : ℕ) (own : Owner) (host : H) (room : Room) → Good n room
      → AllEnds (λ (a : Answered H). Good n a.both.room) (called_in calling vm name context first second own host room)
  called_in_fine vm name context first second own host room fine =
      lists_then (λ (a : Answered H). Good n a.both.room) (calling host vm name context first second room.hub.moment room.hub.contexts) _ (logs host vm name context first second room.hub.moment room.hub.contexts)
      (keeps host vm name context first second room.hub.moment room.hub.contexts fine.0.maps) (λ c only are. answered_fine n low vm own c.end c.lines c.contexts room only are fine)

  calls_live_fine : (vm : ℕ) (name : Callback) (context first second : ℕ) (goes : Then) (host : H) (room : Room) → ThenFine n goes → Good n room → Finely (calls_live calling vm name context first second goes host room)
  calls_live_fine vm name context first second goes host room later fine =
      all_then (λ (a : Answered H). Good n a.both.room) (λ (b : BothOf H). Good n b.room) (called_live calling vm name context first second host room) (λ a. ends (continue_with goes a))
      (by_bool (λ (p : Course (Answered H)). AllEnds (λ (a : Answered H). Good n a.both.room) p) (is_dead vm room) (ends (callback_result None (both host room))) (called_in calling vm name context first second Nobody host room)
      (λ e. fine) (λ e. called_in_fine vm name context first second Nobody host room fine))
      (λ a f. later a.value a.both.room f)

  tells_fine : (vm : ℕ) (name : Callback) (context first : ℕ) (host : H) (room : Room) → Good n room → Finely (tells calling vm name context first host room)
  tells_fine vm name context first host room fine = calls_live_fine vm name context first 0 nothing_more host room (λ value r f. f) fine

  made_fine : (o : Option NewContext) (host : H) (room : Room) → Good n room → Finely (made_one calling o host room)
  made_fine None host room fine = fine
  made_fine (Some c) host room fine = tells_fine c.vm callbacks.ContextCreate c.context c.root host room fine

  move_fine : (place : ℕ) (host : H) (room : Room) → Good n room → Finely (move_at calling place host room)
  move_fine place host room fine = by_asked (asks_at place (slice_get room.lines place) room.lines room.hub).0
    where
      mid : Room
      mid = with_lines room ((asks_at place (slice_get room.lines place) room.lines room.hub).1, (asks_at place (slice_get room.lines place) room.lines room.hub).2)

      there : Good n mid
      there = asks_at_fine n place (slice_get room.lines place) room.lines room.hub refl fine.0 fine.1

      by_asked : (o : Option Asked) → Finely (moved calling o host mid)
      by_asked None = there
      by_asked (Some a) =
          all_then (λ (b : Answered H). Good n b.both.room) (λ (b : BothOf H). Good n b.room)
          (called_in calling a.vm (callback_of a.response a.ask.kind) a.context a.count (number_of a.ask.end) (Stage a.context a.response) host mid) (λ b. ends (continue_with (apply_stage_action a) b))
          (called_in_fine a.vm (callback_of a.response a.ask.kind) a.context a.count (number_of a.ask.end) (Stage a.context a.response) host mid there) (λ b f. acts_on_fine n a b.value b.both.room f)

  notices_fine : (vm more : ℕ) (host : H) (room : Room) → Good n room → Finely (notice_step plan vm more host room)
  notices_fine vm more host room fine =
      by_bool Finely ((more == 0 || is_dead vm room) || not (nat_lt vm plan.vms)) (ends (both host room)) (ask_notice vm more host room) (λ e. fine) (λ e. λ r. noticed_fine n vm more r room fine)

  reads_call_fine : (id : ℕ) (o : Option Callout) (host : H) (room : Room) → Good n room → Finely (reads_call id o host room)
  reads_call_fine id None host room fine = fine
  reads_call_fine id (Some c) host room fine =
      let after : Heard → After = λ h. after_read id (after_part_heard h c) room.calls in
      λ h heard. call_step_fine n (after h).calls (after h).next room fine

  tells_call_fine : (answer : Option CallAnswer) (c : Callout) (host : H) (room : Room) → Good n room → Finely (tells_call calling answer c host room)
  tells_call_fine answer c host room fine =
      let mid : Room = put_call_answer answer c.vm c.context room in
      by_bool Finely (has_listener c room) (calls_live calling c.vm callbacks.CallAnswered c.context c.id 0 (drop_answer c.vm c.context) host mid) (ends (both host room))
      (λ e. calls_live_fine c.vm callbacks.CallAnswered c.context c.id 0 (drop_answer c.vm c.context) host mid (λ value r f. answer_fine n None c.vm c.context r f) (answer_fine n answer c.vm c.context room fine))
      (λ e. fine)

  ends_call_fine : (answered : Bool) (id : ℕ) (o : Option Callout) (host : H) (room : Room) → Good n room → Finely (ends_call calling answered id o host room)
  ends_call_fine answered id None host room fine = fine
  ends_call_fine answered id (Some c) host room fine = tells_call_fine (answer_if answered c) c host (close_call id room) (closes_call_fine n low id room fine)

  works_call_fine : (step : CallStep) (host : H) (room : Room) → Good n room → Finely (works_call calling step host room)
  works_call_fine (steps.Comes w) host room fine = let a : After = after_event w room.calls in call_step_fine n a.calls a.next room fine
  works_call_fine (steps.Read id) host room fine = reads_call_fine id (callout_in id room.calls) host room fine
  works_call_fine (steps.Fail id) host room fine = ends_call_fine false id (callout_in id room.calls) host room fine
  works_call_fine (steps.Answer id) host room fine = ends_call_fine true id (callout_in id room.calls) host room fine

  works_other_fine : (step : OtherStep) (host : H) (room : Room) → Good n room → Finely (works_other calling step host room)
  works_other_fine (others.Call step) host room fine = works_call_fine step host room fine
  works_other_fine (others.Tcp step) host room fine = fine

  works_fine : (job : Job) (host : H) (room : Room) → Good n room → Finely (works calling plan job host room)
  works_fine (jobs.Begin vm) host room fine = tells_fine vm callbacks.Begin 0 0 host room fine
  works_fine (jobs.Root vm plugin first) host room fine = made_fine (create_root vm plugin first room).0 host (create_root vm plugin first room).1 (rooting_fine n vm plugin first room fine)
  works_fine (jobs.Start vm root) host room fine = calls_live_fine vm callbacks.VmStart root (vm_length vm room.hub.contexts) 0 (unless_zero vm deaths.Start) host room (zero_fine n vm deaths.Start) fine
  works_fine (jobs.Configure vm root plugin) host room fine =
      calls_live_fine vm callbacks.Configure root (plugin_length plugin room.hub.contexts) 0 (unless_zero vm deaths.Configure) host room (zero_fine n vm deaths.Configure) fine
  works_fine (jobs.Tick vm root) host room fine =
      by_bool Finely (tick_root vm root room).0 (tells calling vm callbacks.Tick root 0 host (tick_root vm root room).1) (ends (both host (tick_root vm root room).1))
      (λ e. tells_fine vm callbacks.Tick root 0 host (tick_root vm root room).1 (ticked_fine n vm root room fine)) (λ e. ticked_fine n vm root room fine)
  works_fine jobs.Expire host room fine = expires_fine n room fine
  works_fine (jobs.Happen w) host room fine = happens_fine n w room fine
  works_fine (jobs.Create number k) host room fine = made_fine (create_context number k room).0 host (create_context number k room).1 (creating_fine n number k room fine)
  works_fine (jobs.Enter number) host room fine = number_fine n (enter_stages room.dead) number room (λ m x hub f. (f.0, by_bool Lim (x.has_ended || x.is_answered) x _ (λ e. f.1) (λ e. f.1))) fine
  works_fine (jobs.Put number response items) host room fine = number_fine n (put_read_items response items) number room (λ m x hub f. put_in_fine n m response items x hub f) fine
  works_fine (jobs.Refuse number status) host room fine = refuses_fine n (line_in number room.lines) number status room fine
  works_fine (jobs.Done c) host room fine = calls_live_fine c.vm callbacks.Done c.context 0 0 (finish_context c) host room (done_fine n c) fine
  works_fine (jobs.Log c) host room fine = tells_fine c.vm callbacks.Log c.context 0 host room fine
  works_fine (jobs.Delete c) host room fine = calls_live_fine c.vm callbacks.Delete c.context 0 0 (delete_context c) host room (deletes_fine n c) fine
  works_fine (jobs.Close number stays) host room fine = line_ends_fine n (line_in number room.lines) number stays room fine
  works_fine (jobs.Notice vm more) host room fine = notices_fine vm more host room fine
  works_fine (jobs.Ready vm root queue) host room fine =
      by_bool Finely (may_stream vm root room.hub.contexts) (tells calling vm callbacks.QueueReady root queue host room) (ends (both host room)) (λ e. tells_fine vm callbacks.QueueReady root queue host room fine) (λ e. fine)
  works_fine (jobs.Other step) host room fine = works_other_fine step host room fine

  -- where no reader of a client awaits a response
  abbrev Awaits : Room → Type 0
  Awaits room = (r : ReadBatch) → room.reading ≡ Some r → r.up ≡ false → (reading : Reading) → reading_on r room ≡ Some reading → reading.asked ≡ None

  reads_fine : (host : H) (room : Room) → Awaits room → Good n room → Finely (reads_next plan room.reading host room)
  reads_fine host room awaits fine = by_side room.reading refl
    where
      by_reading : (r : ReadBatch) → room.reading ≡ Some r → (o : Option Reading) → reading_on r room ≡ o → Finely (reads_in plan r o host room)
      by_reading r is None at = fine
      by_reading r is (Some reading) at = λ h says. by_heard h says
        where
          by_heard : (h : Heard) → Hears reading h → Good n (after_heard plan r h (record room { reading = None }))
          by_heard (hands p new) says =
              hands_fine n plan r p (on_lines (read_on r.up new) r.line (record room { reading = None }))
              (λ h of down. judged_head reading h new (awaits r is down reading at) (subst (λ (q : Part). Hears reading (hands q new)) of says)) (fine.0, read_lim r.up new r.line room.lines fine.1)
          by_heard (halts why new) says = stops_fine n r why (on_lines (read_on r.up new) r.line (record room { reading = None })) (fine.0, read_lim r.up new r.line room.lines fine.1)

      by_side : (o : Option ReadBatch) → room.reading ≡ o → Finely (reads_next plan o host room)
      by_side None is = fine
      by_side (Some r) is = by_reading r is (reading_on r room) refl

  -- EACH STEP
  step_fine : (x : Next) (host : H) (room : Room) → Awaits room → Good n room → Finely (step calling plan x host room)
  step_fine next.Read host room awaits fine = reads_fine host room awaits fine
  step_fine (next.Move place) host room awaits fine = move_fine place host room fine
  step_fine next.Work host room awaits fine = by_jobs room.jobs
    where
      by_jobs : (js : List Job) → Finely (works_first calling plan js host room)
      by_jobs [] = fine
      by_jobs (job ∷ later) = works_fine job host (record room { jobs = later }) fine
  step_fine (next.Free at) host room awaits fine = by_wait (slice_get room.waits at)
    where
      by_wait : (o : Option ContextAt) → Good n (release_at at o room)
      by_wait None = fine
      by_wait (Some c) = fine
  step_fine (next.End place) host room awaits fine = ends_fine n place room fine
  step_fine next.Begin host room awaits fine = by_agenda room.agenda
    where
      by_agenda : (js : List Job) → Good n (begin_first_job js room)
      by_agenda [] = fine
      by_agenda (job ∷ later) = fine
  step_fine next.Rest host room awaits fine = fine

  -- ---- a turn, beside what is known of all lines

  module _ (past : List Sent) where
    abbrev Whole : Room → Type 0
    Whole room = KnownAll plan past room × Good n room

    known_awaits : (room : Room) → KnownAll plan past room → Awaits room
    known_awaits room all r is down reading at = by_line (look r.line room.lines) (all.0 r.line (reads_clients room all.1 r is)).line (sym (ap (line_reading false) (line_in_is r.line room.lines)) ∙ (ap (λ u. line_reading u (line_in r.line room.lines)) (sym down) ∙ at))
      where
        by_line : (o : Option Line) → LineOk plan r.line past room.reading room.jobs room.lines o room.hub → line_reading false o ≡ Some reading → reading.asked ≡ None
        by_line None ok there = absurd (cc)
        by_line (Some l) ok there = let same : l.requests ≡ reading = cc in ap (λ (q : Reading). q.asked) (sym same) ∙ ok.0

    both_ends : (p : Course (BothOf H)) → AllEnds (λ (b : BothOf H). KnownAll plan past b.room) p → Finely p → AllEnds (λ (b : BothOf H). Whole b.room) p
    both_ends (ends b) all fine = (all, fine)
    both_ends (asks vm call k) all fine = λ r. both_ends (k r) (all r) (fine r)
    both_ends (measures vm call k) all fine = λ r. both_ends (k r) (all r) (fine r)
    both_ends (hears t k) all fine = λ h says. both_ends (k h) (all h says) (fine h says)

    abbrev Wholly : Course (BothOf H) → Type 0
    Wholly course = AllEnds (λ (b : BothOf H). Whole b.room) course

    settling_whole : (k : ℕ) (host : H) (room : Room) → Whole room → Wholly (settling calling plan k host room)
    settling_whole zero host room all = subst Wholly (sym (settling_none calling plan host room)) all
    settling_whole (suc k) host room all = by_rest (λ h r e. settling_whole k h r e) (is_rest (next_of room)) refl
      where
        by_rest : ((h : H) (r : Room) → Whole r → Wholly (settling calling plan k h r)) → (b : Bool) → is_rest (next_of room) ≡ b → Wholly (settling calling plan (suc k) host room)
        by_rest go true is = subst Wholly (sym (settling_rest calling plan k (next_of room) host room refl is)) all
        by_rest go false is =
            subst Wholly (sym (settling_step calling plan k (next_of room) host room refl is))
            (all_then (λ (b : BothOf H). Whole b.room) (λ (b : BothOf H). Whole b.room) (step calling plan (next_of room) host room) (λ b. settling calling plan k b.host b.room)
            (both_ends (step calling plan (next_of room) host room) (steps_keep calling logs plan past host room all.0) (step_fine (next_of room) host room (known_awaits room all.0) all.1)) (λ b e. go b.host b.room e))

    abbrev Comes : Outcome H → Type 0
    Comes o = KnownAll plan (past ++ o.sent) o.state.room × (AreLists o.state.room.hub.contexts × AllLim o.state.room.lines) × (AreHeaded (up_traffic n o.sent) × (o.state.room.hub.sent ≡ []))

    turn_whole : (state : BothOf H) (event : Event) → KnownAll plan past state.room → AreLists state.room.hub.contexts × AllLim state.room.lines → state.room.hub.sent ≡ [] → AllEnds Comes (turn calling plan state event)
    turn_whole state event all are none = by_stop (is_stop event.what)
      where
        fine : Good n (room_for_event plan event state.room)
        fine = (record { maps = are.0; heads = subst (λ (l : List Sent). AreHeaded (up_traffic n l)) (sym none) tt }, are.1)

        by_stop : (b : Bool) → AllEnds Comes (turn_by calling plan b state event)
        by_stop true = (subst (λ l. KnownAll plan l state.room) (sym (append-nil past)) all, are, (tt, none))
        by_stop false =
            all_then (λ (b : BothOf H). Whole b.room) Comes (settling calling plan most_steps state.host (room_for_event plan event state.room)) (λ b. ends (outcome_of b))
            (settling_whole most_steps state.host (room_for_event plan event state.room) (facing_all plan past event state.room all, fine))
            (λ b k. (emptied_all plan past b.room k.0, (k.1.0.maps, k.1.1), (subst AreHeaded (sym (ups_joined n b.room.hub.sent)) k.1.0.heads, refl)))

  turns_whole : (past : List Sent) (from : BothOf H) (ts : List (Done H)) (to : BothOf H) → KnownAll plan past from.room → AreLists from.room.hub.contexts × AllLim from.room.lines → from.room.hub.sent ≡ [] → Turns calling plan from ts to
      → KeptLists n to.room.hub.contexts (sent_in ts)
  turns_whole past from [] to all are none turned = record { maps = subst (λ (b : BothOf H). AreLists b.room.hub.contexts) (sym turned) are.0; heads = tt }
  turns_whole past from (t ∷ ts) to all are none turned =
      let one : Comes past t.end = all_reached (Comes past) t.met (turn calling plan from t.event) t.end (turn_whole past from t.event all are none) turned.0 in
      let later : KeptLists n to.room.hub.contexts (sent_in ts) = turns_whole (past ++ t.end.sent) t.end.state ts to one.0 one.1 one.2.1 turned.1 in
      record { maps = later.maps; heads = subst AreHeaded (sym (ups_join n t.end.sent (sent_in ts))) (headed_join (up_traffic n t.end.sent) (up_traffic n (sent_in ts)) one.2.0 later.heads) }

pub maps_stay_lists : (H : Type 0) → MapsStayLists H
maps_stay_lists H calling plan contexts host ts to n low logs keeps are turned =
    turns_whole calling logs keeps plan n low [] (both host (new_room contexts)) ts to (new_all plan contexts) (are, tt) refl turned

-- ---- a worker that was made

none_lists : (level : _) (key : List ℕ) → AreLists (no_contexts level key)
none_lists level key zero = tt
none_lists level key (suc place) = tt

vms_lists : (h : Contexts) (vms : List VmEntry) → AreLists h → AreLists (with_vms h vms)
vms_lists h [] are = are
vms_lists h (v ∷ vms) are = vms_lists (with_vm v.name v.configuration h) vms are

plugins_lists : (h : Contexts) (plugins : List PluginEntry) → AreLists h → AreLists (with_plugins h plugins)
plugins_lists h [] are = are
plugins_lists h (p ∷ plugins) are = plugins_lists (with_plugin p.vm p.name p.configuration h) plugins are

pub maps_of_workers : (H S : Type 0) (performs : S → List Made → S → Type 0) → MapsOfWorkersStayLists H S performs
maps_of_workers H S performs calling exported registering config who seed host sent to n http low logs keeps worked =
    let from : Standing H = new_worker exported registering config who seed host in
    let r : Run calling from sent to = worked_run calling performs from to sent http worked in
    subst (KeptLists n to.state.room.hub.contexts) r.sends
    (maps_stay_lists H calling (rules_of from.setting) (contexts_of config seed) host r.turns to.state n low logs keeps
    (plugins_lists (with_vms (no_contexts config.log_level seed) config.vms) config.plugins (vms_lists (no_contexts config.log_level seed) config.vms (none_lists config.log_level seed))) r.run)

pub maps_of_the_product : (S : Type 0) (performs : S → List Made → S → Type 0) → MapsOfTheProductStayLists S performs
maps_of_the_product S performs config who seed host sent to n http low worked =
    maps_of_workers Vms S performs slots.calling slots.exported_in slots.registering_in config who seed host sent to n http low machines_write_logs machines_keep_lists worked
