-- What a worker does to its room: what stays of the contexts, and that a VM that is dead stays so.
use Rattle.std.proofs.Common.{◌≡◌, ◌⊎◌, ⊎_elim, ℕ, zero, suc, ◌+◌, ◌==◌, Bool, true, false, not, ◌||◌, ◌&&◌, List, [], ◌∷◌, ◌++◌, length, refl, ◌∙◌, sym, subst}
use Rattle.std.proofs.lemmas.Bool.{or_left, or_right, eq-eqb}
use Rattle.std.proofs.lemmas.List.Folds.{list_any-append}
use Rattle.std.specs.List.{list_any}
use Rattle.std.specs.Prelude.{Option, None, Some, is_some, slice_get, nat_lt, nat_le}
use Rattle.contexts.specs.Creating.{plugin_in, await_done_of, delete_id}
use Rattle.contexts.specs.Reached.{Changes as Kept, vm_in, contains, seen, tick_in, no_changes, put, effective_of}
use Rattle.callouts.specs.Steps.{After}
use Rattle.callouts.specs.declared.types.Callout.{Callout}
use Rattle.callouts.specs.declared.types.CallStep.{CallStep}
use Rattle.contexts.specs.declared.parts.CallAnswer.{CallAnswer}
use Rattle.contexts.specs.declared.parts.Contexts.{Contexts}
use Rattle.contexts.specs.declared.parts.Effect.{Effect}
use Rattle.contexts.specs.declared.parts.Tick.{Tick}
use Rattle.contexts.specs.declared.parts.EffectKind.{EffectKind}
use Rattle.contexts.specs.declared.parts.EffectKind.TheVariants as what
use Rattle.contexts.specs.Stages.{with_bytes, own_at}
use Rattle.filter_host.specs.Heard.{Heard, hands, halts}
use Rattle.filter_host.specs.declared.host.CallbackEnd.{CallbackEnd}
use Rattle.filter_host.specs.declared.host.CallbackEnd.TheVariants as call_ends
use Rattle.filter_host.specs.declared.host.Death.{Death}
use Rattle.filter_host.specs.declared.host.Death.TheVariants as deaths
use Rattle.exchange.specs.declared.types.Exchange.{Exchange}
use Rattle.exchange.specs.declared.types.Filter.{Filter}
use Rattle.exchange.specs.declared.types.Hub.{Hub}
use Rattle.exchange.specs.Answering.{none_held, with_held}
use Rattle.exchange.specs.Maps.{marked, put_response, with_fields}
use Rattle.exchange.specs.Passing as passing
use Rattle.exchange.specs.Passing.{chain_of, with_chain, finish_put}
use Rattle.filter_chain.specs.Chains.{asked, asked_at, ask_stage, ask_item, bytes_at, limit}
use Rattle.filter_chain.specs.declared.item.Asking.{Asking}
use Rattle.filter_chain.specs.declared.item.Asking.TheVariants.{Nothing, Over, Asks}
use Rattle.filter_chain.specs.declared.item.ChainItem.{ChainItem}
use Rattle.filter_chain.specs.declared.item.ChainItem.TheVariants as items
use Rattle.filter_chain.specs.declared.item.PassOutcome.TheVariants as passed
use Rattle.filter_chain.specs.declared.stage.Stage.{Stage}
use Rattle.gate_io.specs.declared.event.Sent.{Sent}
use Rattle.gate_io.specs.declared.event.Side.TheVariants.{Down, Up}
use Rattle.gate_io.specs.declared.event.What.{What as Happening}
use Rattle.gate_io.specs.declared.event.What.TheVariants as whats
use Rattle.header_maps.specs.Headers.{Headers}
use Rattle.header_maps.specs.Operations.{no_headers}
use Rattle.h1_model.specs.Messages.{Stop, rest, over, refusal}
use Rattle.h1_model.specs.Unread.{Part, head_part, interim_part, piece, trailer_part}
use Rattle.store_model.specs.declared.call.Reply.{Reply}
use Rattle.store_model.specs.declared.call.Reply.TheVariants as replies
use Rattle.worker_model.specs.Calls as callouts
use Rattle.worker_model.specs.Changes.{apply_change}
use Rattle.worker_model.specs.declared.types.Change.TheVariants as changes
use Rattle.worker_model.specs.Moves.{asks_as, asks_chain, asks_exchange, asks_in, asks_line, asks_with, asks_back, asks_at, asks_response, ended_at, with_none}
use Rattle.worker_model.specs.Plan.{Plan}
use Rattle.worker_model.specs.Rooms.{Changes, with_marks, in_exchange, in_line, at_some, at_place, all_lines, with_lines, place_in, place_of, on_number, on_context, with_contexts, with_calls, room_with_sent, is_own, apply_effect, effects_of, without_effects, lose_vm_in, after_callback, take_callback_end, is_dead}
use Rattle.worker_model.specs.Steps.{Then, nothing_more, drop_answer, is_zero, action_of, with_jobs_first, unless_zero, has_vm, await_done, last_jobs, finish_context, delete_context, apply_stage_action, is_drawn_out, may_root, create_root, with_stream, may_stream, create_stream, create_filter, filter_at, create_context, enter_stages, begin_exchange_on, head_item, with_response_head, change_line, exchange_on, in_contexts, put_trailers, take_read_item, take_part, end_of_read, after_heard, on_lines, read_on, end_reading, is_last, line_in, line_reading, exchange_of_line, end_line, refusal_sent, refuse_in, refuse_line, most_lines, accept_line, receive_on, receive, is_open, is_answered_in, is_read_in, lose_client, is_missed, lose_server, take_event, end_exchange_of, end_with, end_at, with_tick, next_tick, tick_of, tick_root, is_due_tick, is_late, expire_all, take_notice_reply, begin_first_job, release_at, run_silent_job}
use Rattle.worker_model.specs.Room.{Room}
use Rattle.worker_model.specs.declared.types.Asked.{Asked}
use Rattle.worker_model.specs.declared.types.ContextAt.{ContextAt}
use Rattle.worker_model.specs.declared.types.Job.{Job}
use Rattle.worker_model.specs.declared.types.Job.TheVariants as jobs
use Rattle.worker_model.specs.declared.types.Line.{Line}
use Rattle.worker_model.specs.declared.types.NewContext.{NewContext}
use Rattle.worker_model.specs.declared.types.Owner.{Owner}
use Rattle.worker_model.specs.declared.types.ReadBatch.{ReadBatch}
use Rattle.law_runs.proofs.Changing.{pick, IsClosed, In, InBoth, Keeping, has_changed, has_ended_one, has_awaited, has_deleted, has_root, has_stream, has_answer, in_none, in_passed_on, put_in_keeps, resumes_keeps, closed_keeps, acts_keeps, dies_keeps, refused_keeps, expires_keeps, answer_keeps}

-- so it is of the contexts, and of these VMs all are dead
abbrev pub Stands : (ℕ → Contexts → Type 0) → ℕ → (ℕ → Type 0) → Room → Type 0
Stands Has m D room = Has m room.hub.contexts × ((vm : ℕ) → D vm → is_dead vm room ≡ true)

abbrev pub InThird : {A B : Type 0} → (ℕ → Contexts → Type 0) → ℕ → A × B × Hub → Type 0
InThird Has m (a, b, hub) = In Has m hub

abbrev HasThird : (ℕ → Contexts → Type 0) → ℕ → Asking × List Stage × Contexts → Type 0
HasThird Has m (a, stages, h) = Has m h

abbrev HasOne : (ℕ → Contexts → Type 0) → ℕ → Asking × Stage × Contexts → Type 0
HasOne Has m (a, s, h) = Has m h

module _ (Has : ℕ → Contexts → Type 0) (closed : IsClosed Has) where
  -- ---- lines

  in_marking : (m : ℕ) (xh : Exchange × Hub) → InBoth Has m xh → InBoth Has m (with_marks xh)
  in_marking m (x, hub) is = closed.view m (marked x.is_answered x.has_ended x.is_head_out) x.place hub.contexts (λ v down. refl) is

  in_one : (m : ℕ) (change : Changes) → Keeping Has change → (line : Line) (o : Option Exchange) (hub : Hub) → In Has m hub → In Has m (in_exchange change line o hub).1
  in_one m change keep line None hub is = is
  in_one m change keep line (Some x) hub is = in_marking m (change line.number x hub) (keep m line.number x hub is)

  pub in_all : (m : ℕ) (change : Changes) → Keeping Has change → (lines : List Line) (hub : Hub) → In Has m hub → In Has m (all_lines change lines hub).1
  in_all m change keep [] hub is = is
  in_all m change keep (line ∷ lines) hub is = in_all m change keep lines (in_line change line hub).1 (in_one m change keep line line.exchange hub is)

  in_some : (m : ℕ) (change : Changes) → Keeping Has change → (lines : List Line) (place : ℕ) (o : Option Line) (hub : Hub) → In Has m hub → In Has m (at_some change lines place o hub).1
  in_some m change keep lines place None hub is = is
  in_some m change keep lines place (Some line) hub is = in_one m change keep line line.exchange hub is

  in_place : (m : ℕ) (change : Changes) → Keeping Has change → (lines : List Line) (o : Option ℕ) (hub : Hub) → In Has m hub → In Has m (at_place change lines o hub).1
  in_place m change keep lines None hub is = is
  in_place m change keep lines (Some place) hub is = in_some m change keep lines place (slice_get lines place) hub is

  -- ---- a stage is asked

  has_item : (m : ℕ) (h : Contexts) (k : ℕ) (s : Stage) (waiting : List ChainItem) → Has m h → HasOne Has m (ask_item h k s waiting)
  has_item m h k s [] is = is
  has_item m h k s (items.Head end ∷ more) is = is
  has_item m h k s (items.Piece bytes end ∷ more) is =
      pick (HasOne Has m) (nat_le (length (bytes_at h s) + length bytes) limit) _ (Over k, s, h) (has_changed Has closed m (with_bytes bytes end) h s.vm s.context s.response is) is
  has_item m h k s (items.Trailers ∷ more) is = is

  has_asked_of : (m : ℕ) (h : Contexts) (k : ℕ) (stages : List Stage) (o : Option Stage) → Has m h → HasThird Has m (ask_stage h k stages o)
  has_asked_of m h k stages None is = is
  has_asked_of m h k stages (Some s) is = has_item m h k s s.waiting is

  has_asked : (m : ℕ) (h : Contexts) (stages : List Stage) (k : ℕ) → Has m h → HasThird Has m (asked_at h stages k)
  has_asked m h stages zero is = is
  has_asked m h stages (suc k) is = has_asked_of m h k stages (slice_get stages k) is

  in_none_asked : (m : ℕ) (xh : Exchange × Hub) → InBoth Has m xh → InThird Has m (with_none xh)
  in_none_asked m (x, hub) is = is

  in_asks_as : (m : ℕ) (response : Bool) (n : ℕ) (a : Asking) (x : Exchange) (hub : Hub) → In Has m hub → InThird Has m (asks_as response n a x hub)
  in_asks_as m response n Nothing x hub is = is
  in_asks_as m response n (Over k) x hub is =
      in_none_asked m (with_marks (finish_put response n passed.Over x hub)) (in_marking m (finish_put response n passed.Over x hub) (in_passed_on Has closed m response n passed.Over x hub is))
  in_asks_as m response n (Asks ask) x hub is = is

  in_asks_chain : (m : ℕ) (response : Bool) (n : ℕ) (x : Exchange) (hub : Hub) (r : Asking × List Stage × Contexts) → HasThird Has m r → InThird Has m (asks_chain response n x hub r)
  in_asks_chain m response n x hub (a, stages, h) is = in_asks_as m response n a (with_chain response stages x) (with_held h hub) is

  in_asks_with : (m : ℕ) (line : Line) (r : Option Asked × Exchange × Hub) → InThird Has m r → InThird Has m (asks_with line r)
  in_asks_with m line (a, x, hub) is = is

  in_asks_in : (m : ℕ) (line : Line) (o : Option Exchange) (hub : Hub) → In Has m hub → InThird Has m (asks_in line o hub)
  in_asks_in m line None hub is = is
  in_asks_in m line (Some x) hub is =
      in_asks_with m line (asks_exchange line.number x hub)
      (in_asks_chain m (asks_response x) line.number x hub (asked hub.contexts (chain_of (asks_response x) x)) (has_asked m hub.contexts (chain_of (asks_response x) x) _ is))

  in_asks_back : (m place : ℕ) (lines : List Line) (r : Option Asked × Line × Hub) → InThird Has m r → InThird Has m (asks_back place lines r)
  in_asks_back m place lines (a, line, hub) is = is

  pub in_asks_at : (m place : ℕ) (o : Option Line) (lines : List Line) (hub : Hub) → In Has m hub → InThird Has m (asks_at place o lines hub)
  in_asks_at m place None lines hub is = is
  in_asks_at m place (Some line) lines hub is = in_asks_back m place lines (asks_line line hub) (in_asks_in m line line.exchange hub is)

-- ---- rooms

module _ (Has : ℕ → Contexts → Type 0) (closed : IsClosed Has) (m : ℕ) (D : ℕ → Type 0) where
  pub to_lines : (room : Room) (r : List Line × Hub) → Stands Has m D room → In Has m r.1 → Stands Has m D (with_lines room r)
  to_lines room (lines, hub) s is = (is, s.1)

  pub to_number : (change : Changes) → Keeping Has change → (number : ℕ) (room : Room) → Stands Has m D room → Stands Has m D (on_number change number room)
  to_number change keep number room s = to_lines room (at_place change room.lines (place_in number room.lines) room.hub) s (in_place Has closed m change keep room.lines (place_in number room.lines) room.hub s.0)

  to_context : (change : Changes) → Keeping Has change → (vm context : ℕ) (room : Room) → Stands Has m D room → Stands Has m D (on_context change vm context room)
  to_context change keep vm context room s =
      to_lines room (at_place change room.lines (place_of vm context room.lines) room.hub) s (in_place Has closed m change keep room.lines (place_of vm context room.lines) room.hub s.0)

  to_all : (change : Changes) → Keeping Has change → (room : Room) → Stands Has m D room → Stands Has m D (with_lines room (all_lines change room.lines room.hub))
  to_all change keep room s = to_lines room (all_lines change room.lines room.hub) s (in_all Has closed m change keep room.lines room.hub s.0)

  -- ---- effects

  to_does : (vm : ℕ) (own : Owner) (context : ℕ) (w : EffectKind) (room : Room) → Stands Has m D room → Stands Has m D (apply_effect vm own context w room)
  to_does vm own context (what.Continue response) room s =
      pick (Stands Has m D) (is_own own context response) room (on_context (passing.resume_context vm context response) vm context room) s
      (to_context (passing.resume_context vm context response) (resumes_keeps Has closed vm context response) vm context room s)
  to_does vm own context (what.Call request) room s = (closed.calls m _ room.hub.contexts s.0, s.1)
  to_does vm own context what.Close room s = to_context passing.close_exchange (closed_keeps Has closed) vm context room s
  to_does vm own context (what.Answer status fields body) room s =
      to_context (apply_change (changes.Answer status fields body)) (answer_keeps Has closed status fields.pairs body) vm context room s

  pub to_effects : (vm : ℕ) (own : Owner) (es : List Effect) (room : Room) → Stands Has m D room → Stands Has m D (effects_of vm own es room)
  to_effects vm own [] room s = s
  to_effects vm own (e ∷ es) room s = to_effects vm own es (apply_effect vm own e.context e.what room) (to_does vm own e.context e.what room s)

  -- ---- deaths

  still_dead : (vm wm : ℕ) (death : Death) (room : Room) → is_dead wm room ≡ true → is_dead wm (lose_vm_in vm death room) ≡ true
  still_dead vm wm death room is =
      list_any-append (λ (d : ℕ). d == wm) room.dead (vm ∷ []) ∙ or_left (list_any (λ (d : ℕ). d == wm) room.dead) (list_any (λ (d : ℕ). d == wm) (vm ∷ [])) is

  pub now_dead : (vm : ℕ) (death : Death) (room : Room) → is_dead vm (lose_vm_in vm death room) ≡ true
  now_dead vm death room =
      list_any-append (λ (d : ℕ). d == vm) room.dead (vm ∷ [])
      ∙ or_right (list_any (λ (d : ℕ). d == vm) room.dead) (list_any (λ (d : ℕ). d == vm) (vm ∷ [])) (or_left (vm == vm) false (eq-eqb vm vm refl))

  pub to_died : (vm : ℕ) (death : Death) (room : Room) → Stands Has m D room → Stands Has m D (lose_vm_in vm death room)
  to_died vm death room s = (in_all Has closed m (passing.lose_vm vm) (dies_keeps Has closed vm) room.lines _ s.0, λ wm d. still_dead vm wm death room (s.1 wm d))

  -- ---- what comes after a callback

  abbrev pub KeepsThen : Then → Type 0
  KeepsThen after_callback = (value : Option (Option ℕ)) (room : Room) → Stands Has m D room → Stands Has m D (after_callback value room)

  pub nothing_keeps : KeepsThen nothing_more
  nothing_keeps value room s = s

  pub unless_zero_keeps : (vm : ℕ) (death : Death) → KeepsThen (unless_zero vm death)
  unless_zero_keeps vm death None room s = s
  unless_zero_keeps vm death (Some value) room s = pick (Stands Has m D) (is_zero value) (lose_vm_in vm death room) room (to_died vm death room s) s

  pub done_keeps : (c : ContextAt) → KeepsThen (finish_context c)
  done_keeps c None room s = s
  done_keeps c (Some value) room s =
      pick (Stands Has m D) (is_zero value) (await_done c room) (with_jobs_first (last_jobs c) room)
      (pick (Stands Has m D) (has_vm c.vm room.hub.contexts) (with_contexts (await_done_of c.vm c.context room.hub.contexts) (record room { waits = room.waits ++ c ∷ [] })) room
      (has_awaited Has closed m c.vm c.context room.hub.contexts s.0, s.1) s) s

  pub deletes_keeps : (c : ContextAt) → KeepsThen (delete_context c)
  deletes_keeps c value room s =
      pick (Stands Has m D) (has_vm c.vm room.hub.contexts && contains c.context (seen room.hub.contexts c.vm).common.ids) (with_contexts (delete_id c.vm c.context room.hub.contexts) room) room
      (has_deleted Has closed m c.vm c.context room.hub.contexts s.0, s.1) s

  -- ---- callouts

  pub to_calls : (calls : List Callout) (room : Room) → Stands Has m D room → Stands Has m D (with_calls calls room)
  to_calls calls room s = (closed.calls m _ room.hub.contexts s.0, s.1)

  to_call_step : (step : Option CallStep) (room : Room) → Stands Has m D room → Stands Has m D (callouts.with_call_step step room)
  to_call_step None room s = s
  to_call_step (Some step) room s = s

  pub to_after : (a : After) (room : Room) → Stands Has m D room → Stands Has m D (callouts.take_after a room)
  to_after a room s = to_call_step a.next (record room { calls = a.calls }) s

  pub to_answer : (answer : Option CallAnswer) (vm e : ℕ) (room : Room) → Stands Has m D room → Stands Has m D (callouts.put_call_answer answer vm e room)
  to_answer answer vm e room s = (has_answer Has closed m answer (own_at room.hub.contexts vm e) vm e room.hub.contexts s.0, s.1)

  pub answer_keeps_none : (vm e : ℕ) → KeepsThen (drop_answer vm e)
  answer_keeps_none vm e value room s = to_answer None vm e room s

  pub acts_on_keeps : (a : Asked) → KeepsThen (apply_stage_action a)
  acts_on_keeps a None room s = s
  acts_on_keeps a (Some value) room s = to_number (passing.apply_action a.response a.ask.stage (action_of value)) (acts_keeps Has closed a.response a.ask.stage (action_of value)) a.line room s

  -- ---- roots and streams

  abbrev pub StandsThere : Option NewContext × Room → Type 0
  StandsThere (c, room) = Stands Has m D room

  pub to_root : (vm plugin : ℕ) (first : Bool) (room : Room) → Stands Has m D room → StandsThere (create_root vm plugin first room)
  to_root vm plugin first room s =
      pick StandsThere (is_dead vm room || not (may_root vm plugin room.hub.contexts)) (None, room) _ s
      (pick StandsThere (is_drawn_out vm room.hub.contexts) (None, lose_vm_in vm deaths.Ids room) _ (to_died vm deaths.Ids room s) (has_root Has closed m vm plugin room.hub.contexts s.0, s.1))

  to_stream_of : (number k : ℕ) (f : Filter) (o : Option ℕ) (room : Room) → Stands Has m D room → StandsThere (create_stream number k f o room)
  to_stream_of number k f None room s = s
  to_stream_of number k f (Some root) room s =
      pick StandsThere (is_dead f.vm room || not (may_stream f.vm root room.hub.contexts)) (None, room) _ s
      (pick StandsThere (is_drawn_out f.vm room.hub.contexts) (None, lose_vm_in f.vm deaths.Ids room) (with_stream number k f root room) (to_died f.vm deaths.Ids room s)
      (has_stream Has closed m f.vm root number room.hub.contexts s.0, s.1))

  to_filter : (number k : ℕ) (o : Option Filter) (room : Room) → Stands Has m D room → StandsThere (create_filter number k o room)
  to_filter number k None room s = s
  to_filter number k (Some f) room s = to_stream_of number k f (plugin_in room.hub.contexts f.plugin).root room s

  pub to_stream : (number k : ℕ) (room : Room) → Stands Has m D room → StandsThere (create_context number k room)
  to_stream number k room s = to_filter number k (filter_at number k room.lines) room s

  -- ---- ticks and notices

  abbrev pub StandsDue : Bool × Room → Type 0
  StandsDue (due, room) = Stands Has m D room

  to_tick_at : (vm root : ℕ) (o : Option (Option Tick)) (room : Room) → Stands Has m D room → StandsDue (tick_of vm root o room)
  to_tick_at vm root None room s = s
  to_tick_at vm root (Some None) room s = s
  to_tick_at vm root (Some (Some t)) room s =
      let h : Contexts = room.hub.contexts in
      let one : Kept = record no_changes { effective = Some root } in
      let mid : Contexts = put one vm h in
      let two : Kept = record no_changes { tick = Some (Some (next_tick room.hub.moment t)) } in
      pick StandsDue (is_due_tick room.hub.moment t && has_vm vm h) (true, with_contexts (with_tick vm root (next_tick room.hub.moment t) h) room) (false, room)
      (closed.put m two vm (effective_of mid vm) mid refl (closed.put m one vm (effective_of h vm) h refl s.0), s.1) s

  pub to_tick : (vm root : ℕ) (room : Room) → Stands Has m D room → StandsDue (tick_root vm root room)
  to_tick vm root room s = to_tick_at vm root (tick_in (vm_in room.hub.contexts vm).contexts root) room s

  pub to_notice : (vm left : ℕ) (reply : Reply) (room : Room) → Stands Has m D room → Stands Has m D (take_notice_reply vm left reply room)
  to_notice vm left (replies.Owed root queue) room s = s
  to_notice vm left replies.Absent room s = s
  to_notice vm left (replies.Value value number) room s = s
  to_notice vm left (replies.Done number) room s = s
  to_notice vm left replies.CasMismatch room s = s
  to_notice vm left replies.Full room s = s
  to_notice vm left (replies.Id queue) room s = s
  to_notice vm left (replies.Item item) room s = s
  to_notice vm left replies.Empty room s = s
  to_notice vm left replies.NoneOwed room s = s

  -- ---- what is read

  to_ends : (r : ReadBatch) (status : Option ℕ) (room : Room) → Stands Has m D room → Stands Has m D (end_reading r status room)
  to_ends r status room s = s

  to_takes : (r : ReadBatch) (item : ChainItem) (room : Room) → Stands Has m D room → Stands Has m D (take_read_item r item room)
  to_takes r item room s = pick (Stands Has m D) (is_last item) _ _ s s

  to_in_contexts : (change : ℕ → Contexts → Contexts) → ((place : ℕ) (h : Contexts) → Has m h → Has m (change place h)) → (o : Option Exchange) (room : Room) → Stands Has m D room → Stands Has m D (in_contexts change o room)
  to_in_contexts change keeps None room s = s
  to_in_contexts change keeps (Some x) room s = (keeps x.place room.hub.contexts s.0, s.1)

  trailers_keep : (up : Bool) (map : Headers) (place : ℕ) (h : Contexts) → Has m h → Has m (put_trailers up map place h)
  trailers_keep false map place h is = closed.view m (λ v. record v { maps = record v.maps { request_trailers = Some map } }) place h (λ v down. down) is
  trailers_keep true map place h is = closed.view m (λ v. record v { maps = record v.maps { response_trailers = Some map } }) place h (λ v down. down) is

  to_part : (plan : Plan) (r : ReadBatch) (part : Part) (room : Room) → Stands Has m D room → Stands Has m D (take_part plan r part room)
  to_part plan r (head_part h) room s =
      pick (Stands Has m D) r.up _ _
      (to_takes r (head_item h) (on_lines (change_line (with_response_head h)) r.line (in_contexts (put_response h.fields) (exchange_on r.line room) room))
      (to_in_contexts (put_response h.fields) (λ place k is. closed.view m (λ v. record v { maps = record v.maps { response = Some h.fields } }) place k (λ v down. down) is) (exchange_on r.line room) room s))
      (to_takes r (head_item h) (begin_exchange_on plan r.line h room) (closed.begin m r.line h.fields room.hub.contexts s.0, s.1))
  to_part plan r (interim_part h) room s = s
  to_part plan r (piece bytes last) room s = to_takes r (items.Piece bytes last) room s
  to_part plan r (trailer_part fields) room s =
      to_takes r items.Trailers (in_contexts (put_trailers r.up (with_fields no_headers fields)) (exchange_on r.line room) room)
      (to_in_contexts (put_trailers r.up (with_fields no_headers fields)) (trailers_keep r.up (with_fields no_headers fields)) (exchange_on r.line room) room s)

  to_stops : (r : ReadBatch) (why : Stop) (room : Room) → Stands Has m D room → Stands Has m D (end_of_read r why room)
  to_stops r rest room s = s
  to_stops r over room s = pick (Stands Has m D) (r.up || is_some (exchange_on r.line room)) _ _ s s
  to_stops r (refusal status) room s = s

  pub to_heard : (plan : Plan) (r : ReadBatch) (h : Heard) (room : Room) → Stands Has m D room → Stands Has m D (after_heard plan r h room)
  to_heard plan r (hands part new) room s = to_part plan r part (on_lines (read_on r.up new) r.line room) s
  to_heard plan r (halts why new) room s = to_stops r why (on_lines (read_on r.up new) r.line room) s

  -- ---- what happens

  to_opens : (number : ℕ) (room : Room) → Stands Has m D room → Stands Has m D (accept_line number room)
  to_opens number room s = pick (Stands Has m D) (is_some (place_in number room.lines)) room _ s (pick (Stands Has m D) (nat_lt (length room.lines) most_lines) _ _ s s)

  to_comes_on : (up stops_now : Bool) (bytes : List ℕ) (number : ℕ) (line : Option Line) (room : Room) → Stands Has m D room → Stands Has m D (receive_on up stops_now bytes number line room)
  to_comes_on up stops_now bytes number line room s =
      pick (Stands Has m D) (is_open (line_reading up line) && not (up && is_answered_in (exchange_of_line line))) _ room
      (pick (Stands Has m D) (is_read_in up (exchange_of_line line)) _ _ s s) s

  to_comes : (up stops_now : Bool) (bytes : List ℕ) (number : ℕ) (room : Room) → Stands Has m D room → Stands Has m D (receive up stops_now bytes number room)
  to_comes up stops_now bytes number room s = to_comes_on up stops_now bytes number (line_in number room.lines) room s

  to_loses_down : (number : ℕ) (o : Option Line) (room : Room) → Stands Has m D room → Stands Has m D (lose_client number o room)
  to_loses_down number None room s = s
  to_loses_down number (Some line) room s = pick (Stands Has m D) (is_some line.exchange) _ _ s s

  to_loses_up : (number : ℕ) (o : Option Exchange) (room : Room) → Stands Has m D room → Stands Has m D (lose_server number o room)
  to_loses_up number o room s = pick (Stands Has m D) (is_missed o) (on_number (passing.refuse_exchange 502) number room) room (to_number (passing.refuse_exchange 502) (refused_keeps Has closed 502) number room s) s

  to_happens : (w : Happening) (room : Room) → Stands Has m D room → Stands Has m D (take_event w room)
  to_happens (whats.Opened number) room s = to_opens number room s
  to_happens (whats.Bytes number Down bytes) room s = to_comes false false bytes number room s
  to_happens (whats.Bytes number Up bytes) room s = to_comes true false bytes number room s
  to_happens (whats.End number Down) room s = to_comes false true [] number room s
  to_happens (whats.End number Up) room s = to_comes true true [] number room s
  to_happens (whats.Gone number Down) room s = to_loses_down number (line_in number room.lines) room s
  to_happens (whats.Gone number Up) room s = to_loses_up number (exchange_on number room) room s
  to_happens (whats.Joined number) room s = s
  to_happens (whats.Refused number) room s = to_loses_up number (exchange_on number room) room s
  to_happens (whats.Room number side) room s = s
  to_happens whats.Clock room s = s
  to_happens whats.Stop room s = s

  -- ---- jobs that call nothing

  to_expires : (room : Room) → Stands Has m D room → Stands Has m D (expire_all room)
  to_expires room s =
      pick (Stands Has m D) (list_any (is_late room.hub.moment) room.lines) (with_lines room (all_lines passing.expire_exchange room.lines room.hub)) room (to_all passing.expire_exchange (expires_keeps Has closed) room s) s

  to_refusal : (number status : ℕ) (room : Room) → Stands Has m D room → Stands Has m D (refusal_sent number status room)
  to_refusal number status room s = pick (Stands Has m D) _ _ room s s

  to_refuses_in : (number status : ℕ) (o : Option Exchange) (room : Room) → Stands Has m D room → Stands Has m D (refuse_in number status o room)
  to_refuses_in number status (Some x) room s = to_number (passing.refuse_exchange status) (refused_keeps Has closed status) number room s
  to_refuses_in number status None room s = to_refusal number status room s

  to_refuses : (o : Option Line) (number status : ℕ) (room : Room) → Stands Has m D room → Stands Has m D (refuse_line o number status room)
  to_refuses None number status room s = s
  to_refuses (Some line) number status room s = to_refuses_in number status line.exchange room s

  to_line_ends : (o : Option Line) (number : ℕ) (stays : Bool) (room : Room) → Stands Has m D room → Stands Has m D (end_line o number stays room)
  to_line_ends None number stays room s = s
  to_line_ends (Some line) number stays room s = pick (Stands Has m D) line.is_gone _ _ s (pick (Stands Has m D) stays _ _ s s)

  pub to_quietly : (job : Job) (room : Room) → Stands Has m D room → Stands Has m D (run_silent_job job room)
  to_quietly (jobs.Other step) room s = s
  to_quietly (jobs.Begin vm) room s = s
  to_quietly (jobs.Root vm plugin first) room s = s
  to_quietly (jobs.Start vm root) room s = s
  to_quietly (jobs.Configure vm root plugin) room s = s
  to_quietly (jobs.Tick vm root) room s = s
  to_quietly jobs.Expire room s = to_expires room s
  to_quietly (jobs.Happen w) room s = to_happens w room s
  to_quietly (jobs.Create number k) room s = s
  to_quietly (jobs.Enter number) room s = to_number (enter_stages room.dead) (λ m n x hub is. is) number room s
  to_quietly (jobs.Put number response list) room s = to_number (passing.put_read_items response list) (put_in_keeps Has closed response list) number room s
  to_quietly (jobs.Refuse number status) room s = to_refuses (line_in number room.lines) number status room s
  to_quietly (jobs.Done c) room s = s
  to_quietly (jobs.Log c) room s = s
  to_quietly (jobs.Delete c) room s = s
  to_quietly (jobs.Close number stays) room s = to_line_ends (line_in number room.lines) number stays room s
  to_quietly (jobs.Notice vm left) room s = s
  to_quietly (jobs.Ready vm root queue) room s = s

  -- ---- the other steps

  to_exchange_ends : (o : Option (ℕ × Exchange)) (room : Room) → Stands Has m D room → Stands Has m D (end_exchange_of o room)
  to_exchange_ends None room s = s
  to_exchange_ends (Some (number, x)) room s = (has_ended_one Has closed m x.place (none_held x room.hub).contexts (in_none Has closed m x room.hub s.0), s.1)

  to_ends_with : (room : Room) (r : Option (ℕ × Exchange) × List Line) → Stands Has m D room → Stands Has m D (end_with room r)
  to_ends_with room (x, lines) s = to_exchange_ends x (record room { lines = lines }) s

  pub to_ends_at : (place : ℕ) (room : Room) → Stands Has m D room → Stands Has m D (end_at place room)
  to_ends_at place room s = to_ends_with room (ended_at place (slice_get room.lines place) room.lines) s

  pub to_begun : (parts : List Job) (room : Room) → Stands Has m D room → Stands Has m D (begin_first_job parts room)
  to_begun [] room s = s
  to_begun (job ∷ later) room s = s

  pub to_frees : (at : ℕ) (o : Option ContextAt) (room : Room) → Stands Has m D room → Stands Has m D (release_at at o room)
  to_frees at None room s = s
  to_frees at (Some c) room s = s

-- ---- a callback ended

abbrev pub IsDeath : CallbackEnd → Type 0
IsDeath (call_ends.Returned value) = ⊥
IsDeath (call_ends.Died death) = Unit {0}

-- where a callback of a VM died, its VM is one of the dead
module _ (Has : ℕ → Contexts → Type 0) (closed : IsClosed Has) (m : ℕ) (D E : ℕ → Type 0) where
  to_behind : (vm : ℕ) (own : Owner) (end : CallbackEnd) (es : List Effect) (room : Room) → ((wm : ℕ) → E wm → D wm ⊎ ((wm ≡ vm) × IsDeath end)) → Stands Has m D room → Stands Has m E (after_callback vm own end es room)
  to_behind vm own (call_ends.Returned value) es room lost s =
      to_effects Has closed m E vm own es room (s.0, λ wm e. ⊎_elim (s.1 wm) (λ (no : (wm ≡ vm) × ⊥). absurd no.1) (lost wm e))
  to_behind vm own (call_ends.Died death) es room lost s =
      let all : Stands Has m D (lose_vm_in vm death room) = to_died Has closed m D vm death room s in
      (all.0, λ wm e. ⊎_elim (all.1 wm) (λ (own_death : (wm ≡ vm) × Unit {0}). subst (λ (n : ℕ). is_dead n (lose_vm_in vm death room) ≡ true) (sym own_death.0) (now_dead Has closed m D vm death room)) (lost wm e))

  pub to_answered : (vm : ℕ) (own : Owner) (end : CallbackEnd) (lines : List Sent) (h : Contexts) (room : Room) → ((wm : ℕ) → E wm → D wm ⊎ ((wm ≡ vm) × IsDeath end)) → Has m h → Stands Has m D room
      → Stands Has m E (take_callback_end vm own end lines h room)
  to_answered vm own end lines h room lost is s = to_behind vm own end h.effects (without_effects (room_with_sent lines (with_contexts h room))) lost (closed.effects m [] h is, s.1)
