-- What a worker sends, but for what it sends for callouts: nothing on the line of a number that no client's line has.
use Rattle.std.proofs.Common.{◌≡◌, ℕ, zero, suc, ◌==◌, Bool, true, false, not, ◌||◌, ◌&&◌, cond, List, [], ◌∷◌, ◌++◌, length, refl, ap, ◌∙◌, subst}
use Rattle.std.proofs.lemmas.List.{append-nil}
use Rattle.std.proofs.lemmas.List.Elements.{filter-append}
use Rattle.std.specs.List.{list_any}
use Rattle.std.specs.Prelude.{Option, None, Some, is_some, nat_lt, slice_get}
use Rattle.contexts.specs.Creating.{next_id, plugin_in, root_created, await_done_of, delete_id}
use Rattle.contexts.specs.Reached.{vm_in, tick_in, contains, seen}
use Rattle.contexts.specs.declared.parts.Contexts.{Contexts}
use Rattle.contexts.specs.declared.parts.EffectKind.TheVariants as what
use Rattle.contexts.specs.declared.parts.Tick.{Tick}
use Rattle.exchange.specs.declared.types.Exchange.{Exchange}
use Rattle.exchange.specs.declared.types.Filter.{Filter}
use Rattle.exchange.specs.declared.types.Hub.{Hub}
use Rattle.exchange.specs.Heads.{is_final}
use Rattle.exchange.specs.Leaving.{bytes_sent_to as sending_to}
use Rattle.exchange.specs.Maps.{put_response, with_fields}
use Rattle.exchange.specs.Passing as passing
use Rattle.filter_chain.specs.declared.item.ChainItem.{ChainItem}
use Rattle.filter_chain.specs.declared.item.ChainItem.TheVariants as items
use Rattle.filter_host.specs.Heard.{Heard, hands, halts}
use Rattle.filter_host.specs.declared.host.Death.{Death}
use Rattle.filter_host.specs.declared.host.Death.TheVariants as deaths
use Rattle.gate_io.specs.declared.event.Sent.{Sent}
use Rattle.gate_io.specs.declared.event.Sent.TheVariants as to
use Rattle.gate_io.specs.declared.event.Side.{Side}
use Rattle.gate_io.specs.declared.event.Side.TheVariants.{Down, Up}
use Rattle.gate_io.specs.declared.event.What.{What}
use Rattle.gate_io.specs.declared.event.What.TheVariants as whats
use Rattle.header_maps.specs.Headers.{Headers}
use Rattle.header_maps.specs.Operations.{no_headers}
use Rattle.h1_model.specs.Messages.{Stop, rest, over, refusal}
use Rattle.h1_model.specs.Unread.{Part, head_part, interim_part, piece, trailer_part, Reading}
use Rattle.store_model.specs.declared.call.Reply.{Reply}
use Rattle.store_model.specs.declared.call.Reply.TheVariants as replies
use Rattle.worker_model.specs.Changes.{apply_change}
use Rattle.worker_model.specs.Moves.{asks_exchange, asks_in, asks_back, asks_at, ended_in, ended_back, ended_at}
use Rattle.worker_model.specs.Plan.{Plan}
use Rattle.worker_model.specs.Room.{Room}
use Rattle.worker_model.specs.Rooms.{Changes, in_exchange, in_line, at_some, at_place, all_lines, place_in, place_of, with_lines, on_number, on_context, with_contexts, room_with_sent, is_own, is_dead, death_text, lose_vm_in, apply_effect}
use Rattle.worker_model.specs.Steps.{Then, is_zero, action_of, with_jobs_first, unless_zero, has_vm, await_done, last_jobs, finish_context, delete_context, apply_stage_action, is_drawn_out, may_root, create_root, with_stream, may_stream, create_stream, create_filter, filter_at, create_context, enter_stages, begin_exchange_on, head_item, with_response_head, change_line, exchange_on, in_contexts, put_trailers, take_read_item, add_read_item, take_part, interim_of, end_of_read, after_heard, on_lines, read_on, end_reading, is_last, with_item, with_read_mark, line_in, line_reading, exchange_of_line, end_line, drop_line, close_line, read_side, fixed_answer, refusal_sent, refuse_in, refuse_line, most_lines, accept_line, receive_on, is_open, is_answered_in, is_read_in, lose_client, is_missed, lose_server, take_event, close_up, end_exchange_of, end_with, end_at, tick_of, tick_root, is_due_tick, is_late, expire_all, take_notice_reply, run_silent_job}
use Rattle.worker_model.specs.declared.types.Asked.{Asked}
use Rattle.worker_model.specs.declared.types.Change.TheVariants as changes
use Rattle.worker_model.specs.declared.types.ContextAt.{ContextAt}
use Rattle.worker_model.specs.declared.types.Job.{Job}
use Rattle.worker_model.specs.declared.types.Job.TheVariants as jobs
use Rattle.worker_model.specs.declared.types.Line.{Line}
use Rattle.worker_model.specs.declared.types.NewContext.{NewContext}
use Rattle.worker_model.specs.declared.types.Owner.{Owner}
use Rattle.worker_model.specs.declared.types.ReadBatch.{ReadBatch}
use Rattle.law_exchange.specs.Lives.{resumes, closes, answers, acts, dies, refuses, expires}
use Rattle.law_exchange.specs.Own.{IsOn, AreOn, SendsOn}
use Rattle.law_lines.specs.Isolation.{lines_on, IsFree, is_sent_on, sent_on, is_event_of, is_at, is_job_of, is_work_of}
use Rattle.law_lines.specs.Logs.{AreLogs}
use Rattle.law_lines.proofs.Calls.{asks_on}
use Rattle.law_lines.proofs.Kept.{by_bool}
use Rattle.law_lines.proofs.Looks.{other_by}
use Rattle.law_lines.proofs.Spared.{enters_on, puts_on}
use Rattle.law_lines.proofs.Untouched.{OnItsLine, by_deed}

module _ (n : ℕ) where
  -- ---- what is sent on other lines

  on_other : (m : ℕ) (more : List Sent) → (m == n) ≡ false → AreOn m more → sent_on n more ≡ []
  on_other m [] other on = refl
  on_other m (s ∷ more) other on = ap (λ (b : Bool). cond b (s ∷ sent_on n more) (sent_on n more)) (one s on.0) ∙ on_other m more other on.1
    where
      one : (s : Sent) → IsOn m s → is_sent_on n s ≡ false
      one (to.Connect k) is = ap (λ (a : ℕ). a == n) is ∙ other
      one (to.Bytes k side bytes) is = ap (λ (a : ℕ). a == n) is ∙ other
      one (to.Close k side) is = absurd is
      one (to.Log level text) is = absurd is

  pub no_logs : (more : List Sent) → AreLogs more → sent_on n more ≡ []
  no_logs [] are = refl
  no_logs (to.Connect m ∷ more) are = absurd are.0
  no_logs (to.Bytes m side bytes ∷ more) are = absurd are.0
  no_logs (to.Close m side ∷ more) are = absurd are.0
  no_logs (to.Log level text ∷ more) are = no_logs more are.1

  pub more_sent : (old more new : List Sent) → new ≡ old ++ more → sent_on n more ≡ [] → sent_on n new ≡ sent_on n old
  more_sent old more new is none = ap (sent_on n) is ∙ (filter-append (is_sent_on n) old more ∙ (ap (λ (t : List Sent). sent_on n old ++ t) none ∙ append-nil (sent_on n old)))

  sending_other : (m : ℕ) (side : Side) (bytes : List ℕ) → (m == n) ≡ false → sent_on n (sending_to m side bytes) ≡ []
  sending_other m side [] other = refl
  sending_other m side (b ∷ bytes) other = ap (λ (c : Bool). cond c (to.Bytes m side (b ∷ bytes) ∷ []) []) other

  close_other : (m : ℕ) (side : Side) → (m == n) ≡ false → sent_on n (to.Close m side ∷ []) ≡ []
  close_other m side other = ap (λ (c : Bool). cond c (to.Close m side ∷ []) []) other

  close_up_other : (m : ℕ) (o : Option Reading) → (m == n) ≡ false → sent_on n (close_up m o) ≡ []
  close_up_other m None other = refl
  close_up_other m (Some reading) other = close_other m Up other

  -- ---- no line has the number

  clear_split : (l : Line) (lines : List Line) → lines_on n (l ∷ lines) ≡ [] → ((l.number == n) ≡ false) × (lines_on n lines ≡ [])
  clear_split l lines clear = by_test (l.number == n) refl clear
    where
      by_test : (b : Bool) → (l.number == n) ≡ b → cond b (l ∷ lines_on n lines) (lines_on n lines) ≡ [] → ((l.number == n) ≡ false) × (lines_on n lines ≡ [])
      by_test true is none = absurd (cc)
      by_test false is none = (is, none)

  clear_at : (lines : List Line) (k : ℕ) (l : Line) → lines_on n lines ≡ [] → slice_get lines k ≡ Some l → (l.number == n) ≡ false
  clear_at [] k l clear at = absurd (cc)
  clear_at (x ∷ xs) zero l clear at = let here : x ≡ l = (cc) in subst (λ (y : Line). (y.number == n) ≡ false) here (clear_split x xs clear).0
  clear_at (x ∷ xs) (suc k) l clear at = clear_at xs k l (clear_split x xs clear).1 at

  pub clear_free : (lines : List Line) → lines_on n lines ≡ [] → IsFree n lines
  clear_free [] clear = tt
  clear_free (l ∷ lines) clear = let s = clear_split l lines clear in ((λ e. absurd (other_by l.number n s.0 e)), clear_free lines s.1)

  -- ---- what is done to exchanges is sent on their lines

  line_sends : (change : Changes) → OnItsLine change → (l : Line) (o : Option Exchange) (hub : Hub) → (l.number == n) ≡ false → sent_on n (in_exchange change l o hub).1.sent ≡ sent_on n hub.sent
  line_sends change on l None hub away = refl
  line_sends change on l (Some x) hub away =
      let s : SendsOn l.number hub (change l.number x hub).1 = on.sends l.number x hub in
      more_sent hub.sent s.more (change l.number x hub).1.sent s.adds (on_other l.number s.more away s.own)

  all_sends : (change : Changes) → OnItsLine change → (lines : List Line) (hub : Hub) → lines_on n lines ≡ [] → sent_on n (all_lines change lines hub).1.sent ≡ sent_on n hub.sent
  all_sends change on [] hub clear = refl
  all_sends change on (l ∷ lines) hub clear =
      let s = clear_split l lines clear in
      all_sends change on lines (in_line change l hub).1 s.1 ∙ line_sends change on l l.exchange hub s.0

  some_sends : (change : Changes) → OnItsLine change → (lines : List Line) (k : ℕ) (o : Option Line) (hub : Hub) → lines_on n lines ≡ [] → slice_get lines k ≡ o
      → sent_on n (at_some change lines k o hub).1.sent ≡ sent_on n hub.sent
  some_sends change on lines k None hub clear at = refl
  some_sends change on lines k (Some l) hub clear at = line_sends change on l l.exchange hub (clear_at lines k l clear at)

  place_sends : (change : Changes) → OnItsLine change → (lines : List Line) (o : Option ℕ) (hub : Hub) → lines_on n lines ≡ [] → sent_on n (at_place change lines o hub).1.sent ≡ sent_on n hub.sent
  place_sends change on lines None hub clear = refl
  place_sends change on lines (Some k) hub clear = some_sends change on lines k (slice_get lines k) hub clear refl

  -- ---- rooms

  abbrev pub Says : Room → Room → Type 0
  Says old new = sent_on n new.hub.sent ≡ sent_on n old.hub.sent

  abbrev pub IsClear : Room → Type 0
  IsClear room = lines_on n room.lines ≡ []

  number_says : (change : Changes) → OnItsLine change → (m : ℕ) (room : Room) → IsClear room → Says room (on_number change m room)
  number_says change on m room clear = place_sends change on room.lines (place_in m room.lines) room.hub clear

  context_says : (change : Changes) → OnItsLine change → (vm context : ℕ) (room : Room) → IsClear room → Says room (on_context change vm context room)
  context_says change on vm context room clear = place_sends change on room.lines (place_of vm context room.lines) room.hub clear

  -- the effects of a callback but for callouts
  pub continue_says : (vm : ℕ) (own : Owner) (context : ℕ) (response : Bool) (room : Room) → IsClear room → Says room (apply_effect vm own context (what.Continue response) room)
  continue_says vm own context response room clear =
      by_bool (Says room) (is_own own context response) room (on_context (passing.resume_context vm context response) vm context room) (λ e. refl)
      (λ e. context_says (passing.resume_context vm context response) (by_deed (resumes vm context response) tt) vm context room clear)

  pub closing_says : (vm : ℕ) (own : Owner) (context : ℕ) (room : Room) → IsClear room → Says room (apply_effect vm own context what.Close room)
  closing_says vm own context room clear = context_says passing.close_exchange (by_deed closes tt) vm context room clear

  pub answer_says : (vm : ℕ) (own : Owner) (context status : ℕ) (fields : Headers) (body : List ℕ) (room : Room) → IsClear room → Says room (apply_effect vm own context (what.Answer status fields body) room)
  answer_says vm own context status fields body room clear =
      context_says (apply_change (changes.Answer status fields body)) (by_deed (answers false status fields.pairs body) tt) vm context room clear

  pub died_says : (vm : ℕ) (death : Death) (room : Room) → IsClear room → Says room (lose_vm_in vm death room)
  died_says vm death room clear =
      let told : Room = room_with_sent (to.Log _ (death_text (vm_in room.hub.contexts vm).name death) ∷ []) room in
      all_sends (passing.lose_vm vm) (by_deed (dies vm) tt) room.lines told.hub clear
      ∙ more_sent room.hub.sent (to.Log _ (death_text (vm_in room.hub.contexts vm).name death) ∷ []) told.hub.sent refl refl

  -- ---- what comes after callbacks

  abbrev pub SaysThen : Then → Type 0
  SaysThen behind = (value : Option (Option ℕ)) (room : Room) → IsClear room → Says room (behind value room)

  pub zero_says : (vm : ℕ) (death : Death) → SaysThen (unless_zero vm death)
  zero_says vm death None room clear = refl
  zero_says vm death (Some value) room clear = by_bool (Says room) (is_zero value) (lose_vm_in vm death room) room (λ e. died_says vm death room clear) (λ e. refl)

  pub done_says : (c : ContextAt) → SaysThen (finish_context c)
  done_says c None room clear = refl
  done_says c (Some value) room clear =
      by_bool (Says room) (is_zero value) (await_done c room) (with_jobs_first (last_jobs c) room)
      (λ e. by_bool (Says room) (has_vm c.vm room.hub.contexts) (with_contexts (await_done_of c.vm c.context room.hub.contexts) (record room { waits = room.waits ++ c ∷ [] })) room (λ d. refl) (λ d. refl)) (λ e. refl)

  pub deletes_says : (c : ContextAt) → SaysThen (delete_context c)
  deletes_says c value room clear =
      by_bool (Says room) (has_vm c.vm room.hub.contexts && contains c.context (seen room.hub.contexts c.vm).common.ids) (with_contexts (delete_id c.vm c.context room.hub.contexts) room) room (λ e. refl) (λ e. refl)

  pub acts_says : (a : Asked) → SaysThen (apply_stage_action a)
  acts_says a None room clear = refl
  acts_says a (Some value) room clear = number_says (passing.apply_action a.response a.ask.stage (action_of value)) (by_deed (acts a.response a.ask.stage (action_of value)) tt) a.line room clear

  -- ---- contexts are made, ticks and notices

  pub root_says : (vm plugin : ℕ) (is_first : Bool) (room : Room) → IsClear room → Says room (create_root vm plugin is_first room).1
  root_says vm plugin is_first room clear =
      by_bool (λ (p : Option NewContext × Room). Says room p.1) (is_dead vm room || not (may_root vm plugin room.hub.contexts)) (None, room) _ (λ e. refl)
      (λ e. by_bool (λ (p : Option NewContext × Room). Says room p.1) (is_drawn_out vm room.hub.contexts) (None, lose_vm_in vm deaths.Ids room) _ (λ d. died_says vm deaths.Ids room clear) (λ d. refl))

  pub stream_says : (number k : ℕ) (room : Room) → IsClear room → Says room (create_context number k room).1
  stream_says number k room clear = by_filter (filter_at number k room.lines)
    where
      by_root : (f : Filter) (r : Option ℕ) → Says room (create_stream number k f r room).1
      by_root f None = refl
      by_root f (Some root) =
          by_bool (λ (p : Option NewContext × Room). Says room p.1) (is_dead f.vm room || not (may_stream f.vm root room.hub.contexts)) (None, room) _ (λ e. refl)
          (λ e. by_bool (λ (p : Option NewContext × Room). Says room p.1) (is_drawn_out f.vm room.hub.contexts) (None, lose_vm_in f.vm deaths.Ids room) (with_stream number k f root room) (λ d. died_says f.vm deaths.Ids room clear) (λ d. refl))

      by_filter : (o : Option Filter) → Says room (create_filter number k o room).1
      by_filter None = refl
      by_filter (Some f) = by_root f (plugin_in room.hub.contexts f.plugin).root

  pub ticked_says : (vm root : ℕ) (room : Room) → Says room (tick_root vm root room).1
  ticked_says vm root room = by_tick (tick_in (vm_in room.hub.contexts vm).contexts root)
    where
      by_tick : (o : Option (Option Tick)) → Says room (tick_of vm root o room).1
      by_tick None = refl
      by_tick (Some None) = refl
      by_tick (Some (Some t)) = by_bool (λ (p : Bool × Room). Says room p.1) (is_due_tick room.hub.moment t && has_vm vm room.hub.contexts) _ (false, room) (λ e. refl) (λ e. refl)

  pub noticed_says : (vm left : ℕ) (reply : Reply) (room : Room) → Says room (take_notice_reply vm left reply room)
  noticed_says vm left (replies.Owed root queue) room = refl
  noticed_says vm left replies.Absent room = refl
  noticed_says vm left (replies.Value value number) room = refl
  noticed_says vm left (replies.Done number) room = refl
  noticed_says vm left replies.CasMismatch room = refl
  noticed_says vm left replies.Full room = refl
  noticed_says vm left (replies.Id queue) room = refl
  noticed_says vm left (replies.Item item) room = refl
  noticed_says vm left replies.Empty room = refl
  noticed_says vm left replies.NoneOwed room = refl

  -- ---- other lines come and go

  closes_says : (m : ℕ) (room : Room) → (m == n) ≡ false → Says room (close_line m room)
  closes_says m room other = more_sent room.hub.sent (to.Close m Down ∷ []) (close_line m room).hub.sent refl (close_other m Down other)

  line_ends_says : (m : ℕ) (o : Option Line) (stays : Bool) (room : Room) → (m == n) ≡ false → Says room (end_line o m stays room)
  line_ends_says m None stays room other = refl
  line_ends_says m (Some line) stays room other =
      by_bool (Says room) line.is_gone (drop_line m room) _ (λ e. refl)
      (λ e. by_bool (Says room) stays (read_side m false room) (close_line m room) (λ d. refl) (λ d. closes_says m room other))

  refusal_says : (m status : ℕ) (room : Room) → (m == n) ≡ false → Says room (refusal_sent m status room)
  refusal_says m status room other =
      by_bool (Says room) (is_final status) (room_with_sent (sending_to m Down (fixed_answer status room.hub.moment)) room) room
      (λ e. more_sent room.hub.sent (sending_to m Down (fixed_answer status room.hub.moment)) _ refl (sending_other m Down (fixed_answer status room.hub.moment) other)) (λ e. refl)

  refused_says : (m status : ℕ) (room : Room) → IsClear room → Says room (on_number (passing.refuse_exchange status) m room)
  refused_says m status room clear = number_says (passing.refuse_exchange status) (by_deed (refuses status) tt) m room clear

  refuses_in_says : (m status : ℕ) (o : Option Exchange) (room : Room) → (m == n) ≡ false → IsClear room → Says room (refuse_in m status o room)
  refuses_in_says m status (Some x) room other clear = refused_says m status room clear
  refuses_in_says m status None room other clear = closes_says m (refusal_sent m status room) other ∙ refusal_says m status room other

  refuses_says : (m status : ℕ) (o : Option Line) (room : Room) → (m == n) ≡ false → IsClear room → Says room (refuse_line o m status room)
  refuses_says m status None room other clear = refl
  refuses_says m status (Some line) room other clear = refuses_in_says m status line.exchange room other clear

  comes_says : (m : ℕ) (up stops_now : Bool) (bytes : List ℕ) (o : Option Line) (room : Room) → Says room (receive_on up stops_now bytes m o room)
  comes_says m up stops_now bytes o room =
      by_bool (Says room) (is_open (line_reading up o) && not (up && is_answered_in (exchange_of_line o))) _ room
      (λ e. by_bool (Says room) (is_read_in up (exchange_of_line o)) _ _ (λ d. refl) (λ d. refl)) (λ e. refl)

  loses_down_says : (m : ℕ) (o : Option Line) (room : Room) → Says room (lose_client m o room)
  loses_down_says m None room = refl
  loses_down_says m (Some line) room = by_bool (Says room) (is_some line.exchange) _ (drop_line m room) (λ e. refl) (λ e. refl)

  loses_up_says : (m : ℕ) (o : Option Exchange) (room : Room) → IsClear room → Says room (lose_server m o room)
  loses_up_says m o room clear = by_bool (Says room) (is_missed o) (on_number (passing.refuse_exchange 502) m room) room (λ e. refused_says m 502 room clear) (λ e. refl)

  opens_says : (m : ℕ) (room : Room) → (m == n) ≡ false → Says room (accept_line m room)
  opens_says m room other =
      by_bool (Says room) (is_some (place_in m room.lines)) room _ (λ e. refl)
      (λ e. by_bool (Says room) (nat_lt (length room.lines) most_lines) _ (room_with_sent (to.Close m Down ∷ []) room) (λ d. refl)
      (λ d. more_sent room.hub.sent (to.Close m Down ∷ []) (room_with_sent (to.Close m Down ∷ []) room).hub.sent refl (close_other m Down other)))

  happens_says : (w : What) (room : Room) → is_event_of n w ≡ false → IsClear room → Says room (take_event w room)
  happens_says (whats.Opened m) room other clear = opens_says m room other
  happens_says (whats.Bytes m Down bytes) room other clear = comes_says m false false bytes (line_in m room.lines) room
  happens_says (whats.Bytes m Up bytes) room other clear = comes_says m true false bytes (line_in m room.lines) room
  happens_says (whats.End m Down) room other clear = comes_says m false true [] (line_in m room.lines) room
  happens_says (whats.End m Up) room other clear = comes_says m true true [] (line_in m room.lines) room
  happens_says (whats.Gone m Down) room other clear = loses_down_says m (line_in m room.lines) room
  happens_says (whats.Gone m Up) room other clear = loses_up_says m (exchange_on m room) room clear
  happens_says (whats.Joined m) room other clear = refl
  happens_says (whats.Refused m) room other clear = loses_up_says m (exchange_on m room) room clear
  happens_says (whats.Room m side) room other clear = refl
  happens_says whats.Clock room other clear = refl
  happens_says whats.Stop room other clear = refl

  expires_says : (room : Room) → IsClear room → Says room (expire_all room)
  expires_says room clear =
      by_bool (Says room) (list_any (is_late room.hub.moment) room.lines) (with_lines room (all_lines passing.expire_exchange room.lines room.hub)) room
      (λ e. all_sends passing.expire_exchange (by_deed expires tt) room.lines room.hub clear) (λ e. refl)

  -- a job of another line, or of none, that calls nothing
  pub quietly_says : (job : Job) (room : Room) → is_work_of n room job ≡ false → IsClear room → Says room (run_silent_job job room)
  quietly_says (jobs.Begin vm) room other clear = refl
  quietly_says (jobs.Root vm plugin is_first) room other clear = refl
  quietly_says (jobs.Start vm root) room other clear = refl
  quietly_says (jobs.Configure vm root plugin) room other clear = refl
  quietly_says (jobs.Tick vm root) room other clear = refl
  quietly_says jobs.Expire room other clear = expires_says room clear
  quietly_says (jobs.Happen w) room other clear = happens_says w room other clear
  quietly_says (jobs.Create m k) room other clear = refl
  quietly_says (jobs.Enter m) room other clear = number_says (enter_stages room.dead) (enters_on room.dead) m room clear
  quietly_says (jobs.Put m response batch) room other clear = number_says (passing.put_read_items response batch) (puts_on response batch) m room clear
  quietly_says (jobs.Refuse m status) room other clear = refuses_says m status (line_in m room.lines) room other clear
  quietly_says (jobs.Done c) room other clear = refl
  quietly_says (jobs.Log c) room other clear = refl
  quietly_says (jobs.Delete c) room other clear = refl
  quietly_says (jobs.Close m stays) room other clear = line_ends_says m (line_in m room.lines) stays room other
  quietly_says (jobs.Notice vm left) room other clear = refl
  quietly_says (jobs.Ready vm root queue) room other clear = refl
  quietly_says (jobs.Other step) room other clear = refl

  -- ---- an exchange ends

  pub ends_says : (place : ℕ) (room : Room) → IsClear room → Says room (end_at place room)
  ends_says place room clear = by_line (slice_get room.lines place) refl
    where
      by_exchange : (line : Line) → (line.number == n) ≡ false → (o : Option Exchange) → Says room (end_with room (ended_back place room.lines (ended_in line o)))
      by_exchange line away None = refl
      by_exchange line away (Some x) = more_sent room.hub.sent (close_up line.number x.reader) _ refl (close_up_other line.number x.reader away)

      by_line : (o : Option Line) → slice_get room.lines place ≡ o → Says room (end_with room (ended_at place o room.lines))
      by_line None at = refl
      by_line (Some line) at = by_exchange line (clear_at room.lines place line clear at) line.exchange

  -- ---- what is read of other lines

  takes_says : (r : ReadBatch) (item : ChainItem) (room : Room) → Says room (take_read_item r item room)
  takes_says r item room =
      let mid : Room = on_lines (change_line (with_read_mark r.up item)) r.line room in
      by_bool (Says room) (is_last item) (end_reading (with_item item r) None mid) (record mid { reading = Some (with_item item r) }) (λ e. refl) (λ e. refl)

  in_contexts_says : (change : ℕ → Contexts → Contexts) (o : Option Exchange) (room : Room) → Says room (in_contexts change o room)
  in_contexts_says change None room = refl
  in_contexts_says change (Some x) room = refl

  part_says : (plan : Plan) (r : ReadBatch) (p : Part) (room : Room) → (r.line == n) ≡ false → Says room (take_part plan r p room)
  part_says plan r (head_part h) room other =
      by_bool (Says room) r.up _ (take_read_item r (head_item h) (begin_exchange_on plan r.line h room))
      (λ up.
      let mid : Room = in_contexts (put_response h.fields) (exchange_on r.line room) room in
      takes_says r (head_item h) (on_lines (change_line (with_response_head h)) r.line mid) ∙ in_contexts_says (put_response h.fields) (exchange_on r.line room) room)
      (λ down. takes_says r (head_item h) (begin_exchange_on plan r.line h room))
  part_says plan r (interim_part h) room other =
      more_sent room.hub.sent (sending_to r.line Down (interim_of (exchange_on r.line room) h)) _ refl (sending_other r.line Down (interim_of (exchange_on r.line room) h) other)
  part_says plan r (piece bytes last) room other = takes_says r (items.Piece bytes last) room
  part_says plan r (trailer_part fields) room other =
      let mid : Room = in_contexts (put_trailers r.up (with_fields no_headers fields)) (exchange_on r.line room) room in
      takes_says r items.Trailers mid ∙ in_contexts_says (put_trailers r.up (with_fields no_headers fields)) (exchange_on r.line room) room

  stops_says : (r : ReadBatch) (why : Stop) (room : Room) → Says room (end_of_read r why room)
  stops_says r rest room = refl
  stops_says r over room = by_bool (Says room) (r.up || is_some (exchange_on r.line room)) _ _ (λ e. refl) (λ e. refl)
  stops_says r (refusal status) room = refl

  pub heard_says : (plan : Plan) (r : ReadBatch) (h : Heard) (room : Room) → (r.line == n) ≡ false → Says room (after_heard plan r h (record room { reading = None }))
  heard_says plan r (hands p new) room other = part_says plan r p (on_lines (read_on r.up new) r.line (record room { reading = None })) other
  heard_says plan r (halts why new) room other = stops_says r why (on_lines (read_on r.up new) r.line (record room { reading = None }))

  -- ---- a stage is asked

  pub asks_says : (place : ℕ) (room : Room) → IsClear room
      → sent_on n (asks_at place (slice_get room.lines place) room.lines room.hub).2.sent ≡ sent_on n room.hub.sent
  asks_says place room clear = by_line (slice_get room.lines place) refl
    where
      by_exchange : (line : Line) → (line.number == n) ≡ false → (o : Option Exchange) → sent_on n (asks_back place room.lines (asks_in line o room.hub)).2.sent ≡ sent_on n room.hub.sent
      by_exchange line away None = refl
      by_exchange line away (Some x) =
          let s : SendsOn line.number room.hub (asks_exchange line.number x room.hub).2 = asks_on n line.number x room.hub in
          more_sent room.hub.sent s.more (asks_exchange line.number x room.hub).2.sent s.adds (on_other line.number s.more away s.own)

      by_line : (o : Option Line) → slice_get room.lines place ≡ o → sent_on n (asks_at place o room.lines room.hub).2.sent ≡ sent_on n room.hub.sent
      by_line None at = refl
      by_line (Some line) at = by_exchange line (clear_at room.lines place line clear at) line.exchange
