-- What callbacks, their effects, moves and jobs do to a room in which no event happens and nothing is read.
use Rattle.std.proofs.Common.{◌≡◌, inl, ℕ, ◌==◌, Bool, true, false, not, ◌||◌, ◌&&◌, List, [], ◌∷◌, ◌++◌, refl, ap, ◌∙◌, sym, subst}
use Rattle.std.proofs.lemmas.List.{append_assoc}
use Rattle.std.specs.Prelude.{Option, None, Some, slice_get, nat_lt}
use Rattle.std.specs.List.{list_any}
use Rattle.contexts.specs.declared.parts.Contexts.{Contexts}
use Rattle.contexts.specs.declared.parts.Effect.{Effect}
use Rattle.contexts.specs.declared.parts.Tick.{Tick}
use Rattle.contexts.specs.declared.parts.EffectKind as effects
use Rattle.contexts.specs.declared.parts.EffectKind.TheVariants as what
use Rattle.contexts.specs.Creating.{plugin_in, next_id, root_created, await_done_of, delete_id}
use Rattle.contexts.specs.Reached.{vm_in, tick_in, contains, seen}
use Rattle.filter_host.specs.Called.{Calling}
use Rattle.filter_host.specs.Course.{Course, ends, asks, measures, hears}
use Rattle.filter_host.specs.declared.host.CallbackEnd.{CallbackEnd}
use Rattle.filter_host.specs.declared.host.CallbackEnd.TheVariants as call_ends
use Rattle.filter_host.specs.declared.host.Callback.{Callback}
use Rattle.filter_host.specs.declared.host.Callback.TheVariants as callbacks
use Rattle.filter_host.specs.declared.host.Death.{Death}
use Rattle.filter_host.specs.declared.host.Death.TheVariants as deaths
use Rattle.filter_host.proofs.Holds.{AllEnds, all_then, all_behind}
use Rattle.exchange.specs.declared.types.Exchange.{Exchange}
use Rattle.exchange.specs.declared.types.Filter.{Filter}
use Rattle.exchange.specs.declared.types.Hub.{Hub}
use Rattle.exchange.specs.Answering.{with_held}
use Rattle.exchange.specs.Passing as passing
use Rattle.exchange.specs.Passing.{chain_of, with_chain, finish_put}
use Rattle.filter_chain.specs.declared.item.Asking.{Asking}
use Rattle.filter_chain.specs.declared.item.Asking.TheVariants.{Nothing, Over, Asks}
use Rattle.filter_chain.specs.declared.item.PassOutcome.TheVariants as passed
use Rattle.filter_chain.specs.Chains.{asked}
use Rattle.gate_io.specs.declared.event.Sent.{Sent}
use Rattle.gate_io.specs.declared.event.What.{What}
use Rattle.store_model.specs.declared.call.Reply.{Reply}
use Rattle.store_model.specs.declared.call.Reply.TheVariants as replies
use Rattle.worker_model.specs.Changes.{apply_change}
use Rattle.worker_model.specs.Room.{Room}
use Rattle.worker_model.specs.declared.types.Asked.{Asked}
use Rattle.worker_model.specs.declared.types.Change.TheVariants as changes
use Rattle.worker_model.specs.declared.types.ContextAt.{ContextAt}
use Rattle.worker_model.specs.declared.types.Job.{Job}
use Rattle.worker_model.specs.declared.types.Job.TheVariants as jobs
use Rattle.worker_model.specs.declared.types.Line.{Line}
use Rattle.worker_model.specs.declared.types.NewContext.{NewContext}
use Rattle.worker_model.specs.declared.types.Owner.{Owner}
use Rattle.worker_model.specs.declared.types.Owner.TheVariants.{Nobody, Stage}
use Rattle.worker_model.specs.Moves.{asks_at, asks_line, asks_in, asks_exchange, asks_as, asks_response}
use Rattle.worker_model.specs.Plan.{Plan}
use Rattle.worker_model.specs.Rooms.{Changes, all_lines, with_lines, place_in, place_of, on_number, on_context, with_contexts, room_with_sent, is_own, is_dead, apply_effect, effects_of, without_effects, lose_vm_in, after_callback, take_callback_end}
use Rattle.worker_model.specs.Steps.{Both, both, Answered, callback_result, Then, continue_with, nothing_more, called_in, called_live, calls_live, is_zero, action_of, with_jobs_first, unless_zero, has_vm, await_done, last_jobs, finish_context, delete_context, apply_stage_action, is_drawn_out, may_root, root_jobs, create_root, with_filter, may_stream, with_stream, create_stream, create_filter, filter_at, create_context, enter_stages, tick_of, tick_root, is_due_tick, is_late, expire_all, take_notice_reply, moved, move_at, tells, made_one, made_with, roots, streams, ticks, tells_ready, ask_notice, notice_step, callback_of, number_of}
use Rattle.law_reading.proofs.Readers.{by_bool, ReaderGoes, acts_kept, resumes_kept, closed_kept, answer_kept, dies_kept, expires_kept, passed_on_kept}
use Rattle.law_reading.proofs.Alike.{Alike, AreAlike, are_itself, are_then, alike_itself, alike_set, KeepsReader, place_alike, all_alike, change_on}

-- ---- events that are in hand

abbrev pub happen_of : Job → List What
happen_of (jobs.Begin vm) = []
happen_of (jobs.Root vm plugin first) = []
happen_of (jobs.Start vm root) = []
happen_of (jobs.Configure vm root plugin) = []
happen_of (jobs.Tick vm root) = []
happen_of jobs.Expire = []
happen_of (jobs.Happen w) = w ∷ []
happen_of (jobs.Create number k) = []
happen_of (jobs.Enter number) = []
happen_of (jobs.Put number response items) = []
happen_of (jobs.Refuse number status) = []
happen_of (jobs.Done c) = []
happen_of (jobs.Log c) = []
happen_of (jobs.Delete c) = []
happen_of (jobs.Close number stays) = []
happen_of (jobs.Notice vm left) = []
happen_of (jobs.Ready vm root queue) = []
happen_of (jobs.Other step) = []

abbrev pub happens_in : List Job → List What
happens_in [] = []
happens_in (job ∷ later) = happen_of job ++ happens_in later

pub happens_join : (a b : List Job) → happens_in (a ++ b) ≡ happens_in a ++ happens_in b
happens_join [] b = refl
happens_join (job ∷ a) b = ap (λ l. happen_of job ++ l) (happens_join a b) ∙ sym (append_assoc (happen_of job) (happens_in a) (happens_in b))

pub none_in_front : (a b : List Job) → happens_in a ≡ [] → happens_in (a ++ b) ≡ happens_in b
none_in_front a b none = happens_join a b ∙ ap (λ l. l ++ happens_in b) none

-- ---- a room whose lines are alike then, with the same events in hand

pub record Quiet (room later : Room) : Type 0 where
  pub lines : AreAlike room.lines later.lines
  pub jobs : happens_in later.jobs ≡ happens_in room.jobs
  pub agenda : happens_in later.agenda ≡ happens_in room.agenda

pub quiet_then : (a b c : Room) → Quiet a b → Quiet b c → Quiet a c
quiet_then a b c p q = record { lines = are_then a.lines b.lines c.lines p.lines q.lines; jobs = q.jobs ∙ p.jobs; agenda = q.agenda ∙ p.agenda }

pub quiet_itself : (room : Room) → Quiet room room
quiet_itself room = record { lines = are_itself room.lines; jobs = refl; agenda = refl }

pub quiet_number : (change : Changes) (m : ℕ) (room : Room) → KeepsReader change → Quiet room (on_number change m room)
quiet_number change m room keeps = record { lines = place_alike change keeps room.lines (place_in m room.lines) room.hub; jobs = refl; agenda = refl }

quiet_context : (change : Changes) (vm c : ℕ) (room : Room) → KeepsReader change → Quiet room (on_context change vm c room)
quiet_context change vm c room keeps = record { lines = place_alike change keeps room.lines (place_of vm c room.lines) room.hub; jobs = refl; agenda = refl }

-- the hub alone changed
pub quiet_hub : (room : Room) (hub : Hub) → Quiet room (record room { hub = hub })
quiet_hub room hub = record { lines = are_itself room.lines; jobs = refl; agenda = refl }

-- ---- effects

does_quiet : (vm : ℕ) (own : Owner) (context : ℕ) (w : effects.EffectKind) (room : Room) → Quiet room (apply_effect vm own context w room)
does_quiet vm own context (what.Continue response) room =
    by_bool (Quiet room) (is_own own context response) room (on_context (passing.resume_context vm context response) vm context room) (λ e. quiet_itself room)
    (λ e. quiet_context (passing.resume_context vm context response) vm context room (λ n x hub. resumes_kept vm context response n x hub))
does_quiet vm own context what.Close room = quiet_context passing.close_exchange vm context room (λ n x hub. closed_kept n x hub)
does_quiet vm own context (what.Call request) room = record { lines = are_itself room.lines; jobs = refl; agenda = refl }
does_quiet vm own context (what.Answer status fields body) room =
    quiet_context (apply_change (changes.Answer status fields body)) vm context room (λ n x hub. answer_kept n false status fields.pairs body x hub)

effects_quiet : (vm : ℕ) (own : Owner) (es : List Effect) (room : Room) → Quiet room (effects_of vm own es room)
effects_quiet vm own [] room = quiet_itself room
effects_quiet vm own (e ∷ es) room =
    let mid : Room = apply_effect vm own e.context e.what room in
    quiet_then room mid (effects_of vm own es mid) (does_quiet vm own e.context e.what room) (effects_quiet vm own es mid)

pub died_quiet : (vm : ℕ) (death : Death) (room : Room) → Quiet room (lose_vm_in vm death room)
died_quiet vm death room = record { lines = all_alike (passing.lose_vm vm) (λ n x hub. dies_kept vm n x hub) room.lines _; jobs = refl; agenda = refl }

behind_quiet : (vm : ℕ) (own : Owner) (end : CallbackEnd) (es : List Effect) (room : Room) → Quiet room (after_callback vm own end es room)
behind_quiet vm own (call_ends.Returned value) es room = effects_quiet vm own es room
behind_quiet vm own (call_ends.Died death) es room = died_quiet vm death room

answered_quiet : (vm : ℕ) (own : Owner) (end : CallbackEnd) (lines : List Sent) (h : Contexts) (room : Room) → Quiet room (take_callback_end vm own end lines h room)
answered_quiet vm own end lines h room =
    let mid : Room = without_effects (room_with_sent lines (with_contexts h room)) in
    quiet_then room mid (take_callback_end vm own end lines h room) (quiet_hub room mid.hub) (behind_quiet vm own end h.effects mid)

-- ---- what comes behind callbacks

abbrev pub QuietThen : Then → Type 0
QuietThen after_callback = (value : Option (Option ℕ)) (room : Room) → Quiet room (after_callback value room)

abbrev pub Quietly : {H : Type 0} → Room → Course (Both H) → Type 0
Quietly {H} room course = AllEnds (λ (b : Both H). Quiet room b.room) course

pub in_front_quiet : (more : List Job) (room : Room) → happens_in more ≡ [] → Quiet room (with_jobs_first more room)
in_front_quiet more room none = record { lines = are_itself room.lines; jobs = none_in_front more room.jobs none; agenda = refl }

pub nothing_quiet : QuietThen nothing_more
nothing_quiet value room = quiet_itself room

pub unless_zero_quiet : (vm : ℕ) (death : Death) → QuietThen (unless_zero vm death)
unless_zero_quiet vm death None room = quiet_itself room
unless_zero_quiet vm death (Some value) room = by_bool (Quiet room) (is_zero value) (lose_vm_in vm death room) room (λ e. died_quiet vm death room) (λ e. quiet_itself room)

pub done_quiet : (c : ContextAt) → QuietThen (finish_context c)
done_quiet c None room = in_front_quiet (last_jobs c) room refl
done_quiet c (Some value) room =
    by_bool (Quiet room) (is_zero value) (await_done c room) (with_jobs_first (last_jobs c) room)
    (λ e. by_bool (Quiet room) (has_vm c.vm room.hub.contexts) (with_contexts (await_done_of c.vm c.context room.hub.contexts) (record room { waits = room.waits ++ c ∷ [] })) room
    (λ d. record { lines = are_itself room.lines; jobs = refl; agenda = refl }) (λ d. quiet_itself room))
    (λ e. in_front_quiet (last_jobs c) room refl)

pub deletes_quiet : (c : ContextAt) → QuietThen (delete_context c)
deletes_quiet c value room =
    by_bool (Quiet room) (has_vm c.vm room.hub.contexts && contains c.context (seen room.hub.contexts c.vm).common.ids) (with_contexts (delete_id c.vm c.context room.hub.contexts) room) room
    (λ d. record { lines = are_itself room.lines; jobs = refl; agenda = refl }) (λ d. quiet_itself room)

acts_on_quiet : (a : Asked) → QuietThen (apply_stage_action a)
acts_on_quiet a None room = quiet_itself room
acts_on_quiet a (Some value) room =
    quiet_number (passing.apply_action a.response a.ask.stage (action_of value)) a.line room (λ n x hub. acts_kept a.response a.ask.stage (action_of value) n x hub)

-- ---- the stage that is asked

asks_as_kept : (response : Bool) (n : ℕ) (a : Asking) (x : Exchange) (hub : Hub) → ReaderGoes (Some x) (Some (asks_as response n a x hub).1)
asks_as_kept response n Nothing x hub = inl (refl, λ a. a)
asks_as_kept response n (Over k) x hub = passed_on_kept response n passed.Over x hub
asks_as_kept response n (Asks ask) x hub = inl (refl, λ a. a)

asks_kept : (n : ℕ) (x : Exchange) (hub : Hub) → ReaderGoes (Some x) (Some (asks_exchange n x hub).1)
asks_kept n x hub = by_side (asks_response x)
  where
    Goal : Bool → Type 0
    Goal response =
        let t = asked hub.contexts (chain_of response x) in
        ReaderGoes (Some x) (Some (asks_as response n t.0 (with_chain response t.1 x) (with_held t.2 hub)).1)

    by_side : (response : Bool) → Goal response
    by_side false = let t = asked hub.contexts x.request in asks_as_kept false n t.0 (with_chain false t.1 x) (with_held t.2 hub)
    by_side true = let t = asked hub.contexts x.response in asks_as_kept true n t.0 (with_chain true t.1 x) (with_held t.2 hub)

asks_line_alike : (l : Line) (hub : Hub) → Alike l (asks_line l hub).1
asks_line_alike l hub = by_exchange l.exchange refl
  where
    by_exchange : (o : Option Exchange) → l.exchange ≡ o → Alike l (asks_in l o hub).1
    by_exchange None none = alike_itself l
    by_exchange (Some x) some = record {
      number = refl;
      requests = refl;
      reader = subst_reader some (asks_kept l.number x hub);
    }
      where
        subst_reader : {o : Option Exchange} → o ≡ Some x → ReaderGoes (Some x) (Some (asks_exchange l.number x hub).1) → ReaderGoes o (Some (asks_exchange l.number x hub).1)
        subst_reader e goes = subst (λ (o : Option Exchange). ReaderGoes o (Some (asks_exchange l.number x hub).1)) (sym e) goes

asks_alike : (place : ℕ) (o : Option Line) (lines : List Line) (hub : Hub) → slice_get lines place ≡ o → AreAlike lines (asks_at place o lines hub).1
asks_alike place None lines hub at = are_itself lines
asks_alike place (Some l) lines hub at = alike_set lines place l (asks_line l hub).1 at (asks_line_alike l hub)

-- ---- an exchange's end

pub entering_kept : (dead : List ℕ) → KeepsReader (enter_stages dead)
entering_kept dead n x hub = by_bool (λ (y : Exchange). ReaderGoes (Some x) (Some y)) (x.has_ended || x.is_answered) x _ (λ e. inl (refl, λ a. a)) (λ e. inl (refl, λ a. a))

-- ---- callbacks

module _ {H : Type 0} (calling : Calling H) where
  called_in_quiet : (vm : ℕ) (name : Callback) (context first second : ℕ) (own : Owner) (host : H) (room : Room)
      → AllEnds (λ (a : Answered H). Quiet room a.both.room) (called_in calling vm name context first second own host room)
  called_in_quiet vm name context first second own host room =
      all_behind (λ (a : Answered H). Quiet room a.both.room) (calling host vm name context first second room.hub.moment room.hub.contexts) _
      (λ c. answered_quiet vm own c.end c.lines c.contexts room)

  pub calls_live_quiet : (vm : ℕ) (name : Callback) (context first second : ℕ) (after_callback : Then) (host : H) (room : Room) → QuietThen after_callback
      → Quietly room (calls_live calling vm name context first second after_callback host room)
  calls_live_quiet vm name context first second after_callback host room quiet =
      all_then (λ (a : Answered H). Quiet room a.both.room) (λ (b : Both H). Quiet room b.room) (called_live calling vm name context first second host room) (λ a. ends (continue_with after_callback a))
      (by_bool (λ (p : Course (Answered H)). AllEnds (λ (a : Answered H). Quiet room a.both.room) p) (is_dead vm room) (ends (callback_result None (both host room))) (called_in calling vm name context first second Nobody host room)
      (λ e. quiet_itself room) (λ e. called_in_quiet vm name context first second Nobody host room))
      (λ a c. quiet_then room a.both.room (after_callback a.value a.both.room) c (quiet a.value a.both.room))

  moved_quiet : (o : Option Asked) (host : H) (room : Room) → Quietly room (moved calling o host room)
  moved_quiet None host room = quiet_itself room
  moved_quiet (Some a) host room =
      all_then (λ (b : Answered H). Quiet room b.both.room) (λ (b : Both H). Quiet room b.room)
      (called_in calling a.vm (callback_of a.response a.ask.kind) a.context a.count (number_of a.ask.end) (Stage a.context a.response) host room) (λ b. ends (continue_with (apply_stage_action a) b))
      (called_in_quiet a.vm (callback_of a.response a.ask.kind) a.context a.count (number_of a.ask.end) (Stage a.context a.response) host room)
      (λ b c. quiet_then room b.both.room (apply_stage_action a b.value b.both.room) c (acts_on_quiet a b.value b.both.room))

  quiet_first : (a b : Room) (p : Course (Both H)) → Quiet a b → Quietly b p → Quietly a p
  quiet_first a b (ends c) quiet all = quiet_then a b c.room quiet all
  quiet_first a b (asks vm call k) quiet all = λ r. quiet_first a b (k r) quiet (all r)
  quiet_first a b (measures vm call k) quiet all = λ r. quiet_first a b (k r) quiet (all r)
  quiet_first a b (hears t k) quiet all = λ h is. quiet_first a b (k h) quiet (all h is)

  pub move_quiet : (place : ℕ) (host : H) (room : Room) → Quietly room (move_at calling place host room)
  move_quiet place host room =
      let t = asks_at place (slice_get room.lines place) room.lines room.hub in
      let mid : Room = with_lines room (t.1, t.2) in
      quiet_first room mid (moved calling t.0 host mid) (record { lines = asks_alike place (slice_get room.lines place) room.lines room.hub refl; jobs = refl; agenda = refl }) (moved_quiet t.0 host mid)

  -- ---- jobs

  pub tells_quiet : (vm : ℕ) (name : Callback) (context first : ℕ) (host : H) (room : Room) → Quietly room (tells calling vm name context first host room)
  tells_quiet vm name context first host room = calls_live_quiet vm name context first 0 nothing_more host room nothing_quiet

  made_quiet : (o : Option NewContext) (host : H) (room : Room) → Quietly room (made_one calling o host room)
  made_quiet None host room = quiet_itself room
  made_quiet (Some c) host room = tells_quiet c.vm callbacks.ContextCreate c.context c.root host room

  made_with_quiet : (host : H) (room : Room) (p : Option NewContext × Room) → Quiet room p.1 → Quietly room (made_with calling host p)
  made_with_quiet host room p quiet = quiet_first room p.1 (made_one calling p.0 host p.1) quiet (made_quiet p.0 host p.1)

  root_none : (vm root plugin : ℕ) (first : Bool) → happens_in (root_jobs vm root plugin first) ≡ []
  root_none vm root plugin true = refl
  root_none vm root plugin false = refl

  pub roots_quiet : (vm plugin : ℕ) (first : Bool) (host : H) (room : Room) → Quietly room (roots calling vm plugin first host room)
  roots_quiet vm plugin first host room =
      made_with_quiet host room (create_root vm plugin first room)
      (by_bool (λ (p : Option NewContext × Room). Quiet room p.1) (is_dead vm room || not (may_root vm plugin room.hub.contexts)) (None, room) _ (λ e. quiet_itself room)
      (λ e. by_bool (λ (p : Option NewContext × Room). Quiet room p.1) (is_drawn_out vm room.hub.contexts) (None, lose_vm_in vm deaths.Ids room) _ (λ d. died_quiet vm deaths.Ids room)
      (λ d.
      let mid : Room = with_contexts (root_created vm plugin room.hub.contexts) room in
      quiet_then room mid (with_jobs_first (root_jobs vm (next_id room.hub.contexts vm) plugin first) mid) (quiet_hub room mid.hub)
      (in_front_quiet (root_jobs vm (next_id room.hub.contexts vm) plugin first) mid (root_none vm (next_id room.hub.contexts vm) plugin first)))))

  creating_quiet : (number k : ℕ) (o : Option Filter) (room : Room) → Quiet room (create_filter number k o room).1
  creating_quiet number k None room = quiet_itself room
  creating_quiet number k (Some f) room = by_root (plugin_in room.hub.contexts f.plugin).root
    where
      by_root : (r : Option ℕ) → Quiet room (create_stream number k f r room).1
      by_root None = quiet_itself room
      by_root (Some root) =
          by_bool (λ (p : Option NewContext × Room). Quiet room p.1) (is_dead f.vm room || not (may_stream f.vm root room.hub.contexts)) (None, room) _ (λ e. quiet_itself room)
          (λ e. by_bool (λ (p : Option NewContext × Room). Quiet room p.1) (is_drawn_out f.vm room.hub.contexts) (None, lose_vm_in f.vm deaths.Ids room) (with_stream number k f root room) (λ d. died_quiet f.vm deaths.Ids room)
          (λ d. record { lines = change_on (with_filter k _) room.lines (place_in number room.lines) (λ x. inl (refl, λ a. a)); jobs = refl; agenda = refl }))

  pub streams_quiet : (number k : ℕ) (host : H) (room : Room) → Quietly room (streams calling number k host room)
  streams_quiet number k host room = made_with_quiet host room (create_context number k room) (creating_quiet number k (filter_at number k room.lines) room)

  ticked_quiet : (vm root : ℕ) (o : Option (Option Tick)) (room : Room) → Quiet room (tick_of vm root o room).1
  ticked_quiet vm root None room = quiet_itself room
  ticked_quiet vm root (Some None) room = quiet_itself room
  ticked_quiet vm root (Some (Some t)) room =
      by_bool (λ (p : Bool × Room). Quiet room p.1) (is_due_tick room.hub.moment t && has_vm vm room.hub.contexts) _ (false, room)
      (λ e. record { lines = are_itself room.lines; jobs = refl; agenda = refl }) (λ e. quiet_itself room)

  pub ticks_quiet : (vm root : ℕ) (host : H) (room : Room) → Quietly room (ticks calling vm root host room)
  ticks_quiet vm root host room =
      let p : Bool × Room = tick_root vm root room in
      let quiet : Quiet room p.1 = ticked_quiet vm root (tick_in (vm_in room.hub.contexts vm).contexts root) room in
      by_bool (Quietly room) p.0 (tells calling vm callbacks.Tick root 0 host p.1) (ends (both host p.1))
      (λ e. quiet_first room p.1 (tells calling vm callbacks.Tick root 0 host p.1) quiet (tells_quiet vm callbacks.Tick root 0 host p.1)) (λ e. quiet)

  pub ready_quiet : (vm root queue : ℕ) (host : H) (room : Room) → Quietly room (tells_ready calling vm root queue host room)
  ready_quiet vm root queue host room =
      by_bool (Quietly room) (may_stream vm root room.hub.contexts) (tells calling vm callbacks.QueueReady root queue host room) (ends (both host room)) (λ e. tells_quiet vm callbacks.QueueReady root queue host room) (λ e. quiet_itself room)

  noticed_quiet : (vm left : ℕ) (r : Reply) (room : Room) → Quiet room (take_notice_reply vm left r room)
  noticed_quiet vm left (replies.Owed root queue) room = record { lines = are_itself room.lines; jobs = refl; agenda = refl }
  noticed_quiet vm left replies.Absent room = quiet_itself room
  noticed_quiet vm left (replies.Value value number) room = quiet_itself room
  noticed_quiet vm left (replies.Done number) room = quiet_itself room
  noticed_quiet vm left replies.CasMismatch room = quiet_itself room
  noticed_quiet vm left replies.Full room = quiet_itself room
  noticed_quiet vm left (replies.Id queue) room = quiet_itself room
  noticed_quiet vm left (replies.Item item) room = quiet_itself room
  noticed_quiet vm left replies.Empty room = quiet_itself room
  noticed_quiet vm left replies.NoneOwed room = quiet_itself room

  pub notices_quiet : (plan : Plan) (vm left : ℕ) (host : H) (room : Room) → Quietly room (notice_step plan vm left host room)
  notices_quiet plan vm left host room =
      by_bool (Quietly room) ((left == 0 || is_dead vm room) || not (nat_lt vm plan.vms)) (ends (both host room)) (ask_notice vm left host room) (λ e. quiet_itself room) (λ e. λ r. noticed_quiet vm left r room)

  pub expire_quiet : (room : Room) → Quiet room (expire_all room)
  expire_quiet room =
      by_bool (Quiet room) (list_any (is_late room.hub.moment) room.lines) (with_lines room (all_lines passing.expire_exchange room.lines room.hub)) room
      (λ e. record { lines = all_alike passing.expire_exchange (λ n x hub. expires_kept n x hub) room.lines room.hub; jobs = refl; agenda = refl }) (λ e. quiet_itself room)
