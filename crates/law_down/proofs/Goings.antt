-- What is sent in the steps of callbacks closes nothing, and no line comes or goes in them.
use Rattle.std.proofs.Common.{◌≡◌, ℕ, zero, suc, ◌==◌, Bool, true, false, not, cond, ◌||◌, ◌&&◌, List, [], ◌∷◌, ◌++◌, refl, ap, ◌∙◌, sym}
use Rattle.std.proofs.lemmas.List.{append-nil, append_assoc}
use Rattle.std.specs.List.{list_any}
use Rattle.std.specs.Prelude.{Option, None, Some, option_map, slice_get, slice_set, nat_lt}
use Rattle.callouts.specs.Callouts.{callout_in, line_of, after_heard as after_part_heard}
use Rattle.callouts.specs.Requests.{request_wire}
use Rattle.callouts.specs.Steps.{After, after_event, after_read}
use Rattle.callouts.specs.declared.types.Callout.{Callout}
use Rattle.callouts.specs.declared.types.CallStep.{CallStep}
use Rattle.callouts.specs.declared.types.CallStep.TheVariants as steps
use Rattle.contexts.specs.declared.parts.CallAnswer.{CallAnswer}
use Rattle.contexts.specs.declared.parts.Contexts.{Contexts}
use Rattle.contexts.specs.declared.parts.Effect.{Effect}
use Rattle.contexts.specs.declared.parts.Tick.{Tick}
use Rattle.contexts.specs.declared.parts.EffectKind.{EffectKind as Wanted}
use Rattle.contexts.specs.declared.parts.EffectKind.TheVariants as what
use Rattle.contexts.specs.Creating.{plugin_in, next_id, root_created, await_done_of, delete_id}
use Rattle.contexts.specs.Reached.{vm_in, tick_in, contains, seen}
use Rattle.filter_host.specs.Called.{Calling}
use Rattle.filter_host.specs.Course.{Course, ends, asks, measures, hears}
use Rattle.filter_host.specs.Heard.{Heard}
use Rattle.filter_host.proofs.Holds.{AllEnds, all_then}
use Rattle.filter_host.specs.declared.host.CallbackEnd.{CallbackEnd}
use Rattle.filter_host.specs.declared.host.CallbackEnd.TheVariants as call_ends
use Rattle.filter_host.specs.declared.host.Callback.{Callback}
use Rattle.filter_host.specs.declared.host.Callback.TheVariants as callbacks
use Rattle.filter_host.specs.declared.host.Death.{Death}
use Rattle.filter_host.specs.declared.host.Death.TheVariants as deaths
use Rattle.exchange.specs.declared.types.Exchange.{Exchange}
use Rattle.exchange.specs.declared.types.Filter.{Filter}
use Rattle.exchange.specs.declared.types.Hub.{Hub}
use Rattle.exchange.specs.Answering.{with_held}
use Rattle.exchange.specs.Passing as passing
use Rattle.exchange.specs.Passing.{chain_of, with_chain}
use Rattle.law_exchange.specs.Lives.{acts, resumes, closes, answers, dies, expires}
use Rattle.filter_chain.specs.declared.item.Asking.{Asking}
use Rattle.filter_chain.specs.declared.item.Asking.TheVariants.{Nothing, Over, Asks}
use Rattle.filter_chain.specs.declared.item.PassOutcome.TheVariants as passed
use Rattle.filter_chain.specs.Chains.{asked}
use Rattle.gate_io.specs.declared.event.Sent.{Sent}
use Rattle.gate_io.specs.declared.event.Sent.TheVariants as to
use Rattle.gate_io.specs.declared.event.Side.TheVariants.{Up}
use Rattle.gate_io.specs.declared.event.What.{What}
use Rattle.store_model.specs.declared.call.Reply.{Reply}
use Rattle.store_model.specs.declared.call.Reply.TheVariants as replies
use Rattle.worker_model.specs.Room.{Room}
use Rattle.worker_model.specs.declared.types.Asked.{Asked}
use Rattle.worker_model.specs.declared.types.Change.TheVariants as changes
use Rattle.worker_model.specs.declared.types.ContextAt.{ContextAt}
use Rattle.worker_model.specs.declared.types.Job.{Job}
use Rattle.worker_model.specs.declared.types.Job.TheVariants as jobs
use Rattle.worker_model.specs.declared.types.Line.{Line}
use Rattle.worker_model.specs.declared.types.NewContext.{NewContext}
use Rattle.worker_model.specs.declared.types.OtherStep.{OtherStep}
use Rattle.worker_model.specs.declared.types.OtherStep.TheVariants as others
use Rattle.worker_model.specs.declared.types.Owner.{Owner}
use Rattle.worker_model.specs.declared.types.Owner.TheVariants.{Nobody, Stage}
use Rattle.worker_model.specs.Calls.{with_call_step, answer_if, put_call_answer, has_listener, close_call}
use Rattle.worker_model.specs.Changes.{apply_change}
use Rattle.worker_model.specs.Moves.{asks_at, asks_line, asks_in, asks_exchange, asks_as, asks_response}
use Rattle.worker_model.specs.Plan.{Plan}
use Rattle.worker_model.specs.Rooms.{Changes, in_exchange, in_line, at_some, at_place, all_lines, with_lines, place_in, place_of, on_number, on_context, with_contexts, room_with_sent, is_dead, is_own, next_call, begin_call, apply_effect, effects_of, without_effects, lose_vm_in, death_text, after_callback, take_callback_end}
use Rattle.worker_model.specs.Steps.{Both, both, Answered, callback_result, Then, continue_with, nothing_more, called_in, called_live, calls_live, is_zero, action_of, with_jobs_first, unless_zero, has_vm, await_done, last_jobs, finish_context, delete_context, apply_stage_action, is_drawn_out, may_root, root_jobs, create_root, with_filter, change_line, change_exchange, line_at, line_at_place, on_line, may_stream, with_stream, create_stream, create_filter, filter_at, create_context, tick_of, tick_root, is_due_tick, is_late, expire_all, take_notice_reply, moved, move_at, tells, made_one, made_with, roots, streams, ticks, tells_ready, ask_notice, notice_step, reads_call, drop_answer, tells_call, ends_call, works_call, works_other, works, callback_of, number_of, vm_length, plugin_length}
use Rattle.law_lines.specs.Logs.{AreLogs, WriteLogs}
use Rattle.law_lines.proofs.Callouts.{call_line_is}
use Rattle.law_lines.proofs.Calls.{IsCalm}
use Rattle.law_lines.proofs.Finding.{Seeks, missing, first as stands_first, seeks}
use Rattle.law_lines.proofs.Kept.{by_bool}
use Rattle.law_lines.proofs.Looks.{is_n, look}
use Rattle.law_lines.proofs.OnLines.{Numbered}
use Rattle.law_lines.proofs.Rooms.{logs_then}
use Rattle.law_lines.proofs.Sides.{numbered_change}
use Rattle.law_down.proofs.Ordering.{AreQuiet, call_bytes_quiet}
use Rattle.law_down.proofs.Quietly.{Adds, adds_none, adds_then, own_quiet, passed_on_on}

-- ---- whether a line is there, and its client gone

abbrev pub gone_of : Line → Bool
gone_of l = l.is_gone

abbrev pub gone_at : ℕ → List Line → Option Bool
gone_at n lines = option_map gone_of (look n lines)

pub cons_gone : (n : ℕ) (l m : Line) (lines later : List Line) → m.number ≡ l.number → m.is_gone ≡ l.is_gone → gone_at n later ≡ gone_at n lines → gone_at n (m ∷ later) ≡ gone_at n (l ∷ lines)
cons_gone n l m lines later number gone rest = ap (λ (a : ℕ). option_map gone_of (cond (a == n) (Some m) (look n later))) number ∙ by_test (l.number == n)
  where
    by_test : (b : Bool) → option_map gone_of (cond b (Some m) (look n later)) ≡ option_map gone_of (cond b (Some l) (look n lines))
    by_test true = ap Some gone
    by_test false = rest

pub set_gone : (n : ℕ) (lines : List Line) (k : ℕ) (l m : Line) → slice_get lines k ≡ Some l → m.number ≡ l.number → m.is_gone ≡ l.is_gone → gone_at n (slice_set lines k m) ≡ gone_at n lines
set_gone n [] k l m at number gone = absurd (cc)
set_gone n (z ∷ lines) zero l m at number gone =
    let same : z ≡ l = cc in
    cons_gone n z m lines lines (number ∙ sym (ap (λ (a : Line). a.number) same)) (gone ∙ sym (ap (λ (a : Line). a.is_gone) same)) refl
set_gone n (z ∷ lines) (suc k) l m at number gone = cons_gone n z z lines (slice_set lines k m) refl refl (set_gone n lines k l m at number gone)

pub on_line_gone : (n : ℕ) (f : Line → Line) (m : ℕ) (lines : List Line) → Numbered f → ((l : Line) → (f l).is_gone ≡ l.is_gone) → gone_at n (on_line f m lines) ≡ gone_at n lines
on_line_gone n f m lines numbered gone = by_seek (seeks (is_n m) lines)
  where
    by_seek : Seeks (is_n m) lines → gone_at n (on_line f m lines) ≡ gone_at n lines
    by_seek (missing at none) = ap (λ (o : Option ℕ). gone_at n (line_at_place f lines o)) at
    by_seek (stands_first k l at there passes found) =
        ap (λ (o : Option ℕ). gone_at n (line_at_place f lines o)) at ∙ (ap (λ (o : Option Line). gone_at n (line_at f lines k o)) there ∙ set_gone n lines k l (f l) there (numbered l) (gone l))

pub gone_change : (g : Exchange → Exchange) (l : Line) → (change_line g l).is_gone ≡ l.is_gone
gone_change g l = by_exchange l.exchange
  where
    by_exchange : (o : Option Exchange) → (change_exchange g l o).is_gone ≡ l.is_gone
    by_exchange None = refl
    by_exchange (Some x) = refl

-- ---- events in hand

abbrev pub happening : Job → List What
happening (jobs.Happen w) = w ∷ []
happening job = []

abbrev pub happens_in : List Job → List What
happens_in [] = []
happens_in (job ∷ later) = happening job ++ happens_in later

pub happens_join : (a b : List Job) → happens_in (a ++ b) ≡ happens_in a ++ happens_in b
happens_join [] b = refl
happens_join (job ∷ a) b = ap (λ l. happening job ++ l) (happens_join a b) ∙ sym (append_assoc (happening job) (happens_in a) (happens_in b))

-- ---- a room in which nothing is closed, nor a line comes or goes, nor an event is put in hand

pub record Goes (a b : Room) : Type 0 where
  pub lines : (n : ℕ) → gone_at n b.lines ≡ gone_at n a.lines
  pub sends : Adds a.hub b.hub
  pub jobs : happens_in b.jobs ≡ happens_in a.jobs
  pub agenda : happens_in b.agenda ≡ happens_in a.agenda

pub goes_then : (a b c : Room) → Goes a b → Goes b c → Goes a c
goes_then a b c p q = record {
  lines = λ n. q.lines n ∙ p.lines n;
  sends = adds_then a.hub b.hub c.hub p.sends q.sends;
  jobs = q.jobs ∙ p.jobs;
  agenda = q.agenda ∙ p.agenda;
}

pub same_adds : (hub after : Hub) → after.sent ≡ hub.sent → Adds hub after
same_adds hub after is = record { more = []; adds = is ∙ sym (append-nil hub.sent); quiet = tt }

-- nothing but this is other
pub goes_with : (a b : Room) → b.lines ≡ a.lines → Adds a.hub b.hub → b.jobs ≡ a.jobs → b.agenda ≡ a.agenda → Goes a b
goes_with a b lines sends js agenda = record { lines = λ n. ap (gone_at n) lines; sends = sends; jobs = ap happens_in js; agenda = ap happens_in agenda }

pub goes_itself : (a : Room) → Goes a a
goes_itself a = goes_with a a refl (adds_none a.hub) refl refl

-- ---- what is done to exchanges

abbrev pub IsQuietly : Changes → Type 0
IsQuietly change = (m : ℕ) (x : Exchange) (hub : Hub) → Adds hub (change m x hub).1

record LineGoes (l : Line) (hub : Hub) (m : Line) (after : Hub) : Type 0 where
  number : m.number ≡ l.number
  gone : m.is_gone ≡ l.is_gone
  sends : Adds hub after

in_line_goes : (change : Changes) (l : Line) (hub : Hub) → IsQuietly change → LineGoes l hub (in_line change l hub).0 (in_line change l hub).1
in_line_goes change l hub quiet = by_exchange l.exchange
  where
    by_exchange : (o : Option Exchange) → LineGoes l hub (in_exchange change l o hub).0 (in_exchange change l o hub).1
    by_exchange None = record { number = refl; gone = refl; sends = adds_none hub }
    by_exchange (Some x) = let s : Adds hub (change l.number x hub).1 = quiet l.number x hub in record { number = refl; gone = refl; sends = record { more = s.more; adds = s.adds; quiet = s.quiet } }

record LinesGo (lines : List Line) (hub : Hub) (later : List Line) (after : Hub) : Type 0 where
  gone : (n : ℕ) → gone_at n later ≡ gone_at n lines
  sends : Adds hub after

lines_itself : (lines : List Line) (hub : Hub) → LinesGo lines hub lines hub
lines_itself lines hub = record { gone = λ n. refl; sends = adds_none hub }

set_goes : (lines : List Line) (k : ℕ) (l m : Line) (hub after : Hub) → slice_get lines k ≡ Some l → LineGoes l hub m after → LinesGo lines hub (slice_set lines k m) after
set_goes lines k l m hub after there g = record { gone = λ n. set_gone n lines k l m there g.number g.gone; sends = g.sends }

place_goes : (change : Changes) (lines : List Line) (o : Option ℕ) (hub : Hub) → IsQuietly change → LinesGo lines hub (at_place change lines o hub).0 (at_place change lines o hub).1
place_goes change lines None hub quiet = lines_itself lines hub
place_goes change lines (Some k) hub quiet = by_line (slice_get lines k) refl
  where
    by_line : (o : Option Line) → slice_get lines k ≡ o → LinesGo lines hub (at_some change lines k o hub).0 (at_some change lines k o hub).1
    by_line None there = lines_itself lines hub
    by_line (Some l) there = set_goes lines k l (in_line change l hub).0 hub (in_line change l hub).1 there (in_line_goes change l hub quiet)

all_go : (change : Changes) (lines : List Line) (hub : Hub) → IsQuietly change → LinesGo lines hub (all_lines change lines hub).0 (all_lines change lines hub).1
all_go change [] hub quiet = lines_itself [] hub
all_go change (l ∷ lines) hub quiet =
    let p : Line × Hub = in_line change l hub in
    let q : List Line × Hub = all_lines change lines p.1 in
    let one : LineGoes l hub p.0 p.1 = in_line_goes change l hub quiet in
    let others : LinesGo lines p.1 q.0 q.1 = all_go change lines p.1 quiet in
    record { gone = λ n. cons_gone n l p.0 lines q.0 one.number one.gone (others.gone n); sends = adds_then hub p.1 q.1 one.sends others.sends }

room_goes : (room later : Room) → LinesGo room.lines room.hub later.lines later.hub → later.jobs ≡ room.jobs → later.agenda ≡ room.agenda → Goes room later
room_goes room later g js agenda = record { lines = g.gone; sends = g.sends; jobs = ap happens_in js; agenda = ap happens_in agenda }

pub number_goes : (change : Changes) (m : ℕ) (room : Room) → IsQuietly change → Goes room (on_number change m room)
number_goes change m room quiet = room_goes room (on_number change m room) (place_goes change room.lines (place_in m room.lines) room.hub quiet) refl refl

context_goes : (change : Changes) (vm c : ℕ) (room : Room) → IsQuietly change → Goes room (on_context change vm c room)
context_goes change vm c room quiet = room_goes room (on_context change vm c room) (place_goes change room.lines (place_of vm c room.lines) room.hub quiet) refl refl

-- ---- logs, and effects

logs_quiet : (more : List Sent) → AreLogs more → AreQuiet more
logs_quiet [] are = tt
logs_quiet (to.Connect line ∷ more) are = absurd are.0
logs_quiet (to.Bytes line side bytes ∷ more) are = absurd are.0
logs_quiet (to.Close line side ∷ more) are = absurd are.0
logs_quiet (to.Log level text ∷ more) are = (tt, logs_quiet more are.1)

does_goes : (vm : ℕ) (own : Owner) (context : ℕ) (w : Wanted) (room : Room) → Goes room (apply_effect vm own context w room)
does_goes vm own context (what.Continue response) room =
    by_bool (Goes room) (is_own own context response) room (on_context (passing.resume_context vm context response) vm context room) (λ e. goes_itself room)
    (λ e. context_goes (passing.resume_context vm context response) vm context room (λ m x hub. own_quiet m (resumes vm context response) x hub tt))
does_goes vm own context what.Close room = context_goes passing.close_exchange vm context room (λ m x hub. own_quiet m closes x hub tt)
does_goes vm own context (what.Call request) room =
    goes_with room (begin_call request room) refl
    (record { more = to.Connect (line_of (next_call room)) ∷ to.Bytes (line_of (next_call room)) Up (request_wire request) ∷ []; adds = refl; quiet = (tt, (call_bytes_quiet (line_of (next_call room)) Up (request_wire request) (call_line_is (next_call room)), tt)) })
    refl refl
does_goes vm own context (what.Answer status fields body) room =
    context_goes (apply_change (changes.Answer status fields body)) vm context room (λ m x hub. own_quiet m (answers false status fields.pairs body) x hub tt)

effects_go : (vm : ℕ) (own : Owner) (es : List Effect) (room : Room) → Goes room (effects_of vm own es room)
effects_go vm own [] room = goes_itself room
effects_go vm own (e ∷ es) room =
    let mid : Room = apply_effect vm own e.context e.what room in
    goes_then room mid (effects_of vm own es mid) (does_goes vm own e.context e.what room) (effects_go vm own es mid)

died_goes : (vm : ℕ) (death : Death) (room : Room) → Goes room (lose_vm_in vm death room)
died_goes vm death room =
    let told : Room = room_with_sent (to.Log _ (death_text (vm_in room.hub.contexts vm).name death) ∷ []) room in
    let p : List Line × Hub = all_lines (passing.lose_vm vm) room.lines told.hub in
    goes_then room told (lose_vm_in vm death room) (goes_with room told refl (record { more = _; adds = refl; quiet = (tt, tt) }) refl refl)
    (room_goes told (lose_vm_in vm death room) (all_go (passing.lose_vm vm) room.lines told.hub (λ m x hub. own_quiet m (dies vm) x hub tt)) refl refl)

behind_goes : (vm : ℕ) (own : Owner) (end : CallbackEnd) (es : List Effect) (room : Room) → Goes room (after_callback vm own end es room)
behind_goes vm own (call_ends.Returned value) es room = effects_go vm own es room
behind_goes vm own (call_ends.Died death) es room = died_goes vm death room

answered_goes : (vm : ℕ) (own : Owner) (end : CallbackEnd) (lines : List Sent) (h : Contexts) (room : Room) → AreLogs lines → Goes room (take_callback_end vm own end lines h room)
answered_goes vm own end lines h room are =
    let mid : Room = without_effects (room_with_sent lines (with_contexts h room)) in
    goes_then room mid (take_callback_end vm own end lines h room) (goes_with room mid refl (record { more = lines; adds = refl; quiet = logs_quiet lines are }) refl refl) (behind_goes vm own end h.effects mid)

-- ---- what comes behind callbacks

abbrev GoesThen : Then → Type 0
GoesThen after_callback = (value : Option (Option ℕ)) (room : Room) → Goes room (after_callback value room)

pub front_goes : (more : List Job) (room : Room) → happens_in more ≡ [] → Goes room (with_jobs_first more room)
front_goes more room none = record { lines = λ n. refl; sends = adds_none room.hub; jobs = happens_join more room.jobs ∙ ap (λ l. l ++ happens_in room.jobs) none; agenda = refl }

nothing_goes : GoesThen nothing_more
nothing_goes value room = goes_itself room

unless_zero_goes : (vm : ℕ) (death : Death) → GoesThen (unless_zero vm death)
unless_zero_goes vm death None room = goes_itself room
unless_zero_goes vm death (Some value) room = by_bool (Goes room) (is_zero value) (lose_vm_in vm death room) room (λ e. died_goes vm death room) (λ e. goes_itself room)

done_goes : (c : ContextAt) → GoesThen (finish_context c)
done_goes c None room = front_goes (last_jobs c) room refl
done_goes c (Some value) room =
    by_bool (Goes room) (is_zero value) (await_done c room) (with_jobs_first (last_jobs c) room)
    (λ e. by_bool (Goes room) (has_vm c.vm room.hub.contexts) (with_contexts (await_done_of c.vm c.context room.hub.contexts) (record room { waits = room.waits ++ c ∷ [] })) room (λ d. goes_with room _ refl (same_adds room.hub _ refl) refl refl) (λ d. goes_itself room))
    (λ e. front_goes (last_jobs c) room refl)

deletes_goes : (c : ContextAt) → GoesThen (delete_context c)
deletes_goes c value room =
    by_bool (Goes room) (has_vm c.vm room.hub.contexts && contains c.context (seen room.hub.contexts c.vm).common.ids) (with_contexts (delete_id c.vm c.context room.hub.contexts) room) room
    (λ d. goes_with room _ refl (same_adds room.hub _ refl) refl refl) (λ d. goes_itself room)

acts_on_goes : (a : Asked) → GoesThen (apply_stage_action a)
acts_on_goes a None room = goes_itself room
acts_on_goes a (Some value) room =
    number_goes (passing.apply_action a.response a.ask.stage (action_of value)) a.line room (λ m x hub. own_quiet m (acts a.response a.ask.stage (action_of value)) x hub tt)

-- ---- the stage that is asked

asks_as_adds : (response : Bool) (n : ℕ) (a : Asking) (x : Exchange) (hub : Hub) → Adds hub (asks_as response n a x hub).2
asks_as_adds response n Nothing x hub = adds_none hub
asks_as_adds response n (Over k) x hub = let s = passed_on_on response n passed.Over x hub in record { more = s.more; adds = s.adds; quiet = s.quiet }
asks_as_adds response n (Asks ask) x hub = adds_none hub

asks_adds : (m : ℕ) (x : Exchange) (hub : Hub) → Adds hub (asks_exchange m x hub).2
asks_adds m x hub =
    let t = asked hub.contexts (chain_of (asks_response x) x) in
    let s : Adds (with_held t.2 hub) (asks_exchange m x hub).2 = asks_as_adds (asks_response x) m t.0 (with_chain (asks_response x) t.1 x) (with_held t.2 hub) in
    record { more = s.more; adds = s.adds; quiet = s.quiet }

asks_line_goes : (l : Line) (hub : Hub) → LineGoes l hub (asks_line l hub).1 (asks_line l hub).2
asks_line_goes l hub = by_exchange l.exchange
  where
    by_exchange : (o : Option Exchange) → LineGoes l hub (asks_in l o hub).1 (asks_in l o hub).2
    by_exchange None = record { number = refl; gone = refl; sends = adds_none hub }
    by_exchange (Some x) = record { number = refl; gone = refl; sends = asks_adds l.number x hub }

asks_go : (k : ℕ) (o : Option Line) (lines : List Line) (hub : Hub) → slice_get lines k ≡ o → LinesGo lines hub (asks_at k o lines hub).1 (asks_at k o lines hub).2
asks_go k None lines hub there = lines_itself lines hub
asks_go k (Some l) lines hub there = set_goes lines k l (asks_line l hub).1 hub (asks_line l hub).2 there (asks_line_goes l hub)

expire_goes : (room : Room) → Goes room (expire_all room)
expire_goes room =
    by_bool (Goes room) (list_any (is_late room.hub.moment) room.lines) (with_lines room (all_lines passing.expire_exchange room.lines room.hub)) room
    (λ e. room_goes room _ (all_go passing.expire_exchange room.lines room.hub (λ m x hub. own_quiet m expires x hub tt)) refl refl) (λ e. goes_itself room)

noticed_goes : (vm left : ℕ) (r : Reply) (room : Room) → Goes room (take_notice_reply vm left r room)
noticed_goes vm left (replies.Owed root queue) room = record { lines = λ n. refl; sends = adds_none room.hub; jobs = refl; agenda = refl }
noticed_goes vm left replies.Absent room = goes_itself room
noticed_goes vm left (replies.Value value number) room = goes_itself room
noticed_goes vm left (replies.Done number) room = goes_itself room
noticed_goes vm left replies.CasMismatch room = goes_itself room
noticed_goes vm left replies.Full room = goes_itself room
noticed_goes vm left (replies.Id queue) room = goes_itself room
noticed_goes vm left (replies.Item item) room = goes_itself room
noticed_goes vm left replies.Empty room = goes_itself room
noticed_goes vm left replies.NoneOwed room = goes_itself room

-- ---- courses

-- at every end
abbrev pub GoesAll : {H : Type 0} → Room → Course (Both H) → Type 0
GoesAll {H} room course = AllEnds (λ (b : Both H). Goes room b.room) course

module _ {H : Type 0} (calling : Calling H) (logs : WriteLogs calling) where
  called_in_goes : (vm : ℕ) (name : Callback) (context first second : ℕ) (own : Owner) (host : H) (room : Room) → AllEnds (λ (a : Answered H). Goes room a.both.room) (called_in calling vm name context first second own host room)
  called_in_goes vm name context first second own host room =
      logs_then (λ (a : Answered H). Goes room a.both.room) (calling host vm name context first second room.hub.moment room.hub.contexts) _ (logs host vm name context first second room.hub.moment room.hub.contexts)
      (λ c are. answered_goes vm own c.end c.lines c.contexts room are)

  calls_live_goes : (vm : ℕ) (name : Callback) (context first second : ℕ) (after_callback : Then) (host : H) (room : Room) → GoesThen after_callback → GoesAll room (calls_live calling vm name context first second after_callback host room)
  calls_live_goes vm name context first second after_callback host room goes =
      all_then (λ (a : Answered H). Goes room a.both.room) (λ (b : Both H). Goes room b.room) (called_live calling vm name context first second host room) (λ a. ends (continue_with after_callback a))
      (by_bool (λ (p : Course (Answered H)). AllEnds (λ (a : Answered H). Goes room a.both.room) p) (is_dead vm room) (ends (callback_result None (both host room))) (called_in calling vm name context first second Nobody host room)
      (λ e. goes_itself room) (λ e. called_in_goes vm name context first second Nobody host room))
      (λ a g. goes_then room a.both.room (after_callback a.value a.both.room) g (goes a.value a.both.room))

  goes_first : (a b : Room) (p : Course (Both H)) → Goes a b → GoesAll b p → GoesAll a p
  goes_first a b (ends c) g all = goes_then a b c.room g all
  goes_first a b (asks vm call k) g all = λ r. goes_first a b (k r) g (all r)
  goes_first a b (measures vm call k) g all = λ r. goes_first a b (k r) g (all r)
  goes_first a b (hears t k) g all = λ h is. goes_first a b (k h) g (all h is)

  moved_goes : (o : Option Asked) (host : H) (room : Room) → GoesAll room (moved calling o host room)
  moved_goes None host room = goes_itself room
  moved_goes (Some a) host room =
      all_then (λ (b : Answered H). Goes room b.both.room) (λ (b : Both H). Goes room b.room)
      (called_in calling a.vm (callback_of a.response a.ask.kind) a.context a.count (number_of a.ask.end) (Stage a.context a.response) host room) (λ b. ends (continue_with (apply_stage_action a) b))
      (called_in_goes a.vm (callback_of a.response a.ask.kind) a.context a.count (number_of a.ask.end) (Stage a.context a.response) host room)
      (λ b g. goes_then room b.both.room (apply_stage_action a b.value b.both.room) g (acts_on_goes a b.value b.both.room))

  pub move_goes : (place : ℕ) (host : H) (room : Room) → GoesAll room (move_at calling place host room)
  move_goes place host room =
      let t = asks_at place (slice_get room.lines place) room.lines room.hub in
      let mid : Room = with_lines room (t.1, t.2) in
      goes_first room mid (moved calling t.0 host mid) (room_goes room mid (asks_go place (slice_get room.lines place) room.lines room.hub refl) refl refl) (moved_goes t.0 host mid)

  tells_goes : (vm : ℕ) (name : Callback) (context first : ℕ) (host : H) (room : Room) → GoesAll room (tells calling vm name context first host room)
  tells_goes vm name context first host room = calls_live_goes vm name context first 0 nothing_more host room nothing_goes

  made_goes : (o : Option NewContext) (host : H) (room : Room) → GoesAll room (made_one calling o host room)
  made_goes None host room = goes_itself room
  made_goes (Some c) host room = tells_goes c.vm callbacks.ContextCreate c.context c.root host room

  made_with_goes : (host : H) (room : Room) (p : Option NewContext × Room) → Goes room p.1 → GoesAll room (made_with calling host p)
  made_with_goes host room p g = goes_first room p.1 (made_one calling p.0 host p.1) g (made_goes p.0 host p.1)

  root_none : (vm root plugin : ℕ) (first : Bool) → happens_in (root_jobs vm root plugin first) ≡ []
  root_none vm root plugin true = refl
  root_none vm root plugin false = refl

  roots_go : (vm plugin : ℕ) (first : Bool) (host : H) (room : Room) → GoesAll room (roots calling vm plugin first host room)
  roots_go vm plugin first host room =
      made_with_goes host room (create_root vm plugin first room)
      (by_bool (λ (p : Option NewContext × Room). Goes room p.1) (is_dead vm room || not (may_root vm plugin room.hub.contexts)) (None, room) _ (λ e. goes_itself room)
      (λ e. by_bool (λ (p : Option NewContext × Room). Goes room p.1) (is_drawn_out vm room.hub.contexts) (None, lose_vm_in vm deaths.Ids room) _ (λ d. died_goes vm deaths.Ids room)
      (λ d.
      let mid : Room = with_contexts (root_created vm plugin room.hub.contexts) room in
      goes_then room mid (with_jobs_first (root_jobs vm (next_id room.hub.contexts vm) plugin first) mid) (goes_with room mid refl (same_adds room.hub mid.hub refl) refl refl)
      (front_goes (root_jobs vm (next_id room.hub.contexts vm) plugin first) mid (root_none vm (next_id room.hub.contexts vm) plugin first)))))

  creating_goes : (number k : ℕ) (o : Option Filter) (room : Room) → Goes room (create_filter number k o room).1
  creating_goes number k None room = goes_itself room
  creating_goes number k (Some f) room = by_root (plugin_in room.hub.contexts f.plugin).root
    where
      by_root : (r : Option ℕ) → Goes room (create_stream number k f r room).1
      by_root None = goes_itself room
      by_root (Some root) =
          by_bool (λ (p : Option NewContext × Room). Goes room p.1) (is_dead f.vm room || not (may_stream f.vm root room.hub.contexts)) (None, room) _ (λ e. goes_itself room)
          (λ e. by_bool (λ (p : Option NewContext × Room). Goes room p.1) (is_drawn_out f.vm room.hub.contexts) (None, lose_vm_in f.vm deaths.Ids room) (with_stream number k f root room) (λ d. died_goes f.vm deaths.Ids room)
          (λ d.
          let g : Filter = record f { created = true; context = next_id room.hub.contexts f.vm } in
          record {
            lines = λ n. on_line_gone n (change_line (with_filter k g)) number room.lines (numbered_change (with_filter k g)) (gone_change (with_filter k g));
            sends = same_adds room.hub _ refl;
            jobs = refl;
            agenda = refl;
          }))

  streams_go : (number k : ℕ) (host : H) (room : Room) → GoesAll room (streams calling number k host room)
  streams_go number k host room = made_with_goes host room (create_context number k room) (creating_goes number k (filter_at number k room.lines) room)

  ticked_goes : (vm root : ℕ) (o : Option (Option Tick)) (room : Room) → Goes room (tick_of vm root o room).1
  ticked_goes vm root None room = goes_itself room
  ticked_goes vm root (Some None) room = goes_itself room
  ticked_goes vm root (Some (Some t)) room =
      by_bool (λ (p : Bool × Room). Goes room p.1) (is_due_tick room.hub.moment t && has_vm vm room.hub.contexts) _ (false, room)
      (λ e. goes_with room _ refl (same_adds room.hub _ refl) refl refl) (λ e. goes_itself room)

  ticks_go : (vm root : ℕ) (host : H) (room : Room) → GoesAll room (ticks calling vm root host room)
  ticks_go vm root host room =
      let p : Bool × Room = tick_root vm root room in
      let g : Goes room p.1 = ticked_goes vm root (tick_in (vm_in room.hub.contexts vm).contexts root) room in
      by_bool (GoesAll room) p.0 (tells calling vm callbacks.Tick root 0 host p.1) (ends (both host p.1))
      (λ e. goes_first room p.1 (tells calling vm callbacks.Tick root 0 host p.1) g (tells_goes vm callbacks.Tick root 0 host p.1)) (λ e. g)

  ready_goes : (vm root queue : ℕ) (host : H) (room : Room) → GoesAll room (tells_ready calling vm root queue host room)
  ready_goes vm root queue host room =
      by_bool (GoesAll room) (may_stream vm root room.hub.contexts) (tells calling vm callbacks.QueueReady root queue host room) (ends (both host room)) (λ e. tells_goes vm callbacks.QueueReady root queue host room) (λ e. goes_itself room)

  notices_go : (plan : Plan) (vm left : ℕ) (host : H) (room : Room) → GoesAll room (notice_step plan vm left host room)
  notices_go plan vm left host room =
      by_bool (GoesAll room) ((left == 0 || is_dead vm room) || not (nat_lt vm plan.vms)) (ends (both host room)) (ask_notice vm left host room) (λ e. goes_itself room) (λ e. λ r. noticed_goes vm left r room)

  -- ---- callouts

  -- they are others now, and this comes next for one of them, if anything
  call_step_goes : (calls : List Callout) (step : Option CallStep) (room : Room) → Goes room (with_call_step step (record room { calls = calls }))
  call_step_goes calls None room = goes_with room (record room { calls = calls }) refl (adds_none room.hub) refl refl
  call_step_goes calls (Some step) room = record { lines = λ n. refl; sends = adds_none room.hub; jobs = refl; agenda = refl }

  closes_call_goes : (id : ℕ) (room : Room) → Goes room (close_call id room)
  closes_call_goes id room = goes_with room (close_call id room) refl (record { more = to.Close (line_of id) Up ∷ []; adds = refl; quiet = (call_line_is id, tt) }) refl refl

  answer_goes : (answer : Option CallAnswer) (vm e : ℕ) (room : Room) → Goes room (put_call_answer answer vm e room)
  answer_goes answer vm e room = goes_with room (put_call_answer answer vm e room) refl (same_adds room.hub (put_call_answer answer vm e room).hub refl) refl refl

  drops_answer_goes : (vm e : ℕ) → GoesThen (drop_answer vm e)
  drops_answer_goes vm e value room = answer_goes None vm e room

  reads_call_goes : (id : ℕ) (o : Option Callout) (host : H) (room : Room) → GoesAll room (reads_call id o host room)
  reads_call_goes id None host room = goes_itself room
  reads_call_goes id (Some c) host room =
      let after : Heard → After = λ h. after_read id (after_part_heard h c) room.calls in
      λ h heard. call_step_goes (after h).calls (after h).next room

  tells_call_goes : (answer : Option CallAnswer) (c : Callout) (host : H) (room : Room) → GoesAll room (tells_call calling answer c host room)
  tells_call_goes answer c host room =
      let mid : Room = put_call_answer answer c.vm c.context room in
      by_bool (GoesAll room) (has_listener c room) (calls_live calling c.vm callbacks.CallAnswered c.context c.id 0 (drop_answer c.vm c.context) host mid) (ends (both host room))
      (λ e. goes_first room mid _ (answer_goes answer c.vm c.context room) (calls_live_goes c.vm callbacks.CallAnswered c.context c.id 0 (drop_answer c.vm c.context) host mid (drops_answer_goes c.vm c.context)))
      (λ e. goes_itself room)

  ends_call_goes : (answered : Bool) (id : ℕ) (o : Option Callout) (host : H) (room : Room) → GoesAll room (ends_call calling answered id o host room)
  ends_call_goes answered id None host room = goes_itself room
  ends_call_goes answered id (Some c) host room =
      let mid : Room = close_call id room in
      goes_first room mid (tells_call calling (answer_if answered c) c host mid) (closes_call_goes id room) (tells_call_goes (answer_if answered c) c host mid)

  works_call_goes : (step : CallStep) (host : H) (room : Room) → GoesAll room (works_call calling step host room)
  works_call_goes (steps.Comes w) host room = let a : After = after_event w room.calls in call_step_goes a.calls a.next room
  works_call_goes (steps.Read id) host room = reads_call_goes id (callout_in id room.calls) host room
  works_call_goes (steps.Fail id) host room = ends_call_goes false id (callout_in id room.calls) host room
  works_call_goes (steps.Answer id) host room = ends_call_goes true id (callout_in id room.calls) host room

  works_other_goes : (step : OtherStep) (host : H) (room : Room) → GoesAll room (works_other calling step host room)
  works_other_goes (others.Call step) host room = works_call_goes step host room
  works_other_goes (others.Tcp step) host room = goes_itself room

  pub works_goes : (plan : Plan) (job : Job) (host : H) (room : Room) → IsCalm job → GoesAll room (works calling plan job host room)
  works_goes plan (jobs.Begin vm) host room is = tells_goes vm callbacks.Begin 0 0 host room
  works_goes plan (jobs.Root vm plugin first) host room is = roots_go vm plugin first host room
  works_goes plan (jobs.Start vm root) host room is = calls_live_goes vm callbacks.VmStart root (vm_length vm room.hub.contexts) 0 (unless_zero vm deaths.Start) host room (unless_zero_goes vm deaths.Start)
  works_goes plan (jobs.Configure vm root plugin) host room is =
      calls_live_goes vm callbacks.Configure root (plugin_length plugin room.hub.contexts) 0 (unless_zero vm deaths.Configure) host room (unless_zero_goes vm deaths.Configure)
  works_goes plan (jobs.Tick vm root) host room is = ticks_go vm root host room
  works_goes plan jobs.Expire host room is = expire_goes room
  works_goes plan (jobs.Happen w) host room is = absurd is
  works_goes plan (jobs.Create number k) host room is = streams_go number k host room
  works_goes plan (jobs.Enter number) host room is = absurd is
  works_goes plan (jobs.Put number response items) host room is = absurd is
  works_goes plan (jobs.Refuse number status) host room is = absurd is
  works_goes plan (jobs.Done c) host room is = calls_live_goes c.vm callbacks.Done c.context 0 0 (finish_context c) host room (done_goes c)
  works_goes plan (jobs.Log c) host room is = tells_goes c.vm callbacks.Log c.context 0 host room
  works_goes plan (jobs.Delete c) host room is = calls_live_goes c.vm callbacks.Delete c.context 0 0 (delete_context c) host room (deletes_goes c)
  works_goes plan (jobs.Close number stays) host room is = absurd is
  works_goes plan (jobs.Notice vm left) host room is = notices_go plan vm left host room
  works_goes plan (jobs.Ready vm root queue) host room is = ready_goes vm root queue host room
  works_goes plan (jobs.Other step) host room is = works_other_goes step host room
