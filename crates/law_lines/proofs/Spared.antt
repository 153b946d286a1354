-- A room in which something is done beside a line that has no filters.
use Rattle.std.proofs.Common.{◌≡◌, ℕ, ◌==◌, Bool, true, false, not, ◌||◌, ◌&&◌, cond, List, [], ◌∷◌, ◌++◌, length, refl, ap, ◌∙◌, sym, subst}
use Rattle.std.proofs.lemmas.Bool.{and_left}
use Rattle.std.proofs.lemmas.List.{append-nil, append_assoc}
use Rattle.std.proofs.lemmas.List.Elements.{filter-append}
use Rattle.std.specs.List.{list_any}
use Rattle.std.specs.Prelude.{Option, None, Some, is_some, nat_lt, slice_get, slice_set, filter}
use Rattle.callouts.specs.Callouts.{is_call_line, line_of}
use Rattle.callouts.specs.Requests.{request_wire}
use Rattle.callouts.specs.declared.types.Callout.{Callout}
use Rattle.callouts.specs.declared.types.CallStep.{CallStep}
use Rattle.contexts.specs.declared.parts.CallAnswer.{CallAnswer}
use Rattle.contexts.specs.declared.parts.Contexts.{Contexts}
use Rattle.contexts.specs.declared.parts.Effect.{Effect}
use Rattle.contexts.specs.declared.parts.Tick.{Tick}
use Rattle.contexts.specs.declared.parts.EffectKind.{EffectKind as EffectWhat}
use Rattle.contexts.specs.declared.parts.EffectKind.TheVariants as what
use Rattle.contexts.specs.Creating.{plugin_in, next_id, root_created, await_done_of, delete_id}
use Rattle.contexts.specs.Reached.{vm_in, tick_in, contains, seen}
use Rattle.filter_host.specs.Heard.{Heard, hands, halts}
use Rattle.filter_host.specs.declared.host.CallbackEnd.{CallbackEnd}
use Rattle.filter_host.specs.declared.host.CallbackEnd.TheVariants as call_ends
use Rattle.filter_host.specs.declared.host.Death.{Death}
use Rattle.filter_host.specs.declared.host.Death.TheVariants as deaths
use Rattle.exchange.specs.declared.types.Exchange.{Exchange}
use Rattle.exchange.specs.declared.types.Filter.{Filter}
use Rattle.exchange.specs.declared.types.Hub.{Hub}
use Rattle.exchange.specs.Answering.{with_held}
use Rattle.exchange.specs.Heads.{is_final, path_of, route_in}
use Rattle.exchange.specs.Leaving.{bytes_sent_to as sending_to}
use Rattle.exchange.specs.Maps.{put_response, with_fields}
use Rattle.exchange.specs.Passing as passing
use Rattle.exchange.specs.Passing.{chain_of, with_chain}
use Rattle.law_exchange.specs.Lives.{comes, responds, acts, resumes, closes, answers, dies, refuses, expires}
use Rattle.law_exchange.specs.Own.{SendsOn}
use Rattle.filter_chain.specs.Chains.{asked}
use Rattle.filter_chain.specs.declared.item.Asking.{Asking}
use Rattle.filter_chain.specs.declared.item.Asking.TheVariants.{Nothing, Over, Asks}
use Rattle.filter_chain.specs.declared.item.ChainItem.{ChainItem}
use Rattle.filter_chain.specs.declared.item.ChainItem.TheVariants as items
use Rattle.filter_chain.specs.declared.item.PassOutcome.TheVariants as passed
use Rattle.gate_io.specs.declared.event.Sent.{Sent}
use Rattle.gate_io.specs.declared.event.Sent.TheVariants as to
use Rattle.gate_io.specs.declared.event.Side.{Side}
use Rattle.gate_io.specs.declared.event.Side.TheVariants.{Down, Up}
use Rattle.gate_io.specs.declared.event.What.{What}
use Rattle.gate_io.specs.declared.event.What.TheVariants as whats
use Rattle.header_maps.specs.Operations.{no_headers}
use Rattle.h1_model.specs.Head.{Head}
use Rattle.h1_model.specs.Messages.{Stop, rest, over, refusal}
use Rattle.h1_model.specs.Unread.{Part, head_part, interim_part, piece, trailer_part, Reading}
use Rattle.store_model.specs.declared.call.Reply.{Reply}
use Rattle.store_model.specs.declared.call.Reply.TheVariants as replies
use Rattle.worker_model.specs.Calls.{call_job, with_call_step, close_call, put_call_answer}
use Rattle.worker_model.specs.Changes.{apply_change}
use Rattle.worker_model.specs.Room.{Room}
use Rattle.worker_model.specs.declared.types.Asked.{Asked}
use Rattle.worker_model.specs.declared.types.Change.TheVariants as changes
use Rattle.worker_model.specs.declared.types.ContextAt.{ContextAt}
use Rattle.worker_model.specs.declared.types.Job.{Job}
use Rattle.worker_model.specs.declared.types.Job.TheVariants as jobs
use Rattle.worker_model.specs.declared.types.Line.{Line}
use Rattle.worker_model.specs.declared.types.NewContext.{NewContext}
use Rattle.worker_model.specs.declared.types.Owner.{Owner}
use Rattle.worker_model.specs.declared.types.ReadBatch.{ReadBatch}
use Rattle.worker_model.specs.Moves.{asks_stage, asks_as, asks_exchange, asks_response, asks_in, asks_back, asks_at, count_of, ended_in, ended_back, ended_at}
use Rattle.worker_model.specs.Plan.{Plan}
use Rattle.worker_model.specs.Rooms.{Changes, all_lines, place_in, with_lines, on_number, on_context, with_contexts, room_with_sent, is_own, is_dead, next_call, begin_call, apply_effect, effects_of, without_effects, death_text, lose_vm_in, take_callback_end}
use Rattle.worker_model.specs.Steps.{Then, is_zero, action_of, with_jobs_first, unless_zero, has_vm, await_done, last_jobs, finish_context, delete_context, drop_answer, apply_stage_action, is_drawn_out, may_root, root_jobs, create_root, with_filter, change_exchange, change_line, exchange_of_line, line_in, exchange_on, may_stream, with_stream, create_stream, create_filter, filter_at, create_context, enter_stages, with_exchange, exchange_for, free_place, begin_exchange_on, line_reading, read_on, with_reader, is_last, with_read_mark, on_lines, jobs_of, end_reading, with_item, add_read_item, take_read_item, with_response_head, in_contexts, head_item, interim_of, put_trailers, take_part, end_of_read, after_heard, drop_line, close_line, read_side, end_line, fixed_answer, refusal_sent, refuse_in, refuse_line, most_lines, new_line, place_for, accept_line, with_further, side_with_more, is_open, is_answered_in, is_read_in, receive_on, exchange_without_client, line_without_client, lose_client, is_missed, lose_server, take_event, done_jobs, close_up, end_exchange_of, end_with, end_at, is_due_tick, tick_of, tick_root, is_late, expire_all, take_notice_reply, run_silent_job, begin_first_job, release_at, release}
use Rattle.law_lines.specs.Isolation.{lines_on, IsFree, is_event_of, is_job_of, jobs_on, is_read_of, is_at, is_late_on, is_work_of}
use Rattle.law_lines.specs.Logs.{AreLogs}
use Rattle.law_lines.proofs.Callouts.{seen_on, begin_unseen, close_unseen}
use Rattle.law_lines.proofs.Calls.{asks_on}
use Rattle.law_lines.proofs.Kept.{by_bool}
use Rattle.law_lines.proofs.Moments.{passed_on_at}
use Rattle.law_lines.proofs.OnLines.{Numbered, OfLine, AllOfLine, jobs_of_line}
use Rattle.law_lines.proofs.Untouched.{not_both, none_on, logs_on, adds_nothing, Aside, aside_then, aside_itself, set_aside, OnItsLine, by_deed, number_aside, context_aside, all_aside, all_outlive, all_in_time, on_line_aside, drops_aside, inserts_aside}

-- the line of the number is as it was, nothing was sent on it (on that of a callout, nothing down), and what is to be done of it is what was
pub record Spared (n : ℕ) (room after : Room) : Type 0 where
  pub lines : Aside n room.lines room.hub after.lines after.hub
  pub jobs : jobs_on n after ≡ jobs_on n room
  pub unread : is_read_of n room.reading ≡ false → is_read_of n after.reading ≡ false

pub spared_then : (n : ℕ) (a b c : Room) → Spared n a b → Spared n b c → Spared n a c
spared_then n a b c p q = record {
  lines = aside_then n a.lines b.lines c.lines a.hub b.hub c.hub p.lines q.lines;
  jobs = q.jobs ∙ p.jobs;
  unread = λ e. q.unread (p.unread e);
}

abbrev pub Free : ℕ → Room → Type 0
Free n room = IsFree n room.lines

pub spared_itself : (n : ℕ) (room : Room) → Free n room → Spared n room room
spared_itself n room free = record { lines = aside_itself n room.lines room.hub free; jobs = refl; unread = λ e. e }

-- the lines alone changed, and what all have in common
spared_lines : (n : ℕ) (room after : Room) → Aside n room.lines room.hub after.lines after.hub → after.jobs ≡ room.jobs → after.agenda ≡ room.agenda → after.reading ≡ room.reading → Spared n room after
spared_lines n room after lines js agenda reading = record {
  lines = lines;
  jobs = (λ i. filter (is_job_of n) (js i ++ agenda i));
  unread = λ e. ap (is_read_of n) reading ∙ e;
}

-- what all have in common changed, and nothing was sent on the line
spared_hub : (n : ℕ) (room after : Room) → Free n room → after.lines ≡ room.lines → seen_on n after.hub.sent ≡ seen_on n room.hub.sent → after.hub.moment ≡ room.hub.moment
    → after.jobs ≡ room.jobs → after.agenda ≡ room.agenda → after.reading ≡ room.reading → Spared n room after
spared_hub n room after free lines sent moment js agenda reading =
    spared_lines n room after
    (record { found = ap (lines_on n) lines; free = subst (IsFree n) (sym lines) free; sent = sent; moment = moment }) js agenda reading

-- ---- jobs

abbrev pub AllElse : ℕ → List Job → Type 0
AllElse n [] = Unit {0}
AllElse n (job ∷ later) = (is_job_of n job ≡ false) × AllElse n later

pub else_none : (n : ℕ) (js : List Job) → AllElse n js → filter (is_job_of n) js ≡ []
else_none n [] are = refl
else_none n (job ∷ later) are = ap (λ (b : Bool). cond b (job ∷ filter (is_job_of n) later) (filter (is_job_of n) later)) are.0 ∙ else_none n later are.1

pub else_join : (n : ℕ) (a b : List Job) → AllElse n a → AllElse n b → AllElse n (a ++ b)
else_join n [] b e f = f
else_join n (job ∷ a) b e f = (e.0, else_join n a b e.1 f)

-- in front of others
else_front : (n : ℕ) (more js : List Job) → AllElse n more → filter (is_job_of n) (more ++ js) ≡ filter (is_job_of n) js
else_front n more js are = filter-append (is_job_of n) more js ∙ ap (λ (l : List Job). l ++ filter (is_job_of n) js) (else_none n more are)

-- in front of all
jobs_front : (n : ℕ) (more : List Job) (room : Room) → AllElse n more → filter (is_job_of n) ((more ++ room.jobs) ++ room.agenda) ≡ jobs_on n room
jobs_front n more room are = ap (filter (is_job_of n)) (append_assoc more room.jobs room.agenda) ∙ else_front n more (room.jobs ++ room.agenda) are

line_else : (n m : ℕ) (js : List Job) → (m == n) ≡ false → AllOfLine m js → AllElse n js
line_else n m [] other are = tt
line_else n m (job ∷ later) other are = (one job are.0, line_else n m later other are.1)
  where
    one : (job : Job) → OfLine m job → is_job_of n job ≡ false
    one (jobs.Create k at) is = ap (λ (a : ℕ). a == n) is ∙ other
    one (jobs.Enter k) is = ap (λ (a : ℕ). a == n) is ∙ other
    one (jobs.Put k response items) is = ap (λ (a : ℕ). a == n) is ∙ other
    one (jobs.Refuse k status) is = ap (λ (a : ℕ). a == n) is ∙ other
    one (jobs.Begin vm) is = absurd is
    one (jobs.Root vm plugin is_first) is = absurd is
    one (jobs.Start vm root) is = absurd is
    one (jobs.Configure vm root plugin) is = absurd is
    one (jobs.Tick vm root) is = absurd is
    one jobs.Expire is = absurd is
    one (jobs.Happen w) is = absurd is
    one (jobs.Done c) is = absurd is
    one (jobs.Log c) is = absurd is
    one (jobs.Delete c) is = absurd is
    one (jobs.Close k stays) is = absurd is
    one (jobs.Notice vm left) is = absurd is
    one (jobs.Ready vm root queue) is = absurd is
    one (jobs.Other step) is = absurd is

pub in_front_spared : (n : ℕ) (more : List Job) (room : Room) → Free n room → AllElse n more → Spared n room (with_jobs_first more room)
in_front_spared n more room free are = record { lines = aside_itself n room.lines room.hub free; jobs = jobs_front n more room are; unread = λ e. e }

-- ---- what is done to exchanges

number_spared : (n m : ℕ) (change : Changes) (room : Room) → (m == n) ≡ false → Free n room → OnItsLine change → Spared n room (on_number change m room)
number_spared n m change room other free on = spared_lines n room (on_number change m room) (number_aside n m change room.lines room.hub other free on) refl refl refl

context_spared : (n vm context : ℕ) (change : Changes) (room : Room) → Free n room → OnItsLine change → Spared n room (on_context change vm context room)
context_spared n vm context change room free on = spared_lines n room (on_context change vm context room) (context_aside n vm context change room.lines room.hub free on) refl refl refl

-- something is sent that is not of the line
sent_spared : (n : ℕ) (more : List Sent) (room : Room) → Free n room → seen_on n more ≡ [] → Spared n room (room_with_sent more room)
sent_spared n more room free none = spared_hub n room (room_with_sent more room) free refl (adds_nothing n room.hub.sent more (room_with_sent more room).hub.sent refl none) refl refl refl refl

-- and the contexts and the callouts may be others
sending_spared : (n : ℕ) (more : List Sent) (room after : Room) → Free n room → after.lines ≡ room.lines → after.hub.sent ≡ room.hub.sent ++ more → seen_on n more ≡ [] → after.hub.moment ≡ room.hub.moment
    → after.jobs ≡ room.jobs → after.agenda ≡ room.agenda → after.reading ≡ room.reading → Spared n room after
sending_spared n more room after free lines sends none moment js agenda reading =
    spared_hub n room after free lines (adds_nothing n room.hub.sent more after.hub.sent sends none) moment js agenda reading

contexts_spared : (n : ℕ) (h : Contexts) (room : Room) → Free n room → Spared n room (with_contexts h room)
contexts_spared n h room free = spared_hub n room (with_contexts h room) free refl refl refl refl refl refl

lines_spared : (n m : ℕ) (f : Line → Line) (room : Room) → Numbered f → (m == n) ≡ false → Free n room → Spared n room (on_lines f m room)
lines_spared n m f room numbered other free = spared_lines n room (on_lines f m room) (on_line_aside n m f room.lines room.hub room.hub numbered other free refl refl) refl refl refl

pub change_numbered : (g : Exchange → Exchange) → Numbered (change_line g)
change_numbered g l = by_exchange l.exchange
  where
    by_exchange : (o : Option Exchange) → (change_exchange g l o).number ≡ l.number
    by_exchange None = refl
    by_exchange (Some x) = refl

-- ---- the effects of a callback, and deaths

pub does_spared : (n vm : ℕ) (own : Owner) (context : ℕ) (w : EffectWhat) (room : Room) → Free n room → Spared n room (apply_effect vm own context w room)
does_spared n vm own context (what.Continue response) room free =
    by_bool (Spared n room) (is_own own context response) room (on_context (passing.resume_context vm context response) vm context room) (λ e. spared_itself n room free)
    (λ e. context_spared n vm context (passing.resume_context vm context response) room free (by_deed (resumes vm context response) tt))
does_spared n vm own context what.Close room free = context_spared n vm context passing.close_exchange room free (by_deed closes tt)
does_spared n vm own context (what.Call request) room free =
    sending_spared n (to.Connect (line_of (next_call room)) ∷ to.Bytes (line_of (next_call room)) Up (request_wire request) ∷ []) room (begin_call request room) free refl refl
    (begin_unseen n (next_call room) (request_wire request)) refl refl refl refl
does_spared n vm own context (what.Answer status fields body) room free =
    context_spared n vm context (apply_change (changes.Answer status fields body)) room free (by_deed (answers false status fields.pairs body) tt)

effects_spared : (n vm : ℕ) (own : Owner) (es : List Effect) (room : Room) → Free n room → Spared n room (effects_of vm own es room)
effects_spared n vm own [] room free = spared_itself n room free
effects_spared n vm own (e ∷ es) room free =
    let mid : Room = apply_effect vm own e.context e.what room in
    let one : Spared n room mid = does_spared n vm own e.context e.what room free in
    spared_then n room mid (effects_of vm own es mid) one (effects_spared n vm own es mid one.lines.free)

pub died_spared : (n vm : ℕ) (death : Death) (room : Room) → Free n room → Spared n room (lose_vm_in vm death room)
died_spared n vm death room free =
    let told : Room = room_with_sent (to.Log _ (death_text (vm_in room.hub.contexts vm).name death) ∷ []) room in
    let p : List Line × Hub = all_lines (passing.lose_vm vm) room.lines told.hub in
    let one : Spared n room told = sent_spared n (to.Log _ (death_text (vm_in room.hub.contexts vm).name death) ∷ []) room free refl in
    spared_lines n room (lose_vm_in vm death room)
    (aside_then n room.lines room.lines p.0 room.hub told.hub p.1 one.lines
    (all_aside n (passing.lose_vm vm) told.hub.moment room.lines told.hub refl free (by_deed (dies vm) tt) (all_outlive n vm told.hub.moment room.lines free))) refl refl refl

pub answered_spared : (n vm : ℕ) (own : Owner) (end : CallbackEnd) (lines : List Sent) (h : Contexts) (room : Room) → Free n room → AreLogs lines → Spared n room (take_callback_end vm own end lines h room)
answered_spared n vm own end lines h room free are = by_end end
  where
    mid : Room
    mid = without_effects (room_with_sent lines (with_contexts h room))

    one : Spared n room mid
    one = spared_hub n room mid free refl (adds_nothing n room.hub.sent lines mid.hub.sent refl (logs_on n lines are)) refl refl refl refl

    by_end : (end : CallbackEnd) → Spared n room (take_callback_end vm own end lines h room)
    by_end (call_ends.Returned value) = spared_then n room mid (effects_of vm own h.effects mid) one (effects_spared n vm own h.effects mid free)
    by_end (call_ends.Died death) = spared_then n room mid (lose_vm_in vm death mid) one (died_spared n vm death mid free)

-- ---- what comes behind callbacks

abbrev pub SparedThen : ℕ → Then → Type 0
SparedThen n behind = (value : Option (Option ℕ)) (room : Room) → Free n room → Spared n room (behind value room)

pub zero_spared : (n vm : ℕ) (death : Death) → SparedThen n (unless_zero vm death)
zero_spared n vm death None room free = spared_itself n room free
zero_spared n vm death (Some value) room free =
    by_bool (Spared n room) (is_zero value) (lose_vm_in vm death room) room (λ e. died_spared n vm death room free) (λ e. spared_itself n room free)

pub done_spared : (n : ℕ) (c : ContextAt) → SparedThen n (finish_context c)
done_spared n c None room free = in_front_spared n (last_jobs c) room free (refl, (refl, tt))
done_spared n c (Some value) room free =
    by_bool (Spared n room) (is_zero value) (await_done c room) (with_jobs_first (last_jobs c) room)
    (λ e. by_bool (Spared n room) (has_vm c.vm room.hub.contexts) (with_contexts (await_done_of c.vm c.context room.hub.contexts) (record room { waits = room.waits ++ c ∷ [] })) room
    (λ d. spared_hub n room _ free refl refl refl refl refl refl) (λ d. spared_itself n room free))
    (λ e. in_front_spared n (last_jobs c) room free (refl, (refl, tt)))

pub deletes_spared : (n : ℕ) (c : ContextAt) → SparedThen n (delete_context c)
deletes_spared n c value room free =
    by_bool (Spared n room) (has_vm c.vm room.hub.contexts && contains c.context (seen room.hub.contexts c.vm).common.ids) (with_contexts (delete_id c.vm c.context room.hub.contexts) room) room
    (λ d. contexts_spared n (delete_id c.vm c.context room.hub.contexts) room free) (λ d. spared_itself n room free)

pub acts_spared : (n : ℕ) (a : Asked) → (a.line == n) ≡ false → SparedThen n (apply_stage_action a)
acts_spared n a other None room free = spared_itself n room free
acts_spared n a other (Some value) room free =
    number_spared n a.line (passing.apply_action a.response a.ask.stage (action_of value)) room other free (by_deed (acts a.response a.ask.stage (action_of value)) tt)

-- ---- callouts

-- they are others now, and this comes next for one of them, if anything
pub call_step_spared : (n : ℕ) (calls : List Callout) (step : Option CallStep) (room : Room) → Free n room → Spared n room (with_call_step step (record room { calls = calls }))
call_step_spared n calls None room free = spared_hub n room (record room { calls = calls }) free refl refl refl refl refl refl
call_step_spared n calls (Some step) room free = record { lines = aside_itself n room.lines room.hub free; jobs = jobs_front n (call_job step ∷ []) room (refl, tt); unread = λ e. e }

pub closes_call_spared : (n id : ℕ) (room : Room) → Free n room → Spared n room (close_call id room)
closes_call_spared n id room free = sending_spared n (to.Close (line_of id) Up ∷ []) room (close_call id room) free refl refl (close_unseen n id) refl refl refl refl

pub answer_spared : (n : ℕ) (answer : Option CallAnswer) (vm e : ℕ) (room : Room) → Free n room → Spared n room (put_call_answer answer vm e room)
answer_spared n answer vm e room free = contexts_spared n _ room free

pub drops_answer_spared : (n vm e : ℕ) → SparedThen n (drop_answer vm e)
drops_answer_spared n vm e value room free = answer_spared n None vm e room free

-- ---- contexts are made

root_else : (n vm root plugin : ℕ) (is_first : Bool) → AllElse n (root_jobs vm root plugin is_first)
root_else n vm root plugin true = (refl, (refl, tt))
root_else n vm root plugin false = (refl, tt)

pub rooting_spared : (n vm plugin : ℕ) (is_first : Bool) (room : Room) → Free n room → Spared n room (create_root vm plugin is_first room).1
rooting_spared n vm plugin is_first room free =
    by_bool (λ (p : Option NewContext × Room). Spared n room p.1) (is_dead vm room || not (may_root vm plugin room.hub.contexts)) (None, room) _ (λ e. spared_itself n room free)
    (λ e. by_bool (λ (p : Option NewContext × Room). Spared n room p.1) (is_drawn_out vm room.hub.contexts) (None, lose_vm_in vm deaths.Ids room) _ (λ d. died_spared n vm deaths.Ids room free)
    (λ d.
    let mid : Room = with_contexts (root_created vm plugin room.hub.contexts) room in
    spared_then n room mid (with_jobs_first (root_jobs vm (next_id room.hub.contexts vm) plugin is_first) mid) (contexts_spared n (root_created vm plugin room.hub.contexts) room free)
    (in_front_spared n (root_jobs vm (next_id room.hub.contexts vm) plugin is_first) mid free (root_else n vm (next_id room.hub.contexts vm) plugin is_first))))

pub creating_spared : (n number k : ℕ) (room : Room) → (number == n) ≡ false → Free n room → Spared n room (create_context number k room).1
creating_spared n number k room other free = by_filter (filter_at number k room.lines)
  where
    by_root : (f : Filter) (r : Option ℕ) → Spared n room (create_stream number k f r room).1
    by_root f None = spared_itself n room free
    by_root f (Some root) =
        by_bool (λ (p : Option NewContext × Room). Spared n room p.1) (is_dead f.vm room || not (may_stream f.vm root room.hub.contexts)) (None, room) _ (λ e. spared_itself n room free)
        (λ e. by_bool (λ (p : Option NewContext × Room). Spared n room p.1) (is_drawn_out f.vm room.hub.contexts) (None, lose_vm_in f.vm deaths.Ids room) (with_stream number k f root room) (λ d. died_spared n f.vm deaths.Ids room free)
        (λ d.
        let later : Room = (with_stream number k f root room).1 in
        let g : Filter = record f { created = true; context = next_id room.hub.contexts f.vm } in
        spared_lines n room later (on_line_aside n number (change_line (with_filter k g)) room.lines room.hub later.hub (change_numbered (with_filter k g)) other free refl refl) refl refl refl))

    by_filter : (o : Option Filter) → Spared n room (create_filter number k o room).1
    by_filter None = spared_itself n room free
    by_filter (Some f) = by_root f (plugin_in room.hub.contexts f.plugin).root

-- ---- ticks, deadlines, notices

pub ticked_spared : (n vm root : ℕ) (room : Room) → Free n room → Spared n room (tick_root vm root room).1
ticked_spared n vm root room free = by_tick (tick_in (vm_in room.hub.contexts vm).contexts root)
  where
    by_tick : (o : Option (Option Tick)) → Spared n room (tick_of vm root o room).1
    by_tick None = spared_itself n room free
    by_tick (Some None) = spared_itself n room free
    by_tick (Some (Some t)) =
        by_bool (λ (p : Bool × Room). Spared n room p.1) (is_due_tick room.hub.moment t && has_vm vm room.hub.contexts) _ (false, room)
        (λ e. spared_hub n room _ free refl refl refl refl refl refl) (λ e. spared_itself n room free)

expires_spared : (n : ℕ) (room : Room) → is_late_on n room ≡ false → Free n room → Spared n room (expire_all room)
expires_spared n room in_time free =
    by_bool (Spared n room) (list_any (is_late room.hub.moment) room.lines) (with_lines room (all_lines passing.expire_exchange room.lines room.hub)) room
    (λ e. spared_lines n room (with_lines room (all_lines passing.expire_exchange room.lines room.hub))
    (all_aside n passing.expire_exchange room.hub.moment room.lines room.hub refl free (by_deed expires tt) (all_in_time n room.hub.moment room.lines in_time)) refl refl refl)
    (λ e. spared_itself n room free)

pub noticed_spared : (n vm left : ℕ) (reply : Reply) (room : Room) → Free n room → Spared n room (take_notice_reply vm left reply room)
noticed_spared n vm left (replies.Owed root queue) room free = record {
  lines = aside_itself n room.lines room.hub free;
  jobs = filter-append (is_job_of n) room.jobs (jobs.Notice vm _ ∷ room.agenda) ∙ sym (filter-append (is_job_of n) room.jobs room.agenda);
  unread = λ e. e;
}
noticed_spared n vm left replies.Absent room free = spared_itself n room free
noticed_spared n vm left (replies.Value value number) room free = spared_itself n room free
noticed_spared n vm left (replies.Done number) room free = spared_itself n room free
noticed_spared n vm left replies.CasMismatch room free = spared_itself n room free
noticed_spared n vm left replies.Full room free = spared_itself n room free
noticed_spared n vm left (replies.Id queue) room free = spared_itself n room free
noticed_spared n vm left (replies.Item item) room free = spared_itself n room free
noticed_spared n vm left replies.Empty room free = spared_itself n room free
noticed_spared n vm left replies.NoneOwed room free = spared_itself n room free

-- ---- other lines come and go

up_unseen : (n m : ℕ) → (m == n) ≡ false → ((m == n) && not (is_call_line n)) ≡ false
up_unseen n m other = and_left (m == n) (not (is_call_line n)) other

sending_on : (n m : ℕ) (side : Side) (bytes : List ℕ) → (m == n) ≡ false → seen_on n (sending_to m side bytes) ≡ []
sending_on n m side [] other = refl
sending_on n m Down (b ∷ bytes) other = ap (λ (c : Bool). cond c (to.Bytes m Down (b ∷ bytes) ∷ []) []) other
sending_on n m Up (b ∷ bytes) other = ap (λ (c : Bool). cond c (to.Bytes m Up (b ∷ bytes) ∷ []) []) (up_unseen n m other)

close_on : (n m : ℕ) (side : Side) → (m == n) ≡ false → seen_on n (to.Close m side ∷ []) ≡ []
close_on n m Down other = ap (λ (c : Bool). cond c (to.Close m Down ∷ []) []) other
close_on n m Up other = ap (λ (c : Bool). cond c (to.Close m Up ∷ []) []) (up_unseen n m other)

drops_spared : (n m : ℕ) (room : Room) → (m == n) ≡ false → Free n room → Spared n room (drop_line m room)
drops_spared n m room other free = spared_lines n room (drop_line m room) (drops_aside n m room.lines room.hub room.hub other free refl refl) refl refl refl

closes_spared : (n m : ℕ) (room : Room) → (m == n) ≡ false → Free n room → Spared n room (close_line m room)
closes_spared n m room other free =
    let one : Spared n room (drop_line m room) = drops_spared n m room other free in
    spared_then n room (drop_line m room) (close_line m room) one (sent_spared n (to.Close m Down ∷ []) (drop_line m room) one.lines.free (close_on n m Down other))

reads_spared : (n m : ℕ) (up : Bool) (room : Room) → (m == n) ≡ false → Free n room → Spared n room (read_side m up room)
reads_spared n m up room other free = record { lines = aside_itself n room.lines room.hub free; jobs = refl; unread = λ e. other }

line_ends_spared : (n m : ℕ) (o : Option Line) (stays : Bool) (room : Room) → (m == n) ≡ false → Free n room → Spared n room (end_line o m stays room)
line_ends_spared n m None stays room other free = spared_itself n room free
line_ends_spared n m (Some line) stays room other free =
    by_bool (Spared n room) line.is_gone (drop_line m room) _ (λ e. drops_spared n m room other free)
    (λ e. by_bool (Spared n room) stays (read_side m false room) (close_line m room) (λ d. reads_spared n m false room other free) (λ d. closes_spared n m room other free))

refused_spared : (n m status : ℕ) (room : Room) → (m == n) ≡ false → Free n room → Spared n room (on_number (passing.refuse_exchange status) m room)
refused_spared n m status room other free = number_spared n m (passing.refuse_exchange status) room other free (by_deed (refuses status) tt)

refuses_spared : (n m status : ℕ) (o : Option Line) (room : Room) → (m == n) ≡ false → Free n room → Spared n room (refuse_line o m status room)
refuses_spared n m status None room other free = spared_itself n room free
refuses_spared n m status (Some line) room other free = by_exchange line.exchange
  where
    told : Spared n room (refusal_sent m status room)
    told =
        by_bool (Spared n room) (is_final status) (room_with_sent (sending_to m Down (fixed_answer status room.hub.moment)) room) room
        (λ e. sent_spared n (sending_to m Down (fixed_answer status room.hub.moment)) room free (sending_on n m Down (fixed_answer status room.hub.moment) other)) (λ e. spared_itself n room free)

    by_exchange : (o : Option Exchange) → Spared n room (refuse_in m status o room)
    by_exchange None =
        spared_then n room (refusal_sent m status room) (close_line m (refusal_sent m status room)) told (closes_spared n m (refusal_sent m status room) other told.lines.free)
    by_exchange (Some x) = refused_spared n m status room other free

-- ---- what happens on other lines

pub further_numbered : (up stops_now : Bool) (bytes : List ℕ) → Numbered (side_with_more up stops_now bytes)
further_numbered false stops_now bytes l = refl
further_numbered true stops_now bytes l = change_numbered (with_further stops_now bytes) l

comes_spared : (n m : ℕ) (up stops_now : Bool) (bytes : List ℕ) (o : Option Line) (room : Room) → (m == n) ≡ false → Free n room → Spared n room (receive_on up stops_now bytes m o room)
comes_spared n m up stops_now bytes o room other free =
    let next : Room = on_lines (side_with_more up stops_now bytes) m room in
    let one : Spared n room next = lines_spared n m (side_with_more up stops_now bytes) room (further_numbered up stops_now bytes) other free in
    by_bool (Spared n room) (is_open (line_reading up o) && not (up && is_answered_in (exchange_of_line o))) _ room
    (λ e. by_bool (Spared n room) (is_read_in up (exchange_of_line o)) (read_side m up next) next
    (λ d. spared_then n room next (read_side m up next) one (reads_spared n m up next other one.lines.free)) (λ d. one))
    (λ e. spared_itself n room free)

pub lost_numbered : Numbered line_without_client
lost_numbered l = change_numbered exchange_without_client l

loses_down_spared : (n m : ℕ) (o : Option Line) (room : Room) → (m == n) ≡ false → Free n room → Spared n room (lose_client m o room)
loses_down_spared n m None room other free = spared_itself n room free
loses_down_spared n m (Some line) room other free =
    by_bool (Spared n room) (is_some line.exchange) (on_lines line_without_client m room) (drop_line m room) (λ e. lines_spared n m line_without_client room lost_numbered other free) (λ e. drops_spared n m room other free)

loses_up_spared : (n m : ℕ) (o : Option Exchange) (room : Room) → (m == n) ≡ false → Free n room → Spared n room (lose_server m o room)
loses_up_spared n m o room other free =
    by_bool (Spared n room) (is_missed o) (on_number (passing.refuse_exchange 502) m room) room (λ e. refused_spared n m 502 room other free) (λ e. spared_itself n room free)

opens_spared : (n m : ℕ) (room : Room) → (m == n) ≡ false → Free n room → Spared n room (accept_line m room)
opens_spared n m room other free =
    by_bool (Spared n room) (is_some (place_in m room.lines)) room _ (λ e. spared_itself n room free)
    (λ e. by_bool (Spared n room) (nat_lt (length room.lines) most_lines) _ (room_with_sent (to.Close m Down ∷ []) room)
    (λ d. spared_lines n room _ (inserts_aside n (place_for m room.lines) (new_line m) room.lines room.hub other free) refl refl refl)
    (λ d. sent_spared n (to.Close m Down ∷ []) room free (close_on n m Down other)))

happens_spared : (n : ℕ) (w : What) (room : Room) → is_event_of n w ≡ false → Free n room → Spared n room (take_event w room)
happens_spared n (whats.Opened m) room other free = opens_spared n m room other free
happens_spared n (whats.Bytes m Down bytes) room other free = comes_spared n m false false bytes (line_in m room.lines) room other free
happens_spared n (whats.Bytes m Up bytes) room other free = comes_spared n m true false bytes (line_in m room.lines) room other free
happens_spared n (whats.End m Down) room other free = comes_spared n m false true [] (line_in m room.lines) room other free
happens_spared n (whats.End m Up) room other free = comes_spared n m true true [] (line_in m room.lines) room other free
happens_spared n (whats.Gone m Down) room other free = loses_down_spared n m (line_in m room.lines) room other free
happens_spared n (whats.Gone m Up) room other free = loses_up_spared n m (exchange_on m room) room other free
happens_spared n (whats.Joined m) room other free = spared_itself n room free
happens_spared n (whats.Refused m) room other free = loses_up_spared n m (exchange_on m room) room other free
happens_spared n (whats.Room m side) room other free = spared_itself n room free
happens_spared n whats.Clock room other free = spared_itself n room free
happens_spared n whats.Stop room other free = spared_itself n room free

-- stages are made, and nothing is sent
pub enters_on : (dead : List ℕ) → OnItsLine (enter_stages dead)
enters_on dead = record { sends = λ m x hub. record { more = []; adds = sym (append-nil hub.sent); own = tt }; moment = λ m x hub. refl }

pub puts_on : (response : Bool) (batch : List ChainItem) → OnItsLine (passing.put_read_items response batch)
puts_on false batch = by_deed (comes batch) tt
puts_on true batch = by_deed (responds batch) tt

-- the jobs that call nothing
pub quietly_spared : (n : ℕ) (job : Job) (room : Room) → is_work_of n room job ≡ false → Free n room → Spared n room (run_silent_job job room)
quietly_spared n (jobs.Begin vm) room other free = spared_itself n room free
quietly_spared n (jobs.Root vm plugin is_first) room other free = spared_itself n room free
quietly_spared n (jobs.Start vm root) room other free = spared_itself n room free
quietly_spared n (jobs.Configure vm root plugin) room other free = spared_itself n room free
quietly_spared n (jobs.Tick vm root) room other free = spared_itself n room free
quietly_spared n jobs.Expire room other free = expires_spared n room other free
quietly_spared n (jobs.Happen w) room other free = happens_spared n w room other free
quietly_spared n (jobs.Create m k) room other free = spared_itself n room free
quietly_spared n (jobs.Enter m) room other free = number_spared n m (enter_stages room.dead) room other free (enters_on room.dead)
quietly_spared n (jobs.Put m response batch) room other free = number_spared n m (passing.put_read_items response batch) room other free (puts_on response batch)
quietly_spared n (jobs.Refuse m status) room other free = refuses_spared n m status (line_in m room.lines) room other free
quietly_spared n (jobs.Done c) room other free = spared_itself n room free
quietly_spared n (jobs.Log c) room other free = spared_itself n room free
quietly_spared n (jobs.Delete c) room other free = spared_itself n room free
quietly_spared n (jobs.Close m stays) room other free = line_ends_spared n m (line_in m room.lines) stays room other free
quietly_spared n (jobs.Notice vm left) room other free = spared_itself n room free
quietly_spared n (jobs.Ready vm root queue) room other free = spared_itself n room free
quietly_spared n (jobs.Other step) room other free = spared_itself n room free

-- ---- steps that call nothing

-- a job is taken in hand where none is
pub begins_spared : (n : ℕ) (todo : List Job) (room : Room) → room.agenda ≡ todo → room.jobs ≡ [] → Free n room → Spared n room (begin_first_job todo room)
begins_spared n [] room is none free = spared_itself n room free
begins_spared n (job ∷ later) room is none free = record {
  lines = aside_itself n room.lines room.hub free;
  jobs = sym (λ i. filter (is_job_of n) (none i ++ is i));
  unread = λ e. e;
}

pub frees_spared : (n at : ℕ) (room : Room) → Free n room → Spared n room (release at room)
frees_spared n at room free = by_one (slice_get room.waits at)
  where
    by_one : (o : Option ContextAt) → Spared n room (release_at at o room)
    by_one None = spared_itself n room free
    by_one (Some c) = record { lines = aside_itself n room.lines room.hub free; jobs = jobs_front n (last_jobs c) room (refl, (refl, tt)); unread = λ e. e }

done_else : (n : ℕ) (fs : List Filter) → AllElse n (done_jobs fs)
done_else n [] = tt
done_else n (f ∷ fs) = by_bool (AllElse n) f.created (jobs.Done (record { vm = f.vm; context = f.context }) ∷ done_jobs fs) (done_jobs fs) (λ e. (refl, done_else n fs)) (λ e. done_else n fs)

close_up_on : (n m : ℕ) (o : Option Reading) → (m == n) ≡ false → seen_on n (close_up m o) ≡ []
close_up_on n m None other = refl
close_up_on n m (Some reading) other = close_on n m Up other

pub ends_spared : (n place : ℕ) (room : Room) → is_at n (slice_get room.lines place) ≡ false → Free n room → Spared n room (end_at place room)
ends_spared n place room other free = by_line (slice_get room.lines place) refl other
  where
    by_exchange : (line : Line) → slice_get room.lines place ≡ Some line → (line.number == n) ≡ false → (o : Option Exchange) → Spared n room (end_with room (ended_back place room.lines (ended_in line o)))
    by_exchange line at away None =
        spared_lines n room _
        (set_aside n room.lines place line line room.hub room.hub at free (record { number = refl; same = λ e. refl; sent = refl; moment = refl })) refl refl refl
    by_exchange line at away (Some x) =
        let bare : Line = record line { exchange = None } in
        let mid : Room = record room { lines = slice_set room.lines place bare } in
        let one : Spared n room mid = spared_lines n room mid
        (set_aside n room.lines place line bare room.hub room.hub at free (record { number = refl; same = λ e. not_both (line.number == n) e away; sent = refl; moment = refl })) refl refl refl in
        let next : Room = with_contexts _ (room_with_sent (close_up line.number x.reader) mid) in
        let two : Spared n mid next = spared_hub n mid next one.lines.free refl (adds_nothing n mid.hub.sent (close_up line.number x.reader) next.hub.sent refl (close_up_on n line.number x.reader away)) refl refl refl refl in
        spared_then n room mid (end_exchange_of (Some (line.number, x)) mid) one
        (spared_then n mid next (end_exchange_of (Some (line.number, x)) mid) two
        (in_front_spared n (done_jobs x.filters ++ jobs.Close line.number x.stays ∷ []) next two.lines.free (else_join n (done_jobs x.filters) (jobs.Close line.number x.stays ∷ []) (done_else n x.filters) (away, tt))))

    by_line : (o : Option Line) → slice_get room.lines place ≡ o → is_at n o ≡ false → Spared n room (end_with room (ended_at place o room.lines))
    by_line None at away = spared_itself n room free
    by_line (Some line) at away = by_exchange line at away line.exchange

-- ---- what is read of other lines

ended_spared : (n : ℕ) (r : ReadBatch) (status : Option ℕ) (room : Room) → (r.line == n) ≡ false → Free n room → Spared n room (end_reading r status room)
ended_spared n r status room other free = record {
  lines = aside_itself n room.lines room.hub free;
  jobs = jobs_front n (jobs_of r status room) room (line_else n r.line (jobs_of r status room) other (jobs_of_line r status room));
  unread = λ e. refl;
}

takes_spared : (n : ℕ) (r : ReadBatch) (item : ChainItem) (room : Room) → (r.line == n) ≡ false → Free n room → Spared n room (take_read_item r item room)
takes_spared n r item room other free =
    let next : Room = on_lines (change_line (with_read_mark r.up item)) r.line room in
    let one : Spared n room next = lines_spared n r.line (change_line (with_read_mark r.up item)) room (change_numbered (with_read_mark r.up item)) other free in
    spared_then n room next (add_read_item r item next) one
    (by_bool (Spared n next) (is_last item) (end_reading (with_item item r) None next) _ (λ e. ended_spared n (with_item item r) None next other one.lines.free)
    (λ e. record { lines = aside_itself n next.lines next.hub one.lines.free; jobs = refl; unread = λ d. other }))

in_contexts_spared : (n : ℕ) (change : ℕ → Contexts → Contexts) (o : Option Exchange) (room : Room) → Free n room → Spared n room (in_contexts change o room)
in_contexts_spared n change None room free = spared_itself n room free
in_contexts_spared n change (Some x) room free = contexts_spared n (change x.place room.hub.contexts) room free

begun_spared : (n : ℕ) (plan : Plan) (m : ℕ) (h : Head) (room : Room) → (m == n) ≡ false → Free n room → Spared n room (begin_exchange_on plan m h room)
begun_spared n plan m h room other free =
    let x : Exchange = exchange_for plan (free_place room.hub.contexts) room.hub.moment room.dead h (route_in plan.routes (path_of h.fields)) in
    spared_lines n room (begin_exchange_on plan m h room) (on_line_aside n m (with_exchange x) room.lines room.hub (begin_exchange_on plan m h room).hub (λ l. refl) other free refl refl) refl refl refl

interim_on : (n m : ℕ) (o : Option Exchange) (h : Head) → (m == n) ≡ false → seen_on n (sending_to m Down (interim_of o h)) ≡ []
interim_on n m o h other = sending_on n m Down (interim_of o h) other

part_spared : (n : ℕ) (plan : Plan) (r : ReadBatch) (p : Part) (room : Room) → (r.line == n) ≡ false → Free n room → Spared n room (take_part plan r p room)
part_spared n plan r (head_part h) room other free =
    by_bool (Spared n room) r.up _ (take_read_item r (head_item h) (begin_exchange_on plan r.line h room))
    (λ up.
    let mid : Room = in_contexts (put_response h.fields) (exchange_on r.line room) room in
    let one : Spared n room mid = in_contexts_spared n (put_response h.fields) (exchange_on r.line room) room free in
    let next : Room = on_lines (change_line (with_response_head h)) r.line mid in
    let two : Spared n mid next = lines_spared n r.line (change_line (with_response_head h)) mid (change_numbered (with_response_head h)) other one.lines.free in
    spared_then n room mid (take_read_item r (head_item h) next) one (spared_then n mid next (take_read_item r (head_item h) next) two (takes_spared n r (head_item h) next other two.lines.free)))
    (λ down.
    let mid : Room = begin_exchange_on plan r.line h room in
    let one : Spared n room mid = begun_spared n plan r.line h room other free in
    spared_then n room mid (take_read_item r (head_item h) mid) one (takes_spared n r (head_item h) mid other one.lines.free))
part_spared n plan r (interim_part h) room other free =
    let mid : Room = room_with_sent (sending_to r.line Down (interim_of (exchange_on r.line room) h)) room in
    let one : Spared n room mid = sent_spared n (sending_to r.line Down (interim_of (exchange_on r.line room) h)) room free (interim_on n r.line (exchange_on r.line room) h other) in
    record { lines = one.lines; jobs = one.jobs; unread = λ e. other }
part_spared n plan r (piece bytes last) room other free = takes_spared n r (items.Piece bytes last) room other free
part_spared n plan r (trailer_part fields) room other free =
    let mid : Room = in_contexts (put_trailers r.up (with_fields no_headers fields)) (exchange_on r.line room) room in
    let one : Spared n room mid = in_contexts_spared n (put_trailers r.up (with_fields no_headers fields)) (exchange_on r.line room) room free in
    spared_then n room mid (take_read_item r items.Trailers mid) one (takes_spared n r items.Trailers mid other one.lines.free)

stops_spared : (n : ℕ) (r : ReadBatch) (why : Stop) (room : Room) → (r.line == n) ≡ false → Free n room → Spared n room (end_of_read r why room)
stops_spared n r rest room other free = ended_spared n r None room other free
stops_spared n r over room other free =
    let mid : Room = end_reading r None room in
    let one : Spared n room mid = ended_spared n r None room other free in
    by_bool (Spared n room) (r.up || is_some (exchange_on r.line room)) mid (with_jobs_first (jobs.Close r.line false ∷ []) mid) (λ e. one)
    (λ e. spared_then n room mid (with_jobs_first (jobs.Close r.line false ∷ []) mid) one (in_front_spared n (jobs.Close r.line false ∷ []) mid one.lines.free (other, tt)))
stops_spared n r (refusal status) room other free = ended_spared n r (Some status) room other free

pub read_numbered : (up : Bool) (new : Reading) → Numbered (read_on up new)
read_numbered false new l = refl
read_numbered true new l = change_numbered (with_reader new) l

-- nothing is being read
pub unread_spared : (n : ℕ) (room : Room) → Free n room → Spared n room (record room { reading = None })
unread_spared n room free = record { lines = aside_itself n room.lines room.hub free; jobs = refl; unread = λ e. refl }

pub heard_spared : (n : ℕ) (plan : Plan) (r : ReadBatch) (h : Heard) (room : Room) → (r.line == n) ≡ false → Free n room → Spared n room (after_heard plan r h (record room { reading = None }))
heard_spared n plan r (hands p new) room other free =
    let base : Room = record room { reading = None } in
    let mid : Room = on_lines (read_on r.up new) r.line base in
    let one : Spared n base mid = lines_spared n r.line (read_on r.up new) base (read_numbered r.up new) other free in
    spared_then n room base (take_part plan r p mid) (unread_spared n room free) (spared_then n base mid (take_part plan r p mid) one (part_spared n plan r p mid other one.lines.free))
heard_spared n plan r (halts why new) room other free =
    let base : Room = record room { reading = None } in
    let mid : Room = on_lines (read_on r.up new) r.line base in
    let one : Spared n base mid = lines_spared n r.line (read_on r.up new) base (read_numbered r.up new) other free in
    spared_then n room base (end_of_read r why mid) (unread_spared n room free) (spared_then n base mid (end_of_read r why mid) one (stops_spared n r why mid other one.lines.free))

-- ---- a stage of another line is asked

-- whom it asks is on that line
asks_there : (n : ℕ) (x : Exchange) (hub : Hub) (a : Asked) → (asks_exchange n x hub).0 ≡ Some a → a.line ≡ n
asks_there n x hub a is = by_asking (asks_response x) (asked hub.contexts (chain_of (asks_response x) x)).0 (with_chain (asks_response x) (asked hub.contexts (chain_of (asks_response x) x)).1 x) (with_held (asked hub.contexts (chain_of (asks_response x) x)).2 hub) is
  where
    line_asked : ℕ → Option Asked → ℕ
    line_asked k None = k
    line_asked k (Some b) = b.line

    by_stage : (response : Bool) (asks : _) (count : ℕ) (o : Option (ℕ × ℕ)) → asks_stage response n asks count o ≡ Some a → a.line ≡ n
    by_stage response asks count None e = absurd (cc)
    by_stage response asks count (Some s) e = sym (ap (line_asked n) e)

    by_asking : (response : Bool) (t : Asking) (y : Exchange) (after : Hub) → (asks_as response n t y after).0 ≡ Some a → a.line ≡ n
    by_asking response Nothing y after e = absurd (cc)
    by_asking response (Over k) y after e = absurd (cc)
    by_asking response (Asks ask) y after e = by_stage response ask (count_of response ask.kind ask.count y.place after) _ e

asks_moment : (n : ℕ) (x : Exchange) (hub : Hub) → (asks_exchange n x hub).2.moment ≡ hub.moment
asks_moment n x hub = by_asking (asks_response x) (asked hub.contexts (chain_of (asks_response x) x)).0 (with_chain (asks_response x) (asked hub.contexts (chain_of (asks_response x) x)).1 x) (with_held (asked hub.contexts (chain_of (asks_response x) x)).2 hub)
  where
    by_asking : (response : Bool) (t : Asking) (y : Exchange) (after : Hub) → (asks_as response n t y after).2.moment ≡ after.moment
    by_asking response Nothing y after = refl
    by_asking response (Over k) y after = passed_on_at response n passed.Over y after
    by_asking response (Asks ask) y after = refl

pub record AsksBeside (n : ℕ) (room : Room) (r : Option Asked × List Line × Hub) : Type 0 where
  pub spared : Spared n room (with_lines room (r.1, r.2))
  pub away : (a : Asked) → r.0 ≡ Some a → (a.line == n) ≡ false

pub asks_beside : (n place : ℕ) (room : Room) → is_at n (slice_get room.lines place) ≡ false → Free n room → AsksBeside n room (asks_at place (slice_get room.lines place) room.lines room.hub)
asks_beside n place room other free = by_line (slice_get room.lines place) refl other
  where
    by_exchange : (line : Line) → slice_get room.lines place ≡ Some line → (line.number == n) ≡ false → (o : Option Exchange) → AsksBeside n room (asks_back place room.lines (asks_in line o room.hub))
    by_exchange line at away None = record {
      spared = spared_lines n room _ (set_aside n room.lines place line line room.hub room.hub at free (record { number = refl; same = λ e. refl; sent = refl; moment = refl })) refl refl refl;
      away = λ a is. absurd (cc);
    }
    by_exchange line at away (Some x) =
        let s : SendsOn line.number room.hub (asks_exchange line.number x room.hub).2 = asks_on n line.number x room.hub in
        let after : Hub = (asks_exchange line.number x room.hub).2 in
        let now : Line = record line { exchange = Some (asks_exchange line.number x room.hub).1 } in
        record {
          spared = spared_lines n room _ (set_aside n room.lines place line now room.hub after at free (record {
            number = refl;
            same = λ e. not_both (line.number == n) e away;
            sent = adds_nothing n room.hub.sent s.more after.sent s.adds (none_on n line.number s.more away s.own);
            moment = asks_moment line.number x room.hub;
          })) refl refl refl;
          away = λ a is. ap (λ (m : ℕ). m == n) (asks_there line.number x room.hub a is) ∙ away;
        }

    by_line : (o : Option Line) → slice_get room.lines place ≡ o → is_at n o ≡ false → AsksBeside n room (asks_at place o room.lines room.hub)
    by_line None at away = record { spared = spared_itself n room free; away = λ a is. absurd (cc) }
    by_line (Some line) at away = by_exchange line at away line.exchange
