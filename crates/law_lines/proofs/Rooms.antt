-- What callbacks and their effects do to a room, seen from the line of a number.
use Rattle.std.proofs.Common.{◌≡◌, ℕ, false, ◌&&◌, List, [], ◌∷◌, ◌++◌, refl, ap, ◌∙◌, sym, subst}
use Rattle.std.proofs.lemmas.List.{append-nil, append_assoc}
use Rattle.std.proofs.lemmas.Grind.{flat_map-append}
use Rattle.std.specs.Prelude.{Option, None, Some}
use Rattle.callouts.specs.Callouts.{is_call_line}
use Rattle.callouts.specs.Requests.{request_wire}
use Rattle.contexts.specs.declared.parts.Contexts.{Contexts}
use Rattle.contexts.specs.declared.parts.Effect.{Effect}
use Rattle.contexts.specs.declared.parts.EffectKind.{EffectKind}
use Rattle.contexts.specs.declared.parts.EffectKind.TheVariants as what
use Rattle.contexts.specs.Creating.{await_done_of, delete_id}
use Rattle.contexts.specs.Reached.{vm_in, contains, seen}
use Rattle.filter_host.specs.Called.{Called}
use Rattle.filter_host.specs.Course.{Course, runs_then}
use Rattle.filter_host.proofs.Holds.{AllEnds}
use Rattle.filter_host.specs.declared.host.CallbackEnd.{CallbackEnd}
use Rattle.filter_host.specs.declared.host.CallbackEnd.TheVariants as call_ends
use Rattle.filter_host.specs.declared.host.Death.{Death}
use Rattle.exchange.specs.declared.types.Hub.{Hub}
use Rattle.exchange.specs.Passing as passing
use Rattle.exchange.specs.Passing.{chain_of, with_chain, finish_put}
use Rattle.law_exchange.specs.Lives.{acts, resumes, closes, answers, dies}
use Rattle.law_exchange.specs.Responses.{down_bytes, down_of}
use Rattle.law_exchange.specs.Traffic.{up_traffic}
use Rattle.law_exchange.proofs.Traffic.{ups_join}
use Rattle.gate_io.specs.declared.event.Sent.{Sent}
use Rattle.gate_io.specs.declared.event.Sent.TheVariants as to
use Rattle.store_model.specs.Program.{Program, done, ask, measure}
use Rattle.worker_model.specs.Changes.{apply_change}
use Rattle.worker_model.specs.declared.types.Change.TheVariants as changes
use Rattle.worker_model.specs.Room.{Room}
use Rattle.worker_model.specs.declared.types.Asked.{Asked}
use Rattle.worker_model.specs.declared.types.ContextAt.{ContextAt}
use Rattle.worker_model.specs.declared.types.Job.{Job}
use Rattle.worker_model.specs.declared.types.Job.TheVariants as jobs
use Rattle.worker_model.specs.declared.types.Line.{Line}
use Rattle.worker_model.specs.declared.types.Owner.{Owner}
use Rattle.worker_model.specs.Rooms.{Changes, all_lines, with_lines, place_in, place_of, on_number, on_context, with_contexts, room_with_sent, is_own, next_call, begin_call, apply_effect, effects_of, without_effects, lose_vm_in, death_text, after_callback, take_callback_end}
use Rattle.worker_model.specs.Steps.{Both, Then, nothing_more, is_zero, action_of, with_jobs_first, unless_zero, has_vm, await_done, last_jobs, finish_context, delete_context, apply_stage_action}
use Rattle.law_lines.specs.Clients.{client_traffic, client_of}
use Rattle.law_lines.specs.Logs.{AreLogs, OnlyLogs}
use Rattle.law_lines.proofs.Callouts.{begin_beside}
use Rattle.law_lines.proofs.Finding.{IsOnce}
use Rattle.law_lines.proofs.Kept.{by_bool}
use Rattle.law_lines.proofs.Looks.{is_n, Beside, beside_itself, Still, still_aside, still_then, Does, does_deed, place_still, all_still}

-- ---- jobs that are of no line

abbrev pub IsFree : Job → Type 0
IsFree (jobs.Begin vm) = Unit {0}
IsFree (jobs.Root vm plugin first) = Unit {0}
IsFree (jobs.Start vm root) = Unit {0}
IsFree (jobs.Configure vm root plugin) = Unit {0}
IsFree (jobs.Tick vm root) = Unit {0}
IsFree jobs.Expire = Unit {0}
IsFree (jobs.Happen what) = ⊥
IsFree (jobs.Create number k) = ⊥
IsFree (jobs.Enter number) = ⊥
IsFree (jobs.Put number response items) = ⊥
IsFree (jobs.Refuse number status) = ⊥
IsFree (jobs.Done c) = Unit {0}
IsFree (jobs.Log c) = Unit {0}
IsFree (jobs.Delete c) = Unit {0}
IsFree (jobs.Close number stays) = ⊥
IsFree (jobs.Notice vm left) = Unit {0}
IsFree (jobs.Ready vm root queue) = Unit {0}
IsFree (jobs.Other step) = Unit {0}

abbrev pub AllFree : List Job → Type 0
AllFree [] = Unit {0}
AllFree (job ∷ later) = IsFree job × AllFree later

-- parts of a turn
abbrev pub IsPart : Job → Type 0
IsPart (jobs.Begin vm) = Unit {0}
IsPart (jobs.Root vm plugin first) = Unit {0}
IsPart (jobs.Start vm root) = Unit {0}
IsPart (jobs.Configure vm root plugin) = Unit {0}
IsPart (jobs.Tick vm root) = Unit {0}
IsPart jobs.Expire = Unit {0}
IsPart (jobs.Happen what) = Unit {0}
IsPart (jobs.Create number k) = ⊥
IsPart (jobs.Enter number) = ⊥
IsPart (jobs.Put number response items) = ⊥
IsPart (jobs.Refuse number status) = ⊥
IsPart (jobs.Done c) = Unit {0}
IsPart (jobs.Log c) = Unit {0}
IsPart (jobs.Delete c) = Unit {0}
IsPart (jobs.Close number stays) = ⊥
IsPart (jobs.Notice vm left) = Unit {0}
IsPart (jobs.Ready vm root queue) = Unit {0}
IsPart (jobs.Other step) = Unit {0}

abbrev pub AllParts : List Job → Type 0
AllParts [] = Unit {0}
AllParts (job ∷ later) = IsPart job × AllParts later

free_join : (a b : List Job) → AllFree a → AllFree b → AllFree (a ++ b)
free_join [] b e f = f
free_join (j ∷ a) b e f = (e.0, free_join a b e.1 f)

-- ---- a room in which nothing was read, and nothing of the line was put in hand

pub record Calm (n : ℕ) (room later : Room) : Type 0 where
  pub still : Still n room.lines room.hub later.lines later.hub
  pub reading : later.reading ≡ room.reading
  pub front : List Job
  pub free : AllFree front
  pub jobs : later.jobs ≡ front ++ room.jobs
  pub parts : AllParts room.agenda → AllParts later.agenda

pub calm_then : (n : ℕ) (a b c : Room) → Calm n a b → Calm n b c → Calm n a c
calm_then n a b c p q = record {
  still = still_then n a.lines b.lines c.lines a.hub b.hub c.hub p.still q.still;
  reading = q.reading ∙ p.reading;
  front = q.front ++ p.front;
  free = free_join q.front p.front q.free p.free;
  jobs = q.jobs ∙ (ap (λ l. q.front ++ l) p.jobs ∙ sym (append_assoc q.front p.front a.jobs));
  parts = λ o. q.parts (p.parts o);
}

abbrev pub Once : ℕ → Room → Type 0
Once n room = IsOnce (is_n n) room.lines

-- the lines alone changed
pub calm_of : (n : ℕ) (room later : Room) → Still n room.lines room.hub later.lines later.hub → later.reading ≡ room.reading → later.jobs ≡ room.jobs → later.agenda ≡ room.agenda → Calm n room later
calm_of n room later s r j a = record { still = s; reading = r; front = []; free = tt; jobs = j; parts = λ o. subst AllParts (sym a) o }

pub calm_beside : (n : ℕ) (room later : Room) → Once n room → later.lines ≡ room.lines → Beside n room.hub later.hub → later.reading ≡ room.reading → later.jobs ≡ room.jobs → later.agenda ≡ room.agenda
    → Calm n room later
calm_beside n room later once l b r j a =
    calm_of n room later (subst (λ (ls : List Line). Still n room.lines room.hub ls later.hub) (sym l) (still_aside n room.lines room.hub later.hub once b)) r j a

pub calm_itself : (n : ℕ) (room : Room) → Once n room → Calm n room room
calm_itself n room once = calm_beside n room room once refl (beside_itself n room.hub) refl refl refl

pub same_sent : (n : ℕ) (hub after : Hub) → after.sent ≡ hub.sent → Beside n hub after
same_sent n hub after is = record { up = ap (up_traffic n) is; down = ap (down_bytes n) is; client = ap (client_traffic n) is }

pub calm_number : (n : ℕ) (change : Changes) (m : ℕ) (room : Room) → Once n room → Does change → Calm n room (on_number change m room)
calm_number n change m room once apply_effect = calm_of n room (on_number change m room) (place_still n change room.lines (place_in m room.lines) room.hub once apply_effect) refl refl refl

calm_context : (n : ℕ) (change : Changes) (vm c : ℕ) (room : Room) → Once n room → Does change → Calm n room (on_context change vm c room)
calm_context n change vm c room once apply_effect = calm_of n room (on_context change vm c room) (place_still n change room.lines (place_of vm c room.lines) room.hub once apply_effect) refl refl refl

pub calm_all : (n : ℕ) (change : Changes) (room : Room) → Once n room → Does change → Calm n room (with_lines room (all_lines change room.lines room.hub))
calm_all n change room once apply_effect = calm_of n room (with_lines room (all_lines change room.lines room.hub)) (all_still n change room.lines room.hub once apply_effect) refl refl refl

-- ---- logs

logs_up : (n : ℕ) (more : List Sent) → AreLogs more → up_traffic n more ≡ []
logs_up n [] are = refl
logs_up n (to.Connect line ∷ more) are = absurd are.0
logs_up n (to.Bytes line side bytes ∷ more) are = absurd are.0
logs_up n (to.Close line side ∷ more) are = absurd are.0
logs_up n (to.Log level text ∷ more) are = logs_up n more are.1

logs_down : (n : ℕ) (more : List Sent) → AreLogs more → down_bytes n more ≡ []
logs_down n [] are = refl
logs_down n (to.Connect line ∷ more) are = absurd are.0
logs_down n (to.Bytes line side bytes ∷ more) are = absurd are.0
logs_down n (to.Close line side ∷ more) are = absurd are.0
logs_down n (to.Log level text ∷ more) are = logs_down n more are.1

logs_client : (n : ℕ) (more : List Sent) → AreLogs more → client_traffic n more ≡ []
logs_client n [] are = refl
logs_client n (to.Connect line ∷ more) are = absurd are.0
logs_client n (to.Bytes line side bytes ∷ more) are = absurd are.0
logs_client n (to.Close line side ∷ more) are = absurd are.0
logs_client n (to.Log level text ∷ more) are = logs_client n more are.1

pub logs_beside : (n : ℕ) (more : List Sent) (hub after : Hub) → AreLogs more → after.sent ≡ hub.sent ++ more → Beside n hub after
logs_beside n more hub after are is = record {
  up = ap (up_traffic n) is ∙ (ups_join n hub.sent more ∙ (ap (λ t. up_traffic n hub.sent ++ t) (logs_up n more are) ∙ append-nil (up_traffic n hub.sent)));
  down = ap (down_bytes n) is ∙ (flat_map-append (down_of n) hub.sent more ∙ (ap (λ t. down_bytes n hub.sent ++ t) (logs_down n more are) ∙ append-nil (down_bytes n hub.sent)));
  client = ap (client_traffic n) is ∙ (flat_map-append (client_of n) hub.sent more ∙ (ap (λ t. client_traffic n hub.sent ++ t) (logs_client n more are) ∙ append-nil (client_traffic n hub.sent)));
}

-- ---- effects

does_calm : (n : ℕ) → is_call_line n ≡ false → (vm : ℕ) (own : Owner) (context : ℕ) (w : EffectKind) (room : Room) → Once n room → Calm n room (apply_effect vm own context w room)
does_calm n low vm own context (what.Continue response) room once =
    by_bool (Calm n room) (is_own own context response) room (on_context (passing.resume_context vm context response) vm context room) (λ e. calm_itself n room once)
    (λ e. calm_context n (passing.resume_context vm context response) vm context room once (does_deed (passing.resume_context vm context response) (resumes vm context response) tt (λ m x hub. refl)))
does_calm n low vm own context what.Close room once = calm_context n passing.close_exchange vm context room once (does_deed passing.close_exchange closes tt (λ m x hub. refl))
does_calm n low vm own context (what.Call request) room once =
    calm_beside n room (begin_call request room) once refl (begin_beside n (next_call room) (request_wire request) room.hub (begin_call request room).hub low refl) refl refl refl
does_calm n low vm own context (what.Answer status fields body) room once =
    calm_context n (apply_change (changes.Answer status fields body)) vm context room once
    (does_deed (apply_change (changes.Answer status fields body)) (answers false status fields.pairs body) tt (λ m x hub. refl))

effects_calm : (n : ℕ) → is_call_line n ≡ false → (vm : ℕ) (own : Owner) (es : List Effect) (room : Room) → Once n room → Calm n room (effects_of vm own es room)
effects_calm n low vm own [] room once = calm_itself n room once
effects_calm n low vm own (e ∷ es) room once =
    let mid : Room = apply_effect vm own e.context e.what room in
    let one : Calm n room mid = does_calm n low vm own e.context e.what room once in
    calm_then n room mid (effects_of vm own es mid) one (effects_calm n low vm own es mid one.still.once)

pub died_calm : (n vm : ℕ) (death : Death) (room : Room) → Once n room → Calm n room (lose_vm_in vm death room)
died_calm n vm death room once =
    let told : Room = room_with_sent (to.Log _ (death_text (vm_in room.hub.contexts vm).name death) ∷ []) room in
    let p : List Line × Hub = all_lines (passing.lose_vm vm) room.lines told.hub in
    calm_of n room (lose_vm_in vm death room)
    (still_then n room.lines room.lines p.0 room.hub told.hub p.1 (still_aside n room.lines room.hub told.hub once (logs_beside n _ room.hub told.hub (tt, tt) refl))
    (all_still n (passing.lose_vm vm) room.lines told.hub once (does_deed (passing.lose_vm vm) (dies vm) tt (λ m x hub. refl)))) refl refl refl

behind_calm : (n : ℕ) → is_call_line n ≡ false → (vm : ℕ) (own : Owner) (end : CallbackEnd) (es : List Effect) (room : Room) → Once n room → Calm n room (after_callback vm own end es room)
behind_calm n low vm own (call_ends.Returned value) es room once = effects_calm n low vm own es room once
behind_calm n low vm own (call_ends.Died death) es room once = died_calm n vm death room once

pub answered_calm : (n : ℕ) → is_call_line n ≡ false → (vm : ℕ) (own : Owner) (end : CallbackEnd) (lines : List Sent) (h : Contexts) (room : Room) → Once n room → AreLogs lines → Calm n room (take_callback_end vm own end lines h room)
answered_calm n low vm own end lines h room once are =
    let mid : Room = without_effects (room_with_sent lines (with_contexts h room)) in
    calm_then n room mid (take_callback_end vm own end lines h room) (calm_beside n room mid once refl (logs_beside n lines room.hub mid.hub are refl) refl refl refl)
    (behind_calm n low vm own end h.effects mid once)

-- ---- callbacks

pub logs_then : {H B : Type 0} (Q : B → Type 0) (p : Program (Called H)) (f : Called H → Course B) → OnlyLogs p → ((c : Called H) → AreLogs c.lines → AllEnds Q (f c)) → AllEnds Q (runs_then p f)
logs_then Q (done c) f are next = next c are
logs_then Q (ask vm call k) f are next = λ r. logs_then Q (k r) f (are r) next
logs_then Q (measure vm call k) f are next = λ r. logs_then Q (k r) f (are r) next

abbrev pub CalmThen : ℕ → Then → Type 0
CalmThen n after_callback = (value : Option (Option ℕ)) (room : Room) → Once n room → Calm n room (after_callback value room)

-- every end of a course leaves the room calm
abbrev pub Calmly : {H : Type 0} → ℕ → Room → Course (Both H) → Type 0
Calmly {H} n room course = AllEnds (λ (b : Both H). Calm n room b.room) course

pub in_front_calm : (n : ℕ) (more : List Job) (room : Room) → Once n room → AllFree more → Calm n room (with_jobs_first more room)
in_front_calm n more room once free = record { still = still_aside n room.lines room.hub room.hub once (beside_itself n room.hub); reading = refl; front = more; free = free; jobs = refl; parts = λ o. o }

pub nothing_calm : (n : ℕ) → CalmThen n nothing_more
nothing_calm n value room once = calm_itself n room once

pub unless_zero_calm : (n vm : ℕ) (death : Death) → CalmThen n (unless_zero vm death)
unless_zero_calm n vm death None room once = calm_itself n room once
unless_zero_calm n vm death (Some value) room once = by_bool (Calm n room) (is_zero value) (lose_vm_in vm death room) room (λ e. died_calm n vm death room once) (λ e. calm_itself n room once)

pub done_calm : (n : ℕ) (c : ContextAt) → CalmThen n (finish_context c)
done_calm n c None room once = in_front_calm n (last_jobs c) room once (tt, (tt, tt))
done_calm n c (Some value) room once =
    by_bool (Calm n room) (is_zero value) (await_done c room) (with_jobs_first (last_jobs c) room)
    (λ e. by_bool (Calm n room) (has_vm c.vm room.hub.contexts) (with_contexts (await_done_of c.vm c.context room.hub.contexts) (record room { waits = room.waits ++ c ∷ [] })) room
    (λ d. calm_beside n room _ once refl (same_sent n room.hub _ refl) refl refl refl) (λ d. calm_itself n room once))
    (λ e. in_front_calm n (last_jobs c) room once (tt, (tt, tt)))

pub deletes_calm : (n : ℕ) (c : ContextAt) → CalmThen n (delete_context c)
deletes_calm n c value room once =
    by_bool (Calm n room) (has_vm c.vm room.hub.contexts && contains c.context (seen room.hub.contexts c.vm).common.ids) (with_contexts (delete_id c.vm c.context room.hub.contexts) room) room
    (λ d. calm_beside n room _ once refl (same_sent n room.hub _ refl) refl refl refl) (λ d. calm_itself n room once)

pub acts_on_calm : (n : ℕ) (a : Asked) → CalmThen n (apply_stage_action a)
acts_on_calm n a None room once = calm_itself n room once
acts_on_calm n a (Some value) room once =
    calm_number n (passing.apply_action a.response a.ask.stage (action_of value)) a.line room once (does_deed (passing.apply_action a.response a.ask.stage (action_of value)) (acts a.response a.ask.stage (action_of value)) tt (λ m x hub. refl))
