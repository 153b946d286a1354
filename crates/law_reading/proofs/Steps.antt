-- What each step does to the lines: a side is read, a line is dropped, an event happens, or the lines stay alike.
use Rattle.std.proofs.Common.{◌≡◌, inl, inr, ℕ, zero, suc, Bool, true, false, not, ◌||◌, ◌&&◌, List, [], ◌∷◌, ◌++◌, length, refl, ap, ◌∙◌, sym, subst}
use Rattle.std.proofs.lemmas.List.{append-nil}
use Rattle.std.specs.Prelude.{Option, None, Some, is_some, slice_get, if◌then◌else◌}
use Rattle.contexts.specs.declared.parts.Contexts.{Contexts}
use Rattle.filter_host.specs.Called.{Calling}
use Rattle.filter_host.specs.Course.{Course, ends, asks, measures, hears}
use Rattle.filter_host.specs.Heard as heard
use Rattle.filter_host.specs.Heard.{Heard, Hears}
use Rattle.filter_host.specs.declared.host.Callback.TheVariants as callbacks
use Rattle.filter_host.specs.declared.host.Death.TheVariants as deaths
use Rattle.filter_host.proofs.Holds.{AllEnds}
use Rattle.exchange.specs.declared.types.Exchange.{Exchange}
use Rattle.exchange.specs.declared.types.Filter.{Filter}
use Rattle.exchange.specs.Heads.{is_final}
use Rattle.exchange.specs.Passing as passing
use Rattle.exchange.specs.Maps.{put_response, with_fields}
use Rattle.exchange.specs.Passing.{put_read_items}
use Rattle.filter_chain.specs.declared.item.ChainItem.{ChainItem}
use Rattle.filter_chain.specs.declared.item.ChainItem.TheVariants as items
use Rattle.gate_io.specs.declared.event.What.{What}
use Rattle.header_maps.specs.Operations.{no_headers}
use Rattle.h1_model.specs.Head.{Head}
use Rattle.h1_model.specs.Messages.{Stop, rest, over, refusal}
use Rattle.h1_model.specs.Unread.{Part, head_part, interim_part, piece, trailer_part, Reading}
use Rattle.worker_model.specs.Room.{Room}
use Rattle.worker_model.specs.declared.types.ContextAt.{ContextAt}
use Rattle.worker_model.specs.declared.types.Job.{Job}
use Rattle.worker_model.specs.declared.types.Job.TheVariants as jobs
use Rattle.worker_model.specs.declared.types.Line.{Line}
use Rattle.worker_model.specs.declared.types.ReadBatch.{ReadBatch}
use Rattle.worker_model.specs.Moves.{ended_at, ended_back, ended_in}
use Rattle.worker_model.specs.Plan.{Plan}
use Rattle.worker_model.specs.Rooms.{place_in, on_number, room_with_sent}
use Rattle.worker_model.specs.Steps.{Both, on_lines, change_line, exchange_on, line_in, line_reading, reading_on, read_on, is_last, with_read_mark, create_jobs, begins_with_head, refuse_jobs, put_jobs, exchange_jobs, begin_jobs_for, jobs_of, end_reading, with_item, add_read_item, take_read_item, with_response_head, in_contexts, head_item, with_exchange, begin_exchange_on, put_trailers, take_part, end_of_read, after_heard, drop_line, close_line, read_side, end_line, refusal_sent, refuse_in, refuse_line, with_jobs_first, enter_stages, reads_in, reads_next, done_jobs, end_with, end_at, release, release_at, unless_zero, finish_context, delete_context, vm_length, plugin_length, works}
use Rattle.law_reading.proofs.Readers.{by_bool, ReaderGoes, put_in_kept, refused_kept}
use Rattle.law_reading.proofs.Alike.{AreAlike, are_itself, are_then, alike_itself, alike_set, change_on, on_alike}
use Rattle.law_reading.proofs.Lines.{found_in, set_in, without, line_in_found, on_line_set, drops_without}
use Rattle.law_reading.proofs.Every.{reading_in}
use Rattle.law_reading.proofs.Callouts.{other_quiet}
use Rattle.law_reading.proofs.Quiet.{happen_of, happens_in, happens_join, none_in_front, Quiet, Quietly, quiet_itself, quiet_then, quiet_number, quiet_hub, in_front_quiet, unless_zero_quiet, done_quiet, deletes_quiet, entering_kept, calls_live_quiet, tells_quiet, roots_quiet, streams_quiet, ticks_quiet, ready_quiet, notices_quiet, expire_quiet}

-- ---- what is done to the lines

pub data Changed (lines : List Line) : List Line → Type 0 where
  same : Changed lines lines
  read : (side : Bool) (n : ℕ) (old : Reading) (h : Heard) → line_reading side (found_in n lines) ≡ Some old → Hears old h → Changed lines (set_in (read_on side (reading_in h)) n lines)
  dropped : (n : ℕ) → Changed lines (without n lines)

-- the events that are in hand
abbrev pub in_hand : Room → List What
in_hand room = happens_in room.jobs ++ happens_in room.agenda

pub record Goes (room later : Room) : Type 0 where
  pub mid : List Line
  pub changed : Changed room.lines mid
  pub alike : AreAlike mid later.lines
  pub hand : in_hand later ≡ in_hand room

pub goes_quiet : (room later : Room) → Quiet room later → Goes room later
goes_quiet room later q = record { mid = room.lines; changed = same; alike = q.lines; hand = λ i. q.jobs i ++ q.agenda i }

pub goes_then : (a b c : Room) → Goes a b → Quiet b c → Goes a c
goes_then a b c g q = record { mid = g.mid; changed = g.changed; alike = are_then g.mid b.lines c.lines g.alike q.lines; hand = (λ i. q.jobs i ++ q.agenda i) ∙ g.hand }

goes_dropped : (n : ℕ) (room : Room) → Goes room (drop_line n room)
goes_dropped n room = record { mid = without n room.lines; changed = dropped n; alike = subst (AreAlike (without n room.lines)) (sym (drops_without n room.lines)) (are_itself (without n room.lines)); hand = refl }

goes_closed : (n : ℕ) (room : Room) → Goes room (close_line n room)
goes_closed n room = goes_then room (drop_line n room) (close_line n room) (goes_dropped n room) (quiet_hub (drop_line n room) _)

goes_first : (a b c : Room) → Quiet a b → a.lines ≡ b.lines → Goes b c → Goes a c
goes_first a b c q lines g = record { mid = g.mid; changed = subst (λ (ls : List Line). Changed ls g.mid) (sym lines) g.changed; alike = g.alike; hand = g.hand ∙ (λ i. q.jobs i ++ q.agenda i) }

-- ---- jobs that a reading puts in hand

creates_none : (n k : ℕ) → happens_in (create_jobs n k) ≡ []
creates_none n zero = refl
creates_none n (suc k) = happens_join (create_jobs n k) (jobs.Create n k ∷ []) ∙ (append-nil (happens_in (create_jobs n k)) ∙ creates_none n k)

refuses_none : (n : ℕ) (status : Option ℕ) → happens_in (refuse_jobs n status) ≡ []
refuses_none n None = refl
refuses_none n (Some status) = refl

puts_none : (n : ℕ) (response : Bool) (got : List ChainItem) → happens_in (put_jobs n response got) ≡ []
puts_none n response [] = refl
puts_none n response (item ∷ got) = refl

both_none : (a b : List Job) → happens_in a ≡ [] → happens_in b ≡ [] → happens_in (a ++ b) ≡ []
both_none a b p q = none_in_front a b p ∙ q

begins_none : (r : ReadBatch) (status : Option ℕ) (o : Option Exchange) → happens_in (begin_jobs_for r status o) ≡ []
begins_none r status None = refl
begins_none r status (Some x) = by_refusal x.refusal
  where
    by_refusal : (q : Option ℕ) → happens_in (exchange_jobs r status x q) ≡ []
    by_refusal (Some number) = refl
    by_refusal None =
        both_none (create_jobs r.line (length x.filters)) (jobs.Enter r.line ∷ (put_jobs r.line false r.batch ++ refuse_jobs r.line status)) (creates_none r.line (length x.filters))
        (both_none (put_jobs r.line false r.batch) (refuse_jobs r.line status) (puts_none r.line false r.batch) (refuses_none r.line status))

jobs_none : (r : ReadBatch) (status : Option ℕ) (room : Room) → happens_in (jobs_of r status room) ≡ []
jobs_none r status room =
    by_bool (λ (js : List Job). happens_in js ≡ []) (begins_with_head r.batch && not r.up) (begin_jobs_for r status (exchange_on r.line room)) (put_jobs r.line r.up r.batch ++ refuse_jobs r.line status)
    (λ e. begins_none r status (exchange_on r.line room)) (λ e. both_none (put_jobs r.line r.up r.batch) (refuse_jobs r.line status) (puts_none r.line r.up r.batch) (refuses_none r.line status))

reading_ends_quiet : (r : ReadBatch) (status : Option ℕ) (room : Room) → Quiet room (end_reading r status room)
reading_ends_quiet r status room = record { lines = are_itself room.lines; jobs = none_in_front (jobs_of r status room) room.jobs (jobs_none r status room); agenda = refl }

-- ---- what was read

joins_quiet : (r : ReadBatch) (item : ChainItem) (room : Room) → Quiet room (add_read_item r item room)
joins_quiet r item room =
    by_bool (Quiet room) (is_last item) (end_reading (with_item item r) None room) (record room { reading = Some (with_item item r) }) (λ e. reading_ends_quiet (with_item item r) None room)
    (λ e. record { lines = are_itself room.lines; jobs = refl; agenda = refl })

on_quiet : (g : Exchange → Exchange) (n : ℕ) (room : Room) → ((x : Exchange) → ReaderGoes (Some x) (Some (g x))) → Quiet room (on_lines (change_line g) n room)
on_quiet g n room keeps = record { lines = change_on g room.lines (place_in n room.lines) keeps; jobs = refl; agenda = refl }

noted_kept : (up : Bool) (item : ChainItem) (x : Exchange) → ReaderGoes (Some x) (Some (with_read_mark up item x))
noted_kept false item x = inl (refl, λ a. a)
noted_kept true item x = inl (refl, λ a. a)

takes_quiet : (r : ReadBatch) (item : ChainItem) (room : Room) → Quiet room (take_read_item r item room)
takes_quiet r item room =
    let mid : Room = on_lines (change_line (with_read_mark r.up item)) r.line room in
    quiet_then room mid (add_read_item r item mid) (on_quiet (with_read_mark r.up item) r.line room (noted_kept r.up item)) (joins_quiet r item mid)

contexts_quiet : (change : ℕ → Contexts → Contexts) (o : Option Exchange) (room : Room) → Quiet room (in_contexts change o room)
contexts_quiet change None room = quiet_itself room
contexts_quiet change (Some x) room = quiet_hub room _

begun_quiet : (plan : Plan) (n : ℕ) (h : Head) (room : Room) → Quiet room (begin_exchange_on plan n h room)
begun_quiet plan n h room = record { lines = on_alike (with_exchange _) room.lines (place_in n room.lines) (λ l. record { number = refl; requests = refl; reader = inr (inl refl) }); jobs = refl; agenda = refl }

hands_quiet : (plan : Plan) (r : ReadBatch) (p : Part) (room : Room) → Quiet room (take_part plan r p room)
hands_quiet plan r (head_part h) room =
    let first : Room = in_contexts (put_response h.fields) (exchange_on r.line room) room in
    let mid : Room = on_lines (change_line (with_response_head h)) r.line first in
    by_bool (Quiet room) r.up (take_read_item r (head_item h) mid) (take_read_item r (head_item h) (begin_exchange_on plan r.line h room))
    (λ e. quiet_then room first (take_read_item r (head_item h) mid) (contexts_quiet (put_response h.fields) (exchange_on r.line room) room)
    (quiet_then first mid (take_read_item r (head_item h) mid) (on_quiet (with_response_head h) r.line first (λ x. inl (refl, λ a. a))) (takes_quiet r (head_item h) mid)))
    (λ e. quiet_then room (begin_exchange_on plan r.line h room) (take_read_item r (head_item h) (begin_exchange_on plan r.line h room)) (begun_quiet plan r.line h room) (takes_quiet r (head_item h) (begin_exchange_on plan r.line h room)))
hands_quiet plan r (interim_part h) room = record { lines = are_itself room.lines; jobs = refl; agenda = refl }
hands_quiet plan r (piece bytes last) room = takes_quiet r (items.Piece bytes last) room
hands_quiet plan r (trailer_part fields) room =
    let first : Room = in_contexts (put_trailers r.up (with_fields no_headers fields)) (exchange_on r.line room) room in
    quiet_then room first (take_read_item r items.Trailers first) (contexts_quiet (put_trailers r.up (with_fields no_headers fields)) (exchange_on r.line room) room) (takes_quiet r items.Trailers first)

stops_quiet : (r : ReadBatch) (why : Stop) (room : Room) → Quiet room (end_of_read r why room)
stops_quiet r rest room = reading_ends_quiet r None room
stops_quiet r over room =
    let mid : Room = end_reading r None room in
    by_bool (Quiet room) (r.up || is_some (exchange_on r.line room)) mid (with_jobs_first (jobs.Close r.line false ∷ []) mid) (λ e. reading_ends_quiet r None room)
    (λ e. quiet_then room mid (with_jobs_first (jobs.Close r.line false ∷ []) mid) (reading_ends_quiet r None room) (in_front_quiet (jobs.Close r.line false ∷ []) mid refl))
stops_quiet r (refusal status) room = reading_ends_quiet r (Some status) room

heard_quiet : (plan : Plan) (r : ReadBatch) (h : Heard) (room : Room) → Quiet (on_lines (read_on r.up (reading_in h)) r.line room) (after_heard plan r h room)
heard_quiet plan r (heard.hands p new) room = hands_quiet plan r p (on_lines (read_on r.up new) r.line room)
heard_quiet plan r (heard.halts why new) room = stops_quiet r why (on_lines (read_on r.up new) r.line room)

-- ---- ends of courses

pub all_weaker : {A : Type 0} (P Q : A → Type 0) → ((a : A) → P a → Q a) → (p : Course A) → AllEnds P p → AllEnds Q p
all_weaker P Q so (ends a) all = so a all
all_weaker P Q so (asks vm call k) all = λ r. all_weaker P Q so (k r) (all r)
all_weaker P Q so (measures vm call k) all = λ r. all_weaker P Q so (k r) (all r)
all_weaker P Q so (hears t k) all = λ h is. all_weaker P Q so (k h) (all h is)

abbrev pub Leads : {H : Type 0} → Room → Course (Both H) → Type 0
Leads {H} room course = AllEnds (λ (b : Both H). Goes room b.room) course

pub quiet_leads : {H : Type 0} (room : Room) (p : Course (Both H)) → Quietly room p → Leads room p
quiet_leads room p all = all_weaker (λ b. Quiet room b.room) (λ b. Goes room b.room) (λ b q. goes_quiet room b.room q) p all

-- ---- A SIDE IS READ

pub reading_leads : {H : Type 0} (plan : Plan) (host : H) (room : Room) (o : Option ReadBatch) → Leads room (reads_next plan o host room)
reading_leads plan host room None = goes_quiet room room (quiet_itself room)
reading_leads {H} plan host room (Some r) = by_reading (reading_on r room) refl
  where
    still : Room
    still = record room { reading = None }

    by_reading : (o : Option Reading) → reading_on r room ≡ o → Leads room (reads_in plan r o host room)
    by_reading None none = goes_quiet room still (record { lines = are_itself room.lines; jobs = refl; agenda = refl })
    by_reading (Some reading) there = λ h says.
        let mid : Room = on_lines (read_on r.up (reading_in h)) r.line still in
        let at : line_reading r.up (found_in r.line room.lines) ≡ Some reading = ap (line_reading r.up) (sym (line_in_found r.line room.lines)) ∙ there in
        goes_then room mid (after_heard plan r h still)
        (record {
          mid = set_in (read_on r.up (reading_in h)) r.line room.lines;
          changed = read r.up r.line reading h at says;
          alike = subst (AreAlike (set_in (read_on r.up (reading_in h)) r.line room.lines)) (sym (on_line_set (read_on r.up (reading_in h)) r.line room.lines)) (are_itself (set_in (read_on r.up (reading_in h)) r.line room.lines));
          hand = refl;
        }) (heard_quiet plan r h still)

-- ---- lines are closed

refusal_quiet : (n status : ℕ) (room : Room) → Quiet room (refusal_sent n status room) × (room.lines ≡ (refusal_sent n status room).lines)
refusal_quiet n status room = by_bool (λ (r : Room). Quiet room r × (room.lines ≡ r.lines)) (is_final status) (room_with_sent _ room) room (λ e. (quiet_hub room _, refl)) (λ e. (quiet_itself room, refl))

refuse_goes : (n status : ℕ) (o : Option Line) (room : Room) → Goes room (refuse_line o n status room)
refuse_goes n status None room = goes_quiet room room (quiet_itself room)
refuse_goes n status (Some l) room = by_exchange l.exchange
  where
    by_exchange : (o : Option Exchange) → Goes room (refuse_in n status o room)
    by_exchange (Some x) = goes_quiet room (on_number (passing.refuse_exchange status) n room) (quiet_number (passing.refuse_exchange status) n room (λ m x hub. refused_kept status m x hub))
    by_exchange None =
        let told = refusal_quiet n status room in
        goes_first room (refusal_sent n status room) (close_line n (refusal_sent n status room)) told.0 told.1 (goes_closed n (refusal_sent n status room))

close_goes : (n : ℕ) (stays : Bool) (o : Option Line) (room : Room) → Goes room (end_line o n stays room)
close_goes n stays None room = goes_quiet room room (quiet_itself room)
close_goes n stays (Some l) room =
    by_bool (Goes room) l.is_gone (drop_line n room) (if stays then read_side n false room else close_line n room) (λ e. goes_dropped n room)
    (λ e. by_bool (Goes room) stays (read_side n false room) (close_line n room) (λ d. goes_quiet room (read_side n false room) (record { lines = are_itself room.lines; jobs = refl; agenda = refl })) (λ d. goes_closed n room))

-- ---- jobs

pub works_lead : {H : Type 0} (calling : Calling H) (plan : Plan) (job : Job) (host : H) (room : Room) → happen_of job ≡ [] → Leads room (works calling plan job host room)
works_lead calling plan (jobs.Begin vm) host room none = quiet_leads room _ (tells_quiet calling vm callbacks.Begin 0 0 host room)
works_lead calling plan (jobs.Root vm plugin first) host room none = quiet_leads room _ (roots_quiet calling vm plugin first host room)
works_lead calling plan (jobs.Start vm root) host room none =
    quiet_leads room _ (calls_live_quiet calling vm callbacks.VmStart root (vm_length vm room.hub.contexts) 0 (unless_zero vm deaths.Start) host room (unless_zero_quiet vm deaths.Start))
works_lead calling plan (jobs.Configure vm root plugin) host room none =
    quiet_leads room _ (calls_live_quiet calling vm callbacks.Configure root (plugin_length plugin room.hub.contexts) 0 (unless_zero vm deaths.Configure) host room (unless_zero_quiet vm deaths.Configure))
works_lead calling plan (jobs.Tick vm root) host room none = quiet_leads room _ (ticks_quiet calling vm root host room)
works_lead calling plan jobs.Expire host room none = goes_quiet room _ (expire_quiet calling room)
works_lead calling plan (jobs.Happen w) host room none = absurd (cc)
works_lead calling plan (jobs.Create number k) host room none = quiet_leads room _ (streams_quiet calling number k host room)
works_lead calling plan (jobs.Enter number) host room none = goes_quiet room _ (quiet_number (enter_stages room.dead) number room (entering_kept room.dead))
works_lead calling plan (jobs.Put number response got) host room none = goes_quiet room _ (quiet_number (put_read_items response got) number room (λ n x hub. put_in_kept response got n x hub))
works_lead calling plan (jobs.Refuse number status) host room none = refuse_goes number status (line_in number room.lines) room
works_lead calling plan (jobs.Done c) host room none = quiet_leads room _ (calls_live_quiet calling c.vm callbacks.Done c.context 0 0 (finish_context c) host room (done_quiet c))
works_lead calling plan (jobs.Log c) host room none = quiet_leads room _ (tells_quiet calling c.vm callbacks.Log c.context 0 host room)
works_lead calling plan (jobs.Delete c) host room none = quiet_leads room _ (calls_live_quiet calling c.vm callbacks.Delete c.context 0 0 (delete_context c) host room (deletes_quiet c))
works_lead calling plan (jobs.Close number stays) host room none = close_goes number stays (line_in number room.lines) room
works_lead calling plan (jobs.Notice vm left) host room none = quiet_leads room _ (notices_quiet calling plan vm left host room)
works_lead calling plan (jobs.Ready vm root queue) host room none = quiet_leads room _ (ready_quiet calling vm root queue host room)
works_lead calling plan (jobs.Other step) host room none = quiet_leads room _ (other_quiet calling step host room)

-- ---- a context is free, an exchange ends

pub frees_quiet : (at : ℕ) (room : Room) → Quiet room (release at room)
frees_quiet at room = by_wait (slice_get room.waits at)
  where
    by_wait : (o : Option ContextAt) → Quiet room (release_at at o room)
    by_wait None = quiet_itself room
    by_wait (Some c) = record { lines = are_itself room.lines; jobs = refl; agenda = refl }

done_none : (filters : List Filter) → happens_in (done_jobs filters) ≡ []
done_none [] = refl
done_none (f ∷ filters) = by_bool (λ (js : List Job). happens_in js ≡ []) f.created (jobs.Done _ ∷ done_jobs filters) (done_jobs filters) (λ e. done_none filters) (λ e. done_none filters)

pub ends_quiet : (place : ℕ) (room : Room) → Quiet room (end_at place room)
ends_quiet place room = by_line (slice_get room.lines place) refl
  where
    by_line : (o : Option Line) → slice_get room.lines place ≡ o → Quiet room (end_with room (ended_at place o room.lines))
    by_line None none = record { lines = are_itself room.lines; jobs = refl; agenda = refl }
    by_line (Some l) at = by_exchange l.exchange refl
      where
        by_exchange : (o : Option Exchange) → l.exchange ≡ o → Quiet room (end_with room (ended_back place room.lines (ended_in l o)))
        by_exchange None none = record { lines = alike_set room.lines place l l at (alike_itself l); jobs = refl; agenda = refl }
        by_exchange (Some x) some = record {
          lines = alike_set room.lines place l (record l { exchange = None }) at (record { number = refl; requests = refl; reader = inr (inl refl) });
          jobs = none_in_front (done_jobs x.filters ++ jobs.Close l.number x.stays ∷ []) room.jobs (both_none (done_jobs x.filters) (jobs.Close l.number x.stays ∷ []) (done_none x.filters) refl);
          agenda = refl;
        }
