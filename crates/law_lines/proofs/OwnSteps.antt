-- The steps of a line without filters call nothing, and leave it without.
use Rattle.std.proofs.Common.{◌≡◌, ℕ, ◌==◌, Bool, true, false, not, ◌||◌, ◌&&◌, List, [], ◌∷◌, map, reverse, length, refl, ap, ◌∙◌, sym, subst, if◌then◌else◌}
use Rattle.std.specs.Prelude.{Option, None, Some, is_some, nat_lt, slice_get, position, filter}
use Rattle.std.specs.List.{list_any}
use Rattle.contexts.specs.declared.parts.Contexts.{Contexts}
use Rattle.filter_host.specs.Called.{Calling}
use Rattle.filter_host.specs.Course.{Course, ends}
use Rattle.filter_host.specs.Heard.{Heard, hands, halts, Hears}
use Rattle.filter_host.proofs.Holds.{AllEnds, all_reached}
use Rattle.exchange.specs.declared.types.Exchange.{Exchange}
use Rattle.exchange.specs.declared.types.Filter.{Filter}
use Rattle.exchange.specs.declared.types.Hub.{Hub}
use Rattle.exchange.specs.Heads.{is_final, path_of, route_in}
use Rattle.exchange.specs.Leaving.{bytes_sent_to as sending_to}
use Rattle.exchange.specs.Maps.{put_response, with_fields}
use Rattle.exchange.specs.Passing as passing
use Rattle.law_exchange.specs.Ends.{IsOwn}
use Rattle.law_exchange.specs.Lives.{Deed, comes, responds, refuses, expires, done_by}
use Rattle.filter_chain.specs.Chains.{ready}
use Rattle.filter_chain.specs.declared.item.ChainItem.{ChainItem}
use Rattle.filter_chain.specs.declared.item.ChainItem.TheVariants as items
use Rattle.gate_io.specs.declared.event.Side.TheVariants.{Down, Up}
use Rattle.gate_io.specs.declared.event.What.{What}
use Rattle.gate_io.specs.declared.event.What.TheVariants as whats
use Rattle.header_maps.specs.Operations.{no_headers}
use Rattle.h1_model.specs.Head.{Head}
use Rattle.h1_model.specs.Messages.{Stop, rest, over, refusal}
use Rattle.h1_model.specs.Unread.{Part, head_part, interim_part, piece, trailer_part, Reading}
use Rattle.worker_model.specs.Room.{Room}
use Rattle.worker_model.specs.declared.types.Job.{Job}
use Rattle.worker_model.specs.declared.types.Job.TheVariants as jobs
use Rattle.worker_model.specs.declared.types.Line.{Line}
use Rattle.worker_model.specs.declared.types.Next.{Next}
use Rattle.worker_model.specs.declared.types.Next.TheVariants as next
use Rattle.worker_model.specs.declared.types.ReadBatch.{ReadBatch}
use Rattle.worker_model.specs.Moves.{ended_in, ended_back, ended_at}
use Rattle.worker_model.specs.Plan.{Plan}
use Rattle.worker_model.specs.Rooms.{Changes, in_exchange, in_line, at_some, at_place, all_lines, place_in, with_lines, on_number, exchange_moves, next_of, next_part, has_move, moves_or, frees_or, ends_or, begins_or_rests, is_any, is_over, is_released, room_with_sent}
use Rattle.worker_model.specs.Steps.{Both, both, change_exchange, change_line, line_at, line_at_place, exchange_of_line, line_in, exchange_on, in_place, open_filter, filter_at, create_filter, made_with, is_live, new_stage, enter_stages, filters_of, plugins_at, is_gone, with_exchange, exchange_for, free_place, begin_exchange_on, line_reading, reading_on, read_on, with_reader, is_last, with_read_mark, on_lines, take_read_item, with_response_head, in_contexts, head_item, put_trailers, take_part, end_of_read, after_heard, without_place, drop_line, close_line, end_line, fixed_answer, refusal_sent, refuse_in, refuse_line, most_lines, new_line, place_for, accept_line, with_further, side_with_more, is_open, is_answered_in, is_read_in, receive_on, exchange_without_client, line_without_client, lose_client, is_missed, lose_server, take_event, end_with, end_at, is_late, expire_all, reads_in, reads_next, works, works_first, step}
use Rattle.law_lines.specs.Isolation.{IsUnfiltered, IsFree, is_read_of, is_at, is_work_of, is_first_of, is_step_of, CallsNone, TakesNoFilters, OwnStepsCallNothing}
use Rattle.law_lines.proofs.Finding.{Seeks, missing, first, seeks}
use Rattle.law_lines.proofs.Kept.{by_bool}
use Rattle.law_lines.proofs.Looks.{equal_by, kept_by, plain_kept}
use Rattle.law_lines.proofs.Spared.{Free}
use Rattle.law_lines.proofs.Untouched.{not_both, free_at, free_set, free_remove, free_insert}

-- ---- lines

-- without filters it stays so
abbrev pub KeepsFree : Changes → Type 0
KeepsFree change = (m : ℕ) (x : Exchange) (hub : Hub) → IsUnfiltered (Some x) → IsUnfiltered (Some (change m x hub).0)

deed_free : (deed : Deed) → IsOwn deed → KeepsFree (λ (n : ℕ) (x : Exchange) (hub : Hub). done_by n deed x hub)
deed_free deed own m x hub free = plain_kept x (done_by m deed x hub).0 (kept_by m deed x hub own) free

abbrev pub IsFreeLine : ℕ → Line → Type 0
IsFreeLine n l = l.number ≡ n → IsUnfiltered l.exchange

line_free : (n : ℕ) (change : Changes) (l : Line) (hub : Hub) → KeepsFree change → IsFreeLine n l → IsFreeLine n (in_line change l hub).0
line_free n change l hub keeps free = by_exchange l.exchange refl
  where
    by_exchange : (o : Option Exchange) → l.exchange ≡ o → IsFreeLine n (in_exchange change l o hub).0
    by_exchange None there = free
    by_exchange (Some x) there = λ e. keeps l.number x hub (subst IsUnfiltered there (free e))

place_free : (n : ℕ) (change : Changes) (lines : List Line) (o : Option ℕ) (hub : Hub) → KeepsFree change → IsFree n lines → IsFree n (at_place change lines o hub).0
place_free n change lines None hub keeps free = free
place_free n change lines (Some k) hub keeps free = by_line (slice_get lines k) refl
  where
    by_line : (o : Option Line) → slice_get lines k ≡ o → IsFree n (at_some change lines k o hub).0
    by_line None at = free
    by_line (Some l) at = free_set n lines k (in_line change l hub).0 free (line_free n change l hub keeps (λ e. free_at n lines k l at free e))

all_free : (n : ℕ) (change : Changes) (lines : List Line) (hub : Hub) → KeepsFree change → IsFree n lines → IsFree n (all_lines change lines hub).0
all_free n change [] hub keeps free = tt
all_free n change (l ∷ lines) hub keeps free = (line_free n change l hub keeps free.0, all_free n change lines (in_line change l hub).1 keeps free.1)

number_free : (n m : ℕ) (change : Changes) (room : Room) → KeepsFree change → Free n room → Free n (on_number change m room)
number_free n m change room keeps free = place_free n change room.lines (place_in m room.lines) room.hub keeps free

abbrev pub KeepsLine : ℕ → (Line → Line) → Type 0
KeepsLine n f = (l : Line) → IsFreeLine n l → IsFreeLine n (f l)

pub lines_free : (n m : ℕ) (f : Line → Line) (room : Room) → KeepsLine n f → Free n room → Free n (on_lines f m room)
lines_free n m f room keeps free = by_place (place_in m room.lines)
  where
    by_line : (k : ℕ) (o : Option Line) → slice_get room.lines k ≡ o → IsFree n (line_at f room.lines k o)
    by_line k None at = free
    by_line k (Some l) at = free_set n room.lines k (f l) free (keeps l (λ e. free_at n room.lines k l at free e))

    by_place : (o : Option ℕ) → IsFree n (line_at_place f room.lines o)
    by_place None = free
    by_place (Some k) = by_line k (slice_get room.lines k) refl

pub change_free : (n : ℕ) (g : Exchange → Exchange) → ((x : Exchange) → IsUnfiltered (Some x) → IsUnfiltered (Some (g x))) → KeepsLine n (change_line g)
change_free n g keeps l free = by_exchange l.exchange refl
  where
    by_exchange : (o : Option Exchange) → l.exchange ≡ o → IsFreeLine n (change_exchange g l o)
    by_exchange None there = free
    by_exchange (Some x) there = λ e. keeps x (subst IsUnfiltered there (free e))

pub drops_free : (n m : ℕ) (room : Room) → Free n room → Free n (drop_line m room)
drops_free n m room free = by_place (place_in m room.lines)
  where
    by_place : (o : Option ℕ) → IsFree n (without_place room.lines o)
    by_place None = free
    by_place (Some k) = free_remove n room.lines k free

-- ---- the jobs that call nothing

line_ends_free : (n m : ℕ) (o : Option Line) (stays : Bool) (room : Room) → Free n room → Free n (end_line o m stays room)
line_ends_free n m None stays room free = free
line_ends_free n m (Some line) stays room free =
    by_bool (Free n) line.is_gone (drop_line m room) _ (λ e. drops_free n m room free)
    (λ e. by_bool (Free n) stays _ (close_line m room) (λ d. free) (λ d. drops_free n m room free))

refuses_free : (n m status : ℕ) (o : Option Line) (room : Room) → Free n room → Free n (refuse_line o m status room)
refuses_free n m status None room free = free
refuses_free n m status (Some line) room free = by_exchange line.exchange
  where
    told : Free n (refusal_sent m status room)
    told = by_bool (Free n) (is_final status) (room_with_sent (sending_to m Down (fixed_answer status room.hub.moment)) room) room (λ e. free) (λ e. free)

    by_exchange : (o : Option Exchange) → Free n (refuse_in m status o room)
    by_exchange None = drops_free n m (refusal_sent m status room) told
    by_exchange (Some x) = number_free n m (passing.refuse_exchange status) room (deed_free (refuses status) tt) free

pub further_free : (n : ℕ) (up stops_now : Bool) (bytes : List ℕ) → KeepsLine n (side_with_more up stops_now bytes)
further_free n false stops_now bytes l free = free
further_free n true stops_now bytes l free = change_free n (with_further stops_now bytes) (λ x f. f) l free

comes_free : (n m : ℕ) (up stops_now : Bool) (bytes : List ℕ) (o : Option Line) (room : Room) → Free n room → Free n (receive_on up stops_now bytes m o room)
comes_free n m up stops_now bytes o room free =
    let more : Free n (on_lines (side_with_more up stops_now bytes) m room) = lines_free n m (side_with_more up stops_now bytes) room (further_free n up stops_now bytes) free in
    by_bool (Free n) (is_open (line_reading up o) && not (up && is_answered_in (exchange_of_line o))) _ room
    (λ e. by_bool (Free n) (is_read_in up (exchange_of_line o)) _ (on_lines (side_with_more up stops_now bytes) m room) (λ d. more) (λ d. more)) (λ e. free)

loses_down_free : (n m : ℕ) (o : Option Line) (room : Room) → Free n room → Free n (lose_client m o room)
loses_down_free n m None room free = free
loses_down_free n m (Some line) room free =
    by_bool (Free n) (is_some line.exchange) (on_lines line_without_client m room) (drop_line m room)
    (λ e. lines_free n m line_without_client room (λ l f. change_free n exchange_without_client (λ x g. g) l f) free) (λ e. drops_free n m room free)

loses_up_free : (n m : ℕ) (o : Option Exchange) (room : Room) → Free n room → Free n (lose_server m o room)
loses_up_free n m o room free =
    by_bool (Free n) (is_missed o) (on_number (passing.refuse_exchange 502) m room) room (λ e. number_free n m (passing.refuse_exchange 502) room (deed_free (refuses 502) tt) free) (λ e. free)

opens_free : (n m : ℕ) (room : Room) → Free n room → Free n (accept_line m room)
opens_free n m room free =
    by_bool (Free n) (is_some (place_in m room.lines)) room _ (λ e. free)
    (λ e. by_bool (Free n) (nat_lt (length room.lines) most_lines) _ _ (λ d. free_insert n room.lines (place_for m room.lines) (new_line m) free (λ same. tt)) (λ d. free))

happens_free : (n : ℕ) (w : What) (room : Room) → Free n room → Free n (take_event w room)
happens_free n (whats.Opened m) room free = opens_free n m room free
happens_free n (whats.Bytes m Down bytes) room free = comes_free n m false false bytes (line_in m room.lines) room free
happens_free n (whats.Bytes m Up bytes) room free = comes_free n m true false bytes (line_in m room.lines) room free
happens_free n (whats.End m Down) room free = comes_free n m false true [] (line_in m room.lines) room free
happens_free n (whats.End m Up) room free = comes_free n m true true [] (line_in m room.lines) room free
happens_free n (whats.Gone m Down) room free = loses_down_free n m (line_in m room.lines) room free
happens_free n (whats.Gone m Up) room free = loses_up_free n m (exchange_on m room) room free
happens_free n (whats.Joined m) room free = free
happens_free n (whats.Refused m) room free = loses_up_free n m (exchange_on m room) room free
happens_free n (whats.Room m side) room free = free
happens_free n whats.Clock room free = free
happens_free n whats.Stop room free = free

expires_free : (n : ℕ) (room : Room) → Free n room → Free n (expire_all room)
expires_free n room free =
    by_bool (Free n) (list_any (is_late room.hub.moment) room.lines) (with_lines room (all_lines passing.expire_exchange room.lines room.hub)) room
    (λ e. all_free n passing.expire_exchange room.lines room.hub (deed_free expires tt) free) (λ e. free)

enters_free : (dead : List ℕ) → KeepsFree (enter_stages dead)
enters_free dead m x hub free =
    by_bool (λ (y : Exchange). IsUnfiltered (Some y)) (x.has_ended || x.is_answered) x _ (λ e. free)
    (λ e. (free.0, ap (λ (fs : List Filter). map (new_stage false) (filter (is_live dead) fs)) free.0, ap (λ (fs : List Filter). reverse (map (new_stage true) (filter (is_live dead) fs))) free.0))

puts_free : (response : Bool) (batch : List ChainItem) → KeepsFree (passing.put_read_items response batch)
puts_free false batch = deed_free (comes batch) tt
puts_free true batch = deed_free (responds batch) tt

-- ---- the end of an exchange

ends_free : (n place : ℕ) (room : Room) → Free n room → Free n (end_at place room)
ends_free n place room free = by_line (slice_get room.lines place) refl
  where
    by_exchange : (line : Line) → slice_get room.lines place ≡ Some line → (o : Option Exchange) → Free n (end_with room (ended_back place room.lines (ended_in line o)))
    by_exchange line at None = free_set n room.lines place line free (λ e. free_at n room.lines place line at free e)
    by_exchange line at (Some x) = free_set n room.lines place (record line { exchange = None }) free (λ e. tt)

    by_line : (o : Option Line) → slice_get room.lines place ≡ o → Free n (end_with room (ended_at place o room.lines))
    by_line None at = free
    by_line (Some line) at = by_exchange line at line.exchange

-- ---- what is read

pub noted_free : (up : Bool) (item : ChainItem) (x : Exchange) → IsUnfiltered (Some x) → IsUnfiltered (Some (with_read_mark up item x))
noted_free false item x free = free
noted_free true item x free = free

takes_free : (n : ℕ) (r : ReadBatch) (item : ChainItem) (room : Room) → Free n room → Free n (take_read_item r item room)
takes_free n r item room free =
    let more : Free n (on_lines (change_line (with_read_mark r.up item)) r.line room) = lines_free n r.line (change_line (with_read_mark r.up item)) room (change_free n (with_read_mark r.up item) (noted_free r.up item)) free in
    by_bool (Free n) (is_last item) _ _ (λ e. more) (λ e. more)

in_contexts_free : (n : ℕ) (change : ℕ → Contexts → Contexts) (o : Option Exchange) (room : Room) → Free n room → Free n (in_contexts change o room)
in_contexts_free n change None room free = free
in_contexts_free n change (Some x) room free = free

begun_free : (n : ℕ) (plan : Plan) (m : ℕ) (h : Head) (room : Room) → plugins_at plan.routes (route_in plan.routes (path_of h.fields)) ≡ [] → Free n room → Free n (begin_exchange_on plan m h room)
begun_free n plan m h room none free =
    lines_free n m (with_exchange (exchange_for plan (free_place room.hub.contexts) room.hub.moment room.dead h (route_in plan.routes (path_of h.fields)))) room
    (λ l f e. (ap (λ (ps : List ℕ). filter (λ (f : Filter). not (is_gone room.dead f)) (filters_of plan.plugins ps)) none, refl, refl)) free

part_free : (n : ℕ) (plan : Plan) (r : ReadBatch) (p : Part) (room : Room) → ((h : Head) → p ≡ head_part h → r.up ≡ false → plugins_at plan.routes (route_in plan.routes (path_of h.fields)) ≡ [])
    → Free n room → Free n (take_part plan r p room)
part_free n plan r (head_part h) room route free =
    by_bool (Free n) r.up _ (take_read_item r (head_item h) (begin_exchange_on plan r.line h room))
    (λ up.
    let mid : Room = in_contexts (put_response h.fields) (exchange_on r.line room) room in
    takes_free n r (head_item h) (on_lines (change_line (with_response_head h)) r.line mid)
    (lines_free n r.line (change_line (with_response_head h)) mid (change_free n (with_response_head h) (λ x f. f)) (in_contexts_free n (put_response h.fields) (exchange_on r.line room) room free)))
    (λ down. takes_free n r (head_item h) (begin_exchange_on plan r.line h room) (begun_free n plan r.line h room (route h refl down) free))
part_free n plan r (interim_part h) room route free = free
part_free n plan r (piece bytes last) room route free = takes_free n r (items.Piece bytes last) room free
part_free n plan r (trailer_part fields) room route free =
    takes_free n r items.Trailers (in_contexts (put_trailers r.up (with_fields no_headers fields)) (exchange_on r.line room) room)
    (in_contexts_free n (put_trailers r.up (with_fields no_headers fields)) (exchange_on r.line room) room free)

stops_free : (n : ℕ) (r : ReadBatch) (why : Stop) (room : Room) → Free n room → Free n (end_of_read r why room)
stops_free n r rest room free = free
stops_free n r over room free = by_bool (Free n) (r.up || is_some (exchange_on r.line room)) _ _ (λ e. free) (λ e. free)
stops_free n r (refusal status) room free = free

pub read_free : (n : ℕ) (up : Bool) (new : Reading) → KeepsLine n (read_on up new)
read_free n false new l free = free
read_free n true new l free = change_free n (with_reader new) (λ x f. f) l free

heard_free : (n : ℕ) (plan : Plan) (r : ReadBatch) (reading : Reading) (h : Heard) (room : Room) → Hears reading h
    → ((hd : Head) (new : Reading) → Hears reading (hands (head_part hd) new) → r.up ≡ false → plugins_at plan.routes (route_in plan.routes (path_of hd.fields)) ≡ [])
    → Free n room → Free n (after_heard plan r h room)
heard_free n plan r reading (hands p new) room says route free =
    part_free n plan r p (on_lines (read_on r.up new) r.line room) (λ hd e up. route hd new (subst (λ (q : Part). Hears reading (hands q new)) e says) up)
    (lines_free n r.line (read_on r.up new) room (read_free n r.up new) free)
heard_free n plan r reading (halts why new) room says route free = stops_free n r why (on_lines (read_on r.up new) r.line room) (lines_free n r.line (read_on r.up new) room (read_free n r.up new) free)

-- ---- no filter is to be made, and no stage is asked

free_in : (n : ℕ) (lines : List Line) → IsFree n lines → IsUnfiltered (exchange_of_line (line_in n lines))
free_in n lines free = by_seek (seeks (λ (l : Line). l.number == n) lines)
  where
    by_seek : Seeks (λ (l : Line). l.number == n) lines → IsUnfiltered (exchange_of_line (line_in n lines))
    by_seek (missing at none) = subst (λ (o : Option ℕ). IsUnfiltered (exchange_of_line (in_place lines o))) (sym at) tt
    by_seek (first k l at there passes found) =
        subst (λ (o : Option ℕ). IsUnfiltered (exchange_of_line (in_place lines o))) (sym at)
        (subst (λ (o : Option Line). IsUnfiltered (exchange_of_line o)) (sym there) (free_at n lines k l there free (equal_by l.number n passes)))

no_filter_in : (k : ℕ) (o : Option Exchange) → IsUnfiltered o → open_filter k o ≡ None
no_filter_in k None free = refl
no_filter_in k (Some x) free =
    by_bool (λ (f : Option Filter). f ≡ None) (x.has_ended || x.is_answered) None (slice_get x.filters k) (λ e. refl) (λ e. ap (λ (fs : List Filter). slice_get fs k) free.0)

pub no_filter_at : (n m k : ℕ) (lines : List Line) → (m == n) ≡ true → IsFree n lines → filter_at m k lines ≡ None
no_filter_at n m k lines same free =
    no_filter_in k (exchange_of_line (line_in m lines)) (subst (λ (a : ℕ). IsUnfiltered (exchange_of_line (line_in a lines))) (sym (equal_by m n same)) (free_in n lines free))

pub never_moves : (o : Option Exchange) → IsUnfiltered o → exchange_moves o ≡ false
never_moves None free = refl
never_moves (Some x) free =
    (λ i. not x.has_ended && (nat_lt 0 (ready (free.1 i)) || nat_lt 0 (ready (free.2 i)))) ∙ last (not x.has_ended)
  where
    last : (b : Bool) → (b && false) ≡ false
    last true = refl
    last false = refl

-- ---- EACH STEP

module _ {H : Type 0} (calling other : Calling H) (plan : Plan) (n : ℕ) (host : H) (room : Room) (free : Free n room) where
  -- the same of both machines, which it leaves as they were; and the line stays free
  record Own (a b : Course (Both H)) : Type 0 where
    none : CallsNone host a
    alike : a ≡ b
    stays : TakesNoFilters plan n room → AllEnds (λ (e : Both H). Free n e.room) a

  own_ends : (after : Room) → Free n after → Own (ends (both host after)) (ends (both host after))
  own_ends after is = record { none = refl; alike = refl; stays = λ t. is }

  own_reads : (o : Option ReadBatch) → room.reading ≡ o → is_read_of n o ≡ true → Own (reads_next plan o host room) (reads_next plan o host room)
  own_reads None is of_n = absurd (cc)
  own_reads (Some r) is of_n = by_reading (reading_on r room) refl
    where
      by_reading : (o : Option Reading) → reading_on r room ≡ o → Own (reads_in plan r o host room) (reads_in plan r o host room)
      by_reading None at = own_ends (record room { reading = None }) free
      by_reading (Some reading) at = record {
        none = λ h. refl;
        alike = refl;
        stays = λ t. λ h says. heard_free n plan r reading h (record room { reading = None }) says (λ hd new hears up. t r reading new hd is (equal_by r.line n of_n) up at hears) free;
      }

  own_works : (job : Job) (later : List Job) → is_work_of n room job ≡ true → Own (works calling plan job host (record room { jobs = later })) (works other plan job host (record room { jobs = later }))
  own_works (jobs.Begin vm) later is = absurd (cc)
  own_works (jobs.Root vm plugin is_first) later is = absurd (cc)
  own_works (jobs.Start vm root) later is = absurd (cc)
  own_works (jobs.Configure vm root plugin) later is = absurd (cc)
  own_works (jobs.Tick vm root) later is = absurd (cc)
  own_works jobs.Expire later is = own_ends (expire_all (record room { jobs = later })) (expires_free n (record room { jobs = later }) free)
  own_works (jobs.Happen w) later is = own_ends (take_event w (record room { jobs = later })) (happens_free n w (record room { jobs = later }) free)
  own_works (jobs.Create m k) later is =
      subst (λ (o : Option Filter). Own (made_with calling host (create_filter m k o (record room { jobs = later }))) (made_with other host (create_filter m k o (record room { jobs = later }))))
      (sym (no_filter_at n m k room.lines is free)) (own_ends (record room { jobs = later }) free)
  own_works (jobs.Enter m) later is = own_ends _ (number_free n m (enter_stages room.dead) (record room { jobs = later }) (enters_free room.dead) free)
  own_works (jobs.Put m response batch) later is = own_ends _ (number_free n m (passing.put_read_items response batch) (record room { jobs = later }) (puts_free response batch) free)
  own_works (jobs.Refuse m status) later is = own_ends _ (refuses_free n m status (line_in m room.lines) (record room { jobs = later }) free)
  own_works (jobs.Done c) later is = absurd (cc)
  own_works (jobs.Log c) later is = absurd (cc)
  own_works (jobs.Delete c) later is = absurd (cc)
  own_works (jobs.Close m stays) later is = own_ends _ (line_ends_free n m (line_in m room.lines) stays (record room { jobs = later }) free)
  own_works (jobs.Notice vm left) later is = absurd (cc)
  own_works (jobs.Ready vm root queue) later is = absurd (cc)
  own_works (jobs.Other step) later is = absurd (cc)

  own_first : (js : List Job) → is_first_of n room js ≡ true → Own (works_first calling plan js host room) (works_first other plan js host room)
  own_first [] is = absurd (cc)
  own_first (job ∷ later) is = own_works job later is

  -- no chain of the line moves
  no_move : (place : ℕ) → position has_move room.lines ≡ Some place → is_at n (slice_get room.lines place) ≡ true → {A : Type 0} → A
  no_move place is at = by_seek (seeks has_move room.lines)
    where
      by_seek : Seeks has_move room.lines → {A : Type 0} → A
      by_seek (missing away none) = let never : ◌≡◌ {A = Option ℕ} None (Some place) = sym away ∙ is in absurd (cc)
      by_seek (first k l here there passes found) =
          let e : Some k ≡ Some place = sym here ∙ is in
          let same : k ≡ place = cc in
          let of_n : (l.number == n) ≡ true = subst (λ (o : Option Line). is_at n o ≡ true) (ap (slice_get room.lines) (sym same) ∙ there) at in
          not_both (has_move l) passes (never_moves l.exchange (free_at n room.lines k l there free (equal_by l.number n of_n)))

  own_step : is_step_of n (next_of room) room ≡ true → Own (step calling plan (next_of room) host room) (step other plan (next_of room) host room)
  own_step = by_reading (is_some room.reading)
    where
      Goal : Next → Type 0
      Goal x = is_step_of n x room ≡ true → Own (step calling plan x host room) (step other plan x host room)

      by_agenda : (todo : List Job) → Goal (begins_or_rests todo)
      by_agenda [] is = absurd (cc)
      by_agenda (job ∷ later) is = absurd (cc)

      by_over : (o : Option ℕ) → Goal (ends_or o (begins_or_rests room.agenda))
      by_over None is = by_agenda room.agenda is
      by_over (Some place) is = own_ends (end_at place room) (ends_free n place room free)

      by_waits : (o : Option ℕ) → Goal (frees_or o (ends_or (position is_over room.lines) (begins_or_rests room.agenda)))
      by_waits None is = by_over (position is_over room.lines) is
      by_waits (Some at) is = absurd (cc)

      by_jobs : (b : Bool) → Goal (if b then next.Work else next_part room)
      by_jobs true is = own_first room.jobs is
      by_jobs false is = by_waits (position (is_released room) room.waits) is

      by_moves : (o : Option ℕ) → position has_move room.lines ≡ o → Goal (moves_or o (if is_any room.jobs then next.Work else next_part room))
      by_moves None there is = by_jobs (is_any room.jobs) is
      by_moves (Some place) there is = no_move place there is

      by_reading : (b : Bool) → Goal (if b then next.Read else moves_or (position has_move room.lines) (if is_any room.jobs then next.Work else next_part room))
      by_reading true is = own_reads room.reading refl is
      by_reading false is = by_moves (position has_move room.lines) refl is

pub own_steps : (H : Type 0) → OwnStepsCallNothing H
own_steps H = record {
  none = λ calling plan n b free is. (own_step calling calling plan n b.host b.room free is).none;
  alike = λ calling other plan n b free is. (own_step calling other plan n b.host b.room free is).alike;
  stays = λ calling plan n b c ms free is takes_none reaches.
      all_reached (λ (e : Both H). Free n e.room) ms (step calling plan (next_of b.room) b.host b.room) c ((own_step calling calling plan n b.host b.room free is).stays takes_none) reaches;
}
