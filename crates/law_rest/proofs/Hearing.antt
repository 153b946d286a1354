-- WHAT IS READ leaves less to do: each part uses up bytes, or ends the reading; and what comes of a reading costs less than it did.
use Rattle.std.proofs.Common.{◌≡◌, ℕ, zero, suc, ◌+◌, ◌*◌, ◌<◌, ◌≤◌, Bool, true, false, List, [], ◌∷◌, ◌++◌, length, ap, ◌∙◌, sym, refl, subst, arith}
use Rattle.std.specs.Prelude.{Option, None, Some, is_some, slice_get, not, ◌&&◌, ◌||◌}
use Rattle.contexts.specs.declared.parts.Contexts.{Contexts}
use Rattle.filter_host.specs.Heard.{Heard, hands, halts, Hears}
use Rattle.exchange.specs.declared.types.Exchange.{Exchange}
use Rattle.exchange.specs.declared.types.Filter.{Filter}
use Rattle.exchange.specs.Heads.{path_of, route_in}
use Rattle.exchange.specs.Leaving.{bytes_sent_to as sending_to}
use Rattle.filter_chain.specs.declared.item.ChainItem.{ChainItem}
use Rattle.filter_chain.specs.declared.item.ChainItem.TheVariants as items
use Rattle.gate_config.specs.declared.entries.PluginEntry.{PluginEntry}
use Rattle.gate_config.specs.declared.entries.RouteEntry.{RouteEntry}
use Rattle.gate_io.specs.declared.event.Side.TheVariants.{Down}
use Rattle.h1_model.specs.Head.{Head}
use Rattle.h1_model.specs.Messages.{Stop, rest, over, refusal}
use Rattle.h1_model.specs.Unread.{Part, head_part, interim_part, piece, trailer_part, Reading}
use Rattle.contexts.specs.Creating.{open_exchange}
use Rattle.worker_model.specs.Room.{Room}
use Rattle.worker_model.specs.declared.types.Job.{Job}
use Rattle.worker_model.specs.declared.types.Job.TheVariants as jobs
use Rattle.worker_model.specs.declared.types.Line.{Line}
use Rattle.worker_model.specs.declared.types.ReadBatch.{ReadBatch}
use Rattle.worker_model.specs.Plan.{Plan}
use Rattle.worker_model.specs.Rooms.{place_in, with_contexts}
use Rattle.worker_model.specs.Steps.{is_gone, filter_at_plugin, filters_by, filters_of, plugins_of, plugins_at, with_exchange, exchange_for, free_place, begin_exchange_on, exchange_reading, line_reading, reading_on, with_reader, read_on, change_exchange, change_line, line_in, in_place, exchange_of_line, exchange_on, is_last, with_read_mark, on_lines, create_jobs, begins_with_head, refuse_jobs, put_jobs, exchange_jobs, begin_jobs_for, jobs_of, end_reading, with_item, add_read_item, take_read_item, with_response_head, in_contexts, head_item, interim_of, take_part, end_of_read, after_heard}
use Rattle.law_rest.specs.Moves.{for_each, moves_of, spare, spare_of, chains_left}
use Rattle.law_rest.specs.Left.{reading_cost, end_cost, byte_cost, work_left, line_left, open_left, reader_left, exchange_left, jobs_left, reading_left, AllFit, Fits, OpenFits, RoutesFit}
use Rattle.law_rest.specs.Readings.{ends_body}
use Rattle.law_rest.proofs.Exchanges.{Adds}
use Rattle.law_rest.proofs.Jobs.{jobs_left-append, in_front_most, on_lines_most, on_exchange_most}
use Rattle.law_rest.proofs.Lines.{fits_at, on_line_less}
use Rattle.law_rest.proofs.Readings.{uses_bytes, adds_none as reads_none}
use Rattle.law_rest.proofs.Rooms.{AtMost, at_most_more, contexts_most, sending_most, IsLess}
use Rattle.law_rest.proofs.Sums.{for_each-append, for_each_fewer, for_each_less, filter_fewer}
use Rattle.law_rest.proofs.Tests.{of_if}

-- ---- the line that is found

pub fits_in : (s number : ℕ) (lines : List Line) → AllFit s lines → OpenFits s (exchange_of_line (line_in number lines))
fits_in s number lines fit = by_place (place_in number lines)
  where
    by_line : (k : ℕ) (o : Option Line) → slice_get lines k ≡ o → OpenFits s (exchange_of_line o)
    by_line k None at = tt
    by_line k (Some l) at = fits_at s lines k l at fit

    by_place : (o : Option ℕ) → OpenFits s (exchange_of_line (in_place lines o))
    by_place None = tt
    by_place (Some k) = by_line k (slice_get lines k) refl

-- ---- THE READING ENDS: the jobs that come of it

creates_left : (s number k : ℕ) → jobs_left s (create_jobs number k) ≡ k
creates_left s number zero = refl
creates_left s number (suc k) = let e = creates_left s number k in omega (arith, jobs_left-append s (create_jobs number k) (jobs.Create number k ∷ []))

puts_left : (s number : ℕ) (response : Bool) (batch : List ChainItem) → jobs_left s (put_jobs number response batch) ≤ 1 + for_each (s + s) batch
puts_left s number response [] = omega arith
puts_left s number response (item ∷ batch) = omega arith

-- one more where it is refused
abbrev refusals : Option ℕ → ℕ
refusals None = 0
refusals (Some status) = 1

refuses_left : (s number : ℕ) (status : Option ℕ) → jobs_left s (refuse_jobs number status) ≡ refusals status
refuses_left s number None = refl
refuses_left s number (Some status) = refl

-- so much at most
abbrev ending : ℕ → Option ℕ → List ChainItem → ℕ
ending s status batch = s + (1 + 4 * s) + (1 + for_each (s + s) batch) + refusals status

begins_left : (s : ℕ) (r : ReadBatch) (status : Option ℕ) (o : Option Exchange) → OpenFits s o → jobs_left s (begin_jobs_for r status o) ≤ ending s status r.batch
begins_left s r status None fits = omega arith
begins_left s r status (Some x) fits = by_refusal x.refusal
  where
    by_refusal : (o : Option ℕ) → jobs_left s (exchange_jobs r status x o) ≤ ending s status r.batch
    by_refusal (Some number) = omega arith
    by_refusal None =
        let c = creates_left s r.line (length x.filters) in
        let p = puts_left s r.line false r.batch in
        let f = refuses_left s r.line status in
        let a = jobs_left-append s (create_jobs r.line (length x.filters)) (jobs.Enter r.line ∷ (put_jobs r.line false r.batch ++ refuse_jobs r.line status)) in
        let b = jobs_left-append s (put_jobs r.line false r.batch) (refuse_jobs r.line status) in
        omega (arith, fits.filters)

jobs_of_left : (s : ℕ) (r : ReadBatch) (status : Option ℕ) (room : Room) → AllFit s room.lines → jobs_left s (jobs_of r status room) ≤ ending s status r.batch
jobs_of_left s r status room fit =
    of_if (λ (l : List Job). jobs_left s l ≤ ending s status r.batch) (begins_with_head r.batch && not r.up) _ _
    (λ is. begins_left s r status (exchange_on r.line room) (fits_in s r.line room.lines fit))
    (λ is.
    let p = puts_left s r.line r.up r.batch in
    let f = refuses_left s r.line status in
    let b = jobs_left-append s (put_jobs r.line r.up r.batch) (refuse_jobs r.line status) in
    omega arith)

reading_ends_most : (s m : ℕ) (r : ReadBatch) (status : Option ℕ) (room : Room) → AtMost s m room → AtMost s (m + ending s status r.batch) (end_reading r status room)
reading_ends_most s m r status room a = record { fit = a.fit; few = omega (arith, a.few, jobs_of_left s r status room a.fit, jobs_left-append s (jobs_of r status room) room.jobs) }

-- ---- an item joins what was read

-- it costs so much more; so it does where it is the last, which took no byte perhaps
joins_most : (s m : ℕ) (r : ReadBatch) (item : ChainItem) (room : Room) → AtMost s m room → AtMost s (m + reading_cost s + for_each (s + s) r.batch + (s + s)) (add_read_item r item room)
joins_most s m r item room a =
    let more = for_each-append (s + s) r.batch (item ∷ []) in
    of_if (λ (x : Room). AtMost s (m + reading_cost s + for_each (s + s) r.batch + (s + s)) x) (is_last item) _ _
    (λ is. at_most_more s (m + ending s None (r.batch ++ item ∷ [])) _ _ (omega arith) (reading_ends_most s m (with_item item r) None room a))
    (λ is. record { fit = a.fit; few = omega (arith, a.few) })

joins_last : (s m : ℕ) (r : ReadBatch) (item : ChainItem) (room : Room) → is_last item ≡ true → AtMost s m room → AtMost s (m + (2 + 7 * s) + for_each (s + s) r.batch) (add_read_item r item room)
joins_last s m r item room last a =
    let more = for_each-append (s + s) r.batch (item ∷ []) in
    of_if (λ (x : Room). AtMost s (m + (2 + 7 * s) + for_each (s + s) r.batch) x) (is_last item) _ _
    (λ is. at_most_more s (m + ending s None (r.batch ++ item ∷ [])) _ _ (omega arith) (reading_ends_most s m (with_item item r) None room a))
    (λ is. absurd (cc))

noted_adds : (up : Bool) (item : ChainItem) (x : Exchange) → Adds 0 x (with_read_mark up item x)
noted_adds false item x = record { moves = omega arith; filters = omega arith; request = omega arith; response = omega arith; unread = omega arith; clear = λ c. c }
noted_adds true item x = record { moves = omega arith; filters = omega arith; request = omega arith; response = omega arith; unread = omega arith; clear = λ c. c }

noted_most : (s m : ℕ) (r : ReadBatch) (item : ChainItem) (room : Room) → AtMost s m room → AtMost s m (on_lines (change_line (with_read_mark r.up item)) r.line room)
noted_most s m r item room a = on_exchange_most s m (with_read_mark r.up item) r.line room a (λ x. noted_adds r.up item x)

takes_most : (s m : ℕ) (r : ReadBatch) (item : ChainItem) (room : Room) → AtMost s m room → AtMost s (m + reading_cost s + for_each (s + s) r.batch + (s + s)) (take_read_item r item room)
takes_most s m r item room a = joins_most s m r item (on_lines (change_line (with_read_mark r.up item)) r.line room) (noted_most s m r item room a)

takes_last : (s m : ℕ) (r : ReadBatch) (item : ChainItem) (room : Room) → is_last item ≡ true → AtMost s m room → AtMost s (m + (2 + 7 * s) + for_each (s + s) r.batch) (take_read_item r item room)
takes_last s m r item room last a = joins_last s m r item (on_lines (change_line (with_read_mark r.up item)) r.line room) last (noted_most s m r item room a)

-- ---- the head of a response

spare_headed : (a o h : Bool) (n : ℕ) → spare_of a o true n ≤ spare_of a o h n
spare_headed true o h n = omega arith
spare_headed false true h n = omega arith
spare_headed false false h n = omega arith

moves_fewer : (e : Bool) (c p q : ℕ) → p ≤ q → moves_of e c p ≤ moves_of e c q
moves_fewer true c p q less = omega arith
moves_fewer false c p q less = omega arith

keeps_adds : (h : Head) (x : Exchange) → Adds 0 x (with_response_head h x)
keeps_adds h x =
    let l = spare_headed x.is_answered x.is_head_out x.is_headed (length x.response) in
    let m = moves_fewer x.has_ended (chains_left x) (spare_of x.is_answered x.is_head_out true (length x.response)) (spare x) l in
    record { moves = omega arith; filters = omega arith; request = omega arith; response = omega arith; unread = omega arith; clear = λ c. c }

in_contexts_most : (s m : ℕ) (change : ℕ → Contexts → Contexts) (o : Option Exchange) (room : Room) → AtMost s m room → AtMost s m (in_contexts change o room)
in_contexts_most s m change None room a = a
in_contexts_most s m change (Some x) room a = contexts_most s m (change x.place room.hub.contexts) room a

-- ---- AN EXCHANGE BEGINS

filters_fewer : (plugins : List PluginEntry) (ns : List ℕ) → length (filters_of plugins ns) ≤ length ns
filters_fewer plugins [] = omega arith
filters_fewer plugins (n ∷ ns) = by_filter (filters_fewer plugins ns) (filter_at_plugin plugins n)
  where
    by_filter : length (filters_of plugins ns) ≤ length ns → (o : Option Filter) → length (filters_by o ++ filters_of plugins ns) ≤ suc (length ns)
    by_filter few None = omega arith
    by_filter few (Some f) = omega arith

route_fits : (s : ℕ) (routes : List RouteEntry) (k : ℕ) → RoutesFit s routes → length (plugins_of (slice_get routes k)) ≤ s
route_fits s [] k fit = omega arith
route_fits s (route ∷ routes) zero fit = fit.0
route_fits s (route ∷ routes) (suc k) fit = route_fits s routes k fit.1

plugins_fit : (s : ℕ) (routes : List RouteEntry) (o : Option ℕ) → RoutesFit s routes → length (plugins_at routes o) ≤ s
plugins_fit s routes None fit = omega arith
plugins_fit s routes (Some k) fit = route_fits s routes k fit

begins_fitting : (s : ℕ) (plan : Plan) (place now : ℕ) (dead : List ℕ) (h : Head) (route : Option ℕ) → RoutesFit s plan.routes → Fits s (exchange_for plan place now dead h route)
begins_fitting s plan place now dead h route fit =
    let p = plugins_fit s plan.routes route fit in
    let f = filters_fewer plan.plugins (plugins_at plan.routes route) in
    let g = filter_fewer (λ (x : Filter). not (is_gone dead x)) (filters_of plan.plugins (plugins_at plan.routes route)) in
    record { filters = omega arith; request = omega arith; response = omega arith; clear = λ (answered : false ≡ true). absurd (cc) }

begun_most : (s m number : ℕ) (plan : Plan) (h : Head) (room : Room) → RoutesFit s plan.routes → AtMost s m room → AtMost s (m + (end_cost s + 1)) (begin_exchange_on plan number h room)
begun_most s m number plan h room fit a =
    let x : Exchange = exchange_for plan (free_place room.hub.contexts) room.hub.moment room.dead h (route_in plan.routes (path_of h.fields)) in
    on_lines_most s m (end_cost s + 1) (with_exchange x) number (with_contexts (open_exchange number h.fields room.hub.contexts) room) (contexts_most s m _ room a)
    (λ l fits. (begins_fitting s plan (free_place room.hub.contexts) room.hub.moment room.dead h (route_in plan.routes (path_of h.fields)) fit, omega arith))

-- ---- what a reader hands on, where so much was left before

-- how much of it is a part, beside the reading: the bytes of one that does not end a body are used up
part_most : (s m : ℕ) (plan : Plan) (r : ReadBatch) (p : Part) (room : Room) → RoutesFit s plan.routes → ends_body p ≡ false → AtMost s m room
    → AtMost s (m + (8 + 13 * s) + reading_cost s + for_each (s + s) r.batch) (take_part plan r p room)
part_most s m plan r (head_part h) room fit goes a =
    of_if (λ (x : Room). AtMost s (m + (8 + 13 * s) + reading_cost s + for_each (s + s) r.batch) x) r.up _ _
    (λ up. at_most_more s (m + reading_cost s + for_each (s + s) r.batch + (s + s)) _ _ (omega arith)
    (takes_most s m r (head_item h) _ (on_exchange_most s m (with_response_head h) r.line _ (in_contexts_most s m _ (exchange_on r.line room) room a) (λ x. keeps_adds h x))))
    (λ down. at_most_more s (m + (end_cost s + 1) + reading_cost s + for_each (s + s) r.batch + (s + s)) _ _ (omega arith)
    (takes_most s (m + (end_cost s + 1)) r (head_item h) (begin_exchange_on plan r.line h room) (begun_most s m r.line plan h room fit a)))
part_most s m plan r (interim_part h) room fit goes a =
    let b = sending_most s m (sending_to r.line Down (interim_of (exchange_on r.line room) h)) room a in
    record { fit = b.fit; few = omega (arith, b.few) }
part_most s m plan r (piece bytes last) room fit goes a =
    at_most_more s (m + reading_cost s + for_each (s + s) r.batch + (s + s)) _ _ (omega arith) (takes_most s m r (items.Piece bytes last) room a)
part_most s m plan r (trailer_part fields) room fit goes a = absurd (cc)

-- one that ends a body ends the reading
end_most : (s m : ℕ) (plan : Plan) (r : ReadBatch) (p : Part) (room : Room) → ends_body p ≡ true → AtMost s m room
    → AtMost s (m + (2 + 7 * s) + for_each (s + s) r.batch) (take_part plan r p room)
end_most s m plan r (head_part h) room last a = absurd (cc)
end_most s m plan r (interim_part h) room last a = absurd (cc)
end_most s m plan r (piece bytes last) room is a = takes_last s m r (items.Piece bytes last) room is a
end_most s m plan r (trailer_part fields) room last a = takes_last s m r items.Trailers _ refl (in_contexts_most s m _ (exchange_on r.line room) room a)

-- none is handed on
stops_most : (s m : ℕ) (r : ReadBatch) (why : Stop) (room : Room) → AtMost s m room → AtMost s (m + (4 + 5 * s) + for_each (s + s) r.batch) (end_of_read r why room)
stops_most s m r rest room a = at_most_more s _ _ _ (omega arith) (reading_ends_most s m r None room a)
stops_most s m r over room a =
    of_if (λ (x : Room). AtMost s (m + (4 + 5 * s) + for_each (s + s) r.batch) x) (r.up || is_some (exchange_on r.line room)) _ _
    (λ is. at_most_more s _ _ _ (omega arith) (reading_ends_most s m r None room a))
    (λ is. at_most_more s _ _ _ (omega arith) (in_front_most s _ (jobs.Close r.line false ∷ []) _ (reading_ends_most s m r None room a)))
stops_most s m r (refusal status) room a = at_most_more s _ _ _ (omega arith) (reading_ends_most s m r (Some status) room a)

-- ---- the reader goes on

-- what is left of the line falls by what the reader used
read_on_less : (s d : ℕ) (up : Bool) (l : Line) (reading new : Reading) → line_reading up (Some l) ≡ Some reading → OpenFits s l.exchange
    → for_each (byte_cost s) new.unread + d ≤ for_each (byte_cost s) reading.unread → OpenFits s (read_on up new l).exchange × (line_left s (read_on up new l) + d ≤ line_left s l)
read_on_less s d false l reading new is fits less =
    let same : l.requests ≡ reading = (cc) in
    let e : for_each (byte_cost s) l.requests.unread ≡ for_each (byte_cost s) reading.unread = ap (λ (r : Reading). for_each (byte_cost s) r.unread) same in
    (fits, omega arith)
read_on_less s d true l reading new is fits less = by_exchange l.exchange refl
  where
    by_exchange : (o : Option Exchange) → l.exchange ≡ o → OpenFits s (change_exchange (with_reader new) l o).exchange × (line_left s (change_exchange (with_reader new) l o) + d ≤ line_left s l)
    by_exchange None at = let e : line_reading true (Some l) ≡ None = ap exchange_reading at in absurd (cc)
    by_exchange (Some x) at =
        let here : OpenFits s (Some x) = subst (λ (o : Option Exchange). OpenFits s o) at fits in
        let there : x.reader ≡ Some reading = sym (ap exchange_reading at) ∙ is in
        let e : reader_left s x.reader ≡ for_each (byte_cost s) reading.unread = ap (reader_left s) there in
        let f : open_left s l.exchange ≡ exchange_left s x = ap (open_left s) at in
        (record { filters = here.filters; request = here.request; response = here.response; clear = here.clear }, omega arith)

read_most : (s d : ℕ) (r : ReadBatch) (reading new : Reading) (room : Room) → reading_on r room ≡ Some reading → AllFit s room.lines
    → for_each (byte_cost s) new.unread + d ≤ for_each (byte_cost s) reading.unread
    → AllFit s (on_lines (read_on r.up new) r.line room).lines × (work_left s (on_lines (read_on r.up new) r.line room) + d ≤ work_left s room)
read_most s d r reading new room is fit less = by_line (line_in r.line room.lines) refl
  where
    by_line : (o : Option Line) → line_in r.line room.lines ≡ o → AllFit s (on_lines (read_on r.up new) r.line room).lines × (work_left s (on_lines (read_on r.up new) r.line room) + d ≤ work_left s room)
    by_line None at = let e : reading_on r room ≡ line_reading r.up None = ap (line_reading r.up) at in absurd (none r.up (sym e ∙ is))
      where
        none : (up : Bool) → line_reading up None ≡ Some reading → ⊥
        none true e = cc
        none false e = cc
    by_line (Some l) at =
        let there : line_reading r.up (Some l) ≡ Some reading = sym (ap (line_reading r.up) at) ∙ is in
        let fits : OpenFits s l.exchange = subst (λ (o : Option Line). OpenFits s (exchange_of_line o)) at (fits_in s r.line room.lines fit) in
        let one = read_on_less s d r.up l reading new there fits less in
        let all = on_line_less s d (read_on r.up new) r.line room.lines l at fit one.0 one.1 in
        (all.0, omega (arith, all.1))

-- A READING, whatever the reader says
pub heard_less : (s : ℕ) (plan : Plan) (r : ReadBatch) (reading : Reading) (h : Heard) (room : Room) → RoutesFit s plan.routes → AllFit s room.lines → room.reading ≡ Some r
    → reading_on r room ≡ Some reading → Hears reading h → IsLess s room (after_heard plan r h (record room { reading = None }))
heard_less s plan r reading (hands p new) room fit all is at hears = by_end (ends_body p) refl
  where
    base : Room
    base = record room { reading = None }

    next : Room
    next = on_lines (read_on r.up new) r.line base

    whole : work_left s room ≡ work_left s (record room { reading = None }) + (reading_cost s + for_each (s + s) r.batch)
    whole = let e : reading_left s room.reading ≡ reading_cost s + for_each (s + s) r.batch = ap (reading_left s) is in omega arith

    by_end : (b : Bool) → ends_body p ≡ b → IsLess s room (take_part plan r p (on_lines (read_on r.up new) r.line (record room { reading = None })))
    by_end false goes =
        let used : length new.unread < length reading.unread = uses_bytes reading (hands p new) hears goes in
        let less = for_each_less (byte_cost s) new.unread reading.unread used in
        let two = read_most s (byte_cost s) r reading new (record room { reading = None }) at all less in
        let three = part_most s (work_left s (on_lines (read_on r.up new) r.line (record room { reading = None }))) plan r p (on_lines (read_on r.up new) r.line (record room { reading = None })) fit goes
        (record { fit = two.0; few = omega arith }) in
        record { fit = three.fit; less = omega (arith, three.few, two.1, whole) }
    by_end true last =
        let none : length new.unread ≤ length reading.unread = reads_none reading (hands p new) hears in
        let less : for_each (byte_cost s) new.unread + 0 ≤ for_each (byte_cost s) reading.unread = omega (arith, for_each_fewer (byte_cost s) new.unread reading.unread none) in
        let two = read_most s 0 r reading new (record room { reading = None }) at all less in
        let three = end_most s (work_left s (on_lines (read_on r.up new) r.line (record room { reading = None }))) plan r p (on_lines (read_on r.up new) r.line (record room { reading = None })) last
        (record { fit = two.0; few = omega arith }) in
        record { fit = three.fit; less = omega (arith, three.few, two.1, whole) }
heard_less s plan r reading (halts why new) room fit all is at hears =
    let none : length new.unread ≤ length reading.unread = reads_none reading (halts why new) hears in
    let less : for_each (byte_cost s) new.unread + 0 ≤ for_each (byte_cost s) reading.unread = omega (arith, for_each_fewer (byte_cost s) new.unread reading.unread none) in
    let two = read_most s 0 r reading new (record room { reading = None }) at all less in
    let three = stops_most s (work_left s (on_lines (read_on r.up new) r.line (record room { reading = None }))) r why (on_lines (read_on r.up new) r.line (record room { reading = None }))
    (record { fit = two.0; few = omega arith }) in
    let e : reading_left s room.reading ≡ reading_cost s + for_each (s + s) r.batch = ap (reading_left s) is in
    let whole : work_left s room ≡ work_left s (record room { reading = None }) + (reading_cost s + for_each (s + s) r.batch) = omega arith in
    record { fit = three.fit; less = omega (arith, three.few, two.1, whole) }
