-- An exchange begins on a line: the head of its request is read, and then what follows it, until the jobs that make its contexts and its stages are in hand.
use Rattle.std.proofs.Common.{◌≡◌, ◌⊎◌, inl, inr, refl, ℕ, zero, suc, ◌==◌, Bool, true, false, ◌||◌, ◌&&◌, List, [], ◌∷◌, ◌++◌, cond, length, ap, ◌∙◌, sym, subst, ⊎_elim, append_assoc}
use Rattle.std.specs.List.{filter, list_any}
use Rattle.std.specs.Option.{option_map}
use Rattle.std.specs.Prelude.{slice_get, is_some, if◌then◌else◌, Option, None, Some, position}
use Rattle.contexts.specs.declared.parts.Contexts.{Contexts}
use Rattle.exchange.specs.Heads.{path_of, route_in}
use Rattle.exchange.specs.Maps.{with_fields}
use Rattle.exchange.specs.Leaving.{bytes_sent_to as sending_to}
use Rattle.exchange.specs.declared.types.Exchange.{Exchange}
use Rattle.exchange.specs.declared.types.Filter.{Filter}
use Rattle.filter_chain.specs.declared.item.ChainItem.{ChainItem}
use Rattle.filter_chain.specs.declared.item.ChainItem.TheVariants as items
use Rattle.filter_host.proofs.Holds.{AllEnds, all_reached}
use Rattle.filter_host.specs.Course.{ends, heard, Reaches}
use Rattle.filter_host.specs.Heard.{Heard, Hears, hands, halts}
use Rattle.gate_config.specs.declared.entries.PluginEntry.{PluginEntry}
use Rattle.gate_io.specs.declared.event.Sent.{Sent}
use Rattle.gate_io.specs.declared.event.Side.TheVariants.{Down}
use Rattle.h1_model.specs.Head.{Head}
use Rattle.h1_model.specs.Messages.{Stop, rest, over, refusal}
use Rattle.h1_model.specs.Unread.{Part, head_part, interim_part, piece, trailer_part, Reading}
use Rattle.header_maps.specs.Operations.{no_headers}
use Rattle.law_lines.proofs.Finding.{IsOnce}
use Rattle.law_lines.proofs.Looks.{is_n, look, equal_is}
use Rattle.law_lines.proofs.OnLines.{on_once, on_same}
use Rattle.vm_host.specs.Slots.{calling}
use Rattle.vm_host.specs.declared.slots.Vms.{Vms}
use Rattle.worker_model.specs.Plan.{Plan}
use Rattle.worker_model.specs.Room.{Room}
use Rattle.worker_model.specs.Rooms.{has_move, is_any, moves_or, next_of, next_part, place_in}
use Rattle.worker_model.specs.Steps.{Both, both, after_heard, begin_exchange_on, begins_with_head, change_exchange, change_line, create_jobs, end_of_read, end_reading, exchange_for, exchange_jobs, exchange_on, filter_at_plugin, filter_of, filters_by, filters_of, free_place, head_item, in_contexts, interim_of, is_blocking, is_last, jobs_of, line_at, line_at_place, on_line, on_lines, put_jobs, put_trailers, read_on, reading_on, reads_in, reads_next, refusal_of, refuse_jobs, step, take_part, take_read_item, with_exchange, with_item, with_jobs_first, with_read_mark, with_reader}
use Rattle.worker_model.specs.declared.types.Job.{Job}
use Rattle.worker_model.specs.declared.types.Job.TheVariants as jobs
use Rattle.worker_model.specs.declared.types.Line.{Line}
use Rattle.worker_model.specs.declared.types.Next.{Next}
use Rattle.worker_model.specs.declared.types.Next.TheVariants as next
use Rattle.worker_model.specs.declared.types.ReadBatch.{ReadBatch}
use Rattle.law_filters.proofs.Before.{OnLine, each_by}
use Rattle.law_filters.proofs.Doing.{bytes_connect_none, by_ended, never}
use Rattle.law_filters.proofs.Lasting.{NoMaking, NoneSince, none_any, refuses_making, since_more}
use Rattle.law_filters.proofs.Rooms.{OfExchange, OfLine, OfEach, each_at, each_set}
use Rattle.law_filters.proofs.Same.{pick}

-- ---- the filters of a route

-- the filter of a plug-in is among them
pub in_filters : (plugins : List PluginEntry) (ps : List ℕ) (place p : ℕ) (e : PluginEntry) → slice_get ps place ≡ Some p → slice_get plugins p ≡ Some e → (j : ℕ) × (slice_get (filters_of plugins ps) j ≡ Some (filter_of p e))
in_filters plugins [] zero p e at is = absurd (cc at)
in_filters plugins [] (suc place) p e at is = absurd (cc at)
in_filters plugins (q ∷ ps) zero p e at is =
    let same : q ≡ p = number_same q p at in
    let its : filter_at_plugin plugins q ≡ Some (filter_of p e) = ap (filter_at_plugin plugins) same ∙ ap (option_map (filter_of p)) is in
    (0, ap (λ (o : Option Filter). slice_get (filters_by o ++ filters_of plugins ps) 0) its)
  where
    number_same : (a b : ℕ) → Some a ≡ Some b → a ≡ b
    number_same a b e = cc e
in_filters plugins (q ∷ ps) (suc place) p e at is = behind (filter_at_plugin plugins q) (in_filters plugins ps place p e at is)
  where
    behind : (o : Option Filter) → (j : ℕ) × (slice_get (filters_of plugins ps) j ≡ Some (filter_of p e)) → (j : ℕ) × (slice_get (filters_by o ++ filters_of plugins ps) j ≡ Some (filter_of p e))
    behind None there = there
    behind (Some g) there = (suc there.0, there.1)

filter_same : (a b : Filter) → Some a ≡ Some b → a ≡ b
filter_same a b is = cc is

pub kept_filter : (keep : Filter → Bool) (fs : List Filter) (j : ℕ) (f : Filter) → slice_get fs j ≡ Some f → keep f ≡ true → (k : ℕ) × (slice_get (filter keep fs) k ≡ Some f)
kept_filter keep [] zero f at is = absurd (cc at)
kept_filter keep [] (suc j) f at is = absurd (cc at)
kept_filter keep (x ∷ fs) zero f at is =
    (0, ap (λ (b : Bool). slice_get (cond b (x ∷ filter keep fs) (filter keep fs)) 0) (ap keep (filter_same x f at) ∙ is) ∙ at)
kept_filter keep (x ∷ fs) (suc j) f at is = by_keep (kept_filter keep fs j f at is) (keep x)
  where
    by_keep : (k : ℕ) × (slice_get (filter keep fs) k ≡ Some f) → (b : Bool) → (k : ℕ) × (slice_get (cond b (x ∷ filter keep fs) (filter keep fs)) k ≡ Some f)
    by_keep there true = (suc there.0, there.1)
    by_keep there false = there

pub any_there : (test : Filter → Bool) (fs : List Filter) (j : ℕ) (f : Filter) → slice_get fs j ≡ Some f → test f ≡ true → list_any test fs ≡ true
any_there test [] zero f at is = absurd (cc at)
any_there test [] (suc j) f at is = absurd (cc at)
any_there test (x ∷ fs) zero f at is = λ i. (ap test (filter_same x f at) ∙ is) i || list_any test fs
any_there test (x ∷ fs) (suc j) f at is = any_later (test x) (any_there test fs j f at is)
  where
    any_later : (b : Bool) → list_any test fs ≡ true → (b || list_any test fs) ≡ true
    any_later true later = refl
    any_later false later = later

-- what is refused before any filter sees it, on a route, is refused with 503
pub refused_so : (route : Option ℕ) (dead : List ℕ) (filters : List Filter) (status : ℕ) → (route ≡ None → ⊥) → refusal_of route dead filters ≡ Some status → status ≡ 503
refused_so None dead filters status some is = absurd (some refl)
refused_so (Some q) dead filters status some is = by_any (list_any (is_blocking dead) filters) is
  where
    by_any : (b : Bool) → (if b then Some 503 else None) ≡ Some status → status ≡ 503
    by_any true e = number_is status e
      where
        number_is : (m : ℕ) → Some 503 ≡ Some m → m ≡ 503
        number_is m e = cc e
    by_any false e = absurd (cc e)

-- ---- the jobs that make contexts and stages

-- what was read of the request is put to its chain next, from its head on
abbrev pub Follows : ℕ → List Job → Type 0
Follows n [] = ⊥
Follows n (jobs.Put m false (items.Head end ∷ list) ∷ later) = (m ≡ n) × NoMaking n later
Follows n (job ∷ later) = ⊥

-- from this filter on, of so many, contexts are made; then the stages
abbrev pub Ahead : (n len : ℕ) → ℕ → List Job → Type 0
Ahead n len j [] = ⊥
Ahead n len j (jobs.Create m i ∷ later) = (m ≡ n) × (i ≡ j) × Ahead n len (suc j) later
Ahead n len j (jobs.Enter m ∷ later) = (m ≡ n) × (j ≡ len) × Follows n later
Ahead n len j (job ∷ later) = ⊥

ahead_creates : (n len k : ℕ) (more : List Job) → Ahead n len k more → Ahead n len 0 (create_jobs n k ++ more)
ahead_creates n len zero more is = is
ahead_creates n len (suc k) more is =
    subst (Ahead n len 0) (sym (append_assoc (create_jobs n k) (jobs.Create n k ∷ []) more)) (ahead_creates n len k (jobs.Create n k ∷ more) (refl, refl, is))

follows_puts : (n : ℕ) (status : Option ℕ) (batch : List ChainItem) → begins_with_head batch ≡ true → Follows n (put_jobs n false batch ++ refuse_jobs n status)
follows_puts n status [] is = absurd (cc is)
follows_puts n status (items.Head end ∷ list) is = (refl, refuses_making n n status)
follows_puts n status (items.Piece bytes end ∷ list) is = absurd (cc is)
follows_puts n status (items.Trailers ∷ list) is = absurd (cc is)

-- it is refused; or contexts and stages are made
pub ahead_or : (n : ℕ) (r : ReadBatch) (status : Option ℕ) (x : Exchange) → r.line ≡ n → begins_with_head r.batch ≡ true → (o : Option ℕ) → x.refusal ≡ o
    → ((s : ℕ) × (o ≡ Some s) × (exchange_jobs r status x o ≡ jobs.Refuse n s ∷ [])) ⊎ ((o ≡ None) × Ahead n (length x.filters) 0 (exchange_jobs r status x o))
ahead_or n r status x same first (Some s) at = inl (s, refl, ap (λ (m : ℕ). jobs.Refuse m s ∷ []) same)
ahead_or n r status x same first None at =
    inr (
      refl,
      subst (λ (m : ℕ). Ahead n (length x.filters) 0 (create_jobs m (length x.filters) ++ (jobs.Enter m ∷ (put_jobs m false r.batch ++ refuse_jobs m status)))) (sym same)
          (ahead_creates n (length x.filters) (length x.filters) (jobs.Enter n ∷ (put_jobs n false r.batch ++ refuse_jobs n status)) (refl, refl, follows_puts n status r.batch first)),
    )

-- ---- the exchange as it begins

-- no stage is made, and it is refused or not, and has filters, as it began
pub record IsFresh (refused : Option ℕ) (fs : List Filter) (x : Exchange) : Type 0 where
  pub nothing : x.request ≡ []
  pub unentered : x.is_entered ≡ false
  pub refusal : x.refusal ≡ refused
  pub filters : x.filters ≡ fs

-- ---- lines that change

module _ (n : ℕ) (X : Exchange → Type 0) where
  pub lines_keep : (change : Line → Line) → ((line : Line) → OfLine (OnLine n X) line → OfLine (OnLine n X) (change line)) → (m : ℕ) (lines : List Line) → OfEach (OnLine n X) lines → OfEach (OnLine n X) (on_line change m lines)
  lines_keep change keep m lines of = by_place (place_in m lines)
    where
      by_line : (place : ℕ) (o : Option Line) → slice_get lines place ≡ o → OfEach (OnLine n X) (line_at change lines place o)
      by_line place None at = of
      by_line place (Some line) at = each_set (OnLine n X) lines place (change line) (keep line (each_at (OnLine n X) lines place line at of)) of

      by_place : (o : Option ℕ) → OfEach (OnLine n X) (line_at_place change lines o)
      by_place None = of
      by_place (Some place) = by_line place (slice_get lines place) refl

  pub exchanges_keep : (change : Exchange → Exchange) → ((x : Exchange) → X x → X (change x)) → (m : ℕ) (lines : List Line) → OfEach (OnLine n X) lines → OfEach (OnLine n X) (on_line (change_line change) m lines)
  exchanges_keep change keep m lines of = lines_keep (change_line change) (λ line is. one line line.exchange refl is) m lines of
    where
      one : (line : Line) (o : Option Exchange) → line.exchange ≡ o → OfLine (OnLine n X) line → OfLine (OnLine n X) (change_exchange change line o)
      one line None at is = is
      one line (Some x) at is = λ same. keep x (subst (OfExchange (OnLine n X) line.number) at is same)

-- ---- what is read behind the head

head_push : (batch : List ChainItem) (item : ChainItem) → begins_with_head batch ≡ true → begins_with_head (batch ++ item ∷ []) ≡ true
head_push [] item is = absurd (cc is)
head_push (items.Head end ∷ batch) item is = refl
head_push (items.Piece bytes end ∷ batch) item is = absurd (cc is)
head_push (items.Trailers ∷ batch) item is = absurd (cc is)

-- a request of the line is read, from its head on
pub record IsHeading (n : ℕ) (r : ReadBatch) : Type 0 where
  pub line : r.line ≡ n
  pub down : r.up ≡ false
  pub first : begins_with_head r.batch ≡ true

-- it is read on; or what was read is in hand
abbrev pub Reads : ℕ → Room → Type 0
Reads n room =
    ((r : ReadBatch) × (room.reading ≡ Some r) × IsHeading n r)
    ⊎ ((room.reading ≡ None) × ((r : ReadBatch) × (status : Option ℕ) × IsHeading n r × (room.jobs ≡ jobs_of r status room ++ [])))

module _ (n : ℕ) (base : List Sent) (refused : Option ℕ) (fs : List Filter) (dead : List ℕ) where
  abbrev pub X : Exchange → Type 0
  X = IsFresh refused fs

  -- the exchange is as it began, and no connection was opened for the line
  pub record IsReading (room : Room) : Type 0 where
    pub each : OfEach (OnLine n X) room.lines
    pub since : NoneSince n base room.hub
    pub dead_is : room.dead ≡ dead
    pub reads : Reads n room

  -- the same while nothing is read and nothing is in hand
  pub record Idle (room : Room) : Type 0 where
    pub each : OfEach (OnLine n X) room.lines
    pub since : NoneSince n base room.hub
    pub dead_is : room.dead ≡ dead
    pub jobless : room.jobs ≡ []

  ended : (r : ReadBatch) (status : Option ℕ) (room : Room) → IsHeading n r → Idle room → IsReading (end_reading r status room)
  ended r status room h s = record {
    each = s.each;
    since = s.since;
    dead_is = s.dead_is;
    reads = inr (refl, (r, status, h, ap (λ (js : List Job). jobs_of r status room ++ js) s.jobless));
  }

  marked : (r : ReadBatch) (item : ChainItem) (room : Room) → Idle room → Idle (on_lines (change_line (with_read_mark r.up item)) r.line room)
  marked r item room s = record { each = by_up r.up; since = s.since; dead_is = s.dead_is; jobless = s.jobless }
    where
      by_up : (up : Bool) → OfEach (OnLine n X) (on_line (change_line (with_read_mark up item)) r.line room.lines)
      by_up false = exchanges_keep n X (with_read_mark false item) (λ x is. record { nothing = is.nothing; unentered = is.unentered; refusal = is.refusal; filters = is.filters }) r.line room.lines s.each
      by_up true = exchanges_keep n X (with_read_mark true item) (λ x is. record { nothing = is.nothing; unentered = is.unentered; refusal = is.refusal; filters = is.filters }) r.line room.lines s.each

  pub item_read : (r : ReadBatch) (item : ChainItem) (room : Room) → IsHeading n (with_item item r) → Idle room → IsReading (take_read_item r item room)
  item_read r item room h s =
      let m : Room = on_lines (change_line (with_read_mark r.up item)) r.line room in
      let t : Idle m = marked r item room s in
      pick IsReading (is_last item) (end_reading (with_item item r) None m) (record m { reading = Some (with_item item r) }) (ended (with_item item r) None m h t)
      (record { each = t.each; since = t.since; dead_is = t.dead_is; reads = inl (with_item item r, refl, h) })

  next_item : (r : ReadBatch) (item : ChainItem) → IsHeading n r → IsHeading n (with_item item r)
  next_item r item h = record { line = h.line; down = h.down; first = head_push r.batch item h.first }

  in_contexts_idle : (change : ℕ → Contexts → Contexts) (o : Option Exchange) (room : Room) → Idle room → Idle (in_contexts change o room)
  in_contexts_idle change None room s = s
  in_contexts_idle change (Some x) room s = record { each = s.each; since = s.since; dead_is = s.dead_is; jobless = s.jobless }

  part_read : (plan : Plan) (r : ReadBatch) (part : Part) (room : Room) → IsHeading n r → ((head : Head) → part ≡ head_part head → ⊥) → Idle room → IsReading (take_part plan r part room)
  part_read plan r (head_part head) room h none s = absurd (none head refl)
  part_read plan r (interim_part head) room h none s =
      let bytes : List ℕ = interim_of (exchange_on r.line room) head in
      record {
        each = s.each;
        since = since_more n base room.hub (sending_to r.line Down bytes) (none_any n (sending_to r.line Down bytes) (bytes_connect_none r.line Down bytes)) s.since;
        dead_is = s.dead_is;
        reads = inl (r, refl, h);
      }
  part_read plan r (piece bytes last) room h none s = item_read r (items.Piece bytes last) room (next_item r (items.Piece bytes last) h) s
  part_read plan r (trailer_part fields) room h none s =
      item_read r items.Trailers (in_contexts (put_trailers r.up (with_fields no_headers fields)) (exchange_on r.line room) room) (next_item r items.Trailers h)
      (in_contexts_idle (put_trailers r.up (with_fields no_headers fields)) (exchange_on r.line room) room s)

  stop_read : (r : ReadBatch) (why : Stop) (room : Room) → IsHeading n r → is_some (exchange_on r.line room) ≡ true → Idle room → IsReading (end_of_read r why room)
  stop_read r rest room h some s = ended r None room h s
  stop_read r over room h some s =
      by_ended IsReading (r.up || is_some (exchange_on r.line room)) (end_reading r None room) (with_jobs_first (jobs.Close r.line false ∷ []) (end_reading r None room)) (λ e. ended r None room h s)
      (λ e. absurd (never _ e (or_second r.up (is_some (exchange_on r.line room)) some)))
    where
      or_second : (a b : Bool) → b ≡ true → (a || b) ≡ true
      or_second true b is = refl
      or_second false b is = is
  stop_read r (refusal status) room h some s = ended r (Some status) room h s

  reader_idle : (r : ReadBatch) (new : Reading) (room : Room) → Idle room → Idle (on_lines (read_on r.up new) r.line room)
  reader_idle r new room s = record { each = by_up r.up; since = s.since; dead_is = s.dead_is; jobless = s.jobless }
    where
      by_up : (up : Bool) → OfEach (OnLine n X) (on_line (read_on up new) r.line room.lines)
      by_up false = lines_keep n X (read_on false new) (λ line is. is) r.line room.lines s.each
      by_up true = exchanges_keep n X (with_reader new) (λ x is. record { nothing = is.nothing; unentered = is.unentered; refusal = is.refusal; filters = is.filters }) r.line room.lines s.each

  -- what a reader says
  pub heard_read : (plan : Plan) (r : ReadBatch) (h : Heard) (room : Room) → IsHeading n r → ((head : Head) (new : Reading) → h ≡ hands (head_part head) new → ⊥)
      → ((new : Reading) → is_some (exchange_on r.line (on_lines (read_on r.up new) r.line room)) ≡ true) → OfEach (OnLine n X) room.lines → NoneSince n base room.hub → room.dead ≡ dead → room.jobs ≡ []
      → IsReading (after_heard plan r h room)
  heard_read plan r (hands part new) room h none some each since dead_is jobless =
      part_read plan r part (on_lines (read_on r.up new) r.line room) h (λ head is. none head new (ap (λ (p : Part). hands p new) is))
      (reader_idle r new room (record { each = each; since = since; dead_is = dead_is; jobless = jobless }))
  heard_read plan r (halts why new) room h none some each since dead_is jobless =
      stop_read r why (on_lines (read_on r.up new) r.line room) h (some new) (reader_idle r new room (record { each = each; since = since; dead_is = dead_is; jobless = jobless }))

  -- the head itself
  pub head_read : (plan : Plan) (r : ReadBatch) (head : Head) (new : Reading) (room : Room) (l : Line) → r.line ≡ n → r.up ≡ false → r.batch ≡ [] → IsOnce (is_n n) room.lines → look n room.lines ≡ Some l
      → X (exchange_for plan (free_place room.hub.contexts) room.hub.moment room.dead head (route_in plan.routes (path_of head.fields))) → NoneSince n base room.hub → room.dead ≡ dead → room.jobs ≡ []
      → IsReading (after_heard plan r (hands (head_part head) new) room)
  head_read plan r head new room l line down empty once there fresh since dead_is jobless =
      by_ended IsReading r.up _ _ (λ up. absurd (never r.up down up))
      (λ e. item_read r (head_item head) (begin_exchange_on plan r.line head read_room) (record { line = line; down = down; first = ap (λ (b : List ChainItem). begins_with_head (b ++ head_item head ∷ [])) empty })
      (record { each = begun; since = since; dead_is = dead_is; jobless = jobless }))
    where
      x : Exchange
      x = exchange_for plan (free_place room.hub.contexts) room.hub.moment room.dead head (route_in plan.routes (path_of head.fields))

      read_room : Room
      read_room = on_lines (read_on r.up new) r.line room

      numbered : (up : Bool) (k : Line) → (read_on up new k).number ≡ k.number
      numbered false k = refl
      numbered true k = by_exchange k.exchange
        where
          by_exchange : (o : Option Exchange) → (change_exchange (with_reader new) k o).number ≡ k.number
          by_exchange None = refl
          by_exchange (Some y) = refl

      mine : (r.line == n) ≡ true
      mine = equal_is r.line n line

      once_read : IsOnce (is_n n) read_room.lines
      once_read = on_once n r.line (read_on r.up new) room.lines (numbered r.up) once

      found_read : look n read_room.lines ≡ Some (read_on r.up new l)
      found_read = on_same n r.line (read_on r.up new) room.lines (numbered r.up) once mine ∙ ap (option_map (read_on r.up new)) there

      once_begun : IsOnce (is_n n) (on_line (with_exchange x) r.line read_room.lines)
      once_begun = on_once n r.line (with_exchange x) read_room.lines (λ k. refl) once_read

      found_begun : look n (on_line (with_exchange x) r.line read_room.lines) ≡ Some (with_exchange x (read_on r.up new l))
      found_begun = on_same n r.line (with_exchange x) read_room.lines (λ k. refl) once_read mine ∙ ap (option_map (with_exchange x)) found_read

      begun : OfEach (OnLine n X) (on_line (with_exchange x) r.line read_room.lines)
      begun = each_by n X x (on_line (with_exchange x) r.line read_room.lines) (with_exchange x (read_on r.up new l)) once_begun found_begun refl fresh

-- ---- a step that reads

pub next_reads : (room : Room) (r : ReadBatch) → room.reading ≡ Some r → next_of room ≡ next.Read
next_reads room r at = λ i. if is_some (at i) then next.Read else moves_or (position has_move room.lines) (if is_any room.jobs then next.Work else next_part room)

module _ (plan : Plan) (b : Both Vms) (r : ReadBatch) (at : b.room.reading ≡ Some r) where
  -- it comes to where these lead
  pub reading_step : (Q : Both Vms → Type 0) → ((reading : Reading) → reading_on r b.room ≡ Some reading → (h : Heard) → Hears reading h → Q (both b.host (after_heard plan r h (record b.room { reading = None })))) → (reading_on r b.room ≡ None → ⊥)
      → AllEnds Q (step calling plan (next_of b.room) b.host b.room)
  reading_step Q each some =
      subst (λ (x : Next). AllEnds Q (step calling plan x b.host b.room)) (sym (next_reads b.room r at))
      (subst (λ (o : Option ReadBatch). AllEnds Q (reads_next plan o b.host b.room)) (sym at) (by_reading (reading_on r b.room) refl))
    where
      by_reading : (o : Option Reading) → reading_on r b.room ≡ o → AllEnds Q (reads_in plan r o b.host b.room)
      by_reading None on = absurd (some on)
      by_reading (Some reading) on = λ h says. each reading on h says

  -- where it hears that
  pub one_step : (Q : Both Vms → Type 0) (h : Heard) (m : Both Vms) → Reaches (step calling plan (next_of b.room) b.host b.room) (heard h ∷ []) (ends m)
      → ((reading : Reading) → reading_on r b.room ≡ Some reading → Hears reading h → Q (both b.host (after_heard plan r h (record b.room { reading = None })))) → Q m
  one_step Q h m reaches so =
      by_reading (reading_on r b.room) refl
      (subst (λ (o : Option ReadBatch). Reaches (reads_next plan o b.host b.room) (heard h ∷ []) (ends m)) at
      (subst (λ (x : Next). Reaches (step calling plan x b.host b.room) (heard h ∷ []) (ends m)) (next_reads b.room r at) reaches))
    where
      by_reading : (o : Option Reading) → reading_on r b.room ≡ o → Reaches (reads_in plan r o b.host b.room) (heard h ∷ []) (ends m) → Q m
      by_reading None on c = elim c [ ]
      by_reading (Some reading) on c = all_reached Q [] (ends (both b.host (after_heard plan r h (record b.room { reading = None })))) m (so reading on c.0) c.1
