-- What is known of roots stays where jobs come and go, and where lines change.
use Rattle.std.proofs.Common.{◌≡◌, ◌⊎◌, inl, inr, refl, ℕ, zero, suc, Bool, true, false, not, cond, ◌||◌, ◌&&◌, List, [], ◌∷◌, ◌++◌, length, ap, ◌∙◌, sym, subst, append_assoc}
use Rattle.std.specs.List.{filter}
use Rattle.std.specs.Option.{option_map}
use Rattle.std.specs.Prelude.{slice_get, nat_lt, if◌then◌else◌, Option, None, Some, is_some, remove, insert}
use Rattle.contexts.specs.Creating.{open_exchange}
use Rattle.contexts.specs.Reached.{view_at}
use Rattle.contexts.specs.declared.parts.Contexts.{Contexts}
use Rattle.exchange.specs.declared.types.Exchange.{Exchange}
use Rattle.exchange.specs.declared.types.Filter.{Filter}
use Rattle.exchange.specs.Heads.{path_of, route_in}
use Rattle.exchange.specs.Leaving.{bytes_sent_to as sending_to}
use Rattle.exchange.specs.Maps.{put_response, with_fields}
use Rattle.exchange.specs.Passing as passing
use Rattle.filter_chain.specs.declared.item.ChainItem.{ChainItem}
use Rattle.filter_chain.specs.declared.item.ChainItem.TheVariants as items
use Rattle.filter_host.specs.Heard.{Heard, hands, halts}
use Rattle.gate_config.specs.declared.entries.PluginEntry.{PluginEntry}
use Rattle.gate_io.specs.declared.event.Sent.{Sent}
use Rattle.gate_io.specs.declared.event.Sent.TheVariants as to
use Rattle.gate_io.specs.declared.event.Side.TheVariants.{Down, Up}
use Rattle.gate_io.specs.declared.event.What.{What}
use Rattle.gate_io.specs.declared.event.What.TheVariants as whats
use Rattle.h1_model.specs.Head.{Head}
use Rattle.h1_model.specs.Messages.{Stop, rest, over, refusal}
use Rattle.h1_model.specs.Unread.{Part, head_part, interim_part, piece, trailer_part, Reading}
use Rattle.header_maps.specs.Headers.{Headers}
use Rattle.header_maps.specs.Operations.{no_headers}
use Rattle.law_roots.specs.Roots.{RootStands}
use Rattle.worker_model.specs.Plan.{Plan}
use Rattle.worker_model.specs.Room.{Room}
use Rattle.worker_model.specs.Rooms.{Changes, is_dead, with_contexts, room_with_sent, on_number, place_in}
use Rattle.worker_model.specs.Steps.{with_jobs_first, change_exchange, change_line, line_at, line_at_place, on_line, line_in, exchange_of_line, exchange_on, filter_of, filters_by, filters_of, plugins_at, is_gone, exchange_for, with_exchange, free_place, begin_exchange_on, line_reading, with_reader, read_on, is_last, with_read_mark, on_lines, create_jobs, begins_with_head, refuse_jobs, put_jobs, exchange_jobs, begin_jobs_for, jobs_of, end_reading, with_item, take_read_item, with_response_head, in_contexts, head_item, interim_of, put_trailers, take_part, end_of_read, after_heard, without_place, drop_line, close_line, read_side, end_line, fixed_answer, refusal_sent, refuse_in, refuse_line, most_lines, new_line, place_for, accept_line, with_further, side_with_more, reading_with_more, is_open, is_answered_in, is_read_in, receive_on, exchange_without_client, line_without_client, lose_client, is_missed, lose_server, take_event}
use Rattle.worker_model.specs.declared.types.Job.{Job}
use Rattle.worker_model.specs.declared.types.Job.TheVariants as jobs
use Rattle.worker_model.specs.declared.types.Line.{Line}
use Rattle.worker_model.specs.declared.types.ReadBatch.{ReadBatch}
use Rattle.law_filters.proofs.Doing.{NoConnects, bytes_connect_none}
use Rattle.law_filters.proofs.Rooms.{OfExchange, OfLine, OfEach, Op, op_refuses, IsCalm, numbers, numbers_set, each_at, each_set, holding}
use Rattle.law_filters.proofs.Same.{pick, SameIds, same_view}
use Rattle.law_filters.proofs.Sound.{IsSound, OfFilters, Filtered, OfJob, OfJobs, OfWaits, HasRoot, NoRoots, Ordered, IsOther, AreOther, no_root, root_later, root_other, ordered_later, ordered_front, root_front, root_behind, of_front, todo, Sounds, SoundBut, Nobody, sound_calm}

module _ (plan : Plan) where
  abbrev pub Known : Room → Type 0
  Known room = IsSound plan Nobody room

  -- known, and begun
  abbrev pub Good : Room → Type 0
  Good room = Known room × (room.is_begun ≡ true)

  pub calm : IsCalm Known
  calm = sound_calm plan Nobody

  -- ---- jobs that come, and that go

  pub begun_but : (S : ℕ → Type 0) (h : Contexts) (job : Job) (room : Room) → Sounds plan S h (holding job room) → room.is_begun ≡ true
  begun_but S h job room s = by_begun s.begun
    where
      by_begun : (room.is_begun ≡ true) ⊎ ((job ∷ todo room ≡ []) × (numbers room.lines ≡ []) × (room.waits ≡ [])) → room.is_begun ≡ true
      by_begun (inl begun) = begun
      by_begun (inr none) = absurd (cc none.0)

  -- a job goes that makes no root
  pub popped_but : (h : Contexts) (job : Job) (room : Room) → ((p vm : ℕ) → HasRoot p vm (job ∷ todo room) → HasRoot p vm (todo room)) → SoundBut plan Nobody h (holding job room) → SoundBut plan Nobody h room
  popped_but h job room goes s =
      let r = s.2 in (
        s.0,
        s.1,
        record {
          drawn = r.drawn;
          of_jobs = r.of_jobs.1;
          of_waits = r.of_waits;
          ordered = ordered_later job (todo room) r.ordered;
          begun = inl (begun_but Nobody h job room r);
          no_line = λ p vm has. r.no_line p vm (root_later p vm job (todo room) has);
          each = λ b p e at. rooted p e (r.each b p e at);
        },
      )
    where
      rooted : (p : ℕ) (e : PluginEntry) → ⊥ ⊎ ((is_dead e.vm room ≡ true) ⊎ (RootStands h p e.vm ⊎ HasRoot p e.vm (job ∷ todo room)))
          → ⊥ ⊎ ((is_dead e.vm room ≡ true) ⊎ (RootStands h p e.vm ⊎ HasRoot p e.vm (todo room)))
      rooted p e (inl none) = inl none
      rooted p e (inr (inl dead)) = inr (inl dead)
      rooted p e (inr (inr (inl stands))) = inr (inr (inl stands))
      rooted p e (inr (inr (inr has))) = inr (inr (inr (goes p e.vm has)))

  pub popped : (job : Job) (room : Room) → ((p vm : ℕ) → HasRoot p vm (job ∷ todo room) → HasRoot p vm (todo room)) → Known (holding job room) → Good room
  popped job room goes s = (record { contexts = s.contexts; holds = popped_but s.contexts job room goes s.holds }, begun_but Nobody s.contexts job room s.holds.2)

  pub popped_other : (job : Job) (room : Room) → IsOther job → Known (holding job room) → Good room
  popped_other job room is s = popped job room (λ p vm has. root_other p vm job (todo room) is has) s

  -- what else is of the room may be as it likes, where this stays
  pub turned_by : (h : Contexts) (room later : Room) → Sounds plan Nobody h room → room.is_begun ≡ true → later.is_begun ≡ true → OfJobs h (todo later) → OfWaits h later.waits → Ordered (todo later)
      → ((p vm : ℕ) → HasRoot p vm (todo later) → HasRoot p vm (todo room)) → ((p vm : ℕ) → HasRoot p vm (todo room) → HasRoot p vm (todo later))
      → ((p vm : ℕ) → HasRoot p vm (todo later) → numbers later.lines ≡ []) → ((vm : ℕ) → is_dead vm room ≡ true → is_dead vm later ≡ true) → Sounds plan Nobody h later
  turned_by h room later r begun now jobs waits ordered back on lines dead = record {
    drawn = r.drawn;
    of_jobs = jobs;
    of_waits = waits;
    ordered = ordered;
    begun = inl now;
    no_line = lines;
    each = λ b p e at. rooted p e (r.each begun p e at);
  }
    where
      rooted : (p : ℕ) (e : PluginEntry) → ⊥ ⊎ ((is_dead e.vm room ≡ true) ⊎ (RootStands h p e.vm ⊎ HasRoot p e.vm (todo room)))
          → ⊥ ⊎ ((is_dead e.vm later ≡ true) ⊎ (RootStands h p e.vm ⊎ HasRoot p e.vm (todo later)))
      rooted p e (inl none) = inl none
      rooted p e (inr (inl is)) = inr (inl (dead e.vm is))
      rooted p e (inr (inr (inl stands))) = inr (inr (inl stands))
      rooted p e (inr (inr (inr has))) = inr (inr (inr (on p e.vm has)))

  -- jobs come in front
  pub fronted : (h : Contexts) (front : List Job) (room : Room) → AreOther front → OfJobs h front → SoundBut plan Nobody h room → room.is_begun ≡ true → SoundBut plan Nobody h (with_jobs_first front room)
  fronted h front room are of s begun =
      let r = s.2 in
      let same : front ++ todo room ≡ (front ++ room.jobs) ++ room.agenda = sym (append_assoc front room.jobs room.agenda) in (
        s.0,
        s.1,
        turned_by h room (with_jobs_first front room) r begun begun (subst (OfJobs h) same (of_front h front (todo room) of r.of_jobs)) r.of_waits
            (subst Ordered same (ordered_front front (todo room) are r.ordered))
            (λ p vm has. root_behind p vm front (todo room) are (subst (HasRoot p vm) (sym same) has))
            (λ p vm has. subst (HasRoot p vm) same (root_front p vm front (todo room) has))
            (λ p vm has. r.no_line p vm (root_behind p vm front (todo room) are (subst (HasRoot p vm) (sym same) has)))
            (λ vm is. is),
      )

  -- jobs that are not of contexts
  abbrev pub IsBare : Job → Type 0
  IsBare (jobs.Root w q first) = ⊥
  IsBare (jobs.Happen what) = ⊥
  IsBare (jobs.Done c) = ⊥
  IsBare (jobs.Log c) = ⊥
  IsBare (jobs.Delete c) = ⊥
  IsBare job = Unit {0}

  abbrev pub AreBare : List Job → Type 0
  AreBare [] = Unit {0}
  AreBare (job ∷ more) = IsBare job × AreBare more

  bare_other : (job : Job) → IsBare job → IsOther job
  bare_other (jobs.Root w q first) is = is
  bare_other (jobs.Happen what) is = is
  bare_other job is = tt

  bare_of : (h : Contexts) (job : Job) → IsBare job → OfJob h job
  bare_of h (jobs.Done c) is = absurd is
  bare_of h (jobs.Log c) is = absurd is
  bare_of h (jobs.Delete c) is = absurd is
  bare_of h job is = tt

  pub all_other : (js : List Job) → AreBare js → AreOther js
  all_other [] are = tt
  all_other (job ∷ js) are = (bare_other job are.0, all_other js are.1)

  pub all_of : (h : Contexts) (js : List Job) → AreBare js → OfJobs h js
  all_of h [] are = tt
  all_of h (job ∷ js) are = (bare_of h job are.0, all_of h js are.1)

  pub bare_join : (a b : List Job) → AreBare a → AreBare b → AreBare (a ++ b)
  bare_join [] b one two = two
  bare_join (job ∷ a) b one two = (one.0, bare_join a b one.1 two)

  pub good_front : (front : List Job) (room : Room) → AreBare front → Good room → Good (with_jobs_first front room)
  good_front front room are g =
      (record { contexts = g.0.contexts; holds = fronted g.0.contexts front room (all_other front are) (all_of g.0.contexts front are) g.0.holds g.1 }, g.1)

  -- ---- lines, and what is read

  -- a change of lines that leaves numbers and filters
  pub record IsMild (change : Line → Line) : Type 0 where
    pub number : (line : Line) → (change line).number ≡ line.number
    pub of : (h : Contexts) (line : Line) → OfLine (Filtered h) line → OfLine (Filtered h) (change line)

  mild_at : (h : Contexts) (change : Line → Line) → IsMild change → (lines : List Line) (o : Option ℕ) → OfEach (Filtered h) lines
      → OfEach (Filtered h) (line_at_place change lines o) × (numbers (line_at_place change lines o) ≡ numbers lines)
  mild_at h change mild lines None of = (of, refl)
  mild_at h change mild lines (Some place) of = at (slice_get lines place) refl
    where
      at : (o : Option Line) → slice_get lines place ≡ o → OfEach (Filtered h) (line_at change lines place o) × (numbers (line_at change lines place o) ≡ numbers lines)
      at None is = (of, refl)
      at (Some line) is = (each_set (Filtered h) lines place (change line) (mild.of h line (each_at (Filtered h) lines place line is of)) of, numbers_set lines place line (change line) is (mild.number line))

  -- with other lines, and something else that is read
  pub lined : (h : Contexts) (room : Room) (lines : List Line) (o : Option ReadBatch) → SoundBut plan Nobody h room → room.is_begun ≡ true → OfEach (Filtered h) lines → ((p vm : ℕ) → HasRoot p vm (todo room) → numbers lines ≡ [])
      → SoundBut plan Nobody h (record room { lines = lines; reading = o })
  lined h room lines o s begun of fits =
      let r = s.2 in
      (of, s.1, turned_by h room (record room { lines = lines; reading = o }) r begun begun r.of_jobs r.of_waits r.ordered (λ p vm has. has) (λ p vm has. has) fits (λ vm is. is))

  pub good_reading : (o : Option ReadBatch) (room : Room) → Good room → Good (record room { reading = o })
  good_reading o room g = (record { contexts = g.0.contexts; holds = lined g.0.contexts room room.lines o g.0.holds g.1 g.0.holds.0 g.0.holds.2.no_line }, g.1)

  pub good_lines : (change : Line → Line) → IsMild change → (n : ℕ) (room : Room) → Good room → Good (on_lines change n room)
  good_lines change mild n room g =
      let h = g.0.contexts in
      let both = mild_at h change mild room.lines (place_in n room.lines) g.0.holds.0 in
      (record { contexts = h; holds = lined h room (on_line change n room.lines) room.reading g.0.holds g.1 both.0 (λ p vm has. both.1 ∙ g.0.holds.2.no_line p vm has) }, g.1)

  pub good_contexts : (k : Contexts) (room : Room) → SameIds room.hub.contexts k → Good room → Good (with_contexts k room)
  good_contexts k room same g = (calm.hub room k same g.0, g.1)

  pub good_sent : (more : List Sent) (room : Room) → NoConnects more → Good room → Good (room_with_sent more room)
  good_sent more room none g = (calm.sent room more none g.0, g.1)

  change_mild : (change : Exchange → Exchange) → ((x : Exchange) → (change x).filters ≡ x.filters) → IsMild (change_line change)
  change_mild change same = record { number = λ line. same_number line line.exchange; of = λ h line is. still_of h line line.exchange refl is }
    where
      same_number : (line : Line) (o : Option Exchange) → (change_exchange change line o).number ≡ line.number
      same_number line None = refl
      same_number line (Some x) = refl

      still_of : (h : Contexts) (line : Line) (o : Option Exchange) → line.exchange ≡ o → OfLine (Filtered h) line → OfLine (Filtered h) (change_exchange change line o)
      still_of h line None at is = is
      still_of h line (Some x) at is = subst (OfFilters h) (sym (same x)) (subst (OfExchange (Filtered h) line.number) at is)

  requests_mild : (change : Reading → Reading) → IsMild (λ line. record line { requests = change line.requests })
  requests_mild change = record { number = λ line. refl; of = λ h line is. is }

  read_mild : (up : Bool) (reading : Reading) → IsMild (read_on up reading)
  read_mild false reading = requests_mild (λ old. reading)
  read_mild true reading = change_mild (with_reader reading) (λ x. refl)

  mark_mild : (up : Bool) (item : ChainItem) → IsMild (change_line (with_read_mark up item))
  mark_mild false item = change_mild (with_read_mark false item) (λ x. refl)
  mark_mild true item = change_mild (with_read_mark true item) (λ x. refl)

  side_mild : (up stops : Bool) (bytes : List ℕ) → IsMild (side_with_more up stops bytes)
  side_mild false stops bytes = requests_mild (reading_with_more stops bytes)
  side_mild true stops bytes = change_mild (with_further stops bytes) (λ x. refl)

  -- ---- what is heard

  creates_bare : (n k : ℕ) → AreBare (create_jobs n k)
  creates_bare n zero = tt
  creates_bare n (suc k) = bare_join (create_jobs n k) (jobs.Create n k ∷ []) (creates_bare n k) (tt, tt)

  refuses_bare : (n : ℕ) (o : Option ℕ) → AreBare (refuse_jobs n o)
  refuses_bare n None = tt
  refuses_bare n (Some status) = (tt, tt)

  puts_bare : (n : ℕ) (response : Bool) (batch : List ChainItem) → AreBare (put_jobs n response batch)
  puts_bare n response [] = tt
  puts_bare n response (item ∷ more) = (tt, tt)

  exchange_bare : (r : ReadBatch) (status : Option ℕ) (x : Exchange) (o : Option ℕ) → AreBare (exchange_jobs r status x o)
  exchange_bare r status x (Some number) = (tt, tt)
  exchange_bare r status x None =
      bare_join (create_jobs r.line (length x.filters)) (jobs.Enter r.line ∷ (put_jobs r.line false r.batch ++ refuse_jobs r.line status)) (creates_bare r.line (length x.filters))
      (tt, bare_join (put_jobs r.line false r.batch) (refuse_jobs r.line status) (puts_bare r.line false r.batch) (refuses_bare r.line status))

  begin_bare : (r : ReadBatch) (status : Option ℕ) (o : Option Exchange) → AreBare (begin_jobs_for r status o)
  begin_bare r status None = tt
  begin_bare r status (Some x) = exchange_bare r status x x.refusal

  jobs_bare : (r : ReadBatch) (status : Option ℕ) (room : Room) → AreBare (jobs_of r status room)
  jobs_bare r status room =
      pick AreBare (begins_with_head r.batch && not r.up) (begin_jobs_for r status (exchange_on r.line room)) (put_jobs r.line r.up r.batch ++ refuse_jobs r.line status) (begin_bare r status (exchange_on r.line room))
      (bare_join (put_jobs r.line r.up r.batch) (refuse_jobs r.line status) (puts_bare r.line r.up r.batch) (refuses_bare r.line status))

  good_end : (r : ReadBatch) (status : Option ℕ) (room : Room) → Good room → Good (end_reading r status room)
  good_end r status room g = good_front (jobs_of r status room) (record room { reading = None }) (jobs_bare r status room) (good_reading None room g)

  good_item : (r : ReadBatch) (item : ChainItem) (room : Room) → Good room → Good (take_read_item r item room)
  good_item r item room g =
      let marked : Room = on_lines (change_line (with_read_mark r.up item)) r.line room in
      let here : Good marked = good_lines (change_line (with_read_mark r.up item)) (mark_mild r.up item) r.line room g in
      pick Good (is_last item) (end_reading (with_item item r) None marked) (record marked { reading = Some (with_item item r) }) (good_end (with_item item r) None marked here)
      (good_reading (Some (with_item item r)) marked here)

  good_in : (change : ℕ → Contexts → Contexts) → ((place : ℕ) (k : Contexts) → SameIds k (change place k)) → (o : Option Exchange) (room : Room) → Good room → Good (in_contexts change o room)
  good_in change same None room g = g
  good_in change same (Some x) room g = good_contexts (change x.place room.hub.contexts) room (same x.place room.hub.contexts) g

  trailers_same : (up : Bool) (fields : Headers) (place : ℕ) (k : Contexts) → SameIds k (put_trailers up fields place k)
  trailers_same false fields place k = same_view (λ v. record v { maps = record v.maps { request_trailers = Some fields } }) place (view_at k.exchanges place) k
  trailers_same true fields place k = same_view (λ v. record v { maps = record v.maps { response_trailers = Some fields } }) place (view_at k.exchanges place) k

  -- no context of a new filter was created
  new_filters : (h : Contexts) (plugins : List PluginEntry) (ps : List ℕ) → OfFilters h (filters_of plugins ps)
  new_filters h plugins [] = tt
  new_filters h plugins (p ∷ ps) = joined (new_filters h plugins ps) (slice_get plugins p)
    where
      joined : OfFilters h (filters_of plugins ps) → (o : Option PluginEntry) → OfFilters h (filters_by (option_map (filter_of p) o) ++ filters_of plugins ps)
      joined later None = later
      joined later (Some e) = ((λ made. absurd (cc made)), later)

  filtered_of : (h : Contexts) (keep : Filter → Bool) (fs : List Filter) → OfFilters h fs → OfFilters h (filter keep fs)
  filtered_of h keep [] of = tt
  filtered_of h keep (f ∷ fs) of = by_keep (filtered_of h keep fs of.1) (keep f)
    where
      by_keep : OfFilters h (filter keep fs) → (b : Bool) → OfFilters h (cond b (f ∷ filter keep fs) (filter keep fs))
      by_keep later true = (of.0, later)
      by_keep later false = later

  begins_mild : (plan : Plan) (place now : ℕ) (dead : List ℕ) (head : Head) (route : Option ℕ) → IsMild (with_exchange (exchange_for plan place now dead head route))
  begins_mild plan place now dead head route = record {
    number = λ line. refl;
    of = λ h line is. filtered_of h (λ (f : Filter). not (is_gone dead f)) (filters_of plan.plugins (plugins_at plan.routes route)) (new_filters h plan.plugins (plugins_at plan.routes route));
  }

  good_begins : (n : ℕ) (head : Head) (room : Room) → Good room → Good (begin_exchange_on plan n head room)
  good_begins n head room g =
      let x : Exchange = exchange_for plan (free_place room.hub.contexts) room.hub.moment room.dead head (route_in plan.routes (path_of head.fields)) in
      good_contexts (open_exchange n head.fields room.hub.contexts) (on_lines (with_exchange x) n room) (record { outlined = λ vm. refl; last = λ vm. refl; count = refl; plugins = refl })
      (good_lines (with_exchange x) (begins_mild plan (free_place room.hub.contexts) room.hub.moment room.dead head (route_in plan.routes (path_of head.fields))) n room g)

  good_part : (r : ReadBatch) (part : Part) (room : Room) → Good room → Good (take_part plan r part room)
  good_part r (head_part head) room g =
      pick Good r.up _ _
      (good_item r (head_item head) (on_lines (change_line (with_response_head head)) r.line (in_contexts (put_response head.fields) (exchange_on r.line room) room))
      (good_lines (change_line (with_response_head head)) (change_mild (with_response_head head) (λ x. refl)) r.line (in_contexts (put_response head.fields) (exchange_on r.line room) room)
      (good_in (put_response head.fields) (λ place k. same_view (λ v. record v { maps = record v.maps { response = Some head.fields } }) place (view_at k.exchanges place) k) (exchange_on r.line room) room g)))
      (good_item r (head_item head) (begin_exchange_on plan r.line head room) (good_begins r.line head room g))
  good_part r (interim_part head) room g =
      good_reading (Some r) (room_with_sent (sending_to r.line Down (interim_of (exchange_on r.line room) head)) room)
      (good_sent (sending_to r.line Down (interim_of (exchange_on r.line room) head)) room (bytes_connect_none r.line Down (interim_of (exchange_on r.line room) head)) g)
  good_part r (piece bytes last) room g = good_item r (items.Piece bytes last) room g
  good_part r (trailer_part fields) room g =
      good_item r items.Trailers (in_contexts (put_trailers r.up (with_fields no_headers fields)) (exchange_on r.line room) room)
      (good_in (put_trailers r.up (with_fields no_headers fields)) (trailers_same r.up (with_fields no_headers fields)) (exchange_on r.line room) room g)

  good_stops : (r : ReadBatch) (why : Stop) (room : Room) → Good room → Good (end_of_read r why room)
  good_stops r rest room g = good_end r None room g
  good_stops r over room g =
      pick Good (r.up || is_some (exchange_on r.line room)) (end_reading r None room) (with_jobs_first (jobs.Close r.line false ∷ []) (end_reading r None room)) (good_end r None room g)
      (good_front (jobs.Close r.line false ∷ []) (end_reading r None room) (tt, tt) (good_end r None room g))
  good_stops r (refusal status) room g = good_end r (Some status) room g

  pub good_heard : (r : ReadBatch) (heard : Heard) (room : Room) → Good room → Good (after_heard plan r heard room)
  good_heard r (hands part new) room g = good_part r part (on_lines (read_on r.up new) r.line room) (good_lines (read_on r.up new) (read_mild r.up new) r.line room g)
  good_heard r (halts why new) room g = good_stops r why (on_lines (read_on r.up new) r.line room) (good_lines (read_on r.up new) (read_mild r.up new) r.line room g)

  -- where a reader is found a line is open, so that the worker has begun
  pub begun_of : (room : Room) → Known room → (numbers room.lines ≡ [] → room.waits ≡ [] → ⊥) → room.is_begun ≡ true
  begun_of room s some = by_begun s.holds.2.begun
    where
      by_begun : (room.is_begun ≡ true) ⊎ ((todo room ≡ []) × (numbers room.lines ≡ []) × (room.waits ≡ [])) → room.is_begun ≡ true
      by_begun (inl begun) = begun
      by_begun (inr none) = absurd (some none.1 none.2)

  pub no_lines : (lines : List Line) → numbers lines ≡ [] → lines ≡ []
  no_lines [] is = refl
  no_lines (line ∷ lines) is = absurd (cc is)

  pub no_reading : (up : Bool) (n : ℕ) → line_reading up (line_in n []) ≡ None
  no_reading false n = refl
  no_reading true n = refl

  -- ---- what happens

  -- a change of lines where no root is to come
  pub changed : (room : Room) (lines : List Line) → NoRoots (todo room) → ((h : Contexts) → OfEach (Filtered h) room.lines → OfEach (Filtered h) lines) → Good room → Good (record room { lines = lines })
  changed room lines none of g =
      let h = g.0.contexts in
      (record { contexts = h; holds = lined h room lines room.reading g.0.holds g.1 (of h g.0.holds.0) (λ p vm has. absurd (no_root p vm (todo room) none has)) }, g.1)

  -- fewer lines
  fewer : (room : Room) (lines : List Line) → (room.lines ≡ [] → lines ≡ []) → ((h : Contexts) → OfEach (Filtered h) room.lines → OfEach (Filtered h) lines) → Good room → Good (record room { lines = lines })
  fewer room lines none of g =
      let h = g.0.contexts in (
        record {
          contexts = h;
          holds = lined h room lines room.reading g.0.holds g.1 (of h g.0.holds.0) (λ p vm has. ap numbers (none (no_lines room.lines (g.0.holds.2.no_line p vm has))));
        },
        g.1,
      )

  each_insert : (h : Contexts) (lines : List Line) (k n : ℕ) → OfEach (Filtered h) lines → OfEach (Filtered h) (insert lines k (new_line n))
  each_insert h lines zero n of = (tt, of)
  each_insert h [] (suc k) n of = (tt, tt)
  each_insert h (line ∷ lines) (suc k) n of = (of.0, each_insert h lines k n of.1)

  each_remove : (h : Contexts) (lines : List Line) (k : ℕ) → OfEach (Filtered h) lines → OfEach (Filtered h) (remove lines k)
  each_remove h [] zero of = tt
  each_remove h [] (suc k) of = tt
  each_remove h (line ∷ lines) zero of = of.1
  each_remove h (line ∷ lines) (suc k) of = (of.0, each_remove h lines k of.1)

  none_placed : (n k : ℕ) → place_in n [] ≡ Some k → ⊥
  none_placed n k is = cc is

  good_drop : (n : ℕ) (room : Room) → Good room → Good (drop_line n room)
  good_drop n room g = dropped (place_in n room.lines) refl
    where
      dropped : (o : Option ℕ) → place_in n room.lines ≡ o → Good (record room { lines = without_place room.lines o })
      dropped None at = g
      dropped (Some k) at =
          fewer room (remove room.lines k) (λ (none : room.lines ≡ []). absurd (none_placed n k (ap (λ (lines : List Line). place_in n lines) (sym none) ∙ at))) (λ h of. each_remove h room.lines k of) g

  good_close : (n : ℕ) (room : Room) → Good room → Good (close_line n room)
  good_close n room g = good_sent (to.Close n Down ∷ []) (drop_line n room) tt (good_drop n room g)

  good_side : (n : ℕ) (up : Bool) (room : Room) → Good room → Good (read_side n up room)
  good_side n up room g = good_reading (Some (record { line = n; up = up; batch = [] })) room g

  pub good_ended : (o : Option Line) (n : ℕ) (stays : Bool) (room : Room) → Good room → Good (end_line o n stays room)
  good_ended None n stays room g = g
  good_ended (Some line) n stays room g =
      pick Good line.is_gone (drop_line n room) (if stays then read_side n false room else close_line n room) (good_drop n room g)
      (pick Good stays (read_side n false room) (close_line n room) (good_side n false room g) (good_close n room g))

  good_refused : (n status : ℕ) (room : Room) → Good room → Good (refusal_sent n status room)
  good_refused n status room g = pick Good _ (room_with_sent (sending_to n Down (fixed_answer status room.hub.moment)) room) room (good_sent (sending_to n Down (fixed_answer status room.hub.moment)) room (bytes_connect_none n Down (fixed_answer status room.hub.moment)) g) g

  pub good_number : (change : Changes) (n : ℕ) (room : Room) → Op change → Good room → Good (on_number change n room)
  good_number change n room op g = (calm.number change n room op g.0, g.1)

  pub good_refuse : (o : Option Line) (n status : ℕ) (room : Room) → Good room → Good (refuse_line o n status room)
  good_refuse None n status room g = g
  good_refuse (Some line) n status room g = by_exchange line.exchange
    where
      by_exchange : (o : Option Exchange) → Good (refuse_in n status o room)
      by_exchange (Some x) = good_number (passing.refuse_exchange status) n room (op_refuses status) g
      by_exchange None = good_close n (refusal_sent n status room) (good_refused n status room g)

  good_accept : (n : ℕ) (room : Room) → NoRoots (todo room) → Good room → Good (accept_line n room)
  good_accept n room none g =
      pick Good (is_some (place_in n room.lines)) room _ g
      (pick Good (nat_lt (length room.lines) most_lines) (record room { lines = insert room.lines (place_for n room.lines) (new_line n) }) (room_with_sent (to.Close n Down ∷ []) room)
      (changed room (insert room.lines (place_for n room.lines) (new_line n)) none (λ h of. each_insert h room.lines (place_for n room.lines) n of) g) (good_sent (to.Close n Down ∷ []) room tt g))

  good_receive : (up stops : Bool) (bytes : List ℕ) (n : ℕ) (o : Option Line) (room : Room) → Good room → Good (receive_on up stops bytes n o room)
  good_receive up stops bytes n o room g =
      let later : Room = on_lines (side_with_more up stops bytes) n room in
      let here : Good later = good_lines (side_with_more up stops bytes) (side_mild up stops bytes) n room g in
      pick Good (is_open (line_reading up o) && not (up && is_answered_in (exchange_of_line o))) (if is_read_in up (exchange_of_line o) then read_side n up later else later) room
      (pick Good (is_read_in up (exchange_of_line o)) (read_side n up later) later (good_side n up later here) here) g

  client_mild : IsMild line_without_client
  client_mild = let mild : IsMild (change_line exchange_without_client) = change_mild exchange_without_client (λ x. refl) in record { number = λ line. mild.number line; of = λ h line is. mild.of h line is }

  good_client : (n : ℕ) (o : Option Line) (room : Room) → Good room → Good (lose_client n o room)
  good_client n None room g = g
  good_client n (Some line) room g = pick Good (is_some line.exchange) (on_lines line_without_client n room) (drop_line n room) (good_lines line_without_client client_mild n room g) (good_drop n room g)

  good_server : (n : ℕ) (o : Option Exchange) (room : Room) → Good room → Good (lose_server n o room)
  good_server n o room g = pick Good (is_missed o) (on_number (passing.refuse_exchange 502) n room) room (good_number (passing.refuse_exchange 502) n room (op_refuses 502) g) g

  pub good_event : (what : What) (room : Room) → NoRoots (todo room) → Good room → Good (take_event what room)
  good_event (whats.Opened n) room none g = good_accept n room none g
  good_event (whats.Bytes n Down bytes) room none g = good_receive false false bytes n (line_in n room.lines) room g
  good_event (whats.Bytes n Up bytes) room none g = good_receive true false bytes n (line_in n room.lines) room g
  good_event (whats.End n Down) room none g = good_receive false true [] n (line_in n room.lines) room g
  good_event (whats.End n Up) room none g = good_receive true true [] n (line_in n room.lines) room g
  good_event (whats.Gone n Down) room none g = good_client n (line_in n room.lines) room g
  good_event (whats.Gone n Up) room none g = good_server n (exchange_on n room) room g
  good_event (whats.Joined n) room none g = g
  good_event (whats.Refused n) room none g = good_server n (exchange_on n room) room g
  good_event (whats.Room n side) room none g = g
  good_event whats.Clock room none g = g
  good_event whats.Stop room none g = g

  pub happens : (what : What) (room : Room) → Known (holding (jobs.Happen what) room) → Known (take_event what room)
  happens what room s = (good_event what room s.holds.2.ordered (popped (jobs.Happen what) room (λ p vm has. has) s)).0
