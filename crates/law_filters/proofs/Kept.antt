-- Each step keeps what is known of roots.
use Rattle.std.proofs.Common.{◌≡◌, ◌⊎◌, inl, inr, refl, ℕ, zero, suc, ◌-◌, Bool, true, false, List, [], ◌∷◌, ◌++◌, ap, ◌∙◌, sym, subst}
use Rattle.std.specs.Prelude.{◌||◌, slice_set, slice_get, Option, None, Some, remove}
use Rattle.contexts.specs.Creating.{end_exchange, ended_one}
use Rattle.contexts.specs.Reached.{exchange_at}
use Rattle.std.specs.Option.{option_map}
use Rattle.contexts.specs.declared.parts.Contexts.{Contexts}
use Rattle.exchange.specs.declared.types.Exchange.{Exchange}
use Rattle.exchange.specs.declared.types.Filter.{Filter}
use Rattle.exchange.specs.declared.types.Hub.{Hub}
use Rattle.exchange.specs.Answering.{none_held}
use Rattle.exchange.specs.Passing as passing
use Rattle.filter_chain.specs.Chains.{without_buffers}
use Rattle.filter_chain.specs.declared.item.ChainItem.{ChainItem}
use Rattle.filter_host.specs.Heard.{Heard}
use Rattle.gate_config.specs.declared.entries.PluginEntry.{PluginEntry}
use Rattle.h1_model.specs.Unread.{Reading}
use Rattle.worker_model.specs.Calls.{call_job}
use Rattle.worker_model.specs.Moves.{asks_at, asks_in, asks_back, asks_exchange, ended_at, ended_in, ended_back}
use Rattle.worker_model.specs.Plan.{Plan}
use Rattle.worker_model.specs.Room.{Room}
use Rattle.law_roots.specs.Roots.{RootStands}
use Rattle.worker_model.specs.Rooms.{is_dead, on_number, at_place, place_in}
use Rattle.worker_model.specs.Steps.{with_jobs_first, with_agenda_first, last_jobs, after_heard, reading_on, line_reading, line_in, done_jobs, close_up, end_with, enter_stages}
use Rattle.worker_model.specs.declared.types.ContextAt.{ContextAt}
use Rattle.worker_model.specs.declared.types.Job.{Job}
use Rattle.worker_model.specs.declared.types.Job.TheVariants as jobs
use Rattle.worker_model.specs.declared.types.Line.{Line}
use Rattle.worker_model.specs.declared.types.ReadBatch.{ReadBatch}
use Rattle.law_filters.proofs.Doing.{InThird, in_asks, InBoth, in_marking, by_ended}
use Rattle.law_filters.proofs.Good as good
use Rattle.law_filters.proofs.Ids.{IsItem, freed_same}
use Rattle.law_filters.proofs.Made as made
use Rattle.law_filters.proofs.Rooms.{OfExchange, Joint, numbers, numbers_set, each_at, each_set, on_place, apart_closed, asked_lines, with_asked, holds_lines}
use Rattle.law_filters.proofs.Same.{pick, SameIds, same_then, same_cleared}
use Rattle.law_filters.proofs.Sound.{IsSound, OfFilters, Filtered, OfJobs, OfWaits, HasRoot, Ordered, IsOther, AreOther, ordered_among, root_among, root_not_among, of_among, todo, Sounds, SameHub, SoundBut, Nobody, Any, sound_rest, sound_apart, sound_moved, puts_up}
use Rattle.law_filters.proofs.Steps.{IsStepped, IsSilent}

module _ (plan : Plan) where
  abbrev Known : Room → Type 0
  Known room = IsSound plan Nobody room

  abbrev Good : Room → Type 0
  Good room = Known room × (room.is_begun ≡ true)

  -- ---- reading

  unread : (room : Room) → Known room → Known (record room { reading = None })
  unread room s =
      let r = s.holds.2 in
      record {
        contexts = s.contexts;
        holds = (
          s.holds.0,
          s.holds.1,
          record { drawn = r.drawn; of_jobs = r.of_jobs; of_waits = r.of_waits; ordered = r.ordered; begun = r.begun; no_line = r.no_line; each = r.each },
        );
      }

  some_none : {A : Type 0} (a : A) → Some a ≡ None → ⊥
  some_none a is = cc is

  reads : (r : ReadBatch) (reading : Reading) (h : Heard) (room : Room) → reading_on r room ≡ Some reading → Known room → Known (after_heard plan r h (record room { reading = None }))
  reads r reading h room on s =
      let begun : room.is_begun ≡ true
      = good.begun_of plan room s
      (λ none waits.
      some_none reading
      (sym on ∙ (ap (λ (lines : List Line). line_reading r.up (line_in r.line lines)) (good.no_lines plan room.lines none) ∙ good.no_reading plan r.up r.line))) in
      (good.good_heard plan r h (record room { reading = None }) (good.good_reading plan None room (s, begun))).0

  -- ---- a stage is asked

  line_asked : (h : Contexts) (room : Room) (place : ℕ) (line : Line) (o : Option Exchange) → slice_get room.lines place ≡ Some line → line.exchange ≡ o → SoundBut plan Nobody h room
      → SoundBut plan Nobody h (with_asked room (asks_back place room.lines (asks_in line o room.hub)))
  line_asked h room place line None at is s =
      (each_set (Filtered h) room.lines place line (each_at (Filtered h) room.lines place line at s.0) s.0, s.1, (sound_rest plan Nobody h).beside room (slice_set room.lines place line) room.hub (numbers_set room.lines place line line at refl) s.2)
  line_asked h room place line (Some x) at is s =
      let r = asks_exchange line.number x room.hub in
      let of : OfExchange (Filtered h) line.number (Some x) = subst (OfExchange (Filtered h) line.number) is (each_at (Filtered h) room.lines place line at s.0) in
      let third : InThird (Joint (Filtered h) (SameHub h)) line.number r
      = in_asks (λ vm. Unit {0}) Any (Joint (Filtered h) (SameHub h)) (apart_closed (Filtered h) (SameHub h) (sound_apart h)) (sound_moved h) line.number x room.hub (of, s.1) tt in
      let y : Line = record line { exchange = Some r.1 } in
      (each_set (Filtered h) room.lines place y third.0 s.0, third.1, (sound_rest plan Nobody h).beside room (slice_set room.lines place y) r.2 (numbers_set room.lines place line y at refl) s.2)

  place_asked : (h : Contexts) (room : Room) (place : ℕ) (o : Option Line) → slice_get room.lines place ≡ o → SoundBut plan Nobody h room → SoundBut plan Nobody h (with_asked room (asks_at place o room.lines room.hub))
  place_asked h room place None at s = s
  place_asked h room place (Some line) at s = line_asked h room place line line.exchange at refl s

  stage : (place : ℕ) (room : Room) → Known room → Known (with_asked room (asked_lines place room))
  stage place room s = record { contexts = s.contexts; holds = place_asked s.contexts room place (slice_get room.lines place) refl s.holds }

  -- ---- a context that waited is released

  wait_at : (h : Contexts) (ws : List ContextAt) (at : ℕ) (c : ContextAt) → slice_get ws at ≡ Some c → OfWaits h ws → IsItem h c.vm c.context
  wait_at h [] zero c is of = absurd (cc is)
  wait_at h [] (suc at) c is of = absurd (cc is)
  wait_at h (w ∷ ws) zero c is of = let same : w ≡ c = cc is in subst (λ (x : ContextAt). IsItem h x.vm x.context) same of.0
  wait_at h (w ∷ ws) (suc at) c is of = wait_at h ws at c is of.1

  waits_left : (h : Contexts) (ws : List ContextAt) (at : ℕ) → OfWaits h ws → OfWaits h (remove ws at)
  waits_left h [] zero of = tt
  waits_left h [] (suc at) of = tt
  waits_left h (w ∷ ws) zero of = of.1
  waits_left h (w ∷ ws) (suc at) of = (of.0, waits_left h ws at of.1)

  none_waits : (at : ℕ) (c : ContextAt) (ws : List ContextAt) → ws ≡ [] → slice_get ws at ≡ Some c → ⊥
  none_waits zero c ws none is = let e : ◌≡◌ {A = Option ContextAt} None (Some c) = ap (λ (l : List ContextAt). slice_get l 0) (sym none) ∙ is in some_none c (sym e)
  none_waits (suc at) c ws none is = let e : ◌≡◌ {A = Option ContextAt} None (Some c) = ap (λ (l : List ContextAt). slice_get l (suc at)) (sym none) ∙ is in some_none c (sym e)

  frees : (at : ℕ) (c : ContextAt) (room : Room) → slice_get room.waits at ≡ Some c → Known room → Known (record room { jobs = last_jobs c ++ room.jobs; waits = remove room.waits at })
  frees at c room is s =
      let h : Contexts = s.contexts in
      let begun : room.is_begun ≡ true = good.begun_of plan room s (λ none waits. none_waits at c room.waits waits is) in
      let item : IsItem h c.vm c.context = wait_at h room.waits at c is s.holds.2.of_waits in
      let mid : Room = with_jobs_first (last_jobs c) room in
      let now : SoundBut plan Nobody h mid = good.fronted plan h (last_jobs c) room (tt, (tt, tt)) (item, (item, tt)) s.holds begun in
      let r = now.2 in
      record {
        contexts = h;
        holds = (
          now.0,
          now.1,
          good.turned_by plan h mid (record mid { waits = remove room.waits at }) r begun begun r.of_jobs (waits_left h room.waits at r.of_waits) r.ordered (λ p vm has. has) (λ p vm has. has) r.no_line (λ vm e. e),
        );
      }

  -- ---- an exchange ends

  done_of : (h : Contexts) (fs : List Filter) → OfFilters h fs → OfJobs h (done_jobs fs)
  done_of h [] of = tt
  done_of h (f ∷ fs) of = by_ended (OfJobs h) f.created (jobs.Done (record { vm = f.vm; context = f.context }) ∷ done_jobs fs) (done_jobs fs) (λ made. (of.0 made, done_of h fs of.1)) (λ e. done_of h fs of.1)

  done_other : (fs : List Filter) → AreOther (done_jobs fs)
  done_other [] = tt
  done_other (f ∷ fs) = pick AreOther f.created (jobs.Done (record { vm = f.vm; context = f.context }) ∷ done_jobs fs) (done_jobs fs) (tt, done_other fs) (done_other fs)

  other_push : (a : List Job) (job : Job) → AreOther a → IsOther job → AreOther (a ++ job ∷ [])
  other_push [] job are is = (is, tt)
  other_push (x ∷ a) job are is = (are.0, other_push a job are.1 is)

  of_close : (h : Contexts) (a : List Job) (n : ℕ) (stays : Bool) → OfJobs h a → OfJobs h (a ++ jobs.Close n stays ∷ [])
  of_close h [] n stays of = (tt, tt)
  of_close h (x ∷ a) n stays of = (of.0, of_close h a n stays of.1)

  ended_same : (n : ℕ) (k : Contexts) → SameIds k (end_exchange n k)
  ended_same n k =
      let mid : Contexts = record k { exchanges = slice_set k.exchanges n (option_map ended_one (exchange_at k.exchanges n)) } in
      same_then k mid (end_exchange n k) (record { outlined = λ vm. refl; last = λ vm. refl; count = refl; plugins = refl }) (freed_same n mid)

  none_same : (x : Exchange) (hub : Hub) → SameIds hub.contexts (none_held x hub).contexts
  none_same x hub =
      same_then hub.contexts (without_buffers hub.contexts x.request) (without_buffers (without_buffers hub.contexts x.request) x.response) (same_cleared x.request hub.contexts)
      (same_cleared x.response (without_buffers hub.contexts x.request))

  line_ended : (h : Contexts) (room : Room) (place : ℕ) (line : Line) (o : Option Exchange) → slice_get room.lines place ≡ Some line → line.exchange ≡ o → SoundBut plan Nobody h room → room.is_begun ≡ true
      → SoundBut plan Nobody h (end_with room (ended_back place room.lines (ended_in line o)))
  line_ended h room place line None at is s begun =
      (each_set (Filtered h) room.lines place line (each_at (Filtered h) room.lines place line at s.0) s.0, s.1, (sound_rest plan Nobody h).beside room (slice_set room.lines place line) room.hub (numbers_set room.lines place line line at refl) s.2)
  line_ended h room place line (Some x) at is s begun =
      let of : OfFilters h x.filters = subst (OfExchange (Filtered h) line.number) is (each_at (Filtered h) room.lines place line at s.0) in
      let y : Line = record line { exchange = None } in
      let lines : List Line = slice_set room.lines place y in
      let ended : Contexts = end_exchange x.place (none_held x room.hub).contexts in
      let hub : Hub = record room.hub { contexts = ended; sent = room.hub.sent ++ close_up line.number x.reader } in
      let mid : Room = record room { lines = lines; hub = hub } in
      let same : SameIds room.hub.contexts ended = same_then room.hub.contexts (none_held x room.hub).contexts ended (none_same x room.hub) (ended_same x.place (none_held x room.hub).contexts) in
      let now : SoundBut plan Nobody h mid
      = (each_set (Filtered h) room.lines place y tt s.0, same_then h room.hub.contexts ended s.1 same, (sound_rest plan Nobody h).beside room lines hub (numbers_set room.lines place line y at refl) s.2) in
      good.fronted plan h (done_jobs x.filters ++ jobs.Close line.number x.stays ∷ []) mid (other_push (done_jobs x.filters) (jobs.Close line.number x.stays) (done_other x.filters) tt)
      (of_close h (done_jobs x.filters) line.number x.stays (done_of h x.filters of)) now begun

  none_there : (place : ℕ) (line : Line) (lines : List Line) → lines ≡ [] → slice_get lines place ≡ Some line → ⊥
  none_there zero line lines none is = let e : ◌≡◌ {A = Option Line} None (Some line) = ap (λ (l : List Line). slice_get l 0) (sym none) ∙ is in some_none line (sym e)
  none_there (suc place) line lines none is = let e : ◌≡◌ {A = Option Line} None (Some line) = ap (λ (l : List Line). slice_get l (suc place)) (sym none) ∙ is in some_none line (sym e)

  place_ended : (room : Room) (place : ℕ) (o : Option Line) → slice_get room.lines place ≡ o → Known room → Known (end_with room (ended_at place o room.lines))
  place_ended room place None at s = s
  place_ended room place (Some line) at s =
      let begun : room.is_begun ≡ true = good.begun_of plan room s (λ none waits. none_there place line room.lines (good.no_lines plan room.lines none) at) in
      record { contexts = s.contexts; holds = line_ended s.contexts room place line line.exchange at refl s.holds begun }

  -- ---- parts of a turn, and notices

  parts : (job : Job) (later : List Job) (room : Room) → room.jobs ≡ [] → room.agenda ≡ job ∷ later → Known room → Known (record room { jobs = job ∷ []; agenda = later })
  parts job later room jobless at s =
      let r = s.holds.2 in
      let same : todo room ≡ job ∷ later = λ i. jobless i ++ at i in
      record {
        contexts = s.contexts;
        holds = (
          s.holds.0,
          s.holds.1,
          record {
            drawn = r.drawn;
            of_jobs = subst (OfJobs s.contexts) same r.of_jobs;
            of_waits = r.of_waits;
            ordered = subst Ordered same r.ordered;
            begun = begun same r.begun;
            no_line = λ p vm has. r.no_line p vm (subst (HasRoot p vm) (sym same) has);
            each = λ b p e there. moved p e same (r.each b p e there);
          },
        );
      }
    where
      begun : todo room ≡ job ∷ later → (room.is_begun ≡ true) ⊎ ((todo room ≡ []) × (numbers room.lines ≡ []) × (room.waits ≡ []))
          → (room.is_begun ≡ true) ⊎ ((job ∷ later ≡ []) × (numbers room.lines ≡ []) × (room.waits ≡ []))
      begun same (inl is) = inl is
      begun same (inr none) = inr (sym same ∙ none.0, none.1, none.2)

      moved : (p : ℕ) (e : PluginEntry) → todo room ≡ job ∷ later → ⊥ ⊎ ((is_dead e.vm room ≡ true) ⊎ (RootStands s.contexts p e.vm ⊎ HasRoot p e.vm (todo room)))
          → ⊥ ⊎ ((is_dead e.vm room ≡ true) ⊎ (RootStands s.contexts p e.vm ⊎ HasRoot p e.vm (job ∷ later)))
      moved p e same (inl none) = inl none
      moved p e same (inr (inl dead)) = inr (inl dead)
      moved p e same (inr (inr (inl stands))) = inr (inr (inl stands))
      moved p e same (inr (inr (inr has))) = inr (inr (inr (subst (HasRoot p e.vm) same has)))

  noticed : (vm left root queue : ℕ) (room : Room) → Good room → Known (with_jobs_first (jobs.Ready vm root queue ∷ []) (with_agenda_first (jobs.Notice vm (left - 1) ∷ []) room))
  noticed vm left root queue room g =
      let h : Contexts = g.0.contexts in
      let s = g.0.holds in
      let r = s.2 in
      let job : Job = jobs.Notice vm (left - 1) in
      let mid : Room = with_agenda_first (job ∷ []) room in
      let now : SoundBut plan Nobody h mid
      = (
        s.0,
        s.1,
        good.turned_by plan h room mid r g.1 g.1 (of_among h room.jobs room.agenda job tt r.of_jobs) r.of_waits (ordered_among room.jobs room.agenda job tt r.ordered)
            (λ p w has. root_not_among p w room.jobs room.agenda job tt has) (λ p w has. root_among p w room.jobs room.agenda job has) (λ p w has. r.no_line p w (root_not_among p w room.jobs room.agenda job tt has)) (λ w e. e),
      ) in
      record { contexts = h; holds = good.fronted plan h (jobs.Ready vm root queue ∷ []) mid (tt, tt) (tt, tt) now g.1 }

  -- ---- stages are made, and what was read comes

  entered : (h : Contexts) (dead : List ℕ) (n : ℕ) (x : Exchange) (hub : Hub) → Joint (Filtered h) (SameHub h) n x hub → InBoth (Joint (Filtered h) (SameHub h)) n (enter_stages dead n x hub)
  entered h dead n x hub is = pick (λ (y : Exchange). Joint (Filtered h) (SameHub h) n y hub) (x.has_ended || x.is_answered) x _ is is

  enters : (n : ℕ) (room : Room) → Known room → Known (on_number (enter_stages room.dead) n room)
  enters n room s =
      let h : Contexts = s.contexts in
      record {
        contexts = h;
        holds = holds_lines (Filtered h) (SameHub h) (λ vm. Unit {0}) (Sounds plan Nobody h) (sound_rest plan Nobody h) room (at_place (enter_stages room.dead) room.lines (place_in n room.lines) room.hub)
            (on_place (Filtered h) (SameHub h) (enter_stages room.dead)
            (λ m x hub is. in_marking (λ vm. Unit {0}) Any (Joint (Filtered h) (SameHub h)) (apart_closed (Filtered h) (SameHub h) (sound_apart h)) (sound_moved h) m (enter_stages room.dead m x hub) (entered h room.dead m x hub is)) room.lines
            (place_in n room.lines) room.hub s.holds.0 s.holds.1) s.holds.2;
      }

  puts : (n : ℕ) (items : List ChainItem) (room : Room) → Known room → Known (on_number (passing.put_read_items false items) n room)
  puts n items room s =
      let h : Contexts = s.contexts in
      record {
        contexts = h;
        holds = holds_lines (Filtered h) (SameHub h) (λ vm. Unit {0}) (Sounds plan Nobody h) (sound_rest plan Nobody h) room (at_place (passing.put_read_items false items) room.lines (place_in n room.lines) room.hub)
            (on_place (Filtered h) (SameHub h) (passing.put_read_items false items) (λ m x hub is. puts_up h items m x hub is) room.lines (place_in n room.lines) room.hub s.holds.0 s.holds.1) s.holds.2;
      }

  -- ---- EACH STEP

  silent_other : (job : Job) → IsSilent job → IsOther job
  silent_other (jobs.Root vm plugin first) is = absurd is
  silent_other (jobs.Happen what) is = absurd is
  silent_other job is = tt

  pub sound_stepped : IsStepped plan (λ room. Unit {0}) Any Known Known
  sound_stepped = record {
    last = λ room s. s;
    unread = λ room here s. unread room s;
    read = λ r reading h room at on says here s. reads r reading h room on s;
    stage = λ place room quiet at any here s. stage place room s;
    frees = λ at c room quiet jobless there here s. frees at c room there s;
    over = λ place room quiet jobless here s. place_ended room place (slice_get room.lines place) refl s;
    part = λ job later room quiet jobless at here s. parts job later room jobless at s;
    pops = λ job room is here s. (good.popped_other plan job room (silent_other job is) s).0;
    notices = λ vm left root queue room here s. noticed vm left root queue room (good.popped_other plan (jobs.Notice vm left) room tt s);
    calls = λ other then_ room here s. (good.good_front plan (call_job then_ ∷ []) room (tt, tt) (good.popped_other plan (jobs.Other other) room tt s)).0;
    root = λ vm p first room here s. made.root plan vm p first room s;
    create = λ n k room here s. made.create plan n k room s;
    finish = λ c value room s. made.finish plan c value room s;
    delete = λ c value room s. made.delete plan c value room s;
    happens = λ what room quiet here s. good.happens plan what room s;
    enters = λ n room here s. enters n room (good.popped_other plan (jobs.Enter n) room tt s).0;
    puts = λ n items room here s. puts n items room (good.popped_other plan (jobs.Put n false items) room tt s).0;
    refuses = λ n status room here s. (good.good_refuse plan (line_in n room.lines) n status room (good.popped_other plan (jobs.Refuse n status) room tt s)).0;
    closes = λ n stays room quiet here s. (good.good_ended plan (line_in n room.lines) n stays room (good.popped_other plan (jobs.Close n stays) room tt s)).0;
  }
