-- What is known of a worker's room between two steps: its roots stand, and what is to be deleted is no root.
use Rattle.std.proofs.Common.{◌≡◌, ◌⊎◌, inl, inr, refl, ℕ, ◌==◌, true, false, List, [], ◌∷◌, ◌++◌, ◌∙◌, sym, subst}
use Rattle.std.proofs.lemmas.Bool.{or_left, or_right, eq-eqb}
use Rattle.std.proofs.lemmas.List.Folds.{list_any-append}
use Rattle.std.specs.List.{list_any}
use Rattle.std.specs.Prelude.{slice_get, Option, None, Some}
use Rattle.contexts.specs.Reached.{view_at}
use Rattle.contexts.specs.declared.parts.Contexts.{Contexts}
use Rattle.exchange.specs.declared.types.Exchange.{Exchange}
use Rattle.exchange.specs.declared.types.Filter.{Filter}
use Rattle.exchange.specs.declared.types.Hub.{Hub}
use Rattle.exchange.specs.Answering.{with_held}
use Rattle.exchange.specs.Leaving.{send_item, send_items, send_request_item}
use Rattle.exchange.specs.Maps.{mark, marked}
use Rattle.exchange.specs.Passing.{finish_put, take_move, take_put, takes_nothing, put_to_chain, put_all_to_chain, put_read_items}
use Rattle.filter_chain.specs.Chains.{put as put_item, continued, let_through, asked, ready}
use Rattle.filter_chain.specs.declared.item.Asking.{Asking}
use Rattle.filter_chain.specs.declared.item.Asking.TheVariants.{Nothing, Over, Asks}
use Rattle.filter_chain.specs.declared.item.ChainItem.{ChainItem}
use Rattle.filter_chain.specs.declared.item.ChainItem.TheVariants.{Head, Piece, Trailers}
use Rattle.filter_chain.specs.declared.item.PassOutcome.{PassOutcome}
use Rattle.filter_chain.specs.declared.item.PassOutcome.TheVariants as passed
use Rattle.filter_chain.specs.declared.stage.Stage.{Stage}
use Rattle.gate_config.specs.declared.entries.PluginEntry.{PluginEntry}
use Rattle.law_roots.specs.Roots.{RootStands}
use Rattle.worker_model.specs.Moves.{asks_as, asks_chain, with_none}
use Rattle.worker_model.specs.Plan.{Plan}
use Rattle.worker_model.specs.Room.{Room}
use Rattle.worker_model.specs.Rooms.{is_dead, with_marks}
use Rattle.worker_model.specs.declared.types.Asked.{Asked}
use Rattle.worker_model.specs.declared.types.ContextAt.{ContextAt}
use Rattle.worker_model.specs.declared.types.Job.{Job}
use Rattle.worker_model.specs.declared.types.Job.TheVariants as jobs
use Rattle.worker_model.specs.declared.types.Line.{Line}
use Rattle.law_filters.proofs.Doing.{IsClosed, IsMoved, InBoth, InThird, lets_vm, lets_response, in_answer, in_marking}
use Rattle.law_filters.proofs.Ids.{IsItem, AreDrawn, item_same, drawn_same, root_same}
use Rattle.law_filters.proofs.Rooms.{OfExchange, OfEach, Joint, IsRest, IsApart, IsCalm, Holds, numbers, apart_closed, holds_calm}
use Rattle.law_filters.proofs.Same.{pick, SameIds, SameThird, same_itself, same_then, same_view, same_continued, same_let_through, same_asked}

-- ---- contexts that may be deleted

-- of each filter whose context was created
abbrev pub OfFilters : Contexts → List Filter → Type 0
OfFilters h [] = Unit {0}
OfFilters h (f ∷ fs) = (f.created ≡ true → IsItem h f.vm f.context) × OfFilters h fs

abbrev pub Filtered : Contexts → ℕ → Exchange → Type 0
Filtered h n x = OfFilters h x.filters

abbrev pub OfJob : Contexts → Job → Type 0
OfJob h (jobs.Done c) = IsItem h c.vm c.context
OfJob h (jobs.Log c) = IsItem h c.vm c.context
OfJob h (jobs.Delete c) = IsItem h c.vm c.context
OfJob h job = Unit {0}

abbrev pub OfJobs : Contexts → List Job → Type 0
OfJobs h [] = Unit {0}
OfJobs h (job ∷ later) = OfJob h job × OfJobs h later

abbrev pub OfWaits : Contexts → List ContextAt → Type 0
OfWaits h [] = Unit {0}
OfWaits h (c ∷ more) = IsItem h c.vm c.context × OfWaits h more

-- ---- jobs that make roots

-- the root of a plug-in is to be made
abbrev pub HasRoot : (p vm : ℕ) → List Job → Type 0
HasRoot p vm [] = ⊥
HasRoot p vm (jobs.Root w q first ∷ later) = ((w ≡ vm) × (q ≡ p)) ⊎ HasRoot p vm later
HasRoot p vm (job ∷ later) = HasRoot p vm later

abbrev pub NoRoots : List Job → Type 0
NoRoots [] = Unit {0}
NoRoots (jobs.Root w q first ∷ later) = ⊥
NoRoots (job ∷ later) = NoRoots later

-- behind an event no root is made
abbrev pub Ordered : List Job → Type 0
Ordered [] = Unit {0}
Ordered (jobs.Happen what ∷ later) = NoRoots later
Ordered (job ∷ later) = Ordered later

-- jobs of which neither is said
abbrev pub IsOther : Job → Type 0
IsOther (jobs.Root w q first) = ⊥
IsOther (jobs.Happen what) = ⊥
IsOther job = Unit {0}

abbrev pub AreOther : List Job → Type 0
AreOther [] = Unit {0}
AreOther (job ∷ later) = IsOther job × AreOther later

pub no_root : (p vm : ℕ) (js : List Job) → NoRoots js → HasRoot p vm js → ⊥
no_root p vm [] none has = has
no_root p vm (jobs.Root w q first ∷ later) none has = none
no_root p vm (job ∷ later) none has = no_root p vm later none has

pub root_later : (p vm : ℕ) (job : Job) (later : List Job) → HasRoot p vm later → HasRoot p vm (job ∷ later)
root_later p vm (jobs.Root w q first) later has = inr has
root_later p vm job later has = has

pub root_other : (p vm : ℕ) (job : Job) (later : List Job) → IsOther job → HasRoot p vm (job ∷ later) → HasRoot p vm later
root_other p vm (jobs.Root w q first) later is has = absurd is
root_other p vm job later is has = has

pub none_later : (job : Job) (later : List Job) → NoRoots (job ∷ later) → NoRoots later
none_later (jobs.Root w q first) later none = absurd none
none_later job later none = none

none_other : (job : Job) (later : List Job) → IsOther job → NoRoots later → NoRoots (job ∷ later)
none_other (jobs.Root w q first) later is none = absurd is
none_other job later is none = none

none_ordered : (js : List Job) → NoRoots js → Ordered js
none_ordered [] none = tt
none_ordered (jobs.Happen what ∷ later) none = none
none_ordered (jobs.Root w q first ∷ later) none = absurd none
none_ordered (job ∷ later) none = none_ordered later none

pub ordered_later : (job : Job) (later : List Job) → Ordered (job ∷ later) → Ordered later
ordered_later (jobs.Happen what) later o = none_ordered later o
ordered_later job later o = o

pub ordered_other : (job : Job) (later : List Job) → IsOther job → Ordered later → Ordered (job ∷ later)
ordered_other (jobs.Happen what) later is o = absurd is
ordered_other job later is o = o

pub ordered_front : (front js : List Job) → AreOther front → Ordered js → Ordered (front ++ js)
ordered_front [] js are o = o
ordered_front (job ∷ front) js are o = ordered_other job (front ++ js) are.0 (ordered_front front js are.1 o)

-- one more among them
none_among : (a b : List Job) (job : Job) → IsOther job → NoRoots (a ++ b) → NoRoots (a ++ job ∷ b)
none_among [] b job is none = none_other job b is none
none_among (jobs.Root w q first ∷ a) b job is none = absurd none
none_among (x ∷ a) b job is none = none_among a b job is none

pub ordered_among : (a b : List Job) (job : Job) → IsOther job → Ordered (a ++ b) → Ordered (a ++ job ∷ b)
ordered_among [] b job is o = ordered_other job b is o
ordered_among (jobs.Happen what ∷ a) b job is o = none_among a b job is o
ordered_among (x ∷ a) b job is o = ordered_among a b job is o

pub root_front : (p vm : ℕ) (front js : List Job) → HasRoot p vm js → HasRoot p vm (front ++ js)
root_front p vm [] js has = has
root_front p vm (job ∷ front) js has = root_later p vm job (front ++ js) (root_front p vm front js has)

pub root_behind : (p vm : ℕ) (front js : List Job) → AreOther front → HasRoot p vm (front ++ js) → HasRoot p vm js
root_behind p vm [] js are has = has
root_behind p vm (job ∷ front) js are has = root_behind p vm front js are.1 (root_other p vm job (front ++ js) are.0 has)

pub root_among : (p vm : ℕ) (a b : List Job) (job : Job) → HasRoot p vm (a ++ b) → HasRoot p vm (a ++ job ∷ b)
root_among p vm [] b job has = root_later p vm job b has
root_among p vm (jobs.Root w q first ∷ a) b job (inl is) = inl is
root_among p vm (jobs.Root w q first ∷ a) b job (inr has) = inr (root_among p vm a b job has)
root_among p vm (x ∷ a) b job has = root_among p vm a b job has

pub root_not_among : (p vm : ℕ) (a b : List Job) (job : Job) → IsOther job → HasRoot p vm (a ++ job ∷ b) → HasRoot p vm (a ++ b)
root_not_among p vm [] b job is has = root_other p vm job b is has
root_not_among p vm (jobs.Root w q first ∷ a) b job is (inl same) = inl same
root_not_among p vm (jobs.Root w q first ∷ a) b job is (inr has) = inr (root_not_among p vm a b job is has)
root_not_among p vm (x ∷ a) b job is has = root_not_among p vm a b job is has

pub of_front : (h : Contexts) (front js : List Job) → OfJobs h front → OfJobs h js → OfJobs h (front ++ js)
of_front h [] js one more = more
of_front h (job ∷ front) js one more = (one.0, of_front h front js one.1 more)

pub of_among : (h : Contexts) (a b : List Job) (job : Job) → OfJob h job → OfJobs h (a ++ b) → OfJobs h (a ++ job ∷ b)
of_among h [] b job one all = (one, all)
of_among h (x ∷ a) b job one all = (all.0, of_among h a b job one all.1)

-- ---- all of it

-- what is to be done
abbrev pub todo : Room → List Job
todo room = room.jobs ++ room.agenda

-- THE REST OF A ROOM, by the contexts: of these plug-ins it is not said that their roots stand.
pub record Sounds (plan : Plan) (Spared : ℕ → Type 0) (h : Contexts) (room : Room) : Type 0 where
  pub drawn : AreDrawn plan h
  pub of_jobs : OfJobs h (todo room)
  pub of_waits : OfWaits h room.waits
  pub ordered : Ordered (todo room)
  pub begun : (room.is_begun ≡ true) ⊎ ((todo room ≡ []) × (numbers room.lines ≡ []) × (room.waits ≡ []))
  pub no_line : (p vm : ℕ) → HasRoot p vm (todo room) → numbers room.lines ≡ []
  pub each : room.is_begun ≡ true → (p : ℕ) (e : PluginEntry) → slice_get plan.plugins p ≡ Some e
      → Spared p ⊎ ((is_dead e.vm room ≡ true) ⊎ (RootStands h p e.vm ⊎ HasRoot p e.vm (todo room)))

-- the same contexts, but for what is no matter of ids
abbrev pub SameHub : Contexts → Hub → Type 0
SameHub h hub = SameIds h hub.contexts

abbrev pub Nobody : ℕ → Type 0
Nobody p = ⊥

abbrev pub SoundBut : Plan → (ℕ → Type 0) → Contexts → Room → Type 0
SoundBut plan Spared h room = Holds (Filtered h) (SameHub h) (Sounds plan Spared h) room

pub record IsSound (plan : Plan) (Spared : ℕ → Type 0) (room : Room) : Type 0 where
  pub contexts : Contexts
  pub holds : SoundBut plan Spared contexts room

-- ---- where ids stay the same, or grow

abbrev pub Moves : Contexts → Contexts → Type 0
Moves h k = (vm c : ℕ) → IsItem h vm c → IsItem k vm c

pub filters_move : (h k : Contexts) → Moves h k → (fs : List Filter) → OfFilters h fs → OfFilters k fs
filters_move h k moves [] of = tt
filters_move h k moves (f ∷ fs) of = ((λ made. moves f.vm f.context (of.0 made)), filters_move h k moves fs of.1)

pub each_moves : (h k : Contexts) → Moves h k → (lines : List Line) → OfEach (Filtered h) lines → OfEach (Filtered k) lines
each_moves h k moves [] of = tt
each_moves h k moves (line ∷ lines) of = (one line.number line.exchange of.0, each_moves h k moves lines of.1)
  where
    one : (n : ℕ) (o : Option Exchange) → OfExchange (Filtered h) n o → OfExchange (Filtered k) n o
    one n None is = tt
    one n (Some x) is = filters_move h k moves x.filters is

pub job_moves : (h k : Contexts) → Moves h k → (job : Job) → OfJob h job → OfJob k job
job_moves h k moves (jobs.Done c) is = moves c.vm c.context is
job_moves h k moves (jobs.Log c) is = moves c.vm c.context is
job_moves h k moves (jobs.Delete c) is = moves c.vm c.context is
job_moves h k moves job is = tt

pub jobs_move : (h k : Contexts) → Moves h k → (js : List Job) → OfJobs h js → OfJobs k js
jobs_move h k moves [] of = tt
jobs_move h k moves (job ∷ later) of = (job_moves h k moves job of.0, jobs_move h k moves later of.1)

pub waits_move : (h k : Contexts) → Moves h k → (ws : List ContextAt) → OfWaits h ws → OfWaits k ws
waits_move h k moves [] of = tt
waits_move h k moves (c ∷ ws) of = (moves c.vm c.context of.0, waits_move h k moves ws of.1)

-- by the contexts that are there
pub rebased : (plan : Plan) (Spared : ℕ → Type 0) (room : Room) → IsSound plan Spared room → SoundBut plan Spared room.hub.contexts room
rebased plan Spared room s =
    let h = s.contexts in
    let k = room.hub.contexts in
    let same : SameIds h k = s.holds.1 in
    let r = s.holds.2 in
    let moves : Moves h k = item_same h k same in (
      each_moves h k moves room.lines s.holds.0,
      same_itself k,
      record {
        drawn = drawn_same plan h k same r.drawn;
        of_jobs = jobs_move h k moves (todo room) r.of_jobs;
        of_waits = waits_move h k moves room.waits r.of_waits;
        ordered = r.ordered;
        begun = r.begun;
        no_line = r.no_line;
        each = λ begun p e at. rooted p e (r.each begun p e at);
      },
    )
  where
    rooted : (p : ℕ) (e : PluginEntry) → Spared p ⊎ ((is_dead e.vm room ≡ true) ⊎ (RootStands s.contexts p e.vm ⊎ HasRoot p e.vm (todo room)))
        → Spared p ⊎ ((is_dead e.vm room ≡ true) ⊎ (RootStands room.hub.contexts p e.vm ⊎ HasRoot p e.vm (todo room)))
    rooted p e (inl spared) = inl spared
    rooted p e (inr (inl dead)) = inr (inl dead)
    rooted p e (inr (inr (inl stands))) = inr (inr (inl (root_same s.contexts room.hub.contexts s.holds.1 p e.vm stands)))
    rooted p e (inr (inr (inr has))) = inr (inr (inr has))

-- ---- what callbacks do keeps it

pub still_dead : (vm w : ℕ) (dead : List ℕ) → list_any (λ (d : ℕ). d == w) dead ≡ true → list_any (λ (d : ℕ). d == w) (dead ++ vm ∷ []) ≡ true
still_dead vm w dead is = list_any-append (λ (d : ℕ). d == w) dead (vm ∷ []) ∙ or_left (list_any (λ (d : ℕ). d == w) dead) (list_any (λ (d : ℕ). d == w) (vm ∷ [])) is

pub now_dead : (vm : ℕ) (dead : List ℕ) → list_any (λ (d : ℕ). d == vm) (dead ++ vm ∷ []) ≡ true
now_dead vm dead =
    list_any-append (λ (d : ℕ). d == vm) dead (vm ∷ [])
    ∙ or_right (list_any (λ (d : ℕ). d == vm) dead) (list_any (λ (d : ℕ). d == vm) (vm ∷ [])) (or_left (vm == vm) false (eq-eqb vm vm refl))

abbrev pub Any : Option Asked → Type 0
Any a = Unit {0}

pub sound_rest : (plan : Plan) (Spared : ℕ → Type 0) (h : Contexts) → IsRest (Filtered h) (SameHub h) (λ vm. Unit {0}) (Sounds plan Spared h)
sound_rest plan Spared h = record {
  beside = λ room lines hub same r. record {
    drawn = r.drawn;
    of_jobs = r.of_jobs;
    of_waits = r.of_waits;
    ordered = r.ordered;
    begun = beside_begun room lines same r.begun;
    no_line = λ p vm has. same ∙ r.no_line p vm has;
    each = r.each;
  };
  died = λ vm room dead r. record {
    drawn = r.drawn;
    of_jobs = r.of_jobs;
    of_waits = r.of_waits;
    ordered = r.ordered;
    begun = r.begun;
    no_line = r.no_line;
    each = λ begun p e at. dies_on vm room p e (r.each begun p e at);
  };
  under_way = λ calls room r. record { drawn = r.drawn; of_jobs = r.of_jobs; of_waits = r.of_waits; ordered = r.ordered; begun = r.begun; no_line = r.no_line; each = r.each };
}
  where
    beside_begun : (room : Room) (lines : List Line) → numbers lines ≡ numbers room.lines → (room.is_begun ≡ true) ⊎ ((todo room ≡ []) × (numbers room.lines ≡ []) × (room.waits ≡ []))
        → (room.is_begun ≡ true) ⊎ ((todo room ≡ []) × (numbers lines ≡ []) × (room.waits ≡ []))
    beside_begun room lines same (inl begun) = inl begun
    beside_begun room lines same (inr none) = inr (none.0, same ∙ none.1, none.2)

    dies_on : (vm : ℕ) (room : Room) (p : ℕ) (e : PluginEntry) → Spared p ⊎ ((is_dead e.vm room ≡ true) ⊎ (RootStands h p e.vm ⊎ HasRoot p e.vm (todo room)))
        → Spared p ⊎ ((list_any (λ (d : ℕ). d == e.vm) (room.dead ++ vm ∷ []) ≡ true) ⊎ (RootStands h p e.vm ⊎ HasRoot p e.vm (todo room)))
    dies_on vm room p e (inl spared) = inl spared
    dies_on vm room p e (inr (inl dead)) = inr (inl (still_dead vm e.vm room.dead dead))
    dies_on vm room p e (inr (inr more)) = inr (inr more)

pub sound_apart : (h : Contexts) → IsApart (Filtered h) (SameHub h)
sound_apart h = record {
  hub = λ hub k same is. same_then h hub.contexts k is same;
  sent = λ hub more none is. is;
  called = λ hub id wire is. is;
  aside = λ n x y a is. subst (OfFilters h) (sym a.filters) is;
  shut = λ n x y s is. subst (OfFilters h) (sym s.filters) is;
}

-- the chain of the request is no matter of filters
module _ (h : Contexts) where
  abbrev G : ℕ → Exchange → Hub → Type 0
  G = Joint (Filtered h) (SameHub h)

  abbrev closed : IsClosed G
  closed = apart_closed (Filtered h) (SameHub h) (sound_apart h)

  one_up : (n : ℕ) (item : ChainItem) (x : Exchange) (hub : Hub) → G n x hub → InBoth G n (send_request_item n item x hub)
  one_up n (Head end) x hub is = is
  one_up n (Piece bytes end) x hub is = is
  one_up n Trailers x hub is = is

  leaves_up : (n : ℕ) (item : ChainItem) (xh : Exchange × Hub) → InBoth G n xh → InBoth G n (send_item false n item xh)
  leaves_up n item (x, hub) is = pick (InBoth G n) x.has_ended (x, hub) (send_request_item n item x hub) is (one_up n item x hub is)

  left_up : (n : ℕ) (items : List ChainItem) (xh : Exchange × Hub) → InBoth G n xh → InBoth G n (send_items false n items xh)
  left_up n [] xh is = is
  left_up n (item ∷ items) xh is = left_up n items (send_item false n item xh) (leaves_up n item xh is)

  passed_up : (n : ℕ) (p : PassOutcome) (x : Exchange) (hub : Hub) → G n x hub → InBoth G n (finish_put false n p x hub)
  passed_up n passed.Over x hub is = in_answer G closed n true 413 [] [] x hub is
  passed_up n (passed.Left items) x hub is = left_up n items (x, hub) is

  moved_up : (n : ℕ) (x : Exchange) (hub : Hub) (r : PassOutcome × List Stage × Contexts) → SameThird hub.contexts r → G n x hub → InBoth G n (take_move false n x hub r)
  moved_up n x hub (p, stages, held) same is = passed_up n p (record x { request = stages }) (with_held held hub) (is.0, same_then h hub.contexts held is.1 same)

  put_up : (n : ℕ) (item : ChainItem) (xh : Exchange × Hub) → InBoth G n xh → InBoth G n (put_to_chain false n item xh)
  put_up n item (x, hub) is =
      pick (InBoth G n) (takes_nothing false x) (x, hub) (take_put false n x hub (put_item hub.contexts item x.request)) is (went (put_item hub.contexts item x.request))
    where
      went : (r : PassOutcome × List Stage) → InBoth G n (take_put false n x hub r)
      went (p, stages) = passed_up n p (record x { request = stages }) hub is

  put_all_up : (n : ℕ) (items : List ChainItem) (xh : Exchange × Hub) → InBoth G n xh → InBoth G n (put_all_to_chain false n items xh)
  put_all_up n [] xh is = is
  put_all_up n (item ∷ items) xh is = put_all_up n items (put_to_chain false n item xh) (put_up n item xh is)

  asks_up : (n : ℕ) (a : Asking) (x : Exchange) (hub : Hub) → G n x hub → InThird G n (asks_as false n a x hub)
  asks_up n Nothing x hub is = is
  asks_up n (Over k) x hub is = as_marked (finish_put false n passed.Over x hub) (passed_up n passed.Over x hub is)
    where
      as_marked : (xh : Exchange × Hub) → InBoth G n xh → InThird G n (with_none (with_marks xh))
      as_marked (y, after) ok = closed.hub n y after (mark y.is_answered y.has_ended y.is_head_out y.place after.contexts)
          (same_view (marked y.is_answered y.has_ended y.is_head_out) y.place (view_at after.contexts.exchanges y.place) after.contexts) ok
  asks_up n (Asks ask) x hub is = is

  chain_asks : (n : ℕ) (x : Exchange) (hub : Hub) (r : Asking × List Stage × Contexts) → SameThird hub.contexts r → G n x hub → InThird G n (asks_chain false n x hub r)
  chain_asks n x hub (a, stages, k) same is = asks_up n a (record x { request = stages }) (with_held k hub) (is.0, same_then h hub.contexts k is.1 same)

  pub sound_moved : IsMoved (λ vm. Unit {0}) Any G
  sound_moved = record {
    continues = λ n k x hub runs is. moved_up n x hub (continued hub.contexts k x.request) (same_continued hub.contexts k x.request (slice_get x.request k)) is;
    dies = λ vm n x hub dead runs opens is.
        lets_vm G vm (λ n k s x hub at of runs is. moved_up n x hub (let_through hub.contexts k x.request) (same_let_through hub.contexts k x.request (slice_get x.request k)) is) (lets_response G closed vm) n x hub is;
    asks = λ n x hub any is. chain_asks n x hub (asked hub.contexts x.request) (same_asked hub.contexts x.request (ready x.request)) is;
  }

  pub puts_up : (items : List ChainItem) (n : ℕ) (x : Exchange) (hub : Hub) → G n x hub → InBoth G n (with_marks (put_read_items false items n x hub))
  puts_up items n x hub is =
      in_marking (λ vm. Unit {0}) Any G closed sound_moved n (put_read_items false items n x hub)
      (pick (InBoth G n) x.is_answered (x, hub) (put_all_to_chain false n items (x, hub)) is (put_all_up n items (x, hub) is))

sound_but_calm : (plan : Plan) (Spared : ℕ → Type 0) (h : Contexts) → IsCalm (SoundBut plan Spared h)
sound_but_calm plan Spared h = holds_calm (Filtered h) (SameHub h) (Sounds plan Spared h) Any (sound_apart h) (sound_rest plan Spared h) (sound_moved h)

pub sound_calm : (plan : Plan) (Spared : ℕ → Type 0) → IsCalm (IsSound plan Spared)
sound_calm plan Spared = record {
  number = λ change n room op s. record { contexts = s.contexts; holds = (sound_but_calm plan Spared s.contexts).number change n room op s.holds };
  context = λ change vm context room op s. record { contexts = s.contexts; holds = (sound_but_calm plan Spared s.contexts).context change vm context room op s.holds };
  all = λ change room op s. record { contexts = s.contexts; holds = (sound_but_calm plan Spared s.contexts).all change room op s.holds };
  dies = λ vm death room s. record { contexts = s.contexts; holds = (sound_but_calm plan Spared s.contexts).dies vm death room s.holds };
  hub = λ room h same s. record { contexts = s.contexts; holds = (sound_but_calm plan Spared s.contexts).hub room h same s.holds };
  sent = λ room more none s. record { contexts = s.contexts; holds = (sound_but_calm plan Spared s.contexts).sent room more none s.holds };
  begins = λ q room s. record { contexts = s.contexts; holds = (sound_but_calm plan Spared s.contexts).begins q room s.holds };
  under_way = λ calls room s. record { contexts = s.contexts; holds = (sound_but_calm plan Spared s.contexts).under_way calls room s.holds };
}
