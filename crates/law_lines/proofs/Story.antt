-- What is known of the line of a number between two steps.
use Rattle.std.proofs.Common.{◌≡◌, ◌⊎◌, inl, inr, ℕ, ◌==◌, Bool, true, false, not, ◌&&◌, List, [], ◌∷◌, ◌++◌, map, refl, ap, ◌∙◌, sym, subst}
use Rattle.std.proofs.lemmas.Grind.{flat_map-append}
use Rattle.std.proofs.lemmas.List.{append-nil, append_assoc}
use Rattle.std.specs.List.{flat_map}
use Rattle.std.specs.Prelude.{Option, None, Some, is_some, find, if◌then◌else◌}
use Rattle.contexts.specs.declared.parts.Contexts.{Contexts}
use Rattle.exchange.specs.declared.types.Exchange.{Exchange}
use Rattle.exchange.specs.declared.types.Hub.{Hub}
use Rattle.exchange.specs.declared.types.Request.{Request}
use Rattle.exchange.specs.Leaving.{request_framing}
use Rattle.exchange.specs.Maps.{request_map}
use Rattle.law_exchange.specs.Laws.{IsQuiet}
use Rattle.law_exchange.specs.Lives.{Deed, done_by, is_over}
use Rattle.law_exchange.specs.Responses.{IsMessage}
use Rattle.law_exchange.specs.Traffic.{Traffic, up_traffic, IsFront}
use Rattle.law_exchange.proofs.Lives.{nothing_else}
use Rattle.law_exchange.proofs.Traffic.{ups_join}
use Rattle.filter_chain.specs.declared.item.ChainItem.{ChainItem}
use Rattle.gate_io.specs.declared.event.Sent.{Sent}
use Rattle.header_maps.specs.Headers.{Headers}
use Rattle.h1_model.specs.Head.{Head}
use Rattle.h1_model.specs.Messages.{Due, head}
use Rattle.worker_model.specs.Room.{Room}
use Rattle.worker_model.specs.declared.types.Job.{Job}
use Rattle.worker_model.specs.declared.types.Job.TheVariants as jobs
use Rattle.worker_model.specs.declared.types.Line.{Line}
use Rattle.worker_model.specs.declared.types.ReadBatch.{ReadBatch}
use Rattle.worker_model.specs.Plan.{Plan}
use Rattle.worker_model.specs.Rooms as rooms
use Rattle.worker_model.specs.Rooms.{has_move}
use Rattle.worker_model.specs.Steps.{begins_with_head}
use Rattle.law_lines.specs.Living.{requests_in, request_in, LivesBy}
pub use Rattle.law_lines.specs.Requests.{is_whole}
use Rattle.law_lines.specs.Requests.{IsBegun, Began, OneByOne, AreOf, IsAskedAs}
use Rattle.law_lines.proofs.Earlier.{behind}
use Rattle.law_lines.proofs.Finding.{IsOnce}
use Rattle.law_lines.proofs.Hearing.{HeardIn, Listens}
use Rattle.law_lines.proofs.Kept.{Staid, over_told}
use Rattle.law_lines.proofs.Lives.{behind_deed, lives_behind, requests_behind, came_of, came_join, none_came, none_of, none_left}
use Rattle.law_lines.proofs.Looks.{is_n, look, IsPlain, LivesOn, lives_join}
use Rattle.law_lines.proofs.Phases.{run, fresh as fresh_phase}
use Rattle.law_lines.proofs.Reader.{InBody}
use Rattle.law_lines.proofs.Rooms.{AllParts}
use Rattle.law_lines.proofs.Upward.{Up, Onward, Keeps}

-- ---- jobs

-- what is put into the chain of the line's request
abbrev pub put_of : ℕ → Job → List ChainItem
put_of n (jobs.Put m false items) = if m == n then items else []
put_of n job = []

abbrev pub puts_of : ℕ → List Job → List ChainItem
puts_of n js = flat_map (put_of n) js

-- the line is to be closed after its exchange
abbrev pub HasClose : ℕ → List Job → Type 0
HasClose n [] = ⊥
HasClose n (jobs.Close m false ∷ later) = ((m == n) ≡ true) ⊎ HasClose n later
HasClose n (job ∷ later) = HasClose n later

-- nothing is to be done after an exchange of the line
abbrev pub NoClose : ℕ → List Job → Type 0
NoClose n [] = Unit {0}
NoClose n (jobs.Close m stays ∷ later) = ((m == n) ≡ false) × NoClose n later
NoClose n (job ∷ later) = NoClose n later

-- an event, and what comes after an exchange, come last
abbrev pub Tail : List Job → Type 0
Tail [] = Unit {0}
Tail (jobs.Happen w ∷ later) = ⊥
Tail (jobs.Close m stays ∷ later) = later ≡ []
Tail (job ∷ later) = Tail later

abbrev pub Stands : List Job → Type 0
Stands [] = Unit {0}
Stands (jobs.Happen w ∷ later) = later ≡ []
Stands (job ∷ later) = Tail (job ∷ later)

-- no chain moves
abbrev pub Rests : List Line → Type 0
Rests lines = find has_move lines ≡ None

-- where an event is in hand, no exchange has ended, and no chain moves
abbrev pub Phase : List Line → List Job → Type 0
Phase lines [] = Unit {0}
Phase lines (jobs.Happen w ∷ later) = (find rooms.is_over lines ≡ None) × Rests lines
Phase lines (job ∷ later) = Unit {0}

-- the head of a request of the line is on its way to the chain
abbrev pub IsFreshJobs : ℕ → List Job → Type 0
IsFreshJobs n (jobs.Enter m ∷ jobs.Put k false items ∷ later) = ((m == n) ≡ true) × ((k == n) ≡ true) × (begins_with_head items ≡ true)
IsFreshJobs n (jobs.Put k false items ∷ later) = ((k == n) ≡ true) × (begins_with_head items ≡ true)
IsFreshJobs n js = ⊥

abbrev pub IsFresh : ℕ → Option ReadBatch → List Job → Type 0
IsFresh n None js = IsFreshJobs n js
IsFresh n (Some r) js = ((r.line == n) ≡ true) × (r.up ≡ false)

-- the request of the line is refused before anything of it comes to the chain
abbrev pub IsRefusing : ℕ → List Job → Type 0
IsRefusing n [] = ⊥
IsRefusing n (jobs.Refuse m status ∷ later) = ((m == n) ≡ true) ⊎ IsRefusing n later
IsRefusing n (job ∷ later) = IsRefusing n later

-- stages of the line's exchange are not made any more; or once at most
abbrev pub NoEnter : ℕ → List Job → Type 0
NoEnter n [] = Unit {0}
NoEnter n (jobs.Enter m ∷ later) = ((m == n) ≡ false) × NoEnter n later
NoEnter n (job ∷ later) = NoEnter n later

abbrev pub OneEnter : ℕ → List Job → Type 0
OneEnter n [] = Unit {0}
OneEnter n (jobs.Enter m ∷ later) = ((m == n) ≡ true → NoEnter n later) × OneEnter n later
OneEnter n (job ∷ later) = OneEnter n later

-- ---- items that were read, and have not come to the chain

abbrev pub batch_of : ℕ → Option ReadBatch → List ChainItem
batch_of n None = []
batch_of n (Some r) = if (r.line == n) && not r.up then r.batch else []

abbrev pub pending : ℕ → Option ReadBatch → List Job → List ChainItem
pending n reading js = puts_of n js ++ batch_of n reading

abbrev pub Proper : List ChainItem → Bool → Type 0
Proper items whole = (begins_with_head items ≡ true) × IsMessage items × (is_whole items ≡ whole)

-- what is due in the text of a line with an exchange whose request was read whole, or was not
abbrev pub Matches : Bool → Due → Type 0
Matches true due = due ≡ head
Matches false due = InBody due

-- where a request is being read, more of it is due, and it was neither answered nor has ended
abbrev pub ReadsOk : ℕ → Option ReadBatch → Exchange → Type 0
ReadsOk n None x = Unit {0}
ReadsOk n (Some r) x = (r.line == n) ≡ true → r.up ≡ false → (x.asked.whole ≡ false) × (is_over x ≡ false)

-- ---- what an exchange sent up, whatever filters it has

-- the request: it comes on, or nothing of it comes any more
pub data Flow (n : ℕ) (reading : Option ReadBatch) (js : List Job) (x : Exchange) (got heard : List ChainItem) : Type 0 where
  flows : Proper (got ++ pending n reading js) x.asked.whole → got ++ pending n reading js ≡ heard → Flow n reading js x got heard
  ceases : IsMessage got → pending n reading js ≡ [] → (is_over x ≡ true) ⊎ IsRefusing n js → IsFront got heard → Flow n reading js x got heard

-- stages are made once, before anything of the request comes to them
pub record Enters (n : ℕ) (reading : Option ReadBatch) (js : List Job) (x : Exchange) : Type 0 where
  pub once : OneEnter n js
  pub none : x.is_entered ≡ true → NoEnter n js
  pub first : begins_with_head (batch_of n reading) ≡ true → x.is_entered ≡ false

pub asked_on : (x y first : Exchange) → y.asked ≡ x.asked → IsAskedAs x first → IsAskedAs y first
asked_on x y first same is = subst (λ (q : Request). q ≡ record first.asked { whole = q.whole }) (sym same) is

-- after what was sent before it began, of an exchange that was the first when it began
pub record Passage (n : ℕ) (past : List Sent) (reading : Option ReadBatch) (js : List Job) (lines : List Line) (x : Exchange) (hub : Hub) (h : Head) (first : Exchange) (base : List Traffic) (got : List ChainItem) : Type 0 where
  pub went : List Traffic
  pub adds : up_traffic n (past ++ hub.sent) ≡ base ++ went
  pub heard : List ChainItem
  pub was : HeardIn n lines h heard
  pub up : Up x [] went (run fresh_phase got)
  pub place : x.place ≡ first.place
  pub asked : IsAskedAs x first
  pub minor : x.asked.minor ≡ h.minor
  pub framed : request_framing x ≡ request_framing first
  pub flow : Flow n reading js x got heard
  pub enters : Enters n reading js x

-- what is in hand and what is read, where that is the same for the line
pub record Alike (n : ℕ) (reading : Option ReadBatch) (js : List Job) (now : Option ReadBatch) (ks : List Job) : Type 0 where
  pub pend : pending n now ks ≡ pending n reading js
  pub refusing : IsRefusing n js → IsRefusing n ks
  pub none : NoEnter n js → NoEnter n ks
  pub once : OneEnter n js → OneEnter n ks
  pub first : begins_with_head (batch_of n now) ≡ true → begins_with_head (batch_of n reading) ≡ true

pub alike_itself : (n : ℕ) (reading : Option ReadBatch) (js : List Job) → Alike n reading js reading js
alike_itself n reading js = record { pend = refl; refusing = λ e. e; none = λ e. e; once = λ e. e; first = λ e. e }

-- it becomes the other
pub record Becomes (n : ℕ) (x : Exchange) (hub : Hub) (y : Exchange) (after : Hub) : Type 0 where
  pub asked : y.asked ≡ x.asked
  pub place : y.place ≡ x.place
  pub entered : y.is_entered ≡ x.is_entered
  pub framed : request_framing y ≡ request_framing x
  pub over : is_over x ≡ true → is_over y ≡ true
  pub keeps : Keeps n (x, hub) (y, after)

-- what goes up is counted after what was sent before
pub grows_past : (n : ℕ) (past : List Sent) (hub after : Hub) (base went more : List Traffic) → up_traffic n after.sent ≡ up_traffic n hub.sent ++ more → up_traffic n (past ++ hub.sent) ≡ base ++ went → up_traffic n (past ++ after.sent) ≡ base ++ (went ++ more)
grows_past n past hub after base went more grows adds =
    ups_join n past after.sent
    ∙ (ap (λ t. up_traffic n past ++ t) grows ∙ (sym (append_assoc (up_traffic n past) (up_traffic n hub.sent) more) ∙ (ap (λ t. t ++ more) (sym (ups_join n past hub.sent) ∙ adds) ∙ append_assoc base went more)))

pub passage_on : (n : ℕ) (past : List Sent) (reading now : Option ReadBatch) (js ks : List Job) (lines later : List Line) (x y : Exchange) (hub after : Hub) (h : Head) (first : Exchange) (base : List Traffic) (got : List ChainItem) → Alike n reading js now ks → Listens n lines later
    → Becomes n x hub y after → Passage n past reading js lines x hub h first base got → Passage n past now ks later y after h first base got
passage_on n past reading now js ks lines later x y hub after h first base got a listens b p =
    let o : Onward n hub (y, after) p.went (run fresh_phase got) = b.keeps p.went (run fresh_phase got) p.up in
    record {
      went = p.went ++ o.more;
      adds = grows_past n past hub after base p.went o.more o.grows p.adds;
      heard = p.heard;
      was = listens h p.heard p.was;
      up = o.goes;
      place = b.place ∙ p.place;
      asked = asked_on x y first b.asked p.asked;
      minor = ap (λ q. q.minor) b.asked ∙ p.minor;
      framed = b.framed ∙ p.framed;
      flow = by_flow p.flow;
      enters = record { once = a.once p.enters.once; none = λ e. a.none (p.enters.none (sym b.entered ∙ e)); first = λ e. b.entered ∙ p.enters.first (a.first e) };
    }
  where
    by_flow : Flow n reading js x got p.heard → Flow n now ks y got p.heard
    by_flow (flows proper same) =
        flows (subst (λ l. Proper (got ++ l) y.asked.whole) (sym a.pend) (subst (λ w. Proper (got ++ pending n reading js) w) (sym (ap (λ q. q.whole) b.asked)) proper)) (ap (λ l. got ++ l) a.pend ∙ same)
    by_flow (ceases message none (inl over) front) = ceases message (a.pend ∙ none) (inl (b.over over)) front
    by_flow (ceases message none (inr is) front) = ceases message (a.pend ∙ none) (inr (a.refusing is)) front

-- ---- the request of an exchange without filters: its head is on its way, with the map of the head; or has come; or nothing of it comes any more
pub data Stream (n : ℕ) (reading : Option ReadBatch) (js : List Job) (lines : List Line) (x : Exchange) (contexts : Contexts) (fields : Headers) (got : List ChainItem) : Type 0 where
  fresh : got ≡ [] → IsFresh n reading js → Rests lines → request_map x.place contexts ≡ fields → Proper (pending n reading js) x.asked.whole
      → Stream n reading js lines x contexts fields got
  going : begins_with_head got ≡ true → Proper (got ++ pending n reading js) x.asked.whole → Stream n reading js lines x contexts fields got
  doomed : IsMessage got → pending n reading js ≡ [] → (is_over x ≡ true) ⊎ IsRefusing n js → Stream n reading js lines x contexts fields got

pub record Story (plan : Plan) (n : ℕ) (past : List Sent) (reading : Option ReadBatch) (js : List Job) (lines : List Line) (x : Exchange) (hub : Hub) : Type 0 where
  pub plain : IsPlain x
  pub head : Head
  pub start : Exchange
  pub start_hub : Hub
  pub began : Began plan head start start_hub
  pub before : OneByOne plan (up_traffic n start_hub.sent)
  pub deeds : List Deed
  pub lives : LivesBy false n start start_hub deeds x (behind past hub)
  pub came : AreOf head (requests_in deeds) (came_of n start start_hub deeds)
  pub minor : x.asked.minor ≡ head.minor
  -- it opened a connection, or sent nothing up
  pub opened : (is_some x.reader ≡ true) ⊎ ((up_traffic n (past ++ hub.sent) ≡ up_traffic n start_hub.sent) × ((requests_in deeds ≡ []) ⊎ (is_over x ≡ true)))
  pub passage : Passage n past reading js lines x hub head start (up_traffic n start_hub.sent) (requests_in deeds)
  pub stream : Stream n reading js lines x hub.contexts head.fields (requests_in deeds)

-- of an exchange with filters
pub record Other (plan : Plan) (n : ℕ) (past : List Sent) (reading : Option ReadBatch) (js : List Job) (lines : List Line) (x : Exchange) (hub : Hub) : Type 0 where
  pub filters : x.filters ≡ [] → ⊥
  pub head : Head
  pub start : Exchange
  pub begun : IsBegun plan head start
  pub some : start.filters ≡ [] → ⊥
  pub base : List Traffic
  pub before : OneByOne plan base
  pub got : List ChainItem
  pub passage : Passage n past reading js lines x hub head start base got

pub data Tale (plan : Plan) (n : ℕ) (past : List Sent) (reading : Option ReadBatch) (js : List Job) (lines : List Line) (x : Exchange) (hub : Hub) : Type 0 where
  plainly : Story plan n past reading js lines x hub → Tale plan n past reading js lines x hub
  filtered : Other plan n past reading js lines x hub → Tale plan n past reading js lines x hub

-- ---- the line

abbrev pub Idle : Plan → ℕ → List Sent → Hub → Type 0
Idle plan n past hub = OneByOne plan (up_traffic n (past ++ hub.sent))

pub record Busy (plan : Plan) (n : ℕ) (past : List Sent) (reading : Option ReadBatch) (js : List Job) (lines : List Line) (due : Due) (x : Exchange) (hub : Hub) : Type 0 where
  pub staid : Staid x
  pub matches : Matches x.asked.whole due
  pub unclosed : NoClose n js
  pub reads : ReadsOk n reading x
  pub tale : Tale plan n past reading js lines x hub

pub record Free (plan : Plan) (n : ℕ) (past : List Sent) (reading : Option ReadBatch) (js : List Job) (due : Due) (hub : Hub) : Type 0 where
  pub none : pending n reading js ≡ []
  pub due_or : (due ≡ head) ⊎ HasClose n js
  pub idle : Idle plan n past hub

abbrev pub ExOk : Plan → ℕ → List Sent → Option ReadBatch → List Job → List Line → Due → Option Exchange → Hub → Type 0
ExOk plan n past reading js lines due None hub = Free plan n past reading js due hub
ExOk plan n past reading js lines due (Some x) hub = Busy plan n past reading js lines due x hub

abbrev pub LineOk : Plan → ℕ → List Sent → Option ReadBatch → List Job → List Line → Option Line → Hub → Type 0
LineOk plan n past reading js lines None hub = (pending n reading js ≡ []) × Idle plan n past hub
LineOk plan n past reading js lines (Some l) hub = (l.requests.asked ≡ None) × ExOk plan n past reading js lines l.requests.due l.exchange hub

-- WHAT IS KNOWN OF A ROOM, of the line of a number, where this was sent in earlier turns
pub record Known (plan : Plan) (n : ℕ) (past : List Sent) (room : Room) : Type 0 where
  pub once : IsOnce (is_n n) room.lines
  pub parts : AllParts room.agenda
  pub stands : Stands room.jobs
  pub alone : (r : ReadBatch) → room.reading ≡ Some r → (room.jobs ≡ []) × Rests room.lines
  pub phase : Phase room.lines room.jobs
  pub line : LineOk plan n past room.reading room.jobs room.lines (look n room.lines) room.hub

-- ---- it lives on without an item of the request

pub record LivesUp (n : ℕ) (x : Exchange) (hub : Hub) (y : Exchange) (after : Hub) : Type 0 where
  pub deeds : List Deed
  pub plain : IsPlain y
  pub lives : LivesBy false n x hub deeds y after
  pub no_request : requests_in deeds ≡ []
  pub over : is_over x ≡ true → is_over y ≡ true
  pub opened : is_some x.reader ≡ true → is_some y.reader ≡ true

pub lives_up : (n : ℕ) (x y : Exchange) (hub after : Hub) → LivesOn n x hub y after → LivesUp n x hub y after
lives_up n x y hub after l = record { deeds = l.deeds; plain = l.plain; lives = l.lives false; no_request = l.no_request; over = over_told x y l.told; opened = l.opened }

quiet_ups : (n : ℕ) (deeds : List Deed) (x y : Exchange) (hub after : Hub) → x.request ≡ [] → LivesBy false n x hub deeds y after → requests_in deeds ≡ [] → up_traffic n after.sent ≡ up_traffic n hub.sent
quiet_ups n [] x y hub after none lives is = ap (λ (k : Hub). up_traffic n k.sent) lives.1
quiet_ups n (d ∷ deeds) x y hub after none lives is =
    let both = none_left (request_in d) (requests_in deeds) is in
    let q : IsQuiet n x hub (done_by n d x hub).0 (done_by n d x hub).1 = nothing_else n d x hub none lives.0.0 (none_of d x hub both.0) in
    quiet_ups n deeds (done_by n d x hub).0 y (done_by n d x hub).1 after q.kin.unfiltered lives.1 both.1 ∙ q.sends

pub story_on : (plan : Plan) (n : ℕ) (past : List Sent) (reading now : Option ReadBatch) (js ks : List Job) (lines later : List Line) (x y : Exchange) (hub after : Hub)
    → (s : Story plan n past reading js lines x hub) → LivesUp n x hub y after → y.asked.minor ≡ x.asked.minor → Passage n past now ks later y after s.head s.start (up_traffic n s.start_hub.sent) (requests_in s.deeds)
    → Stream n now ks later y after.contexts s.head.fields (requests_in s.deeds) → Story plan n past now ks later y after
story_on plan n past reading now js ks lines later x y hub after s l minor passage stream =
    let more : List Deed = map (behind_deed past) l.deeds in
    let lives_more : LivesBy false n x (behind past hub) more y (behind past after) = lives_behind past n l.deeds x y hub after l.lives in
    let none : requests_in more ≡ [] = requests_behind past l.deeds ∙ l.no_request in
    let all_got : requests_in (s.deeds ++ more) ≡ requests_in s.deeds
    = flat_map-append request_in s.deeds more ∙ (ap (λ t. requests_in s.deeds ++ t) none ∙ append-nil (requests_in s.deeds)) in
    let all_came : came_of n s.start s.start_hub (s.deeds ++ more) ≡ came_of n s.start s.start_hub s.deeds
    = came_join n s.deeds more s.start x s.start_hub (behind past hub) s.lives
    ∙ (ap (λ t. came_of n s.start s.start_hub s.deeds ++ t) (none_came n more x (behind past hub) none) ∙ append-nil (came_of n s.start s.start_hub s.deeds)) in
    record {
      plain = l.plain;
      head = s.head;
      start = s.start;
      start_hub = s.start_hub;
      began = s.began;
      before = s.before;
      deeds = s.deeds ++ more;
      lives = lives_join false n s.deeds more s.start x y s.start_hub (behind past hub) (behind past after) s.lives lives_more;
      came = same_came all_got all_came s.came;
      minor = minor ∙ s.minor;
      passage = subst (Passage n past now ks later y after s.head s.start (up_traffic n s.start_hub.sent)) (sym all_got) passage;
      opened = by_opened (quiet_ups n more x y (behind past hub) (behind past after) s.plain.1 lives_more none) all_got s.opened;
      stream = subst (Stream n now ks later y after.contexts s.head.fields) (sym all_got) stream;
    }
  where
    same_came : {a b : List ChainItem} {c d : _} → a ≡ b → c ≡ d → AreOf s.head b d → AreOf s.head a c
    same_came {a} {b} {c} {d} p q are = subst (λ l. AreOf s.head l c) (sym p) (subst (λ l. AreOf s.head b l) (sym q) are)

    by_opened : {got : List ChainItem} → up_traffic n (past ++ after.sent) ≡ up_traffic n (past ++ hub.sent) → got ≡ requests_in s.deeds
        → (is_some x.reader ≡ true) ⊎ ((up_traffic n (past ++ hub.sent) ≡ up_traffic n s.start_hub.sent) × ((requests_in s.deeds ≡ []) ⊎ (is_over x ≡ true)))
        → (is_some y.reader ≡ true) ⊎ ((up_traffic n (past ++ after.sent) ≡ up_traffic n s.start_hub.sent) × ((got ≡ []) ⊎ (is_over y ≡ true)))
    by_opened same got (inl o) = inl (l.opened o)
    by_opened same got (inr (o, inl none)) = inr (same ∙ o, inl (got ∙ none))
    by_opened same got (inr (o, inr over)) = inr (same ∙ o, inr (l.over over))
