-- What is known of the exchange on a line stays, step by step, once its stages are made: whatever that is, where what is done to one exchange keeps it.
use Rattle.std.proofs.Common.{◌≡◌, ◌⊎◌, refl, ℕ, zero, suc, ◌==◌, Bool, true, false, not, ◌||◌, ◌&&◌, List, [], ◌∷◌, ◌++◌, length, ap, ◌∙◌, sym, subst, ⊎_elim, append_assoc, ne_eqb, eq-eqb}
use Rattle.std.proofs.lemmas.Bool.{cases_eq, eqb-true}
use Rattle.std.specs.Prelude.{slice_get, slice_set, nat_lt, if◌then◌else◌, Option, None, Some, is_some, remove, insert}
use Rattle.contexts.specs.Creating.{next_id, plugin_in, await_done_of, delete_id, root_created}
use Rattle.callouts.specs.Callouts.{is_call_line, line_of}
use Rattle.contexts.specs.Reached.{contains, seen}
use Rattle.contexts.specs.declared.parts.Contexts.{Contexts}
use Rattle.contexts.specs.declared.parts.Request.{Request}
use Rattle.exchange.specs.declared.types.Exchange.{Exchange}
use Rattle.exchange.specs.declared.types.Filter.{Filter}
use Rattle.exchange.specs.declared.types.Hub.{Hub}
use Rattle.exchange.specs.Answering.{with_held}
use Rattle.exchange.specs.Heads.{path_of, route_in, sent_head, up_tail, with_connection}
use Rattle.exchange.specs.Leaving.{bytes_sent_to as sending_to, hub_with_sent, request_framing, send_item, send_items, send_request_item}
use Rattle.exchange.specs.Maps.{put_response, request_map, request_trailers, with_fields}
use Rattle.exchange.specs.Passing as passing
use Rattle.exchange.specs.Passing.{bypass_vm, fails_closed, finish_put, put_all_to_chain, put_read_items, put_to_chain, take_move, take_put, takes_nothing}
use Rattle.filter_chain.specs.Chains.{asked, continued, let_through, put as put_item}
use Rattle.filter_chain.specs.declared.item.Asking.{Asking}
use Rattle.filter_chain.specs.declared.item.Asking.TheVariants.{Nothing, Over, Asks}
use Rattle.filter_chain.specs.declared.item.ChainItem.{ChainItem}
use Rattle.filter_chain.specs.declared.item.ChainItem.TheVariants as items
use Rattle.filter_chain.specs.declared.item.PassOutcome.{PassOutcome}
use Rattle.filter_chain.specs.declared.item.PassOutcome.TheVariants as passed
use Rattle.filter_chain.specs.declared.stage.Stage.{Stage}
use Rattle.filter_host.specs.Heard.{Heard, Hears, hands, halts}
use Rattle.filter_host.specs.declared.host.Death.{Death}
use Rattle.filter_host.specs.declared.host.Death.TheVariants as deaths
use Rattle.gate_io.specs.declared.event.Sent.{Sent}
use Rattle.gate_io.specs.declared.event.Sent.TheVariants as to
use Rattle.gate_io.specs.declared.event.Side.TheVariants.{Down, Up}
use Rattle.gate_io.specs.declared.event.What.{What}
use Rattle.gate_io.specs.declared.event.What.TheVariants as whats
use Rattle.h1_model.specs.Framing.{head_wire, piece_wire, trailer_wire}
use Rattle.h1_model.specs.Head.{Head}
use Rattle.h1_model.specs.Messages.{Stop, rest, over, refusal}
use Rattle.h1_model.specs.Unread.{Part, head_part, interim_part, piece, trailer_part, Reading}
use Rattle.header_maps.specs.Operations.{no_headers}
use Rattle.law_lines.proofs.Callouts.{call_line_is}
use Rattle.law_lines.proofs.Rooms.{AllParts}
use Rattle.law_lines.proofs.Stepping.{found_passes}
use Rattle.worker_model.specs.Calls.{call_job}
use Rattle.worker_model.specs.Moves.{asks_as, asks_at, asks_back, asks_chain, asks_exchange, asks_in, ended_at, ended_back, ended_in}
use Rattle.worker_model.specs.Plan.{Plan}
use Rattle.worker_model.specs.Room.{Room}
use Rattle.worker_model.specs.Rooms.{Changes, is_dead, with_contexts, with_marks, in_exchange, at_some, put_back, room_with_sent, with_lines, all_lines, begin_call, on_number, at_place, on_context, place_in, lose_vm_in}
use Rattle.worker_model.specs.Steps.{with_jobs_first, is_zero, has_vm, await_done, last_jobs, finish_context, delete_context, is_drawn_out, may_root, may_stream, root_jobs, create_root, with_filter, change_exchange, change_line, line_at, line_at_place, line_in, exchange_of_line, exchange_on, with_stream, create_stream, create_filter, create_context, filter_at, enter_stages, exchange_for, with_exchange, free_place, begin_exchange_on, line_reading, reading_on, with_reader, read_on, is_last, with_read_mark, on_lines, create_jobs, begins_with_head, refuse_jobs, put_jobs, exchange_jobs, begin_jobs_for, jobs_of, end_reading, with_item, take_read_item, with_response_head, in_contexts, head_item, interim_of, put_trailers, take_part, end_of_read, after_heard, without_place, drop_line, close_line, read_side, end_line, fixed_answer, refusal_sent, refuse_in, refuse_line, most_lines, new_line, place_for, accept_line, with_further, side_with_more, is_open, is_answered_in, is_read_in, receive_on, exchange_without_client, line_without_client, lose_client, is_missed, lose_server, take_event, done_jobs, close_up, end_with}
use Rattle.worker_model.specs.declared.types.Asked.{Asked}
use Rattle.worker_model.specs.declared.types.ContextAt.{ContextAt}
use Rattle.worker_model.specs.declared.types.Job.{Job}
use Rattle.worker_model.specs.declared.types.Job.TheVariants as jobs
use Rattle.worker_model.specs.declared.types.Line.{Line}
use Rattle.worker_model.specs.declared.types.NewContext.{NewContext}
use Rattle.worker_model.specs.declared.types.ReadBatch.{ReadBatch}
use Rattle.law_filters.proofs.Doing.{NoConnects, IsAside, IsShut, IsClosed, IsMoved, InBoth, InThird, in_answer, in_asks, in_marking, lets_vm, lets_response, bytes_connect_none, by_ended, never}
use Rattle.law_filters.proofs.Onward.{NoneOn}
use Rattle.law_filters.proofs.Rooms.{OfExchange, OfLine, OfEach, Joint, IsRest, IsApart, IsCalm, Holds, Op, op_refuses, LinesBoth, numbers_set, each_at, each_set, on_place, holding, apart_closed, with_asked, holds_lines, holds_number, holds_context, holds_all, holds_dies, holds_begins}
use Rattle.law_filters.proofs.Same.{pick, SameIds}
use Rattle.law_filters.proofs.Steps.{IsStepped}

-- ---- what is sent for a line

pub none_join : (n : ℕ) (a b : List Sent) → NoneOn n a → NoneOn n b → NoneOn n (a ++ b)
none_join n [] b one two = two
none_join n (to.Connect m ∷ a) b one two = (one.0, none_join n a b one.1 two)
none_join n (to.Bytes m side bytes ∷ a) b one two = none_join n a b one two
none_join n (to.Close m side ∷ a) b one two = none_join n a b one two
none_join n (to.Log level text ∷ a) b one two = none_join n a b one two

pub none_any : (n : ℕ) (a : List Sent) → NoConnects a → NoneOn n a
none_any n [] none = tt
none_any n (to.Connect m ∷ a) none = absurd none
none_any n (to.Bytes m side bytes ∷ a) none = none_any n a none
none_any n (to.Close m side ∷ a) none = none_any n a none
none_any n (to.Log level text ∷ a) none = none_any n a none

-- since then no connection was opened for the line
abbrev pub NoneSince : ℕ → List Sent → Hub → Type 0
NoneSince n base hub = (more : List Sent) × (hub.sent ≡ base ++ more) × NoneOn n more

pub since_more : (n : ℕ) (base : List Sent) (hub : Hub) (more : List Sent) → NoneOn n more → NoneSince n base hub → NoneSince n base (hub_with_sent more hub)
since_more n base hub more none k = (k.0 ++ more, ap (λ (l : List Sent). l ++ more) k.1 ∙ append_assoc base k.0 more, none_join n k.0 more k.2 none)

-- ---- jobs

-- neither a context nor the stages are to be made on the line
abbrev pub NoMaking : ℕ → List Job → Type 0
NoMaking n [] = Unit {0}
NoMaking n (jobs.Enter m ∷ later) = ((m == n) ≡ false) × NoMaking n later
NoMaking n (jobs.Create m k ∷ later) = ((m == n) ≡ false) × NoMaking n later
NoMaking n (job ∷ later) = NoMaking n later

making_join : (n : ℕ) (a b : List Job) → NoMaking n a → NoMaking n b → NoMaking n (a ++ b)
making_join n [] b one two = two
making_join n (jobs.Enter m ∷ a) b one two = (one.0, making_join n a b one.1 two)
making_join n (jobs.Create m k ∷ a) b one two = (one.0, making_join n a b one.1 two)
making_join n (job ∷ a) b one two = making_join n a b one two

making_later : (n : ℕ) (job : Job) (later : List Job) → NoMaking n (job ∷ later) → NoMaking n later
making_later n (jobs.Enter m) later none = none.1
making_later n (jobs.Create m k) later none = none.1
making_later n job later none = none

making_first : (n : ℕ) (job : Job) (later : List Job) → NoMaking n (job ∷ later) → NoMaking n (job ∷ [])
making_first n (jobs.Enter m) later none = (none.0, tt)
making_first n (jobs.Create m k) later none = (none.0, tt)
making_first n job later none = tt

creates_making : (n m k : ℕ) → (m ≡ n → ⊥) → NoMaking n (create_jobs m k)
creates_making n m zero other = tt
creates_making n m (suc k) other = making_join n (create_jobs m k) (jobs.Create m k ∷ []) (creates_making n m k other) (ne_eqb m n other, tt)

pub refuses_making : (n m : ℕ) (o : Option ℕ) → NoMaking n (refuse_jobs m o)
refuses_making n m None = tt
refuses_making n m (Some status) = tt

puts_making : (n m : ℕ) (response : Bool) (batch : List ChainItem) → NoMaking n (put_jobs m response batch)
puts_making n m response [] = tt
puts_making n m response (item ∷ more) = tt

done_making : (n : ℕ) (fs : List Filter) → NoMaking n (done_jobs fs)
done_making n [] = tt
done_making n (f ∷ fs) = pick (NoMaking n) f.created (jobs.Done (record { vm = f.vm; context = f.context }) ∷ done_jobs fs) (done_jobs fs) (done_making n fs) (done_making n fs)

pub parts_making : (n : ℕ) (js : List Job) → AllParts js → NoMaking n js
parts_making n [] are = tt
parts_making n (jobs.Enter m ∷ js) are = absurd are.0
parts_making n (jobs.Create m k ∷ js) are = absurd are.0
parts_making n (job ∷ js) are = parts_making n js are.1

-- what is read of the line is no head of a request
abbrev pub Cold : ℕ → Option ReadBatch → Type 0
Cold n None = Unit {0}
Cold n (Some r) = r.line ≡ n → r.up ≡ false → begins_with_head r.batch ≡ false

-- no head of a request is heard on the line
abbrev pub Unheard : ℕ → Room → Type 0
Unheard n room =
    (r : ReadBatch) (reading : Reading) (head : Head) (new : Reading) → room.reading ≡ Some r → reading_on r room ≡ Some reading → Hears reading (hands (head_part head) new) → r.up ≡ false → r.line ≡ n → ⊥

-- ---- what is known: one of several things, each of the exchange on the line, of what was sent since, and of the VMs that died

module _ (n : ℕ) (base : List Sent) (low : is_call_line n ≡ false) (I : Type 0) (quiet : I → Bool) (L : I → List ℕ → Type 0) (X : I → Exchange → Type 0) (D : I → ℕ → Type 0) (Goes : Option Asked → Type 0) where
  abbrev pub XOf : I → ℕ → Exchange → Type 0
  XOf i m x = m ≡ n → X i x

  abbrev pub KOf : I → Hub → Type 0
  KOf i hub = quiet i ≡ true → NoneSince n base hub

  abbrev pub OnBoth : I → Exchange × Hub → Type 0
  OnBoth i r = X i r.0 × KOf i r.1

  abbrev pub OnThird : I → Option Asked × Exchange × Hub → Type 0
  OnThird i r = X i r.1 × KOf i r.2

  -- what is done to the exchange on the line keeps it
  pub record IsLasting (i : I) : Type 0 where
    pub aside : (x y : Exchange) → IsAside x y → X i x → X i y
    pub shut : (x y : Exchange) → IsShut x y → X i x → X i y
    pub continues : (k : ℕ) (x : Exchange) (hub : Hub) → x.has_ended ≡ false → X i x → KOf i hub → OnBoth i (take_move false n x hub (continued hub.contexts k x.request))
    pub dies : (gone : ℕ) (x : Exchange) (hub : Hub) → D i gone → x.has_ended ≡ false → fails_closed gone x ≡ false → X i x → KOf i hub → OnBoth i (bypass_vm gone n x hub)
    pub asks : (x : Exchange) (hub : Hub) → Goes (asks_chain false n x hub (asked hub.contexts x.request)).0 → X i x → KOf i hub → OnThird i (asks_chain false n x hub (asked hub.contexts x.request))
    pub died : (dead : List ℕ) (gone : ℕ) → D i gone → L i dead → L i (dead ++ gone ∷ [])

  -- and so does what is read of its request
  abbrev pub Puts : I → Type 0
  Puts i = (list : List ChainItem) (x : Exchange) (hub : Hub) → X i x → KOf i hub → OnBoth i (put_read_items false list n x hub)

  abbrev pub G : I → ℕ → Exchange → Hub → Type 0
  G i = Joint (XOf i) (KOf i)

  abbrev pub Rest : I → Room → Type 0
  Rest i room = L i room.dead × NoMaking n room.jobs × NoMaking n room.agenda × Cold n room.reading

  abbrev pub Fair : I → Room → Type 0
  Fair i room = Holds (XOf i) (KOf i) (Rest i) room

  abbrev pub P : Room → Type 0
  P room = (i : I) × Fair i room

  -- the line of a callout is none of a client
  call_elsewhere : (id : ℕ) → line_of id ≡ n → ⊥
  call_elsewhere id same = never (is_call_line n) low (ap is_call_line (sym same) ∙ call_line_is id)

  module _ (i : I) where
    pub k_more : (hub : Hub) (more : List Sent) → NoneOn n more → KOf i hub → KOf i (hub_with_sent more hub)
    k_more hub more none k = λ e. since_more n base hub more none (k e)

    -- ---- on another line all is well

    abbrev Away : ℕ → Exchange → Hub → Type 0
    Away m x hub = (m ≡ n → ⊥) × KOf i hub

    away_closed : IsClosed Away
    away_closed = record { hub = λ m x hub h same is. is; sent = λ m x hub more none is. (is.0, k_more hub more (none_any n more none) is.1); aside = λ m x y hub a is. is; shut = λ m x y hub s is. is }

    away_up : (m : ℕ) (item : ChainItem) (x : Exchange) (hub : Hub) → Away m x hub → InBoth Away m (send_request_item m item x hub)
    away_up m (items.Head end) x hub is =
        let bytes : List ℕ = head_wire (request_framing x) (sent_head (request_map x.place hub.contexts) (up_tail x.asked.minor)) in
        (is.0, k_more hub (to.Connect m ∷ sending_to m Up bytes) (is.0, none_any n (sending_to m Up bytes) (bytes_connect_none m Up bytes)) is.1)
    away_up m (items.Piece bytes end) x hub is =
        let wire : List ℕ = piece_wire (request_framing x) bytes end in (is.0, k_more hub (sending_to m Up wire) (none_any n (sending_to m Up wire) (bytes_connect_none m Up wire)) is.1)
    away_up m items.Trailers x hub is =
        let wire : List ℕ = trailer_wire (request_framing x) (with_connection x.connection_up (request_trailers x.place hub.contexts).pairs) in
        (is.0, k_more hub (sending_to m Up wire) (none_any n (sending_to m Up wire) (bytes_connect_none m Up wire)) is.1)

    away_item : (m : ℕ) (item : ChainItem) (xh : Exchange × Hub) → InBoth Away m xh → InBoth Away m (send_item false m item xh)
    away_item m item (x, hub) is = pick (InBoth Away m) x.has_ended (x, hub) (send_request_item m item x hub) is (away_up m item x hub is)

    away_items : (m : ℕ) (list : List ChainItem) (xh : Exchange × Hub) → InBoth Away m xh → InBoth Away m (send_items false m list xh)
    away_items m [] xh is = is
    away_items m (item ∷ list) xh is = away_items m list (send_item false m item xh) (away_item m item xh is)

    away_passed : (m : ℕ) (p : PassOutcome) (x : Exchange) (hub : Hub) → Away m x hub → InBoth Away m (finish_put false m p x hub)
    away_passed m passed.Over x hub is = in_answer Away away_closed m true 413 [] [] x hub is
    away_passed m (passed.Left list) x hub is = away_items m list (x, hub) is

    away_moved : (m : ℕ) (x : Exchange) (hub : Hub) (r : PassOutcome × List Stage × Contexts) → Away m x hub → InBoth Away m (take_move false m x hub r)
    away_moved m x hub (p, stages, held) is = away_passed m p (record x { request = stages }) (with_held held hub) is

    away_marks : (m : ℕ) (xh : Exchange × Hub) → InBoth Away m xh → KOf i (with_marks xh).1
    away_marks m (x, hub) is = is.1

    away_asks : (m : ℕ) (a : Asking) (x : Exchange) (hub : Hub) → Away m x hub → KOf i (asks_as false m a x hub).2
    away_asks m Nothing x hub is = is.1
    away_asks m (Over j) x hub is = away_marks m (finish_put false m passed.Over x hub) (away_passed m passed.Over x hub is)
    away_asks m (Asks ask) x hub is = is.1

    away_chain : (m : ℕ) (x : Exchange) (hub : Hub) (r : Asking × List Stage × Contexts) → Away m x hub → KOf i (asks_chain false m x hub r).2
    away_chain m x hub (a, stages, held) is = away_asks m a (record x { request = stages }) (with_held held hub) is

    away_put : (m : ℕ) (item : ChainItem) (xh : Exchange × Hub) → InBoth Away m xh → InBoth Away m (put_to_chain false m item xh)
    away_put m item (x, hub) is = pick (InBoth Away m) (takes_nothing false x) (x, hub) (take_put false m x hub (put_item hub.contexts item x.request)) is (went (put_item hub.contexts item x.request))
      where
        went : (r : PassOutcome × List Stage) → InBoth Away m (take_put false m x hub r)
        went (p, stages) = away_passed m p (record x { request = stages }) hub is

    away_puts : (m : ℕ) (list : List ChainItem) (xh : Exchange × Hub) → InBoth Away m xh → InBoth Away m (put_all_to_chain false m list xh)
    away_puts m [] xh is = is
    away_puts m (item ∷ list) xh is = away_puts m list (put_to_chain false m item xh) (away_put m item xh is)

    away_dies : (gone m : ℕ) (x : Exchange) (hub : Hub) → Away m x hub → InBoth Away m (bypass_vm gone m x hub)
    away_dies gone m x hub is =
        lets_vm Away gone (λ j k s y after at of goes here. away_moved j y after (let_through after.contexts k y.request) here) (lets_response Away away_closed gone) m x hub is

    -- ---- on the line itself

    own : (m : ℕ) (f : ℕ → Exchange × Hub) → m ≡ n → OnBoth i (f n) → InBoth (G i) m (f m)
    own m f same r = let there : OnBoth i (f m) = subst (λ (j : ℕ). OnBoth i (f j)) (sym same) r in ((λ (e : m ≡ n). there.0), there.1)

    apart : (m : ℕ) (xh : Exchange × Hub) → (m ≡ n → ⊥) → KOf i xh.1 → InBoth (G i) m xh
    apart m (x, hub) other k = ((λ (same : m ≡ n). absurd (other same)), k)

    module _ (l : IsLasting i) where
      pub own_apart : IsApart (XOf i) (KOf i)
      own_apart = record {
        hub = λ hub h same is. is;
        sent = λ hub more none is. k_more hub more (none_any n more none) is;
        called = λ hub id wire is. k_more hub (to.Connect (line_of id) ∷ to.Bytes (line_of id) Up wire ∷ []) (call_elsewhere id, tt) is;
        aside = λ m x y a is same. l.aside x y a (is same);
        shut = λ m x y s is same. l.shut x y s (is same);
      }

      pub closed : IsClosed (G i)
      closed = apart_closed (XOf i) (KOf i) own_apart

      moves_up : (m k : ℕ) (x : Exchange) (hub : Hub) → x.has_ended ≡ false → G i m x hub → InBoth (G i) m (take_move false m x hub (continued hub.contexts k x.request))
      moves_up m k x hub runs is =
          ⊎_elim (λ (same : m ≡ n). own m (λ (j : ℕ). take_move false j x hub (continued hub.contexts k x.request)) same (l.continues k x hub runs (is.0 same) is.1))
          (λ (other : m ≡ n → ⊥). apart m (take_move false m x hub (continued hub.contexts k x.request)) other (away_moved m x hub (continued hub.contexts k x.request) (other, is.1)).1) (cases_eq m n)

      dies_up : (gone m : ℕ) (x : Exchange) (hub : Hub) → D i gone → x.has_ended ≡ false → fails_closed gone x ≡ false → G i m x hub → InBoth (G i) m (bypass_vm gone m x hub)
      dies_up gone m x hub dies runs opens is =
          ⊎_elim (λ (same : m ≡ n). own m (λ (j : ℕ). bypass_vm gone j x hub) same (l.dies gone x hub dies runs opens (is.0 same) is.1))
          (λ (other : m ≡ n → ⊥). apart m (bypass_vm gone m x hub) other (away_dies gone m x hub (other, is.1)).1) (cases_eq m n)

      asks_up : (m : ℕ) (x : Exchange) (hub : Hub) → Goes (asks_chain false m x hub (asked hub.contexts x.request)).0 → G i m x hub → InThird (G i) m (asks_chain false m x hub (asked hub.contexts x.request))
      asks_up m x hub goes is =
          ⊎_elim
          (λ (same : m ≡ n).
          let there : OnThird i (asks_chain false m x hub (asked hub.contexts x.request))
          = subst (λ (j : ℕ). OnThird i (asks_chain false j x hub (asked hub.contexts x.request))) (sym same)
          (l.asks x hub (subst (λ (j : ℕ). Goes (asks_chain false j x hub (asked hub.contexts x.request)).0) same goes) (is.0 same) is.1) in
          ((λ (e : m ≡ n). there.0), there.1))
          (λ (other : m ≡ n → ⊥). ((λ (same : m ≡ n). absurd (other same)), away_chain m x hub (asked hub.contexts x.request) (other, is.1))) (cases_eq m n)

      pub moved : IsMoved (D i) Goes (G i)
      moved = record {
        continues = λ m k x hub runs is. moves_up m k x hub runs is;
        dies = λ gone m x hub dies runs opens is. dies_up gone m x hub dies runs opens is;
        asks = λ m x hub goes is. asks_up m x hub goes is;
      }

      puts_up : Puts i → (list : List ChainItem) (m : ℕ) (x : Exchange) (hub : Hub) → G i m x hub → InBoth (G i) m (put_read_items false list m x hub)
      puts_up puts list m x hub is =
          ⊎_elim (λ (same : m ≡ n). own m (λ (j : ℕ). put_read_items false list j x hub) same (puts list x hub (is.0 same) is.1))
          (λ (other : m ≡ n → ⊥).
          apart m (put_read_items false list m x hub) other
          (pick (InBoth Away m) x.is_answered (x, hub) (put_all_to_chain false m list (x, hub)) (other, is.1) (away_puts m list (x, hub) (other, is.1))).1) (cases_eq m n)

      -- ---- rooms

      own_rest : IsRest (XOf i) (KOf i) (D i) (Rest i)
      own_rest = record { beside = λ room lines hub same r. r; died = λ gone room dies r. (l.died room.dead gone dies r.0, r.1, r.2, r.3); under_way = λ calls room r. r }

      pub fair_number : (change : Changes) (m : ℕ) (room : Room) → Op change → Fair i room → Fair i (on_number change m room)
      fair_number change m room op s = holds_number (XOf i) (KOf i) (D i) (Rest i) own_rest Goes closed moved change m room op s

      fair_context : (change : Changes) (gone c : ℕ) (room : Room) → Op change → Fair i room → Fair i (on_context change gone c room)
      fair_context change gone c room op s = holds_context (XOf i) (KOf i) (D i) (Rest i) own_rest Goes closed moved change gone c room op s

      fair_all : (change : Changes) (room : Room) → Op change → Fair i room → Fair i (with_lines room (all_lines change room.lines room.hub))
      fair_all change room op s = holds_all (XOf i) (KOf i) (D i) (Rest i) own_rest Goes closed moved change room op s

      fair_hub : (room : Room) (h : Contexts) → SameIds room.hub.contexts h → Fair i room → Fair i (with_contexts h room)
      fair_hub room h same s = s

      pub fair_sent : (more : List Sent) (room : Room) → NoConnects more → Fair i room → Fair i (room_with_sent more room)
      fair_sent more room none s = (s.0, k_more room.hub more (none_any n more none) s.1, s.2)

      fair_begins_call : (q : Request) (room : Room) → Fair i room → Fair i (begin_call q room)
      fair_begins_call q room s = holds_begins (XOf i) (KOf i) (D i) (Rest i) own_apart own_rest q room s

      -- a VM dies on which nothing hangs
      pub fair_dies : (gone : ℕ) (death : Death) (room : Room) → D i gone → Fair i room → Fair i (lose_vm_in gone death room)
      fair_dies gone death room dies s = holds_dies (XOf i) (KOf i) (D i) (Rest i) own_rest Goes closed moved gone death room dies own_apart.sent s

      -- ---- jobs, lines and what is read

      fair_pop : (job : Job) (room : Room) → Fair i (holding job room) → Fair i room
      fair_pop job room s = (s.0, s.1, (s.2.0, making_later n job room.jobs s.2.1, s.2.2, s.2.3))

      fair_front : (front : List Job) (room : Room) → NoMaking n front → Fair i room → Fair i (with_jobs_first front room)
      fair_front front room none s = (s.0, s.1, (s.2.0, making_join n front room.jobs none s.2.1, s.2.2, s.2.3))

      fair_reading : (o : Option ReadBatch) (room : Room) → Cold n o → Fair i room → Fair i (record room { reading = o })
      fair_reading o room cold s = (s.0, s.1, (s.2.0, s.2.1, s.2.2, cold))

      abbrev IsEasy : (Line → Line) → Type 0
      IsEasy change = (line : Line) → OfLine (XOf i) line → OfLine (XOf i) (change line)

      easy_at : (change : Line → Line) → IsEasy change → (lines : List Line) (o : Option ℕ) → OfEach (XOf i) lines → OfEach (XOf i) (line_at_place change lines o)
      easy_at change easy lines None of = of
      easy_at change easy lines (Some place) of = at (slice_get lines place) refl
        where
          at : (o : Option Line) → slice_get lines place ≡ o → OfEach (XOf i) (line_at change lines place o)
          at None is = of
          at (Some line) is = each_set (XOf i) lines place (change line) (easy line (each_at (XOf i) lines place line is of)) of

      fair_lines : (change : Line → Line) → IsEasy change → (m : ℕ) (room : Room) → Fair i room → Fair i (on_lines change m room)
      fair_lines change easy m room s = (easy_at change easy room.lines (place_in m room.lines) s.0, s.1, s.2)

      easy_change : (change : Exchange → Exchange) → ((x : Exchange) → IsAside x (change x)) → IsEasy (change_line change)
      easy_change change aside line is = by_exchange line.exchange refl
        where
          by_exchange : (o : Option Exchange) → line.exchange ≡ o → OfLine (XOf i) (change_exchange change line o)
          by_exchange None at = is
          by_exchange (Some x) at = λ same. l.aside x (change x) (aside x) (subst (OfExchange (XOf i) line.number) at is same)

      easy_read : (up : Bool) (reading : Reading) → IsEasy (read_on up reading)
      easy_read false reading = λ line is. is
      easy_read true reading = easy_change (with_reader reading) (λ x. record { filters = refl; request = refl; entered = refl; answered = refl; refusal = refl; ended = λ e. e })

      easy_mark : (up : Bool) (item : ChainItem) → IsEasy (change_line (with_read_mark up item))
      easy_mark false item = easy_change (with_read_mark false item) (λ x. record { filters = refl; request = refl; entered = refl; answered = refl; refusal = refl; ended = λ e. e })
      easy_mark true item = easy_change (with_read_mark true item) (λ x. record { filters = refl; request = refl; entered = refl; answered = refl; refusal = refl; ended = λ e. e })

      easy_side : (up stops : Bool) (bytes : List ℕ) → IsEasy (side_with_more up stops bytes)
      easy_side false stops bytes = λ line is. is
      easy_side true stops bytes = easy_change (with_further stops bytes) (λ x. record { filters = refl; request = refl; entered = refl; answered = refl; refusal = refl; ended = λ e. e })

      -- ---- what is heard

      exchange_making : (r : ReadBatch) (status : Option ℕ) (x : Exchange) (o : Option ℕ) → (r.line ≡ n → ⊥) → NoMaking n (exchange_jobs r status x o)
      exchange_making r status x (Some number) other = tt
      exchange_making r status x None other =
          making_join n (create_jobs r.line (length x.filters)) (jobs.Enter r.line ∷ (put_jobs r.line false r.batch ++ refuse_jobs r.line status)) (creates_making n r.line (length x.filters) other)
          (ne_eqb r.line n other, making_join n (put_jobs r.line false r.batch) (refuse_jobs r.line status) (puts_making n r.line false r.batch) (refuses_making n r.line status))

      begin_making : (r : ReadBatch) (status : Option ℕ) (o : Option Exchange) → (r.line ≡ n → ⊥) → NoMaking n (begin_jobs_for r status o)
      begin_making r status None other = tt
      begin_making r status (Some x) other = exchange_making r status x x.refusal other

      both_parts : (a b : Bool) → (a && not b) ≡ true → (a ≡ true) × (b ≡ false)
      both_parts true true e = absurd (cc e)
      both_parts true false e = (refl, refl)
      both_parts false b e = absurd (cc e)

      jobs_making : (r : ReadBatch) (status : Option ℕ) (room : Room) → Cold n (Some r) → NoMaking n (jobs_of r status room)
      jobs_making r status room cold =
          by_ended (NoMaking n) (begins_with_head r.batch && not r.up) (begin_jobs_for r status (exchange_on r.line room)) (put_jobs r.line r.up r.batch ++ refuse_jobs r.line status)
          (λ e.
          let both = both_parts (begins_with_head r.batch) r.up e in
          begin_making r status (exchange_on r.line room) (λ (same : r.line ≡ n). never (begins_with_head r.batch) (cold same both.1) both.0))
          (λ e. making_join n (put_jobs r.line r.up r.batch) (refuse_jobs r.line status) (puts_making n r.line r.up r.batch) (refuses_making n r.line status))

      fair_end : (r : ReadBatch) (status : Option ℕ) (room : Room) → Cold n (Some r) → Fair i room → Fair i (end_reading r status room)
      fair_end r status room cold s = fair_front (jobs_of r status room) (record room { reading = None }) (jobs_making r status room cold) (fair_reading None room tt s)

      fair_item : (r : ReadBatch) (item : ChainItem) (room : Room) → Cold n (Some (with_item item r)) → Fair i room → Fair i (take_read_item r item room)
      fair_item r item room cold s =
          let marked : Room = on_lines (change_line (with_read_mark r.up item)) r.line room in
          let here : Fair i marked = fair_lines (change_line (with_read_mark r.up item)) (easy_mark r.up item) r.line room s in
          pick (Fair i) (is_last item) (end_reading (with_item item r) None marked) (record marked { reading = Some (with_item item r) }) (fair_end (with_item item r) None marked cold here)
          (fair_reading (Some (with_item item r)) marked cold here)

      fair_in : (change : ℕ → Contexts → Contexts) (o : Option Exchange) (room : Room) → Fair i room → Fair i (in_contexts change o room)
      fair_in change None room s = s
      fair_in change (Some x) room s = s

      -- an item that is no head leaves it cold
      cold_push : (batch : List ChainItem) (item : ChainItem) → begins_with_head (item ∷ []) ≡ false → begins_with_head batch ≡ false → begins_with_head (batch ++ item ∷ []) ≡ false
      cold_push [] item is cold = is
      cold_push (items.Head end ∷ batch) item is cold = absurd (cc cold)
      cold_push (items.Piece bytes end ∷ batch) item is cold = refl
      cold_push (items.Trailers ∷ batch) item is cold = refl

      cold_item : (r : ReadBatch) (item : ChainItem) → begins_with_head (item ∷ []) ≡ false → Cold n (Some r) → Cold n (Some (with_item item r))
      cold_item r item is cold same down = cold_push r.batch item is (cold same down)

      fair_begins : (m : ℕ) (head : Head) (plan : Plan) (room : Room) → (m ≡ n → ⊥) → Fair i room → Fair i (begin_exchange_on plan m head room)
      fair_begins m head plan room other s = (on_other room.lines (place_in m room.lines) refl s.0, s.1, s.2)
        where
          x : Exchange
          x = exchange_for plan (free_place room.hub.contexts) room.hub.moment room.dead head (route_in plan.routes (path_of head.fields))

          on_other : (lines : List Line) (o : Option ℕ) → place_in m lines ≡ o → OfEach (XOf i) lines → OfEach (XOf i) (line_at_place (with_exchange x) lines o)
          on_other lines None at of = of
          on_other lines (Some place) at of = by_line (slice_get lines place) refl
            where
              by_line : (o : Option Line) → slice_get lines place ≡ o → OfEach (XOf i) (line_at (with_exchange x) lines place o)
              by_line None there = of
              by_line (Some line) there =
                  each_set (XOf i) lines place (with_exchange x line)
                  (λ (same : line.number ≡ n). absurd (other (sym (eqb-true line.number m (found_passes (λ (k : Line). k.number == m) lines place line at there)) ∙ same))) of

      fair_part : (plan : Plan) (r : ReadBatch) (part : Part) (room : Room) → Cold n (Some r) → ((head : Head) → part ≡ head_part head → r.up ≡ false → r.line ≡ n → ⊥) → Fair i room → Fair i (take_part plan r part room)
      fair_part plan r (head_part head) room cold none s =
          by_ended (Fair i) r.up _ _
          (λ up.
          fair_item r (head_item head) (on_lines (change_line (with_response_head head)) r.line (in_contexts (put_response head.fields) (exchange_on r.line room) room)) (λ same down. absurd (never r.up down up))
          (fair_lines (change_line (with_response_head head)) (easy_change (with_response_head head) (λ x. record { filters = refl; request = refl; entered = refl; answered = refl; refusal = refl; ended = λ e. e })) r.line
          (in_contexts (put_response head.fields) (exchange_on r.line room) room) (fair_in (put_response head.fields) (exchange_on r.line room) room s)))
          (λ down.
          fair_item r (head_item head) (begin_exchange_on plan r.line head room) (λ same e. absurd (none head refl down same)) (fair_begins r.line head plan room (λ (same : r.line ≡ n). none head refl down same) s))
      fair_part plan r (interim_part head) room cold none s =
          fair_reading (Some r) (room_with_sent (sending_to r.line Down (interim_of (exchange_on r.line room) head)) room) cold
          (fair_sent (sending_to r.line Down (interim_of (exchange_on r.line room) head)) room (bytes_connect_none r.line Down (interim_of (exchange_on r.line room) head)) s)
      fair_part plan r (piece bytes last) room cold none s = fair_item r (items.Piece bytes last) room (cold_item r (items.Piece bytes last) refl cold) s
      fair_part plan r (trailer_part fields) room cold none s =
          fair_item r items.Trailers (in_contexts (put_trailers r.up (with_fields no_headers fields)) (exchange_on r.line room) room) (cold_item r items.Trailers refl cold)
          (fair_in (put_trailers r.up (with_fields no_headers fields)) (exchange_on r.line room) room s)

      fair_stops : (r : ReadBatch) (why : Stop) (room : Room) → Cold n (Some r) → Fair i room → Fair i (end_of_read r why room)
      fair_stops r rest room cold s = fair_end r None room cold s
      fair_stops r over room cold s =
          pick (Fair i) (r.up || is_some (exchange_on r.line room)) (end_reading r None room) (with_jobs_first (jobs.Close r.line false ∷ []) (end_reading r None room)) (fair_end r None room cold s)
          (fair_front (jobs.Close r.line false ∷ []) (end_reading r None room) tt (fair_end r None room cold s))
      fair_stops r (refusal status) room cold s = fair_end r (Some status) room cold s

      fair_heard : (plan : Plan) (r : ReadBatch) (h : Heard) (room : Room) → Cold n (Some r) → ((head : Head) (new : Reading) → h ≡ hands (head_part head) new → r.up ≡ false → r.line ≡ n → ⊥) → Fair i room → Fair i (after_heard plan r h room)
      fair_heard plan r (hands part new) room cold none s =
          fair_part plan r part (on_lines (read_on r.up new) r.line room) cold (λ head is. none head new (ap (λ (p : Part). hands p new) is)) (fair_lines (read_on r.up new) (easy_read r.up new) r.line room s)
      fair_heard plan r (halts why new) room cold none s = fair_stops r why (on_lines (read_on r.up new) r.line room) cold (fair_lines (read_on r.up new) (easy_read r.up new) r.line room s)

      fair_reads : (plan : Plan) (r : ReadBatch) (reading : Reading) (h : Heard) (room : Room) → room.reading ≡ Some r → reading_on r room ≡ Some reading → Hears reading h → Unheard n room → Fair i room
          → Fair i (after_heard plan r h (record room { reading = None }))
      fair_reads plan r reading h room at on says unheard s =
          fair_heard plan r h (record room { reading = None }) (subst (Cold n) at s.2.3) (λ head new is down same. unheard r reading head new at on (subst (Hears reading) is says) down same) (fair_reading None room tt s)

      -- ---- lines come and go

      each_insert : (lines : List Line) (k m : ℕ) → OfEach (XOf i) lines → OfEach (XOf i) (insert lines k (new_line m))
      each_insert lines zero m of = (tt, of)
      each_insert [] (suc k) m of = (tt, tt)
      each_insert (line ∷ lines) (suc k) m of = (of.0, each_insert lines k m of.1)

      each_remove : (lines : List Line) (k : ℕ) → OfEach (XOf i) lines → OfEach (XOf i) (remove lines k)
      each_remove [] zero of = tt
      each_remove [] (suc k) of = tt
      each_remove (line ∷ lines) zero of = of.1
      each_remove (line ∷ lines) (suc k) of = (of.0, each_remove lines k of.1)

      each_dropped : (lines : List Line) (o : Option ℕ) → OfEach (XOf i) lines → OfEach (XOf i) (without_place lines o)
      each_dropped lines None of = of
      each_dropped lines (Some k) of = each_remove lines k of

      fair_drop : (m : ℕ) (room : Room) → Fair i room → Fair i (drop_line m room)
      fair_drop m room s = (each_dropped room.lines (place_in m room.lines) s.0, s.1, s.2)

      fair_close : (m : ℕ) (room : Room) → Fair i room → Fair i (close_line m room)
      fair_close m room s = fair_sent (to.Close m Down ∷ []) (drop_line m room) tt (fair_drop m room s)

      fair_side : (m : ℕ) (up : Bool) (room : Room) → Fair i room → Fair i (read_side m up room)
      fair_side m up room s = fair_reading (Some (record { line = m; up = up; batch = [] })) room (λ same down. refl) s

      fair_ended : (o : Option Line) (m : ℕ) (stays : Bool) (room : Room) → Fair i room → Fair i (end_line o m stays room)
      fair_ended None m stays room s = s
      fair_ended (Some line) m stays room s =
          pick (Fair i) line.is_gone (drop_line m room) (if stays then read_side m false room else close_line m room) (fair_drop m room s)
          (pick (Fair i) stays (read_side m false room) (close_line m room) (fair_side m false room s) (fair_close m room s))

      fair_refuse : (o : Option Line) (m status : ℕ) (room : Room) → Fair i room → Fair i (refuse_line o m status room)
      fair_refuse None m status room s = s
      fair_refuse (Some line) m status room s = by_exchange line.exchange
        where
          by_exchange : (o : Option Exchange) → Fair i (refuse_in m status o room)
          by_exchange (Some x) = fair_number (passing.refuse_exchange status) m room (op_refuses status) s
          by_exchange None =
              fair_close m (refusal_sent m status room)
              (pick (Fair i) _ (room_with_sent (sending_to m Down (fixed_answer status room.hub.moment)) room) room (fair_sent (sending_to m Down (fixed_answer status room.hub.moment)) room (bytes_connect_none m Down (fixed_answer status room.hub.moment)) s) s)

      fair_accept : (m : ℕ) (room : Room) → Fair i room → Fair i (accept_line m room)
      fair_accept m room s =
          pick (Fair i) (is_some (place_in m room.lines)) room _ s
          (pick (Fair i) (nat_lt (length room.lines) most_lines) (record room { lines = insert room.lines (place_for m room.lines) (new_line m) }) (room_with_sent (to.Close m Down ∷ []) room)
          (each_insert room.lines (place_for m room.lines) m s.0, s.1, s.2) (fair_sent (to.Close m Down ∷ []) room tt s))

      fair_receive : (up stops : Bool) (bytes : List ℕ) (m : ℕ) (o : Option Line) (room : Room) → Fair i room → Fair i (receive_on up stops bytes m o room)
      fair_receive up stops bytes m o room s =
          let later : Room = on_lines (side_with_more up stops bytes) m room in
          let here : Fair i later = fair_lines (side_with_more up stops bytes) (easy_side up stops bytes) m room s in
          pick (Fair i) (is_open (line_reading up o) && not (up && is_answered_in (exchange_of_line o))) (if is_read_in up (exchange_of_line o) then read_side m up later else later) room
          (pick (Fair i) (is_read_in up (exchange_of_line o)) (read_side m up later) later (fair_side m up later here) here) s

      easy_client : IsEasy line_without_client
      easy_client line is = easy_change exchange_without_client (λ x. record { filters = refl; request = refl; entered = refl; answered = refl; refusal = refl; ended = λ e. refl }) line is

      fair_client : (m : ℕ) (o : Option Line) (room : Room) → Fair i room → Fair i (lose_client m o room)
      fair_client m None room s = s
      fair_client m (Some line) room s = pick (Fair i) (is_some line.exchange) (on_lines line_without_client m room) (drop_line m room) (fair_lines line_without_client easy_client m room s) (fair_drop m room s)

      fair_server : (m : ℕ) (o : Option Exchange) (room : Room) → Fair i room → Fair i (lose_server m o room)
      fair_server m o room s = pick (Fair i) (is_missed o) (on_number (passing.refuse_exchange 502) m room) room (fair_number (passing.refuse_exchange 502) m room (op_refuses 502) s) s

      fair_event : (what : What) (room : Room) → Fair i room → Fair i (take_event what room)
      fair_event (whats.Opened m) room s = fair_accept m room s
      fair_event (whats.Bytes m Down bytes) room s = fair_receive false false bytes m (line_in m room.lines) room s
      fair_event (whats.Bytes m Up bytes) room s = fair_receive true false bytes m (line_in m room.lines) room s
      fair_event (whats.End m Down) room s = fair_receive false true [] m (line_in m room.lines) room s
      fair_event (whats.End m Up) room s = fair_receive true true [] m (line_in m room.lines) room s
      fair_event (whats.Gone m Down) room s = fair_client m (line_in m room.lines) room s
      fair_event (whats.Gone m Up) room s = fair_server m (exchange_on m room) room s
      fair_event (whats.Joined m) room s = s
      fair_event (whats.Refused m) room s = fair_server m (exchange_on m room) room s
      fair_event (whats.Room m side) room s = s
      fair_event whats.Clock room s = s
      fair_event whats.Stop room s = s

      -- ---- stages are asked; contexts; exchanges end

      -- whatever the rest is
      abbrev pub Rested : (Room → Type 0) → Type 0
      Rested R = (room : Room) (lines : List Line) (hub : Hub) → R room → R (record room { lines = lines; hub = hub })

      line_asked : (R : Room → Type 0) → Rested R → (room : Room) (place : ℕ) (line : Line) (o : Option Exchange) → slice_get room.lines place ≡ Some line → line.exchange ≡ o → Goes (asks_in line o room.hub).0 → Holds (XOf i) (KOf i) R room
          → Holds (XOf i) (KOf i) R (with_asked room (asks_back place room.lines (asks_in line o room.hub)))
      line_asked R rested room place line None at is goes s = (each_set (XOf i) room.lines place line (each_at (XOf i) room.lines place line at s.0) s.0, s.1, rested room (slice_set room.lines place line) room.hub s.2)
      line_asked R rested room place line (Some x) at is goes s =
          let of : OfExchange (XOf i) line.number (Some x) = subst (OfExchange (XOf i) line.number) is (each_at (XOf i) room.lines place line at s.0) in
          let third : InThird (G i) line.number (asks_exchange line.number x room.hub) = in_asks (D i) Goes (G i) closed moved line.number x room.hub (of, s.1) goes in
          let new : Line = record line { exchange = Some (asks_exchange line.number x room.hub).1 } in
          (each_set (XOf i) room.lines place new third.0 s.0, third.1, rested room (slice_set room.lines place new) (asks_exchange line.number x room.hub).2 s.2)

      pub place_asked : (R : Room → Type 0) → Rested R → (room : Room) (place : ℕ) (o : Option Line) → slice_get room.lines place ≡ o → Goes (asks_at place o room.lines room.hub).0 → Holds (XOf i) (KOf i) R room
          → Holds (XOf i) (KOf i) R (with_asked room (asks_at place o room.lines room.hub))
      place_asked R rested room place None at goes s = s
      place_asked R rested room place (Some line) at goes s = line_asked R rested room place line line.exchange at refl goes s

      ended_making : (fs : List Filter) (m : ℕ) (stays : Bool) → NoMaking n (done_jobs fs ++ jobs.Close m stays ∷ [])
      ended_making fs m stays = making_join n (done_jobs fs) (jobs.Close m stays ∷ []) (done_making n fs) tt

      close_none : (m : ℕ) (o : Option Reading) → NoConnects (close_up m o)
      close_none m None = tt
      close_none m (Some reading) = tt

      line_ended : (room : Room) (place : ℕ) (line : Line) (o : Option Exchange) → slice_get room.lines place ≡ Some line → Fair i room → Fair i (end_with room (ended_back place room.lines (ended_in line o)))
      line_ended room place line None at s = (each_set (XOf i) room.lines place line (each_at (XOf i) room.lines place line at s.0) s.0, s.1, s.2)
      line_ended room place line (Some x) at s = (
        each_set (XOf i) room.lines place (record line { exchange = None }) tt s.0,
        k_more room.hub (close_up line.number x.reader) (none_any n (close_up line.number x.reader) (close_none line.number x.reader)) s.1,
        (s.2.0, making_join n (done_jobs x.filters ++ jobs.Close line.number x.stays ∷ []) room.jobs (ended_making x.filters line.number x.stays) s.2.1, s.2.2, s.2.3),
      )

      place_ended : (room : Room) (place : ℕ) (o : Option Line) → slice_get room.lines place ≡ o → Fair i room → Fair i (end_with room (ended_at place o room.lines))
      place_ended room place None at s = s
      place_ended room place (Some line) at s = line_ended room place line line.exchange at s

      -- ---- what comes after callbacks

      fair_await : (c : ContextAt) (room : Room) → Fair i room → Fair i (await_done c room)
      fair_await c room s = pick (Fair i) (has_vm c.vm room.hub.contexts) (with_contexts (await_done_of c.vm c.context room.hub.contexts) (record room { waits = room.waits ++ c ∷ [] })) room s s

      fair_finish : (c : ContextAt) (value : Option (Option ℕ)) (room : Room) → Fair i room → Fair i (finish_context c value room)
      fair_finish c None room s = fair_front (last_jobs c) room tt s
      fair_finish c (Some value) room s = pick (Fair i) (is_zero value) (await_done c room) (with_jobs_first (last_jobs c) room) (fair_await c room s) (fair_front (last_jobs c) room tt s)

      fair_delete : (c : ContextAt) (value : Option (Option ℕ)) (room : Room) → Fair i room → Fair i (delete_context c value room)
      fair_delete c value room s =
          pick (Fair i) (has_vm c.vm room.hub.contexts && contains c.context (seen room.hub.contexts c.vm).common.ids) (with_contexts (delete_id c.vm c.context room.hub.contexts) room) room s s

      -- ---- stages and contexts are made on other lines

      enter_other : (dead : List ℕ) (m : ℕ) (x : Exchange) (hub : Hub) → (m ≡ n → ⊥) → G i m x hub → InBoth (G i) m (enter_stages dead m x hub)
      enter_other dead m x hub other is = ((λ (same : m ≡ n). absurd (other same)), is.1)

      at_number : (m : ℕ) (change : Changes) → ((x : Exchange) (hub : Hub) → G i m x hub → InBoth (G i) m (with_marks (change m x hub))) → (lines : List Line) (hub : Hub) → OfEach (XOf i) lines → KOf i hub
          → LinesBoth (XOf i) (KOf i) lines (at_place change lines (place_in m lines) hub)
      at_number m change keep lines hub of k = by_place (place_in m lines) refl
        where
          by_place : (o : Option ℕ) → place_in m lines ≡ o → LinesBoth (XOf i) (KOf i) lines (at_place change lines o hub)
          by_place None at = (of, k, refl)
          by_place (Some place) at = by_line (slice_get lines place) refl
            where
              by_line : (o : Option Line) → slice_get lines place ≡ o → LinesBoth (XOf i) (KOf i) lines (at_some change lines place o hub)
              by_line None there = (of, k, refl)
              by_line (Some line) there = by_exchange line.exchange refl
                where
                  is_m : line.number ≡ m
                  is_m = eqb-true line.number m (found_passes (λ (k : Line). k.number == m) lines place line at there)

                  by_exchange : (o : Option Exchange) → line.exchange ≡ o → LinesBoth (XOf i) (KOf i) lines (put_back lines place (in_exchange change line o hub))
                  by_exchange None is = (each_set (XOf i) lines place line (each_at (XOf i) lines place line there of) of, k, numbers_set lines place line line there refl)
                  by_exchange (Some x) is =
                      let given : OfExchange (XOf i) line.number (Some x) = subst (OfExchange (XOf i) line.number) is (each_at (XOf i) lines place line there of) in
                      let r : InBoth (G i) line.number (with_marks (change line.number x hub)) = subst (λ (j : ℕ). G i j x hub → InBoth (G i) j (with_marks (change j x hub))) (sym is_m) (keep x hub) (given, k) in
                      (each_set (XOf i) lines place (record line { exchange = Some (with_marks (change line.number x hub)).0 }) r.0 of, r.1, numbers_set lines place line (record line { exchange = Some (with_marks (change line.number x hub)).0 }) there refl)

      fair_enters : (m : ℕ) (room : Room) → Fair i (holding (jobs.Enter m) room) → Fair i (on_number (enter_stages room.dead) m room)
      fair_enters m room s =
          let other : m ≡ n → ⊥ = λ (same : m ≡ n). never (m == n) s.2.1.0 (eq-eqb m n same) in
          holds_lines (XOf i) (KOf i) (D i) (Rest i) own_rest room (at_place (enter_stages room.dead) room.lines (place_in m room.lines) room.hub)
          (at_number m (enter_stages room.dead) (λ x hub is. in_marking (D i) Goes (G i) closed moved m (enter_stages room.dead m x hub) (enter_other room.dead m x hub other is)) room.lines room.hub s.0 s.1)
          (s.2.0, s.2.1.1, s.2.2, s.2.3)

      fair_puts : Puts i → (m : ℕ) (list : List ChainItem) (room : Room) → Fair i room → Fair i (on_number (passing.put_read_items false list) m room)
      fair_puts puts m list room s =
          holds_lines (XOf i) (KOf i) (D i) (Rest i) own_rest room (at_place (passing.put_read_items false list) room.lines (place_in m room.lines) room.hub)
          (on_place (XOf i) (KOf i) (passing.put_read_items false list) (λ j x hub is. in_marking (D i) Goes (G i) closed moved j (put_read_items false list j x hub) (puts_up puts list j x hub is)) room.lines (place_in m room.lines) room.hub s.0 s.1) s.2

      fair_stream : (m k : ℕ) (f : Filter) (root : ℕ) (room : Room) → (m ≡ n → ⊥) → Fair i room → Fair i (with_stream m k f root room).1
      fair_stream m k f root room other s = (on_other room.lines (place_in m room.lines) refl s.0, s.1, s.2)
        where
          change : Exchange → Exchange
          change = with_filter k (record f { created = true; context = next_id room.hub.contexts f.vm })

          on_other : (lines : List Line) (o : Option ℕ) → place_in m lines ≡ o → OfEach (XOf i) lines → OfEach (XOf i) (line_at_place (change_line change) lines o)
          on_other lines None at of = of
          on_other lines (Some place) at of = by_line (slice_get lines place) refl
            where
              by_line : (o : Option Line) → slice_get lines place ≡ o → OfEach (XOf i) (line_at (change_line change) lines place o)
              by_line None there = of
              by_line (Some line) there = each_set (XOf i) lines place (change_line change line) (of_other line.exchange) of
                where
                  away : line.number ≡ n → ⊥
                  away same = other (sym (eqb-true line.number m (found_passes (λ (k : Line). k.number == m) lines place line at there)) ∙ same)

                  of_other : (o : Option Exchange) → OfLine (XOf i) (change_exchange change line o)
                  of_other None = each_at (XOf i) lines place line there of
                  of_other (Some x) = λ (same : line.number ≡ n). absurd (away same)

  -- ---- EACH STEP

  module _ (lasting : (i : I) → IsLasting i) (putting : (i : I) → Puts i) (dies : (i : I) (gone : ℕ) (death : Death) (room : Room) → Fair i room → P (lose_vm_in gone death room)) where
    pub calm : IsCalm P
    calm = record {
      number = λ change m room op s. (s.0, fair_number s.0 (lasting s.0) change m room op s.1);
      context = λ change gone c room op s. (s.0, fair_context s.0 (lasting s.0) change gone c room op s.1);
      all = λ change room op s. (s.0, fair_all s.0 (lasting s.0) change room op s.1);
      dies = λ gone death room s. dies s.0 gone death room s.1;
      hub = λ room h same s. (s.0, fair_hub s.0 (lasting s.0) room h same s.1);
      sent = λ room more none s. (s.0, fair_sent s.0 (lasting s.0) more room none s.1);
      begins = λ q room s. (s.0, fair_begins_call s.0 (lasting s.0) q room s.1);
      under_way = λ calls room s. (s.0, s.1);
    }

    abbrev PThere : Option NewContext × Room → Type 0
    PThere r = P r.1

    front_p : (front : List Job) (room : Room) → NoMaking n front → P room → P (with_jobs_first front room)
    front_p front room none s = (s.0, fair_front s.0 (lasting s.0) front room none s.1)

    pop_p : (job : Job) (room : Room) → P (holding job room) → P room
    pop_p job room s = (s.0, fair_pop s.0 (lasting s.0) job room s.1)

    roots_making : (v root p : ℕ) (first : Bool) → NoMaking n (root_jobs v root p first)
    roots_making v root p true = tt
    roots_making v root p false = tt

    root_p : (v p : ℕ) (first : Bool) (room : Room) → P room → P (create_root v p first room).1
    root_p v p first room s =
        pick PThere (is_dead v room || not (may_root v p room.hub.contexts)) (None, room) _ s
        (pick PThere (is_drawn_out v room.hub.contexts) (None, lose_vm_in v deaths.Ids room) _ (calm.dies v deaths.Ids room s)
        (front_p (root_jobs v (next_id room.hub.contexts v) p first) (with_contexts (root_created v p room.hub.contexts) room) (roots_making v (next_id room.hub.contexts v) p first) s))

    by_root : (m k : ℕ) (f : Filter) (o : Option ℕ) (room : Room) → (m ≡ n → ⊥) → P room → PThere (create_stream m k f o room)
    by_root m k f None room other s = s
    by_root m k f (Some root) room other s =
        pick PThere (is_dead f.vm room || not (may_stream f.vm root room.hub.contexts)) (None, room) _ s
        (pick PThere (is_drawn_out f.vm room.hub.contexts) (None, lose_vm_in f.vm deaths.Ids room) (with_stream m k f root room) (calm.dies f.vm deaths.Ids room s) (s.0, fair_stream s.0 (lasting s.0) m k f root room other s.1))

    by_filter : (m k : ℕ) (o : Option Filter) (room : Room) → (m ≡ n → ⊥) → P room → PThere (create_filter m k o room)
    by_filter m k None room other s = s
    by_filter m k (Some f) room other s = by_root m k f (plugin_in room.hub.contexts f.plugin).root room other s

    create_p : (m k : ℕ) (room : Room) → P (holding (jobs.Create m k) room) → P (create_context m k room).1
    create_p m k room s =
        by_filter m k (filter_at m k room.lines) room (λ (same : m ≡ n). never (m == n) s.1.2.1.0 (eq-eqb m n same)) (pop_p (jobs.Create m k) room s)

    pub stepped : (plan : Plan) → IsStepped plan (Unheard n) Goes P P
    stepped plan = record {
      last = λ room s. s;
      unread = λ room here s. (s.0, fair_reading s.0 (lasting s.0) None room tt s.1);
      read = λ r reading h room at on says here s. (s.0, fair_reads s.0 (lasting s.0) plan r reading h room at on says here s.1);
      stage = λ place room quiet at goes here s. (s.0, place_asked s.0 (lasting s.0) (Rest s.0) (λ r lines hub is. is) room place (slice_get room.lines place) refl goes s.1);
      frees = λ at c room quiet jobless there here s. (s.0, (s.1.0, s.1.1, (s.1.2.0, making_join n (last_jobs c) room.jobs tt s.1.2.1, s.1.2.2, s.1.2.3)));
      over = λ place room quiet jobless here s. (s.0, place_ended s.0 (lasting s.0) room place (slice_get room.lines place) refl s.1);
      part = λ job later room quiet jobless at here s.
          (let all : NoMaking n (job ∷ later) = subst (NoMaking n) at s.1.2.2 in (s.0, (s.1.0, s.1.1, (s.1.2.0, making_first n job later all, making_later n job later all, s.1.2.3))));
      pops = λ job room is here s. pop_p job room s;
      notices = λ v left root queue room here s. (let t : P room = pop_p (jobs.Notice v left) room s in (t.0, (t.1.0, t.1.1, (t.1.2.0, t.1.2.1, t.1.2.2, t.1.2.3))));
      calls = λ other then_ room here s. front_p (call_job then_ ∷ []) room tt (pop_p (jobs.Other other) room s);
      root = λ v p first room here s. root_p v p first room (pop_p (jobs.Root v p first) room s);
      create = λ m k room here s. create_p m k room s;
      finish = λ c value room s. (let t : P room = pop_p (jobs.Done c) room s in (t.0, fair_finish t.0 (lasting t.0) c value room t.1));
      delete = λ c value room s. (let t : P room = pop_p (jobs.Delete c) room s in (t.0, fair_delete t.0 (lasting t.0) c value room t.1));
      happens = λ what room quiet here s. (let t : P room = pop_p (jobs.Happen what) room s in (t.0, fair_event t.0 (lasting t.0) what room t.1));
      enters = λ m room here s. (s.0, fair_enters s.0 (lasting s.0) m room s.1);
      puts = λ m list room here s. (let t : P room = pop_p (jobs.Put m false list) room s in (t.0, fair_puts t.0 (lasting t.0) (putting t.0) m list room t.1));
      refuses = λ m status room here s. (let t : P room = pop_p (jobs.Refuse m status) room s in (t.0, fair_refuse t.0 (lasting t.0) (line_in m room.lines) m status room t.1));
      closes = λ m stays room quiet here s. (let t : P room = pop_p (jobs.Close m stays) room s in (t.0, fair_ended t.0 (lasting t.0) (line_in m room.lines) m stays room t.1));
    }
