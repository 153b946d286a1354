-- Single steps: the order of filters, what is paused, interim heads, and the last words of contexts.
use Rattle.std.proofs.Common.{◌≡◌, ◌<◌, ℕ, zero, suc, ◌==◌, Bool, true, false, not, ◌&&◌, ◌||◌, List, [], ◌∷◌, ◌++◌, length, map, reverse, refl, ap, ◌∙◌, sym, subst, eq-eqb, arith}
use mathlib.Core.List.{reverse_aux}
use Rattle.std.proofs.lemmas.List.{append-nil, map-append}
use Rattle.std.proofs.lemmas.List.Elements.{All-head, All-tail}
use Rattle.std.proofs.lemmas.Bool.{eqb-true}
use Rattle.std.specs.Prelude.{All, filter, slice_get, slice_set, Option, None, Some, option_map, if◌then◌else◌}
use Rattle.contexts.specs.Creating.{await_done_of}
use Rattle.contexts.specs.Reached.{exchange_at, view_at, with_view}
use Rattle.contexts.specs.declared.parts.Contexts.{Contexts}
use Rattle.contexts.specs.declared.parts.ExchangeEntry.{ExchangeEntry}
use Rattle.contexts.specs.declared.parts.ExchangeView.{ExchangeView}
use Rattle.exchange.specs.declared.types.Exchange.{Exchange}
use Rattle.exchange.specs.declared.types.Filter.{Filter}
use Rattle.exchange.specs.declared.types.Hub.{Hub}
use Rattle.exchange.specs.Heads.{sent_head}
use Rattle.exchange.specs.Leaving.{bytes_sent_to}
use Rattle.exchange.specs.Passing.{pause_held, resume_context, resume_held}
use Rattle.exchange.specs.Maps.{in_view, put_response, response_in, response_map, with_fields}
use Rattle.filter_chain.specs.declared.item.ChainItem.{ChainItem}
use Rattle.filter_chain.specs.declared.item.ChainItem.TheVariants as items
use Rattle.gate_config.specs.declared.entries.PluginEntry.{PluginEntry}
use Rattle.gate_io.specs.declared.event.Side.TheVariants.{Down, Up}
use Rattle.gate_io.specs.declared.event.What.TheVariants as whats
use Rattle.h1_model.specs.Framing.{no_body, head_wire}
use Rattle.h1_model.specs.Head.{Head}
use Rattle.header_maps.specs.Headers.{Headers}
use Rattle.header_maps.specs.Operations.{no_headers}
use Rattle.h1_model.specs.Unread.{Reading, head_part, interim_part}
use Rattle.store_model.specs.Keys.{Keys, accepts, has_room_for, held_at, number_of, put}
use Rattle.store_model.specs.declared.call.Reply.TheVariants.{CasMismatch, Done, Full}
use Rattle.worker_model.specs.Plan.{Plan}
use Rattle.worker_model.specs.Room.{Room}
use Rattle.worker_model.specs.Rooms.{on_context, same, with_contexts}
use Rattle.worker_model.specs.Steps.{await_done, begin_jobs_for, begins_with_head, change_line, end_reading, in_contexts, jobs_of, on_lines, put_jobs, put_trailers, refuse_jobs, with_item, with_read_mark, exchange_reading, is_answered_in, is_open, is_read_in, line_in, read_side, receive_on, side_with_more, take_event, exchange_on, exchange_with_stages, filter_at_plugin, filter_of, filters_by, filters_of, interim_of, is_last, is_live, new_stage, with_jobs_first, last_jobs, begin_exchange_on, head_item, take_part, take_read_item, with_response_head}
use Rattle.worker_model.specs.declared.types.ContextAt.{ContextAt}
use Rattle.worker_model.specs.declared.types.Job.{Job}
use Rattle.worker_model.specs.declared.types.Job.TheVariants as jobs
use Rattle.worker_model.specs.declared.types.Line.{Line}
use Rattle.worker_model.specs.declared.types.ReadBatch.{ReadBatch}
use Rattle.law_bodies.specs.Steps.{asks_of, context_of, FiltersStandInOrder, WhatIsPausedIsHeld, InterimHeadsGoDown, ContextsHaveTheirLastWords, StaleSetsAreRefused, WhatIsReadComesOn}

-- ---- tests

pub is_not : (a b : ℕ) → (a ≡ b → ⊥) → (a == b) ≡ false
is_not a b other = by_test (a == b) refl
  where
    by_test : (c : Bool) → (a == b) ≡ c → (a == b) ≡ false
    by_test true is = absurd (other (eqb-true a b is))
    by_test false is = is

not_same : (a b : Bool) → (a ≡ b → ⊥) → same a b ≡ false
not_same true true other = absurd (other refl)
not_same true false other = refl
not_same false true other = refl
not_same false false other = absurd (other refl)

is_same : (a : Bool) → same a a ≡ true
is_same true = refl
is_same false = refl

-- ---- the order of filters

abbrev plugin_of : Filter → ℕ
plugin_of f = f.plugin

one_filter : (plugin : ℕ) (plugins : List PluginEntry) (place : ℕ) → place < length plugins → map plugin_of (filters_by (option_map (filter_of plugin) (slice_get plugins place))) ≡ plugin ∷ []
one_filter plugin [] place low = absurd (omega (arith, low))
one_filter plugin (entry ∷ plugins) zero low = refl
one_filter plugin (entry ∷ plugins) (suc place) low = one_filter plugin plugins place (omega (arith, low))

route_filters : (plugins : List PluginEntry) (route : List ℕ) → All (λ (p : ℕ). p < length plugins) route → map plugin_of (filters_of plugins route) ≡ route
route_filters plugins [] all = refl
route_filters plugins (p ∷ route) all =
    map-append plugin_of (filters_by (filter_at_plugin plugins p)) (filters_of plugins route)
    ∙ (λ i. one_filter p plugins p (All-head (λ (q : ℕ). q < length plugins) p route all) i ++ route_filters plugins route (All-tail (λ (q : ℕ). q < length plugins) p route all) i)

-- each stage asks its filter's context
asks : (response : Bool) (filters : List Filter) → map asks_of (map (new_stage response) filters) ≡ map context_of filters
asks response [] = refl
asks response (f ∷ filters) = ap (λ (l : List (ℕ × ℕ)). context_of f ∷ l) (asks response filters)

map_back : {A B : Type 0} (f : A → B) (a b : List A) → map f (reverse_aux a b) ≡ reverse_aux (map f a) (map f b)
map_back f [] b = refl
map_back f (x ∷ a) b = map_back f a (x ∷ b)

abbrev entered : List ℕ → Exchange → Exchange
entered dead x = record x {
  request = map (new_stage false) (filter (is_live dead) x.filters);
  response = reverse (map (new_stage true) (filter (is_live dead) x.filters));
  is_entered = true;
}

enters : (dead : List ℕ) (x : Exchange) → x.has_ended ≡ false → x.is_answered ≡ false → exchange_with_stages dead x ≡ entered dead x
enters dead x running unanswered = ap (λ b. if b then x else entered dead x) (λ i. running i || unanswered i)

response_stages : (dead : List ℕ) (x : Exchange) → map asks_of (entered dead x).response ≡ reverse (map asks_of (entered dead x).request)
response_stages dead x =
    let live : List Filter = filter (is_live dead) x.filters in
    map_back asks_of (map (new_stage true) live) [] ∙ ap reverse (asks true live ∙ sym (asks false live))

pub filters_in_order : FiltersStandInOrder
filters_in_order = record {
  filters = route_filters;
  request = λ dead x running unanswered. ap (λ (y : Exchange). map asks_of y.request) (enters dead x running unanswered) ∙ asks false (filter (is_live dead) x.filters);
  response = λ dead x running unanswered.
      subst (λ (y : Exchange). map asks_of y.response ≡ reverse (map asks_of y.request)) (sym (enters dead x running unanswered)) (response_stages dead x);
}

-- ---- what is paused

abbrev acted : Bool → ℕ → ℕ → Exchange → Hub → Bool → Exchange × Hub
acted response k n x hub goes_on = if goes_on then resume_held response n k x (pause_held response k x hub) else (x, pause_held response k x hub)

abbrev let_on : ℕ → ℕ → Bool → Room → Bool → Room
let_on vm context response room own = if own then room else on_context (resume_context vm context response) vm context room

pub paused_held : WhatIsPausedIsHeld
paused_held = record {
  exchange = λ response k value n x hub some. ap (λ b. (acted response k n x hub b).0) (is_not value 0 some);
  sends = λ response k value n x hub some. ap (λ b. (acted response k n x hub b).1.sent) (is_not value 0 some);
  own = λ vm c response room. ap (let_on vm c response room) (λ i. eq-eqb c c refl i && is_same response i);
  other_direction = λ vm c own response room other. ap (let_on vm c response room) (λ i. eq-eqb c c refl i && not_same own response other i);
  other_stream = λ vm c context own response room other. ap (let_on vm context response room) (λ i. is_not c context other i && same own response);
  no_stage = λ vm context response room. refl;
}

-- ---- what is read

and_none : (b : Bool) → (b && false) ≡ false
and_none true = refl
and_none false = refl

-- the jobs of a reading of the server's side
abbrev jobs_for : ReadBatch → Option ℕ → Room → Bool → List Job
jobs_for r status room up = if begins_with_head r.batch && not up then begin_jobs_for r status (exchange_on r.line room) else put_jobs r.line up r.batch ++ refuse_jobs r.line status

up_jobs : (r : ReadBatch) (room : Room) → r.up ≡ true → jobs_of r None room ≡ put_jobs r.line true r.batch
up_jobs r room up =
    ap (jobs_for r None room) up
    ∙ (ap (λ b. if b then begin_jobs_for r None (exchange_on r.line room) else put_jobs r.line true r.batch ++ []) (and_none (begins_with_head r.batch)) ∙ append-nil (put_jobs r.line true r.batch))

put_some : (line : ℕ) (batch : List ChainItem) (item : ChainItem) → put_jobs line true (batch ++ item ∷ []) ≡ jobs.Put line true (batch ++ item ∷ []) ∷ []
put_some line [] item = refl
put_some line (i ∷ batch) item = refl

last_read : (r : ReadBatch) (item : ChainItem) (room : Room) → r.up ≡ true → (end_reading (with_item item r) None room).jobs ≡ jobs.Put r.line true (r.batch ++ item ∷ []) ∷ room.jobs
last_read r item room up = ap (λ (l : List Job). l ++ room.jobs) (up_jobs (with_item item r) room up ∙ put_some r.line r.batch item)

-- bytes of a server come, to an exchange or to none
abbrev came_to : ℕ → List ℕ → Room → Option Exchange → Room
came_to n bytes room e =
    if is_open (exchange_reading e) && not (true && is_answered_in e)
    then (if is_read_in true e then read_side n true (on_lines (side_with_more true false bytes) n room) else on_lines (side_with_more true false bytes) n room)
    else room

-- with that reader, answered or not
abbrev came_with : ℕ → List ℕ → Room → Option Reading → Bool → Room
came_with n bytes room reader answered =
    if is_open reader && not (true && answered)
    then (if not answered then read_side n true (on_lines (side_with_more true false bytes) n room) else on_lines (side_with_more true false bytes) n room)
    else room

at_exchange : (n : ℕ) (bytes : List ℕ) (room : Room) (l : Line) (x : Exchange) → line_in n room.lines ≡ Some l → l.exchange ≡ Some x
    → take_event (whats.Bytes n Up bytes) room ≡ came_with n bytes room x.reader x.is_answered
at_exchange n bytes room l x there some = ap (λ (o : Option Line). receive_on true false bytes n o room) there ∙ ap (came_to n bytes room) some

arrives : (n : ℕ) (bytes : List ℕ) (room : Room) (l : Line) (x : Exchange) (r : Reading) → line_in n room.lines ≡ Some l → l.exchange ≡ Some x → x.reader ≡ Some r → r.ended ≡ false → x.is_answered ≡ false
    → take_event (whats.Bytes n Up bytes) room ≡ read_side n true (on_lines (side_with_more true false bytes) n room)
arrives n bytes room l x r there some reads unended unanswered =
    at_exchange n bytes room l x there some
    ∙ ((λ i. came_with n bytes room (reads i) (unanswered i))
    ∙ ap (λ b. if not b && not (true && false) then read_side n true (on_lines (side_with_more true false bytes) n room) else room) unended)

ended_so : (n : ℕ) (bytes : List ℕ) (room : Room) (l : Line) (x : Exchange) (r : Reading) → line_in n room.lines ≡ Some l → l.exchange ≡ Some x → x.reader ≡ Some r → r.ended ≡ true
    → take_event (whats.Bytes n Up bytes) room ≡ room
ended_so n bytes room l x r there some reads ended =
    at_exchange n bytes room l x there some
    ∙ ((λ i. came_with n bytes room (reads i) x.is_answered)
    ∙ ap (λ b. if not b && not (true && x.is_answered) then (if not x.is_answered then read_side n true (on_lines (side_with_more true false bytes) n room) else on_lines (side_with_more true false bytes) n room) else room) ended)

-- the room when trailers were noted
noted : (change : ℕ → Contexts → Contexts) (o : Option Exchange) (room : Room) → (in_contexts change o room).jobs ≡ room.jobs
noted change None room = refl
noted change (Some x) room = refl

-- ---- a head is kept

item_contexts : (r : ReadBatch) (item : ChainItem) (room : Room) → (take_read_item r item room).hub.contexts ≡ room.hub.contexts
item_contexts r item room = by_last (is_last item)
  where
    marked : Room
    marked = on_lines (change_line (with_read_mark r.up item)) r.line room

    by_last : (b : Bool) → (if b then end_reading (with_item item r) None marked else record marked { reading = Some (with_item item r) }).hub.contexts ≡ room.hub.contexts
    by_last true = refl
    by_last false = refl

set_at : (entries : List (Option ExchangeEntry)) (place : ℕ) (new : Option ExchangeEntry) (e : ExchangeEntry) → exchange_at entries place ≡ Some e → exchange_at (slice_set entries place new) place ≡ new
set_at [] zero new e at = absurd (cc at)
set_at [] (suc place) new e at = absurd (cc at)
set_at (x ∷ entries) zero new e at = refl
set_at (x ∷ entries) (suc place) new e at = set_at entries place new e at

view_put : (entries : List (Option ExchangeEntry)) (place : ℕ) (v w : ExchangeView) → view_at entries place ≡ Some v
    → view_at (slice_set entries place (option_map (with_view w) (exchange_at entries place))) place ≡ Some w
view_put entries place v w there = by_entry (exchange_at entries place) refl there
  where
    by_entry : (o : Option ExchangeEntry) → exchange_at entries place ≡ o → option_map (λ (x : ExchangeEntry). x.view) o ≡ Some v
        → view_at (slice_set entries place (option_map (with_view w) (exchange_at entries place))) place ≡ Some w
    by_entry None at is = absurd (cc is)
    by_entry (Some e) at is =
        ap (λ (o : Option ExchangeEntry). option_map (λ (x : ExchangeEntry). x.view) o)
        (set_at entries place (option_map (with_view w) (exchange_at entries place)) e at ∙ ap (λ (o : Option ExchangeEntry). option_map (with_view w) o) at)

map_put : (fields : Headers) (place : ℕ) (v : ExchangeView) (h : Contexts) → view_at h.exchanges place ≡ Some v → response_map place (put_response fields place h) ≡ fields
map_put fields place v h there =
    let w : ExchangeView = record v { maps = record v.maps { response = Some fields } } in
    ap (λ (o : Option ExchangeView). response_map place (in_view (λ (u : ExchangeView). record u { maps = record u.maps { response = Some fields } }) place o h)) there
    ∙ ap response_in (view_put h.exchanges place v w there)

head_kept : (plan : Plan) (r : ReadBatch) (h : Head) (x : Exchange) (v : ExchangeView) (room : Room) → r.up ≡ true → exchange_on r.line room ≡ Some x → view_at room.hub.contexts.exchanges x.place ≡ Some v
    → response_map x.place (take_part plan r (head_part h) room).hub.contexts ≡ h.fields
head_kept plan r h x v room up on there =
    ap (λ (b : Bool). response_map x.place (if b then take_read_item r (head_item h) later else take_read_item r (head_item h) (begin_exchange_on plan r.line h room)).hub.contexts) up
    ∙ (ap (response_map x.place) (item_contexts r (head_item h) later)
    ∙ (ap (λ (o : Option Exchange). response_map x.place (in_contexts (put_response h.fields) o room).hub.contexts) on ∙ map_put h.fields x.place v room.hub.contexts there))
  where
    later : Room
    later = on_lines (change_line (with_response_head h)) r.line (in_contexts (put_response h.fields) (exchange_on r.line room) room)

pub comes_on : WhatIsReadComesOn
comes_on = record {
  heads = head_kept;
  arrives = arrives;
  ended = ended_so;
  joins = λ plan r bytes room. refl;
  ends = λ plan r bytes room up. last_read r (items.Piece bytes true) (on_lines (change_line (with_read_mark r.up (items.Piece bytes true))) r.line room) up;
  trails = λ plan r fields room up.
      let there : Room = in_contexts (put_trailers r.up (with_fields no_headers fields)) (exchange_on r.line room) room in
      last_read r items.Trailers (on_lines (change_line (with_read_mark r.up items.Trailers)) r.line there) up
      ∙ ap (λ (l : List Job). jobs.Put r.line true (r.batch ++ items.Trailers ∷ []) ∷ l) (noted (put_trailers r.up (with_fields no_headers fields)) (exchange_on r.line room) room);
  rests = λ r item more room up is. ap (λ (l : List Job). l ++ room.jobs) (up_jobs r room up ∙ ap (put_jobs r.line true) is);
  put = λ line batch room. refl;
}

-- ---- interim heads

interim_sent : (plan : Plan) (r : ReadBatch) (h : Head) (x : Exchange) (room : Room) → exchange_on r.line room ≡ Some x
    → (take_part plan r (interim_part h) room).hub.sent ≡ room.hub.sent ++ bytes_sent_to r.line Down (interim_of (Some x) h)
interim_sent plan r h x room on = ap (λ (o : Option Exchange). room.hub.sent ++ bytes_sent_to r.line Down (interim_of o h)) on

abbrev for_client : Head → Bool → List ℕ
for_client h old = if old then [] else head_wire no_body (sent_head h.fields [])

pub interims_down : InterimHeadsGoDown
interims_down = record {
  to_new = λ plan r h x room on new.
      interim_sent plan r h x room on
      ∙ ap (λ (t : List ℕ). room.hub.sent ++ bytes_sent_to r.line Down t) (ap (for_client h) new ∙ sym (append-nil (head_wire no_body (sent_head h.fields []))));
  to_old = λ plan r h x room on old.
      interim_sent plan r h x room on ∙ (ap (λ b. room.hub.sent ++ bytes_sent_to r.line Down (for_client h b)) old ∙ append-nil room.hub.sent);
}

-- ---- the last words of contexts

abbrev finished : ContextAt → Room → Bool → Room
finished c room waits = if waits then await_done c room else with_jobs_first (last_jobs c) room

abbrev waiting_with : ContextAt → Room → Bool → Room
waiting_with c room has = if has then with_contexts (await_done_of c.vm c.context room.hub.contexts) (record room { waits = room.waits ++ c ∷ [] }) else room

pub last_words : ContextsHaveTheirLastWords
last_words = record {
  done = λ c value room some. ap (λ b. (finished c room b).jobs) (is_not value 0 some);
  missing = λ c room. refl;
  dead = λ c room. refl;
  waits = λ c room has. ap (λ b. (waiting_with c room b).waits) has;
  released = λ c at room. refl;
}

-- ---- stores

not_accepted : (d : Keys) (key : List ℕ) (number : ℕ) → (number ≡ 0 → ⊥) → (number ≡ number_of (held_at d key) → ⊥) → accepts d key number ≡ false
not_accepted d key number some other = λ i. is_not number 0 some i || is_not number (number_of (held_at d key)) other i

pub stale_refused : StaleSetsAreRefused
stale_refused = record {
  reply = λ other d key value number some stale. ap (λ b. if b then (if has_room_for other d key value then Done d.next else Full) else CasMismatch) (not_accepted d key number some stale);
  keys = λ other d key value number some stale. ap (λ b. if b && has_room_for other d key value then put d key value else d) (not_accepted d key number some stale);
}
