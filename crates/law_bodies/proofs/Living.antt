-- A response goes down as it came, over the life of an exchange without filters.
use Rattle.std.proofs.Common.{◌≡◌, ◌⊎◌, inl, inr, ℕ, ◌==◌, Bool, true, false, ◌||◌, List, [], ◌∷◌, ◌++◌, refl, ap, ◌∙◌, sym, subst, eq-eqb}
use Rattle.std.proofs.lemmas.Grind.{flat_map-append}
use Rattle.std.proofs.lemmas.List.{append-nil, append_assoc}
use Rattle.std.specs.Prelude.{if◌then◌else◌}
use Rattle.exchange.specs.declared.types.Exchange.{Exchange}
use Rattle.exchange.specs.declared.types.Hub.{Hub}
use Rattle.exchange.specs.Heads.{down_tail, lacks_body, sent_head, status_in, with_connection}
use Rattle.exchange.specs.Leaving.{bytes_sent_to, out_framing, send_response_item, stays_behind, with_out, written_framing}
use Rattle.exchange.specs.Maps.{response_map, response_trailers}
use Rattle.exchange.specs.Passing.{put_all_to_chain, put_read_items, put_to_chain, take_put}
use Rattle.filter_chain.specs.Chains.{put}
use Rattle.filter_chain.specs.declared.item.ChainItem.{ChainItem}
use Rattle.filter_chain.specs.declared.item.ChainItem.TheVariants.{Head, Piece, Trailers}
use Rattle.filter_chain.specs.declared.stage.Stage.{Stage}
use Rattle.gate_io.specs.declared.event.Sent.{Sent}
use Rattle.gate_io.specs.declared.event.Side.TheVariants.{Down}
use Rattle.h1_model.specs.Fields.{Pair}
use Rattle.h1_model.specs.Framing.{Framing, no_body, OutItem, head_wire, item_wire, items_wire, piece_wire, trailer_wire}
use Rattle.h1_model.specs.Framing as out
use Rattle.header_maps.specs.Headers.{Headers}
use Rattle.law_exchange.specs.Ends.{IsOwn, StaysEnded}
use Rattle.law_exchange.specs.Lives.{Deed, comes, responds, acts, resumes, closes, answers, dies, refuses, expires, turns, done_by}
use Rattle.law_exchange.specs.Responses.{down_of, down_bytes, IsBody, IsFairDown, IsMessage, IsReply, IsResponse, LivesDown, response_in, responses_in}
use Rattle.law_exchange.proofs.Ends.{nothing_follows_end}
use Rattle.law_exchange.proofs.Responses.{AfterIt, IsOpen, Kept, any_after, replies, runs_on, stops}
use Rattle.law_bodies.specs.Lives.{AreAs, GoesDown, HeadsAre, IsAs, IsHeadOf, LivesExamples, ResponsesGoDownAsTheyCame, sends_answer, sends_nothing, sends_response}

-- ---- what goes down among what is sent

down_is_all : (n : ℕ) (bytes : List ℕ) → down_bytes n (bytes_sent_to n Down bytes) ≡ bytes
down_is_all n [] = refl
down_is_all n (b ∷ bytes) = append-nil (if n == n then b ∷ bytes else []) ∙ ap (λ c. if c then b ∷ bytes else []) (eq-eqb n n refl)

pub adds : (n : ℕ) (before : List Sent) (bytes : List ℕ) → down_bytes n (before ++ bytes_sent_to n Down bytes) ≡ down_bytes n before ++ bytes
adds n before bytes = flat_map-append (down_of n) before (bytes_sent_to n Down bytes) ∙ ap (λ s. down_bytes n before ++ s) (down_is_all n bytes)

never : {A : Type 0} → (b : Bool) → b ≡ true → b ≡ false → A
never b is other = let clash : ◌≡◌ {A = Bool} true false = sym is ∙ other in absurd (cc)

-- ---- once it has ended

abbrev pub Still : ℕ → Hub → Exchange × Hub → Type 0
Still n hub p = (down_bytes n p.1.sent ≡ down_bytes n hub.sent) × (p.0.has_ended ≡ true)

own_still : (n : ℕ) (deed : Deed) (x : Exchange) (hub : Hub) → IsOwn deed → x.has_ended ≡ true → Still n hub (done_by n deed x hub)
own_still n deed x hub own is =
    let s : StaysEnded x hub (done_by n deed x hub).0 (done_by n deed x hub).1 = nothing_follows_end n deed x hub own is in
    (ap (down_bytes n) s.sends, ap (λ (z : Exchange). z.has_ended) s.same ∙ is)

one_still : (n : ℕ) (deed : Deed) (x : Exchange) (hub : Hub) → x.has_ended ≡ true → IsFairDown n deed x hub → Still n hub (done_by n deed x hub)
one_still n (turns y after) x hub is fair = (fair.1, (fair.0.ended is).0)
one_still n (comes items) x hub is fair = own_still n (comes items) x hub tt is
one_still n (responds items) x hub is fair = own_still n (responds items) x hub tt is
one_still n (acts response k value) x hub is fair = own_still n (acts response k value) x hub tt is
one_still n (resumes vm context response) x hub is fair = own_still n (resumes vm context response) x hub tt is
one_still n closes x hub is fair = own_still n closes x hub tt is
one_still n (answers shut status fields body) x hub is fair = own_still n (answers shut status fields body) x hub tt is
one_still n (dies vm) x hub is fair = own_still n (dies vm) x hub tt is
one_still n (refuses status) x hub is fair = own_still n (refuses status) x hub tt is
one_still n expires x hub is fair = own_still n expires x hub tt is

pub all_still : (n : ℕ) (deeds : List Deed) (x y : Exchange) (hub after : Hub) → x.has_ended ≡ true → LivesDown n x hub deeds y after → Still n hub (y, after)
all_still n [] x y hub after is lives = (ap (λ (k : Hub). down_bytes n k.sent) lives.1, ap (λ (z : Exchange). z.has_ended) lives.0 ∙ is)
all_still n (deed ∷ deeds) x y hub after is lives =
    let p : Exchange × Hub = done_by n deed x hub in
    let first : Still n hub (done_by n deed x hub) = one_still n deed x hub is lives.0 in
    let later : Still n p.1 (y, after) = all_still n deeds p.0 y p.1 after first.1 lives.1 in
    (later.0 ∙ first.0, later.1)

-- ---- items of the body that are read together

abbrev pub no_response : Exchange → Exchange
no_response x = record x { response = [] }

pub item_down : (n : ℕ) (item : ChainItem) (x : Exchange) (hub : Hub) → x.response ≡ [] → x.has_ended ≡ false → put_to_chain true n item (x, hub) ≡ send_response_item n item (no_response x) hub
item_down n item x hub is running =
    ap (λ b. if b || false then (x, hub) else take_put true n x hub (put hub.contexts item x.response)) running
    ∙ (ap (λ (s : List Stage). take_put true n x hub (put hub.contexts item s)) is
    ∙ ap (λ b. if b then (no_response x, hub) else send_response_item n item (no_response x) hub) running)

front_none : (a b : List ChainItem) → a ++ b ≡ [] → a ≡ []
front_none [] b is = refl
front_none (i ∷ a) b is = absurd (cc)

-- all of them go down, as they came; then the exchange runs on, with more of the body to come, or it has ended
record BatchDown (n : ℕ) (w : Kept) (hub : Hub) (items later : List ChainItem) (p : Exchange × Hub) : Type 0 where
  outs : List OutItem
  more : down_bytes n p.1.sent ≡ down_bytes n hub.sent ++ items_wire w.written outs
  same : AreAs items outs
  behind : (IsOpen true w p.0 × IsBody later) ⊎ (p.0.has_ended ≡ true)

-- the last item of the body
last_down : (n : ℕ) (w : Kept) (hub : Hub) (later : List ChainItem) (item : ChainItem) (o : OutItem) (p : Exchange × Hub) → down_bytes n p.1.sent ≡ down_bytes n hub.sent ++ item_wire w.written o → IsAs item o → p.0.has_ended ≡ true
    → BatchDown n w hub (item ∷ []) later p
last_down n w hub later item o p more is ended = record {
  outs = o ∷ [];
  more = more ∙ ap (λ t. down_bytes n hub.sent ++ t) (sym (append-nil (item_wire w.written o)));
  same = (is, tt);
  behind = inr ended;
}

batch_down : (n : ℕ) (w : Kept) (items later : List ChainItem) (x : Exchange) (hub : Hub) → IsOpen true w x → IsBody (items ++ later)
    → BatchDown n w hub items later (put_all_to_chain true n items (x, hub))
batch_down n w [] later x hub o is = record { outs = []; more = sym (append-nil (down_bytes n hub.sent)); same = tt; behind = inl (o, is) }
batch_down n w (Head end ∷ items) later x hub o is = absurd is
batch_down n w (Piece bytes false ∷ items) later x hub o is =
    let p : Exchange × Hub = send_response_item n (Piece bytes false) (no_response x) hub in
    let on : IsOpen true w p.0 = record { request = o.request; response = refl; head = o.head; running = refl; unanswered = o.unanswered; method = o.method; version = o.version; framed = o.framed; stays = o.stays } in
    let r : BatchDown n w p.1 items later (put_all_to_chain true n items p) = batch_down n w items later p.0 p.1 on is in
    let first : down_bytes n p.1.sent ≡ down_bytes n hub.sent ++ piece_wire w.written bytes false
    = adds n hub.sent (piece_wire (written_framing x) bytes false) ∙ ap (λ (f : Framing). down_bytes n hub.sent ++ piece_wire f bytes false) (o.framed refl) in
    subst (λ (q : Exchange × Hub). BatchDown n w hub (Piece bytes false ∷ items) later (put_all_to_chain true n items q)) (sym (item_down n (Piece bytes false) x hub o.response o.running))
    (record {
      outs = out.piece bytes false ∷ r.outs;
      more = r.more ∙ (ap (λ t. t ++ items_wire w.written r.outs) first ∙ append_assoc (down_bytes n hub.sent) (piece_wire w.written bytes false) (items_wire w.written r.outs));
      same = ((refl, refl), r.same);
      behind = r.behind;
    })
batch_down n w (Piece bytes true ∷ items) later x hub o is =
    let p : Exchange × Hub = send_response_item n (Piece bytes true) (no_response x) hub in
    subst (λ (l : List ChainItem). BatchDown n w hub (Piece bytes true ∷ l) later (put_all_to_chain true n (Piece bytes true ∷ l) (x, hub))) (sym (front_none items later is))
    (subst (BatchDown n w hub (Piece bytes true ∷ []) later) (sym (item_down n (Piece bytes true) x hub o.response o.running))
    (last_down n w hub later (Piece bytes true) (out.piece bytes true) p
    (adds n hub.sent (piece_wire (written_framing x) bytes true) ∙ ap (λ (f : Framing). down_bytes n hub.sent ++ piece_wire f bytes true) (o.framed refl)) (refl, refl) refl))
batch_down n w (Trailers ∷ items) later x hub o is =
    let p : Exchange × Hub = send_response_item n Trailers (no_response x) hub in
    let pairs = with_connection x.connection_down (response_trailers x.place hub.contexts).pairs in
    subst (λ (l : List ChainItem). BatchDown n w hub (Trailers ∷ l) later (put_all_to_chain true n (Trailers ∷ l) (x, hub))) (sym (front_none items later is))
    (subst (BatchDown n w hub (Trailers ∷ []) later) (sym (item_down n Trailers x hub o.response o.running))
    (last_down n w hub later Trailers (out.trailers (record (response_trailers x.place hub.contexts) { pairs = pairs })) p
    (adds n hub.sent (trailer_wire (written_framing x) pairs) ∙ ap (λ (f : Framing). down_bytes n hub.sent ++ trailer_wire f pairs) (o.framed refl)) tt refl))

-- ---- after its head

record BodyDown (n : ℕ) (w : Kept) (hub : Hub) (came : List ChainItem) (y : Exchange) (after : Hub) : Type 0 where
  body : List ChainItem
  later : List ChainItem
  is : came ≡ body ++ later
  outs : List OutItem
  more : down_bytes n after.sent ≡ down_bytes n hub.sent ++ items_wire w.written outs
  same : AreAs body outs
  all : y.has_ended ≡ false → later ≡ []

-- nothing more goes down
cut_short : (n : ℕ) (w : Kept) (hub : Hub) (came : List ChainItem) (y : Exchange) (after : Hub) → down_bytes n after.sent ≡ down_bytes n hub.sent → (y.has_ended ≡ false → came ≡ []) → BodyDown n w hub came y after
cut_short n w hub came y after none left = record { body = []; later = came; is = refl; outs = []; more = none ∙ sym (append-nil (down_bytes n hub.sent)); same = tt; all = left }

abbrev LaterBody : ℕ → Kept → List Deed → Exchange → Hub → Type 0
LaterBody n w deeds y after = (x : Exchange) (hub : Hub) → IsOpen true w x → LivesDown n x hub deeds y after → IsBody (responses_in deeds) → BodyDown n w hub (responses_in deeds) y after

pub are_join : (a b : List ChainItem) (p q : List OutItem) → AreAs a p → AreAs b q → AreAs (a ++ b) (p ++ q)
are_join [] b [] q first later = later
are_join [] b (o ∷ p) q first later = absurd first
are_join (i ∷ a) b [] q first later = absurd first
are_join (i ∷ a) b (o ∷ p) q first later = (first.0, are_join a b p q first.1 later)

-- these items, and then what comes later
body_on : (n : ℕ) (w : Kept) (deeds : List Deed) (items : List ChainItem) (p : Exchange × Hub) (y : Exchange) (hub after : Hub) → LaterBody n w deeds y after → BatchDown n w hub items (responses_in deeds) p
    → LivesDown n p.0 p.1 deeds y after → BodyDown n w hub (items ++ responses_in deeds) y after
body_on n w deeds items p y hub after go r lives = by_end r.behind
  where
    by_end : (IsOpen true w p.0 × IsBody (responses_in deeds)) ⊎ (p.0.has_ended ≡ true) → BodyDown n w hub (items ++ responses_in deeds) y after
    by_end (inr ended) =
        let last : Still n p.1 (y, after) = all_still n deeds p.0 y p.1 after ended lives in
        record { body = items; later = responses_in deeds; is = refl; outs = r.outs; more = last.0 ∙ r.more; same = r.same; all = λ runs. never y.has_ended last.1 runs }
    by_end (inl on) =
        let b : BodyDown n w p.1 (responses_in deeds) y after = go p.0 p.1 on.0 lives on.1 in
        record {
          body = items ++ b.body;
          later = b.later;
          is = ap (λ (l : List ChainItem). items ++ l) b.is ∙ sym (append_assoc items b.body b.later);
          outs = r.outs ++ b.outs;
          more = b.more ∙ (ap (λ t. t ++ items_wire w.written b.outs) r.more ∙ (append_assoc (down_bytes n hub.sent) (items_wire w.written r.outs) (items_wire w.written b.outs)
              ∙ ap (λ t. down_bytes n hub.sent ++ t) (sym (flat_map-append (item_wire w.written) r.outs b.outs))));
          same = are_join items b.body r.outs b.outs r.same b.same;
          all = b.all;
        }

pub read_open : (n : ℕ) (items : List ChainItem) (x : Exchange) (hub : Hub) → x.is_answered ≡ false → put_read_items true items n x hub ≡ put_all_to_chain true n items (x, hub)
read_open n items x hub is = ap (λ b. if b then (x, hub) else put_all_to_chain true n items (x, hub)) is

body_lives : (n : ℕ) (w : Kept) (deeds : List Deed) (x y : Exchange) (hub after : Hub) → IsOpen true w x → LivesDown n x hub deeds y after → IsBody (responses_in deeds) → BodyDown n w hub (responses_in deeds) y after
body_lives n w [] x y hub after o lives is = cut_short n w hub [] y after (ap (λ (k : Hub). down_bytes n k.sent) lives.1) (λ runs. refl)
body_lives n w (deed ∷ deeds) x y hub after o lives is = by_deed (λ z k more there body. body_lives n w deeds z y k after more there body) deed lives is
  where
    quietly : LaterBody n w deeds y after → (deed : Deed) → response_in deed ≡ [] → LivesDown n x hub (deed ∷ deeds) y after → IsBody (responses_in deeds) → BodyDown n w hub (responses_in deeds) y after
    quietly go deed none lives is = by_after (any_after n true w deed x hub none o lives.0)
      where
        by_after : AfterIt n true w hub (done_by n deed x hub) → BodyDown n w hub (responses_in deeds) y after
        by_after (runs_on a on) =
            let b : BodyDown n w (done_by n deed x hub).1 (responses_in deeds) y after = go (done_by n deed x hub).0 (done_by n deed x hub).1 on lives.1 is in
            record { body = b.body; later = b.later; is = b.is; outs = b.outs; more = b.more ∙ ap (λ t. t ++ items_wire w.written b.outs) a; same = b.same; all = b.all }
        by_after (stops a e s) =
            let last : Still n (done_by n deed x hub).1 (y, after) = all_still n deeds (done_by n deed x hub).0 y (done_by n deed x hub).1 after e lives.1 in
            cut_short n w hub (responses_in deeds) y after (last.0 ∙ a) (λ runs. never y.has_ended last.1 runs)
        by_after (replies f wire a one e) = absurd (cc)

    by_deed : LaterBody n w deeds y after → (deed : Deed) → LivesDown n x hub (deed ∷ deeds) y after → IsBody (responses_in (deed ∷ deeds)) → BodyDown n w hub (responses_in (deed ∷ deeds)) y after
    by_deed go (comes items) lives is = quietly go (comes items) refl lives is
    by_deed go (responds items) lives is =
        let p : Exchange × Hub = put_all_to_chain true n items (x, hub) in
        body_on n w deeds items p y hub after go (batch_down n w items (responses_in deeds) x hub o is)
        (subst (λ (q : Exchange × Hub). LivesDown n q.0 q.1 deeds y after) (read_open n items x hub o.unanswered) lives.1)
    by_deed go (acts response k value) lives is = quietly go (acts response k value) refl lives is
    by_deed go (resumes vm context response) lives is = quietly go (resumes vm context response) refl lives is
    by_deed go closes lives is = quietly go closes refl lives is
    by_deed go (answers shut status fields body) lives is = quietly go (answers shut status fields body) refl lives is
    by_deed go (dies vm) lives is = quietly go (dies vm) refl lives is
    by_deed go (refuses status) lives is = quietly go (refuses status) refl lives is
    by_deed go expires lives is = quietly go expires refl lives is
    by_deed go (turns z k) lives is = quietly go (turns z k) refl lives is

-- ---- where nothing of the response comes

-- and it does not end, nothing goes down
pub quiet_lives : (n : ℕ) (deeds : List Deed) (b : Bool) (w : Kept) (x y : Exchange) (hub after : Hub) → IsOpen b w x → LivesDown n x hub deeds y after → responses_in deeds ≡ [] → y.has_ended ≡ false
    → (down_bytes n after.sent ≡ down_bytes n hub.sent) × IsOpen b w y
quiet_lives n [] b w x y hub after o lives none runs = (ap (λ (k : Hub). down_bytes n k.sent) lives.1, subst (IsOpen b w) (sym lives.0) o)
quiet_lives n (deed ∷ deeds) b w x y hub after o lives none runs =
    by_after (λ on there. quiet_lives n deeds b w (done_by n deed x hub).0 y (done_by n deed x hub).1 after on there (both_none (response_in deed) (responses_in deeds) none).1 runs)
    (any_after n b w deed x hub (both_none (response_in deed) (responses_in deeds) none).0 o lives.0)
  where
    both_none : (c d : List ChainItem) → c ++ d ≡ [] → (c ≡ []) × (d ≡ [])
    both_none [] d is = (refl, is)
    both_none (i ∷ c) d is = absurd (cc)

    ended : (done_by n deed x hub).0.has_ended ≡ true → (down_bytes n after.sent ≡ down_bytes n hub.sent) × IsOpen b w y
    ended e = never y.has_ended (all_still n deeds (done_by n deed x hub).0 y (done_by n deed x hub).1 after e lives.1).1 runs

    by_after : (IsOpen b w (done_by n deed x hub).0 → LivesDown n (done_by n deed x hub).0 (done_by n deed x hub).1 deeds y after → (down_bytes n after.sent ≡ down_bytes n (done_by n deed x hub).1.sent) × IsOpen b w y)
        → AfterIt n b w hub (done_by n deed x hub) → (down_bytes n after.sent ≡ down_bytes n hub.sent) × IsOpen b w y
    by_after go (runs_on a on) = let later = go on lives.1 in (later.0 ∙ a, later.1)
    by_after go (stops a e s) = ended e
    by_after go (replies f wire a one e) = ended e

-- ---- before its head

abbrev pub outgoing : Exchange → Hub → Exchange
outgoing x hub = with_out (status_in (response_map x.place hub.contexts)) x

abbrev pub tail_down : Exchange → Hub → List Pair
tail_down x hub = down_tail (stays_behind (outgoing x hub) (out_framing (outgoing x hub))) hub.moment (response_map x.place hub.contexts)

abbrev pub head_bytes : Exchange → Hub → List ℕ
head_bytes x hub = head_wire (out_framing (outgoing x hub)) (sent_head (response_map x.place hub.contexts) (tail_down x hub))

-- what went down, to a client that awaits this
record MessageDown (n : ℕ) (w : Kept) (Came : Headers → Type 0) (hub : Hub) (came : List ChainItem) (y : Exchange) (after : Hub) : Type 0 where
  went : List ℕ
  adds : down_bytes n after.sent ≡ down_bytes n hub.sent ++ went
  one : (x : Exchange) → x.asked.is_head ≡ w.to_head → x.asked.old_client ≡ w.old_client → GoesDown x Came came y went

none_down : (n : ℕ) (w : Kept) (Came : Headers → Type 0) (hub : Hub) (came : List ChainItem) (y : Exchange) (after : Hub) → down_bytes n after.sent ≡ down_bytes n hub.sent → (y.has_ended ≡ false → came ≡ []) → MessageDown n w Came hub came y after
none_down n w Came hub came y after none left = record { went = []; adds = none ∙ sym (append-nil (down_bytes n hub.sent)); one = λ x method version. sends_nothing refl left }

-- where more is known of the head that came
known_as : (Was Came : Headers → Type 0) (x : Exchange) (came : List ChainItem) (y : Exchange) (wire : List ℕ) → ((head : Headers) → Came head → Was head) → GoesDown x Was came y wire → GoesDown x Came came y wire
known_as Was Came x came y wire more (sends_nothing none left) = sends_nothing none left
known_as Was Came x came y wire more (sends_answer stays one ended) = sends_answer stays one ended
known_as Was Came x came y wire more (sends_response r) = sends_response (record {
  end = r.end;
  body = r.body;
  later = r.later;
  is = r.is;
  framing = r.framing;
  written = r.written;
  fields = r.fields;
  read = λ head is. r.read head (more head is);
  stays = r.stays;
  now = r.now;
  outs = r.outs;
  goes = r.goes;
  same = r.same;
  follows = r.follows;
  all = r.all;
})

-- an answer, to such a client
abbrev Replied : (to_head old_client stays : Bool) → List ℕ → Type 0
Replied to_head old_client stays wire = IsReply to_head stays wire ⊎ IsResponse to_head old_client stays wire true

abbrev Later : ℕ → Kept → List Deed → Exchange → Hub → Type 0
Later n w deeds y after = (x : Exchange) (hub : Hub) → IsOpen false w x → LivesDown n x hub deeds y after → IsMessage (responses_in deeds)
    → MessageDown n w (λ head. HeadsAre head n x hub deeds) hub (responses_in deeds) y after

-- the head of a response, with what went of its body
headed : (w : Kept) (Came : Headers → Type 0) (end : Bool) (x : Exchange) (hub : Hub) (came body later : List ChainItem) (outs : List OutItem) (y z : Exchange) → z.asked.is_head ≡ w.to_head → x.asked.is_head ≡ w.to_head → came ≡ Head end ∷ (body ++ later) → AreAs body outs
    → (y.has_ended ≡ false → later ≡ []) → ((head : Headers) → Came head → response_map x.place hub.contexts ≡ head) → GoesDown z Came came y (head_bytes x hub ++ items_wire (written_framing (outgoing x hub)) outs)
headed w Came end x hub came body later outs y z method own is same all read = sends_response (record {
  end = end;
  body = body;
  later = later;
  is = is;
  framing = out_framing (outgoing x hub);
  written = written_framing (outgoing x hub);
  fields = response_map x.place hub.contexts;
  read = read;
  stays = stays_behind (outgoing x hub) (out_framing (outgoing x hub));
  now = hub.moment;
  outs = outs;
  goes = refl;
  same = same;
  follows = λ awaits.
      ap (λ b. if b then no_body else out_framing (outgoing x hub)) (ap (λ (h : Bool). lacks_body h (status_in (response_map x.place hub.contexts))) (own ∙ sym method) ∙ awaits);
  all = all;
})

message_lives : (n : ℕ) (w : Kept) (deeds : List Deed) (x y : Exchange) (hub after : Hub) → IsOpen false w x → LivesDown n x hub deeds y after → IsMessage (responses_in deeds)
    → MessageDown n w (λ head. HeadsAre head n x hub deeds) hub (responses_in deeds) y after
message_lives n w [] x y hub after o lives is = none_down n w (λ head. HeadsAre head n x hub []) hub [] y after (ap (λ (k : Hub). down_bytes n k.sent) lives.1) (λ runs. refl)
message_lives n w (deed ∷ deeds) x y hub after o lives is = by_deed (λ z k more there message. message_lives n w deeds z y k after more there message) deed lives is
  where
    quietly : Later n w deeds y after → (deed : Deed) → response_in deed ≡ [] → LivesDown n x hub (deed ∷ deeds) y after → IsMessage (responses_in deeds) → MessageDown n w (λ head. HeadsAre head n x hub (deed ∷ deeds)) hub (responses_in deeds) y after
    quietly go deed none lives is = by_after (any_after n false w deed x hub none o lives.0)
      where
        by_after : AfterIt n false w hub (done_by n deed x hub) → MessageDown n w (λ head. HeadsAre head n x hub (deed ∷ deeds)) hub (responses_in deeds) y after
        by_after (runs_on a on) =
            let p : Exchange × Hub = done_by n deed x hub in
            let m : MessageDown n w (λ head. HeadsAre head n p.0 p.1 deeds) p.1 (responses_in deeds) y after = go p.0 p.1 on lives.1 is in
            record {
              went = m.went;
              adds = m.adds ∙ ap (λ t. t ++ m.went) a;
              one = λ z method version. known_as (λ head. HeadsAre head n p.0 p.1 deeds) (λ head. HeadsAre head n x hub (deed ∷ deeds)) z (responses_in deeds) y m.went (λ head h. h.1) (m.one z method version);
            }
        by_after (stops a e s) =
            let last : Still n (done_by n deed x hub).1 (y, after) = all_still n deeds (done_by n deed x hub).0 y (done_by n deed x hub).1 after e lives.1 in
            none_down n w (λ head. HeadsAre head n x hub (deed ∷ deeds)) hub (responses_in deeds) y after (last.0 ∙ a) (λ runs. never y.has_ended last.1 runs)
        by_after (replies f wire a one e) =
            let p : Exchange × Hub = done_by n deed x hub in
            let last : Still n p.1 (y, after) = all_still n deeds p.0 y p.1 after e lives.1 in
            record {
              went = wire;
              adds = last.0 ∙ a;
              one = λ z method version. sends_answer p.0.stays (subst (λ (h : Bool). Replied h z.asked.old_client p.0.stays wire) (sym method) (subst (λ (v : Bool). Replied w.to_head v p.0.stays wire) (sym version) one)) last.1;
            }

    -- what is known of the head that came, of these items that are read and of what comes later
    Reads : List ChainItem → Headers → Type 0
    Reads items head = IsHeadOf head x hub items × HeadsAre head n (put_all_to_chain true n items (x, hub)).0 (put_all_to_chain true n items (x, hub)).1 deeds

    responds_with : Later n w deeds y after → (items : List ChainItem) → LivesDown n (put_all_to_chain true n items (x, hub)).0 (put_all_to_chain true n items (x, hub)).1 deeds y after → IsMessage (items ++ responses_in deeds)
        → MessageDown n w (Reads items) hub (items ++ responses_in deeds) y after
    responds_with go [] lives is =
        let m : MessageDown n w (λ head. HeadsAre head n x hub deeds) hub (responses_in deeds) y after = go x hub o lives is in
        record { went = m.went; adds = m.adds; one = λ z method version. known_as (λ head. HeadsAre head n x hub deeds) (Reads []) z (responses_in deeds) y m.went (λ head h. h.1) (m.one z method version) }
    responds_with go (Head false ∷ items) lives is =
        let z : Exchange = no_response x in
        let p : Exchange × Hub = send_response_item n (Head false) z hub in
        let v : Kept = record { to_head = w.to_head; old_client = w.old_client; written = written_framing (outgoing z hub); keeps = p.0.stays } in
        let on : IsOpen true v p.0
        = record { request = o.request; response = refl; head = refl; running = refl; unanswered = o.unanswered; method = o.method; version = o.version; framed = λ e. refl; stays = λ e. refl } in
        let there : LivesDown n (put_all_to_chain true n items p).0 (put_all_to_chain true n items p).1 deeds y after
        = subst (λ (q : Exchange × Hub). LivesDown n (put_all_to_chain true n items q).0 (put_all_to_chain true n items q).1 deeds y after) (item_down n (Head false) x hub o.response o.running) lives in
        let b : BodyDown n v p.1 (items ++ responses_in deeds) y after
        = body_on n v deeds items (put_all_to_chain true n items p) y p.1 after (λ u k more lives_on body. body_lives n v deeds u y k after more lives_on body) (batch_down n v items (responses_in deeds) p.0 p.1 on is) there in
        record {
          went = head_bytes z hub ++ items_wire (written_framing (outgoing z hub)) b.outs;
          adds = b.more ∙ (ap (λ t. t ++ items_wire v.written b.outs) (adds n hub.sent (head_bytes z hub)) ∙ append_assoc (down_bytes n hub.sent) (head_bytes z hub) (items_wire v.written b.outs));
          one = λ q method version. headed w (Reads (Head false ∷ items)) false z hub (Head false ∷ (items ++ responses_in deeds)) b.body b.later b.outs y q method o.method (ap (λ (l : List ChainItem). Head false ∷ l) b.is) b.same b.all (λ head h. h.0);
        }
    responds_with go (Head true ∷ items) lives is =
        let z : Exchange = no_response x in
        let p : Exchange × Hub = send_response_item n (Head true) z hub in
        let none : items ≡ [] = front_none items (responses_in deeds) is in
        let one_head : LivesDown n (put_all_to_chain true n items p).0 (put_all_to_chain true n items p).1 deeds y after
        = subst (λ (q : Exchange × Hub). LivesDown n (put_all_to_chain true n items q).0 (put_all_to_chain true n items q).1 deeds y after) (item_down n (Head true) x hub o.response o.running) lives in
        let there : LivesDown n p.0 p.1 deeds y after
        = subst (λ (l : List ChainItem). LivesDown n (put_all_to_chain true n l p).0 (put_all_to_chain true n l p).1 deeds y after) none one_head in
        let last : Still n p.1 (y, after) = all_still n deeds p.0 y p.1 after refl there in
        record {
          went = head_bytes z hub ++ items_wire (written_framing (outgoing z hub)) [];
          adds = last.0 ∙ (adds n hub.sent (head_bytes z hub) ∙ ap (λ t. down_bytes n hub.sent ++ t) (sym (append-nil (head_bytes z hub))));
          one = λ q method version. headed w (Reads (Head true ∷ items)) true z hub (Head true ∷ (items ++ responses_in deeds)) [] [] [] y q method o.method (ap (λ (l : List ChainItem). Head true ∷ l) is) tt (λ runs. refl) (λ head h. h.0);
        }
    responds_with go (Piece bytes end ∷ items) lives is = absurd is
    responds_with go (Trailers ∷ items) lives is = absurd is

    by_deed : Later n w deeds y after → (deed : Deed) → LivesDown n x hub (deed ∷ deeds) y after → IsMessage (responses_in (deed ∷ deeds)) → MessageDown n w (λ head. HeadsAre head n x hub (deed ∷ deeds)) hub (responses_in (deed ∷ deeds)) y after
    by_deed go (comes items) lives is = quietly go (comes items) refl lives is
    by_deed go (responds items) lives is =
        let m : MessageDown n w (Reads items) hub (items ++ responses_in deeds) y after
        = responds_with go items (subst (λ (q : Exchange × Hub). LivesDown n q.0 q.1 deeds y after) (read_open n items x hub o.unanswered) lives.1) is in
        record {
          went = m.went;
          adds = m.adds;
          one = λ z method version. known_as (Reads items) (λ head. HeadsAre head n x hub (responds items ∷ deeds)) z (items ++ responses_in deeds) y m.went
              (λ head h. (h.0, subst (λ (q : Exchange × Hub). HeadsAre head n q.0 q.1 deeds) (read_open n items x hub o.unanswered) h.1)) (m.one z method version);
        }
    by_deed go (acts response k value) lives is = quietly go (acts response k value) refl lives is
    by_deed go (resumes vm context response) lives is = quietly go (resumes vm context response) refl lives is
    by_deed go closes lives is = quietly go closes refl lives is
    by_deed go (answers shut status fields body) lives is = quietly go (answers shut status fields body) refl lives is
    by_deed go (dies vm) lives is = quietly go (dies vm) refl lives is
    by_deed go (refuses status) lives is = quietly go (refuses status) refl lives is
    by_deed go expires lives is = quietly go expires refl lives is
    by_deed go (turns z k) lives is = quietly go (turns z k) refl lives is

pub responses_go_down : ResponsesGoDownAsTheyCame
responses_go_down n x y hub after deeds is lives message =
    let w : Kept = record { to_head = x.asked.is_head; old_client = x.asked.old_client; written = no_body; keeps = false } in
    let m : MessageDown n w (λ head. HeadsAre head n x hub deeds) hub (responses_in deeds) y after
    = message_lives n w deeds x y hub after
    (record {
      request = is.request;
      response = is.response;
      head = is.head;
      running = is.running;
      unanswered = is.unanswered;
      method = refl;
      version = refl;
      framed = λ e. absurd (cc);
      stays = λ e. absurd (cc);
    }) lives message in
    (m.went, m.adds, m.one x refl refl)

-- ---- worked

pub lives_examples : LivesExamples
lives_examples = record {
  other = λ fields x hub no is. no is.0;
  head = λ fields x hub is. (is, tt);
  silent = λ fields x hub. (tt, (tt, tt));
  backward = λ same. apart same.0.0;
}
  where
    apart : ◌≡◌ {A = List ℕ} (2 ∷ 1 ∷ []) (1 ∷ 2 ∷ []) → ⊥
    apart is = cc is
