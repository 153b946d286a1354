-- One response goes down.
use Rattle.std.proofs.Common.{◌≡◌, ◌⊎◌, inl, inr, ℕ, zero, suc, ◌-◌, ◌==◌, Bool, true, false, not, ◌||◌, ◌&&◌, List, [], ◌∷◌, ◌++◌, length, drop, refl, ap, ◌∙◌, sym, subst}
use Rattle.std.proofs.lemmas.Grind.{flat_map-append}
use Rattle.std.proofs.lemmas.List.{append-nil, append_assoc}
use Rattle.std.specs.Prelude.{if◌then◌else◌, Option, None, Some}
use Rattle.exchange.specs.declared.types.Exchange.{Exchange}
use Rattle.exchange.specs.declared.types.Hub.{Hub}
use Rattle.exchange.specs.Answering.{cut_off, answer_directly, put_response_item, take_response_put, exchange_with_answer, with_answer, answer_through_stages, is_direct, with_closes, answer_open, answer, stays_open}
use Rattle.exchange.specs.Heads.{is_bare, is_by_close, is_final, passes_filters, closes_line, status_in, lacks_body, sent_head, down_tail, may_stay, with_connection}
use Rattle.exchange.specs.Leaving.{bytes_sent_to, hub_with_sent, send_request_item, send_response_item, send_response_head, is_due, out_framing, written_framing, with_out}
use Rattle.exchange.specs.Leaving as leaving
use Rattle.exchange.specs.Maps.{response_map, response_trailers}
use Rattle.exchange.specs.Passing as passing
use Rattle.exchange.specs.Passing.{take_move, take_put, put_to_chain, put_all_to_chain, put_read_items, resume_held, resume_place, stage_of, chain_of, with_chain, pause_held, bypass_vm_stages, bypass_vm_response, bypass_vm, fails_closed, takes_nothing}
use Rattle.filter_chain.specs.Chains.{put, continued, reach_count}
use Rattle.filter_chain.specs.declared.item.ChainItem.{ChainItem}
use Rattle.filter_chain.specs.declared.item.ChainItem.TheVariants.{Head, Piece, Trailers}
use Rattle.filter_chain.specs.declared.stage.Stage.{Stage}
use Rattle.gate_io.specs.declared.event.Sent.{Sent}
use Rattle.gate_io.specs.declared.event.Side.TheVariants.{Down, Up}
use Rattle.h1_model.specs.Fields.{Pair}
use Rattle.h1_model.specs.Framing.{Framing, no_body, OutItem, head_wire, piece_wire, trailer_wire, item_wire, items_wire}
use Rattle.h1_model.specs.Framing as out
use Rattle.law_exchange.specs.Lives.{Deed, comes, responds, acts, resumes, closes, answers, dies, refuses, expires, turns, done_by}
use Rattle.law_exchange.specs.Responses.{down_of, down_bytes, IsBody, IsMessage, response_in, responses_in, IsHeard, IsFairDown, LivesDown, IsReply, IsOutBody, IsOutRest, IsResponse, IsOneResponse, sends_nothing, sends_reply, sends_response, stays_behind, GoesDownOnce, OneResponseGoesDown}
use Rattle.law_exchange.proofs.Ends.{nothing_follows_end}
use Rattle.law_exchange.proofs.Framings.{IsSound, judged_sound, answer_sound, no_chunks_down, bare_unchunked, untold_204, never_both}
use Rattle.law_exchange.proofs.Quiet.{by_bool, reply_to}
use Rattle.law_exchange.proofs.Traffic.{same}
use Rattle.law_exchange.proofs.Ups.{no_stage, puts_is, comes_open}

-- ---- what goes down among what is sent

down_is_all : (n : ℕ) (bytes : List ℕ) → down_bytes n (bytes_sent_to n Down bytes) ≡ bytes
down_is_all n [] = refl
down_is_all n (b ∷ bytes) = append-nil (if n == n then b ∷ bytes else []) ∙ ap (λ c. if c then b ∷ bytes else []) (same n)

up_is_none : (n : ℕ) (bytes : List ℕ) → down_bytes n (bytes_sent_to n Up bytes) ≡ []
up_is_none n [] = refl
up_is_none n (b ∷ bytes) = refl

adds : (n : ℕ) (before more : List Sent) (t : List ℕ) → down_bytes n more ≡ t → down_bytes n (before ++ more) ≡ down_bytes n before ++ t
adds n before more t is = flat_map-append (down_of n) before more ∙ ap (λ s. down_bytes n before ++ s) is

adds_none : (n : ℕ) (before more : List Sent) → down_bytes n more ≡ [] → down_bytes n (before ++ more) ≡ down_bytes n before
adds_none n before more none = adds n before more [] none ∙ append-nil (down_bytes n before)

-- ---- an exchange that runs: whether its head is out

-- whether its client sent HEAD and speaks HTTP/1.0; and, once its head is out, by what its body is written and whether the line stays after it
pub record Kept : Type 0 where
  pub to_head : Bool
  pub old_client : Bool
  pub written : Framing
  pub keeps : Bool

pub record IsOpen (b : Bool) (w : Kept) (x : Exchange) : Type 0 where
  pub request : x.request ≡ []
  pub response : x.response ≡ []
  pub head : x.is_head_out ≡ b
  pub running : x.has_ended ≡ false
  pub unanswered : x.is_answered ≡ false
  pub method : x.asked.is_head ≡ w.to_head
  pub version : x.asked.old_client ≡ w.old_client
  pub framed : b ≡ true → written_framing x ≡ w.written
  pub stays : b ≡ true → x.stays ≡ w.keeps

-- what becomes of it by what brings nothing of the response: it goes on as before; it ends, and its line with it; or it is answered
pub data After (n : ℕ) (b : Bool) (w : Kept) (hub : Hub) (y : Exchange) (after : Hub) : Type 0 where
  runs_on : down_bytes n after.sent ≡ down_bytes n hub.sent → IsOpen b w y → After n b w hub y after
  stops : down_bytes n after.sent ≡ down_bytes n hub.sent → y.has_ended ≡ true → y.stays ≡ false → After n b w hub y after
  replies : b ≡ false → (wire : List ℕ) → down_bytes n after.sent ≡ down_bytes n hub.sent ++ wire → IsReply w.to_head y.stays wire ⊎ IsResponse w.to_head w.old_client y.stays wire true
      → y.has_ended ≡ true → After n b w hub y after

abbrev pub AfterIt : ℕ → Bool → Kept → Hub → Exchange × Hub → Type 0
AfterIt n b w hub p = After n b w hub p.0 p.1

parts : (a b : Bool) → (a || b) ≡ false → (a ≡ false) × (b ≡ false)
parts true b is = absurd (cc)
parts false b is = (refl, is)

untold : (b : Bool) → not b ≡ false → b ≡ true
untold true is = refl
untold false is = absurd (cc)

-- ---- heads and bodies

abbrev no_response : Exchange → Exchange
no_response x = record x { response = [] }

-- the exchange with the status that goes out, and the head that goes down
abbrev outgoing : Exchange → Hub → Exchange
outgoing x hub = with_out (status_in (response_map x.place hub.contexts)) x

-- the line is to stay open after it
abbrev keeps_line : Exchange → Hub → Bool
keeps_line x hub = leaving.stays_behind (outgoing x hub) (out_framing (outgoing x hub))

abbrev head_bytes : Exchange → Hub → List ℕ
head_bytes x hub =
    head_wire (out_framing (outgoing x hub)) (sent_head (response_map x.place hub.contexts) (down_tail (keeps_line x hub) hub.moment (response_map x.place hub.contexts)))

head_adds : (n : ℕ) (end : Bool) (x : Exchange) (hub : Hub) → down_bytes n (send_response_item n (Head end) x hub).1.sent ≡ down_bytes n hub.sent ++ head_bytes x hub
head_adds n end x hub = adds n hub.sent (bytes_sent_to n Down (head_bytes x hub)) (head_bytes x hub) (down_is_all n (head_bytes x hub))

piece_adds : (n : ℕ) (bytes : List ℕ) (end : Bool) (x : Exchange) (hub : Hub)
    → down_bytes n (send_response_item n (Piece bytes end) x hub).1.sent ≡ down_bytes n hub.sent ++ piece_wire (written_framing x) bytes end
piece_adds n bytes end x hub =
    adds n hub.sent (bytes_sent_to n Down (piece_wire (written_framing x) bytes end)) (piece_wire (written_framing x) bytes end) (down_is_all n (piece_wire (written_framing x) bytes end))

trailers_add : (n : ℕ) (x : Exchange) (hub : Hub)
    → down_bytes n (send_response_item n Trailers x hub).1.sent ≡ down_bytes n hub.sent ++ trailer_wire (written_framing x) (with_connection x.connection_down (response_trailers x.place hub.contexts).pairs)
trailers_add n x hub =
    let bytes : List ℕ = trailer_wire (written_framing x) (with_connection x.connection_down (response_trailers x.place hub.contexts).pairs) in
    adds n hub.sent (bytes_sent_to n Down bytes) bytes (down_is_all n bytes)

-- a response of these items after its head
responded : (w : Kept) (bare : Bool) (x : Exchange) (hub : Hub) (items : List OutItem) (whole : Bool) (wire : List ℕ) (stays : Bool)
    → x.asked.is_head ≡ w.to_head → x.asked.old_client ≡ w.old_client → IsSound bare x.told
    → wire ≡ head_bytes x hub ++ items_wire (written_framing (outgoing x hub)) items → IsOutRest bare items whole
    → (whole ≡ true → stays ≡ keeps_line x hub) → (whole ≡ false → stays ≡ false) → IsResponse w.to_head w.old_client stays wire whole
responded w bare x hub items whole wire stays method version sound is rest as_told part =
    let framing : Framing = out_framing (outgoing x hub) in
    let status : Option ℕ = status_in (response_map x.place hub.contexts) in
    subst (λ h. IsResponse h w.old_client stays wire whole) method (subst (λ o. IsResponse x.asked.is_head o stays wire whole) version (record {
      framing = framing;
      written = written_framing (outgoing x hub);
      fields = response_map x.place hub.contexts;
      now = hub.moment;
      keeps = keeps_line x hub;
      bare = bare;
      items = items;
      is = is;
      rest = rest;
      tells = λ awaits. sound.tells x.filters_responses x.asked status awaits;
      follows = λ awaits. ap (λ b. if b then no_body else framing) awaits;
      empty = λ awaits flagged. sound.empty x.filters_responses x.asked status awaits flagged;
      none = λ awaits. ap (λ b. if b then no_body else framing) awaits;
      unchunked = λ awaits. bare_unchunked x.filters_responses x.asked x.told status awaits;
      no_content = λ is_it. untold_204 x.filters_responses x.asked x.told status is_it;
      no_chunks = λ old. no_chunks_down x.filters_responses x.asked x.told status old;
      unending = λ endless. ap (λ b. (may_stay x.asked && not x.closes) && not b) endless ∙ never_both (may_stay x.asked && not x.closes);
      as_told = as_told;
      part = part;
    }))

-- ---- answers

cut : (n : ℕ) (b : Bool) (w : Kept) (x : Exchange) (hub : Hub) → AfterIt n b w hub (cut_off x hub)
cut n b w x hub = stops refl refl refl

directly_after : (n : ℕ) (b : Bool) (w : Kept) (status : ℕ) (fields : List Pair) (body : List ℕ) (x : Exchange) (hub : Hub) → x.is_head_out ≡ b
    → x.asked.is_head ≡ w.to_head → AfterIt n b w hub (answer_directly n status fields body x hub)
directly_after n b w status fields body x hub head method =
    by_bool (AfterIt n b w hub) (x.is_head_out || not (is_final status)) (cut_off x hub) _ (λ e. cut n b w x hub)
    (λ e. replies (sym head ∙ (parts x.is_head_out (not (is_final status)) e).0) (reply_to status fields body x hub)
    (adds n hub.sent (bytes_sent_to n Down (reply_to status fields body x hub)) (reply_to status fields body x hub) (down_is_all n (reply_to status fields body x hub)))
    (inl (subst (λ h. IsReply h (stays_open x) (reply_to status fields body x hub)) method
    (record { status = status; fields = fields; body = body; now = hub.moment; final = untold (is_final status) (parts x.is_head_out (not (is_final status)) e).1; is = refl }))) refl)

puts_down_is : (n : ℕ) (item : ChainItem) (x : Exchange) (hub : Hub) → x.response ≡ [] → x.has_ended ≡ false → put_response_item n item (x, hub) ≡ send_response_item n item (no_response x) hub
puts_down_is n item x hub is running =
    ap (λ b. if b then (x, hub) else take_response_put n x hub (put hub.contexts item x.response)) running
    ∙ (ap (λ (s : List Stage). take_response_put n x hub (put hub.contexts item s)) is
    ∙ ap (λ b. if b then (no_response x, hub) else send_response_item n item (no_response x) hub) running)

whole_head : (n : ℕ) (b : Bool) (w : Kept) (x : Exchange) (hub : Hub) → b ≡ false → x.asked.is_head ≡ w.to_head → x.asked.old_client ≡ w.old_client → IsSound true x.told
    → AfterIt n b w hub (send_response_item n (Head true) x hub)
whole_head n b w x hub none method version sound =
    replies none (head_bytes x hub) (head_adds n true x hub)
    (inr (responded w true x hub [] true (head_bytes x hub) (keeps_line x hub) method version sound (sym (append-nil (head_bytes x hub))) (refl, refl) (λ e. refl) (λ e. absurd (cc)))) refl

head_and_body : (n : ℕ) (b : Bool) (w : Kept) (body : List ℕ) (x : Exchange) (hub : Hub) → b ≡ false → x.asked.is_head ≡ w.to_head → x.asked.old_client ≡ w.old_client
    → IsSound false x.told → AfterIt n b w hub (send_response_item n (Piece body true) (no_response (send_response_item n (Head false) x hub).0) (send_response_item n (Head false) x hub).1)
head_and_body n b w body x hub none method version sound =
    let p : Exchange × Hub = send_response_item n (Head false) x hub in
    let bytes : List ℕ = piece_wire (written_framing (outgoing x hub)) body true in
    replies none (head_bytes x hub ++ bytes)
    (piece_adds n body true (no_response p.0) p.1 ∙ (ap (λ t. t ++ bytes) (head_adds n false x hub) ∙ append_assoc (down_bytes n hub.sent) (head_bytes x hub) bytes))
    (inr (responded w false x hub (out.piece body true ∷ []) true (head_bytes x hub ++ bytes) (keeps_line x hub) method version sound
    (ap (λ t. head_bytes x hub ++ t) (sym (append-nil bytes))) (refl, refl) (λ e. refl) (λ e. absurd (cc)))) refl

none_dropped : (k : ℕ) → ◌≡◌ {A = List Stage} (drop k []) []
none_dropped zero = refl
none_dropped (suc k) = refl

through_after : (n : ℕ) (b : Bool) (w : Kept) (status : ℕ) (fields : List Pair) (body : List ℕ) (x : Exchange) (hub : Hub) → x.response ≡ [] → x.has_ended ≡ false → b ≡ false
    → x.asked.is_head ≡ w.to_head → x.asked.old_client ≡ w.old_client → AfterIt n b w hub (answer_through_stages n status fields body x hub)
through_after n b w status fields body x hub is running none method version =
    by_bool (AfterIt n b w hub) (is_bare y.told.length) (put_response_item n (Head true) (y, k)) (put_response_item n (Piece body true) (put_response_item n (Head false) (y, k)))
    (λ e. subst (AfterIt n b w hub) (sym (puts_down_is n (Head true) y k unfiltered running)) (same_start (send_response_item n (Head true) (no_response y) k) (whole_head n b w (no_response y) k none method version (answer_sound true x.asked status body (λ f. e)))))
    (λ e. subst (AfterIt n b w hub)
    (sym (ap (put_response_item n (Piece body true)) (puts_down_is n (Head false) y k unfiltered running)
    ∙ puts_down_is n (Piece body true) (send_response_item n (Head false) (no_response y) k).0 (send_response_item n (Head false) (no_response y) k).1 refl refl))
    (same_start (send_response_item n (Piece body true) (no_response (send_response_item n (Head false) (no_response y) k).0) (send_response_item n (Head false) (no_response y) k).1) (head_and_body n b w body (no_response y) k none method version
    (answer_sound false x.asked status body (λ f. absurd (cc))))))
  where
    y : Exchange
    y = exchange_with_answer status body x

    k : Hub
    k = with_answer status fields x hub

    unfiltered : y.response ≡ []
    unfiltered = ap (λ (s : List Stage). drop (length s - (if x.is_entered then reach_count x.request else 0)) s) is ∙ none_dropped (0 - (if x.is_entered then reach_count x.request else 0))

    -- what was sent before is the same
    same_start : (p : Exchange × Hub) → AfterIt n b w k p → AfterIt n b w hub p
    same_start p (runs_on a o) = runs_on a o
    same_start p (stops a e s) = stops a e s
    same_start p (replies f wire a one e) = replies f wire a one e

answer_after : (n : ℕ) (b : Bool) (w : Kept) (shut : Bool) (status : ℕ) (fields : List Pair) (body : List ℕ) (x : Exchange) (hub : Hub) → IsOpen b w x
    → AfterIt n b w hub (answer n shut status fields body x hub)
answer_after n b w shut status fields body x hub o =
    by_bool (AfterIt n b w hub) (x.has_ended || x.is_answered) (x, hub) (answer_open n status fields body (with_closes shut x) hub) (λ e. runs_on refl o)
    (λ e. by_bool (AfterIt n b w hub) (is_direct status (with_closes shut x)) (answer_directly n status fields body (with_closes shut x) hub) (answer_through_stages n status fields body (with_closes shut x) hub)
    (λ d. directly_after n b w status fields body (with_closes shut x) hub o.head o.method)
    (λ d. through_after n b w status fields body (with_closes shut x) hub o.response o.running
    (sym o.head ∙ (parts x.is_head_out x.is_headed (parts (x.is_head_out || x.is_headed) (not (is_final status)) d).0).0) o.method o.version))

-- ---- the others

with_none : (n : ℕ) (b : Bool) (w : Kept) (response : Bool) (x : Exchange) (hub : Hub) → IsOpen b w x → AfterIt n b w hub (with_chain response [] x, hub)
with_none n b w true x hub o =
    runs_on refl (record { request = o.request; response = refl; head = o.head; running = o.running; unanswered = o.unanswered; method = o.method; version = o.version; framed = o.framed; stays = o.stays })
with_none n b w false x hub o =
    runs_on refl (record { request = refl; response = o.response; head = o.head; running = o.running; unanswered = o.unanswered; method = o.method; version = o.version; framed = o.framed; stays = o.stays })

none_continues : (response : Bool) (n k : ℕ) (x : Exchange) (hub : Hub) → take_move response n x hub (continued hub.contexts k []) ≡ (with_chain response [] x, hub)
none_continues true n k x hub = refl
none_continues false n k x hub = refl

no_chain : (response b : Bool) (w : Kept) (x : Exchange) → IsOpen b w x → chain_of response x ≡ []
no_chain true b w x o = o.response
no_chain false b w x o = o.request

goes_on_after : (n : ℕ) (b : Bool) (w : Kept) (response : Bool) (k : ℕ) (x : Exchange) (hub : Hub) → IsOpen b w x → AfterIt n b w hub (resume_held response n k x hub)
goes_on_after n b w response k x hub o =
    by_bool (AfterIt n b w hub) x.has_ended (x, hub) (take_move response n x hub (continued hub.contexts k (chain_of response x))) (λ e. runs_on refl o)
    (λ e. subst (AfterIt n b w hub) (sym (ap (λ (s : List Stage). take_move response n x hub (continued hub.contexts k s)) (no_chain response b w x o) ∙ none_continues response n k x hub))
    (with_none n b w response x hub o))

resumes_after : (n : ℕ) (b : Bool) (w : Kept) (response : Bool) (at : Option ℕ) (x : Exchange) (hub : Hub) → IsOpen b w x → AfterIt n b w hub (resume_place response n at x hub)
resumes_after n b w response None x hub o = runs_on refl o
resumes_after n b w response (Some k) x hub o = goes_on_after n b w response k x hub o

acts_after : (n : ℕ) (b : Bool) (w : Kept) (response : Bool) (k value : ℕ) (x : Exchange) (hub : Hub) → IsOpen b w x → AfterIt n b w hub (passing.apply_action response k value n x hub)
acts_after n b w response k value x hub o =
    by_bool (AfterIt n b w hub) (value == 0) (resume_held response n k x (pause_held response k x hub)) (x, pause_held response k x hub)
    (λ e. same_start (resume_held response n k x (pause_held response k x hub)) (goes_on_after n b w response k x (pause_held response k x hub) o)) (λ e. runs_on refl o)
  where
    same_start : (p : Exchange × Hub) → AfterIt n b w (pause_held response k x hub) p → AfterIt n b w hub p
    same_start p (runs_on a o) = runs_on a o
    same_start p (stops a e s) = stops a e s
    same_start p (replies f wire a one e) = replies f wire a one e

none_opens : (vm n : ℕ) (b : Bool) (w : Kept) (x : Exchange) (hub : Hub) → IsOpen b w x → bypass_vm vm n x hub ≡ (x, hub)
none_opens vm n b w x hub o =
    ap (λ (s : List Stage). bypass_vm_response vm n (bypass_vm_stages false vm n (length s) (x, hub))) o.request ∙ ap (λ (s : List Stage). bypass_vm_stages true vm n (length s) (x, hub)) o.response

dies_after : (n : ℕ) (b : Bool) (w : Kept) (vm : ℕ) (x : Exchange) (hub : Hub) → IsOpen b w x → AfterIt n b w hub (passing.lose_vm vm n x hub)
dies_after n b w vm x hub o =
    by_bool (AfterIt n b w hub) x.has_ended (x, hub) (if fails_closed vm x then answer_directly n 503 [] [] x hub else bypass_vm vm n x hub) (λ e. runs_on refl o)
    (λ e. by_bool (AfterIt n b w hub) (fails_closed vm x) (answer_directly n 503 [] [] x hub) (bypass_vm vm n x hub) (λ d. directly_after n b w 503 [] [] x hub o.head o.method)
    (λ d. subst (AfterIt n b w hub) (sym (none_opens vm n b w x hub o)) (runs_on refl o)))

refused_after : (n : ℕ) (b : Bool) (w : Kept) (status : ℕ) (x : Exchange) (hub : Hub) → IsOpen b w x → AfterIt n b w hub (passing.refuse_exchange status n x hub)
refused_after n b w status x hub o =
    by_bool (AfterIt n b w hub) (x.has_ended || x.is_answered) (x, hub)
    (if passes_filters status then answer n (closes_line status) status [] [] x hub else answer_directly n status [] [] (with_closes (closes_line status) x) hub) (λ e. runs_on refl o)
    (λ e. by_bool (AfterIt n b w hub) (passes_filters status) (answer n (closes_line status) status [] [] x hub) (answer_directly n status [] [] (with_closes (closes_line status) x) hub)
    (λ d. answer_after n b w (closes_line status) status [] [] x hub o) (λ d. directly_after n b w status [] [] (with_closes (closes_line status) x) hub o.head o.method))

-- what is read of the request sends nothing down
comes_after : (n : ℕ) (b : Bool) (w : Kept) (items : List ChainItem) (x : Exchange) (hub : Hub) → IsOpen b w x → AfterIt n b w hub (put_all_to_chain false n items (x, hub))
comes_after n b w [] x hub o = runs_on refl o
comes_after n b w (item ∷ items) x hub o =
    subst (λ (p : Exchange × Hub). AfterIt n b w hub (put_all_to_chain false n items p)) (sym (puts_is n item x hub o.request o.running o.unanswered))
    (by_item (λ y mid open_. comes_after n b w items y mid open_) item)
  where
    Later : Type 0
    Later = (y : Exchange) (mid : Hub) → IsOpen b w y → AfterIt n b w mid (put_all_to_chain false n items (y, mid))

    behind : (mid : Hub) (p : Exchange × Hub) → down_bytes n mid.sent ≡ down_bytes n hub.sent → AfterIt n b w mid p → AfterIt n b w hub p
    behind mid p none (runs_on a o) = runs_on (a ∙ none) o
    behind mid p none (stops a e s) = stops (a ∙ none) e s
    behind mid p none (replies f wire a one e) = replies f wire (a ∙ ap (λ t. t ++ wire) none) one e

    by_item : Later → (item : ChainItem) → AfterIt n b w hub (put_all_to_chain false n items (send_request_item n item (no_stage x) hub))
    by_item later (Head end) =
        let p : Exchange × Hub = send_request_item n (Head end) (no_stage x) hub in
        behind p.1 (put_all_to_chain false n items p) (adds_none n hub.sent _ (up_is_none n _))
        (later p.0 p.1 (record { request = refl; response = o.response; head = o.head; running = o.running; unanswered = o.unanswered; method = o.method; version = o.version; framed = o.framed; stays = o.stays }))
    by_item later (Piece bytes end) =
        let p : Exchange × Hub = send_request_item n (Piece bytes end) (no_stage x) hub in
        behind p.1 (put_all_to_chain false n items p) (adds_none n hub.sent _ (up_is_none n _))
        (later p.0 p.1 (record { request = refl; response = o.response; head = o.head; running = o.running; unanswered = o.unanswered; method = o.method; version = o.version; framed = o.framed; stays = o.stays }))
    by_item later Trailers =
        let p : Exchange × Hub = send_request_item n Trailers (no_stage x) hub in
        behind p.1 (put_all_to_chain false n items p) (adds_none n hub.sent _ (up_is_none n _))
        (later p.0 p.1 (record { request = refl; response = o.response; head = o.head; running = o.running; unanswered = o.unanswered; method = o.method; version = o.version; framed = o.framed; stays = o.stays }))

-- ---- what is read of the response

puts_response_is : (n : ℕ) (item : ChainItem) (x : Exchange) (hub : Hub) → x.response ≡ [] → x.has_ended ≡ false → put_to_chain true n item (x, hub) ≡ send_response_item n item (no_response x) hub
puts_response_is n item x hub is running =
    ap (λ b. if b || false then (x, hub) else take_put true n x hub (put hub.contexts item x.response)) running
    ∙ (ap (λ (s : List Stage). take_put true n x hub (put hub.contexts item s)) is
    ∙ ap (λ b. if b then (no_response x, hub) else send_response_item n item (no_response x) hub) running)

front_none : (a b : List ChainItem) → a ++ b ≡ [] → a ≡ []
front_none [] b is = refl
front_none (i ∷ a) b is = absurd (cc)

-- these items of the body go down
record BodyDown (n : ℕ) (w : Kept) (hub : Hub) (later : List ChainItem) (y : Exchange) (after : Hub) : Type 0 where
  outs : List OutItem
  whole : Bool
  more : down_bytes n after.sent ≡ down_bytes n hub.sent ++ items_wire w.written outs
  body : IsOutBody outs whole
  runs : whole ≡ false → IsOpen true w y × IsBody later
  over : whole ≡ true → (y.has_ended ≡ true) × (y.stays ≡ w.keeps)

no_more_items : (n : ℕ) (w : Kept) (hub : Hub) (later : List ChainItem) (p : Exchange × Hub) (i : OutItem) → p.0.has_ended ≡ true → p.0.stays ≡ w.keeps
    → down_bytes n p.1.sent ≡ down_bytes n hub.sent ++ item_wire w.written i → IsOutBody (i ∷ []) true → BodyDown n w hub later p.0 p.1
no_more_items n w hub later p i ended stays more body = record {
  outs = i ∷ [];
  whole = true;
  more = more ∙ ap (λ t. down_bytes n hub.sent ++ t) (sym (append-nil (item_wire w.written i)));
  body = body;
  runs = λ e. absurd (cc);
  over = λ e. (ended, stays);
}

body_down : (n : ℕ) (w : Kept) (items later : List ChainItem) (x : Exchange) (hub : Hub) → IsOpen true w x → IsBody (items ++ later)
    → BodyDown n w hub later (put_all_to_chain true n items (x, hub)).0 (put_all_to_chain true n items (x, hub)).1
body_down n w [] later x hub o is = record {
  outs = [];
  whole = false;
  more = sym (append-nil (down_bytes n hub.sent));
  body = refl;
  runs = λ e. (o, is);
  over = λ e. absurd (cc);
}
body_down n w (Head end ∷ items) later x hub o is = absurd is
body_down n w (Piece bytes false ∷ items) later x hub o is =
    let p : Exchange × Hub = send_response_item n (Piece bytes false) (no_response x) hub in
    let o2 : IsOpen true w p.0 = record { request = o.request; response = refl; head = o.head; running = refl; unanswered = o.unanswered; method = o.method; version = o.version; framed = o.framed; stays = o.stays } in
    let r : BodyDown n w p.1 later (put_all_to_chain true n items p).0 (put_all_to_chain true n items p).1 = body_down n w items later p.0 p.1 o2 is in
    let first : down_bytes n p.1.sent ≡ down_bytes n hub.sent ++ piece_wire w.written bytes false
    = piece_adds n bytes false (no_response x) hub ∙ ap (λ (f : Framing). down_bytes n hub.sent ++ piece_wire f bytes false) (o.framed refl) in
    subst (λ (q : Exchange × Hub). BodyDown n w hub later (put_all_to_chain true n items q).0 (put_all_to_chain true n items q).1) (sym (puts_response_is n (Piece bytes false) x hub o.response o.running))
    (record {
      outs = out.piece bytes false ∷ r.outs;
      whole = r.whole;
      more = r.more ∙ (ap (λ t. t ++ items_wire w.written r.outs) first ∙ append_assoc (down_bytes n hub.sent) (piece_wire w.written bytes false) (items_wire w.written r.outs));
      body = r.body;
      runs = r.runs;
      over = r.over;
    })
body_down n w (Piece bytes true ∷ items) later x hub o is =
    let p : Exchange × Hub = send_response_item n (Piece bytes true) (no_response x) hub in
    subst (λ (l : List ChainItem). BodyDown n w hub later (put_all_to_chain true n (Piece bytes true ∷ l) (x, hub)).0 (put_all_to_chain true n (Piece bytes true ∷ l) (x, hub)).1) (sym (front_none items later is))
    (subst (λ (q : Exchange × Hub). BodyDown n w hub later q.0 q.1) (sym (puts_response_is n (Piece bytes true) x hub o.response o.running))
    (no_more_items n w hub later p (out.piece bytes true) refl (o.stays refl)
    (piece_adds n bytes true (no_response x) hub ∙ ap (λ (f : Framing). down_bytes n hub.sent ++ piece_wire f bytes true) (o.framed refl)) (refl, refl)))
body_down n w (Trailers ∷ items) later x hub o is =
    let p : Exchange × Hub = send_response_item n Trailers (no_response x) hub in
    subst (λ (l : List ChainItem). BodyDown n w hub later (put_all_to_chain true n (Trailers ∷ l) (x, hub)).0 (put_all_to_chain true n (Trailers ∷ l) (x, hub)).1) (sym (front_none items later is))
    (subst (λ (q : Exchange × Hub). BodyDown n w hub later q.0 q.1) (sym (puts_response_is n Trailers x hub o.response o.running))
    (no_more_items n w hub later p (out.trailers (record (response_trailers x.place hub.contexts) { pairs = with_connection x.connection_down (response_trailers x.place hub.contexts).pairs })) refl (o.stays refl)
    (trailers_add n (no_response x) hub ∙ ap (λ (f : Framing). down_bytes n hub.sent ++ trailer_wire f (with_connection x.connection_down (response_trailers x.place hub.contexts).pairs)) (o.framed refl)) (refl, refl)))

-- ---- each thing that happens, but for what is read of the response

pub any_after : (n : ℕ) (b : Bool) (w : Kept) (deed : Deed) (x : Exchange) (hub : Hub) → response_in deed ≡ [] → IsOpen b w x → IsFairDown n deed x hub
    → AfterIt n b w hub (done_by n deed x hub)
any_after n b w (comes items) x hub none o fair = subst (AfterIt n b w hub) (sym (comes_open n items x hub o.unanswered)) (comes_after n b w items x hub o)
any_after n b w (responds items) x hub none o fair =
    subst (λ (l : List ChainItem). AfterIt n b w hub (put_read_items true l n x hub)) (sym none) (by_bool (AfterIt n b w hub) x.is_answered (x, hub) (x, hub) (λ e. runs_on refl o) (λ e. runs_on refl o))
any_after n b w (acts response k value) x hub none o fair = acts_after n b w response k value x hub o
any_after n b w (resumes vm context response) x hub none o fair = resumes_after n b w response (stage_of vm context (chain_of response x)) x hub o
any_after n b w closes x hub none o fair = by_bool (AfterIt n b w hub) x.has_ended (x, hub) (cut_off x hub) (λ e. runs_on refl o) (λ e. cut n b w x hub)
any_after n b w (answers shut status fields body) x hub none o fair = answer_after n b w shut status fields body x hub o
any_after n b w (dies vm) x hub none o fair = dies_after n b w vm x hub o
any_after n b w (refuses status) x hub none o fair = refused_after n b w status x hub o
any_after n b w expires x hub none o fair =
    by_bool (AfterIt n b w hub) (is_due hub.moment x) (answer n false 504 [] [] x hub) (x, hub) (λ e. answer_after n b w false 504 [] [] x hub o) (λ e. runs_on refl o)
any_after n b w (turns y after) x hub none o fair = by_end y.has_ended refl
  where
    by_end : (e : Bool) → y.has_ended ≡ e → After n b w hub y after
    by_end true ended = stops fair.1 ended (fair.0.ends o.running ended)
    by_end false running =
        runs_on fair.1 (record {
          request = fair.0.request;
          response = fair.0.response;
          head = fair.0.head ∙ o.head;
          running = running;
          unanswered = fair.0.answered ∙ o.unanswered;
          method = fair.0.method ∙ o.method;
          version = fair.0.version ∙ o.version;
          framed = λ e. fair.0.framed (o.head ∙ e) ∙ o.framed e;
          stays = λ e. fair.0.stays (o.head ∙ e) running ∙ o.stays e;
        })

-- ---- once it has ended

record Rests (n : ℕ) (x : Exchange) (hub : Hub) (y : Exchange) (after : Hub) : Type 0 where
  sent : down_bytes n after.sent ≡ down_bytes n hub.sent
  ended : y.has_ended ≡ true
  stays : y.stays ≡ x.stays

one_rests : (n : ℕ) (deed : Deed) (x : Exchange) (hub : Hub) → x.has_ended ≡ true → IsFairDown n deed x hub → Rests n x hub (done_by n deed x hub).0 (done_by n deed x hub).1
one_rests n (turns y after) x hub is fair = record { sent = fair.1; ended = (fair.0.ended is).0; stays = (fair.0.ended is).1 }
one_rests n (comes items) x hub is fair =
    let s = nothing_follows_end n (comes items) x hub tt is in
    record { sent = ap (down_bytes n) s.sends; ended = ap (λ (z : Exchange). z.has_ended) s.same ∙ is; stays = ap (λ (z : Exchange). z.stays) s.same }
one_rests n (responds items) x hub is fair =
    let s = nothing_follows_end n (responds items) x hub tt is in
    record { sent = ap (down_bytes n) s.sends; ended = ap (λ (z : Exchange). z.has_ended) s.same ∙ is; stays = ap (λ (z : Exchange). z.stays) s.same }
one_rests n (acts response k value) x hub is fair =
    let s = nothing_follows_end n (acts response k value) x hub tt is in
    record { sent = ap (down_bytes n) s.sends; ended = ap (λ (z : Exchange). z.has_ended) s.same ∙ is; stays = ap (λ (z : Exchange). z.stays) s.same }
one_rests n (resumes vm context response) x hub is fair =
    let s = nothing_follows_end n (resumes vm context response) x hub tt is in
    record { sent = ap (down_bytes n) s.sends; ended = ap (λ (z : Exchange). z.has_ended) s.same ∙ is; stays = ap (λ (z : Exchange). z.stays) s.same }
one_rests n closes x hub is fair =
    let s = nothing_follows_end n closes x hub tt is in
    record { sent = ap (down_bytes n) s.sends; ended = ap (λ (z : Exchange). z.has_ended) s.same ∙ is; stays = ap (λ (z : Exchange). z.stays) s.same }
one_rests n (answers shut status fields body) x hub is fair =
    let s = nothing_follows_end n (answers shut status fields body) x hub tt is in
    record { sent = ap (down_bytes n) s.sends; ended = ap (λ (z : Exchange). z.has_ended) s.same ∙ is; stays = ap (λ (z : Exchange). z.stays) s.same }
one_rests n (dies vm) x hub is fair =
    let s = nothing_follows_end n (dies vm) x hub tt is in
    record { sent = ap (down_bytes n) s.sends; ended = ap (λ (z : Exchange). z.has_ended) s.same ∙ is; stays = ap (λ (z : Exchange). z.stays) s.same }
one_rests n (refuses status) x hub is fair =
    let s = nothing_follows_end n (refuses status) x hub tt is in
    record { sent = ap (down_bytes n) s.sends; ended = ap (λ (z : Exchange). z.has_ended) s.same ∙ is; stays = ap (λ (z : Exchange). z.stays) s.same }
one_rests n expires x hub is fair =
    let s = nothing_follows_end n expires x hub tt is in
    record { sent = ap (down_bytes n) s.sends; ended = ap (λ (z : Exchange). z.has_ended) s.same ∙ is; stays = ap (λ (z : Exchange). z.stays) s.same }

rests : (n : ℕ) (deeds : List Deed) (x y : Exchange) (hub after : Hub) → x.has_ended ≡ true → LivesDown n x hub deeds y after → Rests n x hub y after
rests n [] x y hub after is lives = record {
  sent = ap (λ (k : Hub). down_bytes n k.sent) lives.1;
  ended = ap (λ (z : Exchange). z.has_ended) lives.0 ∙ is;
  stays = ap (λ (z : Exchange). z.stays) lives.0;
}
rests n (deed ∷ deeds) x y hub after is lives =
    let p : Exchange × Hub = done_by n deed x hub in
    let first : Rests n x hub p.0 p.1 = one_rests n deed x hub is lives.0 in
    let later : Rests n p.0 p.1 y after = rests n deeds p.0 y p.1 after first.ended lives.1 in
    record { sent = later.sent ∙ first.sent; ended = later.ended; stays = later.stays ∙ first.stays }

stays_there : (y : Exchange) (s : Bool) → y.has_ended ≡ true → y.stays ≡ s → stays_behind y ≡ s
stays_there y s ended is = ap (λ b. if b then y.stays else false) ended ∙ is

-- ---- after its head

record BodyLives (n : ℕ) (w : Kept) (hub : Hub) (y : Exchange) (after : Hub) : Type 0 where
  outs : List OutItem
  whole : Bool
  more : down_bytes n after.sent ≡ down_bytes n hub.sent ++ items_wire w.written outs
  body : IsOutBody outs whole
  as_told : whole ≡ true → stays_behind y ≡ w.keeps
  part : whole ≡ false → stays_behind y ≡ false

-- nothing more of it goes down
cut_short : (n : ℕ) (w : Kept) (hub : Hub) (y : Exchange) (after : Hub) → down_bytes n after.sent ≡ down_bytes n hub.sent → stays_behind y ≡ false → BodyLives n w hub y after
cut_short n w hub y after none closed = record {
  outs = [];
  whole = false;
  more = none ∙ sym (append-nil (down_bytes n hub.sent));
  body = refl;
  as_told = λ e. absurd (cc);
  part = λ e. closed;
}

abbrev LaterBody : ℕ → Kept → List Deed → Exchange → Hub → Type 0
LaterBody n w deeds y after =
    (x : Exchange) (hub : Hub) → IsOpen true w x → LivesDown n x hub deeds y after → IsBody (responses_in deeds) → BodyLives n w hub y after

-- items of a body, and then what comes later
body_on : (n : ℕ) (w : Kept) (deeds : List Deed) (items : List ChainItem) (p : Exchange × Hub) (y : Exchange) (hub after : Hub) → LaterBody n w deeds y after
    → BodyDown n w hub (responses_in deeds) p.0 p.1 → LivesDown n p.0 p.1 deeds y after → BodyLives n w hub y after
body_on n w deeds items p y hub after go r lives = by_whole r.whole refl
  where
    by_whole : (b : Bool) → r.whole ≡ b → BodyLives n w hub y after
    by_whole true whole =
        let last : Rests n p.0 p.1 y after = rests n deeds p.0 y p.1 after (r.over whole).0 lives in
        record {
          outs = r.outs;
          whole = true;
          more = last.sent ∙ r.more;
          body = subst (IsOutBody r.outs) whole r.body;
          as_told = λ e. stays_there y w.keeps last.ended (last.stays ∙ (r.over whole).1);
          part = λ e. absurd (cc);
        }
    by_whole false unended =
        let on = r.runs unended in
        let later : BodyLives n w p.1 y after = go p.0 p.1 on.0 lives on.1 in
        record {
          outs = r.outs ++ later.outs;
          whole = later.whole;
          more = later.more ∙ (ap (λ t. t ++ items_wire w.written later.outs) r.more ∙ (append_assoc (down_bytes n hub.sent) (items_wire w.written r.outs) (items_wire w.written later.outs)
              ∙ ap (λ t. down_bytes n hub.sent ++ t) (sym (flat_map-append (item_wire w.written) r.outs later.outs))));
          body = bodies_join r.outs later.outs later.whole (subst (IsOutBody r.outs) unended r.body) later.body;
          as_told = later.as_told;
          part = later.part;
        }
      where
        bodies_join : (a c : List OutItem) (whole : Bool) → IsOutBody a false → IsOutBody c whole → IsOutBody (a ++ c) whole
        bodies_join [] c whole first later = later
        bodies_join (out.head h ∷ a) c whole first later = absurd first
        bodies_join (out.interim h ∷ a) c whole first later = absurd first
        bodies_join (out.piece bytes false ∷ a) c whole first later = bodies_join a c whole first later
        bodies_join (out.piece bytes true ∷ a) c whole first later = let e : ◌≡◌ {A = Bool} false true = first.1 in absurd (cc)
        bodies_join (out.trailers fields ∷ a) c whole first later = let e : ◌≡◌ {A = Bool} false true = first.1 in absurd (cc)

answered_open : (n : ℕ) (items : List ChainItem) (x : Exchange) (hub : Hub) → x.is_answered ≡ false → put_read_items true items n x hub ≡ put_all_to_chain true n items (x, hub)
answered_open n items x hub is = ap (λ b. if b then (x, hub) else put_all_to_chain true n items (x, hub)) is

body_lives : (n : ℕ) (w : Kept) (deeds : List Deed) (x y : Exchange) (hub after : Hub) → IsOpen true w x → LivesDown n x hub deeds y after → IsBody (responses_in deeds)
    → BodyLives n w hub y after
body_lives n w [] x y hub after o lives is =
    cut_short n w hub y after (ap (λ (k : Hub). down_bytes n k.sent) lives.1) (ap (λ b. if b then y.stays else false) (ap (λ (z : Exchange). z.has_ended) lives.0 ∙ o.running))
body_lives n w (deed ∷ deeds) x y hub after o lives is = by_deed (λ z k more there body. body_lives n w deeds z y k after more there body) deed lives is
  where
    quietly : LaterBody n w deeds y after → (deed : Deed) → response_in deed ≡ [] → LivesDown n x hub (deed ∷ deeds) y after → IsBody (responses_in deeds) → BodyLives n w hub y after
    quietly go deed none lives is = by_after (any_after n true w deed x hub none o lives.0)
      where
        by_after : AfterIt n true w hub (done_by n deed x hub) → BodyLives n w hub y after
        by_after (runs_on a on) =
            let later : BodyLives n w (done_by n deed x hub).1 y after = go (done_by n deed x hub).0 (done_by n deed x hub).1 on lives.1 is in
            record { outs = later.outs; whole = later.whole; more = later.more ∙ ap (λ t. t ++ items_wire w.written later.outs) a; body = later.body; as_told = later.as_told; part = later.part }
        by_after (stops a e s) =
            let last : Rests n (done_by n deed x hub).0 (done_by n deed x hub).1 y after = rests n deeds (done_by n deed x hub).0 y (done_by n deed x hub).1 after e lives.1 in
            cut_short n w hub y after (last.sent ∙ a) (stays_there y false last.ended (last.stays ∙ s))
        by_after (replies f wire a one e) = absurd (cc)

    by_deed : LaterBody n w deeds y after → (deed : Deed) → LivesDown n x hub (deed ∷ deeds) y after → IsBody (responses_in (deed ∷ deeds)) → BodyLives n w hub y after
    by_deed go (comes items) lives is = quietly go (comes items) refl lives is
    by_deed go (responds items) lives is =
        let p : Exchange × Hub = put_all_to_chain true n items (x, hub) in
        body_on n w deeds items p y hub after go (body_down n w items (responses_in deeds) x hub o is)
        (subst (λ (q : Exchange × Hub). LivesDown n q.0 q.1 deeds y after) (answered_open n items x hub o.unanswered) lives.1)
    by_deed go (acts response k value) lives is = quietly go (acts response k value) refl lives is
    by_deed go (resumes vm context response) lives is = quietly go (resumes vm context response) refl lives is
    by_deed go closes lives is = quietly go closes refl lives is
    by_deed go (answers shut status fields body) lives is = quietly go (answers shut status fields body) refl lives is
    by_deed go (dies vm) lives is = quietly go (dies vm) refl lives is
    by_deed go (refuses status) lives is = quietly go (refuses status) refl lives is
    by_deed go expires lives is = quietly go expires refl lives is
    by_deed go (turns z k) lives is = quietly go (turns z k) refl lives is

-- ---- before its head

-- what goes down from here on, for a client that awaits this
record WentDown (n : ℕ) (w : Kept) (hub : Hub) (y : Exchange) (after : Hub) : Type 0 where
  went : List ℕ
  adds : down_bytes n after.sent ≡ down_bytes n hub.sent ++ went
  one : IsOneResponse w.to_head w.old_client (stays_behind y) went

none_went : (n : ℕ) (w : Kept) (hub : Hub) (y : Exchange) (after : Hub) → down_bytes n after.sent ≡ down_bytes n hub.sent → stays_behind y ≡ false → WentDown n w hub y after
none_went n w hub y after none closed = record { went = []; adds = none ∙ sym (append-nil (down_bytes n hub.sent)); one = sends_nothing refl closed }

abbrev Later : ℕ → Kept → List Deed → Exchange → Hub → Type 0
Later n w deeds y after = (x : Exchange) (hub : Hub) → IsOpen false w x → LivesDown n x hub deeds y after → IsMessage (responses_in deeds) → WentDown n w hub y after

-- a response was answered as a whole
whole_went : (n : ℕ) (w : Kept) (deeds : List Deed) (hub : Hub) (p : Exchange × Hub) (y : Exchange) (after : Hub) (wire : List ℕ) → down_bytes n p.1.sent ≡ down_bytes n hub.sent ++ wire
    → IsReply w.to_head p.0.stays wire ⊎ IsResponse w.to_head w.old_client p.0.stays wire true → p.0.has_ended ≡ true → LivesDown n p.0 p.1 deeds y after → WentDown n w hub y after
whole_went n w deeds hub p y after wire a one e lives =
    let last : Rests n p.0 p.1 y after = rests n deeds p.0 y p.1 after e lives in
    record { went = wire; adds = last.sent ∙ a; one = by_kind (sym (stays_there y p.0.stays last.ended last.stays)) one }
  where
    by_kind : p.0.stays ≡ stays_behind y → IsReply w.to_head p.0.stays wire ⊎ IsResponse w.to_head w.old_client p.0.stays wire true → IsOneResponse w.to_head w.old_client (stays_behind y) wire
    by_kind same_end (inl r) = sends_reply (subst (λ s. IsReply w.to_head s wire) same_end r)
    by_kind same_end (inr r) = sends_response true (subst (λ s. IsResponse w.to_head w.old_client s wire true) same_end r)

-- the head of a response goes down, and what comes after it
head_went : (n : ℕ) (w : Kept) (deeds : List Deed) (items : List ChainItem) (x y : Exchange) (hub after : Hub) → IsOpen false w x → IsSound false x.told → IsBody (items ++ responses_in deeds)
    → LivesDown n (put_all_to_chain true n items (send_response_item n (Head false) (no_response x) hub)).0 (put_all_to_chain true n items (send_response_item n (Head false) (no_response x) hub)).1 deeds y after → WentDown n w hub y after
head_went n w deeds items x y hub after o sound is lives =
    let z : Exchange = no_response x in
    let v : Kept = record { to_head = w.to_head; old_client = w.old_client; written = written_framing (outgoing z hub); keeps = keeps_line z hub } in
    let p : Exchange × Hub = send_response_item n (Head false) z hub in
    let on : IsOpen true v p.0
    = record { request = o.request; response = refl; head = refl; running = refl; unanswered = o.unanswered; method = o.method; version = o.version; framed = λ e. refl; stays = λ e. refl } in
    let b : BodyLives n v p.1 y after
    = body_on n v deeds items (put_all_to_chain true n items p) y p.1 after (λ u k more there body. body_lives n v deeds u y k after more there body)
    (body_down n v items (responses_in deeds) p.0 p.1 on is) lives in
    let wire : List ℕ = head_bytes z hub ++ items_wire v.written b.outs in
    record {
      went = wire;
      adds = b.more ∙ (ap (λ t. t ++ items_wire v.written b.outs) (head_adds n false z hub) ∙ append_assoc (down_bytes n hub.sent) (head_bytes z hub) (items_wire v.written b.outs));
      one = sends_response b.whole (responded w false z hub b.outs b.whole wire (stays_behind y) o.method o.version sound refl b.body b.as_told b.part);
    }

message_lives : (n : ℕ) (w : Kept) (deeds : List Deed) (x y : Exchange) (hub after : Hub) → IsOpen false w x → LivesDown n x hub deeds y after → IsMessage (responses_in deeds)
    → WentDown n w hub y after
message_lives n w [] x y hub after o lives is =
    none_went n w hub y after (ap (λ (k : Hub). down_bytes n k.sent) lives.1) (ap (λ b. if b then y.stays else false) (ap (λ (z : Exchange). z.has_ended) lives.0 ∙ o.running))
message_lives n w (deed ∷ deeds) x y hub after o lives is = by_deed (λ z k more there message. message_lives n w deeds z y k after more there message) deed lives is
  where
    quietly : Later n w deeds y after → (deed : Deed) → response_in deed ≡ [] → LivesDown n x hub (deed ∷ deeds) y after → IsMessage (responses_in deeds) → WentDown n w hub y after
    quietly go deed none lives is = by_after (any_after n false w deed x hub none o lives.0)
      where
        by_after : AfterIt n false w hub (done_by n deed x hub) → WentDown n w hub y after
        by_after (runs_on a on) =
            let later : WentDown n w (done_by n deed x hub).1 y after = go (done_by n deed x hub).0 (done_by n deed x hub).1 on lives.1 is in
            record { went = later.went; adds = later.adds ∙ ap (λ t. t ++ later.went) a; one = later.one }
        by_after (stops a e s) =
            let last : Rests n (done_by n deed x hub).0 (done_by n deed x hub).1 y after = rests n deeds (done_by n deed x hub).0 y (done_by n deed x hub).1 after e lives.1 in
            none_went n w hub y after (last.sent ∙ a) (stays_there y false last.ended (last.stays ∙ s))
        by_after (replies f wire a one e) = whole_went n w deeds hub (done_by n deed x hub) y after wire a one e lives.1

    responds_with : Later n w deeds y after → (items : List ChainItem) → IsHeard items x → LivesDown n (put_all_to_chain true n items (x, hub)).0 (put_all_to_chain true n items (x, hub)).1 deeds y after
        → IsMessage (items ++ responses_in deeds) → WentDown n w hub y after
    responds_with go [] heard lives is = go x hub o lives is
    responds_with go (Head false ∷ items) heard lives is =
        head_went n w deeds items x y hub after o (judged_sound false x.told (heard o.running o.unanswered)) is
        (subst (λ (q : Exchange × Hub). LivesDown n (put_all_to_chain true n items q).0 (put_all_to_chain true n items q).1 deeds y after) (puts_response_is n (Head false) x hub o.response o.running) lives)
    responds_with go (Head true ∷ items) heard lives is =
        let z : Exchange = no_response x in
        let p : Exchange × Hub = send_response_item n (Head true) z hub in
        let one : LivesDown n (put_all_to_chain true n items p).0 (put_all_to_chain true n items p).1 deeds y after
        = subst (λ (q : Exchange × Hub). LivesDown n (put_all_to_chain true n items q).0 (put_all_to_chain true n items q).1 deeds y after) (puts_response_is n (Head true) x hub o.response o.running) lives in
        let two : LivesDown n p.0 p.1 deeds y after
        = subst (λ (l : List ChainItem). LivesDown n (put_all_to_chain true n l p).0 (put_all_to_chain true n l p).1 deeds y after) (front_none items (responses_in deeds) is) one in
        whole_went n w deeds hub p y after (head_bytes z hub) (head_adds n true z hub)
        (inr (responded w true z hub [] true (head_bytes z hub) (keeps_line z hub) o.method o.version (judged_sound true x.told (heard o.running o.unanswered))
        (sym (append-nil (head_bytes z hub))) (refl, refl) (λ e. refl) (λ e. absurd (cc)))) refl two
    responds_with go (Piece bytes end ∷ items) heard lives is = absurd is
    responds_with go (Trailers ∷ items) heard lives is = absurd is

    by_deed : Later n w deeds y after → (deed : Deed) → LivesDown n x hub (deed ∷ deeds) y after → IsMessage (responses_in (deed ∷ deeds)) → WentDown n w hub y after
    by_deed go (comes items) lives is = quietly go (comes items) refl lives is
    by_deed go (responds items) lives is =
        responds_with go items lives.0 (subst (λ (q : Exchange × Hub). LivesDown n q.0 q.1 deeds y after) (answered_open n items x hub o.unanswered) lives.1) is
    by_deed go (acts response k value) lives is = quietly go (acts response k value) refl lives is
    by_deed go (resumes vm context response) lives is = quietly go (resumes vm context response) refl lives is
    by_deed go closes lives is = quietly go closes refl lives is
    by_deed go (answers shut status fields body) lives is = quietly go (answers shut status fields body) refl lives is
    by_deed go (dies vm) lives is = quietly go (dies vm) refl lives is
    by_deed go (refuses status) lives is = quietly go (refuses status) refl lives is
    by_deed go expires lives is = quietly go expires refl lives is
    by_deed go (turns z k) lives is = quietly go (turns z k) refl lives is

pub one_response : OneResponseGoesDown
one_response n x y hub after deeds is lives message =
    let w : Kept = record { to_head = x.asked.is_head; old_client = x.asked.old_client; written = no_body; keeps = false } in
    let all : WentDown n w hub y after
    = message_lives n w deeds x y hub after
    (record {
      request = is.request;
      response = is.response;
      head = is.head;
      running = is.running;
      unanswered = is.unanswered;
      method = refl;
      version = refl;
      framed = λ e. absurd (cc);
      stays = λ e. absurd (cc);
    }) lives message in
    record { went = all.went; adds = all.adds; one = all.one }
