-- What becomes of an exchange without filters depends on it, its maps and the moment alone.
use Rattle.std.proofs.Common.{◌≡◌, ℕ, zero, suc, ◌-◌, Bool, true, false, not, ◌||◌, List, [], ◌∷◌, ◌++◌, map, reverse, length, drop, refl, ap, ◌∙◌, sym, subst, if◌then◌else◌}
use Rattle.std.proofs.lemmas.List.{append-nil, append_assoc}
use Rattle.std.specs.Prelude.{Option, None, Some, option_map, slice_set, filter}
use Rattle.contexts.specs.declared.parts.Contexts.{Contexts}
use Rattle.contexts.specs.declared.parts.ExchangeEntry as parts
use Rattle.contexts.specs.declared.parts.ExchangeView.{ExchangeView}
use Rattle.contexts.specs.Reached.{exchange_at, view_at, with_view}
use Rattle.exchange.specs.declared.types.Exchange.{Exchange}
use Rattle.exchange.specs.declared.types.Hub.{Hub}
use Rattle.exchange.specs.Answering.{answer_directly, none_held, take_response_put, put_response_item, exchange_with_answer, with_answer, answer_through_stages, is_direct, with_closes, stays_open, answer_open, answer}
use Rattle.exchange.specs.Heads.{sent_head, up_tail, down_tail, connection_fields, with_connection, asked_by, is_head, status_in, is_bare, is_final, passes_filters, closes_line}
use Rattle.exchange.specs.Leaving.{bytes_sent_to, request_framing, send_request_item, out_framing, written_framing, stays_behind, with_out, send_response_item, send_item, send_items}
use Rattle.exchange.specs.Maps.{request_in, response_in, request_trailers_in, response_trailers_in, request_map, request_trailers, response_trailers, in_view, put_response, answer_map, mark, marked}
use Rattle.exchange.specs.Passing as passing
use Rattle.exchange.specs.Passing.{take_put, put_to_chain, put_all_to_chain, put_read_items, takes_nothing}
use Rattle.filter_chain.specs.Chains.{put, without_buffers, reach_count}
use Rattle.filter_chain.specs.declared.item.ChainItem.{ChainItem}
use Rattle.filter_chain.specs.declared.item.ChainItem.TheVariants.{Head, Piece, Trailers}
use Rattle.filter_chain.specs.declared.item.PassOutcome.TheVariants as passed
use Rattle.filter_chain.specs.declared.stage.Stage.{Stage}
use Rattle.gate_io.specs.declared.event.Sent.{Sent}
use Rattle.gate_io.specs.declared.event.Sent.TheVariants.{Connect}
use Rattle.gate_io.specs.declared.event.Side.TheVariants.{Down, Up}
use Rattle.h1_model.specs.Fields.{Pair}
use Rattle.h1_model.specs.Framing.{head_wire, piece_wire, trailer_wire}
use Rattle.h1_model.specs.LocalReply.{local_reply_of}
use Rattle.h1_model.specs.Unread.{new_reading}
use Rattle.worker_model.specs.Rooms.{with_marks}
use Rattle.worker_model.specs.Steps.{is_live, new_stage, exchange_with_stages}
use Rattle.law_lines.proofs.Looks.{IsPlain}

-- ---- views

view_set : (xs : List (Option parts.ExchangeEntry)) (q : ℕ) (v w : ExchangeView) → view_at xs q ≡ Some v → view_at (slice_set xs q (option_map (with_view w) (exchange_at xs q))) q ≡ Some w
view_set [] q v w at = absurd (cc)
view_set (None ∷ xs) zero v w at = absurd (cc)
view_set (Some e ∷ xs) zero v w at = refl
view_set (o ∷ xs) (suc q) v w at = view_set xs q v w at

-- what is at the place that changes
pub view_then : (f : ExchangeView → ExchangeView) (q : ℕ) (h : Contexts) → view_at (in_view f q (view_at h.exchanges q) h).exchanges q ≡ option_map f (view_at h.exchanges q)
view_then f q h = by_view (view_at h.exchanges q) refl
  where
    by_view : (o : Option ExchangeView) → view_at h.exchanges q ≡ o → view_at (in_view f q o h).exchanges q ≡ option_map f o
    by_view None at = at
    by_view (Some v) at = view_set h.exchanges q v (f v) at

-- ---- two exchanges, of which the second has its maps at the place q

module _ (q : ℕ) where
  abbrev pub placed : Exchange → Exchange
  placed x = record x { place = q }

  pub record Meet (x : Exchange) (hub other : Hub) : Type 0 where
    pub moment : other.moment ≡ hub.moment
    pub view : view_at other.contexts.exchanges q ≡ view_at hub.contexts.exchanges x.place

  -- the same became of both, and the same was sent
  pub record Same (hub other : Hub) (p r : Exchange × Hub) : Type 0 where
    pub plain : IsPlain p.0
    pub exchange : r.0 ≡ placed p.0
    pub meet : Meet p.0 p.1 r.1
    pub more : List Sent
    pub sent : p.1.sent ≡ hub.sent ++ more
    pub other_sent : r.1.sent ≡ other.sent ++ more

  pub same_itself : (x : Exchange) (hub other : Hub) → IsPlain x → Meet x hub other → Same hub other (x, hub) (placed x, other)
  same_itself x hub other plain meet = record { plain = plain; exchange = refl; meet = meet; more = []; sent = sym (append-nil hub.sent); other_sent = sym (append-nil other.sent) }

  same_join : (hub other mid mid_other : Hub) (p r : Exchange × Hub) (first : List Sent) → mid.sent ≡ hub.sent ++ first → mid_other.sent ≡ other.sent ++ first → Same mid mid_other p r → Same hub other p r
  same_join hub other mid mid_other p r before a b s = record {
    plain = s.plain;
    exchange = s.exchange;
    meet = s.meet;
    more = before ++ s.more;
    sent = s.sent ∙ (ap (λ (l : List Sent). l ++ s.more) a ∙ append_assoc hub.sent before s.more);
    other_sent = s.other_sent ∙ (ap (λ (l : List Sent). l ++ s.more) b ∙ append_assoc other.sent before s.more);
  }

  abbrev Alike : (Exchange × Hub → Exchange × Hub) → Type 0
  Alike f = (x : Exchange) (hub other : Hub) → IsPlain x → Meet x hub other → Same hub other (f (x, hub)) (f (placed x, other))

  same_then : (f : Exchange × Hub → Exchange × Hub) → Alike f → (hub other : Hub) (p r : Exchange × Hub) → Same hub other p r → Same hub other (f p) (f r)
  same_then f alike hub other p r s =
      same_join hub other p.1 r.1 (f p) (f r) s.more s.sent s.other_sent
      (subst (λ (y : Exchange). Same p.1 r.1 (f p) (f (y, r.1))) (sym s.exchange) (alike p.0 p.1 r.1 s.plain s.meet))

  same_if : (hub other : Hub) (b : Bool) (p r s t : Exchange × Hub) → (b ≡ true → Same hub other p s) → (b ≡ false → Same hub other r t) → Same hub other (if b then p else r) (if b then s else t)
  same_if hub other true p r s t here there = here refl
  same_if hub other false p r s t here there = there refl

  same_as : (hub other : Hub) (p r s t : Exchange × Hub) → p ≡ s → r ≡ t → Same hub other s t → Same hub other p r
  same_as hub other p r s t a b same = subst (λ (y : Exchange × Hub). Same hub other y r) (sym a) (subst (λ (y : Exchange × Hub). Same hub other s y) (sym b) same)

  -- ---- what leaves

  up_alike : (n : ℕ) (item : ChainItem) → Alike (λ (p : Exchange × Hub). send_request_item n item p.0 p.1)
  up_alike n (Head end) x hub other plain meet = record {
    plain = plain;
    exchange =
        ap (λ (o : Option ExchangeView). record x { place = q; reader = Some (new_reading (Some (asked_by (request_in o)))); is_head_up = is_head (request_in o); connection_up = connection_fields (request_in o) })
        meet.view;
    meet = record { moment = meet.moment; view = meet.view };
    more = Connect n ∷ bytes_sent_to n Up (head_wire (request_framing x) (sent_head (request_map x.place hub.contexts) (up_tail x.asked.minor)));
    sent = refl;
    other_sent = ap (λ (o : Option ExchangeView). other.sent ++ (Connect n ∷ bytes_sent_to n Up (head_wire (request_framing x) (sent_head (request_in o) (up_tail x.asked.minor))))) meet.view;
  }
  up_alike n (Piece bytes end) x hub other plain meet = record { plain = plain; exchange = refl; meet = record { moment = meet.moment; view = meet.view }; more = bytes_sent_to n Up (piece_wire (request_framing x) bytes end); sent = refl; other_sent = refl }
  up_alike n Trailers x hub other plain meet = record {
    plain = plain;
    exchange = refl;
    meet = record { moment = meet.moment; view = meet.view };
    more = bytes_sent_to n Up (trailer_wire (request_framing x) (with_connection x.connection_up (request_trailers x.place hub.contexts).pairs));
    sent = refl;
    other_sent = ap (λ (o : Option ExchangeView). other.sent ++ bytes_sent_to n Up (trailer_wire (request_framing x) (with_connection x.connection_up (request_trailers_in o).pairs))) meet.view;
  }

  down_alike : (n : ℕ) (item : ChainItem) → Alike (λ (p : Exchange × Hub). send_response_item n item p.0 p.1)
  down_alike n (Head end) x hub other plain meet = record {
    plain = plain;
    exchange = ap (λ (o : Option ExchangeView). gone o) meet.view;
    meet = record { moment = meet.moment; view = meet.view };
    more = wire (view_at hub.contexts.exchanges x.place) hub.moment;
    sent = refl;
    other_sent = (λ i. other.sent ++ wire (meet.view i) (meet.moment i));
  }
    where
      gone : Option ExchangeView → Exchange
      gone o =
          let y : Exchange = with_out (status_in (response_in o)) (placed x) in
          record y { is_head_out = true; stays = stays_behind y (out_framing y); has_ended = end; connection_down = connection_fields (response_in o) }

      wire : Option ExchangeView → ℕ → List Sent
      wire o now =
          let y : Exchange = with_out (status_in (response_in o)) x in
          bytes_sent_to n Down (head_wire (out_framing y) (sent_head (response_in o) (down_tail (stays_behind y (out_framing y)) now (response_in o))))
  down_alike n (Piece bytes end) x hub other plain meet = record { plain = plain; exchange = refl; meet = record { moment = meet.moment; view = meet.view }; more = bytes_sent_to n Down (piece_wire (written_framing x) bytes end); sent = refl; other_sent = refl }
  down_alike n Trailers x hub other plain meet = record {
    plain = plain;
    exchange = refl;
    meet = record { moment = meet.moment; view = meet.view };
    more = bytes_sent_to n Down (trailer_wire (written_framing x) (with_connection x.connection_down (response_trailers x.place hub.contexts).pairs));
    sent = refl;
    other_sent = ap (λ (o : Option ExchangeView). other.sent ++ bytes_sent_to n Down (trailer_wire (written_framing x) (with_connection x.connection_down (response_trailers_in o).pairs))) meet.view;
  }

  leaves_alike : (response : Bool) (n : ℕ) (item : ChainItem) → Alike (send_item response n item)
  leaves_alike false n item x hub other plain meet =
      same_if hub other x.has_ended (x, hub) (send_request_item n item x hub) (placed x, other) (send_request_item n item (placed x) other) (λ e. same_itself x hub other plain meet) (λ e. up_alike n item x hub other plain meet)
  leaves_alike true n item x hub other plain meet =
      same_if hub other x.has_ended (x, hub) (send_response_item n item x hub) (placed x, other) (send_response_item n item (placed x) other) (λ e. same_itself x hub other plain meet) (λ e. down_alike n item x hub other plain meet)

  left_alike : (response : Bool) (n : ℕ) (items : List ChainItem) → Alike (send_items response n items)
  left_alike response n [] x hub other plain meet = same_itself x hub other plain meet
  left_alike response n (item ∷ items) x hub other plain meet =
      same_then (send_items response n items) (left_alike response n items) hub other (send_item response n item (x, hub)) (send_item response n item (placed x, other)) (leaves_alike response n item x hub other plain meet)

  -- ---- answers

  held_is : (x : Exchange) (hub : Hub) → IsPlain x → none_held x hub ≡ hub
  held_is x hub plain = (λ i. record hub { contexts = without_buffers (without_buffers hub.contexts (plain.1 i)) (plain.2 i) })

  directly_alike : (n status : ℕ) (fields : List Pair) (body : List ℕ) → Alike (λ (p : Exchange × Hub). answer_directly n status fields body p.0 p.1)
  directly_alike n status fields body x hub other plain meet =
      same_if hub other (x.is_head_out || not (is_final status)) _ _ _ _
      (λ e. record {
        plain = (plain.0, refl, refl);
        exchange = refl;
        meet = record { moment = meet.moment; view = viewed };
        more = [];
        sent = sym (append-nil hub.sent);
        other_sent = sym (append-nil other.sent);
      })
      (λ e. record {
        plain = (plain.0, refl, refl);
        exchange = refl;
        meet = record { moment = meet.moment; view = viewed };
        more = bytes_sent_to n Down (local_reply_of status fields body x.asked.is_head (not (stays_open x)) hub.moment);
        sent = refl;
        other_sent = ap (λ (now : ℕ). other.sent ++ bytes_sent_to n Down (local_reply_of status fields body x.asked.is_head (not (stays_open x)) now)) meet.moment;
      })
    where
      viewed : view_at (none_held (placed x) other).contexts.exchanges q ≡ view_at (none_held x hub).contexts.exchanges x.place
      viewed = ap (λ (h : Hub). view_at h.contexts.exchanges q) (held_is (placed x) other plain) ∙ (meet.view ∙ sym (ap (λ (h : Hub). view_at h.contexts.exchanges x.place) (held_is x hub plain)))

  put_none : (h : Contexts) (item : ChainItem) (stages : List Stage) → stages ≡ [] → put h item stages ≡ (passed.Left (item ∷ []), [])
  put_none h item stages is = ap (put h item) is

  puts_down_alike : (n : ℕ) (item : ChainItem) → Alike (put_response_item n item)
  puts_down_alike n item x hub other plain meet =
      same_if hub other x.has_ended (x, hub) _ (placed x, other) _ (λ e. same_itself x hub other plain meet)
      (λ e. same_as hub other _ _ (send_items true n (item ∷ []) (record x { response = [] }, hub)) (send_items true n (item ∷ []) (placed (record x { response = [] }), other))
      (ap (take_response_put n x hub) (put_none hub.contexts item x.response plain.2)) (ap (take_response_put n (placed x) other) (put_none other.contexts item x.response plain.2))
      (left_alike true n (item ∷ []) (record x { response = [] }) hub other (plain.0, plain.1, refl) (record { moment = meet.moment; view = meet.view })))

  none_dropped : (k : ℕ) → ◌≡◌ {A = List Stage} (drop k []) []
  none_dropped zero = refl
  none_dropped (suc k) = refl

  through_alike : (n status : ℕ) (fields : List Pair) (body : List ℕ) → Alike (λ (p : Exchange × Hub). answer_through_stages n status fields body p.0 p.1)
  through_alike n status fields body x hub other plain meet =
      let y : Exchange = exchange_with_answer status body x in
      let k : Hub = with_answer status fields x hub in
      let m : Hub = with_answer status fields (placed x) other in
      same_join hub other k m _ _ [] (sym (append-nil hub.sent)) (sym (append-nil other.sent))
      (same_if k m (is_bare y.told.length) (put_response_item n (Head true) (y, k)) (put_response_item n (Piece body true) (put_response_item n (Head false) (y, k)))
      (put_response_item n (Head true) (placed y, m)) (put_response_item n (Piece body true) (put_response_item n (Head false) (placed y, m)))
      (λ e. puts_down_alike n (Head true) y k m plainly met)
      (λ e. same_then (put_response_item n (Piece body true)) (puts_down_alike n (Piece body true)) k m (put_response_item n (Head false) (y, k)) (put_response_item n (Head false) (placed y, m)) (puts_down_alike n (Head false) y k m plainly met)))
    where
      plainly : IsPlain (exchange_with_answer status body x)
      plainly = (
        plain.0,
        refl,
        ap (λ (s : List Stage). drop (length s - (if x.is_entered then reach_count x.request else 0)) s) plain.2 ∙ none_dropped (0 - (if x.is_entered then reach_count x.request else 0)),
      )

      -- what is put where
      written : (z : Exchange) (h : Hub) → z.request ≡ [] → view_at (with_answer status fields z h).contexts.exchanges z.place ≡ option_map (λ (v : ExchangeView). record v { maps = record v.maps { response = Some (answer_map status fields) } }) (view_at h.contexts.exchanges z.place)
      written z h none =
          ap (λ (s : List Stage). view_at (without_buffers (put_response (answer_map status fields) z.place h.contexts) s).exchanges z.place) none
          ∙ view_then (λ v. record v { maps = record v.maps { response = Some (answer_map status fields) } }) z.place h.contexts

      met : Meet (exchange_with_answer status body x) (with_answer status fields x hub) (with_answer status fields (placed x) other)
      met = record {
        moment = meet.moment;
        view = written (placed x) other plain.1
            ∙ (ap (option_map (λ (v : ExchangeView). record v { maps = record v.maps { response = Some (answer_map status fields) } })) meet.view ∙ sym (written x hub plain.1));
      }

  answer_alike : (n : ℕ) (shut : Bool) (status : ℕ) (fields : List Pair) (body : List ℕ) → Alike (λ (p : Exchange × Hub). answer n shut status fields body p.0 p.1)
  answer_alike n shut status fields body x hub other plain meet =
      let y : Exchange = with_closes shut x in
      let m : Meet y hub other = record { moment = meet.moment; view = meet.view } in
      same_if hub other (x.has_ended || x.is_answered) (x, hub) (answer_open n status fields body y hub) (placed x, other) (answer_open n status fields body (placed y) other) (λ e. same_itself x hub other plain meet)
      (λ e. same_if hub other (is_direct status y) (answer_directly n status fields body y hub) (answer_through_stages n status fields body y hub) (answer_directly n status fields body (placed y) other) (answer_through_stages n status fields body (placed y) other)
      (λ d. directly_alike n status fields body y hub other plain m) (λ d. through_alike n status fields body y hub other plain m))

  pub refused_alike : (n status : ℕ) → Alike (λ (p : Exchange × Hub). passing.refuse_exchange status n p.0 p.1)
  refused_alike n status x hub other plain meet =
      let y : Exchange = with_closes (closes_line status) x in
      let m : Meet y hub other = record { moment = meet.moment; view = meet.view } in
      same_if hub other (x.has_ended || x.is_answered) (x, hub) _ (placed x, other) _ (λ e. same_itself x hub other plain meet)
      (λ e. same_if hub other (passes_filters status) (answer n (closes_line status) status [] [] x hub) (answer_directly n status [] [] y hub) (answer n (closes_line status) status [] [] (placed x) other) (answer_directly n status [] [] (placed y) other)
      (λ d. answer_alike n (closes_line status) status [] [] x hub other plain meet) (λ d. directly_alike n status [] [] y hub other plain m))

  -- ---- what is put

  puts_alike : (response : Bool) (n : ℕ) (item : ChainItem) → Alike (put_to_chain response n item)
  puts_alike false n item x hub other plain meet =
      same_if hub other (takes_nothing false x) (x, hub) _ (placed x, other) _ (λ e. same_itself x hub other plain meet)
      (λ e. same_as hub other _ _ (send_items false n (item ∷ []) (record x { request = [] }, hub)) (send_items false n (item ∷ []) (placed (record x { request = [] }), other))
      (ap (take_put false n x hub) (put_none hub.contexts item x.request plain.1)) (ap (take_put false n (placed x) other) (put_none other.contexts item x.request plain.1))
      (left_alike false n (item ∷ []) (record x { request = [] }) hub other (plain.0, refl, plain.2) (record { moment = meet.moment; view = meet.view })))
  puts_alike true n item x hub other plain meet =
      same_if hub other (takes_nothing true x) (x, hub) _ (placed x, other) _ (λ e. same_itself x hub other plain meet)
      (λ e. same_as hub other _ _ (send_items true n (item ∷ []) (record x { response = [] }, hub)) (send_items true n (item ∷ []) (placed (record x { response = [] }), other))
      (ap (take_put true n x hub) (put_none hub.contexts item x.response plain.2)) (ap (take_put true n (placed x) other) (put_none other.contexts item x.response plain.2))
      (left_alike true n (item ∷ []) (record x { response = [] }) hub other (plain.0, plain.1, refl) (record { moment = meet.moment; view = meet.view })))

  puts_all_alike : (response : Bool) (n : ℕ) (items : List ChainItem) → Alike (put_all_to_chain response n items)
  puts_all_alike response n [] x hub other plain meet = same_itself x hub other plain meet
  puts_all_alike response n (item ∷ items) x hub other plain meet =
      same_then (put_all_to_chain response n items) (puts_all_alike response n items) hub other (put_to_chain response n item (x, hub)) (put_to_chain response n item (placed x, other)) (puts_alike response n item x hub other plain meet)

  pub put_in_alike : (response : Bool) (items : List ChainItem) (n : ℕ) → Alike (λ (p : Exchange × Hub). put_read_items response items n p.0 p.1)
  put_in_alike response items n x hub other plain meet =
      same_if hub other x.is_answered (x, hub) (put_all_to_chain response n items (x, hub)) (placed x, other) (put_all_to_chain response n items (placed x, other)) (λ e. same_itself x hub other plain meet) (λ e. puts_all_alike response n items x hub other plain meet)

  -- stages are made, of no filters, whichever VMs are dead
  pub enters_alike : (dead gone : List ℕ) (x : Exchange) (hub other : Hub) → IsPlain x → Meet x hub other → Same hub other (exchange_with_stages dead x, hub) (exchange_with_stages gone (placed x), other)
  enters_alike dead gone x hub other plain meet = by_test (x.has_ended || x.is_answered)
    where
      made : List ℕ → Exchange
      made d = record x { request = map (new_stage false) (filter (is_live d) x.filters); response = reverse (map (new_stage true) (filter (is_live d) x.filters)); is_entered = true }

      bare : (d : List ℕ) → made d ≡ record x { request = []; response = []; is_entered = true }
      bare d = (λ i. record x { request = map (new_stage false) (filter (is_live d) (plain.0 i)); response = reverse (map (new_stage true) (filter (is_live d) (plain.0 i))); is_entered = true })

      by_test : (b : Bool) → Same hub other ((if b then x else made dead), hub) ((if b then placed x else placed (made gone)), other)
      by_test true = same_itself x hub other plain meet
      by_test false =
          same_as hub other (made dead, hub) (placed (made gone), other) (record x { request = []; response = []; is_entered = true }, hub) (placed (record x { request = []; response = []; is_entered = true }), other)
          (ap (λ (y : Exchange). (y, hub)) (bare dead)) (ap (λ (y : Exchange). (placed y, other)) (bare gone))
          (same_itself (record x { request = []; response = []; is_entered = true }) hub other (plain.0, refl, refl) (record { moment = meet.moment; view = meet.view }))

  -- and then what host calls are told of the exchange goes with it
  pub marked_same : (hub other : Hub) (p r : Exchange × Hub) → Same hub other p r → Same hub other (with_marks p) (with_marks r)
  marked_same hub other p r s = record {
    plain = s.plain;
    exchange = s.exchange;
    meet = record {
      moment = s.meet.moment;
      view =
          ap (λ (y : Exchange). view_at (mark y.is_answered y.has_ended y.is_head_out y.place r.1.contexts).exchanges q) s.exchange
          ∙ (view_then (marked p.0.is_answered p.0.has_ended p.0.is_head_out) q r.1.contexts
          ∙ (ap (option_map (marked p.0.is_answered p.0.has_ended p.0.is_head_out)) s.meet.view ∙ sym (view_then (marked p.0.is_answered p.0.has_ended p.0.is_head_out) p.0.place p.1.contexts)));
    };
    more = s.more;
    sent = s.sent;
    other_sent = s.other_sent;
  }
