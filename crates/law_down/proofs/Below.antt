-- What went down of an exchange, whatever filters it has: the items of one response, from its head on.
use Rattle.std.proofs.Common.{◌≡◌, ◌⊎◌, inl, inr, ℕ, Bool, true, false, not, ◌&&◌, List, [], ◌∷◌, ◌++◌, map, refl, ap, ◌∙◌, sym, subst}
use Rattle.std.proofs.lemmas.Grind.{flat_map-append}
use Rattle.std.proofs.lemmas.List.{append-nil, append_assoc, map-append}
use Rattle.std.specs.Prelude.{if◌then◌else◌, Option}
use Rattle.exchange.specs.declared.types.Exchange.{Exchange}
use Rattle.exchange.specs.declared.types.Hub.{Hub}
use Rattle.exchange.specs.declared.types.Response.{Response}
use Rattle.exchange.specs.Heads.{status_in, sent_head, down_tail, may_stay, with_connection}
use Rattle.exchange.specs.Leaving.{bytes_sent_to, send_response_item, send_item, send_items, out_framing, written_framing, with_out}
use Rattle.exchange.specs.Leaving as leaving
use Rattle.exchange.specs.Maps.{response_map, response_trailers}
use Rattle.law_exchange.specs.Responses.{IsOutBody, IsOutRest, IsResponse, IsOneResponse, sends_nothing, sends_response}
use Rattle.law_exchange.specs.Traffic.{byte}
use Rattle.law_exchange.proofs.Framings.{IsSound as Suits, no_chunks_down, bare_unchunked, untold_204, never_both}
use Rattle.filter_chain.specs.declared.item.ChainItem.{ChainItem}
use Rattle.filter_chain.specs.declared.item.ChainItem.TheVariants.{Head, Piece, Trailers}
use Rattle.filter_chain.specs.declared.item.Held.{Held}
use Rattle.filter_chain.specs.declared.item.Held.TheVariants as held
use Rattle.filter_chain.specs.declared.stage.Stage.{Stage}
use Rattle.gate_io.specs.declared.event.Side.TheVariants.{Down}
use Rattle.h1_model.specs.Framing.{Framing, no_body, OutItem, head_wire, piece_wire, trailer_wire, item_wire, items_wire}
use Rattle.h1_model.specs.Framing as out
use Rattle.law_lines.specs.Clients.{client_traffic}
use Rattle.law_lines.proofs.Phases.{Phase, fresh, inside, bare, whole, broken, step, run, IsSound, sound_run, holds, chain, sound_chain, AreIdle}
use Rattle.law_down.proofs.Sending.{grows_by, client_down}

-- ---- phases after a head, with an end flag or without

-- this phase, or none, is behind such a head
abbrev pub Shape : Bool → Phase → Type 0
Shape end fresh = ⊥
Shape true inside = ⊥
Shape false inside = Unit {0}
Shape true bare = Unit {0}
Shape false bare = ⊥
Shape true whole = ⊥
Shape false whole = Unit {0}
Shape end broken = Unit {0}

shape_step : (end : Bool) (p : Phase) (i : ChainItem) → Shape end p → Shape end (step p i)
shape_step true fresh i s = absurd s
shape_step false fresh i s = absurd s
shape_step true inside i s = absurd s
shape_step false inside (Head e) s = tt
shape_step false inside (Piece bytes true) s = tt
shape_step false inside (Piece bytes false) s = tt
shape_step false inside Trailers s = tt
shape_step true bare (Head e) s = tt
shape_step true bare (Piece bytes e) s = tt
shape_step true bare Trailers s = tt
shape_step false bare i s = absurd s
shape_step true whole i s = absurd s
shape_step false whole (Head e) s = tt
shape_step false whole (Piece bytes e) s = tt
shape_step false whole Trailers s = tt
shape_step true broken (Head e) s = tt
shape_step true broken (Piece bytes e) s = tt
shape_step true broken Trailers s = tt
shape_step false broken (Head e) s = tt
shape_step false broken (Piece bytes e) s = tt
shape_step false broken Trailers s = tt

pub shape_run : (end : Bool) (p : Phase) (items : List ChainItem) → Shape end p → Shape end (run p items)
shape_run end p [] s = s
shape_run end p (i ∷ items) s = shape_run end (step p i) items (shape_step end p i s)

shape_holds : (end : Bool) (p : Phase) (h : Held) → Shape end p → Shape end (holds p h)
shape_holds end p held.Nothing s = s
shape_holds end p (held.Head e) s = shape_step end p (Head e) s
shape_holds end p (held.Body e) s = shape_step end p (Piece [] e) s
shape_holds end p (held.Trailers body) s = shape_step end p Trailers s

shape_chain : (end : Bool) (p : Phase) (ss : List Stage) → Shape end p → Shape end (chain p ss)
shape_chain end p [] s = s
shape_chain end p (t ∷ ss) s = shape_run end (holds (chain p ss) t.held) t.waiting (shape_holds end (chain p ss) t.held (shape_chain end p ss s))

pub shape_headed : (end : Bool) → Shape end (step fresh (Head end))
shape_headed true = tt
shape_headed false = tt

-- whether its head has an end flag
abbrev pub flag : Phase → Bool
flag fresh = false
flag inside = false
flag bare = true
flag whole = false
flag broken = false

pub shape_flag : (end : Bool) (p : Phase) → Shape end p → IsSound p → flag p ≡ end
shape_flag true fresh s is = absurd s
shape_flag false fresh s is = absurd s
shape_flag true inside s is = absurd s
shape_flag false inside s is = refl
shape_flag true bare s is = refl
shape_flag false bare s is = absurd s
shape_flag true whole s is = absurd s
shape_flag false whole s is = refl
shape_flag end broken s is = absurd is

pub shape_of : (p : Phase) → (p ≡ fresh → ⊥) → Shape (flag p) p
shape_of fresh some = absurd (some refl)
shape_of inside some = tt
shape_of bare some = tt
shape_of whole some = tt
shape_of broken some = tt

-- what is kept of the head that came last suits every client
abbrev pub Told : Phase → Response → Type 0
Told i r = (i ≡ fresh) ⊎ Suits (flag i) r

told_as : (end : Bool) (i : Phase) (r : Response) → Shape end i → IsSound i → Told i r → Suits end r
told_as end i r s sound (inl is) = absurd (subst (Shape end) is s)
told_as end i r s sound (inr suits) = subst (λ b. Suits b r) (shape_flag end i s sound) suits

-- ---- what was sent

-- A response of which the head went down, with an end flag or without, and items as far as they went, framed and written so, after which the line is to stay or not.
pub record IsSent (to_head old_client end full stays : Bool) (t : List ℕ) (written : Framing) (keeps : Bool) : Type 0 where
  pub response : IsResponse to_head old_client stays t full
  pub writes : response.written ≡ written
  pub keeping : response.keeps ≡ keeps
  pub flagged : response.bare ≡ end

-- no last item
abbrev pub IsFront : (to_head old_client : Bool) → List ℕ → Framing → Bool → Type 0
IsFront to_head old_client t written keeps = IsSent to_head old_client false false false t written keeps

-- nothing, where no head is out; a head and items of a body, where it is and the exchange runs; or what it ended with
pub data SentDown (x : Exchange) (t : List ℕ) : Type 0 where
  nothing : x.is_head_out ≡ false → x.has_ended ≡ false → t ≡ [] → SentDown x t
  running : x.is_head_out ≡ true → x.has_ended ≡ false → IsFront x.asked.is_head x.asked.old_client t (written_framing x) x.stays → SentDown x t
  at_end : x.has_ended ≡ true → IsOneResponse x.asked.is_head x.asked.old_client x.stays t → SentDown x t

-- how far the response went down
abbrev pub at : Exchange → Phase
at x = if x.is_head_out then inside else fresh

-- WHAT WENT DOWN OF AN EXCHANGE is this, where some items have left its stages and are still to be sent, and after what came to the chain of its response the
-- phase is this
pub record Below (x : Exchange) (going : List ChainItem) (t : List ℕ) (i : Phase) : Type 0 where
  pub sent : SentDown x t
  pub through : x.has_ended ≡ false → chain (run (at x) going) x.response ≡ i
  pub idle : x.has_ended ≡ false → AreIdle x.response
  pub sound : IsSound i
  pub unentered : x.has_ended ≡ false → x.is_entered ≡ false → x.response ≡ []
  pub unheard : x.has_ended ≡ false → x.is_answered ≡ false → x.is_headed ≡ false → i ≡ fresh
  pub told : x.has_ended ≡ false → Told i x.told

pub clash : {A : Type 0} (b : Bool) → b ≡ true → b ≡ false → A
clash b is other = absurd (cc)

pub ended_below : (x : Exchange) (going : List ChainItem) (t : List ℕ) (i : Phase) → x.has_ended ≡ true → IsSound i → SentDown x t → Below x going t i
ended_below x going t i ended sound sent = record {
  sent = sent;
  through = λ e. clash x.has_ended ended e;
  idle = λ e. clash x.has_ended ended e;
  sound = sound;
  unentered = λ e f. clash x.has_ended ended e;
  unheard = λ e a h. clash x.has_ended ended e;
  told = λ e. clash x.has_ended ended e;
}

-- it becomes the other, and the phase is this then
pub record Onto (n : ℕ) (hub : Hub) (q : Exchange × Hub) (going : List ChainItem) (t : List ℕ) (k : Phase) : Type 0 where
  pub more : List ℕ
  pub grows : client_traffic n q.1.sent ≡ client_traffic n hub.sent ++ map byte more
  pub goes : Below q.0 going (t ++ more) k

pub onto_itself : (n : ℕ) (p : Exchange × Hub) (t : List ℕ) (i : Phase) → Below p.0 [] t i → Onto n p.1 p [] t i
onto_itself n p t i u = record { more = []; grows = sym (append-nil (client_traffic n p.1.sent)); goes = subst (λ (s : List ℕ). Below p.0 [] s i) (sym (append-nil t)) u }

pub onto_then : (n : ℕ) (hub : Hub) (q r : Exchange × Hub) (g : List ChainItem) (t : List ℕ) (i j : Phase) → (o : Onto n hub q g t i) → Onto n q.1 r [] (t ++ o.more) j → Onto n hub r [] t j
onto_then n hub q r g t i j o l = record {
  more = o.more ++ l.more;
  grows =
      l.grows
      ∙ (ap (λ s. s ++ map byte l.more) o.grows ∙ (append_assoc (client_traffic n hub.sent) (map byte o.more) (map byte l.more) ∙ ap (λ s. client_traffic n hub.sent ++ s) (sym (map-append byte o.more l.more))));
  goes = subst (λ (s : List ℕ). Below r.0 [] s j) (append_assoc t o.more l.more) l.goes;
}

-- ---- what goes down leaves everything else as it was

pub sent_as : (x : Exchange) (request response : List Stage) (entered headed answered : Bool) (t : List ℕ) → SentDown x t
    → SentDown (record x { request = request; response = response; is_entered = entered; is_headed = headed; is_answered = answered }) t
sent_as x request response entered headed answered t (nothing h e is) = nothing h e is
sent_as x request response entered headed answered t (running h e r) = running h e r
sent_as x request response entered headed answered t (at_end e one) = at_end e one

pub is_nothing : (x : Exchange) (t : List ℕ) → x.has_ended ≡ false → x.is_head_out ≡ false → SentDown x t → t ≡ []
is_nothing x t runs none (nothing h e is) = is
is_nothing x t runs none (running h e r) = clash x.is_head_out h none
is_nothing x t runs none (at_end e one) = clash x.has_ended e runs

is_running : (x : Exchange) (t : List ℕ) → x.has_ended ≡ false → x.is_head_out ≡ true → SentDown x t → IsFront x.asked.is_head x.asked.old_client t (written_framing x) x.stays
is_running x t runs head (nothing h e is) = clash x.is_head_out head h
is_running x t runs head (running h e r) = r
is_running x t runs head (at_end e one) = clash x.has_ended e runs

-- it is cut off
pub cut_sent : (x : Exchange) (t : List ℕ) → x.has_ended ≡ false → SentDown x t → IsOneResponse x.asked.is_head x.asked.old_client false t
cut_sent x t runs (nothing h e is) = sends_nothing is refl
cut_sent x t runs (running h e r) = sends_response false r.response
cut_sent x t runs (at_end e one) = clash x.has_ended e runs

-- ---- an item of the body

bodies_join : (a c : List OutItem) (full : Bool) → IsOutBody a false → IsOutBody c full → IsOutBody (a ++ c) full
bodies_join [] c full first later = later
bodies_join (out.head h ∷ a) c full first later = absurd first
bodies_join (out.interim h ∷ a) c full first later = absurd first
bodies_join (out.piece bytes false ∷ a) c full first later = bodies_join a c full first later
bodies_join (out.piece bytes true ∷ a) c full first later = let e : ◌≡◌ {A = Bool} false true = first.1 in absurd (cc)
bodies_join (out.trailers fields ∷ a) c full first later = let e : ◌≡◌ {A = Bool} false true = first.1 in absurd (cc)

rest_joins : (b : Bool) (a c : List OutItem) (full : Bool) → b ≡ false → IsOutRest b a false → IsOutBody c full → IsOutRest b (a ++ c) full
rest_joins true a c full is first later = absurd (cc)
rest_joins false a c full is first later = bodies_join a c full first later

-- the response with one item more
longer : (to_head old_client : Bool) (t : List ℕ) (written : Framing) (keeps : Bool) → IsFront to_head old_client t written keeps → (o : OutItem) (full stays : Bool) → IsOutBody (o ∷ []) full → (full ≡ true → stays ≡ keeps) → (full ≡ false → stays ≡ false)
    → IsSent to_head old_client false full stays (t ++ item_wire written o) written keeps
longer to_head old_client t written keeps f o full stays last as_told part =
    let r = f.response in
    let start : List ℕ = head_wire r.framing (sent_head r.fields (down_tail r.keeps r.now r.fields)) in
    record {
      response = record {
        framing = r.framing;
        written = r.written;
        fields = r.fields;
        now = r.now;
        keeps = r.keeps;
        bare = r.bare;
        items = r.items ++ o ∷ [];
        is =
            (λ i. r.is i ++ item_wire (sym f.writes i) o)
            ∙ (append_assoc start (items_wire r.written r.items) (item_wire r.written o)
            ∙ ap (λ s. start ++ s) (ap (λ s. items_wire r.written r.items ++ s) (sym (append-nil (item_wire r.written o))) ∙ sym (flat_map-append (item_wire r.written) r.items (o ∷ []))));
        rest = rest_joins r.bare r.items (o ∷ []) full f.flagged r.rest last;
        tells = r.tells;
        follows = r.follows;
        empty = r.empty;
        none = r.none;
        unchunked = r.unchunked;
        no_content = r.no_content;
        no_chunks = r.no_chunks;
        unending = r.unending;
        as_told = λ e. as_told e ∙ sym f.keeping;
        part = part;
      };
      writes = f.writes;
      keeping = f.keeping;
      flagged = f.flagged;
    }

-- ---- an item leaves the chain of the response

-- the exchange with the status that goes out, and the head that goes down
abbrev outgoing : Exchange → Hub → Exchange
outgoing x hub = with_out (status_in (response_map x.place hub.contexts)) x

-- the line is to stay open after it
abbrev keeps_line : Exchange → Hub → Bool
keeps_line x hub = leaving.stays_behind (outgoing x hub) (out_framing (outgoing x hub))

abbrev head_bytes : Exchange → Hub → List ℕ
head_bytes x hub =
    head_wire (out_framing (outgoing x hub)) (sent_head (response_map x.place hub.contexts) (down_tail (keeps_line x hub) hub.moment (response_map x.place hub.contexts)))

-- a response whose head alone went down
headed : (end : Bool) (x : Exchange) (hub : Hub) (stays : Bool) → Suits end x.told → (end ≡ true → stays ≡ keeps_line x hub) → (end ≡ false → stays ≡ false) → IsOutRest end [] end
    → IsSent x.asked.is_head x.asked.old_client end end stays (head_bytes x hub) (written_framing (outgoing x hub)) (keeps_line x hub)
headed end x hub stays suits as_told part rest =
    let framing : Framing = out_framing (outgoing x hub) in
    let status : Option ℕ = status_in (response_map x.place hub.contexts) in
    record {
      response = record {
        framing = framing;
        written = written_framing (outgoing x hub);
        fields = response_map x.place hub.contexts;
        now = hub.moment;
        keeps = keeps_line x hub;
        bare = end;
        items = [];
        is = sym (append-nil (head_bytes x hub));
        rest = rest;
        tells = λ awaits. suits.tells x.filters_responses x.asked status awaits;
        follows = λ awaits. ap (λ b. if b then no_body else framing) awaits;
        empty = λ awaits flagged. suits.empty x.filters_responses x.asked status awaits flagged;
        none = λ awaits. ap (λ b. if b then no_body else framing) awaits;
        unchunked = λ awaits. bare_unchunked x.filters_responses x.asked x.told status awaits;
        no_content = λ is_it. untold_204 x.filters_responses x.asked x.told status is_it;
        no_chunks = λ old. no_chunks_down x.filters_responses x.asked x.told status old;
        unending = λ endless. ap (λ b. (may_stay x.asked && not x.closes) && not b) endless ∙ never_both (may_stay x.asked && not x.closes);
        as_told = as_told;
        part = part;
      };
      writes = refl;
      keeping = refl;
      flagged = refl;
    }

module _ (n : ℕ) (items : List ChainItem) (x : Exchange) (hub : Hub) (t : List ℕ) (i : Phase) (runs : x.has_ended ≡ false) where
  -- the phase after the item
  next_sound : (item : ChainItem) → Below x (item ∷ items) t i → IsSound (step (at x) item)
  next_sound item u = sound_run (step (at x) item) items (sound_chain (run (step (at x) item) items) x.response (subst IsSound (sym (u.through runs)) u.sound))

  first_head : (end : Bool) (b : Bool) → x.is_head_out ≡ b → IsSound (step (at x) (Head end)) → x.is_head_out ≡ false
  first_head end true is sound = absurd (subst (λ b. IsSound (step (if b then inside else fresh) (Head end))) is sound)
  first_head end false is sound = is

  behind_head : (item : ChainItem) → (step fresh item ≡ broken) → (b : Bool) → x.is_head_out ≡ b → IsSound (step (at x) item) → x.is_head_out ≡ true
  behind_head item none true is sound = is
  behind_head item none false is sound = absurd (subst IsSound none (subst (λ b. IsSound (step (if b then inside else fresh) item)) is sound))

  -- a head
  head_goes : (end : Bool) → Below x (Head end ∷ items) t i → Onto n hub (send_response_item n (Head end) x hub) items t i
  head_goes end u = record {
    more = head_bytes x hub;
    grows = grows_by n hub.sent (bytes_sent_to n Down (head_bytes x hub)) (map byte (head_bytes x hub)) (client_down n (head_bytes x hub));
    goes = subst (λ (s : List ℕ). Below (send_response_item n (Head end) x hub).0 items (s ++ head_bytes x hub) i) (sym none) (by_end end u refl);
  }
    where
      unsent : x.is_head_out ≡ false
      unsent = first_head end x.is_head_out refl (next_sound (Head end) u)

      none : t ≡ []
      none = is_nothing x t runs unsent u.sent

      through : chain (run (step fresh (Head end)) items) x.response ≡ i
      through = ap (λ b. chain (run (step (if b then inside else fresh) (Head end)) items) x.response) (sym unsent) ∙ u.through runs

      suits : Suits end x.told
      suits = told_as end i x.told (subst (Shape end) through (shape_chain end (run (step fresh (Head end)) items) x.response (shape_run end (step fresh (Head end)) items (shape_headed end)))) u.sound (u.told runs)

      by_end : (e : Bool) → Below x (Head end ∷ items) t i → end ≡ e → Below (send_response_item n (Head end) x hub).0 items (head_bytes x hub) i
      by_end true u is =
          subst (λ (d : Bool). Below (send_response_item n (Head d) x hub).0 items (head_bytes x hub) i) (sym is)
          (ended_below (send_response_item n (Head true) x hub).0 items (head_bytes x hub) i refl u.sound
          (at_end refl (sends_response true (headed true x hub (keeps_line x hub) (subst (λ (d : Bool). Suits d x.told) is suits) (λ e. refl) (λ e. absurd (cc)) (refl, refl)).response)))
      by_end false u is =
          subst (λ (d : Bool). Below (send_response_item n (Head d) x hub).0 items (head_bytes x hub) i) (sym is)
          (record {
            sent = running refl refl (headed false x hub false (subst (λ (d : Bool). Suits d x.told) is suits) (λ e. absurd (cc)) (λ e. refl) refl);
            through = λ e. ap (λ (d : Bool). chain (run (step fresh (Head d)) items) x.response) (sym is) ∙ through;
            idle = λ e. u.idle runs;
            sound = u.sound;
            unentered = λ e f. u.unentered runs f;
            unheard = λ e a h. u.unheard runs a h;
            told = λ e. u.told runs;
          })

  -- an item after it
  module _ (item : ChainItem) (o : OutItem) (bytes : List ℕ) (end : Bool) (none : step fresh item ≡ broken) (later : step inside item ≡ (if end then whole else inside)) (are : bytes ≡ item_wire (written_framing x) o) (last : IsOutBody (o ∷ []) end) where
    body_goes : Below x (item ∷ items) t i → Below (record x { has_ended = end }) items (t ++ bytes) i
    body_goes u = by_end end refl
      where
        sent : x.is_head_out ≡ true
        sent = behind_head item none x.is_head_out refl (next_sound item u)

        front : IsFront x.asked.is_head x.asked.old_client t (written_framing x) x.stays
        front = is_running x t runs sent u.sent

        by_end : (e : Bool) → end ≡ e → Below (record x { has_ended = end }) items (t ++ bytes) i
        by_end true is =
            subst (λ (d : Bool). Below (record x { has_ended = d }) items (t ++ bytes) i) (sym is)
            (ended_below (record x { has_ended = true }) items (t ++ bytes) i refl u.sound
            (at_end refl (sends_response true (subst (λ (s : List ℕ). IsResponse x.asked.is_head x.asked.old_client x.stays (t ++ s) true) (sym are)
            (longer x.asked.is_head x.asked.old_client t (written_framing x) x.stays front o true x.stays (subst (IsOutBody (o ∷ [])) is last) (λ e. refl) (λ e. absurd (cc))).response))))
        by_end false is =
            subst (λ (d : Bool). Below (record x { has_ended = d }) items (t ++ bytes) i) (sym is)
            (record {
              sent = running sent refl (subst (λ (s : List ℕ). IsFront x.asked.is_head x.asked.old_client (t ++ s) (written_framing x) x.stays) (sym are)
                  (longer x.asked.is_head x.asked.old_client t (written_framing x) x.stays front o false false (subst (IsOutBody (o ∷ [])) is last) (λ e. absurd (cc)) (λ e. refl)));
              through = λ e. ap (λ (p : Phase). chain (run p items) x.response) (ap (λ b. if b then inside else fresh) sent ∙ (sym (later ∙ ap (λ b. if b then whole else inside) is) ∙ ap (λ b. step (if b then inside else fresh) item) (sym sent))) ∙ u.through runs;
              idle = λ e. u.idle runs;
              sound = u.sound;
              unentered = λ e f. u.unentered runs f;
              unheard = λ e a h. u.unheard runs a h;
              told = λ e. u.told runs;
            })

  inside_piece : (bytes : List ℕ) (end : Bool) → step inside (Piece bytes end) ≡ (if end then whole else inside)
  inside_piece bytes true = refl
  inside_piece bytes false = refl

  last_piece : (bytes : List ℕ) (end : Bool) → IsOutBody (out.piece bytes end ∷ []) end
  last_piece bytes true = (refl, refl)
  last_piece bytes false = refl

  down_goes : (item : ChainItem) → Below x (item ∷ items) t i → Onto n hub (send_response_item n item x hub) items t i
  down_goes (Head end) u = head_goes end u
  down_goes (Piece bytes end) u =
      let wire : List ℕ = piece_wire (written_framing x) bytes end in
      record {
        more = wire;
        grows = grows_by n hub.sent (bytes_sent_to n Down wire) (map byte wire) (client_down n wire);
        goes = body_goes (Piece bytes end) (out.piece bytes end) wire end refl (inside_piece bytes end) refl (last_piece bytes end) u;
      }
  down_goes Trailers u =
      let pairs = with_connection x.connection_down (response_trailers x.place hub.contexts).pairs in
      let wire : List ℕ = trailer_wire (written_framing x) pairs in
      record {
        more = wire;
        grows = grows_by n hub.sent (bytes_sent_to n Down wire) (map byte wire) (client_down n wire);
        goes = body_goes Trailers (out.trailers (record (response_trailers x.place hub.contexts) { pairs = pairs })) wire true refl refl refl (refl, refl) u;
      }

-- all of them, one after the other, until it ends
over_going : (x : Exchange) (a b : List ChainItem) (t : List ℕ) (i : Phase) → x.has_ended ≡ true → Below x a t i → Below x b t i
over_going x a b t i ended u = ended_below x b t i ended u.sound u.sent

pub left_goes : (n : ℕ) (items : List ChainItem) (x : Exchange) (hub : Hub) (t : List ℕ) (i : Phase) → Below x items t i → Onto n hub (send_items true n items (x, hub)) [] t i
left_goes n [] x hub t i u = onto_itself n (x, hub) t i u
left_goes n (item ∷ items) x hub t i u = by_test (λ y k s w. left_goes n items y k s i w) x.has_ended refl
  where
    Later : Type 0
    Later = (y : Exchange) (k : Hub) (s : List ℕ) → Below y items s i → Onto n k (send_items true n items (y, k)) [] s i

    by_test : Later → (b : Bool) → x.has_ended ≡ b → Onto n hub (send_items true n items (send_item true n item (x, hub))) [] t i
    by_test go true is =
        subst (λ (p : Exchange × Hub). Onto n hub (send_items true n items p) [] t i) (sym (ap (λ b. if b then (x, hub) else send_response_item n item x hub) is)) (go x hub t (over_going x (item ∷ items) items t i is u))
    by_test go false is =
        let q : Exchange × Hub = send_response_item n item x hub in
        let o : Onto n hub q items t i = down_goes n items x hub t i is item u in
        subst (λ (p : Exchange × Hub). Onto n hub (send_items true n items p) [] t i) (sym (ap (λ b. if b then (x, hub) else send_response_item n item x hub) is))
        (onto_then n hub q (send_items true n items q) items t i i o (go q.0 q.1 (t ++ o.more) o.goes))
