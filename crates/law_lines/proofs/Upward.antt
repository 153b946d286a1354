-- What goes up of an exchange, whatever filters it has: the items of one message, from its head on.
use Rattle.std.proofs.Common.{◌≡◌, ℕ, zero, suc, ◌==◌, Bool, true, false, not, ◌||◌, List, [], ◌∷◌, ◌++◌, map, length, refl, ap, ◌∙◌, sym, subst}
use Rattle.std.proofs.lemmas.Grind.{flat_map-append}
use Rattle.std.proofs.lemmas.List.{append-nil, append_assoc}
use Rattle.std.specs.Prelude.{if◌then◌else◌, Option, None, Some, is_some, slice_get, filter, reverse}
use Rattle.contexts.specs.declared.parts.Contexts.{Contexts}
use Rattle.exchange.specs.declared.types.Exchange.{Exchange}
use Rattle.exchange.specs.declared.types.Hub.{Hub}
use Rattle.exchange.specs.Answering.{cut_off, answer_directly, finish_response_put, take_response_put, put_response_item, exchange_with_answer, with_answer, answer_through_stages, is_direct, with_closes, answer_open, answer, with_held}
use Rattle.exchange.specs.Heads.{is_bare, is_final, passes_filters, closes_line, sent_head, up_tail}
use Rattle.exchange.specs.Leaving.{bytes_sent_to, request_framing, send_request_item, send_response_item, send_item, send_items, is_due}
use Rattle.exchange.specs.Maps.{request_map}
use Rattle.exchange.specs.Passing as passing
use Rattle.exchange.specs.Passing.{finish_put, take_move, take_put, put_to_chain, put_all_to_chain, put_read_items, resume_held, bypass, resume_place, stage_of, chain_of, with_chain, pause_held, bypass_vm_at, bypass_vm_stages, bypass_vm, fails_closed, takes_nothing}
use Rattle.law_exchange.specs.Ends.{IsOwn}
use Rattle.law_exchange.specs.Lives.{Deed, comes, responds, acts, resumes, closes, answers, dies, refuses, expires, turns, done_by, is_over, out_item}
use Rattle.law_exchange.specs.Traffic.{Traffic, opens as opening, byte, up_traffic, item_traffic, traffic}
use Rattle.law_exchange.proofs.Quiet.{reply_to}
use Rattle.law_exchange.proofs.Ups.{GoesUp as AllUp, all_up, puts_is, no_stage}
use Rattle.law_exchange.proofs.Traffic.{here, up_is_all, adds, adds_none, down_is_none}
use Rattle.filter_chain.specs.Chains.{put, continued, let_through, asked}
use Rattle.filter_chain.specs.declared.item.ChainItem.{ChainItem}
use Rattle.filter_chain.specs.declared.item.ChainItem.TheVariants.{Head, Piece, Trailers}
use Rattle.filter_chain.specs.declared.item.PassOutcome.{PassOutcome}
use Rattle.filter_chain.specs.declared.item.PassOutcome.TheVariants as passed
use Rattle.filter_chain.specs.declared.stage.Stage.{Stage}
use Rattle.gate_io.specs.declared.event.Sent.TheVariants.{Connect}
use Rattle.gate_io.specs.declared.event.Side.TheVariants.{Up as to_server}
use Rattle.header_maps.specs.Headers.{Headers}
use Rattle.h1_model.specs.Fields.{Pair}
use Rattle.h1_model.specs.Framing.{OutItem, head_wire, piece_wire}
use Rattle.h1_model.specs.Framing as out
use Rattle.worker_model.specs.Steps.{is_live, new_stage, exchange_with_stages}
use Rattle.law_lines.specs.Living.{request_in}
use Rattle.law_lines.proofs.Kept.{by_bool}
use Rattle.law_lines.proofs.Phases.{Phase, fresh, broken, step, run, IsSound, run_join, sound_run, chain, sound_chain, AreIdle, Goes, Given, put_goes, GoesOn, continued_goes, through_goes, Asks, asked_goes, made_phase, made_idle}

-- ---- items, and the same as they went out: a head has the version received and some fields

abbrev pub IsMade : ℕ → ChainItem → OutItem → Type 0
IsMade minor (Head end) (out.head g) = (fields : Headers) × (g ≡ sent_head fields (up_tail minor))
IsMade minor (Piece bytes end) (out.piece take_move last) = (take_move ≡ bytes) × (last ≡ end)
IsMade minor Trailers (out.trailers fields) = Unit {0}
IsMade minor item o = ⊥

abbrev pub AreMade : ℕ → List ChainItem → List OutItem → Type 0
AreMade minor [] [] = Unit {0}
AreMade minor [] (o ∷ outs) = ⊥
AreMade minor (item ∷ items) [] = ⊥
AreMade minor (item ∷ items) (o ∷ outs) = IsMade minor item o × AreMade minor items outs

made_more : (minor : ℕ) (items : List ChainItem) (outs : List OutItem) (i : ChainItem) (o : OutItem) → AreMade minor items outs → IsMade minor i o → AreMade minor (items ++ i ∷ []) (outs ++ o ∷ [])
made_more minor [] [] i o are is = (is, tt)
made_more minor [] (p ∷ outs) i o are is = absurd are
made_more minor (j ∷ items) [] i o are is = absurd are
made_more minor (j ∷ items) (p ∷ outs) i o are is = (are.0, made_more minor items outs i o are.1 is)

abbrev pub is_any : List ChainItem → Bool
is_any [] = false
is_any (i ∷ items) = true

any_more : (items : List ChainItem) (i : ChainItem) → is_any (items ++ i ∷ []) ≡ true
any_more [] i = refl
any_more (j ∷ items) i = refl

-- WHAT AN EXCHANGE SENT UP is this, where some items have left its stages and are still to be sent, and after what came to its chain the phase is this
pub record Up (x : Exchange) (going : List ChainItem) (t : List Traffic) (i : Phase) : Type 0 where
  pub left : List ChainItem
  pub outs : List OutItem
  pub are : AreMade x.asked.minor left outs
  pub is : t ≡ traffic (request_framing x) outs
  pub opened : is_some x.reader ≡ is_any left
  pub through : is_over x ≡ false → chain (run (run fresh left) going) x.request ≡ i
  pub idle : is_over x ≡ false → AreIdle x.request
  pub sound : IsSound i
  pub left_sound : IsSound (run fresh left)
  pub unentered : is_over x ≡ false → x.is_entered ≡ false → x.request ≡ []
  pub answered : x.is_answered ≡ true → x.request ≡ []

-- it becomes the other, and the phase is this then
pub record Onward (n : ℕ) (hub : Hub) (q : Exchange × Hub) (t : List Traffic) (j : Phase) : Type 0 where
  pub more : List Traffic
  pub grows : up_traffic n q.1.sent ≡ up_traffic n hub.sent ++ more
  pub goes : Up q.0 [] (t ++ more) j

abbrev pub Keeps : ℕ → Exchange × Hub → Exchange × Hub → Type 0
Keeps n p q = (t : List Traffic) (i : Phase) → Up p.0 [] t i → Onward n p.1 q t i

pub keeps_itself : (n : ℕ) (p : Exchange × Hub) → Keeps n p p
keeps_itself n p t i u = record { more = []; grows = sym (append-nil (up_traffic n p.1.sent)); goes = subst (λ (s : List Traffic). Up p.0 [] s i) (sym (append-nil t)) u }

onward_then : (n : ℕ) (hub : Hub) (q r : Exchange × Hub) (t : List Traffic) (i j : Phase) → (o : Onward n hub q t i) → Onward n q.1 r (t ++ o.more) j → Onward n hub r t j
onward_then n hub q r t i j o l = record {
  more = o.more ++ l.more;
  grows = l.grows ∙ (ap (λ s. s ++ l.more) o.grows ∙ append_assoc (up_traffic n hub.sent) o.more l.more);
  goes = subst (λ (s : List Traffic). Up r.0 [] s j) (append_assoc t o.more l.more) l.goes;
}

pub keeps_then : (n : ℕ) (p q r : Exchange × Hub) → Keeps n p q → Keeps n q r → Keeps n p r
keeps_then n p q r a b t i u = let o : Onward n p.1 q t i = a t i u in onward_then n p.1 q r t i i o (b (t ++ o.more) i o.goes)

-- ---- what is as before, where it is not over

pub record Still (n : ℕ) (p q : Exchange × Hub) : Type 0 where
  pub minor : q.0.asked.minor ≡ p.0.asked.minor
  pub framed : request_framing q.0 ≡ request_framing p.0
  pub reader : is_some q.0.reader ≡ is_some p.0.reader
  pub live : is_over q.0 ≡ false → (is_over p.0 ≡ false) × (q.0.request ≡ p.0.request)
  pub entered : q.0.is_entered ≡ p.0.is_entered
  pub answered : (p.0.is_answered ≡ true → p.0.request ≡ []) → q.0.is_answered ≡ true → q.0.request ≡ []
  pub sends : up_traffic n q.1.sent ≡ up_traffic n p.1.sent

pub still_up : (n : ℕ) (p q : Exchange × Hub) (going : List ChainItem) (t : List Traffic) (i : Phase) → Still n p q → Up p.0 going t i → Up q.0 going t i
still_up n p q going t i s u = record {
  left = u.left;
  outs = u.outs;
  are = subst (λ m. AreMade m u.left u.outs) (sym s.minor) u.are;
  is = u.is ∙ ap (λ f. traffic f u.outs) (sym s.framed);
  opened = s.reader ∙ u.opened;
  through = λ e. ap (chain (run (run fresh u.left) going)) (s.live e).1 ∙ u.through (s.live e).0;
  idle = λ e. subst AreIdle (sym (s.live e).1) (u.idle (s.live e).0);
  sound = u.sound;
  left_sound = u.left_sound;
  unentered = λ e f. (s.live e).1 ∙ u.unentered (s.live e).0 (sym s.entered ∙ f);
  answered = s.answered u.answered;
}

pub still_keeps : (n : ℕ) (p q : Exchange × Hub) → Still n p q → Keeps n p q
still_keeps n p q s t i u = record {
  more = [];
  grows = s.sends ∙ sym (append-nil (up_traffic n p.1.sent));
  goes = subst (λ (r : List Traffic). Up q.0 [] r i) (sym (append-nil t)) (still_up n p q [] t i s u);
}

-- once it is over, what comes counts for nothing
over_up : (x : Exchange) (t : List Traffic) (i j : Phase) → is_over x ≡ true → IsSound j → Up x [] t i → Up x [] t j
over_up x t i j over sound u = record {
  left = u.left;
  outs = u.outs;
  are = u.are;
  is = u.is;
  opened = u.opened;
  through = λ e. let never : ◌≡◌ {A = Bool} true false = sym over ∙ e in absurd (cc);
  idle = u.idle;
  sound = sound;
  left_sound = u.left_sound;
  unentered = u.unentered;
  answered = u.answered;
}

pub still_itself : (n : ℕ) (p : Exchange × Hub) → Still n p p
still_itself n p = record { minor = refl; framed = refl; reader = refl; live = λ e. (e, refl); entered = refl; answered = λ a. a; sends = refl }

pub still_then : (n : ℕ) (p q r : Exchange × Hub) → Still n p q → Still n q r → Still n p r
still_then n p q r a b = record {
  minor = b.minor ∙ a.minor;
  framed = b.framed ∙ a.framed;
  reader = b.reader ∙ a.reader;
  live = λ e. let l = b.live e in let f = a.live l.0 in (f.0, l.1 ∙ f.1);
  entered = b.entered ∙ a.entered;
  answered = λ o. b.answered (a.answered o);
  sends = b.sends ∙ a.sends;
}

-- ---- what leaves the chain of the response

ends_live : (end a e : Bool) → e ≡ false → (end || a) ≡ false → (e || a) ≡ false
ends_live end true e runs is = by_end end is
  where
    by_end : (b : Bool) → (b || true) ≡ false → (e || true) ≡ false
    by_end true is = absurd (cc)
    by_end false is = absurd (cc)
ends_live end false e runs is = λ i. runs i || false

never : {A : Type 0} → ◌≡◌ {A = Bool} true false → A
never is = absurd (cc)

down_still : (n : ℕ) (item : ChainItem) (x : Exchange) (hub : Hub) → x.has_ended ≡ false → Still n (x, hub) (send_response_item n item x hub)
down_still n (Head end) x hub runs = record {
  minor = refl;
  framed = refl;
  reader = refl;
  live = λ e. (ends_live end x.is_answered x.has_ended runs e, refl);
  entered = refl;
  answered = λ a. a;
  sends = adds_none n hub.sent _ (down_is_none n _);
}
down_still n (Piece bytes end) x hub runs = record {
  minor = refl;
  framed = refl;
  reader = refl;
  live = λ e. (ends_live end x.is_answered x.has_ended runs e, refl);
  entered = refl;
  answered = λ a. a;
  sends = adds_none n hub.sent _ (down_is_none n _);
}
down_still n Trailers x hub runs = record {
  minor = refl;
  framed = refl;
  reader = refl;
  live = λ e. never e;
  entered = refl;
  answered = λ a. a;
  sends = adds_none n hub.sent _ (down_is_none n _);
}

leaves_still : (n : ℕ) (item : ChainItem) (p : Exchange × Hub) → Still n p (send_item true n item p)
leaves_still n item p = by_bool (Still n p) p.0.has_ended p (send_response_item n item p.0 p.1) (λ e. still_itself n p) (λ e. down_still n item p.0 p.1 e)

left_still : (n : ℕ) (items : List ChainItem) (p : Exchange × Hub) → Still n p (send_items true n items p)
left_still n [] p = still_itself n p
left_still n (item ∷ items) p = let q : Exchange × Hub = send_item true n item p in still_then n p q (send_items true n items q) (leaves_still n item p) (left_still n items q)

-- ---- answers

cut_off_still : (n : ℕ) (x : Exchange) (hub : Hub) → Still n (x, hub) (cut_off x hub)
cut_off_still n x hub = record { minor = refl; framed = refl; reader = refl; live = λ e. never e; entered = refl; answered = λ a e. refl; sends = refl }

pub directly_still : (n status : ℕ) (fields : List Pair) (body : List ℕ) (x : Exchange) (hub : Hub) → Still n (x, hub) (answer_directly n status fields body x hub)
directly_still n status fields body x hub =
    by_bool (Still n (x, hub)) (x.is_head_out || not (is_final status)) (cut_off x hub) _ (λ e. cut_off_still n x hub)
    (λ e. record { minor = refl; framed = refl; reader = refl; live = λ e. never e; entered = refl; answered = λ a e. refl; sends = adds_none n hub.sent _ (down_is_none n (reply_to status fields body x hub)) })

pub response_still : (n : ℕ) (t : List Stage) (x : Exchange) (hub after : Hub) → after.sent ≡ hub.sent → Still n (x, hub) (with_chain true t x, after)
response_still n t x hub after same = record { minor = refl; framed = refl; reader = refl; live = λ e. (e, refl); entered = refl; answered = λ a. a; sends = ap (up_traffic n) same }

passed_down_still : (n : ℕ) (p : PassOutcome) (x : Exchange) (hub : Hub) → Still n (x, hub) (finish_response_put n p x hub)
passed_down_still n passed.Over x hub = directly_still n 500 [] [] x hub
passed_down_still n (passed.Left items) x hub = left_still n items (x, hub)

puts_down_still : (n : ℕ) (item : ChainItem) (p : Exchange × Hub) → Still n p (put_response_item n item p)
puts_down_still n item p =
    let t : PassOutcome × List Stage = put p.1.contexts item p.0.response in
    by_bool (Still n p) p.0.has_ended p (take_response_put n p.0 p.1 t) (λ e. still_itself n p)
    (λ e. still_then n p (with_chain true t.1 p.0, p.1) (take_response_put n p.0 p.1 t) (response_still n t.1 p.0 p.1 p.1 refl) (passed_down_still n t.0 (with_chain true t.1 p.0) p.1))

or_true : (b : Bool) → (b || true) ≡ true
or_true true = refl
or_true false = refl

through_still : (n status : ℕ) (fields : List Pair) (body : List ℕ) (x : Exchange) (hub : Hub) → Still n (x, hub) (answer_through_stages n status fields body x hub)
through_still n status fields body x hub =
    let y : Exchange = exchange_with_answer status body x in
    let k : Hub = with_answer status fields x hub in
    let p : Exchange × Hub = put_response_item n (Head false) (y, k) in
    still_then n (x, hub) (y, k) (answer_through_stages n status fields body x hub)
    (record { minor = refl; framed = refl; reader = refl; live = λ e. never (sym (or_true x.has_ended) ∙ e); entered = refl; answered = λ a e. refl; sends = refl })
    (by_bool (Still n (y, k)) (is_bare y.told.length) (put_response_item n (Head true) (y, k)) (put_response_item n (Piece body true) p) (λ e. puts_down_still n (Head true) (y, k))
    (λ e. still_then n (y, k) p (put_response_item n (Piece body true) p) (puts_down_still n (Head false) (y, k)) (puts_down_still n (Piece body true) p)))

shut_still : (n : ℕ) (c : Bool) (x : Exchange) (hub : Hub) → Still n (x, hub) (with_closes c x, hub)
shut_still n c x hub = record { minor = refl; framed = refl; reader = refl; live = λ e. (e, refl); entered = refl; answered = λ a. a; sends = refl }

pub answer_still : (n : ℕ) (shut : Bool) (status : ℕ) (fields : List Pair) (body : List ℕ) (x : Exchange) (hub : Hub) → Still n (x, hub) (answer n shut status fields body x hub)
answer_still n shut status fields body x hub =
    by_bool (Still n (x, hub)) (x.has_ended || x.is_answered) (x, hub) (answer_open n status fields body (with_closes shut x) hub) (λ e. still_itself n (x, hub))
    (λ e. still_then n (x, hub) (with_closes shut x, hub) (answer_open n status fields body (with_closes shut x) hub) (shut_still n shut x hub)
    (by_bool (Still n (with_closes shut x, hub)) (is_direct status (with_closes shut x)) (answer_directly n status fields body (with_closes shut x) hub) (answer_through_stages n status fields body (with_closes shut x) hub)
    (λ d. directly_still n status fields body (with_closes shut x) hub) (λ d. through_still n status fields body (with_closes shut x) hub)))

-- an exchange that is answered is over
over_or : (x : Exchange) → x.has_ended ≡ true → is_over x ≡ true
over_or x is = ap (λ b. b || x.is_answered) is

directly_over : (n status : ℕ) (fields : List Pair) (body : List ℕ) (x : Exchange) (hub : Hub) → is_over (answer_directly n status fields body x hub).0 ≡ true
directly_over n status fields body x hub = by_bool (λ (p : Exchange × Hub). is_over p.0 ≡ true) (x.is_head_out || not (is_final status)) (cut_off x hub) _ (λ e. refl) (λ e. refl)

still_over : (n : ℕ) (p q : Exchange × Hub) → Still n p q → is_over p.0 ≡ true → is_over q.0 ≡ true
still_over n p q s over = by_test (is_over q.0) refl
  where
    by_test : (b : Bool) → is_over q.0 ≡ b → is_over q.0 ≡ true
    by_test true is = is
    by_test false is = never (sym over ∙ (s.live is).0)

through_over : (n status : ℕ) (fields : List Pair) (body : List ℕ) (x : Exchange) (hub : Hub) → is_over (answer_through_stages n status fields body x hub).0 ≡ true
through_over n status fields body x hub =
    let y : Exchange = exchange_with_answer status body x in
    let k : Hub = with_answer status fields x hub in
    let p : Exchange × Hub = put_response_item n (Head false) (y, k) in
    let first : is_over y ≡ true = or_true x.has_ended in
    by_bool (λ (q : Exchange × Hub). is_over q.0 ≡ true) (is_bare y.told.length) (put_response_item n (Head true) (y, k)) (put_response_item n (Piece body true) p) (λ e. still_over n (y, k) _ (puts_down_still n (Head true) (y, k)) first)
    (λ e. still_over n p _ (puts_down_still n (Piece body true) p) (still_over n (y, k) p (puts_down_still n (Head false) (y, k)) first))

pub answer_over : (n : ℕ) (shut : Bool) (status : ℕ) (fields : List Pair) (body : List ℕ) (x : Exchange) (hub : Hub) → is_over (answer n shut status fields body x hub).0 ≡ true
answer_over n shut status fields body x hub =
    by_bool (λ (p : Exchange × Hub). is_over p.0 ≡ true) (x.has_ended || x.is_answered) (x, hub) (answer_open n status fields body (with_closes shut x) hub) (λ e. e)
    (λ e. by_bool (λ (p : Exchange × Hub). is_over p.0 ≡ true) (is_direct status (with_closes shut x)) (answer_directly n status fields body (with_closes shut x) hub) (answer_through_stages n status fields body (with_closes shut x) hub)
    (λ d. directly_over n status fields body (with_closes shut x) hub) (λ d. through_over n status fields body (with_closes shut x) hub))

-- ---- what leaves the chain of the request

-- one item was sent
record One (n : ℕ) (hub : Hub) (q : Exchange × Hub) (t : List Traffic) (items : List ChainItem) (i : Phase) : Type 0 where
  more : List Traffic
  grows : up_traffic n q.1.sent ≡ up_traffic n hub.sent ++ more
  goes : Up q.0 items (t ++ more) i
  runs : q.0.has_ended ≡ false
  live : is_over q.0 ≡ false

no_answer : (a b : Bool) → (a || b) ≡ false → b ≡ false
no_answer true b is = absurd (cc)
no_answer false b is = is

-- there was a head before it
some_left : (send_items : List ChainItem) (i : ChainItem) → (step fresh i ≡ broken) → IsSound (step (run fresh send_items) i) → is_any send_items ≡ true
some_left [] i none sound = absurd (subst IsSound none sound)
some_left (j ∷ send_items) i none sound = refl

module _ (n : ℕ) (items : List ChainItem) (x : Exchange) (hub : Hub) (t : List Traffic) (i : Phase) (runs : x.has_ended ≡ false) (live : is_over x ≡ false) where
  -- its phase, after this item
  next_sound : (item : ChainItem) (u : Up x (item ∷ items) t i) → IsSound (step (run fresh u.left) item)
  next_sound item u = sound_run (step (run fresh u.left) item) items (sound_chain (run (step (run fresh u.left) item) items) x.request (subst IsSound (sym (u.through live)) u.sound))

  one_more : (item : ChainItem) (o : OutItem) (y : Exchange) (u : Up x (item ∷ items) t i) → y.asked.minor ≡ x.asked.minor → request_framing y ≡ request_framing x → y.request ≡ x.request → y.has_ended ≡ x.has_ended → y.is_answered ≡ x.is_answered → y.is_entered ≡ x.is_entered
      → IsMade x.asked.minor item o → is_some y.reader ≡ true → Up y items (t ++ item_traffic (request_framing x) o) i
  one_more item o y u minor framed request ended answered exchange_with_stages made opened =
      let all : run fresh (u.left ++ item ∷ []) ≡ step (run fresh u.left) item = run_join fresh u.left (item ∷ []) in
      let over : is_over y ≡ is_over x = (λ j. ended j || answered j) in
      record {
        left = u.left ++ item ∷ [];
        outs = u.outs ++ o ∷ [];
        are = subst (λ m. AreMade m (u.left ++ item ∷ []) (u.outs ++ o ∷ [])) (sym minor) (made_more x.asked.minor u.left u.outs item o u.are made);
        is =
            ap (λ s. s ++ item_traffic (request_framing x) o) u.is
            ∙ (ap (λ s. traffic (request_framing x) u.outs ++ s) (sym (append-nil (item_traffic (request_framing x) o)))
            ∙ (sym (flat_map-append (item_traffic (request_framing x)) u.outs (o ∷ [])) ∙ ap (λ f. traffic f (u.outs ++ o ∷ [])) (sym framed)));
        opened = opened ∙ sym (any_more u.left item);
        through = λ e. (λ j. chain (run (all j) items) (request j)) ∙ u.through (sym over ∙ e);
        idle = λ e. subst AreIdle (sym request) (u.idle (sym over ∙ e));
        sound = u.sound;
        left_sound = subst IsSound (sym all) (next_sound item u);
        unentered = λ e f. request ∙ u.unentered (sym over ∙ e) (sym exchange_with_stages ∙ f);
        answered = λ e. request ∙ u.answered (sym answered ∙ e);
      }

  was_opened : (item : ChainItem) → (step fresh item ≡ broken) → (u : Up x (item ∷ items) t i) → is_some x.reader ≡ true
  was_opened item none u = u.opened ∙ some_left u.left item none (next_sound item u)

  sends_one : (item : ChainItem) → Up x (item ∷ items) t i → One n hub (send_request_item n item x hub) t items i
  sends_one (Head end) u =
      let g = sent_head (request_map x.place hub.contexts) (up_tail x.asked.minor) in
      let bytes : List ℕ = head_wire (request_framing x) g in
      record {
        more = item_traffic (request_framing x) (out.head g);
        grows = adds n hub.sent (Connect n ∷ bytes_sent_to n to_server bytes) (opening ∷ map byte bytes) (λ j. here n (opening ∷ []) j ++ up_is_all n bytes j);
        goes = one_more (Head end) (out.head g) (send_request_item n (Head end) x hub).0 u refl refl refl refl refl refl (request_map x.place hub.contexts, refl) refl;
        runs = runs;
        live = live;
      }
  sends_one (Piece bytes end) u = record {
    more = item_traffic (request_framing x) (out.piece bytes end);
    grows = adds n hub.sent (bytes_sent_to n to_server (piece_wire (request_framing x) bytes end)) (map byte (piece_wire (request_framing x) bytes end)) (up_is_all n (piece_wire (request_framing x) bytes end));
    goes = one_more (Piece bytes end) (out.piece bytes end) x u refl refl refl refl refl refl (refl, refl) (was_opened (Piece bytes end) refl u);
    runs = runs;
    live = live;
  }
  sends_one Trailers u =
      let o : OutItem = out_item x hub Trailers in
      let answered : x.is_answered ≡ false = no_answer x.has_ended x.is_answered live in
      let all : AllUp n (no_stage x) hub (Trailers ∷ []) (put_all_to_chain false n (Trailers ∷ []) (no_stage x, hub)).0 (put_all_to_chain false n (Trailers ∷ []) (no_stage x, hub)).1 = all_up n (Trailers ∷ []) (no_stage x) hub refl runs answered in
      record {
        more = item_traffic (request_framing x) o;
        grows =
            ap (λ (p : Exchange × Hub). up_traffic n p.1.sent) (sym (puts_is n Trailers (no_stage x) hub refl runs answered)) ∙ (all.sent ∙ ap (λ t. up_traffic n hub.sent ++ t) (append-nil (item_traffic (request_framing x) o)));
        goes = one_more Trailers o x u refl refl refl refl refl refl tt (was_opened Trailers refl u);
        runs = runs;
        live = live;
      }

pub left_sends : (n : ℕ) (items : List ChainItem) (x : Exchange) (hub : Hub) (t : List Traffic) (i : Phase) → x.has_ended ≡ false → is_over x ≡ false → Up x items t i → Onward n hub (send_items false n items (x, hub)) t i
left_sends n [] x hub t i runs live u = keeps_itself n (x, hub) t i u
left_sends n (item ∷ items) x hub t i runs live u =
    let q : Exchange × Hub = send_request_item n item x hub in
    let o : One n hub q t items i = sends_one n items x hub t i runs live item u in
    let first : send_item false n item (x, hub) ≡ q = ap (λ b. if b then (x, hub) else send_request_item n item x hub) runs in
    let later : Onward n q.1 (send_items false n items q) (t ++ o.more) i = left_sends n items q.0 q.1 (t ++ o.more) i o.runs o.live o.goes in
    subst (λ (p : Exchange × Hub). Onward n hub (send_items false n items p) t i) (sym first)
    (record {
      more = o.more ++ later.more;
      grows = later.grows ∙ (ap (λ s. s ++ later.more) o.grows ∙ append_assoc (up_traffic n hub.sent) o.more later.more);
      goes = subst (λ (s : List Traffic). Up (send_items false n items q).0 [] s i) (append_assoc t o.more later.more) later.goes;
    })

-- ---- what its stages do

-- the stages are others, and these items left them
chained : (x : Exchange) (t : List Traffic) (i j : Phase) (items : List ChainItem) (stages : List Stage) → (u : Up x [] t i) → is_over x ≡ false → IsSound j → (x.is_entered ≡ false → stages ≡ []) → Goes (run fresh u.left) items stages j
    → Up (with_chain false stages x) items t j
chained x t i j items stages u live sound unentered g = record {
  left = u.left;
  outs = u.outs;
  are = u.are;
  is = u.is;
  opened = u.opened;
  through = λ e. g.is;
  idle = λ e. g.idle;
  sound = sound;
  left_sound = u.left_sound;
  unentered = λ e f. unentered f;
  answered = λ e. never (sym (or_true x.has_ended) ∙ (ap (λ b. x.has_ended || b) (sym e) ∙ live));
}

parts : (a b : Bool) → (a || b) ≡ false → (a ≡ false) × (b ≡ false)
parts true b is = absurd (cc)
parts false b is = (refl, is)

both_live : (x : Exchange) → x.has_ended ≡ false → x.is_answered ≡ false → is_over x ≡ false
both_live x a b = λ j. a j || b j

same_request : (n : ℕ) (x : Exchange) (hub after : Hub) (stages : List Stage) → stages ≡ x.request → after.sent ≡ hub.sent → Still n (x, hub) (with_chain false stages x, after)
same_request n x hub after stages is same = record { minor = refl; framed = refl; reader = refl; live = λ e. (e, is); entered = refl; answered = λ a e. is ∙ a e; sends = ap (up_traffic n) same }

-- what went on
goes_behind : (n : ℕ) (x : Exchange) (hub : Hub) (t : List Traffic) (i : Phase) (r : PassOutcome × List Stage × Contexts) → (u : Up x [] t i) → x.has_ended ≡ false → is_over x ≡ false → (x.request ≡ [] → r.1 ≡ [])
    → GoesOn (run fresh u.left) i x.request r → Onward n hub (take_move false n x hub r) t i
goes_behind n x hub t i (passed.Over, stages, held) u runs live none g =
    still_keeps n (x, hub) _ (still_then n (x, hub) (with_chain false stages x, with_held held hub) _ (same_request n x hub (with_held held hub) stages (g.over refl) refl)
    (answer_still n true 413 [] [] (with_chain false stages x) (with_held held hub))) t i u
goes_behind n x hub t i (passed.Left items, stages, held) u runs live none g =
    let o : Onward n (with_held held hub) (send_items false n items (with_chain false stages x, with_held held hub)) t i
    = left_sends n items (with_chain false stages x) (with_held held hub) t i runs live (chained x t i i items stages u live u.sound (λ e. none (u.unentered live e)) (g.goes items refl)) in
    record { more = o.more; grows = o.grows; goes = o.goes }

continued_none : (h : Contexts) (k : ℕ) (s : List Stage) → s ≡ [] → (continued h k s).1 ≡ []
continued_none h k s is = ap (λ (l : List Stage). (continued h k l).1) is

through_none : (h : Contexts) (k : ℕ) (s : List Stage) → s ≡ [] → (let_through h k s).1 ≡ []
through_none h k s is = ap (λ (l : List Stage). (let_through h k l).1) is

through_is : (x : Exchange) (t : List Traffic) (i : Phase) → (u : Up x [] t i) → is_over x ≡ false → chain (run fresh u.left) x.request ≡ i
through_is x t i u live = u.through live

response_went : (n : ℕ) (x : Exchange) (hub : Hub) (r : PassOutcome × List Stage × Contexts) → Still n (x, hub) (take_move true n x hub r)
response_went n x hub r = still_then n (x, hub) (with_chain true r.1 x, with_held r.2 hub) (take_move true n x hub r) (response_still n r.1 x hub (with_held r.2 hub) refl) (passed_down_still n r.0 (with_chain true r.1 x) (with_held r.2 hub))

goes_on_keeps : (response : Bool) (n k : ℕ) (x : Exchange) (hub : Hub) → Keeps n (x, hub) (resume_held response n k x hub)
goes_on_keeps true n k x hub =
    by_bool (Keeps n (x, hub)) x.has_ended (x, hub) (take_move true n x hub (continued hub.contexts k x.response)) (λ e. keeps_itself n (x, hub)) (λ e. still_keeps n (x, hub) _ (response_went n x hub (continued hub.contexts k x.response)))
goes_on_keeps false n k x hub =
    by_bool (Keeps n (x, hub)) x.has_ended (x, hub) (take_move false n x hub (continued hub.contexts k x.request)) (λ e. keeps_itself n (x, hub)) (λ e t i u. by_answer t i u e x.is_answered refl)
  where
    by_answer : (t : List Traffic) (i : Phase) (u : Up x [] t i) → x.has_ended ≡ false → (b : Bool) → x.is_answered ≡ b → Onward n hub (take_move false n x hub (continued hub.contexts k x.request)) t i
    by_answer t i u runs true is =
        let none : x.request ≡ [] = u.answered is in
        subst (λ (l : List Stage). Onward n hub (take_move false n x hub (continued hub.contexts k l)) t i) (sym none)
        (still_keeps n (x, hub) _ (same_request n x hub (with_held hub.contexts hub) [] (sym none) refl) t i u)
    by_answer t i u runs false is =
        let live : is_over x ≡ false = both_live x runs is in
        goes_behind n x hub t i (continued hub.contexts k x.request) u runs live (continued_none hub.contexts k x.request)
        (subst (λ (j : Phase). GoesOn (run fresh u.left) j x.request (continued hub.contexts k x.request)) (u.through live)
        (continued_goes (run fresh u.left) hub.contexts k x.request (u.idle live) (subst IsSound (sym (u.through live)) u.sound)))

gives_way_keeps : (response : Bool) (n k : ℕ) (x : Exchange) (hub : Hub) → Keeps n (x, hub) (bypass response n k x hub)
gives_way_keeps true n k x hub =
    by_bool (Keeps n (x, hub)) x.has_ended (x, hub) (take_move true n x hub (let_through hub.contexts k x.response)) (λ e. keeps_itself n (x, hub)) (λ e. still_keeps n (x, hub) _ (response_went n x hub (let_through hub.contexts k x.response)))
gives_way_keeps false n k x hub =
    by_bool (Keeps n (x, hub)) x.has_ended (x, hub) (take_move false n x hub (let_through hub.contexts k x.request)) (λ e. keeps_itself n (x, hub)) (λ e t i u. by_answer t i u e x.is_answered refl)
  where
    by_answer : (t : List Traffic) (i : Phase) (u : Up x [] t i) → x.has_ended ≡ false → (b : Bool) → x.is_answered ≡ b → Onward n hub (take_move false n x hub (let_through hub.contexts k x.request)) t i
    by_answer t i u runs true is =
        let none : x.request ≡ [] = u.answered is in
        subst (λ (l : List Stage). Onward n hub (take_move false n x hub (let_through hub.contexts k l)) t i) (sym none)
        (still_keeps n (x, hub) _ (same_request n x hub (with_held hub.contexts hub) [] (sym none) refl) t i u)
    by_answer t i u runs false is =
        let live : is_over x ≡ false = both_live x runs is in
        goes_behind n x hub t i (let_through hub.contexts k x.request) u runs live (through_none hub.contexts k x.request)
        (subst (λ (j : Phase). GoesOn (run fresh u.left) j x.request (let_through hub.contexts k x.request)) (u.through live)
        (through_goes (run fresh u.left) hub.contexts k x.request (u.idle live) (subst IsSound (sym (u.through live)) u.sound)))

-- the stage that is asked
pub asked_keeps : (n : ℕ) (x : Exchange) (hub : Hub) → Keeps n (x, hub) (with_chain false (asked hub.contexts x.request).1 x, with_held (asked hub.contexts x.request).2 hub)
asked_keeps n x hub t i u = record {
  more = [];
  grows = sym (append-nil (up_traffic n hub.sent));
  goes = subst (λ (s : List Traffic). Up (with_chain false stages x) [] s i) (sym (append-nil t)) (record {
    left = u.left;
    outs = u.outs;
    are = u.are;
    is = u.is;
    opened = u.opened;
    through = λ e. (asks e).is ∙ u.through e;
    idle = λ e. (asks e).idle;
    sound = u.sound;
    left_sound = u.left_sound;
    unentered = λ e f. none (u.unentered e f);
    answered = λ e. none (u.answered e);
  });
}
  where
    stages : List Stage
    stages = (asked hub.contexts x.request).1

    asks : is_over x ≡ false → Asks (run fresh u.left) (chain (run fresh u.left) x.request) (asked hub.contexts x.request).1
    asks e = asked_goes (run fresh u.left) hub.contexts x.request (u.idle e) (subst IsSound (sym (u.through e)) u.sound)

    none : x.request ≡ [] → (asked hub.contexts x.request).1 ≡ []
    none is = ap (λ (l : List Stage). (asked hub.contexts l).1) is

-- ---- what comes

put_none : (h : Contexts) (item : ChainItem) (s : List Stage) → s ≡ [] → (put h item s).1 ≡ []
put_none h item s is = ap (λ (l : List Stage). (put h item l).1) is

put_behind : (n : ℕ) (item : ChainItem) (x : Exchange) (hub : Hub) (t : List Traffic) (i : Phase) (r : PassOutcome × List Stage) → (u : Up x [] t i) → x.has_ended ≡ false → is_over x ≡ false → (x.request ≡ [] → r.1 ≡ [])
    → IsSound (step i item) → Given (run fresh u.left) (step i item) x.request r → Onward n hub (take_put false n x hub r) t (step i item)
put_behind n item x hub t i (passed.Over, stages) u runs live none sound g =
    let o : Onward n hub (answer n true 413 [] [] (with_chain false stages x) hub) t i
    = still_keeps n (x, hub) _ (still_then n (x, hub) (with_chain false stages x, hub) _ (same_request n x hub hub stages (g.over refl) refl) (answer_still n true 413 [] [] (with_chain false stages x) hub)) t i u in
    record { more = o.more; grows = o.grows; goes = over_up _ (t ++ o.more) i (step i item) (answer_over n true 413 [] [] (with_chain false stages x) hub) sound o.goes }
put_behind n item x hub t i (passed.Left items, stages) u runs live none sound g =
    left_sends n items (with_chain false stages x) hub t (step i item) runs live (chained x t i (step i item) items stages u live sound (λ e. none (u.unentered live e)) (g.goes items refl))

puts_goes : (n : ℕ) (item : ChainItem) (p : Exchange × Hub) (t : List Traffic) (i : Phase) → Up p.0 [] t i → IsSound (step i item) → Onward n p.1 (put_to_chain false n item p) t (step i item)
puts_goes n item p t i u sound =
    by_bool (λ (q : Exchange × Hub). Onward n p.1 q t (step i item)) (takes_nothing false p.0) p (take_put false n p.0 p.1 (put p.1.contexts item p.0.request))
    (λ e. let o : Onward n p.1 p t i = keeps_itself n p t i u in record { more = o.more; grows = o.grows; goes = over_up p.0 (t ++ o.more) i (step i item) e sound o.goes })
    (λ e.
    put_behind n item p.0 p.1 t i (put p.1.contexts item p.0.request) u (parts p.0.has_ended p.0.is_answered e).0 e (put_none p.1.contexts item p.0.request) sound
    (subst (λ (j : Phase). Given (run fresh u.left) (step j item) p.0.request (put p.1.contexts item p.0.request)) (u.through e) (put_goes (run fresh u.left) p.1.contexts item p.0.request (u.idle e))))

all_puts : (n : ℕ) (items : List ChainItem) (p : Exchange × Hub) (t : List Traffic) (i : Phase) → Up p.0 [] t i → IsSound (run i items) → Onward n p.1 (put_all_to_chain false n items p) t (run i items)
all_puts n [] p t i u sound = keeps_itself n p t i u
all_puts n (item ∷ items) p t i u sound =
    let q : Exchange × Hub = put_to_chain false n item p in
    let o : Onward n p.1 q t (step i item) = puts_goes n item p t i u (sound_run (step i item) items sound) in
    onward_then n p.1 q (put_all_to_chain false n items q) t (step i item) (run (step i item) items) o (all_puts n items q (t ++ o.more) (step i item) o.goes sound)

answered_over : (x : Exchange) → x.is_answered ≡ true → is_over x ≡ true
answered_over x is = ap (λ b. x.has_ended || b) is ∙ or_true x.has_ended

pub put_in_goes : (n : ℕ) (items : List ChainItem) (x : Exchange) (hub : Hub) (t : List Traffic) (i : Phase) → Up x [] t i → IsSound (run i items) → Onward n hub (put_read_items false items n x hub) t (run i items)
put_in_goes n items x hub t i u sound =
    by_bool (λ (q : Exchange × Hub). Onward n hub q t (run i items)) x.is_answered (x, hub) (put_all_to_chain false n items (x, hub))
    (λ e. let o : Onward n hub (x, hub) t i = keeps_itself n (x, hub) t i u in record { more = o.more; grows = o.grows; goes = over_up x (t ++ o.more) i (run i items) (answered_over x e) sound o.goes })
    (λ e. all_puts n items (x, hub) t i u sound)

puts_back : (n : ℕ) (item : ChainItem) (p : Exchange × Hub) → Still n p (put_to_chain true n item p)
puts_back n item p =
    let r : PassOutcome × List Stage = put p.1.contexts item p.0.response in
    by_bool (Still n p) (takes_nothing true p.0) p (take_put true n p.0 p.1 r) (λ e. still_itself n p)
    (λ e. still_then n p (with_chain true r.1 p.0, p.1) (take_put true n p.0 p.1 r) (response_still n r.1 p.0 p.1 p.1 refl) (passed_down_still n r.0 (with_chain true r.1 p.0) p.1))

all_back : (n : ℕ) (items : List ChainItem) (p : Exchange × Hub) → Still n p (put_all_to_chain true n items p)
all_back n [] p = still_itself n p
all_back n (item ∷ items) p = let q : Exchange × Hub = put_to_chain true n item p in still_then n p q (put_all_to_chain true n items q) (puts_back n item p) (all_back n items q)

put_back_still : (n : ℕ) (items : List ChainItem) (x : Exchange) (hub : Hub) → Still n (x, hub) (put_read_items true items n x hub)
put_back_still n items x hub = by_bool (Still n (x, hub)) x.is_answered (x, hub) (put_all_to_chain true n items (x, hub)) (λ e. still_itself n (x, hub)) (λ e. all_back n items (x, hub))

-- ---- callbacks, deaths, fixed answers

hub_still : (n : ℕ) (x : Exchange) (hub after : Hub) → after.sent ≡ hub.sent → Still n (x, hub) (x, after)
hub_still n x hub after same = record { minor = refl; framed = refl; reader = refl; live = λ e. (e, refl); entered = refl; answered = λ a. a; sends = ap (up_traffic n) same }

resumes_at_keeps : (response : Bool) (n : ℕ) (at : Option ℕ) (x : Exchange) (hub : Hub) → Keeps n (x, hub) (resume_place response n at x hub)
resumes_at_keeps response n None x hub = keeps_itself n (x, hub)
resumes_at_keeps response n (Some k) x hub = goes_on_keeps response n k x hub

acts_keeps : (response : Bool) (k value n : ℕ) (x : Exchange) (hub : Hub) → Keeps n (x, hub) (passing.apply_action response k value n x hub)
acts_keeps response k value n x hub =
    let h : Hub = pause_held response k x hub in
    keeps_then n (x, hub) (x, h) (passing.apply_action response k value n x hub) (still_keeps n (x, hub) (x, h) (hub_still n x hub h refl))
    (by_bool (Keeps n (x, h)) (value == 0) (resume_held response n k x h) (x, h) (λ e. goes_on_keeps response n k x h) (λ e. keeps_itself n (x, h)))

closed_still : (n : ℕ) (x : Exchange) (hub : Hub) → Still n (x, hub) (passing.close_exchange n x hub)
closed_still n x hub = by_bool (Still n (x, hub)) x.has_ended (x, hub) (cut_off x hub) (λ e. still_itself n (x, hub)) (λ e. cut_off_still n x hub)

opens_at_keeps : (response : Bool) (vm n k : ℕ) (o : Option Stage) (x : Exchange) (hub : Hub) → Keeps n (x, hub) (bypass_vm_at response vm n k o x hub)
opens_at_keeps response vm n k None x hub = keeps_itself n (x, hub)
opens_at_keeps response vm n k (Some s) x hub = by_bool (Keeps n (x, hub)) (s.vm == vm) (bypass response n k x hub) (x, hub) (λ e. gives_way_keeps response n k x hub) (λ e. keeps_itself n (x, hub))

opens_keeps : (response : Bool) (vm n m : ℕ) (p : Exchange × Hub) → Keeps n p (bypass_vm_stages response vm n m p)
opens_keeps response vm n zero p = keeps_itself n p
opens_keeps response vm n (suc k) p =
    let q : Exchange × Hub = bypass_vm_at response vm n k (slice_get (chain_of response p.0) k) p.0 p.1 in
    keeps_then n p q (bypass_vm_stages response vm n k q) (opens_at_keeps response vm n k (slice_get (chain_of response p.0) k) p.0 p.1) (opens_keeps response vm n k q)

opens_all_keeps : (vm n : ℕ) (x : Exchange) (hub : Hub) → Keeps n (x, hub) (bypass_vm vm n x hub)
opens_all_keeps vm n x hub =
    let p : Exchange × Hub = bypass_vm_stages false vm n (length x.request) (x, hub) in
    keeps_then n (x, hub) p (bypass_vm_stages true vm n (length p.0.response) p) (opens_keeps false vm n (length x.request) (x, hub)) (opens_keeps true vm n (length p.0.response) p)

dies_keeps : (vm n : ℕ) (x : Exchange) (hub : Hub) → Keeps n (x, hub) (passing.lose_vm vm n x hub)
dies_keeps vm n x hub =
    by_bool (Keeps n (x, hub)) x.has_ended (x, hub) (if fails_closed vm x then answer_directly n 503 [] [] x hub else bypass_vm vm n x hub) (λ e. keeps_itself n (x, hub))
    (λ e. by_bool (Keeps n (x, hub)) (fails_closed vm x) (answer_directly n 503 [] [] x hub) (bypass_vm vm n x hub) (λ d. still_keeps n (x, hub) _ (directly_still n 503 [] [] x hub)) (λ d. opens_all_keeps vm n x hub))

refused_still : (status n : ℕ) (x : Exchange) (hub : Hub) → Still n (x, hub) (passing.refuse_exchange status n x hub)
refused_still status n x hub =
    by_bool (Still n (x, hub)) (x.has_ended || x.is_answered) (x, hub)
    (if passes_filters status then answer n (closes_line status) status [] [] x hub else answer_directly n status [] [] (with_closes (closes_line status) x) hub) (λ e. still_itself n (x, hub))
    (λ e. by_bool (Still n (x, hub)) (passes_filters status) (answer n (closes_line status) status [] [] x hub) (answer_directly n status [] [] (with_closes (closes_line status) x) hub) (λ d. answer_still n (closes_line status) status [] [] x hub)
    (λ d. still_then n (x, hub) (with_closes (closes_line status) x, hub) (answer_directly n status [] [] (with_closes (closes_line status) x) hub) (shut_still n (closes_line status) x hub) (directly_still n status [] [] (with_closes (closes_line status) x) hub)))

expires_still : (n : ℕ) (x : Exchange) (hub : Hub) → Still n (x, hub) (passing.expire_exchange n x hub)
expires_still n x hub = by_bool (Still n (x, hub)) (is_due hub.moment x) (answer n false 504 [] [] x hub) (x, hub) (λ e. answer_still n false 504 [] [] x hub) (λ e. still_itself n (x, hub))

pub aside_still : (n : ℕ) (x : Exchange) (hub after : Hub) → up_traffic n after.sent ≡ up_traffic n hub.sent → Still n (x, hub) (x, after)
aside_still n x hub after same = record { minor = refl; framed = refl; reader = refl; live = λ e. (e, refl); entered = refl; answered = λ a. a; sends = same }

-- stages are made, of one that has none
pub made_goes : (n : ℕ) (dead : List ℕ) (x : Exchange) (hub : Hub) → x.is_entered ≡ false → Keeps n (x, hub) (exchange_with_stages dead x, hub)
made_goes n dead x hub unentered = by_bool (λ (y : Exchange). Keeps n (x, hub) (y, hub)) (x.has_ended || x.is_answered) x _ (λ e. keeps_itself n (x, hub)) (λ e t i u. record {
  more = [];
  grows = sym (append-nil (up_traffic n hub.sent));
  goes = subst (λ (s : List Traffic). Up (made) [] s i) (sym (append-nil t)) (record {
    left = u.left;
    outs = u.outs;
    are = u.are;
    is = u.is;
    opened = u.opened;
    through = λ f. made_phase (new_stage false) (λ g. (refl, refl, refl)) (run fresh u.left) (filter (is_live dead) x.filters) ∙ (ap (chain (run fresh u.left)) (sym (u.unentered f unentered)) ∙ u.through f);
    idle = λ f. made_idle (new_stage false) (λ g. refl) (filter (is_live dead) x.filters);
    sound = u.sound;
    left_sound = u.left_sound;
    unentered = λ f g. never g;
    answered = λ f. never (sym (or_true x.has_ended) ∙ (ap (λ b. x.has_ended || b) (sym f) ∙ e));
  });
})
  where
    made : Exchange
    made = record x { request = map (new_stage false) (filter (is_live dead) x.filters); response = reverse (map (new_stage true) (filter (is_live dead) x.filters)); is_entered = true }

-- ALL THAT AN EXCHANGE DOES sends up the items of one message, where what comes is one
pub own_goes : (n : ℕ) (deed : Deed) (x : Exchange) (hub : Hub) (t : List Traffic) (i : Phase) → IsOwn deed → Up x [] t i → IsSound (run i (request_in deed)) → Onward n hub (done_by n deed x hub) t (run i (request_in deed))
own_goes n (comes items) x hub t i own u sound = put_in_goes n items x hub t i u sound
own_goes n (responds items) x hub t i own u sound = still_keeps n (x, hub) _ (put_back_still n items x hub) t i u
own_goes n (acts response k value) x hub t i own u sound = acts_keeps response k value n x hub t i u
own_goes n (resumes vm context response) x hub t i own u sound = resumes_at_keeps response n (stage_of vm context (chain_of response x)) x hub t i u
own_goes n closes x hub t i own u sound = still_keeps n (x, hub) _ (closed_still n x hub) t i u
own_goes n (answers shut status fields body) x hub t i own u sound = still_keeps n (x, hub) _ (answer_still n shut status fields body x hub) t i u
own_goes n (dies vm) x hub t i own u sound = dies_keeps vm n x hub t i u
own_goes n (refuses status) x hub t i own u sound = still_keeps n (x, hub) _ (refused_still status n x hub) t i u
own_goes n expires x hub t i own u sound = still_keeps n (x, hub) _ (expires_still n x hub) t i u
own_goes n (turns y after) x hub t i own u sound = absurd own
