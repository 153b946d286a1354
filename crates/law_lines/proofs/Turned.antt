-- The line of a number where what is in hand or what is read becomes another.
use Rattle.std.proofs.Common.{◌≡◌, ◌⊎◌, inl, inr, ℕ, zero, suc, ◌==◌, Bool, true, false, List, [], ◌∷◌, ◌++◌, refl, ap, ◌∙◌, sym, subst}
use Rattle.std.proofs.lemmas.List.{append-nil}
use Rattle.std.specs.Prelude.{Option, None, Some, slice_get, slice_set}
use Rattle.contexts.specs.declared.parts.Contexts.{Contexts}
use Rattle.exchange.specs.declared.types.Exchange.{Exchange}
use Rattle.exchange.specs.declared.types.Hub.{Hub}
use Rattle.law_exchange.specs.Ends.{IsOwn}
use Rattle.law_exchange.specs.Lives.{Deed, turns, done_by, IsFair, is_over}
use Rattle.law_exchange.specs.Own.{SendsOn}
use Rattle.law_exchange.specs.Traffic.{up_traffic}
use Rattle.filter_chain.specs.declared.item.ChainItem.{ChainItem}
use Rattle.gate_io.specs.declared.event.Sent.{Sent}
use Rattle.header_maps.specs.Headers.{Headers}
use Rattle.h1_model.specs.Messages.{Due, head}
use Rattle.worker_model.specs.declared.types.Job.{Job}
use Rattle.worker_model.specs.declared.types.Line.{Line}
use Rattle.worker_model.specs.declared.types.ReadBatch.{ReadBatch}
use Rattle.worker_model.specs.Plan.{Plan}
use Rattle.worker_model.specs.Rooms.{Changes, with_marks, in_line, in_exchange, with_result, put_back, at_some, at_place, place_in}
use Rattle.worker_model.specs.Steps.{exchange_of_line, begins_with_head}
use Rattle.law_lines.specs.Living.{request_in}
use Rattle.law_lines.proofs.Finding.{Seeks, missing, first, seeks, IsOnce, only_found, set_once, set_there}
use Rattle.law_lines.proofs.Hearing.{Listens, Feeds, feeds_listen}
use Rattle.law_lines.proofs.Kept.{Kept, over_told}
use Rattle.law_lines.proofs.Looks.{is_n, look, Beside, IsPlain, plain_kept, kept_by, equal_by, Still, still_aside, set_still, sends_beside, beside_itself, beside_then, LineGoes, looks_aside}
use Rattle.law_lines.proofs.Phases.{Phase, run, IsSound}
use Rattle.law_lines.proofs.Upward.{Onward, own_goes}
use Rattle.law_lines.proofs.Story.{HasClose, NoClose, NoEnter, OneEnter, batch_of, IsFreshJobs, IsRefusing, pending, Alike, Becomes, passage_on, Proper, Matches, ReadsOk, Stream, fresh, going, doomed, Tale, plainly, filtered, ExOk, LineOk, LivesUp, story_on}
use Rattle.law_lines.proofs.Calmed.{other_on}
use Rattle.law_lines.proofs.Sides.{Notes, notes_become, ExNotes, idle_same}

-- the line before and behind, where its text is due what it was
abbrev pub LineTurns : ℕ → Option Line → Hub → Option Line → Hub → Type 0
LineTurns n None hub None after = up_traffic n after.sent ≡ up_traffic n hub.sent
LineTurns n None hub (Some m) after = ⊥
LineTurns n (Some l) hub None after = ⊥
LineTurns n (Some l) hub (Some m) after = (m.requests.asked ≡ l.requests.asked) × (m.requests.due ≡ l.requests.due) × ExNotes n l.exchange hub m.exchange after × Feeds l.requests m.requests

-- what is in hand, and what is read
pub record Turn (n : ℕ) (js : List Job) (now : Option ReadBatch) (ks : List Job) : Type 0 where
  pub pend : pending n now ks ≡ pending n None js
  pub has : HasClose n js → HasClose n ks
  pub no : NoClose n js → NoClose n ks
  pub refusing : IsRefusing n js → IsRefusing n ks
  pub none : NoEnter n js → NoEnter n ks
  pub once : OneEnter n js → OneEnter n ks
  pub unread : batch_of n now ≡ []
  pub unfresh : IsFreshJobs n js → ⊥

module _ (plan : Plan) (n : ℕ) (past : List Sent) (js : List Job) (now : Option ReadBatch) (ks : List Job) (t : Turn n js now ks) where
  stream_turn : (lines later : List Line) (x y : Exchange) (c d : Contexts) (fields : Headers) (got : List ChainItem) → y.asked ≡ x.asked → (is_over x ≡ true → is_over y ≡ true)
      → Stream n None js lines x c fields got → Stream n now ks later y d fields got
  stream_turn lines later x y c d fields got same over (fresh none is rests map proper) = absurd (t.unfresh is)
  stream_turn lines later x y c d fields got same over (going begins proper) =
      going begins (subst (λ l. Proper (got ++ l) y.asked.whole) (sym t.pend) (subst (λ b. Proper (got ++ pending n None js) b) (sym (ap (λ q. q.whole) same)) proper))
  stream_turn lines later x y c d fields got same over (doomed message none (inl is)) = doomed message (t.pend ∙ none) (inl (over is))
  stream_turn lines later x y c d fields got same over (doomed message none (inr is)) = doomed message (t.pend ∙ none) (inr (t.refusing is))

  turn_alike : Alike n None js now ks
  turn_alike = record {
    pend = t.pend;
    refusing = t.refusing;
    none = t.none;
    once = t.once;
    first = λ e. let never : ◌≡◌ {A = Bool} false true = ap begins_with_head (sym t.unread) ∙ e in absurd (cc);
  }

  tale_turn : (lines later : List Line) (x y : Exchange) (hub after : Hub) → Listens n lines later → Notes n x hub y after → Tale plan n past None js lines x hub → Tale plan n past now ks later y after
  tale_turn lines later x y hub after listens q (plainly s) =
      let l : LivesUp n x hub y after = q.plain s.plain in
      plainly (story_on plan n past None now js ks lines later x y hub after s l (ap (λ a. a.minor) q.asked)
      (passage_on n past None now js ks lines later x y hub after s.head s.start (up_traffic n s.start_hub.sent) _ turn_alike listens (notes_become n x y hub after q) s.passage)
      (stream_turn lines later x y hub.contexts after.contexts s.head.fields _ q.asked l.over s.stream))
  tale_turn lines later x y hub after listens q (filtered o) = filtered (other_on plan n past None now js ks lines later x y hub after (λ e. sym q.filters ∙ e) turn_alike listens (notes_become n x y hub after q) o)

  exchange_turn : (lines later : List Line) (due : Due) (o p : Option Exchange) (hub after : Hub) → Listens n lines later → ExNotes n o hub p after → ((y : Exchange) → p ≡ Some y → ReadsOk n now y) → ExOk plan n past None js lines due o hub
      → ExOk plan n past now ks later due p after
  exchange_turn lines later due None None hub after listens q reads ok = record { none = t.pend ∙ ok.none; due_or = by_due ok.due_or; idle = idle_same plan n past hub after q ok.idle }
    where
      by_due : (due ≡ head) ⊎ HasClose n js → (due ≡ head) ⊎ HasClose n ks
      by_due (inl e) = inl e
      by_due (inr e) = inr (t.has e)
  exchange_turn lines later due None (Some y) hub after listens q reads ok = absurd q
  exchange_turn lines later due (Some x) None hub after listens q reads ok = absurd q
  exchange_turn lines later due (Some x) (Some y) hub after listens q reads ok = record {
    staid = q.staid ok.staid;
    matches = subst (λ w. Matches w due) (sym (ap (λ a. a.whole) q.asked)) ok.matches;
    unclosed = t.no ok.unclosed;
    reads = reads y refl;
    tale = tale_turn lines later x y hub after listens q ok.tale;
  }

  pub line_turn : (lines later : List Line) (o p : Option Line) (hub after : Hub) → look n lines ≡ o → look n later ≡ p → LineTurns n o hub p after → ((y : Exchange) → exchange_of_line p ≡ Some y → ReadsOk n now y) → LineOk plan n past None js lines o hub
      → LineOk plan n past now ks later p after
  line_turn lines later None None hub after at to q reads ok = (t.pend ∙ ok.0, idle_same plan n past hub after q ok.1)
  line_turn lines later None (Some m) hub after at to q reads ok = absurd q
  line_turn lines later (Some l) None hub after at to q reads ok = absurd q
  line_turn lines later (Some l) (Some m) hub after at to q reads ok = (
    q.0 ∙ ok.0,
    subst (λ d. ExOk plan n past now ks later d m.exchange after) (sym q.1) (exchange_turn lines later l.requests.due l.exchange m.exchange hub after (feeds_listen n lines later l m at to q.3) q.2 reads ok.1),
  )

-- ---- what is done to the exchange of the line, exactly

set_same : {X : Type 0} (xs : List X) (k : ℕ) (x : X) → slice_get xs k ≡ Some x → slice_set xs k x ≡ xs
set_same [] k x at = refl
set_same (z ∷ xs) zero x at = let same : z ≡ x = cc in ap (λ (w : _). w ∷ xs) (sym same)
set_same (z ∷ xs) (suc k) x at = ap (λ (l : List _). z ∷ l) (set_same xs k x at)

pub data Exact (n : ℕ) (change : Changes) (lines : List Line) (hub : Hub) (p : List Line × Hub) : Type 0 where
  same : p.0 ≡ lines → p.1 ≡ hub → exchange_of_line (look n lines) ≡ None → Exact n change lines hub p
  changed : (l : Line) (x : Exchange) → look n lines ≡ Some l → l.exchange ≡ Some x → IsOnce (is_n n) p.0 → look n p.0 ≡ Some (record l { exchange = Some (change n x hub).0 }) → p.1 ≡ (with_marks (change n x hub)).1
      → Exact n change lines hub p

pub exact : (n m : ℕ) (change : Changes) (lines : List Line) (hub : Hub) → IsOnce (is_n n) lines → (m == n) ≡ true → Exact n change lines hub (at_place change lines (place_in m lines) hub)
exact n m change lines hub once here = by_seek (seeks (is_n m) lines)
  where
    by_seek : Seeks (is_n m) lines → Exact n change lines hub (at_place change lines (place_in m lines) hub)
    by_seek (missing at none) =
        subst (λ (o : Option ℕ). Exact n change lines hub (at_place change lines o hub)) (sym at)
        (same refl refl (ap exchange_of_line (subst (λ (k : ℕ). look k lines ≡ None) (equal_by m n here) none)))
    by_seek (first k l at there passes found) =
        subst (λ (o : Option ℕ). Exact n change lines hub (at_place change lines o hub)) (sym at)
        (subst (λ (o : Option Line). Exact n change lines hub (at_some change lines k o hub)) (sym there) (by_exchange l.exchange refl))
      where
        number : l.number ≡ n
        number = equal_by l.number m passes ∙ equal_by m n here

        mine : is_n n l ≡ true
        mine = subst (λ (j : ℕ). is_n j l ≡ true) (equal_by m n here) passes

        found_n : look n lines ≡ Some l
        found_n = only_found (is_n n) lines k l once there mine

        by_exchange : (o : Option Exchange) → l.exchange ≡ o → Exact n change lines hub (put_back lines k (in_exchange change l o hub))
        by_exchange None none = same (set_same lines k l there) refl (ap exchange_of_line found_n ∙ none)
        by_exchange (Some x) some =
            subst (λ (j : ℕ). Exact n change lines hub (put_back lines k (with_result l (with_marks (change j x hub))))) (sym number)
            (let m : Line = record l { exchange = Some (change n x hub).0 } in
            let later : IsOnce (is_n n) (slice_set lines k m) = set_once (is_n n) lines k l m once there refl in
            changed l x found_n some later (only_found (is_n n) (slice_set lines k m) k m later (set_there lines k l m there) mine) refl)

abbrev Goal : ℕ → List Line → Hub → List Line × Hub → Type 0
Goal n lines hub p = Still n lines hub p.0 p.1

-- on another line
pub on_another : (n m : ℕ) (change : Changes) (lines : List Line) (hub : Hub) → IsOnce (is_n n) lines → (m == n) ≡ false → ((x : Exchange) (k : Hub) → SendsOn m k (change m x k).1)
    → Still n lines hub (at_place change lines (place_in m lines) hub).0 (at_place change lines (place_in m lines) hub).1
on_another n m change lines hub once other own = by_seek (seeks (is_n m) lines)
  where
    by_seek : Seeks (is_n m) lines → Goal n lines hub (at_place change lines (place_in m lines) hub)
    by_seek (missing at none) = subst (λ (o : Option ℕ). Goal n lines hub (at_place change lines o hub)) (sym at) (still_aside n lines hub hub once (beside_itself n hub))
    by_seek (first k l at there passes found) =
        subst (λ (o : Option ℕ). Goal n lines hub (at_place change lines o hub)) (sym at) (subst (λ (o : Option Line). Goal n lines hub (at_some change lines k o hub)) (sym there) (set_still n lines k l (in_line change l hub).0 hub (in_line change l hub).1 once there goes))
      where
        number : l.number ≡ m
        number = equal_by l.number m passes

        apart : (l.number == n) ≡ false
        apart = ap (λ (j : ℕ). j == n) number ∙ other

        by_exchange : (o : Option Exchange) → l.exchange ≡ o → LineGoes n l hub (in_exchange change l o hub).0 (in_exchange change l o hub).1
        by_exchange None none = record { number = refl; on = λ e. looks_aside n (Some l) hub hub (beside_itself n hub); off = λ e. beside_itself n hub }
        by_exchange (Some x) some = record {
          number = refl;
          on = λ e. let never : ◌≡◌ {A = Bool} true false = sym e ∙ apart in absurd (cc);
          off = λ e. beside_then n hub (change l.number x hub).1 (with_marks (change l.number x hub)).1
              (subst (λ (j : ℕ). Beside n hub (change j x hub).1) (sym number) (sends_beside n m hub (change m x hub).1 other (own x hub))) (record { up = refl; down = refl; client = refl });
        }

        goes : LineGoes n l hub (in_line change l hub).0 (in_line change l hub).1
        goes = by_exchange l.exchange refl

-- ---- an own deed that brings no item of the request

pub own_up : (n : ℕ) (deed : Deed) (x : Exchange) (hub after : Hub) → IsOwn deed → IsFair n deed x hub → request_in deed ≡ [] → after.sent ≡ (done_by n deed x hub).1.sent → IsPlain x → LivesUp n x hub (done_by n deed x hub).0 after
own_up n deed x hub after own fair none sent p =
    let k : Kept x (done_by n deed x hub).0 = kept_by n deed x hub own in
    let q : IsPlain (done_by n deed x hub).0 = plain_kept x (done_by n deed x hub).0 k p in
    record {
      deeds = deed ∷ turns (done_by n deed x hub).0 after ∷ [];
      plain = q;
      lives = ((fair, (λ e. absurd (cc))), (((record { unfiltered = q.1; framed = refl; stays_over = λ o. o }, ap (up_traffic n) sent), (λ e. absurd (cc))), (refl, refl)));
      no_request = append-nil (request_in deed) ∙ none;
      over = over_told x (done_by n deed x hub).0 k.told;
      opened = k.opened;
    }

-- what it is then
pub own_becomes : (n : ℕ) (deed : Deed) (x : Exchange) (hub after : Hub) → IsOwn deed → request_in deed ≡ [] → after.sent ≡ (done_by n deed x hub).1.sent → Becomes n x hub (done_by n deed x hub).0 after
own_becomes n deed x hub after own none sent =
    let k : Kept x (done_by n deed x hub).0 = kept_by n deed x hub own in
    record {
      asked = k.asked;
      place = k.place;
      entered = k.entered;
      framed = k.framed;
      over = over_told x (done_by n deed x hub).0 k.told;
      keeps = λ t i u.
          let o : Onward n hub (done_by n deed x hub) t i
          = subst (λ (j : Phase). Onward n hub (done_by n deed x hub) t j) (ap (run i) none) (own_goes n deed x hub t i own u (subst (λ (l : List ChainItem). IsSound (run i l)) (sym none) u.sound)) in
          record { more = o.more; grows = ap (up_traffic n) sent ∙ o.grows; goes = o.goes };
    }
