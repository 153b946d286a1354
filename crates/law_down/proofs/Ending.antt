-- A step in which an exchange ends, seen from what goes down on the line of a number.
use Rattle.std.proofs.Common.{◌≡◌, inl, inr, ℕ, ◌==◌, Bool, true, false, List, [], ◌∷◌, ◌++◌, map, refl, ap, ◌∙◌, sym, subst}
use Rattle.std.proofs.lemmas.Grind.{flat_map-append}
use Rattle.std.proofs.lemmas.List.{append-nil}
use Rattle.std.specs.List.{flat_map}
use Rattle.std.specs.Prelude.{Option, None, Some, option_map, slice_get, slice_set, position}
use Rattle.exchange.specs.declared.types.Exchange.{Exchange}
use Rattle.exchange.specs.declared.types.Request.{Request}
use Rattle.exchange.specs.Heads.{request_of}
use Rattle.law_exchange.specs.Responses.{IsOneResponse}
use Rattle.law_exchange.specs.Traffic.{Traffic, byte}
use Rattle.gate_io.specs.declared.event.Sent.{Sent}
use Rattle.h1_model.specs.Unread.{Reading}
use Rattle.worker_model.specs.Room.{Room}
use Rattle.worker_model.specs.declared.types.Job.{Job}
use Rattle.worker_model.specs.declared.types.Job.TheVariants as jobs
use Rattle.worker_model.specs.declared.types.Line.{Line}
use Rattle.worker_model.specs.declared.types.ReadBatch.{ReadBatch}
use Rattle.worker_model.specs.Plan.{Plan}
use Rattle.worker_model.specs.Moves.{ended_at, ended_back, ended_in}
use Rattle.worker_model.specs.Rooms as rooms
use Rattle.worker_model.specs.Steps.{close_up, done_jobs, end_with, end_at}
use Rattle.law_lines.specs.Clients.{client_traffic}
use Rattle.law_lines.proofs.Ending.{done_free}
use Rattle.law_lines.proofs.Finding.{Seeks, missing, first, seeks, IsOnce, set_other, only_found, set_once, set_there}
use Rattle.law_lines.proofs.Looks.{is_n}
use Rattle.law_down.specs.Downward.{Part, AreStaying, wire_of, IsResponseTo}
use Rattle.law_down.proofs.Sending.{grows_none}
use Rattle.law_down.proofs.Below.{SentDown, nothing, running, at_end, clash}
use Rattle.law_down.proofs.Under.{awaiting, Closing, Going, Waiting, LineUnder, exchange_at, held_on, Under, total_same, under_alike}
use Rattle.law_down.proofs.Calmly.{free_backs, free_closing}

close_none : (n m : ℕ) (o : Option Reading) → client_traffic n (close_up m o) ≡ []
close_none n m None = refl
close_none n m (Some r) = refl

-- what it was asked is as its head says
pub asked_as : (plan : Plan) (n : ℕ) (total : List Traffic) (reading : Option ReadBatch) (js : List Job) (x : Exchange) → (g : Going plan n total reading js x) → (x.asked.is_head ≡ (request_of g.head).is_head) × (x.asked.old_client ≡ (request_of g.head).old_client) × (g.first.asked.old_client ≡ (request_of g.head).old_client)
asked_as plan n total reading js x g =
    let first : g.first.asked ≡ request_of g.head = ap (λ (y : Exchange). y.asked) g.begun.is in
    (ap (λ (q : Request). q.is_head) g.asked ∙ ap (λ (q : Request). q.is_head) first, ap (λ (q : Request). q.old_client) g.asked ∙ ap (λ (q : Request). q.old_client) first, ap (λ (q : Request). q.old_client) first)

pub one_of : (plan : Plan) (n : ℕ) (total : List Traffic) (reading : Option ReadBatch) (js : List Job) (x : Exchange) (stays : Bool) → (g : Going plan n total reading js x) → IsOneResponse x.asked.is_head x.asked.old_client stays g.went
    → IsResponseTo plan (record { head = g.head; first = g.first }) (record { from = Some (record { head = g.head; first = g.first }); interims = g.interims; wire = g.went; stays = stays })
one_of plan n total reading js x stays g one =
    let a = asked_as plan n total reading js x g in
    record {
      begun = g.begun;
      interim = g.interim;
      new_client = λ old. g.new_client (a.2 ∙ old);
      one = subst (λ b. IsOneResponse b (request_of g.head).old_client stays g.went) a.0 (subst (λ b. IsOneResponse x.asked.is_head b stays g.went) a.1 one);
    }

module _ (plan : Plan) (n : ℕ) (past : List Sent) where
  -- its part is there
  part_ends : (total : List Traffic) (x : Exchange) (ks : List Job) → x.has_ended ≡ true → (x.stays ≡ false → Closing n ks) → Going plan n total None [] x → Waiting plan n total ks
  part_ends total x ks ended closing g = by_sent g.below.sent
    where
      p : Part
      p = record { from = Some (record { head = g.head; first = g.first }); interims = g.interims; wire = g.went; stays = x.stays }

      by_stays : IsResponseTo plan (record { head = g.head; first = g.first }) p → (b : Bool) → x.stays ≡ b → Waiting plan n total ks
      by_stays is true stays = record {
        before = g.before;
        closed = g.closed;
        staying = g.staying ++ p ∷ [];
        stay = joined g.staying g.stay;
        last = None;
        lasts = tt;
        is = g.is ∙ ap (λ l. g.before ++ map byte l) (sym (append-nil (flat_map wire_of (g.staying ++ p ∷ [])) ∙ (flat_map-append wire_of g.staying (p ∷ []) ∙ ap (λ l. flat_map wire_of g.staying ++ l) (append-nil (wire_of p)))));
        ends = inl refl;
      }
        where
          joined : (l : List Part) → AreStaying plan l → AreStaying plan (l ++ p ∷ [])
          joined [] are = (is, stays, tt)
          joined (q ∷ l) are = (are.0, are.1, joined l are.2)
      by_stays is false stays = record {
        before = g.before;
        closed = g.closed;
        staying = g.staying;
        stay = g.stay;
        last = Some p;
        lasts = is;
        is = g.is;
        ends = inr (closing stays);
      }

      by_sent : SentDown x g.went → Waiting plan n total ks
      by_sent (nothing h e is) = clash x.has_ended ended e
      by_sent (running h e r) = clash x.has_ended ended e
      by_sent (at_end e one) = by_stays (one_of plan n total None [] x x.stays g one) x.stays refl

  pub end_under : (place : ℕ) (room : Room) → IsOnce (is_n n) room.lines → room.jobs ≡ [] → room.reading ≡ None → position rooms.is_over room.lines ≡ Some place → Under plan n past room → Under plan n past (end_at place room)
  end_under place room once jobless quiet at u = by_seek (seeks rooms.is_over room.lines)
    where
      total : List Traffic
      total = client_traffic n (past ++ room.hub.sent)

      here : LineUnder plan n (client_traffic n (past ++ room.hub.sent)) None [] (held_on n room.lines)
      here = subst (λ (r : Option ReadBatch). LineUnder plan n (client_traffic n (past ++ room.hub.sent)) r [] (held_on n room.lines)) quiet (subst (λ l. LineUnder plan n (client_traffic n (past ++ room.hub.sent)) room.reading l (held_on n room.lines)) jobless u)

      by_line : (l : Line) → slice_get room.lines place ≡ Some l → rooms.is_over l ≡ true → Under plan n past (end_at place room)
      by_line l there ended = subst (λ (o : Option Line). Under plan n past (end_with room (ended_at place o room.lines))) (sym there) (by_exchange l.exchange refl)
        where
          by_exchange : (o : Option Exchange) → l.exchange ≡ o → Under plan n past (end_with room (ended_back place room.lines (ended_in l o)))
          by_exchange None none = let never : ◌≡◌ {A = Bool} false true = ap rooms.exchange_ends (sym none) ∙ ended in absurd (cc)
          by_exchange (Some x) some =
              subst (λ (r : Option ReadBatch). LineUnder plan n later_total r later.jobs (held_on n later.lines)) (sym quiet)
              (subst (λ (l : List Job). LineUnder plan n later_total None l (held_on n later.lines)) (sym js)
              (subst (λ (t : List Traffic). LineUnder plan n t None ks (held_on n later.lines)) (sym same) (by_test (l.number == n) refl)))
            where
              m : Line
              m = record l { exchange = None }

              ks : List Job
              ks = done_jobs x.filters ++ jobs.Close l.number x.stays ∷ []

              later : Room
              later = end_with room (Some (l.number, x), slice_set room.lines place (record l { exchange = None }))

              later_total : List Traffic
              later_total = client_traffic n (past ++ (end_with room (Some (l.number, x), slice_set room.lines place (record l { exchange = None }))).hub.sent)

              js : (end_with room (Some (l.number, x), slice_set room.lines place (record l { exchange = None }))).jobs ≡ done_jobs x.filters ++ jobs.Close l.number x.stays ∷ []
              js = ap (λ q. (done_jobs x.filters ++ jobs.Close l.number x.stays ∷ []) ++ q) jobless ∙ append-nil (done_jobs x.filters ++ jobs.Close l.number x.stays ∷ [])

              same : later_total ≡ client_traffic n (past ++ room.hub.sent)
              same = total_same n past room.hub (end_with room (Some (l.number, x), slice_set room.lines place (record l { exchange = None }))).hub (grows_none n room.hub.sent (close_up l.number x.reader) (close_none n l.number x.reader))

              set_so : IsOnce (is_n n) (slice_set room.lines place (record l { exchange = None }))
              set_so = set_once (is_n n) room.lines place l (record l { exchange = None }) once there refl

              none_wait : awaiting n None (done_jobs x.filters ++ jobs.Close l.number x.stays ∷ []) ≡ []
              none_wait = ap (λ l. l ++ []) (free_backs n (done_jobs x.filters) (jobs.Close l.number x.stays ∷ []) (done_free x.filters))

              by_test : (b : Bool) → (l.number == n) ≡ b → LineUnder plan n (client_traffic n (past ++ room.hub.sent)) None (done_jobs x.filters ++ jobs.Close l.number x.stays ∷ []) (held_on n (slice_set room.lines place (record l { exchange = None })))
              by_test false other =
                  subst (λ (o : Option Line). LineUnder plan n (client_traffic n (past ++ room.hub.sent)) None (done_jobs x.filters ++ jobs.Close l.number x.stays ∷ []) (option_map exchange_at o)) (sym (set_other (is_n n) room.lines place l (record l { exchange = None }) there other other))
                  (under_alike plan n (client_traffic n (past ++ room.hub.sent)) (client_traffic n (past ++ room.hub.sent)) None None [] (done_jobs x.filters ++ jobs.Close l.number x.stays ∷ []) (held_on n room.lines) refl (record { waits = none_wait; ends = λ c. absurd c }) (λ y e. tt) here)
              by_test true mine =
                  subst (λ (o : Option Line). LineUnder plan n (client_traffic n (past ++ room.hub.sent)) None (done_jobs x.filters ++ jobs.Close l.number x.stays ∷ []) (option_map exchange_at o))
                  (sym (only_found (is_n n) (slice_set room.lines place (record l { exchange = None })) place (record l { exchange = None }) set_so (set_there room.lines place l (record l { exchange = None }) there) mine))
                  (part_ends (client_traffic n (past ++ room.hub.sent)) x (done_jobs x.filters ++ jobs.Close l.number x.stays ∷ []) (ap rooms.exchange_ends (sym some) ∙ ended)
                  (λ stays. free_closing n (done_jobs x.filters) (jobs.Close l.number x.stays ∷ []) (done_free x.filters) (mine, stays))
                  (subst (λ (o : Option Exchange). LineUnder plan n (client_traffic n (past ++ room.hub.sent)) None [] (Some o)) some
                  (subst (λ (o : Option Line). LineUnder plan n (client_traffic n (past ++ room.hub.sent)) None [] (option_map exchange_at o)) (only_found (is_n n) room.lines place l once there mine) here)))

      by_seek : Seeks rooms.is_over room.lines → Under plan n past (end_at place room)
      by_seek (missing absent none) = let e : ◌≡◌ {A = Option ℕ} None (Some place) = sym absent ∙ at in absurd (cc)
      by_seek (first j l found there passes seen) =
          let same : Some j ≡ Some place = sym found ∙ at in
          let is : j ≡ place = cc in
          by_line l (subst (λ (i : ℕ). slice_get room.lines i ≡ Some l) is there) passes
