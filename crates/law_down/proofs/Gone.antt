-- A line whose client is gone: its exchange has ended, and then it is dropped; and a step, seen from the two sides of a line.
use Rattle.std.proofs.Common.{◌≡◌, ℕ, Bool, true, false, List, [], ◌∷◌, ◌++◌, refl, ap, ◌∙◌, sym, subst}
use Rattle.std.proofs.lemmas.List.{append-nil, append_assoc, append_cancel_left}
use Rattle.std.proofs.lemmas.Grind.{flat_map-append}
use Rattle.std.specs.Prelude.{Option, None, Some, option_map, if◌then◌else◌}
use Rattle.callouts.specs.Callouts.{is_call_line}
use Rattle.exchange.specs.declared.types.Exchange.{Exchange}
use Rattle.exchange.specs.declared.types.Hub.{Hub}
use Rattle.law_exchange.specs.Ends.{IsOwn, StaysEnded}
use Rattle.law_exchange.specs.Lives.{Deed, comes, responds, acts, resumes, closes as closes_both, answers, dies, refuses, expires, turns, done_by}
use Rattle.law_exchange.specs.Traffic.{Traffic, up_traffic}
use Rattle.law_exchange.proofs.Ends.{nothing_follows_end}
use Rattle.law_exchange.proofs.Traffic.{ups_join}
use Rattle.gate_io.specs.declared.event.Sent.{Sent}
use Rattle.gate_io.specs.declared.event.What.{What}
use Rattle.worker_model.specs.Room.{Room}
use Rattle.worker_model.specs.declared.types.Job.{Job}
use Rattle.worker_model.specs.declared.types.Line.{Line}
use Rattle.worker_model.specs.Plan.{Plan}
use Rattle.law_lines.specs.Clients.{client_traffic, client_of}
use Rattle.law_lines.proofs.Looks.{look, Beside, beside_itself, beside_then, BringsNone, Went, goes_aside, does_so, is_asked, has_too_much, has_filter, goes_then, Looks, Exs}
use Rattle.law_lines.proofs.Rooms.{Calm, same_sent}
use Rattle.law_lines.proofs.Story.{Known}
use Rattle.law_down.specs.InOrder.{State, shut, stands, state_after, state_at_event, has_up, lost_or_shut, state_in}
use Rattle.law_down.proofs.Under.{Closing}
use Rattle.law_down.proofs.Ordering.{runs_then, then_up, moves_up, ups_then, open_runs, beside_runs}
use Rattle.law_down.proofs.Upwards.{up_at, known_up}
use Rattle.law_down.proofs.Quietly.{Adds}
use Rattle.law_down.proofs.Goings.{gone_of, gone_at, happens_in, Goes}

-- ---- a client that is gone

-- its exchange has ended, and its line does not stay after it; or the line is dropped next
abbrev pub GoneEx : ℕ → List Job → Option Exchange → Type 0
GoneEx n js None = Closing n js
GoneEx n js (Some x) = (x.has_ended ≡ true) × (x.stays ≡ false)

abbrev pub GoneOk : ℕ → List Job → Option Line → Type 0
GoneOk n js None = Unit {0}
GoneOk n js (Some l) = l.is_gone ≡ true → GoneEx n js l.exchange

-- an exchange that has ended stays so, and nothing is sent on its line
record EndedSo (n : ℕ) (x : Exchange) (hub : Hub) (y : Exchange) (after : Hub) : Type 0 where
  ended : y.has_ended ≡ true
  stays : y.stays ≡ x.stays
  beside : Beside n hub after

brings_own : (deed : Deed) → BringsNone deed → IsOwn deed
brings_own (comes items) is = absurd is
brings_own (responds items) is = absurd is
brings_own (turns y hub) is = absurd is
brings_own (acts response k value) is = tt
brings_own (resumes vm context response) is = tt
brings_own closes_both is = tt
brings_own (answers shuts status fields body) is = tt
brings_own (dies vm) is = tt
brings_own (refuses status) is = tt
brings_own expires is = tt

went_ended : (n : ℕ) (x y : Exchange) (hub after : Hub) → Went n x hub y after → x.has_ended ≡ true → EndedSo n x hub y after
went_ended n x y hub after (goes_aside z k l b) e = record { ended = e; stays = refl; beside = b }
went_ended n x y hub after (does_so deed z k brings) e =
    let s : StaysEnded z k (done_by n deed z k).0 (done_by n deed z k).1 = nothing_follows_end n deed z k (brings_own deed brings) e in
    record { ended = ap (λ (a : Exchange). a.has_ended) s.same ∙ e; stays = ap (λ (a : Exchange). a.stays) s.same; beside = same_sent n k _ s.sends }
went_ended n x y hub after (is_asked false z k) e = record { ended = e; stays = refl; beside = record { up = refl; down = refl; client = refl } }
went_ended n x y hub after (is_asked true z k) e = record { ended = e; stays = refl; beside = record { up = refl; down = refl; client = refl } }
went_ended n x y hub after (has_too_much response z k state_after) e = let never : ◌≡◌ {A = Bool} true false = sym e ∙ state_after in absurd (cc)
went_ended n x y hub after (has_filter j f z k) e = record { ended = e; stays = refl; beside = beside_itself n k }
went_ended n x y hub after (goes_then a b c k m l first later) e =
    let one : EndedSo n a k b m = went_ended n a b k m first e in
    let two : EndedSo n b m c l = went_ended n b c m l later one.ended in
    record { ended = two.ended; stays = two.stays ∙ one.stays; beside = beside_then n k m l one.beside two.beside }

-- nothing is sent on a line whose client is not connected
pub looks_beside : (n : ℕ) (js : List Job) (o p : Option Line) (hub after : Hub) → Looks n o hub p after → GoneOk n js o → (option_map gone_of o ≡ Some false → ⊥) → Beside n hub after
looks_beside n js None None hub after b ok away = b
looks_beside n js None (Some m) hub after b ok away = absurd b
looks_beside n js (Some l) None hub after b ok away = absurd b
looks_beside n js (Some l) (Some m) hub after b ok away = by_gone l.is_gone refl
  where
    by_exchanges : (o p : Option Exchange) → Exs n o hub p after → GoneEx n js o → Beside n hub after
    by_exchanges None None b ok = b
    by_exchanges None (Some y) b ok = absurd b
    by_exchanges (Some x) None b ok = absurd b
    by_exchanges (Some x) (Some y) b ok = (went_ended n x y hub after b.how ok.0).beside

    by_gone : (g : Bool) → l.is_gone ≡ g → Beside n hub after
    by_gone true is = by_exchanges l.exchange m.exchange b.2 (ok is)
    by_gone false is = absurd (away (ap Some is))

pub looks_gone : (n : ℕ) (js ks : List Job) (o p : Option Line) (hub after : Hub) → Looks n o hub p after → (Closing n js → Closing n ks) → GoneOk n js o → GoneOk n ks p
looks_gone n js ks None None hub after b ends ok = tt
looks_gone n js ks None (Some m) hub after b ends ok = absurd b
looks_gone n js ks (Some l) None hub after b ends ok = absurd b
looks_gone n js ks (Some l) (Some m) hub after b ends ok = λ gone. by_exchanges l.exchange m.exchange b.2 (ok (sym b.1 ∙ gone))
  where
    by_exchanges : (o p : Option Exchange) → Exs n o hub p after → GoneEx n js o → GoneEx n ks p
    by_exchanges None None b ok = ends ok
    by_exchanges None (Some y) b ok = absurd b
    by_exchanges (Some x) None b ok = absurd b
    by_exchanges (Some x) (Some y) b ok = let e : EndedSo n x hub y after = went_ended n x y hub after b.how ok.0 in (e.ended, e.stays ∙ ok.1)

-- ---- a step

abbrev pub due_in : List Job → Room → List What
due_in js room = happens_in js ++ happens_in room.agenda

-- The line is there or not, and its client is connected or gone, as before, and nothing is sent on it where its client is not connected; or this is sent.
pub data Change (n : ℕ) (face : State → State) (room later : Room) : Type 0 where
  still : ((s : State) → face s ≡ s) → gone_at n later.lines ≡ gone_at n room.lines → Adds room.hub later.hub → ((gone_at n room.lines ≡ Some false → ⊥) → Beside n room.hub later.hub) → Change n face room later
  sends_so : (more : List Sent) → later.hub.sent ≡ room.hub.sent ++ more → state_after n more (face (state_in (look n room.lines))) ≡ Some (state_in (look n later.lines)) → Change n face room later

abbrev pub as_before : State → State
as_before s = s

-- from a room with these jobs, without an event
pub record Plain (n : ℕ) (js : List Job) (room later : Room) : Type 0 where
  pub change : Change n as_before room later
  pub gone : GoneOk n later.jobs (look n later.lines)
  pub due : due_in js room ≡ due_in later.jobs later

-- or with one
pub data Step (n : ℕ) (js : List Job) (room later : Room) : Type 0 where
  plainly : Plain n js room later → Step n js room later
  faces : (w : What) → Change n (state_at_event n w) room later → GoneOk n later.jobs (look n later.lines) → due_in js room ≡ w ∷ due_in later.jobs later → Step n js room later

pub step_gone : (n : ℕ) (js : List Job) (room later : Room) → Step n js room later → GoneOk n later.jobs (look n later.lines)
step_gone n js room later (plainly p) = p.gone
step_gone n js room later (faces w change gone due) = gone

record Ran (n : ℕ) (face : State → State) (room later : Room) : Type 0 where
  more : List Sent
  adds : later.hub.sent ≡ room.hub.sent ++ more
  so : state_after n more (face (state_in (look n room.lines))) ≡ Some (state_in (look n later.lines))

module _ (plan : Plan) (n : ℕ) (low : is_call_line n ≡ false) (past : List Sent) (room later : Room) (before : Known plan n past room) (behind : Known plan n past later) where
  still_runs : (face : State → State) → ((s : State) → face s ≡ s) → gone_at n later.lines ≡ gone_at n room.lines → (s : Adds room.hub later.hub) → ((gone_at n room.lines ≡ Some false → ⊥) → Beside n room.hub later.hub)
      → state_after n s.more (face (state_in (look n room.lines))) ≡ Some (state_in (look n later.lines))
  still_runs face same gone s away = by_lines (look n room.lines) (look n later.lines) gone away delta
    where
      split : up_traffic n (past ++ later.hub.sent) ≡ up_traffic n (past ++ room.hub.sent) ++ up_traffic n s.more
      split = ap (λ l. up_traffic n (past ++ l)) s.adds ∙ (ap (up_traffic n) (sym (append_assoc past room.hub.sent s.more)) ∙ ups_join n (past ++ room.hub.sent) s.more)

      delta : moves_up (up_traffic n s.more) (up_at (look n room.lines)) ≡ Some (up_at (look n later.lines))
      delta =
          sym (ups_then (up_traffic n (past ++ room.hub.sent)) (up_traffic n s.more) false ∙ ap (then_up (moves_up (up_traffic n s.more))) (known_up plan n past room before))
          ∙ (ap (λ (t : List Traffic). moves_up t false) (sym split) ∙ known_up plan n past later behind)

      none_up : Beside n room.hub later.hub → up_traffic n s.more ≡ []
      none_up b = append_cancel_left (up_traffic n room.hub.sent) (up_traffic n s.more) [] (sym (ap (up_traffic n) s.adds ∙ ups_join n room.hub.sent s.more) ∙ (b.up ∙ sym (append-nil (up_traffic n room.hub.sent))))

      none_down : Beside n room.hub later.hub → client_traffic n s.more ≡ []
      none_down b =
          append_cancel_left (client_traffic n room.hub.sent) (client_traffic n s.more) []
          (sym (ap (client_traffic n) s.adds ∙ flat_map-append (client_of n) room.hub.sent s.more) ∙ (b.client ∙ sym (append-nil (client_traffic n room.hub.sent))))

      nothing_so : Beside n room.hub later.hub → (t : State) → state_after n s.more (face t) ≡ Some t
      nothing_so b t = ap (state_after n s.more) (same t) ∙ beside_runs n low s.more t s.quiet (none_up b) (none_down b)

      by_lines : (o p : Option Line) → option_map gone_of p ≡ option_map gone_of o → ((option_map gone_of o ≡ Some false → ⊥) → Beside n room.hub later.hub) → moves_up (up_traffic n s.more) (up_at o) ≡ Some (up_at p)
          → state_after n s.more (face (state_in o)) ≡ Some (state_in p)
      by_lines None None gone away up = nothing_so (away (λ e. absurd (cc))) shut
      by_lines None (Some m) gone away up = absurd (cc)
      by_lines (Some l) None gone away up = absurd (cc)
      by_lines (Some l) (Some m) gone away up = by_gone l.is_gone refl
        where
          alike : m.is_gone ≡ l.is_gone
          alike = cc

          by_gone : (g : Bool) → l.is_gone ≡ g → state_after n s.more (face (state_in (Some l))) ≡ Some (state_in (Some m))
          by_gone false is =
              ap (λ c. state_after n s.more (face (if c then lost_or_shut (has_up l.exchange) else stands (has_up l.exchange)))) is
              ∙ (ap (state_after n s.more) (same (stands (has_up l.exchange)))
              ∙ (open_runs n low s.more (has_up l.exchange) (has_up m.exchange) s.quiet up
              ∙ ap (λ c. Some (if c then lost_or_shut (has_up m.exchange) else stands (has_up m.exchange))) (sym (alike ∙ is))))
          by_gone true is =
              let b : Beside n room.hub later.hub = away (λ e. let never : ◌≡◌ {A = Option Bool} (Some true) (Some false) = sym (ap Some is) ∙ e in absurd (cc)) in
              let e : Some (has_up l.exchange) ≡ Some (has_up m.exchange) = ap (λ (t : List Traffic). moves_up t (has_up l.exchange)) (sym (none_up b)) ∙ up in
              let ups_alike : has_up l.exchange ≡ has_up m.exchange = cc in
              nothing_so b (state_in (Some l)) ∙ (λ i. Some (if sym alike i then lost_or_shut (ups_alike i) else stands (ups_alike i)))

  change_runs : (face : State → State) → Change n face room later → Ran n face room later
  change_runs face (still same gone s away) = record { more = s.more; adds = s.adds; so = still_runs face same gone s away }
  change_runs face (sends_so more adds so) = record { more = more; adds = adds; so = so }

-- ---- a turn so far: the event is still to come; or it has come

pub data Turning (n : ℕ) (w : What) (from : State) (room : Room) : Type 0 where
  waits_for : due_in room.jobs room ≡ w ∷ [] → state_after n room.hub.sent from ≡ Some (state_in (look n room.lines)) → Turning n w from room
  has_faced : due_in room.jobs room ≡ [] → (before behind : List Sent) (mid : State) → room.hub.sent ≡ before ++ behind → state_after n before from ≡ Some mid → state_after n behind (state_at_event n w mid) ≡ Some (state_in (look n room.lines))
      → Turning n w from room

pub turning_step : (plan : Plan) (n : ℕ) → is_call_line n ≡ false → (past : List Sent) (w : What) (from : State) (room later : Room) → Known plan n past room → Known plan n past later → Step n room.jobs room later → Turning n w from room → Turning n w from later
turning_step plan n low past w from room later before behind (plainly p) (waits_for is so) =
    let c : Ran n as_before room later = change_runs plan n low past room later before behind as_before p.change in
    waits_for (sym p.due ∙ is) (ap (λ (l : List Sent). state_after n l from) c.adds ∙ runs_then n room.hub.sent c.more from (state_in (look n room.lines)) (state_in (look n later.lines)) so c.so)
turning_step plan n low past w from room later before behind (plainly p) (has_faced is first later_on mid adds so then_so) =
    let c : Ran n as_before room later = change_runs plan n low past room later before behind as_before p.change in
    has_faced (sym p.due ∙ is) first (later_on ++ c.more) mid (c.adds ∙ (ap (λ (l : List Sent). l ++ c.more) adds ∙ append_assoc first later_on c.more)) so
    (runs_then n later_on c.more (state_at_event n w mid) (state_in (look n room.lines)) (state_in (look n later.lines)) then_so c.so)
turning_step plan n low past w from room later before behind (faces v change gone due) (waits_for is so) =
    let c : Ran n (state_at_event n v) room later = change_runs plan n low past room later before behind (state_at_event n v) change in
    let e : v ∷ due_in later.jobs later ≡ w ∷ [] = sym due ∙ is in
    let same : v ≡ w = cc in
    let none : due_in later.jobs later ≡ [] = cc in
    has_faced none room.hub.sent c.more (state_in (look n room.lines)) c.adds so (subst (λ (u : What). state_after n c.more (state_at_event n u (state_in (look n room.lines))) ≡ Some (state_in (look n later.lines))) same c.so)
turning_step plan n low past w from room later before behind (faces v change gone due) (has_faced is first later_on mid adds so then_so) = let never : v ∷ due_in later.jobs later ≡ [] = sym due ∙ is in absurd (cc)

-- ---- a calm step

pub calm_step : (n : ℕ) (js : List Job) (mid later : Room) → Calm n mid later → Goes mid later → (Closing n js → Closing n later.jobs) → happens_in js ≡ happens_in mid.jobs → GoneOk n js (look n mid.lines) → Plain n js mid later
calm_step n js mid later calm g ends same ok = record {
  change = still (λ s. refl) (g.lines n) g.sends (λ away. looks_beside n js (look n mid.lines) (look n later.lines) mid.hub later.hub calm.still.looks ok away);
  gone = looks_gone n js later.jobs (look n mid.lines) (look n later.lines) mid.hub later.hub calm.still.looks ends ok;
  due = λ i. (same ∙ sym g.jobs) i ++ sym g.agenda i;
}
