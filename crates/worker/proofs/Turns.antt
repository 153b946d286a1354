-- Turns, by how they end.
use Rattle.std.proofs.Common.{◌≡◌, ◌∙◌, ℕ, Bool, true, false, List, [], ◌∷◌, ◌++◌, refl, ap, sym, subst, Option, Ok, Err}
use Rattle.std.specs.Prelude.{IsTrue, IfOk, Result}
use Rattle.contexts.specs.declared.parts.Contexts.{Contexts}
use Rattle.filter_host.specs.Called.{Called}
use Rattle.filter_host.specs.Course.{Course, ends, Goes}
use Rattle.filter_host.specs.Runs.{goes_still, goes_part, goes_as, goes_from}
use Rattle.filter_host.specs.declared.host.Callback.{Callback}
use Rattle.gate_io.specs.Events.{is_stop, Last, given, Follows, Obeys}
use Rattle.gate_io.specs.Passing.{asking}
use Rattle.gate_io.specs.Told.{Gains}
use Rattle.gate_io.specs.declared.ends.WorldEnd.{WorldEnd}
use Rattle.gate_io.specs.declared.event.Event.{Event}
use Rattle.gate_io.specs.declared.event.Sent.{Sent}
use Rattle.gate_io.specs.declared.event.What.{What}
use Rattle.gate_io.specs.declared.event.What.TheVariants.{Stop}
use Rattle.gate_io.specs.declared.passed.Passed.{Passed}
use Rattle.gate_io.specs.declared.passed.Passed.TheVariants.{Asked, Gave}
use Rattle.gate_io.specs.declared.passed.Wants.{Wants}
use Rattle.send_queue.specs.Cleared.{still_waiting}
use Rattle.send_queue.specs.Delivery.{Offered}
use Rattle.send_queue.specs.Joined.{join_neighbours}
use Rattle.send_queue.proofs.Deliveries.{told_of_turn, handed_over, stands_still, is_no_stop}
use Rattle.store_model.specs.Made.{Made}
use Rattle.store_model.specs.Program.{Program}
use Rattle.worker_model.specs.Room.{Room}
use Rattle.worker.specs.Filled.{filled}
use Rattle.worker_model.specs.Settling.{is_rest}
use Rattle.worker_model.specs.State.{Standing, rules_of}
use Rattle.worker_model.specs.Steps.{Both, both}
use Rattle.worker_model.specs.declared.types.Turn.{Turn}
use Rattle.worker_model.specs.Turn.{Outcome, outcome, without_sent, outcome_of, room_for_event, most_steps}
use Rattle.worker_model.specs.Turned.{TookWhole, one_turn, Heard, NoEvent}
use Rattle.streams_model.specs.Turn.{turn, turn_by, settles_for, next_for}
use Rattle.streams_model.specs.Turned.{worker_wants, Whole, Unanswered, PartlySent, Turned, TurnedOn}

-- of a world that takes each piece whole, no `send` took less
pub took_whole : {E : Type 0} (takes_whole : Bool) (old mid new : Option (List Passed)) (before after : List Sent) (wants : Wants) (event : Event) → IsTrue takes_whole
    → Gains old (asking wants (Ok event)) mid → Offered {E = E} takes_whole mid [] before (Ok tt) new after → TookWhole old new
took_whole takes_whole old mid new before after wants event whole given offered = record {
  steps = Asked wants ∷ Gave event ∷ offered.steps;
  told = told_of_turn old mid new wants event offered.steps given offered.told;
  never = offered.taken_whole whole;
}

-- no event was given
pub no_event : {H S : Type 0} (s : S) (old new : Option (List Passed)) (at : Standing H) (steps : List Passed) → Gains old steps new → NoEvent s old at steps at s new
no_event s old new at steps gained = record { worker = refl; shared = refl; told = gained }

-- an event that the world promised so
pub heard_so : (keeps : Bool) (wants asked : Wants) (before mid after : Last) (event : Event) → wants ≡ asked → Follows before event → (IsTrue keeps → Obeys wants event.what)
    → mid ≡ given event → after ≡ mid → Heard keeps asked before after event
heard_so keeps wants asked before mid after event same follows obeys last kept = record {
  follows = follows;
  obeys = λ k. subst (λ (w : Wants). Obeys w event.what) same (obeys k);
  last = kept ∙ last;
}

-- the same was asked in other words
pub asked_so : (wants asked : Wants) (r : Result Event WorldEnd) (old new : Option (List Passed)) → wants ≡ asked → Gains old (asking wants r) new → Gains old (asking asked r) new
asked_so wants asked r old new same gained = subst (λ (w : Wants). Gains old (asking w r) new) same gained

pub obeys_so : (keeps : Bool) (wants asked : Wants) (r : Result Event WorldEnd) → wants ≡ asked → (IsTrue keeps → IfOk r (λ (event : Event). Obeys wants event.what))
    → IsTrue keeps → IfOk r (λ (event : Event). Obeys asked event.what)
obeys_so keeps wants asked r same obeys = subst (λ (w : Wants). IsTrue keeps → IfOk r (λ (event : Event). Obeys w event.what)) same obeys

-- a refusal of the world by its name
pub refused_as : (wants : Wants) (e named : WorldEnd) (old new : Option (List Passed)) → e ≡ named → Gains old (asking wants (Err e)) new → Gains old (asking wants (Err named)) new
refused_as wants e named old new same gained = subst (λ (x : WorldEnd). Gains old (asking wants (Err x)) new) same gained

-- with a room that is the same to all who look
pub in_room : {H : Type 0} (from seen : Standing H) (room : Room) → from ≡ seen → room ≡ from.state.room → record from { state = record from.state { room = room } } ≡ seen
in_room from seen room is same = (λ i. record from { state = record from.state { room = same i } }) ∙ is

-- what was sent is taken out of the room
same_room : (sent : List Sent) (room : Room) → room.hub.sent ≡ [] → without_sent (filled sent room) ≡ room
same_room sent room is = λ i. record room { hub = record room.hub { sent = sym is i } }

module _ {H S : Type 0} (calling : H → ℕ → Callback → ℕ → ℕ → ℕ → ℕ → Contexts → Program (Called H)) (performs : S → List Made → S → Type 0) where
  -- the same from the standing as a contract has it
  pub turned_from : (keeps : Bool) (before after : Last) (s : S) (old : Option (List Passed)) (from seen : Standing H) (end : Turn) (to : Standing H) (t : S) (new : Option (List Passed)) → from ≡ seen
      → TurnedOn calling performs keeps before after s old from end to t new → TurnedOn calling performs keeps before after s old seen end to t new
  turned_from keeps before after s old from seen end to t new same turned = subst (λ (at : Standing H). TurnedOn calling performs keeps before after s old at end to t new) same turned

  pub turned_at : (s : S) (old : Option (List Passed)) (from seen : Standing H) (end : Turn) (to : Standing H) (t : S) (new : Option (List Passed)) → from ≡ seen
      → Turned calling performs s old from end to t new → Turned calling performs s old seen end to t new
  turned_at s old from seen end to t new same turned = subst (λ (at : Standing H). Turned calling performs s old at end to t new) same turned

  -- the turn that is no Stop went to its end
  pub went_to : (s t : S) (from : Standing H) (event : Event) (host : H) (room : Room) (sent : List Sent) → is_stop event.what ≡ false → room.hub.sent ≡ []
      → Goes performs s (settles_for calling (rules_of from.setting) most_steps from.state.host (room_for_event (rules_of from.setting) event from.state.room)) (ends (both host (filled sent room))) t
      → Goes performs s (turn calling (rules_of from.setting) from.state event) (ends (outcome (both host room) (join_neighbours sent))) t
  went_to s t from event host room sent other empty goes =
      goes_from (ap (λ (b : Bool). turn_by calling (rules_of from.setting) b from.state event) other)
      (goes_as (goes_part (λ b. ends (outcome_of b)) goes) (λ i. ends (outcome (both host (same_room sent room empty i)) (join_neighbours sent))))

  -- it was cut short
  pub cut_off : (s t : S) (from : Standing H) (event : Event) (left : Course (Both H)) → is_stop event.what ≡ false
      → Goes performs s (settles_for calling (rules_of from.setting) most_steps from.state.host (room_for_event (rules_of from.setting) event from.state.room)) left t
      → (q : Course (Outcome H)) × Goes performs s (turn calling (rules_of from.setting) from.state event) q t
  cut_off s t from event left other goes =
      (_, goes_from (ap (λ (b : Bool). turn_by calling (rules_of from.setting) b from.state event) other) (goes_part (λ b. ends (outcome_of b)) goes))

  -- the turn of Stop
  unfoldable pub stopped : (nothing : (s : S) → performs s [] s) (s : S) (old new : Option (List Passed)) (from to : Standing H) (wants : Wants) (event : Event)
      → wants ≡ worker_wants from → event.what ≡ Stop → to ≡ record from { took = true } → Gains old (asking wants (Ok event)) new → Whole calling performs true s old from to s new
  stopped nothing s old new from to wants event wants_are is to_is given =
      subst (λ (x : Standing H). Whole calling performs true s old from x s new) (sym to_is)
      (record {
        event = event;
        is_stop = ap is_stop is;
        sent = [];
        goes = goes_from (ap (λ (w : What). turn_by calling (rules_of from.setting) (is_stop w) from.state event) is) (goes_still performs s s (ends (outcome from.state [])) (nothing s));
        steps = Asked wants ∷ Gave event ∷ [];
        told = given;
        asks = ap (λ (w : Wants). w ∷ []) wants_are;
        hands_over = stands_still from.waiting event wants is;
        took = refl;
        rest = λ other. absurd (cc);
      })

  -- another turn, which came to rest, and in which all was offered
  unfoldable pub went : {E : Type 0} (s t : S) (takes_whole : Bool) (old mid new : Option (List Passed)) (from to : Standing H) (wants : Wants) (event : Event) (kept sent : List Sent)
      → wants ≡ worker_wants from → (event.what ≡ Stop → ⊥) → to.took ≡ true → to.state.room.hub.sent ≡ [] → is_rest (next_for (rules_of from.setting) to.state.room) ≡ true → kept ≡ still_waiting event.what from.waiting
      → Goes performs s (settles_for calling (rules_of from.setting) most_steps from.state.host (room_for_event (rules_of from.setting) event from.state.room)) (ends (both to.state.host (filled sent to.state.room))) t
      → Gains old (asking wants (Ok event)) mid → Offered {E = E} takes_whole mid [] (kept ++ join_neighbours sent) (Ok tt) new to.waiting
      → Whole calling performs false s old from to t new
  went {E = E} s t takes_whole old mid new from to wants event kept sent wants_are other took empty at_rest kept_is goes given offered_so =
      let offered = subst (λ (w : List Sent). Offered {E = E} takes_whole mid [] (w ++ join_neighbours sent) (Ok tt) new to.waiting) kept_is offered_so in
      record {
        event = event;
        is_stop = is_no_stop event.what other;
        sent = join_neighbours sent;
        goes = went_to s t from event to.state.host to.state.room sent (is_no_stop event.what other) empty goes;
        steps = Asked wants ∷ Gave event ∷ offered.steps;
        told = told_of_turn old mid new wants event offered.steps given offered.told;
        asks = λ i. wants_are i ∷ offered.delivered.not_asked i;
        hands_over = handed_over takes_whole mid new from.waiting (one_turn event (join_neighbours sent)) wants (still_waiting event.what from.waiting ++ join_neighbours sent) to.waiting (is_no_stop event.what other) refl offered;
        took = took;
        rest = λ no. at_rest;
      }

  -- memory ran out before anything was handed over
  unfoldable pub unanswered : (s t : S) (old new : Option (List Passed)) (from to : Standing H) (wants : Wants) (event : Event)
      → wants ≡ worker_wants from → (event.what ≡ Stop → ⊥) → to.took ≡ true
      → (left : Course (Both H)) × Goes performs s (settles_for calling (rules_of from.setting) most_steps from.state.host (room_for_event (rules_of from.setting) event from.state.room)) left t
      → Gains old (asking wants (Ok event)) new → Unanswered calling performs s old from to t new
  unanswered s t old new from to wants event wants_are other took goes given =
      let cut = cut_off s t from event goes.0 (is_no_stop event.what other) goes.1 in
      record {
        event = event;
        goes_on = is_no_stop event.what other;
        left = cut.0;
        goes = cut.1;
        told = subst (λ (w : Wants). Gains old (Asked w ∷ Gave event ∷ []) new) wants_are given;
        took = took;
      }

  -- memory ran out as it was handed over
  unfoldable pub partly_sent : {E : Type 0} (e : E) (s t : S) (takes_whole : Bool) (old mid new : Option (List Passed)) (from to : Standing H) (host : H) (room : Room) (waiting : List Sent) (wants : Wants)
      (event : Event) (kept sent : List Sent)
      → wants ≡ worker_wants from → (event.what ≡ Stop → ⊥) → to.took ≡ true → room.hub.sent ≡ [] → kept ≡ still_waiting event.what from.waiting
      → Goes performs s (settles_for calling (rules_of from.setting) most_steps from.state.host (room_for_event (rules_of from.setting) event from.state.room)) (ends (both host (filled sent room))) t
      → Gains old (asking wants (Ok event)) mid → Offered {E = E} takes_whole mid [] (kept ++ join_neighbours sent) (Err e) new waiting
      → PartlySent calling performs s old from to t new
  partly_sent {E = E} e s t takes_whole old mid new from to host room waiting wants event kept sent wants_are other took empty kept_is goes given offered_so =
      let offered = subst (λ (w : List Sent). Offered {E = E} takes_whole mid [] (w ++ join_neighbours sent) (Err e) new waiting) kept_is offered_so in
      record {
        event = event;
        goes_on = is_no_stop event.what other;
        end = outcome (both host room) (join_neighbours sent);
        goes = went_to s t from event host room sent (is_no_stop event.what other) empty goes;
        taken = offered.steps;
        rest = offered.rest;
        delivered = offered.delivered;
        told = subst (λ (w : Wants). Gains old (Asked w ∷ Gave event ∷ offered.steps) new) wants_are (told_of_turn old mid new wants event offered.steps given offered.told);
        took = took;
      }
