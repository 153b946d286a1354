-- Where a configuration has no streams, a worker's turn is that of HTTP.
use Rattle.std.proofs.Common.{◌≡◌, inl, inr, ℕ, Bool, true, false, List, [], ◌∷◌, ◌++◌, refl, ap, sym, subst, ◌∙◌}
use Rattle.std.specs.Prelude.{Option}
use Rattle.filter_host.specs.Called.{Calling}
use Rattle.filter_host.specs.Course.{ends, then_do}
use Rattle.filter_host.specs.Runs.{goes_from}
use Rattle.gate_io.specs.Events.{Last, is_stop}
use Rattle.gate_io.specs.Told.{Gains}
use Rattle.gate_io.specs.declared.event.Event.{Event}
use Rattle.gate_io.specs.declared.event.Sent.{Sent}
use Rattle.gate_io.specs.declared.passed.Passed.{Passed}
use Rattle.gate_io.specs.declared.passed.Passed.TheVariants.{Asked, Gave}
use Rattle.gate_io.specs.declared.passed.Wants.{Wants}
use Rattle.store_model.specs.Made.{Made}
use Rattle.worker_model.specs.Plan.{Plan}
use Rattle.worker_model.specs.Room.{Room}
use Rattle.worker_model.specs.Rooms as http_rooms
use Rattle.worker_model.specs.Settling.{is_rest}
use Rattle.worker_model.specs.State.{Standing, rules_of}
use Rattle.worker_model.specs.Steps.{Both}
use Rattle.worker_model.specs.Turn as http_turn
use Rattle.worker_model.specs.Turned as http
use Rattle.worker_model.specs.Wants as http_wants
use Rattle.worker_model.specs.declared.types.Turn.{Turn}
use Rattle.worker_model.specs.declared.types.Turn.TheVariants.{Went, Stopped, WorldFault, OutOfMemory}
use Rattle.streams_model.specs.Turn.{settles_among, turn_by, turn, next_among, next_for}
use Rattle.streams_model.specs.Turned.{worker_wants, Whole, Unanswered, PartlySent, Turned, TurnedOn}
use Rattle.streams_model.specs.Wants.{down_among, up_among, wants_for}

-- the turn of a plan without streams
turn_by_is : {H : Type 0} (calling : Calling H) (plan : Plan) (stop : Bool) (state : Both H) (event : Event) → plan.tcp ≡ [] → turn_by calling plan stop state event ≡ http_turn.turn_by calling plan stop state event
turn_by_is calling plan true state event none = refl
turn_by_is calling plan false state event none =
    ap (λ (ts : List ℕ). then_do (settles_among calling plan ts http_turn.most_steps state.host (http_turn.room_for_event plan event state.room)) (λ b. ends (http_turn.outcome_of b))) none

pub turn_is : {H : Type 0} (calling : Calling H) (plan : Plan) (state : Both H) (event : Event) → plan.tcp ≡ [] → turn calling plan state event ≡ http_turn.turn calling plan state event
turn_is calling plan state event none = turn_by_is calling plan (is_stop event.what) state event none

-- what is next
pub next_is : (plan : Plan) (room : Room) → plan.tcp ≡ [] → next_for plan room ≡ http_rooms.next_of room
next_is plan room none = ap (λ (ts : List ℕ). next_among ts room) none

-- what is wanted
pub wants_alike : (plan : Plan) (room : Room) (waiting : List Sent) → plan.tcp ≡ [] → wants_for plan room waiting ≡ http_wants.wants_of plan room waiting
wants_alike plan room waiting none = λ i. record {
  down = down_among (none i) waiting room;
  up = up_among (none i) waiting room ++ http_wants.call_lines room.calls;
  due = http_wants.due_in plan room;
}

-- the same of a standing
pub wants_is : {H : Type 0} (from : Standing H) → from.setting.config.tcp ≡ [] → worker_wants from ≡ http.worker_wants from
wants_is from none = wants_alike (rules_of from.setting) from.state.room from.waiting none

module _ {H S : Type 0} (calling : Calling H) (performs : S → List Made → S → Type 0) where
  pub whole_is : (stop : Bool) (s : S) (old : Option (List Passed)) (from to : Standing H) (t : S) (new : Option (List Passed)) → from.setting.config.tcp ≡ []
      → Whole calling performs stop s old from to t new → http.Whole calling performs stop s old from to t new
  whole_is stop s old from to t new none w = record {
    event = w.event;
    is_stop = w.is_stop;
    sent = w.sent;
    goes = goes_from (sym (turn_is calling (rules_of from.setting) from.state w.event none)) w.goes;
    steps = w.steps;
    told = w.told;
    asks = w.asks ∙ ap (λ (x : Wants). x ∷ []) (wants_is from none);
    hands_over = w.hands_over;
    took = w.took;
    rest = λ goes_on. ap is_rest (sym (next_is (rules_of from.setting) to.state.room none)) ∙ w.rest goes_on;
  }

  unanswered_is : (s : S) (old : Option (List Passed)) (from to : Standing H) (t : S) (new : Option (List Passed)) → from.setting.config.tcp ≡ []
      → Unanswered calling performs s old from to t new → http.Unanswered calling performs s old from to t new
  unanswered_is s old from to t new none u = record {
    event = u.event;
    goes_on = u.goes_on;
    left = u.left;
    goes = goes_from (sym (turn_is calling (rules_of from.setting) from.state u.event none)) u.goes;
    told = subst (λ (x : Wants). Gains old (Asked x ∷ Gave u.event ∷ []) new) (wants_is from none) u.told;
    took = u.took;
  }

  partly_is : (s : S) (old : Option (List Passed)) (from to : Standing H) (t : S) (new : Option (List Passed)) → from.setting.config.tcp ≡ []
      → PartlySent calling performs s old from to t new → http.PartlySent calling performs s old from to t new
  partly_is s old from to t new none p = record {
    event = p.event;
    goes_on = p.goes_on;
    end = p.end;
    goes = goes_from (sym (turn_is calling (rules_of from.setting) from.state p.event none)) p.goes;
    taken = p.taken;
    rest = p.rest;
    delivered = p.delivered;
    told = subst (λ (x : Wants). Gains old (Asked x ∷ Gave p.event ∷ p.taken) new) (wants_is from none) p.told;
    took = p.took;
  }

  -- A TURN, by how it ended
  pub turned_is : (s : S) (old : Option (List Passed)) (from : Standing H) (end : Turn) (to : Standing H) (t : S) (new : Option (List Passed)) → from.setting.config.tcp ≡ []
      → Turned calling performs s old from end to t new → http.Turned calling performs s old from end to t new
  turned_is s old from Went to t new none w = whole_is false s old from to t new none w
  turned_is s old from Stopped to t new none w = whole_is true s old from to t new none w
  turned_is s old from WorldFault to t new none w = record {
    worker = w.worker;
    shared = w.shared;
    told = subst (λ (x : Wants). Gains old (Asked x ∷ []) new) (wants_is from none) w.told;
  }
  turned_is s old from OutOfMemory to t new none (inl w) = inl w
  turned_is s old from OutOfMemory to t new none (inr (inl u)) = inr (inl (unanswered_is s old from to t new none u))
  turned_is s old from OutOfMemory to t new none (inr (inr p)) = inr (inr (partly_is s old from to t new none p))

  -- A TURN AND ITS EVENT
  pub turned_on_is : (keeps : Bool) (before after : Last) (s : S) (old : Option (List Passed)) (from : Standing H) (end : Turn) (to : Standing H) (t : S) (new : Option (List Passed))
      → from.setting.config.tcp ≡ [] → TurnedOn calling performs keeps before after s old from end to t new → http.TurnedOn calling performs keeps before after s old from end to t new
  unfolding whole_is unanswered_is partly_is
  turned_on_is keeps before after s old from Went to t new none (w, h) = (whole_is false s old from to t new none w, subst (λ (x : Wants). http.Heard keeps x before after w.event) (wants_is from none) h)
  turned_on_is keeps before after s old from Stopped to t new none (w, h) = (whole_is true s old from to t new none w, subst (λ (x : Wants). http.Heard keeps x before after w.event) (wants_is from none) h)
  turned_on_is keeps before after s old from WorldFault to t new none (w, h) = (turned_is s old from WorldFault to t new none w, h)
  turned_on_is keeps before after s old from OutOfMemory to t new none (inl w, h) = (inl w, h)
  turned_on_is keeps before after s old from OutOfMemory to t new none (inr (inl u), h) =
      (inr (inl (unanswered_is s old from to t new none u)), subst (λ (x : Wants). http.Heard keeps x before after u.event) (wants_is from none) h)
  turned_on_is keeps before after s old from OutOfMemory to t new none (inr (inr p), h) =
      (inr (inr (partly_is s old from to t new none p)), subst (λ (x : Wants). http.Heard keeps x before after p.event) (wants_is from none) h)
