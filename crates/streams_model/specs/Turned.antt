-- What one turn of a worker is, by how it ended, whatever its plan says that its lines carry.
use Rattle.std.specs.Prelude.{◌≡◌, ◌⊎◌, Bool, true, false, List, [], ◌∷◌, Option}
use Rattle.std.proofs.Common.{inl, inr}
use Rattle.filter_host.specs.Called.{Calling}
use Rattle.filter_host.specs.Course.{Course, ends, Goes}
use Rattle.gate_io.specs.Events.{is_stop, Last, given}
use Rattle.gate_io.specs.Passing.{asked}
use Rattle.gate_io.specs.Told.{Gains}
use Rattle.gate_io.specs.declared.event.Event.{Event}
use Rattle.gate_io.specs.declared.event.Sent.{Sent}
use Rattle.gate_io.specs.declared.passed.Passed.{Passed}
use Rattle.gate_io.specs.declared.passed.Passed.TheVariants.{Asked, Gave}
use Rattle.gate_io.specs.declared.passed.Wants.{Wants}
use Rattle.send_queue.specs.Delivery.{Delivered}
use Rattle.send_queue.specs.Turns.{HandsOver, to_go}
use Rattle.store_model.specs.Made.{Made}
use Rattle.worker_model.specs.Settling.{is_rest}
use Rattle.worker_model.specs.State.{Standing, rules_of}
use Rattle.worker_model.specs.Turn.{Outcome, outcome}
use Rattle.worker_model.specs.Turned.{one_turn, Heard, NoEvent}
use Rattle.worker_model.specs.declared.types.Turn.{Turn}
use Rattle.worker_model.specs.declared.types.Turn.TheVariants.{Went, Stopped, WorldFault, OutOfMemory}
use Rattle.streams_model.specs.Turn.{turn, next_for}
use Rattle.streams_model.specs.Wants.{wants_for}

-- what a worker asks its world for
abbrev pub worker_wants : {H : Type 0} → Standing H → Wants
worker_wants from = wants_for (rules_of from.setting) from.state.room from.waiting

module _ {H S : Type 0} (calling : Calling H) (performs : S → List Made → S → Type 0) where
  -- A WHOLE TURN, from one standing to the next, and of the shared stores from s to t. The worker asked for what it wants, the world
  -- gave an event, the event's course went to its end, where nothing is left to be done, and what it sends was handed over.
  pub record Whole (stop : Bool) (s : S) (old : Option (List Passed)) (from to : Standing H) (t : S) (new : Option (List Passed)) : Type 0 where
    pub event : Event
    pub is_stop : is_stop event.what ≡ stop
    pub sent : List Sent
    pub goes : Goes performs s (turn calling (rules_of from.setting) from.state event) (ends (outcome to.state sent)) t
    pub steps : List Passed
    pub told : Gains old steps new
    pub asks : asked steps ≡ worker_wants from ∷ []
    pub hands_over : HandsOver from.waiting (one_turn event sent) steps to.waiting
    pub took : to.took ≡ true
    -- (at Stop nothing is done)
    pub rest : stop ≡ false → is_rest (next_for (rules_of from.setting) to.state.room) ≡ true

  -- An event other than Stop was given, and memory ran out before anything was handed over. What was called is a front of what the event's
  -- course calls.
  pub record Unanswered (s : S) (old : Option (List Passed)) (from to : Standing H) (t : S) (new : Option (List Passed)) : Type 0 where
    pub event : Event
    pub goes_on : is_stop event.what ≡ false
    pub left : Course (Outcome H)
    pub goes : Goes performs s (turn calling (rules_of from.setting) from.state event) left t
    pub told : Gains old (Asked (worker_wants from) ∷ Gave event ∷ []) new
    pub took : to.took ≡ true

  -- An event other than Stop was given, its course went to its end, and memory ran out as what it sends was handed over: at each place a
  -- front of what was to go was received.
  pub record PartlySent (s : S) (old : Option (List Passed)) (from to : Standing H) (t : S) (new : Option (List Passed)) : Type 0 where
    pub event : Event
    pub goes_on : is_stop event.what ≡ false
    pub end : Outcome H
    pub goes : Goes performs s (turn calling (rules_of from.setting) from.state event) (ends end) t
    pub taken : List Passed
    pub rest : List Sent
    pub delivered : Delivered (to_go from.waiting (one_turn event end.sent)) taken rest
    pub told : Gains old (Asked (worker_wants from) ∷ Gave event ∷ taken) new
    pub took : to.took ≡ true

  -- A TURN, by how it ended
  abbrev pub Turned : S → Option (List Passed) → Standing H → Turn → Standing H → S → Option (List Passed) → Type 0
  Turned s old from Went to t new = Whole false s old from to t new
  Turned s old from Stopped to t new = Whole true s old from to t new
  Turned s old from WorldFault to t new = NoEvent s old from (Asked (worker_wants from) ∷ []) to t new
  Turned s old from OutOfMemory to t new = NoEvent s old from [] to t new ⊎ (Unanswered s old from to t new ⊎ PartlySent s old from to t new)

  -- the event of a turn was heard so; where none was given, the world's last is as it was
  abbrev pub HeardIn : Bool → (before after : Last) (s : S) (old : Option (List Passed)) (from : Standing H) (end : Turn) (to : Standing H) (t : S) (new : Option (List Passed)) → Turned s old from end to t new → Type 0
  HeardIn keeps before after s old from Went to t new whole = Heard keeps (worker_wants from) before after whole.event
  HeardIn keeps before after s old from Stopped to t new whole = Heard keeps (worker_wants from) before after whole.event
  HeardIn keeps before after s old from WorldFault to t new none = after ≡ before
  HeardIn keeps before after s old from OutOfMemory to t new (inl none) = after ≡ before
  HeardIn keeps before after s old from OutOfMemory to t new (inr (inl cut)) = Heard keeps (worker_wants from) before after cut.event
  HeardIn keeps before after s old from OutOfMemory to t new (inr (inr partly)) = Heard keeps (worker_wants from) before after partly.event

  -- A TURN AND ITS EVENT
  abbrev pub TurnedOn : Bool → (before after : Last) (s : S) (old : Option (List Passed)) (from : Standing H) (end : Turn) (to : Standing H) (t : S) (new : Option (List Passed)) → Type 0
  TurnedOn keeps before after s old from end to t new = (turned : Turned s old from end to t new) × HeardIn keeps before after s old from end to t new turned
