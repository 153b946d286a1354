-- The calls and asks that lives make, and the events that they are given, in order.
use Rattle.std.proofs.Common.{⊎_elim}
use Rattle.filter_host.specs.Called.{Calling}
use Rattle.std.specs.Prelude.{ℕ, Bool, zero, suc, ◌⊎◌, List, [], ◌∷◌, ◌++◌, Option}
use Rattle.filter_host.specs.Course.{Course, Goes, calls_in}
use Rattle.fleet.specs.Lives.{Turns, Life, OneLife, Cut, Early, Last, Lives}
use Rattle.gate_io.specs.declared.event.Event.{Event}
use Rattle.gate_io.specs.declared.passed.Passed.{Passed}
use Rattle.store_model.specs.Made.{Made}
use Rattle.worker_model.specs.State.{Standing}
use Rattle.streams_model.specs.Turned.{Turned}
use Rattle.worker_model.specs.declared.types.Turn.{Turn}
use Rattle.worker_model.specs.declared.types.Turn.TheVariants.{Went, Stopped, WorldFault, OutOfMemory}

module _ {H S : Type 0} (calling : Calling H) (performs : S → List Made → S → Type 0) where
  abbrev made_on : {A : Type 0} (s : S) (p q : Course A) (t : S) → Goes performs s p q t → List Made
  made_on s p q t goes = calls_in goes.met

  -- those of a turn: of its course, as far as it went
  abbrev pub made_in_turn : (end : Turn) (s : S) (old : Option (List Passed)) (from to : Standing H) (t : S) (new : Option (List Passed)) → Turned calling performs s old from end to t new → List Made
  made_in_turn Went s old from to t new h = made_on s _ _ t h.goes
  made_in_turn Stopped s old from to t new h = made_on s _ _ t h.goes
  made_in_turn WorldFault s old from to t new h = []
  made_in_turn OutOfMemory s old from to t new h = ⊎_elim (λ a. []) (λ b. ⊎_elim (λ u. made_on s _ _ t u.goes) (λ p. made_on s _ _ t p.goes) b) h

  abbrev pub made_in_turns : (n : ℕ) (s : S) (old : Option (List Passed)) (from to : Standing H) (t : S) (new : Option (List Passed)) → Turns calling performs n s old from to t new → List Made
  made_in_turns zero s old from to t new h = []
  made_in_turns (suc n) s old from to t new h = made_in_turns n s old from h.0 h.1 h.2 h.3 ++ made_in_turn Went h.1 h.2 h.0 to t new h.4

  abbrev pub made_in_life : (s : S) (old : Option (List Passed)) (from : Standing H) (end : Turn) (to : Standing H) (t : S) (new : Option (List Passed)) → Life calling performs s old from end to t new → List Made
  made_in_life s old from end to t new h = made_in_turns h.count s old from h.before h.at h.mid h.went ++ made_in_turn end h.at h.mid h.before to t new h.last

  -- (none where a life was not begun)
  abbrev pub made_in_one : (first : Standing H) (s : S) (old : Option (List Passed)) (end : Turn) (took : Bool) (t : S) (new : Option (List Passed)) → OneLife calling performs first s old end took t new → List Made
  made_in_one first s old end took t new h = ⊎_elim (λ l. made_in_life s old first end l.after t new l.life) (λ e. []) h

  abbrev pub made_in_early : (first : Standing H) (n : ℕ) (s : S) (old : Option (List Passed)) (t : S) (new : Option (List Passed)) → Early calling performs first n s old t new → List Made
  made_in_early first zero s old t new h = []
  made_in_early first (suc n) s old t new h = made_in_early first n s old h.0 h.1 h.2 ++ made_in_life h.0 h.1 first OutOfMemory h.3.lived.after t h.3.left h.3.lived.life

  abbrev pub made_in_last : (first : Standing H) (s : S) (old : Option (List Passed)) (end : Turn) (t : S) (new : Option (List Passed)) → Last calling performs first s old end t new ⊎ Cut calling performs first s old end t new → List Made
  made_in_last first s old end t new h = ⊎_elim (λ l. made_in_one first s old end l.took t new l.once) (λ k. made_in_life s old first OutOfMemory k.lived.after t k.left k.lived.life) h

  -- THE CALLS OF A WORKER: those of its lives, turn by turn
  abbrev pub made_in : (first : Standing H) (s : S) (old : Option (List Passed)) (end : Turn) (again : Bool) (t : S) (new : Option (List Passed)) → Lives calling performs first s old end again t new → List Made
  made_in first s old end again t new h = made_in_early first h.count s old h.at h.mid h.early ++ made_in_last first h.at h.mid end t new h.last

  -- the event of a turn, where one was given
  abbrev pub event_in_turn : (end : Turn) (s : S) (old : Option (List Passed)) (from to : Standing H) (t : S) (new : Option (List Passed)) → Turned calling performs s old from end to t new → List Event
  event_in_turn Went s old from to t new h = h.event ∷ []
  event_in_turn Stopped s old from to t new h = h.event ∷ []
  event_in_turn WorldFault s old from to t new h = []
  event_in_turn OutOfMemory s old from to t new h = ⊎_elim (λ a. []) (λ b. ⊎_elim (λ u. u.event ∷ []) (λ p. p.event ∷ []) b) h

  abbrev pub events_in_turns : (n : ℕ) (s : S) (old : Option (List Passed)) (from to : Standing H) (t : S) (new : Option (List Passed)) → Turns calling performs n s old from to t new → List Event
  events_in_turns zero s old from to t new h = []
  events_in_turns (suc n) s old from to t new h = events_in_turns n s old from h.0 h.1 h.2 h.3 ++ event_in_turn Went h.1 h.2 h.0 to t new h.4

  -- THE EVENTS OF A LIFE, that of its last turn after the others
  abbrev pub events_in_life : (s : S) (old : Option (List Passed)) (from : Standing H) (end : Turn) (to : Standing H) (t : S) (new : Option (List Passed)) → Life calling performs s old from end to t new → List Event
  events_in_life s old from end to t new h = events_in_turns h.count s old from h.before h.at h.mid h.went ++ event_in_turn end h.at h.mid h.before to t new h.last

  -- (none where a life was not begun)
  abbrev pub events_in_one : (first : Standing H) (s : S) (old : Option (List Passed)) (end : Turn) (took : Bool) (t : S) (new : Option (List Passed)) → OneLife calling performs first s old end took t new → List Event
  events_in_one first s old end took t new h = ⊎_elim (λ l. events_in_life s old first end l.after t new l.life) (λ e. []) h

  abbrev pub events_of_early : (first : Standing H) (n : ℕ) (s : S) (old : Option (List Passed)) (t : S) (new : Option (List Passed)) → Early calling performs first n s old t new → List (List Event)
  events_of_early first zero s old t new h = []
  events_of_early first (suc n) s old t new h = events_of_early first n s old h.0 h.1 h.2 ++ events_in_life h.0 h.1 first OutOfMemory h.3.lived.after t h.3.left h.3.lived.life ∷ []

  abbrev pub events_in_last : (first : Standing H) (s : S) (old : Option (List Passed)) (end : Turn) (t : S) (new : Option (List Passed)) → Last calling performs first s old end t new ⊎ Cut calling performs first s old end t new → List Event
  events_in_last first s old end t new h = ⊎_elim (λ l. events_in_one first s old end l.took t new l.once) (λ k. events_in_life s old first OutOfMemory k.lived.after t k.left k.lived.life) h

  -- THE EVENTS OF EACH LIFE OF A WORKER: those of the lives that ended for want of memory before the last, in order, and then those of the last
  abbrev pub events_of_each : (first : Standing H) (s : S) (old : Option (List Passed)) (end : Turn) (again : Bool) (t : S) (new : Option (List Passed)) → Lives calling performs first s old end again t new → List (List Event)
  events_of_each first s old end again t new h = events_of_early first h.count s old h.at h.mid h.early ++ events_in_last first h.at h.mid end t new h.last ∷ []

  -- what a worker stands as where its last life ended (as at first, where that was not begun)
  abbrev pub standing_of_one : (first : Standing H) (s : S) (old : Option (List Passed)) (end : Turn) (took : Bool) (t : S) (new : Option (List Passed)) → OneLife calling performs first s old end took t new → Standing H
  standing_of_one first s old end took t new h = ⊎_elim (λ l. l.after) (λ e. first) h

  abbrev pub standing_of_last : (first : Standing H) (s : S) (old : Option (List Passed)) (end : Turn) (t : S) (new : Option (List Passed)) → Last calling performs first s old end t new ⊎ Cut calling performs first s old end t new → Standing H
  standing_of_last first s old end t new h = ⊎_elim (λ l. standing_of_one first s old end l.took t new l.once) (λ k. k.lived.after) h

  -- THE STANDING OF A WORKER AT THE END of its last life
  abbrev pub standing_at_end : (first : Standing H) (s : S) (old : Option (List Passed)) (end : Turn) (again : Bool) (t : S) (new : Option (List Passed)) → Lives calling performs first s old end again t new → Standing H
  standing_at_end first s old end again t new h = standing_of_last first h.at h.mid end t new h.last
