-- Each life after which another one began was given an event.
use Rattle.std.proofs.Common.{◌≡◌, ◌∙◌, ℕ, zero, suc, true, false, List, [], ◌∷◌, ◌++◌, Option, ap, sym, arith, inl, inr, true≢false}
use Rattle.std.proofs.lemmas.List.Elements.{All-append, All-cons, All-nil}
use Rattle.filter_host.specs.Called.{Calling}
use Rattle.fleet.specs.Lives.{Life, Turns}
use Rattle.fleet.specs.Made.{event_in_turn, events_in_life, events_in_turns, events_of_early}
use Rattle.gate_io.specs.declared.event.Event.{Event}
use Rattle.gate_io.specs.declared.passed.Passed.{Passed}
use Rattle.shared_seats.specs.Moving.{SeatsGoOn}
use Rattle.shared_seats.specs.Seats.{SeatsOf}
use Rattle.worker_model.specs.State.{Standing}
use Rattle.streams_model.specs.Turned.{Turned}
use Rattle.worker_model.specs.declared.types.Turn.TheVariants.{OutOfMemory}
use Rattle.law_fleet.specs.Lives.{EarlyLivesTookEvents, HasEvent}

in_front : (xs ys : List Event) → HasEvent xs → HasEvent (xs ++ ys)
in_front [] ys low = absurd (omega (arith, low))
in_front (x ∷ xs) ys low = omega arith

behind : (xs ys : List Event) → HasEvent ys → HasEvent (xs ++ ys)
behind [] ys low = low
behind (x ∷ xs) ys low = omega arith

module _ {H : Type 0} (calling : Calling H) where
  -- turns of which the first found no event taken, and after which one was taken, were given one
  in_turns : (n : ℕ) (s : SeatsOf) (old : Option (List Passed)) (from to : Standing H) (t : SeatsOf) (new : Option (List Passed)) (turns : Turns calling SeatsGoOn n s old from to t new)
      → from.took ≡ false → to.took ≡ true → HasEvent (events_in_turns calling SeatsGoOn n s old from to t new turns)
  in_turns zero s old from to t new turns none took = absurd (true≢false (sym took ∙ ap (λ (x : Standing H). x.took) turns.0 ∙ none))
  in_turns (suc n) s old from to t new turns none took = behind (events_in_turns calling SeatsGoOn n s old from turns.0 turns.1 turns.2 turns.3) (turns.4.event ∷ []) (omega arith)

  -- so was a life that memory ended, and in which an event was taken
  in_life : (s : SeatsOf) (old : Option (List Passed)) (from to : Standing H) (t : SeatsOf) (new : Option (List Passed)) (life : Life calling SeatsGoOn s old from OutOfMemory to t new)
      → from.took ≡ false → to.took ≡ true → HasEvent (events_in_life calling SeatsGoOn s old from OutOfMemory to t new life)
  in_life s old from to t new life none took = ended life.last
    where
      turns : List Event
      turns = events_in_turns calling SeatsGoOn life.count s old from life.before life.at life.mid life.went

      ended : (last : Turned calling SeatsGoOn life.at life.mid life.before OutOfMemory to t new) → HasEvent (turns ++ event_in_turn calling SeatsGoOn OutOfMemory life.at life.mid life.before to t new last)
      ended (inl none_given) = in_front turns [] (in_turns life.count s old from life.before life.at life.mid life.went none (sym (ap (λ (x : Standing H). x.took) none_given.worker) ∙ took))
      ended (inr (inl cut)) = behind turns (cut.event ∷ []) (omega arith)
      ended (inr (inr partly)) = behind turns (partly.event ∷ []) (omega arith)

  pub early_took : EarlyLivesTookEvents calling
  early_took first zero s old t new none early = All-nil HasEvent
  early_took first (suc n) s old t new none early =
      All-append HasEvent (events_of_early calling SeatsGoOn first n s old early.0 early.1 early.2) _ (early_took first n s old early.0 early.1 none early.2)
      (All-cons HasEvent _ [] (in_life early.0 early.1 first early.3.lived.after t early.3.left early.3.lived.life none early.3.lived.took_is) (All-nil HasEvent))
