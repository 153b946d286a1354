-- The lives of a worker that ended for want of memory before the last.
use Rattle.std.specs.Prelude.{◌≡◌, ℕ, ◌≤◌, Bool, false, All, List, length, Option}
use Rattle.filter_host.specs.Called.{Calling}
use Rattle.filter_host.specs.declared.host.Callback.{Callback}
use Rattle.fleet.specs.Lives.{Early, first_of}
use Rattle.fleet.specs.Made.{events_of_early}
use Rattle.gate_config.specs.declared.config.Config.{Config}
use Rattle.gate_io.specs.declared.event.Event.{Event}
use Rattle.gate_io.specs.declared.passed.Passed.{Passed}
use Rattle.shared_seats.specs.Moving.{SeatsGoOn}
use Rattle.shared_seats.specs.Seats.{SeatsOf}
use Rattle.worker_model.specs.State.{Standing}

abbrev pub HasEvent : List Event → Type 0
HasEvent events = 1 ≤ length events

-- EACH LIFE BEHIND WHICH ANOTHER ONE BEGAN WAS GIVEN AN EVENT. So a worker that has no memory to take one does not begin again for ever.
abbrev pub EarlyLivesTookEvents : {H : Type 0} → Calling H → Type 0
EarlyLivesTookEvents {H} calling =
    (first : Standing H) (n : ℕ) (s : SeatsOf) (old : Option (List Passed)) (t : SeatsOf) (new : Option (List Passed)) → first.took ≡ false
    → (early : Early calling SeatsGoOn first n s old t new) → All HasEvent (events_of_early calling SeatsGoOn first n s old t new early)

-- when a life begins, none was taken
abbrev pub BeginsWithout : {H : Type 0} → (H → ℕ → Callback → Bool) → (H → ℕ → Bool) → Type 0
BeginsWithout {H} exported registering = (config : Config) (host : H) (who : ℕ) (seed : List ℕ) → (first_of exported registering config host who seed).took ≡ false
