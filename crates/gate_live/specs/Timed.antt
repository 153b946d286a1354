-- The moments of events, by what the clocks told.
use Rattle.std.specs.Prelude.{◌≡◌, ◌⊎◌, ℕ, ◌≤◌, max, Option, IsSomeAnd}
use Rattle.gate_io.specs.declared.event.Event.{Event}
use Rattle.gate_io.specs.declared.event.What.{What}
use Rattle.live_sockets.specs.Spent.{IsOfLine}

-- what was asked for at a moment had come at the last event, and this is the moment of that
abbrev pub HasCome : Option ℕ → ℕ → ℕ → Type 0
HasCome due last now = IsSomeAnd due (λ moment. moment ≤ last) × (now ≡ last)

-- the greater of the moment of the last event and of one that was told
abbrev pub ComesLater : (ℕ → Type 0) → ℕ → ℕ → Type 0
ComesLater told last now = (moment : ℕ) × told moment × (now ≡ max last moment)

-- the same, or one before it
abbrev pub ComesBy : (ℕ → Type 0) → ℕ → ℕ → Type 0
ComesBy told last now = (moment : ℕ) × told moment × (now ≤ max last moment)

-- An event comes at the greater of the moment of the last one and of one that the clocks told in that call: one of a line at that or before it. What had
-- come at the last event comes at the moment of that.
abbrev pub IsMoment : (ℕ → Type 0) → ℕ → Option ℕ → What → ℕ → Type 0
IsMoment told last due what now = HasCome due last now ⊎ (ComesLater told last now ⊎ (IsOfLine what × ComesBy told last now))

-- so of an event with its moment
abbrev pub IsTimed : (ℕ → Type 0) → ℕ → Option ℕ → Event → Type 0
IsTimed told last due event = IsMoment told last due event.what event.now
