-- A line that is offered to another worker.
use Rattle.std.specs.Prelude.{◌≡◌, ◌⊎◌, ℕ, ◌+◌, [], ◌∷◌, ◌++◌}
use Rattle.handoff.specs.Hands.{Rights}

-- a line was offered once: its queue took it, or it came back
abbrev pub OffersOnce : Rights → ℕ → Rights → Type 0
OffersOnce old number new = ((new.lines ≡ old.lines ++ number ∷ []) × (new.refusals ≡ old.refusals)) ⊎ ((new.lines ≡ old.lines) × (new.refusals ≡ old.refusals + 1))
