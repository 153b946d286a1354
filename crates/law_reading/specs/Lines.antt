-- The lines of a worker: their numbers rise.
use Rattle.std.specs.Prelude.{◌<◌, ℕ, List, [], ◌∷◌}
use Rattle.worker_model.specs.declared.types.Line.{Line}

-- all of these numbers are above
abbrev pub AreAbove : ℕ → List Line → Type 0
AreAbove n [] = Unit {0}
AreAbove n (l ∷ lines) = (n < l.number) × AreAbove n lines

abbrev pub AreRising : List Line → Type 0
AreRising [] = Unit {0}
AreRising (l ∷ lines) = AreAbove l.number lines × AreRising lines
