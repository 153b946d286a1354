-- The numbers of lines, and which worker each goes to.
use Rattle.std.specs.Prelude.{◌≡◌, ◌⊎◌, ℕ, ◌+◌, ◌-◌, ◌%◌, List, [], ◌∷◌, ◌++◌}

-- Line 1 is worker 1's, and so on in turn: the place of a line's worker, where so many others are beside the first.
abbrev pub home_of : ℕ → ℕ → ℕ
home_of number others = (number - 1) % (others + 1)

-- a line was offered to a worker, or closed where there was no room for it
abbrev pub MayGain : List ℕ → ℕ → List ℕ → Type 0
MayGain old number new = (new ≡ old ++ number ∷ []) ⊎ (new ≡ old)
