-- Which lines the other workers were offered.
use Rattle.std.specs.Prelude.{◌≡◌, ℕ, ◌+◌, ◌≤◌, List, [], ◌∷◌, length}
use Rattle.live_sockets.specs.Numbers.{home_of}
use Rattle.live_sockets.specs.declared.origin.Neighbor.{Neighbor}

-- lines up to this number, of a worker's place, where so many others are beside the first
abbrev pub AreOf : ℕ → ℕ → ℕ → List ℕ → Type 0
AreOf last others place [] = Unit {0}
AreOf last others place (line ∷ lines) = ((line ≤ last) × (home_of line others ≡ place)) × AreOf last others place lines

-- the workers from a place on were offered lines of their places alone, up to this number
abbrev pub AreHomeFrom : ℕ → ℕ → ℕ → List Neighbor → Type 0
AreHomeFrom last others place [] = Unit {0}
AreHomeFrom last others place (n ∷ ns) = AreOf last others place n.giver.lines × AreHomeFrom last others (place + 1) ns

-- each of the other workers was offered lines of its place alone, up to this number
abbrev pub AreHome : ℕ → List Neighbor → Type 0
AreHome last others = AreHomeFrom last (length others) 1 others

-- none of the other workers was offered a line
abbrev pub AreUnused : List Neighbor → Type 0
AreUnused [] = Unit {0}
AreUnused (n ∷ ns) = (n.giver.lines ≡ []) × AreUnused ns

-- how many lines were offered to the other workers, with those that came back
abbrev pub offers : List Neighbor → ℕ
offers [] = 0
offers (n ∷ ns) = length n.giver.lines + n.giver.refusals + offers ns
