-- Worlds and seats at posts.
use Rattle.std.specs.Prelude.{◌≡◌, ℕ, ◌+◌, List, [], ◌∷◌, length}
use Rattle.shared_seats.specs.Seats.{SeatsOf}
use Rattle.fleet.specs.declared.post.Post.{Post}

abbrev pub world_in : {W : Type 0} → Post W → W
world_in p = p.watched

abbrev pub seats_in : {W : Type 0} → Post W → SeatsOf
seats_in p = p.seats

-- the posts of the workers above so many, the last one's first
abbrev pub AreFrom : {W : Type 0} → ℕ → List (Post W) → Type 0
AreFrom low [] = Unit {0}
AreFrom low (p ∷ ps) = (p.who ≡ length ps + 1 + low) × AreFrom low ps
