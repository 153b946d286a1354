-- Pieces of bytes in a row, as a body keeps them, and where a place among their bytes is.
use Rattle.std.specs.Prelude.{◌≡◌, ◌≤◌, ◌<◌, ℕ, ◌+◌, List, [], length, take, All, slice_index_or}
use Rattle.std.specs.List.{concat}
use Rattle.body_buffers.specs.Bodies.{body_limit}

-- how many pieces a body has at most
abbrev pub most_pieces : ℕ
most_pieces = 1024

-- no piece is empty
pub record AreFull (pieces : List (List ℕ)) : Type 0 where
  pub each : All (λ piece. 0 < length piece) pieces

-- what a body is made of: pieces with so many bytes together, and the bytes behind them
pub record IsRope (pieces : List (List ℕ)) (sum : ℕ) (last : List ℕ) : Type 0 where
  pub sum_is : sum ≡ length (concat pieces)
  pub full : AreFull pieces
  pub few : length pieces ≤ most_pieces
  pub short : sum + length last ≤ body_limit

-- the piece at a place of the list, or no bytes behind the last one
abbrev pub piece_at : List (List ℕ) → ℕ → List ℕ
piece_at pieces at = slice_index_or pieces at []

-- a place among the bytes of all is behind so many whole pieces and so many bytes of the next
pub record IsPlace (pieces : List (List ℕ)) (place whole more : ℕ) : Type 0 where
  pub sum : length (concat (take whole pieces)) + more ≡ place
  pub within : more ≤ length (piece_at pieces whole)
  pub among : whole ≤ length pieces
