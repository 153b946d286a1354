-- What the operations on bodies make of the bytes.
use Rattle.std.specs.Prelude.{◌≡◌, ◌<◌, ℕ, ◌+◌, List, ◌++◌, take, drop, length}

-- how many bytes a body may have
abbrev pub body_limit : ℕ
body_limit = 1048576

-- the bytes before a place, the given ones, and those from `size` bytes behind that place on; a place past the end is the end
abbrev pub spliced : List ℕ → (start size : ℕ) → List ℕ → List ℕ
spliced bytes start size given = take start bytes ++ (given ++ drop (start + size) bytes)

-- so many bytes from a place on, or fewer where the end is nearer
abbrev pub part_of : List ℕ → (start most : ℕ) → List ℕ
part_of bytes start most = take most (drop start bytes)

-- too many for a body
abbrev pub IsOver : List ℕ → Type 0
IsOver bytes = body_limit < length bytes
