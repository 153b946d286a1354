-- What is told of a file.
use Rattle.std.specs.Prelude.{◌≡◌, List, ℕ, None, Some}
use Rattle.gate_io.specs.Paths.{file_at, told_at}
use Rattle.config_files.specs.Loading.{Told, OfFile}

-- what holds of the text of this file, where it is told
abbrev pub OfText : Told → List ℕ → (List ℕ → Type 0) → Type 0
OfText files path P = (text : List ℕ) → told_at files path ≡ Some text → P text

-- where the files are told, this one is among them
abbrev pub IsThere : Told → List ℕ → Type 0
IsThere files path = OfFile files path (λ text. Unit {0})

-- where the files are told, this one is among them, and this is its text
abbrev pub IsText : Told → List ℕ → List ℕ → Type 0
IsText None path text = Unit {0}
IsText (Some files) path text = file_at files path ≡ Some text

-- this holds of a text; and where the files are told, it is that of this one, which is among them
abbrev pub HasText : Told → List ℕ → (List ℕ → Type 0) → Type 0
HasText files path P = (text : List ℕ) × IsText files path text × P text
