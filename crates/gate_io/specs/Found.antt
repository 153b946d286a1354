-- What a look-up finds at a path.
use Rattle.std.specs.Prelude.{◌≡◌, ℕ, ◌<◌, ◌≤◌, List, length, None, Some}
use Rattle.gate_io.specs.declared.mem_files.Found.{Found}
use Rattle.gate_io.specs.declared.mem_files.Found.TheVariants.{Bytes, TooLong, Missing}
use Rattle.gate_io.specs.Paths.{file_at}

abbrev pub Finds : List (List ℕ × List ℕ) → List ℕ → ℕ → Found → Type 0
Finds files path most (Bytes bytes) = (file_at files path ≡ Some bytes) × (length bytes ≤ most)
Finds files path most TooLong = (bytes : List ℕ) × (file_at files path ≡ Some bytes) × (most < length bytes)
Finds files path most Missing = file_at files path ≡ None
