-- Files as a finite map from paths to bytes: pairs, of which the first of a path counts.
use Rattle.std.specs.Prelude.{◌≡◌, ℕ, ◌<◌, List, [], ◌∷◌, length, Option, None, Some, Result, Ok, Err, if◌then◌else◌}
use Rattle.std.specs.Str.{bytes_eq}
use Rattle.gate_io.specs.declared.ends.FileEnd.{FileEnd}
use Rattle.gate_io.specs.declared.ends.FileEnd.TheVariants.{Failed, TooLong, OutOfMemory}

-- the bytes at a path
abbrev pub file_at : List (List ℕ × List ℕ) → List ℕ → Option (List ℕ)
file_at [] path = None
file_at (file ∷ files) path = if bytes_eq file.0 path then Some file.1 else file_at files path

-- the bytes at a path, where it is told that they are there
abbrev pub told_at : Option (List (List ℕ × List ℕ)) → List ℕ → Option (List ℕ)
told_at None path = None
told_at (Some files) path = file_at files path

-- what a read of a path answers, with so many bytes at most: the whole file, or that it is longer
abbrev pub Reads : List (List ℕ × List ℕ) → List ℕ → ℕ → Result (List ℕ) FileEnd → Type 0
Reads files path most (Ok bytes) = file_at files path ≡ Some bytes
Reads files path most (Err TooLong) = (bytes : List ℕ) × (file_at files path ≡ Some bytes) × (most < length bytes)
Reads files path most (Err Failed) = Unit {0}
Reads files path most (Err OutOfMemory) = Unit {0}

-- the same, where the files are told
abbrev pub ReadsTold : Option (List (List ℕ × List ℕ)) → List ℕ → ℕ → Result (List ℕ) FileEnd → Type 0
ReadsTold None path most result = Unit {0}
ReadsTold (Some files) path most result = Reads files path most result

-- the path that a read noted: none where memory ran out
abbrev pub noted : List ℕ → Result (List ℕ) FileEnd → List (List ℕ)
noted path (Err OutOfMemory) = []
noted path (Ok bytes) = path ∷ []
noted path (Err Failed) = path ∷ []
noted path (Err TooLong) = path ∷ []
