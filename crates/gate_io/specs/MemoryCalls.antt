-- What each call on files, a source and a sink in memory does: exactly which calls fail, and what the others give.
use Rattle.std.specs.Prelude.{◌≡◌, ◌⊎◌, ℕ, ◌<◌, min, List, [], ◌∷◌, ◌++◌, length, take, drop, None, Some, Result, Ok, Err}
use Rattle.gate_io.specs.declared.ends.FileEnd.{FileEnd}
use Rattle.gate_io.specs.declared.ends.FileEnd.TheVariants.{Failed, TooLong, OutOfMemory}
use Rattle.gate_io.specs.Calls.{risen, IsNext}
use Rattle.gate_io.specs.Memory.{MemoryFiles, MemorySource, MemorySink}
use Rattle.gate_io.specs.Paths.{file_at}

-- a read noted its path, and counts
abbrev pub file_read : MemoryFiles → List ℕ → MemoryFiles
file_read files path = record files { paths = files.paths ++ path ∷ []; calls = risen files.calls }

-- so does one that fails, which is a fault
abbrev pub file_failed : MemoryFiles → List ℕ → MemoryFiles
file_failed files path = record files { paths = files.paths ++ path ∷ []; calls = risen files.calls; faults = risen files.faults }

-- What a read of a path does, with so many bytes at most. It fails exactly where its number is listed or there is no such
-- file. Any other gives the whole file, or tells that it is longer. All is as before where memory ran out.
abbrev pub ReadsFile : MemoryFiles → List ℕ → ℕ → Result (List ℕ) FileEnd → MemoryFiles → Type 0
ReadsFile old path most (Ok bytes) new = (IsNext old.fails old.calls → ⊥) × (file_at old.files path ≡ Some bytes) × (new ≡ file_read old path)
ReadsFile old path most (Err TooLong) new =
    (IsNext old.fails old.calls → ⊥) × ((bytes : List ℕ) × (file_at old.files path ≡ Some bytes) × (most < length bytes)) × (new ≡ file_read old path)
ReadsFile old path most (Err Failed) new = (IsNext old.fails old.calls ⊎ (file_at old.files path ≡ None)) × (new ≡ file_failed old path)
ReadsFile old path most (Err OutOfMemory) new = new ≡ old

-- What a read into a room does, which holds these bytes afterwards. It fails exactly where its number is listed, and else
-- fills the room from the front, as far as there are bytes.
abbrev pub FillsRoom : {E : Type 0} → MemorySource → List ℕ → Result ℕ E → MemorySource → Type 0
FillsRoom old room (Ok n) new =
    (IsNext old.fails old.calls → ⊥) × (n ≡ min (length old.left) (length room)) × (take n room ≡ take n old.left)
    × (new ≡ record old { left = drop n old.left; calls = risen old.calls })
FillsRoom old room (Err e) new = IsNext old.fails old.calls × (new ≡ record old { calls = risen old.calls; faults = risen old.faults })

-- What a write of a piece does: all of it is taken, never where the call's number is listed. A write that fails takes nothing.
abbrev pub TakesPiece : {E : Type 0} → MemorySink → List ℕ → Result ℕ E → MemorySink → Type 0
TakesPiece old piece (Ok n) new = (IsNext old.fails old.calls → ⊥) × (n ≡ length piece) × (new ≡ record old { taken = old.taken ++ piece; calls = risen old.calls })
TakesPiece old piece (Err e) new = new ≡ record old { calls = risen old.calls; faults = risen old.faults }
