-- What holds of every text of a chunked body: it spells one thing from a place on, and what it spells stays spelled when more
-- bytes come.
use Rattle.std.specs.List.{list_all}
use Rattle.std.specs.Prelude.{◌≡◌, ◌+◌, ◌-◌, ℕ, Bool, true, false, List, ◌++◌, length, drop}
use Rattle.header_maps.specs.Kept.{is_kept_field}
use Rattle.h1_model.specs.Chunks.{SizeStep, size_open, size_step, Place, Sought, waiting, sought, Run, run_of}
use Rattle.h1_model.specs.Fields.{Pair}
use Rattle.h1_model.specs.Trailers.{ChunkStep, carried, ended, not_yet, refused, SpellsChunks}

-- from a place on, a text spells one thing
abbrev pub OneChunkStep : Type 0
OneChunkStep = (place : Place) (text : List ℕ) (a b : ChunkStep) → SpellsChunks place text a → SpellsChunks place text b → a ≡ b

-- a size line stays the size line of every longer text, and what is none stays none
abbrev pub SizeStays : Type 0
SizeStays = (text more : List ℕ) (s : SizeStep) → size_step text ≡ s → (s ≡ size_open → ⊥) → size_step (text ++ more) ≡ s

-- so do a byte of data, the place of a trailer section, and a fault
abbrev pub SoughtStays : Type 0
SoughtStays = (place : Place) (text more : List ℕ) (s : Sought) → sought place text ≡ s → (s ≡ waiting → ⊥) → sought place (text ++ more) ≡ s

-- the body's end, or a refusal
abbrev pub is_last : ChunkStep → Bool
is_last (carried run) = false
is_last (ended trailers used) = true
is_last not_yet = false
is_last (refused number) = true

-- an end or a refusal that a text spells, every longer text spells
abbrev pub LastStepStays : Type 0
LastStepStays =
    (place : Place) (text more : List ℕ) (step : ChunkStep) → SpellsChunks place text step → is_last step ≡ true
    → SpellsChunks place (text ++ more) step

-- the trailers of a body's end are fields as a header list keeps them, with names in lower case
abbrev pub TrailersAreFields : Type 0
TrailersAreFields =
    (place : Place) (text : List ℕ) (trailers : List Pair) (used : ℕ) → SpellsChunks place text (ended trailers used)
    → list_all is_kept_field trailers ≡ true

-- a run, and the run after it
abbrev pub joined : Run → Run → Run
joined a b = record { bytes = a.bytes ++ b.bytes; used = a.used + b.used; place = b.place }

-- The data of a longer text is the data of its front, and then what is carried from the place after that: so the data does not
-- depend on how the text is cut.
abbrev pub RunsJoin : Type 0
RunsJoin =
    (n : ℕ) (place : Place) (text more : List ℕ)
    → run_of n place (text ++ more)
    ≡ joined (run_of n place text)
    (run_of (n - length (run_of n place text).bytes) (run_of n place text).place (drop (run_of n place text).used (text ++ more)))
