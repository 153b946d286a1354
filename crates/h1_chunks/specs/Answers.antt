-- What an answer of the reader says.
use Rattle.std.specs.Prelude.{◌≡◌, ◌≤◌, ⊤, ℕ, Bool, true, false, List}
use Rattle.h1_model.specs.Chunks.{Place, section, Sought, data_at, section_at, waiting, malformed, Run}
use Rattle.h1_model.specs.Lines.{unfinished}
use Rattle.h1_model.specs.Trailers as model
use Rattle.h1_chunks.specs.declared.reader.ChunkStep as step
use Rattle.h1_chunks.specs.declared.reader.ChunkStep.TheVariants as steps
use Rattle.h1_chunks.specs.declared.reader.Run as run
use Rattle.h1_chunks.specs.Seen.{seen_place}

-- a byte of data comes next
abbrev pub is_data : Sought → Bool
is_data (data_at at left) = true
is_data (section_at at) = false
is_data waiting = false
is_data malformed = false

-- a trailer section is due at the front of the text, of which neither the end nor too much has come
abbrev pub IsWithinSection : Place → List ℕ → Type 0
IsWithinSection place text = (place ≡ section) × (model.section_cut text ≡ unfinished)

-- bytes of data with what they use up, as a run
abbrev pub seen_run : run.Run → Run
seen_run r = record { bytes = r.bytes; used = r.used; place = seen_place r.place }

-- the step that a value says, where this is the place after it
abbrev pub seen_step : Place → step.ChunkStep → model.ChunkStep
seen_step behind (steps.Data bytes used) = model.carried (record { bytes = bytes; used = used; place = behind })
seen_step behind (steps.End trailers used) = model.ended trailers.pairs used
seen_step behind steps.NotYet = model.not_yet
seen_step behind (steps.Refused number) = model.refused number

-- from the place on, the text spells the step, and this is the place after it
pub record Answers (place : Place) (text : List ℕ) (step : step.ChunkStep) (behind : Place) : Type 0 where
  pub spelled : model.SpellsChunks place text (seen_step behind step)
  pub leaves : behind ≡ model.place_after place (seen_step behind step)

-- a step uses up at most so many bytes
abbrev pub UsesWithin : ℕ → step.ChunkStep → Type 0
UsesWithin n (steps.Data bytes used) = used ≤ n
UsesWithin n (steps.End trailers used) = used ≤ n
UsesWithin n steps.NotYet = ⊤
UsesWithin n (steps.Refused number) = ⊤
