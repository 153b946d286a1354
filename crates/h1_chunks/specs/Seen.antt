-- The places and steps of the model that the code's values say.
use Rattle.std.specs.Prelude.{◌≤◌, ◌<◌, ⊤, ℕ}
use Rattle.h1_model.specs.Chunks as model
use Rattle.h1_chunks.specs.declared.size.SizeStep as size
use Rattle.h1_chunks.specs.declared.size.SizeStep.TheVariants as sizes
use Rattle.h1_chunks.specs.declared.place.ChunkState as place
use Rattle.h1_chunks.specs.declared.place.ChunkState.TheVariants as places
use Rattle.h1_chunks.specs.declared.place.Sought as sought
use Rattle.h1_chunks.specs.declared.place.Sought.TheVariants as soughts

-- what a text spells where a size line is due
abbrev pub seen_size : size.SizeStep → model.SizeStep
seen_size (sizes.Size n used) = model.sized n used
seen_size sizes.Open = model.size_open
seen_size sizes.Malformed = model.no_size

-- a size line lies within so many bytes
abbrev pub SizeWithin : ℕ → size.SizeStep → Type 0
SizeWithin n (sizes.Size size used) = used ≤ n
SizeWithin n sizes.Open = ⊤
SizeWithin n sizes.Malformed = ⊤

abbrev pub seen_place : place.ChunkState → model.Place
seen_place places.SizeLine = model.size_line
seen_place (places.Inside left) = model.inside left
seen_place places.Section = model.section
seen_place places.Over = model.over

abbrev pub seen_sought : sought.Sought → model.Sought
seen_sought (soughts.Data at left) = model.data_at at left
seen_sought (soughts.Section at) = model.section_at at
seen_sought soughts.Waiting = model.waiting
seen_sought soughts.Malformed = model.malformed

-- a byte of data, or a section, lies within so many bytes
abbrev pub SoughtWithin : ℕ → sought.Sought → Type 0
SoughtWithin n (soughts.Data at left) = (at < n) × (0 < left)
SoughtWithin n (soughts.Section at) = at ≤ n
SoughtWithin n soughts.Waiting = ⊤
SoughtWithin n soughts.Malformed = ⊤
