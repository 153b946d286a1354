-- Pairs whose bytes stand in one buffer.
use Rattle.std.specs.Prelude.{ℕ, zero, suc, ◌≤◌, ◌+◌, ◌-◌, List, [], ◌∷◌, map, slice_range}
use Rattle.header_maps.specs.Pairs.{Pair}
use Rattle.header_maps.specs.declared.texts.Place.{Place}

-- the name and the value that stand there
abbrev pub pair_in : List ℕ → Place → Pair
pair_in bytes place = (slice_range bytes place.name place.name_end, slice_range bytes place.value place.value_end)

abbrev pub pairs_in : List ℕ → List Place → List Pair
pairs_in bytes places = map (pair_in bytes) places

-- they stand in the first n bytes
abbrev pub IsWithin : ℕ → Place → Type 0
IsWithin n place = ((place.name ≤ place.name_end) × (place.name_end ≤ n)) × ((place.value ≤ place.value_end) × (place.value_end ≤ n))

-- how many bytes a name and its value have
abbrev pub size_at : Place → ℕ
size_at place = (place.name_end - place.name) + (place.value_end - place.value)

-- with the value of the pair at a place replaced
abbrev pub put_at : List Pair → ℕ → List ℕ → List Pair
put_at [] at value = []
put_at (p ∷ ps) zero value = (p.0, value) ∷ ps
put_at (p ∷ ps) (suc at) value = p ∷ put_at ps at value
