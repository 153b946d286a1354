-- What each step on a word tells the seat that makes it. A step turns the seat m, a view and the slots that it has out, into the seat m'.
use Rattle.std.specs.Prelude.{◌≡◌, ℕ, ◌+◌, ◌%◌, ◌^◌, ◌≤◌, ◌<◌, [], ◌∷◌, ◌++◌, slice_index, slice_set}
use Rattle.atomic_table.specs.Table.{Me, Step}
use Rattle.metric_table.specs.Places.{IsOfCounter, last_seen, row_of}
use Rattle.metric_table.specs.declared.view.Look.{Look}
use Rattle.metric_table.specs.declared.view.View.{View}

abbrev pub Holder : Type 0
Holder = Me Unit View

abbrev pub look_at : ℕ → ℕ → Look
look_at place value = record { place = place; value = value }

-- a view whose own word at a column has become n
abbrev pub own_set : View → ℕ → ℕ → View
own_set v column n = record v { own = slice_set v.own column n }

-- so much was added to the own word
abbrev pub bumped : Step Unit → Holder → ℕ → Holder → Type 0
bumped st m found m' = m' ≡ (own_set m.0 (st.word % 128) ((slice_index m.0.own (st.word % 128) + st.first) % 2 ^ 64), m.1)

-- the own word was written
abbrev pub written : Step Unit → Holder → ℕ → Holder → Type 0
written st m found m' = m' ≡ (own_set m.0 (st.word % 128) st.first, m.1)

-- The look is put behind the others. Of the own words it is the own value, and of a counter at least what was seen of it before.
pub record Saw (v : View) (place value : ℕ) : Type 0 where
  pub own : (k : ℕ) → k < 128 → row_of v.number + k ≡ place → value ≡ slice_index v.own k
  pub rises : IsOfCounter place → last_seen place v.looks ≤ value

abbrev pub looked : Step Unit → Holder → ℕ → Holder → Type 0
looked st m found m' = (m' ≡ (record m.0 { looks = m.0.looks ++ look_at st.word found ∷ [] }, m.1)) × Saw m.0 st.word found
