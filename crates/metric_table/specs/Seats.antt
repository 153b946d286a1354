-- What the calls on the words say of the seats.
use Rattle.std.specs.Prelude.{◌≡◌, ℕ, ◌+◌, ◌*◌, ◌≤◌, List, [], ◌∷◌, ◌++◌, length, slice_index}
use mathlib.Core.Option.{some}
use lib.ListN.{get_elem?}
use Rattle.atomic_table.specs.Seated.{TableId}
use Rattle.store_model.specs.declared.metric.MetricKind.{MetricKind}
use Rattle.store_model.specs.declared.metric.MetricKind.TheVariants.{Counter}
use Rattle.metric_table.specs.Places.{column_of, last_seen, place_of}
use Rattle.metric_table.specs.Rule.{IsRow}
use Rattle.metric_table.specs.Steps.{look_at}
use Rattle.metric_table.specs.Views.{ended, no_words, spent_view}
use Rattle.metric_table.specs.declared.view.Ended.{Ended}
use Rattle.metric_table.specs.declared.view.Look.{Look}
use Rattle.metric_table.specs.declared.view.View.{View}

-- there are 1,024 words, and no slot
abbrev pub HasShape : TableId → Type 0
HasShape t = (t.words ≡ 1024) × (t.slots ≡ 0)

-- A seat between two calls: its table, its worker's number, the values of its own words by their columns, what it looked at, how many numbers were given out, and the seats that were joined into it. The last two count at the seat of number 1 alone.
pub record Counting : Type 0 where
  pub table : TableId
  pub number : ℕ
  pub own : List ℕ
  pub looks : List Look
  pub given : ℕ
  pub ended : List Ended

-- the one view of a badge
abbrev pub view_in : List View → View
view_in [] = spent_view
view_in (v ∷ vs) = v

abbrev pub counting : TableId → View → Counting
counting t v = record { table = t; number = v.number; own = v.own; looks = v.looks; given = v.given; ended = v.ended }

-- worker 1's seat at new words
abbrev pub first_seat : TableId → Counting
first_seat t = record { table = t; number = 1; own = no_words; looks = []; given = 1; ended = [] }

-- the seat of the next number
abbrev pub next_seat : Counting → Counting
next_seat v = record { table = v.table; number = v.given + 1; own = no_words; looks = []; given = 0; ended = [] }

-- the seat u was joined into v, which keeps its own values
abbrev pub Joined : Counting → Counting → Counting → Type 0
Joined v u w = w ≡ record v { ended = v.ended ++ ended u.number u.own ∷ [] }

-- each number that the seat gave out was joined into it
abbrev pub HasAll : Counting → Type 0
HasAll v = (n : ℕ) → 2 ≤ n → n ≤ v.given → (k : ℕ) × (e : Ended) × (get_elem? v.ended k ≡ some e) × (e.number ≡ n)

-- One look at the word of a worker, a kind and an id was put behind the others. The own word has the own value, and a counter at least what this seat saw of it before.
pub record Looked (v : Counting) (who : ℕ) (kind : MetricKind) (id value : ℕ) (w : Counting) : Type 0 where
  pub seat : w ≡ record v { looks = v.looks ++ look_at (place_of who kind id) value ∷ [] }
  pub own : who ≡ v.number → value ≡ slice_index v.own (column_of kind id)
  pub rises : kind ≡ Counter → last_seen (place_of who Counter id) v.looks ≤ value

-- The words at the end: worker 1's are the own values of its seat, those of a seat that was joined into it are that seat's, and those of a number that was not given out are 0.
pub record Shut (v : Counting) (words : List ℕ) : Type 0 where
  pub as_many : length words ≡ 1024
  pub own : IsRow words 1 v.own
  pub ended : (k : ℕ) (e : Ended) → get_elem? v.ended k ≡ some e → IsRow words e.number e.own
  pub none_past : (place : ℕ) → v.given * 128 ≤ place → slice_index words place ≡ 0
