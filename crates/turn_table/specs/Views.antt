-- What seats know, and what becomes of it where two seats part or meet.
use Rattle.std.specs.Prelude.{◌≡◌, ℕ, ◌+◌, false, cond, ltb, List, [], ◌∷◌, ◌++◌, length}
use mathlib.Core.Option.{some}
use lib.ListN.{get_elem?}
use Rattle.store_model.specs.declared.entry.Entry.{Entry}
use Rattle.turn_table.specs.declared.view.Ended.{Ended}
use Rattle.turn_table.specs.declared.view.View.{View}

-- K holds of each view, by its place
abbrev pub Each : List View → (ℕ → View → Type 0) → Type 0
Each views K = (i : ℕ) (v : View) → get_elem? views i ≡ some v → K i v

-- the view of worker 1's seat in a new table
abbrev pub first_view : ℕ → View
first_view vm = record { vm = vm; number = 1; holds = false; seen = []; before = []; given = 1; ended = [] }

-- what is left of a seat that was joined into another
abbrev pub spent_view : View
spent_view = record { vm = 0; number = 0; holds = false; seen = []; before = []; given = 0; ended = [] }

-- a seat that was joined into another, with what it had seen
abbrev pub ended : ℕ → List Entry → Ended
ended number seen = record { number = number; seen = seen }

-- the longer of two lists, the first where they are as long
abbrev pub longer : List Entry → List Entry → List Entry
longer xs ys = cond (ltb (length xs) (length ys)) ys xs

-- a view after it gave out the next number
abbrev pub after_split : View → View
after_split v = record v { given = v.given + 1 }

-- the view of that number
abbrev pub split_off : View → View
split_off v = record { vm = v.vm; number = v.given + 1; holds = false; seen = v.seen; before = []; given = 0; ended = [] }

-- a view after a seat with the view w was joined into it
abbrev pub joined : View → View → View
joined v w = record v { seen = longer v.seen w.seen; before = v.seen; ended = v.ended ++ ended w.number w.seen ∷ [] }
