-- What seats know, and what becomes of it where two seats part or meet.
use Rattle.std.specs.Prelude.{◌≡◌, ℕ, ◌+◌, List, [], ◌∷◌, ◌++◌, replicate}
use mathlib.Core.Option.{some}
use lib.ListN.{get_elem?}
use Rattle.metric_table.specs.declared.view.Ended.{Ended}
use Rattle.metric_table.specs.declared.view.View.{View}

-- K holds of each view, by its place
abbrev pub Each : List View → (ℕ → View → Type 0) → Type 0
Each views K = (i : ℕ) (v : View) → get_elem? views i ≡ some v → K i v

-- the words of a worker at the start
abbrev pub no_words : List ℕ
no_words = replicate 128 0

-- the view of worker 1's seat at new words
abbrev pub first_view : View
first_view = record { number = 1; own = no_words; looks = []; given = 1; ended = [] }

-- what is left of a seat that was joined into another
abbrev pub spent_view : View
spent_view = record { number = 0; own = []; looks = []; given = 0; ended = [] }

-- a seat that was joined into another, with its own values
abbrev pub ended : ℕ → List ℕ → Ended
ended number own = record { number = number; own = own }

-- a view after it gave out the next number
abbrev pub after_split : View → View
after_split v = record v { given = v.given + 1 }

-- the view of that number
abbrev pub split_off : View → View
split_off v = record { number = v.given + 1; own = no_words; looks = []; given = 0; ended = [] }

-- a view after a seat with the view w was joined into it
abbrev pub joined : View → View → View
joined v w = record v { ended = v.ended ++ ended w.number w.own ∷ [] }
