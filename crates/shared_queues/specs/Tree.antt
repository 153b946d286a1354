-- The tree of places.
use Rattle.std.specs.Prelude.{◌≡◌, ℕ, ◌+◌, ◌*◌, ◌==◌, ◌<◌, ◌≤◌, List, length, replicate, map, min, if◌then◌else◌, slice_index_or}
use Rattle.store_model.specs.declared.used.TheConstants.{MOST_NAMES}
use Rattle.shared_queues.specs.declared.firsts.Place.{Place}
use Rattle.shared_queues.specs.declared.firsts.TheConstants.{NONE}

abbrev pub no_place : Place
no_place = record { who = 0; first = NONE; least = replicate 8 NONE }

abbrev pub place_at : List Place → ℕ → Place
place_at ps k = slice_index_or ps k no_place

abbrev pub whos_of : List Place → List ℕ
whos_of ps = map (λ p. p.who) ps

abbrev pub firsts_of : List Place → List ℕ
firsts_of ps = map (λ p. p.first) ps

-- Workers are counted from 0 here.
abbrev pub own : Place → ℕ → ℕ
own p w = if p.who == w + 1 then p.first else NONE

-- what a place knows, and nothing past the last one
abbrev pub least_at : List Place → ℕ → ℕ → ℕ
least_at ps k w = slice_index_or (place_at ps k).least w 0

-- the least number of a worker at a place and below it
abbrev pub joined : List Place → ℕ → ℕ → ℕ
joined ps k w = min (own (place_at ps k) w) (min (least_at ps (2 * k + 1) w) (least_at ps (2 * k + 2) w))

-- each place knows what it is to know; each but one
abbrev pub AllRight : List Place → Type 0
AllRight ps = (k w : ℕ) → k < length ps → w < 8 → least_at ps k w ≡ joined ps k w

abbrev pub AllRightBut : List Place → ℕ → Type 0
AllRightBut ps at = (k w : ℕ) → k < length ps → (k ≡ at → ⊥) → w < 8 → least_at ps k w ≡ joined ps k w

pub record IsTree (ps : List Place) : Type 0 where
  pub few : length ps ≤ MOST_NAMES
  pub right : AllRight ps
