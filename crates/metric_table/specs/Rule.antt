-- The rule of the words, which holds between any two steps.
use Rattle.std.specs.Prelude.{◌≡◌, ◌≢◌, ℕ, ◌+◌, ◌*◌, ◌<◌, ◌≤◌, List, length, slice_index}
use mathlib.Core.Option.{some}
use lib.ListN.{get_elem?}
use Rattle.atomic_table.specs.Table.{State}
use Rattle.metric_table.specs.Places.{IsOfCounter, last_seen, row_of}
use Rattle.metric_table.specs.Views.{Each}
use Rattle.metric_table.specs.declared.view.Ended.{Ended}
use Rattle.metric_table.specs.declared.view.View.{View}

-- these are the values of a worker's words
pub record IsRow (words : List ℕ) (number : ℕ) (own : List ℕ) : Type 0 where
  pub as_many : length own ≡ 128
  pub each : (k : ℕ) → k < 128 → slice_index words (row_of number + k) ≡ slice_index own k

-- What a live view knows: its own words, and what it saw last of each counter, which has not fallen.
pub record Knows (words : List ℕ) (v : View) : Type 0 where
  pub in_range : v.number ≤ 8
  pub own : IsRow words v.number v.own
  pub seen : (place : ℕ) → IsOfCounter place → last_seen place v.looks ≤ slice_index words place

-- What stands of an ended seat in the view of number 1: its worker's words. No live view has its number.
pub record Remains (words : List ℕ) (views : List View) (v : View) (e : Ended) : Type 0 where
  pub own : IsRow words e.number e.own
  pub was_given : (0 < e.number) × (e.number ≤ v.given)
  pub no_live : Each views (λ i w. w.number ≢ e.number)

-- The view of number 1 has the count of the numbers given out, its own included, and the seats that were joined into it. No view has a number past that count, and the words of such numbers are 0.
pub record Leads (words : List ℕ) (views : List View) (v : View) : Type 0 where
  pub some_given : (1 ≤ v.given) × (v.given ≤ 8)
  pub numbers : Each views (λ i w. w.number ≤ v.given)
  pub none_past : (place : ℕ) → v.given * 128 ≤ place → slice_index words place ≡ 0
  pub remains : (k : ℕ) (e : Ended) → get_elem? v.ended k ≡ some e → Remains words views v e

-- no two live views have one number
abbrev pub AreApart : List View → Type 0
AreApart views = (i k : ℕ) (v w : View) → get_elem? views i ≡ some v → get_elem? views k ≡ some w → 0 < v.number → v.number ≡ w.number → i ≡ k

-- Each word is what its worker knows it to be.
pub record Kept (s : State Unit View) : Type 0 where
  pub as_many : length s.words ≡ 1024
  pub knows : Each s.views (λ i v. 0 < v.number → Knows s.words v)
  pub apart : AreApart s.views
  pub leads : Each s.views (λ i v. v.number ≡ 1 → Leads s.words s.views v)
