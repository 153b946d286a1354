-- The rule of the table, which holds between any two steps. The table has three words, the turn, the count and the mark that seats sleep, and one slot, in which the value is at home.
use Rattle.std.specs.Prelude.{◌≡◌, ◌≢◌, ◌⊎◌, ℕ, ◌%◌, ◌^◌, ◌<◌, ◌≤◌, true, false, List, [], ◌∷◌, length}
use mathlib.Core.List.{IsPrefix}
use mathlib.Core.Option.{none, some}
use lib.ListN.{get_elem?}
use Rattle.atomic_table.specs.Table.{State}
use Rattle.store_model.specs.History.{Acts, own}
use Rattle.store_model.specs.declared.entry.Entry.{Entry}
use Rattle.turn_table.specs.declared.view.Ended.{Ended}
use Rattle.turn_table.specs.declared.view.View.{View}
use Rattle.turn_table.specs.Histories.{value_after, IsLegalFor}
use Rattle.turn_table.specs.Views.{Each}

-- What a live view knows of the history: it has seen a beginning of it, in which all entries under its number stand. The holder of the turn has seen it whole.
pub record Knows (vm : ℕ) (history : List Entry) (v : View) : Type 0 where
  pub same_vm : v.vm ≡ vm
  pub begins : IsPrefix v.seen history
  pub entries : own v.number v.seen ≡ own v.number history
  pub all : v.holds ≡ true → v.seen ≡ history
  pub before_begins : IsPrefix v.before v.seen
  pub before_entries : own v.number v.before ≡ own v.number history

-- What stands of an ended seat in the seen of the view of number 1. No live view has its number.
pub record Remains (history : List Entry) (views : List View) (v : View) (e : Ended) : Type 0 where
  pub begins : IsPrefix e.seen v.seen
  pub entries : own e.number e.seen ≡ own e.number history
  pub was_given : (0 < e.number) × (e.number ≤ v.given)
  pub no_live : Each views (λ i w. w.number ≢ e.number)

-- The view of number 1 has the count of the numbers given out, its own included, and the seats that were joined into it. No view and no entry has a number past that count.
pub record Leads (history : List Entry) (views : List View) (v : View) : Type 0 where
  pub some_given : 1 ≤ v.given
  pub numbers : Each views (λ i w. w.number ≤ v.given)
  pub none_past : (n : ℕ) → v.given < n → own n history ≡ []
  pub none_of_spent : own 0 history ≡ []
  pub remains : (k : ℕ) (e : Ended) → get_elem? v.ended k ≡ some e → Remains history views v e

-- no two live views have one number
abbrev pub AreApart : List View → Type 0
AreApart views = (i k : ℕ) (v w : View) → get_elem? views i ≡ some v → get_elem? views k ≡ some w → 0 < v.number → v.number ≡ w.number → i ≡ k

module _ {S : Type 0} (a : Acts S) where
  -- nobody has the turn: the value is at home, and is what the history leaves. The mark that seats sleep may be anything.
  pub record IsFree (vm : ℕ) (history : List Entry) (s : State S View) : Type 0 where
    pub asleep : ℕ
    pub words : s.words ≡ 0 ∷ (length history % 2 ^ 64) ∷ asleep ∷ []
    pub homes : s.homes ≡ some (value_after a vm history) ∷ []
    pub none_holds : Each s.views (λ i v. v.holds ≡ false)

  -- just one seat has the turn, and the value is out. The mark that seats sleep may be anything.
  pub record IsTaken (vm : ℕ) (history : List Entry) (s : State S View) : Type 0 where
    pub asleep : ℕ
    pub words : s.words ≡ 1 ∷ (length history % 2 ^ 64) ∷ asleep ∷ []
    pub homes : s.homes ≡ none ∷ []
    pub holder : ℕ
    pub held : (v : View) × (get_elem? s.views holder ≡ some v) × (v.holds ≡ true)
    pub one_holds : Each s.views (λ i v. v.holds ≡ true → i ≡ holder)

  -- There is one legal history. It stands in this rule alone: nothing stores it.
  pub record Kept (vm : ℕ) (s : State S View) : Type 0 where
    pub history : List Entry
    pub legal : IsLegalFor a vm history
    pub turn : IsFree vm history s ⊎ IsTaken vm history s
    pub knows : Each s.views (λ i v. 0 < v.number → Knows vm history v)
    pub live_holds : Each s.views (λ i v. v.holds ≡ true → 0 < v.number)
    pub apart : AreApart s.views
    pub leads : Each s.views (λ i v. v.number ≡ 1 → Leads history s.views v)
    pub whole : (i : ℕ) × (v : View) × (get_elem? s.views i ≡ some v) × (0 < v.number) × (v.seen ≡ history)
