-- What each step on the table tells the seat that makes it. A step turns the seat m, a view and the slots that it has out, into the seat m'.
use Rattle.std.specs.Prelude.{◌≡◌, ◌≢◌, ℕ, ◌%◌, ◌^◌, ◌<◌, ◌≤◌, true, false, List, [], ◌∷◌, ◌++◌, length}
use mathlib.Core.List.{IsPrefix}
use mathlib.Core.Option.{some}
use lib.ListN.{get_elem?}
use Rattle.atomic_table.specs.Table.{Me, Step}
use Rattle.store_model.specs.History.{Acts, own}
use Rattle.store_model.specs.declared.entry.Entry.{Entry}
use Rattle.turn_table.specs.declared.view.Ended.{Ended}
use Rattle.turn_table.specs.declared.view.View.{View}
use Rattle.turn_table.specs.Histories.{value_after, IsLegalFor}

module _ {S : Type 0} where
  -- the mark that seats sleep is made or taken away, which tells the seat nothing
  abbrev pub waits : Step S → Me S View → ℕ → Me S View → Type 0
  waits st m found m' = m' ≡ m

module _ {S : Type 0} (a : Acts S) where
  abbrev Holder : Type 0
  Holder = Me S View

  -- The turn was won: the seat has seen the whole history, which goes on from what it had seen by entries of others, and the slot is out with it.
  pub record Won (m m' : Holder) : Type 0 where
    pub others : List Entry
    pub view : m'.0 ≡ record m.0 { holds = true; seen = m.0.seen ++ others }
    pub slot : m'.1 ≡ (0, value_after a m.0.vm (m.0.seen ++ others)) ∷ []
    pub legal : IsLegalFor a m.0.vm (m.0.seen ++ others)
    pub foreign : own m.0.number others ≡ []

  abbrev pub took : Step S → Holder → ℕ → Holder → Type 0
  took st m found m' = (found ≡ 0 → Won m m') × (found ≢ 0 → m' ≡ m)

  -- the entry was put behind what the seat had seen
  abbrev pub recorded : Entry → Step S → Holder → ℕ → Holder → Type 0
  recorded e st m found m' = m' ≡ (record m.0 { seen = m.0.seen ++ e ∷ []; before = m.0.seen ++ e ∷ [] }, m.1)

  abbrev pub gave : Step S → Holder → ℕ → Holder → Type 0
  gave st m found m' = m' ≡ (record m.0 { holds = false }, [])

  -- what the view of number 1 is told of itself after a seat was joined into it
  pub record Known (v : View) : Type 0 where
    pub legal : IsLegalFor a v.vm v.seen
    pub begins : IsPrefix v.before v.seen
    pub entries : own v.number v.seen ≡ own v.number v.before
    pub ended : (k : ℕ) (e : Ended) → get_elem? v.ended k ≡ some e → IsPrefix e.seen v.seen × (own e.number v.seen ≡ own e.number e.seen)

  abbrev pub looked : Step S → Holder → ℕ → Holder → Type 0
  looked st m found m' = (m' ≡ m) × Known m.0

  -- what is in a table that was closed with the view v, the only live one
  pub record Shut (v : View) (words : List ℕ) (slots : List S) : Type 0 where
    pub asleep : ℕ
    pub words_are : words ≡ 0 ∷ (length v.seen % 2 ^ 64) ∷ asleep ∷ []
    pub slot : get_elem? slots 0 ≡ some (value_after a v.vm v.seen)
    pub one_slot : length slots ≡ 1
    pub legal : IsLegalFor a v.vm v.seen
    pub none_of_spent : own 0 v.seen ≡ []
    pub none_past : (n : ℕ) → v.given < n → own n v.seen ≡ []
    pub ended : (k : ℕ) (e : Ended) → get_elem? v.ended k ≡ some e → IsPrefix e.seen v.seen × (own e.number v.seen ≡ own e.number e.seen)

-- each number that the view gave out was joined into it
abbrev pub IsLast : View → Type 0
IsLast v = (n : ℕ) → 2 ≤ n → n ≤ v.given → (k : ℕ) × (e : Ended) × (get_elem? v.ended k ≡ some e) × (e.number ≡ n)
