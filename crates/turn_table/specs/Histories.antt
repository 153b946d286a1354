-- The histories of one value.
use Rattle.std.specs.Prelude.{ℕ, List}
use Rattle.store_model.specs.History.{Acts, value_from, IsLegalFrom}
use Rattle.store_model.specs.declared.entry.Entry.{Entry}

module _ {S : Type 0} (a : Acts S) where
  -- the value of a VM's number after the calls of a history, in order
  abbrev pub value_after : ℕ → List Entry → S
  value_after vm h = value_from a (a.empty vm) h

  -- each reply is that of the value after the entries before it
  abbrev pub IsLegalFor : ℕ → List Entry → Type 0
  IsLegalFor vm h = IsLegalFrom a (a.empty vm) h
