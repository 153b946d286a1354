-- Between which lengths the names lie that a head's Connection lists.
use Rattle.std.specs.Prelude.{◌≡◌, ◌≤◌, true, ℕ, List, length, codes, IfSome, IfNone}
use Rattle.h1_model.specs.Fields.{Pair, values_of, is_listed}
use Rattle.h1_head.specs.declared.fields.ConnectionFields.{ConnectionFields}
use Rattle.h1_head.specs.declared.lengths.Lengths.{Lengths}
use Rattle.h1_head.specs.Spans.{AreLines}
use Rattle.h1_text.specs.Names.{AreMarked}

-- a length lies between the two
abbrev pub IsBetween : Lengths → ℕ → Type 0
IsBetween lengths n = (lengths.least ≤ n) × (n ≤ lengths.most)

-- this is what the Connection fields of a head with these fields say: their lines, and either which of the head's names they list, or between which
-- lengths all names lie that they list
pub record IsConnectionOf (fields : List Pair) (connection : ConnectionFields) : Type 0 where
  pub lines : AreLines (values_of (codes "connection") fields) connection.lines
  pub lengths : IfNone connection.listed ((name : List ℕ) → is_listed name fields ≡ true → IsBetween connection.lengths (length name))
  pub names : IfSome connection.listed (AreMarked (values_of (codes "connection") fields))
