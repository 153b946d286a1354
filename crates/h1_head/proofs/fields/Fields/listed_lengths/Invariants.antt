use Rattle.std.proofs.Common.{◌≡◌, drop, List, ℕ, true}
use Rattle.h1_model.specs.Fields.{is_listed}
use Rattle.h1_text.specs.Spans.{fields_at}
use Rattle.h1_head.proofs.ListedLengths.{IsFound}
use Rattle.h1_head.proofs.fields.Fields.listed_lengths.Given as goal

-- a name that is listed has one of the lengths, or is listed by what is left
abbrev pub invariant-loop-span : goal.invariant-loop-span
invariant-loop-span l =
    (name : List ℕ) → is_listed name (fields_at l.self.text.now l.self.spans.now) ≡ true
    → IsFound l.lengths name (fields_at l.self.text.now (drop l.span-index l.self.spans.now))
