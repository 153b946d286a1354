use Rattle.std.proofs.Common.{◌≡◌, ◌<◌, ℕ, false, []}
use Rattle.std.specs.Prelude.{slice_index_or}
use Rattle.h1_text.specs.Wanted.{CanBe, HasBlanks}
use Rattle.h1_text.proofs.names.ListedNames.wanted.Given as goal

-- it is noted what those of the names so far look like that are not marked
abbrev pub invariant-loop-number : goal.invariant-loop-number
invariant-loop-number l = record {
  blanks : HasBlanks l.wanted;
  unmarked : (k : ℕ) → k < l.number → slice_index_or l.self.marks.items k false ≡ false → CanBe l.wanted (slice_index_or l.self.tree.names k []);
}
