use Rattle.std.proofs.Common.{◌≡◌, ◌<◌, ◌||◌, length, option_copied, ℕ, false}
use Rattle.std.specs.Prelude.{slice_index_or}
use Rattle.h1_model.specs.Fields.{members}
use Rattle.h1_text.specs.Members.{rest_members}
use Rattle.h1_text.specs.Names.{is_met}
use Rattle.h1_text.specs.Wanted.{AreWanted, HasBlanks, rest_len}
use Rattle.h1_text.proofs.names.ListedNames.note.Given as goal

-- the marks, and the members that are left, are those of all members; what names look like that are not marked is noted
abbrev pub invariant-loop-member : goal.invariant-loop-member
invariant-loop-member l = record {
  tree : l.self.tree ≡ l.fn.self.tree;
  count : length l.self.marks.items ≡ length l.fn.self.marks.items;
  marks : (k : ℕ) → k < length l.fn.self.marks.items
      → (slice_index_or l.self.marks.items k false || is_met l.fn.self.tree k (rest_members (option_copied l.rest)))
      ≡ (slice_index_or l.fn.self.marks.items k false || is_met l.fn.self.tree k (members l.value));
  blanks : HasBlanks l.wanted;
  wanted : AreWanted l.self l.wanted;
}

abbrev pub decreases-loop-member : goal.decreases-loop-member
decreases-loop-member l = rest_len (option_copied l.rest)
