use Rattle.std.proofs.Common.{◌≡◌, ◌≤◌, ◌++◌, length, drop}
use Rattle.h1_model.specs.Trailers.{trailers_among, kept_trailers}
use Rattle.h1_text.specs.Spans.{fields_at}
use Rattle.h1_chunks.proofs.section.SectionFields.kept_by.Given as goal

-- those kept so far, and those kept of what is left
abbrev pub invariant-loop-span : goal.invariant-loop-span
invariant-loop-span l = record {
  kept :
      l.list.pairs ++ trailers_among (fields_at l.self.text.now l.self.spans.now) (fields_at l.self.text.now (drop l.span-index l.self.spans.now))
      ≡ kept_trailers (fields_at l.self.text.now l.self.spans.now);
  few : length l.list.pairs ≤ l.span-index;
}
