use Rattle.std.proofs.Common.{◌≡◌, drop}
use Rattle.std.specs.Prelude.{codes}
use Rattle.std.specs.List.{list_any}
use Rattle.h1_model.specs.Fields.{is_named}
use Rattle.h1_text.specs.Spans.{fields_at}
use Rattle.h1_chunks.proofs.section.SectionFields.has_connection.Given as goal

-- what is left decides
abbrev pub invariant-loop-span : goal.invariant-loop-span
invariant-loop-span l =
    list_any (is_named (codes "connection")) (fields_at l.self.text.now (drop l.span-index l.self.spans.now))
    ≡ list_any (is_named (codes "connection")) (fields_at l.self.text.now l.self.spans.now)
