use Rattle.std.proofs.Common.{◌≡◌, ◌++◌, drop}
use Rattle.http_header.specs.Token.{lowercase}
use Rattle.h1_model.specs.Fields.{values_of}
use Rattle.h1_text.specs.Spans.{fields_at}
use Rattle.h1_head.proofs.fields.Fields.values_of.Given as goal

-- the values so far, and those of what is left
abbrev pub invariant-loop-span : goal.invariant-loop-span
invariant-loop-span l =
    l.values ++ values_of (lowercase l.name) (fields_at l.self.text.now (drop l.span-index l.self.spans.now))
    ≡ values_of (lowercase l.name) (fields_at l.self.text.now l.self.spans.now)
