use Rattle.std.proofs.Common.{◌≡◌, drop}
use Rattle.http_header.specs.Token.{lowercase}
use Rattle.h1_model.specs.Fields.{is_listed}
use Rattle.h1_text.specs.Spans.{fields_at}
use Rattle.h1_head.proofs.fields.Fields.is_listed.Given as goal

-- what is left decides
abbrev pub invariant-loop-span : goal.invariant-loop-span
invariant-loop-span l =
    is_listed (lowercase l.name) (fields_at l.self.text.now (drop l.span-index l.self.spans.now))
    ≡ is_listed (lowercase l.name) (fields_at l.self.text.now l.self.spans.now)
