use Rattle.std.proofs.Common.{◌≡◌, drop}
use Rattle.h1_model.specs.Fields.{passing_among}
use Rattle.h1_model.specs.Listed.{with_fields}
use Rattle.h1_head.specs.Seen.{dropped_from, passing_in}
use Rattle.h1_text.specs.Spans.{fields_at}
use Rattle.h1_head.proofs.fields.Fields.passing.Given as goal

-- the list so far, and what passes of what is left
abbrev pub invariant-loop-span : goal.invariant-loop-span
invariant-loop-span l =
    let all = fields_at l.self.text.now l.self.spans.now in
    with_fields l.list (passing_among (dropped_from l.host_passes all) (fields_at l.self.text.now (drop l.span-index l.self.spans.now)))
    ≡ with_fields l.fn.list (passing_in l.host_passes all)
