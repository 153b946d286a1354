use Rattle.std.proofs.Common.{◌≡◌, ◌<◌, None, drop, length, IfNone, IfSome}
use Rattle.std.specs.Prelude.{codes}
use Rattle.std.specs.List.{flat_map}
use Rattle.h1_model.specs.Fields.{members, values_of}
use Rattle.h1_head.specs.Measures.{agreed_length}
use Rattle.h1_text.specs.Spans.{fields_at}
use Rattle.h1_head.proofs.length.told_length.Given as goal

-- what is left decides; while nothing is told no line has come, and then one has
abbrev pub invariant-loop-span : goal.invariant-loop-span
invariant-loop-span l =
    let name = codes "content-length" in
    let rest = values_of name (fields_at l.fields.text.now (drop l.span-index l.fields.spans.now)) in
    let all = values_of name (fields_at l.fields.text.now l.fields.spans.now) in
    record {
      agrees : agreed_length l.told (flat_map members rest) ≡ agreed_length None (flat_map members all);
      none : IfNone l.told (rest ≡ all);
      some : IfSome l.told (λ _. 0 < length all);
    }
