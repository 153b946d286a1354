use Rattle.std.proofs.Common.{Bool, Some, sym, ap, ◌∙◌}
use Rattle.h1_head.specs.Measures.{seen_length}
use Rattle.callouts.specs.declared.types.Callout.{Callout}
use Rattle.callouts.specs.Callouts.{is_bare}
use Rattle.callouts.specs.Steps.{step_by}
use Rattle.callouts.proofs.Once.{part_callout, part_next}
use Rattle.callouts.proofs.reading.take_head.Goals as goal

pub returns-clause-callout : goal.returns-clause-callout
returns-clause-callout c =
    let new : Callout = record c.args.c.now { answer = record c.args.c.now.answer { fields = c.args.head.fields } } in
    sym (part_callout (is_bare (seen_length c.args.head.length)) new)

pub returns-clause-next : goal.returns-clause-next
returns-clause-next c =
    let new : Callout = record c.args.c.now { answer = record c.args.c.now.answer { fields = c.args.head.fields } } in
    ap Some (c.next_step.ensures ∙ ap (λ (b : Bool). step_by b c.args.c.now.id) c.is_bare-is_whole.ensures) ∙ sym (part_next (is_bare (seen_length c.args.head.length)) c.args.c.now.id new)
