use Rattle.std.proofs.Common.{[], ◌∷◌, ap, ◌∙◌}
use Rattle.callouts.specs.declared.types.Fated.{Fated}
use Rattle.callouts.proofs.Once.{if_ok}
use Rattle.callouts.proofs.UnderWay.{fail_ends, answer_ends, read_ends, comes_ends}
use Rattle.callouts.proofs.under_way.end_by.Goals as goal

pub returns-in-Comes : goal.returns-in-Comes
returns-in-Comes c = comes_ends c.args.step.now c.args.at c.args.calls.now c.new.result c.in-Comes.is c.new.ensures

pub returns-in-Read : goal.returns-in-Read
returns-in-Read c = read_ends c.args.step.now c.args.at c.args.calls.now c.new-in-Read.result c.in-Read.is c.new-in-Read.ensures

pub returns-in-Fail : goal.returns-in-Fail
returns-in-Fail c =
    if_ok c.one.result
    (λ fates is. fail_ends c.args.step.now c.args.at c.args.calls.now c.remove-ended.new.self c.remove-ended.result fates c.in-Fail.is c.remove-ended.ensures.value (is ∙ ap (λ (f : Fated). f ∷ []) c.failed.ensures) c.remove-ended.ensures.rest)
    c.one.ensures

pub returns-in-Answer : goal.returns-in-Answer
returns-in-Answer c =
    if_ok c.one-in-Answer.result
    (λ fates is. answer_ends c.args.step.now c.args.at c.args.calls.now c.remove-ended-in-Answer.new.self c.remove-ended-in-Answer.result fates c.in-Answer.is c.remove-ended-in-Answer.ensures.value (is ∙ ap (λ (f : Fated). f ∷ []) c.answered.ensures) c.remove-ended-in-Answer.ensures.rest)
    c.one-in-Answer.ensures
