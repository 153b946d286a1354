use Rattle.std.proofs.Common.{◌≡◌, List, [], ◌∙◌, ap, subst, length, arith, slice_set, slice_index_or}
use Rattle.filter_chain.specs.declared.stage.Stage.{Stage}
use Rattle.filter_chain.proofs.Releasing.{put_back}
use Rattle.filter_chain.proofs.chain.Chain.hand_all.Goals as goal

pub returns-in-Err-clause-err : goal.returns-in-Err-clause-err
returns-in-Err-clause-err c =
    let s = c.index_mut.result.now in
    let t = c.index_mut-in-Err.result.now in
    let stages = c.self.inside.stages.items in
    let then_is : c.self-2.inside.stages.items ≡ slice_set stages c.args.at (record s { waiting = [] })
    = c.self-2.view_is ∙ c.in-Err.ensures.stages ∙ (λ i. slice_set stages c.args.at (record s { waiting = (c.replace-waiting.ensures.after ∙ c.new.ensures) i })) in
    ap (λ (xs : List Stage). slice_set xs c.args.at (record t { waiting = c.hand_both.new.waiting })) then_is
    ∙ put_back stages c.args.at s t c.hand_both.new.waiting (omega (arith, c.requires.at, ap length c.self.view_is)) c.index_mut.ensures.value (subst (λ (xs : List Stage). t ≡ slice_index_or xs c.args.at t) then_is c.index_mut-in-Err.ensures.value) (c.in-Err.ensures.waiting ∙ c.replace-waiting.ensures.value)
    ∙ c.self.view_is
