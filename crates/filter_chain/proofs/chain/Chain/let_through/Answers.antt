use Rattle.std.proofs.Common.{◌≡◌, ℕ, List, sym, ◌∙◌, ap, subst, ◌+◌, slice_get, slice_index_or}
use Rattle.filter_chain.specs.declared.stage.Stage.{Stage}
use Rattle.filter_chain.specs.Chains.{accepts}
use Rattle.filter_chain.proofs.Releasing.{lets}
use Rattle.filter_chain.proofs.chain.Chain.let_through.Goals as goal

pub returns-clause-ok : goal.returns-clause-ok
returns-clause-ok c =
    let is_at = λ (s : Stage) (xs : List Stage). s ≡ slice_index_or xs c.args.at s in
    lets c.args.contexts.now c.args.at c.target-to.result c.held_len-first.result c.args.self.now c.requires c.target-to.ensures.target c.target-to.ensures.some
    c.index.result.now (subst (is_at c.index.result.now) c.self.view_is c.index.ensures)
    c.index-2.result.now c.index-3.result.now c.open_up.new.stage c.index_mut.result.now c.in_ok-items.items c.in_ok-passed.passed c.self-2.inside.stages.items c.open_up.new.contexts
    c.held_len-first.ensures (subst (is_at c.index-2.result.now) c.self.view_is c.index-2.ensures) (ap (λ (m : ℕ). accepts c.args.contexts.now (c.held_len-first.result + m) (slice_get c.args.self.now c.target-to.result)) (sym c.bytes.ensures) ∙ sym c.if-not-accepts.ensures) (subst (is_at c.index-3.result.now) c.self.view_is c.index-3.ensures) c.in_ok-items.ensures
    (c.in_ok-passed.ensures.ok ∙ ap (λ (xs : List Stage). (c.in_ok-passed.passed, xs)) (sym c.self-2.view_is)) c.index_mut.ensures.value c.open_up.ensures.stage c.open_up.ensures.contexts
