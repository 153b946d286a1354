use Rattle.std.proofs.Common.{◌≡◌, List, sym, subst, ◌∙◌}
use Rattle.store_model.specs.Made.{Made}
use Rattle.test_metrics.proofs.threads.count.Goals.{then-turn-eq0+then-now-last, then-turn-eq0+else-now-last, else-turn-eq0}
use Rattle.test_metrics.proofs.threads.count.Goals as goal

pub loop-turn-preserved : goal.loop-turn-preserved
loop-turn-preserved g c =
    let i = c.loop-turn.invariant in let a = c.measure.ensures in
    let S : Type 0 = g.row.S.Denot in
    let Kept : S → Type 0 = λ s. ((x : List Made) × g.S.Shared.performs c.args.shared.now x s) × (g.S.Shared.stores s ≡ g.S.Shared.stores c.args.shared.now) in
    let added : Kept c.measure.new.shared = ((_, g.met.S.Shared.joined _ _ _ i.0.0 a.made.0 i.0.1 a.made.1), a.stores ∙ i.1) in
    elim c.if-turn-eq0.branch [
      | then-turn-eq0+then-now-last w ↦ subst Kept (sym w.shared-is) ((_, g.met.S.Shared.joined _ _ _ added.0.0 w.sum-now.ensures.made.0 added.0.1 w.sum-now.ensures.made.1), w.sum-now.ensures.stores ∙ added.1)
      | then-turn-eq0+else-now-last w ↦ subst Kept (sym w.shared-is) ((_, g.met.S.Shared.joined _ _ _ added.0.0 w.sum-now.ensures.made.0 added.0.1 w.sum-now.ensures.made.1), w.sum-now.ensures.stores ∙ added.1)
      | else-turn-eq0 w ↦ subst Kept (sym w.shared-is) added
    ]
