use Rattle.std.proofs.Common.{◌≡◌, [], List, Option, ℕ, sym, subst, ◌∙◌}
use Rattle.live_lines.specs.Waiting.{GoesOn}
use Rattle.live_lines.proofs.Lasting.{lasts_more}
use Rattle.live_lines.proofs.lingering.Lingering.goes_on.Goals as goal

pub returns-then-not-drop_some-clause-lasts : goal.returns-then-not-drop_some-clause-lasts
returns-then-not-drop_some-clause-lasts g c =
    lasts_more g.P.Duplex.gave c.args.now c.args.self.now c.loop.self c.drop_some.new.self c.loop.invariant.last c.loop.invariant.lasts c.drop_some.ensures.lasts

pub loop-preserved : goal.loop-preserved
loop-preserved g c =
    let took = g.P.Duplex.took in
    let old = c.args.self.now in
    let new = c.drop_some.new.self in
    let goes = subst (λ (w : List ℕ). GoesOn (took old.peer) old.waiting [] (took c.loop.self.peer) w) (sym c.drop_some.ensures.waiting) c.loop.invariant.goes_on in
    record {
      goes_on = subst (λ (o : Option (List ℕ)). GoesOn (took old.peer) old.waiting [] o new.waiting) (sym c.drop_some.ensures.took) goes;
      lasts = lasts_more g.P.Duplex.gave c.args.now old c.loop.self new c.loop.invariant.last c.loop.invariant.lasts c.drop_some.ensures.lasts;
      last = c.drop_some.ensures.last ∙ c.loop.invariant.last;
    }
