use Rattle.std.proofs.Common.{◌≡◌, ◌∙◌, ◌≤◌, List, ◌∷◌, [], true, ap, subst, arith}
use Rattle.gate_io.specs.declared.event.Sent.TheVariants.{Close}
use Rattle.gate_io.specs.declared.passed.Passed.TheVariants.{Took}
use Rattle.fleet.specs.Closing.{is_in, rank}
use Rattle.fleet.specs.declared.watched.Connection.{Connection}
use Rattle.fleet.proofs.Standing.{ClosesThen, closes_more, listed_stands, no_close, standing_more}
use Rattle.fleet.proofs.watched.Watched.close_all.Goals as goal

pub closes-init : goal.closes-init
closes-init g c =
    let same = ap g.W.World.faults c.self.view_is in
    record {
      standing = c.self.invariant;
      closes = subst (λ (w : g.row.W.Denot). ClosesThen (g.W.World.trace w) (g.W.World.trace c.self.inside.world) c.self.inside.standing.items) c.self.view_is (no_close _ _);
      nature = ap g.W.World.nature c.self.view_is;
      faults = omega (arith, same);
    }

pub closes-preserved : goal.closes-preserved
closes-preserved g c =
    let so = c.closes.invariant in
    let here = subst (λ (l : List Connection). is_in c.in-Some.one l ≡ true) c.as_slice.ensures.value c.in-Some.ensures.some in
    let least = subst (λ (l : List Connection). (d : Connection) → is_in d l ≡ true → rank c.in-Some.one ≤ rank d) c.as_slice.ensures.value c.in-Some.ensures.least in
    record {
      standing = standing_more _ (Took (Close c.in-Some.one.line c.in-Some.one.side) ∷ []) _ _ _ c.in_ok-close.ensures.trace so.standing c.take_out.ensures.gone;
      closes = closes_more _ _ _ _ _ c.in-Some.one so.closes here least c.take_out.ensures.gone (listed_stands _ _ c.in-Some.one so.standing here) c.in_ok-close.ensures.trace;
      nature = c.in_ok-close.ensures.nature ∙ so.nature;
      faults = omega (arith, so.faults, c.in_ok-close.ensures.faults);
    }
