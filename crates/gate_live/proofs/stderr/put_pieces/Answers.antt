use Rattle.std.proofs.Common.{◌+◌, List, ℕ, Option, take, refl, sym, subst, arith, rules}
use Rattle.gate_io.specs.Told.{Gains, gains_nothing}
use Rattle.gate_live.proofs.Logged.{piece_more}
use Rattle.gate_live.proofs.stderr.put_pieces.Goals as goal

pub loop-at-init : goal.loop-at-init
loop-at-init g c = record { within = omega arith; gained = gains_nothing (g.R.LogStream.logged c.args.rt.now) }

pub loop-at-preserved : goal.loop-at-preserved
loop-at-preserved g c = record {
  within = omega arith;
  gained = piece_more (g.R.LogStream.logged c.args.rt.now) c.args.line.now c.loop-at.at (c.loop-at.at + c.min.result) (g.R.LogStream.logged c.loop-at.rt) (g.R.LogStream.logged c.put_piece.new.self) (omega arith) c.loop-at.invariant.gained (let put = c.if-not-put_piece.ensures.put in search rules);
}

pub returns-then-not-put_piece-clause-gained : goal.returns-then-not-put_piece-clause-gained
returns-then-not-put_piece-clause-gained g c =
    subst (λ (told : Option (List ℕ)). Gains (g.R.LogStream.logged c.args.rt.now) (take c.loop-at.at c.args.line.now) told) (sym (c.if-not-put_piece.ensures.none refl)) c.loop-at.invariant.gained
