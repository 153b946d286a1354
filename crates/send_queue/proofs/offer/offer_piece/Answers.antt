use Rattle.std.proofs.Common.{arith}
use Rattle.gate_io.specs.declared.event.Sent.TheVariants.{Bytes}
use Rattle.send_queue.proofs.Offers.{was_err, was_short, was_all}
use Rattle.send_queue.proofs.offer.offer_piece.Goals as goal

pub returns-in_err-n-clause-offered : goal.returns-in_err-n-clause-offered
returns-in_err-n-clause-offered g c = was_err (g.W.World.nature c.args.world.now).takes_whole _ _ (Bytes c.args.line c.args.side c.args.bytes.now) _ c.from_residual.ensures.0 c.in_err-n.ensures.trace

pub returns-then-n-bytes-clause-offered : goal.returns-then-n-bytes-clause-offered
returns-then-n-bytes-clause-offered g c = was_short _ _ _ c.args.line c.args.side c.args.bytes.now c.in_ok-n.n c.in_ok-n.ensures.trace (omega arith) c.in_ok-n.ensures.whole

pub returns-else-n-bytes-clause-offered : goal.returns-else-n-bytes-clause-offered
returns-else-n-bytes-clause-offered g c = was_all _ _ _ c.args.line c.args.side c.args.bytes.now c.in_ok-n.n c.in_ok-n.ensures.trace (omega arith)
