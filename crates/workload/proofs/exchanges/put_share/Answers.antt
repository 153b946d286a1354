use Rattle.std.proofs.Common.{◌≡◌, ◌+◌, ◌%◌, arith}
use Rattle.workload.proofs.Sharing.{put_mine, put_none}
use Rattle.workload.proofs.exchanges.put_share.Goals as goal

pub returns-then-i-from : goal.returns-then-i-from
returns-then-i-from c = put_none c.args.n c.args.who c.args.i c.args.events.now.items (λ (e : 1 + c.args.i % 4 ≡ c.args.who). omega arith)

pub returns : goal.returns
returns c = put_mine c.args.n c.args.who c.args.i c.in-Some.line _ c.args.events.now.items _ c.in_ok-put_exchange.ensures (omega arith) (omega (arith, c.in-Some.ensures.value)) (omega arith)
