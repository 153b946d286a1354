use Rattle.std.proofs.Common.{◌≤◌, ◌+◌, arith}
use Rattle.abi_services.proofs.Pieces.{judged_block, block_out}
use Rattle.abi_services.proofs.files.size_of_pieces.Goals as goal

pub loop-done-preserved : goal.loop-done-preserved
loop-done-preserved g c =
    let m = (g.G.Guest.at c.args.guest.now).config.store.memory in
    let fits : c.loop-done.done + c.min-next.result ≤ c.args.count = omega arith in
    let both = rw c.in-Some.is at c.in_ok-size.ensures.some in
    let small = rw c.in-Some.is at c.in_ok-size.ensures.bound in
    record {
      within = fits;
      so_far = judged_block m c.args.at c.args.count c.loop-done.done c.min-next.result fits
          c.loop-done.total c.in-Some.size c.loop-done.invariant.so_far both.0 both.1 small;
    }

pub returns-in_default-clause-none : goal.returns-in_default-clause-none
returns-in_default-clause-none g c =
    let m = (g.G.Guest.at c.args.guest.now).config.store.memory in
    let fits : c.loop-done.done + c.min-next.result ≤ c.args.count = omega arith in
    block_out m c.args.at c.args.count c.loop-done.done c.min-next.result fits
    c.loop-done.total c.loop-done.invariant.so_far (rw c.in_default.is at c.in_ok-size.ensures.none)
