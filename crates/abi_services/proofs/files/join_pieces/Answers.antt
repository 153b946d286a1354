use Rattle.std.proofs.Common.{◌≤◌, ◌+◌, [], arith}
use Rattle.abi_services.proofs.Pieces.{joined_block}
use Rattle.abi_services.proofs.files.join_pieces.Goals as goal

pub loop-done-preserved : goal.loop-done-preserved
loop-done-preserved g c =
    let m = (g.G.Guest.at c.args.guest.now).config.store.memory in
    let fits : c.loop-done.done + c.min-next.result ≤ c.args.count = omega arith in
    record {
      within = fits;
      so_far = joined_block m c.args.at c.args.count c.loop-done.done c.min-next.result fits
          [] c.loop-done.text c.join_next.new.text c.loop-done.invariant.so_far c.in_ok-join_next.ensures;
    }
