use Rattle.std.proofs.Common.{◌≡◌, ◌≤◌, ◌-◌, ◌++◌, [], length, rules}
use Rattle.std.proofs.lemmas.List.{get_or_read}
use Rattle.body_buffers.specs.Bodies.{part_of}
use Rattle.body_buffers.proofs.Cuts.{parts_more, parts_past}
use Rattle.body_buffers.proofs.pieces.put_parts.Goals as goal

pub loop-piece-preserved : goal.loop-piece-preserved
loop-piece-preserved c =
    let list = c.args.list.now in
    let piece = c.piece-item.result in
    let here = get_or_read list c.loop-piece.piece-index piece c.loop-piece-test.true c.piece-item.is [] in
    let more : c.put_part.new.out.items ≡ c.loop-piece.out.items ++ part_of piece c.loop-piece.skip c.loop-piece.left = search rules in
    let skips : 0 ≡ c.loop-piece.skip - length piece = search rules in
    parts_more c.loop-piece.out.items c.put_part.new.out.items _ piece list c.loop-piece.piece-index c.loop-piece.skip c.loop-piece.left _ _ here more skips (search rules) c.loop-piece.invariant

pub loop-piece-preserved-then-len-skip : goal.loop-piece-preserved-then-len-skip
loop-piece-preserved-then-len-skip c =
    let list = c.args.list.now in
    let piece = c.piece-item.result in
    let here = get_or_read list c.loop-piece.piece-index piece c.loop-piece-test.true c.piece-item.is [] in
    let past : length piece ≤ c.loop-piece.skip = search rules in
    parts_past c.loop-piece.out.items _ piece list c.loop-piece.piece-index c.loop-piece.skip c.loop-piece.left _ here past (search rules) c.loop-piece.invariant
