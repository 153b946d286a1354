use Rattle.std.proofs.Common.{◌≡◌, ◌++◌, drop}
use Rattle.std.specs.List.{concat}
use Rattle.body_buffers.specs.Bodies.{part_of}
use Rattle.body_buffers.proofs.pieces.put_parts.Given as goal

abbrev pub invariant-loop-piece : goal.invariant-loop-piece
invariant-loop-piece l =
    l.out.items ++ part_of (concat (drop l.piece-index l.list)) l.skip l.left
    ≡ l.fn.out.items ++ part_of (concat l.list) l.fn.start l.fn.most
