use Rattle.std.proofs.Common.{◌≡◌, rules, ◌∙◌, arith}
use Rattle.std.proofs.lemmas.List.{take_all}
use Rattle.std.specs.List.{concat}
use Rattle.body_buffers.specs.Bodies.{part_of}
use Rattle.body_buffers.proofs.Cuts.{AreFull-nil}
use Rattle.body_buffers.proofs.pieces.joined.Goals as goal

pub returns-clause-bytes : goal.returns-clause-bytes
returns-clause-bytes c =
    let one : concat c.put_full.new.list.items ≡ c.in_ok-from_vec.field-0 = search rules in
    let whole : c.in_ok-from_vec.field-0 ≡ c.put_parts.new.out.items = search rules in
    let part : c.put_parts.new.out.items ≡ part_of (concat c.args.list.now) 0 c.args.sum = search rules in
    one ∙ whole ∙ part ∙ take_all c.args.sum (concat c.args.list.now) (omega (arith, c.requires))

pub returns-clause-full : goal.returns-clause-full
returns-clause-full c = let nil = AreFull-nil in search rules
