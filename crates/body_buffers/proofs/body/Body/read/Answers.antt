use Rattle.std.proofs.Common.{◌≡◌, ◌++◌, ◌-◌, length, min, rules, ap, sym, ◌∙◌}
use Rattle.std.specs.List.{concat}
use Rattle.body_buffers.specs.Bodies.{part_of}
use Rattle.body_buffers.proofs.Cuts.{part_append, part_min}
use Rattle.body_buffers.proofs.body.Body.read.Goals as goal

pub returns : goal.returns
returns c =
    let front = concat c.self.inside.pieces.items in
    let last = c.self.inside.last.items in
    let many = c.min-many.result in
    let start = c.args.start in
    let first : c.put_parts.new.out.items ≡ part_of front start many = search rules in
    let all : c.from_vec.result ≡ c.put_parts.new.out.items ++ part_of last c.saturating_sub-skip.result (many - c.len-2.result) = search rules in
    let skip : c.saturating_sub-skip.result ≡ start - length front = search rules in
    let left : c.len-2.result ≡ length (part_of front start many) = search rules in
    let ends : many ≡ min c.args.most (length c.args.self.now - start) = search rules in
    all ∙ ap (λ l. l ++ part_of last c.saturating_sub-skip.result (many - c.len-2.result)) first
    ∙ ap (λ n. part_of front start many ++ part_of last n (many - c.len-2.result)) skip
    ∙ ap (λ n. part_of front start many ++ part_of last (start - length front) (many - n)) left
    ∙ sym (part_append front last start many)
    ∙ ap (λ l. part_of l start many) c.self.view_is
    ∙ ap (part_of c.args.self.now start) ends
    ∙ part_min c.args.self.now start c.args.most
