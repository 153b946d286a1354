use Rattle.std.proofs.Common.{◌≡◌, ◌∷◌, ◌++◌, [], rules, ap, ◌∙◌}
use Rattle.std.specs.List.{concat}
use Rattle.body_buffers.proofs.Cuts.{concat_push}
use Rattle.body_buffers.proofs.pieces.close.Goals as goal

pub returns-clause-ok : goal.returns-clause-ok
returns-clause-ok c =
    let last = c.args.last.now.items in
    let is : c.put_last.new.list.items ≡ c.settle.new.list.items ++ last ∷ [] = search rules in
    let same : concat c.settle.new.list.items ≡ concat c.args.list.now.items = search rules in
    ap concat is ∙ concat_push c.settle.new.list.items last ∙ ap (λ l. l ++ last) same
