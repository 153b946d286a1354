use Rattle.std.proofs.Common.{◌≡◌, rules, ap, ◌∙◌, [], ◌∷◌, ◌++◌}
use Rattle.std.specs.List.{concat}
use Rattle.body_buffers.proofs.Cuts.{concat_push, AreFull-push}
use Rattle.body_buffers.proofs.pieces.put_full.Goals as goal

pub returns-clause-ok : goal.returns-clause-ok
returns-clause-ok c =
    let is : c.push.new.self.items ≡ c.args.list.now.items ++ c.args.piece ∷ [] = search rules in
    ap concat is ∙ concat_push c.args.list.now.items c.args.piece

pub returns-clause-full : goal.returns-clause-full
returns-clause-full c =
    let is : c.push.new.self.items ≡ c.args.list.now.items ++ c.args.piece ∷ [] = search rules in
    λ full. AreFull-push c.args.list.now.items c.push.new.self.items c.args.piece full (search rules) is
