use Rattle.std.proofs.Common.{◌≡◌, ◌∷◌, ◌++◌, [], length, rules, ap, ◌∙◌, arith, append-nil, length-append}
use Rattle.std.specs.List.{concat}
use Rattle.body_buffers.proofs.Cuts.{concat_push, AreFull-push}
use Rattle.body_buffers.proofs.body.Body.add.Goals as goal

pub invariant_of-self-2 : goal.invariant_of-self-2
invariant_of-self-2 c =
    let ps = c.close.new.list.items in
    let piece = c.args.piece in
    let is : c.push.new.self.items ≡ ps ++ piece ∷ [] = search rules in
    let bytes = ap length (ap concat is ∙ concat_push ps piece) ∙ length-append (concat ps) piece in
    let before : length (concat ps) ≡ c.len-all.result = search rules in
    let rest : c.close.new.last.items ≡ [] = search rules in
    record {
      sum_is = omega (arith, bytes, before, c.len-size.ensures.value);
      full = AreFull-push ps c.push.new.self.items piece (search rules) (search rules) is;
      few = search rules;
      short = search rules;
    }

pub returns-clause-ok : goal.returns-clause-ok
returns-clause-ok c =
    let ps = c.close.new.list.items in
    let piece = c.args.piece in
    let is : c.push.new.self.items ≡ ps ++ piece ∷ [] = search rules in
    let rest : c.close.new.last.items ≡ [] = search rules in
    let before : concat ps ≡ c.args.self.now = search rules in
    ap (λ l. concat l ++ c.close.new.last.items) is ∙ ap (λ l. concat (ps ++ piece ∷ []) ++ l) rest ∙ append-nil (concat (ps ++ piece ∷ []))
    ∙ concat_push ps piece ∙ ap (λ l. l ++ piece) before
