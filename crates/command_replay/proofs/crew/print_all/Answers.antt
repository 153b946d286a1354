use Rattle.std.proofs.Common.{◌≡◌, [], true, sym, ◌∙◌}
use Rattle.command_replay.proofs.Answered.{ok_map, on_ok}
use Rattle.command_replay.proofs.Printing.{named_text, named_last}
use Rattle.command_replay.proofs.crew.print_all.Goals as goal

pub returns-clause-text : goal.returns-clause-text
returns-clause-text c =
    let some : c.args.sent.now ≡ [] → ⊥ = λ empty. let none : c.is_empty.result ≡ true = rw empty at c.is_empty.ensures in cc (none, c.if-is_empty.false) in
    ok_map c.print_each.result _ _ (λ is. named_text c.args.last.now c.args.who c.args.sent.now c.args.out.now c.name_worker.new.out c.print_each.new.out some c.in_ok-name_worker.ensures.text is) c.print_each.ensures

pub returns-clause-last : goal.returns-clause-last
returns-clause-last c =
    let some : c.args.sent.now ≡ [] → ⊥ = λ empty. let none : c.is_empty.result ≡ true = rw empty at c.is_empty.ensures in cc (none, c.if-is_empty.false) in
    on_ok c.print_each.result _ (c.in_ok-name_worker.ensures.last ∙ sym (named_last c.args.last.now c.args.who c.args.sent.now some))
