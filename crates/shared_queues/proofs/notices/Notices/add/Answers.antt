use Rattle.std.proofs.Common.{◌≡◌, ◌++◌, ◌∷◌, [], List, ℕ, Global, ap, ◌∙◌}
use Rattle.std.specs.declared.collections.VecDeque.{VecDeque}
use Rattle.std.proofs.lemmas.List.{map_push}
use Rattle.shared_queues.specs.Owing.{lists_of}
use Rattle.shared_queues.proofs.Noticing.{added, indexes_there}
use Rattle.shared_queues.proofs.notices.Notices.add.Goals as goal

pub returns-in_err-reserve-clause-indexes : goal.returns-in_err-reserve-clause-indexes
returns-in_err-reserve-clause-indexes c = indexes_there c.self.inside.firsts (lists_of c.self.inside.numbers.items) c.self.inside.next c.args.self.now c.self.view_is c.self.invariant

pub returns-in_err-add-clause-indexes : goal.returns-in_err-add-clause-indexes
returns-in_err-add-clause-indexes c = indexes_there c.self.inside.firsts (lists_of c.self.inside.numbers.items) c.self.inside.next c.args.self.now c.self.view_is c.self.invariant

pub returns-clause-indexes : goal.returns-clause-indexes
returns-clause-indexes c = indexes_there c.self.inside.firsts (lists_of c.self.inside.numbers.items) c.self.inside.next c.args.self.now c.self.view_is c.self.invariant

grown : (c : goal.In_ok-push) → lists_of c.push.new.self.items ≡ lists_of c.self.inside.numbers.items ++ [] ∷ []
grown c =
    ap lists_of (c.in_ok-push.ensures.items ∙ ap (λ (l : List (VecDeque ℕ Global)). l ++ c.new.result ∷ []) c.reserve.ensures.items) ∙ map_push (λ (d : VecDeque ℕ Global). d.items) c.self.inside.numbers.items c.new.result
    ∙ ap (λ l. lists_of c.self.inside.numbers.items ++ l ∷ []) c.new.ensures.items

pub invariant_of-self-2 : goal.invariant_of-self-2
invariant_of-self-2 c =
    (added c.self.inside.firsts c.add.new.self (lists_of c.self.inside.numbers.items) (lists_of c.push.new.self.items) c.self.inside.next c.args.who c.args.self.now c.self.view_is c.self.invariant c.requires c.in_ok-add.ensures.ok (grown c)).numbered

pub returns-clause-ok : goal.returns-clause-ok
returns-clause-ok c =
    (added c.self.inside.firsts c.add.new.self (lists_of c.self.inside.numbers.items) (lists_of c.push.new.self.items) c.self.inside.next c.args.who c.args.self.now c.self.view_is c.self.invariant c.requires c.in_ok-add.ensures.ok (grown c)).view
