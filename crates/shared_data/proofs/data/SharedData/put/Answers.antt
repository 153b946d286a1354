use Rattle.shared_data.proofs.Seeing.{kept_put}
use Rattle.shared_data.proofs.data.SharedData.put.Goals as goal

pub invariant_of-self-2 : goal.invariant_of-self-2
invariant_of-self-2 c =
    (kept_put c.self.inside.map.entries c.insert.new.self.entries c.self.inside.next c.self.inside.bytes c.in_ok-key.key (record { value = c.in_ok-value.value; number = c.self.inside.next }) c.args.key.now c.args.value.now
    c.args.self.now c.args.used c.self.view_is c.in_ok-insert.ensures.entries c.in_ok-key.ensures.items (λ i. record { value = c.in_ok-value.ensures i; number = (c.self.view_is i).next }) c.in_ok-insert.ensures.ordered
    c.requires.used c.requires.within c.requires.number).1

pub returns-clause-after : goal.returns-clause-after
returns-clause-after c =
    (kept_put c.self.inside.map.entries c.insert.new.self.entries c.self.inside.next c.self.inside.bytes c.in_ok-key.key (record { value = c.in_ok-value.value; number = c.self.inside.next }) c.args.key.now c.args.value.now
    c.args.self.now c.args.used c.self.view_is c.in_ok-insert.ensures.entries c.in_ok-key.ensures.items (λ i. record { value = c.in_ok-value.ensures i; number = (c.self.view_is i).next }) c.in_ok-insert.ensures.ordered
    c.requires.used c.requires.within c.requires.number).0
