use Rattle.std.proofs.Common.{◌≡◌, ◌+◌, ◌++◌, ◌∷◌, [], length, sym, ap, ◌∙◌}
use Rattle.std.specs.BTreeMap.{insert_entry}
use Rattle.store_model.proofs.ByteMaps.{key_cmp}
use Rattle.shared_queues.specs.declared.queues.Queue.{Queue}
use Rattle.shared_queues.proofs.Moving.{made, of_ok}
use Rattle.shared_queues.proofs.queues.SharedQueues.make.Goals as goal

pub invariant_of-self-2 : goal.invariant_of-self-2
invariant_of-self-2 c =
    let called : c.in_ok-key.key.items ≡ c.args.name.now = c.in_ok-key.ensures.items in
    let name : c.in_ok-name.name ≡ c.args.name.now = c.in_ok-name.ensures in
    let same : c.reserve.new.self.items ≡ c.self.inside.queues.items = c.reserve.ensures.items in
    let many : c.len.result ≡ length c.self.inside.queues.items = c.len.ensures ∙ c.reserve.new.self.ok.0 ∙ ap length same in
    let put : c.insert.new.self.entries ≡ insert_entry key_cmp c.self.inside.names.entries c.in_ok-key.key c.len.result = of_ok c.insert.result _ (sym c.is_err.ensures.value ∙ c.if-is_err.false) c.insert.ensures.entries in
    let z : Queue = record { name = c.in_ok-name.name; who = c.args.who; root = c.args.root; items = c.new.result } in
    let grown : c.push.new.self.items ≡ c.reserve.new.self.items ++ z ∷ [] = c.in_ok-push.ensures.items in
    (made c.self.inside.vm c.self.inside.queues.items c.push.new.self.items c.self.inside.notices c.add.new.self c.args.self.now c.args.who c.args.root c.args.name.now c.in_ok-key.key c.insert.new.self.entries (c.self.inside.bytes + c.len-2.result) c.len.result z
    c.self.view_is c.self.invariant (grown ∙ ap (λ l. l ++ z ∷ []) same) (λ i. record { name = name i; who = c.args.who; root = c.args.root; items = c.new.ensures.items i }) c.in_ok-add.ensures.ok put many called c.requires.new c.requires.room
    (ap (λ n. c.self.inside.bytes + n) (c.len-2.ensures ∙ ap length name))).1
