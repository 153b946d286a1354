use Rattle.std.proofs.Common.{sym, ap, ◌∙◌, List, [], ◌∷◌, ◌++◌, append_assoc}
use Rattle.gate_io.specs.declared.event.Sent.{Sent}
use Rattle.send_queue.proofs.Joins.{behind-popped, neighbours_one, neighbours_two}
use Rattle.send_queue.proofs.joining.put_behind.Goals as goal

pub returns-in_ok-push-2 : goal.returns-in_ok-push-2
returns-in_ok-push-2 c =
    let front = c.pop.new.self.items in
    c.in_ok-push-2.ensures.items
    ∙ ap (λ (s : Sent). front ++ s ∷ []) c.in_ok-as_one.ensures
    ∙ ap (λ (l : List Sent). front ++ l) (sym (neighbours_one c.in-Some.last c.args.member (sym c.are_one.ensures ∙ c.if-are_one.true)))
    ∙ sym (behind-popped c.args.list.now.items front c.pop.result c.in-Some.last c.args.member c.in-Some.is c.pop.ensures.items)

pub returns-in_ok-push-4 : goal.returns-in_ok-push-4
returns-in_ok-push-4 c =
    let front = c.pop.new.self.items in
    let last = c.in-Some.last in
    c.in_ok-push-4.ensures.items
    ∙ ap (λ (l : List Sent). l ++ c.args.member ∷ []) c.in_ok-push-3.ensures.items
    ∙ append_assoc front (last ∷ []) (c.args.member ∷ [])
    ∙ ap (λ (l : List Sent). front ++ l) (sym (neighbours_two last c.args.member (sym c.are_one.ensures ∙ c.if-are_one.false)))
    ∙ sym (behind-popped c.args.list.now.items front c.pop.result last c.args.member c.in-Some.is c.pop.ensures.items)
