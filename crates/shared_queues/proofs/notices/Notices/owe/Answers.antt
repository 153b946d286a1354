use Rattle.std.proofs.Common.{◌≡◌, [], ◌+◌, ◌<◌, ℕ, Global, length, get_or, set, ap, ◌∙◌, arith, get_or-set_same}
use Rattle.std.specs.declared.collections.VecDeque.{VecDeque}
use Rattle.std.proofs.lemmas.List.{length-map}
use Rattle.shared_queues.specs.Owing.{Owing, lists_of, first_number, owes_more}
use Rattle.shared_queues.proofs.Moving.{on_err}
use Rattle.shared_queues.proofs.Numbers.{lists-set, lists_same, list_at}
use Rattle.shared_queues.proofs.Noticing.{Step, stayed, owed_one, owed_none}
use Rattle.shared_queues.proofs.notices.Notices.owe.Goals as goal

refused : (c : goal.After-from_residual) → Step c.self.inside.firsts (lists_of (set c.self.inside.numbers.items c.args.index c.push_back.new.self)) c.self.inside.next c.args.self.now
refused c =
    let ds = c.self.inside.numbers.items in
    stayed c.self.inside.firsts (lists_of ds) (lists_of (set ds c.args.index c.push_back.new.self)) c.self.inside.next c.args.self.now c.self.view_is c.self.invariant
    (lists_same ds c.args.index c.push_back.new.self c.index_mut.result.now (c.in_err-push_back.ensures.items ∙ ap (λ (d : VecDeque ℕ Global). d.items) c.index_mut.ensures.value))

pub invariant_of-self : goal.invariant_of-self
invariant_of-self c = (refused c).numbered

pub returns-in_err-push_back-clause-err : goal.returns-in_err-push_back-clause-err
returns-in_err-push_back-clause-err c = on_err c.from_residual.result _ (refused c).view

pub returns-else-owed-lt-MOST_NOTICES-clause-ok : goal.returns-else-owed-lt-MOST_NOTICES-clause-ok
returns-else-owed-lt-MOST_NOTICES-clause-ok c =
    let ds = c.self.inside.numbers.items in
    let x = c.index.result.now in
    let less : c.args.index < length ds = omega (arith, c.requires, ap (λ (o : Owing). length o.whos) c.self.view_is, c.self.invariant.long, length-map ds (λ (d : VecDeque ℕ Global). d.items)) in
    owed_none c.self.inside.firsts (lists_of ds) c.self.inside.next c.args.index x.items c.args.self.now c.self.view_is c.self.invariant (list_at ds c.args.index x c.index.ensures less) (omega (arith, c.if-owed-lt-MOST_NOTICES.false, c.len-owed.ensures, x.ok.0))

done : (c : goal.After-self-then-owed-lt-MOST_NOTICES-1) → Step c.set_first.new.self (lists_of (set c.self.inside.numbers.items c.args.index c.push_back.new.self)) (c.self.inside.next + 1) (record c.args.self.now { owed = owes_more c.args.self.now.owed c.args.index })
done c =
    let ds = c.self.inside.numbers.items in
    let k = c.args.index in
    let x = c.index.result.now in
    let y = c.index_mut.result.now in
    let less : k < length ds = omega (arith, c.requires, ap (λ (o : Owing). length o.whos) c.self.view_is, c.self.invariant.long, length-map ds (λ (d : VecDeque ℕ Global). d.items)) in
    let was : y.items ≡ get_or (lists_of ds) k [] = list_at ds k y c.index_mut.ensures.value less in
    let few : length y.items < 1024 = omega (arith, c.if-owed-lt-MOST_NOTICES.true, c.len-owed.ensures, x.ok.0, ap length (list_at ds k x c.index.ensures less), ap length was) in
    let read : c.index-then-owed-lt-MOST_NOTICES.result.now ≡ c.push_back.new.self = c.index-then-owed-lt-MOST_NOTICES.ensures ∙ get_or-set_same ds k c.push_back.new.self c.index-then-owed-lt-MOST_NOTICES.result.now less in
    owed_one c.self.inside.firsts c.set_first.new.self (lists_of ds) (lists_of (set ds k c.push_back.new.self)) c.self.inside.next k c.first_of-first.result y.items c.push_back.new.self.items c.args.self.now c.self.view_is c.self.invariant c.requires
    (omega (arith, c.if-self.false, c.self.invariant.last)) was few c.in_ok-push_back.ensures.items (c.first_of-first.ensures ∙ ap (λ (d : VecDeque ℕ Global). first_number d.items) read) c.set_first.ensures (lists-set ds k c.push_back.new.self)

pub invariant_of-self-then-owed-lt-MOST_NOTICES : goal.invariant_of-self-then-owed-lt-MOST_NOTICES
invariant_of-self-then-owed-lt-MOST_NOTICES c = (done c).numbered

pub returns-in_ok-push_back-clause-ok : goal.returns-in_ok-push_back-clause-ok
returns-in_ok-push_back-clause-ok c = (done c).view
