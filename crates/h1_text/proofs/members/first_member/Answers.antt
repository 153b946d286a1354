use Rattle.std.proofs.Common.{ℕ, ◌∙◌, sym, add-one, arith}
use Rattle.std.proofs.lemmas.Bool.{false≢true}
use Rattle.std.proofs.lemmas.List.{take_rest}
use Rattle.h1_text.proofs.Splits.{members-no_comma, members-comma}
use Rattle.h1_text.proofs.members.first_member.Goals as goal

pub returns-then-at-list-clause-members : goal.returns-then-at-list-clause-members
returns-then-at-list-clause-members c =
    rw ((take_rest {X = ℕ}), add-one, c.trim.ensures)
    (members-comma c.args.list.now c.comma_at-at.result c.if-at-list.true (c.comma_at-at.ensures.comma c.if-at-list.true)
    (λ k lt is. false≢true (sym (c.comma_at-at.ensures.before k lt) ∙ is)))

pub returns-else-at-list-clause-members : goal.returns-else-at-list-clause-members
returns-else-at-list-clause-members c =
    rw c.trim-else-at-list.ensures
    (members-no_comma c.args.list.now (λ k lt is. false≢true (sym (c.comma_at-at.ensures.before k (omega (arith, c.if-at-list.false, lt))) ∙ is)))
