use Rattle.std.proofs.Common.{Some, None, refl, sym, ap, subst, ◌∙◌}
use Rattle.store_model.specs.Keys.{Keys, reply_of_held, used_by_keys}
use Rattle.store_model.specs.Limits.{IsWithin}
use Rattle.store_model.specs.Replies.{IsGetReply}
use Rattle.store_model.proofs.May.{get_may}
use Rattle.store_model.specs.Store.{is_bare}
use Rattle.store_model.specs.declared.call.Reply.TheVariants.{Value}
use Rattle.shared_data.proofs.Seeing.{held-seen, bare_is_empty}
use Rattle.shared_data.proofs.data.SharedData.get.Goals as goal

pub returns-in_default-clause-reply : goal.returns-in_default-clause-reply
returns-in_default-clause-reply c =
    sym (ap reply_of_held (held-seen c.self.inside.map.entries c.self.inside.next c.args.key.now None c.args.self.now c.self.view_is c.in_default.ensures.value))

pub returns-then-is_empty-clause-reply : goal.returns-then-is_empty-clause-reply
returns-then-is_empty-clause-reply c =
    ap (λ v. Value v c.in-Some.kept.now.number) (c.new.ensures ∙ sym (c.if-is_empty.ensures.0 refl))
    ∙ sym (ap reply_of_held (held-seen c.self.inside.map.entries c.self.inside.next c.args.key.now (Some c.in-Some.kept.now) c.args.self.now c.self.view_is c.in-Some.ensures.value))

pub returns-in_err-value-clause-sure : goal.returns-in_err-value-clause-sure
returns-in_err-value-clause-sure c = λ bare.
    let found = held-seen c.self.inside.map.entries c.self.inside.next c.args.key.now (Some c.in-Some.kept.now) c.args.self.now c.self.view_is c.in-Some.ensures.value in
    let none = c.if-is_empty.ensures.1 (bare_is_empty c.in-Some.kept.now.value (sym (ap is_bare found) ∙ bare)) in
    absurd (cc)

pub returns-clause-reply : goal.returns-clause-reply
returns-clause-reply c =
    ap (λ v. Value v c.in-Some.kept.now.number) c.in_ok-value.ensures
    ∙ sym (ap reply_of_held (held-seen c.self.inside.map.entries c.self.inside.next c.args.key.now (Some c.in-Some.kept.now) c.args.self.now c.self.view_is c.in-Some.ensures.value))

pub returns-clause-may : goal.returns-clause-may
returns-clause-may c =
    subst IsGetReply (sym (returns-clause-reply c)) (get_may c.args.self.now c.args.key.now (subst (λ (d : Keys). IsWithin (used_by_keys d)) c.self.view_is c.self.invariant.within))
