use Rattle.std.proofs.Common.{List, ℕ, Option, Bor, option_copied, sym, ap, ◌∙◌}
use Rattle.h1_text.specs.Members.{rest_members}
use Rattle.h1_head.specs.Unnamed.{unnamed}
use Rattle.h1_head.proofs.Unlisted.{unnamed-cons, unnamed-nil, removed_leaves}
use Rattle.h1_head.proofs.listed.without_members.Goals as goal

pub loop-rest-preserved : goal.loop-rest-preserved
loop-rest-preserved c =
    let m = c.first_member.result.0.now in
    let old = c.loop-rest.fields in
    let behind = rest_members (option_copied c.first_member.result.1) in
    let x = removed_leaves c.remove.result m old c.remove.new.self c.remove.ensures.cause c.remove.ensures.ok c.remove.ensures.err c.remove.ensures.sure c.loop-rest.invariant.kept in
    record {
      left = ap (unnamed behind) x.left ∙ unnamed-cons m behind old.pairs
          ∙ ap (λ (ms : List (List ℕ)). unnamed ms old.pairs) (sym c.first_member.ensures.members)
          ∙ ap (λ (r : Option (Bor (List ℕ))). unnamed (rest_members (option_copied r)) old.pairs) (sym c.in-Some.is)
          ∙ c.loop-rest.invariant.left;
      kept = x.kept;
    }

pub returns-clause-left : goal.returns-clause-left
returns-clause-left c =
    let fields = c.loop-rest.fields in
    sym (unnamed-nil fields.pairs)
    ∙ ap (λ (r : Option (Bor (List ℕ))). unnamed (rest_members (option_copied r)) fields.pairs) (sym c.in_default.is)
    ∙ c.loop-rest.invariant.left
