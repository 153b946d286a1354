use Rattle.std.proofs.Common.{◌≡◌, ◌<◌, ◌≤◌, ◌++◌, true, List, length, take, drop, get_or, remove, ap, sym, subst, ◌∙◌, arith}
use Rattle.std.proofs.lemmas.List.Edits.{length-remove}
use Rattle.callouts.specs.declared.types.Callout.{Callout}
use Rattle.callouts.specs.Callouts.{is_due}
use Rattle.callouts.specs.UnderWay.{without_due}
use Rattle.callouts.proofs.UnderWay.{IsOut, due_out}
use Rattle.callouts.proofs.under_way.drop_due.Goals as goal

pub loop-at-smaller-then-is_due : goal.loop-at-smaller-then-is_due
loop-at-smaller-then-is_due c =
    let low : c.loop-at.at < length c.loop-at.calls = omega (arith, c.len.ensures, c.loop-at-test.true) in
    let left : length c.remove.new.self ≡ length (remove c.loop-at.calls c.loop-at.at) = ap length c.remove.ensures.rest in
    omega (arith, left, length-remove c.loop-at.calls c.loop-at.at low, low)

pub loop-at-preserved-then-is_due : goal.loop-at-preserved-then-is_due
loop-at-preserved-then-is_due c =
    let low : c.loop-at.at < length c.loop-at.calls = omega (arith, c.len.ensures, c.loop-at-test.true) in
    let this : Callout = c.index-items-at.result in
    let there : this ≡ get_or c.loop-at.calls c.loop-at.at this = subst (λ (xs : List Callout). this ≡ get_or xs c.loop-at.at this) c.as_slice-items.ensures c.index-items-at.is in
    let due : is_due c.args.now (get_or c.loop-at.calls c.loop-at.at this) ≡ true = ap (is_due c.args.now) (sym there) ∙ sym c.is_due.ensures ∙ c.if-is_due.true in
    let out : IsOut c.args.now c.loop-at.calls c.loop-at.at = due_out c.args.now c.loop-at.calls c.loop-at.at this low due in
    record {
      within = subst (λ (xs : List Callout). c.loop-at.at ≤ length xs) (sym c.remove.ensures.rest) out.within;
      kept = ap (λ (xs : List Callout). take c.loop-at.at xs ++ without_due c.args.now (drop c.loop-at.at xs)) c.remove.ensures.rest ∙ out.same ∙ c.loop-at.invariant.kept;
    }
