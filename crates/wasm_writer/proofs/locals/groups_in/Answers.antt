use Rattle.std.proofs.Common.{◌≡◌, ◌≤◌, List, length, true, false, refl, sym, subst, ◌∙◌, arith}
use denote.Enum.Bare.{sameb}
use Rattle.wasm_syntax.specs.contracts.types.ValueType.{the_type}
use Rattle.wasm_syntax.specs.declared.types.ValueType.{ValueType}
use Rattle.wasm_syntax.specs.declared.types.ValueType.TheVariants.{I32, I64}
use Rattle.wasm_writer.specs.declared.locals.Group.{Group}
use Rattle.wasm_writer.proofs.Groups.{IsGroupedSoFar, groups_start, same_goes_on, other_goes_on, groups_are_all}
use Rattle.wasm_writer.proofs.locals.groups_in.Goals as goal
use Rattle.wasm_writer.proofs.locals.groups_in.Goals.{then-eq, else-eq+in_ok-push}

are_same : (t u : ValueType) → sameb the_type t u ≡ true → t ≡ u
are_same I32 I32 e = refl
are_same I32 I64 e = absurd cc
are_same I64 I32 e = absurd cc
are_same I64 I64 e = refl

differ : (t u : ValueType) → sameb the_type t u ≡ false → t ≡ u → ⊥
differ I32 I32 e is = absurd cc
differ I32 I64 e is = absurd cc
differ I64 I32 e is = absurd cc
differ I64 I64 e is = absurd cc

pub loop-at-init : goal.loop-at-init
loop-at-init c =
    let all = c.args.locals.now in
    let le : c.run-count.result.0 ≤ length all = omega (arith, c.run-count.ensures.within) in
    subst (λ (gs : List Group). IsGroupedSoFar all gs c.run-count.result.1 c.run-count.result.0 c.run-count.result.0) (sym c.new-groups.ensures)
    (groups_start all c.run-count.result.0 c.run-count.result.1 c.run-count.ensures.some le c.run-count.ensures.run)

pub loop-at-preserved : goal.loop-at-preserved
loop-at-preserved c =
    elim c.if-eq.branch [
      | then-eq w ↦ rw (w.groups-is, w.of-is, w.count-is) (same_goes_on c.args.locals.now c.loop-at.groups c.loop-at.of c.run-n.result.1 c.loop-at.count c.loop-at.at c.run-n.result.0 c.loop-at.invariant c.run-n.ensures.within (are_same _ c.loop-at.of (sym c.eq.ensures ∙ w.if-eq.true)) c.run-n.ensures.run)
      | else-eq+in_ok-push w ↦ rw (w.groups-is, w.of-is, w.count-is) (other_goes_on c.args.locals.now c.loop-at.groups w.push.new.self c.loop-at.of c.run-n.result.1 c.loop-at.count c.loop-at.at c.run-n.result.0 c.loop-at.invariant c.run-n.ensures.some c.run-n.ensures.within (differ _ c.loop-at.of (sym c.eq.ensures ∙ w.if-eq.false)) c.run-n.ensures.run w.in_ok-push.ensures.ok)
    ]

pub returns : goal.returns
returns c = groups_are_all c.args.locals.now c.loop-at.groups c.push-2.new.self c.loop-at.of c.loop-at.count c.loop-at.at c.loop-at.invariant (omega (arith, c.loop-at-test.false, c.len-in-loop-at.ensures.count)) c.in_ok-push-2.ensures.ok
