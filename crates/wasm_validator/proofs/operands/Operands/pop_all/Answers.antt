use Rattle.std.proofs.Common.{◌≡◌, rules, reverse, Some, ℕ, suc, ◌-◌, ◌<◌, ◌≤◌, length, take, get_or, List, [], ◌∷◌, ◌++◌, sym, ap, ◌∙◌, arith}
use Rattle.std.proofs.Math.Seq.{take-suc}
use Rattle.std.proofs.lemmas.List.{reverse-append}
use Rattle.wasm_syntax.specs.declared.types.ValueType.{ValueType}
use Rattle.wasm_syntax.specs.declared.types.ValueType.TheVariants.{I32}
use Rattle.wasm_validator.specs.Checking.{and_then, Pattern, any_types, popped, all_popped}
use Rattle.wasm_validator.proofs.Bodies.{any-popped}
use Rattle.wasm_validator.proofs.operands.Operands.pop_all.Goals as goal

-- the last of them stands on top
last_first : (ts : List ValueType) (n : ℕ) (p : Pattern) → 0 < n → n ≤ length ts → all_popped (reverse (take n ts)) p ≡ and_then (popped (get_or ts (n - 1) I32) p) (all_popped (reverse (take (n - 1) ts)))
last_first ts n p some le =
    let e : n ≡ suc (n - 1) = omega arith in
    let one : take n ts ≡ take (n - 1) ts ++ get_or ts (n - 1) I32 ∷ [] = ap (λ (k : ℕ). take k ts) e ∙ take-suc ts (n - 1) I32 (omega arith) in
    ap (λ xs. all_popped xs p) (ap reverse one ∙ reverse-append (take (n - 1) ts) (get_or ts (n - 1) I32 ∷ []))

pub returns-then-is_any : goal.returns-then-is_any
returns-then-is_any c =
    let e : c.loop-left.self ≡ any_types = c.if-is_any.ensures (search rules) in
    c.loop-left.invariant.still ∙ ap (all_popped (reverse (take c.loop-left.left c.args.ts.now))) e ∙ any-popped (reverse (take c.loop-left.left c.args.ts.now)) ∙ ap Some (sym e)

pub returns-then-not-pop : goal.returns-then-not-pop
returns-then-not-pop c =
    c.loop-left.invariant.still
    ∙ last_first c.args.ts.now c.loop-left.left c.loop-left.self c.loop-left-test.true c.loop-left.invariant.within
    ∙ ap (λ o. and_then o (all_popped (reverse (take (c.loop-left.left - 1) c.args.ts.now)))) c.if-not-pop.ensures

pub loop-left-preserved : goal.loop-left-preserved
loop-left-preserved c = record {
  within = omega (arith, c.loop-left.invariant.within);
  still = c.loop-left.invariant.still
      ∙ last_first c.args.ts.now c.loop-left.left c.loop-left.self c.loop-left-test.true c.loop-left.invariant.within
      ∙ ap (λ o. and_then o (all_popped (reverse (take (c.loop-left.left - 1) c.args.ts.now)))) c.if-not-pop.ensures;
}

pub returns : goal.returns
returns c =
    let none : c.loop-left.left ≡ 0 = omega (arith, c.loop-left-test.false) in
    c.loop-left.invariant.still ∙ ap (λ (n : ℕ). all_popped (reverse (take n c.args.ts.now)) c.loop-left.self) none
