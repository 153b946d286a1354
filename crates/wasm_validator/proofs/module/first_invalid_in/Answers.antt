use Rattle.std.proofs.Common.{ℕ, ◌<◌, Option, subst, arith}
use Rattle.wasm_syntax.specs.declared.valid.Part.{Part}
use Rattle.wasm_syntax.specs.declared.valid.Part.TheVariants as part
use Rattle.wasm_syntax.specs.Validity.{IsGood, entries_of, turn_of}
use Rattle.wasm_validator.specs.Parts.{Finds}
use Rattle.wasm_validator.specs.Codes.{FindsCode}
use Rattle.wasm_validator.specs.declared.code.Fault.{Fault}
use Rattle.wasm_validator.proofs.FirstFaults.{found_code}
use Rattle.wasm_validator.proofs.module.first_invalid_in.Goals as goal

pub first_bad_code-requires-clause-signatures : goal.first_bad_code-requires-clause-signatures
first_bad_code-requires-clause-signatures c = λ n lt. c.loop-turn.invariant.good part.Signature n (omega (arith, c.loop-turn-test.false)) lt

pub first_bad_code-requires-clause-functions : goal.first_bad_code-requires-clause-functions
first_bad_code-requires-clause-functions c = λ n lt. c.loop-turn.invariant.good part.Function n (omega (arith, c.loop-turn-test.false)) lt

pub returns-in-Some-3-clause-some : goal.returns-in-Some-3-clause-some
returns-in-Some-3-clause-some c =
    let m = c.args.m.now in
    let exports = subst (λ (o : Option ℕ). Finds m part.Export o) c.in_default-2.is c.in_ok-index.ensures in
    let code = subst (λ (o : Option Fault). FindsCode m o) c.in-Some-3.is c.in_ok-f.ensures in
    let parts : (q : Part) (k : ℕ) → turn_of q < 9 → k < entries_of m q → IsGood m q k = λ q k turn lt. c.loop-turn.invariant.good q k (omega (arith, turn, c.loop-turn-test.false)) lt in
    found_code m c.in-Some-3.f.index c.in-Some-3.f.place c.requires.spelled parts exports code
