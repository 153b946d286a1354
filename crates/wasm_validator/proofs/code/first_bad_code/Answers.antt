use Rattle.std.proofs.Common.{ℕ, ◌<◌, List, length, Option, IfSome, IfNone, subst, arith}
use Rattle.wasm_syntax.specs.declared.instr.Instr.{Instr}
use Rattle.wasm_syntax.specs.declared.valid.Part.TheVariants as part
use Rattle.wasm_syntax.specs.Typing.{Context, IsTypedBody}
use Rattle.wasm_syntax.specs.Validity.{IsGood, IsSignature, IsCode, context_of}
use Rattle.wasm_validator.specs.Bodies.{StopsAt}
use Rattle.wasm_validator.proofs.Contexts.{scope_context, scoped, good_code, bad_code, first_untyped}
use Rattle.wasm_validator.proofs.Finding.{grown, held_at, read_is, read_at, not_at, all_at}
use Rattle.wasm_validator.proofs.code.first_bad_code.Goals as goal

pub get-function-requires : goal.get-function-requires
get-function-requires c =
    let within : c.loop-index.index < length c.args.m.now.functions = omega (arith, c.loop-index-test.true, c.len.ensures, c.requires.spelled.coded) in
    held_at c.args.m.now.functions c.loop-index.index c.get.result.now (λ x. x < length c.args.m.now.types) within c.get.ensures (c.requires.functions c.loop-index.index within)

pub first_untyped-requires-clause-signatures : goal.first_untyped-requires-clause-signatures
first_untyped-requires-clause-signatures c =
    let within : c.loop-index.index < length c.args.m.now.functions = omega (arith, c.loop-index-test.true, c.len.ensures, c.requires.spelled.coded) in
    let there = held_at c.args.m.now.functions c.loop-index.index c.get.result.now (λ x. x < length c.args.m.now.types) within c.get.ensures (c.requires.functions c.loop-index.index within) in (
      all_at c.args.m.now.types IsSignature c.requires.signatures,
      held_at c.args.m.now.types c.get.result.now c.get-function.result.now IsSignature there c.get-function.ensures (c.requires.signatures c.get.result.now there),
    )

pub returns-in-Some : goal.returns-in-Some
returns-in-Some c =
    let m = c.args.m.now in
    let n = c.loop-index.index in
    let code = c.get-code.result.now in
    let t = c.get-function.result.now in
    let is_there : n < length m.codes = omega (arith, c.loop-index-test.true, c.len.ensures) in
    let within : n < length m.functions = omega (arith, is_there, c.requires.spelled.coded) in
    let there = held_at m.functions n c.get.result.now (λ x. x < length m.types) within c.get.ensures (c.requires.functions n within) in
    let declared = read_is m.functions n c.get.result.now within c.get.ensures in
    let typed = read_is m.types c.get.result.now t there c.get-function.ensures in
    let ctx = scope_context m c.args.scope.now t code.locals in
    let told = subst (λ (o : Option ℕ). IfSome o (StopsAt ctx c.as_slice.result.now)) c.in-Some.is c.in_ok-place.ensures.place in
    let here : StopsAt ctx code.body c.in-Some.place = subst (λ (is : List Instr). StopsAt ctx is c.in-Some.place) c.as_slice.ensures told in
    let stops : StopsAt (context_of m t code.locals) code.body c.in-Some.place = subst (λ (x : Context). StopsAt x code.body c.in-Some.place) (scoped m c.args.scope.now t code.locals c.requires.scope) here in
    record {
      first = record {
        there = is_there;
        bad = not_at m.codes n code (IsCode m n) is_there c.get-code.ensures (bad_code m n c.get.result.now t declared typed code c.in-Some.place stops);
        before = c.loop-index.invariant.good;
      };
      at = (code, read_is m.codes n code is_there c.get-code.ensures, first_untyped m n c.get.result.now t declared typed code c.in-Some.place stops);
    }

pub loop-index-preserved : goal.loop-index-preserved
loop-index-preserved c =
    let m = c.args.m.now in
    let n = c.loop-index.index in
    let code = c.get-code.result.now in
    let t = c.get-function.result.now in
    let is_there : n < length m.codes = omega (arith, c.loop-index-test.true, c.len.ensures) in
    let within : n < length m.functions = omega (arith, is_there, c.requires.spelled.coded) in
    let there = held_at m.functions n c.get.result.now (λ x. x < length m.types) within c.get.ensures (c.requires.functions n within) in
    let declared = read_is m.functions n c.get.result.now within c.get.ensures in
    let typed = read_is m.types c.get.result.now t there c.get-function.ensures in
    let ctx = scope_context m c.args.scope.now t code.locals in
    let told = subst (λ (o : Option ℕ). IfNone o (IsTypedBody ctx c.as_slice.result.now)) c.in_default.is c.in_ok-place.ensures.typed in
    let here : IsTypedBody ctx code.body = subst (λ (is : List Instr). IsTypedBody ctx is) c.as_slice.ensures told in
    let body : IsTypedBody (context_of m t code.locals) code.body = subst (λ (x : Context). IsTypedBody x code.body) (scoped m c.args.scope.now t code.locals c.requires.scope) here in
    record {
      within = omega (arith, is_there);
      good = grown (IsGood m part.Code) n c.loop-index.invariant.good (read_at m.codes n code (IsCode m n) is_there c.get-code.ensures (good_code m n c.get.result.now t declared typed code body));
    }
