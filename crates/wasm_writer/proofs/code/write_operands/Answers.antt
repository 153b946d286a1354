use Rattle.std.proofs.Common.{rules, ◌≡◌, ◌++◌, ℕ, List, OnOk, sym, ap, subst, ◌∙◌}
use Rattle.std.proofs.lemmas.Int.{to_z-of_z}
use Rattle.std.specs.Int.{w32, w64}
use mir.Val.{SFits, to_z, of_z}
use Rattle.wasm_syntax.specs.Numbers.{s32_bytes, s64_bytes}
use Rattle.wasm_writer.specs.Written.{operand_bytes}
use Rattle.wasm_writer.proofs.code.write_operands.Goals as goal

pub returns-in-I32Const : goal.returns-in-I32Const
returns-in-I32Const c =
    let fits : SFits w32 c.in-I32Const.v = search rules in
    let e : s32_bytes (to_z w32 (of_z w32 c.in-I32Const.v)) ≡ operand_bytes c.args.i.now = ap s32_bytes (to_z-of_z w32 c.in-I32Const.v fits) ∙ sym (ap operand_bytes c.in-I32Const.is) in
    subst (λ (l : List ℕ). OnOk c.write_s32.result (c.write_s32.new.out ≡ c.args.out.now ++ l)) e c.write_s32.ensures.exact

pub returns-in-I64Const : goal.returns-in-I64Const
returns-in-I64Const c =
    let fits : SFits w64 c.in-I64Const.v = search rules in
    let e : s64_bytes (to_z w64 (of_z w64 c.in-I64Const.v)) ≡ operand_bytes c.args.i.now = ap s64_bytes (to_z-of_z w64 c.in-I64Const.v fits) ∙ sym (ap operand_bytes c.in-I64Const.is) in
    subst (λ (l : List ℕ). OnOk c.write_s64.result (c.write_s64.new.out ≡ c.args.out.now ++ l)) e c.write_s64.ensures.exact
