use Rattle.std.proofs.Common.{ap, sym, rules}
use Rattle.wasm_syntax.specs.declared.types.ValueType.TheVariants.{I64}
use Rattle.wasm_numeric.specs.Applied.{or_trap}
use Rattle.wasm_numeric.proofs.Quotients.{divided_64, has_value}
use Rattle.wasm_numeric.proofs.wide.divide_signed.Goals as goal

pub returns-else-is_least_by_minus_one : goal.returns-else-is_least_by_minus_one
returns-else-is_least_by_minus_one c =
    let is = divided_64 c.args.x c.args.y _ _ c.wrapping_div.result _ c.ranges.x c.ranges.y c.cast_signed.ensures c.cast_signed-else-is_least_by_minus_one.ensures (record { sfits = c.wrapping_div.type_inv }) c.wrapping_div.ensures c.cast_unsigned.ensures in
    ap or_trap (sym (has_value I64 c.args.x c.args.y _ (search rules) (search rules) is))
