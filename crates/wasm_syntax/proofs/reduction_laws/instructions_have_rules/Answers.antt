use Rattle.wasm_syntax.proofs.RunLaws.{each_has_its_rule}
use Rattle.wasm_syntax.proofs.reduction_laws.instructions_have_rules.Goals as goal

pub returns : goal.returns
returns c = each_has_its_rule
