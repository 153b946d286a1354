use Rattle.wasm_syntax.proofs.ModuleLaws.{spelled_or_faulty, not_both, one_fault}
use Rattle.wasm_syntax.proofs.module_laws.spelled_or_one_fault.Goals as goal

pub returns : goal.returns
returns c = record { some = spelled_or_faulty; apart = not_both; one = one_fault }
