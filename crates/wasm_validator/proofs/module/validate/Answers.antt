use Rattle.wasm_syntax.proofs.Spelled.{spelled-keeps}
use Rattle.wasm_validator.proofs.FirstFaults.{valid_module}
use Rattle.wasm_validator.proofs.module.validate.Goals as goal

pub refusal-requires : goal.refusal-requires
refusal-requires c = spelled-keeps c.requires.0 c.args.m c.requires.1

pub hold-requires : goal.hold-requires
hold-requires c = valid_module c.args.m (spelled-keeps c.requires.0 c.args.m c.requires.1) (rw c.in-None.is at c.refusal.ensures.valid)
