use Rattle.std.proofs.Common.{◌≡◌, drop}
use Rattle.wasm_syntax.specs.Typing.{Context, left_by}
use Rattle.wasm_validator.specs.Checking.{all_have, within}
use Rattle.wasm_validator.proofs.checker.Checker.all_take.Given as goal

-- what is left decides
abbrev pub invariant-loop-l : goal.invariant-loop-l
invariant-loop-l l = (c : Context) → all_have (within c l.self) (left_by l.t) l.labels ≡ all_have (within c l.self) (left_by l.t) (drop l.l-index l.labels)
