use Rattle.std.proofs.Common.{true≢false, sym, ◌∙◌, rules, arith}
use Rattle.std.proofs.lemmas.List.{drop-drop}
use Rattle.std.proofs.lemmas.Grind.{common_steps}
use Rattle.gate_io.specs.Calls.{IsNext}
use Rattle.gate_io.proofs.mem_source.MemSourceSource.read.Goals as goal

pub returns-clause-answer : goal.returns-clause-answer
returns-clause-answer c =
    let free : IsNext c.args.self.now.fails c.args.self.now.calls → ⊥ = λ h. true≢false (sym (c.is_listed-fails.ensures.1 h) ∙ c.if-fails.false) in
    let later = drop-drop c.copy_front-n.result c.self.inside.at c.self.inside.bytes in
    (free, rw (← c.self.view_is) (grind (arith, common_steps)), rw (← c.self.view_is) (grind (arith, common_steps)), rw (← c.self.view_is) (rw later (search rules)))
