use Rattle.std.proofs.Common.{◌≡◌, ◌↔◌, ℕ, IsTrue, true, false, Option, Some, subst}
use Rattle.wasm_machine.specs.Machines.{View, program_at, AnswersTo}
use Rattle.wasm_machine.proofs.Asks.{gives_iff}
use Rattle.wasm_machine.proofs.machine.Machine.can_answer.Goals as goal

pub returns-in-Some : goal.returns-in-Some
returns-in-Some c =
    let inside = c.self.inside in
    subst (λ (o : Option ℕ). IsTrue c.gives.result ↔ AnswersTo (program_at c.args.self.now) o c.args.answer) c.in-Some.ensures
    (subst (λ (v : View). IsTrue c.gives.result ↔ AnswersTo (program_at v) (Some c.in-Some.x) c.args.answer) c.self.view_is
    (gives_iff inside.program inside.state c.in-Some.x c.args.answer c.gives.result c.gives.ensures))

none_answers : IsTrue false → ⊥
none_answers h = let bad : false ≡ true = h in cc

pub returns-in-None : goal.returns-in-None
returns-in-None c =
    subst (λ (o : Option ℕ). IsTrue false ↔ AnswersTo (program_at c.args.self.now) o c.args.answer) c.in-None.ensures
    (λ h. absurd (none_answers h), λ h. absurd h)
