use Rattle.std.proofs.Common.{◌≡◌, ◌∙◌, None, sym, ap, subst, arith}
use Rattle.wasm_syntax.specs.ReductionSteps.{answered_config}
use Rattle.wasm_machine.proofs.Machined.{fits_few, with_calls, in_mode, answered_fits, answered_seen, answered_program, answered_running}
use Rattle.wasm_machine.specs.declared.machine.Mode.TheVariants as mode
use Rattle.wasm_machine.specs.Machines.{View, program_at, config_at, CanAnswer, asking}
use Rattle.wasm_machine.proofs.machine.Machine.resume.Goals as goal

pub set_asked-requires : goal.set_asked-requires
set_asked-requires c =
    let inside = c.self.inside in
    let which : inside.mode ≡ mode.Resting = ap (λ (v : View). v.mode) c.self.view_is ∙ c.requires.resting in
    let kept = in_mode inside.mode mode.Resting inside.program inside.state inside.pending.members which c.self.invariant.0 in
    let few = fits_few inside.program inside.state inside.pending.members kept.0 in
    omega (arith, few, c.self.invariant.1)

pub invariant_of-self : goal.invariant_of-self
invariant_of-self c =
    let inside = c.self.inside in
    let which : inside.mode ≡ mode.Resting = ap (λ (v : View). v.mode) c.self.view_is ∙ c.requires.resting in
    let kept = in_mode inside.mode mode.Resting inside.program inside.state inside.pending.members which c.self.invariant.0 in
    let can = subst (λ (v : View). CanAnswer (program_at v) v.pending c.args.answer) (sym c.self.view_is) c.requires.waits in
    let is = c.answer.ensures inside.program in
    with_calls mode.Running inside.program c.answer.new.self (asking None inside.pending.members) inside.pending c.set_asked.new.pending c.set_asked.ensures c.self.invariant.1
    (answered_fits inside.program inside.state c.answer.new.self inside.pending.members kept.0 c.args.answer is can, answered_running inside.program inside.state inside.pending.members c.args.answer can)

pub returns-clause-config : goal.returns-clause-config
returns-clause-config c =
    let inside = c.self.inside in
    let which : inside.mode ≡ mode.Resting = ap (λ (v : View). v.mode) c.self.view_is ∙ c.requires.resting in
    let kept = in_mode inside.mode mode.Resting inside.program inside.state inside.pending.members which c.self.invariant.0 in
    answered_seen inside.program inside.state c.answer.new.self inside.pending.members kept.0 c.args.answer (c.answer.ensures inside.program)
    ∙ ap (λ (v : View). answered_config c.args.answer (config_at v)) c.self.view_is

pub returns-clause-program : goal.returns-clause-program
returns-clause-program c =
    let inside = c.self.inside in
    let which : inside.mode ≡ mode.Resting = ap (λ (v : View). v.mode) c.self.view_is ∙ c.requires.resting in
    let kept = in_mode inside.mode mode.Resting inside.program inside.state inside.pending.members which c.self.invariant.0 in
    answered_program inside.program inside.state c.answer.new.self inside.pending.members kept.0 c.args.answer (c.answer.ensures inside.program)
    ∙ ap program_at c.self.view_is
