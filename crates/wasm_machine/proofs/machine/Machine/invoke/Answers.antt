use Rattle.std.proofs.Common.{◌≡◌, ◌≤◌, ◌∙◌, length, refl, sym, ap, subst}
use Rattle.std.specs.Prelude.{slice_get}
use Rattle.wasm_syntax.specs.ReductionSteps.{invoked_config}
use Rattle.wasm_machine.proofs.Machined.{with_calls, in_mode, few_arguments, called_fits, called_seen, called_program}
use Rattle.wasm_machine.specs.declared.machine.Mode.TheVariants as mode
use Rattle.wasm_machine.specs.Machines.{View, program_at, config_at, Takes, begun}
use Rattle.wasm_machine.proofs.machine.Machine.invoke.Goals as goal

pub invoke-requires-clause-few : goal.invoke-requires-clause-few
invoke-requires-clause-few c =
    let inside = c.self.inside in
    let which : inside.mode ≡ mode.Resting = ap (λ (v : View). v.mode) c.self.view_is ∙ c.requires.resting in
    let kept = in_mode inside.mode mode.Resting inside.program inside.state inside.pending.members which c.self.invariant.0 in
    let takes = subst (λ (v : View). Takes (program_at v) c.args.func c.args.args.now) (sym c.self.view_is) c.requires.takes in
    few_arguments inside.program inside.state c.args.func c.args.args.now kept.0.small takes

pub invariant_of-self : goal.invariant_of-self
invariant_of-self c =
    let inside = c.self.inside in
    let which : inside.mode ≡ mode.Resting = ap (λ (v : View). v.mode) c.self.view_is ∙ c.requires.resting in
    let kept = in_mode inside.mode mode.Resting inside.program inside.state inside.pending.members which c.self.invariant.0 in
    let takes = subst (λ (v : View). Takes (program_at v) c.args.func c.args.args.now) (sym c.self.view_is) c.requires.takes in
    let few = subst (λ (v : View). length v.pending ≤ 256) (sym c.self.view_is) c.requires.few in
    with_calls mode.Running inside.program c.invoke.new.self (begun c.args.func inside.pending.members) inside.pending c.push.new.self c.push.ensures c.self.invariant.1
    (called_fits inside.program inside.state c.invoke.new.self inside.pending.members kept.0 c.args.func c.args.args.now c.invoke.ensures takes few, refl)

pub returns-clause-config : goal.returns-clause-config
returns-clause-config c =
    let inside = c.self.inside in
    let which : inside.mode ≡ mode.Resting = ap (λ (v : View). v.mode) c.self.view_is ∙ c.requires.resting in
    let kept = in_mode inside.mode mode.Resting inside.program inside.state inside.pending.members which c.self.invariant.0 in
    called_seen inside.program inside.state c.invoke.new.self inside.pending.members kept.0 c.args.func c.args.args.now c.invoke.ensures
    ∙ ap (λ (v : View). invoked_config c.args.func (slice_get (program_at v).functions c.args.func) c.args.args.now (config_at v)) c.self.view_is

pub returns-clause-program : goal.returns-clause-program
returns-clause-program c =
    let inside = c.self.inside in
    let which : inside.mode ≡ mode.Resting = ap (λ (v : View). v.mode) c.self.view_is ∙ c.requires.resting in
    let kept = in_mode inside.mode mode.Resting inside.program inside.state inside.pending.members which c.self.invariant.0 in
    called_program inside.program inside.state c.invoke.new.self inside.pending.members kept.0 c.args.func c.args.args.now c.invoke.ensures
    ∙ ap program_at c.self.view_is
