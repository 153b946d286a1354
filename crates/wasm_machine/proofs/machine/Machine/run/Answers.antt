use Rattle.std.proofs.Common.{◌≡◌, ◌∙◌, sym, ap, subst, arith}
use Rattle.wasm_machine.proofs.Machined.{fits_few, with_calls, in_mode, can_run, runs}
use Rattle.wasm_machine.specs.declared.machine.Mode.TheVariants as mode
use Rattle.wasm_machine.specs.Machines.{View, program_at, mode_after, pending_after, Tells}
use Rattle.wasm_machine.proofs.machine.Machine.run.Goals as goal

pub run-stop-requires : goal.run-stop-requires
run-stop-requires c =
    let inside = c.self.inside in
    let which : inside.mode ≡ mode.Running = ap (λ (v : View). v.mode) c.self.view_is ∙ c.requires.running in
    let kept = in_mode inside.mode mode.Running inside.program inside.state inside.pending.members which c.self.invariant.0 in
    can_run inside.program inside.state inside.pending.members kept.0 kept.1

pub settle-mode-requires : goal.settle-mode-requires
settle-mode-requires c =
    let inside = c.self.inside in
    let which : inside.mode ≡ mode.Running = ap (λ (v : View). v.mode) c.self.view_is ∙ c.requires.running in
    let kept = in_mode inside.mode mode.Running inside.program inside.state inside.pending.members which c.self.invariant.0 in
    let few = fits_few inside.program inside.state inside.pending.members kept.0 in
    omega (arith, few, c.self.invariant.1)

pub invariant_of-self : goal.invariant_of-self
invariant_of-self c =
    let inside = c.self.inside in
    let which : inside.mode ≡ mode.Running = ap (λ (v : View). v.mode) c.self.view_is ∙ c.requires.running in
    let kept = in_mode inside.mode mode.Running inside.program inside.state inside.pending.members which c.self.invariant.0 in
    let both = runs inside.program inside.state c.run-stop.new.state inside.pending.members kept.0 kept.1 c.run-stop.ensures.most c.run-stop.result c.args.fuel.now c.run-stop.new.fuel c.run-stop.ensures.run c.run-stop.ensures.rests in
    with_calls c.settle-mode.result inside.program c.run-stop.new.state (pending_after c.run-stop.result inside.pending.members) inside.pending c.settle-mode.new.pending c.settle-mode.ensures.pending c.self.invariant.1
    (in_mode (mode_after c.run-stop.result) c.settle-mode.result inside.program c.run-stop.new.state (pending_after c.run-stop.result inside.pending.members) (sym c.settle-mode.ensures.mode) both.0)

pub returns-clause-tells : goal.returns-clause-tells
returns-clause-tells c =
    let inside = c.self.inside in
    let which : inside.mode ≡ mode.Running = ap (λ (v : View). v.mode) c.self.view_is ∙ c.requires.running in
    let kept = in_mode inside.mode mode.Running inside.program inside.state inside.pending.members which c.self.invariant.0 in
    let both = runs inside.program inside.state c.run-stop.new.state inside.pending.members kept.0 kept.1 c.run-stop.ensures.most c.run-stop.result c.args.fuel.now c.run-stop.new.fuel c.run-stop.ensures.run c.run-stop.ensures.rests in
    subst (λ (v : View). Tells (program_at v) v.pending c.run-stop.result) c.self.view_is both.1
