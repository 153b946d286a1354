use Rattle.std.proofs.Common.{◌≡◌, ℕ, List, Option, Some, true, sym, ap, ◌∙◌, subst}
use Rattle.std.specs.Prelude.{slice_get}
use Rattle.wasm_syntax.specs.declared.types.ValueType.{ValueType}
use Rattle.wasm_syntax.specs.declared.types.FunctionType.{FunctionType}
use Rattle.wasm_syntax.specs.Typing.{Is}
use Rattle.wasm_syntax.specs.Reduction.{imported, Program as Code}
use Rattle.wasm_machine.specs.Machines.{results_in}
use Rattle.wasm_flat.proofs.Splits.{same_some}
use Rattle.abi_links.specs.declared.target.ImportTarget.{ImportTarget}
use Rattle.abi_links.specs.Judging.{fits_target}
use Rattle.vm_host.specs.HostStates.{host_state}
use Rattle.vm_host.specs.Targets.{AreTargets}
use Rattle.vm_host.specs.Calling.{CallEnds, AnswerFits}
use Rattle.vm_host.specs.Dispatching.{by_found, dispatching, TakesAs}
use Rattle.vm_host.proofs.Linked.{target_takes, target_gives}
use Rattle.vm_host.proofs.dispatch.DispatcherCalls.call.Goals as goal

-- the target of an import is of its type
is_of : (targets : List ImportTarget) (p : Code) → AreTargets targets p → (x : ℕ) (t : FunctionType) → Is p.functions x (imported t) → (k : ImportTarget) → slice_get targets x ≡ Some k → fits_target k t ≡ true
is_of targets p are x t asked k is =
    let h = are x t asked in
    subst (λ (j : ImportTarget). fits_target j t ≡ true) (same_some h.0 k (sym h.1 ∙ is)) h.2

pub serve-requires-clause-typed : goal.serve-requires-clause-typed
serve-requires-clause-typed g c =
    let p = (g.G.Guest.at c.args.guest.now).program in
    let a = c.requires.asked in
    subst (λ (ts : List ValueType). TakesAs c.target-target.result ts) (sym a.2)
    (target_takes c.target-target.result a.0 (is_of c.args.self.now.targets p c.requires.links c.args.import a.0 a.1 c.target-target.result c.target-target.ensures))

pub returns-clause-ends : goal.returns-clause-ends
unfolding dispatching
returns-clause-ends g c =
    let s = host_state c.args.contexts.now c.args.lines.now in
    let at = g.G.Guest.at c.args.guest.now in
    let d = c.args.self.now in
    subst (λ (o : Option ImportTarget). CallEnds g.S.Shared.performs c.args.shared.now (by_found o d.place c.args.now s c.args.args.now at) c.serve.result (g.G.Guest.at c.serve.new.guest) (host_state c.serve.new.contexts c.serve.new.lines) c.serve.new.shared) (sym c.target-target.ensures)
    c.serve.ensures.ends

pub returns-clause-fits : goal.returns-clause-fits
returns-clause-fits g c =
    let p = (g.G.Guest.at c.args.guest.now).program in
    let a = c.requires.asked in
    let of = is_of c.args.self.now.targets p c.requires.links c.args.import a.0 a.1 c.target-target.result c.target-target.ensures in
    subst (λ (ts : List ValueType). AnswerFits c.serve.result ts) (sym (ap results_in a.1 ∙ target_gives c.target-target.result a.0 of)) c.serve.ensures.fits
