use Rattle.std.proofs.Common.{ℕ, List, map, Some, ◌∙◌, subst}
use Rattle.wasm_syntax.specs.declared.types.Value.TheVariants.{I32}
use Rattle.store_model.specs.Program.{Program, done, Runs}
use Rattle.store_model.specs.Runs.{runs_none}
use Rattle.contexts.specs.Reached.{seen}
use Rattle.abi_model.specs.Table.{wasi_row_of}
use Rattle.abi_calls.specs.Hosting.{wasi_hosting}
use Rattle.abi_links.specs.Numbers.{number_of}
use Rattle.vm_host.specs.HostStates.{host_state}
use Rattle.vm_host.specs.Calling.{called, call_trapped, call_spent}
use Rattle.vm_host.specs.Dispatching.{serve_calls}
use Rattle.vm_host.proofs.Dispatched.{served_status, served_trapped, served_spent, served_cut, as_many, are_arguments}
use Rattle.vm_host.proofs.dispatch.wasi.Goals as goal

pub wasi_call-requires-clause-args : goal.wasi_call-requires-clause-args
wasi_call-requires-clause-args g c = are_arguments (wasi_row_of c.args.call) c.args.args.now c.as_slice.result.now (c.as_slice.ensures ∙ c.in-Ok.ensures.numbers) c.requires.typed c.in-Ok.ensures.within

pub returns-in-Status-clause-ends : goal.returns-in-Status-clause-ends
returns-in-Status-clause-ends g c =
    let h = c.args.contexts.now in
    let p = λ (ns : List ℕ). wasi_hosting c.args.call c.args.now c.args.place ns (g.G.Guest.at c.args.guest.now) (seen h c.args.place) in
    subst (λ (ns : List ℕ). Runs g.S.Shared.performs c.args.shared.now (serve_calls c.args.place (host_state h c.args.lines.now) (p ns)) (done (called (Some (I32 c.in-Status.status)) (g.G.Guest.at c.wasi_call.new.guest) (host_state c.wasi_call.new.contexts c.wasi_call.new.logs))) c.wasi_call.new.shared) (c.as_slice.ensures ∙ c.in-Ok.ensures.numbers)
    (served_status g.S.Shared.performs c.args.place h c.args.lines.now (p c.as_slice.result.now) c.args.shared.now c.wasi_call.new.shared (g.G.Guest.at c.wasi_call.new.guest) c.wasi_call.new.contexts c.wasi_call.new.logs c.in-Status.status c.in-Status.ensures.ends)

pub returns-in-Trapped-clause-ends : goal.returns-in-Trapped-clause-ends
returns-in-Trapped-clause-ends g c =
    let h = c.args.contexts.now in
    let p = λ (ns : List ℕ). wasi_hosting c.args.call c.args.now c.args.place ns (g.G.Guest.at c.args.guest.now) (seen h c.args.place) in
    subst (λ (ns : List ℕ). Runs g.S.Shared.performs c.args.shared.now (serve_calls c.args.place (host_state h c.args.lines.now) (p ns)) (done (call_trapped c.in-Trapped.cause (g.G.Guest.at c.wasi_call.new.guest).fuel (host_state c.wasi_call.new.contexts c.wasi_call.new.logs))) c.wasi_call.new.shared) (c.as_slice.ensures ∙ c.in-Ok.ensures.numbers)
    (served_trapped g.S.Shared.performs c.args.place h c.args.lines.now (p c.as_slice.result.now) c.args.shared.now c.wasi_call.new.shared (g.G.Guest.at c.wasi_call.new.guest) c.wasi_call.new.contexts c.wasi_call.new.logs c.in-Trapped.cause c.in-Trapped.ensures.ends)

pub returns-in-FuelSpent-clause-ends : goal.returns-in-FuelSpent-clause-ends
returns-in-FuelSpent-clause-ends g c =
    let h = c.args.contexts.now in
    let p = λ (ns : List ℕ). wasi_hosting c.args.call c.args.now c.args.place ns (g.G.Guest.at c.args.guest.now) (seen h c.args.place) in
    subst (λ (ns : List ℕ). Runs g.S.Shared.performs c.args.shared.now (serve_calls c.args.place (host_state h c.args.lines.now) (p ns)) (done (call_spent (g.G.Guest.at c.wasi_call.new.guest).fuel (host_state c.wasi_call.new.contexts c.wasi_call.new.logs))) c.wasi_call.new.shared) (c.as_slice.ensures ∙ c.in-Ok.ensures.numbers)
    (served_spent g.S.Shared.performs c.args.place h c.args.lines.now (p c.as_slice.result.now) c.args.shared.now c.wasi_call.new.shared (g.G.Guest.at c.wasi_call.new.guest) c.wasi_call.new.contexts c.wasi_call.new.logs c.in-FuelSpent.ensures.ends)

pub returns-clause-ends : goal.returns-clause-ends
returns-clause-ends g c =
    let h = c.args.contexts.now in
    let p = λ (ns : List ℕ). wasi_hosting c.args.call c.args.now c.args.place ns (g.G.Guest.at c.args.guest.now) (seen h c.args.place) in
    subst (λ (ns : List ℕ). (q : Program _) × Runs g.S.Shared.performs c.args.shared.now (serve_calls c.args.place (host_state h c.args.lines.now) (p ns)) q c.wasi_call.new.shared) (c.as_slice.ensures ∙ c.in-Ok.ensures.numbers)
    (served_cut g.S.Shared.performs c.args.place h c.args.lines.now (p c.as_slice.result.now) c.args.shared.now c.wasi_call.new.shared (g.G.Guest.at c.wasi_call.new.guest) c.wasi_call.new.contexts c.wasi_call.new.logs c.in-OutOfMemory.ensures.ends)

pub returns-in-Status-clause-vms : goal.returns-in-Status-clause-vms
returns-in-Status-clause-vms g c = as_many c.in-Status.ensures.ends.hosted.changes c.args.place c.args.contexts.now c.wasi_call.new.contexts c.in-Status.ensures.ends.contexts

pub returns-in_default-clause-ends : goal.returns-in_default-clause-ends
returns-in_default-clause-ends g c =
    let p = serve_calls c.args.place (host_state c.args.contexts.now c.args.lines.now) (wasi_hosting c.args.call c.args.now c.args.place (map number_of c.args.args.now) (g.G.Guest.at c.args.guest.now) (seen c.args.contexts.now c.args.place)) in
    (p, runs_none g.S.Shared.performs g.met.S.Shared.nothing c.args.shared.now p)
