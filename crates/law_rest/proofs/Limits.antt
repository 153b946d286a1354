-- Rooms that keep the limits of a worker.
use Rattle.std.proofs.Common.{ℕ, zero, suc, ◌*◌, ◌^◌, ◌≤◌, List, [], ◌∷◌, length, arith}
use Rattle.std.specs.Prelude.{Option, None, Some}
use Rattle.contexts.specs.declared.parts.Contexts.{Contexts}
use Rattle.contexts.specs.Reached.{vm_in}
use Rattle.exchange.specs.declared.types.Exchange.{Exchange}
use Rattle.filter_chain.specs.declared.stage.Stage.{Stage}
use Rattle.worker_model.specs.declared.types.Line.{Line}
use Rattle.worker_model.specs.Turn.{vms_in}
use Rattle.law_rest.specs.Left.{AllFit, OpenFits}
use Rattle.law_rest.specs.Limits.{WaitFew, OpenKeeps, LinesKeep, LimitsAreSmall}
use Rattle.law_rest.specs.Sizes.{stages_size, open_size, lines_size, vms_size}
use Rattle.law_rest.proofs.Sizes.{few_vms}

stages_few : (stages : List Stage) → WaitFew stages → stages_size stages ≤ 1048580 * length stages
stages_few [] few = omega arith
stages_few (s ∷ stages) few = let e = stages_few stages few.1 in omega (arith, few.0)

open_few : (o : Option Exchange) → OpenFits 16 o → OpenKeeps o → open_size o ≤ 33636480
open_few None fits keeps = omega arith
open_few (Some x) fits keeps =
    let q = stages_few x.request keeps.request in
    let r = stages_few x.response keeps.response in
    omega (arith, fits.request, fits.response, keeps.unread)

lines_few : (lines : List Line) → AllFit 16 lines → LinesKeep lines → lines_size lines ≤ 33718399 * length lines
lines_few [] fit keeps = omega arith
lines_few (line ∷ lines) fit keeps =
    let o = open_few line.exchange fit.0 keeps.1 in
    let e = lines_few lines fit.1 keeps.2 in
    omega (arith, keeps.0)

vms_few : (n : ℕ) (h : Contexts) → ((vm : ℕ) → length (vm_in h vm).contexts ≤ 2 ^ 32) → vms_size n h ≤ 4294967297 * n
vms_few zero h keeps = omega arith
vms_few (suc n) h keeps = let e = vms_few n h keeps in omega (arith, keeps n)

pub limits_are_small : LimitsAreSmall
limits_are_small room fit keeps =
    let l = lines_few room.lines fit keeps.lines in
    let v = vms_few (vms_in room) room.hub.contexts keeps.contexts in
    let n = few_vms (length room.hub.contexts.vms) in
    omega (arith, keeps.count, keeps.waits, keeps.plugins, keeps.calls, keeps.unread)
