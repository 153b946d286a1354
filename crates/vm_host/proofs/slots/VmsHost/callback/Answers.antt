use Rattle.std.proofs.Common.{◌≡◌, ◌<◌, ℕ, List, false, length, Option, sym, ap, ◌∙◌, subst, arith}
use Rattle.std.specs.Prelude.{slice_index_or, slice_set}
use Rattle.std.proofs.lemmas.Bool.{lt-ltb, le-ltb}
use Rattle.filter_host.specs.Called.{called_back}
use Rattle.store_model.specs.Program.{Program, done, Runs}
use Rattle.store_model.specs.Runs.{runs_as}
use Rattle.vm_host.specs.declared.slots.Slot.{Slot}
use Rattle.vm_host.specs.declared.slots.Vms.{Vms}
use Rattle.vm_host.specs.Vms.{VmAt}
use Rattle.vm_host.specs.Slots.{role_of, no_slot, slot_in, Came, came, has_work, calling_slot}
use Rattle.vm_host.proofs.Calling.{slot_part, slot_cut, absent_part, idle_part, put_again}
use Rattle.vm_host.proofs.slots.VmsHost.callback.Goals as goal
use Rattle.vm_host.proofs.slots.VmsHost.callback.Given as given
use Rattle.vm_host.proofs.slots.VmsHost.callback.Goals.{After-call_slot}

pub returns-then-at-most-clause-run : goal.returns-then-at-most-clause-run
returns-then-at-most-clause-run g c =
    absent_part g.S.Shared.performs g.met.S.Shared.nothing c.args.name c.args.context c.args.first c.args.second c.args.now c.args.contexts.now c.args.shared.now c.silence.result.end c.silence.result.lines c.silence.ensures.end c.silence.ensures.lines c.args.self.now c.args.vm
    (le-ltb c.args.vm (length c.args.self.now.slots) (omega arith))

pub returns-then-not-is_called-clause-run : goal.returns-then-not-is_called-clause-run
returns-then-not-is_called-clause-run g c =
    let v = c.args.self.now in
    let vm = c.args.vm in
    let q = c.silence-then-not-is_called in
    let inside : vm < length v.slots = omega arith in
    let none : has_work (slot_in v vm).live (role_of c.args.name) ≡ false =
    ap (λ (k : ℕ). has_work (slice_index_or v.slots k no_slot).live (role_of c.args.name)) (sym c.get-at.ensures.number)
    ∙ ap (λ (xs : List Slot). has_work (slice_index_or xs c.get-at.result no_slot).live (role_of c.args.name)) (sym c.as_slice.ensures)
    ∙ sym c.is_called.ensures
    ∙ c.if-not-is_called.true in
    idle_part g.S.Shared.performs g.met.S.Shared.nothing c.args.name c.args.context c.args.first c.args.second c.args.now c.args.contexts.now c.args.shared.now q.result.end q.result.lines q.ensures.end q.ensures.lines v vm
    (lt-ltb vm (length v.slots) inside) none

-- the machine that was taken is the one of its place
taken : (g : given.Over) (c : After-call_slot g) → (slot_in c.args.self.now c.args.vm).live ≡ c.taken-live.result
taken g c = ap (λ (k : ℕ). (slice_index_or c.args.self.now.slots k no_slot).live) (sym c.get-at.ensures.number) ∙ sym c.taken-live.ensures.live

there : (g : given.Over) (c : After-call_slot g) → c.args.vm < length c.args.self.now.slots
there g c = omega arith

pub returns-in-Ok-clause-run : goal.returns-in-Ok-clause-run
returns-in-Ok-clause-run g c =
    let v = c.args.self.now in
    let h = c.args.contexts.now in
    let o = c.in-Ok.outcome in
    let vm = c.args.vm in
    let end = came o.answer.end o.answer.lines o.vm c.call_slot.new.contexts in
    let inside : vm < length v.slots = there g (goal.at.returns-in-Ok-clause-run g c).After-call_slot in
    let run = subst (λ (live : Option VmAt). Runs g.S.Shared.performs c.args.shared.now (calling_slot (length v.slots) live c.args.name c.args.context c.args.first c.args.second c.args.now h) (done end) c.call_slot.new.shared) (sym (taken g (goal.at.returns-in-Ok-clause-run g c).After-call_slot))
    (subst (λ (most : ℕ). Runs g.S.Shared.performs c.args.shared.now (calling_slot most c.taken-live.result c.args.name c.args.context c.args.first c.args.second c.args.now h) (done end) c.call_slot.new.shared) c.len-most.ensures c.in-Ok.ensures.run) in
    let at : c.get-at.result ≡ vm = c.get-at.ensures.number in
    let put : c.put_back.new.slots ≡ slice_set v.slots vm (record (slice_index_or v.slots vm no_slot) { live = o.vm }) =
    subst (λ (k : ℕ). c.put_back.new.slots ≡ slice_set v.slots k (record (slice_index_or v.slots k no_slot) { live = o.vm })) at
    (c.put_back.ensures ∙ put_again v.slots c.taken-live.new.slots c.get-at.result o.vm (omega (arith, inside, at)) c.taken-live.ensures.slots) in
    runs_as (slot_part g.S.Shared.performs c.args.name c.args.context c.args.first c.args.second c.args.now h c.args.shared.now c.call_slot.new.shared v vm (lt-ltb vm (length v.slots) inside) end run)
    (λ i. done (called_back {H = Vms} o.answer.end o.answer.lines (record { slots = sym put i }) c.call_slot.new.contexts))

pub returns-in-Err-clause-run : goal.returns-in-Err-clause-run
returns-in-Err-clause-run g c =
    let v = c.args.self.now in
    let h = c.args.contexts.now in
    let vm = c.args.vm in
    let inside : vm < length v.slots = there g (goal.at.returns-in-Err-clause-run g c).After-call_slot in
    slot_cut g.S.Shared.performs c.args.name c.args.context c.args.first c.args.second c.args.now h c.args.shared.now c.call_slot.new.shared v vm (lt-ltb vm (length v.slots) inside)
    (subst (λ (live : Option VmAt). (q : Program Came) × Runs g.S.Shared.performs c.args.shared.now (calling_slot (length v.slots) live c.args.name c.args.context c.args.first c.args.second c.args.now h) q c.call_slot.new.shared) (sym (taken g (goal.at.returns-in-Err-clause-run g c).After-call_slot))
    (subst (λ (most : ℕ). (q : Program Came) × Runs g.S.Shared.performs c.args.shared.now (calling_slot most c.taken-live.result c.args.name c.args.context c.args.first c.args.second c.args.now h) q c.call_slot.new.shared) c.len-most.ensures c.in-Err.ensures.run))
