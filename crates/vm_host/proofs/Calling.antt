-- Callbacks of VMs in their places, as parts of what they do.
use Rattle.std.proofs.Common.{◌≡◌, ◌<◌, ℕ, zero, suc, Bool, true, false, List, [], ◌∷◌, length, Option, None, Some, refl, sym, ap, ◌∙◌, subst}
use Rattle.std.specs.Prelude.{slice_set, slice_index_or, nat_lt, if◌then◌else◌, is_some}
use Rattle.std.proofs.lemmas.List.{get_or-set_same, set-get_or}
use Rattle.gate_io.specs.declared.event.Sent.{Sent}
use Rattle.contexts.specs.declared.parts.Contexts.{Contexts}
use Rattle.filter_host.specs.Called.{Called, called_back}
use Rattle.filter_host.specs.declared.host.Callback.{Callback}
use Rattle.filter_host.specs.declared.host.CallbackEnd.{CallbackEnd}
use Rattle.filter_host.specs.declared.host.CallbackEnd.TheVariants as call_end
use Rattle.store_model.specs.Made.{Made}
use Rattle.store_model.specs.Program.{Program, done, bind, Runs}
use Rattle.store_model.specs.Runs.{runs_none, runs_as, runs_bind}
use Rattle.vm_host.specs.declared.roles.Role.{Role}
use Rattle.vm_host.specs.declared.slots.Slot.{Slot}
use Rattle.vm_host.specs.declared.slots.Vms.{Vms}
use Rattle.vm_host.specs.HostStates.{host_state}
use Rattle.vm_host.specs.RoleTypes.{function_for}
use Rattle.vm_host.specs.Vms.{VmAt, Ran, calling_if}
use Rattle.vm_host.specs.Slots.{role_of, no_slot, slot_in, Came, came, came_of, silent, by_role, calling_live, is_at_home, has_work, calling_slot, with_live, calling}

module _ {S : Type 0} (performs : S → List Made → S → Type 0) (name : Callback) (context first second now : ℕ) (h : Contexts) (s t : S) where
  -- it lives
  pub live_part : (v : VmAt) (r : Ran) → Runs performs s (by_role (role_of name) v now context first second (host_state h [])) (done r) t → Runs performs s (calling_live v name context first second now h) (done (came_of r)) t
  unfolding calling_live
  live_part v r run = runs_bind performs (λ x. done (came_of x)) run

  pub live_cut : (v : VmAt) → ((q : Program Ran) × Runs performs s (by_role (role_of name) v now context first second (host_state h [])) q t) → (q : Program Came) × Runs performs s (calling_live v name context first second now h) q t
  unfolding calling_live
  live_cut v (q, run) = (bind q (λ x. done (came_of x)), runs_bind performs (λ x. done (came_of x)) run)

  -- it is at home
  pub home_part : (most : ℕ) (v : VmAt) → is_at_home most v.calls.place h ≡ true → (q : Program Came) → Runs performs s (calling_live v name context first second now h) q t → Runs performs s (calling_slot most (Some v) name context first second now h) q t
  unfolding calling_slot
  home_part most v is q run = subst (λ (b : Bool). Runs performs s (if b then calling_live v name context first second now h else done (silent (Some v) h)) q t) (sym is) run

  -- a place is there
  pub slot_part : (v : Vms) (vm : ℕ) → nat_lt vm (length v.slots) ≡ true → (c : Came) → Runs performs s (calling_slot (length v.slots) (slot_in v vm).live name context first second now h) (done c) t →
      Runs performs s (calling v vm name context first second now h) (done (called_back c.end c.lines (with_live vm c.live v) c.contexts)) t
  unfolding calling
  slot_part v vm is c run =
      let after = λ (x : Came). done (called_back x.end x.lines (with_live vm x.live v) x.contexts) in
      subst (λ (b : Bool). Runs performs s (if b then bind (calling_slot (length v.slots) (slot_in v vm).live name context first second now h) after else done (called_back (call_end.Returned None) [] v h)) (after c) t) (sym is)
      (runs_bind performs after run)

  pub slot_cut : (v : Vms) (vm : ℕ) → nat_lt vm (length v.slots) ≡ true → ((q : Program Came) × Runs performs s (calling_slot (length v.slots) (slot_in v vm).live name context first second now h) q t) →
      (q : Program (Called Vms)) × Runs performs s (calling v vm name context first second now h) q t
  unfolding calling
  slot_cut v vm is (q, run) =
      let after = λ (x : Came). done (called_back x.end x.lines (with_live vm x.live v) x.contexts) in (
        bind q after,
        subst (λ (b : Bool). Runs performs s (if b then bind (calling_slot (length v.slots) (slot_in v vm).live name context first second now h) after else done (called_back (call_end.Returned None) [] v h)) (bind q after) t) (sym is)
            (runs_bind performs after run),
      )

module _ {S : Type 0} (performs : S → List Made → S → Type 0) (nothing : (s : S) → performs s [] s) (name : Callback) (context first second now : ℕ) (h : Contexts) (s : S) (end : CallbackEnd) (lines : List Sent) (returned : end ≡ call_end.Returned None) (silence : lines ≡ []) where
  quiet : (live : Option VmAt) → done (silent live h) ≡ done (came end lines live h)
  quiet live = λ i. done (came (sym returned i) (sym silence i) live h)

  -- no VM lives there
  pub none_part : (most : ℕ) → Runs performs s (calling_slot most None name context first second now h) (done (came end lines None h)) s
  unfolding calling_slot
  none_part most = runs_as (runs_none performs nothing s (done (silent None h))) (quiet None)

  -- it is not at home
  pub away_part : (most : ℕ) (v : VmAt) → is_at_home most v.calls.place h ≡ false → Runs performs s (calling_slot most (Some v) name context first second now h) (done (came end lines (Some v) h)) s
  unfolding calling_slot
  away_part most v is =
      subst (λ (b : Bool). Runs performs s (if b then calling_live v name context first second now h else done (silent (Some v) h)) (done (came end lines (Some v) h)) s) (sym is)
      (runs_as (runs_none performs nothing s (done (silent (Some v) h))) (quiet (Some v)))

  -- it has no function for the callback
  idle_if : (v : VmAt) (f : Option ℕ) (r : Role) → is_some f ≡ false → bind (calling_if v now f r context first second (host_state h [])) (λ x. done (came_of x)) ≡ done (silent (Some v) h)
  idle_if v None r is = refl
  idle_if v (Some f) r is = absurd (cc)

  idle_by : (v : VmAt) (o : Option Role) → has_work (Some v) o ≡ false → bind (by_role o v now context first second (host_state h [])) (λ x. done (came_of x)) ≡ done (silent (Some v) h)
  idle_by v None is = absurd (cc)
  idle_by v (Some r) is = idle_if v (function_for v.functions r) r is

  idle_live : (v : VmAt) → has_work (Some v) (role_of name) ≡ false → calling_live v name context first second now h ≡ done (silent (Some v) h)
  unfolding calling_live
  idle_live v is = idle_by v (role_of name) is

  one_way : (b : Bool) (p q : Program Came) → p ≡ q → (if b then p else q) ≡ q
  one_way true p q is = is
  one_way false p q is = refl

  idle_slot : (most : ℕ) (live : Option VmAt) → has_work live (role_of name) ≡ false → calling_slot most live name context first second now h ≡ done (silent live h)
  unfolding calling_slot
  idle_slot most None is = refl
  idle_slot most (Some v) is = one_way (is_at_home most v.calls.place h) (calling_live v name context first second now h) (done (silent (Some v) h)) (idle_live v is)

  -- what is put back is what stands there
  same_live : (x : Slot) → record x { live = x.live } ≡ x
  same_live x = refl

  as_it_was : (v : Vms) (vm : ℕ) → with_live vm (slot_in v vm).live v ≡ v
  as_it_was v vm = λ i. record { slots = (ap (λ (x : Slot). slice_set v.slots vm x) (same_live (slot_in v vm)) ∙ set-get_or v.slots vm no_slot) i }

  pub idle_part : (v : Vms) (vm : ℕ) → nat_lt vm (length v.slots) ≡ true → has_work (slot_in v vm).live (role_of name) ≡ false → Runs performs s (calling v vm name context first second now h) (done (called_back end lines v h)) s
  idle_part v vm inside none =
      let live = (slot_in v vm).live in
      let run = runs_as (runs_none performs nothing s (calling_slot (length v.slots) live name context first second now h)) (idle_slot (length v.slots) live none) in
      runs_as (slot_part performs name context first second now h s s v vm inside (silent live h) run)
      (λ i. done (called_back (sym returned i) (sym silence i) (as_it_was v vm i) h))

  -- there is no such place
  pub absent_part : (v : Vms) (vm : ℕ) → nat_lt vm (length v.slots) ≡ false → Runs performs s (calling v vm name context first second now h) (done (called_back end lines v h)) s
  unfolding calling
  absent_part v vm is =
      let after = λ (x : Came). done (called_back x.end x.lines (with_live vm x.live v) x.contexts) in
      subst (λ (b : Bool). Runs performs s (if b then bind (calling_slot (length v.slots) (slot_in v vm).live name context first second now h) after else done (called_back (call_end.Returned None) [] v h)) (done (called_back end lines v h)) s) (sym is)
      (runs_as (runs_none performs nothing s (done (called_back (call_end.Returned None) [] v h))) (λ i. done (called_back (sym returned i) (sym silence i) v h)))

-- ---- a machine is taken out of its place and put back

set_twice : {A : Type 0} (xs : List A) (k : ℕ) (a b : A) → slice_set (slice_set xs k a) k b ≡ slice_set xs k b
set_twice [] k a b = refl
set_twice (x ∷ xs) zero a b = refl
set_twice (x ∷ xs) (suc k) a b = ap (λ ys. x ∷ ys) (set_twice xs k a b)

pub put_again : (slots mid : List Slot) (at : ℕ) (live : Option VmAt) → at < length slots → mid ≡ slice_set slots at (record (slice_index_or slots at no_slot) { live = None }) →
    slice_set mid at (record (slice_index_or mid at no_slot) { live = live }) ≡ slice_set slots at (record (slice_index_or slots at no_slot) { live = live })
put_again slots mid at live there is =
    let taken : Slot = record (slice_index_or slots at no_slot) { live = None } in
    ap (λ (xs : List Slot). slice_set xs at (record (slice_index_or xs at no_slot) { live = live })) is
    ∙ ap (λ (x : Slot). slice_set (slice_set slots at taken) at (record x { live = live })) (get_or-set_same slots at taken no_slot there)
    ∙ set_twice slots at taken (record taken { live = live })
