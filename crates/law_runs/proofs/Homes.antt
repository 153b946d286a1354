-- At home over a worker's whole life.
use Rattle.std.proofs.Common.{◌≡◌, ℕ, suc, ◌+◌, false, List, [], ◌∷◌, length, Option, None, Some, is_some, refl, ap, ◌∙◌, sym, subst, arith}
use Rattle.std.proofs.lemmas.Bool.{false≢true}
use Rattle.std.proofs.lemmas.List.{length-append}
use Rattle.contexts.specs.Making.{no_contexts, with_vm, with_plugin}
use Rattle.contexts.specs.declared.parts.Contexts.{Contexts}
use Rattle.filter_host.proofs.Holds.{all_reached}
use Rattle.filter_host.specs.declared.host.Callback.{Callback}
use Rattle.gate_config.specs.declared.config.Config.{Config}
use Rattle.gate_config.specs.declared.entries.PluginEntry.{PluginEntry}
use Rattle.gate_config.specs.declared.entries.VmEntry.{VmEntry}
use Rattle.vm_machines.specs.Making.{slots_from}
use Rattle.vm_host.specs.Slots.{slot_in, calling}
use Rattle.vm_host.specs.Vms.{VmAt}
use Rattle.vm_host.specs.declared.slots.Vms.{Vms}
use Rattle.law_vms.specs.Apart.{CallbacksAreApart}
use Rattle.law_vms.specs.Lives.{Lives, no_turn, one_turn, Goes, no_step, one_step, next_turn, LivesKeepPlaces}
use Rattle.law_vms.specs.MadeVms.{MadeVmsAreInPlace}
use Rattle.law_vms.specs.OwnChanges.{IsPlaced, ArePlaced, CallbacksChangeTheirOwn, PlacesStay}
use Rattle.law_vms.specs.Silent.{AreTied}
use Rattle.worker_model.specs.Making.{with_vms, with_plugins, contexts_of}
use Rattle.worker_model.specs.Plan.{Plan}
use Rattle.worker_model.specs.Rooms.{is_dead, next_of}
use Rattle.worker_model.specs.Steps.{Both, both, step}
use Rattle.worker_model.specs.Turn.{Outcome, without_sent, room_for_event, turn}
use Rattle.law_runs.specs.Homes.{made_worker, IsHome, BeginsAtHome, StaysAtHome, HasMachine, LiveVmsKeepMachines, IsRun, RunsOverLives}
use Rattle.law_runs.specs.Runs.{IsLive, HasFunction}
use Rattle.law_runs.proofs.Runs.{runs_what_is_asked}
use Rattle.law_runs.proofs.Steps.{as_heard, Gone, Fine, FineBoth, step_fine, turn_fine}

-- ---- as it is made

as_many_slots : (place : ℕ) (entries : List VmEntry) → length (slots_from place entries) ≡ length entries
as_many_slots place [] = refl
as_many_slots place (e ∷ entries) = ap suc (as_many_slots (place + 1) entries)

as_many_vms : (h : Contexts) (entries : List VmEntry) → length (with_vms h entries).vms ≡ length h.vms + length entries
as_many_vms h [] = omega arith
as_many_vms h (e ∷ entries) =
    let one : length (with_vm e.name e.configuration h).vms ≡ length h.vms + 1 = length-append h.vms _ in
    let rest : length (with_vms (with_vm e.name e.configuration h) entries).vms ≡ length (with_vm e.name e.configuration h).vms + length entries = as_many_vms (with_vm e.name e.configuration h) entries in
    rest ∙ (let sum : length (with_vm e.name e.configuration h).vms + length entries ≡ length h.vms + suc (length entries) = omega (arith, one) in sum)

plugins_leave : (h : Contexts) (plugins : List PluginEntry) → (with_plugins h plugins).vms ≡ h.vms
plugins_leave h [] = refl
plugins_leave h (p ∷ plugins) = plugins_leave (with_plugin p.vm p.name p.configuration h) plugins

made_contexts : (config : Config) (seed : List ℕ) → length (contexts_of config seed).vms ≡ length (slots_from 0 config.vms)
made_contexts config seed =
    let none : 0 + length config.vms ≡ length config.vms = omega arith in
    ap length (plugins_leave (with_vms (no_contexts config.log_level seed) config.vms) config.plugins)
    ∙ (as_many_vms (no_contexts config.log_level seed) config.vms ∙ (none ∙ sym (as_many_slots 0 config.vms)))

pub begins_at_home : MadeVmsAreInPlace → BeginsAtHome
begins_at_home in_place config who seed = record { placed = in_place.placed config.vms; contexts = made_contexts config seed }

-- ---- step by step, and turn by turn

module _ (apart : CallbacksAreApart) (change : CallbacksChangeTheirOwn) (stay : PlacesStay) (m : ℕ) (Had : ℕ → Type 0) where
  goes_fine : (plan : Plan) (b e : Both Vms) → Goes plan b e → Fine m Had b.host b.room → Fine m Had e.host e.room
  goes_fine plan _ _ (no_step b) is = is
  goes_fine plan _ _ (one_step b mid e ms reaches later) is =
      goes_fine plan mid e later
      (all_reached (FineBoth apart change stay m Had) ms (step calling plan (next_of b.room) b.host b.room) mid
      (as_heard (FineBoth apart change stay m Had) (step calling plan (next_of b.room) b.host b.room) (step_fine apart change stay m Had plan (next_of b.room) b.host b.room is)) reaches)
  goes_fine plan _ _ (next_turn b e event later) is = goes_fine plan (both b.host (room_for_event plan event (without_sent b.room))) e later is

  lives_fine : (plan : Plan) (b e : Both Vms) → Lives plan b e → Fine m Had b.host b.room → Fine m Had e.host e.room
  lives_fine plan _ _ (no_turn b) is = is
  lives_fine plan _ _ (one_turn b e event ms out reaches later) is =
      lives_fine plan out.state e later
      (all_reached (λ (o : Outcome Vms). FineBoth apart change stay m Had o.state) ms (turn calling plan b event) out
      (as_heard (λ (o : Outcome Vms). FineBoth apart change stay m Had o.state) (turn calling plan b event) (turn_fine apart change stay m Had plan b event is)) reaches)

-- ---- what follows

abbrev pub Nobody : ℕ → Type 0
Nobody vm = ⊥

pub fine_of : (Had : ℕ → Type 0) (b : Both Vms) → IsHome b → ((vm : ℕ) → Gone Had b.host vm → ⊥) → Fine (length b.host.slots) Had b.host b.room
fine_of Had b home none = ((home.contexts, λ vm gone. absurd (none vm gone)), refl, home.placed)

home_of : (m : ℕ) (Had : ℕ → Type 0) (e : Both Vms) → Fine m Had e.host e.room → IsHome e
home_of m Had e is = record { placed = is.2; contexts = is.0.0 ∙ sym is.1 }

-- those that had their machine
abbrev Had : Vms → ℕ → Type 0
Had v vm = HasMachine v vm

none_gone : (v : Vms) (vm : ℕ) → Gone (Had v) v vm → ⊥
none_gone v vm gone = false≢true (sym (ap (λ (o : Option VmAt). is_some o) gone.0) ∙ gone.1)

live_by : (o : Option VmAt) (e : Vms) (vm : ℕ) → (slot_in e vm).live ≡ o → ArePlaced e → ((slot_in e vm).live ≡ None → ⊥) → (live : VmAt) × IsLive e vm live
live_by None e vm is placed some = absurd (some is)
live_by (Some live) e vm is placed some = (live, record { stands = is; place = subst (IsPlaced vm) is (placed vm) })

live_of : (m : ℕ) (v : Vms) (e : Both Vms) (vm : ℕ) → Fine m (Had v) e.host e.room → HasMachine v vm → is_dead vm e.room ≡ false → (live : VmAt) × IsLive e.host vm live
live_of m v e vm is had alive = live_by (slot_in e.host vm).live e.host vm refl is.2 (λ none. false≢true (sym alive ∙ is.0.1 vm (none, had)))

run_by : (e : Both Vms) (vm : ℕ) (name : Callback) (context first second now : ℕ) (h : Contexts) → IsHome e → AreTied e.host → length h.vms ≡ length e.room.hub.contexts.vms
    → (l : (live : VmAt) × IsLive e.host vm live) → IsRun e vm name context first second now h
run_by e vm name context first second now h home tied same l = record {
  live = l.0;
  is = l.1;
  whole = runs_what_is_asked.whole e.host vm l.0 name context first second now h l.1 (same ∙ home.contexts);
  function = λ exports.
      (let f : HasFunction l.0 name = runs_what_is_asked.exported e.host vm l.0 name l.1 tied exports in
      (f, runs_what_is_asked.function e.host vm l.0 name context first second now h l.1 (same ∙ home.contexts) f));
}

module _ (apart : CallbacksAreApart) (change : CallbacksChangeTheirOwn) (stay : PlacesStay) where
  step_home : (Who : ℕ → Type 0) (plan : Plan) (b e : Both Vms) → Goes plan b e → IsHome b → ((vm : ℕ) → Gone Who b.host vm → ⊥) → Fine (length b.host.slots) Who e.host e.room
  step_home Who plan b e goes home none = goes_fine apart change stay (length b.host.slots) Who plan b e goes (fine_of Who b home none)

  turn_home : (Who : ℕ → Type 0) (plan : Plan) (b e : Both Vms) → Lives plan b e → IsHome b → ((vm : ℕ) → Gone Who b.host vm → ⊥) → Fine (length b.host.slots) Who e.host e.room
  turn_home Who plan b e life home none = lives_fine apart change stay (length b.host.slots) Who plan b e life (fine_of Who b home none)

  pub stays_at_home : StaysAtHome
  stays_at_home = record {
    steps = λ plan b e goes home. home_of (length b.host.slots) Nobody e (step_home Nobody plan b e goes home (λ vm gone. gone.1));
    turns = λ plan b e life home. home_of (length b.host.slots) Nobody e (turn_home Nobody plan b e life home (λ vm gone. gone.1));
  }

  pub live_keep_machines : LiveVmsKeepMachines
  live_keep_machines = record {
    steps = λ plan b e vm goes home had alive. live_of (length b.host.slots) b.host e vm (step_home (Had b.host) plan b e goes home (none_gone b.host)) had alive;
    turns = λ plan b e vm life home had alive. live_of (length b.host.slots) b.host e vm (turn_home (Had b.host) plan b e life home (none_gone b.host)) had alive;
  }

  pub run_over_lives : MadeVmsAreInPlace → LivesKeepPlaces → RunsOverLives
  run_over_lives in_place lives = record {
    steps = λ config who seed plan e vm name context first second now h goes had alive same.
        run_by e vm name context first second now h (stays_at_home.steps plan (made_worker config who seed) e goes (begins_at_home in_place config who seed))
        ((lives.goes plan (made_worker config who seed) e goes).tied config.vms refl) same
        (live_keep_machines.steps plan (made_worker config who seed) e vm goes (begins_at_home in_place config who seed) had alive);
    turns = λ config who seed plan e vm name context first second now h life had alive same.
        run_by e vm name context first second now h (stays_at_home.turns plan (made_worker config who seed) e life (begins_at_home in_place config who seed))
        ((lives.begins plan (made_worker config who seed) e life).tied config.vms refl) same
        (live_keep_machines.turns plan (made_worker config who seed) e vm life (begins_at_home in_place config who seed) had alive);
  }
