-- A configuration one of whose VMs holds a module keeps what it kept.
use Rattle.std.proofs.Common.{◌≡◌, ℕ, zero, suc, ◌<◌, List, [], ◌∷◌, length, get_or, set, All, Some, refl, ap, sym, subst, arith}
use Rattle.wasm_syntax.specs.declared.module.Module.{Module}
use Rattle.gate_config.specs.declared.entries.VmEntry.{VmEntry}
use Rattle.gate_config.specs.declared.entries.PluginEntry.{PluginEntry}
use Rattle.gate_config.specs.declared.entries.RouteEntry.{RouteEntry}
use Rattle.gate_config.specs.Given.{holding}
use Rattle.gate_config.specs.Kept.{IsKept, IsVm, IsPlugin}

pub held_is : (n : ℕ) (m : Module) (vms : List VmEntry) (x : VmEntry) → n < length vms → x ≡ get_or vms n x → set vms n (record x { code = Some m }) ≡ holding n m vms
held_is n m [] x low e = absurd (omega arith)
held_is zero m (v ∷ vms) x low e = ap (λ (y : VmEntry). record y { code = Some m } ∷ vms) e
held_is (suc n) m (v ∷ vms) x low e = ap (λ (l : List VmEntry). v ∷ l) (held_is n m vms x (omega arith) e)

length-holding : (n : ℕ) (m : Module) (vms : List VmEntry) → length (holding n m vms) ≡ length vms
length-holding n m [] = refl
length-holding zero m (v ∷ vms) = refl
length-holding (suc n) m (v ∷ vms) = ap suc (length-holding n m vms)

held_vm : (n : ℕ) (m : Module) (vms : List VmEntry) → All IsVm vms → (k : ℕ) (d : VmEntry) → k < length (holding n m vms) → IsVm (get_or (holding n m vms) k d)
held_vm n m [] h k d low = absurd (omega arith)
held_vm zero m (v ∷ vms) h zero d low = let i : IsVm v = h 0 d (omega arith) in record { name = i.name; configuration = i.configuration; fuel = i.fuel; pages = i.pages }
held_vm zero m (v ∷ vms) h (suc k) d low = h (suc k) d (omega arith)
held_vm (suc n) m (v ∷ vms) h zero d low = h 0 d (omega arith)
held_vm (suc n) m (v ∷ vms) h (suc k) d low = held_vm n m vms (λ j e l. h (suc j) e (omega arith)) k d (omega arith)

held_name : (n : ℕ) (m : Module) (vms : List VmEntry) (k : ℕ) (d : VmEntry) → (get_or (holding n m vms) k d).name ≡ (get_or vms k d).name
held_name n m [] k d = refl
held_name zero m (v ∷ vms) zero d = refl
held_name zero m (v ∷ vms) (suc k) d = refl
held_name (suc n) m (v ∷ vms) zero d = refl
held_name (suc n) m (v ∷ vms) (suc k) d = held_name n m vms k d

pub kept_held : (workers : ℕ) (n : ℕ) (m : Module) (vms : List VmEntry) (plugins : List PluginEntry) (routes : List RouteEntry) → IsKept workers vms plugins routes → IsKept workers (holding n m vms) plugins routes
kept_held workers n m vms plugins routes k = record {
  worker_count = k.worker_count;
  vm_count = omega (arith, length-holding n m vms);
  plugin_count = k.plugin_count;
  route_count = k.route_count;
  all_vms = held_vm n m vms k.all_vms;
  all_plugins = subst (λ (j : ℕ). All (IsPlugin j) plugins) (sym (length-holding n m vms)) k.all_plugins;
  all_routes = k.all_routes;
  vm_names = λ i j d less low. rw (held_name n m vms i d, held_name n m vms j d) (k.vm_names i j d less (omega (arith, length-holding n m vms)));
  plugin_names = k.plugin_names;
  routes_fit = k.routes_fit;
}
