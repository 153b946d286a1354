-- The plain configuration over modules: that of so many VMs, each of which has the path of its module.
use Rattle.std.specs.Prelude.{◌≡◌, ℕ, zero, suc, ◌+◌, List, [], ◌∷◌, length, codes, Option}
use Rattle.gate_base.specs.declared.level.Level.TheVariants.{Info}
use Rattle.gate_config.specs.declared.entries.VmEntry.{VmEntry}
use Rattle.gate_io.specs.Told.{GainsFront}
use Rattle.gate_config.specs.Given.{Given}
use Rattle.gate_config.specs.Plain.{first_n, plain_plugin, plain_routes, plain_vm}
use Rattle.config_files.specs.Loading.{Told, HoldsAll, IsBadIn, NoneBehind, StopsIn}
use Rattle.config_files.specs.declared.reading.LoadEnd.{LoadEnd}

-- the VM of a number, whose module this path has
abbrev pub vm_over : ℕ → List ℕ → VmEntry
vm_over k path = record (plain_vm k) { «module» = path }

-- a VM for each path, whose numbers go on from one
abbrev pub vms_over : ℕ → List (List ℕ) → List VmEntry
vms_over k [] = []
vms_over k (path ∷ paths) = vm_over k path ∷ vms_over (k + 1) paths

-- the same VM without the path of its module
abbrev pub without_module : VmEntry → VmEntry
without_module vm = record vm { «module» = [] }

-- one worker, log level info, no deadline; for each path a VM and a plug-in of the same name, closed on failure; and the routes `/` and
-- `/{*rest}`, each through all plug-ins in order
abbrev pub plain_over : List (List ℕ) → Given
plain_over paths = record {
  workers = 1;
  listen = codes "127.0.0.1:8080";
  upstream = codes "127.0.0.1:9000";
  deadline_ms = 0;
  log_level = Info;
  vms = vms_over 0 paths;
  plugins = first_n plain_plugin (length paths);
  routes = plain_routes (length paths);
  tcp = [];
}

-- THE PLAIN CONFIGURATION over the modules of these paths, none of which is held yet
abbrev pub IsPlainOf : List (List ℕ) → Given → Type 0
IsPlainOf paths config = config ≡ plain_over paths

-- the same, and each VM holds the module of its path
abbrev pub IsPlainLoaded : Told → List (List ℕ) → Given → Type 0
IsPlainLoaded files paths config = HoldsAll files (plain_over paths) config

-- why it was not loaded: the first bad module in the order of the paths
abbrev pub IsNoPlain : Told → List (List ℕ) → LoadEnd → Type 0
IsNoPlain files paths end = IsBadIn files (vms_over 0 paths) end

-- THE FILES THAT ARE READ, on every end: those of a front of these paths, each once and in their order, and none after a refusal
pub record ReadsPlain (files : Told) (paths : List (List ℕ)) (old new : Option (List (List ℕ))) : Type 0 where
  pub gained : GainsFront old paths new
  pub none_behind : NoneBehind files (vms_over 0 paths) gained.front

-- where reading stops at a refusal: after the refused file nothing was read
abbrev pub StopsPlain : Told → List (List ℕ) → LoadEnd → (old new : Option (List (List ℕ))) → Type 0
StopsPlain files paths end old new = StopsIn files (vms_over 0 paths) end old new

-- ---- a step on the way

-- the VM of this place has this path, and the others are as before
abbrev pub naming : ℕ → List ℕ → List VmEntry → List VmEntry
naming n path [] = []
naming zero path (vm ∷ vms) = record vm { «module» = path } ∷ vms
naming (suc n) path (vm ∷ vms) = vm ∷ naming n path vms

abbrev pub with_module : ℕ → List ℕ → Given → Given
with_module n path g = record g { vms = naming n path g.vms }
