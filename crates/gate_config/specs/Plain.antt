-- The plain configuration: so many VMs, a plug-in of the same name for each, and routes that take every path from `/` on
-- through all of them.
use Rattle.std.specs.Prelude.{◌≡◌, ℕ, zero, suc, ◌+◌, List, [], ◌∷◌, ◌++◌, false, None, if◌then◌else◌, nat_lt, codes}
use Rattle.gate_base.specs.declared.level.Level.TheVariants.{Info}
use Rattle.gate_config.specs.declared.config.Config.{Config}
use Rattle.gate_config.specs.declared.entries.VmEntry.{VmEntry}
use Rattle.gate_config.specs.declared.entries.PluginEntry.{PluginEntry}
use Rattle.gate_config.specs.declared.entries.RouteEntry.{RouteEntry}

-- `m1` is the name of the VM of number 0, and `m16` that of number 15
abbrev pub name_of : ℕ → List ℕ
name_of k = 109 ∷ (if nat_lt k 9 then (49 + k) ∷ [] else 49 ∷ (39 + k) ∷ [])

abbrev pub plain_vm : ℕ → VmEntry
plain_vm k = record { name = name_of k; «module» = []; configuration = []; fuel = 10000000; pages = 128; code = None }

abbrev pub plain_plugin : ℕ → PluginEntry
plain_plugin k = record { name = name_of k; vm = k; configuration = []; fail_open = false }

-- the first n of something
abbrev pub first_n : {A : Type 0} → (ℕ → A) → ℕ → List A
first_n of zero = []
first_n of (suc n) = first_n of n ++ of n ∷ []

-- the first n places
abbrev pub places : ℕ → List ℕ
places zero = []
places (suc n) = places n ++ n ∷ []

-- a route through the first n plug-ins
abbrev pub plain_route : List ℕ → ℕ → RouteEntry
plain_route path n = record { path = path; filters = places n }

abbrev pub plain_routes : ℕ → List RouteEntry
plain_routes n = plain_route (codes "/") n ∷ plain_route (codes "/{*rest}") n ∷ []

pub record IsPlain (n : ℕ) (config : Config) : Type 0 where
  pub workers : config.workers ≡ 1
  pub listen : config.listen ≡ codes "127.0.0.1:8080"
  pub upstream : config.upstream ≡ codes "127.0.0.1:9000"
  pub deadline : config.deadline_ms ≡ 0
  pub log_level : config.log_level ≡ Info
  pub vms : config.vms ≡ first_n plain_vm n
  pub plugins : config.plugins ≡ first_n plain_plugin n
  pub routes : config.routes ≡ plain_routes n
  pub tcp : config.tcp ≡ []
