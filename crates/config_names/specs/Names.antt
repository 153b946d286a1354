-- The names that are there in what was read so far.
use Rattle.std.specs.Prelude.{ℕ, List, Bool, bytes_eq, position, unwrap_or}
use Rattle.std.specs.List.{list_any}
use Rattle.gate_config.specs.Given.{Given}

-- a VM has this name
abbrev pub has_vm : Given → List ℕ → Bool
has_vm g name = list_any (λ vm. bytes_eq vm.name name) g.vms

-- a plug-in has this name
abbrev pub has_plugin : Given → List ℕ → Bool
has_plugin g name = list_any (λ plugin. bytes_eq plugin.name name) g.plugins

-- the place of the VM of this name, where there is one
unfoldable pub vm_number : Given → List ℕ → ℕ
vm_number g name = unwrap_or (position (λ vm. bytes_eq vm.name name) g.vms) 0

-- the place of the plug-in of this name, where there is one
unfoldable pub plugin_number : Given → List ℕ → ℕ
plugin_number g name = unwrap_or (position (λ plugin. bytes_eq plugin.name name) g.plugins) 0
