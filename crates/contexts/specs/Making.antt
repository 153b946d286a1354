-- The contexts of a worker before any context is drawn.
use Rattle.std.specs.Prelude.{ℕ, List, [], ◌∷◌, ◌++◌, None, false}
use Rattle.contexts.specs.declared.parts.Calls.{Calls}
use Rattle.gate_base.specs.declared.level.Level.{Level}
use Rattle.contexts.specs.declared.parts.Plugin.{Plugin}
use Rattle.contexts.specs.declared.parts.VmContexts.{VmContexts}
use Rattle.contexts.specs.declared.parts.Contexts.{Contexts}

abbrev pub no_calls : Calls
no_calls = record { under_way = 0; last = 0 }

abbrev pub no_contexts : Level → List ℕ → Contexts
no_contexts level key = record { level = level; plugins = []; vms = []; exchanges = []; effects = []; random_key = key; random_place = 0; calls = no_calls; is_tcp = false }

-- a VM without contexts, of which no id was drawn
abbrev pub new_vm : (name configuration : List ℕ) → VmContexts
new_vm name configuration = record { name = name; configuration = configuration; effective = 0; last = 0; waiting = []; contexts = [] }

abbrev pub new_plugin : ℕ → (name configuration : List ℕ) → Plugin
new_plugin vm name configuration = record { name = name; configuration = configuration; vm = vm; root = None }

abbrev pub with_vm : (name configuration : List ℕ) → Contexts → Contexts
with_vm name configuration h = record h { vms = h.vms ++ new_vm name configuration ∷ [] }

abbrev pub with_plugin : ℕ → (name configuration : List ℕ) → Contexts → Contexts
with_plugin vm name configuration h = record h { plugins = h.plugins ++ new_plugin vm name configuration ∷ [] }
