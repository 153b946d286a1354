use Rattle.std.proofs.Common.{◌≡◌, ℕ, List, Bool, true, false, not, rules, sym, ap, ◌∙◌}
use Rattle.toml.specs.View.{view}
use Rattle.gate_config.specs.Given.{given}
use Rattle.toml.specs.Data.{as_str}
use Rattle.config_names.specs.Names.{has_vm}
use Rattle.config_reader.proofs.Named.{refused_name, taken_name, no_name}
use Rattle.config_reader.proofs.checks.some_vm_fault.Goals as goal

pub returns-then-has_vm : goal.returns-then-has_vm
returns-then-has_vm c = taken_name 5 (λ s. not (has_vm (given c.args.config.now) s)) (as_str (view c.args.value.now)) c.in-Some.s.now (rw c.in-Some.is at c.name_in.ensures) (ap not (sym c.has_vm.ensures ∙ c.if-has_vm.true))

pub returns-else-has_vm : goal.returns-else-has_vm
returns-else-has_vm c = refused_name 5 (λ s. not (has_vm (given c.args.config.now) s)) (as_str (view c.args.value.now)) c.in-Some.s.now (rw c.in-Some.is at c.name_in.ensures) (ap not (sym c.has_vm.ensures ∙ c.if-has_vm.false))

pub returns-in-None : goal.returns-in-None
returns-in-None c = no_name 5 (λ s. not (has_vm (given c.args.config.now) s)) (as_str (view c.args.value.now)) (rw c.in-None.is at c.name_in.ensures)
