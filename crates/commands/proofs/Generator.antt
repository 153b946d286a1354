-- The machines of the load's filter are made: it is a filter's module.
use Rattle.std.proofs.Common.{◌≡◌, zero, suc, [], ◌∷◌, All, None, ap, sym, subst, refl, arith}
use Rattle.gate_config.specs.declared.config.Config.{Config as Configured}
use Rattle.gate_config.specs.Given.{Given, given}
use Rattle.vm_machines.specs.Making.{HasFilter}
use Rattle.abi_links.specs.Judging.{target_of}
use Rattle.vm_host.specs.Fits.{a_misfit, fit_fault, is_marker, is_misfit, no_marker, type_in, unlinked}
use Rattle.vm_host.specs.Roles.{role_named}
use Rattle.workload.specs.Filter.{queue_filter}
use Rattle.command_generate.specs.Setting.{filter_vm, generator_config}

pub fits : fit_fault queue_filter 128 ≡ None
unfolding a_misfit is_marker is_misfit no_marker role_named target_of type_in unlinked
fits = refl

one_filter : (filter : HasFilter filter_vm) → All HasFilter (filter_vm ∷ [])
one_filter filter zero d low = filter
one_filter filter (suc k) d low = absurd (omega (arith, low))

pub takes : (config : Configured) → given config ≡ generator_config → All HasFilter config.vms
takes config e = subst (All HasFilter) (sym (ap (λ (g : Given). g.vms) e)) (one_filter (record { fits = fits; pages = omega arith }))
