-- A VM on which nothing has run is one.
use Rattle.std.proofs.Common.{◌≡◌, ℕ, List, length, Option, None, refl, sym, ap, subst, arith}
use Rattle.wasm_syntax.specs.declared.module.Module.{Module}
use Rattle.wasm_syntax.specs.Validity.{IsValid}
use Rattle.wasm_syntax.specs.Reduction.{Program}
use Rattle.wasm_syntax.specs.ReductionPrograms.{program_of}
use Rattle.wasm_machine.specs.Machines.{View, program_at}
use Rattle.wasm_machine.specs.declared.machine.Pending.{Pending}
use Rattle.abi_links.specs.declared.target.ImportTarget.{ImportTarget}
use Rattle.abi_types.specs.declared.guest.Closing.{Closing}
use Rattle.vm_host.specs.Fits.{fit_fault}
use Rattle.vm_host.specs.Seeing.{AreClosings, IsAllocator}
use Rattle.vm_host.specs.Targets.{AreTargets}
use Rattle.vm_host.specs.RoleTypes.{allocator_in, AreFunctions, TakesNothing}
use Rattle.vm_host.specs.Vms.{IsVm, IsFirst, IsOutline}
use Rattle.vm_host.proofs.Linked.{are_targets, are_closings}
use Rattle.vm_host.proofs.RoleTies.{fits_linked, are_functions, is_allocator, start_takes}

module _ (m : Module) (pages : ℕ) (valid : IsValid m) (fit : fit_fault m pages ≡ None) (machine : View) (first : IsFirst m pages machine) where
  in_machine : (P : Program → Type 0) → P (program_of m pages) → P (program_at machine)
  in_machine P h = subst P (sym first.program) h

  pub first_is : (targets : List ImportTarget) (closed : List Closing) (functions : List (Option ℕ)) (start : Option ℕ) → IsOutline m targets closed functions start → (place fuel : ℕ) (allocator : Option ℕ) → allocator ≡ allocator_in functions →
      IsVm (record { machine = machine; allocator = allocator; closed = closed; fuel = fuel }) (record { place = place; targets = targets }) functions start
  first_is targets closed functions start o place fuel allocator is =
      let linked = fits_linked m pages fit in
      let are : AreFunctions (program_of m pages) functions = subst (λ (fs : List (Option ℕ)). AreFunctions (program_of m pages) fs) (sym o.functions_are) (are_functions m pages valid fit) in
      record {
        rests = record {
          mode = first.mode;
          few = omega (arith, ap (λ (ps : List Pending). length ps) first.pending);
          fit = record {
            closed = in_machine (λ p. AreClosings p closed) (subst (λ (cs : List Closing). AreClosings (program_of m pages) cs) (sym o.closed_are) (are_closings m pages linked));
            allocator = in_machine (λ p. IsAllocator p allocator) (subst (λ (a : Option ℕ). IsAllocator (program_of m pages) a) (sym is) (is_allocator (program_of m pages) functions are));
          };
        };
        idle = first.pending;
        links = in_machine (λ p. AreTargets targets p) (subst (λ (ks : List ImportTarget). AreTargets ks (program_of m pages)) (sym o.targets_are) (are_targets m pages linked));
        start_takes = in_machine (λ p. TakesNothing p start) (subst (λ (a : Option ℕ). TakesNothing (program_of m pages) a) (sym o.start_is) (start_takes m pages valid m.start refl));
        count = ap (λ (fs : List (Option ℕ)). length fs) o.functions_are;
        typed = in_machine (λ p. AreFunctions p functions) are;
      }
