use Rattle.std.proofs.Common.{ℕ, List, [], ◌∷◌, length, map, Option, None, Some, refl, sym, ap, ◌∙◌, subst, arith}
use Rattle.std.specs.Prelude.{slice_get, drop}
use Rattle.gate_base.specs.declared.cause.Cause.TheVariants as cause
use Rattle.wasm_syntax.specs.declared.types.Value.{Value}
use Rattle.wasm_syntax.specs.declared.types.Value.TheVariants.{I32}
use Rattle.wasm_syntax.specs.Reduction.{Program}
use Rattle.wasm_syntax.specs.ReductionSteps.{Config}
use Rattle.wasm_syntax.specs.ReductionRuns.{has_finished, has_asked, has_trapped, has_spent, run_hosted, enough}
use Rattle.wasm_machine.specs.Machines.{program_at, config_at, asking}
use Rattle.wasm_machine.specs.declared.machine.Pending.{Pending}
use Rattle.abi_types.specs.GuestAt.{closed_host, closed_answer, invoked_at, alloc_gave, gave_number}
use Rattle.abi_types.specs.declared.guest.Closing.{Closing}
use Rattle.vm_host.specs.Seeing.{guest_at, waiting_of, IsAllocator}
use Rattle.wasm_syntax.specs.ReductionLaws.{StandsOn}
use Rattle.wasm_syntax.proofs.BelowLaws.{answers_stay_above}
use Rattle.vm_host.proofs.Closing.{Going, goes, going_stop, going_on, going_end}
use Rattle.vm_host.proofs.Allocating.{stands_invoked, moved_fit, closing_inside, smaller, no_more, run_of, kept_by, allocated}
use Rattle.vm_host.proofs.machine_guest.MachineGuestGuest.allocate.Goals as goal

pub invoke-requires-clause-takes : goal.invoke-requires-clause-takes
invoke-requires-clause-takes c = (subst (λ (o : Option ℕ). IsAllocator (program_at c.args.self.now.machine) o) c.in-Some.is c.requires.fit.allocator).0 c.args.len

pub loop-import-init : goal.loop-import-init
loop-import-init c =
    let g = guest_at c.args.self.now in
    let takes = (subst (λ (o : Option ℕ). IsAllocator (program_at c.args.self.now.machine) o) c.in-Some.is c.requires.fit.allocator).0 c.args.len in
    record {
      which = c.in-Some.is;
      allocator = refl;
      closed = refl;
      mode = c.invoke.ensures.mode;
      program = c.invoke.ensures.program;
      pending = c.invoke.ensures.pending;
      stands = subst (λ (d : Config). StandsOn g.config.calls d) (sym c.invoke.ensures.config) (stands_invoked g.program c.in-Some.f (I32 c.args.len ∷ []) g.config takes);
      less = omega arith;
      run = subst (λ (d : Config). Going (closed_host g.closed) g.program (run_hosted (closed_host g.closed) g.program g.fuel tt (invoked_at c.in-Some.f (I32 c.args.len ∷ []) g)) g.fuel tt d) (sym c.invoke.ensures.config)
          (goes (closed_host g.closed) g.program g.fuel tt (invoked_at c.in-Some.f (I32 c.args.len ∷ []) g));
    }

pub closing-requires : goal.closing-requires
closing-requires c =
    let i = c.loop-import.invariant in
    let p = program_at c.args.self.now.machine in
    let fit = moved_fit p (program_at c.loop-import.self.machine) c.args.self.now.closed c.loop-import.self.closed i.program i.closed c.requires.fit.closed in
    let asked = c.in-HostCall.ensures.tells in
    closing_inside (program_at c.loop-import.self.machine) c.loop-import.self.closed fit c.in-HostCall.import asked.0 asked.1

pub loop-import-smaller-in-Status : goal.loop-import-smaller-in-Status
loop-import-smaller-in-Status c =
    smaller (Some (I32 c.in-Status.number)) c.run.new.fuel (enough c.loop-import.self.fuel (config_at c.loop-import.self.machine)) (config_at c.run.new.self) (config_at c.resume.new.self) c.resume.ensures.config c.in-HostCall.ensures.lower

pub loop-import-preserved-in-Status : goal.loop-import-preserved-in-Status
loop-import-preserved-in-Status c =
    let i = c.loop-import.invariant in
    let g = guest_at c.args.self.now in
    let d = config_at c.run.new.self in
    let m = c.run.new.fuel in
    let is = c.in-HostCall.ensures.run in
    let v = Some (I32 c.in-Status.number) in
    let there = ap (λ (k : List Closing). slice_get k c.in-HostCall.import) (sym i.closed) ∙ c.closing.ensures ∙ ap Some c.in-Status.is in
    record {
      which = i.which;
      allocator = i.allocator;
      closed = i.closed;
      mode = c.resume.ensures.mode;
      program = c.resume.ensures.program ∙ c.in-HostCall.ensures.program ∙ i.program;
      pending = c.resume.ensures.pending ∙ ap (asking None) (c.in-HostCall.ensures.pending ∙ ap (asking (Some c.in-HostCall.import)) i.pending);
      stands = subst (λ (e : Config). StandsOn g.config.calls e) (sym c.resume.ensures.config)
          (answers_stay_above v g.config.calls d (kept_by (program_at c.loop-import.self.machine) g.config.calls c.loop-import.self.fuel (config_at c.loop-import.self.machine) (has_asked c.in-HostCall.import _ d m) i.stands is));
      less = omega (arith, c.in-HostCall.ensures.fuel, i.less);
      run = going_on (closed_host g.closed) g.program _ c.loop-import.self.fuel tt (config_at c.loop-import.self.machine) i.run c.in-HostCall.import m _ d
          (run_of g.program (program_at c.loop-import.self.machine) c.loop-import.self.fuel (config_at c.loop-import.self.machine) (has_asked c.in-HostCall.import _ d m) i.program is)
          c.in-HostCall.ensures.lower v d m tt (ap (λ o. closed_answer o d m) there) (config_at c.resume.new.self) c.resume.ensures.config
          (no_more v m d (config_at c.resume.new.self) c.resume.ensures.config);
    }

pub loop-import-smaller : goal.loop-import-smaller
loop-import-smaller c =
    smaller None c.run.new.fuel (enough c.loop-import.self.fuel (config_at c.loop-import.self.machine)) (config_at c.run.new.self) (config_at c.resume-in-Nothing.new.self) c.resume-in-Nothing.ensures.config c.in-HostCall.ensures.lower

pub loop-import-preserved : goal.loop-import-preserved
loop-import-preserved c =
    let i = c.loop-import.invariant in
    let g = guest_at c.args.self.now in
    let d = config_at c.run.new.self in
    let m = c.run.new.fuel in
    let is = c.in-HostCall.ensures.run in
    let v : Option Value = None in
    let there = ap (λ (k : List Closing). slice_get k c.in-HostCall.import) (sym i.closed) ∙ c.closing.ensures ∙ ap Some c.in-Nothing.is in
    record {
      which = i.which;
      allocator = i.allocator;
      closed = i.closed;
      mode = c.resume-in-Nothing.ensures.mode;
      program = c.resume-in-Nothing.ensures.program ∙ c.in-HostCall.ensures.program ∙ i.program;
      pending = c.resume-in-Nothing.ensures.pending ∙ ap (asking None) (c.in-HostCall.ensures.pending ∙ ap (asking (Some c.in-HostCall.import)) i.pending);
      stands = subst (λ (e : Config). StandsOn g.config.calls e) (sym c.resume-in-Nothing.ensures.config)
          (answers_stay_above v g.config.calls d (kept_by (program_at c.loop-import.self.machine) g.config.calls c.loop-import.self.fuel (config_at c.loop-import.self.machine) (has_asked c.in-HostCall.import _ d m) i.stands is));
      less = omega (arith, c.in-HostCall.ensures.fuel, i.less);
      run = going_on (closed_host g.closed) g.program _ c.loop-import.self.fuel tt (config_at c.loop-import.self.machine) i.run c.in-HostCall.import m _ d
          (run_of g.program (program_at c.loop-import.self.machine) c.loop-import.self.fuel (config_at c.loop-import.self.machine) (has_asked c.in-HostCall.import _ d m) i.program is)
          c.in-HostCall.ensures.lower v d m tt (ap (λ o. closed_answer o d m) there) (config_at c.resume-in-Nothing.new.self) c.resume-in-Nothing.ensures.config
          (no_more v m d (config_at c.resume-in-Nothing.new.self) c.resume-in-Nothing.ensures.config);
    }

pub returns-in-Trap-clause-run : goal.returns-in-Trap-clause-run
returns-in-Trap-clause-run c =
    let i = c.loop-import.invariant in
    let g = guest_at c.args.self.now in
    let s = has_trapped c.in-Trap.cause c.run.new.fuel in
    allocated g c.in-Some.f c.args.len c.in-Some.is s
    (going_stop (closed_host g.closed) g.program _ c.loop-import.self.fuel tt (config_at c.loop-import.self.machine) i.run s
    (run_of g.program (program_at c.loop-import.self.machine) c.loop-import.self.fuel (config_at c.loop-import.self.machine) s i.program c.in-Trap.ensures.run))

pub returns-in-FuelSpent-clause-run : goal.returns-in-FuelSpent-clause-run
returns-in-FuelSpent-clause-run c =
    let i = c.loop-import.invariant in
    let g = guest_at c.args.self.now in
    let s = has_spent c.run.new.fuel in
    allocated g c.in-Some.f c.args.len c.in-Some.is s
    (going_stop (closed_host g.closed) g.program _ c.loop-import.self.fuel tt (config_at c.loop-import.self.machine) i.run s
    (run_of g.program (program_at c.loop-import.self.machine) c.loop-import.self.fuel (config_at c.loop-import.self.machine) s i.program c.in-FuelSpent.ensures.run))

pub returns-in-Exit-clause-run : goal.returns-in-Exit-clause-run
returns-in-Exit-clause-run c =
    let i = c.loop-import.invariant in
    let g = guest_at c.args.self.now in
    let d = config_at c.run.new.self in
    let m = c.run.new.fuel in
    let there = ap (λ (k : List Closing). slice_get k c.in-HostCall.import) (sym i.closed) ∙ c.closing.ensures ∙ ap Some c.in-Exit.is in
    allocated g c.in-Some.f c.args.len c.in-Some.is (has_trapped cause.Exit m)
    (going_end (closed_host g.closed) g.program _ c.loop-import.self.fuel tt (config_at c.loop-import.self.machine) i.run c.in-HostCall.import m _ d
    (run_of g.program (program_at c.loop-import.self.machine) c.loop-import.self.fuel (config_at c.loop-import.self.machine) (has_asked c.in-HostCall.import _ d m) i.program c.in-HostCall.ensures.run)
    (has_trapped cause.Exit m) tt (ap (λ o. closed_answer o d m) there))

pub returns-in-Finished-clause-run : goal.returns-in-Finished-clause-run
returns-in-Finished-clause-run c =
    let i = c.loop-import.invariant in
    let g = guest_at c.args.self.now in
    let d = config_at c.run.new.self in
    let s = has_finished c.in-Finished.result d c.run.new.fuel in
    let pending = c.in-Finished.ensures.pending ∙ ap (drop 1) i.pending in
    allocated g c.in-Some.f c.args.len c.in-Some.is s
    (going_stop (closed_host g.closed) g.program _ c.loop-import.self.fuel tt (config_at c.loop-import.self.machine) i.run s
    (run_of g.program (program_at c.loop-import.self.machine) c.loop-import.self.fuel (config_at c.loop-import.self.machine) s i.program c.in-Finished.ensures.run))
    ∙ ap (λ (v : Option Value). gave_number v (record g { config = d; fuel = c.run.new.fuel })) c.number_in.ensures
    ∙ (λ j. alloc_gave c.number_in.result (record { program = sym (c.in-Finished.ensures.program ∙ i.program) j; allocator = sym i.allocator j; closed = sym i.closed j; config = d; waiting = map waiting_of (sym pending j); fuel = c.run.new.fuel }))

pub returns-in-Finished-clause-rests : goal.returns-in-Finished-clause-rests
returns-in-Finished-clause-rests c =
    let i = c.loop-import.invariant in
    let g = guest_at c.args.self.now in
    let d = config_at c.run.new.self in
    let pending = c.in-Finished.ensures.pending ∙ ap (drop 1) i.pending in
    let program = c.in-Finished.ensures.program ∙ i.program in
    record {
      still = record {
        mode = c.in-Finished.ensures.mode;
        few = omega (arith, ap (λ (ps : List Pending). length ps) pending, c.requires.few);
        fit = record {
          closed = moved_fit g.program (program_at c.run.new.self) g.closed c.loop-import.self.closed program i.closed c.requires.fit.closed;
          allocator = subst (λ (p : Program). IsAllocator p c.loop-import.self.allocator) (sym program) (subst (λ (o : Option ℕ). IsAllocator g.program o) (sym i.allocator) c.requires.fit.allocator);
        };
      };
      waiting = ap (map waiting_of) pending;
      calls = kept_by (program_at c.loop-import.self.machine) g.config.calls c.loop-import.self.fuel (config_at c.loop-import.self.machine) (has_finished c.in-Finished.result d c.run.new.fuel) i.stands c.in-Finished.ensures.run;
    }
