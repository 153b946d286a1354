-- WHAT OF A VM NEVER CHANGES, whatever its module does: the program that its machine runs, in which the most pages are; what its imports stand for;
-- the functions that it exports; its start function; and the fuel of each run.
use Rattle.std.specs.Prelude.{◌≡◌, ℕ, List, Option, None, Some}
use Rattle.abi_types.specs.GuestAt.{GuestAt}
use Rattle.abi_types.specs.declared.guest.Closing.{Closing}
use Rattle.contexts.specs.declared.parts.Contexts.{Contexts}
use Rattle.filter_host.specs.declared.host.Callback.{Callback}
use Rattle.vm_host.specs.Slots.{slot_in, calling}
use Rattle.vm_host.specs.Vms.{VmAt}
use Rattle.vm_host.specs.declared.slots.Vms.{Vms}
use Rattle.law_vms.specs.Apart.{AllEnds}
use Rattle.law_vms.specs.Lives.{Lives, Goes}
use Rattle.wasm_syntax.specs.Reduction.{Program}
use Rattle.worker_model.specs.Plan.{Plan}
use Rattle.worker_model.specs.Steps.{Both}

-- of a guest: its program, the function that allocates, and what the host answers while it is closed
abbrev pub fixed : GuestAt → Program × Option ℕ × List Closing
fixed g = (g.program, g.allocator, g.closed)

-- the second is the first one as it became
pub record IsSameVm (was is : VmAt) : Type 0 where
  pub guest : fixed is.guest ≡ fixed was.guest
  pub calls : is.calls ≡ was.calls
  pub functions : is.functions ≡ was.functions
  pub start : is.start ≡ was.start
  pub budget : is.budget ≡ was.budget

-- in a slot where no machine stood none stands afterwards
abbrev pub IsOf : Option VmAt → Option VmAt → Type 0
IsOf was None = Unit {0}
IsOf None (Some is) = ⊥
IsOf (Some was) (Some is) = IsSameVm was is

abbrev pub AreOf : Vms → Vms → Type 0
AreOf was are = (vm : ℕ) → IsOf (slot_in was vm).live (slot_in are vm).live

pub record VmsKeepTheirBounds : Type 0 where
  pub callbacks : (v : Vms) (vm : ℕ) (name : Callback) (context first second now : ℕ) (contexts : Contexts)
      → AllEnds (λ c. AreOf v c.host) (calling v vm name context first second now contexts)
  -- over a life, turn by turn and step by step
  pub turns : (plan : Plan) (b e : Both Vms) → Lives plan b e → AreOf b.host e.host
  pub steps : (plan : Plan) (b e : Both Vms) → Goes plan b e → AreOf b.host e.host
