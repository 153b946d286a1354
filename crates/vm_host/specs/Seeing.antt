-- What a machine's guest is seen as, and when it rests.
use Rattle.std.specs.Prelude.{◌≡◌, ◌≤◌, ℕ, List, [], ◌∷◌, map, length, Option, Some, None, slice_get}
use Rattle.wasm_syntax.specs.declared.types.Value.TheVariants.{I32}
use Rattle.wasm_syntax.specs.declared.types.ValueType.{ValueType}
use Rattle.wasm_syntax.specs.declared.types.ValueType.TheVariants as type
use Rattle.wasm_syntax.specs.declared.types.FunctionType.{FunctionType}
use Rattle.wasm_syntax.specs.Typing.{Is}
use Rattle.wasm_syntax.specs.Reduction.{imported, Program}
use Rattle.wasm_machine.specs.Machines.{program_at, config_at, results_of, Takes, View}
use Rattle.wasm_flat.specs.Sound.{IsAnswer}
use Rattle.wasm_machine.specs.declared.machine.Pending.{Pending}
use Rattle.wasm_machine.specs.declared.machine.Mode.TheVariants as mode
use Rattle.abi_types.specs.GuestAt.{GuestAt, Waiting}
use Rattle.abi_types.specs.declared.guest.Closing.{Closing}
use Rattle.abi_types.specs.declared.guest.Closing.TheVariants as closing
use Rattle.vm_host.specs.declared.machine_guest.MachineGuest.{MachineGuest}

abbrev pub waiting_of : Pending → Waiting
waiting_of p = record { function = p.function; asked = p.asked }

abbrev pub guest_of : View → Option ℕ → List Closing → ℕ → GuestAt
guest_of m allocator closed fuel = record { program = program_at m; allocator = allocator; closed = closed; config = config_at m; waiting = map waiting_of m.pending; fuel = fuel }

abbrev pub guest_at : MachineGuest → GuestAt
guest_at g = guest_of g.machine g.allocator g.closed g.fuel

-- what a closing answers has the import's type
abbrev pub Answers : Closing → List ValueType → Type 0
Answers (closing.Status n) rs = IsAnswer rs (Some (I32 n))
Answers closing.Nothing rs = IsAnswer rs None
Answers closing.Exit rs = Unit {0}

-- there is a closing for each import
abbrev pub AreClosings : Program → List Closing → Type 0
AreClosings p closed = (x : ℕ) (t : FunctionType) → Is p.functions x (imported t) → (k : Closing) × (slice_get closed x ≡ Some k) × Answers k t.results

-- the allocator takes a number and gives one
abbrev pub IsAllocator : Program → Option ℕ → Type 0
IsAllocator p None = Unit {0}
IsAllocator p (Some f) = ((n : ℕ) → Takes p f (I32 n ∷ [])) × (results_of p f ≡ type.I32 ∷ [])

-- it is fit for callbacks
pub record IsFit (g : MachineGuest) : Type 0 where
  pub closed : AreClosings (program_at g.machine) g.closed
  pub allocator : IsAllocator (program_at g.machine) g.allocator

-- a call may be put on top
pub record RestsAt (g : MachineGuest) : Type 0 where
  pub mode : g.machine.mode ≡ mode.Resting
  pub few : length g.machine.pending ≤ 256
  pub fit : IsFit g

-- it is ready for a further call, as before
pub record IsReady (old new : MachineGuest) : Type 0 where
  pub rests : RestsAt new
  pub pending : new.machine.pending ≡ old.machine.pending
  pub program : program_at new.machine ≡ program_at old.machine
  pub allocator : new.allocator ≡ old.allocator
  pub closed : new.closed ≡ old.closed
