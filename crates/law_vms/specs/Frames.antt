-- The frames of an allocator count on top of those of the callback that waits for the host's answer.
use Rattle.std.specs.Prelude.{◌≡◌, ◌≤◌, ◌<◌, ℕ, zero, suc, pos, true, false, List, [], ◌∷◌, Some, slice_get}
use Rattle.abi_types.specs.GuestAt.{GuestAt, alloc_gave, alloc_trapped, allocating}
use Rattle.gate_base.specs.declared.cause.Cause.TheVariants as cause
use Rattle.wasm_syntax.specs.Nested.{Nested, nothing, simple}
use Rattle.wasm_syntax.specs.Reduction.{Function, inside, Program, Thread, code, frame}
use Rattle.wasm_syntax.specs.ReductionRuns.{has_trapped, run}
use Rattle.wasm_syntax.specs.ReductionSteps.{Calling, calling, Config, config, most_frames, all_frames, is_within}
use Rattle.wasm_syntax.specs.Stores.{Stores}
use Rattle.wasm_syntax.specs.declared.instr.Instr.TheVariants as instr
use Rattle.wasm_syntax.specs.declared.types.FunctionType.{FunctionType}
use Rattle.wasm_syntax.specs.declared.types.ValueType.{ValueType}
use Rattle.wasm_syntax.specs.declared.types.ValueType.TheVariants.{I32}

-- THE FRAMES OF ALL CALLS COUNT TOGETHER: with more than 256 of them, of the topmost call and of those below that wait for it, the run is the trap
-- `stack`, and spends nothing
abbrev pub FramesCountTogether : Type 0
FramesCountTogether =
    (p : Program) (fuel : ℕ) (s : Stores) (calls : List Calling) → most_frames < all_frames calls
    → run p fuel (config s calls) ≡ has_trapped cause.Stack fuel

-- AN ALLOCATION finds no frame left where the calls that wait have them all
abbrev pub AllocationsNeedAFrame : Type 0
AllocationsNeedAFrame =
    (g : GuestAt) (f len : ℕ) (t : FunctionType) (locals : List ValueType) (body : Nested)
    → g.allocator ≡ Some f → slice_get g.program.functions f ≡ Some (inside t locals body)
    → most_frames ≤ all_frames g.config.calls → allocating len g ≡ alloc_trapped cause.Stack g.fuel

-- ---- worked

-- a thread of so many frames
abbrev pub nested : ℕ → Thread
nested zero = code [] nothing
nested (suc n) = frame [] 0 [] (nested n) nothing

abbrev pub no_stores : Stores
no_stores = record { memory = []; table = []; globals = [] }

-- a call with so many frames, on top of one that waits with so many
abbrev pub one_on_other : (on waiting : ℕ) → Config
one_on_other on waiting = config no_stores (calling [] (nested on) ∷ calling [] (nested waiting) ∷ [])

-- takes a word and gives one, which another function gives, or itself
abbrev pub word_type : FunctionType
word_type = record { parameters = I32 ∷ []; results = I32 ∷ [] }

abbrev pub calls_next : ℕ → Function
calls_next x = inside word_type [] (simple (instr.LocalGet 0) (simple (instr.Call x) nothing))

abbrev pub gives_64 : Function
gives_64 = inside word_type [] (simple (instr.I32Const (pos 64)) nothing)

-- an allocator of three frames, which gives the place 64, in a guest whose callback waits with so many frames, and with so much fuel
abbrev pub three_deep : (waiting fuel : ℕ) → GuestAt
three_deep waiting fuel = record {
  program = record { types = word_type ∷ []; functions = calls_next 1 ∷ calls_next 2 ∷ gives_64 ∷ []; most = 1 };
  allocator = Some 0;
  closed = [];
  config = config no_stores (calling [] (nested waiting) ∷ []);
  waiting = [];
  fuel = fuel;
}

pub record FrameExamples : Type 0 where
  -- 56 frames on top of 200 are within the bound, 57 are the trap
  pub within : is_within (one_on_other 56 200) ≡ true
  pub past : is_within (one_on_other 57 200) ≡ false
  pub stack : (p : Program) (fuel : ℕ) → run p fuel (one_on_other 57 200) ≡ has_trapped cause.Stack fuel
  -- on top of 253 frames an allocator of three gives its number, of its own five units; on top of 254 it is the trap once it enters the third
  pub given : allocating 8 (three_deep 253 100) ≡ alloc_gave 64 (three_deep 253 95)
  pub third : allocating 8 (three_deep 254 100) ≡ alloc_trapped cause.Stack 96
  pub first : allocating 8 (three_deep 256 100) ≡ alloc_trapped cause.Stack 100
