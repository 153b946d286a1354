-- The typing of instructions (WebAssembly Core 1.0 section 3.3, and the same of Core 2.0 for sign extension, memory.copy
-- and memory.fill). The types of a stack stand topmost first.
-- Blocks and functions leave one value at most, so the order of their results says nothing.
use Rattle.std.specs.Prelude.{◌≡◌, ℕ, ◌≤◌, ◌<◌, true, List, [], ◌∷◌, ◌++◌, All, Some, slice_get, reverse}
use Rattle.wasm_syntax.specs.declared.types.ValueType.{ValueType}
use Rattle.wasm_syntax.specs.declared.types.ValueType.TheVariants.{I32}
use Rattle.wasm_syntax.specs.declared.types.FunctionType.{FunctionType}
use Rattle.wasm_syntax.specs.declared.types.GlobalType.{GlobalType}
use Rattle.wasm_syntax.specs.declared.instr.Instr.{Instr}
use Rattle.wasm_syntax.specs.declared.instr.BlockType.{BlockType}
use Rattle.wasm_syntax.specs.declared.instr.BlockType.TheVariants as block_type
use Rattle.wasm_syntax.specs.declared.row.Row.{Row}
use Rattle.wasm_syntax.specs.declared.row.Row.TheVariants as row
use Rattle.wasm_syntax.specs.Rows.{row_of, labels_of}
use Rattle.wasm_syntax.specs.Nested.{Nested, nothing, simple, block, loop, choice, NestsAs}

-- section 3.1: what a body may name. Functions are known by the indices of their types; of tables and
-- memories it matters how many there are.
pub record Context : Type 0 where
  pub types : List FunctionType
  pub functions : List ℕ
  pub tables : ℕ
  pub memories : ℕ
  pub globals : List GlobalType
  pub locals : List ValueType
  -- the types that a branch to each label takes, innermost first
  pub labels : List (List ValueType)
  -- what the function gives
  pub results : List ValueType

-- what a block leaves
abbrev pub left_by : BlockType → List ValueType
left_by block_type.Empty = []
left_by (block_type.Value t) = t ∷ []

-- the context inside a block whose label takes these types
abbrev pub inside : List ValueType → Context → Context
inside label c = record c { labels = label ∷ c.labels }

-- there is a thing of that index, and it is this one
abbrev pub Is : {A : Type 0} → List A → ℕ → A → Type 0
Is xs n x = slice_get xs n ≡ Some x

-- exactly these types are taken, and exactly these given
abbrev pub Gives : (ts us takes gives : List ValueType) → Type 0
Gives ts us takes gives = (takes ≡ ts) × (gives ≡ us)

-- a function takes its parameters, the last of which stands topmost
abbrev pub Applies : FunctionType → (takes gives : List ValueType) → Type 0
Applies f takes gives = Gives (reverse f.parameters) f.results takes gives

-- Sections 3.3.1 to 3.3.5, one rule a row: an instruction that holds no others may take and give these
-- types. `labels` are those of a `br_table` but its last.
abbrev pub Takes : Context → Row → (labels : List ℕ) → (takes gives : List ValueType) → Type 0
Takes c row.Nop ls takes gives = Gives [] [] takes gives
Takes c row.Drop ls takes gives = (t : ValueType) × Gives (t ∷ []) [] takes gives
Takes c row.Select ls takes gives = (t : ValueType) × Gives (I32 ∷ t ∷ t ∷ []) (t ∷ []) takes gives
Takes c (row.Const t) ls takes gives = Gives [] (t ∷ []) takes gives
Takes c (row.Unary t u) ls takes gives = Gives (t ∷ []) (u ∷ []) takes gives
Takes c (row.Binary t u) ls takes gives = Gives (t ∷ t ∷ []) (u ∷ []) takes gives
Takes c (row.LocalGet x) ls takes gives = (t : ValueType) × Is c.locals x t × Gives [] (t ∷ []) takes gives
Takes c (row.LocalSet x) ls takes gives = (t : ValueType) × Is c.locals x t × Gives (t ∷ []) [] takes gives
Takes c (row.LocalTee x) ls takes gives = (t : ValueType) × Is c.locals x t × Gives (t ∷ []) (t ∷ []) takes gives
Takes c (row.GlobalGet x) ls takes gives = (g : GlobalType) × Is c.globals x g × Gives [] (g.value ∷ []) takes gives
Takes c (row.GlobalSet x) ls takes gives = (g : GlobalType) × Is c.globals x g × (g.is_mutable ≡ true) × Gives (g.value ∷ []) [] takes gives
-- the alignment is at most the width
Takes c (row.Load t width align) ls takes gives = (0 < c.memories) × (align ≤ width) × Gives (I32 ∷ []) (t ∷ []) takes gives
Takes c (row.Store t width align) ls takes gives = (0 < c.memories) × (align ≤ width) × Gives (t ∷ I32 ∷ []) [] takes gives
Takes c row.MemorySize ls takes gives = (0 < c.memories) × Gives [] (I32 ∷ []) takes gives
Takes c row.MemoryGrow ls takes gives = (0 < c.memories) × Gives (I32 ∷ []) (I32 ∷ []) takes gives
Takes c row.BulkMemory ls takes gives = (0 < c.memories) × Gives (I32 ∷ I32 ∷ I32 ∷ []) [] takes gives
Takes c (row.Call x) ls takes gives = (f : ℕ) × (t : FunctionType) × Is c.functions x f × Is c.types f t × Applies t takes gives
-- the operand that says which element stands above the arguments
Takes c (row.CallIndirect x) ls takes gives = (t : FunctionType) × (arguments : List ValueType) × (0 < c.tables) × Is c.types x t × Applies t arguments gives × (takes ≡ I32 ∷ arguments)
-- Behind `unreachable`, `br`, `br_table` and `return` nothing is reached: they give any types, and take any
-- from below their operands.
Takes c row.Unreachable ls takes gives = Unit {0}
Takes c (row.Br l) ls takes gives = (ts below : List ValueType) × Is c.labels l ts × (takes ≡ ts ++ below)
Takes c (row.BrTable l) ls takes gives = (ts below : List ValueType) × Is c.labels l ts × All (λ k. Is c.labels k ts) ls × (takes ≡ I32 ∷ (ts ++ below))
Takes c row.Return ls takes gives = (below : List ValueType) × (takes ≡ c.results ++ below)
-- where the branch is not taken its operands stay
Takes c (row.BrIf l) ls takes gives = (ts : List ValueType) × Is c.labels l ts × Gives (I32 ∷ ts) ts takes gives
-- these hold others, or belong to one that does
Takes c (row.Block t) ls takes gives = ⊥
Takes c (row.Loop t) ls takes gives = ⊥
Takes c (row.If t) ls takes gives = ⊥
Takes c row.Else ls takes gives = ⊥
Takes c row.End ls takes gives = ⊥

-- THE FRAME: types below those that are taken stay untouched.
pub record Leads (c : Context) (i : Instr) (before after : List ValueType) : Type 0 where
  pub takes : List ValueType
  pub gives : List ValueType
  pub below : List ValueType
  pub may : Takes c (row_of i) (labels_of i) takes gives
  pub from : before ≡ takes ++ below
  pub to : after ≡ gives ++ below

-- THE TYPING OF A SEQUENCE (section 3.3.6), and of the instructions that hold others (section 3.3.5). A
-- block begins with nothing of what stands below it, and leaves its result.
abbrev pub Typed : Context → Nested → (before after : List ValueType) → Type 0
Typed c nothing before after = before ≡ after
Typed c (simple i rest) before after = (between : List ValueType) × Leads c i before between × Typed c rest between after
Typed c (block t body rest) before after =
    Typed (inside (left_by t) c) body [] (left_by t) × Typed c rest (left_by t ++ before) after
-- a branch to a loop begins it again, and takes nothing
Typed c (loop t body rest) before after =
    Typed (inside [] c) body [] (left_by t) × Typed c rest (left_by t ++ before) after
Typed c (choice t then other rest) before after =
    (below : List ValueType) × (before ≡ I32 ∷ below) × Typed (inside (left_by t) c) then [] (left_by t) × Typed (inside (left_by t) c) other [] (left_by t) × Typed c rest (left_by t ++ below) after

-- THE TYPING OF A BODY (section 3.4.1): from nothing to the results of the function. A branch past all blocks
-- takes these too.
abbrev pub IsTypedBody : Context → List Instr → Type 0
IsTypedBody c is = (code : Nested) × NestsAs is code × Typed (inside c.results c) code [] c.results
