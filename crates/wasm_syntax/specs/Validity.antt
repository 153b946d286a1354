-- Valid modules (WebAssembly Core 1.0 section 3.4), and the first part of a module that is not valid.
use Rattle.std.specs.Prelude.{◌≡◌, ◌≢◌, ◌⊎◌, ◌+◌, ℕ, suc, ◌≤◌, ◌<◌, false, List, [], ◌∷◌, ◌++◌, All, filter_map, length, take, Option, Some, None}
use Rattle.wasm_syntax.specs.declared.types.ValueType.{ValueType}
use Rattle.wasm_syntax.specs.declared.types.ValueType.TheVariants.{I32}
use Rattle.wasm_syntax.specs.declared.types.FunctionType.{FunctionType}
use Rattle.wasm_syntax.specs.declared.types.Limits.{Limits}
use Rattle.wasm_syntax.specs.declared.types.GlobalType.{GlobalType}
use Rattle.wasm_syntax.specs.declared.instr.Instr.{Instr}
use Rattle.wasm_syntax.specs.declared.module.ImportKind.{ImportKind}
use Rattle.wasm_syntax.specs.declared.module.ImportKind.TheVariants as imported
use Rattle.wasm_syntax.specs.declared.module.ExportKind.{ExportKind}
use Rattle.wasm_syntax.specs.declared.module.ExportKind.TheVariants as exported
use Rattle.wasm_syntax.specs.declared.module.Import.{Import}
use Rattle.wasm_syntax.specs.declared.module.Export.{Export}
use Rattle.wasm_syntax.specs.declared.module.Global.{Global}
use Rattle.wasm_syntax.specs.declared.module.Element.{Element}
use Rattle.wasm_syntax.specs.declared.module.Code.{Code}
use Rattle.wasm_syntax.specs.declared.module.Segment.{Segment}
use Rattle.wasm_syntax.specs.declared.module.Module.{Module}
use Rattle.wasm_syntax.specs.declared.valid.Part.{Part}
use Rattle.wasm_syntax.specs.declared.valid.Part.TheVariants as part
use Rattle.wasm_syntax.specs.declared.row.Row.{Row}
use Rattle.wasm_syntax.specs.declared.row.Row.TheVariants as row
use Rattle.wasm_syntax.specs.Rows.{row_of}
use Rattle.wasm_syntax.specs.Nested.{Nested, NestsAs, depth_of}
use Rattle.wasm_syntax.specs.Typing.{Context, Is, IsTypedBody}

-- ---- what a module has, imports first (section 2.5.1)

abbrev pub function_of : ImportKind → Option ℕ
function_of (imported.Function x) = Some x
function_of (imported.Table l) = None
function_of (imported.Memory l) = None
function_of (imported.Global g) = None

abbrev pub table_of : ImportKind → Option Limits
table_of (imported.Function x) = None
table_of (imported.Table l) = Some l
table_of (imported.Memory l) = None
table_of (imported.Global g) = None

abbrev pub memory_of : ImportKind → Option Limits
memory_of (imported.Function x) = None
memory_of (imported.Table l) = None
memory_of (imported.Memory l) = Some l
memory_of (imported.Global g) = None

abbrev pub global_of : ImportKind → Option GlobalType
global_of (imported.Function x) = None
global_of (imported.Table l) = None
global_of (imported.Memory l) = None
global_of (imported.Global g) = Some g

-- what is imported of one kind
abbrev pub imports_of : {A : Type 0} → (ImportKind → Option A) → List Import → List A
imports_of kind imports = filter_map (λ (i : Import). kind i.kind) imports

abbrev pub types_of_globals : List Global → List GlobalType
types_of_globals [] = []
types_of_globals (g ∷ gs) = g.of ∷ types_of_globals gs

-- all of one kind, by index
abbrev pub functions_of : Module → List ℕ
functions_of m = imports_of function_of m.imports ++ m.functions

abbrev pub tables_of : Module → List Limits
tables_of m = imports_of table_of m.imports ++ m.tables

abbrev pub memories_of : Module → List Limits
memories_of m = imports_of memory_of m.imports ++ m.memories

abbrev pub globals_of : Module → List GlobalType
globals_of m = imports_of global_of m.imports ++ types_of_globals m.globals

-- ---- limits (section 3.2.1)

abbrev pub IsAtMost : ℕ → Option ℕ → Type 0
IsAtMost n None = Unit {0}
IsAtMost n (Some most) = n ≤ most

abbrev pub IsUpTo : Option ℕ → ℕ → Type 0
IsUpTo None most = Unit {0}
IsUpTo (Some n) most = n ≤ most

-- within a range, and the maximum is not below the minimum
abbrev pub AreLimits : ℕ → Limits → Type 0
AreLimits range l = (l.minimum ≤ range) × IsUpTo l.maximum range × IsAtMost l.minimum l.maximum

-- Section 3.2.3. Every number of 32 bits is in the range.
abbrev pub IsTable : Limits → Type 0
IsTable l = AreLimits 4294967296 l

-- section 3.2.4
abbrev pub IsMemory : Limits → Type 0
IsMemory l = AreLimits 65536 l

-- ---- Initial values and offsets (section 3.3.7): one constant, or an imported global that never changes. Offsets
-- may not name a global of the module's own either, which section 3.4.10 would let them.

abbrev pub IsConstantRow : List GlobalType → ValueType → Row → Type 0
IsConstantRow imported t (row.Const u) = u ≡ t
IsConstantRow imported t (row.GlobalGet x) = Is imported x (record { value = t; is_mutable = false })
IsConstantRow imported t r = ⊥

abbrev pub IsConstant : List GlobalType → ValueType → List Instr → Type 0
IsConstant imported t [] = ⊥
IsConstant imported t (i ∷ []) = ⊥
IsConstant imported t (i ∷ j ∷ []) = IsConstantRow imported t (row_of i) × (row_of j ≡ row.End)
IsConstant imported t (i ∷ j ∷ k ∷ is) = ⊥

-- ---- the entries of a module

-- section 3.2.2
abbrev pub IsSignature : FunctionType → Type 0
IsSignature f = length f.results ≤ 1

-- Section 3.4.9. There is at most one table and one memory (section 3.4.10): none of the imports before this one.
abbrev pub IsImport : Module → List Import → ImportKind → Type 0
IsImport m before (imported.Function x) = x < length m.types
IsImport m before (imported.Table l) = IsTable l × (imports_of table_of before ≡ [])
IsImport m before (imported.Memory l) = IsMemory l × (imports_of memory_of before ≡ [])
IsImport m before (imported.Global g) = Unit {0}

-- section 3.4.4: its initial value is one of its type
abbrev pub IsGlobal : Module → Global → Type 0
IsGlobal m g = IsConstant (imports_of global_of m.imports) g.of.value g.initial

-- section 3.4.5
abbrev pub IsElement : Module → Element → Type 0
IsElement m e = (e.table < length (tables_of m)) × IsConstant (imports_of global_of m.imports) I32 e.offset × All (λ f. f < length (functions_of m)) e.functions

-- section 3.4.6
abbrev pub IsSegment : Module → Segment → Type 0
IsSegment m s = (s.memory < length (memories_of m)) × IsConstant (imports_of global_of m.imports) I32 s.offset

-- section 3.4.7: the function takes nothing and gives nothing
abbrev pub IsStart : Module → ℕ → Type 0
IsStart m x = (f : ℕ) × Is (functions_of m) x f × Is m.types f (record { parameters = []; results = [] })

-- section 3.4.8
abbrev pub IsExported : Module → ExportKind → Type 0
IsExported m (exported.Function x) = x < length (functions_of m)
IsExported m (exported.Table x) = x < length (tables_of m)
IsExported m (exported.Memory x) = x < length (memories_of m)
IsExported m (exported.Global x) = x < length (globals_of m)

-- no export before this one has its name (section 3.4.10)
abbrev pub IsExport : Module → List Export → Export → Type 0
IsExport m before e = IsExported m e.kind × All (λ (x : Export). x.name ≢ e.name) before

-- ---- functions

-- what a body of that type with these locals may name
abbrev pub context_of : Module → FunctionType → List ValueType → Context
context_of m t locals = record {
  types = m.types;
  functions = functions_of m;
  tables = length (tables_of m);
  memories = length (memories_of m);
  globals = globals_of m;
  locals = t.parameters ++ locals;
  labels = [];
  results = t.results;
}

-- the code of the n-th function of the module's own has this context
pub record HasContext (m : Module) (n : ℕ) (locals : List ValueType) (c : Context) : Type 0 where
  pub type_index : ℕ
  pub type : FunctionType
  pub declared : Is m.functions n type_index
  pub typed : Is m.types type_index type
  pub context : c ≡ context_of m type locals

-- section 3.4.1
pub record IsCode (m : Module) (n : ℕ) (code : Code) : Type 0 where
  pub context : Context
  pub has : HasContext m n code.locals context
  pub typed : IsTypedBody context code.body

-- ---- the module

-- there is an entry of that index, and it is so
abbrev pub At : {A : Type 0} → List A → ℕ → (A → Type 0) → Type 0
At xs n holds = (x : _) × Is xs n x × holds x

-- the entry of a part is valid
abbrev pub IsGood : Module → Part → ℕ → Type 0
IsGood m part.Signature n = At m.types n IsSignature
IsGood m part.Import n = At m.imports n (λ i. IsImport m (take n m.imports) i.kind)
IsGood m part.Function n = At m.functions n (λ x. x < length m.types)
IsGood m part.Table n = At m.tables n (λ l. IsTable l × (length (imports_of table_of m.imports) + n ≡ 0))
IsGood m part.Memory n = At m.memories n (λ l. IsMemory l × (length (imports_of memory_of m.imports) + n ≡ 0))
IsGood m part.Global n = At m.globals n (IsGlobal m)
IsGood m part.Element n = At m.elements n (IsElement m)
IsGood m part.Segment n = At m.segments n (IsSegment m)
IsGood m part.Start n = (x : ℕ) × (m.start ≡ Some x) × IsStart m x
IsGood m part.Export n = At m.exports n (λ e. IsExport m (take n m.exports) e)
IsGood m part.Code n = At m.codes n (IsCode m n)

abbrev pub starts : Option ℕ → ℕ
starts None = 0
starts (Some x) = 1

-- how many entries a part has
abbrev pub entries_of : Module → Part → ℕ
entries_of m part.Signature = length m.types
entries_of m part.Import = length m.imports
entries_of m part.Function = length m.functions
entries_of m part.Table = length m.tables
entries_of m part.Memory = length m.memories
entries_of m part.Global = length m.globals
entries_of m part.Element = length m.elements
entries_of m part.Segment = length m.segments
entries_of m part.Start = starts m.start
entries_of m part.Export = length m.exports
entries_of m part.Code = length m.codes

-- The bounds of the profile on a code, which every code that bytes spell keeps: its blocks match, at most 256
-- of them are open at once, and it has at most 4,096 locals.
pub record IsBounded (code : Code) : Type 0 where
  pub sequence : Nested
  pub nests : NestsAs code.body sequence
  pub depth : depth_of sequence ≤ 256
  pub locals : length code.locals ≤ 4096

-- THE VALID MODULES (section 3.4.10): each entry of each part is valid, each function of its own has its code,
-- and the codes keep the bounds. The last two hold of every module that bytes spell.
pub record IsValid (m : Module) : Type 0 where
  pub entries : (p : Part) (n : ℕ) → n < entries_of m p → IsGood m p n
  pub coded : length m.functions ≡ length m.codes
  pub bounded : All IsBounded m.codes

-- ---- the first fault

-- the order in which the parts are looked at
abbrev pub turn_of : Part → ℕ
turn_of part.Signature = 0
turn_of part.Import = 1
turn_of part.Function = 2
turn_of part.Table = 3
turn_of part.Memory = 4
turn_of part.Global = 5
turn_of part.Element = 6
turn_of part.Segment = 7
turn_of part.Start = 8
turn_of part.Export = 9
turn_of part.Code = 10

abbrev pub ComesBefore : (q : Part) (k : ℕ) (p : Part) (n : ℕ) → Type 0
ComesBefore q k p n = (turn_of q < turn_of p) ⊎ ((q ≡ p) × (k < n))

-- some instructions behind these make a body of the n-th function
abbrev pub CanGoOn : Module → ℕ → List ValueType → List Instr → Type 0
CanGoOn m n locals is = (c : Context) × (more : List Instr) × HasContext m n locals c × IsTypedBody c (is ++ more)

-- The first instruction of a code up to which the body cannot be typed, whatever stands behind it.
pub record IsFirstUntyped (m : Module) (n : ℕ) (code : Code) (place : ℕ) : Type 0 where
  pub ends : CanGoOn m n code.locals (take (suc place) code.body) → ⊥
  pub goes : (k : ℕ) → k < place → CanGoOn m n code.locals (take (suc k) code.body)

-- only codes have places
abbrev pub IsPlace : Module → Part → ℕ → ℕ → Type 0
IsPlace m part.Code n place = At m.codes n (λ code. IsFirstUntyped m n code place)
IsPlace m p n place = place ≡ 0

-- THE FIRST FAULT of a module that bytes spell: the first entry that is not valid, in the order of the parts.
pub record FirstInvalid (m : Module) (p : Part) (n place : ℕ) : Type 0 where
  pub there : n < entries_of m p
  pub bad : IsGood m p n → ⊥
  pub before : (q : Part) (k : ℕ) → ComesBefore q k p n → k < entries_of m q → IsGood m q k
  pub at : IsPlace m p n place
