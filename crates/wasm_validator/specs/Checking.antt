-- How a body is checked from left to right. This is the checker's way and no part of what typing means: that
-- it accepts exactly what is typed is proved in proofs/Exact.antt.
use Rattle.std.specs.Prelude.{◌≡◌, ℕ, Bool, true, false, List, [], ◌∷◌, ◌++◌, Option, Some, None, slice_get, reverse, nat_lt, nat_le, ◌&&◌, if◌then◌else◌}
use Rattle.wasm_syntax.specs.declared.types.ValueType.{ValueType}
use Rattle.wasm_syntax.specs.declared.types.ValueType.TheVariants.{I32, I64}
use Rattle.wasm_syntax.specs.declared.types.FunctionType.{FunctionType}
use Rattle.wasm_syntax.specs.declared.instr.Instr.{Instr}
use Rattle.wasm_syntax.specs.declared.instr.BlockType.{BlockType}
use Rattle.wasm_syntax.specs.declared.row.Row.{Row}
use Rattle.wasm_syntax.specs.declared.row.Row.TheVariants as row
use Rattle.wasm_syntax.specs.Rows.{row_of, labels_of}
use Rattle.wasm_syntax.specs.Nested.{Mark, begins_block, begins_loop, begins_if, at_else, at_end, stands_alone, mark_of}
use Rattle.wasm_syntax.specs.Typing.{Context, left_by}

abbrev pub and_then : {A B : Type 0} → Option A → (A → Option B) → Option B
and_then None f = None
and_then (Some x) f = f x

-- ---- what is known of a stack

-- Types, topmost first, of which some may be any; and below them nothing, or any types.
pub record Pattern : Type 0 where
  pub known : List (Option ValueType)
  pub free : Bool

abbrev pub no_types : Pattern
no_types = record { known = []; free = false }

abbrev pub any_types : Pattern
any_types = record { known = []; free = true }

abbrev pub same_type : ValueType → ValueType → Bool
same_type I32 I32 = true
same_type I32 I64 = false
same_type I64 I32 = false
same_type I64 I64 = true

abbrev pub may_be : ValueType → Option ValueType → Bool
may_be t None = true
may_be t (Some u) = same_type t u

-- the topmost type, and what is left
abbrev pub popped_any : Pattern → Option (Option ValueType × Pattern)
popped_any p = elim p.known [
  | [] ↦ if p.free then Some (None, p) else None
  | k ∷ ks ↦ Some (k, record p { known = ks })
]

abbrev pub taken_if : Bool → Pattern → Option Pattern
taken_if true p = Some p
taken_if false p = None

abbrev pub popped : ValueType → Pattern → Option Pattern
popped t p = and_then (popped_any p) (λ top. taken_if (may_be t top.0) top.1)

abbrev pub all_popped : List ValueType → Pattern → Option Pattern
all_popped [] p = Some p
all_popped (t ∷ ts) p = and_then (popped t p) (all_popped ts)

abbrev pub pushed_any : Option ValueType → Pattern → Pattern
pushed_any k p = record p { known = k ∷ p.known }

-- the first of them comes to stand topmost
abbrev pub all_pushed : List ValueType → Pattern → Pattern
all_pushed [] p = p
all_pushed (t ∷ ts) p = pushed_any (Some t) (all_pushed ts p)

abbrev pub is_empty : {A : Type 0} → List A → Bool
is_empty [] = true
is_empty (x ∷ xs) = false

-- exactly these types may stand there
abbrev pub may_end_with : List ValueType → Pattern → Bool
may_end_with ts p = elim (all_popped ts p) [
  | None ↦ false
  | Some q ↦ is_empty q.known
]

-- ---- an instruction that holds no others

-- what is known of one that may be both
abbrev pub joined : Option ValueType → Option ValueType → Option (Option ValueType)
joined None l = Some l
joined (Some t) None = Some (Some t)
joined (Some t) (Some u) = if same_type t u then Some (Some t) else None

pub data Rule : Type 0 where
  -- takes these and gives these
  gives : (takes gives : List ValueType) → Rule
  -- takes any one
  drops : Rule
  -- takes a choice and two of one type, and gives one
  selects : Rule
  -- takes these, and nothing behind it is reached
  leaves : (takes : List ValueType) → Rule

abbrev pub selected : Pattern → Option Pattern
selected p = and_then (popped I32 p) (λ a. and_then (popped_any a) (λ first. and_then (popped_any first.1) (λ second.
    and_then (joined first.0 second.0) (λ k. Some (pushed_any k second.1)))))

abbrev pub acted : Rule → Pattern → Option Pattern
acted (gives ts us) p = and_then (all_popped ts p) (λ q. Some (all_pushed us q))
acted drops p = and_then (popped_any p) (λ top. Some top.1)
acted selects p = selected p
acted (leaves ts) p = and_then (all_popped ts p) (λ q. Some any_types)

-- ---- what the context says of it

abbrev pub same_types : List ValueType → List ValueType → Bool
same_types [] [] = true
same_types [] (u ∷ us) = false
same_types (t ∷ ts) [] = false
same_types (t ∷ ts) (u ∷ us) = same_type t u && same_types ts us

abbrev pub has_label : Context → List ValueType → ℕ → Bool
has_label c ts l = elim (slice_get c.labels l) [
  | None ↦ false
  | Some us ↦ same_types us ts
]

abbrev pub all_have : Context → List ValueType → List ℕ → Bool
all_have c ts [] = true
all_have c ts (l ∷ ls) = has_label c ts l && all_have c ts ls

abbrev pub ruled_if : Bool → Rule → Option Rule
ruled_if true r = Some r
ruled_if false r = None

abbrev pub called : (above : List ValueType) → FunctionType → Rule
called above t = gives (above ++ reverse t.parameters) t.results

-- none where the context does not let it stand there
abbrev pub rule_of : Context → Row → (labels : List ℕ) → Option Rule
rule_of c row.Nop ls = Some (gives [] [])
rule_of c row.Drop ls = Some drops
rule_of c row.Select ls = Some selects
rule_of c (row.Const t) ls = Some (gives [] (t ∷ []))
rule_of c (row.Unary t u) ls = Some (gives (t ∷ []) (u ∷ []))
rule_of c (row.Binary t u) ls = Some (gives (t ∷ t ∷ []) (u ∷ []))
rule_of c (row.LocalGet x) ls = and_then (slice_get c.locals x) (λ t. Some (gives [] (t ∷ [])))
rule_of c (row.LocalSet x) ls = and_then (slice_get c.locals x) (λ t. Some (gives (t ∷ []) []))
rule_of c (row.LocalTee x) ls = and_then (slice_get c.locals x) (λ t. Some (gives (t ∷ []) (t ∷ [])))
rule_of c (row.GlobalGet x) ls = and_then (slice_get c.globals x) (λ g. Some (gives [] (g.value ∷ [])))
rule_of c (row.GlobalSet x) ls = and_then (slice_get c.globals x) (λ g. ruled_if g.is_mutable (gives (g.value ∷ []) []))
rule_of c (row.Load t width align) ls = ruled_if (nat_lt 0 c.memories && nat_le align width) (gives (I32 ∷ []) (t ∷ []))
rule_of c (row.Store t width align) ls = ruled_if (nat_lt 0 c.memories && nat_le align width) (gives (t ∷ I32 ∷ []) [])
rule_of c row.MemorySize ls = ruled_if (nat_lt 0 c.memories) (gives [] (I32 ∷ []))
rule_of c row.MemoryGrow ls = ruled_if (nat_lt 0 c.memories) (gives (I32 ∷ []) (I32 ∷ []))
rule_of c row.BulkMemory ls = ruled_if (nat_lt 0 c.memories) (gives (I32 ∷ I32 ∷ I32 ∷ []) [])
rule_of c (row.Call x) ls = and_then (slice_get c.functions x) (λ f. and_then (slice_get c.types f) (λ t. Some (called [] t)))
rule_of c (row.CallIndirect x) ls = and_then (slice_get c.types x) (λ t. ruled_if (nat_lt 0 c.tables) (called (I32 ∷ []) t))
rule_of c row.Unreachable ls = Some (leaves [])
rule_of c (row.Br l) ls = and_then (slice_get c.labels l) (λ ts. Some (leaves ts))
rule_of c (row.BrTable l) ls = and_then (slice_get c.labels l) (λ ts. ruled_if (all_have c ts ls) (leaves (I32 ∷ ts)))
rule_of c row.Return ls = Some (leaves c.results)
rule_of c (row.BrIf l) ls = and_then (slice_get c.labels l) (λ ts. Some (gives (I32 ∷ ts) ts))
rule_of c (row.Block t) ls = None
rule_of c (row.Loop t) ls = None
rule_of c (row.If t) ls = None
rule_of c row.Else ls = None
rule_of c row.End ls = None

-- ---- the blocks that are open

pub record Layer : Type 0 where
  -- what a branch to it takes
  pub label : List ValueType
  -- what it leaves
  pub results : List ValueType
  -- it is an `if` whose `else` may come
  pub awaits : Bool
  -- what stands in it so far
  pub stack : Pattern

abbrev pub block_layer : BlockType → Layer
block_layer t = record { label = left_by t; results = left_by t; awaits = false; stack = no_types }

abbrev pub loop_layer : BlockType → Layer
loop_layer t = record { label = []; results = left_by t; awaits = false; stack = no_types }

abbrev pub if_layer : BlockType → Layer
if_layer t = record { label = left_by t; results = left_by t; awaits = true; stack = no_types }

abbrev pub else_layer : Layer → Layer
else_layer l = record l { awaits = false; stack = no_types }

abbrev pub body_layer : Context → Layer
body_layer c = record { label = c.results; results = c.results; awaits = false; stack = no_types }

abbrev pub labels_in : List Layer → List (List ValueType)
labels_in [] = []
labels_in (l ∷ ls) = l.label ∷ labels_in ls

-- the context inside these blocks
abbrev pub within : Context → List Layer → Context
within c ls = record c { labels = labels_in ls }

-- the types that a block leaves on what stands around it
abbrev pub left_on : List ValueType → List Layer → List Layer
left_on ts [] = []
left_on ts (l ∷ ls) = record l { stack = all_pushed ts l.stack } ∷ ls

-- an `if` that has had no `else` leaves what it took, so nothing
abbrev pub needs_no_else : Layer → Bool
needs_no_else l = if l.awaits then is_empty l.results else true

abbrev pub layers_if : Bool → List Layer → Option (List Layer)
layers_if true ls = Some ls
layers_if false ls = None

abbrev pub with_stack : Layer → Pattern → Layer
with_stack l p = record l { stack = p }

-- behind an instruction; none where it may not stand there
abbrev pub stepped_by : Context → List Layer → Instr → Mark → Option (List Layer)
stepped_by c [] i m = None
stepped_by c (l ∷ ls) i (begins_block t) = Some (block_layer t ∷ l ∷ ls)
stepped_by c (l ∷ ls) i (begins_loop t) = Some (loop_layer t ∷ l ∷ ls)
stepped_by c (l ∷ ls) i (begins_if t) = and_then (popped I32 l.stack) (λ p. Some (if_layer t ∷ with_stack l p ∷ ls))
stepped_by c (l ∷ ls) i at_else = layers_if (l.awaits && may_end_with l.results l.stack) (else_layer l ∷ ls)
stepped_by c (l ∷ ls) i at_end = layers_if (needs_no_else l && may_end_with l.results l.stack) (left_on l.results ls)
stepped_by c (l ∷ ls) i stands_alone = and_then (rule_of (within c (l ∷ ls)) (row_of i) (labels_of i)) (λ r. and_then (acted r l.stack) (λ p. Some (with_stack l p ∷ ls)))

unfoldable pub stepped : Context → List Layer → Instr → Option (List Layer)
stepped c ls i = stepped_by c ls i (mark_of (row_of i))

-- behind a list of them
abbrev pub walked : Context → List Layer → List Instr → Option (List Layer)
walked c ls [] = Some ls
walked c ls (i ∷ is) = and_then (stepped c ls i) (λ now. walked c now is)

-- ---- what a test that changes a value tells

-- where it answers true the value is what there is, and else there is none
abbrev pub Tells : {A : Type 0} → Bool → Option A → A → Type 0
Tells true there now = there ≡ Some now
Tells false there now = there ≡ None
