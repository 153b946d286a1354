-- The worked bodies.
use Rattle.std.proofs.Common.{◌≡◌, ℕ, ◌<◌, ◌≤◌, pos, List, [], ◌∷◌, ◌++◌, refl, sym, ap, subst, ◌∙◌, arith}
use Rattle.wasm_syntax.specs.declared.types.ValueType.{ValueType}
use Rattle.wasm_syntax.specs.declared.types.ValueType.TheVariants.{I32, I64}
use Rattle.wasm_syntax.specs.declared.instr.Instr.{Instr}
use Rattle.wasm_syntax.specs.declared.instr.Instr.TheVariants as instr
use Rattle.wasm_syntax.specs.declared.instr.BlockType.TheVariants as block_type
use Rattle.wasm_syntax.specs.Rows.{row_of, labels_of}
use Rattle.wasm_syntax.specs.Nested.{Nested, nothing, simple, block, loop, choice, nests, NestsAs}
use Rattle.wasm_syntax.specs.Typing.{Context, inside, Takes, Leads, Typed, IsTypedBody}
use Rattle.wasm_syntax.specs.ValidExamples.{nowhere, with_memory, unreachable_add, branch_in_loop, branch_in_block, branch_with_result, both_branches, one_branch, drop_from_below, load_aligned, copy_words, fill_long}
use Rattle.wasm_syntax.proofs.NestingLaws.{one_nesting}
use Rattle.wasm_syntax.proofs.TypingLaws.{same_some}

-- an instruction over what stands below its operands
pub step : (c : Context) (i : Instr) (takes gives below : List ValueType) → Takes c (row_of i) (labels_of i) takes gives → Leads c i (takes ++ below) (gives ++ below)
step c i takes gives below may = record { takes = takes; gives = gives; below = below; may = may; from = refl; to = refl }

-- a body is typed as the sequence as which it nests
pub typed_as : (c : Context) (is : List Instr) (code : Nested) → NestsAs is code → IsTypedBody c is → Typed (inside c.results c) code [] c.results
typed_as c is code e t = subst (λ (d : Nested). Typed (inside c.results c) d [] c.results) (one_nesting is t.0 code t.1 e) t.2

-- nothing that takes a value from an empty stack leads anywhere
none_to_take : (t : ValueType) (ts takes below : List ValueType) → takes ≡ t ∷ ts → [] ≡ takes ++ below → ⊥
none_to_take t ts takes below e f = let g : [] ≡ (t ∷ ts) ++ below = f ∙ ap (λ (x : List ValueType). x ++ below) e in absurd cc

abbrev at_start : Context
at_start = inside [] nowhere

abbrev in_block : List ValueType → Context
in_block label = inside label at_start

abbrev constant : (n : ℕ) → Instr
constant n = instr.I32Const (pos n)

pub behind_unreachable : IsTypedBody nowhere unreachable_add
unfolding nests
behind_unreachable = (
  simple instr.Unreachable (simple instr.I32Add (simple instr.Drop nothing)),
  refl,
  (
    I32 ∷ I32 ∷ [],
    step at_start instr.Unreachable [] (I32 ∷ I32 ∷ []) [] tt,
    (
      I32 ∷ [],
      step at_start instr.I32Add (I32 ∷ I32 ∷ []) (I32 ∷ []) [] (refl, refl),
      ([], step at_start instr.Drop (I32 ∷ []) [] [] (I32, (refl, refl)), refl),
    ),
  ),
)

pub loop_takes_nothing : IsTypedBody nowhere branch_in_loop
unfolding nests
loop_takes_nothing = (
  loop (block_type.Value I32) (simple (instr.Br 0) nothing) (simple instr.Drop nothing),
  refl,
  (
    (I32 ∷ [], step (in_block []) (instr.Br 0) [] (I32 ∷ []) [] ([], [], refl, refl), refl),
    ([], step at_start instr.Drop (I32 ∷ []) [] [] (I32, (refl, refl)), refl),
  ),
)

pub block_takes_its_result : IsTypedBody nowhere branch_with_result
unfolding nests
block_takes_its_result = (
  block (block_type.Value I32) (simple (constant 7) (simple (instr.Br 0) nothing)) (simple instr.Drop nothing),
  refl,
  (
    (
      I32 ∷ [],
      step (in_block (I32 ∷ [])) (constant 7) [] (I32 ∷ []) [] (refl, refl),
      (I32 ∷ [], step (in_block (I32 ∷ [])) (instr.Br 0) (I32 ∷ []) (I32 ∷ []) [] (I32 ∷ [], [], refl, refl), refl),
    ),
    ([], step at_start instr.Drop (I32 ∷ []) [] [] (I32, (refl, refl)), refl),
  ),
)

-- no branch to a label that takes a value begins with none
no_branch : (after : List ValueType) → Leads (in_block (I32 ∷ [])) (instr.Br 0) [] after → ⊥
no_branch after l =
    let is : I32 ∷ [] ≡ l.may.0 = same_some (I32 ∷ []) l.may.0 l.may.2 in
    none_to_take I32 l.may.1 l.takes l.below (l.may.3 ∙ ap (λ (x : List ValueType). x ++ l.may.1) (sym is)) l.from

pub block_wants_its_result : IsTypedBody nowhere branch_in_block → ⊥
unfolding nests
block_wants_its_result t =
    let u : Typed at_start (block (block_type.Value I32) (simple (instr.Br 0) nothing) (simple instr.Drop nothing)) [] [] =
    typed_as nowhere branch_in_block (block (block_type.Value I32) (simple (instr.Br 0) nothing) (simple instr.Drop nothing)) refl t in
    no_branch u.0.0 u.0.1

pub if_and_else : IsTypedBody nowhere both_branches
unfolding nests
if_and_else = (
  simple (constant 1) (choice (block_type.Value I64) (simple (instr.I64Const (pos 2)) nothing) (simple (instr.I64Const (pos 3)) nothing) (simple instr.Drop nothing)),
  refl,
  (
    I32 ∷ [],
    step at_start (constant 1) [] (I32 ∷ []) [] (refl, refl),
    (
      [],
      refl,
      (I64 ∷ [], step (in_block (I64 ∷ [])) (instr.I64Const (pos 2)) [] (I64 ∷ []) [] (refl, refl), refl),
      (I64 ∷ [], step (in_block (I64 ∷ [])) (instr.I64Const (pos 3)) [] (I64 ∷ []) [] (refl, refl), refl),
      ([], step at_start instr.Drop (I64 ∷ []) [] [] (I64, (refl, refl)), refl),
    ),
  ),
)

pub no_else_no_result : (c : Context) (t : ValueType) (then rest : Nested) (before after : List ValueType) → Typed c (choice (block_type.Value t) then nothing rest) before after → ⊥
no_else_no_result c t then rest before after u = let e : [] ≡ t ∷ [] = u.3 in absurd cc

pub if_alone : IsTypedBody nowhere one_branch → ⊥
unfolding nests
if_alone t =
    let u : Typed at_start (simple (constant 1) (choice (block_type.Value I32) (simple (constant 1) nothing) nothing (simple instr.Drop nothing))) [] [] =
    typed_as nowhere one_branch (simple (constant 1) (choice (block_type.Value I32) (simple (constant 1) nothing) nothing (simple instr.Drop nothing))) refl t in
    no_else_no_result at_start I32 (simple (constant 1) nothing) (simple instr.Drop nothing) u.0 [] u.2

pub block_leaves_below : IsTypedBody nowhere drop_from_below → ⊥
unfolding nests
block_leaves_below t =
    let u : Typed at_start (simple (constant 1) (block block_type.Empty (simple instr.Drop nothing) nothing)) [] [] =
    typed_as nowhere drop_from_below (simple (constant 1) (block block_type.Empty (simple instr.Drop nothing) nothing)) refl t in
    let l : Leads (in_block []) instr.Drop [] u.2.0.0 = u.2.0.1 in
    none_to_take l.may.0 [] l.takes l.below l.may.1.0 l.from

-- ---- loads

abbrev loads : ℕ → Instr
loads align = instr.I32Load (record { align = align; offset = 0 })

abbrev load_code : ℕ → Nested
load_code align = simple (constant 0) (simple (loads align) (simple instr.Drop nothing))

load_nests : (align : ℕ) → NestsAs (load_aligned align) (load_code align)
unfolding nests
load_nests align = refl

pub aligned : IsTypedBody with_memory (load_aligned 2)
aligned = (
  load_code 2,
  load_nests 2,
  (
    I32 ∷ [],
    step (inside [] with_memory) (constant 0) [] (I32 ∷ []) [] (refl, refl),
    (
      I32 ∷ [],
      step (inside [] with_memory) (loads 2) (I32 ∷ []) (I32 ∷ []) [] (omega arith, omega arith, (refl, refl)),
      ([], step (inside [] with_memory) instr.Drop (I32 ∷ []) [] [] (I32, (refl, refl)), refl),
    ),
  ),
)

pub aligned_too_far : IsTypedBody with_memory (load_aligned 3) → ⊥
aligned_too_far t =
    let u : Typed (inside [] with_memory) (load_code 3) [] [] = typed_as with_memory (load_aligned 3) (load_code 3) (load_nests 3) t in
    let l : Leads (inside [] with_memory) (loads 3) u.0 u.2.0 = u.2.1 in
    let most : 3 ≤ 2 = l.may.1 in
    omega arith

pub no_memory : IsTypedBody nowhere (load_aligned 2) → ⊥
no_memory t =
    let u : Typed at_start (load_code 2) [] [] = typed_as nowhere (load_aligned 2) (load_code 2) (load_nests 2) t in
    let l : Leads at_start (loads 2) u.0 u.2.0 = u.2.1 in
    let some : 0 < 0 = l.may.0 in
    omega arith

-- ---- copies and fills

abbrev bulk_code : (length bulk : Instr) → Nested
bulk_code n bulk = simple (constant 0) (simple (constant 8) (simple n (simple bulk nothing)))

copy_nests : NestsAs copy_words (bulk_code (constant 4) instr.MemoryCopy)
unfolding nests
copy_nests = refl

fill_nests : NestsAs fill_long (bulk_code (instr.I64Const (pos 4)) instr.MemoryFill)
unfolding nests
fill_nests = refl

pub copies : IsTypedBody with_memory copy_words
copies = (
  bulk_code (constant 4) instr.MemoryCopy,
  copy_nests,
  (
    I32 ∷ [],
    step (inside [] with_memory) (constant 0) [] (I32 ∷ []) [] (refl, refl),
    (
      I32 ∷ I32 ∷ [],
      step (inside [] with_memory) (constant 8) [] (I32 ∷ []) (I32 ∷ []) (refl, refl),
      (
        I32 ∷ I32 ∷ I32 ∷ [],
        step (inside [] with_memory) (constant 4) [] (I32 ∷ []) (I32 ∷ I32 ∷ []) (refl, refl),
        ([], step (inside [] with_memory) instr.MemoryCopy (I32 ∷ I32 ∷ I32 ∷ []) [] [] (omega arith, (refl, refl)), refl),
      ),
    ),
  ),
)

pub no_memory_to_copy : IsTypedBody nowhere copy_words → ⊥
no_memory_to_copy t =
    let u : Typed at_start (bulk_code (constant 4) instr.MemoryCopy) [] [] = typed_as nowhere copy_words (bulk_code (constant 4) instr.MemoryCopy) copy_nests t in
    let l : Leads at_start instr.MemoryCopy u.2.2.0 u.2.2.2.0 = u.2.2.2.1 in
    let some : 0 < 0 = l.may.0 in
    omega arith

-- a constant of 64 bits stands topmost behind it
long_topmost : (c : Context) (before after : List ValueType) → Leads c (instr.I64Const (pos 4)) before after → after ≡ I64 ∷ before
long_topmost c before after l =
    let none : before ≡ l.below = l.from ∙ ap (λ (x : List ValueType). x ++ l.below) l.may.0 in
    l.to ∙ ap (λ (x : List ValueType). x ++ l.below) l.may.1 ∙ ap (λ (x : List ValueType). I64 ∷ x) (sym none)

pub length_of_64_bits : IsTypedBody with_memory fill_long → ⊥
length_of_64_bits t =
    let u : Typed (inside [] with_memory) (bulk_code (instr.I64Const (pos 4)) instr.MemoryFill) [] [] = typed_as with_memory fill_long (bulk_code (instr.I64Const (pos 4)) instr.MemoryFill) fill_nests t in
    let long : u.2.2.0 ≡ I64 ∷ u.2.0 = long_topmost (inside [] with_memory) u.2.0 u.2.2.0 u.2.2.1 in
    let l : Leads (inside [] with_memory) instr.MemoryFill u.2.2.0 u.2.2.2.0 = u.2.2.2.1 in
    let words : u.2.2.0 ≡ (I32 ∷ I32 ∷ I32 ∷ []) ++ l.below = l.from ∙ ap (λ (x : List ValueType). x ++ l.below) l.may.1.0 in
    let same : I64 ∷ u.2.0 ≡ (I32 ∷ I32 ∷ I32 ∷ []) ++ l.below = sym long ∙ words in
    absurd cc
