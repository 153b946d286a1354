-- What is spelled as an expression nests, with at most 256 blocks open at once, and has no more instructions
-- than bytes.
use Rattle.std.proofs.Common.{◌≡◌, ℕ, ◌+◌, ◌<◌, ◌≤◌, Bool, true, false, cond, Option, Some, None, List, [], ◌∷◌, length, drop, Result, Ok, Err, refl, sym, ap, subst, ◌∙◌, arith}
use Rattle.std.specs.Prelude.{nat_lt, slice_index_or}
use Rattle.std.proofs.lemmas.List.{length-append}
use Rattle.std.proofs.lemmas.Bool.{ltb-true}
use Rattle.wasm_syntax.specs.declared.opcode.TheConstants.{OPCODES}
use Rattle.wasm_syntax.specs.declared.opcode.Opcode.{Opcode}
use Rattle.wasm_syntax.specs.declared.opcode.OpcodeByte.{OpcodeByte}
use Rattle.wasm_syntax.specs.declared.opcode.OpcodeByte.TheVariants.{Known, Float, Unknown}
use Rattle.wasm_syntax.specs.declared.instr.Instr.{Instr}
use Rattle.wasm_syntax.specs.declared.instr.Instr.TheVariants as instr
use Rattle.wasm_syntax.specs.declared.instr.BlockType.{BlockType}
use Rattle.wasm_syntax.specs.declared.instr.Open.{Open}
use Rattle.wasm_syntax.specs.declared.instr.Open.TheVariants.{InThen, InOther}
use Rattle.wasm_syntax.specs.Opcodes.{Shape, Plain, WithBlock, WithIndex, WithLabels, WithTypeAndZero, WithMemory, WithZero, WithWord, WithLong, WithNumber, shape_of, opcode_of, MakesOpcode}
use Rattle.wasm_syntax.specs.Rows.{row_of}
use Rattle.wasm_syntax.specs.Nested.{Nested, nothing, simple, block, loop, choice, Cut, whole, ended, parted, broken, first_as, closed_by, chosen_by, Mark, begins_block, begins_loop, begins_if, at_else, at_end, stands_alone, mark_of, in_front, nests, NestsAs, depth_of}
use Rattle.wasm_syntax.specs.Format.{Format, goes_on, IsLast, ChainSpells}
use Rattle.wasm_syntax.specs.Grammar.{is_placed, has_room, open_after, opcode_said, operands, instruction, expression}
use Rattle.wasm_syntax.proofs.Table.{rows_make_their_opcodes}
use Rattle.wasm_syntax.proofs.ChainLaws.{first_link, no_link}

-- ---- the rules of nesting, by marks in place of opcodes

abbrev room_at : List Open → Mark → Bool
room_at blocks (begins_block t) = nat_lt (length blocks) 256
room_at blocks (begins_loop t) = nat_lt (length blocks) 256
room_at blocks (begins_if t) = nat_lt (length blocks) 256
room_at blocks at_else = true
room_at blocks at_end = true
room_at blocks stands_alone = true

abbrev else_at : List Open → Bool
else_at [] = false
else_at (InThen ∷ blocks) = true
else_at (InOther ∷ blocks) = false

abbrev placed_at : List Open → Mark → Bool
placed_at blocks (begins_block t) = true
placed_at blocks (begins_loop t) = true
placed_at blocks (begins_if t) = true
placed_at blocks at_else = else_at blocks
placed_at blocks at_end = true
placed_at blocks stands_alone = true

abbrev end_at : List Open → Option (List Open)
end_at [] = None
end_at (b ∷ blocks) = Some blocks

abbrev open_behind : List Open → Mark → Option (List Open)
open_behind blocks (begins_block t) = Some (InOther ∷ blocks)
open_behind blocks (begins_loop t) = Some (InOther ∷ blocks)
open_behind blocks (begins_if t) = Some (InThen ∷ blocks)
open_behind blocks at_else = Some (InOther ∷ drop 1 blocks)
open_behind blocks at_end = end_at blocks
open_behind blocks stands_alone = Some blocks

room_by_mark : (blocks : List Open) (i : Instr) → has_room blocks (opcode_of i) ≡ room_at blocks (mark_of (row_of i))
room_by_mark blocks (instr.Block t) = refl
room_by_mark blocks i = refl

placed_by_mark : (blocks : List Open) (i : Instr) → is_placed blocks (opcode_of i) ≡ placed_at blocks (mark_of (row_of i))
placed_by_mark [] (instr.Block t) = refl
placed_by_mark [] i = refl
placed_by_mark (InThen ∷ blocks) (instr.Block t) = refl
placed_by_mark (InThen ∷ blocks) i = refl
placed_by_mark (InOther ∷ blocks) (instr.Block t) = refl
placed_by_mark (InOther ∷ blocks) i = refl

open_by_mark : (blocks : List Open) (i : Instr) → open_after blocks (opcode_of i) ≡ open_behind blocks (mark_of (row_of i))
open_by_mark [] (instr.Block t) = refl
open_by_mark [] i = refl
open_by_mark (b ∷ blocks) (instr.Block t) = refl
open_by_mark (b ∷ blocks) i = refl

-- ---- what a spelled instruction says

chosen_ok : (b : Bool) (p o : Opcode) → cond {A = Result Opcode ℕ} b (Ok p) (Err 5) ≡ Ok o → (b ≡ true) × (p ≡ o)
chosen_ok true p o e = (refl, cc)
chosen_ok false p o e = absurd cc

said_placed : (blocks : List Open) (e : OpcodeByte) (o : Opcode) → opcode_said blocks e ≡ Ok o → is_placed blocks o ≡ true
said_placed blocks (Known p) o h = let c = chosen_ok (is_placed blocks p) p o h in subst (λ (q : Opcode). is_placed blocks q ≡ true) c.1 c.0
said_placed blocks Float o h = absurd cc
said_placed blocks Unknown o h = absurd cc

operands_opcode : (s : Shape) (o : Opcode) → MakesOpcode o s → (i : Instr) (text : List ℕ) → (operands s).spells i text → opcode_of i ≡ o
unfolding operands
operands_opcode (Plain j) o h i text s = ap opcode_of s.0 ∙ h
operands_opcode (WithBlock f) o h i text s = ap opcode_of s.second_spelled.0 ∙ h s.value
operands_opcode (WithIndex f) o h i text s = ap opcode_of s.second_spelled.0 ∙ h s.value
operands_opcode (WithLabels f) o h i text s = ap opcode_of s.second_spelled.second_spelled.0 ∙ h s.value s.second_spelled.value
operands_opcode (WithTypeAndZero f) o h i text s = ap opcode_of s.second_spelled.second_spelled.0 ∙ h s.value
operands_opcode (WithMemory f) o h i text s = ap opcode_of s.second_spelled.0 ∙ h s.value
operands_opcode (WithZero j) o h i text s = ap opcode_of s.second_spelled.0 ∙ h
operands_opcode (WithWord f) o h i text s = ap opcode_of s.second_spelled.0 ∙ h s.value
operands_opcode (WithLong f) o h i text s = ap opcode_of s.second_spelled.0 ∙ h s.value
operands_opcode (WithNumber f) o h i text s = ap opcode_of s.second_spelled.second_spelled.0 ∙ h s.value

record IsAllowed (blocks : List Open) (i : Instr) (text : List ℕ) : Type 0 where
  room : room_at blocks (mark_of (row_of i)) ≡ true
  placed : placed_at blocks (mark_of (row_of i)) ≡ true
  some : 0 < length text

instruction_allowed : (blocks : List Open) (i : Instr) (text : List ℕ) → (instruction blocks).spells i text → IsAllowed blocks i text
unfolding instruction
instruction_allowed blocks i text s =
    let b = s.first_spelled.0 in
    let o : opcode_of i ≡ s.value = operands_opcode (shape_of s.value) s.value (rows_make_their_opcodes s.value) i s.back s.second_spelled in
    let placed : is_placed blocks s.value ≡ true = said_placed blocks (slice_index_or OPCODES b.byte Unknown) s.value b.judged in
    record {
      room = sym (room_by_mark blocks i) ∙ (ap (has_room blocks) o ∙ s.first_spelled.1);
      placed = sym (placed_by_mark blocks i) ∙ (ap (is_placed blocks) o ∙ placed);
      some = omega (arith, ap length s.parts, length-append s.front s.back, ap length b.alone);
    }

-- ---- the cuts that fit what is open

-- a sequence within these blocks
abbrev Fits : List Open → Nested → Type 0
Fits blocks c = depth_of c + length blocks ≤ 256

-- the ends and the `else` are those of the open blocks, the innermost first, and then that of the whole
abbrev Shaped : List Open → Cut → Type 0
Shaped [] (ended c behind) = Fits [] c × (behind ≡ whole nothing)
Shaped [] (whole c) = ⊥
Shaped [] (parted c behind) = ⊥
Shaped [] broken = ⊥
Shaped (InOther ∷ blocks) (ended c behind) = Fits (InOther ∷ blocks) c × Shaped blocks behind
Shaped (InOther ∷ blocks) (whole c) = ⊥
Shaped (InOther ∷ blocks) (parted c behind) = ⊥
Shaped (InOther ∷ blocks) broken = ⊥
Shaped (InThen ∷ blocks) (ended c behind) = Fits (InThen ∷ blocks) c × Shaped blocks behind
Shaped (InThen ∷ blocks) (parted c behind) = Fits (InThen ∷ blocks) c × Shaped (InOther ∷ blocks) behind
Shaped (InThen ∷ blocks) (whole c) = ⊥
Shaped (InThen ∷ blocks) broken = ⊥

-- a longer first sequence
first_shaped : (f : Nested → Nested) (blocks : List Open) (cut : Cut) → ((c : Nested) → Fits blocks c → Fits blocks (f c)) → Shaped blocks cut → Shaped blocks (first_as f cut)
first_shaped f [] (ended c behind) h s = (h c s.0, s.1)
first_shaped f [] (whole c) h s = absurd s
first_shaped f [] (parted c behind) h s = absurd s
first_shaped f [] broken h s = absurd s
first_shaped f (InOther ∷ blocks) (ended c behind) h s = (h c s.0, s.1)
first_shaped f (InOther ∷ blocks) (whole c) h s = absurd s
first_shaped f (InOther ∷ blocks) (parted c behind) h s = absurd s
first_shaped f (InOther ∷ blocks) broken h s = absurd s
first_shaped f (InThen ∷ blocks) (ended c behind) h s = (h c s.0, s.1)
first_shaped f (InThen ∷ blocks) (parted c behind) h s = (h c s.0, s.1)
first_shaped f (InThen ∷ blocks) (whole c) h s = absurd s
first_shaped f (InThen ∷ blocks) broken h s = absurd s

-- a block, or the last part of an `if`, whose depth outside is known
closed_shaped : (make : Nested → Nested → Nested) (blocks : List Open) (cut : Cut) → ((body c : Nested) → Fits (InOther ∷ blocks) body → Fits blocks c → Fits blocks (make body c))
    → Shaped (InOther ∷ blocks) cut → Shaped blocks (closed_by make cut)
closed_shaped make blocks (ended body behind) h s = first_shaped (make body) blocks behind (λ c. h body c s.0) s.1
closed_shaped make blocks (whole c) h s = absurd s
closed_shaped make blocks (parted c behind) h s = absurd s
closed_shaped make blocks broken h s = absurd s

block_fits : (t : BlockType) (blocks : List Open) (body c : Nested) → Fits (InOther ∷ blocks) body → Fits blocks c → Fits blocks (block t body c)
block_fits t blocks body c p q = omega arith

loop_fits : (t : BlockType) (blocks : List Open) (body c : Nested) → Fits (InOther ∷ blocks) body → Fits blocks c → Fits blocks (loop t body c)
loop_fits t blocks body c p q = omega arith

choice_fits : (t : BlockType) (blocks : List Open) (then other c : Nested) → Fits (InThen ∷ blocks) then → Fits (InOther ∷ blocks) other → Fits blocks c → Fits blocks (choice t then other c)
choice_fits t blocks then other c p q r = omega arith

empty_fits : (blocks : List Open) (c : Nested) → Fits (InThen ∷ blocks) c → Fits (InOther ∷ blocks) nothing
empty_fits blocks c p = omega arith

chosen_shaped : (t : BlockType) (blocks : List Open) (cut : Cut) → Shaped (InThen ∷ blocks) cut → Shaped blocks (chosen_by t cut)
chosen_shaped t blocks (ended then behind) s = first_shaped (choice t then nothing) blocks behind (λ c. choice_fits t blocks then nothing c s.0 (empty_fits blocks then s.0)) s.1
chosen_shaped t blocks (parted then behind) s = closed_shaped (choice t then) blocks behind (λ other c. choice_fits t blocks then other c s.0) s.1
chosen_shaped t blocks (whole c) s = absurd s
chosen_shaped t blocks broken s = absurd s

parted_shaped : (blocks : List Open) (cut : Cut) → Shaped (InOther ∷ blocks) cut → Shaped (InThen ∷ blocks) (parted nothing cut)
parted_shaped blocks (ended c behind) s = (omega (arith, s.0), s)
parted_shaped blocks (whole c) s = absurd s
parted_shaped blocks (parted c behind) s = absurd s
parted_shaped blocks broken s = absurd s

ended_shaped : (b : Open) (blocks : List Open) (cut : Cut) → length (b ∷ blocks) ≤ 256 → Shaped blocks cut → Shaped (b ∷ blocks) (ended nothing cut)
ended_shaped InThen blocks cut le s = (omega arith, s)
ended_shaped InOther blocks cut le s = (omega arith, s)

-- ---- one instruction in front

-- what the others are like, from what is open behind it
record Rest (cut : Cut) (last : Type 0) (others : List Open → Type 0) : Type 0 where
  ends : last → cut ≡ whole nothing
  goes : (t : List Open) → length t ≤ 256 → others t → Shaped t cut

in_front_shaped : (i : Instr) (m : Mark) (blocks : List Open) (cut : Cut) (last : Type 0) (others : List Open → Type 0) → Rest cut last others
    → length blocks ≤ 256 → room_at blocks m ≡ true → placed_at blocks m ≡ true → goes_on (open_behind blocks m) last others → Shaped blocks (in_front i m cut)
in_front_shaped i (begins_block t) blocks cut last others h le r p g =
    let lt : length blocks < 256 = ltb-true (length blocks) 256 r in
    closed_shaped (block t) blocks cut (block_fits t blocks) (h.goes (InOther ∷ blocks) (omega arith) g)
in_front_shaped i (begins_loop t) blocks cut last others h le r p g =
    let lt : length blocks < 256 = ltb-true (length blocks) 256 r in
    closed_shaped (loop t) blocks cut (loop_fits t blocks) (h.goes (InOther ∷ blocks) (omega arith) g)
in_front_shaped i (begins_if t) blocks cut last others h le r p g =
    let lt : length blocks < 256 = ltb-true (length blocks) 256 r in
    chosen_shaped t blocks cut (h.goes (InThen ∷ blocks) (omega arith) g)
in_front_shaped i at_else [] cut last others h le r p g = absurd cc
in_front_shaped i at_else (InThen ∷ blocks) cut last others h le r p g = parted_shaped blocks cut (h.goes (InOther ∷ blocks) (omega arith) g)
in_front_shaped i at_else (InOther ∷ blocks) cut last others h le r p g = absurd cc
in_front_shaped i at_end [] cut last others h le r p g = (omega arith, h.ends g)
in_front_shaped i at_end (b ∷ blocks) cut last others h le r p g = ended_shaped b blocks cut le (h.goes blocks (omega arith) g)
in_front_shaped i stands_alone blocks cut last others h le r p g = first_shaped (simple i) blocks cut (λ c f. f) (h.goes blocks le g)

-- ---- whole expressions

empty_whole : (is : List Instr) (back : List ℕ) → IsLast is back → nests is ≡ whole nothing
unfolding nests
empty_whole is back l = ap nests l.0

chain_shaped : (is : List Instr) (blocks : List Open) (text : List ℕ) → length blocks ≤ 256 → ChainSpells instruction (λ blocks i. open_after blocks (opcode_of i)) blocks is text → Shaped blocks (nests is)
unfolding nests
chain_shaped [] blocks text le c = absurd (no_link instruction (λ blocks i. open_after blocks (opcode_of i)) blocks text c)
chain_shaped (i ∷ is) blocks text le c =
    let l = first_link instruction (λ blocks i. open_after blocks (opcode_of i)) blocks i is text c in
    let a = instruction_allowed blocks i l.front l.first_spelled in
    in_front_shaped i (mark_of (row_of i)) blocks (nests is) (IsLast is l.back) (λ t. ChainSpells instruction (λ blocks i. open_after blocks (opcode_of i)) t is l.back)
    (record { ends = empty_whole is l.back; goes = λ t long s. chain_shaped is t l.back long s })
    le a.room a.placed
    (subst (λ (o : Option (List Open)). goes_on o (IsLast is l.back) (λ t. ChainSpells instruction (λ blocks i. open_after blocks (opcode_of i)) t is l.back)) (open_by_mark blocks i) l.others_spelled)

-- no chain has more links than bytes, where each takes one at least
rest_short : {S A : Type 0} (step : S → Format A) (next : S → A → Option S) (xs : List A) (back : List ℕ) (o : Option S) → ((t : S) → ChainSpells step next t xs back → length xs ≤ length back)
    → goes_on o (IsLast xs back) (λ t. ChainSpells step next t xs back) → length xs ≤ length back
rest_short step next xs back None h g = omega (arith, ap length g.0)
rest_short step next xs back (Some t) h g = h t g

pub chain_short : {S A : Type 0} (step : S → Format A) (next : S → A → Option S) → ((s : S) (x : A) (text : List ℕ) → (step s).spells x text → 0 < length text)
    → (xs : List A) (s : S) (text : List ℕ) → ChainSpells step next s xs text → length xs ≤ length text
chain_short step next some [] s text c = omega arith
chain_short step next some (x ∷ xs) s text c =
    let l = first_link step next s x xs text c in
    let others : length xs ≤ length l.back = rest_short step next xs l.back (next s x) (λ t d. chain_short step next some xs t l.back d) l.others_spelled in
    omega (arith, ap length l.parts, length-append l.front l.back, some s x l.front l.first_spelled, others)

last_shaped : (cut : Cut) → Shaped [] cut → (c : Nested) × (cut ≡ ended c (whole nothing)) × (depth_of c ≤ 256)
last_shaped (ended c behind) s = (c, ap (ended c) s.1, omega (arith, s.0))
last_shaped (whole c) s = absurd s
last_shaped (parted c behind) s = absurd s
last_shaped broken s = absurd s

-- what an expression that is spelled is
pub record IsWhole (is : List Instr) (text : List ℕ) : Type 0 where
  pub sequence : Nested
  pub nests : NestsAs is sequence
  pub depth : depth_of sequence ≤ 256
  pub short : length is ≤ length text

pub expression_whole : (is : List Instr) (text : List ℕ) → expression.spells is text → IsWhole is text
unfolding expression
expression_whole is text s =
    let l = last_shaped (nests is) (chain_shaped is [] text (omega arith) s) in
    record {
      sequence = l.0;
      nests = l.1;
      depth = l.2;
      short = chain_short instruction (λ blocks i. open_after blocks (opcode_of i)) (λ blocks i text s. (instruction_allowed blocks i text s).some) is [] text s;
    }
