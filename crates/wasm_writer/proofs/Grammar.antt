-- How types, instructions and entries are written.
use Rattle.std.proofs.Common.{◌≡◌, ℕ, ℤ, ◌+◌, zero, suc, ◌⊎◌, Bool, true, false, cond, eqb, ltb, is_some, Option, Some, None, List, [], ◌∷◌, ◌++◌, Result, Ok, Err, inl, inr, refl, sym, ap, subst, ◌∙◌, arith, slice_index_or}
use Rattle.std.specs.Str.{is_utf8}
use Rattle.std.proofs.lemmas.Bool.{eqb-true}
use Rattle.wasm_syntax.specs.declared.types.ValueType.{ValueType}
use Rattle.wasm_syntax.specs.declared.types.ValueType.TheVariants.{I32, I64}
use Rattle.wasm_syntax.specs.declared.types.Limits.{Limits}
use Rattle.wasm_syntax.specs.declared.instr.Instr.{Instr}
use Rattle.wasm_syntax.specs.declared.instr.BlockType.{BlockType}
use Rattle.wasm_syntax.specs.declared.instr.BlockType.TheVariants as block
use Rattle.wasm_syntax.specs.declared.instr.MemoryArgument.{MemoryArgument}
use Rattle.wasm_syntax.specs.declared.instr.Open.{Open}
use Rattle.wasm_syntax.specs.declared.opcode.TheConstants.{OPCODES}
use Rattle.wasm_syntax.specs.declared.opcode.Opcode.{Opcode}
use Rattle.wasm_syntax.specs.declared.opcode.Opcode.TheVariants as op
use Rattle.wasm_syntax.specs.declared.opcode.OpcodeByte.{OpcodeByte}
use Rattle.wasm_syntax.specs.declared.opcode.OpcodeByte.TheVariants.{Known, Float, Unknown}
use Rattle.wasm_syntax.specs.declared.opcode.Prefixed.{Prefixed}
use Rattle.wasm_syntax.specs.declared.opcode.Prefixed.TheVariants as prefixed
use Rattle.wasm_syntax.specs.declared.opcode.PrefixedNumber.TheVariants as number
use Rattle.wasm_syntax.specs.declared.kinds.ExternalKind.{ExternalKind}
use Rattle.wasm_syntax.specs.declared.kinds.ExternalKind.TheVariants as external
use Rattle.wasm_syntax.specs.declared.module.ImportKind.{ImportKind}
use Rattle.wasm_syntax.specs.declared.module.ImportKind.TheVariants as imported
use Rattle.wasm_syntax.specs.declared.module.Import.{Import}
use Rattle.wasm_syntax.specs.declared.module.Export.{Export}
use Rattle.wasm_syntax.specs.declared.module.Element.{Element}
use Rattle.wasm_syntax.specs.declared.module.Segment.{Segment}
use Rattle.wasm_syntax.specs.Kinds.{byte_of_kind}
use Rattle.wasm_syntax.specs.Opcodes.{Shape, Plain, WithBlock, WithIndex, WithLabels, WithTypeAndZero, WithMemory, WithZero, WithWord, WithLong, WithNumber, shape_of, byte_of, opcode_of, stand_from, number_of, prefixed_instr, said_by, MakesOpcode}
use Rattle.wasm_syntax.specs.Numbers.{IsUnsigned, u32_bytes, s32_bytes, s64_bytes}
use Rattle.wasm_syntax.specs.Format.{Format, bounded, done}
use Rattle.wasm_syntax.specs.Items.{byte_as, u32, at_most}
use Rattle.wasm_syntax.specs.Grammar.{only, is_float_type, value_type_of, block_type_of, flag_of, external_kind_of, function_type, maximum, limits, table_type, memory_type, global_type, name, octets, is_placed, has_room, opcode_said, opcode_judged, open_after, memory_argument, prefixed_number, reserved, operands, instruction, expression, import_kind, import, export_kind, export, global, element, segment}
use Rattle.wasm_syntax.proofs.Table.{rows_make_their_opcodes}
use Rattle.wasm_writer.specs.Written.{value_type_bytes, block_type_bytes, flag_bytes, function_type_bytes, maximum_bytes, limits_bytes, table_type_bytes, memory_type_bytes, global_type_bytes, memory_argument_bytes, reserved_bytes, prefixed_bytes, operand_bytes, instruction_bytes, expression_bytes, import_kind_bytes, import_bytes, export_kind_bytes, export_bytes, global_bytes, element_bytes, segment_bytes, vector_bytes, sized_bytes}
use Rattle.wasm_writer.proofs.Forms.{IsWritten, only_written, follows_written, made_written, two_written, chain_written}
use Rattle.wasm_writer.proofs.Items.{byte_written, u32_written, s32_written, s64_written, bounded_written, text_written, vector_written}

-- ---- single bytes

-- which way a test went
pub chosen : {A : Type 0} (b : Bool) (r s : Result A ℕ) (x : A) → cond b r s ≡ Ok x → ((b ≡ true) × (r ≡ Ok x)) ⊎ (s ≡ Ok x)
chosen true r s x e = inl (refl, e)
chosen false r s x e = inr e

abbrev pub good : {A : Type 0} → A → Result A ℕ
good x = Ok x

pub same_value : {A : Type 0} (x y : A) → good x ≡ good y → x ≡ y
same_value x y e = cc

-- the byte is what is written for the value that it says
says : {A : Type 0} (w : A → List ℕ) (b n : ℕ) (y x : A) → eqb b n ≡ true → good y ≡ good x → w y ≡ n ∷ [] → w x ≡ b ∷ []
says w b n y x t e h = ap w (sym (same_value y x e)) ∙ (h ∙ ap (λ (k : ℕ). k ∷ []) (sym (eqb-true b n t)))

not_ok : {A : Type 0} (b : Bool) (m n : ℕ) (x : A) → cond b (Err m) (Err n) ≡ Ok x → ⊥
not_ok true m n x e = absurd cc
not_ok false m n x e = absurd cc

only_byte : (wanted b x : ℕ) → only wanted b ≡ Ok x → wanted ∷ [] ≡ b ∷ []
only_byte wanted b x e = elim (chosen (eqb b wanted) (Ok b) (Err 5) x e) [
  | inl p ↦ ap (λ (k : ℕ). k ∷ []) (sym (eqb-true b wanted p.0))
  | inr p ↦ absurd (not_ok true 5 5 x p)
]

value_type_byte : (b : ℕ) (x : ValueType) → value_type_of b ≡ Ok x → value_type_bytes x ≡ b ∷ []
value_type_byte b x e = elim (chosen (eqb b 0x7f) (Ok I32) _ x e) [
  | inl p ↦ says value_type_bytes b 0x7f I32 x p.0 p.1 refl
  | inr p ↦ elim (chosen (eqb b 0x7e) (Ok I64) _ x p) [
    | inl q ↦ says value_type_bytes b 0x7e I64 x q.0 q.1 refl
    | inr q ↦ absurd (not_ok (is_float_type b) 6 5 x q)
  ]
]

block_type_byte : (b : ℕ) (x : BlockType) → block_type_of b ≡ Ok x → block_type_bytes x ≡ b ∷ []
block_type_byte b x e = elim (chosen (eqb b 0x40) (Ok block.Empty) _ x e) [
  | inl p ↦ says block_type_bytes b 0x40 block.Empty x p.0 p.1 refl
  | inr p ↦ elim (chosen (eqb b 0x7f) (Ok (block.Value I32)) _ x p) [
    | inl q ↦ says block_type_bytes b 0x7f (block.Value I32) x q.0 q.1 refl
    | inr q ↦ elim (chosen (eqb b 0x7e) (Ok (block.Value I64)) _ x q) [
      | inl r ↦ says block_type_bytes b 0x7e (block.Value I64) x r.0 r.1 refl
      | inr r ↦ absurd (not_ok (is_float_type b) 6 5 x r)
    ]
  ]
]

flag_byte : (b : ℕ) (x : Bool) → flag_of b ≡ Ok x → flag_bytes x ≡ b ∷ []
flag_byte b x e = elim (chosen (eqb b 0) (Ok false) _ x e) [
  | inl p ↦ says flag_bytes b 0 false x p.0 p.1 refl
  | inr p ↦ elim (chosen (eqb b 1) (Ok true) _ x p) [
    | inl q ↦ says flag_bytes b 1 true x q.0 q.1 refl
    | inr q ↦ absurd (not_ok true 5 5 x q)
  ]
]

external_byte : (b : ℕ) (x : ExternalKind) → external_kind_of b ≡ Ok x → byte_of_kind x ∷ [] ≡ b ∷ []
external_byte zero x e = ap (λ k. byte_of_kind k ∷ []) (sym (same_value external.Function x e))
external_byte (suc zero) x e = ap (λ k. byte_of_kind k ∷ []) (sym (same_value external.Table x e))
external_byte (suc (suc zero)) x e = ap (λ k. byte_of_kind k ∷ []) (sym (same_value external.Memory x e))
external_byte (suc (suc (suc zero))) x e = ap (λ k. byte_of_kind k ∷ []) (sym (same_value external.Global x e))
external_byte (suc (suc (suc (suc b)))) x e = absurd (not_ok true 5 5 x e)

both : (a b : Bool) → cond a b false ≡ true → (a ≡ true) × (b ≡ true)
both true b e = (refl, e)
both false b e = absurd cc

same_opcode : (p o : Opcode) → Known p ≡ Known o → p ≡ o
same_opcode p o e = cc

stands : (n : ℕ) (table : List OpcodeByte) (k : ℕ) (o : Opcode) → stand_from n table ≡ true → slice_index_or table k Unknown ≡ Known o → byte_of o ≡ n + k
stands n [] k o h e = absurd cc
stands n (Known p ∷ table) zero o h e =
    let t = both (eqb (byte_of p) n) (stand_from (suc n) table) h in
    let i : byte_of p ≡ n = eqb-true (byte_of p) n t.0 in
    ap byte_of (sym (same_opcode p o e)) ∙ (i ∙ omega arith)
stands n (Float ∷ table) zero o h e = absurd cc
stands n (Unknown ∷ table) zero o h e = absurd cc
stands n (Known p ∷ table) (suc k) o h e =
    let t = both (eqb (byte_of p) n) (stand_from (suc n) table) h in
    let i : byte_of o ≡ suc n + k = stands (suc n) table k o t.1 e in omega arith
stands n (Float ∷ table) (suc k) o h e = let i : byte_of o ≡ suc n + k = stands (suc n) table k o h e in omega arith
stands n (Unknown ∷ table) (suc k) o h e = let i : byte_of o ≡ suc n + k = stands (suc n) table k o h e in omega arith

said : (blocks : List Open) (e : OpcodeByte) (o : Opcode) → opcode_said blocks e ≡ Ok o → e ≡ Known o
said blocks (Known p) o e = elim (chosen (is_placed blocks p) (Ok p) (Err 5) o e) [ inl q ↦ ap Known (same_value p o q.1) | inr q ↦ absurd (not_ok true 5 5 o q) ]
said blocks Float o e = absurd cc
said blocks Unknown o e = absurd cc

opcode_byte : (blocks : List Open) (b : ℕ) (o : Opcode) → opcode_judged blocks b ≡ Ok o → byte_of o ∷ [] ≡ b ∷ []
opcode_byte blocks b o e =
    let i : byte_of o ≡ 0 + b = stands 0 OPCODES b o refl (said blocks (slice_index_or OPCODES b Unknown) o e) in
    let j : byte_of o ≡ b = omega arith in
    ap (λ (k : ℕ). k ∷ []) j

only_written_as : (wanted : ℕ) → IsWritten (byte_as (only wanted)).spells (λ _. wanted ∷ [])
only_written_as wanted = byte_written (only wanted) (λ _. wanted ∷ []) (only_byte wanted)

pub value_type_written : IsWritten (byte_as value_type_of).spells value_type_bytes
value_type_written = byte_written value_type_of value_type_bytes value_type_byte

flag_written : IsWritten (byte_as flag_of).spells flag_bytes
flag_written = byte_written flag_of flag_bytes flag_byte

kind_written : IsWritten (byte_as external_kind_of).spells (λ k. byte_of_kind k ∷ [])
kind_written = byte_written external_kind_of (λ k. byte_of_kind k ∷ []) external_byte

-- ---- types

pub function_type_written : IsWritten function_type.spells function_type_bytes
unfolding function_type function_type_bytes
function_type_written =
    follows_written _ _ (λ _. 0x60 ∷ []) (λ _ t. vector_bytes value_type_bytes t.parameters ++ vector_bytes value_type_bytes t.results) function_type_bytes (only_written_as 0x60)
    (λ form. two_written _ _ (λ ps rs. record { parameters = ps; results = rs }) (vector_bytes value_type_bytes) (λ _. vector_bytes value_type_bytes) _ (vector_written (byte_as value_type_of) value_type_bytes value_type_written) (λ _. vector_written (byte_as value_type_of) value_type_bytes value_type_written) (λ ps rs back s. refl))
    (λ form t front back s u. refl)

maximum_written : (b : Bool) → IsWritten (maximum b).spells maximum_bytes
maximum_written false = only_written (done None).spells maximum_bytes (λ x text s. ap maximum_bytes s.0 ∙ sym s.1)
maximum_written true = made_written u32.spells (λ n. Some n) u32_bytes maximum_bytes u32_written (λ n. refl)

maximum_flag : (b : Bool) (x : Option ℕ) (text : List ℕ) → (maximum b).spells x text → is_some x ≡ b
maximum_flag false x text s = ap is_some s.0
maximum_flag true x text s = ap is_some s.second_spelled.0

limits_written : (least : Format ℕ) → IsWritten least.spells u32_bytes → IsWritten (limits least).spells limits_bytes
unfolding limits
limits_written least h =
    follows_written _ _ flag_bytes (λ _ l. u32_bytes l.minimum ++ maximum_bytes l.maximum) limits_bytes flag_written
    (λ has. two_written _ _ (λ n most. record { minimum = n; maximum = most }) u32_bytes (λ _. maximum_bytes) _ h (λ _. maximum_written has) (λ n most back s. refl))
    (λ has l front back s t.
    let u = t.second_spelled in
    let e : is_some l.maximum ≡ has = ap (λ (l : Limits). is_some l.maximum) u.second_spelled.0 ∙ maximum_flag has u.value u.front u.first_spelled in
    ap (λ b. flag_bytes b ++ (u32_bytes l.minimum ++ maximum_bytes l.maximum)) e)

pub table_type_written : IsWritten table_type.spells table_type_bytes
unfolding table_type table_type_bytes
table_type_written =
    follows_written _ _ (λ _. 0x70 ∷ []) (λ _. limits_bytes) table_type_bytes (only_written_as 0x70)
    (λ _. limits_written (bounded (at_most 65536) u32) (bounded_written (at_most 65536) u32 u32_bytes u32_written)) (λ e l front back s t. refl)

pub memory_type_written : IsWritten memory_type.spells memory_type_bytes
unfolding memory_type memory_type_bytes
memory_type_written = limits_written u32 u32_written

pub global_type_written : IsWritten global_type.spells global_type_bytes
unfolding global_type global_type_bytes
global_type_written = two_written _ _ (λ v m. record { value = v; is_mutable = m }) value_type_bytes (λ _. flag_bytes) global_type_bytes value_type_written (λ _. flag_written) (λ v m back s. refl)

pub name_written : IsWritten name.spells sized_bytes
unfolding name
name_written = text_written is_utf8

pub octets_written : IsWritten octets.spells sized_bytes
unfolding octets
octets_written = text_written (λ _. true)

-- ---- instructions

memory_argument_written : IsWritten memory_argument.spells memory_argument_bytes
unfolding memory_argument
memory_argument_written = two_written _ _ (λ a o. record { align = a; offset = o }) u32_bytes (λ _. u32_bytes) memory_argument_bytes u32_written (λ _. u32_written) (λ a o back s. refl)

picked : {A : Type 0} (b : Bool) (r s x : A) → cond b r s ≡ x → ((b ≡ true) × (r ≡ x)) ⊎ (s ≡ x)
picked true r s x e = inl (refl, e)
picked false r s x e = inr e

same_number : (x y : Prefixed) → number.Known x ≡ number.Known y → x ≡ y
same_number x y e = cc

not_float : (x : Prefixed) → number.Float ≡ number.Known x → ⊥
not_float x e = absurd cc

not_unknown : (x : Prefixed) → number.Unknown ≡ number.Known x → ⊥
not_unknown x e = absurd cc

-- only one number says an instruction
number_alone : (n : ℕ) (x : Prefixed) → said_by n ≡ number.Known x → n ≡ number_of x
number_alone n x e = elim (picked (ltb n 8) number.Float _ (number.Known x) e) [
  | inl p ↦ absurd (not_float x p.1)
  | inr p ↦ elim (picked (eqb n 10) (number.Known prefixed.MemoryCopy) _ (number.Known x) p) [
    | inl q ↦ eqb-true n 10 q.0 ∙ ap number_of (same_number prefixed.MemoryCopy x q.1)
    | inr q ↦ elim (picked (eqb n 11) (number.Known prefixed.MemoryFill) number.Unknown (number.Known x) q) [
      | inl r ↦ eqb-true n 11 r.0 ∙ ap number_of (same_number prefixed.MemoryFill x r.1)
      | inr r ↦ absurd (not_unknown x r)
    ]
  ]
]

number_says : (x : Prefixed) → said_by (number_of x) ≡ number.Known x
number_says prefixed.MemoryCopy = refl
number_says prefixed.MemoryFill = refl

prefixed_written : IsWritten prefixed_number.spells (λ x. u32_bytes (number_of x))
prefixed_written = record {
  shortest = λ x other are s.
      let p = u32_written.shortest (number_of x) other are (subst (λ (n : ℕ). IsUnsigned 32 other n) (number_alone s.value x s.said) s.spelled) in
      record {
        bytes = p.bytes;
        spelled = record { value = number_of x; spelled = p.spelled; said = number_says x };
        least = λ more b t. p.least more b (subst (λ (n : ℕ). IsUnsigned 32 more n) (number_alone t.value x t.said) t.spelled);
      };
}

reserved_written : (x : Prefixed) → IsWritten (reserved x).spells (λ _. reserved_bytes x)
reserved_written prefixed.MemoryCopy = follows_written _ _ (λ _. 0 ∷ []) (λ _ _. 0 ∷ []) (λ _. 0 ∷ 0 ∷ []) (only_written_as 0) (λ _. only_written_as 0) (λ z y front back s t. refl)
reserved_written prefixed.MemoryFill = only_written_as 0

instr_written : (x : Prefixed) → operand_bytes (prefixed_instr x) ≡ prefixed_bytes x
instr_written prefixed.MemoryCopy = refl
instr_written prefixed.MemoryFill = refl

-- what is written behind the opcodes of a row
WritesOperands : Shape → Type 0
WritesOperands (Plain i) = operand_bytes i ≡ []
WritesOperands (WithBlock f) = (t : BlockType) → operand_bytes (f t) ≡ block_type_bytes t
WritesOperands (WithIndex f) = (n : ℕ) → operand_bytes (f n) ≡ u32_bytes n
WritesOperands (WithLabels f) = (labels : List ℕ) (n : ℕ) → operand_bytes (f labels n) ≡ vector_bytes u32_bytes labels ++ u32_bytes n
WritesOperands (WithTypeAndZero f) = (n : ℕ) → operand_bytes (f n) ≡ u32_bytes n ++ 0 ∷ []
WritesOperands (WithMemory f) = (a : MemoryArgument) → operand_bytes (f a) ≡ memory_argument_bytes a
WritesOperands (WithZero i) = operand_bytes i ≡ 0 ∷ []
WritesOperands (WithWord f) = (v : ℤ) → operand_bytes (f v) ≡ s32_bytes v
WritesOperands (WithLong f) = (v : ℤ) → operand_bytes (f v) ≡ s64_bytes v
WritesOperands (WithNumber f) = (x : Prefixed) → operand_bytes (f x) ≡ prefixed_bytes x

operands_written : (s : Shape) → WritesOperands s → IsWritten (operands s).spells operand_bytes
unfolding operands WritesOperands
operands_written (Plain i) h = only_written (done i).spells operand_bytes (λ x text s. ap operand_bytes s.0 ∙ (h ∙ sym s.1))
operands_written (WithBlock f) h = made_written _ f block_type_bytes operand_bytes (byte_written block_type_of block_type_bytes block_type_byte) h
operands_written (WithIndex f) h = made_written _ f u32_bytes operand_bytes u32_written h
operands_written (WithLabels f) h = two_written _ _ f (vector_bytes u32_bytes) (λ _. u32_bytes) operand_bytes (vector_written u32 u32_bytes u32_written) (λ _. u32_written) (λ labels n back s. h labels n)
operands_written (WithTypeAndZero f) h = two_written _ _ (λ n z. f n) u32_bytes (λ _ _. 0 ∷ []) operand_bytes u32_written (λ _. only_written_as 0) (λ n z back s. h n)
operands_written (WithMemory f) h = made_written _ f memory_argument_bytes operand_bytes memory_argument_written h
operands_written (WithZero i) h = made_written _ (λ z. i) (λ _. 0 ∷ []) operand_bytes (only_written_as 0) (λ z. h)
operands_written (WithWord f) h = made_written _ f s32_bytes operand_bytes s32_written h
operands_written (WithLong f) h = made_written _ f s64_bytes operand_bytes s64_written h
operands_written (WithNumber f) h = two_written _ _ (λ x z. f x) (λ x. u32_bytes (number_of x)) (λ x _. reserved_bytes x) operand_bytes prefixed_written reserved_written (λ x z back s. h x)

rows_write_their_operands : (o : Opcode) → WritesOperands (shape_of o)
unfolding WritesOperands
rows_write_their_operands op.Unreachable = refl
rows_write_their_operands op.Nop = refl
rows_write_their_operands op.Block = λ x. refl
rows_write_their_operands op.Loop = λ x. refl
rows_write_their_operands op.If = λ x. refl
rows_write_their_operands op.Else = refl
rows_write_their_operands op.End = refl
rows_write_their_operands op.Br = λ x. refl
rows_write_their_operands op.BrIf = λ x. refl
rows_write_their_operands op.BrTable = λ labels n. refl
rows_write_their_operands op.Return = refl
rows_write_their_operands op.Call = λ x. refl
rows_write_their_operands op.CallIndirect = λ x. refl
rows_write_their_operands op.Drop = refl
rows_write_their_operands op.Select = refl
rows_write_their_operands op.LocalGet = λ x. refl
rows_write_their_operands op.LocalSet = λ x. refl
rows_write_their_operands op.LocalTee = λ x. refl
rows_write_their_operands op.GlobalGet = λ x. refl
rows_write_their_operands op.GlobalSet = λ x. refl
rows_write_their_operands op.I32Load = λ x. refl
rows_write_their_operands op.I64Load = λ x. refl
rows_write_their_operands op.I32Load8S = λ x. refl
rows_write_their_operands op.I32Load8U = λ x. refl
rows_write_their_operands op.I32Load16S = λ x. refl
rows_write_their_operands op.I32Load16U = λ x. refl
rows_write_their_operands op.I64Load8S = λ x. refl
rows_write_their_operands op.I64Load8U = λ x. refl
rows_write_their_operands op.I64Load16S = λ x. refl
rows_write_their_operands op.I64Load16U = λ x. refl
rows_write_their_operands op.I64Load32S = λ x. refl
rows_write_their_operands op.I64Load32U = λ x. refl
rows_write_their_operands op.I32Store = λ x. refl
rows_write_their_operands op.I64Store = λ x. refl
rows_write_their_operands op.I32Store8 = λ x. refl
rows_write_their_operands op.I32Store16 = λ x. refl
rows_write_their_operands op.I64Store8 = λ x. refl
rows_write_their_operands op.I64Store16 = λ x. refl
rows_write_their_operands op.I64Store32 = λ x. refl
rows_write_their_operands op.MemorySize = refl
rows_write_their_operands op.MemoryGrow = refl
rows_write_their_operands op.I32Const = λ x. refl
rows_write_their_operands op.I64Const = λ x. refl
rows_write_their_operands op.I32Eqz = refl
rows_write_their_operands op.I32Eq = refl
rows_write_their_operands op.I32Ne = refl
rows_write_their_operands op.I32LtS = refl
rows_write_their_operands op.I32LtU = refl
rows_write_their_operands op.I32GtS = refl
rows_write_their_operands op.I32GtU = refl
rows_write_their_operands op.I32LeS = refl
rows_write_their_operands op.I32LeU = refl
rows_write_their_operands op.I32GeS = refl
rows_write_their_operands op.I32GeU = refl
rows_write_their_operands op.I64Eqz = refl
rows_write_their_operands op.I64Eq = refl
rows_write_their_operands op.I64Ne = refl
rows_write_their_operands op.I64LtS = refl
rows_write_their_operands op.I64LtU = refl
rows_write_their_operands op.I64GtS = refl
rows_write_their_operands op.I64GtU = refl
rows_write_their_operands op.I64LeS = refl
rows_write_their_operands op.I64LeU = refl
rows_write_their_operands op.I64GeS = refl
rows_write_their_operands op.I64GeU = refl
rows_write_their_operands op.I32Clz = refl
rows_write_their_operands op.I32Ctz = refl
rows_write_their_operands op.I32Popcnt = refl
rows_write_their_operands op.I32Add = refl
rows_write_their_operands op.I32Sub = refl
rows_write_their_operands op.I32Mul = refl
rows_write_their_operands op.I32DivS = refl
rows_write_their_operands op.I32DivU = refl
rows_write_their_operands op.I32RemS = refl
rows_write_their_operands op.I32RemU = refl
rows_write_their_operands op.I32And = refl
rows_write_their_operands op.I32Or = refl
rows_write_their_operands op.I32Xor = refl
rows_write_their_operands op.I32Shl = refl
rows_write_their_operands op.I32ShrS = refl
rows_write_their_operands op.I32ShrU = refl
rows_write_their_operands op.I32Rotl = refl
rows_write_their_operands op.I32Rotr = refl
rows_write_their_operands op.I64Clz = refl
rows_write_their_operands op.I64Ctz = refl
rows_write_their_operands op.I64Popcnt = refl
rows_write_their_operands op.I64Add = refl
rows_write_their_operands op.I64Sub = refl
rows_write_their_operands op.I64Mul = refl
rows_write_their_operands op.I64DivS = refl
rows_write_their_operands op.I64DivU = refl
rows_write_their_operands op.I64RemS = refl
rows_write_their_operands op.I64RemU = refl
rows_write_their_operands op.I64And = refl
rows_write_their_operands op.I64Or = refl
rows_write_their_operands op.I64Xor = refl
rows_write_their_operands op.I64Shl = refl
rows_write_their_operands op.I64ShrS = refl
rows_write_their_operands op.I64ShrU = refl
rows_write_their_operands op.I64Rotl = refl
rows_write_their_operands op.I64Rotr = refl
rows_write_their_operands op.I32WrapI64 = refl
rows_write_their_operands op.I64ExtendI32S = refl
rows_write_their_operands op.I64ExtendI32U = refl
rows_write_their_operands op.I32Extend8S = refl
rows_write_their_operands op.I32Extend16S = refl
rows_write_their_operands op.I64Extend8S = refl
rows_write_their_operands op.I64Extend16S = refl
rows_write_their_operands op.I64Extend32S = refl
rows_write_their_operands op.Prefix = instr_written

-- an instruction that is spelled behind an opcode has that opcode
has_opcode : (o : Opcode) (s : Shape) (i : Instr) (text : List ℕ) → MakesOpcode o s → (operands s).spells i text → opcode_of i ≡ o
unfolding operands
has_opcode o (Plain j) i text h s = ap opcode_of s.0 ∙ h
has_opcode o (WithBlock f) i text h s = ap opcode_of s.second_spelled.0 ∙ h s.value
has_opcode o (WithIndex f) i text h s = ap opcode_of s.second_spelled.0 ∙ h s.value
has_opcode o (WithLabels f) i text h s = ap opcode_of s.second_spelled.second_spelled.0 ∙ h s.value s.second_spelled.value
has_opcode o (WithTypeAndZero f) i text h s = ap opcode_of s.second_spelled.second_spelled.0 ∙ h s.value
has_opcode o (WithMemory f) i text h s = ap opcode_of s.second_spelled.0 ∙ h s.value
has_opcode o (WithZero j) i text h s = ap opcode_of s.second_spelled.0 ∙ h
has_opcode o (WithWord f) i text h s = ap opcode_of s.second_spelled.0 ∙ h s.value
has_opcode o (WithLong f) i text h s = ap opcode_of s.second_spelled.0 ∙ h s.value
has_opcode o (WithNumber f) i text h s = ap opcode_of s.second_spelled.second_spelled.0 ∙ h s.value

instruction_written : (blocks : List Open) → IsWritten (instruction blocks).spells instruction_bytes
unfolding instruction instruction_bytes
instruction_written blocks =
    follows_written _ _ (λ o. byte_of o ∷ []) (λ _. operand_bytes) instruction_bytes
    (bounded_written (has_room blocks) (byte_as (opcode_judged blocks)) (λ o. byte_of o ∷ []) (byte_written (opcode_judged blocks) (λ o. byte_of o ∷ []) (opcode_byte blocks)))
    (λ o. operands_written (shape_of o) (rows_write_their_operands o))
    (λ o i front back s t. ap (λ p. byte_of p ∷ operand_bytes i) (has_opcode o (shape_of o) i back (rows_make_their_opcodes o) t))

pub expression_written : IsWritten expression.spells expression_bytes
unfolding expression expression_bytes
expression_written = chain_written instruction (λ blocks i. open_after blocks (opcode_of i)) instruction_bytes instruction_written []

-- ---- entries

-- without its kind
kind_rest : ImportKind → List ℕ
kind_rest (imported.Function n) = u32_bytes n
kind_rest (imported.Table l) = table_type_bytes l
kind_rest (imported.Memory l) = memory_type_bytes l
kind_rest (imported.Global t) = global_type_bytes t

import_kind_written : (k : ExternalKind) → IsWritten (import_kind k).spells kind_rest
unfolding kind_rest
import_kind_written external.Function = made_written _ _ u32_bytes kind_rest u32_written (λ n. refl)
import_kind_written external.Table = made_written _ _ table_type_bytes kind_rest table_type_written (λ n. refl)
import_kind_written external.Memory = made_written _ _ memory_type_bytes kind_rest memory_type_written (λ n. refl)
import_kind_written external.Global = made_written _ _ global_type_bytes kind_rest global_type_written (λ n. refl)

kind_is_written : (k : ExternalKind) (x : ImportKind) (text : List ℕ) → (import_kind k).spells x text → import_kind_bytes x ≡ byte_of_kind k ∷ kind_rest x
unfolding kind_rest
kind_is_written external.Function x text s = ap import_kind_bytes s.second_spelled.0 ∙ ap (λ y. byte_of_kind external.Function ∷ kind_rest y) (sym s.second_spelled.0)
kind_is_written external.Table x text s = ap import_kind_bytes s.second_spelled.0 ∙ ap (λ y. byte_of_kind external.Table ∷ kind_rest y) (sym s.second_spelled.0)
kind_is_written external.Memory x text s = ap import_kind_bytes s.second_spelled.0 ∙ ap (λ y. byte_of_kind external.Memory ∷ kind_rest y) (sym s.second_spelled.0)
kind_is_written external.Global x text s = ap import_kind_bytes s.second_spelled.0 ∙ ap (λ y. byte_of_kind external.Global ∷ kind_rest y) (sym s.second_spelled.0)

pub import_written : IsWritten import.spells import_bytes
unfolding import import_bytes
import_written =
    follows_written _ _ sized_bytes (λ _ x. sized_bytes x.name ++ import_kind_bytes x.kind) import_bytes name_written
    (λ from. follows_written _ _ sized_bytes (λ _ x. import_kind_bytes x.kind) _ name_written
    (λ own. two_written _ _ (λ k of. record { «module» = from; name = own; kind = of }) (λ k. byte_of_kind k ∷ []) (λ _. kind_rest) (λ x. import_kind_bytes x.kind) kind_written import_kind_written (λ k of back s. kind_is_written k of back s))
    (λ own x front back s t. ap (λ (y : Import). sized_bytes y.name ++ import_kind_bytes x.kind) t.second_spelled.second_spelled.0))
    (λ from x front back s t. ap (λ (y : Import). sized_bytes y.«module» ++ (sized_bytes x.name ++ import_kind_bytes x.kind)) t.second_spelled.second_spelled.second_spelled.0)

exported_bytes : (k : ExternalKind) (n : ℕ) → export_kind_bytes (export_kind k n) ≡ byte_of_kind k ∷ u32_bytes n
exported_bytes external.Function n = refl
exported_bytes external.Table n = refl
exported_bytes external.Memory n = refl
exported_bytes external.Global n = refl

pub export_written : IsWritten export.spells export_bytes
unfolding export export_bytes
export_written =
    follows_written _ _ sized_bytes (λ _ x. export_kind_bytes x.kind) export_bytes name_written
    (λ own. two_written _ _ (λ k n. record { name = own; kind = export_kind k n }) (λ k. byte_of_kind k ∷ []) (λ _. u32_bytes) (λ x. export_kind_bytes x.kind) kind_written (λ _. u32_written) (λ k n back s. exported_bytes k n))
    (λ own x front back s t. ap (λ (y : Export). sized_bytes y.name ++ export_kind_bytes x.kind) t.second_spelled.second_spelled.0)

pub global_written : IsWritten global.spells global_bytes
unfolding global global_bytes
global_written = two_written _ _ (λ of initial. record { of = of; initial = initial }) global_type_bytes (λ _. expression_bytes) global_bytes global_type_written (λ _. expression_written) (λ of initial back s. refl)

pub element_written : IsWritten element.spells element_bytes
unfolding element element_bytes
element_written =
    follows_written _ _ u32_bytes (λ _ x. expression_bytes x.offset ++ vector_bytes u32_bytes x.functions) element_bytes u32_written
    (λ table. two_written _ _ (λ offset functions. record { table = table; offset = offset; functions = functions }) expression_bytes (λ _. vector_bytes u32_bytes) (λ x. expression_bytes x.offset ++ vector_bytes u32_bytes x.functions) expression_written (λ _. vector_written u32 u32_bytes u32_written) (λ offset functions back s. refl))
    (λ table x front back s t. ap (λ (y : Element). u32_bytes y.table ++ (expression_bytes x.offset ++ vector_bytes u32_bytes x.functions)) t.second_spelled.second_spelled.0)

pub segment_written : IsWritten segment.spells segment_bytes
unfolding segment segment_bytes
segment_written =
    follows_written _ _ u32_bytes (λ _ x. expression_bytes x.offset ++ sized_bytes x.bytes) segment_bytes u32_written
    (λ memory. two_written _ _ (λ offset bytes. record { memory = memory; offset = offset; bytes = bytes }) expression_bytes (λ _. sized_bytes) (λ x. expression_bytes x.offset ++ sized_bytes x.bytes) expression_written (λ _. octets_written) (λ offset bytes back s. refl))
    (λ memory x front back s t. ap (λ (y : Segment). u32_bytes y.memory ++ (expression_bytes x.offset ++ sized_bytes x.bytes)) t.second_spelled.second_spelled.0)
