-- Each rule of the grammar is lawful.
use Rattle.std.proofs.Common.{◌≡◌, ℕ, ◌+◌, ◌<◌, zero, suc, Bool, true, false, Option, Some, None, List, [], ◌++◌, length, ap, ◌∙◌, arith}
use Rattle.std.specs.Str.{is_utf8}
use Rattle.std.proofs.lemmas.List.{length-append}
use Rattle.wasm_syntax.specs.declared.instr.Instr.{Instr}
use Rattle.wasm_syntax.specs.declared.kinds.SectionKind.{SectionKind}
use Rattle.wasm_syntax.specs.declared.kinds.SectionKind.TheVariants as kind
use Rattle.wasm_syntax.specs.declared.kinds.ExternalKind.{ExternalKind}
use Rattle.wasm_syntax.specs.declared.kinds.ExternalKind.TheVariants as external
use Rattle.wasm_syntax.specs.declared.instr.Open.{Open}
use Rattle.wasm_syntax.specs.declared.section.Section.{Section}
use Rattle.wasm_syntax.specs.declared.section.Before.{Before}
use Rattle.wasm_syntax.specs.Opcodes.{Shape, Plain, WithBlock, WithIndex, WithLabels, WithTypeAndZero, WithMemory, WithZero, WithWord, WithLong, WithNumber, shape_of, opcode_of, said_by}
use Rattle.wasm_syntax.specs.declared.opcode.Prefixed.{Prefixed}
use Rattle.wasm_syntax.specs.declared.opcode.Prefixed.TheVariants as prefixed
use Rattle.wasm_syntax.specs.declared.opcode.PrefixedNumber.{PrefixedNumber}
use Rattle.wasm_syntax.specs.declared.opcode.PrefixedNumber.TheVariants as number
use Rattle.wasm_syntax.specs.Numbers.{u32_at}
use Rattle.wasm_syntax.specs.Format.{ok, and_then, Format, done, ◌>>=◌}
use Rattle.wasm_syntax.specs.Items.{number_or_fault, u32, s32, s64, bytes_of}
use Rattle.wasm_syntax.specs.Grammar.{only, value_type_of, block_type_of, flag_of, external_kind_of, function_type, maximum, limits, table_type, memory_type, global_type, name, octets, has_room, opcode_judged, open_after, memory_argument, prefixed_or_fault, prefixed_number, reserved, operands, instruction, expression, import_kind, import, export, global, element, segment, local_group, local_groups, function_body, code, code_vector, section_kind_of, section_of, section}
use Rattle.wasm_syntax.proofs.FormatLaws.{IsLawful, and_then_ok, ok_first, ok_rest, done_lawful, then_lawful, item_lawful, bounded_lawful, repeated_lawful}
use Rattle.wasm_syntax.proofs.ItemLaws.{byte_lawful, u32_item, u32_lawful, s32_lawful, s64_lawful, agreed_u32_lawful, bytes_lawful, vector_lawful, sized_lawful, sized_with_tail_lawful}
use Rattle.wasm_syntax.proofs.ChainLaws.{chained_lawful}

-- a value that is made of one other
pub made_lawful : {A B : Type 0} (m : Format A) (f : A → B) → IsLawful m → IsLawful (m >>= λ x. done (f x))
made_lawful m f h = then_lawful m (λ x. done (f x)) h (λ x. done_lawful (f x))

pub function_type_lawful : IsLawful function_type
unfolding function_type
function_type_lawful = then_lawful _ _ (byte_lawful (only 0x60)) (λ form. then_lawful _ _ (vector_lawful _ (byte_lawful value_type_of)) (λ ps. made_lawful _ _ (vector_lawful _ (byte_lawful value_type_of))))

maximum_lawful : (b : Bool) → IsLawful (maximum b)
maximum_lawful false = done_lawful None
maximum_lawful true = made_lawful u32 (λ n. Some n) u32_lawful

pub limits_lawful : (least : Format ℕ) → IsLawful least → IsLawful (limits least)
unfolding limits
limits_lawful least h = then_lawful _ _ (byte_lawful flag_of) (λ has. then_lawful _ _ h (λ n. made_lawful _ _ (maximum_lawful has)))

pub table_type_lawful : IsLawful table_type
unfolding table_type
table_type_lawful = then_lawful _ _ (byte_lawful (only 0x70)) (λ e. limits_lawful _ (bounded_lawful _ _ u32_lawful))

pub memory_type_lawful : IsLawful memory_type
unfolding memory_type
memory_type_lawful = limits_lawful u32 u32_lawful

pub global_type_lawful : IsLawful global_type
unfolding global_type
global_type_lawful = then_lawful _ _ (byte_lawful value_type_of) (λ v. made_lawful _ _ (byte_lawful flag_of))

pub name_lawful : IsLawful name
unfolding name
name_lawful = then_lawful u32 (λ n. bytes_of is_utf8 n) u32_lawful (λ n. bytes_lawful is_utf8 n)

pub octets_lawful : IsLawful octets
unfolding octets
octets_lawful = then_lawful u32 (λ n. bytes_of (λ _. true) n) u32_lawful (λ n. bytes_lawful (λ _. true) n)

-- ---- instructions

pub memory_argument_lawful : IsLawful memory_argument
unfolding memory_argument
memory_argument_lawful = then_lawful _ _ u32_lawful (λ a. made_lawful _ _ u32_lawful)

said_ok : (p : PrefixedNumber) (left : ℕ) (bs : List ℕ) (x : Prefixed) (rest : List ℕ) → prefixed_or_fault p left bs ≡ ok x rest → (p ≡ number.Known x) × (bs ≡ rest)
said_ok (number.Known y) left bs x rest e = (ap number.Known (ok_first y x bs rest e), ok_rest y x bs rest e)
said_ok number.Float left bs x rest e = absurd cc
said_ok number.Unknown left bs x rest e = absurd cc

pub prefixed_number_lawful : IsLawful prefixed_number
prefixed_number_lawful = item_lawful _ _ (record {
  takes = λ bytes x rest e.
      let p = and_then_ok (number_or_fault (length bytes) (u32_at bytes)) (λ n r. prefixed_or_fault (said_by n) (length bytes) r) x rest e in
      let f = said_ok (said_by p.0) (length bytes) p.1 x rest p.3 in
      let t = u32_item.takes bytes p.0 rest (p.2 ∙ ap (ok p.0) f.1) in
      record { text = t.text; spelled = record { value = p.0; spelled = t.spelled; said = f.0 }; parts = t.parts; within = t.within };
  again = λ text x rest s.
      ap (λ r. and_then r (λ n r. prefixed_or_fault (said_by n) (length (text ++ rest)) r)) (u32_item.again text s.value rest s.spelled) ∙ ap (λ p. prefixed_or_fault p (length (text ++ rest)) rest) s.said;
})

pub reserved_lawful : (x : Prefixed) → IsLawful (reserved x)
reserved_lawful prefixed.MemoryCopy = then_lawful _ _ (byte_lawful (only 0)) (λ z. byte_lawful (only 0))
reserved_lawful prefixed.MemoryFill = byte_lawful (only 0)

pub operands_lawful : (s : Shape) → IsLawful (operands s)
unfolding operands
operands_lawful (Plain i) = done_lawful i
operands_lawful (WithBlock f) = made_lawful _ f (byte_lawful block_type_of)
operands_lawful (WithIndex f) = made_lawful u32 f u32_lawful
operands_lawful (WithLabels f) = then_lawful _ _ (vector_lawful u32 u32_lawful) (λ ls. made_lawful u32 (f ls) u32_lawful)
operands_lawful (WithTypeAndZero f) = then_lawful _ _ u32_lawful (λ n. made_lawful _ (λ z. f n) (byte_lawful (only 0)))
operands_lawful (WithMemory f) = made_lawful memory_argument f memory_argument_lawful
operands_lawful (WithZero i) = made_lawful _ (λ z. i) (byte_lawful (only 0))
operands_lawful (WithWord f) = made_lawful s32 f s32_lawful
operands_lawful (WithLong f) = made_lawful s64 f s64_lawful
operands_lawful (WithNumber f) = then_lawful _ _ prefixed_number_lawful (λ x. made_lawful _ (λ z. f x) (reserved_lawful x))

pub instruction_lawful : (blocks : List Open) → IsLawful (instruction blocks)
unfolding instruction
instruction_lawful blocks = then_lawful _ _ (bounded_lawful (has_room blocks) _ (byte_lawful (opcode_judged blocks))) (λ o. operands_lawful (shape_of o))

instruction_takes_a_byte : (blocks : List Open) (i : Instr) (text : List ℕ) → (instruction blocks).spells i text → 0 < length text
unfolding instruction
instruction_takes_a_byte blocks i text s =
    let b = s.first_spelled.0 in
    omega (arith, ap length s.parts, length-append s.front s.back, ap length b.alone)

pub expression_lawful : IsLawful expression
unfolding expression
expression_lawful = chained_lawful instruction (λ blocks i. open_after blocks (opcode_of i)) [] instruction_lawful instruction_takes_a_byte

-- ---- entries

import_kind_lawful : (k : ExternalKind) → IsLawful (import_kind k)
import_kind_lawful external.Function = made_lawful _ _ u32_lawful
import_kind_lawful external.Table = made_lawful _ _ table_type_lawful
import_kind_lawful external.Memory = made_lawful _ _ memory_type_lawful
import_kind_lawful external.Global = made_lawful _ _ global_type_lawful

pub import_lawful : IsLawful import
unfolding import
import_lawful = then_lawful _ _ name_lawful (λ from. then_lawful _ _ name_lawful (λ own. then_lawful _ _ (byte_lawful external_kind_of) (λ k. made_lawful _ _ (import_kind_lawful k))))

pub export_lawful : IsLawful export
unfolding export
export_lawful = then_lawful _ _ name_lawful (λ own. then_lawful _ _ (byte_lawful external_kind_of) (λ k. made_lawful _ _ u32_lawful))

pub global_lawful : IsLawful global
unfolding global
global_lawful = then_lawful _ _ global_type_lawful (λ of. made_lawful _ _ expression_lawful)

pub element_lawful : IsLawful element
unfolding element
element_lawful = then_lawful _ _ u32_lawful (λ table. then_lawful _ _ expression_lawful (λ offset. made_lawful _ _ (vector_lawful u32 u32_lawful)))

pub segment_lawful : IsLawful segment
unfolding segment
segment_lawful = then_lawful _ _ u32_lawful (λ memory. then_lawful _ _ expression_lawful (λ offset. made_lawful _ _ octets_lawful))

local_group_lawful : (before : ℕ) → IsLawful (local_group before)
unfolding local_group
local_group_lawful before = then_lawful _ _ (bounded_lawful _ _ u32_lawful) (λ n. made_lawful _ _ (byte_lawful value_type_of))

pub local_groups_lawful : (groups before : ℕ) → IsLawful (local_groups groups before)
unfolding local_groups
local_groups_lawful zero before = done_lawful []
local_groups_lawful (suc groups) before =
    then_lawful _ _ (local_group_lawful before) (λ p. made_lawful _ _ (local_groups_lawful groups (before + p.0)))

function_body_lawful : IsLawful function_body
unfolding function_body
function_body_lawful = then_lawful _ _ (bounded_lawful _ _ u32_lawful) (λ n. then_lawful _ _ (local_groups_lawful n 0) (λ ls. made_lawful _ _ expression_lawful))

pub code_lawful : IsLawful code
code_lawful = sized_lawful function_body function_body_lawful

-- ---- sections

code_vector_lawful : (declared : Option ℕ) → IsLawful (code_vector declared)
unfolding code_vector
code_vector_lawful declared = then_lawful _ _ (bounded_lawful _ _ (agreed_u32_lawful declared)) (λ n. repeated_lawful n _ code_lawful)

pub section_of_lawful : (declared : Option ℕ) (k : SectionKind) → IsLawful (section_of declared k)
unfolding section_of
section_of_lawful declared kind.Custom = made_lawful _ _ (sized_with_tail_lawful name name_lawful)
section_of_lawful declared kind.Type = made_lawful _ _ (sized_lawful _ (vector_lawful _ function_type_lawful))
section_of_lawful declared kind.Import = made_lawful _ _ (sized_lawful _ (vector_lawful _ import_lawful))
section_of_lawful declared kind.Function = made_lawful _ _ (sized_lawful _ (vector_lawful _ u32_lawful))
section_of_lawful declared kind.Table = made_lawful _ _ (sized_lawful _ (vector_lawful _ table_type_lawful))
section_of_lawful declared kind.Memory = made_lawful _ _ (sized_lawful _ (vector_lawful _ memory_type_lawful))
section_of_lawful declared kind.Global = made_lawful _ _ (sized_lawful _ (vector_lawful _ global_lawful))
section_of_lawful declared kind.Export = made_lawful _ _ (sized_lawful _ (vector_lawful _ export_lawful))
section_of_lawful declared kind.Start = made_lawful _ _ (sized_lawful _ u32_lawful)
section_of_lawful declared kind.Element = made_lawful _ _ (sized_lawful _ (vector_lawful _ element_lawful))
section_of_lawful declared kind.Code = made_lawful _ _ (sized_lawful _ (code_vector_lawful declared))
section_of_lawful declared kind.Data = made_lawful _ _ (sized_lawful _ (vector_lawful _ segment_lawful))

pub section_lawful : (before : Before) → IsLawful (section before)
unfolding section
section_lawful before = then_lawful _ _ (byte_lawful (section_kind_of before)) (λ k. section_of_lawful before.functions k)

pub section_takes_a_byte : (before : Before) (x : Section) (text : List ℕ) → (section before).spells x text → 0 < length text
unfolding section
section_takes_a_byte before x text s =
    let b = s.first_spelled in
    omega (arith, ap length s.parts, length-append s.front s.back, ap length b.alone)
