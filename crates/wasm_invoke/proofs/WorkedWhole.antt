-- The summing function, from the bytes of its module to its sum.
use Rattle.std.proofs.Common.{◌≡◌, ℕ, zero, suc, ◌<◌, pos, [], ◌∷◌, All, Some, Ok, Err, refl, sym, ap, ◌∙◌, subst, arith}
use Rattle.std.specs.Prelude.{codes as bytes_of}
use Rattle.std.specs.Str.{chars, is_utf8}
use lib.Utf8.{encode}
use Rattle.wasm_syntax.specs.declared.types.Value.TheVariants as values
use Rattle.wasm_syntax.specs.declared.types.ValueType.TheVariants.{I32}
use Rattle.wasm_syntax.specs.declared.types.FunctionType.{FunctionType}
use Rattle.wasm_syntax.specs.declared.instr.Instr.TheVariants as instr
use Rattle.wasm_syntax.specs.declared.instr.BlockType.TheVariants as block_type
use Rattle.wasm_syntax.specs.declared.module.Code.{Code}
use Rattle.wasm_syntax.specs.declared.valid.Part.{Part}
use Rattle.wasm_syntax.specs.declared.valid.Part.TheVariants as part
use Rattle.wasm_syntax.specs.Nested.{Nested, nothing, simple, block, loop, nests}
use Rattle.wasm_syntax.specs.Typing.{Context, inside, Typed}
use Rattle.wasm_syntax.specs.Numbers.{unsigned_at, signed_at}
use Rattle.wasm_syntax.specs.Format.{repeated, chain_reads}
use Rattle.wasm_syntax.specs.Grammar.{function_type, limits, table_type, memory_type, global_type, name, octets, memory_argument, operands, instruction, expression, import, export, global, element, segment, local_group, local_groups, function_body, code_vector, section_of, section, sections_read, module_read}
use Rattle.wasm_syntax.specs.Validity.{context_of, IsCode, IsGood, IsBounded, IsValid, entries_of}
use Rattle.wasm_syntax.specs.ReductionExamples.{word_to_word, sum_body}
use Rattle.wasm_syntax.specs.Reduction.{type_of_function}
use Rattle.wasm_syntax.specs.ReductionPrograms.{program_of}
use Rattle.wasm_syntax.proofs.ModuleLaws.{read_is_spelled}
use Rattle.wasm_syntax.proofs.TypingLaws.{same_some}
use Rattle.wasm_syntax.proofs.WorkedBodies.{step}
use Rattle.wasm_flat.specs.Holds.{HasType}
use Rattle.wasm_invoke.specs.Arguments.{Fits, AllFit}
use Rattle.wasm_invoke.specs.Invoking.{pages, IsModule, Invokes}
use Rattle.wasm_invoke.specs.declared.ends.End.TheVariants as ends
use Rattle.wasm_invoke.specs.declared.ends.Refusal.TheVariants as refusals
use Rattle.wasm_invoke.specs.Examples.{sums, bytes_of_sums}
use Rattle.wasm_invoke.proofs.Worked.{sums_up}

-- ---- it is valid

abbrev sum_code : Code
sum_code = record { locals = I32 ∷ []; body = sum_body }

abbrev sum_loop : Nested
sum_loop =
    simple (instr.LocalGet 0) (simple instr.I32Eqz (simple (instr.BrIf 1)
    (simple (instr.LocalGet 1) (simple (instr.LocalGet 0) (simple instr.I32Add (simple (instr.LocalSet 1)
    (simple (instr.LocalGet 0) (simple (instr.I32Const (pos 1)) (simple instr.I32Sub (simple (instr.LocalSet 0)
    (simple (instr.Br 0) nothing)))))))))))

abbrev sum_sequence : Nested
sum_sequence = block block_type.Empty (loop block_type.Empty sum_loop nothing) (simple (instr.LocalGet 1) nothing)

abbrev outside : Context
outside = inside (I32 ∷ []) (context_of sums word_to_word (I32 ∷ []))

abbrev within : Context
within = inside [] (inside [] outside)

loop_typed : Typed within sum_loop [] []
loop_typed = (
  I32 ∷ [],
  step within (instr.LocalGet 0) [] (I32 ∷ []) [] (I32, refl, (refl, refl)),
  (
    I32 ∷ [],
    step within instr.I32Eqz (I32 ∷ []) (I32 ∷ []) [] (refl, refl),
    (
      [],
      step within (instr.BrIf 1) (I32 ∷ []) [] [] ([], refl, (refl, refl)),
      (
        I32 ∷ [],
        step within (instr.LocalGet 1) [] (I32 ∷ []) [] (I32, refl, (refl, refl)),
        (
          I32 ∷ I32 ∷ [],
          step within (instr.LocalGet 0) [] (I32 ∷ []) (I32 ∷ []) (I32, refl, (refl, refl)),
          (
            I32 ∷ [],
            step within instr.I32Add (I32 ∷ I32 ∷ []) (I32 ∷ []) [] (refl, refl),
            (
              [],
              step within (instr.LocalSet 1) (I32 ∷ []) [] [] (I32, refl, (refl, refl)),
              (
                I32 ∷ [],
                step within (instr.LocalGet 0) [] (I32 ∷ []) [] (I32, refl, (refl, refl)),
                (
                  I32 ∷ I32 ∷ [],
                  step within (instr.I32Const (pos 1)) [] (I32 ∷ []) (I32 ∷ []) (refl, refl),
                  (
                    I32 ∷ [],
                    step within instr.I32Sub (I32 ∷ I32 ∷ []) (I32 ∷ []) [] (refl, refl),
                    (
                      [],
                      step within (instr.LocalSet 0) (I32 ∷ []) [] [] (I32, refl, (refl, refl)),
                      (
                        [],
                        step within (instr.Br 0) [] [] [] ([], [], refl, refl),
                        refl,
                      ),
                    ),
                  ),
                ),
              ),
            ),
          ),
        ),
      ),
    ),
  ),
)

sum_typed : IsCode sums 0 sum_code
unfolding nests
sum_typed = record {
  context = context_of sums word_to_word (I32 ∷ []);
  has = record { type_index = 0; type = word_to_word; declared = refl; typed = refl; context = refl };
  typed = (sum_sequence, refl, ((loop_typed, refl), (I32 ∷ [], step outside (instr.LocalGet 1) [] (I32 ∷ []) [] (I32, refl, (refl, refl)), refl)));
}

sum_bounded : IsBounded sum_code
unfolding nests
sum_bounded = record { sequence = sum_sequence; nests = refl; depth = omega arith; locals = omega arith }

all_one : (P : Code → Type 0) (x : Code) → P x → All P (x ∷ [])
all_one P x p zero d lt = p
all_one P x p (suc k) d lt = absurd (omega arith)

sum_entries : (p : Part) (n : ℕ) → n < entries_of sums p → IsGood sums p n
sum_entries part.Signature zero lt = (_, refl, omega arith)
sum_entries part.Signature (suc n) lt = absurd (omega arith)
sum_entries part.Import n lt = absurd (omega arith)
sum_entries part.Function zero lt = (0, refl, omega arith)
sum_entries part.Function (suc n) lt = absurd (omega arith)
sum_entries part.Table n lt = absurd (omega arith)
sum_entries part.Memory n lt = absurd (omega arith)
sum_entries part.Global n lt = absurd (omega arith)
sum_entries part.Element n lt = absurd (omega arith)
sum_entries part.Segment n lt = absurd (omega arith)
sum_entries part.Start n lt = absurd (omega arith)
sum_entries part.Export zero lt = (_, refl, (omega arith, λ k d none. absurd (omega arith)))
sum_entries part.Export (suc n) lt = absurd (omega arith)
sum_entries part.Code zero lt = (_, refl, sum_typed)
sum_entries part.Code (suc n) lt = absurd (omega arith)

sums_valid : IsValid sums
sums_valid = record { entries = sum_entries; coded = refl; bounded = all_one IsBounded sum_code sum_bounded }

-- ---- its bytes spell it

sums_read : module_read bytes_of_sums ≡ Ok sums
unfolding chars is_utf8 encode unsigned_at signed_at repeated chain_reads function_type limits table_type memory_type global_type name octets memory_argument operands instruction expression import export global element segment local_group local_groups function_body code_vector section_of section sections_read module_read
sums_read = refl

sums_are : IsModule bytes_of_sums sums
sums_are = record { spelled = read_is_spelled bytes_of_sums sums sums_read; valid = sums_valid; linked = refl }

-- ---- the calls

one_fits : Fits I32 (bytes_of "3")
one_fits = record { digits = (omega arith, (omega arith, tt)); small = omega arith }

sum_type : HasType (program_of sums pages) 0 word_to_word
unfolding nests
sum_type = (_, refl, refl)

pub called : Invokes bytes_of_sums (bytes_of "f") (bytes_of "3" ∷ []) (Ok (record { result = Some (values.I32 6); used = 45 }))
called = record {
  of = sums;
  is = sums_are;
  index = 0;
  export_is = refl;
  arguments = record { type = word_to_word; typed = sum_type; fit = (one_fits, tt) };
  how = sums_up;
}

pub no_export : Invokes bytes_of_sums (bytes_of "g") [] (Err (ends.Refused refusals.NoExport))
no_export = (sums, sums_are, refl)

-- the function has one type
no_words : (t : FunctionType) → word_to_word ≡ t → AllFit t.parameters [] → ⊥
no_words t e h = let g : AllFit (I32 ∷ []) [] = subst (λ (u : FunctionType). AllFit u.parameters []) (sym e) h in absurd g

one_type : (t : FunctionType) → HasType (program_of sums pages) 0 t → word_to_word ≡ t
unfolding nests
one_type t h = ap type_of_function (same_some _ h.0 h.1) ∙ h.2

pub no_arguments : Invokes bytes_of_sums (bytes_of "f") [] (Err (ends.Refused refusals.Arguments))
no_arguments = (sums, 0, sums_are, refl, λ a. no_words a.type (one_type a.type a.typed) a.fit)
