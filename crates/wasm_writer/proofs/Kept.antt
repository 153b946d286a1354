-- Sections that say nothing, and custom ones, may be left out: what is left is spelled, in fewer bytes.
use Rattle.std.proofs.Common.{◌≡◌, ℕ, ◌+◌, ◌<◌, ◌≤◌, zero, suc, ◌⊎◌, Bool, true, false, cond, eqb, ltb, ◌||◌, slice_get, Option, Some, None, List, [], ◌∷◌, ◌++◌, length, Err, inl, inr, refl, sym, ap, subst, ◌∙◌, arith}
use Rattle.std.specs.List.{flat_map}
use Rattle.std.proofs.lemmas.List.{length-append}
use Rattle.std.proofs.lemmas.Bool.{lt-ltb, ltb-true, eqb-true}
use Rattle.wasm_syntax.specs.declared.kinds.TheConstants.{SECTIONS}
use Rattle.wasm_syntax.specs.declared.kinds.SectionKind.{SectionKind}
use Rattle.wasm_syntax.specs.declared.kinds.SectionKind.TheVariants as kind
use Rattle.wasm_syntax.specs.declared.module.Code.{Code}
use Rattle.wasm_syntax.specs.declared.section.Section.{Section}
use Rattle.wasm_syntax.specs.declared.section.Section.TheVariants.{Custom, Types, Imports, Functions, Tables, Memories, Globals, Exports, Start, Elements, Codes, Segments}
use Rattle.wasm_syntax.specs.declared.section.Before.{Before}
use Rattle.wasm_syntax.specs.Kinds.{id_of}
use Rattle.wasm_syntax.specs.Numbers.{AreBytes, u32_bytes}
use Rattle.wasm_syntax.specs.Format.{Follows, Links}
use Rattle.wasm_syntax.specs.Items.{IsByte, u32, agrees, vector}
use Rattle.wasm_syntax.specs.Grammar.{ok_or, function_type, import, table_type, memory_type, global, export, element, segment, code, code_vector, section_kind_of, section_of, section, after, is_complete, SectionsSpell}
use Rattle.wasm_writer.specs.Written.{vector_bytes, sized_bytes, function_type_bytes, import_bytes, table_type_bytes, memory_type_bytes, global_bytes, export_bytes, element_bytes, code_bytes, segment_bytes}
use Rattle.wasm_writer.proofs.Forms.{IsWritten, with_written, follows_written, made_written, equal_written, repeated_length, front_bytes, back_bytes, bytes_join}
use Rattle.wasm_writer.proofs.Items.{byte_written, u32_written, vector_written, sized_written}
use Rattle.wasm_writer.proofs.Grammar.{chosen, good, same_value, function_type_written, import_written, table_type_written, memory_type_written, global_written, export_written, element_written, segment_written}
use Rattle.wasm_writer.proofs.Bodies.{code_vector_written}
use Rattle.wasm_writer.proofs.Parts.{kind_of, content_bytes, whole_bytes, keep}

-- ---- the byte of a section

or_cases : (a b : Bool) → (a || b) ≡ true → (a ≡ true) ⊎ (b ≡ true)
or_cases true b e = inl refl
or_cases false b e = inr e

or_left : (a b : Bool) → a ≡ true → (a || b) ≡ true
or_left a b e = ap (λ c. c || b) e

or_right : (a b : Bool) → b ≡ true → (a || b) ≡ true
or_right true b e = refl
or_right false b e = e

no_section : (k : SectionKind) → Err 4 ≡ good k → ⊥
no_section k e = absurd cc

section_at : (b : ℕ) (k : SectionKind) → ok_or (slice_get SECTIONS b) 4 ≡ good k → id_of k ≡ b
section_at zero k e = ap id_of (sym (same_value kind.Custom k e))
section_at (suc zero) k e = ap id_of (sym (same_value kind.Type k e))
section_at (suc (suc zero)) k e = ap id_of (sym (same_value kind.Import k e))
section_at (suc (suc (suc zero))) k e = ap id_of (sym (same_value kind.Function k e))
section_at (suc (suc (suc (suc zero)))) k e = ap id_of (sym (same_value kind.Table k e))
section_at (suc (suc (suc (suc (suc zero))))) k e = ap id_of (sym (same_value kind.Memory k e))
section_at (suc (suc (suc (suc (suc (suc zero)))))) k e = ap id_of (sym (same_value kind.Global k e))
section_at (suc (suc (suc (suc (suc (suc (suc zero))))))) k e = ap id_of (sym (same_value kind.Export k e))
section_at (suc (suc (suc (suc (suc (suc (suc (suc zero)))))))) k e = ap id_of (sym (same_value kind.Start k e))
section_at (suc (suc (suc (suc (suc (suc (suc (suc (suc zero))))))))) k e = ap id_of (sym (same_value kind.Element k e))
section_at (suc (suc (suc (suc (suc (suc (suc (suc (suc (suc zero)))))))))) k e = ap id_of (sym (same_value kind.Code k e))
section_at (suc (suc (suc (suc (suc (suc (suc (suc (suc (suc (suc zero))))))))))) k e = ap id_of (sym (same_value kind.Data k e))
section_at (suc (suc (suc (suc (suc (suc (suc (suc (suc (suc (suc (suc b)))))))))))) k e = absurd (no_section k e)

-- what the byte says, and where it may stand
record IsPlaced (before : Before) (b : ℕ) (k : SectionKind) : Type 0 where
  pub stands : id_of k ≡ b
  pub behind : (b ≡ 0) ⊎ (before.last < b)
  pub says : ok_or (slice_get SECTIONS b) 4 ≡ good k

placed : (before : Before) (b : ℕ) (k : SectionKind) → section_kind_of before b ≡ good k → IsPlaced before b k
placed before b k e = elim (chosen (eqb b 0 || ltb before.last b) (ok_or (slice_get SECTIONS b) 4) (Err 4) k e) [
  | inl p ↦ record {
    stands = section_at b k p.1;
    behind = elim (or_cases (eqb b 0) (ltb before.last b) p.0) [ inl z ↦ inl (eqb-true b 0 z) | inr l ↦ inr (ltb-true before.last b l) ];
    says = p.1;
  }
  | inr p ↦ absurd (no_section k p)
]

placed_again : (before sooner : Before) (b : ℕ) (k : SectionKind) → sooner.last ≤ before.last → section_kind_of before b ≡ good k → section_kind_of sooner b ≡ good k
placed_again before sooner b k le e = elim (chosen (eqb b 0 || ltb before.last b) (ok_or (slice_get SECTIONS b) 4) (Err 4) k e) [
  | inl p ↦
      let t : (eqb b 0 || ltb sooner.last b) ≡ true = elim (or_cases (eqb b 0) (ltb before.last b) p.0) [
        | inl z ↦ or_left (eqb b 0) (ltb sooner.last b) z
        | inr l ↦ let lt : before.last < b = ltb-true before.last b l in or_right (eqb b 0) (ltb sooner.last b) (lt-ltb sooner.last b (omega arith))
      ] in
      ap (λ c. cond c (ok_or (slice_get SECTIONS b) 4) (Err 4)) t ∙ p.1
  | inr p ↦ absurd (no_section k p)
]

-- ---- a section

-- any but a custom one
pub IsKept : Section → Type 0
IsKept Custom = ⊥
IsKept (Types xs) = Unit {0}
IsKept (Imports xs) = Unit {0}
IsKept (Functions xs) = Unit {0}
IsKept (Tables xs) = Unit {0}
IsKept (Memories xs) = Unit {0}
IsKept (Globals xs) = Unit {0}
IsKept (Exports xs) = Unit {0}
IsKept (Start n) = Unit {0}
IsKept (Elements xs) = Unit {0}
IsKept (Codes xs) = Unit {0}
IsKept (Segments xs) = Unit {0}

kind_same : (declared : Option ℕ) (k : SectionKind) (x : Section) (text : List ℕ) → (section_of declared k).spells x text → kind_of x ≡ k
unfolding section_of
kind_same declared kind.Custom x text s = ap kind_of s.second_spelled.0
kind_same declared kind.Type x text s = ap kind_of s.second_spelled.0
kind_same declared kind.Import x text s = ap kind_of s.second_spelled.0
kind_same declared kind.Function x text s = ap kind_of s.second_spelled.0
kind_same declared kind.Table x text s = ap kind_of s.second_spelled.0
kind_same declared kind.Memory x text s = ap kind_of s.second_spelled.0
kind_same declared kind.Global x text s = ap kind_of s.second_spelled.0
kind_same declared kind.Export x text s = ap kind_of s.second_spelled.0
kind_same declared kind.Start x text s = ap kind_of s.second_spelled.0
kind_same declared kind.Element x text s = ap kind_of s.second_spelled.0
kind_same declared kind.Code x text s = ap kind_of s.second_spelled.0
kind_same declared kind.Data x text s = ap kind_of s.second_spelled.0

not_custom : (declared : Option ℕ) (x : Section) (text : List ℕ) → (section_of declared kind.Custom).spells x text → IsKept x → ⊥
unfolding section_of IsKept
not_custom declared x text s h = subst IsKept s.second_spelled.0 h

content_written : (declared : Option ℕ) (k : SectionKind) → IsWritten (λ x text. (section_of declared k).spells x text × IsKept x) content_bytes
unfolding section_of
content_written declared kind.Custom = record { shortest = λ x other are s. absurd (not_custom declared x other s.0 s.1) }
content_written declared kind.Type = with_written (section_of declared kind.Type).spells IsKept content_bytes (made_written _ Types (λ xs. sized_bytes (vector_bytes function_type_bytes xs)) content_bytes (sized_written (vector function_type).spells (vector_bytes function_type_bytes) (vector_written function_type function_type_bytes function_type_written)) (λ xs. refl))
content_written declared kind.Import = with_written (section_of declared kind.Import).spells IsKept content_bytes (made_written _ Imports (λ xs. sized_bytes (vector_bytes import_bytes xs)) content_bytes (sized_written (vector import).spells (vector_bytes import_bytes) (vector_written import import_bytes import_written)) (λ xs. refl))
content_written declared kind.Function = with_written (section_of declared kind.Function).spells IsKept content_bytes (made_written _ Functions (λ xs. sized_bytes (vector_bytes u32_bytes xs)) content_bytes (sized_written (vector u32).spells (vector_bytes u32_bytes) (vector_written u32 u32_bytes u32_written)) (λ xs. refl))
content_written declared kind.Table = with_written (section_of declared kind.Table).spells IsKept content_bytes (made_written _ Tables (λ xs. sized_bytes (vector_bytes table_type_bytes xs)) content_bytes (sized_written (vector table_type).spells (vector_bytes table_type_bytes) (vector_written table_type table_type_bytes table_type_written)) (λ xs. refl))
content_written declared kind.Memory = with_written (section_of declared kind.Memory).spells IsKept content_bytes (made_written _ Memories (λ xs. sized_bytes (vector_bytes memory_type_bytes xs)) content_bytes (sized_written (vector memory_type).spells (vector_bytes memory_type_bytes) (vector_written memory_type memory_type_bytes memory_type_written)) (λ xs. refl))
content_written declared kind.Global = with_written (section_of declared kind.Global).spells IsKept content_bytes (made_written _ Globals (λ xs. sized_bytes (vector_bytes global_bytes xs)) content_bytes (sized_written (vector global).spells (vector_bytes global_bytes) (vector_written global global_bytes global_written)) (λ xs. refl))
content_written declared kind.Export = with_written (section_of declared kind.Export).spells IsKept content_bytes (made_written _ Exports (λ xs. sized_bytes (vector_bytes export_bytes xs)) content_bytes (sized_written (vector export).spells (vector_bytes export_bytes) (vector_written export export_bytes export_written)) (λ xs. refl))
content_written declared kind.Start = with_written (section_of declared kind.Start).spells IsKept content_bytes (made_written _ Start (λ n. sized_bytes (u32_bytes n)) content_bytes (sized_written u32.spells u32_bytes u32_written) (λ n. refl))
content_written declared kind.Element = with_written (section_of declared kind.Element).spells IsKept content_bytes (made_written _ Elements (λ xs. sized_bytes (vector_bytes element_bytes xs)) content_bytes (sized_written (vector element).spells (vector_bytes element_bytes) (vector_written element element_bytes element_written)) (λ xs. refl))
content_written declared kind.Code = with_written (section_of declared kind.Code).spells IsKept content_bytes (made_written _ Codes (λ xs. sized_bytes (vector_bytes code_bytes xs)) content_bytes (sized_written (code_vector declared).spells (vector_bytes code_bytes) (code_vector_written declared)) (λ xs. refl))
content_written declared kind.Data = with_written (section_of declared kind.Data).spells IsKept content_bytes (made_written _ Segments (λ xs. sized_bytes (vector_bytes segment_bytes xs)) content_bytes (sized_written (vector segment).spells (vector_bytes segment_bytes) (vector_written segment segment_bytes segment_written)) (λ xs. refl))

section_written : (before : Before) → IsWritten (λ x text. (section before).spells x text × IsKept x) whole_bytes
unfolding section
section_written before =
    equal_written (Follows (IsByte (section_kind_of before)) (λ k x text. (section_of before.functions k).spells x text × IsKept x)) (λ x text. (section before).spells x text × IsKept x) whole_bytes
    (λ x text s. (record { value = s.value; front = s.front; back = s.back; parts = s.parts; first_spelled = s.first_spelled; second_spelled = s.second_spelled.0 }, s.second_spelled.1))
    (λ x text s. record { value = s.0.value; front = s.0.front; back = s.0.back; parts = s.0.parts; first_spelled = s.0.first_spelled; second_spelled = (s.0.second_spelled, s.1) })
    (follows_written (IsByte (section_kind_of before)) (λ k x text. (section_of before.functions k).spells x text × IsKept x) (λ k. id_of k ∷ []) (λ _. content_bytes) whole_bytes
    (byte_written (section_kind_of before) (λ k. id_of k ∷ []) (λ b k e. ap (λ (n : ℕ). n ∷ []) (placed before b k e).stands))
    (content_written before.functions)
    (λ k x front back s t. ap (λ j. id_of j ∷ content_bytes x) (kind_same before.functions k x back t.0)))

zero_is_custom : (k : SectionKind) → id_of k ≡ 0 → k ≡ kind.Custom
zero_is_custom kind.Custom e = refl
zero_is_custom k e = absurd (omega arith)

-- where a section stands
pub stands_behind : (before : Before) (x : Section) (text : List ℕ) → (section before).spells x text → (kind_of x ≡ kind.Custom) ⊎ (before.last < id_of (kind_of x))
unfolding section
stands_behind before x text s =
    let k : kind_of x ≡ s.value = kind_same before.functions s.value x s.back s.second_spelled in
    let p = placed before s.first_spelled.byte s.value s.first_spelled.judged in
    elim p.behind [ inl z ↦ inl (k ∙ zero_is_custom s.value (p.stands ∙ z)) | inr l ↦ inr (omega (arith, ap id_of k, p.stands, l)) ]

-- ---- where a section of no members was left out

abbrev pub squash : Option ℕ → Option ℕ
squash None = None
squash (Some zero) = None
squash (Some (suc n)) = Some (suc n)

agrees_squashed : (declared : Option ℕ) (n : ℕ) → agrees declared n ≡ true → agrees (squash declared) n ≡ true
agrees_squashed None n e = refl
agrees_squashed (Some zero) n e = refl
agrees_squashed (Some (suc m)) n e = e

codes_squashed : (declared : Option ℕ) (xs : List Code) (text : List ℕ) → (code_vector declared).spells xs text → (code_vector (squash declared)).spells xs text
unfolding code_vector
codes_squashed declared xs text s = record {
  value = s.value;
  front = s.front;
  back = s.back;
  parts = s.parts;
  first_spelled = ((s.first_spelled.0.0, agrees_squashed declared s.value s.first_spelled.0.1), s.first_spelled.1);
  second_spelled = s.second_spelled;
}

squashed : (declared : Option ℕ) (k : SectionKind) (x : Section) (text : List ℕ) → (section_of declared k).spells x text → (section_of (squash declared) k).spells x text
unfolding section_of
squashed declared kind.Code x text s =
    let t = s.first_spelled in
    record {
      value = s.value;
      front = s.front;
      back = s.back;
      parts = s.parts;
      first_spelled = record { front = t.front; back = t.back; parts = t.parts; size = t.size; filled = codes_squashed declared s.value t.back t.filled };
      second_spelled = s.second_spelled;
    }
squashed declared k x text s = s

-- the sections so far, without those that were left out
pub record Behind (sooner before : Before) : Type 0 where
  pub last : sooner.last ≤ before.last
  pub functions : sooner.functions ≡ squash before.functions
  pub codes : sooner.codes ≡ squash before.codes

spelled_sooner : (sooner before : Before) (x : Section) (text : List ℕ) → Behind sooner before → (section before).spells x text → (section sooner).spells x text
unfolding section
spelled_sooner sooner before x text h s =
    let b = s.first_spelled in
    record {
      value = s.value;
      front = s.front;
      back = s.back;
      parts = s.parts;
      first_spelled = record { byte = b.byte; alone = b.alone; judged = placed_again before sooner b.byte s.value h.last b.judged };
      second_spelled = subst (λ (o : Option ℕ). (section_of o s.value).spells x s.back) (sym h.functions) (squashed before.functions s.value x s.back s.second_spelled);
    }

-- ---- what holds of the sections so far

pub record Orderly (before : Before) : Type 0 where
  pub functions : before.last < 3 → before.functions ≡ None
  pub codes : before.last < 10 → before.codes ≡ None
  pub agreed : (m n : ℕ) → before.functions ≡ Some m → before.codes ≡ Some n → n ≡ m

agreed_is : (declared : Option ℕ) (m n : ℕ) → agrees declared n ≡ true → declared ≡ Some m → n ≡ m
agreed_is None m n a e = absurd cc
agreed_is (Some d) m n a e = let i : n ≡ d = eqb-true n d a in let j : d ≡ m = cc in i ∙ j

codes_length : (declared : Option ℕ) (xs : List Code) (text : List ℕ) → (code_vector declared).spells xs text → agrees declared (length xs) ≡ true
unfolding code_vector
codes_length declared xs text s = ap (agrees declared) (repeated_length s.value code xs s.back s.second_spelled) ∙ s.first_spelled.0.1

members_of : Section → List Code
members_of (Codes xs) = xs
members_of x = []

codes_agree : (declared : Option ℕ) (k : SectionKind) (xs : List Code) (text : List ℕ) → (section_of declared k).spells (Codes xs) text → kind.Code ≡ k → agrees declared (length xs) ≡ true
unfolding section_of members_of
codes_agree declared k xs text s e =
    let t = subst (λ (j : SectionKind). (section_of declared j).spells (Codes xs) text) (sym e) s in
    let i : xs ≡ t.value = ap members_of t.second_spelled.0 in
    ap (λ (l : List Code). agrees declared (length l)) i ∙ codes_length declared t.value t.first_spelled.back t.first_spelled.filled

agreed_codes : (before : Before) (xs : List Code) (text : List ℕ) → (section before).spells (Codes xs) text → agrees before.functions (length xs) ≡ true
unfolding section
agreed_codes before xs text s = codes_agree before.functions s.value xs s.back s.second_spelled (kind_same before.functions s.value (Codes xs) s.back s.second_spelled)

-- the greatest id behind a section
goes_up : (before : Before) (x : Section) (text : List ℕ) (n : ℕ) → (section before).spells x text → id_of (kind_of x) ≡ suc n → before.last ≤ n
goes_up before x text n s e = elim (stands_behind before x text s) [ inl c ↦ absurd (let z : id_of (kind_of x) ≡ 0 = ap id_of c in omega arith) | inr l ↦ omega arith ]

none_some : (n : ℕ) → None ≡ Some n → ⊥
none_some n e = absurd cc

some_is : (m n : ℕ) → Some m ≡ Some n → m ≡ n
some_is m n e = cc

pub orderly_after : (before : Before) (x : Section) (text : List ℕ) → Orderly before → (section before).spells x text → Orderly (after before x)
orderly_after before Custom text h s = h
orderly_after before (Types xs) text h s = let l = goes_up before (Types xs) text 0 s refl in record { functions = λ lt. h.functions (omega arith); codes = λ lt. h.codes (omega arith); agreed = h.agreed }
orderly_after before (Imports xs) text h s = let l = goes_up before (Imports xs) text 1 s refl in record { functions = λ lt. h.functions (omega arith); codes = λ lt. h.codes (omega arith); agreed = h.agreed }
orderly_after before (Functions xs) text h s = let l = goes_up before (Functions xs) text 2 s refl in record {
  functions = λ lt. absurd (omega arith);
  codes = λ lt. h.codes (omega arith);
  agreed = λ m n e f. absurd (none_some n (sym (h.codes (omega arith)) ∙ f));
}
orderly_after before (Tables xs) text h s = let l = goes_up before (Tables xs) text 3 s refl in record { functions = λ lt. h.functions (omega arith); codes = λ lt. h.codes (omega arith); agreed = h.agreed }
orderly_after before (Memories xs) text h s = let l = goes_up before (Memories xs) text 4 s refl in record { functions = λ lt. h.functions (omega arith); codes = λ lt. h.codes (omega arith); agreed = h.agreed }
orderly_after before (Globals xs) text h s = let l = goes_up before (Globals xs) text 5 s refl in record { functions = λ lt. h.functions (omega arith); codes = λ lt. h.codes (omega arith); agreed = h.agreed }
orderly_after before (Exports xs) text h s = let l = goes_up before (Exports xs) text 6 s refl in record { functions = λ lt. h.functions (omega arith); codes = λ lt. h.codes (omega arith); agreed = h.agreed }
orderly_after before (Start n) text h s = let l = goes_up before (Start n) text 7 s refl in record { functions = λ lt. h.functions (omega arith); codes = λ lt. h.codes (omega arith); agreed = h.agreed }
orderly_after before (Elements xs) text h s = let l = goes_up before (Elements xs) text 8 s refl in record { functions = λ lt. h.functions (omega arith); codes = λ lt. h.codes (omega arith); agreed = h.agreed }
orderly_after before (Codes xs) text h s = record {
  functions = λ lt. absurd (omega arith);
  codes = λ lt. absurd (omega arith);
  agreed = λ m n e f. sym (some_is (length xs) n f) ∙ agreed_is before.functions m (length xs) (agreed_codes before xs text s) e;
}
orderly_after before (Segments xs) text h s = let l = goes_up before (Segments xs) text 10 s refl in record { functions = λ lt. h.functions (omega arith); codes = λ lt. h.codes (omega arith); agreed = h.agreed }

-- one that is left out, and one that is kept

left_out : (sooner before : Before) (x : Section) (text : List ℕ) → Orderly before → Behind sooner before → (section before).spells x text → keep x ≡ [] → Behind sooner (after before x)
left_out sooner before Custom text o h s e = h
left_out sooner before (Types xs) text o h s e = let l = goes_up before (Types xs) text 0 s refl in record { last = omega (arith, h.last); functions = h.functions; codes = h.codes }
left_out sooner before (Imports xs) text o h s e = let l = goes_up before (Imports xs) text 1 s refl in record { last = omega (arith, h.last); functions = h.functions; codes = h.codes }
left_out sooner before (Functions []) text o h s e = let l = goes_up before (Functions []) text 2 s refl in record { last = omega (arith, h.last); functions = h.functions ∙ ap squash (o.functions (omega arith)); codes = h.codes }
left_out sooner before (Functions (y ∷ ys)) text o h s e = absurd cc
left_out sooner before (Tables xs) text o h s e = let l = goes_up before (Tables xs) text 3 s refl in record { last = omega (arith, h.last); functions = h.functions; codes = h.codes }
left_out sooner before (Memories xs) text o h s e = let l = goes_up before (Memories xs) text 4 s refl in record { last = omega (arith, h.last); functions = h.functions; codes = h.codes }
left_out sooner before (Globals xs) text o h s e = let l = goes_up before (Globals xs) text 5 s refl in record { last = omega (arith, h.last); functions = h.functions; codes = h.codes }
left_out sooner before (Exports xs) text o h s e = let l = goes_up before (Exports xs) text 6 s refl in record { last = omega (arith, h.last); functions = h.functions; codes = h.codes }
left_out sooner before (Start n) text o h s e = absurd cc
left_out sooner before (Elements xs) text o h s e = let l = goes_up before (Elements xs) text 8 s refl in record { last = omega (arith, h.last); functions = h.functions; codes = h.codes }
left_out sooner before (Codes []) text o h s e = let l = goes_up before (Codes []) text 9 s refl in record { last = omega (arith, h.last); codes = h.codes ∙ ap squash (o.codes (omega arith)); functions = h.functions }
left_out sooner before (Codes (y ∷ ys)) text o h s e = absurd cc
left_out sooner before (Segments xs) text o h s e = let l = goes_up before (Segments xs) text 10 s refl in record { last = omega (arith, h.last); functions = h.functions; codes = h.codes }

kept_behind : (sooner before : Before) (x : Section) → Behind sooner before → keep x ≡ x ∷ [] → Behind (after sooner x) (after before x)
kept_behind sooner before Custom h e = h
kept_behind sooner before (Types xs) h e = record { last = omega arith; functions = h.functions; codes = h.codes }
kept_behind sooner before (Imports xs) h e = record { last = omega arith; functions = h.functions; codes = h.codes }
kept_behind sooner before (Functions []) h e = absurd cc
kept_behind sooner before (Functions (y ∷ ys)) h e = record { last = omega arith; functions = refl; codes = h.codes }
kept_behind sooner before (Tables xs) h e = record { last = omega arith; functions = h.functions; codes = h.codes }
kept_behind sooner before (Memories xs) h e = record { last = omega arith; functions = h.functions; codes = h.codes }
kept_behind sooner before (Globals xs) h e = record { last = omega arith; functions = h.functions; codes = h.codes }
kept_behind sooner before (Exports xs) h e = record { last = omega arith; functions = h.functions; codes = h.codes }
kept_behind sooner before (Start n) h e = record { last = omega arith; functions = h.functions; codes = h.codes }
kept_behind sooner before (Elements xs) h e = record { last = omega arith; functions = h.functions; codes = h.codes }
kept_behind sooner before (Codes []) h e = absurd cc
kept_behind sooner before (Codes (y ∷ ys)) h e = record { last = omega arith; codes = refl; functions = h.functions }
kept_behind sooner before (Segments xs) h e = record { last = omega arith; functions = h.functions; codes = h.codes }

kept_or_not : (x : Section) → (keep x ≡ []) ⊎ ((keep x ≡ x ∷ []) × IsKept x)
unfolding IsKept
kept_or_not Custom = inl refl
kept_or_not (Types []) = inl refl
kept_or_not (Types (x ∷ xs)) = inr (refl, tt)
kept_or_not (Imports []) = inl refl
kept_or_not (Imports (x ∷ xs)) = inr (refl, tt)
kept_or_not (Functions []) = inl refl
kept_or_not (Functions (x ∷ xs)) = inr (refl, tt)
kept_or_not (Tables []) = inl refl
kept_or_not (Tables (x ∷ xs)) = inr (refl, tt)
kept_or_not (Memories []) = inl refl
kept_or_not (Memories (x ∷ xs)) = inr (refl, tt)
kept_or_not (Globals []) = inl refl
kept_or_not (Globals (x ∷ xs)) = inr (refl, tt)
kept_or_not (Exports []) = inl refl
kept_or_not (Exports (x ∷ xs)) = inr (refl, tt)
kept_or_not (Start n) = inr (refl, tt)
kept_or_not (Elements []) = inl refl
kept_or_not (Elements (x ∷ xs)) = inr (refl, tt)
kept_or_not (Codes []) = inl refl
kept_or_not (Codes (x ∷ xs)) = inr (refl, tt)
kept_or_not (Segments []) = inl refl
kept_or_not (Segments (x ∷ xs)) = inr (refl, tt)

complete_again : (f c : Option ℕ) → ((m n : ℕ) → f ≡ Some m → c ≡ Some n → n ≡ m) → is_complete f c ≡ true → is_complete (squash f) (squash c) ≡ true
complete_again None None a e = refl
complete_again None (Some zero) a e = refl
complete_again None (Some (suc n)) a e = absurd (let i : suc n ≡ 0 = eqb-true (suc n) 0 e in omega arith)
complete_again (Some zero) None a e = refl
complete_again (Some (suc m)) None a e = absurd (let i : suc m ≡ 0 = eqb-true (suc m) 0 e in omega arith)
complete_again (Some zero) (Some zero) a e = refl
complete_again (Some zero) (Some (suc n)) a e = absurd (let i = a 0 (suc n) refl refl in omega arith)
complete_again (Some (suc m)) (Some zero) a e = absurd (let i = a (suc m) 0 refl refl in omega arith)
complete_again (Some (suc m)) (Some (suc n)) a e = refl

-- ---- all of them

abbrev pub kept : List Section → List Section
kept xs = flat_map keep xs

abbrev pub kept_bytes : List Section → List ℕ
kept_bytes xs = flat_map whole_bytes (kept xs)

pub record IsShorter (sooner : Before) (xs : List Section) (text : List ℕ) : Type 0 where
  pub bytes : AreBytes (kept_bytes xs)
  pub spelled : SectionsSpell sooner (kept xs) (kept_bytes xs)
  pub shorter : length (kept_bytes xs) ≤ length text

none_left : (sooner before : Before) (text : List ℕ) → Orderly before → Behind sooner before → SectionsSpell before [] text → SectionsSpell sooner [] []
unfolding SectionsSpell
none_left sooner before text o h s =
    (refl, ap (λ f. is_complete f sooner.codes) h.functions ∙ (ap (λ c. is_complete (squash before.functions) c) h.codes ∙ complete_again before.functions before.codes o.agreed s.1))

pub first_of_them : (before : Before) (x : Section) (xs : List Section) (text : List ℕ) → SectionsSpell before (x ∷ xs) text → Links (section before).spells (SectionsSpell (after before x) xs) x text
unfolding SectionsSpell
first_of_them before x xs text s = s

one_more_section : (before : Before) (x : Section) (xs : List Section) (front back : List ℕ) → (section before).spells x front → SectionsSpell (after before x) xs back → SectionsSpell before (x ∷ xs) (front ++ back)
unfolding SectionsSpell
one_more_section before x xs front back one others = record { front = front; back = back; parts = refl; first_spelled = one; others_spelled = others }

-- the same of other lists of sections
shorter_as : (sooner : Before) (ys : List Section) (xs : List Section) (text : List ℕ) → kept xs ≡ ys → AreBytes (flat_map whole_bytes ys) → SectionsSpell sooner ys (flat_map whole_bytes ys) → length (flat_map whole_bytes ys) ≤ length text → IsShorter sooner xs text
shorter_as sooner ys xs text e b s l = record {
  bytes = subst (λ (zs : List Section). AreBytes (flat_map whole_bytes zs)) (sym e) b;
  spelled = subst (λ (zs : List Section). SectionsSpell sooner zs (flat_map whole_bytes zs)) (sym e) s;
  shorter = subst (λ (zs : List Section). length (flat_map whole_bytes zs) ≤ length text) (sym e) l;
}

pub kept_is_shorter : (xs : List Section) (sooner before : Before) (text : List ℕ) → Orderly before → Behind sooner before → AreBytes text → SectionsSpell before xs text → IsShorter sooner xs text
kept_is_shorter [] sooner before text o h are s = record { bytes = tt; spelled = none_left sooner before text o h s; shorter = omega arith }
kept_is_shorter (x ∷ xs) sooner before text o h are s =
    let l = first_of_them before x xs text s in
    let f = front_bytes text l.front l.back l.parts are in
    let b = back_bytes text l.front l.back l.parts are in
    let p = orderly_after before x l.front o l.first_spelled in
    let n : length text ≡ length l.front + length l.back = ap length l.parts ∙ length-append l.front l.back in
    elim (kept_or_not x) [
      | inl out ↦
          let i = kept_is_shorter xs sooner (after before x) l.back p (left_out sooner before x l.front o h l.first_spelled out) b l.others_spelled in
          shorter_as sooner (kept xs) (x ∷ xs) text (ap (λ (ys : List Section). ys ++ kept xs) out) i.bytes i.spelled (omega (arith, i.shorter))
      | inr stays ↦
          let i = kept_is_shorter xs (after sooner x) (after before x) l.back p (kept_behind sooner before x h stays.0) b l.others_spelled in
          let one : (section sooner).spells x l.front = spelled_sooner sooner before x l.front h l.first_spelled in
          let w = (section_written sooner).shortest x l.front f (one, stays.1) in
          shorter_as sooner (x ∷ kept xs) (x ∷ xs) text (ap (λ (ys : List Section). ys ++ kept xs) stays.0)
          (bytes_join (whole_bytes x) (kept_bytes xs) w.bytes i.bytes)
          (one_more_section sooner x (kept xs) (whole_bytes x) (kept_bytes xs) w.spelled.0 i.spelled)
          (omega (arith, i.shorter, w.least l.front f (one, stays.1), length-append (whole_bytes x) (kept_bytes xs)))
    ]
