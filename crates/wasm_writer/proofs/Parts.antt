-- What a module has for each section, and the module that these sections make.
use Rattle.std.proofs.Common.{◌≡◌, ℕ, ◌+◌, ◌<◌, ◌≤◌, zero, suc, ◌⊎◌, Option, Some, None, List, [], ◌∷◌, ◌++◌, drop, inl, inr, refl, sym, ap, ◌∙◌, append_assoc, arith}
use Rattle.std.specs.List.{flat_map}
use Rattle.std.proofs.lemmas.List.{append-nil, drop_all}
use Rattle.wasm_syntax.specs.declared.kinds.TheConstants.{SECTIONS}
use Rattle.wasm_syntax.specs.declared.kinds.SectionKind.{SectionKind}
use Rattle.wasm_syntax.specs.declared.kinds.SectionKind.TheVariants as kind
use Rattle.wasm_syntax.specs.declared.types.FunctionType.{FunctionType}
use Rattle.wasm_syntax.specs.declared.types.Limits.{Limits}
use Rattle.wasm_syntax.specs.declared.module.Import.{Import}
use Rattle.wasm_syntax.specs.declared.module.Export.{Export}
use Rattle.wasm_syntax.specs.declared.module.Global.{Global}
use Rattle.wasm_syntax.specs.declared.module.Element.{Element}
use Rattle.wasm_syntax.specs.declared.module.Code.{Code}
use Rattle.wasm_syntax.specs.declared.module.Segment.{Segment}
use Rattle.wasm_syntax.specs.declared.module.Module.{Module}
use Rattle.wasm_syntax.specs.declared.section.Section.{Section}
use Rattle.wasm_syntax.specs.declared.section.Section.TheVariants.{Custom, Types, Imports, Functions, Tables, Memories, Globals, Exports, Start, Elements, Codes, Segments}
use Rattle.wasm_syntax.specs.Kinds.{id_of}
use Rattle.wasm_syntax.specs.Numbers.{u32_bytes}
use Rattle.wasm_syntax.specs.Grammar.{empty_module, with_section, with_sections}
use Rattle.wasm_writer.specs.Written.{vector_bytes, sized_bytes, function_type_bytes, import_bytes, table_type_bytes, memory_type_bytes, global_bytes, export_bytes, element_bytes, code_bytes, segment_bytes, members_bytes, start_bytes, part_bytes}

abbrev pub kind_of : Section → SectionKind
kind_of Custom = kind.Custom
kind_of (Types xs) = kind.Type
kind_of (Imports xs) = kind.Import
kind_of (Functions xs) = kind.Function
kind_of (Tables xs) = kind.Table
kind_of (Memories xs) = kind.Memory
kind_of (Globals xs) = kind.Global
kind_of (Exports xs) = kind.Export
kind_of (Start n) = kind.Start
kind_of (Elements xs) = kind.Element
kind_of (Codes xs) = kind.Code
kind_of (Segments xs) = kind.Data

-- a section's size and content
abbrev pub content_bytes : Section → List ℕ
content_bytes Custom = []
content_bytes (Types xs) = sized_bytes (vector_bytes function_type_bytes xs)
content_bytes (Imports xs) = sized_bytes (vector_bytes import_bytes xs)
content_bytes (Functions xs) = sized_bytes (vector_bytes u32_bytes xs)
content_bytes (Tables xs) = sized_bytes (vector_bytes table_type_bytes xs)
content_bytes (Memories xs) = sized_bytes (vector_bytes memory_type_bytes xs)
content_bytes (Globals xs) = sized_bytes (vector_bytes global_bytes xs)
content_bytes (Exports xs) = sized_bytes (vector_bytes export_bytes xs)
content_bytes (Start n) = sized_bytes (u32_bytes n)
content_bytes (Elements xs) = sized_bytes (vector_bytes element_bytes xs)
content_bytes (Codes xs) = sized_bytes (vector_bytes code_bytes xs)
content_bytes (Segments xs) = sized_bytes (vector_bytes segment_bytes xs)

abbrev pub whole_bytes : Section → List ℕ
whole_bytes x = id_of (kind_of x) ∷ content_bytes x

-- a section of members, where there are some
abbrev pub some : {A : Type 0} → (List A → Section) → List A → List Section
some section [] = []
some section (x ∷ xs) = section (x ∷ xs) ∷ []

abbrev pub start_of : Option ℕ → List Section
start_of None = []
start_of (Some n) = Start n ∷ []

abbrev pub keep : Section → List Section
keep Custom = []
keep (Types xs) = some Types xs
keep (Imports xs) = some Imports xs
keep (Functions xs) = some Functions xs
keep (Tables xs) = some Tables xs
keep (Memories xs) = some Memories xs
keep (Globals xs) = some Globals xs
keep (Exports xs) = some Exports xs
keep (Start n) = Start n ∷ []
keep (Elements xs) = some Elements xs
keep (Codes xs) = some Codes xs
keep (Segments xs) = some Segments xs

abbrev pub part : Module → SectionKind → List Section
part m kind.Custom = []
part m kind.Type = some Types m.types
part m kind.Import = some Imports m.imports
part m kind.Function = some Functions m.functions
part m kind.Table = some Tables m.tables
part m kind.Memory = some Memories m.memories
part m kind.Global = some Globals m.globals
part m kind.Export = some Exports m.exports
part m kind.Start = start_of m.start
part m kind.Element = some Elements m.elements
part m kind.Code = some Codes m.codes
part m kind.Data = some Segments m.segments

-- ---- the bytes of the parts

some_bytes : {A : Type 0} (section : List A → Section) (k : SectionKind) (bytes : A → List ℕ) (xs : List A) → ((ys : List A) → whole_bytes (section ys) ≡ id_of k ∷ sized_bytes (vector_bytes bytes ys)) → flat_map whole_bytes (some section xs) ≡ members_bytes k bytes xs
some_bytes section k bytes [] h = refl
some_bytes section k bytes (x ∷ xs) h = append-nil (whole_bytes (section (x ∷ xs))) ∙ h (x ∷ xs)

start_is : (o : Option ℕ) → flat_map whole_bytes (start_of o) ≡ start_bytes o
start_is None = refl
start_is (Some n) = append-nil (whole_bytes (Start n))

part_is_written : (m : Module) (k : SectionKind) → flat_map whole_bytes (part m k) ≡ part_bytes m k
part_is_written m kind.Custom = refl
part_is_written m kind.Type = some_bytes Types kind.Type function_type_bytes m.types (λ ys. refl)
part_is_written m kind.Import = some_bytes Imports kind.Import import_bytes m.imports (λ ys. refl)
part_is_written m kind.Function = some_bytes Functions kind.Function u32_bytes m.functions (λ ys. refl)
part_is_written m kind.Table = some_bytes Tables kind.Table table_type_bytes m.tables (λ ys. refl)
part_is_written m kind.Memory = some_bytes Memories kind.Memory memory_type_bytes m.memories (λ ys. refl)
part_is_written m kind.Global = some_bytes Globals kind.Global global_bytes m.globals (λ ys. refl)
part_is_written m kind.Export = some_bytes Exports kind.Export export_bytes m.exports (λ ys. refl)
part_is_written m kind.Start = start_is m.start
part_is_written m kind.Element = some_bytes Elements kind.Element element_bytes m.elements (λ ys. refl)
part_is_written m kind.Code = some_bytes Codes kind.Code code_bytes m.codes (λ ys. refl)
part_is_written m kind.Data = some_bytes Segments kind.Data segment_bytes m.segments (λ ys. refl)

flat_append : {A B : Type 0} (f : A → List B) (xs ys : List A) → flat_map f (xs ++ ys) ≡ flat_map f xs ++ flat_map f ys
flat_append f [] ys = refl
flat_append {B = B} f (x ∷ xs) ys = ap (λ (l : List B). f x ++ l) (flat_append f xs ys) ∙ sym (append_assoc (f x) (flat_map f xs) (flat_map f ys))

pub parts_are_written : (m : Module) (ks : List SectionKind) → flat_map whole_bytes (flat_map (part m) ks) ≡ flat_map (part_bytes m) ks
parts_are_written m [] = refl
parts_are_written m (k ∷ ks) = flat_append whole_bytes (part m k) (flat_map (part m) ks) ∙ (ap (λ (l : List ℕ). l ++ flat_map whole_bytes (flat_map (part m) ks)) (part_is_written m k) ∙ ap (λ (l : List ℕ). part_bytes m k ++ l) (parts_are_written m ks))

-- ---- the module that the parts make

with_append : (m : Module) (xs ys : List Section) → with_sections m (xs ++ ys) ≡ with_sections (with_sections m xs) ys
with_append m [] ys = refl
with_append m (x ∷ xs) ys = with_append (with_section m x) xs ys

-- parts put into a module that has nothing yet for them
put_types : (m : Module) (xs : List FunctionType) → m.types ≡ [] → with_sections m (some Types xs) ≡ record m { types = xs }
put_types m [] e = ap (λ ys. record m { types = ys }) e
put_types m (x ∷ xs) e = refl

put_imports : (m : Module) (xs : List Import) → m.imports ≡ [] → with_sections m (some Imports xs) ≡ record m { imports = xs }
put_imports m [] e = ap (λ ys. record m { imports = ys }) e
put_imports m (x ∷ xs) e = refl

put_functions : (m : Module) (xs : List ℕ) → m.functions ≡ [] → with_sections m (some Functions xs) ≡ record m { functions = xs }
put_functions m [] e = ap (λ ys. record m { functions = ys }) e
put_functions m (x ∷ xs) e = refl

put_tables : (m : Module) (xs : List Limits) → m.tables ≡ [] → with_sections m (some Tables xs) ≡ record m { tables = xs }
put_tables m [] e = ap (λ ys. record m { tables = ys }) e
put_tables m (x ∷ xs) e = refl

put_memories : (m : Module) (xs : List Limits) → m.memories ≡ [] → with_sections m (some Memories xs) ≡ record m { memories = xs }
put_memories m [] e = ap (λ ys. record m { memories = ys }) e
put_memories m (x ∷ xs) e = refl

put_globals : (m : Module) (xs : List Global) → m.globals ≡ [] → with_sections m (some Globals xs) ≡ record m { globals = xs }
put_globals m [] e = ap (λ ys. record m { globals = ys }) e
put_globals m (x ∷ xs) e = refl

put_exports : (m : Module) (xs : List Export) → m.exports ≡ [] → with_sections m (some Exports xs) ≡ record m { exports = xs }
put_exports m [] e = ap (λ ys. record m { exports = ys }) e
put_exports m (x ∷ xs) e = refl

put_start : (m : Module) (n : Option ℕ) → m.start ≡ None → with_sections m (start_of n) ≡ record m { start = n }
put_start m None e = ap (λ o. record m { start = o }) e
put_start m (Some n) e = refl

put_elements : (m : Module) (xs : List Element) → m.elements ≡ [] → with_sections m (some Elements xs) ≡ record m { elements = xs }
put_elements m [] e = ap (λ ys. record m { elements = ys }) e
put_elements m (x ∷ xs) e = refl

put_codes : (m : Module) (xs : List Code) → m.codes ≡ [] → with_sections m (some Codes xs) ≡ record m { codes = xs }
put_codes m [] e = ap (λ ys. record m { codes = ys }) e
put_codes m (x ∷ xs) e = refl

put_segments : (m : Module) (xs : List Segment) → m.segments ≡ [] → with_sections m (some Segments xs) ≡ record m { segments = xs }
put_segments m [] e = ap (λ ys. record m { segments = ys }) e
put_segments m (x ∷ xs) e = refl

pub parts_make : (m : Module) → with_sections empty_module (flat_map (part m) SECTIONS) ≡ m
parts_make m =
    let m0 : Module = record { types = []; imports = []; functions = []; tables = []; memories = []; globals = []; exports = []; start = None; elements = []; codes = []; segments = [] } in
    let m1 : Module = record { types = m.types; imports = []; functions = []; tables = []; memories = []; globals = []; exports = []; start = None; elements = []; codes = []; segments = [] } in
    let m2 : Module = record { types = m.types; imports = m.imports; functions = []; tables = []; memories = []; globals = []; exports = []; start = None; elements = []; codes = []; segments = [] } in
    let m3 : Module = record { types = m.types; imports = m.imports; functions = m.functions; tables = []; memories = []; globals = []; exports = []; start = None; elements = []; codes = []; segments = [] } in
    let m4 : Module = record { types = m.types; imports = m.imports; functions = m.functions; tables = m.tables; memories = []; globals = []; exports = []; start = None; elements = []; codes = []; segments = [] } in
    let m5 : Module = record { types = m.types; imports = m.imports; functions = m.functions; tables = m.tables; memories = m.memories; globals = []; exports = []; start = None; elements = []; codes = []; segments = [] } in
    let m6 : Module = record { types = m.types; imports = m.imports; functions = m.functions; tables = m.tables; memories = m.memories; globals = m.globals; exports = []; start = None; elements = []; codes = []; segments = [] } in
    let m7 : Module = record { types = m.types; imports = m.imports; functions = m.functions; tables = m.tables; memories = m.memories; globals = m.globals; exports = m.exports; start = None; elements = []; codes = []; segments = [] } in
    let m8 : Module = record { types = m.types; imports = m.imports; functions = m.functions; tables = m.tables; memories = m.memories; globals = m.globals; exports = m.exports; start = m.start; elements = []; codes = []; segments = [] } in
    let m9 : Module = record { types = m.types; imports = m.imports; functions = m.functions; tables = m.tables; memories = m.memories; globals = m.globals; exports = m.exports; start = m.start; elements = m.elements; codes = []; segments = [] } in
    let m10 : Module = record { types = m.types; imports = m.imports; functions = m.functions; tables = m.tables; memories = m.memories; globals = m.globals; exports = m.exports; start = m.start; elements = m.elements; codes = m.codes; segments = [] } in
    let m11 : Module = record { types = m.types; imports = m.imports; functions = m.functions; tables = m.tables; memories = m.memories; globals = m.globals; exports = m.exports; start = m.start; elements = m.elements; codes = m.codes; segments = m.segments } in
    let r0 : List Section = flat_map (part m) (drop 2 SECTIONS) in
    let r1 : List Section = flat_map (part m) (drop 3 SECTIONS) in
    let r2 : List Section = flat_map (part m) (drop 4 SECTIONS) in
    let r3 : List Section = flat_map (part m) (drop 5 SECTIONS) in
    let r4 : List Section = flat_map (part m) (drop 6 SECTIONS) in
    let r5 : List Section = flat_map (part m) (drop 7 SECTIONS) in
    let r6 : List Section = flat_map (part m) (drop 8 SECTIONS) in
    let r7 : List Section = flat_map (part m) (drop 9 SECTIONS) in
    let r8 : List Section = flat_map (part m) (drop 10 SECTIONS) in
    let r9 : List Section = flat_map (part m) (drop 11 SECTIONS) in
    let r10 : List Section = flat_map (part m) (drop 12 SECTIONS) in
    let e0 : with_sections m0 (part m kind.Type ++ r0) ≡ with_sections m1 r0 = with_append m0 (part m kind.Type) r0 ∙ ap (λ n. with_sections n r0) (put_types m0 m.types refl) in
    let e1 : with_sections m1 (part m kind.Import ++ r1) ≡ with_sections m2 r1 = with_append m1 (part m kind.Import) r1 ∙ ap (λ n. with_sections n r1) (put_imports m1 m.imports refl) in
    let e2 : with_sections m2 (part m kind.Function ++ r2) ≡ with_sections m3 r2 = with_append m2 (part m kind.Function) r2 ∙ ap (λ n. with_sections n r2) (put_functions m2 m.functions refl) in
    let e3 : with_sections m3 (part m kind.Table ++ r3) ≡ with_sections m4 r3 = with_append m3 (part m kind.Table) r3 ∙ ap (λ n. with_sections n r3) (put_tables m3 m.tables refl) in
    let e4 : with_sections m4 (part m kind.Memory ++ r4) ≡ with_sections m5 r4 = with_append m4 (part m kind.Memory) r4 ∙ ap (λ n. with_sections n r4) (put_memories m4 m.memories refl) in
    let e5 : with_sections m5 (part m kind.Global ++ r5) ≡ with_sections m6 r5 = with_append m5 (part m kind.Global) r5 ∙ ap (λ n. with_sections n r5) (put_globals m5 m.globals refl) in
    let e6 : with_sections m6 (part m kind.Export ++ r6) ≡ with_sections m7 r6 = with_append m6 (part m kind.Export) r6 ∙ ap (λ n. with_sections n r6) (put_exports m6 m.exports refl) in
    let e7 : with_sections m7 (part m kind.Start ++ r7) ≡ with_sections m8 r7 = with_append m7 (part m kind.Start) r7 ∙ ap (λ n. with_sections n r7) (put_start m7 m.start refl) in
    let e8 : with_sections m8 (part m kind.Element ++ r8) ≡ with_sections m9 r8 = with_append m8 (part m kind.Element) r8 ∙ ap (λ n. with_sections n r8) (put_elements m8 m.elements refl) in
    let e9 : with_sections m9 (part m kind.Code ++ r9) ≡ with_sections m10 r9 = with_append m9 (part m kind.Code) r9 ∙ ap (λ n. with_sections n r9) (put_codes m9 m.codes refl) in
    let e10 : with_sections m10 (part m kind.Data ++ r10) ≡ with_sections m11 r10 = with_append m10 (part m kind.Data) r10 ∙ ap (λ n. with_sections n r10) (put_segments m10 m.segments refl) in
    e0 ∙ e1 ∙ e2 ∙ e3 ∙ e4 ∙ e5 ∙ e6 ∙ e7 ∙ e8 ∙ e9 ∙ e10

-- ---- one part is set

pub part_same : (m : Module) (x : Section) → part (with_section m x) (kind_of x) ≡ keep x
part_same m Custom = refl
part_same m (Types xs) = refl
part_same m (Imports xs) = refl
part_same m (Functions xs) = refl
part_same m (Tables xs) = refl
part_same m (Memories xs) = refl
part_same m (Globals xs) = refl
part_same m (Exports xs) = refl
part_same m (Start n) = refl
part_same m (Elements xs) = refl
part_same m (Codes xs) = refl
part_same m (Segments xs) = refl

pub part_other : (m : Module) (x : Section) (k : SectionKind) → (kind_of x ≡ k → ⊥) → part (with_section m x) k ≡ part m k
part_other m Custom k ne = refl
part_other m (Types xs) kind.Type ne = absurd (ne refl)
part_other m (Types xs) k ne = refl
part_other m (Imports xs) kind.Import ne = absurd (ne refl)
part_other m (Imports xs) k ne = refl
part_other m (Functions xs) kind.Function ne = absurd (ne refl)
part_other m (Functions xs) k ne = refl
part_other m (Tables xs) kind.Table ne = absurd (ne refl)
part_other m (Tables xs) k ne = refl
part_other m (Memories xs) kind.Memory ne = absurd (ne refl)
part_other m (Memories xs) k ne = refl
part_other m (Globals xs) kind.Global ne = absurd (ne refl)
part_other m (Globals xs) k ne = refl
part_other m (Exports xs) kind.Export ne = absurd (ne refl)
part_other m (Exports xs) k ne = refl
part_other m (Start n) kind.Start ne = absurd (ne refl)
part_other m (Start n) k ne = refl
part_other m (Elements xs) kind.Element ne = absurd (ne refl)
part_other m (Elements xs) k ne = refl
part_other m (Codes xs) kind.Code ne = absurd (ne refl)
part_other m (Codes xs) k ne = refl
part_other m (Segments xs) kind.Data ne = absurd (ne refl)
part_other m (Segments xs) k ne = refl

-- ---- the kinds from an id on

next_kind : (l : ℕ) → (11 ≤ l) ⊎ ((k : SectionKind) × (drop (suc l) SECTIONS ≡ k ∷ drop (suc (suc l)) SECTIONS) × (id_of k ≡ suc l))
next_kind zero = inr (kind.Type, refl, refl)
next_kind (suc zero) = inr (kind.Import, refl, refl)
next_kind (suc (suc zero)) = inr (kind.Function, refl, refl)
next_kind (suc (suc (suc zero))) = inr (kind.Table, refl, refl)
next_kind (suc (suc (suc (suc zero)))) = inr (kind.Memory, refl, refl)
next_kind (suc (suc (suc (suc (suc zero))))) = inr (kind.Global, refl, refl)
next_kind (suc (suc (suc (suc (suc (suc zero)))))) = inr (kind.Export, refl, refl)
next_kind (suc (suc (suc (suc (suc (suc (suc zero))))))) = inr (kind.Start, refl, refl)
next_kind (suc (suc (suc (suc (suc (suc (suc (suc zero)))))))) = inr (kind.Element, refl, refl)
next_kind (suc (suc (suc (suc (suc (suc (suc (suc (suc zero))))))))) = inr (kind.Code, refl, refl)
next_kind (suc (suc (suc (suc (suc (suc (suc (suc (suc (suc zero)))))))))) = inr (kind.Data, refl, refl)
next_kind (suc (suc (suc (suc (suc (suc (suc (suc (suc (suc (suc n))))))))))) = inl (omega arith)

-- the members for kinds that have none are left out
pub skip : {B : Type 0} (f : SectionKind → List B) (d l : ℕ) → ((k : SectionKind) → l < id_of k → id_of k ≤ l + d → f k ≡ []) → flat_map f (drop (suc l) SECTIONS) ≡ flat_map f (drop (suc (l + d)) SECTIONS)
skip f zero l h = ap (λ (n : ℕ). flat_map f (drop (suc n) SECTIONS)) (omega arith)
skip {B = B} f (suc d) l h = elim (next_kind l) [
  | inl past ↦ ap (flat_map f) (drop_all (suc l) SECTIONS (omega arith) ∙ sym (drop_all (suc (l + suc d)) SECTIONS (omega arith)))
  | inr n ↦
      ap (flat_map f) n.1 ∙ (ap (λ (xs : List B). xs ++ flat_map f (drop (suc (suc l)) SECTIONS)) (h n.0 (omega (arith, n.2)) (omega (arith, n.2)))
      ∙ (skip f d (suc l) (λ k lt le. h k (omega arith) (omega arith)) ∙ ap (λ (n : ℕ). flat_map f (drop (suc n) SECTIONS)) (omega arith)))
]

pub own_kind : (k : SectionKind) → (k ≡ kind.Custom → ⊥) → drop (id_of k) SECTIONS ≡ k ∷ drop (suc (id_of k)) SECTIONS
own_kind kind.Custom ne = absurd (ne refl)
own_kind k ne = refl
