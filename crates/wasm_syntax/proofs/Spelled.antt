-- Every module that bytes spell keeps the bounds of the profile.
use Rattle.std.proofs.Common.{◌≡◌, ℕ, ◌+◌, ◌<◌, ◌≤◌, zero, suc, Bool, true, false, cond, ◌⊎◌, Option, Some, None, List, [], ◌∷◌, ◌++◌, length, replicate, Result, Ok, Err, refl, sym, ap, subst, ◌∙◌, arith, inl, inr}
use Rattle.std.specs.Prelude.{nat_eq, nat_lt, ◌||◌, slice_get}
use Rattle.std.specs.List.{AllByRecursion}
use Rattle.std.proofs.lemmas.List.{length-append, length-replicate}
use Rattle.std.proofs.lemmas.Bool.{leb-true, ltb-true, eqb-true}
use Rattle.wasm_syntax.specs.declared.types.ValueType.{ValueType}
use Rattle.wasm_syntax.specs.declared.kinds.TheConstants.{SECTIONS}
use Rattle.wasm_syntax.specs.declared.kinds.SectionKind.{SectionKind}
use Rattle.wasm_syntax.specs.declared.kinds.SectionKind.TheVariants as kind
use Rattle.wasm_syntax.specs.declared.module.Code.{Code}
use Rattle.wasm_syntax.specs.declared.module.Element.{Element}
use Rattle.wasm_syntax.specs.declared.module.Module.{Module}
use Rattle.wasm_syntax.specs.declared.section.Section.{Section}
use Rattle.wasm_syntax.specs.declared.section.Section.TheVariants.{Custom, Types, Imports, Functions, Tables, Memories, Globals, Exports, Start, Elements, Codes, Segments}
use Rattle.wasm_syntax.specs.declared.section.Before.{Before}
use Rattle.wasm_syntax.specs.Kinds.{id_of}
use Rattle.wasm_syntax.specs.Format.{Format, repeated, Links}
use Rattle.wasm_syntax.specs.Items.{u32, agrees, vector}
use Rattle.wasm_syntax.specs.Grammar.{function_type, table_type, memory_type, import, export, global, element, segment, local_group, local_groups, function_body, code, ok_or, before_all, section_kind_of, code_vector, section_of, section, after, is_complete, SectionsSpell, empty_module, with_section, with_sections, header, most_bytes, Spells}
use Rattle.wasm_syntax.specs.Spelled.{IsVector, IsSpelledCode, IsSpelled}
use Rattle.wasm_syntax.proofs.Shaped.{IsWhole, expression_whole}

-- ---- parts of a text are no longer than it

first_part : (text front back : List ℕ) → text ≡ front ++ back → length front ≤ length text
first_part text front back e = omega (arith, ap length e, length-append front back)

last_part : (text front back : List ℕ) → text ≡ front ++ back → length back ≤ length text
last_part text front back e = omega (arith, ap length e, length-append front back)

-- ---- so many in a row

repeated_length : {A : Type 0} (m : Format A) (n : ℕ) (xs : List A) (text : List ℕ) → (repeated n m).spells xs text → length xs ≡ n
unfolding repeated
repeated_length m zero xs text s = ap length s.0
repeated_length m (suc n) xs text s =
    let t = s.second_spelled in
    let l : length t.value ≡ n = repeated_length m n t.value t.front t.first_spelled in
    ap length t.second_spelled.0 ∙ ap suc l

repeated_all : {A : Type 0} (m : Format A) (holds : A → Type 0) (bound : ℕ) → ((x : A) (text : List ℕ) → length text ≤ bound → m.spells x text → holds x)
    → (n : ℕ) (xs : List A) (text : List ℕ) → length text ≤ bound → (repeated n m).spells xs text → AllByRecursion holds xs
unfolding repeated
repeated_all {A = A} m holds bound h zero xs text le s = subst (λ (l : List A). AllByRecursion holds l) (sym s.0) tt
repeated_all {A = A} m holds bound h (suc n) xs text le s =
    let t = s.second_spelled in
    let front : length s.front ≤ bound = omega (arith, first_part text s.front s.back s.parts) in
    let back : length t.front ≤ bound = omega (arith, last_part text s.front s.back s.parts, first_part s.back t.front t.back t.parts) in
    subst (λ (l : List A). AllByRecursion holds l) (sym t.second_spelled.0) (h s.value s.front front s.first_spelled, repeated_all m holds bound h n t.value t.front back t.first_spelled)

vector_length : {A : Type 0} (m : Format A) (xs : List A) (text : List ℕ) → (vector m).spells xs text → IsVector xs
vector_length m xs text s = omega (arith, leb-true s.value 65536 s.first_spelled.1, repeated_length m s.value xs s.back s.second_spelled)

vector_all : {A : Type 0} (m : Format A) (holds : A → Type 0) → ((x : A) (text : List ℕ) → m.spells x text → holds x) → (xs : List A) (text : List ℕ) → (vector m).spells xs text → AllByRecursion holds xs
vector_all m holds h xs text s = repeated_all m holds (length s.back) (λ x t le. h x t) s.value xs s.back (omega arith) s.second_spelled

-- ---- entries

element_vector : (e : Element) (text : List ℕ) → element.spells e text → IsVector e.functions
unfolding element
element_vector e text s =
    let t = s.second_spelled.second_spelled in
    subst (λ (x : Element). IsVector x.functions) (sym t.second_spelled.0) (vector_length u32 t.value t.front t.first_spelled)

group_within : (before : ℕ) (group : ℕ × ValueType) (text : List ℕ) → (local_group before).spells group text → before + group.0 ≤ 4096
unfolding local_group
group_within before group text s =
    subst (λ (g : ℕ × ValueType). before + g.0 ≤ 4096) (sym s.second_spelled.second_spelled.0) (leb-true (before + s.value) 4096 s.first_spelled.1)

locals_within : (groups before : ℕ) (locals : List ValueType) (text : List ℕ) → before ≤ 4096 → (local_groups groups before).spells locals text → before + length locals ≤ 4096
unfolding local_groups
locals_within zero before locals text le s = omega (arith, ap length s.0)
locals_within (suc groups) before locals text le s =
    let t = s.second_spelled in
    let one = group_within before s.value s.front s.first_spelled in
    let more = locals_within groups (before + s.value.0) t.value t.front one t.first_spelled in
    omega (arith, ap length t.second_spelled.0, length-append (replicate s.value.0 s.value.1) t.value, length-replicate s.value.0 s.value.1, more)

whole_code : (code : Code) (text : List ℕ) → IsWhole code.body text → length text ≤ most_bytes → length code.locals ≤ 4096 → IsSpelledCode code
whole_code code text w le few =
    record { bounded = record { sequence = w.sequence; nests = w.nests; depth = w.depth; locals = few }; short = omega (arith, w.short) }

body_kept : (code : Code) (text : List ℕ) → length text ≤ most_bytes → function_body.spells code text → IsSpelledCode code
unfolding function_body
body_kept code text le s =
    let t = s.second_spelled in
    let u = t.second_spelled in
    let few : length t.value ≤ 4096 = omega (arith, locals_within s.value 0 t.value t.front (omega arith) t.first_spelled) in
    let short : length u.front ≤ most_bytes = omega (arith, last_part text s.front s.back s.parts, last_part s.back t.front t.back t.parts, first_part t.back u.front u.back u.parts) in
    subst (λ (c : Code). IsSpelledCode c) (sym u.second_spelled.0) (whole_code (record { locals = t.value; body = u.value }) u.front (expression_whole u.value u.front u.first_spelled) short few)

code_kept : (x : Code) (text : List ℕ) → length text ≤ most_bytes → code.spells x text → IsSpelledCode x
code_kept x text le s = body_kept x s.back (omega (arith, last_part text s.front s.back s.parts)) s.filled

-- ---- a section

record KeptCodes (declared : Option ℕ) (xs : List Code) : Type 0 where
  vector : IsVector xs
  agreed : agrees declared (length xs) ≡ true
  each : AllByRecursion IsSpelledCode xs

codes_kept : (declared : Option ℕ) (xs : List Code) (text : List ℕ) → length text ≤ most_bytes → (code_vector declared).spells xs text → KeptCodes declared xs
unfolding code_vector
codes_kept declared xs text le s =
    let n : length xs ≡ s.value = repeated_length code s.value xs s.back s.second_spelled in
    record {
      vector = omega (arith, n, leb-true s.value 65536 s.first_spelled.1);
      agreed = ap (agrees declared) n ∙ s.first_spelled.0.1;
      each = repeated_all code IsSpelledCode most_bytes code_kept s.value xs s.back (omega (arith, last_part text s.front s.back s.parts)) s.second_spelled;
    }

-- what its members keep
abbrev Keeps : Option ℕ → Section → Type 0
Keeps declared Custom = Unit {0}
Keeps declared (Types xs) = IsVector xs
Keeps declared (Imports xs) = IsVector xs
Keeps declared (Functions xs) = IsVector xs
Keeps declared (Tables xs) = IsVector xs
Keeps declared (Memories xs) = IsVector xs
Keeps declared (Globals xs) = IsVector xs
Keeps declared (Exports xs) = IsVector xs
Keeps declared (Start n) = Unit {0}
Keeps declared (Elements xs) = IsVector xs × AllByRecursion (λ (e : Element). IsVector e.functions) xs
Keeps declared (Codes xs) = KeptCodes declared xs
Keeps declared (Segments xs) = IsVector xs

abbrev kind_of : Section → SectionKind
kind_of Custom = kind.Custom
kind_of (Types xs) = kind.Type
kind_of (Imports xs) = kind.Import
kind_of (Functions xs) = kind.Function
kind_of (Tables xs) = kind.Table
kind_of (Memories xs) = kind.Memory
kind_of (Globals xs) = kind.Global
kind_of (Exports xs) = kind.Export
kind_of (Start n) = kind.Start
kind_of (Elements xs) = kind.Element
kind_of (Codes xs) = kind.Code
kind_of (Segments xs) = kind.Data

record Kept (declared : Option ℕ) (k : SectionKind) (x : Section) : Type 0 where
  keeps : Keeps declared x
  same : k ≡ kind_of x

kept_as : (declared : Option ℕ) (k : SectionKind) (x y : Section) → x ≡ y → Keeps declared y → k ≡ kind_of y → Kept declared k x
kept_as declared k x y e h s = subst (λ (z : Section). Kept declared k z) (sym e) (record { keeps = h; same = s })

section_of_kept : (declared : Option ℕ) (k : SectionKind) (x : Section) (text : List ℕ) → length text ≤ most_bytes → (section_of declared k).spells x text → Kept declared k x
unfolding section_of
section_of_kept declared kind.Custom x text le s = kept_as declared kind.Custom x Custom s.second_spelled.0 tt refl
section_of_kept declared kind.Type x text le s = kept_as declared kind.Type x (Types s.value) s.second_spelled.0 (vector_length function_type s.value s.first_spelled.back s.first_spelled.filled) refl
section_of_kept declared kind.Import x text le s = kept_as declared kind.Import x (Imports s.value) s.second_spelled.0 (vector_length import s.value s.first_spelled.back s.first_spelled.filled) refl
section_of_kept declared kind.Function x text le s = kept_as declared kind.Function x (Functions s.value) s.second_spelled.0 (vector_length u32 s.value s.first_spelled.back s.first_spelled.filled) refl
section_of_kept declared kind.Table x text le s = kept_as declared kind.Table x (Tables s.value) s.second_spelled.0 (vector_length table_type s.value s.first_spelled.back s.first_spelled.filled) refl
section_of_kept declared kind.Memory x text le s = kept_as declared kind.Memory x (Memories s.value) s.second_spelled.0 (vector_length memory_type s.value s.first_spelled.back s.first_spelled.filled) refl
section_of_kept declared kind.Global x text le s = kept_as declared kind.Global x (Globals s.value) s.second_spelled.0 (vector_length global s.value s.first_spelled.back s.first_spelled.filled) refl
section_of_kept declared kind.Export x text le s = kept_as declared kind.Export x (Exports s.value) s.second_spelled.0 (vector_length export s.value s.first_spelled.back s.first_spelled.filled) refl
section_of_kept declared kind.Start x text le s = kept_as declared kind.Start x (Start s.value) s.second_spelled.0 tt refl
section_of_kept declared kind.Element x text le s =
    let t = s.first_spelled in
    kept_as declared kind.Element x (Elements s.value) s.second_spelled.0 (vector_length element s.value t.back t.filled, vector_all element (λ (e : Element). IsVector e.functions) element_vector s.value t.back t.filled) refl
section_of_kept declared kind.Code x text le s =
    let t = s.first_spelled in
    let short : length t.back ≤ most_bytes = omega (arith, first_part text s.front s.back s.parts, last_part s.front t.front t.back t.parts) in
    kept_as declared kind.Code x (Codes s.value) s.second_spelled.0 (codes_kept declared s.value t.back short t.filled) refl
section_of_kept declared kind.Data x text le s = kept_as declared kind.Data x (Segments s.value) s.second_spelled.0 (vector_length segment s.value s.first_spelled.back s.first_spelled.filled) refl

-- ---- the order of the sections

chosen_kind : (t : Bool) (o : Option SectionKind) (k : SectionKind) → cond {A = Result SectionKind ℕ} t (ok_or o 4) (Err 4) ≡ Ok k → (t ≡ true) × (o ≡ Some k)
chosen_kind true (Some j) k e = (refl, cc)
chosen_kind true None k e = absurd cc
chosen_kind false o k e = absurd cc

either_true : (a b : Bool) → (a || b) ≡ true → (a ≡ true) ⊎ (b ≡ true)
either_true true b e = inl refl
either_true false b e = inr e

id_at : (b : ℕ) (k : SectionKind) → slice_get SECTIONS b ≡ Some k → b ≡ id_of k
id_at zero k e = ap id_of (let f : kind.Custom ≡ k = cc in f)
id_at (suc zero) k e = ap id_of (let f : kind.Type ≡ k = cc in f)
id_at (suc (suc zero)) k e = ap id_of (let f : kind.Import ≡ k = cc in f)
id_at (suc (suc (suc zero))) k e = ap id_of (let f : kind.Function ≡ k = cc in f)
id_at (suc (suc (suc (suc zero)))) k e = ap id_of (let f : kind.Table ≡ k = cc in f)
id_at (suc (suc (suc (suc (suc zero))))) k e = ap id_of (let f : kind.Memory ≡ k = cc in f)
id_at (suc (suc (suc (suc (suc (suc zero)))))) k e = ap id_of (let f : kind.Global ≡ k = cc in f)
id_at (suc (suc (suc (suc (suc (suc (suc zero))))))) k e = ap id_of (let f : kind.Export ≡ k = cc in f)
id_at (suc (suc (suc (suc (suc (suc (suc (suc zero)))))))) k e = ap id_of (let f : kind.Start ≡ k = cc in f)
id_at (suc (suc (suc (suc (suc (suc (suc (suc (suc zero))))))))) k e = ap id_of (let f : kind.Element ≡ k = cc in f)
id_at (suc (suc (suc (suc (suc (suc (suc (suc (suc (suc zero)))))))))) k e = ap id_of (let f : kind.Code ≡ k = cc in f)
id_at (suc (suc (suc (suc (suc (suc (suc (suc (suc (suc (suc zero))))))))))) k e = ap id_of (let f : kind.Data ≡ k = cc in f)
id_at (suc (suc (suc (suc (suc (suc (suc (suc (suc (suc (suc (suc b)))))))))))) k e = absurd cc

-- a custom section, or one whose turn it is
abbrev IsTurn : Before → ℕ → Type 0
IsTurn before id = (id ≡ 0) ⊎ (before.last < id)

turn : (before : Before) (b : ℕ) (k : SectionKind) → section_kind_of before b ≡ Ok k → IsTurn before (id_of k)
turn before b k e =
    let c = chosen_kind (nat_eq b 0 || nat_lt before.last b) (slice_get SECTIONS b) k e in
    let id : b ≡ id_of k = id_at b k c.1 in
    elim (either_true (nat_eq b 0) (nat_lt before.last b) c.0) [
      | inl z ↦ inl (sym id ∙ eqb-true b 0 z)
      | inr l ↦ inr (subst (λ (n : ℕ). before.last < n) id (ltb-true before.last b l))
    ]

record IsNext (before : Before) (x : Section) : Type 0 where
  keeps : Keeps before.functions x
  turn : IsTurn before (id_of (kind_of x))

section_next : (before : Before) (x : Section) (text : List ℕ) → length text ≤ most_bytes → (section before).spells x text → IsNext before x
unfolding section
section_next before x text le s =
    let k = section_of_kept before.functions s.value x s.back (omega (arith, last_part text s.front s.back s.parts)) s.second_spelled in
    record {
      keeps = k.keeps;
      turn = subst (λ (j : SectionKind). IsTurn before (id_of j)) k.same (turn before s.first_spelled.byte s.value s.first_spelled.judged);
    }

-- ---- how many functions and codes there are

abbrev CountIs : {A : Type 0} → Option ℕ → List A → Type 0
CountIs None xs = length xs ≡ 0
CountIs (Some n) xs = length xs ≡ n

abbrev Agreed : Option ℕ → Option ℕ → Type 0
Agreed None codes = Unit {0}
Agreed (Some n) None = Unit {0}
Agreed (Some n) (Some c) = c ≡ n

-- the functions and codes so far; once there are codes, no function section can come
record Counted (before : Before) (m : Module) : Type 0 where
  functions : CountIs before.functions m.functions
  codes : CountIs before.codes m.codes
  late : (before.codes ≡ None) ⊎ (10 ≤ before.last)
  agreed : Agreed before.functions before.codes

no_codes : (before : Before) (m : Module) (id : ℕ) → Counted before m → IsTurn before (suc id) → suc id < 10 → before.codes ≡ None
no_codes before m id c t lt = elim c.late [
  | inl none ↦ none
  | inr late ↦ elim t [
    | inl z ↦ absurd (omega (arith, z))
    | inr l ↦ absurd (omega (arith, l, late))
  ]
]

codes_agreed : (declared : Option ℕ) (n : ℕ) → agrees declared n ≡ true → Agreed declared (Some n)
codes_agreed None n e = tt
codes_agreed (Some d) n e = eqb-true n d e

agreed_with_none : (n : ℕ) (codes : Option ℕ) → codes ≡ None → Agreed (Some n) codes
agreed_with_none n None e = tt
agreed_with_none n (Some c) e = absurd cc

next_counted : (before : Before) (m : Module) (x : Section) → Counted before m → IsNext before x → Counted (after before x) (with_section m x)
next_counted before m Custom c h = c
next_counted before m (Types xs) c h = record { functions = c.functions; codes = c.codes; late = inl (no_codes before m 0 c h.turn (omega arith)); agreed = c.agreed }
next_counted before m (Imports xs) c h = record { functions = c.functions; codes = c.codes; late = inl (no_codes before m 1 c h.turn (omega arith)); agreed = c.agreed }
next_counted before m (Functions xs) c h =
    let none : before.codes ≡ None = no_codes before m 2 c h.turn (omega arith) in
    record { functions = refl; codes = c.codes; late = inl none; agreed = agreed_with_none (length xs) before.codes none }
next_counted before m (Tables xs) c h = record { functions = c.functions; codes = c.codes; late = inl (no_codes before m 3 c h.turn (omega arith)); agreed = c.agreed }
next_counted before m (Memories xs) c h = record { functions = c.functions; codes = c.codes; late = inl (no_codes before m 4 c h.turn (omega arith)); agreed = c.agreed }
next_counted before m (Globals xs) c h = record { functions = c.functions; codes = c.codes; late = inl (no_codes before m 5 c h.turn (omega arith)); agreed = c.agreed }
next_counted before m (Exports xs) c h = record { functions = c.functions; codes = c.codes; late = inl (no_codes before m 6 c h.turn (omega arith)); agreed = c.agreed }
next_counted before m (Start n) c h = record { functions = c.functions; codes = c.codes; late = inl (no_codes before m 7 c h.turn (omega arith)); agreed = c.agreed }
next_counted before m (Elements xs) c h = record { functions = c.functions; codes = c.codes; late = inl (no_codes before m 8 c h.turn (omega arith)); agreed = c.agreed }
next_counted before m (Codes xs) c h = record { functions = c.functions; codes = refl; late = inr (omega arith); agreed = codes_agreed before.functions (length xs) h.keeps.agreed }
next_counted before m (Segments xs) c h = record { functions = c.functions; codes = c.codes; late = inr (omega arith); agreed = c.agreed }

same_counts : {A B : Type 0} (functions codes : Option ℕ) (fs : List A) (cs : List B) → CountIs functions fs → CountIs codes cs → Agreed functions codes → is_complete functions codes ≡ true → length fs ≡ length cs
same_counts None None fs cs f c a e = cc
same_counts None (Some n) fs cs f c a e = let z : n ≡ 0 = eqb-true n 0 e in cc
same_counts (Some n) None fs cs f c a e = let z : n ≡ 0 = eqb-true n 0 e in cc
same_counts (Some n) (Some k) fs cs f c a e = cc

-- ---- the members of a module

record KeepsMembers (m : Module) : Type 0 where
  types : IsVector m.types
  imports : IsVector m.imports
  functions : IsVector m.functions
  tables : IsVector m.tables
  memories : IsVector m.memories
  globals : IsVector m.globals
  exports : IsVector m.exports
  elements : IsVector m.elements
  codes : IsVector m.codes
  segments : IsVector m.segments
  indices : AllByRecursion (λ (e : Element). IsVector e.functions) m.elements
  each_code : AllByRecursion IsSpelledCode m.codes

next_members : (declared : Option ℕ) (m : Module) (x : Section) → KeepsMembers m → Keeps declared x → KeepsMembers (with_section m x)
next_members declared m Custom k h = k
next_members declared m (Types xs) k h = assumption (k, h)
next_members declared m (Imports xs) k h = assumption (k, h)
next_members declared m (Functions xs) k h = assumption (k, h)
next_members declared m (Tables xs) k h = assumption (k, h)
next_members declared m (Memories xs) k h = assumption (k, h)
next_members declared m (Globals xs) k h = assumption (k, h)
next_members declared m (Exports xs) k h = assumption (k, h)
next_members declared m (Start n) k h = assumption (k, h)
next_members declared m (Elements xs) k h = assumption (k, h)
next_members declared m (Codes xs) k h = assumption (k, h)
next_members declared m (Segments xs) k h = assumption (k, h)

no_members : KeepsMembers empty_module
no_members = record {
  types = omega arith;
  imports = omega arith;
  functions = omega arith;
  tables = omega arith;
  memories = omega arith;
  globals = omega arith;
  exports = omega arith;
  elements = omega arith;
  codes = omega arith;
  segments = omega arith;
  indices = tt;
  each_code = tt;
}

-- ---- all sections

no_section : (before : Before) (text : List ℕ) → SectionsSpell before [] text → is_complete before.functions before.codes ≡ true
unfolding SectionsSpell
no_section before text s = s.1

first_section : (before : Before) (x : Section) (xs : List Section) (text : List ℕ) → SectionsSpell before (x ∷ xs) text → Links (section before).spells (SectionsSpell (after before x) xs) x text
unfolding SectionsSpell
first_section before x xs text s = s

record KeepsAll (m : Module) : Type 0 where
  members : KeepsMembers m
  coded : length m.functions ≡ length m.codes

sections_kept : (xs : List Section) (before : Before) (m : Module) (text : List ℕ) → length text ≤ most_bytes → KeepsMembers m → Counted before m → SectionsSpell before xs text → KeepsAll (with_sections m xs)
sections_kept [] before m text le k c s =
    record { members = k; coded = same_counts before.functions before.codes m.functions m.codes c.functions c.codes c.agreed (no_section before text s) }
sections_kept (x ∷ xs) before m text le k c s =
    let l = first_section before x xs text s in
    let front : length l.front ≤ most_bytes = omega (arith, first_part text l.front l.back l.parts) in
    let back : length l.back ≤ most_bytes = omega (arith, last_part text l.front l.back l.parts) in
    let next = section_next before x l.front front l.first_spelled in
    sections_kept xs (after before x) (with_section m x) l.back back (next_members before.functions m x k next.keeps) (next_counted before m x c next) l.others_spelled

kept_spelled : (m : Module) → KeepsAll m → IsSpelled m
kept_spelled m k = assumption (k.members, k.coded)

pub spelled-keeps : (b : List ℕ) (m : Module) → Spells b m → IsSpelled m
spelled-keeps b m s =
    let short : length s.text ≤ most_bytes = omega (arith, leb-true (length b) most_bytes s.within, last_part b header s.text s.parts) in
    let none : Counted before_all empty_module = record { functions = refl; codes = refl; late = inl refl; agreed = tt } in
    subst (λ (n : Module). IsSpelled n) (sym s.made) (kept_spelled (with_sections empty_module s.sections) (sections_kept s.sections before_all empty_module s.text short no_members none s.spelled))
