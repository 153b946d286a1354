-- What is written for a module spells it, and no bytes that do are fewer.
use Rattle.std.proofs.Common.{◌≡◌, ℕ, ◌+◌, ◌-◌, ◌<◌, ◌≤◌, suc, List, [], ◌∷◌, ◌++◌, length, drop, Ok, inl, inr, refl, sym, ap, subst, ◌∙◌, arith}
use Rattle.std.specs.List.{flat_map}
use Rattle.std.proofs.lemmas.List.{length-append, drop_all}
use Rattle.std.proofs.lemmas.Bool.{leb-true, le-leb}
use Rattle.wasm_syntax.specs.declared.kinds.TheConstants.{SECTIONS}
use Rattle.wasm_syntax.specs.declared.kinds.SectionKind.{SectionKind}
use Rattle.wasm_syntax.specs.declared.kinds.SectionKind.TheVariants as kind
use Rattle.wasm_syntax.specs.declared.module.Module.{Module}
use Rattle.wasm_syntax.specs.declared.section.Section.{Section}
use Rattle.wasm_syntax.specs.declared.section.Section.TheVariants.{Custom, Types, Imports, Functions, Tables, Memories, Globals, Exports, Start, Elements, Codes, Segments}
use Rattle.wasm_syntax.specs.declared.section.Before.{Before}
use Rattle.wasm_syntax.specs.Kinds.{id_of}
use Rattle.wasm_syntax.specs.Numbers.{AreBytes, IsShortest}
use Rattle.wasm_syntax.specs.Grammar.{before_all, after, SectionsSpell, empty_module, with_section, with_sections, header, most_bytes, Spells, module_read}
use Rattle.wasm_syntax.proofs.ModuleLaws.{spelled_is_read}
use Rattle.wasm_writer.specs.Written.{part_bytes, module_bytes}
use Rattle.wasm_writer.proofs.Forms.{back_bytes, bytes_join}
use Rattle.wasm_writer.proofs.Parts.{kind_of, whole_bytes, keep, part, part_same, part_other, parts_are_written, parts_make, skip, own_kind}
use Rattle.wasm_writer.proofs.Kept.{Orderly, Behind, kept, kept_bytes, stands_behind, first_of_them, kept_is_shorter}

custom_is : (x : Section) → kind_of x ≡ kind.Custom → x ≡ Custom
custom_is Custom e = refl
custom_is (Types xs) e = absurd cc
custom_is (Imports xs) e = absurd cc
custom_is (Functions xs) e = absurd cc
custom_is (Tables xs) e = absurd cc
custom_is (Memories xs) e = absurd cc
custom_is (Globals xs) e = absurd cc
custom_is (Exports xs) e = absurd cc
custom_is (Start n) e = absurd cc
custom_is (Elements xs) e = absurd cc
custom_is (Codes xs) e = absurd cc
custom_is (Segments xs) e = absurd cc

after_last : (before : Before) (x : Section) → (kind_of x ≡ kind.Custom → ⊥) → (after before x).last ≡ id_of (kind_of x)
after_last before Custom ne = absurd (ne refl)
after_last before x ne = refl

-- a section of a greater id leaves a part as it was
leaves : (before : Before) (x : Section) (m : Module) (k : SectionKind) → before.last < id_of (kind_of x) → id_of k ≤ before.last → part (with_section m x) k ≡ part m k
leaves before x m k lt le = part_other m x k (λ e. absurd (let i : id_of (kind_of x) ≡ id_of k = ap id_of e in omega arith))

is_real : (before : Before) (x : Section) → before.last < id_of (kind_of x) → kind_of x ≡ kind.Custom → ⊥
is_real before x lt e = let i : id_of (kind_of x) ≡ 0 = ap id_of e in absurd (omega arith)

-- the sections to come leave the parts of the ids so far
later : (xs : List Section) (before : Before) (m : Module) (text : List ℕ) (k : SectionKind) → SectionsSpell before xs text → id_of k ≤ before.last → part (with_sections m xs) k ≡ part m k
later [] before m text k s le = refl
later (x ∷ xs) before m text k s le =
    let l = first_of_them before x xs text s in
    elim (stands_behind before x l.front l.first_spelled) [
      | inl c ↦
          let e : x ≡ Custom = custom_is x c in
          let t : SectionsSpell before xs l.back = subst (λ (y : Section). SectionsSpell (after before y) xs l.back) e l.others_spelled in
          ap (λ (y : Section). part (with_sections (with_section m y) xs) k) e ∙ later xs before m l.back k t le
      | inr lt ↦
          let up : (after before x).last ≡ id_of (kind_of x) = after_last before x (is_real before x lt) in
          later xs (after before x) (with_section m x) l.back k l.others_spelled (omega arith) ∙ leaves before x m k lt le
    ]

parts_end : (before : Before) (m : Module) → ((k : SectionKind) → before.last < id_of k → part m k ≡ []) → flat_map (part m) (drop (suc before.last) SECTIONS) ≡ []
parts_end before m none =
    skip (part m) 11 before.last (λ k lt le. none k lt) ∙ ap (flat_map (part m)) (drop_all (suc (before.last + 11)) SECTIONS (omega arith))

-- the sections that are kept are the parts of the module that they make
parts_after : (xs : List Section) (before : Before) (m : Module) (text : List ℕ) → SectionsSpell before xs text → ((k : SectionKind) → before.last < id_of k → part m k ≡ [])
    → kept xs ≡ flat_map (part (with_sections m xs)) (drop (suc before.last) SECTIONS)
parts_after [] before m text s none = sym (parts_end before m none)
parts_after (x ∷ xs) before m text s none =
    let l = first_of_them before x xs text s in
    elim (stands_behind before x l.front l.first_spelled) [
      | inl c ↦
          let e : x ≡ Custom = custom_is x c in
          let t : SectionsSpell before xs l.back = subst (λ (y : Section). SectionsSpell (after before y) xs l.back) e l.others_spelled in
          ap (λ (y : Section). keep y ++ kept xs) e ∙ (parts_after xs before m l.back t none ∙ ap (λ (y : Section). flat_map (part (with_sections (with_section m y) xs)) (drop (suc before.last) SECTIONS)) (sym e))
      | inr lt ↦
          let real = is_real before x lt in
          let up : (after before x).last ≡ id_of (kind_of x) = after_last before x real in
          let more : Module = with_sections (with_section m x) xs in
          let others : kept xs ≡ flat_map (part (with_sections (with_section m x) xs)) (drop (suc (id_of (kind_of x))) SECTIONS) =
          parts_after xs (after before x) (with_section m x) l.back l.others_spelled (λ k h. part_other m x k (λ e. absurd (let i : id_of (kind_of x) ≡ id_of k = ap id_of e in omega arith)) ∙ none k (omega arith))
          ∙ ap (λ (n : ℕ). flat_map (part (with_sections (with_section m x) xs)) (drop (suc n) SECTIONS)) up in
          let own : part (with_sections (with_section m x) xs) (kind_of x) ≡ keep x = later xs (after before x) (with_section m x) l.back (kind_of x) l.others_spelled (omega arith) ∙ part_same m x in
          let gap : flat_map (part (with_sections (with_section m x) xs)) (drop (suc before.last) SECTIONS) ≡ flat_map (part (with_sections (with_section m x) xs)) (drop (suc (before.last + (id_of (kind_of x) - suc before.last))) SECTIONS) =
          skip (part (with_sections (with_section m x) xs)) (id_of (kind_of x) - suc before.last) before.last
          (λ k low high. later xs (after before x) (with_section m x) l.back k l.others_spelled (omega arith) ∙ (part_other m x k (λ e. absurd (let i : id_of (kind_of x) ≡ id_of k = ap id_of e in omega arith)) ∙ none k low)) in
          let here : suc (before.last + (id_of (kind_of x) - suc before.last)) ≡ id_of (kind_of x) = omega arith in
          ap (λ (ys : List Section). keep x ++ ys) others
          ∙ (ap (λ (ys : List Section). ys ++ flat_map (part (with_sections (with_section m x) xs)) (drop (suc (id_of (kind_of x))) SECTIONS)) (sym own)
          ∙ (ap (flat_map (part (with_sections (with_section m x) xs))) (sym (own_kind (kind_of x) real) ∙ ap (λ (n : ℕ). drop n SECTIONS) (sym here)) ∙ sym gap))
    ]

-- ---- the beginning

nothing_yet : (k : SectionKind) → part empty_module k ≡ []
nothing_yet kind.Custom = refl
nothing_yet kind.Start = refl
nothing_yet k = refl

orderly_at_first : Orderly before_all
orderly_at_first = record { functions = λ _. refl; codes = λ _. refl; agreed = λ m n e f. absurd cc }

nothing_left_out : Behind before_all before_all
nothing_left_out = record { last = omega arith; functions = refl; codes = refl }

-- ---- the whole

abbrev text_of : Module → List ℕ
text_of m = flat_map (part_bytes m) SECTIONS

record IsWhole (m : Module) (text : List ℕ) : Type 0 where
  pub bytes : AreBytes (text_of m)
  pub spelled : SectionsSpell before_all (flat_map (part m) SECTIONS) (text_of m)
  pub shorter : length (text_of m) ≤ length text

whole : (b : List ℕ) (m : Module) → AreBytes b → (s : Spells b m) → IsWhole m s.text
whole b m are s =
    let xs : List Section = s.sections in
    let i = kept_is_shorter s.sections before_all before_all s.text orderly_at_first nothing_left_out (back_bytes b header s.text s.parts are) s.spelled in
    let e : kept s.sections ≡ flat_map (part m) SECTIONS = parts_after s.sections before_all empty_module s.text s.spelled (λ k lt. nothing_yet k) ∙ ap (λ n. flat_map (part n) SECTIONS) (sym s.made) in
    let t : kept_bytes s.sections ≡ text_of m = ap (flat_map whole_bytes) e ∙ parts_are_written m SECTIONS in
    record {
      bytes = subst AreBytes t i.bytes;
      spelled = subst (λ (ys : List Section). SectionsSpell before_all ys (text_of m)) e (subst (λ (l : List ℕ). SectionsSpell before_all (kept s.sections) l) t i.spelled);
      shorter = omega (arith, i.shorter, ap length t);
    }

header_bytes : AreBytes header
header_bytes = (omega arith, (omega arith, (omega arith, (omega arith, (omega arith, (omega arith, (omega arith, (omega arith, tt))))))))

abbrev longer : (b : List ℕ) (m : Module) (s : Spells b m) → Type 0
longer b m s = length (header ++ text_of m) ≤ length b

is_longer : (b : List ℕ) (m : Module) → AreBytes b → (s : Spells b m) → length (header ++ text_of m) ≤ length b
is_longer b m are s = omega (arith, (whole b m are s).shorter, length-append header (text_of m), ap length s.parts, length-append header s.text)

pub written_shortest : (b : List ℕ) (m : Module) → AreBytes b → Spells b m → IsShortest (λ text. Spells text m) (module_bytes m)
unfolding module_bytes
written_shortest b m are s =
    let w = whole b m are s in
    let small : length b ≤ most_bytes = leb-true (length b) most_bytes s.within in
    record {
      bytes = bytes_join header (text_of m) header_bytes w.bytes;
      spelled = record {
        within = le-leb (length (header ++ text_of m)) most_bytes (omega (arith, is_longer b m are s));
        sections = flat_map (part m) SECTIONS;
        text = text_of m;
        parts = refl;
        spelled = w.spelled;
        made = sym (parts_make m);
      };
      least = λ other d t. is_longer other m d t;
    }

pub written_read : (b : List ℕ) (m : Module) → AreBytes b → Spells b m → module_read (module_bytes m) ≡ Ok m
written_read b m are s = spelled_is_read (module_bytes m) m (written_shortest b m are s).spelled
