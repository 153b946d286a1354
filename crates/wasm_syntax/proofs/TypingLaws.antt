-- Laws of typing and of the first fault of a module.
use Rattle.std.proofs.Common.{◌≡◌, ℕ, List, [], ◌∷◌, ◌++◌, Some, slice_index_or, refl, sym, ap, subst, ◌∙◌, append_assoc, arith, inl, inr}
use Rattle.std.proofs.lemmas.Bool.{cases_lt}
use Rattle.wasm_syntax.specs.declared.types.ValueType.{ValueType}
use Rattle.wasm_syntax.specs.declared.instr.Instr.{Instr}
use Rattle.wasm_syntax.specs.declared.module.Code.{Code}
use Rattle.wasm_syntax.specs.declared.module.Module.{Module}
use Rattle.wasm_syntax.specs.declared.valid.Part.{Part}
use Rattle.wasm_syntax.specs.declared.valid.Part.TheVariants as part
use Rattle.wasm_syntax.specs.Nested.{Nested, nothing, simple, block, loop, choice}
use Rattle.wasm_syntax.specs.Typing.{Context, Is, left_by, Leads, Typed}
use Rattle.wasm_syntax.specs.Validity.{turn_of, ComesBefore, IsFirstUntyped, IsPlace, IsValid, FirstInvalid}

-- ---- the frame

leads_below : (c : Context) (i : Instr) (before after below : List ValueType) → Leads c i before after → Leads c i (before ++ below) (after ++ below)
leads_below c i before after below l = record {
  takes = l.takes;
  gives = l.gives;
  below = l.below ++ below;
  may = l.may;
  from = ap (λ (x : List ValueType). x ++ below) l.from ∙ append_assoc l.takes l.below below;
  to = ap (λ (x : List ValueType). x ++ below) l.to ∙ append_assoc l.gives l.below below;
}

pub types_below_stay : (c : Context) (code : Nested) (before after below : List ValueType) → Typed c code before after → Typed c code (before ++ below) (after ++ below)
types_below_stay c nothing before after below t = ap (λ (x : List ValueType). x ++ below) t
types_below_stay c (simple i rest) before after below t = (t.0 ++ below, leads_below c i before t.0 below t.1, types_below_stay c rest t.0 after below t.2)
types_below_stay c (block b body rest) before after below t =
    (t.0, subst (λ (x : List ValueType). Typed c rest x (after ++ below)) (append_assoc (left_by b) before below) (types_below_stay c rest (left_by b ++ before) after below t.1))
types_below_stay c (loop b body rest) before after below t =
    (t.0, subst (λ (x : List ValueType). Typed c rest x (after ++ below)) (append_assoc (left_by b) before below) (types_below_stay c rest (left_by b ++ before) after below t.1))
types_below_stay c (choice b then other rest) before after below t = (
  t.0 ++ below,
  ap (λ (x : List ValueType). x ++ below) t.1,
  t.2,
  t.3,
  subst (λ (x : List ValueType). Typed c rest x (after ++ below)) (append_assoc (left_by b) t.0 below) (types_below_stay c rest (left_by b ++ t.0) after below t.4),
)

-- ---- one first fault

abbrev all_parts : List Part
all_parts = part.Signature ∷ part.Import ∷ part.Function ∷ part.Table ∷ part.Memory ∷ part.Global ∷ part.Element ∷ part.Segment ∷ part.Start ∷ part.Export ∷ part.Code ∷ []

abbrev part_at : ℕ → Part
part_at n = slice_index_or all_parts n part.Signature

at_its_turn : (p : Part) → part_at (turn_of p) ≡ p
at_its_turn part.Signature = refl
at_its_turn part.Import = refl
at_its_turn part.Function = refl
at_its_turn part.Table = refl
at_its_turn part.Memory = refl
at_its_turn part.Global = refl
at_its_turn part.Element = refl
at_its_turn part.Segment = refl
at_its_turn part.Start = refl
at_its_turn part.Export = refl
at_its_turn part.Code = refl

same_turn : (p q : Part) → turn_of p ≡ turn_of q → p ≡ q
same_turn p q e = sym (at_its_turn p) ∙ ap part_at e ∙ at_its_turn q

not_before : (m : Module) (p q : Part) (n k place spot : ℕ) → FirstInvalid m p n place → FirstInvalid m q k spot → ComesBefore p n q k → ⊥
not_before m p q n k place spot f g b = f.bad (g.before p n b f.there)

same_part : (m : Module) (p q : Part) (n k place spot : ℕ) → FirstInvalid m p n place → FirstInvalid m q k spot → p ≡ q
same_part m p q n k place spot f g = elim (cases_lt (turn_of p) (turn_of q)) [
  | inl lt ↦ absurd (not_before m p q n k place spot f g (inl lt))
  | inr le ↦ elim (cases_lt (turn_of q) (turn_of p)) [
    | inl lt ↦ absurd (not_before m q p k n spot place g f (inl lt))
    | inr ge ↦ same_turn p q (omega arith)
  ]
]

same_entry : (m : Module) (p q : Part) (n k place spot : ℕ) → p ≡ q → FirstInvalid m p n place → FirstInvalid m q k spot → n ≡ k
same_entry m p q n k place spot e f g = elim (cases_lt n k) [
  | inl lt ↦ absurd (not_before m p q n k place spot f g (inr (e, lt)))
  | inr le ↦ elim (cases_lt k n) [
    | inl lt ↦ absurd (not_before m q p k n spot place g f (inr (sym e, lt)))
    | inr ge ↦ let d : n ≡ k = omega arith in d
  ]
]

pub same_some : {A : Type 0} (x y : A) → Some x ≡ Some y → x ≡ y
same_some x y e = cc

pub same_at : {A : Type 0} (xs : List A) (n : ℕ) (x y : A) → Is xs n x → Is xs n y → x ≡ y
same_at xs n x y a b = same_some x y (sym a ∙ b)

one_untyped : (m : Module) (n : ℕ) (code : Code) (place spot : ℕ) → IsFirstUntyped m n code place → IsFirstUntyped m n code spot → place ≡ spot
one_untyped m n code place spot f g = elim (cases_lt place spot) [
  | inl lt ↦ absurd (f.ends (g.goes place lt))
  | inr le ↦ elim (cases_lt spot place) [
    | inl lt ↦ absurd (g.ends (f.goes spot lt))
    | inr ge ↦ let d : place ≡ spot = omega arith in d
  ]
]

one_place : (m : Module) (p : Part) (n place spot : ℕ) → IsPlace m p n place → IsPlace m p n spot → place ≡ spot
one_place m part.Code n place spot a b =
    one_untyped m n b.0 place spot (subst (λ (x : Code). IsFirstUntyped m n x place) (same_at m.codes n a.0 b.0 a.1 b.1) a.2) b.2
one_place m p n place spot a b = a ∙ sym b

pub one_first : (m : Module) (p q : Part) (n k place spot : ℕ) → FirstInvalid m p n place → FirstInvalid m q k spot → (p ≡ q) × (n ≡ k) × (place ≡ spot)
one_first m p q n k place spot f g =
    let a : p ≡ q = same_part m p q n k place spot f g in
    let b : n ≡ k = same_entry m p q n k place spot a f g in
    let first : IsPlace m q k place = subst (λ (x : ℕ). IsPlace m q x place) b (subst (λ (x : Part). IsPlace m x n place) a f.at) in
    (a, b, one_place m q k place spot first g.at)

pub valid_has_none : (m : Module) (p : Part) (n place : ℕ) → IsValid m → FirstInvalid m p n place → ⊥
valid_has_none m p n place v f = f.bad (v.entries p n f.there)
