-- The worked modules.
use Rattle.std.proofs.Common.{◌≡◌, ◌≢◌, ℕ, zero, suc, ◌<◌, pos, List, [], ◌∷◌, ◌++◌, All, get_or, take, refl, sym, ap, subst, ◌∙◌, arith, inl, inr}
use Rattle.wasm_syntax.specs.declared.types.ValueType.{ValueType}
use Rattle.wasm_syntax.specs.declared.types.ValueType.TheVariants.{I32}
use Rattle.wasm_syntax.specs.declared.types.FunctionType.{FunctionType}
use Rattle.wasm_syntax.specs.declared.instr.Instr.{Instr}
use Rattle.wasm_syntax.specs.declared.instr.Instr.TheVariants as instr
use Rattle.wasm_syntax.specs.declared.module.Code.{Code}
use Rattle.wasm_syntax.specs.declared.module.Import.{Import}
use Rattle.wasm_syntax.specs.declared.module.Export.{Export}
use Rattle.wasm_syntax.specs.declared.valid.Part.{Part}
use Rattle.wasm_syntax.specs.declared.valid.Part.TheVariants as part
use Rattle.wasm_syntax.specs.Nested.{Nested, nothing, simple, whole, ended, nests}
use Rattle.wasm_syntax.specs.Typing.{Context, inside, Is, Leads, Typed, IsTypedBody}
use Rattle.wasm_syntax.specs.Validity.{context_of, HasContext, IsCode, IsImport, IsGood, IsBounded, IsValid, entries_of, ComesBefore, CanGoOn, FirstInvalid}
use Rattle.wasm_syntax.specs.Examples.{example}
use Rattle.wasm_syntax.specs.ValidExamples.{nothing_to_nothing, one_page, imported_page, left_code, left_over, two_memories, two_imported_memories, memory_beside_import, full_module}
use Rattle.wasm_syntax.proofs.TypingLaws.{same_some}
use Rattle.wasm_syntax.proofs.WorkedBodies.{step}

-- ---- a module with one function, which does nothing

empty_code : IsCode example 0 (record { locals = []; body = instr.End ∷ [] })
unfolding nests
empty_code = record {
  context = context_of example nothing_to_nothing [];
  has = record { type_index = 0; type = nothing_to_nothing; declared = refl; typed = refl; context = refl };
  typed = (nothing, refl, refl);
}

example_entries : (p : Part) (n : ℕ) → n < entries_of example p → IsGood example p n
example_entries part.Signature zero lt = (nothing_to_nothing, refl, omega arith)
example_entries part.Signature (suc n) lt = absurd (omega arith)
example_entries part.Import n lt = absurd (omega arith)
example_entries part.Function zero lt = (0, refl, omega arith)
example_entries part.Function (suc n) lt = absurd (omega arith)
example_entries part.Table n lt = absurd (omega arith)
example_entries part.Memory zero lt = (_, refl, ((omega arith, tt, tt), omega arith))
example_entries part.Memory (suc n) lt = absurd (omega arith)
example_entries part.Global n lt = absurd (omega arith)
example_entries part.Element n lt = absurd (omega arith)
example_entries part.Segment zero lt = (_, refl, (omega arith, (refl, refl)))
example_entries part.Segment (suc n) lt = absurd (omega arith)
example_entries part.Start n lt = absurd (omega arith)
example_entries part.Export n lt = absurd (omega arith)
example_entries part.Code zero lt = (_, refl, empty_code)
example_entries part.Code (suc n) lt = absurd (omega arith)

example_bounded : (k : ℕ) (d : Code) → k < 1 → IsBounded (record { locals = []; body = instr.End ∷ [] })
unfolding nests
example_bounded k d lt = record { sequence = nothing; nests = refl; depth = omega arith; locals = omega arith }

all_one : (P : Code → Type 0) (x : Code) → P x → All P (x ∷ [])
all_one P x p zero d lt = p
all_one P x p (suc k) d lt = absurd (omega arith)

pub example_valid : IsValid example
example_valid = record { entries = example_entries; coded = refl; bounded = all_one IsBounded _ (example_bounded 0 (record { locals = []; body = [] }) (omega arith)) }

-- ---- a module with an entry of each part

abbrev full_body : List Instr
full_body = instr.I32Const (pos 5) ∷ instr.Call 0 ∷ instr.GlobalSet 1 ∷ instr.End ∷ []

abbrev full_code : Code
full_code = record { locals = []; body = full_body }

abbrev full_sequence : Nested
full_sequence = simple (instr.I32Const (pos 5)) (simple (instr.Call 0) (simple (instr.GlobalSet 1) nothing))

abbrev full_context : Context
full_context = inside [] (context_of full_module nothing_to_nothing [])

call_typed : IsCode full_module 0 full_code
unfolding nests
call_typed = record {
  context = context_of full_module nothing_to_nothing [];
  has = record { type_index = 0; type = nothing_to_nothing; declared = refl; typed = refl; context = refl };
  typed = (
    full_sequence,
    refl,
    (
      I32 ∷ [],
      step full_context (instr.I32Const (pos 5)) [] (I32 ∷ []) [] (refl, refl),
      (
        I32 ∷ [],
        step full_context (instr.Call 0) (I32 ∷ []) (I32 ∷ []) [] (1, record { parameters = I32 ∷ []; results = I32 ∷ [] }, refl, refl, (refl, refl)),
        ([], step full_context (instr.GlobalSet 1) (I32 ∷ []) [] [] (_, refl, refl, (refl, refl)), refl),
      ),
    ),
  );
}

full_bounded : IsBounded full_code
unfolding nests
full_bounded = record { sequence = full_sequence; nests = refl; depth = omega arith; locals = omega arith }

both_functions : All (λ f. f < 2) (1 ∷ 0 ∷ [])
both_functions zero d lt = omega arith
both_functions (suc zero) d lt = omega arith
both_functions (suc (suc k)) d lt = absurd (omega arith)

other_name : (e : Export) → e.name ≡ 0x66 ∷ [] → All (λ (x : Export). x.name ≢ 0x6d ∷ []) (e ∷ [])
other_name e is zero d lt = λ f. let g : ◌≡◌ {A = ℕ} 0x66 0x6d = ap (λ (l : List ℕ). get_or l 0 0) (sym is ∙ f) in absurd (omega arith)
other_name e is (suc k) d lt = absurd (omega arith)

full_entries : (p : Part) (n : ℕ) → n < entries_of full_module p → IsGood full_module p n
full_entries part.Signature zero lt = (_, refl, omega arith)
full_entries part.Signature (suc zero) lt = (_, refl, omega arith)
full_entries part.Signature (suc (suc n)) lt = absurd (omega arith)
full_entries part.Import zero lt = (_, refl, omega arith)
full_entries part.Import (suc zero) lt = (_, refl, tt)
full_entries part.Import (suc (suc n)) lt = absurd (omega arith)
full_entries part.Function zero lt = (0, refl, omega arith)
full_entries part.Function (suc n) lt = absurd (omega arith)
full_entries part.Table zero lt = (_, refl, ((omega arith, omega arith, omega arith), omega arith))
full_entries part.Table (suc n) lt = absurd (omega arith)
full_entries part.Memory zero lt = (_, refl, ((omega arith, tt, tt), omega arith))
full_entries part.Memory (suc n) lt = absurd (omega arith)
full_entries part.Global zero lt = (_, refl, (refl, refl))
full_entries part.Global (suc n) lt = absurd (omega arith)
full_entries part.Element zero lt = (_, refl, (omega arith, (refl, refl), both_functions))
full_entries part.Element (suc n) lt = absurd (omega arith)
full_entries part.Segment zero lt = (_, refl, (omega arith, (refl, refl)))
full_entries part.Segment (suc n) lt = absurd (omega arith)
full_entries part.Start zero lt = (1, refl, (0, refl, refl))
full_entries part.Start (suc n) lt = absurd (omega arith)
full_entries part.Export zero lt = (_, refl, (omega arith, λ k d none. absurd (omega arith)))
full_entries part.Export (suc zero) lt = (_, refl, (omega arith, other_name _ refl))
full_entries part.Export (suc (suc n)) lt = absurd (omega arith)
full_entries part.Code zero lt = (_, refl, call_typed)
full_entries part.Code (suc n) lt = absurd (omega arith)

pub full_valid : IsValid full_module
full_valid = record { entries = full_entries; coded = refl; bounded = all_one IsBounded full_code full_bounded }

-- ---- too many memories

memories_before : (q : Part) (k : ℕ) → ComesBefore q k part.Memory 1 → k < entries_of two_memories q → IsGood two_memories q k
memories_before part.Memory zero b lt = (_, refl, ((omega arith, tt, tt), omega arith))
memories_before part.Memory (suc k) (inl le) lt = absurd (omega arith)
memories_before part.Memory (suc k) (inr e) lt = absurd (omega arith)
memories_before part.Signature k b lt = absurd (omega arith)
memories_before part.Import k b lt = absurd (omega arith)
memories_before part.Function k b lt = absurd (omega arith)
memories_before part.Table k b lt = absurd (omega arith)
memories_before part.Global k b lt = absurd (omega arith)
memories_before part.Element k b lt = absurd (omega arith)
memories_before part.Segment k b lt = absurd (omega arith)
memories_before part.Start k b lt = absurd (omega arith)
memories_before part.Export k b lt = absurd (omega arith)
memories_before part.Code k b lt = absurd (omega arith)

pub second_memory : FirstInvalid two_memories part.Memory 1 0
second_memory = record {
  there = omega arith;
  bad = λ g. (let e : ◌≡◌ {A = ℕ} 1 0 = g.2.1 in omega arith);
  before = memories_before;
  at = refl;
}

imports_before : (q : Part) (k : ℕ) → ComesBefore q k part.Import 1 → k < entries_of two_imported_memories q → IsGood two_imported_memories q k
imports_before part.Import zero b lt = (_, refl, ((omega arith, tt, tt), refl))
imports_before part.Import (suc k) (inl le) lt = absurd (omega arith)
imports_before part.Import (suc k) (inr e) lt = absurd (omega arith)
imports_before part.Signature k b lt = absurd (omega arith)
imports_before part.Function k b lt = absurd (omega arith)
imports_before part.Table k b lt = absurd (omega arith)
imports_before part.Memory k b lt = absurd (omega arith)
imports_before part.Global k b lt = absurd (omega arith)
imports_before part.Element k b lt = absurd (omega arith)
imports_before part.Segment k b lt = absurd (omega arith)
imports_before part.Start k b lt = absurd (omega arith)
imports_before part.Export k b lt = absurd (omega arith)
imports_before part.Code k b lt = absurd (omega arith)

import_bad : (x : Import) → imported_page ≡ x → IsImport two_imported_memories (imported_page ∷ []) x.kind → ⊥
import_bad x e g =
    let h : IsImport two_imported_memories (imported_page ∷ []) imported_page.kind = subst (λ (y : Import). IsImport two_imported_memories (imported_page ∷ []) y.kind) (sym e) g in
    let f : one_page ∷ [] ≡ [] = h.1 in
    absurd cc

pub second_import : FirstInvalid two_imported_memories part.Import 1 0
second_import = record {
  there = omega arith;
  bad = λ g. import_bad g.0 (same_some imported_page g.0 g.1) g.2;
  before = imports_before;
  at = refl;
}

beside_before : (q : Part) (k : ℕ) → ComesBefore q k part.Memory 0 → k < entries_of memory_beside_import q → IsGood memory_beside_import q k
beside_before part.Import zero b lt = (_, refl, ((omega arith, tt, tt), refl))
beside_before part.Import (suc k) b lt = absurd (omega arith)
beside_before part.Memory k (inl le) lt = absurd (omega arith)
beside_before part.Memory k (inr e) lt = absurd (omega arith)
beside_before part.Signature k b lt = absurd (omega arith)
beside_before part.Function k b lt = absurd (omega arith)
beside_before part.Table k b lt = absurd (omega arith)
beside_before part.Global k b lt = absurd (omega arith)
beside_before part.Element k b lt = absurd (omega arith)
beside_before part.Segment k b lt = absurd (omega arith)
beside_before part.Start k b lt = absurd (omega arith)
beside_before part.Export k b lt = absurd (omega arith)
beside_before part.Code k b lt = absurd (omega arith)

pub beside_import : FirstInvalid memory_beside_import part.Memory 0 0
beside_import = record {
  there = omega arith;
  bad = λ g. (let e : ◌≡◌ {A = ℕ} 1 0 = g.2.1 in omega arith);
  before = beside_before;
  at = refl;
}

-- ---- a constant that is left over

abbrev left_constant : Instr
left_constant = instr.I32Const (pos 0)

left_nests : (more : List Instr) (code : Nested) → nests (left_constant ∷ instr.End ∷ more) ≡ ended code (whole nothing) → code ≡ simple left_constant nothing
unfolding nests
left_nests more code e = let f : ended (simple left_constant nothing) (nests more) ≡ ended code (whole nothing) = e in cc

-- the context gives nothing
gives_nothing : (c : Context) → HasContext left_over 0 [] c → c.results ≡ []
gives_nothing c h =
    let i : 0 ≡ h.type_index = same_some 0 h.type_index h.declared in
    let t : Is (nothing_to_nothing ∷ []) 0 h.type = subst (λ (x : ℕ). Is (nothing_to_nothing ∷ []) x h.type) (sym i) h.typed in
    let f : nothing_to_nothing ≡ h.type = same_some nothing_to_nothing h.type t in
    ap (λ (x : Context). x.results) h.context ∙ ap (λ (x : FunctionType). x.results) (sym f)

left_untyped : (c : Context) → c.results ≡ [] → Typed (inside c.results c) (simple left_constant nothing) [] c.results → ⊥
left_untyped c none t =
    let l : Leads (inside c.results c) left_constant [] t.0 = t.1 in
    let e : [] ≡ (I32 ∷ []) ++ l.below = sym none ∙ sym t.2 ∙ l.to ∙ ap (λ (x : List ValueType). x ++ l.below) l.may.1 in
    absurd cc

left_ends : (more : List Instr) (c : Context) → HasContext left_over 0 [] c → IsTypedBody c (left_constant ∷ instr.End ∷ more) → ⊥
left_ends more c h t =
    left_untyped c (gives_nothing c h) (subst (λ (x : Nested). Typed (inside c.results c) x [] c.results) (left_nests more t.0 t.1) t.2)

abbrev left_context : Context
left_context = context_of left_over nothing_to_nothing []

left_goes : (k : ℕ) → k < 1 → CanGoOn left_over 0 [] (take (suc k) left_code.body)
unfolding nests
left_goes zero lt = (
  left_context,
  instr.Drop ∷ instr.End ∷ [],
  record { type_index = 0; type = nothing_to_nothing; declared = refl; typed = refl; context = refl },
  (
    simple left_constant (simple instr.Drop nothing),
    refl,
    (
      I32 ∷ [],
      step (inside [] left_context) left_constant [] (I32 ∷ []) [] (refl, refl),
      ([], step (inside [] left_context) instr.Drop (I32 ∷ []) [] [] (I32, (refl, refl)), refl),
    ),
  ),
)
left_goes (suc k) lt = absurd (omega arith)

left_before : (q : Part) (k : ℕ) → ComesBefore q k part.Code 0 → k < entries_of left_over q → IsGood left_over q k
left_before part.Signature zero b lt = (_, refl, omega arith)
left_before part.Signature (suc k) b lt = absurd (omega arith)
left_before part.Function zero b lt = (0, refl, omega arith)
left_before part.Function (suc k) b lt = absurd (omega arith)
left_before part.Code k (inl le) lt = absurd (omega arith)
left_before part.Code k (inr e) lt = absurd (omega arith)
left_before part.Import k b lt = absurd (omega arith)
left_before part.Table k b lt = absurd (omega arith)
left_before part.Memory k b lt = absurd (omega arith)
left_before part.Global k b lt = absurd (omega arith)
left_before part.Element k b lt = absurd (omega arith)
left_before part.Segment k b lt = absurd (omega arith)
left_before part.Start k b lt = absurd (omega arith)
left_before part.Export k b lt = absurd (omega arith)

left_bad : (x : Code) → left_code ≡ x → IsCode left_over 0 x → ⊥
left_bad x e g =
    let h : IsCode left_over 0 left_code = subst (λ (y : Code). IsCode left_over 0 y) (sym e) g in
    left_ends [] h.context h.has h.typed

pub left_on_the_stack : FirstInvalid left_over part.Code 0 1
left_on_the_stack = record {
  there = omega arith;
  bad = λ g. left_bad g.0 (same_some left_code g.0 g.1) g.2;
  before = left_before;
  at = (left_code, refl, record { ends = λ x. left_ends x.1 x.0 x.2 x.3; goes = left_goes });
}
