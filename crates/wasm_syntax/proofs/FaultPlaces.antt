-- Where a code has its first fault.
use Rattle.std.proofs.Common.{◌≡◌, ◌↔◌, ℕ, zero, suc, ◌<◌, List, [], ◌∷◌, ◌++◌, length, take, drop, sym, ap, subst, ◌∙◌, append_assoc, append-nil, arith, inl, inr}
use Rattle.std.proofs.lemmas.Bool.{cases_lt}
use Rattle.std.proofs.lemmas.List.{take_all, take-append-drop, length-append}
use Rattle.wasm_syntax.specs.declared.instr.Instr.{Instr}
use Rattle.wasm_syntax.specs.declared.instr.Instr.TheVariants as instr
use Rattle.wasm_syntax.specs.declared.module.Code.{Code}
use Rattle.wasm_syntax.specs.declared.module.Module.{Module}
use Rattle.wasm_syntax.specs.Nested.{Nested, nothing, whole, ended, nests, NestsAs, Writes}
use Rattle.wasm_syntax.specs.Typing.{IsTypedBody}
use Rattle.wasm_syntax.specs.Validity.{IsCode, IsBounded, CanGoOn, IsFirstUntyped}
use Rattle.wasm_syntax.proofs.NestingLaws.{written_ends, nothing_left, bodies}

-- what a valid code begins with can go on
goes_on : (m : Module) (n : ℕ) (code : Code) (k : ℕ) → IsCode m n code → CanGoOn m n code.locals (take k code.body)
goes_on m n code k g =
    (g.context, drop k code.body, g.has, subst (λ (l : List Instr). IsTypedBody g.context l) (sym (take-append-drop k code.body)) g.typed)

pub untyped_is_bad : (m : Module) (n : ℕ) (code : Code) (place : ℕ) → IsFirstUntyped m n code place → IsCode m n code → ⊥
untyped_is_bad m n code place f g = f.ends (goes_on m n code (suc place) g)

body_is_some : (body : List Instr) (code : Nested) → NestsAs body code → 0 < length body
body_is_some body code e =
    let x : (front : List Instr) × (body ≡ front ++ instr.End ∷ []) × Writes code front = (bodies body code).0 e in
    omega (arith, ap (λ (l : List Instr). length l) x.1, length-append x.0 (instr.End ∷ []))

within_some : (m : Module) (n : ℕ) (code : Code) (place : ℕ) → 0 < length code.body → IsFirstUntyped m n code place → place < length code.body
within_some m n code zero some f = some
within_some m n code (suc k) some f = elim (cases_lt (suc k) (length code.body)) [
  | inl lt ↦ lt
  | inr le ↦
      let short : take (suc k) code.body ≡ code.body = take_all (suc k) code.body le in
      let long : take (suc (suc k)) code.body ≡ code.body = take_all (suc (suc k)) code.body (omega arith) in
      absurd (f.ends (subst (λ (l : List Instr). CanGoOn m n code.locals l) (short ∙ sym long) (f.goes k (omega arith))))
]

pub untyped_is_within : (m : Module) (n : ℕ) (code : Code) (place : ℕ) → IsBounded code → IsFirstUntyped m n code place → place < length code.body
untyped_is_within m n code place b f = within_some m n code place (body_is_some code.body b.sequence b.nests) f

-- a body that is whole can go on only as it is
append_none : (a b : List Instr) (c d : Nested) → NestsAs a c → NestsAs (a ++ b) d → b ≡ []
append_none a b c d e f =
    let x : (front : List Instr) × (a ≡ front ++ instr.End ∷ []) × Writes c front = (bodies a c).0 e in
    let g : nests (a ++ b) ≡ ended c (nests b) = ap (λ (l : List Instr). nests (l ++ b)) x.1 ∙ ap nests (append_assoc x.0 (instr.End ∷ []) b) ∙ written_ends c x.0 b x.2 in
    let h : ended c (nests b) ≡ ended d (whole nothing) = sym g ∙ f in
    nothing_left b cc

is_code : (m : Module) (n : ℕ) (code : Code) → IsBounded code → CanGoOn m n code.locals code.body → IsCode m n code
is_code m n code b g =
    let none : g.1 ≡ [] = append_none code.body g.1 b.sequence g.3.0 b.nests g.3.1 in
    record {
      context = g.0;
      has = g.2;
      typed = subst (λ (l : List Instr). IsTypedBody g.0 l) (ap (λ (l : List Instr). code.body ++ l) none ∙ append-nil code.body) g.3;
    }

pub whole_goes_on : (m : Module) (n : ℕ) (code : Code) → IsBounded code → CanGoOn m n code.locals code.body ↔ IsCode m n code
whole_goes_on m n code b =
    (is_code m n code b, λ g. (g.context, [], g.has, subst (λ (l : List Instr). IsTypedBody g.context l) (sym (append-nil code.body)) g.typed))
