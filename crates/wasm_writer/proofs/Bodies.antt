-- How locals and the code of functions are written: no other groups of the same locals take fewer bytes.
use Rattle.std.proofs.Common.{◌≡◌, ℕ, ◌+◌, ◌/◌, ◌^◌, ◌<◌, ◌≤◌, zero, suc, ◌⊎◌, Option, List, [], ◌∷◌, ◌++◌, length, replicate, inl, inr, refl, sym, ap, subst, ◌∙◌, append_assoc, arith}
use Rattle.std.specs.List.{flat_map}
use Rattle.std.proofs.lemmas.List.{length-append, length-replicate, append-nil, replicate_more}
use Rattle.std.proofs.lemmas.Bool.{le-leb, leb-true, cases_lt}
use Rattle.wasm_syntax.specs.declared.types.ValueType.{ValueType}
use Rattle.wasm_syntax.specs.declared.types.ValueType.TheVariants.{I32, I64}
use Rattle.wasm_syntax.specs.Numbers.{AreBytes, IsUnsigned}
use Rattle.wasm_syntax.specs.Format.{Follows, bounded, done}
use Rattle.wasm_syntax.specs.Items.{IsByte, u32, at_most, agreed_u32}
use Rattle.wasm_syntax.specs.Grammar.{value_type_of, local_group, local_groups, expression, function_body, code, code_vector}
use Rattle.wasm_syntax.proofs.Written.{unsigned_bytes_more, unsigned_bytes_last}
use Rattle.wasm_syntax.proofs.Shortest.{unsigned_shortest}
use Rattle.wasm_writer.specs.declared.locals.Group.{Group}
use Rattle.wasm_writer.specs.Written.{size_bytes, vector_bytes, value_type_bytes, expression_bytes, group, groups_from, groups_of, group_bytes, body_bytes, code_bytes}
use Rattle.wasm_writer.proofs.Groups.{groups_end, one_more, another, same_run, other_run}
use Rattle.wasm_writer.proofs.Forms.{IsWritten, front_bytes, back_bytes, bytes_join, two_written, equal_written, regroup, ungroup}
use Rattle.wasm_writer.proofs.Items.{size_is_number, size_written, monotone, bounded_written, agreed_written, counted_written, sized_written}
use Rattle.wasm_writer.proofs.Grammar.{value_type_written, expression_written}

-- the locals of groups
abbrev flat : List Group → List ValueType
flat gs = flat_map (λ g. replicate g.count g.of) gs

abbrev cost : List Group → ℕ
cost gs = length (flat_map group_bytes gs)

same_or : (t u : ValueType) → (u ≡ t) ⊎ (u ≡ t → ⊥)
same_or I32 I32 = inl refl
same_or I32 I64 = inr (λ e. absurd cc)
same_or I64 I32 = inr (λ e. absurd cc)
same_or I64 I64 = inl refl

-- ---- the groups are those of the locals

groups_are_of : (ts : List ValueType) (n : ℕ) (t : ValueType) → flat (groups_from n t ts) ≡ replicate n t ++ ts
groups_are_of [] n t = ap flat (groups_end n t)
groups_are_of (u ∷ ts) n t = elim (same_or t u) [
  | inl e ↦
      ap (λ (v : ValueType). flat (groups_from n t (v ∷ ts))) e ∙ (ap flat (one_more n t ts) ∙ (groups_are_of ts (n + 1) t ∙ (ap (λ (l : List ValueType). l ++ ts) (sym (replicate_more n t)) ∙ (append_assoc (replicate n t) (t ∷ []) ts
      ∙ ap (λ (v : ValueType). replicate n t ++ (v ∷ ts)) (sym e)))))
  | inr ne ↦ ap flat (another n t u ts ne) ∙ ap (λ (l : List ValueType). replicate n t ++ l) (groups_are_of ts 1 u)
]

flat_of : (ts : List ValueType) → flat (groups_of ts) ≡ ts
flat_of [] = refl
flat_of (t ∷ ts) = groups_are_of ts 1 t

-- ---- no others take fewer bytes, nor are they fewer

size_some : (n : ℕ) → 0 < length (size_bytes n)
size_some n = elim (cases_lt n 128) [
  | inl small ↦ rw (unsigned_bytes_last 9 n small) (omega arith)
  | inr large ↦ rw (unsigned_bytes_more 8 n large) (omega arith)
]

size_two : (n : ℕ) → n < 16384 → length (size_bytes n) ≤ 2
size_two n lt = elim (cases_lt n 128) [
  | inl small ↦ rw (unsigned_bytes_last 9 n small) (omega arith)
  | inr large ↦ rw (unsigned_bytes_more 8 n large, unsigned_bytes_last 8 (n / 128) (omega arith)) (omega arith)
]

type_one : (t : ValueType) → length (value_type_bytes t) ≡ 1
type_one I32 = refl
type_one I64 = refl

group_cost : (n : ℕ) (t : ValueType) → length (group_bytes (group n t)) ≡ length (size_bytes n) + 1
group_cost n t = length-append (size_bytes n) (value_type_bytes t) ∙ ap (λ (k : ℕ). length (size_bytes n) + k) (type_one t)

cost_more : (n : ℕ) (t : ValueType) (gs : List Group) → cost (group n t ∷ gs) ≡ length (size_bytes n) + 1 + cost gs
cost_more n t gs = length-append (group_bytes (group n t)) (flat_map group_bytes gs) ∙ ap (λ (k : ℕ). k + cost gs) (group_cost n t)

record IsBest (found others : List Group) : Type 0 where
  pub fewer : length found ≤ length others
  pub cheaper : cost found ≤ cost others

best_step : (k n : ℕ) (t u : ValueType) (gs : List Group) → ((m : ℕ) (v : ValueType) → m + length (flat gs) ≤ 4096 → IsBest (groups_from m v (flat gs)) (group m v ∷ gs)) → n + (k + length (flat gs)) ≤ 4096
    → IsBest (groups_from n t (replicate k u ++ flat gs)) (group n t ∷ (group k u ∷ gs))
best_step zero n t u gs more le =
    let i = more n t (omega arith) in
    record { fewer = omega (arith, i.fewer); cheaper = omega (arith, i.cheaper, cost_more n t gs, cost_more n t (group 0 u ∷ gs), cost_more 0 u gs) }
best_step (suc k) n t u gs more le = elim (same_or t u) [
  | inl e ↦
      let i = more (n + suc k) t (omega arith) in
      let r : groups_from n t (replicate (suc k) u ++ flat gs) ≡ groups_from (n + suc k) t (flat gs) = ap (λ (v : ValueType). groups_from n t (replicate (suc k) v ++ flat gs)) e ∙ same_run (suc k) n t (flat gs) in
      rw r (record {
        fewer = omega (arith, i.fewer);
        cheaper = omega (arith, i.cheaper, cost_more (n + suc k) t gs, cost_more n t (group (suc k) u ∷ gs), cost_more (suc k) u gs, size_some n, size_some (suc k), size_two (n + suc k) (omega arith));
      })
  | inr ne ↦
      let i = more (suc k) u (omega arith) in
      rw (other_run k n t u (flat gs) ne) (record {
        fewer = omega (arith, i.fewer);
        cheaper = omega (arith, i.cheaper, cost_more n t (groups_from (suc k) u (flat gs)), cost_more n t (group (suc k) u ∷ gs));
      })
]

flat_length : (g : Group) (gs : List Group) → length (flat (g ∷ gs)) ≡ g.count + length (flat gs)
flat_length g gs = length-append (replicate g.count g.of) (flat gs) ∙ ap (λ (k : ℕ). k + length (flat gs)) (length-replicate g.count g.of)

best_from : (gs : List Group) (n : ℕ) (t : ValueType) → n + length (flat gs) ≤ 4096 → IsBest (groups_from n t (flat gs)) (group n t ∷ gs)
best_from [] n t le = rw (groups_end n t) (record { fewer = omega arith; cheaper = omega arith })
best_from (g ∷ gs) n t le = best_step g.count n t g.of gs (λ m v h. best_from gs m v h) (omega (arith, flat_length g gs))

best_first : (k : ℕ) (u : ValueType) (gs : List Group) → IsBest (groups_of (flat gs)) gs → k + length (flat gs) ≤ 4096 → IsBest (groups_of (replicate k u ++ flat gs)) (group k u ∷ gs)
best_first zero u gs i le = record { fewer = omega (arith, i.fewer); cheaper = omega (arith, i.cheaper, cost_more 0 u gs) }
best_first (suc k) u gs i le =
    let r : groups_from 1 u (replicate k u ++ flat gs) ≡ groups_from (suc k) u (flat gs) = same_run k 1 u (flat gs) ∙ ap (λ (m : ℕ). groups_from m u (flat gs)) (omega arith) in
    rw r (best_from gs (suc k) u le)

best : (gs : List Group) → length (flat gs) ≤ 4096 → IsBest (groups_of (flat gs)) gs
best [] le = record { fewer = omega arith; cheaper = omega arith }
best (g ∷ gs) le = best_first g.count g.of gs (best gs (omega (arith, flat_length g gs))) (omega (arith, flat_length g gs))

-- ---- groups spell their locals

size_spelled : (n : ℕ) → n < 2 ^ 32 → IsUnsigned 32 (size_bytes n) n
size_spelled n lt = subst (λ (l : List ℕ). IsUnsigned 32 l n) (sym (size_is_number n lt)) (unsigned_shortest n lt).spelled

type_spelled : (t : ValueType) → IsByte value_type_of t (value_type_bytes t)
type_spelled I32 = record { byte = 0x7f; alone = refl; judged = refl }
type_spelled I64 = record { byte = 0x7e; alone = refl; judged = refl }

group_spelled : (before n : ℕ) (t : ValueType) → before + n ≤ 4096 → (local_group before).spells (n, t) (group_bytes (group n t))
unfolding local_group
group_spelled before n t le = record {
  value = n;
  front = size_bytes n;
  back = value_type_bytes t;
  parts = refl;
  first_spelled = (size_spelled n (omega arith), le-leb (before + n) 4096 le);
  second_spelled = record { value = t; front = value_type_bytes t; back = []; parts = sym (append-nil (value_type_bytes t)); first_spelled = type_spelled t; second_spelled = (refl, refl) };
}

groups_spelled : (gs : List Group) (before : ℕ) → before + length (flat gs) ≤ 4096 → (local_groups (length gs) before).spells (flat gs) (flat_map group_bytes gs)
unfolding local_groups
groups_spelled [] before le = (refl, refl)
groups_spelled (g ∷ gs) before le = record {
  value = (g.count, g.of);
  front = group_bytes g;
  back = flat_map group_bytes gs;
  parts = refl;
  first_spelled = group_spelled before g.count g.of (omega (arith, flat_length g gs));
  second_spelled = record {
    value = flat gs;
    front = flat_map group_bytes gs;
    back = [];
    parts = sym (append-nil (flat_map group_bytes gs));
    first_spelled = groups_spelled gs (before + g.count) (omega (arith, flat_length g gs));
    second_spelled = (refl, refl);
  };
}

-- ---- what is spelled are groups

local_group_written : (before : ℕ) → IsWritten (local_group before).spells (λ p. size_bytes p.0 ++ value_type_bytes p.1)
unfolding local_group
local_group_written before = two_written _ _ (λ n t. (n, t)) size_bytes (λ _. value_type_bytes) (λ p. size_bytes p.0 ++ value_type_bytes p.1) (bounded_written _ u32 size_bytes size_written) (λ _. value_type_written) (λ n t back s. refl)

group_within : (before : ℕ) (p : ℕ × ValueType) (text : List ℕ) → (local_group before).spells p text → before + p.0 ≤ 4096
unfolding local_group
group_within before p text s =
    let e : p.0 ≡ s.value = ap (λ (q : ℕ × ValueType). q.0) s.second_spelled.second_spelled.0 in
    let h : before + s.value ≤ 4096 = leb-true (before + s.value) 4096 s.first_spelled.1 in
    omega arith

record AreGroups (n before : ℕ) (locals : List ValueType) (text : List ℕ) : Type 0 where
  pub groups : List Group
  pub count : length groups ≡ n
  pub are : locals ≡ flat groups
  pub cheap : cost groups ≤ length text
  pub few : before + length locals ≤ 4096

groups_found : (n before : ℕ) (locals : List ValueType) (text : List ℕ) → AreBytes text → before ≤ 4096 → (local_groups n before).spells locals text → AreGroups n before locals text
unfolding local_groups
groups_found zero before locals text bytes le s = record { groups = []; count = refl; are = s.0; cheap = omega arith; few = omega (arith, ap length s.0) }
groups_found (suc n) before locals text bytes le s =
    let t = s.second_spelled in
    let p = s.value in
    let f = front_bytes text s.front s.back s.parts bytes in
    let b = back_bytes text s.front s.back s.parts bytes in
    let within : before + s.value.0 ≤ 4096 = group_within before s.value s.front s.first_spelled in
    let i = groups_found n (before + s.value.0) t.value t.front (front_bytes s.back t.front t.back t.parts b) within t.first_spelled in
    let least = ((local_group_written before).shortest s.value s.front f s.first_spelled).least s.front f s.first_spelled in
    let whole : locals ≡ replicate s.value.0 s.value.1 ++ flat i.groups = t.second_spelled.0 ∙ ap (λ (l : List ValueType). replicate s.value.0 s.value.1 ++ l) i.are in
    let size : length locals ≡ s.value.0 + length t.value = ap length t.second_spelled.0 ∙ (length-append (replicate s.value.0 s.value.1) t.value ∙ ap (λ (k : ℕ). k + length t.value) (length-replicate s.value.0 s.value.1)) in
    record {
      groups = group s.value.0 s.value.1 ∷ i.groups;
      count = ap suc i.count;
      are = whole;
      cheap = omega (arith, i.cheap, least, length-append (group_bytes (group s.value.0 s.value.1)) (flat_map group_bytes i.groups), ap length s.parts, length-append s.front s.back, ap length t.parts, length-append t.front t.back);
      few = omega (arith, i.few, size);
    }

-- ---- locals and bodies

pub LocalsSpell : List ValueType → List ℕ → Type 0
LocalsSpell = Follows (bounded (at_most 65536) u32).spells (λ n. (local_groups n 0).spells)

locals_best : (locals : List ValueType) (n : ℕ) (text : List ℕ) → AreGroups n 0 locals text → (length (groups_of locals) ≤ n) × (cost (groups_of locals) ≤ length text)
locals_best locals n text a =
    let i = best a.groups (omega (arith, a.few, ap length a.are)) in
    let e : groups_of locals ≡ groups_of (flat a.groups) = ap groups_of a.are in
    (omega (arith, i.fewer, a.count, ap length e), omega (arith, i.cheaper, a.cheap, ap cost e))

size_least : (n : ℕ) (text : List ℕ) → AreBytes text → IsUnsigned 32 text n → length (size_bytes n) ≤ length text
size_least n text are s = (size_written.shortest n text are s).least text are s

size_are_bytes : (n : ℕ) → n < 2 ^ 32 → AreBytes (size_bytes n)
size_are_bytes n lt = subst AreBytes (sym (size_is_number n lt)) (unsigned_shortest n lt).bytes

type_are_bytes : (t : ValueType) → AreBytes (value_type_bytes t)
type_are_bytes I32 = (omega arith, tt)
type_are_bytes I64 = (omega arith, tt)

groups_are_bytes : (gs : List Group) → length (flat gs) ≤ 4096 → AreBytes (flat_map group_bytes gs)
groups_are_bytes [] le = tt
groups_are_bytes (g ∷ gs) le =
    bytes_join (group_bytes g) (flat_map group_bytes gs)
    (bytes_join (size_bytes g.count) (value_type_bytes g.of) (size_are_bytes g.count (omega (arith, flat_length g gs))) (type_are_bytes g.of))
    (groups_are_bytes gs (omega (arith, flat_length g gs)))

locals_spelled : (locals : List ValueType) → length locals ≤ 4096 → length (groups_of locals) ≤ 65536 → LocalsSpell locals (vector_bytes group_bytes (groups_of locals))
unfolding LocalsSpell
locals_spelled locals few most = record {
  value = length (groups_of locals);
  front = size_bytes (length (groups_of locals));
  back = flat_map group_bytes (groups_of locals);
  parts = refl;
  first_spelled = (size_spelled (length (groups_of locals)) (omega arith), le-leb (length (groups_of locals)) 65536 most);
  second_spelled = subst (λ (l : List ValueType). (local_groups (length (groups_of locals)) 0).spells l (flat_map group_bytes (groups_of locals))) (flat_of locals)
      (groups_spelled (groups_of locals) 0 (omega (arith, ap length (flat_of locals))));
}

pub locals_written : IsWritten LocalsSpell (λ locals. vector_bytes group_bytes (groups_of locals))
unfolding LocalsSpell
locals_written = record {
  shortest = λ locals other are s.
      let b = back_bytes other s.front s.back s.parts are in
      let a = groups_found s.value 0 locals s.back b (omega arith) s.second_spelled in
      let h = locals_best locals s.value s.back a in
      let few : length locals ≤ 4096 = omega (arith, a.few) in
      let most : s.value ≤ 65536 = leb-true s.value 65536 s.first_spelled.1 in
      let small : length (groups_of locals) ≤ 65536 = omega (arith, h.0) in
      record {
        bytes = bytes_join (size_bytes (length (groups_of locals))) (flat_map group_bytes (groups_of locals)) (size_are_bytes (length (groups_of locals)) (omega arith)) (groups_are_bytes (groups_of locals) (omega (arith, ap length (flat_of locals))));
        spelled = locals_spelled locals few small;
        least = λ more d t.
            let c = back_bytes more t.front t.back t.parts d in
            let f = front_bytes more t.front t.back t.parts d in
            let k = locals_best locals t.value t.back (groups_found t.value 0 locals t.back c (omega arith) t.second_spelled) in
            let m = monotone 9 (length (groups_of locals)) t.value k.0 in
            let n = size_least t.value t.front f t.first_spelled.0 in
            omega (arith, k.1, m, n, length-append (size_bytes (length (groups_of locals))) (flat_map group_bytes (groups_of locals)), ap length t.parts, length-append t.front t.back);
      };
}

body_written : IsWritten function_body.spells body_bytes
unfolding function_body body_bytes LocalsSpell
body_written =
    equal_written _ _ body_bytes
    (regroup (bounded (at_most 65536) u32).spells (λ n. (local_groups n 0).spells) (λ locals. Follows expression.spells (λ body. (done (record { locals = locals; body = body })).spells)))
    (ungroup (bounded (at_most 65536) u32).spells (λ n. (local_groups n 0).spells) (λ locals. Follows expression.spells (λ body. (done (record { locals = locals; body = body })).spells)))
    (two_written LocalsSpell (λ _. expression.spells) (λ locals body. record { locals = locals; body = body }) (λ locals. vector_bytes group_bytes (groups_of locals)) (λ _. expression_bytes) body_bytes locals_written (λ _. expression_written) (λ locals body back s. refl))

code_written : IsWritten code.spells code_bytes
code_written = sized_written function_body.spells body_bytes body_written

pub code_vector_written : (declared : Option ℕ) → IsWritten (code_vector declared).spells (vector_bytes code_bytes)
unfolding code_vector
code_vector_written declared = counted_written (bounded (at_most 65536) (agreed_u32 declared)) code code_bytes (bounded_written (at_most 65536) (agreed_u32 declared) size_bytes (agreed_written declared)) code_written
