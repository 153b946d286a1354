-- The place at which a walk stops.
use Rattle.std.proofs.Common.{◌≡◌, ℕ, zero, suc, ◌<◌, ◌≤◌, List, [], ◌∷◌, ◌++◌, length, take, drop, get_or, Option, Some, None, refl, sym, ap, ◌∙◌, arith}
use Rattle.std.proofs.Math.Seq.{take-suc}
use Rattle.std.proofs.lemmas.List.{take-append-drop, take_all, get_or_default}
use Rattle.wasm_syntax.specs.declared.instr.Instr.{Instr}
use Rattle.wasm_syntax.specs.declared.instr.Instr.TheVariants as instr
use Rattle.wasm_syntax.specs.Nested.{Nested, NestsAs}
use Rattle.wasm_syntax.specs.Typing.{Context, IsTypedBody}
use Rattle.wasm_validator.specs.Checking.{and_then, Layer, stepped, walked}
use Rattle.wasm_validator.specs.Bodies.{StopsAt}
use Rattle.wasm_validator.proofs.Bodies.{begun, prefix-to, prefix-from, whole-from, walked-whole}

behind : (c : Context) (is js : List Instr) → ((now : List Layer) → walked c now (is ++ js) ≡ and_then (walked c now is) (λ x. walked c x js)) → (o : Option (List Layer)) → and_then o (λ now. walked c now (is ++ js)) ≡ and_then (and_then o (λ now. walked c now is)) (λ now. walked c now js)
behind c is js h None = refl
behind c is js h (Some now) = h now

walked-append : (c : Context) (is js : List Instr) (ls : List Layer) → walked c ls (is ++ js) ≡ and_then (walked c ls is) (λ now. walked c now js)
walked-append c [] js ls = refl
walked-append c (i ∷ is) js ls = behind c is js (λ now. walked-append c is js now) (stepped c ls i)

last-only : (c : Context) (now : List Layer) (i : Instr) → walked c now (i ∷ []) ≡ stepped c now i
last-only c now i = alone (stepped c now i)
  where
    alone : (o : Option (List Layer)) → and_then o (λ x. Some x) ≡ o
    alone None = refl
    alone (Some x) = refl

-- one instruction more
pub walked-more : (c : Context) (is : List Instr) (place : ℕ) (now : List Layer) (i : Instr) → place < length is → get_or is place i ≡ i → walked c (begun c) (take place is) ≡ Some now → walked c (begun c) (take (suc place) is) ≡ stepped c now i
walked-more c is place now i lt read e =
    ap (walked c (begun c)) (take-suc is place i lt ∙ ap (λ x. take place is ++ x ∷ []) read)
    ∙ walked-append c (take place is) (i ∷ []) (begun c)
    ∙ ap (λ o. and_then o (λ x. walked c x (i ∷ []))) e
    ∙ last-only c now i

shorter : (is : List Instr) (place k : ℕ) → k ≤ place → take k (take place is) ≡ take k is
shorter is place zero le = refl
shorter is zero (suc k) le = absurd (omega arith)
shorter [] (suc place) (suc k) le = refl
shorter (i ∷ is) (suc place) (suc k) le = ap (λ x. i ∷ x) (shorter is place k (omega arith))

-- what was walked before
front-some : (c : Context) (is : List Instr) (place k : ℕ) (now : List Layer) → k ≤ place → walked c (begun c) (take place is) ≡ Some now → (x : List Layer) × (walked c (begun c) (take k is) ≡ Some x)
front-some c is place k now le e =
    let parts : take place is ≡ take k is ++ drop k (take place is) = sym (take-append-drop k (take place is)) ∙ ap (λ xs. xs ++ drop k (take place is)) (shorter is place k le) in
    first-there (walked c (begun c) (take k is)) (λ x. walked c x (drop k (take place is))) now (sym (walked-append c (take k is) (drop k (take place is)) (begun c)) ∙ ap (walked c (begun c)) (sym parts) ∙ e)
  where
    first-there : (o : Option (List Layer)) (f : List Layer → Option (List Layer)) (y : List Layer) → and_then o f ≡ Some y → (x : List Layer) × (o ≡ Some x)
    first-there None f y e = absurd (let bad : None ≡ Some y = e in cc)
    first-there (Some x) f y e = (x, refl)

-- a walk that stops, stops at the first instruction up to which nothing goes on
pub stops : (c : Context) → c.labels ≡ [] → (is : List Instr) (place : ℕ) (now : List Layer) → place < length is → walked c (begun c) (take place is) ≡ Some now → walked c (begun c) (take (suc place) is) ≡ None → StopsAt c is place
stops c outside is place now lt e none = record {
  within = lt;
  ends = λ more h. let there = prefix-to c outside (take (suc place) is) more h in let bad : None ≡ Some there.0 = sym none ∙ there.1 in absurd (cc);
  goes = λ k before. let there = front-some c is place (suc k) now (omega arith) e in prefix-from c outside (take (suc k) is) there.0 there.1;
}

-- behind the last end nothing may stand
nothing-behind : (c : Context) (i : Instr) → stepped c [] i ≡ None
unfolding stepped
nothing-behind c i = refl

some-at : (is : List Instr) (place : ℕ) → place < length is → (i : Instr) × (get_or is place i ≡ i)
some-at is place lt = (get_or is place instr.Nop, get_or_default is place (get_or is place instr.Nop) instr.Nop lt)

pub stops-behind : (c : Context) → c.labels ≡ [] → (is : List Instr) (place : ℕ) → place < length is → walked c (begun c) (take place is) ≡ Some [] → StopsAt c is place
stops-behind c outside is place lt e =
    let there = some-at is place lt in
    stops c outside is place [] lt e (walked-more c is place [] there.0 lt there.1 e ∙ nothing-behind c there.0)

-- a walk to the very end
pub ends : (c : Context) → c.labels ≡ [] → (is : List Instr) (place : ℕ) → length is ≤ place → walked c (begun c) (take place is) ≡ Some [] → IsTypedBody c is
ends c outside is place all e = whole-from c outside is (ap (walked c (begun c)) (sym (take_all place is all)) ∙ e)

-- a body that nests is not left open
pub closes : (c : Context) (is : List Instr) (code : Nested) (place : ℕ) (now : List Layer) → NestsAs is code → length is ≤ place → walked c (begun c) (take place is) ≡ Some now → now ≡ []
closes c is code place now nested all e = walked-whole c is code now nested (ap (walked c (begun c)) (sym (take_all place is all)) ∙ e)
