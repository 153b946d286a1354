-- The rule that the context gives for a row is the one by which it is typed.
use Rattle.std.proofs.Common.{◌≡◌, ℕ, Bool, true, false, ◌&&◌, List, [], ◌∷◌, Option, Some, None, refl, sym, ap, subst, ◌∙◌}
use Rattle.std.specs.List.{AllByRecursion}
use Rattle.std.specs.Prelude.{slice_get, All, nat_lt, nat_le, reverse}
use Rattle.std.proofs.lemmas.Bool.{ltb-true, lt-ltb, leb-true, le-leb}
use Rattle.std.proofs.lemmas.List.Elements.{recursion_from_All, All-cons, All-nil}
use Rattle.wasm_syntax.specs.declared.types.ValueType.{ValueType}
use Rattle.wasm_syntax.specs.declared.types.ValueType.TheVariants.{I32}
use Rattle.wasm_syntax.specs.declared.row.Row.{Row}
use Rattle.wasm_syntax.specs.declared.row.Row.TheVariants as row
use Rattle.wasm_syntax.specs.Typing.{Context, Is, Takes}
use Rattle.wasm_validator.specs.Checking.{and_then, same_type, same_types, has_label, all_have, ruled_if, Rule, rule_of}
use Rattle.wasm_validator.proofs.Patterns.{OnSome, May, same_type-refl, same_type-true}

-- ---- tests

pub both : (a b : Bool) → a ≡ true → b ≡ true → (a && b) ≡ true
both true true e f = refl
both true false e f = f
both false b e f = e

pub first_of : (a b : Bool) → (a && b) ≡ true → a ≡ true
first_of true b e = refl
first_of false b e = e

pub second_of : (a b : Bool) → (a && b) ≡ true → b ≡ true
second_of true b e = e
second_of false b e = absurd (cc)

pub same_types-refl : (ts : List ValueType) → same_types ts ts ≡ true
same_types-refl [] = refl
same_types-refl (t ∷ ts) = both (same_type t t) (same_types ts ts) (same_type-refl t) (same_types-refl ts)

pub same_types-true : (ts us : List ValueType) → same_types ts us ≡ true → ts ≡ us
same_types-true [] [] e = refl
same_types-true [] (u ∷ us) e = absurd (cc)
same_types-true (t ∷ ts) [] e = absurd (cc)
same_types-true (t ∷ ts) (u ∷ us) e =
    let a = same_type-true t u (first_of (same_type t u) (same_types ts us) e) in
    let b = same_types-true ts us (second_of (same_type t u) (same_types ts us) e) in
    ap (λ x. x ∷ ts) a ∙ ap (λ xs. u ∷ xs) b

-- ---- what is there

found : {A : Type 0} {B : Type 0} (o : Option A) (x : A) (f : A → Option B) (P : B → Type 0) → o ≡ Some x → OnSome (f x) P → OnSome (and_then o f) P
found o x f P e h = subst (λ q. OnSome (and_then q f) P) (sym e) h

finds : {A : Type 0} {B : Type 0} (o : Option A) (f : A → Option B) (P : B → Type 0) → OnSome (and_then o f) P → (x : A) × (o ≡ Some x) × OnSome (f x) P
finds None f P h = absurd h
finds (Some x) f P h = (x, refl, h)

ruled : (b : Bool) (r : Rule) (P : Rule → Type 0) → b ≡ true → P r → OnSome (ruled_if b r) P
ruled true r P e h = h
ruled false r P e h = absurd (cc)

rules : (b : Bool) (r : Rule) (P : Rule → Type 0) → OnSome (ruled_if b r) P → (b ≡ true) × P r
rules true r P h = (refl, h)
rules false r P h = absurd h

-- ---- labels of a table

label-to : (o : Option (List ValueType)) (ts : List ValueType) → o ≡ Some ts → elim o [ None ↦ false | Some us ↦ same_types us ts ] ≡ true
label-to o ts e = subst (λ (q : Option (List ValueType)). elim q [ None ↦ false | Some us ↦ same_types us ts ] ≡ true) (sym e) (same_types-refl ts)

label-from : (o : Option (List ValueType)) (ts : List ValueType) → elim o [ None ↦ false | Some us ↦ same_types us ts ] ≡ true → o ≡ Some ts
label-from None ts e = absurd (cc)
label-from (Some us) ts e = ap Some (same_types-true us ts e)

all_have-to : (c : Context) (ts : List ValueType) (ls : List ℕ) → AllByRecursion (λ k. Is c.labels k ts) ls → all_have c ts ls ≡ true
all_have-to c ts [] h = refl
all_have-to c ts (l ∷ ls) h = both (has_label c ts l) (all_have c ts ls) (label-to (slice_get c.labels l) ts h.0) (all_have-to c ts ls h.1)

all_have-from : (c : Context) (ts : List ValueType) (ls : List ℕ) → all_have c ts ls ≡ true → All (λ k. Is c.labels k ts) ls
all_have-from c ts [] e = All-nil (λ k. Is c.labels k ts)
all_have-from c ts (l ∷ ls) e =
    All-cons (λ k. Is c.labels k ts) l ls (label-from (slice_get c.labels l) ts (first_of (has_label c ts l) (all_have c ts ls) e)) (all_have-from c ts ls (second_of (has_label c ts l) (all_have c ts ls) e))

-- ---- the two are one

pub rule-to : (c : Context) (r : Row) (ls : List ℕ) (takes given : List ValueType) → Takes c r ls takes given → OnSome (rule_of c r ls) (λ rule. May rule takes given)
rule-to c row.Nop ls takes given h = h
rule-to c row.Drop ls takes given h = (h.0, h.1.0, h.1.1)
rule-to c row.Select ls takes given h = (h.0, h.1.0, h.1.1)
rule-to c (row.Const t) ls takes given h = h
rule-to c (row.Unary t u) ls takes given h = h
rule-to c (row.Binary t u) ls takes given h = h
rule-to c (row.LocalGet x) ls takes given h = found (slice_get c.locals x) h.0 _ (λ rule. May rule takes given) h.1 h.2
rule-to c (row.LocalSet x) ls takes given h = found (slice_get c.locals x) h.0 _ (λ rule. May rule takes given) h.1 h.2
rule-to c (row.LocalTee x) ls takes given h = found (slice_get c.locals x) h.0 _ (λ rule. May rule takes given) h.1 h.2
rule-to c (row.GlobalGet x) ls takes given h = found (slice_get c.globals x) h.0 _ (λ rule. May rule takes given) h.1 h.2
rule-to c (row.GlobalSet x) ls takes given h = found (slice_get c.globals x) h.0 _ (λ rule. May rule takes given) h.1 (ruled h.0.is_mutable _ (λ rule. May rule takes given) h.2 h.3)
rule-to c (row.Load t width align) ls takes given h = ruled (nat_lt 0 c.memories && nat_le align width) _ (λ rule. May rule takes given) (both (nat_lt 0 c.memories) (nat_le align width) (lt-ltb 0 c.memories h.0) (le-leb align width h.1)) h.2
rule-to c (row.Store t width align) ls takes given h = ruled (nat_lt 0 c.memories && nat_le align width) _ (λ rule. May rule takes given) (both (nat_lt 0 c.memories) (nat_le align width) (lt-ltb 0 c.memories h.0) (le-leb align width h.1)) h.2
rule-to c row.MemorySize ls takes given h = ruled (nat_lt 0 c.memories) _ (λ rule. May rule takes given) (lt-ltb 0 c.memories h.0) h.1
rule-to c row.MemoryGrow ls takes given h = ruled (nat_lt 0 c.memories) _ (λ rule. May rule takes given) (lt-ltb 0 c.memories h.0) h.1
rule-to c row.BulkMemory ls takes given h = ruled (nat_lt 0 c.memories) _ (λ rule. May rule takes given) (lt-ltb 0 c.memories h.0) h.1
rule-to c (row.Call x) ls takes given h = found (slice_get c.functions x) h.0 _ (λ rule. May rule takes given) h.2 (found (slice_get c.types h.0) h.1 _ (λ rule. May rule takes given) h.3 h.4)
rule-to c (row.CallIndirect x) ls takes given h =
    found (slice_get c.types x) h.0 _ (λ rule. May rule takes given) h.3 (ruled (nat_lt 0 c.tables) _ (λ rule. May rule takes given) (lt-ltb 0 c.tables h.2) (h.5 ∙ ap (λ xs. I32 ∷ xs) h.4.0, h.4.1))
rule-to c row.Unreachable ls takes given h = (takes, refl)
rule-to c (row.Br l) ls takes given h = found (slice_get c.labels l) h.0 _ (λ rule. May rule takes given) h.2 (h.1, h.3)
rule-to c (row.BrTable l) ls takes given h = found (slice_get c.labels l) h.0 _ (λ rule. May rule takes given) h.2 (ruled (all_have c h.0 ls) _ (λ rule. May rule takes given) (all_have-to c h.0 ls (recursion_from_All (λ k. Is c.labels k h.0) ls h.3)) (h.1, h.4))
rule-to c row.Return ls takes given h = h
rule-to c (row.BrIf l) ls takes given h = found (slice_get c.labels l) h.0 _ (λ rule. May rule takes given) h.1 h.2
rule-to c (row.Block t) ls takes given h = h
rule-to c (row.Loop t) ls takes given h = h
rule-to c (row.If t) ls takes given h = h
rule-to c row.Else ls takes given h = h
rule-to c row.End ls takes given h = h

pub rule-from : (c : Context) (r : Row) (ls : List ℕ) (takes given : List ValueType) → OnSome (rule_of c r ls) (λ rule. May rule takes given) → Takes c r ls takes given
rule-from c row.Nop ls takes given h = h
rule-from c row.Drop ls takes given h = (h.0, (h.1, h.2))
rule-from c row.Select ls takes given h = (h.0, (h.1, h.2))
rule-from c (row.Const t) ls takes given h = h
rule-from c (row.Unary t u) ls takes given h = h
rule-from c (row.Binary t u) ls takes given h = h
rule-from c (row.LocalGet x) ls takes given h = finds (slice_get c.locals x) _ (λ rule. May rule takes given) h
rule-from c (row.LocalSet x) ls takes given h = finds (slice_get c.locals x) _ (λ rule. May rule takes given) h
rule-from c (row.LocalTee x) ls takes given h = finds (slice_get c.locals x) _ (λ rule. May rule takes given) h
rule-from c (row.GlobalGet x) ls takes given h = finds (slice_get c.globals x) _ (λ rule. May rule takes given) h
rule-from c (row.GlobalSet x) ls takes given h =
    let f = finds (slice_get c.globals x) _ (λ rule. May rule takes given) h in
    let r = rules f.0.is_mutable _ (λ rule. May rule takes given) f.2 in
    (f.0, f.1, r.0, r.1)
rule-from c (row.Load t width align) ls takes given h =
    let r = rules (nat_lt 0 c.memories && nat_le align width) _ (λ rule. May rule takes given) h in
    (ltb-true 0 c.memories (first_of (nat_lt 0 c.memories) (nat_le align width) r.0), leb-true align width (second_of (nat_lt 0 c.memories) (nat_le align width) r.0), r.1)
rule-from c (row.Store t width align) ls takes given h =
    let r = rules (nat_lt 0 c.memories && nat_le align width) _ (λ rule. May rule takes given) h in
    (ltb-true 0 c.memories (first_of (nat_lt 0 c.memories) (nat_le align width) r.0), leb-true align width (second_of (nat_lt 0 c.memories) (nat_le align width) r.0), r.1)
rule-from c row.MemorySize ls takes given h =
    let r = rules (nat_lt 0 c.memories) _ (λ rule. May rule takes given) h in
    (ltb-true 0 c.memories r.0, r.1)
rule-from c row.MemoryGrow ls takes given h =
    let r = rules (nat_lt 0 c.memories) _ (λ rule. May rule takes given) h in
    (ltb-true 0 c.memories r.0, r.1)
rule-from c row.BulkMemory ls takes given h =
    let r = rules (nat_lt 0 c.memories) _ (λ rule. May rule takes given) h in
    (ltb-true 0 c.memories r.0, r.1)
rule-from c (row.Call x) ls takes given h =
    let f = finds (slice_get c.functions x) _ (λ rule. May rule takes given) h in
    let t = finds (slice_get c.types f.0) _ (λ rule. May rule takes given) f.2 in
    (f.0, t.0, f.1, t.1, t.2)
rule-from c (row.CallIndirect x) ls takes given h =
    let t = finds (slice_get c.types x) _ (λ rule. May rule takes given) h in
    let r = rules (nat_lt 0 c.tables) _ (λ rule. May rule takes given) t.2 in
    (t.0, reverse t.0.parameters, ltb-true 0 c.tables r.0, t.1, (refl, r.1.1), r.1.0)
rule-from c row.Unreachable ls takes given h = tt
rule-from c (row.Br l) ls takes given h =
    let f = finds (slice_get c.labels l) _ (λ rule. May rule takes given) h in
    (f.0, f.2.0, f.1, f.2.1)
rule-from c (row.BrTable l) ls takes given h =
    let f = finds (slice_get c.labels l) _ (λ rule. May rule takes given) h in
    let r = rules (all_have c f.0 ls) _ (λ rule. May rule takes given) f.2 in
    (f.0, r.1.0, f.1, all_have-from c f.0 ls r.0, r.1.1)
rule-from c row.Return ls takes given h = h
rule-from c (row.BrIf l) ls takes given h = finds (slice_get c.labels l) _ (λ rule. May rule takes given) h
rule-from c (row.Block t) ls takes given h = h
rule-from c (row.Loop t) ls takes given h = h
rule-from c (row.If t) ls takes given h = h
rule-from c row.Else ls takes given h = h
rule-from c row.End ls takes given h = h
