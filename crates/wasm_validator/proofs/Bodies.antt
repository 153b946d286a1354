-- A walk over a body, and what is typed.
use Rattle.std.proofs.Common.{◌≡◌, Bool, true, false, ◌&&◌, List, [], ◌∷◌, ◌++◌, Option, Some, None, refl, sym, ap, subst, ◌∙◌}
use Rattle.std.proofs.lemmas.List.{append-nil}
use Rattle.wasm_syntax.specs.declared.types.ValueType.{ValueType}
use Rattle.wasm_syntax.specs.declared.types.ValueType.TheVariants.{I32}
use Rattle.wasm_syntax.specs.declared.instr.Instr.{Instr}
use Rattle.wasm_syntax.specs.declared.instr.Instr.TheVariants as instr
use Rattle.wasm_syntax.specs.declared.instr.BlockType.{BlockType}
use Rattle.wasm_syntax.specs.Rows.{row_of, labels_of}
use Rattle.wasm_syntax.specs.Nested.{Nested, nothing, simple, block, loop, choice, Cut, whole, ended, parted, broken, first_as, closed_by, chosen_by, Mark, begins_block, begins_loop, begins_if, at_else, at_end, stands_alone, mark_of, in_front, nests, NestsAs}
use Rattle.wasm_syntax.specs.Typing.{Context, inside, Typed, IsTypedBody}
use Rattle.wasm_validator.specs.Checking.{and_then, Pattern, any_types, no_types, popped, all_popped, all_pushed, is_empty, may_end_with, acted, rule_of, Layer, if_layer, else_layer, body_layer, within, left_on, needs_no_else, layers_if, with_stack, stepped_by, stepped, walked}
use Rattle.wasm_validator.proofs.Patterns.{OnSome, IsThere}
use Rattle.wasm_validator.proofs.Exact.{Left, walked-exact}

-- a body begins in a context in which it has no labels yet
abbrev pub begun : Context → List Layer
begun c = body_layer c ∷ []

-- ---- the whole

module _ (c : Context) (outside : c.labels ≡ []) where
  labelled : Context → List (List ValueType) → Context
  labelled c ls = record c { labels = c.results ∷ ls }

  body-from : (cut : Cut) → Left c (begun c) cut → (code : Nested) × (cut ≡ ended code (whole nothing)) × Typed (inside c.results c) code [] c.results
  body-from (whole code) h = absurd h
  body-from (parted code behind) h = absurd (let e : false ≡ true = h.0 in cc)
  body-from broken h = absurd h
  body-from (ended code behind) h =
      let f = h.1 in
      let inner : Typed (within c (begun c)) code [] c.results = subst (λ x. Typed (within c (begun c)) code x c.results) f.stands f.typed in
      (code, ap (λ b. ended code b) h.2, subst (λ (ls : List (List ValueType)). Typed (record c { labels = c.results ∷ ls }) code [] c.results) (sym outside) inner)

  body-to : (code : Nested) → Typed (inside c.results c) code [] c.results → Left c (begun c) (ended code (whole nothing))
  body-to code typed = (refl, record { before = []; stands = refl; typed = subst (λ (ls : List (List ValueType)). Typed (record c { labels = c.results ∷ ls }) code [] c.results) outside typed }, refl)

  pub typed-left : (is : List Instr) → IsTypedBody c is → Left c (begun c) (nests is)
  typed-left is h = subst (Left c (begun c)) (sym h.1) (body-to h.0 h.2)

  pub left-typed : (is : List Instr) → Left c (begun c) (nests is) → IsTypedBody c is
  left-typed is h = body-from (nests is) h

-- ---- what is walked and can go on

pub any-popped : (ts : List ValueType) → all_popped ts any_types ≡ Some any_types
any-popped [] = refl
any-popped (t ∷ ts) = any-popped ts

any-ends : (ts : List ValueType) → may_end_with ts any_types ≡ true
any-ends ts = ap (λ (o : Option Pattern). elim o [ None ↦ false | Some q ↦ is_empty q.known ]) (any-popped ts)

-- some instructions end all blocks that are open
record GoesOn (c : Context) (ls : List Layer) : Type 0 where
  more : List Instr
  left : Left c ls (nests more)

-- `unreachable` and `end`, with an `else` between where one may come
abbrev closes_by : Bool → List Instr
closes_by true = instr.Unreachable ∷ instr.Else ∷ instr.Unreachable ∷ instr.End ∷ []
closes_by false = instr.Unreachable ∷ instr.End ∷ []

closing_false : (c : Context) (label results : List ValueType) (p : Pattern) (ls : List Layer) → walked c (record { label = label; results = results; awaits = false; stack = p } ∷ ls) (instr.Unreachable ∷ instr.End ∷ []) ≡ Some (left_on results ls)
unfolding stepped
closing_false c label results p ls = ap (λ b. and_then (layers_if b (left_on results ls)) (λ now. Some now)) (any-ends results)

closing_true : (c : Context) (label results : List ValueType) (p : Pattern) (ls : List Layer) → walked c (record { label = label; results = results; awaits = true; stack = p } ∷ ls) (instr.Unreachable ∷ instr.Else ∷ instr.Unreachable ∷ instr.End ∷ []) ≡ Some (left_on results ls)
unfolding stepped
closing_true c label results p ls =
    ap (λ b. and_then (layers_if b (record { label = label; results = results; awaits = false; stack = no_types } ∷ ls)) (λ now. walked c now (instr.Unreachable ∷ instr.End ∷ []))) (any-ends results)
    ∙ closing_false c label results no_types ls

closing : (c : Context) (label results : List ValueType) (awaits : Bool) (p : Pattern) (ls : List Layer) → walked c (record { label = label; results = results; awaits = awaits; stack = p } ∷ ls) (closes_by awaits) ≡ Some (left_on results ls)
closing c label results true p ls = closing_true c label results p ls
closing c label results false p ls = closing_false c label results p ls

-- what has come so far, and more of it
joined-left : (c : Context) (ls now : List Layer) (is more : List Instr) → walked c ls is ≡ Some now → Left c now (nests more) → Left c ls (nests (is ++ more))
joined-left c ls now is more e h = (walked-exact c ls is more).1 (subst (λ o. OnSome o (λ x. Left c x (nests more))) (sym e) h)

nothing-left : (c : Context) → Left c [] (nests [])
unfolding nests
nothing-left c = refl

goes_on : (c : Context) (l : Layer) (ls : List Layer) → GoesOn c (l ∷ ls)
goes_on c l [] = record {
  more = closes_by l.awaits ++ [];
  left = joined-left c (l ∷ []) [] (closes_by l.awaits) [] (closing c l.label l.results l.awaits l.stack []) (nothing-left c);
}
goes_on c l (m ∷ ls) =
    let rest = goes_on c (with_stack m (all_pushed l.results m.stack)) ls in
    record {
      more = closes_by l.awaits ++ rest.more;
      left = joined-left c (l ∷ m ∷ ls) (with_stack m (all_pushed l.results m.stack) ∷ ls) (closes_by l.awaits) rest.more (closing c l.label l.results l.awaits l.stack (m ∷ ls)) rest.left;
    }

always_on : (c : Context) (ls : List Layer) → GoesOn c ls
always_on c [] = record { more = []; left = nothing-left c }
always_on c (l ∷ ls) = goes_on c l ls

-- THE PREFIX: a list is walked exactly where something behind it makes it a typed body.
pub prefix-to : (c : Context) → c.labels ≡ [] → (is more : List Instr) → IsTypedBody c (is ++ more) → (now : List Layer) × (walked c (begun c) is ≡ Some now)
prefix-to c outside is more h =
    let there = IsThere (walked c (begun c) is) _ ((walked-exact c (begun c) is more).0 (typed-left c outside (is ++ more) h)) in
    (there.0, there.1)

pub prefix-from : (c : Context) → c.labels ≡ [] → (is : List Instr) (now : List Layer) → walked c (begun c) is ≡ Some now → (more : List Instr) × IsTypedBody c (is ++ more)
prefix-from c outside is now e =
    let rest = always_on c now in
    (rest.more, left-typed c outside (is ++ rest.more) (joined-left c (begun c) now is rest.more e rest.left))

-- THE WHOLE: a list that is walked to the end of all layers is a typed body.
pub whole-from : (c : Context) → c.labels ≡ [] → (is : List Instr) → walked c (begun c) is ≡ Some [] → IsTypedBody c is
whole-from c outside is e = subst (IsTypedBody c) (append-nil is) (left-typed c outside (is ++ []) (joined-left c (begun c) [] is [] e (nothing-left c)))

-- ---- a list that nests is walked to the end, where it is walked

abbrev awaits_of : List Layer → List Bool
awaits_of [] = []
awaits_of (l ∷ ls) = l.awaits ∷ awaits_of ls

abbrev WhereSome : {A : Type 0} → Option A → (A → Type 0) → Type 0
WhereSome None holds = Unit {0}
WhereSome (Some x) holds = holds x

where_then : {A B : Type 0} (o : Option A) (f : A → Option B) (P : B → Type 0) → ((x : A) → WhereSome (f x) P) → WhereSome (and_then o f) P
where_then None f P h = tt
where_then (Some x) f P h = h x

where_layers : (b : Bool) (ls : List Layer) (P : List Layer → Type 0) → P ls → WhereSome (layers_if b ls) P
where_layers true ls P h = h
where_layers false ls P h = tt

where_is : {A : Type 0} (o : Option A) (x : A) (P : A → Type 0) → o ≡ Some x → WhereSome o P → P x
where_is o x P e h = subst (λ q. WhereSome q P) e h

-- the ends that are to come fit the blocks that are open
abbrev Fit : List Bool → Cut → Type 0
Fit [] cut = cut ≡ whole nothing
Fit (b ∷ bs) (whole code) = ⊥
Fit (b ∷ bs) (ended code behind) = Fit bs behind
Fit (b ∷ bs) (parted code behind) = (b ≡ true) × Fit (false ∷ bs) behind
Fit (b ∷ bs) broken = ⊥

fit-first : (b : Bool) (bs : List Bool) (g : Nested → Nested) (cut : Cut) → Fit (b ∷ bs) (first_as g cut) → Fit (b ∷ bs) cut
fit-first b bs g (whole code) h = h
fit-first b bs g (ended code behind) h = h
fit-first b bs g (parted code behind) h = h
fit-first b bs g broken h = h

fit-closed : (b : Bool) (bs : List Bool) (make : Nested → Nested → Nested) (cut : Cut) → Fit (b ∷ bs) (closed_by make cut) → Fit (false ∷ b ∷ bs) cut
fit-closed b bs make (whole code) h = absurd h
fit-closed b bs make (ended body behind) h = fit-first b bs (make body) behind h
fit-closed b bs make (parted code behind) h = absurd h
fit-closed b bs make broken h = absurd h

fit-chosen : (b : Bool) (bs : List Bool) (t : BlockType) (cut : Cut) → Fit (b ∷ bs) (chosen_by t cut) → Fit (true ∷ b ∷ bs) cut
fit-chosen b bs t (whole code) h = absurd h
fit-chosen b bs t (ended then behind) h = fit-first b bs (choice t then nothing) behind h
fit-chosen b bs t (parted then behind) h = (refl, fit-closed b bs (choice t then) behind h)
fit-chosen b bs t broken h = absurd h

awaits-left : (ts : List ValueType) (ls : List Layer) → awaits_of (left_on ts ls) ≡ awaits_of ls
awaits-left ts [] = refl
awaits-left ts (l ∷ ls) = refl

fit-marked : (c : Context) (ls : List Layer) (i : Instr) (m : Mark) (cut : Cut) → Fit (awaits_of ls) (in_front i m cut) → WhereSome (stepped_by c ls i m) (λ now. Fit (awaits_of now) cut)
fit-marked c [] i m cut h = tt
fit-marked c (l ∷ ls) i (begins_block t) cut h = fit-closed l.awaits (awaits_of ls) (block t) cut h
fit-marked c (l ∷ ls) i (begins_loop t) cut h = fit-closed l.awaits (awaits_of ls) (loop t) cut h
fit-marked c (l ∷ ls) i (begins_if t) cut h = where_then (popped I32 l.stack) (λ p. Some (if_layer t ∷ with_stack l p ∷ ls)) (λ now. Fit (awaits_of now) cut) (λ p. fit-chosen l.awaits (awaits_of ls) t cut h)
fit-marked c (l ∷ ls) i at_else cut h = where_layers (l.awaits && may_end_with l.results l.stack) (else_layer l ∷ ls) (λ now. Fit (awaits_of now) cut) h.1
fit-marked c (l ∷ ls) i at_end cut h = where_layers (needs_no_else l && may_end_with l.results l.stack) (left_on l.results ls) (λ now. Fit (awaits_of now) cut) (subst (λ bs. Fit bs cut) (sym (awaits-left l.results ls)) h)
fit-marked c (l ∷ ls) i stands_alone cut h = where_then (rule_of (within c (l ∷ ls)) (row_of i) (labels_of i)) _ (λ now. Fit (awaits_of now) cut) (λ r. where_then (acted r l.stack) _ (λ now. Fit (awaits_of now) cut) (λ p. fit-first l.awaits (awaits_of ls) (simple i) cut h))

fit-stepped : (c : Context) (ls : List Layer) (i : Instr) (is : List Instr) → Fit (awaits_of ls) (nests (i ∷ is)) → WhereSome (stepped c ls i) (λ now. Fit (awaits_of now) (nests is))
unfolding nests stepped
fit-stepped c ls i is h = fit-marked c ls i (mark_of (row_of i)) (nests is) h

fit-walked : (c : Context) (ls now : List Layer) (is : List Instr) → walked c ls is ≡ Some now → Fit (awaits_of ls) (nests is) → Fit (awaits_of now) (nests [])
fit-walked c ls now [] e h = subst (λ x. Fit (awaits_of x) (nests [])) (of_some e) h
  where
    or_else : Option (List Layer) → List Layer
    or_else None = []
    or_else (Some x) = x

    of_some : {x y : List Layer} → Some x ≡ Some y → x ≡ y
    of_some e = ap or_else e
fit-walked c ls now (i ∷ is) e h =
    let one = first-there (stepped c ls i) (λ x. walked c x is) now e in
    fit-walked c one.0 now is one.2 (where_is (stepped c ls i) one.0 (λ x. Fit (awaits_of x) (nests is)) one.1 (fit-stepped c ls i is h))
  where
    first-there : (o : Option (List Layer)) (f : List Layer → Option (List Layer)) (y : List Layer) → and_then o f ≡ Some y → (x : List Layer) × (o ≡ Some x) × (f x ≡ Some y)
    first-there None f y e = absurd (cc)
    first-there (Some x) f y e = (x, refl, e)

fit-last : (bs : List Bool) → Fit bs (nests []) → bs ≡ []
unfolding nests
fit-last [] h = refl
fit-last (b ∷ bs) h = absurd h

no-awaits : (ls : List Layer) → awaits_of ls ≡ [] → ls ≡ []
no-awaits [] e = refl
no-awaits (l ∷ ls) e = absurd (cc)

pub walked-whole : (c : Context) (is : List Instr) (code : Nested) (now : List Layer) → NestsAs is code → walked c (begun c) is ≡ Some now → now ≡ []
walked-whole c is code now nested e =
    no-awaits now (fit-last (awaits_of now) (fit-walked c (begun c) now is e (subst (Fit (false ∷ [])) (sym nested) refl)))
