-- Checking accepts exactly what is typed: the theory of it, without a line of code.
use Rattle.std.proofs.Common.{◌≡◌, Bool, true, false, ◌&&◌, List, [], ◌∷◌, ◌++◌, Option, Some, ◌↔◌, refl, sym, ap, subst, ◌∙◌}
use Rattle.wasm_syntax.specs.declared.types.ValueType.{ValueType}
use Rattle.wasm_syntax.specs.declared.types.ValueType.TheVariants.{I32}
use Rattle.wasm_syntax.specs.declared.instr.Instr.{Instr}
use Rattle.wasm_syntax.specs.declared.instr.BlockType.{BlockType}
use Rattle.wasm_syntax.specs.Rows.{row_of, labels_of}
use Rattle.wasm_syntax.specs.Nested.{Nested, nothing, simple, block, loop, choice, Cut, whole, ended, parted, broken, first_as, closed_by, chosen_by, Mark, begins_block, begins_loop, begins_if, at_else, at_end, stands_alone, mark_of, in_front, nests}
use Rattle.wasm_syntax.specs.Typing.{Context, left_by, inside, Leads, Typed}
use Rattle.wasm_validator.specs.Checking.{and_then, Pattern, no_types, popped, all_pushed, is_empty, may_end_with, acted, rule_of, Layer, block_layer, loop_layer, if_layer, else_layer, within, left_on, needs_no_else, layers_if, with_stack, stepped_by, stepped, walked}
use Rattle.wasm_validator.proofs.Patterns.{OnSome, on_then, on_map, on_keep, bind_exact, IsThere, Stands, popped-exact, all_pushed-to, all_pushed-from, may_end_with-to, may_end_with-from, May, Acts, acted-to, acted-from}
use Rattle.wasm_validator.proofs.Rules.{rule-to, rule-from, both, first_of, second_of}

-- from a stack that the layer stands for, the code leads to the layer's results
pub record Finishes (c : Context) (l : Layer) (ls : List Layer) (code : Nested) : Type 0 where
  pub before : List ValueType
  pub stands : Stands l.stack before
  pub typed : Typed (within c (l ∷ ls)) code before l.results

-- what is left of a body, cut at the ends of the blocks that are open, is typed
abbrev pub Left : Context → List Layer → Cut → Type 0
Left c [] cut = cut ≡ whole nothing
Left c (l ∷ ls) (whole code) = ⊥
Left c (l ∷ ls) (ended code behind) = (needs_no_else l ≡ true) × Finishes c l ls code × Left c (left_on l.results ls) behind
Left c (l ∷ ls) (parted code behind) = (l.awaits ≡ true) × Finishes c l ls code × Left c (else_layer l ∷ ls) behind
Left c (l ∷ ls) broken = ⊥

-- ---- the end of a layer

pub nothing-to : (c : Context) (l : Layer) (ls : List Layer) → Finishes c l ls nothing → Stands l.stack l.results
nothing-to c l ls f = subst (Stands l.stack) f.typed f.stands

pub nothing-from : (c : Context) (l : Layer) (ls : List Layer) → Stands l.stack l.results → Finishes c l ls nothing
nothing-from c l ls h = record { before = l.results; stands = h; typed = refl }

-- ---- the first sequence, in front of which something stands

pub first-exact : (c : Context) (l : Layer) (ls : List Layer) (g : Nested → Nested) (o : Option Pattern) (S : Type 0) →
    ((code : Nested) → Finishes c l ls (g code) ↔ OnSome o (λ p. S × Finishes c (with_stack l p) ls code)) →
    (behind : Cut) → Left c (l ∷ ls) (first_as g behind) ↔ OnSome o (λ p. S × Left c (with_stack l p ∷ ls) behind)
first-exact c l ls g o S F (whole code) = ((λ h. absurd h), (λ h. on_keep o ⊥ (λ p. S × Left c (with_stack l p ∷ ls) (whole code)) (λ p k. k.1) h))
first-exact c l ls g o S F (ended code behind) = (
  (λ h. on_map o (λ p. S × Finishes c (with_stack l p) ls code) (λ p. S × Left c (with_stack l p ∷ ls) (ended code behind)) (λ p k. (k.0, (h.0, k.1, h.2))) ((F code).0 h.1)),
  (λ h. (
    on_keep o (needs_no_else l ≡ true) (λ p. S × Left c (with_stack l p ∷ ls) (ended code behind)) (λ p k. k.1.0) h,
    (F code).1 (on_map o (λ p. S × Left c (with_stack l p ∷ ls) (ended code behind)) (λ p. S × Finishes c (with_stack l p) ls code) (λ p k. (k.0, k.1.1)) h),
    on_keep o (Left c (left_on l.results ls) behind) (λ p. S × Left c (with_stack l p ∷ ls) (ended code behind)) (λ p k. k.1.2) h,
  )),
)
first-exact c l ls g o S F (parted code behind) = (
  (λ h. on_map o (λ p. S × Finishes c (with_stack l p) ls code) (λ p. S × Left c (with_stack l p ∷ ls) (parted code behind)) (λ p k. (k.0, (h.0, k.1, h.2))) ((F code).0 h.1)),
  (λ h. (
    on_keep o (l.awaits ≡ true) (λ p. S × Left c (with_stack l p ∷ ls) (parted code behind)) (λ p k. k.1.0) h,
    (F code).1 (on_map o (λ p. S × Left c (with_stack l p ∷ ls) (parted code behind)) (λ p. S × Finishes c (with_stack l p) ls code) (λ p k. (k.0, k.1.1)) h),
    on_keep o (Left c (else_layer l ∷ ls) behind) (λ p. S × Left c (with_stack l p ∷ ls) (parted code behind)) (λ p k. k.1.2) h,
  )),
)
first-exact c l ls g o S F broken = ((λ h. absurd h), (λ h. on_keep o ⊥ (λ p. S × Left c (with_stack l p ∷ ls) broken) (λ p k. k.1) h))

-- ---- an instruction that stands alone

abbrev acted_by : Context → Layer → List Layer → Instr → Option Pattern
acted_by c l ls i = and_then (rule_of (within c (l ∷ ls)) (row_of i) (labels_of i)) (λ r. acted r l.stack)

simple-F : (c : Context) (l : Layer) (ls : List Layer) (i : Instr) (code : Nested) → Finishes c l ls (simple i code) ↔ OnSome (acted_by c l ls i) (λ p. Unit {0} × Finishes c (with_stack l p) ls code)
simple-F c l ls i code = (
  (λ f.
      let leads = f.typed.1 in
      let rule = IsThere (rule_of (within c (l ∷ ls)) (row_of i) (labels_of i)) _ (rule-to (within c (l ∷ ls)) (row_of i) (labels_of i) leads.takes leads.gives leads.may) in
      let acts : Acts rule.0 f.before f.typed.0 = record { takes = leads.takes; given = leads.gives; below = leads.below; may = rule.2; from = leads.from; to = leads.to } in
      let there = IsThere (acted rule.0 l.stack) _ (acted-to rule.0 l.stack f.before f.typed.0 f.stands acts) in
      let e : acted_by c l ls i ≡ Some there.0 = ap (λ o. and_then o (λ r. acted r l.stack)) rule.1 ∙ there.1 in
      subst (λ o. OnSome o (λ p. Unit {0} × Finishes c (with_stack l p) ls code)) (sym e) (tt, record { before = f.typed.0; stands = there.2; typed = f.typed.2 })),
  (λ h.
      let rule = IsThere (rule_of (within c (l ∷ ls)) (row_of i) (labels_of i)) _ ((on_then (rule_of (within c (l ∷ ls)) (row_of i) (labels_of i)) (λ r. acted r l.stack) (λ p. Unit {0} × Finishes c (with_stack l p) ls code)).0 h) in
      let there = IsThere (acted rule.0 l.stack) _ rule.2 in
      let f = there.2.1 in
      let came = acted-from rule.0 l.stack f.before (subst (λ o. OnSome o (λ q. Stands q f.before)) (sym there.1) f.stands) in
      let leads : Leads (within c (l ∷ ls)) i came.before f.before = record {
        takes = came.acts.takes;
        gives = came.acts.given;
        below = came.acts.below;
        may = rule-from (within c (l ∷ ls)) (row_of i) (labels_of i) came.acts.takes came.acts.given (subst (λ o. OnSome o (λ r. May r came.acts.takes came.acts.given)) (sym rule.1) came.acts.may);
        from = came.acts.from;
        to = came.acts.to;
      } in
      record { before = came.before; stands = came.stands; typed = (f.before, leads, f.typed) }),
)

alone-exact : (c : Context) (l : Layer) (ls : List Layer) (i : Instr) (cut : Cut) → Left c (l ∷ ls) (first_as (simple i) cut) ↔ OnSome (stepped_by c (l ∷ ls) i stands_alone) (λ now. Left c now cut)
alone-exact c l ls i cut =
    let e = first-exact c l ls (simple i) (acted_by c l ls i) (Unit {0}) (simple-F c l ls i) cut in
    bind_exact (Left c (l ∷ ls) (first_as (simple i) cut)) (rule_of (within c (l ∷ ls)) (row_of i) (labels_of i)) _ (λ r. OnSome (acted r l.stack) (λ p. Unit {0} × Left c (with_stack l p ∷ ls) cut)) (λ now. Left c now cut)
    (let t = on_then (rule_of (within c (l ∷ ls)) (row_of i) (labels_of i)) (λ r. acted r l.stack) (λ p. Unit {0} × Left c (with_stack l p ∷ ls) cut) in ((λ h. t.0 (e.0 h)), (λ h. e.1 (t.1 h))))
    (λ r. bind_exact (OnSome (acted r l.stack) (λ p. Unit {0} × Left c (with_stack l p ∷ ls) cut)) (acted r l.stack) _ (λ p. Unit {0} × Left c (with_stack l p ∷ ls) cut) (λ now. Left c now cut) ((λ h. h), (λ h. h)) (λ p. ((λ h. h.1), (λ h. (tt, h)))))

-- ---- a block or a loop

module _ (c : Context) (l : Layer) (ls : List Layer) (label : List ValueType) (ts : List ValueType) (make : Nested → Nested → Nested)
    (opens : (body rest : Nested) (before after : List ValueType) → Typed (within c (l ∷ ls)) (make body rest) before after → Typed (inside label (within c (l ∷ ls))) body [] ts × Typed (within c (l ∷ ls)) rest (ts ++ before) after)
    (closes : (body rest : Nested) (before after : List ValueType) → Typed (inside label (within c (l ∷ ls))) body [] ts × Typed (within c (l ∷ ls)) rest (ts ++ before) after → Typed (within c (l ∷ ls)) (make body rest) before after)
  where
    new : Layer
    new = record { label = label; results = ts; awaits = false; stack = no_types }

    block-F : (body code : Nested) → Finishes c l ls (make body code) ↔ OnSome (Some (all_pushed ts l.stack)) (λ p. Finishes c (record { label = label; results = ts; awaits = false; stack = no_types }) (l ∷ ls) body × Finishes c (with_stack l p) ls code)
    block-F body code = (
      (λ f.
          let o = opens body code f.before l.results f.typed in
          (record { before = []; stands = refl; typed = o.0 }, record { before = ts ++ f.before; stands = all_pushed-to ts l.stack f.before f.stands; typed = o.1 })),
      (λ h.
          let on = all_pushed-from ts l.stack h.1.before h.1.stands in
          record {
            before = on.below;
            stands = on.stands;
            typed = closes body code on.below l.results (
              subst (λ x. Typed (inside label (within c (l ∷ ls))) body x ts) h.0.stands h.0.typed,
              subst (λ x. Typed (within c (l ∷ ls)) code x l.results) on.is h.1.typed,
            );
          }),
    )

    pub opened-exact : (cut : Cut) → Left c (l ∷ ls) (closed_by make cut) ↔ Left c (record { label = label; results = ts; awaits = false; stack = no_types } ∷ l ∷ ls) cut
    opened-exact (whole code) = ((λ h. absurd h), (λ h. absurd h))
    opened-exact (parted code behind) = ((λ h. absurd h), (λ h. absurd (let e : false ≡ true = h.0 in cc)))
    opened-exact broken = ((λ h. absurd h), (λ h. absurd h))
    opened-exact (ended body behind) =
        let e = first-exact c l ls (make body) (Some (all_pushed ts l.stack)) (Finishes c (record { label = label; results = ts; awaits = false; stack = no_types }) (l ∷ ls) body) (block-F body) behind in
        ((λ h. let r = e.0 h in (refl, r.0, r.1)), (λ h. e.1 (h.1, h.2)))

block-exact : (c : Context) (l : Layer) (ls : List Layer) (t : BlockType) (cut : Cut) → Left c (l ∷ ls) (closed_by (block t) cut) ↔ Left c (block_layer t ∷ l ∷ ls) cut
block-exact c l ls t cut = opened-exact c l ls (left_by t) (left_by t) (block t) (λ body rest before after h. h) (λ body rest before after h. h) cut

loop-exact : (c : Context) (l : Layer) (ls : List Layer) (t : BlockType) (cut : Cut) → Left c (l ∷ ls) (closed_by (loop t) cut) ↔ Left c (loop_layer t ∷ l ∷ ls) cut
loop-exact c l ls t cut = opened-exact c l ls [] (left_by t) (loop t) (λ body rest before after h. h) (λ body rest before after h. h) cut

-- ---- an `if`

abbrev chosen : BlockType → Layer → Option Pattern
chosen t l = and_then (popped I32 l.stack) (λ p. Some (all_pushed (left_by t) p))

choice-F : (c : Context) (l : Layer) (ls : List Layer) (t : BlockType) (then other code : Nested) →
    Finishes c l ls (choice t then other code) ↔ OnSome (chosen t l) (λ p. (Finishes c (if_layer t) (l ∷ ls) then × Finishes c (block_layer t) (l ∷ ls) other) × Finishes c (with_stack l p) ls code)
choice-F c l ls t then other code = (
  (λ f.
      let there = IsThere (popped I32 l.stack) _ ((popped-exact I32 l.stack f.typed.0).0 (subst (Stands l.stack) f.typed.1 f.stands)) in
      let e : chosen t l ≡ Some (all_pushed (left_by t) there.0) = ap (λ o. and_then o (λ p. Some (all_pushed (left_by t) p))) there.1 in
      subst (λ o. OnSome o (λ p. (Finishes c (if_layer t) (l ∷ ls) then × Finishes c (block_layer t) (l ∷ ls) other) × Finishes c (with_stack l p) ls code)) (sym e)
      ((record { before = []; stands = refl; typed = f.typed.2 }, record { before = []; stands = refl; typed = f.typed.3 }), record { before = left_by t ++ f.typed.0; stands = all_pushed-to (left_by t) there.0 f.typed.0 there.2; typed = f.typed.4 })),
  (λ h.
      let there = IsThere (popped I32 l.stack) _ ((on_then (popped I32 l.stack) (λ p. Some (all_pushed (left_by t) p)) (λ p. (Finishes c (if_layer t) (l ∷ ls) then × Finishes c (block_layer t) (l ∷ ls) other) × Finishes c (with_stack l p) ls code)).0 h) in
      let k = there.2 in
      let on = all_pushed-from (left_by t) there.0 k.1.before k.1.stands in
      record {
        before = I32 ∷ on.below;
        stands = (popped-exact I32 l.stack on.below).1 (subst (λ o. OnSome o (λ q. Stands q on.below)) (sym there.1) on.stands);
        typed = (
          on.below,
          refl,
          subst (λ x. Typed (inside (left_by t) (within c (l ∷ ls))) then x (left_by t)) k.0.0.stands k.0.0.typed,
          subst (λ x. Typed (inside (left_by t) (within c (l ∷ ls))) other x (left_by t)) k.0.1.stands k.0.1.typed,
          subst (λ x. Typed (within c (l ∷ ls)) code x l.results) on.is k.1.typed,
        );
      }),
)

empty-to : (ts : List ValueType) → [] ≡ ts → is_empty ts ≡ true
empty-to [] e = refl
empty-to (t ∷ ts) e = absurd (cc)

empty-from : (ts : List ValueType) → is_empty ts ≡ true → [] ≡ ts
empty-from [] e = refl
empty-from (t ∷ ts) e = absurd (cc)

-- one without an `else`: the branch that is not there leaves nothing
no_else-to : (c : Context) (ls : List Layer) (t : BlockType) → Finishes c (block_layer t) ls nothing → is_empty (left_by t) ≡ true
no_else-to c ls t f = empty-to (left_by t) (sym f.stands ∙ f.typed)

no_else-from : (c : Context) (ls : List Layer) (t : BlockType) → is_empty (left_by t) ≡ true → Finishes c (block_layer t) ls nothing
no_else-from c ls t e = record { before = []; stands = refl; typed = empty-from (left_by t) e }

-- what stands in a layer further out says nothing of this one
inner-to : (c : Context) (x l : Layer) (ls : List Layer) (p : Pattern) (code : Nested) → Finishes c x (l ∷ ls) code → Finishes c x (with_stack l p ∷ ls) code
inner-to c x l ls p code f = record { before = f.before; stands = f.stands; typed = f.typed }

inner-from : (c : Context) (x l : Layer) (ls : List Layer) (p : Pattern) (code : Nested) → Finishes c x (with_stack l p ∷ ls) code → Finishes c x (l ∷ ls) code
inner-from c x l ls p code f = record { before = f.before; stands = f.stands; typed = f.typed }

if-exact : (c : Context) (l : Layer) (ls : List Layer) (t : BlockType) (cut : Cut) → Left c (l ∷ ls) (chosen_by t cut) ↔ OnSome (popped I32 l.stack) (λ p. Left c (if_layer t ∷ with_stack l p ∷ ls) cut)
if-exact c l ls t (whole code) = ((λ h. absurd h), (λ h. on_keep (popped I32 l.stack) ⊥ (λ p. Left c (if_layer t ∷ with_stack l p ∷ ls) (whole code)) (λ p k. k) h))
if-exact c l ls t broken = ((λ h. absurd h), (λ h. on_keep (popped I32 l.stack) ⊥ (λ p. Left c (if_layer t ∷ with_stack l p ∷ ls) broken) (λ p k. k) h))
if-exact c l ls t (ended then behind) =
    let e = first-exact c l ls (choice t then nothing) (chosen t l) (Finishes c (if_layer t) (l ∷ ls) then × Finishes c (block_layer t) (l ∷ ls) nothing) (choice-F c l ls t then nothing) behind in
    let s = on_then (popped I32 l.stack) (λ p. Some (all_pushed (left_by t) p)) (λ p. (Finishes c (if_layer t) (l ∷ ls) then × Finishes c (block_layer t) (l ∷ ls) nothing) × Left c (with_stack l p ∷ ls) behind) in (
      (λ h. on_map (popped I32 l.stack) _ (λ p. Left c (if_layer t ∷ with_stack l p ∷ ls) (ended then behind)) (λ p k. (no_else-to c (l ∷ ls) t k.0.1, inner-to c (if_layer t) l ls p then k.0.0, k.1)) (s.0 (e.0 h))),
      (λ h. e.1 (s.1 (on_map (popped I32 l.stack) (λ p. Left c (if_layer t ∷ with_stack l p ∷ ls) (ended then behind)) _ (λ p k. ((inner-from c (if_layer t) l ls p then k.1, no_else-from c (l ∷ ls) t k.0), k.2)) h))),
    )
if-exact c l ls t (parted then (whole code)) = ((λ h. absurd h), (λ h. on_keep (popped I32 l.stack) ⊥ (λ p. Left c (if_layer t ∷ with_stack l p ∷ ls) (parted then (whole code))) (λ p k. k.2) h))
if-exact c l ls t (parted then broken) = ((λ h. absurd h), (λ h. on_keep (popped I32 l.stack) ⊥ (λ p. Left c (if_layer t ∷ with_stack l p ∷ ls) (parted then broken)) (λ p k. k.2) h))
if-exact c l ls t (parted then (parted code behind)) = ((λ h. absurd h), (λ h. on_keep (popped I32 l.stack) ⊥ (λ p. Left c (if_layer t ∷ with_stack l p ∷ ls) (parted then (parted code behind))) (λ p k. let e : false ≡ true = k.2.0 in absurd (cc)) h))
if-exact c l ls t (parted then (ended other behind)) =
    let e = first-exact c l ls (choice t then other) (chosen t l) (Finishes c (if_layer t) (l ∷ ls) then × Finishes c (block_layer t) (l ∷ ls) other) (choice-F c l ls t then other) behind in
    let s = on_then (popped I32 l.stack) (λ p. Some (all_pushed (left_by t) p)) (λ p. (Finishes c (if_layer t) (l ∷ ls) then × Finishes c (block_layer t) (l ∷ ls) other) × Left c (with_stack l p ∷ ls) behind) in (
      (λ h. on_map (popped I32 l.stack) _ (λ p. Left c (if_layer t ∷ with_stack l p ∷ ls) (parted then (ended other behind))) (λ p k. (refl, inner-to c (if_layer t) l ls p then k.0.0, (refl, inner-to c (block_layer t) l ls p other k.0.1, k.1))) (s.0 (e.0 h))),
      (λ h. e.1 (s.1 (on_map (popped I32 l.stack) (λ p. Left c (if_layer t ∷ with_stack l p ∷ ls) (parted then (ended other behind))) _ (λ p k. ((inner-from c (if_layer t) l ls p then k.1, inner-from c (block_layer t) l ls p other k.2.1), k.2.2)) h))),
    )

-- ---- marks

layers-to : (b : Bool) (ls : List Layer) (P : List Layer → Type 0) → b ≡ true → P ls → OnSome (layers_if b ls) P
layers-to true ls P e h = h
layers-to false ls P e h = absurd (cc)

layers-from : (b : Bool) (ls : List Layer) (P : List Layer → Type 0) → OnSome (layers_if b ls) P → (b ≡ true) × P ls
layers-from true ls P h = (refl, h)
layers-from false ls P h = absurd h

end-exact : (c : Context) (l : Layer) (ls : List Layer) (cut : Cut) → Left c (l ∷ ls) (ended nothing cut) ↔ OnSome (layers_if (needs_no_else l && may_end_with l.results l.stack) (left_on l.results ls)) (λ now. Left c now cut)
end-exact c l ls cut = (
  (λ h. layers-to (needs_no_else l && may_end_with l.results l.stack) (left_on l.results ls) (λ now. Left c now cut) (both (needs_no_else l) (may_end_with l.results l.stack) h.0 (may_end_with-to l.results l.stack (nothing-to c l ls h.1))) h.2),
  (λ h.
      let r = layers-from (needs_no_else l && may_end_with l.results l.stack) (left_on l.results ls) (λ now. Left c now cut) h in
      (first_of (needs_no_else l) (may_end_with l.results l.stack) r.0, nothing-from c l ls (may_end_with-from l.results l.stack (second_of (needs_no_else l) (may_end_with l.results l.stack) r.0)), r.1)),
)

else-exact : (c : Context) (l : Layer) (ls : List Layer) (cut : Cut) → Left c (l ∷ ls) (parted nothing cut) ↔ OnSome (layers_if (l.awaits && may_end_with l.results l.stack) (else_layer l ∷ ls)) (λ now. Left c now cut)
else-exact c l ls cut = (
  (λ h. layers-to (l.awaits && may_end_with l.results l.stack) (else_layer l ∷ ls) (λ now. Left c now cut) (both l.awaits (may_end_with l.results l.stack) h.0 (may_end_with-to l.results l.stack (nothing-to c l ls h.1))) h.2),
  (λ h.
      let r = layers-from (l.awaits && may_end_with l.results l.stack) (else_layer l ∷ ls) (λ now. Left c now cut) h in
      (first_of l.awaits (may_end_with l.results l.stack) r.0, nothing-from c l ls (may_end_with-from l.results l.stack (second_of l.awaits (may_end_with l.results l.stack) r.0)), r.1)),
)

-- ---- no layer

first-some : (g : Nested → Nested) (cut : Cut) → ((code : Nested) → g code ≡ nothing → ⊥) → first_as g cut ≡ whole nothing → ⊥
first-some g (whole code) some e = some code (cut_code e)
  where
    code_of : Cut → Nested
    code_of (whole code) = code
    code_of (ended code behind) = nothing
    code_of (parted code behind) = nothing
    code_of broken = nothing

    cut_code : {d e : Nested} → whole d ≡ whole e → d ≡ e
    cut_code e = ap code_of e
first-some g (ended code behind) some e = absurd (cc)
first-some g (parted code behind) some e = absurd (cc)
first-some g broken some e = absurd (cc)

closed-some : (make : Nested → Nested → Nested) (cut : Cut) → ((body code : Nested) → make body code ≡ nothing → ⊥) → closed_by make cut ≡ whole nothing → ⊥
closed-some make (whole code) some e = absurd (cc)
closed-some make (ended body behind) some e = first-some (make body) behind (some body) e
closed-some make (parted code behind) some e = absurd (cc)
closed-some make broken some e = absurd (cc)

chosen-some : (t : BlockType) (cut : Cut) → chosen_by t cut ≡ whole nothing → ⊥
chosen-some t (whole code) e = absurd (cc)
chosen-some t (ended then behind) e = first-some (choice t then nothing) behind (λ code bad. absurd (cc)) e
chosen-some t (parted then behind) e = closed-some (choice t then) behind (λ body code bad. absurd (cc)) e
chosen-some t broken e = absurd (cc)

some-front : (i : Instr) (m : Mark) (cut : Cut) → in_front i m cut ≡ whole nothing → ⊥
some-front i (begins_block t) cut e = closed-some (block t) cut (λ body code bad. absurd (cc)) e
some-front i (begins_loop t) cut e = closed-some (loop t) cut (λ body code bad. absurd (cc)) e
some-front i (begins_if t) cut e = chosen-some t cut e
some-front i at_else cut e = absurd (cc)
some-front i at_end cut e = absurd (cc)
some-front i stands_alone cut e = first-some (simple i) cut (λ code bad. absurd (cc)) e

-- ---- a step is exact

marked-exact : (c : Context) (ls : List Layer) (i : Instr) (m : Mark) (cut : Cut) → Left c ls (in_front i m cut) ↔ OnSome (stepped_by c ls i m) (λ now. Left c now cut)
marked-exact c [] i m cut = ((λ h. some-front i m cut h), (λ h. absurd h))
marked-exact c (l ∷ ls) i (begins_block t) cut = block-exact c l ls t cut
marked-exact c (l ∷ ls) i (begins_loop t) cut = loop-exact c l ls t cut
marked-exact c (l ∷ ls) i (begins_if t) cut =
    let e = if-exact c l ls t cut in
    let s = on_then (popped I32 l.stack) (λ p. Some (if_layer t ∷ with_stack l p ∷ ls)) (λ now. Left c now cut) in
    ((λ h. s.1 (e.0 h)), (λ h. e.1 (s.0 h)))
marked-exact c (l ∷ ls) i at_else cut = else-exact c l ls cut
marked-exact c (l ∷ ls) i at_end cut = end-exact c l ls cut
marked-exact c (l ∷ ls) i stands_alone cut = alone-exact c l ls i cut

pub stepped-exact : (c : Context) (ls : List Layer) (i : Instr) (is : List Instr) → Left c ls (nests (i ∷ is)) ↔ OnSome (stepped c ls i) (λ now. Left c now (nests is))
unfolding nests stepped
stepped-exact c ls i is = marked-exact c ls i (mark_of (row_of i)) (nests is)

-- ---- a walk is exact

pub walked-exact : (c : Context) (ls : List Layer) (is more : List Instr) → Left c ls (nests (is ++ more)) ↔ OnSome (walked c ls is) (λ now. Left c now (nests more))
walked-exact c ls [] more = ((λ h. h), (λ h. h))
walked-exact c ls (i ∷ is) more =
    bind_exact (Left c ls (nests (i ∷ (is ++ more)))) (stepped c ls i) (λ now. walked c now is) (λ now. Left c now (nests (is ++ more))) (λ now. Left c now (nests more)) (stepped-exact c ls i (is ++ more)) (λ now. walked-exact c now is more)
