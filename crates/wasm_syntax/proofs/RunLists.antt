-- Locals by runs: how many there are, one more run, and the run in which one stands.
use Rattle.std.proofs.Common.{◌≡◌, ℕ, zero, suc, ◌+◌, ◌-◌, ◌≤◌, ◌<◌, List, [], ◌∷◌, ◌++◌, length, drop, get_or, Some, None, ◌⊎◌, inl, inr, refl, sym, ap, subst, ◌∙◌, append_assoc, arith, length-append}
use Rattle.std.specs.Prelude.{replicate, slice_get}
use Rattle.std.proofs.lemmas.Option.{slice_get_past, slice_get_cases}
use Rattle.std.proofs.lemmas.List.{append-nil, length-replicate, replicate-append-replicate}
use Rattle.wasm_syntax.specs.declared.types.ValueType.{ValueType}
use Rattle.wasm_syntax.specs.declared.locals.LocalRun.{LocalRun}
use Rattle.wasm_syntax.specs.LocalRuns.{unrolled, start_of, end_of, IsRising, IsOver, IsOpen, same, shorter}

-- ---- how many there are

pub length-unrolled : (before : ℕ) (rs : List LocalRun) → IsRising before rs → before + length (unrolled before rs) ≡ end_of before rs
length-unrolled before [] h = omega arith
length-unrolled before (r ∷ rs) h = omega (arith, h.0, length-append (replicate (r.end - before) r.of) (unrolled r.end rs), length-replicate (r.end - before) r.of, length-unrolled r.end rs h.1)

end-append : (before : ℕ) (rs : List LocalRun) (r : LocalRun) → end_of before (rs ++ r ∷ []) ≡ r.end
end-append before [] r = refl
end-append before (q ∷ rs) r = end-append q.end rs r

unrolled-append : (before : ℕ) (rs : List LocalRun) (r : LocalRun) → unrolled before (rs ++ r ∷ []) ≡ unrolled before rs ++ replicate (r.end - end_of before rs) r.of
unrolled-append before [] r = append-nil (replicate (r.end - before) r.of)
unrolled-append before (q ∷ rs) r =
    ap (λ (l : List ValueType). replicate (q.end - before) q.of ++ l) (unrolled-append q.end rs r)
    ∙ sym (append_assoc (replicate (q.end - before) q.of) (unrolled q.end rs) (replicate (r.end - end_of q.end rs) r.of))

rising-append : (before : ℕ) (rs : List LocalRun) (r : LocalRun) → IsRising before rs → end_of before rs < r.end → IsRising before (rs ++ r ∷ [])
rising-append before [] r h lt = (lt, tt)
rising-append before (q ∷ rs) r h lt = (h.0, rising-append q.end rs r h.1 lt)

rising-front : (before : ℕ) (rs : List LocalRun) (r : LocalRun) → IsRising before (rs ++ r ∷ []) → IsRising before rs × (end_of before rs < r.end)
rising-front before [] r h = (tt, h.0)
rising-front before (q ∷ rs) r h = let f = rising-front q.end rs r h.1 in ((h.0, f.0), f.1)

-- ---- one more run

pub opened-rising : (old new : List LocalRun) (t : ValueType) → IsOpen old new t → IsRising 0 old → IsRising 0 new
opened-rising old new t (same e) h = subst (IsRising 0) (sym e) h
opened-rising old new t (shorter r e is) h = (rising-front 0 new r (subst (IsRising 0) e h)).0

opened-end : (old new : List LocalRun) (t : ValueType) (end : ℕ) → IsOpen old new t → IsRising 0 old → end_of 0 old < end → end_of 0 new < end
opened-end old new t end (same e) h lt = subst (λ (l : List LocalRun). end_of 0 l < end) (sym e) lt
opened-end old new t end (shorter r e is) h lt =
    let below = (rising-front 0 new r (subst (IsRising 0) e h)).1 in
    omega (arith, below, lt, ap (end_of 0) e, end-append 0 new r)

pub put-rising : (old new : List LocalRun) (q : LocalRun) → IsOpen old new q.of → IsRising 0 old → end_of 0 old < q.end → IsRising 0 (new ++ q ∷ [])
put-rising old new q o h lt = rising-append 0 new q (opened-rising old new q.of o h) (opened-end old new q.of q.end o h lt)

two_parts : (a b c : ℕ) (t : ValueType) → a ≤ b → b ≤ c → replicate (c - a) t ≡ replicate (b - a) t ++ replicate (c - b) t
two_parts a b c t ab bc =
    let e : c - a ≡ (b - a) + (c - b) = omega arith in
    ap (λ (n : ℕ). replicate n t) e ∙ sym (replicate-append-replicate (b - a) (c - b) t)

pub put-more : (old new : List LocalRun) (q : LocalRun) → IsOpen old new q.of → IsRising 0 old → end_of 0 old < q.end
    → unrolled 0 (new ++ q ∷ []) ≡ unrolled 0 old ++ replicate (q.end - end_of 0 old) q.of
put-more old new q (same e) h lt = unrolled-append 0 new q ∙ ap (λ (l : List LocalRun). unrolled 0 l ++ replicate (q.end - end_of 0 l) q.of) e
put-more old new q (shorter r e is) h lt =
    let below = (rising-front 0 new r (subst (IsRising 0) e h)).1 in
    let last : end_of 0 old ≡ r.end = ap (end_of 0) e ∙ end-append 0 new r in
    let low : end_of 0 new ≤ r.end = omega (arith, below) in
    let high : r.end ≤ q.end = omega (arith, lt, last) in
    let parts = two_parts (end_of 0 new) r.end q.end q.of low high in
    unrolled-append 0 new q
    ∙ ap (λ (l : List ValueType). unrolled 0 new ++ l) (parts ∙ ap (λ (t : ValueType). replicate (r.end - end_of 0 new) t ++ replicate (q.end - r.end) q.of) (sym is))
    ∙ sym (append_assoc (unrolled 0 new) (replicate (r.end - end_of 0 new) r.of) (replicate (q.end - r.end) q.of))
    ∙ ap (λ (l : List ValueType). l ++ replicate (q.end - r.end) q.of) (sym (unrolled-append 0 new r) ∙ sym (ap (unrolled 0) e))
    ∙ ap (λ (n : ℕ). unrolled 0 old ++ replicate (q.end - n) q.of) (sym last)

-- ---- the run in which a local stands

pub last-of : {A : Type 0} (front : List A) (r : A) → slice_get (front ++ r ∷ []) (length (front ++ r ∷ []) - 1) ≡ Some r
last-of [] r = refl
last-of (q ∷ []) r = refl
last-of (q ∷ p ∷ front) r =
    let e : length (q ∷ p ∷ front ++ r ∷ []) - 1 ≡ suc (length (p ∷ front ++ r ∷ []) - 1) = omega arith in
    ap (slice_get (q ∷ p ∷ front ++ r ∷ [])) e ∙ last-of (p ∷ front) r

pub end-last : (before : ℕ) (rs : List LocalRun) (r : LocalRun) → slice_get rs (length rs - 1) ≡ Some r → end_of before rs ≡ r.end
end-last before [] r e = absurd cc
end-last before (q ∷ []) r e = let is : q ≡ r = cc in ap (λ (p : LocalRun). p.end) is
end-last before (q ∷ p ∷ rs) r e =
    let n : length (q ∷ p ∷ rs) - 1 ≡ suc (length (p ∷ rs) - 1) = omega arith in
    end-last q.end (p ∷ rs) r (sym (ap (slice_get (q ∷ p ∷ rs)) n) ∙ e)

pub start-step : (before : ℕ) (rs : List LocalRun) (i : ℕ) (r : LocalRun) → slice_get rs i ≡ Some r → start_of before rs (suc i) ≡ r.end
start-step before [] i r e = absurd cc
start-step before (q ∷ rs) zero r e = let is : q ≡ r = cc in ap (λ (p : LocalRun). p.end) is
start-step before (q ∷ rs) (suc i) r e = start-step q.end rs i r e

start-rises : (before : ℕ) (rs : List LocalRun) (i : ℕ) → IsRising before rs → before ≤ start_of before rs i
start-rises before rs zero h = omega arith
start-rises before [] (suc i) h = omega arith
start-rises before (r ∷ rs) (suc i) h = omega (arith, h.0, start-rises r.end rs i h.1)

pub start-end : (before : ℕ) (rs : List LocalRun) → start_of before rs (length rs) ≡ end_of before rs
start-end before [] = refl
start-end before (r ∷ rs) = start-end r.end rs

drop-within : (m n : ℕ) (t : ValueType) (ys : List ValueType) → m ≤ n → drop m (replicate n t ++ ys) ≡ replicate (n - m) t ++ ys
drop-within zero n t ys le = let e : n ≡ n - 0 = omega arith in ap (λ (k : ℕ). replicate k t ++ ys) e
drop-within (suc m) zero t ys le = absurd (omega (arith, le))
drop-within (suc m) (suc n) t ys le =
    let e : n - m ≡ suc n - suc m = omega arith in
    drop-within m n t ys (omega (arith, le)) ∙ ap (λ (k : ℕ). replicate k t ++ ys) e

drop-past : (n k : ℕ) (t : ValueType) (ys : List ValueType) → drop (n + k) (replicate n t ++ ys) ≡ drop k ys
drop-past zero k t ys = ap (λ (j : ℕ). drop j ys) (omega arith)
drop-past (suc n) k t ys =
    let e : suc n + k ≡ suc (n + k) = omega arith in
    ap (λ (j : ℕ). drop j (replicate (suc n) t ++ ys)) e ∙ drop-past n k t ys

drop-from : (a b c : ℕ) (t : ValueType) (ys : List ValueType) → a ≤ b → b ≤ c → drop (c - a) (replicate (b - a) t ++ ys) ≡ drop (c - b) ys
drop-from a b c t ys ab bc =
    let e : c - a ≡ (b - a) + (c - b) = omega arith in
    ap (λ (j : ℕ). drop j (replicate (b - a) t ++ ys)) e ∙ drop-past (b - a) (c - b) t ys

pub in_run : (before : ℕ) (rs : List LocalRun) (i x : ℕ) (r : LocalRun) → IsRising before rs → slice_get rs i ≡ Some r → start_of before rs i ≤ x → x < r.end
    → drop (x - before) (unrolled before rs) ≡ replicate (r.end - x) r.of ++ drop (r.end - before) (unrolled before rs)
in_run before [] i x r h e le lt = absurd cc
in_run before (q ∷ rs) zero x r h e le lt =
    let is : q ≡ r = cc in
    subst (λ (p : LocalRun). drop (x - before) (replicate (p.end - before) p.of ++ unrolled p.end rs) ≡ replicate (r.end - x) r.of ++ drop (r.end - before) (replicate (p.end - before) p.of ++ unrolled p.end rs)) (sym is)
    (let n : (r.end - before) - (x - before) ≡ r.end - x = omega (arith, le, lt) in
    let z : (r.end - before) - (r.end - before) ≡ 0 = omega arith in
    drop-within (x - before) (r.end - before) r.of (unrolled r.end rs) (omega (arith, le, lt))
    ∙ ap (λ (k : ℕ). replicate k r.of ++ unrolled r.end rs) n
    ∙ ap (λ (l : List ValueType). replicate (r.end - x) r.of ++ l) (sym (drop-within (r.end - before) (r.end - before) r.of (unrolled r.end rs) (omega arith) ∙ ap (λ (k : ℕ). replicate k r.of ++ unrolled r.end rs) z)))
in_run before (q ∷ rs) (suc i) x r h e le lt =
    let low : q.end ≤ x = omega (arith, le, start-rises q.end rs i h.1) in
    let first : before ≤ q.end = omega (arith, h.0) in
    let high : q.end ≤ r.end = omega (arith, low, lt) in
    drop-from before q.end x q.of (unrolled q.end rs) first low
    ∙ in_run q.end rs i x r h.1 e le lt
    ∙ ap (λ (l : List ValueType). replicate (r.end - x) r.of ++ l) (sym (drop-from before q.end r.end q.of (unrolled q.end rs) first high))

first-of-drop : (xs : List ValueType) (x n : ℕ) (t : ValueType) (ys : List ValueType) → 0 < n → drop x xs ≡ replicate n t ++ ys → slice_get xs x ≡ Some t
first-of-drop xs x zero t ys lt e = absurd (omega (arith, lt))
first-of-drop [] zero (suc n) t ys lt e = absurd cc
first-of-drop [] (suc x) (suc n) t ys lt e = absurd cc
first-of-drop (y ∷ xs) zero (suc n) t ys lt e = cc
first-of-drop (y ∷ xs) (suc x) (suc n) t ys lt e = first-of-drop xs x (suc n) t ys lt e

pub there : (rs : List LocalRun) (i x : ℕ) (r : LocalRun) → IsRising 0 rs → IsOver rs i x → slice_get rs i ≡ Some r → slice_get (unrolled 0 rs) x ≡ Some r.of
there rs i x r h o e =
    let lt = o.ends r e in
    let n : x ≡ x - 0 = omega arith in
    first-of-drop (unrolled 0 rs) x (r.end - x) r.of (drop (r.end - 0) (unrolled 0 rs)) (omega (arith, lt))
    (ap (λ (k : ℕ). drop k (unrolled 0 rs)) n ∙ in_run 0 rs i x r h e o.begins lt)

-- a place at which there is none is the one behind all
past : (rs : List LocalRun) (i : ℕ) → i ≤ length rs → slice_get rs i ≡ None → i ≡ length rs
past [] i le e = omega (arith, le)
past (q ∷ rs) zero le e = absurd cc
past (q ∷ rs) (suc i) le e = ap suc (past rs i (omega (arith, le)) e)

pub end-none : (before : ℕ) (rs : List LocalRun) → slice_get rs (length rs - 1) ≡ None → end_of before rs ≡ before
end-none before [] e = refl
end-none before (q ∷ rs) e = absurd (omega (arith, past (q ∷ rs) (length (q ∷ rs) - 1) (omega arith) e))

pub not_there : (rs : List LocalRun) (i x : ℕ) → IsRising 0 rs → i ≤ length rs → IsOver rs i x → slice_get rs i ≡ None → slice_get (unrolled 0 rs) x ≡ None
not_there rs i x h le o e =
    let most = past rs i le e in
    slice_get_past (unrolled 0 rs) x (omega (arith, o.begins, length-unrolled 0 rs h, start-end 0 rs, ap (start_of 0 rs) most))

within : (rs : List LocalRun) (i x : ℕ) → IsRising 0 rs → i ≤ length rs → IsOver rs i x → x < length (unrolled 0 rs)
    → ((r : LocalRun) × (i < length rs) × (slice_get rs i ≡ Some r) × (get_or rs i r ≡ r)) ⊎ ((length rs ≤ i) × (slice_get rs i ≡ None)) → i < length rs
within rs i x h le o lt (inl w) = w.1
within rs i x h le o lt (inr w) = absurd (omega (arith, lt, w.0, le, o.begins, length-unrolled 0 rs h, start-end 0 rs, ap (start_of 0 rs) (past rs i le w.1)))

pub has_run : (rs : List LocalRun) (i x : ℕ) → IsRising 0 rs → i ≤ length rs → IsOver rs i x → x < length (unrolled 0 rs) → i < length rs
has_run rs i x h le o lt = within rs i x h le o lt (slice_get_cases rs i).1
