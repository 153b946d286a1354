-- Lemmas on runs of data.
use Rattle.std.proofs.Common.{◌≡◌, ℕ, zero, suc, ◌+◌, ◌-◌, ◌<◌, ◌≤◌, cond, eqb, List, [], ◌∷◌, ◌++◌, length, take, drop, get_or, slice_range, refl, sym, ap, ◌∙◌, arith}
use Rattle.std.proofs.lemmas.Bool.{cond-true, cond-false, ne_eqb, lt-ltb}
use Rattle.std.proofs.lemmas.List.{append_assoc, append-nil, drop-drop, drop_more, length-append, length-drop, length-take-le}
use Rattle.std.specs.Prelude.{nat_lt}
use Rattle.h1_chunks.specs.declared.place.Sought as code
use Rattle.h1_chunks.specs.declared.place.Sought.TheVariants as soughts
use Rattle.h1_chunks.specs.Seen.{seen_sought}
use Rattle.h1_model.specs.Chunks.{Place, inside, Sought, data_at, section_at, waiting, malformed, sought, behind_data, Run, no_run, with_byte, if_data, run_of}

-- a run with bytes in front of it, which take so many
abbrev pub prefixed : List ℕ → ℕ → Run → Run
prefixed bytes used run = record { bytes = bytes ++ run.bytes; used = used + run.used; place = run.place }

-- the run after the next byte of data, or none
abbrev run_behind : ℕ → Place → List ℕ → Sought → Run
run_behind room place text s =
    if_data s (no_run place) (λ at left. with_byte (get_or text at 0) (at + 1) (run_of room (inside (left - 1)) (drop (at + 1) text)))

run_step : (room : ℕ) (p : Place) (text : List ℕ) (at left : ℕ) → sought p text ≡ data_at at left
    → run_of (suc room) p text ≡ with_byte (get_or text at 0) (at + 1) (run_of room (inside (left - 1)) (drop (at + 1) text))
unfolding run_of
run_step room p text at left is = ap (run_behind room p text) is

-- inside a chunk's data the next byte is the next byte of the text
sought_inside : (left : ℕ) (text : List ℕ) → 0 < left → 0 < length text → sought (inside left) text ≡ data_at 0 left
sought_inside left text some here =
    cond-false (eqb left 0) (behind_data text) (cond (nat_lt 0 (length text)) (data_at 0 left) waiting) (ne_eqb left 0 (λ e. omega arith))
    ∙ cond-true (nat_lt 0 (length text)) (data_at 0 left) waiting (lt-ltb 0 (length text) here)

-- the data at a place, byte by byte
same_run : (xs ys : List ℕ) (u v n m l k : ℕ) (s t : List ℕ) → xs ≡ ys → u ≡ v → n ≡ m → l ≡ k → s ≡ t
    → prefixed xs u (run_of n (inside l) s) ≡ prefixed ys v (run_of m (inside k) t)
same_run xs ys u v n m l k s t xe ue ne le se =
    ap (λ (z : List ℕ). prefixed z u (run_of n (inside l) s)) xe
    ∙ ap (λ z. prefixed ys z (run_of n (inside l) s)) ue
    ∙ ap (λ z. prefixed ys v (run_of z (inside l) s)) ne
    ∙ ap (λ z. prefixed ys v (run_of m (inside z) s)) le
    ∙ ap (λ (z : List ℕ). prefixed ys v (run_of m (inside k) z)) se

with_prefixed : (b u v : ℕ) (xs : List ℕ) (r : Run) → with_byte b u (prefixed xs v r) ≡ prefixed (b ∷ xs) (u + v) r
with_prefixed b u v xs r =
    let sum : u + (v + r.used) ≡ u + v + r.used = omega arith in
    ap (λ n. record { bytes = b ∷ (xs ++ r.bytes); used = n; place = r.place }) sum

pub run_many : (k n : ℕ) (p : Place) (text : List ℕ) (at left : ℕ) → sought p text ≡ data_at at left → 0 < k → k ≤ n → k ≤ left
    → at + k ≤ length text
    → run_of n p text ≡ prefixed (take k (drop at text)) (at + k) (run_of (n - k) (inside (left - k)) (drop (at + k) text))
run_many zero n p text at left is some room fits there = absurd (omega arith)
run_many k zero p text at left is some room fits there = absurd (omega arith)
run_many (suc zero) (suc n) p text at left is some room fits there =
    let b = get_or text at 0 in
    let here : drop at text ≡ b ∷ drop (at + 1) text = drop_more text at 0 (omega arith) in
    run_step n p text at left is
    ∙ same_run (b ∷ []) (take 1 (drop at text)) (at + 1) (at + 1) n (suc n - 1) (left - 1) (left - 1) (drop (at + 1) text) (drop (at + 1) text)
    (sym (ap (take 1) here)) refl (omega arith) refl refl
run_many (suc (suc j)) (suc n) p text at left is some room fits there =
    let b = get_or text at 0 in
    let rest = drop (at + 1) text in
    let here : drop at text ≡ b ∷ rest = drop_more text at 0 (omega arith) in
    let len : length rest ≡ length text - (at + 1) = length-drop (at + 1) text in
    let later = run_many (suc j) n (inside (left - 1)) rest 0 (left - 1)
    (sought_inside (left - 1) rest (omega arith) (omega arith)) (omega arith) (omega arith) (omega arith) (omega arith) in
    run_step n p text at left is
    ∙ ap (with_byte b (at + 1)) later
    ∙ with_prefixed b (at + 1) (0 + suc j) (take (suc j) rest) (run_of (n - suc j) (inside (left - 1 - suc j)) (drop (0 + suc j) rest))
    ∙ same_run (b ∷ take (suc j) rest) (take (suc (suc j)) (drop at text)) (at + 1 + (0 + suc j)) (at + suc (suc j))
    (n - suc j) (suc n - suc (suc j)) (left - 1 - suc j) (left - suc (suc j)) (drop (0 + suc j) rest) (drop (at + suc (suc j)) text)
    (sym (ap (take (suc (suc j))) here)) (omega arith) (omega arith) (omega arith)
    (drop-drop (0 + suc j) (at + 1) text ∙ ap (λ m. drop m text) (omega arith))

-- the next is no byte of data
abbrev pub IsNoData : Sought → Type 0
IsNoData s = (at left : ℕ) → s ≡ data_at at left → ⊥

pub run_none : (n : ℕ) (p : Place) (text : List ℕ) → IsNoData (sought p text) → run_of n p text ≡ no_run p
unfolding run_of
run_none zero p text none = refl
run_none (suc n) p text none = cases (sought p text) none
  where
    cases : (s : Sought) → IsNoData s → run_behind n p text s ≡ no_run p
    cases (data_at at left) other = absurd (other at left refl)
    cases (section_at at) other = refl
    cases waiting other = refl
    cases malformed other = refl

pub prefixed-none : (bytes : List ℕ) (used : ℕ) (p : Place) → prefixed bytes used (no_run p) ≡ record { bytes = bytes; used = used; place = p }
prefixed-none bytes used p =
    let sum : used + 0 ≡ used = omega arith in
    ap (λ (b : List ℕ). record { bytes = b; used = used + 0; place = p }) (append-nil bytes)
    ∙ ap (λ n. record { bytes = bytes; used = n; place = p }) sum

-- one step of the loop: more bytes of the same run
pub prefixed-prefixed : (xs ys : List ℕ) (u v : ℕ) (r : Run) → prefixed xs u (prefixed ys v r) ≡ prefixed (xs ++ ys) (u + v) r
prefixed-prefixed xs ys u v r =
    let sum : u + (v + r.used) ≡ u + v + r.used = omega arith in
    ap (λ (b : List ℕ). record { bytes = b; used = u + (v + r.used); place = r.place }) (sym (append_assoc xs ys r.bytes))
    ∙ ap (λ n. record { bytes = (xs ++ ys) ++ r.bytes; used = n; place = r.place }) sum

pub run_of-zero : (p : Place) (text : List ℕ) → run_of 0 p text ≡ no_run p
unfolding run_of
run_of-zero p text = refl

-- ---- a loop that gathers a run

-- the bytes so far, and the run of what is left, are the run of the whole
abbrev pub Gathers : List ℕ → ℕ → Place → Place → List ℕ → Type 0
Gathers bytes used place whole text =
    prefixed bytes used (run_of (16384 - length bytes) place (drop used text)) ≡ run_of 16384 whole text

pub gathers_none : (bytes : List ℕ) (p : Place) (text : List ℕ) → bytes ≡ [] → Gathers bytes 0 p p text
gathers_none bytes p text none =
    let r = run_of 16384 p text in
    let sum : 0 + r.used ≡ r.used = omega arith in
    ap (λ (b : List ℕ). prefixed b 0 (run_of (16384 - length b) p text)) none
    ∙ ap (λ n. record { bytes = r.bytes; used = n; place = r.place }) sum

pub more_length : (bytes more rest : List ℕ) (at k : ℕ) → more ≡ bytes ++ slice_range rest at (at + k) → at + k ≤ length rest
    → length more ≡ length bytes + k
more_length bytes more rest at k are there =
    let cut : at + k - at ≡ k = omega arith in
    let piece = take k (drop at rest) in
    let long : length piece ≡ k = length-take-le k (drop at rest) (omega (arith, length-drop at rest)) in
    ap length (are ∙ ap (λ m. bytes ++ take m (drop at rest)) cut) ∙ length-append bytes piece ∙ ap (λ m. length bytes + m) long

pub gathers_more : (bytes more : List ℕ) (used at left k : ℕ) (p whole : Place) (text rest : List ℕ) → rest ≡ drop used text
    → sought p rest ≡ data_at at left → 0 < k → k ≤ 16384 - length bytes → k ≤ left → at + k ≤ length rest
    → more ≡ bytes ++ slice_range rest at (at + k) → Gathers bytes used p whole text
    → Gathers more (used + (at + k)) (inside (left - k)) whole text
gathers_more bytes more used at left k p whole text rest here is some room fits there are so_far =
    let n = 16384 - length bytes in
    let piece = take k (drop at rest) in
    let cut : at + k - at ≡ k = omega arith in
    let all : more ≡ bytes ++ piece = are ∙ ap (λ m. bytes ++ take m (drop at rest)) cut in
    let len : length more ≡ length bytes + k = more_length bytes more rest at k are there in
    let here_on : drop (at + k) rest ≡ drop (used + (at + k)) text =
    ap (drop (at + k)) here ∙ drop-drop (at + k) used text in
    let step = run_many k n p rest at left is some room fits there in
    same_run more (bytes ++ piece) (used + (at + k)) (used + (at + k)) (16384 - length more) (n - k) (left - k) (left - k)
    (drop (used + (at + k)) text) (drop (at + k) rest) all refl (omega (arith, len)) refl (sym here_on)
    ∙ sym (prefixed-prefixed bytes piece used (at + k) (run_of (n - k) (inside (left - k)) (drop (at + k) rest)))
    ∙ ap (prefixed bytes used) (sym step ∙ ap (run_of n p) here) ∙ so_far

pub gathers_full : (bytes : List ℕ) (used : ℕ) (p whole : Place) (text : List ℕ) → 16384 ≤ length bytes → Gathers bytes used p whole text
    → record { bytes = bytes; used = used; place = p } ≡ run_of 16384 whole text
gathers_full bytes used p whole text full so_far =
    let none : 16384 - length bytes ≡ 0 = omega arith in
    sym (ap (prefixed bytes used) (ap (λ n. run_of n p (drop used text)) none ∙ run_of-zero p (drop used text)) ∙ prefixed-none bytes used p)
    ∙ so_far

pub gathers_all : (bytes : List ℕ) (used : ℕ) (p whole : Place) (text rest : List ℕ) → rest ≡ drop used text → IsNoData (sought p rest)
    → Gathers bytes used p whole text → record { bytes = bytes; used = used; place = p } ≡ run_of 16384 whole text
gathers_all bytes used p whole text rest here none so_far =
    let n = 16384 - length bytes in
    sym (ap (prefixed bytes used) (ap (run_of n p) (sym here) ∙ run_none n p rest none) ∙ prefixed-none bytes used p)
    ∙ so_far

-- the code's answer is none of data
pub not_data : (found : code.Sought) (s : Sought) → ((at left : ℕ) → found ≡ soughts.Data at left → ⊥) → seen_sought found ≡ s → IsNoData s
not_data (soughts.Data at left) s other seen = λ a l is. other at left refl
not_data (soughts.Section at) s other seen = λ a l is. no_section at a l (seen ∙ is)
  where
    no_section : (x a l : ℕ) → section_at x ≡ data_at a l → ⊥
    no_section x a l e = cc
not_data soughts.Waiting s other seen = λ a l is. no_waiting a l (seen ∙ is)
  where
    no_waiting : (a l : ℕ) → waiting ≡ data_at a l → ⊥
    no_waiting a l e = cc
not_data soughts.Malformed s other seen = λ a l is. no_fault a l (seen ∙ is)
  where
    no_fault : (a l : ℕ) → malformed ≡ data_at a l → ⊥
    no_fault a l e = cc
