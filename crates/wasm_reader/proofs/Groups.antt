-- Reading groups of locals, as a loop does.
use Rattle.std.proofs.Common.{◌≡◌, ℕ, suc, ◌-◌, ◌+◌, ◌≤◌, ◌<◌, List, [], ◌++◌, Ok, Err, refl, sym, ap, ◌∙◌, append_assoc, arith}
use Rattle.std.specs.Prelude.{replicate}
use Rattle.std.proofs.lemmas.List.{append-nil}
use Rattle.wasm_syntax.specs.declared.types.ValueType.{ValueType}
use Rattle.wasm_syntax.specs.Format.{Reading, ok, and_then, Fence}
use Rattle.wasm_syntax.specs.Grammar.{local_group, local_groups}
use Rattle.wasm_reader.specs.declared.ends.ReadEnd.{ReadEnd}
use Rattle.wasm_reader.specs.declared.ends.ReadEnd.TheVariants.{Refused, OutOfMemory}
use Rattle.wasm_reader.specs.Steps.{Gives}
use Rattle.wasm_reader.proofs.Loop.{with_front}

regroup : {A : Type 0} (front xs : List A) (read : Reading (List A)) → with_front front (and_then read (λ ys rest. ok (xs ++ ys) rest)) ≡ with_front (front ++ xs) read
regroup {A = A} front xs (Ok r) = ap (λ (l : List A). ok l r.1) (sym (append_assoc front xs r.0))
regroup front xs (Err e) = refl

one_group : (groups before : ℕ) (k : Fence) (bytes : List ℕ) → (local_groups (suc groups) before).reads k bytes ≡ and_then ((local_group before).reads k bytes) (λ p rest. and_then ((local_groups groups (before + p.0)).reads k rest) (λ ys r. ok (replicate p.0 p.1 ++ ys) r))
unfolding local_groups
one_group groups before k bytes = refl

no_group : (before : ℕ) (k : Fence) (bytes : List ℕ) → (local_groups 0 before).reads k bytes ≡ ok [] bytes
unfolding local_groups
no_group before k bytes = refl

pub group_read : (front : List ValueType) (groups i before n : ℕ) (of : ValueType) (k : Fence) (bytes after : List ℕ) (total : Reading (List ValueType)) → i < groups → (local_group before).reads k bytes ≡ ok (n, of) after
    → with_front front ((local_groups (groups - i) before).reads k bytes) ≡ total → with_front (front ++ replicate n of) ((local_groups (groups - (i + 1)) (before + n)).reads k after) ≡ total
group_read front groups i before n of k bytes after total lt h so_far =
    let c : groups - i ≡ suc (groups - (i + 1)) = omega arith in
    let one = ap (λ g. (local_groups g before).reads k bytes) c ∙ one_group (groups - (i + 1)) before k bytes
    ∙ ap (λ r. and_then r (λ p rest. and_then ((local_groups (groups - (i + 1)) (before + p.0)).reads k rest) (λ ys r. ok (replicate p.0 p.1 ++ ys) r))) h in
    sym (regroup front (replicate n of) ((local_groups (groups - (i + 1)) (before + n)).reads k after)) ∙ sym (ap (with_front front) one) ∙ so_far

pub group_ends : (b : List ℕ) (e : ReadEnd) (front : List ValueType) (groups i before : ℕ) (k : Fence) (bytes : List ℕ) (total : Reading (List ValueType)) → i < groups → Gives {A = ℕ × ValueType} b (Err e) ((local_group before).reads k bytes)
    → with_front front ((local_groups (groups - i) before).reads k bytes) ≡ total → Gives {A = List ValueType} b (Err e) total
group_ends b OutOfMemory front groups i before k bytes total lt h so_far = tt
group_ends b (Refused number place) front groups i before k bytes total lt h so_far =
    let c : groups - i ≡ suc (groups - (i + 1)) = omega arith in
    let one = ap (λ g. (local_groups g before).reads k bytes) c ∙ one_group (groups - (i + 1)) before k bytes
    ∙ ap (λ r. and_then r (λ p rest. and_then ((local_groups (groups - (i + 1)) (before + p.0)).reads k rest) (λ ys r. ok (replicate p.0 p.1 ++ ys) r))) h.1 in
    (h.0, sym so_far ∙ ap (with_front front) one)

pub groups_done : (front : List ValueType) (groups i before : ℕ) (k : Fence) (bytes : List ℕ) (total : Reading (List ValueType)) → groups ≤ i
    → with_front front ((local_groups (groups - i) before).reads k bytes) ≡ total → total ≡ ok front bytes
groups_done front groups i before k bytes total le so_far =
    let c : groups - i ≡ 0 = omega arith in
    sym so_far ∙ ap (λ g. with_front front ((local_groups g before).reads k bytes)) c ∙ ap (with_front front) (no_group before k bytes) ∙ ap (λ (l : List ValueType). ok l bytes) (append-nil front)
