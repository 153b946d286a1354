-- The labels of the blocks that are open, by their number from the innermost.
use Rattle.std.proofs.Common.{◌≡◌, ℕ, zero, suc, ◌-◌, ◌<◌, ◌≤◌, List, [], ◌∷◌, length, reverse, get_or, Option, Some, None, refl, ap, ◌∙◌, arith}
use Rattle.std.specs.Prelude.{slice_get}
use Rattle.std.proofs.lemmas.List.{get_or-reverse, length-reverse}
use Rattle.std.proofs.lemmas.Option.{slice_get-get_or, slice_get_past}
use Rattle.wasm_validator.specs.Checking.{Layer, labels_in}

length-labels : (ls : List Layer) → length (labels_in ls) ≡ length ls
length-labels [] = refl
length-labels (l ∷ ls) = ap (λ (n : ℕ). suc n) (length-labels ls)

labels-get : (ls : List Layer) (k : ℕ) (l : Layer) → slice_get ls k ≡ Some l → slice_get (labels_in ls) k ≡ Some l.label
labels-get [] k l e = absurd (cc)
labels-get (m ∷ ls) zero l e = ap (λ (o : Option Layer). elim o [ None ↦ None | Some x ↦ Some x.label ]) e
labels-get (m ∷ ls) (suc k) l e = labels-get ls k l e

-- the labels of the blocks around
pub label-at : (f : Layer) (outer : List Layer) (n : ℕ) (x : Layer) → 0 < n → n ≤ length outer → get_or outer (length outer - n) x ≡ x → slice_get (labels_in (f ∷ reverse outer)) n ≡ Some x.label
label-at f outer zero x some le read = absurd (omega arith)
label-at f outer (suc k) x some le read =
    let within : k < length (reverse outer) = omega (arith, length-reverse outer) in
    let place : length outer - 1 - k ≡ length outer - suc k = omega arith in
    labels-get (reverse outer) k x (slice_get-get_or (reverse outer) k x within ∙ ap Some (get_or-reverse outer k x (omega arith) ∙ ap (λ (i : ℕ). get_or outer i x) place ∙ read))

pub label-past : (f : Layer) (outer : List Layer) (n : ℕ) → length outer < n → slice_get (labels_in (f ∷ reverse outer)) n ≡ None
label-past f outer n lt = slice_get_past (labels_in (f ∷ reverse outer)) n (omega (arith, length-labels (f ∷ reverse outer), length-reverse outer))
