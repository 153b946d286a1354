-- What is left behind a place, in two steps.
use Rattle.std.proofs.Common.{◌≡◌, ℕ, ◌-◌, ◌+◌, ◌≤◌, List, length, drop, ap, ◌∙◌, arith}
use Rattle.std.proofs.lemmas.List.{length-drop, drop-drop}

pub drop_to : {A : Type 0} (b : List A) (place end : ℕ) → place ≤ end → end ≤ length b → drop (length (drop place b) - (length b - end)) (drop place b) ≡ drop end b
drop_to b place end le in_b =
    let n : place + (length (drop place b) - (length b - end)) ≡ end = omega (arith, length-drop place b) in
    drop-drop (length (drop place b) - (length b - end)) place b ∙ ap (λ i. drop i b) n
