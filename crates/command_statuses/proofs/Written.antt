-- What pieces that are written one after the other make of a whole line.
use Rattle.std.proofs.Common.{◌≡◌, ℕ, List, ◌++◌, Option, Result, Ok, Err, OnOk, OnErr, append_assoc, ap, subst, ◌∙◌}
use Rattle.gate_io.specs.Told.{Gains, GainsFront, gains_more, gains_then_front, gains_front_of_more}

-- what holds anyway holds of an error
pub on_err : {T E : Type 0} (r : Result T E) (P : Type 0) → P → OnErr r P
on_err (Ok x) P p = tt
on_err (Err e) P p = p

-- what one fact gives
pub ok_map : {T E : Type 0} (r : Result T E) (P Q : Type 0) → (P → Q) → OnOk r P → OnOk r Q
ok_map (Ok x) P Q f p = f p
ok_map (Err e) P Q f p = tt

pub err_map : {T E : Type 0} (r : Result T E) (P Q : Type 0) → (P → Q) → OnErr r P → OnErr r Q
err_map (Ok x) P Q f p = tt
err_map (Err e) P Q f p = f p

-- three pieces, of which the second is written otherwise, and then the rest
whole_is : (a b c d rest : List ℕ) → b ≡ d → (a ++ (b ++ c)) ++ rest ≡ a ++ (d ++ (c ++ rest))
whole_is a b c d rest e = append_assoc a (b ++ c) rest ∙ ap (λ (l : List ℕ). a ++ l) (append_assoc b c rest ∙ ap (λ (l : List ℕ). l ++ (c ++ rest)) e)

pub all_written : (a b c d rest : List ℕ) (old mid new : Option (List ℕ)) → b ≡ d → Gains old (a ++ (b ++ c)) mid → Gains mid rest new → Gains old (a ++ (d ++ (c ++ rest))) new
all_written a b c d rest old mid new e first second =
    subst (λ (l : List ℕ). Gains old l new) (whole_is a b c d rest e) (gains_more old (a ++ (b ++ c)) mid rest new first second)

pub front_written : (a b c d rest : List ℕ) (old new : Option (List ℕ)) → b ≡ d → GainsFront old (a ++ (b ++ c)) new → GainsFront old (a ++ (d ++ (c ++ rest))) new
front_written a b c d rest old new e first =
    subst (λ (l : List ℕ). GainsFront old l new) (whole_is a b c d rest e) (gains_front_of_more old (a ++ (b ++ c)) rest new first)

pub more_written : (a b c d rest : List ℕ) (old mid new : Option (List ℕ)) → b ≡ d → Gains old (a ++ (b ++ c)) mid → GainsFront mid rest new → GainsFront old (a ++ (d ++ (c ++ rest))) new
more_written a b c d rest old mid new e first second =
    subst (λ (l : List ℕ). GainsFront old l new) (whole_is a b c d rest e) (gains_then_front old (a ++ (b ++ c)) mid rest new first second)
