-- Answers of parts, as answers of the whole.
use Rattle.std.proofs.Common.{Result, Ok, Err, OnErr}

-- what holds anyway holds of an error
pub on_err : {T E : Type 0} (r : Result T E) (P : Type 0) → P → OnErr r P
on_err (Ok x) P p = tt
on_err (Err e) P p = p

-- what one fact of an error gives
pub err_map : {T E : Type 0} (r : Result T E) (P Q : Type 0) → (P → Q) → OnErr r P → OnErr r Q
err_map (Ok x) P Q f p = tt
err_map (Err e) P Q f p = f p
