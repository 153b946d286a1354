-- Answers of parts, as answers of the whole.
use Rattle.std.proofs.Common.{◌≡◌, Result, Ok, Err, OnErr, OnOk}

-- what holds anyway holds of an error
pub on_err : {T E : Type 0} (r : Result T E) (P : Type 0) → P → OnErr r P
on_err (Ok x) P p = tt
on_err (Err e) P p = p

-- what holds of an error holds where there is one
pub of_err : {T E : Type 0} (r : Result T E) (e : E) (P : Type 0) → r ≡ Err e → OnErr r P → P
of_err (Ok x) e P is p = absurd (cc)
of_err (Err d) e P is p = p

-- what holds anyway holds of an answer
pub on_ok : {T E : Type 0} (r : Result T E) (P : Type 0) → P → OnOk r P
on_ok (Ok x) P p = p
on_ok (Err e) P p = tt

-- what one fact of an answer gives, and what two give
pub ok_map : {T E : Type 0} (r : Result T E) (P Q : Type 0) → (P → Q) → OnOk r P → OnOk r Q
ok_map (Ok x) P Q f p = f p
ok_map (Err e) P Q f p = tt

pub ok_two : {T E : Type 0} (r : Result T E) (P Q R : Type 0) → (P → Q → R) → OnOk r P → OnOk r Q → OnOk r R
ok_two (Ok x) P Q R f p q = f p q
ok_two (Err e) P Q R f p q = tt
