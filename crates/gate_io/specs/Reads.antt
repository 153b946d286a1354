-- The lists that are read off what passed go on as it goes on.
use Rattle.std.specs.Prelude.{◌≡◌, ℕ, ◌+◌, Bool, true, false, List, [], ◌∷◌, ◌++◌, length, take, Option, Some, option_map, Result, Ok, Err, if◌then◌else◌, nat_lt, refl}
use Rattle.std.proofs.Common.{ap, sym, ◌∙◌, add-zero, arith}
use Rattle.std.proofs.lemmas.List.{append-nil}
use Rattle.gate_io.specs.declared.event.Event.{Event}
use Rattle.gate_io.specs.declared.event.Sent.{Sent}
use Rattle.gate_io.specs.declared.event.Side.{Side}
use Rattle.gate_io.specs.declared.passed.Passed.{Passed}
use Rattle.gate_io.specs.declared.passed.Passed.TheVariants.{Asked, Gave, Took, Short}
use Rattle.gate_io.specs.declared.passed.Wants.{Wants}
use Rattle.gate_io.specs.Passing.{piece, front, sending, taking, happened, received, asked, Shortfall, short_from, short}
use Rattle.gate_io.specs.Told.{Gains, gains_read}

pub happened-append : (a b : List Passed) → happened (a ++ b) ≡ happened a ++ happened b
happened-append [] b = refl
happened-append (Asked wants ∷ a) b = happened-append a b
happened-append (Gave event ∷ a) b = ap (λ (l : List Event). event ∷ l) (happened-append a b)
happened-append (Took sent ∷ a) b = happened-append a b
happened-append (Short line side ∷ a) b = happened-append a b

pub received-append : (a b : List Passed) → received (a ++ b) ≡ received a ++ received b
received-append [] b = refl
received-append (Asked wants ∷ a) b = received-append a b
received-append (Gave event ∷ a) b = received-append a b
received-append (Took sent ∷ a) b = ap (λ (l : List Sent). sent ∷ l) (received-append a b)
received-append (Short line side ∷ a) b = received-append a b

pub asked-append : (a b : List Passed) → asked (a ++ b) ≡ asked a ++ asked b
asked-append [] b = refl
asked-append (Asked wants ∷ a) b = ap (λ (l : List Wants). wants ∷ l) (asked-append a b)
asked-append (Gave event ∷ a) b = asked-append a b
asked-append (Took sent ∷ a) b = asked-append a b
asked-append (Short line side ∷ a) b = asked-append a b

-- the shortfalls behind some events count from them on
pub short_from-append : (n : ℕ) (a b : List Passed) → short_from n (a ++ b) ≡ short_from n a ++ short_from (n + length (happened a)) b
short_from-append n [] b = ap (λ (m : ℕ). short_from m b) (sym (add-zero n))
short_from-append n (Asked wants ∷ a) b = short_from-append n a b
short_from-append n (Gave event ∷ a) b = short_from-append (n + 1) a b ∙ ap (λ (m : ℕ). short_from (n + 1) a ++ short_from m b) (omega arith)
short_from-append n (Took sent ∷ a) b = short_from-append n a b
short_from-append n (Short line side ∷ a) b = ap (λ (l : List Shortfall). record { line = line; side = side; given = n } ∷ l) (short_from-append n a b)

pub happened_gains : (old : Option (List Passed)) (more : List Passed) (new : Option (List Passed)) → Gains old more new
    → Gains (option_map happened old) (happened more) (option_map happened new)
happened_gains old more new a = gains_read happened happened-append old more new a

pub received_gains : (old : Option (List Passed)) (more : List Passed) (new : Option (List Passed)) → Gains old more new
    → Gains (option_map received old) (received more) (option_map received new)
received_gains old more new a = gains_read received received-append old more new a

pub asked_gains : (old : Option (List Passed)) (more : List Passed) (new : Option (List Passed)) → Gains old more new
    → Gains (option_map asked old) (asked more) (option_map asked new)
asked_gains old more new a = gains_read asked asked-append old more new a

pub short_gains : (old more new : List Passed) → Gains (Some old) more (Some new) → short new ≡ short old ++ short_from (length (happened old)) more
short_gains old more new a = ap short (let e : new ≡ old ++ more = cc in e) ∙ short_from-append 0 old more ∙ ap (λ (n : ℕ). short old ++ short_from n more) (omega arith)

happened-note : (line : ℕ) (side : Side) (b : Bool) → happened (if b then Short line side ∷ [] else []) ≡ []
happened-note line side true = refl
happened-note line side false = refl

happened-piece : (line : ℕ) (side : Side) (bytes : List ℕ) → happened (piece line side bytes) ≡ []
happened-piece line side [] = refl
happened-piece line side (b ∷ bytes) = refl

received-note : (line : ℕ) (side : Side) (b : Bool) → received (if b then Short line side ∷ [] else []) ≡ []
received-note line side true = refl
received-note line side false = refl

-- what is taken of a piece is no event
pub happened-front : (line : ℕ) (side : Side) (bytes : List ℕ) (n : ℕ) → happened (front line side bytes n) ≡ []
happened-front line side bytes n =
    happened-append (piece line side (take n bytes)) (if nat_lt n (length bytes) then Short line side ∷ [] else [])
    ∙ ap (λ (l : List Event). l ++ happened (if nat_lt n (length bytes) then Short line side ∷ [] else [])) (happened-piece line side (take n bytes))
    ∙ happened-note line side (nat_lt n (length bytes))

pub happened-sending : {E : Type 0} (line : ℕ) (side : Side) (bytes : List ℕ) (r : Result ℕ E) → happened (sending line side bytes r) ≡ []
happened-sending line side bytes (Ok n) = happened-front line side bytes n
happened-sending line side bytes (Err e) = refl

pub happened-taking : {T E : Type 0} (sent : Sent) (r : Result T E) → happened (taking sent r) ≡ []
happened-taking sent (Ok x) = refl
happened-taking sent (Err e) = refl

-- what is received of a piece are the bytes that were taken
pub received-front : (line : ℕ) (side : Side) (bytes : List ℕ) (n : ℕ) → received (front line side bytes n) ≡ received (piece line side (take n bytes))
received-front line side bytes n =
    received-append (piece line side (take n bytes)) (if nat_lt n (length bytes) then Short line side ∷ [] else [])
    ∙ ap (λ (l : List Sent). received (piece line side (take n bytes)) ++ l) (received-note line side (nat_lt n (length bytes)))
    ∙ append-nil (received (piece line side (take n bytes)))
