-- Connections in lists.
use Rattle.std.proofs.Common.{◌≡◌, ◌∙◌, ◌==◌, ◌&&◌, ◌||◌, not, ◌<◌, ◌≤◌, ℕ, Bool, true, false, List, [], ◌∷◌, ◌++◌, length, refl, ap, sym, arith, cond, ⊎_elim, eq-eqb, ne_eqb, eqb-true}
use Rattle.std.specs.List.{filter}
use Rattle.std.proofs.lemmas.Bool.Decides.{eqb_tells}
use Rattle.std.proofs.lemmas.List.Filters.{length-filter_both}
use Rattle.std.proofs.lemmas.Map.Views.{any-filter_same}
use Rattle.std.proofs.lemmas.List.Folds.{list_any-append}
use Rattle.gate_io.specs.declared.event.Side.{Side}
use Rattle.gate_io.specs.declared.event.Side.TheVariants.{Down, Up}
use Rattle.fleet.specs.Closing.{is_in, is_one, is_side}
use Rattle.fleet.specs.declared.watched.Connection.{Connection}

both : (a b : Bool) → (a && b) ≡ true → (a ≡ true) × (b ≡ true)
both true b h = (refl, h)
both false b h = absurd (cc h)

side_of : (s t : Side) → is_side s t ≡ true → s ≡ t
side_of Down Down h = refl
side_of Down Up h = absurd (cc h)
side_of Up Down h = absurd (cc h)
side_of Up Up h = refl

side_self : (s : Side) → is_side s s ≡ true
side_self Down = refl
side_self Up = refl

pub same : (c d : Connection) → is_one c d ≡ true → c ≡ d
same c d h =
    let two = both (c.line == d.line) (is_side c.side d.side) h in
    let line = eqb-true c.line d.line two.0 in
    let side = side_of c.side d.side two.1 in
    λ i. record { line = line i; side = side i }

pub self : (c : Connection) → is_one c c ≡ true
self c = ap (λ b. b && is_side c.side c.side) (eq-eqb c.line c.line refl) ∙ side_self c.side

side_swap : (s t : Side) → is_side s t ≡ is_side t s
side_swap Down Down = refl
side_swap Down Up = refl
side_swap Up Down = refl
side_swap Up Up = refl

line_swap : (a b : ℕ) → (a == b) ≡ (b == a)
line_swap a b = ⊎_elim (λ e. e.0 ∙ sym (eq-eqb b a (sym e.1))) (λ n. n.0 ∙ sym (ne_eqb b a (λ e. n.1 (sym e)))) (eqb_tells a b)

pub swap : (c d : Connection) → is_one c d ≡ is_one d c
swap c d = ap (λ b. b && is_side c.side d.side) (line_swap c.line d.line) ∙ ap (λ b. (d.line == c.line) && b) (side_swap c.side d.side)

-- what is left where one was taken out
pub taken_out : (one : Connection) (list : List Connection) (c : Connection) → is_in c (filter (λ d. not (is_one one d)) list) ≡ (not (is_one c one) && is_in c list)
taken_out one list c =
    any-filter_same (is_one c) (λ d. not (is_one one d)) (not (is_one c one))
    (λ d is. ap (λ (k : Connection). not (is_one one k)) (sym (same c d is)) ∙ ap not (swap one c)) list

fewer_by : (b : Bool) (one d : Connection) (ds : List Connection) → is_one one d ≡ b → length (filter (λ d. not (is_one one d)) ds) ≤ length ds
    → (is_in one ds ≡ true → length (filter (λ d. not (is_one one d)) ds) < length ds) → is_in one (d ∷ ds) ≡ true → length (filter (λ d. not (is_one one d)) (d ∷ ds)) < length (d ∷ ds)
fewer_by true one d ds is most less h =
    let e = ap (λ b. length (cond (not b) (d ∷ filter (λ d. not (is_one one d)) ds) (filter (λ d. not (is_one one d)) ds))) is in omega (arith, e, most)
fewer_by false one d ds is most less h =
    let rest = less (sym (ap (λ b. b || is_in one ds) is) ∙ h) in
    let e = ap (λ b. length (cond (not b) (d ∷ filter (λ d. not (is_one one d)) ds) (filter (λ d. not (is_one one d)) ds))) is in omega (arith, e, rest)

pub at_most : (one : Connection) (list : List Connection) → length (filter (λ d. not (is_one one d)) list) ≤ length list
at_most one list = let e = length-filter_both (λ d. not (is_one one d)) (λ d. not (not (is_one one d))) (λ d. refl) list in omega (arith, e)

pub fewer : (one : Connection) (list : List Connection) → is_in one list ≡ true → length (filter (λ d. not (is_one one d)) list) < length list
fewer one [] h = absurd (cc h)
fewer one (d ∷ ds) h = fewer_by (is_one one d) one d ds refl (at_most one ds) (fewer one ds) h

or_false : (b : Bool) → (b || false) ≡ b
or_false true = refl
or_false false = refl

pub put_behind : (one : Connection) (list : List Connection) (c : Connection) → is_in c (list ++ one ∷ []) ≡ (is_in c list || is_one c one)
put_behind one list c = list_any-append (is_one c) list (one ∷ []) ∙ ap (λ b. is_in c list || b) (or_false (is_one c one))
