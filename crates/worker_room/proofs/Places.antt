-- Places in the lists of contexts.
use Rattle.std.proofs.Common.{◌≡◌, ◌<◌, get_or, zero, ℕ, ◌==◌, suc, List, [], ◌∷◌, length, map, Bool, true, false, refl, ap, ◌∙◌, arith, Some}
use Rattle.std.specs.Prelude.{◌||◌, cond, IsSome, option_map, Result, Ok, Err, OnOk, is_ok}
use Rattle.contexts.specs.declared.parts.Context.{Context}
use Rattle.contexts.specs.Keyed.{first_of_number}
use Rattle.contexts.specs.Reached.{tick_in, contains, context_no}

or_true : (b : Bool) → (b || true) ≡ true
or_true true = refl
or_true false = refl

-- an id that stands at a place is among them
pub contains_at : (ids : List ℕ) (at id d : ℕ) → at < length ids → (get_or ids at d == id) ≡ true → contains id ids ≡ true
contains_at [] at id d low is = absurd (omega arith)
contains_at (x ∷ xs) zero id d low is = ap (λ (b : Bool). b || contains id xs) is
contains_at (x ∷ xs) (suc at) id d low is = ap (λ (b : Bool). (x == id) || b) (contains_at xs at id d (omega arith) is) ∙ or_true (x == id)

-- a root that has a tick is there
pub tick_known : (root : ℕ) (cs : List Context) → IsSome (tick_in cs root) → contains root (map context_no cs) ≡ true
tick_known root [] is = absurd (cc)
tick_known root (c ∷ cs) is = by (tick_known root cs) (c.id == root) is
  where
    by : (IsSome (tick_in cs root) → contains root (map context_no cs) ≡ true) → (b : Bool) → IsSome (option_map (λ (x : Context). x.tick) (cond b (Some c) (first_of_number context_no root cs)))
        → (b || contains root (map context_no cs)) ≡ true
    by later true is = refl
    by later false is = later is

pub ok_of : {A E P : Type 0} (r : Result A E) → is_ok r ≡ true → OnOk r P → P
ok_of (Ok a) is p = p
ok_of (Err e) is p = absurd (cc)
