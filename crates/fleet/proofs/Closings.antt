-- Worked closes.
use Rattle.std.proofs.Common.{◌≡◌, ◌==◌, ◌+◌, ◌&&◌, ◌||◌, not, Bool, true, false, List, [], ◌∷◌, ◌++◌, Some, refl, sym, subst, arith, eqb-true}
use Rattle.std.proofs.lemmas.List.{append_cancel_left}
use Rattle.gate_io.specs.declared.event.Side.{Side}
use Rattle.gate_io.specs.declared.event.Side.TheVariants.{Down, Up}
use Rattle.gate_io.specs.declared.passed.Passed.{Passed}
use Rattle.gate_io.specs.Told.{Gains}
use Rattle.fleet.specs.Closing.{Closes, ClosesAll, ClosingExamples, AllClosed, SomeClosed, AreCloses, AreRising, close_result, connection, is_side, one_if}
use Rattle.fleet.specs.declared.watched.Connection.{Connection}

-- the steps after a trace that is told are those that it gained
steps_are : (trace steps more : List Passed) → Gains (Some trace) steps (Some (trace ++ more)) → steps ≡ more
steps_are trace steps more h = append_cancel_left trace steps more (same (trace ++ steps) (trace ++ more) (sym h))
  where
    same : (a b : List Passed) → Some a ≡ Some b → a ≡ b
    same a b e = cc

some_of : (trace more : List Passed) → Closes (Some trace) (Some (trace ++ more)) → SomeClosed trace more
some_of trace more h = subst (SomeClosed trace) (steps_are trace h.steps more h.told) h.some

all_of : (trace more : List Passed) → ClosesAll (Some trace) (Some (trace ++ more)) → AllClosed trace more
all_of trace more h = subst (AllClosed trace) (steps_are trace h.steps more h.told) h.all

rising_of : (trace more : List Passed) → ClosesAll (Some trace) (Some (trace ++ more)) → AreRising 0 more
rising_of trace more h = subst (AreRising 0) (steps_are trace h.steps more h.told) h.rising

rising_cut : (trace more : List Passed) → Closes (Some trace) (Some (trace ++ more)) → AreRising 0 more
rising_cut trace more h = subst (AreRising 0) (steps_are trace h.steps more h.told) h.rising

closes_alone : (trace more : List Passed) → Closes (Some trace) (Some (trace ++ more)) → AreCloses more
closes_alone trace more h = subst AreCloses (steps_are trace h.steps more h.told) h.closes

-- what holds of each connection of line 3, of line 4 and of another holds of all
by_line : (P : Bool → Bool → Side → Type 0) → P true false Down → P true false Up → P false true Down → P false true Up → P false false Down → P false false Up
    → (c : Connection) → P (c.line == 3) (c.line == 4) c.side
by_line P a b d e f g c = go (c.line == 3) (c.line == 4) c.side (λ three four. (let x = eqb-true c.line 3 three in let y = eqb-true c.line 4 four in absurd (omega (arith, x, y))))
  where
    go : (p q : Bool) (s : Side) → (p ≡ true → q ≡ true → ⊥) → P p q s
    go true true s h = absurd (h refl refl)
    go true false Down h = a
    go true false Up h = b
    go false true Down h = d
    go false true Up h = e
    go false false Down h = f
    go false false Up h = g

-- whether the connection of this side stands, by whether its line is 3, or 4
abbrev stood : Bool → Bool → Side → Bool
stood p q s = not (q && is_side s Down) && ((((false || (p && is_side s Down)) || (p && is_side s Up)) || (q && is_side s Down)) || (q && is_side s Up))

abbrev close_if : Bool → Side → Side → Bool → Bool
close_if it t s now = not (it && is_side s t) && now

pub examples : ClosingExamples
examples = record {
  each_once = record {
    steps = close_result 3 Up ∷ close_result 3 Down ∷ close_result 4 Up ∷ [];
    closes = (tt, (tt, (tt, tt)));
    all = by_line (λ p q s. one_if (p && is_side s Up) + (one_if (p && is_side s Down) + (one_if (q && is_side s Up) + 0)) ≡ one_if (stood p q s)) refl refl refl refl refl refl;
    rising = (omega arith, (omega arith, (omega arith, tt)));
    told = refl;
    none_stands = by_line (λ p q s. close_if q Up s (close_if p Down s (close_if p Up s (stood p q s))) ≡ false) refl refl refl refl refl refl;
  };
  not_falling = λ h. absurd (let low = (rising_of _ _ h).1.0 in omega (arith, low));
  not_client_first = λ h. absurd (let low = (rising_of _ _ h).1.0 in omega (arith, low));
  other_order = λ h. absurd (let low = (rising_of _ _ h).1.0 in omega (arith, low));
  not_falling_cut = λ h. absurd (let low = (rising_cut _ _ h).1.0 in omega (arith, low));
  not_client_first_cut = λ h. absurd (let low = (rising_cut _ _ h).1.0 in omega (arith, low));
  not_fewer = λ h. absurd (let e = all_of _ _ h (connection 4 Up) in omega (arith, e));
  fewer_cut = record {
    steps = close_result 3 Up ∷ close_result 3 Down ∷ [];
    closes = (tt, (tt, tt));
    some = by_line (λ p q s. (one_if (p && is_side s Up) + (one_if (p && is_side s Down) + 0)) + one_if (close_if p Down s (close_if p Up s (stood p q s))) ≡ one_if (stood p q s)) refl refl refl refl refl refl;
    rising = (omega arith, (omega arith, tt));
    told = refl;
  };
  not_twice = λ h. absurd (let e = some_of _ _ h (connection 3 Up) in omega (arith, e));
  not_gone = λ h. absurd (let e = some_of _ _ h (connection 4 Down) in omega (arith, e));
  not_never = λ h. absurd (let e = some_of _ _ h (connection 5 Up) in omega (arith, e));
  not_connected = λ h. (closes_alone _ _ h).0;
}
