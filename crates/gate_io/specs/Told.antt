-- What an object of the outside tells of its content: `Some` of it, or `None` where it does not tell.
use Rattle.std.specs.Prelude.{◌≡◌, ℕ, ◌-◌, ◌^◌, ◌<◌, List, [], ◌++◌, Option, None, Some, option_map, Result, Ok, Err, refl}
use Rattle.std.proofs.Common.{append_assoc, ap, sym, ◌∙◌}
use Rattle.std.proofs.lemmas.List.{append-nil}

-- what is told gains these at its end
abbrev pub Gains : {A : Type 0} → Option (List A) → List A → Option (List A) → Type 0
Gains None more new = new ≡ None
Gains (Some old) more new = new ≡ Some (old ++ more)

-- what is told gains a front of these at its end, of which the rest did not come
pub record GainsFront {A : Type 0} (old : Option (List A)) (whole : List A) (new : Option (List A)) : Type 0 where
  pub front : List A
  pub rest : List A
  pub whole_is : whole ≡ front ++ rest
  pub gained : Gains old front new

-- what is told begins with these and loses them
pub record Fronts {A : Type 0} (old front : List A) (new : Option (List A)) : Type 0 where
  pub rest : List A
  pub old_is : old ≡ front ++ rest
  pub new_is : new ≡ Some rest

abbrev pub Loses : {A : Type 0} → Option (List A) → List A → Option (List A) → Type 0
Loses None front new = new ≡ None
Loses (Some old) front new = Fronts old front new

-- nothing is left, where it is told
abbrev pub IsAtEnd : {A : Type 0} → Option (List A) → Type 0
IsAtEnd None = Unit {0}
IsAtEnd (Some left) = left ≡ []

-- A count of faults rose in a call. One that stands at the end of its type counts as risen.
abbrev pub Rose : ℕ → ℕ → Type 0
Rose old new = new < 2 ^ 64 - 1 → old < new

-- how many a call moved: none where it failed
abbrev pub moved : {E : Type 0} → Result ℕ E → ℕ
moved (Ok n) = n
moved (Err e) = 0

-- nothing gained
pub gains_nothing : {A : Type 0} (told : Option (List A)) → Gains told [] told
gains_nothing None = refl
gains_nothing (Some old) = ap Some (sym (append-nil old))

-- two gains, one after the other, are one
pub gains_more : {A : Type 0} (old : Option (List A)) (first : List A) (mid : Option (List A)) (second : List A) (new : Option (List A))
    → Gains old first mid → Gains mid second new → Gains old (first ++ second) new
gains_more None first None second new a b = b
gains_more None first (Some m) second new a b = cc
gains_more (Some old) first None second new a b = cc
gains_more (Some old) first (Some m) second new a b =
    b ∙ ap (λ (xs : List _). Some (xs ++ second)) (let e : m ≡ old ++ first = cc in e) ∙ ap Some (append_assoc old first second)

-- what gained nothing is as before
pub gained_nothing : {A : Type 0} (old new : Option (List A)) → Gains old [] new → new ≡ old
gained_nothing None new same = same
gained_nothing (Some old) new same = same ∙ ap Some (append-nil old)

-- a list that is read off what is told gains what is read off the gain
pub gains_read : {A B : Type 0} (read : List A → List B) → ((xs ys : List A) → read (xs ++ ys) ≡ read xs ++ read ys) → (old : Option (List A)) (more : List A) (new : Option (List A))
    → Gains old more new → Gains (option_map read old) (read more) (option_map read new)
gains_read read joins None more new a = ap (option_map read) a
gains_read read joins (Some old) more new a = ap (option_map read) a ∙ ap Some (joins old more)

-- nothing lost
pub loses_nothing : {A : Type 0} (told : Option (List A)) → Loses told [] told
loses_nothing None = refl
loses_nothing (Some old) = record { rest = old; old_is = refl; new_is = refl }

-- two losses, one after the other, are one
pub loses_more : {A : Type 0} (old : Option (List A)) (first : List A) (mid : Option (List A)) (second : List A) (new : Option (List A))
    → Loses old first mid → Loses mid second new → Loses old (first ++ second) new
loses_more None first None second new a b = b
loses_more None first (Some m) second new a b = cc
loses_more (Some old) first None second new a b = cc (a.new_is)
loses_more (Some old) first (Some m) second new a b =
    let e : a.rest ≡ m = cc (a.new_is) in
    record { rest = b.rest; old_is = a.old_is ∙ ap (λ (xs : List _). first ++ xs) (e ∙ b.old_is) ∙ sym (append_assoc first second b.rest); new_is = b.new_is }

-- nothing is a front of anything
pub gains_none : {A : Type 0} (told : Option (List A)) (whole : List A) → GainsFront told whole told
gains_none told whole = record { front = []; rest = whole; whole_is = refl; gained = gains_nothing told }

-- all, and then a front of what stands behind it
pub gains_then_front : {A : Type 0} (old : Option (List A)) (first : List A) (mid : Option (List A)) (second : List A) (new : Option (List A))
    → Gains old first mid → GainsFront mid second new → GainsFront old (first ++ second) new
gains_then_front {A} old first mid second new a b = record {
  front = first ++ b.front;
  rest = b.rest;
  whole_is = ap (λ (xs : List A). first ++ xs) b.whole_is ∙ sym (append_assoc first b.front b.rest);
  gained = gains_more old first mid b.front new a b.gained;
}

-- a front of a part, with more behind the part
pub gains_front_of_more : {A : Type 0} (old : Option (List A)) (part more : List A) (new : Option (List A)) → GainsFront old part new → GainsFront old (part ++ more) new
gains_front_of_more {A} old part more new a = record {
  front = a.front;
  rest = a.rest ++ more;
  whole_is = ap (λ (xs : List A). xs ++ more) a.whole_is ∙ append_assoc a.front a.rest more;
  gained = a.gained;
}
