-- A course of two parts goes to its end part by part.
use Rattle.std.proofs.Common.{◌≡◌, List, [], ◌∷◌, ◌++◌, refl, ap}
use Rattle.filter_host.specs.Course.{Course, ends, asks, measures, hears, then_do, Met, called, measured, heard, Reaches}

-- a course of two parts that came to its end: the first came to its end, and then the second
pub record Split {A B : Type 0} (p : Course A) (f : A → Course B) (ms : List Met) (b : B) : Type 0 where
  pub middle : A
  pub first : List Met
  pub later : List Met
  pub is : ms ≡ first ++ later
  pub one : Reaches p first (ends middle)
  pub more : Reaches (f middle) later (ends b)

pub split : {A B : Type 0} (ms : List Met) (p : Course A) (f : A → Course B) (b : B) → Reaches (then_do p f) ms (ends b) → Split p f ms b
split ms (ends a) f b h = record { middle = a; first = []; later = ms; is = refl; one = refl; more = h }
split [] (asks vm call k) f b h = absurd (cc h)
split (called c ∷ ms) (asks vm call k) f b h =
    let r = split ms (k c.reply) f b h.2 in
    record { middle = r.middle; first = called c ∷ r.first; later = r.later; is = ap (λ (x : List Met). called c ∷ x) r.is; one = (h.0, h.1, r.one); more = r.more }
split (measured c ∷ ms) (asks vm call k) f b h = elim h [ ]
split (heard c ∷ ms) (asks vm call k) f b h = elim h [ ]
split [] (measures vm call k) f b h = absurd (cc h)
split (called c ∷ ms) (measures vm call k) f b h = elim h [ ]
split (measured c ∷ ms) (measures vm call k) f b h =
    let r = split ms (k c.reply) f b h.2 in
    record { middle = r.middle; first = measured c ∷ r.first; later = r.later; is = ap (λ (x : List Met). measured c ∷ x) r.is; one = (h.0, h.1, r.one); more = r.more }
split (heard c ∷ ms) (measures vm call k) f b h = elim h [ ]
split [] (hears t k) f b h = absurd (cc h)
split (called c ∷ ms) (hears t k) f b h = elim h [ ]
split (measured c ∷ ms) (hears t k) f b h = elim h [ ]
split (heard c ∷ ms) (hears t k) f b h =
    let r = split ms (k c) f b h.1 in
    record { middle = r.middle; first = heard c ∷ r.first; later = r.later; is = ap (λ (x : List Met). heard c ∷ x) r.is; one = (h.0, r.one); more = r.more }

-- a course that has ended meets nothing
pub none_more : {A : Type 0} (ms : List Met) (a b : A) → Reaches (ends a) ms (ends b) → (ms ≡ []) × (a ≡ b)
none_more [] a b h = (refl, cc h)
none_more (m ∷ ms) a b h = absurd h
