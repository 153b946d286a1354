use Rattle.std.proofs.Common.{◌≡◌, ◌≢◌, ◌⊎◌, inl, inr, ℕ, Bool, true, false, List, [], ◌∷◌, ◌++◌, map, refl, sym, ◌∙◌, subst, ap, arith}
use Rattle.std.specs.Prelude.{codes, if◌then◌else◌}
use Rattle.gate_io.specs.declared.event.Sent.{Sent}
use Rattle.gate_io.specs.declared.event.Sent.TheVariants.{Bytes, Close}
use Rattle.gate_io.specs.declared.event.Side.TheVariants.{Down, Up}
use Rattle.gate_io.specs.declared.event.What.TheVariants as what
use Rattle.gate_io.specs.declared.passed.Passed.{Passed}
use Rattle.gate_io.specs.declared.passed.Passed.TheVariants.{Asked, Gave, Took, Short}
use Rattle.send_queue.specs.Delivery.{WasShort, Prompt}
use Rattle.send_queue.specs.Examples.{piece, again, at, nothing_wanted}
use Rattle.send_queue.specs.Places.{Mark, octet, closing, is_same_place, marks_at}
use Rattle.send_queue.specs.declared.place.Destination.{Destination}
use Rattle.send_queue.specs.declared.place.Destination.TheVariants.{Peer}
use Rattle.send_queue.proofs.Deliveries.{hands_over, stands_still}
use Rattle.send_queue.proofs.Marks.{same_place, cases_place, marks_elsewhere, octets_in-append, octets_in-map}
use Rattle.send_queue.proofs.laws.worked_deliveries.Goals as goal

pub returns-clause-places : goal.returns-clause-places
returns-clause-places c = record {
  up = refl;
  down = refl;
  other_line = refl;
  no_line = refl;
  log = refl;
  full = λ bytes long. omega (arith, octets_in-append (map octet bytes) (octet 98 ∷ []), octets_in-map bytes);
  not_full = λ bytes long full. omega (arith, octets_in-append (map octet bytes) (closing ∷ []), octets_in-map bytes, full);
}

-- the marks of members for one place, at that place and at another
abbrev here : Bool → List Mark → List Mark
here b marks = if b then marks else []

-- bytes and a close for the upstream server of line 1
abbrev bytes : List ℕ → Sent
bytes text = Bytes 1 Up text

part : (b : Bool) → (here b (octet 97 ∷ []) ++ []) ++ (here b (octet 98 ∷ []) ++ (here b (closing ∷ []) ++ [])) ≡ here b (octet 97 ∷ octet 98 ∷ []) ++ (here b (closing ∷ []) ++ [])
part true = refl
part false = refl

apart : (up down : Bool) → (up ≡ true → down ≡ true → ⊥)
    → (here up (octet 97 ∷ []) ++ (here down (octet 99 ∷ []) ++ [])) ++ (here up (octet 98 ∷ []) ++ []) ≡ here up (octet 97 ∷ octet 98 ∷ []) ++ (here down (octet 99 ∷ []) ++ [])
apart true true never = absurd (never refl refl)
apart true false never = refl
apart false true never = refl
apart false false never = refl

-- no place is both sides of a line
one_side : (place : Destination) → is_same_place (Peer 1 Up) place ≡ true → is_same_place (Peer 1 Down) place ≡ true → ⊥
one_side place up down = elim (same_place (Peer 1 Up) place) [
  | inl first ↦ elim (same_place (Peer 1 Down) place) [
    | inl next ↦ let both : Peer 1 Up ≡ Peer 1 Down = first.0 ∙ sym next.0 in cc
    | inr next ↦ let wrong : true ≡ false = sym down ∙ next.1 in cc
  ]
  | inr first ↦ let wrong : true ≡ false = sym up ∙ first.1 in cc
]

two : (b : Bool) → (here b (octet 97 ∷ []) ++ []) ++ (here b (octet 98 ∷ []) ++ []) ≡ here b (octet 97 ∷ octet 98 ∷ []) ++ []
two true = refl
two false = refl

-- where bytes are left at one place, a `send` to that place fell short
left_bytes : (before : List Sent) (steps : List Passed) → WasShort (Peer 1 Up) steps → Prompt [] before steps (bytes (codes "b") ∷ [])
left_bytes before steps short = record { only_short = λ place none. go place (cases_place (Peer 1 Up) place); whole = λ none never. absurd (never (Peer 1 Up) short) }
  where
    go : (place : Destination) → (Peer 1 Up ≡ place) ⊎ (Peer 1 Up ≡ place → ⊥) → (marks_at place (bytes (codes "b") ∷ []) ≡ []) ⊎ WasShort place steps
    go place (inl same) = inr (subst (λ (p : Destination). WasShort p steps) same short)
    go place (inr other) = inl (λ i. marks_elsewhere place (bytes (codes "b")) other i ++ [])

left_both : (before : List Sent) (steps : List Passed) → WasShort (Peer 1 Up) steps → Prompt [] before steps (bytes (codes "b") ∷ Close 1 Up ∷ [])
left_both before steps short = record { only_short = λ place none. go place (cases_place (Peer 1 Up) place); whole = λ none never. absurd (never (Peer 1 Up) short) }
  where
    go : (place : Destination) → (Peer 1 Up ≡ place) ⊎ (Peer 1 Up ≡ place → ⊥) → (marks_at place (bytes (codes "b") ∷ Close 1 Up ∷ []) ≡ []) ⊎ WasShort place steps
    go place (inl same) = inr (subst (λ (p : Destination). WasShort p steps) same short)
    go place (inr other) = inl (λ i. marks_elsewhere place (bytes (codes "b")) other i ++ (marks_elsewhere place (Close 1 Up) other i ++ []))

-- where a `send` to the place fell short, a byte waits
some_left : (more : List Sent) (place : Destination) → (Peer 1 Up ≡ place) ⊎ ⊥ → marks_at place (bytes (codes "b") ∷ more) ≢ []
some_left more place (inl is) = subst (λ (p : Destination). marks_at p (bytes (codes "b") ∷ more) ≢ []) is (λ e. cc)
some_left more place (inr h) = absurd h

abbrev second_byte : List Mark → ℕ
second_byte (first ∷ octet byte ∷ rest) = byte
second_byte marks = 0

waits_again : (place : Destination) → (Peer 1 Up ≡ place) ⊎ (Peer 1 Up ≡ place → ⊥) → (marks_at place (Close 1 Up ∷ []) ≡ []) ⊎ WasShort place again
waits_again place (inl same) = inr (inl same)
waits_again place (inr other) = inl (λ i. marks_elsewhere place (Close 1 Up) other i ++ [])

pub returns-clause-delivered : goal.returns-clause-delivered
returns-clause-delivered c = record {
  part = record { goes_on = λ place. part (is_same_place (Peer 1 Up) place); stops = (tt, tt); waits_short = some_left (Close 1 Up ∷ []); no_event = refl; not_asked = refl };
  part_prompt = left_both piece (Took (bytes (codes "a")) ∷ Short 1 Up ∷ []) (inl refl);
  held_back = λ prompt. cc ((prompt.whole refl (λ place h. h)).1);
  overtaken = λ delivered. cc (delivered.goes_on (Peer 1 Up));
  wrong_rest = λ delivered. let same : 97 ≡ 98 = ap second_byte (delivered.goes_on (Peer 1 Up)) in absurd (omega arith);
  again_prompt = record { only_short = λ place none. waits_again place (cases_place (Peer 1 Up) place); whole = λ none never. absurd (never (Peer 1 Up) (inl refl)) };
  offered_again = λ delivered. delivered.stops.0.0 refl;
  nothing_waits = λ delivered. delivered.waits_short (Peer 1 Up) (inl refl) refl;
  other_side = record {
    goes_on = λ place. apart (is_same_place (Peer 1 Up) place) (is_same_place (Peer 1 Down) place) (one_side place);
    stops = ((λ e. cc, tt), tt);
    waits_short = some_left [];
    no_event = refl;
    not_asked = refl;
  };
  log_waits = λ prompt. cc ((prompt.whole refl (λ place h. h)).1);
}

pub returns-clause-turns : goal.returns-clause-turns
returns-clause-turns c =
    let first : List Sent = bytes (codes "b") ∷ [] in
    let next : List Sent = bytes (codes "b") ∷ Close 1 Up ∷ [] in
    let asked = Asked nothing_wanted in
    record {
      three = (
        asked ∷ Gave (at 5 (what.Opened 1)) ∷ Took (bytes (codes "a")) ∷ Short 1 Up ∷ [],
        _,
        first,
        refl,
        hands_over _ _ _ _ _ refl (record { goes_on = λ place. two (is_same_place (Peer 1 Up) place); stops = (tt, tt); waits_short = some_left []; no_event = refl; not_asked = refl }) (left_bytes _ _ (inl refl)),
        (
          asked ∷ Gave (at 6 (what.Room 1 Up)) ∷ Short 1 Up ∷ [],
          _,
          next,
          refl,
          hands_over _ _ _ _ _ refl (record { goes_on = λ place. refl; stops = (tt, tt); waits_short = some_left (Close 1 Up ∷ []); no_event = refl; not_asked = refl }) (left_both _ _ (inl refl)),
          (
            asked ∷ Gave (at 7 (what.Gone 1 Up)) ∷ [],
            [],
            [],
            refl,
            hands_over _ _ _ _ _ refl (record { goes_on = λ place. refl; stops = tt; waits_short = λ place h. absurd h; no_event = refl; not_asked = refl })
                (record { only_short = λ place none. inl refl; whole = λ none never. (refl, refl) }),
            (refl, refl),
          ),
        ),
      );
      stop = (asked ∷ Gave (at 5 what.Stop) ∷ [], [], piece, refl, stands_still _ _ _ refl, (refl, refl));
    }
