-- Each move keeps the rule of the relay.
use Rattle.std.proofs.Common.{◌≡◌, ◌≢◌, ℕ, zero, suc, Bool, true, false, true≢false, List, [], ◌∷◌, ◌++◌, map, length, set, sym, refl, ap, ◌∙◌, subst, inl, inr, ⊎_elim, arith, append_assoc, append-nil, length-append, if◌then◌else◌}
use Rattle.std.proofs.lemmas.List.{length-map}
use mathlib.Core.List.{map-append}
use mathlib.Core.Option.{some, some-ne-none}
use lib.ListN.{get_elem?}
use Rattle.crossbeam_queue.specs.Fifo.{Pushes, Pops, Forks, Merges, Learns}
use Rattle.crossbeam_queue.proofs.Lists.{at_set, at_snoc}
use Rattle.handoff.specs.declared.rule.Hands.{Hands}
use Rattle.handoff.specs.Hands.{hands, counted, Fits, Relayed, IsFront, AreFronts, longer, Holds, Leaves, IsInOrder, itself, giver_of_two, taker_of, twice_is_not, overtaken_is_not, told_of_more_is_not, held_is_not_taken}

at_end : (l : List Hands) (a b : Hands) (j : ℕ) → get_elem? l j ≢ some b → get_elem? (l ++ a ∷ []) j ≡ some b → j ≡ length l
at_end [] a b zero n e = refl
at_end [] a b (suc j) n e = absurd (some-ne-none b (sym e))
at_end (x ∷ xs) a b zero n e = absurd (n e)
at_end (x ∷ xs) a b (suc j) n e = ap suc (at_end xs a b j n e)

abbrev All : (ℕ → Hands → Type 0) → List Hands → Type 0
All F views = (port : ℕ) (v : Hands) → get_elem? views port ≡ some v → F port v

all_set : (F : ℕ → Hands → Type 0) (views : List Hands) (port : ℕ) (w : Hands) → F port w → ((j : ℕ) (u : Hands) → j ≢ port → get_elem? views j ≡ some u → F j u) → All F (set views port w)
all_set F views port w mine others j u e = ⊎_elim (λ (x : (j ≡ port) × (w ≡ u)). subst (λ (y : ℕ × Hands). F y.0 y.1) (λ i. (sym x.0 i, x.1 i)) mine)
    (λ (x : (j ≢ port) × (get_elem? views j ≡ some u)). others j u x.0 x.1) (at_set views port j w u e)

-- nothing is a front of each list, and each list of itself
front_none : (xs : List ℕ) → IsFront [] xs
front_none xs = (xs, refl)

front_self : (xs : List ℕ) → IsFront xs xs
front_self xs = ([], append-nil xs)

-- a front stays one while the list grows
front_grown : (xs ys more : List ℕ) → IsFront xs ys → IsFront xs (ys ++ more)
front_grown xs ys more p = (p.0 ++ more, sym (append_assoc xs p.0 more) ∙ ap (λ (l : List ℕ). l ++ more) p.1)

-- of two fronts of one list one is a front of the other
pub fronts : (xs ys zs : List ℕ) → IsFront xs zs → IsFront ys zs → AreFronts xs ys
fronts [] ys zs p q = inl (ys, refl)
fronts (x ∷ xs) [] zs p q = inr (x ∷ xs, refl)
fronts (x ∷ xs) (y ∷ ys) [] p q = absurd (cc (p.1))
fronts (x ∷ xs) (y ∷ ys) (z ∷ zs) p q =
    let heads : x ≡ y = cc (p.1, q.1) in
    ⊎_elim (λ (r : IsFront xs ys). inl (r.0, cc (heads, r.1))) (λ (r : IsFront ys xs). inr (r.0, cc (heads, r.1))) (fronts xs ys zs (p.0, cc (p.1)) (q.0, cc (q.1)))

chosen : (b : Bool) (xs ys zs : List ℕ) → IsFront xs zs → IsFront ys zs → IsFront (if b then ys else xs) zs
chosen true xs ys zs p q = q
chosen false xs ys zs p q = p

module _ {L : Type 0} (line : L → ℕ) where
  pub begins : Relayed line [] (hands true true [] [] [] [] 0 ∷ [])
  begins = (
    0,
    0,
    [],
    [],
    refl,
    all_set (Fits 0 0 [] []) (hands true true [] [] [] [] 0 ∷ []) 0 (hands true true [] [] [] [] 0) (record { gives = λ _. (refl, refl); takes = λ _. (refl, refl); told_offered = front_none []; told_taken = front_none [] })
        (λ j u other e. absurd (other (at_end [] _ u j (λ x. some-ne-none u (sym x)) e))),
  )

  pub sends : (n port : ℕ) (v : Hands) (x : L) → v.gives ≡ true → Pushes (Relayed line) n port v x (λ w. w ≡ hands v.gives v.takes (v.offered ++ line x ∷ []) v.taken v.told_offered v.told_taken v.refusals)
  sends n port v x may items views _ h at = let w : Hands = hands v.gives v.takes (v.offered ++ line x ∷ []) v.taken v.told_offered v.told_taken v.refusals in let mine = h.5 port v at in let offered = h.2 ++ line x ∷ [] in (
    w,
    (
      h.0,
      h.1,
      offered,
      h.3,
      ap (λ (l : List ℕ). l ++ line x ∷ []) h.4 ∙ append_assoc h.3 (map line items) (line x ∷ []) ∙ ap (λ (l : List ℕ). h.3 ++ l) (sym (map-append line items (x ∷ []))),
      all_set (Fits h.0 h.1 offered h.3) views port w
          (record { gives = λ _. ((mine.gives may).0, ap (λ (l : List ℕ). l ++ line x ∷ []) (mine.gives may).1); takes = mine.takes; told_offered = front_grown v.told_offered h.2 (line x ∷ []) mine.told_offered; told_taken = mine.told_taken })
          (λ j u other e. let its = h.5 j u e in record { gives = λ p. absurd (other ((its.gives p).0 ∙ sym (mine.gives may).0)); takes = its.takes; told_offered = front_grown u.told_offered h.2 (line x ∷ []) its.told_offered; told_taken = its.told_taken }),
    ),
    refl,
  )

  pub gets : (port : ℕ) (v : Hands) → v.takes ≡ true → Pops (Relayed line) port v (λ x w. (w ≡ hands v.gives v.takes v.offered (v.taken ++ line x ∷ []) v.told_offered v.told_taken v.refusals) × AreFronts w.taken w.told_offered)
  gets port v may x items views h at = let w : Hands = hands v.gives v.takes v.offered (v.taken ++ line x ∷ []) v.told_offered v.told_taken v.refusals in let mine = h.5 port v at in let taken = h.3 ++ line x ∷ [] in
      let now : w.taken ≡ taken = ap (λ (l : List ℕ). l ++ line x ∷ []) (mine.takes may).1 in
      let all : h.2 ≡ taken ++ map line items = h.4 ∙ sym (append_assoc h.3 (line x ∷ []) (map line items)) in (
        w,
        (
          h.0,
          h.1,
          h.2,
          taken,
          all,
          all_set (Fits h.0 h.1 h.2 taken) views port w
              (record { gives = mine.gives; takes = λ _. ((mine.takes may).0, now); told_offered = mine.told_offered; told_taken = front_grown v.told_taken h.3 (line x ∷ []) mine.told_taken })
              (λ j u other e. let its = h.5 j u e in record { gives = its.gives; takes = λ p. absurd (other ((its.takes p).0 ∙ sym (mine.takes may).0)); told_offered = its.told_offered; told_taken = front_grown u.told_taken h.3 (line x ∷ []) its.told_taken }),
        ),
        (refl, fronts w.taken w.told_offered h.2 (map line items, ap (λ (l : List ℕ). l ++ map line items) now ∙ sym all) mine.told_offered),
      )

  pub forks : (port : ℕ) (v : Hands) → v.gives ≡ true → v.takes ≡ true
      → Forks (Relayed line) port v (hands true false v.offered [] v.told_offered v.told_taken 0) (hands false true [] v.taken v.told_offered v.told_taken 0)
  forks port v a b items views h at = let l : Hands = hands true false v.offered [] v.told_offered v.told_taken 0 in let r : Hands = hands false true [] v.taken v.told_offered v.told_taken 0 in
      let mine = h.5 port v at in let vs : List Hands = set views port l in
      let Old : ℕ → Hands → Type 0 = λ j u. Fits h.0 h.1 h.2 h.3 j u × (u.takes ≢ true) in
      let old : All Old vs = all_set Old views port l (record { gives = λ _. mine.gives a; takes = λ p. absurd (true≢false (sym p)); told_offered = mine.told_offered; told_taken = mine.told_taken }, λ p. true≢false (sym p))
      (λ j u other e. (h.5 j u e, λ p. other (((h.5 j u e).takes p).0 ∙ sym (mine.takes b).0))) in (
        h.0,
        length vs,
        h.2,
        h.3,
        h.4,
        λ j u e. ⊎_elim (λ x. let its = (old j u x).0 in record { gives = its.gives; takes = λ p. absurd ((old j u x).1 p); told_offered = its.told_offered; told_taken = its.told_taken })
            (λ (is : r ≡ u). subst (λ (u : Hands). (get_elem? (vs ++ r ∷ []) j ≡ some u) → Fits h.0 (length vs) h.2 h.3 j u) is
            (λ e. record { gives = λ p. absurd (true≢false (sym p)); takes = λ p. (at_end vs r r j (λ x. (old j r x).1 refl) e, (mine.takes b).1); told_offered = mine.told_offered; told_taken = mine.told_taken }) e)
            (at_snoc vs r u j e),
      )

  -- a pass that may do nothing comes, and tells what is so
  comes : (port : ℕ) (v w r : Hands) → r.gives ≢ true → r.takes ≢ true → ((giver taker : ℕ) (offered taken : List ℕ) → Fits giver taker offered taken port v → Fits giver taker offered taken port w)
      → ((giver taker : ℕ) (offered taken : List ℕ) → Fits giver taker offered taken port v → IsFront r.told_offered offered × IsFront r.told_taken taken) → Forks (Relayed line) port v w r
  comes port v w r a b keeps so items views h at = let vs : List Hands = set views port w in let mine = h.5 port v at in let tells = so h.0 h.1 h.2 h.3 mine in (
    h.0,
    h.1,
    h.2,
    h.3,
    h.4,
    λ j u e. ⊎_elim (λ x. all_set (Fits h.0 h.1 h.2 h.3) views port w (keeps h.0 h.1 h.2 h.3 mine) (λ j u _ e. h.5 j u e) j u x)
        (λ (is : r ≡ u). subst (Fits h.0 h.1 h.2 h.3 j) is (record { gives = λ p. absurd (a p); takes = λ p. absurd (b p); told_offered = tells.0; told_taken = tells.1 }))
        (at_snoc vs r u j e),
  )

  pub notes_offered : (port : ℕ) (v : Hands) → v.gives ≡ true → Forks (Relayed line) port v v (hands false false [] [] v.offered v.told_taken 0)
  notes_offered port v may = comes port v v (hands false false [] [] v.offered v.told_taken 0) (λ p. true≢false (sym p)) (λ p. true≢false (sym p)) (λ giver taker offered taken mine. mine)
      (λ giver taker offered taken mine. (([], append-nil v.offered ∙ (mine.gives may).1), mine.told_taken))

  pub notes_taken : (port : ℕ) (v : Hands) → v.takes ≡ true → Forks (Relayed line) port v v (hands false false [] [] v.told_offered v.taken 0)
  notes_taken port v may = comes port v v (hands false false [] [] v.told_offered v.taken 0) (λ p. true≢false (sym p)) (λ p. true≢false (sym p)) (λ giver taker offered taken mine. mine)
      (λ giver taker offered taken mine. (mine.told_offered, ([], append-nil v.taken ∙ (mine.takes may).1)))

  -- a refusal is counted
  pub refuses : (port : ℕ) (v : Hands) → Forks (Relayed line) port v (counted v) (hands false false [] [] [] [] 0)
  refuses port v = comes port v (counted v) (hands false false [] [] [] [] 0) (λ p. true≢false (sym p)) (λ p. true≢false (sym p))
      (λ giver taker offered taken mine. record { gives = mine.gives; takes = mine.takes; told_offered = mine.told_offered; told_taken = mine.told_taken })
      (λ giver taker offered taken mine. (front_none offered, front_none taken))

  pub reads : (port : ℕ) (v : Hands) (other : ℕ) (n : Hands)
      → Merges (Relayed line) port v other n (hands v.gives v.takes v.offered v.taken (longer v.told_offered n.told_offered) (longer v.told_taken n.told_taken) v.refusals) (hands false false [] [] [] [] 0)
  reads port v other n items views h at apart at' = let both : Hands = hands v.gives v.takes v.offered v.taken (longer v.told_offered n.told_offered) (longer v.told_taken n.told_taken) v.refusals in
      let none : Hands = hands false false [] [] [] [] 0 in let vs : List Hands = set views port both in
      let was : get_elem? views other ≡ some n = ⊎_elim (λ x. absurd (apart x.0)) (λ x. x.1) (at_set views port other both n at') in
      let mine = h.5 port v at in let theirs = h.5 other n was in let F = Fits h.0 h.1 h.2 h.3 in (
        h.0,
        h.1,
        h.2,
        h.3,
        h.4,
        all_set F vs other none (record { gives = λ p. absurd (true≢false (sym p)); takes = λ p. absurd (true≢false (sym p)); told_offered = front_none h.2; told_taken = front_none h.3 })
            (λ j u _ e. all_set F views port both
            (record { gives = mine.gives; takes = mine.takes; told_offered = chosen _ v.told_offered n.told_offered h.2 mine.told_offered theirs.told_offered; told_taken = chosen _ v.told_taken n.told_taken h.3 mine.told_taken theirs.told_taken })
            (λ j u _ e. h.5 j u e) j u e),
      )

  pub holds : (port : ℕ) (v : Hands) → v.gives ≡ true → Learns (Relayed line) port v (Holds line v)
  holds port v may items views h at = let mine = h.5 port v at in let all = (mine.gives may).1 ∙ h.4 in let told = mine.told_taken in (
    (h.3, all),
    omega (arith, ap length all, length-append h.3 (map line items), length-map items line, ap length told.1, length-append v.told_taken told.0),
  )

  pub leaves : (port : ℕ) (v : Hands) → v.takes ≡ true → Learns (Relayed line) port v (Leaves line v)
  leaves port v may items views h at = let mine = h.5 port v at in (mine.told_offered.0, mine.told_offered.1 ∙ h.4 ∙ ap (λ (l : List ℕ). l ++ map line items) (sym (mine.takes may).1))

  -- what was offered is what was taken, and then what is held
  pub in_order : (items : List L) (views : List Hands) (giver taker : ℕ) (v w : Hands) → Relayed line items views → get_elem? views giver ≡ some v → v.gives ≡ true
      → get_elem? views taker ≡ some w → w.takes ≡ true → IsInOrder line v.offered w.taken items
  in_order items views giver taker v w h at_v gives at_w takes =
      ((h.5 giver v at_v).gives gives).1 ∙ h.4 ∙ ap (λ (l : List ℕ). l ++ map line items) (sym ((h.5 taker w at_w).takes takes).1)

pub not_twice : twice_is_not
not_twice h =
    let taker = taker_of (1 ∷ 1 ∷ []) in
    let e : IsInOrder itself (1 ∷ 2 ∷ []) (1 ∷ 1 ∷ []) (2 ∷ []) = in_order itself (2 ∷ []) (giver_of_two ∷ taker ∷ []) 0 1 giver_of_two taker h refl refl refl refl in cc

pub not_overtaken : overtaken_is_not
not_overtaken h =
    let taker = taker_of (2 ∷ []) in
    let e : IsInOrder itself (1 ∷ 2 ∷ []) (2 ∷ []) (1 ∷ []) = in_order itself (1 ∷ []) (giver_of_two ∷ taker ∷ []) 0 1 giver_of_two taker h refl refl refl refl in cc

pub not_told_of_more : told_of_more_is_not
not_told_of_more h =
    let taker : Hands = hands false true [] (1 ∷ []) (1 ∷ 2 ∷ []) [] 0 in
    let p = leaves itself 0 taker refl [] (taker ∷ []) h refl in
    absurd (cc (p.1))

pub not_held_and_taken : held_is_not_taken
not_held_and_taken h =
    let giver : Hands = hands true false (1 ∷ []) [] [] (1 ∷ []) 0 in
    let p = holds itself 0 giver refl (1 ∷ []) (giver ∷ []) h refl in
    absurd (omega (arith, p.1))
