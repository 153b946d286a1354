-- The first state meets the rule, and the steps on the words keep it: the own word rises or is written, and a word is read.
use Rattle.std.proofs.Common.{◌≡◌, ◌≢◌, ◌==◌, cond, eq-eqb, ne_eqb, ℕ, zero, suc, ◌+◌, ◌%◌, ◌^◌, ◌<◌, ◌≤◌, List, [], ◌∷◌, ◌++◌, length, get_or, set, replicate, refl, ap, sym, subst, ◌∙◌, arith, length-set, get_or-set_same, get_or-set_other, map}
use Rattle.std.proofs.lemmas.List.{append-nil, get_or-replicate, length-replicate}
use Rattle.std.proofs.lemmas.List.Elements.{filter-append}
use mathlib.Core.List.{map-append}
use Rattle.std.specs.List.{filter}
use mathlib.Core.Logic.{dite}
use mathlib.Core.Option.{none, some, some-injective, some-ne-none}
use native.Mathlib.Decide.{ℕ_discrete}
use lib.ListN.{get_elem?}
use lib.Seq.{set-get_or}
use Rattle.atomic_table.specs.Table.{State, step, keeps, Allows, opening}
use Rattle.metric_table.specs.Places.{IsOfCounter, last_from, last_seen, looks_at, row_of}
use Rattle.metric_table.specs.Rule.{IsRow, Knows, Leads, Kept}
use Rattle.metric_table.specs.Steps.{Holder, own_set, look_at, bumped, written, looked}
use Rattle.metric_table.specs.Views.{Each, first_view, no_words}
use Rattle.metric_table.specs.declared.view.Look.{Look}
use Rattle.metric_table.specs.declared.view.View.{View}
use Rattle.metric_table.proofs.Views.{each_set, KeepsNumbers, numbers_set, apart_numbers, below_numbers, none_numbers}

-- ---- rows

-- a row of words that are all 0
pub zero_row : (words : List ℕ) (number : ℕ) → ((k : ℕ) → k < 128 → get_or words (row_of number + k) 0 ≡ 0) → IsRow words number no_words
zero_row words number zeros = record { as_many = length-replicate {A = ℕ} 128 0; each = λ k h. zeros k h ∙ sym (get_or-replicate 128 k 0 0 h) }

-- the own word of a column was written
pub row_set : (words : List ℕ) (number : ℕ) (own : List ℕ) (k n : ℕ) → k < 128 → row_of number + k < length words → IsRow words number own → IsRow (set words (row_of number + k) n) number (set own k n)
row_set words number own k n small within row = record {
  as_many = length-set own k n ∙ row.as_many;
  each = λ j h. dite (ℕ_discrete j k)
      (λ (is : j ≡ k). subst (λ x. get_or (set words (row_of number + k) n) (row_of number + x) 0 ≡ get_or (set own k n) x 0) (sym is)
      (get_or-set_same words (row_of number + k) n 0 within ∙ sym (get_or-set_same own k n 0 (let m = row.as_many in omega arith))))
      (λ (ne : j ≢ k). get_or-set_other words (row_of number + k) (row_of number + j) n 0 (λ e. ne (omega arith)) ∙ (row.each j h ∙ sym (get_or-set_other own k j n 0 ne)));
}

-- a word of another row was written
pub row_else : (words : List ℕ) (number : ℕ) (own : List ℕ) (place n : ℕ) → ((k : ℕ) → k < 128 → row_of number + k ≢ place) → IsRow words number own → IsRow (set words place n) number own
row_else words number own place n apart row = record { as_many = row.as_many; each = λ j h. get_or-set_other words place (row_of number + j) n 0 (apart j h) ∙ row.each j h }

-- ---- looks
looks_more : (place : ℕ) (looks : List Look) (l : Look) → looks_at place (looks ++ l ∷ []) ≡ looks_at place looks ++ looks_at place (l ∷ [])
looks_more place looks l =
    ap (map (λ (x : Look). x.value)) (filter-append (λ (x : Look). x.place == place) looks (l ∷ []))
    ∙ map-append (λ (x : Look). x.value) (filter (λ (x : Look). x.place == place) looks) (filter (λ (x : Look). x.place == place) (l ∷ []))

last_more : (n : ℕ) (xs : List ℕ) (x : ℕ) → last_from n (xs ++ x ∷ []) ≡ x
last_more n [] x = refl
last_more n (y ∷ xs) x = last_more y xs x

-- the place that was looked at last, and another one
pub last_here : (place : ℕ) (looks : List Look) (value : ℕ) → last_seen place (looks ++ look_at place value ∷ []) ≡ value
last_here place looks value =
    ap (last_from 0) (looks_more place looks (look_at place value) ∙ ap (λ b. looks_at place looks ++ map (λ (x : Look). x.value) (cond b (look_at place value ∷ []) [])) (eq-eqb place place refl))
    ∙ last_more 0 (looks_at place looks) value

pub last_else : (place other : ℕ) (looks : List Look) (value : ℕ) → other ≢ place → last_seen other (looks ++ look_at place value ∷ []) ≡ last_seen other looks
last_else place other looks value ne =
    ap (last_from 0) (looks_more other looks (look_at place value) ∙ ap (λ b. looks_at other looks ++ map (λ (x : Look). x.value) (cond b (look_at place value ∷ []) [])) (ne_eqb place other (λ e. ne (sym e))) ∙ append-nil (looks_at other looks))

-- ---- the start
pub opens : Kept (opening (replicate 1024 0) [] first_view)
opens = record {
  as_many = length-replicate {A = ℕ} 1024 0;
  knows = λ i v at. alone (λ x. 0 < x.number → Knows (replicate 1024 0) x) (λ live. record {
    in_range = omega arith;
    own = zero_row (replicate 1024 0) 1 (λ k h. get_or_zeros 1024 (row_of 1 + k));
    seen = λ place of. omega arith;
  }) i v at;
  apart = λ i k v w ei ek live is. first_place i v ei ∙ sym (first_place k w ek);
  leads = λ i v at. alone (λ x. x.number ≡ 1 → Leads (replicate 1024 0) (first_view ∷ []) x) (λ one. record {
    some_given = (omega arith, omega arith);
    numbers = λ i v at. alone (λ x. x.number ≤ 1) (omega arith) i v at;
    none_past = λ place past. get_or_zeros 1024 place;
    remains = λ k e at. absurd (some-ne-none e (sym at));
  }) i v at;
}
  where
    alone : (K : View → Type 0) → K first_view → (i : ℕ) (v : View) → get_elem? (first_view ∷ []) i ≡ some v → K v
    alone K k zero v at = subst K (some-injective first_view v at) k
    alone K k (suc i) v at = absurd (some-ne-none v (sym at))

    first_place : (i : ℕ) (v : View) → get_elem? (first_view ∷ []) i ≡ some v → i ≡ 0
    first_place zero v at = refl
    first_place (suc i) v at = absurd (some-ne-none v (sym at))

    get_or_zeros : (n k : ℕ) → get_or {A = ℕ} (replicate n 0) k 0 ≡ 0
    get_or_zeros zero k = refl
    get_or_zeros (suc n) zero = refl
    get_or_zeros (suc n) (suc k) = get_or_zeros n k

-- ---- a seat writes its own word
module _ (s : State Unit View) (r : Kept s) (id : ℕ) (v : View) (at : get_elem? s.views id ≡ some v) (live : 0 < v.number) where
  its : Knows s.words v
  its = r.knows id v at live

  module _ (k n : ℕ) (small : k < 128) (rises : IsOfCounter (row_of v.number + k) → get_or s.words (row_of v.number + k) 0 ≤ n) where
    abbrev Place : ℕ
    Place = row_of v.number + k

    abbrev Words : List ℕ
    Words = set s.words Place n

    abbrev Wrote : View
    Wrote = own_set v k n

    abbrev After : List View
    After = set s.views id Wrote

    within : Place < length s.words
    within = let a = its.in_range in let m = r.as_many in omega arith

    -- no counter falls
    not_fallen : (p : ℕ) → IsOfCounter p → get_or s.words p 0 ≤ get_or Words p 0
    not_fallen p of = dite (ℕ_discrete p Place)
        (λ (is : p ≡ Place). subst (λ x. get_or s.words x 0 ≤ get_or Words x 0) (sym is)
        (subst (λ y. get_or s.words Place 0 ≤ y) (sym (get_or-set_same s.words Place n 0 within)) (rises (subst IsOfCounter is of))))
        (λ (ne : p ≢ Place). let e = get_or-set_other s.words Place p n 0 ne in omega arith)

    -- the rows of other numbers stay
    apart_from : (u : ℕ) → 0 < u → u ≢ v.number → (j : ℕ) → j < 128 → row_of u + j ≢ Place
    apart_from u pos ne j h e = ne (omega arith)

    same : KeepsNumbers s.views After
    same = numbers_set s.views id v Wrote at refl

    -- another live view has another number
    differs : (i : ℕ) (d : View) → i ≢ id → get_elem? s.views i ≡ some d → 0 < d.number → d.number ≢ v.number
    differs i d ne e live' is = ne (r.apart i id d v e at live' is)

    knows_after : Each After (λ i d. 0 < d.number → Knows Words d)
    knows_after = each_set (λ i d. 0 < d.number → Knows Words d) s.views id Wrote
        (λ _. record { in_range = its.in_range; own = row_set s.words v.number v.own k n small within its.own; seen = λ p of. let a = its.seen p of in let b = not_fallen p of in omega arith })
        (λ i d ne e live'. let it = r.knows i d e live' in record {
          in_range = it.in_range;
          own = row_else s.words d.number d.own Place n (apart_from d.number live' (differs i d ne e live')) it.own;
          seen = λ p of. let a = it.seen p of in let b = not_fallen p of in omega arith;
        })

    -- the view of number 1 leads the same views over the new words
    leads_words : (views : List View) (l : View) → Leads s.words s.views l → KeepsNumbers s.views views → Leads Words views l
    leads_words views l lead keeps' = record {
      some_given = lead.some_given;
      numbers = below_numbers s.views views l.given keeps' lead.numbers;
      none_past = λ p past. get_or-set_other s.words Place p n 0 (λ e. let le = lead.numbers id v at in absurd (omega arith)) ∙ lead.none_past p past;
      remains = λ j e there. let m = lead.remains j e there in record {
        own = row_else s.words e.number e.own Place n (apart_from e.number m.was_given.0 (λ is. m.no_live id v at (sym is))) m.own;
        was_given = m.was_given;
        no_live = none_numbers s.views views e.number m.was_given.0 keeps' m.no_live;
      };
    }

    leads_after : Each After (λ i d. d.number ≡ 1 → Leads Words After d)
    leads_after = each_set (λ i d. d.number ≡ 1 → Leads Words After d) s.views id Wrote
        (λ one. let l = leads_words After v (r.leads id v at one) same in record { some_given = l.some_given; numbers = l.numbers; none_past = l.none_past; remains = λ j e there. let m = l.remains j e there in record { own = m.own; was_given = m.was_given; no_live = m.no_live } })
        (λ i d ne e one. leads_words After d (r.leads i d e one) same)

    pub wrote : Kept (record { words = Words; homes = s.homes; views = After })
    wrote = record { as_many = length-set s.words Place n ∙ r.as_many; knows = knows_after; apart = apart_numbers s.views After same r.apart; leads = leads_after }

  -- ---- a seat looks at a word
  module _ (place : ℕ) where
    abbrev Found : ℕ
    Found = get_or s.words place 0

    abbrev Looking : View
    Looking = record v { looks = v.looks ++ look_at place Found ∷ [] }

    abbrev Lookers : List View
    Lookers = set s.views id Looking

    same_lookers : KeepsNumbers s.views Lookers
    same_lookers = numbers_set s.views id v Looking at refl

    seen_more : (p : ℕ) → IsOfCounter p → last_seen p Looking.looks ≤ get_or s.words p 0
    seen_more p of = dite (ℕ_discrete p place)
        (λ (is : p ≡ place). subst (λ x. last_seen x Looking.looks ≤ get_or s.words x 0) (sym is) (let e = last_here place v.looks Found in omega arith))
        (λ (ne : p ≢ place). let e = last_else place p v.looks Found ne in let b = its.seen p of in omega arith)

    leads_lookers : (l : View) → Leads s.words s.views l → Leads s.words Lookers l
    leads_lookers l lead = record {
      some_given = lead.some_given;
      numbers = below_numbers s.views Lookers l.given same_lookers lead.numbers;
      none_past = lead.none_past;
      remains = λ j e there. let m = lead.remains j e there in record { own = m.own; was_given = m.was_given; no_live = none_numbers s.views Lookers e.number m.was_given.0 same_lookers m.no_live };
    }

    pub looks : Kept (record { words = s.words; homes = s.homes; views = Lookers })
    looks = record {
      as_many = r.as_many;
      knows = each_set (λ i d. 0 < d.number → Knows s.words d) s.views id Looking (λ _. record { in_range = its.in_range; own = its.own; seen = seen_more }) (λ i d ne e. r.knows i d e);
      apart = apart_numbers s.views Lookers same_lookers r.apart;
      leads = each_set (λ i d. d.number ≡ 1 → Leads s.words Lookers d) s.views id Looking
          (λ one. let l = leads_lookers v (r.leads id v at one) in record { some_given = l.some_given; numbers = l.numbers; none_past = l.none_past; remains = λ j e there. let m = l.remains j e there in record { own = m.own; was_given = m.was_given; no_live = m.no_live } })
          (λ i d ne e one. leads_lookers d (r.leads i d e one));
    }

-- the own word at a place that is its seat's
its_word : (words : List ℕ) (v : View) (place : ℕ) → Knows words v → place ≡ row_of v.number + place % 128 → get_or words place 0 ≡ get_or v.own (place % 128) 0
its_word words v place it is = ap (λ p. get_or words p 0) is ∙ it.own.each (place % 128) (omega arith)

-- ---- the steps
pub bumps : (slots id : ℕ) (me : Holder) (place by : ℕ) → 0 < me.0.number → place ≡ row_of me.0.number + place % 128 → (IsOfCounter place → get_or me.0.own (place % 128) 0 + by < 2 ^ 64)
    → Allows Kept slots id me place (λ n. (n + by) % 2 ^ 64) (bumped (step slots place by 0 none) me)
bumps slots id me place by live is room s r deep at small =
    let v = me.0 in
    let k = place % 128 in
    let word = its_word s.words v place (r.knows id v at live) is in
    let n = (get_or s.words place 0 + by) % 2 ^ 64 in
    let same : n ≡ (get_or v.own k 0 + by) % 2 ^ 64 = ap (λ x. (x + by) % 2 ^ 64) word in
    let rises : IsOfCounter (row_of v.number + k) → get_or s.words (row_of v.number + k) 0 ≤ n = λ of.
    let h = room (subst IsOfCounter (sym is) of) in
    subst (λ p. get_or s.words p 0 ≤ n) is (omega arith) in (
      own_set v k ((get_or v.own k 0 + by) % 2 ^ 64),
      keeps,
      tt,
      subst (λ (t : ℕ × ℕ). Kept (record { words = set s.words t.0 n; homes = s.homes; views = set s.views id (own_set v k t.1) })) (λ i. (sym is i, same i)) (wrote s r id v at live k n (omega arith) rises),
      refl,
    )

pub writes : (slots id : ℕ) (me : Holder) (place value : ℕ) → 0 < me.0.number → place ≡ row_of me.0.number + place % 128 → (IsOfCounter place → ⊥)
    → Allows Kept slots id me place (λ _. value) (λ _. written (step slots place value 0 none) me value)
writes slots id me place value live is no_counter s r deep at small =
    let v = me.0 in
    let k = place % 128 in (
      own_set v k value,
      keeps,
      tt,
      subst (λ p. Kept (record { words = set s.words p value; homes = s.homes; views = set s.views id (own_set v k value) })) (sym is) (wrote s r id v at live k value (omega arith) (λ of. absurd (no_counter (subst IsOfCounter (sym is) of)))),
      refl,
    )

pub reads : (slots id : ℕ) (me : Holder) (place : ℕ) → 0 < me.0.number → Allows Kept slots id me place (λ n. n) (looked (step slots place 0 0 none) me)
reads slots id me place live s r deep at small =
    let v = me.0 in
    let it = r.knows id v at live in
    let found = get_or s.words place 0 in
    let after : List View = set s.views id (record v { looks = v.looks ++ look_at place found ∷ [] }) in (
      record v { looks = v.looks ++ look_at place found ∷ [] },
      keeps,
      tt,
      subst (λ ws. Kept (record { words = ws; homes = s.homes; views = after })) (sym (set-get_or s.words place 0)) (looks s r id v at live place),
      (refl, record { own = λ k h e. ap (λ p. get_or s.words p 0) (sym e) ∙ it.own.each k h; rises = λ of. it.seen place of }),
    )
