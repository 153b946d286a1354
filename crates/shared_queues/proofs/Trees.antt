-- What the places of the tree know.
use Rattle.std.proofs.Common.{◌≡◌, ℕ, zero, suc, ◌+◌, ◌-◌, ◌*◌, ◌/◌, ◌<◌, ◌≤◌, ◌==◌, Bool, true, false, cond, List, [], ◌∷◌, ◌++◌, length, get_or, set, take, refl, sym, ap, subst, ◌∙◌, arith, ⊎_elim, eq-eqb, ne_eqb, get_or-set_same, get_or-set_other, length-take, length-set}
use Rattle.std.specs.Prelude.{min, replicate}
use Rattle.std.proofs.lemmas.Bool.{cases_eq, cases_lt}
use Rattle.std.proofs.lemmas.List.{map-set, set-get_or, get_or_past, get_or_push, get_or_append_left, get_or_default, get_or-take, get_or-map, get_or-replicate, length-map, length_push}
use Rattle.shared_queues.specs.Firsts.{Standing, NoneOwedTo, IsEarliest}
use Rattle.shared_queues.specs.Tree.{no_place, place_at, whos_of, firsts_of, own, least_at, joined, AllRight, AllRightBut}
use Rattle.shared_queues.specs.declared.firsts.Place.{Place}

-- ---- past the last place there is none
pub past : (ps : List Place) (k w : ℕ) → length ps ≤ k → w < 8 → least_at ps k w ≡ 18446744073709551615
past ps k w beyond few = ap (λ (p : Place). get_or p.least w 0) (get_or_past ps k no_place beyond) ∙ get_or-replicate 8 w 18446744073709551615 0 few

-- ---- what is read of a place
pub least_read : (ps : List Place) (k w : ℕ) (x : Place) → x ≡ get_or ps k x → k < length ps → get_or x.least w 0 ≡ least_at ps k w
least_read ps k w x read less = ap (λ (p : Place). get_or p.least w 0) (read ∙ get_or_default ps k x no_place less)

pub own_read : (ps : List Place) (k w : ℕ) (x : Place) → x ≡ get_or ps k x → k < length ps → own x w ≡ own (place_at ps k) w
own_read ps k w x read less = ap (λ (p : Place). own p w) (read ∙ get_or_default ps k x no_place less)

-- ---- a field of one place
pub whos-set : (ps : List Place) (k : ℕ) (p : Place) → whos_of (set ps k p) ≡ set (whos_of ps) k p.who
whos-set ps k p = map-set (λ (x : Place). x.who) ps k p

pub firsts-set : (ps : List Place) (k : ℕ) (p : Place) → firsts_of (set ps k p) ≡ set (firsts_of ps) k p.first
firsts-set ps k p = map-set (λ (x : Place). x.first) ps k p

pub whos_same : (ps : List Place) (k : ℕ) (p x : Place) → p.who ≡ (get_or ps k x).who → whos_of (set ps k p) ≡ whos_of ps
whos_same ps k p x same = whos-set ps k p ∙ ap (λ n. set (whos_of ps) k n) same ∙ sym (whos-set ps k (get_or ps k x)) ∙ ap whos_of (set-get_or ps k x)

pub firsts_same : (ps : List Place) (k : ℕ) (p x : Place) → p.first ≡ (get_or ps k x).first → firsts_of (set ps k p) ≡ firsts_of ps
firsts_same ps k p x same = firsts-set ps k p ∙ ap (λ n. set (firsts_of ps) k n) same ∙ sym (firsts-set ps k (get_or ps k x)) ∙ ap firsts_of (set-get_or ps k x)

-- ---- one place was made right
pub record Refreshed (ps qs : List Place) (at : ℕ) : Type 0 where
  pub long : length qs ≡ length ps
  pub least : (w : ℕ) → w < 8 → least_at qs at w ≡ joined ps at w
  pub own : (w : ℕ) → own (place_at qs at) w ≡ own (place_at ps at) w
  pub others : (k : ℕ) → (k ≡ at → ⊥) → place_at qs k ≡ place_at ps k

-- all are right but the one that the place made right stands below
pub refreshed : (ps qs : List Place) (at k w : ℕ) → AllRightBut ps at → Refreshed ps qs at → k < length qs → (2 * k + 1 ≡ at → ⊥) → (2 * k + 2 ≡ at → ⊥) → w < 8 → least_at qs k w ≡ joined qs k w
refreshed ps qs at k w right r less left_apart right_apart few =
    let left : least_at qs (2 * k + 1) w ≡ least_at ps (2 * k + 1) w = ap (λ (p : Place). get_or p.least w 0) (r.others (2 * k + 1) left_apart) in
    let right_below : least_at qs (2 * k + 2) w ≡ least_at ps (2 * k + 2) w = ap (λ (p : Place). get_or p.least w 0) (r.others (2 * k + 2) right_apart) in
    ⊎_elim
    (λ (here : k ≡ at).
    let old : joined ps k w ≡ joined ps at w = ap (λ n. joined ps n w) here in
    let mine : own (place_at qs k) w ≡ own (place_at ps k) w = ap (λ n. own (place_at qs n) w) here ∙ r.own w ∙ ap (λ n. own (place_at ps n) w) (sym here) in
    ap (λ n. least_at qs n w) here ∙ r.least w few ∙ sym old ∙ (λ i. min (sym mine i) (min (sym left i) (sym right_below i))))
    (λ (apart : k ≡ at → ⊥).
    let there : k < length ps = omega (arith, less, r.long) in
    ap (λ (p : Place). get_or p.least w 0) (r.others k apart) ∙ right k w there apart few ∙ (λ i. min (own (sym (r.others k apart) i) w) (min (sym left i) (sym right_below i))))
    (cases_eq k at)

pub one_up : (ps qs : List Place) (at : ℕ) → 0 < at → AllRightBut ps at → Refreshed ps qs at → AllRightBut qs ((at - 1) / 2)
one_up ps qs at some right r = λ k w less apart few. refreshed ps qs at k w right r less (λ e. apart (omega (arith, e))) (λ e. apart (omega (arith, e))) few

pub at_the_top : (ps qs : List Place) (at : ℕ) → at ≡ 0 → AllRightBut ps at → Refreshed ps qs at → AllRight qs
at_the_top ps qs at top right r = λ k w less few. refreshed ps qs at k w right r less (λ e. absurd (omega (arith, e, top))) (λ e. absurd (omega (arith, e, top))) few

-- one place was changed
pub changed : (ps : List Place) (at : ℕ) (p x : Place) → AllRight ps → at < length ps → p.least ≡ (get_or ps at x).least → AllRightBut (set ps at p) at
changed ps at p x right within same = λ k w less apart few.
    let here : place_at (set ps at p) k ≡ place_at ps k = get_or-set_other ps at k p no_place apart in
    let there : k < length ps = omega (arith, less, length-set ps at p) in
    leasts k w ∙ right k w there few ∙ (λ i. min (own (sym here i) w) (min (sym (leasts (2 * k + 1) w) i) (sym (leasts (2 * k + 2) w) i)))
  where
    leasts : (k w : ℕ) → least_at (set ps at p) k w ≡ least_at ps k w
    leasts k w =
        ⊎_elim
        (λ (e : k ≡ at). ap (λ n. least_at (set ps at p) n w) e ∙ ap (λ (q : Place). get_or q.least w 0) (get_or-set_same ps at p no_place within) ∙ ap (λ l. get_or l w 0) same ∙ ap (λ (q : Place). get_or q.least w 0) (get_or_default ps at x no_place within) ∙ ap (λ n. least_at ps n w) (sym e))
        (λ (apart : k ≡ at → ⊥). ap (λ (q : Place). get_or q.least w 0) (get_or-set_other ps at k p no_place apart))
        (cases_eq k at)

-- ---- a place more, and the last one gone
pub leasts_push : (ps : List Place) (p : Place) (k w : ℕ) → p.least ≡ replicate 8 18446744073709551615 → least_at (ps ++ p ∷ []) k w ≡ least_at ps k w
leasts_push ps p k w none =
    ⊎_elim
    (λ (less : k < length ps). ap (λ (q : Place). get_or q.least w 0) (get_or_append_left ps (p ∷ []) no_place k less))
    (λ (beyond : length ps ≤ k).
    let old : place_at ps k ≡ no_place = get_or_past ps k no_place beyond in
    ⊎_elim
    (λ (last : length ps ≡ k). ap (λ (q : Place). get_or q.least w 0) (get_or_push ps p no_place k last) ∙ ap (λ l. get_or l w 0) none ∙ ap (λ (q : Place). get_or q.least w 0) (sym old))
    (λ (apart : length ps ≡ k → ⊥).
    let further : length (ps ++ p ∷ []) ≤ k = omega (arith, beyond, apart, length_push ps p) in
    ap (λ (q : Place). get_or q.least w 0) (get_or_past (ps ++ p ∷ []) k no_place further ∙ sym old))
    (cases_eq (length ps) k))
    (cases_lt k (length ps))

same_none : (b : Bool) (n : ℕ) → cond b n n ≡ n
same_none true n = refl
same_none false n = refl

own_none : (p : Place) (w : ℕ) → p.first ≡ 18446744073709551615 → own p w ≡ 18446744073709551615
own_none p w none = ap (λ n. cond (p.who == w + 1) n 18446744073709551615) none ∙ same_none (p.who == w + 1) 18446744073709551615

pub right_push : (ps : List Place) (p : Place) → p.least ≡ replicate 8 18446744073709551615 → p.first ≡ 18446744073709551615 → AllRight ps → AllRight (ps ++ p ∷ [])
right_push ps p none first right = λ k w less few.
    let left = leasts_push ps p (2 * k + 1) w none in
    let right_below = leasts_push ps p (2 * k + 2) w none in
    ⊎_elim
    (λ (there : k < length ps).
    let here : place_at (ps ++ p ∷ []) k ≡ place_at ps k = get_or_append_left ps (p ∷ []) no_place k there in
    leasts_push ps p k w none ∙ right k w there few ∙ (λ i. min (own (sym here i) w) (min (sym left i) (sym right_below i))))
    (λ (beyond : length ps ≤ k).
    let last : length ps ≡ k = omega (arith, beyond, less, length_push ps p) in
    let mine : own (place_at (ps ++ p ∷ []) k) w ≡ 18446744073709551615 = ap (λ (q : Place). own q w) (get_or_push ps p no_place k last) ∙ own_none p w first in
    omega (arith, mine, left, right_below, leasts_push ps p k w none, past ps k w beyond few, past ps (2 * k + 1) w (omega (arith, beyond)) few, past ps (2 * k + 2) w (omega (arith, beyond)) few))
    (cases_lt k (length ps))

pub right_less : (ps qs : List Place) → 0 < length ps → qs ≡ take (length ps - 1) ps → get_or (firsts_of ps) (length ps - 1) 18446744073709551615 ≡ 18446744073709551615 → AllRight ps → AllRight qs
right_less ps qs some is none right = λ k w less few.
    let long : length qs ≡ length ps - 1 = ap length is ∙ omega (arith, length-take (length ps - 1) ps) in
    let here : place_at qs k ≡ place_at ps k = ap (λ l. place_at l k) is ∙ get_or-take (length ps - 1) ps k no_place (omega (arith, less, long)) in
    let there : k < length ps = omega (arith, less, long) in
    leasts k w long few ∙ right k w there few ∙ (λ i. min (own (sym here i) w) (min (sym (leasts (2 * k + 1) w long few) i) (sym (leasts (2 * k + 2) w long few) i)))
  where
    leasts : (k w : ℕ) → length qs ≡ length ps - 1 → w < 8 → least_at qs k w ≡ least_at ps k w
    leasts k w long few =
        ⊎_elim
        (λ (less : k < length qs). ap (λ (l : List Place). least_at l k w) is ∙ ap (λ (q : Place). get_or q.least w 0) (get_or-take (length ps - 1) ps k no_place (omega (arith, less, long))))
        (λ (beyond : length qs ≤ k).
        past qs k w beyond few
        ∙ ⊎_elim
        (λ (last : k ≡ length ps - 1).
        let first : (place_at ps k).first ≡ 18446744073709551615 = sym (get_or-map (λ (p : Place). p.first) ps k no_place 18446744073709551615 (omega (arith, last, some))) ∙ ap (λ n. get_or (firsts_of ps) n 18446744073709551615) last ∙ none in
        omega (arith, right k w (omega (arith, last, some)) few, own_none (place_at ps k) w first, past ps (2 * k + 1) w (omega (arith, last, some)) few, past ps (2 * k + 2) w (omega (arith, last, some)) few))
        (λ (apart : k ≡ length ps - 1 → ⊥). sym (past ps k w (omega (arith, apart, beyond, long, some)) few))
        (cases_eq k (length ps - 1)))
        (cases_lt k (length qs))

-- ---- from the top down
pub top_le : (n : ℕ) (ps : List Place) (w k : ℕ) → AllRight ps → w < 8 → k < n → k < length ps → least_at ps 0 w ≤ least_at ps k w
top_le zero ps w k right few less there = absurd (omega (arith, less))
top_le (suc n) ps w k right few less there =
    ⊎_elim
    (λ (top : k ≡ 0). omega (arith, ap (λ m. least_at ps m w) top))
    (λ (below : k ≡ 0 → ⊥).
    let j = (k - 1) / 2 in
    let up = top_le n ps w j right few (omega (arith, less, below)) (omega (arith, there, below)) in
    let here = right j w (omega (arith, there, below)) few in
    ⊎_elim
    (λ (left : k ≡ 2 * j + 1). omega (arith, up, here, ap (λ m. least_at ps m w) left))
    (λ (other : k ≡ 2 * j + 1 → ⊥).
    let other_side : k ≡ 2 * j + 2 = omega (arith, other, below) in
    omega (arith, up, here, ap (λ m. least_at ps m w) other_side))
    (cases_eq k (2 * j + 1)))
    (cases_eq k 0)

-- the least number stands here, or to the left, or to the right
pub record Stands (ps : List Place) (k w least : ℕ) : Type 0 where
  pub within : k < length ps
  pub is : least_at ps k w ≡ least

pub to_the_left : (ps : List Place) (k w least : ℕ) → w < 8 → least < 18446744073709551615 → least_at ps k w ≡ least → Stands ps k w least
to_the_left ps k w least few some is =
    ⊎_elim (λ (within : k < length ps). let S : Stands ps k w least = record { within = within; is = is } in S) (λ (beyond : length ps ≤ k). absurd (omega (arith, past ps k w beyond few, is, some))) (cases_lt k (length ps))

pub to_the_right : (ps : List Place) (k w least : ℕ) → AllRight ps → w < 8 → least < 18446744073709551615 → k < length ps → least_at ps k w ≡ least → (own (place_at ps k) w ≡ least → ⊥) → (least_at ps (2 * k + 1) w ≡ least → ⊥) → Stands ps (2 * k + 1 + 1) w least
to_the_right ps k w least right few some within is mine left =
    let e : 2 * k + 1 + 1 ≡ 2 * k + 2 = omega arith in
    to_the_left ps (2 * k + 1 + 1) w least few some (ap (λ m. least_at ps m w) e ∙ omega (arith, right k w within few, is, mine, left))

-- ---- the earliest one
who_own : (p : Place) (who w : ℕ) → p.who ≡ who → w + 1 ≡ who → own p w ≡ p.first
who_own p who w is same = ap (λ b. cond b p.first 18446744073709551615) (eq-eqb p.who (w + 1) (is ∙ sym same))

own_who : (p : Place) (who w least : ℕ) → own p w ≡ least → least < 18446744073709551615 → w + 1 ≡ who → (p.who ≡ who) × (p.first ≡ least)
own_who p who w least is some same =
    ⊎_elim
    (λ (mine : p.who ≡ w + 1). (mine ∙ same, sym (who_own p (w + 1) w mine refl) ∙ is))
    (λ (apart : p.who ≡ w + 1 → ⊥). absurd (omega (arith, ap (λ b. cond b p.first 18446744073709551615) (ne_eqb p.who (w + 1) apart), is, some)))
    (cases_eq p.who (w + 1))

who_at : (ps : List Place) (k : ℕ) → k < length ps → get_or (whos_of ps) k 0 ≡ (place_at ps k).who
who_at ps k less = get_or-map (λ (p : Place). p.who) ps k no_place 0 less

first_at : (ps : List Place) (k : ℕ) → k < length ps → get_or (firsts_of ps) k 18446744073709551615 ≡ (place_at ps k).first
first_at ps k less = get_or-map (λ (p : Place). p.first) ps k no_place 18446744073709551615 less

-- each of a worker's queues has a first number that is no less than the one at the top
top_first : (ps : List Place) (who w j : ℕ) → AllRight ps → w < 8 → w + 1 ≡ who → j < length ps → get_or (whos_of ps) j 0 ≡ who → least_at ps 0 w ≤ get_or (firsts_of ps) j 18446744073709551615
top_first ps who w j right few same less mine =
    omega (arith, top_le (suc j) ps w j right few (omega arith) less, right j w less few, who_own (place_at ps j) who w (sym (who_at ps j less) ∙ mine) same, first_at ps j less)

pub none_owed : (ps : List Place) (s : Standing) (who w : ℕ) → record { whos = whos_of ps; firsts = firsts_of ps } ≡ s → AllRight ps → w < 8 → w + 1 ≡ who → least_at ps 0 w ≡ 18446744073709551615 → NoneOwedTo s who
none_owed ps s who w view right few same none =
    subst (λ (x : Standing). NoneOwedTo x who) view (record { none = λ j less mine. omega (arith, none, top_first ps who w j right few same (omega (arith, less, length-map ps (λ (p : Place). p.who))) mine) })

pub one_owed : (ps : List Place) (s : Standing) (who w k least : ℕ) → record { whos = whos_of ps; firsts = firsts_of ps } ≡ s → AllRight ps → w < 8 → w + 1 ≡ who → least_at ps 0 w ≡ least → least < 18446744073709551615 → k < length ps → own (place_at ps k) w ≡ least → IsEarliest s who k
one_owed ps s who w k least view right few same top some within here =
    let mine = own_who (place_at ps k) who w least here some same in
    let long : length (whos_of ps) ≡ length ps = length-map ps (λ (p : Place). p.who) in
    subst (λ (x : Standing). IsEarliest x who k) view
    (record {
      within = omega (arith, within, long);
      registrant = who_at ps k within ∙ mine.0;
      some = omega (arith, first_at ps k within, mine.1, some);
      first = λ j less theirs. omega (arith, first_at ps k within, mine.1, top, top_first ps who w j right few same (omega (arith, less, long)) theirs);
    })
