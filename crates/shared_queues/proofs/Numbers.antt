-- What the notices' numbers keep.
use Rattle.std.proofs.Common.{◌≡◌, ℕ, suc, ◌+◌, ◌-◌, ◌<◌, ◌≤◌, ◌==◌, ◌||◌, true, false, cond, List, [], ◌∷◌, ◌++◌, length, get_or, set, take, Some, None, All, Global, refl, sym, ap, subst, ◌∙◌, arith, ⊎_elim, eq-eqb, ne_eqb, get_or-set_same, get_or-set_other, length-set, length-take}
use Rattle.std.specs.Prelude.{count_by}
use Rattle.std.specs.declared.collections.VecDeque.{VecDeque}
use Rattle.std.proofs.lemmas.Bool.{cases_eq, cases_lt, false_from_ne_true}
use Rattle.std.proofs.lemmas.List.{append-nil, map-set, set-get_or, get_or_past, get_or_push, get_or_append_left, get_or-take, get_or-map, length_push, take_all, take_more, nil_from_length}
use Rattle.std.proofs.lemmas.List.Elements.{All-head, All-tail}
use Rattle.std.proofs.lemmas.List.Sums.{sum_by-append}
use Rattle.shared_queues.specs.Firsts.{Standing, NoneOwedTo, IsEarliest}
use Rattle.shared_queues.specs.Owing.{Owing, is_for, oldest, but_oldest, lists_of, has, owner_of, owed_from, first_number, IsRising, IsNumbered}
use Rattle.shared_queues.proofs.OwingLemmas.{has_other, has_new, has_rest, rising_has, rising_lower, rising_higher, rising_more, first_le, first_gone, owner-set, owner_none, owner_is, owner_push, owner_all, owed_same, owed_split, owed_all, oldest_behind, oldest_here}

-- ---- the lists of the queues
pub lists-set : (ds : List (VecDeque ℕ Global)) (k : ℕ) (d : VecDeque ℕ Global) → lists_of (set ds k d) ≡ set (lists_of ds) k d.items
lists-set ds k d = map-set (λ (x : VecDeque ℕ Global). x.items) ds k d

pub lists_same : (ds : List (VecDeque ℕ Global)) (k : ℕ) (d x : VecDeque ℕ Global) → d.items ≡ (get_or ds k x).items → lists_of (set ds k d) ≡ lists_of ds
lists_same ds k d x same = lists-set ds k d ∙ ap (λ l. set (lists_of ds) k l) same ∙ sym (lists-set ds k (get_or ds k x)) ∙ ap lists_of (set-get_or ds k x)

pub list_at : (ds : List (VecDeque ℕ Global)) (k : ℕ) (x : VecDeque ℕ Global) → x ≡ get_or ds k x → k < length ds → x.items ≡ get_or (lists_of ds) k []
list_at ds k x read less = ap (λ (d : VecDeque ℕ Global). d.items) read ∙ sym (get_or-map (λ (d : VecDeque ℕ Global). d.items) ds k x [] less)

get_push : {X : Type 0} (xs : List X) (d : X) (i : ℕ) → get_or (xs ++ d ∷ []) i d ≡ get_or xs i d
get_push xs d i =
    ⊎_elim
    (λ (less : i < length xs). get_or_append_left xs (d ∷ []) d i less)
    (λ (beyond : length xs ≤ i).
    ⊎_elim
    (λ (last : length xs ≡ i). get_or_push xs d d i last ∙ sym (get_or_past xs i d beyond))
    (λ (apart : length xs ≡ i → ⊥). get_or_past (xs ++ d ∷ []) i d (omega (arith, beyond, apart, length_push xs d)) ∙ sym (get_or_past xs i d beyond))
    (cases_eq (length xs) i))
    (cases_lt i (length xs))

get_less : {X : Type 0} (xs : List X) (d : X) (m i : ℕ) → length xs ≤ m + 1 → get_or xs m d ≡ d → get_or (take m xs) i d ≡ get_or xs i d
get_less xs d m i long none =
    ⊎_elim
    (λ (less : i < m). get_or-take m xs i d less)
    (λ (beyond : m ≤ i).
    let gone : get_or (take m xs) i d ≡ d = get_or_past (take m xs) i d (omega (arith, length-take m xs, beyond)) in
    ⊎_elim
    (λ (last : m ≡ i). gone ∙ sym none ∙ ap (λ n. get_or xs n d) last)
    (λ (apart : m ≡ i → ⊥). gone ∙ sym (get_or_past xs i d (omega (arith, apart, beyond, long))))
    (cases_eq m i))
    (cases_lt i m)

-- what holds at k of what is put there, and elsewhere of what was there
by_place : {X : Type 0} (P : ℕ → X → Type 0) (xs : List X) (k : ℕ) (x d : X) → k < length xs → P k x → ((i : ℕ) → (i ≡ k → ⊥) → P i (get_or xs i d)) → (i : ℕ) → P i (get_or (set xs k x) i d)
by_place {X} P xs k x d within here others i =
    ⊎_elim
    (λ (e : i ≡ k).
    let Q : ℕ → Type 0 = λ n. P n (get_or (set xs k x) n d) in
    let R : X → Type 0 = λ y. P k y in
    subst Q (sym e) (subst R (sym (get_or-set_same xs k x d within)) here))
    (λ (apart : i ≡ k → ⊥).
    let R : X → Type 0 = λ y. P i y in
    subst R (sym (get_or-set_other xs k i x d apart)) (others i apart))
    (cases_eq i k)

-- ---- what is known of them
has_within : (t i : ℕ) (ls : List (List ℕ)) → has t (get_or ls i []) ≡ true → i < length ls
has_within t i ls h =
    ⊎_elim
    (λ (less : i < length ls). less)
    (λ (beyond : length ls ≤ i).
    let none : has t (get_or ls i []) ≡ false = ap (has t) (get_or_past ls i [] beyond) in
    absurd (cc))
    (cases_lt i (length ls))

pub indexes : (s : Standing) (ls : List (List ℕ)) (next : ℕ) → IsNumbered s ls next → All (λ k. k < length s.whos) (owed_from next 0 ls)
indexes s ls next n =
    let P : ℕ → Type 0 = λ k. k < length s.whos in
    owed_all P ls next 0 (λ u low high. owner_all P u 0 ls (λ i h. omega (arith, has_within u i ls h, n.long)))

hit : ℕ → ℕ → ℕ
hit k x = cond (x == k) 1 0

hit_here : (k x : ℕ) → x ≡ k → count_by (λ y. y == k) (x ∷ []) ≡ 1
hit_here k x e = ap (λ b. let n : ℕ = cond b 1 0 in 0 + n) (eq-eqb x k e)

hit_apart : (k x : ℕ) → (x ≡ k → ⊥) → count_by (λ y. y == k) (x ∷ []) ≡ 0
hit_apart k x ne = ap (λ b. let n : ℕ = cond b 1 0 in 0 + n) (ne_eqb x k ne)

count-append : (k : ℕ) (xs ys : List ℕ) → count_by (λ y. y == k) (xs ++ ys) ≡ count_by (λ y. y == k) xs + count_by (λ y. y == k) ys
count-append k xs ys = sum_by-append (λ y. cond (y == k) 1 0) xs ys

count_none : (xs : List ℕ) (k : ℕ) → All (λ x. x < k) xs → count_by (λ x. x == k) xs ≡ 0
count_none [] k all = refl
count_none (x ∷ xs) k all =
    let first : x < k = All-head (λ n. n < k) x xs all in
    omega (arith, count-append k (x ∷ []) xs, hit_apart k x (λ e. absurd (omega (arith, first, e))), count_none xs k (All-tail (λ n. n < k) x xs all))

-- ---- another registrant
pub numbered_who : (s : Standing) (ls : List (List ℕ)) (next k who : ℕ) → IsNumbered s ls next → IsNumbered (record s { whos = set s.whos k who }) ls next
numbered_who s ls next k who n = record {
  long = n.long ∙ sym (length-set s.whos k who);
  as_many = n.as_many ∙ sym (length-set s.whos k who);
  few = omega (arith, n.few, length-set s.whos k who);
  firsts = n.firsts;
  rising = n.rising;
  apart = n.apart;
  counted = n.counted;
  last = n.last;
}

-- ---- a queue more
pub numbered_push : (s : Standing) (ls : List (List ℕ)) (next who : ℕ) → IsNumbered s ls next → length s.whos < 65536 →
    IsNumbered (record { whos = s.whos ++ who ∷ []; firsts = s.firsts ++ 18446744073709551615 ∷ [] }) (ls ++ [] ∷ []) next × (owed_from next 0 (ls ++ [] ∷ []) ≡ owed_from next 0 ls)
numbered_push s ls next who n few =
    let owed : owed_from next 0 (ls ++ [] ∷ []) ≡ owed_from next 0 ls = owed_same (ls ++ [] ∷ []) ls next 0 (λ u low high. owner_push u 0 ls) in
    let at : (k : ℕ) → get_or (ls ++ [] ∷ []) k [] ≡ get_or ls k [] = λ k. get_push ls [] k in (
      record {
        long = omega (arith, n.long, length_push ls [], length_push s.whos who);
        as_many = omega (arith, n.as_many, length_push s.firsts 18446744073709551615, length_push s.whos who);
        few = omega (arith, few, length_push s.whos who);
        firsts = λ k. get_push s.firsts 18446744073709551615 k ∙ n.firsts k ∙ ap first_number (sym (at k));
        rising = λ k. subst (IsRising 0 next) (sym (at k)) (n.rising k);
        apart = λ t j k one two. n.apart t j k (ap (has t) (sym (at j)) ∙ one) (ap (has t) (sym (at k)) ∙ two);
        counted = λ k. ap (count_by (λ x. x == k)) owed ∙ n.counted k ∙ ap length (sym (at k));
        last = n.last;
      },
      owed,
    )

-- ---- the last queue gone
pub last_empty : (s : Standing) (ls : List (List ℕ)) (next : ℕ) → IsNumbered s ls next → All (λ k. k < length s.whos - 1) (owed_from next 0 ls) → get_or ls (length s.whos - 1) [] ≡ []
last_empty s ls next n none = nil_from_length (get_or ls (length s.whos - 1) []) (sym (n.counted (length s.whos - 1)) ∙ count_none (owed_from next 0 ls) (length s.whos - 1) none)

pub last_first : (s : Standing) (ls : List (List ℕ)) (next : ℕ) → IsNumbered s ls next → All (λ k. k < length s.whos - 1) (owed_from next 0 ls) → get_or s.firsts (length s.whos - 1) 18446744073709551615 ≡ 18446744073709551615
last_first s ls next n none = n.firsts (length s.whos - 1) ∙ ap first_number (last_empty s ls next n none)

pub numbered_less : (s : Standing) (ls : List (List ℕ)) (next m : ℕ) → IsNumbered s ls next → All (λ k. k < length s.whos - 1) (owed_from next 0 ls) → length s.whos ≡ m + 1 →
    IsNumbered (record { whos = take m s.whos; firsts = take m s.firsts }) (take m ls) next × (owed_from next 0 (take m ls) ≡ owed_from next 0 ls)
numbered_less s ls next m n none more =
    let e : length s.whos - 1 ≡ m = omega (arith, more) in
    let empty : get_or ls m [] ≡ [] = ap (λ i. get_or ls i []) (sym e) ∙ last_empty s ls next n none in
    let first : get_or s.firsts m 18446744073709551615 ≡ 18446744073709551615 = n.firsts m ∙ ap first_number empty in
    let at : (k : ℕ) → get_or (take m ls) k [] ≡ get_or ls k [] = λ k. get_less ls [] m k (omega (arith, n.long, more)) empty in
    let whole : take m ls ++ [] ∷ [] ≡ ls = ap (λ l. take m ls ++ l ∷ []) (sym empty) ∙ sym (take_more ls m [] (omega (arith, n.long, more))) ∙ take_all (m + 1) ls (omega (arith, n.long, more)) in
    let owed : owed_from next 0 (take m ls) ≡ owed_from next 0 ls = owed_same (take m ls) ls next 0 (λ u low high. sym (owner_push u 0 (take m ls)) ∙ ap (owner_of u 0) whole) in (
      record {
        long = omega (arith, n.long, more, length-take m ls, length-take m s.whos);
        as_many = omega (arith, n.as_many, more, length-take m s.firsts, length-take m s.whos);
        few = omega (arith, n.few, length-take m s.whos);
        firsts = λ k. get_less s.firsts 18446744073709551615 m k (omega (arith, n.as_many, more)) first ∙ n.firsts k ∙ ap first_number (sym (at k));
        rising = λ k. subst (IsRising 0 next) (sym (at k)) (n.rising k);
        apart = λ t j k one two. n.apart t j k (ap (has t) (sym (at j)) ∙ one) (ap (has t) (sym (at k)) ∙ two);
        counted = λ k. ap (count_by (λ x. x == k)) owed ∙ n.counted k ∙ ap length (sym (at k));
        last = n.last;
      },
      owed,
    )

-- ---- one notice more
pub record OneMore (s : Standing) (ls : List (List ℕ)) (next k : ℕ) (l : List ℕ) : Type 0 where
  pub numbered : IsNumbered (record s { firsts = set s.firsts k (first_number (l ++ next ∷ [])) }) (set ls k (l ++ next ∷ [])) (next + 1)
  pub owed : owed_from (next + 1) 0 (set ls k (l ++ next ∷ [])) ≡ owed_from next 0 ls ++ k ∷ []

pub one_more : (s : Standing) (ls : List (List ℕ)) (next k : ℕ) (l : List ℕ) → IsNumbered s ls next → k < length s.whos → l ≡ get_or ls k [] → next < 18446744073709551615 → OneMore s ls next k l
one_more s ls next k l n less is room = record {
  numbered = record {
    long = length-set ls k (l ++ next ∷ []) ∙ n.long;
    as_many = length-set s.firsts k (first_number (l ++ next ∷ [])) ∙ n.as_many;
    few = n.few;
    firsts = λ i. by_place (λ j v. v ≡ first_number (get_or (set ls k (l ++ next ∷ [])) j [])) s.firsts k (first_number (l ++ next ∷ [])) 18446744073709551615 (omega (arith, less, n.as_many)) (ap first_number (sym (get_or-set_same ls k (l ++ next ∷ []) [] there)))
        (λ j apart. n.firsts j ∙ ap first_number (sym (get_or-set_other ls k j (l ++ next ∷ []) [] apart))) i;
    rising = by_place (λ j v. IsRising 0 (next + 1) v) ls k (l ++ next ∷ []) [] there (rising_more 0 next l (omega arith) (subst (IsRising 0 next) (sym is) (n.rising k))) (λ j apart. rising_higher 0 next (get_or ls j []) (n.rising j));
    apart = λ t i j one two.
        ⊎_elim
        (λ (e : t ≡ next). only i (ap (λ u. has u (get_or (set ls k (l ++ next ∷ [])) i [])) (sym e) ∙ one) ∙ sym (only j (ap (λ u. has u (get_or (set ls k (l ++ next ∷ [])) j [])) (sym e) ∙ two)))
        (λ (ne : t ≡ next → ⊥). n.apart t i j (sym (older t i ne) ∙ one) (sym (older t j ne) ∙ two))
        (cases_eq t next);
    counted = λ j. counts j;
    last = omega (arith, room);
  };
  owed = owed;
}
  where
    there : k < length ls
    there = omega (arith, less, n.long)

    -- only the queue at k has the new number
    only : (i : ℕ) → has next (get_or (set ls k (l ++ next ∷ [])) i []) ≡ true → i ≡ k
    only i h =
        ⊎_elim
        (λ (e : i ≡ k). e)
        (λ (apart : i ≡ k → ⊥). absurd (omega (arith, (rising_has 0 next next (get_or ls i []) (n.rising i) (ap (has next) (sym (get_or-set_other ls k i (l ++ next ∷ []) [] apart)) ∙ h)).1)))
        (cases_eq i k)

    older : (t i : ℕ) → (t ≡ next → ⊥) → has t (get_or (set ls k (l ++ next ∷ [])) i []) ≡ has t (get_or ls i [])
    older t i ne =
        by_place (λ j v. has t v ≡ has t (get_or ls j [])) ls k (l ++ next ∷ []) [] there (has_other t next l (λ e. ne (sym e)) ∙ ap (has t) is) (λ j apart. refl) i

    owed : owed_from (next + 1) 0 (set ls k (l ++ next ∷ [])) ≡ owed_from next 0 ls ++ k ∷ []
    owed =
        let ms = set ls k (l ++ next ∷ []) in
        let e : 0 + next ≡ next = omega arith in
        let mine : owner_of next 0 ms ≡ (0 + k) ∷ [] = owner_is next 0 ms k (ap (has next) (get_or-set_same ls k (l ++ next ∷ []) [] there) ∙ has_new next l) only in
        let f : 0 + k ≡ k = omega arith in
        owed_split ms next 1 0 ∙ (λ i. owed_same ms ls next 0 (λ u low high. owner-set u 0 ls k (l ++ next ∷ []) (has_other u next l (λ g. absurd (omega (arith, g, high))) ∙ ap (has u) is)) i ++ owed_from 1 (e i) ms)
        ∙ ap (λ r. owed_from next 0 ls ++ r) (append-nil (owner_of next 0 ms) ∙ mine ∙ ap (λ m. m ∷ []) f)

    counts : (j : ℕ) → count_by (λ x. x == j) (owed_from (next + 1) 0 (set ls k (l ++ next ∷ []))) ≡ length (get_or (set ls k (l ++ next ∷ [])) j [])
    counts j =
        let all : count_by (λ x. x == j) (owed_from (next + 1) 0 (set ls k (l ++ next ∷ []))) ≡ length (get_or ls j []) + count_by (λ x. x == j) (k ∷ []) =
        ap (count_by (λ x. x == j)) owed ∙ count-append j (owed_from next 0 ls) (k ∷ []) ∙ ap (λ m. m + count_by (λ x. x == j) (k ∷ [])) (n.counted j) in
        ⊎_elim
        (λ (e : j ≡ k).
        let here : length (get_or (set ls k (l ++ next ∷ [])) j []) ≡ length l + 1 = ap (λ i. length (get_or (set ls k (l ++ next ∷ [])) i [])) e ∙ ap length (get_or-set_same ls k (l ++ next ∷ []) [] there) ∙ length_push l next in
        let was : length (get_or ls j []) ≡ length l = ap (λ i. length (get_or ls i [])) e ∙ ap length (sym is) in
        omega (arith, all, here, was, hit_here j k (sym e)))
        (λ (apart : j ≡ k → ⊥). omega (arith, all, ap length (get_or-set_other ls k j (l ++ next ∷ []) [] apart), hit_apart j k (λ e. apart (sym e))))
        (cases_eq j k)

-- ---- one notice fewer
abbrev pub owing_of : Standing → List (List ℕ) → ℕ → Owing
owing_of s ls next = record { whos = s.whos; owed = owed_from next 0 ls }

pub record OneLess (s : Standing) (ls : List (List ℕ)) (next who k : ℕ) (xs : List ℕ) : Type 0 where
  pub numbered : IsNumbered (record s { firsts = set s.firsts k (first_number xs) }) (set ls k xs) next
  pub index : Some k ≡ oldest (owing_of s ls next) who (owed_from next 0 ls)
  pub owed : owed_from next 0 (set ls k xs) ≡ but_oldest (owing_of s ls next) who (owed_from next 0 ls)

-- an earlier number is not for a queue of this worker
not_mine : (s : Standing) (ls : List (List ℕ)) (next who x u i : ℕ) (owed : List ℕ) → IsNumbered s ls next → ((j : ℕ) → j < length s.whos → get_or s.whos j 0 ≡ who → x ≤ get_or s.firsts j 18446744073709551615) → u < x → has u (get_or ls i []) ≡ true → is_for (record { whos = s.whos; owed = owed }) who i ≡ false
not_mine s ls next who x u i owed n first low h =
    ne_eqb (get_or s.whos i 0) who (λ mine. absurd (omega (arith, low, first i (omega (arith, has_within u i ls h, n.long)) mine, n.firsts i, first_le 0 next u (get_or ls i []) (n.rising i) h)))

pub one_less : (s : Standing) (ls : List (List ℕ)) (next who k x : ℕ) (xs : List ℕ) → IsNumbered s ls next → IsEarliest s who k → get_or ls k [] ≡ x ∷ xs → OneLess s ls next who k xs
one_less s ls next who k x xs n earliest is = record {
  numbered = record {
    long = length-set ls k xs ∙ n.long;
    as_many = length-set s.firsts k (first_number xs) ∙ n.as_many;
    few = n.few;
    firsts = λ i. by_place (λ j v. v ≡ first_number (get_or (set ls k xs) j [])) s.firsts k (first_number xs) 18446744073709551615 (omega (arith, earliest.within, n.as_many)) (ap first_number (sym (get_or-set_same ls k xs [] there)))
        (λ j apart. n.firsts j ∙ ap first_number (sym (get_or-set_other ls k j xs [] apart))) i;
    rising = by_place (λ j v. IsRising 0 next v) ls k xs [] there (rising_lower 0 (x + 1) next xs (omega arith) rises.2) (λ j apart. n.rising j);
    apart = λ t i j one two. n.apart t i j (still t i one) (still t j two);
    counted = counts;
    last = n.last;
  };
  index = sym (ap (oldest o who) before ∙ (oldest_behind o who earlier (k ∷ later) not_for).0 ∙ (oldest_here o who k later mine).0);
  owed = after ∙ sym (ap (but_oldest o who) before ∙ (oldest_behind o who earlier (k ∷ later) not_for).1 ∙ ap (λ r. earlier ++ r) (oldest_here o who k later mine).1);
}
  where
    o : Owing
    o = owing_of s ls next

    there : k < length ls
    there = omega (arith, earliest.within, n.long)

    rises : IsRising 0 next (x ∷ xs)
    rises = subst (IsRising 0 next) is (n.rising k)

    first : get_or s.firsts k 18446744073709551615 ≡ x
    first = n.firsts k ∙ ap first_number is

    -- what a queue has now it had before
    still : (t i : ℕ) → has t (get_or (set ls k xs) i []) ≡ true → has t (get_or ls i []) ≡ true
    still t i =
        by_place (λ j v. has t v ≡ true → has t (get_or ls j []) ≡ true) ls k xs [] there
        (λ h. ⊎_elim
        (λ (e : x ≡ t). let gone : has t xs ≡ false = ap (λ u. has u xs) (sym e) ∙ first_gone 0 next x xs rises in absurd (cc))
        (λ (ne : x ≡ t → ⊥). ap (has t) is ∙ has_rest t x xs ne ∙ h)
        (cases_eq x t))
        (λ j apart h. h) i

    had : has x (get_or ls k []) ≡ true
    had = ap (has x) is ∙ ap (λ b. b || has x xs) (eq-eqb x x refl)

    earlier : List ℕ
    earlier = owed_from x 0 ls

    later : List ℕ
    later = owed_from (next - x - 1) (x + 1) ls

    -- the notices that are owed, before
    before : owed_from next 0 ls ≡ owed_from x 0 ls ++ (k ∷ owed_from (next - x - 1) (x + 1) ls)
    before =
        let e : next ≡ x + suc (next - x - 1) = omega (arith, rises.1) in
        let f : 0 + x ≡ x = omega arith in
        let g : 0 + k ≡ k = omega arith in
        ap (λ m. owed_from m 0 ls) e ∙ owed_split ls x (suc (next - x - 1)) 0 ∙ ap (λ m. owed_from x 0 ls ++ owed_from (suc (next - x - 1)) m ls) f
        ∙ ap (λ l. owed_from x 0 ls ++ (l ++ owed_from (next - x - 1) (x + 1) ls)) (owner_is x 0 ls k had (λ i h. n.apart x i k h had) ∙ ap (λ m. m ∷ []) g)

    -- and after
    after : owed_from next 0 (set ls k xs) ≡ owed_from x 0 ls ++ owed_from (next - x - 1) (x + 1) ls
    after =
        let ms = set ls k xs in
        let e : next ≡ x + suc (next - x - 1) = omega (arith, rises.1) in
        let f : 0 + x ≡ x = omega arith in
        let none : owner_of x 0 ms ≡ [] = owner_none x 0 ms (by_place (λ j v. has x v ≡ false) ls k xs [] there (first_gone 0 next x xs rises) (λ j apart. false_from_ne_true (has x (get_or ls j [])) (λ h. apart (n.apart x j k h had)))) in
        let same : (u : ℕ) → (u ≡ x → ⊥) → owner_of u 0 ms ≡ owner_of u 0 ls = λ u ne. owner-set u 0 ls k xs (sym (ap (has u) is ∙ has_rest u x xs (λ g. ne (sym g)))) in
        ap (λ m. owed_from m 0 ms) e ∙ owed_split ms x (suc (next - x - 1)) 0 ∙ ap (λ m. owed_from x 0 ms ++ owed_from (suc (next - x - 1)) m ms) f
        ∙ (λ i. owed_same ms ls x 0 (λ u low high. same u (λ g. absurd (omega (arith, g, high)))) i ++ (none i ++ owed_same ms ls (next - x - 1) (x + 1) (λ u low high. same u (λ g. absurd (omega (arith, g, low)))) i))

    not_for : All (λ j. is_for (owing_of s ls next) who j ≡ false) (owed_from x 0 ls)
    not_for =
        let P : ℕ → Type 0 = λ j. is_for (owing_of s ls next) who j ≡ false in
        owed_all P ls x 0
        (λ u low high. owner_all P u 0 ls
        (λ i h. let g : i ≡ 0 + i = omega arith in
        subst P g (not_mine s ls next who x u i (owed_from next 0 ls) n (λ j less theirs. omega (arith, first, earliest.first j less theirs)) (omega (arith, high)) h)))

    mine : is_for (owing_of s ls next) who k ≡ true
    mine = eq-eqb (get_or s.whos k 0) who earliest.registrant

    counts : (j : ℕ) → count_by (λ y. y == j) (owed_from next 0 (set ls k xs)) ≡ length (get_or (set ls k xs) j [])
    counts j =
        let now : count_by (λ y. y == j) (owed_from next 0 (set ls k xs)) ≡ count_by (λ y. y == j) (owed_from x 0 ls) + count_by (λ y. y == j) (owed_from (next - x - 1) (x + 1) ls) = ap (count_by (λ y. y == j)) after ∙ count-append j (owed_from x 0 ls) (owed_from (next - x - 1) (x + 1) ls) in
        let was : length (get_or ls j []) ≡ count_by (λ y. y == j) (owed_from x 0 ls) + count_by (λ y. y == j) (k ∷ owed_from (next - x - 1) (x + 1) ls) = sym (n.counted j) ∙ ap (count_by (λ y. y == j)) before ∙ count-append j (owed_from x 0 ls) (k ∷ owed_from (next - x - 1) (x + 1) ls) in
        let one = count-append j (k ∷ []) (owed_from (next - x - 1) (x + 1) ls) in
        ⊎_elim
        (λ (e : j ≡ k).
        let here : length (get_or (set ls k xs) j []) ≡ length xs = ap (λ i. length (get_or (set ls k xs) i [])) e ∙ ap length (get_or-set_same ls k xs [] there) in
        let old : length (get_or ls j []) ≡ length xs + 1 = ap (λ i. length (get_or ls i [])) e ∙ ap length is ∙ omega arith in
        omega (arith, now, was, one, here, old, hit_here j k (sym e)))
        (λ (apart : j ≡ k → ⊥). omega (arith, now, was, one, ap length (get_or-set_other ls k j xs [] apart), hit_apart j k (λ e. apart (sym e))))
        (cases_eq j k)

-- the queue of an earliest notice has one
pub some_number : (s : Standing) (ls : List (List ℕ)) (next who k : ℕ) → IsNumbered s ls next → IsEarliest s who k → (x : ℕ) × ((xs : List ℕ) × (get_or ls k [] ≡ x ∷ xs))
some_number s ls next who k n earliest = at (get_or ls k []) refl
  where
    at : (l : List ℕ) → get_or ls k [] ≡ l → (x : ℕ) × ((xs : List ℕ) × (get_or ls k [] ≡ x ∷ xs))
    at [] e = absurd (omega (arith, earliest.some, n.firsts k, ap first_number e))
    at (x ∷ xs) e = (x, (xs, e))

-- ---- no notice for this worker
pub none_for : (s : Standing) (ls : List (List ℕ)) (next who : ℕ) → IsNumbered s ls next → NoneOwedTo s who →
    (oldest (owing_of s ls next) who (owed_from next 0 ls) ≡ None) × (but_oldest (owing_of s ls next) who (owed_from next 0 ls) ≡ owed_from next 0 ls)
none_for s ls next who n none =
    let P : ℕ → Type 0 = λ j. is_for (owing_of s ls next) who j ≡ false in
    let all : All P (owed_from next 0 ls) = owed_all P ls next 0
    (λ u low high. owner_all P u 0 ls
    (λ i h. let g : i ≡ 0 + i = omega arith in
    subst P g (not_mine s ls next who next u i (owed_from next 0 ls) n (λ j less theirs. omega (arith, n.last, none.none j less theirs)) (omega (arith, high)) h))) in
    let r = oldest_behind (owing_of s ls next) who (owed_from next 0 ls) [] all in
    (ap (oldest (owing_of s ls next) who) (sym (append-nil (owed_from next 0 ls))) ∙ r.0, ap (but_oldest (owing_of s ls next) who) (sym (append-nil (owed_from next 0 ls))) ∙ r.1 ∙ append-nil (owed_from next 0 ls))
