-- Metrics in order.
use Rattle.std.proofs.Common.{◌≡◌, ℕ, ◌+◌, ◌-◌, ◌<◌, ◌≤◌, Bool, true, false, List, [], ◌∷◌, ◌++◌, length, get_or, IsPermutation, Ordering, Less, Equal, Greater, refl, ap, sym, subst, ◌∙◌, arith, append_assoc, nat_cmp}
use Rattle.std.specs.Prelude.{not}
use Rattle.std.specs.List.Sorted.{IsSortedBy}
use Rattle.std.specs.Cmp.Lexicographic.{slice_cmp}
use Rattle.std.specs.Ordering.{ordering_reverse, is_lt}
use Rattle.std.proofs.Math.Decide.{dec_lt}
use Rattle.std.proofs.lemmas.Cmp.{nat_list_cmp_total}
use Rattle.std.proofs.lemmas.List.{append-nil}
use Rattle.std.proofs.lemmas.List.Edits.{get_or-insert_above, get_or-insert_at, get_or-insert_below, length-insert}
use Rattle.std.proofs.lemmas.List.Sums.{fails_before_first, passes_at_first, prefix_len-le-length}
use Rattle.std.proofs.lemmas.List.Sorted.{IsPermutation-append_comm, IsPermutation-append_left, IsPermutation-append_right, IsPermutation-insert, IsPermutation-refl, IsPermutation-trans}
use mathlib.Core.Logic.{dite}
use Rattle.store_model.specs.declared.metric.MetricKind.{MetricKind}
use Rattle.store_model.specs.declared.metric.MetricKind.TheVariants.{Counter, Gauge}
use Rattle.metric_lines.specs.Totals.{comes_before, in_order, kinds_before, place_for, put_all, put_in}
use Rattle.metric_lines.specs.declared.totals.MetricTotal.{MetricTotal}

-- ---- all are told
put_permutes : (m : MetricTotal) (ms : List MetricTotal) → IsPermutation (m ∷ ms) (put_in m ms)
put_permutes m ms = IsPermutation-insert ms (place_for m ms) m

-- a member in front of some others stands as well behind them
front_to_end : (m : MetricTotal) (ms done : List MetricTotal) → IsPermutation (m ∷ (ms ++ done)) (ms ++ (m ∷ done))
front_to_end m ms done =
    subst (λ l. IsPermutation (m ∷ (ms ++ done)) l) (append_assoc ms (m ∷ []) done)
    (IsPermutation-append_left done (m ∷ ms) (ms ++ m ∷ []) (IsPermutation-append_comm (m ∷ []) ms))

all_permute : (ms done : List MetricTotal) → IsPermutation (ms ++ done) (put_all ms done)
all_permute [] done = IsPermutation-refl done
all_permute (m ∷ ms) done =
    IsPermutation-trans (m ∷ (ms ++ done)) (ms ++ put_in m done) (put_all ms (put_in m done))
    (IsPermutation-trans (m ∷ (ms ++ done)) (ms ++ (m ∷ done)) (ms ++ put_in m done) (front_to_end m ms done) (IsPermutation-append_right ms (m ∷ done) (put_in m done) (put_permutes m done)))
    (all_permute ms (put_in m done))

pub all_told : (ms : List MetricTotal) → IsPermutation ms (in_order ms)
all_told ms = subst (λ l. IsPermutation l (in_order ms)) (append-nil ms) (all_permute ms [])

-- ---- in order
less_one_way : (r : Ordering) → is_lt (ordering_reverse r) ≡ true → is_lt r ≡ false
less_one_way Less e = absurd (cc)
less_one_way Equal e = refl
less_one_way Greater e = refl

bytes_one_way : (xs ys : List ℕ) → is_lt (slice_cmp nat_cmp xs ys) ≡ true → is_lt (slice_cmp nat_cmp ys xs) ≡ false
bytes_one_way xs ys e = less_one_way (slice_cmp nat_cmp ys xs) (ap is_lt (sym (nat_list_cmp_total.antisymm xs ys)) ∙ e)

kinds_one_way : (a b : MetricKind) (lesser more : Bool) → (lesser ≡ true → more ≡ false) → kinds_before a b lesser ≡ true → kinds_before b a more ≡ false
kinds_one_way Counter Counter lesser more h e = h e
kinds_one_way Counter Gauge lesser more h e = refl
kinds_one_way Gauge Counter lesser more h e = absurd (cc)
kinds_one_way Gauge Gauge lesser more h e = h e

one_way : (m n : MetricTotal) → comes_before m n ≡ true → comes_before n m ≡ false
one_way m n e = kinds_one_way m.kind n.kind (is_lt (slice_cmp nat_cmp m.name n.name)) (is_lt (slice_cmp nat_cmp n.name m.name)) (bytes_one_way m.name n.name) e

-- the place of a metric: it does not come before those in front of it, and does before the one that is there
record IsPlace (m : MetricTotal) (ms : List MetricTotal) (at : ℕ) : Type 0 where
  pub within : at ≤ length ms
  pub front : (k : ℕ) (d : MetricTotal) → k < at → comes_before m (get_or ms k d) ≡ false
  pub behind : (d : MetricTotal) → at < length ms → comes_before m (get_or ms at d) ≡ true

is_place : (m : MetricTotal) (ms : List MetricTotal) → IsPlace m ms (place_for m ms)
is_place m ms = record {
  within = prefix_len-le-length (λ x. not (comes_before m x)) ms;
  front = λ k d h. fails_before_first (comes_before m) ms k d h;
  behind = λ d h. passes_at_first (comes_before m) ms d h;
}

put_sorted : (m : MetricTotal) (ms : List MetricTotal) → IsSortedBy comes_before ms → IsSortedBy comes_before (put_in m ms)
put_sorted m ms sorted k d low h =
    let at = place_for m ms in let p = is_place m ms in
    let small : k < length ms = (let e = length-insert ms at m in omega arith) in
    dite (dec_lt k at)
    (λ (under : k < at).
    let first : get_or (put_in m ms) k d ≡ get_or ms k d = get_or-insert_below ms at m d k under p.within in
    dite (dec_lt (k + 1) at)
    (λ (next : k + 1 < at).
    (λ i. comes_before (get_or-insert_below ms at m d (k + 1) next p.within i) (first i)) ∙ sorted k d low (let a = p.within in omega arith))
    (λ (last : k + 1 < at → ⊥).
    let here : at ≡ k + 1 = omega arith in
    (λ i. comes_before ((ap (λ j. get_or (put_in m ms) j d) (sym here) ∙ get_or-insert_at ms at m d p.within) i) (first i)) ∙ p.front k d under))
    (λ (past : k < at → ⊥).
    let low_at : at ≤ k = omega arith in
    let second : get_or (put_in m ms) (k + 1) d ≡ get_or ms k d = get_or-insert_above ms at m d k low_at p.within in
    dite (dec_lt at k)
    (λ (beyond : at < k).
    let before : k - 1 + 1 ≡ k = omega arith in
    let first : get_or (put_in m ms) k d ≡ get_or ms (k - 1) d = ap (λ j. get_or (put_in m ms) j d) (sym before) ∙ get_or-insert_above ms at m d (k - 1) (omega arith) p.within in
    (λ i. comes_before (second i) (first i)) ∙ (ap (λ j. comes_before (get_or ms j d) (get_or ms (k - 1) d)) (sym before) ∙ sorted (k - 1) d (omega arith) (omega arith)))
    (λ (same : at < k → ⊥).
    let here : at ≡ k = omega arith in
    let first : get_or (put_in m ms) k d ≡ m = ap (λ j. get_or (put_in m ms) j d) (sym here) ∙ get_or-insert_at ms at m d p.within in
    (λ i. comes_before (second i) (first i)) ∙ one_way m (get_or ms k d) (ap (λ j. comes_before m (get_or ms j d)) (sym here) ∙ p.behind d (omega arith))))

all_sorted : (ms done : List MetricTotal) → IsSortedBy comes_before done → IsSortedBy comes_before (put_all ms done)
all_sorted [] done h = h
all_sorted (m ∷ ms) done h = all_sorted ms (put_in m done) (put_sorted m done h)

pub told_sorted : (ms : List MetricTotal) → IsSortedBy comes_before (in_order ms)
told_sorted ms = all_sorted ms [] (λ k d low h. absurd (omega arith))
