-- What is stored is loaded again, and growth adds its pages.
use Rattle.std.proofs.Common.{◌≡◌, refl, ◌∙◌, ap, sym, subst, ℕ, zero, suc, ◌+◌, ◌*◌, ◌/◌, ◌%◌, ◌^◌, ◌<◌, ◌≤◌, Bool, true, false, List, ◌++◌, length, take, drop, replicate, Some, None, if◌then◌else◌, arith, append_assoc}
use Rattle.std.specs.Prelude.{◌↔◌, ◌&&◌, nat_le}
use Rattle.std.proofs.lemmas.List.{length-replicate, length-append, length-take-le, length-drop}
use Rattle.std.proofs.lemmas.Bool.{leb-true, le-leb, lt-leb}
use Rattle.std.proofs.lemmas.Nat.{mod-pow-add}
use Rattle.std.proofs.lemmas.Option.{none-some}
use Rattle.std.proofs.Math.Seq.{take-append_seam, drop-append_seam}
use Rattle.wasm_syntax.specs.Memory.{number_in, bytes_of, bytes_at, written, is_inside, copied, load, store, page, pages_of, can_grow, grow_answer, grown, not_grown}

some_same : {A : Type 0} (x y : A) → Some x ≡ Some y → x ≡ y
some_same x y e = cc

pub length-bytes : (n v : ℕ) → length (bytes_of n v) ≡ n
length-bytes zero v = refl
length-bytes (suc n) v = ap suc (length-bytes n (v / 256))

-- the lowest n bytes of a number are the number modulo 2 ^ (8 * n)
pub number-bytes : (n v : ℕ) → number_in (bytes_of n v) ≡ v % 2 ^ (8 * n)
number-bytes zero v = omega (arith)
number-bytes (suc n) v =
    let rest = number-bytes n (v / 256) in
    let split = mod-pow-add v (8 * n) 8 in
    let same : 8 * suc n ≡ 8 * n + 8 = omega (arith) in
    subst (λ k. v % 256 + 256 * number_in (bytes_of n (v / 256)) ≡ v % 2 ^ k) (sym same) (omega (arith, rest, split))

grown-is : (most : ℕ) (memory : List ℕ) (by : ℕ) → can_grow most memory by ≡ true → grown most memory by ≡ memory ++ replicate (page * by) 0
grown-is most memory by can = ap (λ b. if b then memory ++ replicate (page * by) 0 else memory) can

pub length-grown : (most : ℕ) (memory : List ℕ) (by : ℕ) → can_grow most memory by ≡ true → length (grown most memory by) ≡ length memory + page * by
length-grown most memory by can =
    ap length (grown-is most memory by can)
    ∙ length-append memory (replicate (page * by) 0)
    ∙ ap (λ n. length memory + n) (length-replicate (page * by) 0)

pub one_page_grows : (memory : List ℕ) → length memory ≡ page → length (grown 3 memory 2) ≡ 3 * page
one_page_grows memory e =
    length-grown 3 memory 2 (subst (λ n. nat_le (n / page + 2) 3 ≡ true) (sym e) refl) ∙ ap (λ n. n + page * 2) e

-- x

-- what is stored is written inside
within-step : (b : Bool) (xs new : List ℕ) → (if b then Some xs else None) ≡ Some new → (b ≡ true) × (new ≡ xs)
within-step true xs new e = (refl, some_same new xs (sym e))
within-step false xs new e = absurd (none-some new e)

is_written : (old new : List ℕ) (at width v : ℕ) → store old at width v ≡ Some new → (at + width ≤ length old) × (new ≡ written old at (bytes_of width v))
is_written old new at width v e =
    let parts = within-step (is_inside old at width) (written old at (bytes_of width v)) new e in
    (leb-true (at + width) (length old) parts.0, parts.1)

-- writing inside
long_front : (old : List ℕ) (at n : ℕ) → at + n ≤ length old → length (take at old) ≡ at
long_front old at n le = length-take-le at old (omega arith)

length-written : (old bytes : List ℕ) (at : ℕ) → at + length bytes ≤ length old → length (written old at bytes) ≡ length old
length-written old bytes at le =
    let k = at + length bytes in
    let all = length-append (take at old) (bytes ++ drop k old) in
    let tail = length-append bytes (drop k old) in
    let front = length-take-le at old (omega arith) in
    let rest = length-drop k old in
    omega (arith, all, tail, front, rest)

pub length-stored : (old new : List ℕ) (at width v : ℕ) → store old at width v ≡ Some new → length new ≡ length old
length-stored old new at width v e =
    let w = is_written old new at width v e in
    let n = length-bytes width v in
    ap length w.1 ∙ length-written old (bytes_of width v) at (let le = w.0 in omega (arith, n, le))

pub below_stays : (old new : List ℕ) (at width v : ℕ) → store old at width v ≡ Some new → take at new ≡ take at old
below_stays old new at width v e =
    let w = is_written old new at width v e in
    let front = long_front old at width w.0 in
    let rest = bytes_of width v ++ drop (at + length (bytes_of width v)) old in
    ap (take at) w.1 ∙ subst (λ n. take n (take at old ++ rest) ≡ take at old) front (take-append_seam (take at old) rest)

-- what stands behind what is written
above_written : (old bytes : List ℕ) (at n : ℕ) → length bytes ≡ n → at + n ≤ length old → drop (at + n) (written old at bytes) ≡ drop (at + n) old
above_written old bytes at n len le =
    let front = long_front old at n le in
    let both = take at old ++ bytes in
    let long : length both ≡ at + n = let l = length-append (take at old) bytes in omega (arith, l, len, front) in
    ap (drop (at + n)) (sym (append_assoc (take at old) bytes (drop (at + length bytes) old)))
    ∙ subst (λ k. drop k (both ++ drop (at + length bytes) old) ≡ drop (at + length bytes) old) long (drop-append_seam both (drop (at + length bytes) old))
    ∙ ap (λ k. drop (at + k) old) len

pub above_stays : (old new : List ℕ) (at width v : ℕ) → store old at width v ≡ Some new → drop (at + width) new ≡ drop (at + width) old
above_stays old new at width v e =
    let w = is_written old new at width v e in
    ap (drop (at + width)) w.1 ∙ above_written old (bytes_of width v) at width (length-bytes width v) w.0

bytes_back : (old bytes : List ℕ) (at n : ℕ) → length bytes ≡ n → at + n ≤ length old → bytes_at (written old at bytes) at n ≡ bytes
bytes_back old bytes at n long le =
    let front = long_front old at n le in
    let rest = bytes ++ drop (at + length bytes) old in
    ap (take n) (subst (λ k. drop k (take at old ++ rest) ≡ rest) front (drop-append_seam (take at old) rest))
    ∙ subst (λ k. take k rest ≡ bytes) long (take-append_seam bytes (drop (at + length bytes) old))

pub loaded_back : (old new : List ℕ) (at width v : ℕ) → store old at width v ≡ Some new → load new at width ≡ Some (v % 2 ^ (8 * width))
loaded_back old new at width v e =
    let w = is_written old new at width v e in
    let bytes = bytes_of width v in
    let same : length new ≡ length old = length-stored old new at width v e in
    let inside : is_inside new at width ≡ true = le-leb (at + width) (length new) (let le = w.0 in omega (arith, same, le)) in
    let back : bytes_at new at width ≡ bytes = ap (λ m. bytes_at m at width) w.1 ∙ bytes_back old bytes at width (length-bytes width v) w.0 in
    ap (λ b. if b then Some (number_in (bytes_at new at width)) else None) inside ∙ ap (λ bs. Some (number_in bs)) back ∙ ap (λ n. Some n) (number-bytes width v)

-- ---- copies

within-both : (a b : Bool) (xs new : List ℕ) → (if a && b then Some xs else None) ≡ Some new → (a ≡ true) × (b ≡ true) × (new ≡ xs)
within-both true b xs new e = let h = within-step b xs new e in (refl, h.0, h.1)
within-both false b xs new e = absurd (none-some new e)

is_copied : (old new : List ℕ) (to from count : ℕ) → copied old to from count ≡ Some new → (from + count ≤ length old) × (to + count ≤ length old) × (new ≡ written old to (bytes_at old from count))
is_copied old new to from count e =
    let h = within-both (is_inside old from count) (is_inside old to count) (written old to (bytes_at old from count)) new e in
    (leb-true (from + count) (length old) h.0, leb-true (to + count) (length old) h.1, h.2)

length-range : (old : List ℕ) (from count : ℕ) → from + count ≤ length old → length (bytes_at old from count) ≡ count
length-range old from count le = let d = length-drop from old in length-take-le count (drop from old) (omega (arith, d, le))

pub above_copied : (old new : List ℕ) (to from count : ℕ) → copied old to from count ≡ Some new → drop (to + count) new ≡ drop (to + count) old
above_copied old new to from count e =
    let h = is_copied old new to from count e in
    ap (drop (to + count)) h.2 ∙ above_written old (bytes_at old from count) to count (length-range old from count h.0) h.1

pub moved_back : (old new : List ℕ) (to from count : ℕ) → copied old to from count ≡ Some new → bytes_at new to count ≡ bytes_at old from count
moved_back old new to from count e =
    let h = is_copied old new to from count e in
    ap (λ m. bytes_at m to count) h.2 ∙ bytes_back old (bytes_at old from count) to count (length-range old from count h.0) h.1

none-step : {A B : Type 0} (b : Bool) (x : A) (y : B) → (if b then Some x else None) ≡ None → (if b then Some y else None) ≡ None
none-step true x y e = absurd (none-some x (sym e))
none-step false x y e = refl

pub both_outside : (old : List ℕ) (at width v : ℕ) → (store old at width v ≡ None) ↔ (load old at width ≡ None)
both_outside old at width v = (
  λ e. none-step (is_inside old at width) (written old at (bytes_of width v)) (number_in (bytes_at old at width)) e,
  λ e. none-step (is_inside old at width) (number_in (bytes_at old at width)) (written old at (bytes_of width v)) e,
)

pub grows : (most : ℕ) (memory : List ℕ) (by : ℕ) → pages_of memory + by ≤ most → (grow_answer most memory by ≡ pages_of memory) × (grown most memory by ≡ memory ++ replicate (page * by) 0)
grows most memory by le =
    let can = le-leb (pages_of memory + by) most le in
    (ap (λ b. if b then pages_of memory else not_grown) can, grown-is most memory by can)

pub grows_not : (most : ℕ) (memory : List ℕ) (by : ℕ) → most < pages_of memory + by → (grow_answer most memory by ≡ not_grown) × (grown most memory by ≡ memory)
grows_not most memory by lt =
    let cannot = lt-leb (pages_of memory + by) most lt in
    (ap (λ b. if b then pages_of memory else not_grown) cannot, ap (λ b. if b then memory ++ replicate (page * by) 0 else memory) cannot)
