-- What a store owes to whom, by the indexes of its queues.
use Rattle.std.specs.Prelude.{◌≡◌, ℕ, zero, suc, ◌+◌, ◌==◌, ◌||◌, ◌<◌, ◌≤◌, Bool, true, false, List, [], ◌∷◌, ◌++◌, length, map, count_by, Option, Some, None, nat_lt, if◌then◌else◌, slice_index_or}
use Rattle.std.specs.declared.alloc.Global.{Global}
use Rattle.std.specs.declared.collections.VecDeque.{VecDeque}
use Rattle.store_model.specs.declared.used.TheConstants.{MOST_NAMES, MOST_NOTICES}
use Rattle.shared_queues.specs.Firsts.{Standing}
use Rattle.shared_queues.specs.declared.firsts.TheConstants.{NONE}

-- the registrant of each queue, and the indexes of the queues for which a notice is owed, oldest first
pub record Owing : Type 0 where
  pub whos : List ℕ
  pub owed : List ℕ

abbrev pub is_for : Owing → ℕ → ℕ → Bool
is_for o who k = slice_index_or o.whos k 0 == who

abbrev pub oldest : Owing → ℕ → List ℕ → Option ℕ
oldest o who [] = None
oldest o who (k ∷ ks) = if is_for o who k then Some k else oldest o who ks

abbrev pub but_oldest : Owing → ℕ → List ℕ → List ℕ
but_oldest o who [] = []
but_oldest o who (k ∷ ks) = if is_for o who k then ks else k ∷ but_oldest o who ks

abbrev pub owes_more : List ℕ → ℕ → List ℕ
owes_more owed k = if nat_lt (count_by (λ x. x == k) owed) MOST_NOTICES then owed ++ k ∷ [] else owed

-- ---- Notices are numbered in the order in which they came to be owed, and each queue has the numbers of its own.
abbrev pub lists_of : List (VecDeque ℕ Global) → List (List ℕ)
lists_of ds = map (λ d. d.items) ds

abbrev pub has : ℕ → List ℕ → Bool
has t [] = false
has t (x ∷ xs) = (x == t) || has t xs

-- the index, counted from j, of the queue whose notice has this number, if there is one
abbrev pub owner_of : ℕ → ℕ → List (List ℕ) → List ℕ
owner_of t j [] = []
owner_of t j (l ∷ ls) = if has t l then j ∷ [] else owner_of t (j + 1) ls

-- the indexes at so many numbers from t on
abbrev pub owed_from : ℕ → ℕ → List (List ℕ) → List ℕ
owed_from zero t ls = []
owed_from (suc n) t ls = owner_of t 0 ls ++ owed_from n (t + 1) ls

abbrev pub first_number : List ℕ → ℕ
first_number [] = NONE
first_number (x ∷ xs) = x

-- each number is more than the one before it; all are from low on and below high
abbrev pub IsRising : ℕ → ℕ → List ℕ → Type 0
IsRising low high [] = Unit {0}
IsRising low high (x ∷ xs) = (low ≤ x) × (x < high) × IsRising (x + 1) high xs

-- The numbers below the next one are given out in their order, none of them twice. The first number of each queue is known.
pub record IsNumbered (s : Standing) (ls : List (List ℕ)) (next : ℕ) : Type 0 where
  pub long : length ls ≡ length s.whos
  pub as_many : length s.firsts ≡ length s.whos
  pub few : length s.whos ≤ MOST_NAMES
  pub firsts : (k : ℕ) → slice_index_or s.firsts k NONE ≡ first_number (slice_index_or ls k [])
  pub rising : (k : ℕ) → IsRising 0 next (slice_index_or ls k [])
  pub apart : (t j k : ℕ) → has t (slice_index_or ls j []) ≡ true → has t (slice_index_or ls k []) ≡ true → j ≡ k
  pub counted : (k : ℕ) → count_by (λ x. x == k) (owed_from next 0 ls) ≡ length (slice_index_or ls k [])
  pub last : next ≤ NONE
