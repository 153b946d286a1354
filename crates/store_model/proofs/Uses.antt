-- What queues use, once one was changed.
use Rattle.std.specs.Prelude.{◌≡◌, ℕ, zero, suc, ◌+◌, ◌<◌, ◌≤◌, Bool, true, false, cond, List, [], ◌∷◌, ◌++◌, length, sum_by, slice_set, Option, Some, None, refl}
use Rattle.std.specs.Str.{bytes_eq}
use Rattle.std.proofs.Common.{ap, ◌∙◌, arith, length-append, length-set, get_or}
use Rattle.std.proofs.lemmas.List.Sums.{sum_by-cons, sum_by_push, sum_by-set}
use Rattle.store_model.specs.Queues.{Queue, Queues, no_queue, named_from, queue_in, set_queue, with_new, with_item, used_by_queues, item_bytes}

abbrev queue_bytes : Queue → ℕ
queue_bytes x = length x.name + item_bytes x.items

abbrev pub uses : List Queue → ℕ
uses qs = sum_by queue_bytes qs

-- one queue gave way to another one
pub uses-set : (qs : List Queue) (k : ℕ) (x : Queue) → k < length qs → uses (slice_set qs k x) + queue_bytes (get_or qs k no_queue) ≡ uses qs + queue_bytes x
uses-set qs k x less = sum_by-set queue_bytes qs k x no_queue less

pub uses_push : (qs : List Queue) (x : Queue) → uses (qs ++ x ∷ []) ≡ uses qs + queue_bytes x
uses_push qs x = sum_by_push queue_bytes qs x

pub items_push : (items : List (List ℕ)) (item : List ℕ) → item_bytes (items ++ item ∷ []) ≡ item_bytes items + length item
items_push items item = sum_by_push length items item

pub items-cons : (item : List ℕ) (items : List (List ℕ)) → item_bytes (item ∷ items) ≡ length item + item_bytes items
items-cons item items = sum_by-cons length item items

pub with_item_bytes : (q : Queues) (k : ℕ) (item : List ℕ) → k < length q.queues → (used_by_queues (with_item q k item)).bytes ≡ (used_by_queues q).bytes + length item
with_item_bytes q k item less =
    omega (arith, uses-set q.queues k (record (queue_in q k) { items = (queue_in q k).items ++ item ∷ [] }) less, items_push (queue_in q k).items item)

pub with_item_names : (q : Queues) (k : ℕ) (item : List ℕ) → (used_by_queues (with_item q k item)).names ≡ (used_by_queues q).names
with_item_names q k item = length-set q.queues k (record (queue_in q k) { items = (queue_in q k).items ++ item ∷ [] })

pub with_new_bytes : (q : Queues) (who root : ℕ) (name : List ℕ) → (used_by_queues (with_new q who root name)).bytes ≡ (used_by_queues q).bytes + length name
with_new_bytes q who root name = omega (arith, uses_push q.queues (record { name = name; who = who; root = root; items = [] }))

pub with_new_names : (q : Queues) (who root : ℕ) (name : List ℕ) → (used_by_queues (with_new q who root name)).names ≡ (used_by_queues q).names + 1
with_new_names q who root name = length-append q.queues (record { name = name; who = who; root = root; items = [] } ∷ [])

-- a queue that was changed, and its bytes were not
pub set_queue_bytes : (q : Queues) (k : ℕ) (x : Queue) → k < length q.queues → queue_bytes x ≡ queue_bytes (queue_in q k) → (used_by_queues (set_queue q k x)).bytes ≡ (used_by_queues q).bytes
set_queue_bytes q k x less same = omega (arith, uses-set q.queues k x less, same)

-- a queue whose first item was taken
pub but_first_bytes : (q : Queues) (k : ℕ) (item : List ℕ) (items : List (List ℕ)) → k < length q.queues → (queue_in q k).items ≡ item ∷ items →
    (used_by_queues (set_queue q k (record (queue_in q k) { items = items }))).bytes + length item ≡ (used_by_queues q).bytes
but_first_bytes q k item items less first =
    let before : item_bytes (queue_in q k).items ≡ length item + item_bytes items = ap item_bytes first ∙ items-cons item items in
    omega (arith, uses-set q.queues k (record (queue_in q k) { items = items }) less, before)

-- ---- names
-- a queue that was changed, and its name was not
pub named-set : (n : ℕ) (name : List ℕ) (qs : List Queue) (k : ℕ) (x : Queue) → x.name ≡ (get_or qs k no_queue).name → named_from n name (slice_set qs k x) ≡ named_from n name qs
named-set n name [] k x same = refl
named-set n name (q ∷ qs) zero x same = ap (λ m. cond (bytes_eq name m) (Some n) (named_from (n + 1) name qs)) same
named-set n name (q ∷ qs) (suc k) x same = ap (λ o. cond (bytes_eq name q.name) (Some n) o) (named-set (n + 1) name qs k x same)

abbrev pub option_or : Option ℕ → Option ℕ → Option ℕ
option_or (Some n) o = Some n
option_or None o = o

pub named-push : (n : ℕ) (name : List ℕ) (qs : List Queue) (x : Queue) → named_from n name (qs ++ x ∷ []) ≡ option_or (named_from n name qs) (cond (bytes_eq name x.name) (Some (n + length qs)) None)
named-push n name [] x = let e : n ≡ n + 0 = omega arith in ap (λ m. cond (bytes_eq name x.name) (Some m) None) e
named-push n name (q ∷ qs) x =
    let e : n + 1 + length qs ≡ n + length (q ∷ qs) = omega arith in
    ap (λ o. cond (bytes_eq name q.name) (Some n) o) (named-push (n + 1) name qs x ∙ ap (λ m. option_or (named_from (n + 1) name qs) (cond (bytes_eq name x.name) (Some m) None)) e)
    ∙ at (bytes_eq name q.name)
  where
    at : (b : Bool) → cond b (Some n) (option_or (named_from (n + 1) name qs) (cond (bytes_eq name x.name) (Some (n + length (q ∷ qs))) None)) ≡ option_or (cond b (Some n) (named_from (n + 1) name qs)) (cond (bytes_eq name x.name) (Some (n + length (q ∷ qs))) None)
    at true = refl
    at false = refl

-- a name that is found stands within the queues
pub named_within : (n : ℕ) (name : List ℕ) (qs : List Queue) (k : ℕ) → named_from n name qs ≡ Some k → (n ≤ k) × (k < n + length qs)
named_within n name [] k is = absurd (cc)
named_within n name (q ∷ qs) k is = at (bytes_eq name q.name) is (named_within (n + 1) name qs k)
  where
    at : (b : Bool) → cond b (Some n) (named_from (n + 1) name qs) ≡ Some k → (named_from (n + 1) name qs ≡ Some k → (n + 1 ≤ k) × (k < n + 1 + length qs)) → (n ≤ k) × (k < n + length (q ∷ qs))
    at true e further = let same : n ≡ k = cc in (omega (arith, same), omega (arith, same))
    at false e further = let f = further e in (omega (arith, f.0), omega (arith, f.1))
