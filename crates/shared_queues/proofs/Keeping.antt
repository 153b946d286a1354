-- What the fields keep.
use Rattle.std.proofs.Common.{◌≡◌, ℕ, zero, suc, ◌+◌, ◌-◌, ◌<◌, ◌≤◌, Bool, true, false, cond, List, [], ◌∷◌, ◌++◌, length, map, get_or, set, Option, Some, refl, sym, ap, subst, ◌∙◌, arith, Vec, Global, length-set, length-append}
use Rattle.std.specs.Option.{option_map}
use Rattle.std.specs.Map.{lookup}
use Rattle.std.proofs.lemmas.List.{map-set, length-map, get_or-map, map_push, set-get_or}
use Rattle.std.proofs.lemmas.List.Sums.{sum_by-cons}
use Rattle.std.proofs.lemmas.Bool.{cases_eq}
use Rattle.std.proofs.Common.{◌==◌, nat_lt, eq-eqb, ne_eqb, ⊎_elim}
use Rattle.std.specs.Prelude.{count_by}
use Rattle.std.proofs.lemmas.List.Elements.{All-set, All-get_or}
use Rattle.std.proofs.lemmas.Iterator.Adapters.{option_map_id}
use Rattle.store_model.specs.Queues as model
use Rattle.store_model.specs.Queues.{Queues, base_of, id_at, no_queue, named, named_from, queue_in, set_queue, with_new, with_item, registered, used_by_queues, owed_more, item_bytes, but_first, first_reply, dequeue_after}
use Rattle.store_model.specs.QueueLaws.{handed_out}
use Rattle.store_model.specs.Limits.{IsWithin}
use Rattle.store_model.proofs.ByteMaps.{at_bytes, lookup-by_bytes}
use Rattle.store_model.proofs.Uses.{named-set, set_queue_bytes, with_item_bytes, but_first_bytes, items-cons}
use Rattle.shared_queues.specs.Owing as owing
use Rattle.shared_queues.specs.Owing.{Owing, oldest, but_oldest, owes_more}
use Rattle.shared_queues.specs.Seen.{seen_queue, seen_queues, seen_id, IsKept}
use Rattle.shared_queues.specs.declared.queues.Queue.{Queue}

-- a look-up in the map finds the queue of the name
pub named_is : {q : Queues} {names : List (Vec ℕ Global × ℕ)} {o : Owing} {bytes : ℕ} (r : Queues) (name : List ℕ) (v : Option ℕ) → IsKept q names o bytes → q ≡ r → v ≡ lookup (at_bytes name) names → named r name ≡ v
named_is {q} {names} r name v kept is found =
    ap (λ x. named x name) (sym is) ∙ sym (kept.found name) ∙ lookup-by_bytes (λ (x : ℕ). x) names name ∙ ap (option_map (λ (x : ℕ). x)) (sym found) ∙ option_map_id v

pub get_or-map_default : (qs : List model.Queue) (k : ℕ) → get_or (map (λ (v : model.Queue). v.who) qs) k 0 ≡ (get_or qs k no_queue).who
get_or-map_default [] k = refl
get_or-map_default (q ∷ qs) zero = refl
get_or-map_default (q ∷ qs) (suc k) = get_or-map_default qs k

-- the queues with others owed
abbrev pub with_owed : Queues → List ℕ → Queues
with_owed q owed = record q { owed = owed }

-- One queue gave way to another one of its name.
pub kept_set : {q : Queues} {names : List (Vec ℕ Global × ℕ)} {o : Owing} {bytes : ℕ} (k : ℕ) (x : model.Queue) (more : ℕ) (owed : List ℕ) (p : Owing) → IsKept q names o bytes → x.name ≡ (queue_in q k).name → length x.items ≤ 1024 →
    p.whos ≡ set o.whos k x.who → more ≡ (used_by_queues (set_queue q k x)).bytes → more ≤ 67108864 → IsKept (with_owed (set_queue q k x) owed) names p more
kept_set {q} {names} {o} {bytes} k x more owed p kept name few whos counts fit = record {
  found = λ n. kept.found n ∙ sym (named-set 0 n q.queues k x name);
  whos = whos ∙ ap (λ l. set l k x.who) kept.whos ∙ sym (map-set (λ (y : model.Queue). y.who) q.queues k x);
  counted = counts;
  within = record { names = omega (arith, length-set q.queues k x, kept.within.names); bytes = omega (arith, counts, fit) };
  items = All-set (λ y. length y.items ≤ 1024) q.queues k x few kept.items;
  vm = kept.vm;
}

-- others are owed
pub kept_owed : {q : Queues} {names : List (Vec ℕ Global × ℕ)} {o : Owing} {bytes : ℕ} (owed : List ℕ) (p : Owing) → IsKept q names o bytes → p.whos ≡ o.whos → IsKept (with_owed q owed) names p bytes
kept_owed owed p kept whos = record { found = kept.found; whos = whos ∙ kept.whos; counted = kept.counted; within = kept.within; items = kept.items; vm = kept.vm }

-- ---- the fields
pub seen-set : (vm : ℕ) (qs : List Queue) (o p : Owing) (k : ℕ) (y : Queue) → seen_queues vm (set qs k y) p ≡ with_owed (set_queue (seen_queues vm qs o) k (seen_queue y)) (map (seen_id vm) p.owed)
seen-set vm qs o p k y = λ i. record { vm = vm; queues = map-set seen_queue qs k y i; owed = map (seen_id vm) p.owed }

-- what is read at an index
pub seen_read : (vm : ℕ) (qs : List Queue) (o : Owing) (k : ℕ) (y : Queue) (r : Queues) → seen_queues vm qs o ≡ r → k < length r.queues → y ≡ get_or qs k y → queue_in r k ≡ seen_queue y
seen_read vm qs o k y r is less read =
    let here : k < length qs = omega (arith, less, ap (λ (x : Queues). length x.queues) is, length-map qs seen_queue) in
    ap (λ x. queue_in x k) (sym is) ∙ get_or-map seen_queue qs k y no_queue here ∙ ap seen_queue (sym read)

pub items_few : {q : Queues} {names : List (Vec ℕ Global × ℕ)} {o : Owing} {bytes : ℕ} (k : ℕ) → IsKept q names o bytes → k < length q.queues → length (queue_in q k).items ≤ 1024
items_few {q} k kept less = All-get_or (λ (y : model.Queue). length y.items ≤ 1024) q.queues k no_queue less kept.items

-- ---- another registrant
pub taken_over : {names : List (Vec ℕ Global × ℕ)} {bytes : ℕ} (vm : ℕ) (qs : List Queue) (o p : Owing) (r : Queues) (k who root : ℕ) (y z : Queue) → seen_queues vm qs o ≡ r → IsKept (seen_queues vm qs o) names o bytes → k < length r.queues → y ≡ get_or qs k y →
    seen_queue z ≡ record (seen_queue y) { who = who; root = root } → p ≡ record o { whos = set o.whos k who } → (seen_queues vm (set qs k z) p ≡ registered r who root k) × IsKept (seen_queues vm (set qs k z) p) names p bytes
taken_over {names} {bytes} vm qs o p r k who root y z is kept less read new now =
    let q = seen_queues vm qs o in
    let within : k < length q.queues = omega (arith, less, ap (λ (x : Queues). length x.queues) is) in
    let old = seen_read vm qs o k y q refl within read in
    let x = record (queue_in q k) { who = who; root = root } in
    let same : seen_queue z ≡ x = new ∙ ap (λ (v : model.Queue). record v { who = who; root = root }) (sym old) in
    let view : seen_queues vm (set qs k z) p ≡ registered q who root k = seen-set vm qs o p k z ∙ (λ i. with_owed (set_queue q k (same i)) (map (seen_id vm) (now i).owed)) in (
      view ∙ ap (λ v. registered v who root k) is,
      subst (λ v. IsKept v names p bytes) (sym (seen-set vm qs o p k z ∙ (λ i. with_owed (set_queue q k (same i)) (map (seen_id vm) p.owed))))
          (kept_set k x bytes (map (seen_id vm) p.owed) p kept refl (items_few k kept within) (ap (λ (v : Owing). v.whos) now) (kept.counted ∙ sym (set_queue_bytes q k x within refl)) (omega (arith, kept.counted, kept.within.bytes))),
    )

-- ---- a queue that is as it was
pub unchanged : (vm : ℕ) (qs : List Queue) (o : Owing) (r : Queues) (k : ℕ) (y z : Queue) → seen_queues vm qs o ≡ r → k < length r.queues → y ≡ get_or qs k y → seen_queue z ≡ seen_queue y → seen_queues vm (set qs k z) o ≡ seen_queues vm qs o
unchanged vm qs o r k y z is less read same =
    let q = seen_queues vm qs o in
    let within : k < length q.queues = omega (arith, less, ap (λ (x : Queues). length x.queues) is) in
    let old = seen_read vm qs o k y q refl within read in
    seen-set vm qs o o k z ∙ (λ i. set_queue q k ((same ∙ sym old) i)) ∙ (λ i. record q { queues = set-get_or q.queues k no_queue i })

-- ---- what is owed, by ids
same_test : (b x k : ℕ) → (b + x + 1 == b + k + 1) ≡ (x == k)
same_test b x k =
    ⊎_elim (λ (e : x ≡ k). eq-eqb (b + x + 1) (b + k + 1) (omega (arith, e)) ∙ sym (eq-eqb x k e)) (λ (ne : x ≡ k → ⊥). ne_eqb (b + x + 1) (b + k + 1) (λ e. ne (omega (arith, e))) ∙ sym (ne_eqb x k ne)) (cases_eq x k)

count-seen : (vm k : ℕ) (ks : List ℕ) → count_by (λ x. x == seen_id vm k) (map (seen_id vm) ks) ≡ count_by (λ x. x == k) ks
count-seen vm k [] = refl
count-seen vm k (x ∷ xs) =
    sum_by-cons (λ y. cond (y == seen_id vm k) 1 0) (seen_id vm x) (map (seen_id vm) xs) ∙ (λ i. cond (same_test (base_of vm) x k i) 1 0 + count-seen vm k xs i) ∙ sym (sum_by-cons (λ y. cond (y == k) 1 0) x xs)

owed_more-seen : (vm k : ℕ) (ks : List ℕ) → owed_more (map (seen_id vm) ks) (seen_id vm k) ≡ map (seen_id vm) (owes_more ks k)
owed_more-seen vm k ks = ap (λ n. cond (nat_lt n 1024) (map (seen_id vm) ks ++ seen_id vm k ∷ []) (map (seen_id vm) ks)) (count-seen vm k ks) ∙ at (nat_lt (count_by (λ x. x == k) ks) 1024)
  where
    at : (b : Bool) → cond b (map (seen_id vm) ks ++ seen_id vm k ∷ []) (map (seen_id vm) ks) ≡ map (seen_id vm) (cond b (ks ++ k ∷ []) ks)
    at true = sym (map_push (seen_id vm) ks k)
    at false = refl

-- ---- one more item
pub appended : {names : List (Vec ℕ Global × ℕ)} {bytes : ℕ} (vm : ℕ) (qs : List Queue) (o p : Owing) (r : Queues) (k : ℕ) (item : List ℕ) (more : ℕ) (y z : Queue) → seen_queues vm qs o ≡ r → IsKept (seen_queues vm qs o) names o bytes → k < length r.queues → y ≡ get_or qs k y →
    length (queue_in r k).items < 1024 → IsWithin (used_by_queues (with_item r k item)) → seen_queue z ≡ record (seen_queue y) { items = (seen_queue y).items ++ item ∷ [] } → p ≡ record o { owed = owes_more o.owed k } → more ≡ bytes + length item →
    (seen_queues vm (set qs k z) p ≡ record (with_item r k item) { owed = owed_more r.owed (id_at r k) }) × IsKept (seen_queues vm (set qs k z) p) names p more
appended {names} {bytes} vm qs o p r k item more y z is kept less read few room new now counts =
    let q = seen_queues vm qs o in
    let within : k < length q.queues = omega (arith, less, ap (λ (x : Queues). length x.queues) is) in
    let old = seen_read vm qs o k y q refl within read in
    let x = record (queue_in q k) { items = (queue_in q k).items ++ item ∷ [] } in
    let same : seen_queue z ≡ x = new ∙ ap (λ (v : model.Queue). record v { items = v.items ++ item ∷ [] }) (sym old) in
    let view : seen_queues vm (set qs k z) p ≡ with_owed (set_queue q k x) (map (seen_id vm) p.owed) = seen-set vm qs o p k z ∙ (λ i. with_owed (set_queue q k (same i)) (map (seen_id vm) p.owed)) in
    let few_there : length (queue_in q k).items < 1024 = subst (λ v. length (queue_in v k).items < 1024) (sym is) few in
    let room_there : IsWithin (used_by_queues (with_item q k item)) = subst (λ v. IsWithin (used_by_queues (with_item v k item))) (sym is) room in
    let counted : more ≡ (used_by_queues (set_queue q k x)).bytes = omega (arith, counts, kept.counted, with_item_bytes q k item within) in
    let owed : map (seen_id vm) p.owed ≡ owed_more q.owed (id_at q k) = ap (λ (v : Owing). map (seen_id vm) v.owed) now ∙ sym (owed_more-seen vm k o.owed) in (
      view ∙ (λ i. with_owed (set_queue q k x) (owed i)) ∙ ap (λ v. record (with_item v k item) { owed = owed_more v.owed (id_at v k) }) is,
      subst (λ v. IsKept v names p more) (sym view)
          (kept_set k x more (map (seen_id vm) p.owed) p kept refl (omega (arith, few_there, length-append (queue_in q k).items (item ∷ []))) (ap (λ (v : Owing). v.whos) now ∙ whos_same o k (queue_in q k).who (who_there o q k kept.whos))
          counted (omega (arith, counted, room_there.bytes))),
    )
  where
    who_there : (o : Owing) (q : Queues) (k : ℕ) → o.whos ≡ map (λ (v : model.Queue). v.who) q.queues → get_or o.whos k 0 ≡ (queue_in q k).who
    who_there o q k e = ap (λ l. get_or l k 0) e ∙ get_or-map_default q.queues k

    whos_same : (o : Owing) (k w : ℕ) → get_or o.whos k 0 ≡ w → o.whos ≡ set o.whos k w
    whos_same o k w e = sym (set-get_or o.whos k 0) ∙ ap (set o.whos k) e

-- ---- one item fewer
pub item_fits : {names : List (Vec ℕ Global × ℕ)} {o : Owing} {bytes : ℕ} {q : Queues} (k : ℕ) (item : List ℕ) (items : List (List ℕ)) → IsKept q names o bytes → k < length q.queues → (queue_in q k).items ≡ item ∷ items → length item ≤ bytes
item_fits {q} k item items kept within first = omega (arith, but_first_bytes q k item items within first, kept.counted)

pub dequeued : {names : List (Vec ℕ Global × ℕ)} {bytes : ℕ} (vm : ℕ) (qs : List Queue) (o : Owing) (r : Queues) (k more : ℕ) (y z : Queue) → seen_queues vm qs o ≡ r → IsKept (seen_queues vm qs o) names o bytes → k < length r.queues → y ≡ get_or qs k y →
    seen_queue z ≡ record (seen_queue y) { items = but_first (seen_queue y).items } → more + item_bytes (handed_out (first_reply (seen_queue y).items)) ≡ bytes →
    (seen_queues vm (set qs k z) o ≡ dequeue_after r (Some k)) × IsKept (seen_queues vm (set qs k z) o) names o more
dequeued {names} {bytes} vm qs o r k more y z is kept less read new counts =
    let q = seen_queues vm qs o in
    let within : k < length q.queues = omega (arith, less, ap (λ (x : Queues). length x.queues) is) in
    let old = seen_read vm qs o k y q refl within read in
    let x = record (queue_in q k) { items = but_first (queue_in q k).items } in
    let same : seen_queue z ≡ x = new ∙ ap (λ (v : model.Queue). record v { items = but_first v.items }) (sym old) in
    let view : seen_queues vm (set qs k z) o ≡ set_queue q k x = seen-set vm qs o o k z ∙ (λ i. set_queue q k (same i)) in
    let counts_there : more + item_bytes (handed_out (first_reply (queue_in q k).items)) ≡ bytes = ap (λ (v : model.Queue). more + item_bytes (handed_out (first_reply v.items))) old ∙ counts in
    let counted : more ≡ (used_by_queues (set_queue q k x)).bytes = rest_bytes q k (queue_in q k).items more bytes refl within counts_there kept.counted in (
      view ∙ ap (λ v. dequeue_after v (Some k)) is,
      subst (λ v. IsKept v names o more) (sym view)
          (kept_set k x more (map (seen_id vm) o.owed) o kept refl (fewer (queue_in q k).items (items_few k kept within)) (whos_same (queue_in q k).who (ap (λ l. get_or l k 0) kept.whos ∙ get_or-map_default q.queues k)) counted (omega (arith, counts, kept.counted, kept.within.bytes))),
    )
  where
    whos_same : (w : ℕ) → get_or o.whos k 0 ≡ w → o.whos ≡ set o.whos k w
    whos_same w e = sym (set-get_or o.whos k 0) ∙ ap (set o.whos k) e

    fewer : (items : List (List ℕ)) → length items ≤ 1024 → length (but_first items) ≤ 1024
    fewer [] h = h
    fewer (item ∷ items) h = omega (arith, h)

    rest_bytes : (q : Queues) (k : ℕ) (items : List (List ℕ)) (more bytes : ℕ) → (queue_in q k).items ≡ items → k < length q.queues → more + item_bytes (handed_out (first_reply items)) ≡ bytes → bytes ≡ (used_by_queues q).bytes → more ≡ (used_by_queues (set_queue q k (record (queue_in q k) { items = but_first items }))).bytes
    rest_bytes q k [] more bytes first within c d =
        omega (arith, c, d, set_queue_bytes q k (record (queue_in q k) { items = [] }) within (ap (λ l. length (queue_in q k).name + item_bytes l) (sym first)))
    rest_bytes q k (item ∷ items) more bytes first within c d = omega (arith, c, d, but_first_bytes q k item items within first, items-cons item [])

-- ---- the oldest notice
is_for-seen : (vm : ℕ) (qs : List Queue) (o : Owing) (who k : ℕ) → o.whos ≡ map (λ (v : model.Queue). v.who) (seen_queues vm qs o).queues → model.is_for (seen_queues vm qs o) who (seen_id vm k) ≡ owing.is_for o who k
is_for-seen vm qs o who k whos =
    let e : base_of vm + k + 1 - base_of vm - 1 ≡ k = omega arith in
    ap (λ n. (queue_in (seen_queues vm qs o) n).who == who) e ∙ ap (λ n. n == who) (sym (ap (λ l. get_or l k 0) whos ∙ get_or-map_default (map seen_queue qs) k))

pub oldest-seen : (vm : ℕ) (qs : List Queue) (o : Owing) (who : ℕ) (ks : List ℕ) → o.whos ≡ map (λ (v : model.Queue). v.who) (seen_queues vm qs o).queues →
    (model.oldest_for (seen_queues vm qs o) who (map (seen_id vm) ks) ≡ option_map (seen_id vm) (oldest o who ks)) × (model.but_oldest (seen_queues vm qs o) who (map (seen_id vm) ks) ≡ map (seen_id vm) (but_oldest o who ks))
oldest-seen vm qs o who [] whos = (refl, refl)
oldest-seen vm qs o who (k ∷ ks) whos =
    let rest = oldest-seen vm qs o who ks whos in
    let q = seen_queues vm qs o in (
      ap (λ b. cond b (Some (seen_id vm k)) (model.oldest_for q who (map (seen_id vm) ks))) (is_for-seen vm qs o who k whos) ∙ ap (cond (owing.is_for o who k) (Some (seen_id vm k))) rest.0 ∙ first (owing.is_for o who k),
      ap (λ b. cond b (map (seen_id vm) ks) (seen_id vm k ∷ model.but_oldest q who (map (seen_id vm) ks))) (is_for-seen vm qs o who k whos) ∙ ap (λ l. cond (owing.is_for o who k) (map (seen_id vm) ks) (seen_id vm k ∷ l)) rest.1 ∙ others (owing.is_for o who k),
    )
  where
    first : (b : Bool) → cond b (Some (seen_id vm k)) (option_map (seen_id vm) (oldest o who ks)) ≡ option_map (seen_id vm) (cond b (Some k) (oldest o who ks))
    first true = refl
    first false = refl

    others : (b : Bool) → cond b (map (seen_id vm) ks) (seen_id vm k ∷ map (seen_id vm) (but_oldest o who ks)) ≡ map (seen_id vm) (cond b ks (k ∷ but_oldest o who ks))
    others true = refl
    others false = refl
