-- The steps of the calls, from what was kept to what is.
use Rattle.std.proofs.Common.{◌≡◌, ℕ, ◌+◌, ◌-◌, ◌<◌, ◌≤◌, Bool, true, false, cond, List, [], ◌∷◌, ◌++◌, length, map, get_or, set, Option, Some, None, Result, Ok, Err, refl, sym, ap, subst, ◌∙◌, arith, Vec, Global}
use Rattle.std.specs.Prelude.{OnOk, OnErr}
use Rattle.std.specs.Option.{option_map}
use Rattle.std.specs.Result.{is_err}
use Rattle.std.specs.Map.{lookup}
use Rattle.std.specs.BTreeMap.{insert_entry}
use Rattle.std.specs.Str.{bytes_eq}
use Rattle.std.proofs.lemmas.List.{map_push, length-map}
use Rattle.std.proofs.lemmas.List.Sums.{sum_by-cons, sum_by-le}
use Rattle.std.proofs.Common.{sum_by}
use Rattle.std.proofs.lemmas.List.Elements.{All-append, All-cons, All-nil}
use Rattle.std.proofs.lemmas.Slice.Eq.{bytes_eq-Decides}
use Rattle.store_model.specs.Keys.{bytes_cmp}
use Rattle.store_model.specs.Queues as model
use Rattle.store_model.specs.Queues.{Queues, base_of, id_at, named, named_from, queue_in, queue_with, with_new, used_by_queues, item_bytes, item_count_of, first_reply, but_first, dequeue_after, notice_after, notice_reply}
use Rattle.store_model.specs.QueueLaws.{handed_out}
use Rattle.store_model.specs.Limits.{IsWithin}
use Rattle.store_model.specs.declared.call.Reply.TheVariants.{Owed, NoneOwed}
use Rattle.store_model.proofs.Entries.{lookup-insert_entry}
use Rattle.store_model.proofs.ByteMaps.{key_cmp, insert_entry-by_bytes}
use Rattle.store_model.proofs.Uses.{named-push, option_or, with_new_bytes}
use Rattle.shared_queues.specs.Owing.{Owing, oldest, but_oldest}
use Rattle.shared_queues.specs.Seen.{seen_queue, seen_queues, seen_id, seen_name, IsKept}
use Rattle.shared_queues.specs.declared.queues.Queue.{Queue}
use Rattle.shared_queues.proofs.Keeping.{seen_read, unchanged, dequeued, item_fits, oldest-seen}

pub on_err : {X E : Type 0} (r : Result X E) (P : Type 0) → P → OnErr r P
on_err (Ok x) P p = tt
on_err (Err e) P p = p

pub of_ok : {X E : Type 0} (r : Result X E) (P : Type 0) → is_err r ≡ false → OnOk r P → P
of_ok (Ok x) P fine p = p
of_ok (Err e) P fine p = absurd (cc)

-- ---- nothing has changed but the room that a queue has
pub stayed : {names : List (Vec ℕ Global × ℕ)} {bytes : ℕ} (vm : ℕ) (qs : List Queue) (o p : Owing) (r : Queues) (k : ℕ) (y z : Queue) → seen_queues vm qs o ≡ r → IsKept (seen_queues vm qs o) names o bytes → k < length r.queues → y ≡ get_or qs k y →
    seen_queue z ≡ seen_queue y → p ≡ o → (seen_queues vm (set qs k z) p ≡ r) × IsKept (seen_queues vm (set qs k z) p) names p bytes
stayed {names} {bytes} vm qs o p r k y z is kept less read same now =
    let view : seen_queues vm (set qs k z) p ≡ seen_queues vm qs o = ap (λ v. seen_queues vm (set qs k z) v) now ∙ unchanged vm qs o r k y z is less read same in
    (view ∙ is, (let K : Queues → Owing → Type 0 = λ v w. IsKept v names w bytes in subst (λ w. K (seen_queues vm (set qs k z) p) w) (sym now) (subst (λ v. K v o) (sym view) kept)))

-- ---- an empty queue
pub taken_none : {names : List (Vec ℕ Global × ℕ)} {bytes : ℕ} (vm : ℕ) (qs : List Queue) (o : Owing) (r : Queues) (k : ℕ) (y z : Queue) → seen_queues vm qs o ≡ r → IsKept (seen_queues vm qs o) names o bytes → k < length r.queues → y ≡ get_or qs k y →
    (seen_queue y).items ≡ [] → seen_queue z ≡ seen_queue y → (seen_queues vm (set qs k z) o ≡ dequeue_after r (Some k)) × IsKept (seen_queues vm (set qs k z) o) names o bytes
taken_none {bytes} vm qs o r k y z is kept less read none same =
    dequeued vm qs o r k bytes y z is kept less read (same ∙ (λ i. record (seen_queue y) { items = (none ∙ sym (ap but_first none)) i }))
    (let e : bytes + 0 ≡ bytes = omega arith in ap (λ l. bytes + item_bytes (handed_out (first_reply l))) none ∙ e)

-- ---- the first item
pub first_fits : {names : List (Vec ℕ Global × ℕ)} {bytes : ℕ} (vm : ℕ) (qs : List Queue) (o : Owing) (r : Queues) (k : ℕ) (item : List ℕ) (items : List (List ℕ)) (y : Queue) → seen_queues vm qs o ≡ r → IsKept (seen_queues vm qs o) names o bytes → k < length r.queues → y ≡ get_or qs k y →
    (seen_queue y).items ≡ item ∷ items → length item ≤ bytes
first_fits {names} {bytes} vm qs o r k item items y is kept less read first =
    let q = seen_queues vm qs o in
    let within : k < length q.queues = omega (arith, less, ap (λ (x : Queues). length x.queues) is) in
    item_fits k item items kept within (ap (λ (v : model.Queue). v.items) (seen_read vm qs o k y q refl within read) ∙ first)

pub taken_first : {names : List (Vec ℕ Global × ℕ)} {bytes : ℕ} (vm : ℕ) (qs : List Queue) (o : Owing) (r : Queues) (k : ℕ) (item : List ℕ) (more : ℕ) (y z : Queue) → seen_queues vm qs o ≡ r → IsKept (seen_queues vm qs o) names o bytes → k < length r.queues → y ≡ get_or qs k y →
    (seen_queue y).items ≡ item ∷ (seen_queue z).items → seen_queue z ≡ record (seen_queue y) { items = (seen_queue z).items } → more ≡ bytes - length item → (seen_queues vm (set qs k z) o ≡ dequeue_after r (Some k)) × IsKept (seen_queues vm (set qs k z) o) names o more
taken_first {names} {bytes} vm qs o r k item more y z is kept less read first same counts =
    let fit = first_fits vm qs o r k item (seen_queue z).items y is kept less read first in
    let one : item_bytes (handed_out (first_reply (seen_queue y).items)) ≡ length item = ap (λ l. item_bytes (handed_out (first_reply l))) first ∙ item_alone item in
    dequeued vm qs o r k more y z is kept less read (same ∙ (λ i. record (seen_queue y) { items = sym (ap but_first first) i })) (omega (arith, one, counts, fit))
  where
    item_alone : (item : List ℕ) → item_bytes (item ∷ []) ≡ length item
    item_alone item = let e : 0 + length item ≡ length item = omega arith in e

-- ---- a notice
pub noticed : {names : List (Vec ℕ Global × ℕ)} {bytes : ℕ} (vm : ℕ) (qs : List Queue) (o p : Owing) (r : Queues) (who : ℕ) → seen_queues vm qs o ≡ r → IsKept (seen_queues vm qs o) names o bytes → p ≡ record o { owed = but_oldest o who o.owed } → seen_queues vm qs p ≡ notice_after r who
noticed vm qs o p r who is kept now =
    (λ i. record { vm = vm; queues = map seen_queue qs; owed = map (seen_id vm) (now i).owed })
    ∙ (λ i. record { vm = vm; queues = map seen_queue qs; owed = sym (oldest-seen vm qs o who o.owed kept.whos).1 i }) ∙ ap (λ v. notice_after v who) is

pub none_noticed : {names : List (Vec ℕ Global × ℕ)} {bytes : ℕ} (vm : ℕ) (qs : List Queue) (o : Owing) (r : Queues) (who : ℕ) → seen_queues vm qs o ≡ r → IsKept (seen_queues vm qs o) names o bytes → None ≡ oldest o who o.owed → NoneOwed ≡ notice_reply r (model.oldest_for r who r.owed)
none_noticed vm qs o r who is kept found =
    let q = seen_queues vm qs o in
    ap (λ v. notice_reply q (option_map (seen_id vm) v)) found ∙ ap (notice_reply q) (sym (oldest-seen vm qs o who o.owed kept.whos).0) ∙ ap (λ v. notice_reply v (model.oldest_for v who v.owed)) is

pub one_noticed : {names : List (Vec ℕ Global × ℕ)} {bytes : ℕ} (vm : ℕ) (qs : List Queue) (o : Owing) (r : Queues) (who k id : ℕ) (y : Queue) → seen_queues vm qs o ≡ r → IsKept (seen_queues vm qs o) names o bytes → Some k ≡ oldest o who o.owed → k < length o.whos → y ≡ get_or qs k y → id ≡ seen_id vm k →
    Owed y.root id ≡ notice_reply r (model.oldest_for r who r.owed)
one_noticed vm qs o r who k id y is kept found less read same =
    let q = seen_queues vm qs o in
    let within : k < length q.queues = omega (arith, less, ap length kept.whos, length-map q.queues (λ (v : model.Queue). v.who)) in
    let e : base_of vm + k + 1 - base_of vm - 1 ≡ k = omega arith in
    (λ i. Owed y.root (same i)) ∙ (λ i. Owed (sym (ap (queue_in q) e ∙ seen_read vm qs o k y q refl within read) i).root (seen_id vm k))
    ∙ ap (λ v. notice_reply q (option_map (seen_id vm) v)) found ∙ ap (notice_reply q) (sym (oldest-seen vm qs o who o.owed kept.whos).0) ∙ ap (λ v. notice_reply v (model.oldest_for v who v.owed)) is

-- ---- a new queue
found_new : (q : Queues) (names : List (List ℕ × ℕ)) (name : List ℕ) (x : model.Queue) (n : List ℕ) → x.name ≡ name → ((m : List ℕ) → lookup (bytes_eq m) names ≡ named q m) → named q name ≡ None →
    lookup (bytes_eq n) (insert_entry bytes_cmp names name (length q.queues)) ≡ named_from 0 n (q.queues ++ x ∷ [])
found_new q names name x n called found new =
    lookup-insert_entry names name n (length q.queues) ∙ ap (λ o. cond (bytes_eq n name) (Some (length q.queues)) o) (found n) ∙ at (bytes_eq n name) refl (named q n) refl
    ∙ sym (named-push 0 n q.queues x ∙ ap (λ m. option_or (named q n) (cond (bytes_eq n m) (Some (0 + length q.queues)) None)) called)
  where
    zero_more : 0 + length q.queues ≡ length q.queues
    zero_more = omega arith

    at : (b : Bool) → bytes_eq n name ≡ b → (o : Option ℕ) → named q n ≡ o → cond b (Some (length q.queues)) o ≡ option_or o (cond b (Some (0 + length q.queues)) None)
    at true is None o = ap Some (sym zero_more)
    at true is (Some k) o =
        let same : n ≡ name = (bytes_eq-Decides n name).0 is in
        let none : named q n ≡ None = ap (named q) same ∙ new in
        absurd (cc)
    at false is None o = refl
    at false is (Some k) o = refl

pub made : {names : List (Vec ℕ Global × ℕ)} {bytes : ℕ} (vm : ℕ) (qs rs : List Queue) (o p : Owing) (r : Queues) (who root : ℕ) (name : List ℕ) (key : Vec ℕ Global) (more_names : List (Vec ℕ Global × ℕ)) (more count : ℕ) (z : Queue) → seen_queues vm qs o ≡ r → IsKept (seen_queues vm qs o) names o bytes →
    rs ≡ qs ++ z ∷ [] → seen_queue z ≡ record { name = name; who = who; root = root; items = [] } → p ≡ record o { whos = o.whos ++ who ∷ [] } → more_names ≡ insert_entry key_cmp names key count → count ≡ length qs → key.items ≡ name → named r name ≡ None →
    IsWithin (used_by_queues (with_new r who root name)) → more ≡ bytes + length name → (seen_queues vm rs p ≡ with_new r who root name) × IsKept (seen_queues vm rs p) more_names p more
made {names} {bytes} vm qs rs o p r who root name key more_names more count z is kept grown is_new now put counted_all called none room counts =
    let q = seen_queues vm qs o in
    let new : model.Queue = record { name = name; who = who; root = root; items = [] } in
    let view : seen_queues vm rs p ≡ with_new q who root name =
    (λ i. record { vm = vm; queues = map seen_queue (grown i); owed = map (seen_id vm) (now i).owed })
    ∙ (λ i. record { vm = vm; queues = (map_push seen_queue qs z ∙ ap (λ v. map seen_queue qs ++ v ∷ []) is_new) i; owed = q.owed }) in
    let many : count ≡ length q.queues = counted_all ∙ sym (length-map qs seen_queue) in
    let names_are : map seen_name more_names ≡ insert_entry bytes_cmp (map seen_name names) name (length q.queues) =
    ap (map seen_name) put ∙ insert_entry-by_bytes (λ (v : ℕ). v) names key count ∙ (λ i. insert_entry bytes_cmp (map seen_name names) (called i) (many i)) in
    let room_there : IsWithin (used_by_queues (with_new q who root name)) = subst (λ v. IsWithin (used_by_queues (with_new v who root name))) (sym is) room in (
      view ∙ ap (λ v. with_new v who root name) is,
      subst (λ v. IsKept v more_names p more) (sym view)
          (record {
            found = λ n. ap (lookup (bytes_eq n)) names_are ∙ found_new q (map seen_name names) name new n refl kept.found (ap (λ v. named v name) is ∙ none);
            whos = ap (λ (v : Owing). v.whos) now ∙ ap (λ l. l ++ who ∷ []) kept.whos ∙ sym (map_push (λ (v : model.Queue). v.who) q.queues new);
            counted = omega (arith, counts, kept.counted, with_new_bytes q who root name);
            within = room_there;
            items = All-append (λ (v : model.Queue). length v.items ≤ 1024) q.queues (new ∷ []) kept.items (All-cons (λ (v : model.Queue). length v.items ≤ 1024) new [] (omega arith) (All-nil (λ (v : model.Queue). length v.items ≤ 1024)));
            vm = kept.vm;
          }),
    )

-- ---- how many items there are
count-map : (qs : List Queue) → sum_by (λ (x : model.Queue). length x.items) (map seen_queue qs) ≡ sum_by (λ (q : Queue). length q.items.items) qs
count-map [] = refl
count-map (q ∷ qs) =
    sum_by-cons (λ (x : model.Queue). length x.items) (seen_queue q) (map seen_queue qs) ∙ ap (λ n. length q.items.items + n) (count-map qs) ∙ sym (sum_by-cons (λ (x : Queue). length x.items.items) q qs)

pub count_is : {names : List (Vec ℕ Global × ℕ)} {bytes : ℕ} (vm : ℕ) (qs : List Queue) (o : Owing) (r : Queues) → seen_queues vm qs o ≡ r → IsKept (seen_queues vm qs o) names o bytes →
    (item_count_of r ≡ sum_by (λ (q : Queue). length q.items.items) qs) × (sum_by (λ (q : Queue). length q.items.items) qs ≤ 67108864)
count_is vm qs o r is kept =
    let q = seen_queues vm qs o in
    let most = sum_by-le (λ (x : model.Queue). length x.items) 1024 q.queues kept.items in
    (ap item_count_of (sym is) ∙ count-map qs, omega (arith, most, count-map qs, kept.within.names))
