-- What is owed after each step.
use Rattle.std.proofs.Common.{◌≡◌, ℕ, ◌+◌, ◌-◌, ◌<◌, ◌≤◌, ◌==◌, List, [], ◌∷◌, ◌++◌, length, get_or, set, take, drop, Some, None, All, refl, sym, ap, subst, ◌∙◌, arith}
use Rattle.std.specs.Prelude.{count_by}
use Rattle.std.proofs.lemmas.Bool.{cond_below, cond_above}
use Rattle.shared_queues.specs.Firsts.{Standing, NoneOwedTo, IsEarliest}
use Rattle.shared_queues.specs.Owing.{Owing, oldest, but_oldest, owes_more, owed_from, first_number, IsNumbered}
use Rattle.shared_queues.proofs.Numbers.{owing_of, numbered_push, numbered_less, one_more, one_less, some_number, none_for, indexes}

pub record Step (t : Standing) (ms : List (List ℕ)) (next : ℕ) (p : Owing) : Type 0 where
  pub numbered : IsNumbered t ms next
  pub view : owing_of t ms next ≡ p

-- a step to equal values
moved : (s t : Standing) (ls ms : List (List ℕ)) (next : ℕ) (p : Owing) → t ≡ s → ms ≡ ls → Step s ls next p → Step t ms next p
moved s t ls ms next p one two step =
    let S : Standing → List (List ℕ) → Type 0 = λ x y. Step x y next p in
    subst (λ x. S x ms) (sym one) (subst (λ y. S s y) (sym two) step)

pub indexes_there : (s : Standing) (ls : List (List ℕ)) (next : ℕ) (o : Owing) → owing_of s ls next ≡ o → IsNumbered s ls next → All (λ k. k < length o.whos) o.owed
indexes_there s ls next o is n = subst (λ (x : Owing). All (λ k. k < length x.whos) x.owed) is (indexes s ls next n)

-- nothing has changed but the room that a queue has
pub stayed : (s : Standing) (ls ms : List (List ℕ)) (next : ℕ) (o : Owing) → owing_of s ls next ≡ o → IsNumbered s ls next → ms ≡ ls → Step s ms next o
stayed s ls ms next o is n same = moved s s ls ms next o refl same (record { numbered = n; view = is })

pub added : (s t : Standing) (ls ms : List (List ℕ)) (next who : ℕ) (o : Owing) → owing_of s ls next ≡ o → IsNumbered s ls next → length o.whos < 65536 → t ≡ record { whos = s.whos ++ who ∷ []; firsts = s.firsts ++ 18446744073709551615 ∷ [] } → ms ≡ ls ++ [] ∷ [] →
    Step t ms next (record o { whos = o.whos ++ who ∷ [] })
added s t ls ms next who o is n few one two =
    let r = numbered_push s ls next who n (omega (arith, few, ap (λ (x : Owing). length x.whos) is)) in
    let u : Standing = record { whos = s.whos ++ who ∷ []; firsts = s.firsts ++ 18446744073709551615 ∷ [] } in
    moved u t (ls ++ [] ∷ []) ms next (record o { whos = o.whos ++ who ∷ [] }) one two (record { numbered = r.0; view = (λ i. record { whos = s.whos ++ who ∷ []; owed = r.1 i }) ∙ ap (λ (x : Owing). record x { whos = x.whos ++ who ∷ [] }) is })

pub forgot : (s t : Standing) (ls ms : List (List ℕ)) (next m : ℕ) (o : Owing) → owing_of s ls next ≡ o → IsNumbered s ls next → All (λ k. k < length s.whos - 1) (owed_from next 0 ls) → length s.whos ≡ m + 1 → t ≡ record { whos = take m s.whos; firsts = take m s.firsts } → ms ≡ take m ls →
    Step t ms next (record o { whos = take m o.whos })
forgot s t ls ms next m o is n none more one two =
    let r = numbered_less s ls next m n none more in
    let u : Standing = record { whos = take m s.whos; firsts = take m s.firsts } in
    moved u t (take m ls) ms next (record o { whos = take m o.whos }) one two (record { numbered = r.0; view = (λ i. record { whos = take m s.whos; owed = r.1 i }) ∙ ap (λ (x : Owing). record x { whos = take m x.whos }) is })

-- ---- one notice more
pub owed_one : (s t : Standing) (ls ms : List (List ℕ)) (next k first : ℕ) (l m : List ℕ) (o : Owing) → owing_of s ls next ≡ o → IsNumbered s ls next → k < length o.whos → next < 18446744073709551615 → l ≡ get_or ls k [] → length l < 1024 → m ≡ l ++ next ∷ [] → first ≡ first_number m → t ≡ record s { firsts = set s.firsts k first } → ms ≡ set ls k m →
    Step t ms (next + 1) (record o { owed = owes_more o.owed k })
owed_one s t ls ms next k first l m o is n less room at few grown read one two =
    let r = one_more s ls next k l n (omega (arith, less, ap (λ (x : Owing). length x.whos) is)) at room in
    let f = first_number (l ++ next ∷ []) in
    let u : Standing = record s { firsts = set s.firsts k f } in
    let count : count_by (λ x. x == k) (owed_from next 0 ls) < 1024 = omega (arith, few, n.counted k, ap length at) in
    moved u t (set ls k (l ++ next ∷ [])) ms (next + 1) (record o { owed = owes_more o.owed k }) (one ∙ ap (λ v. record s { firsts = set s.firsts k v }) (read ∙ ap first_number grown)) (two ∙ ap (λ v. set ls k v) grown)
    (record {
      numbered = r.numbered;
      view = (λ i. record { whos = s.whos; owed = (r.owed ∙ cond_below (count_by (λ x. x == k) (owed_from next 0 ls)) 1024 (owed_from next 0 ls ++ k ∷ []) (owed_from next 0 ls) count) i }) ∙ ap (λ (x : Owing). record x { owed = owes_more x.owed k }) is;
    })

pub owed_none : (s : Standing) (ls : List (List ℕ)) (next k : ℕ) (l : List ℕ) (o : Owing) → owing_of s ls next ≡ o → IsNumbered s ls next → l ≡ get_or ls k [] → 1024 ≤ length l → o ≡ record o { owed = owes_more o.owed k }
owed_none s ls next k l o is n at many =
    let count : 1024 ≤ count_by (λ x. x == k) (owed_from next 0 ls) = omega (arith, many, n.counted k, ap length at) in
    sym is ∙ (λ i. record { whos = s.whos; owed = cond_above (count_by (λ x. x == k) (owed_from next 0 ls)) 1024 (owed_from next 0 ls ++ k ∷ []) (owed_from next 0 ls) (owed_from next 0 ls) count refl i }) ∙ ap (λ (x : Owing). record x { owed = owes_more x.owed k }) is

-- ---- one notice fewer
pub record Taken (t : Standing) (ms : List (List ℕ)) (next who k : ℕ) (o : Owing) : Type 0 where
  pub numbered : IsNumbered t ms next
  pub index : Some k ≡ oldest o who o.owed
  pub view : owing_of t ms next ≡ record o { owed = but_oldest o who o.owed }

pub taken : (s t : Standing) (ls ms : List (List ℕ)) (next who k first : ℕ) (m : List ℕ) (o : Owing) → owing_of s ls next ≡ o → IsNumbered s ls next → IsEarliest s who k → m ≡ drop 1 (get_or ls k []) → first ≡ first_number m → t ≡ record s { firsts = set s.firsts k first } → ms ≡ set ls k m → Taken t ms next who k o
taken s t ls ms next who k first m o is n earliest rest read one two =
    let some = some_number s ls next who k n earliest in
    let xs = some.1.0 in
    let r = one_less s ls next who k some.0 xs n earliest some.1.1 in
    let left : m ≡ xs = rest ∙ ap (drop 1) some.1.1 in
    let u : Standing = record s { firsts = set s.firsts k (first_number xs) } in
    let step = moved u t (set ls k xs) ms next (record o { owed = but_oldest o who o.owed }) (one ∙ ap (λ v. record s { firsts = set s.firsts k v }) (read ∙ ap first_number left)) (two ∙ ap (λ v. set ls k v) left)
    (record { numbered = r.numbered; view = (λ i. record { whos = s.whos; owed = r.owed i }) ∙ ap (λ (x : Owing). record x { owed = but_oldest x who x.owed }) is }) in
    record { numbered = step.numbered; index = r.index ∙ ap (λ (x : Owing). oldest x who x.owed) is; view = step.view }

pub taken_none : (s : Standing) (ls : List (List ℕ)) (next who : ℕ) (o : Owing) → owing_of s ls next ≡ o → IsNumbered s ls next → NoneOwedTo s who → (None ≡ oldest o who o.owed) × (o ≡ record o { owed = but_oldest o who o.owed })
taken_none s ls next who o is n none =
    let r = none_for s ls next who n none in
    (sym r.0 ∙ ap (λ (x : Owing). oldest x who x.owed) is, sym is ∙ (λ i. record { whos = s.whos; owed = sym r.1 i }) ∙ ap (λ (x : Owing). record x { owed = but_oldest x who x.owed }) is)
