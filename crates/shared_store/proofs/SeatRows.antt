-- The worked examples.
use Rattle.std.proofs.Common.{arith, ◌≡◌, ℕ, zero, suc, ◌+◌, ◌≤◌, All, List, [], ◌∷◌, refl, ap, sym, subst, ◌∙◌, Option, Some, None}
use Rattle.std.specs.Global.{Vec}
use mathlib.Core.List.{IsPrefix}
use mathlib.Core.Option.{some, some-injective, some-ne-none}
use lib.ListN.{get_elem?}
use Rattle.atomic_table.specs.Seated.{TableId}
use Rattle.store_model.specs.History.{own}
use Rattle.store_model.specs.Made.{Made, made, entries_on}
use Rattle.store_model.specs.declared.entry.Entry.{Entry}
use Rattle.store_model.specs.declared.call.Reply.{Reply}
use Rattle.store_model.specs.declared.call.Reply.TheVariants.{Done, CasMismatch}
use Rattle.shared_store.specs.Moving.{GoesOn}
use Rattle.shared_store.specs.SeatRows.{second_at, first_done, second_stale, call_on_second_table, call_on_wrong_table, reply_of_an_old_copy, begun_anew, leader, one_history_of_two, entry_of_nobody}
use Rattle.turn_table.specs.Rows.{set_k}
use Rattle.turn_table.specs.Seats.{Seated}

abbrev calls : List Made
calls = made 1 (set_k 51 5) CasMismatch ∷ []

each_goes : (s t : TableId) (k : ℕ) (v w : Seated) → get_elem? (second_at s 0 [] ∷ second_at t 1 [] ∷ []) k ≡ some v → get_elem? (second_at s 0 [] ∷ second_at t 1 (first_done ∷ second_stale ∷ []) ∷ []) k ≡ some w
    → GoesOn k v w (entries_on v.number k calls)
each_goes s t zero v w p q = subst (λ (z : Seated × Seated). GoesOn 0 z.0 z.1 (entries_on z.0.number 0 calls))
    (λ i. (some-injective (second_at s 0 []) v p i, some-injective (second_at s 0 []) w q i))
    (record { same = refl; begins = ([], refl); legal = λ l. l; entries = refl })
each_goes s t (suc zero) v w p q = subst (λ (z : Seated × Seated). GoesOn 1 z.0 z.1 (entries_on z.0.number 1 calls))
    (λ i. (some-injective (second_at t 1 []) v p i, some-injective (second_at t 1 (first_done ∷ second_stale ∷ [])) w q i))
    (record { same = refl; begins = (first_done ∷ second_stale ∷ [], refl); legal = λ l. refl; entries = refl })
each_goes s t (suc (suc k)) v w p q = absurd (some-ne-none v (sym p))

pub on_second : call_on_second_table
on_second s t = record { as_many = refl; each = each_goes s t }

pub on_wrong : call_on_wrong_table
on_wrong s t goes = let e = (goes.each 1 (second_at t 1 []) (second_at t 1 []) refl refl).entries in absurd (cc)

abbrev second_of : List Reply → Option Reply
second_of (a ∷ b ∷ l) = Some b
second_of _ = None

pub old_copy : reply_of_an_old_copy
old_copy t goes =
    let e = (goes.each 0 (second_at t 0 []) _ refl refl).legal refl in
    let differ : Some (Done 1) ≡ Some (Done 2) = ap second_of e in absurd (cc)

pub anew : begun_anew
anew t goes = let p = (goes.each 0 (second_at t 0 (first_done ∷ [])) (second_at t 0 []) refl refl).begins in let e = p.1 in absurd (cc)

-- what both workers called
abbrev both : List Entry
both = first_done ∷ second_stale ∷ []

seen_of_both : (t : TableId) (one two : Vec Seated) → one.items ≡ leader t (first_done ∷ []) ∷ [] → two.items ≡ second_at t 0 both ∷ [] → (w : ℕ) (l : Vec Seated) (v : Seated) → get_elem? (one ∷ two ∷ []) w ≡ some l → get_elem? l.items 0 ≡ some v
    → IsPrefix v.seen both × (own (w + 1) both ≡ own (w + 1) v.seen)
seen_of_both t one two is_one is_two zero l v p q =
    let here : get_elem? l.items 0 ≡ some (leader t (first_done ∷ [])) = subst (λ (x : Vec Seated). get_elem? x.items 0 ≡ some (leader t (first_done ∷ []))) (some-injective one l p) (ap (λ s. get_elem? s 0) is_one) in
    subst (λ (x : Seated). IsPrefix x.seen both × (own 1 both ≡ own 1 x.seen)) (some-injective (leader t (first_done ∷ [])) v (sym here ∙ q)) ((second_stale ∷ [], refl), refl)
seen_of_both t one two is_one is_two (suc zero) l v p q =
    let here : get_elem? l.items 0 ≡ some (second_at t 0 both) = subst (λ (x : Vec Seated). get_elem? x.items 0 ≡ some (second_at t 0 both)) (some-injective two l p) (ap (λ s. get_elem? s 0) is_two) in
    subst (λ (x : Seated). IsPrefix x.seen both × (own 2 both ≡ own 2 x.seen)) (some-injective (second_at t 0 both) v (sym here ∙ q)) (([], refl), refl)
seen_of_both t one two is_one is_two (suc (suc w)) l v p q = absurd (some-ne-none l (sym p))

both_have_seats : All (λ (e : Entry). (1 ≤ e.who) × (e.who ≤ 2)) both
both_have_seats zero d h = (omega arith, omega arith)
both_have_seats (suc zero) d h = (omega arith, omega arith)
both_have_seats (suc (suc k)) d h = absurd (omega arith)

pub of_two : one_history_of_two
of_two t one two is_one is_two = record { history = both; legal = refl; store_is = refl; calls_is = refl; seen = seen_of_both t one two is_one is_two; no_others = both_have_seats }

pub of_nobody : entry_of_nobody
of_nobody t one c is h =
    let s = h.seen 0 one (leader t (second_stale ∷ [])) refl (ap (λ l. get_elem? l 0) is) in
    let all = subst (All (λ (e : Entry). (1 ≤ e.who) × (e.who ≤ 1))) (sym s.0.1) h.no_others in
    let far = (all 0 second_stale (omega arith)).1 in absurd (omega arith)
