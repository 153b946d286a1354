-- The one history of a script's calls: those of its steps, one after the other.
use Rattle.std.proofs.Common.{◌≡◌, ◌<◌, ℕ, zero, suc, Bool, List, [], ◌∷◌, ◌++◌, length, map, refl, ap, sym, ◌∙◌, subst, arith, ⊎_elim, eq-eqb, ne_eqb, length-set, length-append, get_or}
use Rattle.std.specs.Prelude.{if◌then◌else◌, ◌==◌, ◌-◌, cond}
use Rattle.std.specs.List.{filter}
use Rattle.std.proofs.lemmas.Bool.{cases_eq}
use Rattle.std.proofs.lemmas.List.{get_or_append_left, get_or-append_right, map-append}
use Rattle.std.proofs.lemmas.List.Elements.{filter-append}
use Rattle.filter_host.specs.Course.{Met, called, measured, heard, calls_in}
use Rattle.command_replay.specs.Delivered.{Step, Stepped, met_in, steps_of}
use Rattle.command_replay.specs.Replay.{for_worker, stores_for}
use Rattle.shared_store.specs.Fresh.{fresh_stores}
use Rattle.store_model.specs.History.{entry, own, reply_in, store_acts, value_from, replies_from, IsLegal, IsLegalFrom}
use Rattle.store_model.specs.Made as store
use Rattle.store_model.specs.Made.{Made, MadeCall, calls_among, entries_on}
use Rattle.store_model.specs.Sequential.{Stores, Performs, measured_after, performs_part, store_at, stores_after}
use Rattle.store_model.specs.Store.{Store, applied, empty_store}
use Rattle.store_model.specs.declared.call.Reply.{Reply}
use Rattle.store_model.specs.declared.entry.Entry.{Entry}

-- calls leave as many stores
same_count : (ms : List Made) (s t : Stores) → Performs s ms t → length t.stores ≡ length s.stores
same_count [] s t h = ap (λ (x : Stores). length x.stores) h
same_count (store.called m ∷ ms) s t h = same_count ms (stores_after s m.vm m.call) t h.1 ∙ length-set s.stores m.vm (applied (store_at s m.vm) s.who m.call).store
same_count (store.measured m ∷ ms) s t h = same_count ms (measured_after s m.vm m.ask) t h.1

-- one history after the other
replies_join : (s : Store) (h k : List Entry) → replies_from store_acts s (h ++ k) ≡ replies_from store_acts s h ++ replies_from store_acts (value_from store_acts s h) k
replies_join s [] k = refl
replies_join s (e ∷ h) k = ap (λ (rs : List Reply). (applied s e.who e.call).reply ∷ rs) (replies_join (applied s e.who e.call).store h k)

legal_join : (s : Store) (h k : List Entry) → IsLegalFrom store_acts s h → IsLegalFrom store_acts (value_from store_acts s h) k → IsLegalFrom store_acts s (h ++ k)
legal_join s h k a b = map-append reply_in h k ∙ (λ i. a i ++ b i) ∙ sym (replies_join s h k)

-- THE HISTORY of a script's steps on a store
unfoldable pub history_of : ℕ → List Step → List Entry
history_of vm [] = []
history_of vm (x ∷ steps) = entries_on x.who vm (calls_in x.met) ++ history_of vm steps

legal_from : (vm : ℕ) (steps : List Step) (s t : Stores) → vm < length s.stores → Stepped s steps t → IsLegalFrom store_acts (store_at s vm) (history_of vm steps)
unfolding history_of
legal_from vm [] s t within h = refl
legal_from vm (x ∷ steps) s t within h =
    let mid = h.0 in
    let part = performs_part (calls_in x.met) (for_worker x.who s) mid vm within h.1 in
    let count = same_count (calls_in x.met) (for_worker x.who s) mid h.1 in
    legal_join (store_at s vm) (entries_on x.who vm (calls_in x.met)) (history_of vm steps) part.0
    (subst (λ (v : Store). IsLegalFrom store_acts v (history_of vm steps)) part.1 (legal_from vm steps mid t (omega (arith, within, count)) h.2))

-- at first each store is empty
fresh_count : (n : ℕ) → length (fresh_stores n) ≡ n
fresh_count zero = refl
fresh_count (suc n) =
    let all = length-append (fresh_stores n) (empty_store n ∷ []) in
    let less = fresh_count n in
    omega (arith, all, less)

less_of : (v n : ℕ) → v < suc n → (v ≡ n → ⊥) → v < n
less_of v n low apart = omega (arith, low, apart)

fresh_at : (n v : ℕ) → v < n → get_or (fresh_stores n) v (empty_store v) ≡ empty_store v
fresh_at zero v low = absurd (omega (arith, low))
fresh_at (suc n) v low =
    let count = fresh_count n in
    let none : n - n ≡ 0 = omega arith in
    ⊎_elim
    (λ (same : v ≡ n).
    subst (λ (k : ℕ). get_or (fresh_stores n ++ empty_store n ∷ []) k (empty_store k) ≡ empty_store k) (sym same)
    (get_or-append_right (fresh_stores n) (empty_store n ∷ []) n n (empty_store n) count (omega arith) ∙ ap (λ (k : ℕ). get_or (empty_store n ∷ []) k (empty_store n)) none))
    (λ (apart : v ≡ n → ⊥).
    let less : v < n = less_of v n low apart in
    get_or_append_left (fresh_stores n) (empty_store n ∷ []) (empty_store v) v (omega (arith, less, count)) ∙ fresh_at n v less)
    (cases_eq v n)

pub legal : (vm vms : ℕ) (steps : List Step) (t : Stores) → vm < vms → Stepped (stores_for vms) steps t → IsLegal vm (history_of vm steps)
legal vm vms steps t low h =
    let count = fresh_count vms in
    subst (λ (v : Store). IsLegalFrom store_acts v (history_of vm steps)) (fresh_at vms vm low) (legal_from vm steps (stores_for vms) t (omega (arith, low, count)) h)

-- ---- whose calls are whose

calls_join : (ms ns : List Met) → calls_in (ms ++ ns) ≡ calls_in ms ++ calls_in ns
calls_join [] ns = refl
calls_join (called c ∷ ms) ns = ap (λ (x : List Made). store.called c ∷ x) (calls_join ms ns)
calls_join (measured c ∷ ms) ns = ap (λ (x : List Made). store.measured c ∷ x) (calls_join ms ns)
calls_join (heard h ∷ ms) ns = calls_join ms ns

among_join : (a b : List Made) → calls_among (a ++ b) ≡ calls_among a ++ calls_among b
among_join [] b = refl
among_join (store.called m ∷ a) b = ap (λ (x : List MadeCall). m ∷ x) (among_join a b)
among_join (store.measured m ∷ a) b = among_join a b

entries_join : (who vm : ℕ) (a b : List Made) → entries_on who vm (a ++ b) ≡ entries_on who vm a ++ entries_on who vm b
entries_join who vm a b =
    ap (λ (ms : List MadeCall). map (λ (m : MadeCall). entry who m.call m.reply) (filter (λ (m : MadeCall). m.vm == vm) ms)) (among_join a b)
    ∙ ap (map (λ (m : MadeCall). entry who m.call m.reply)) (filter-append (λ (m : MadeCall). m.vm == vm) (calls_among a) (calls_among b))
    ∙ map-append (λ (m : MadeCall). entry who m.call m.reply) (filter (λ (m : MadeCall). m.vm == vm) (calls_among a)) (filter (λ (m : MadeCall). m.vm == vm) (calls_among b))

all_own : (who w : ℕ) (ms : List MadeCall) → w ≡ who → own who (map (λ (m : MadeCall). entry w m.call m.reply) ms) ≡ map (λ (m : MadeCall). entry w m.call m.reply) ms
all_own who w [] same = refl
all_own who w (m ∷ ms) same =
    let later = map (λ (x : MadeCall). entry w x.call x.reply) ms in
    ap (λ (b : Bool). cond b (entry w m.call m.reply ∷ own who later) (own who later)) (eq-eqb w who same) ∙ ap (λ (l : List Entry). entry w m.call m.reply ∷ l) (all_own who w ms same)

none_own : (who w : ℕ) (ms : List MadeCall) → (w ≡ who → ⊥) → own who (map (λ (m : MadeCall). entry w m.call m.reply) ms) ≡ []
none_own who w [] apart = refl
none_own who w (m ∷ ms) apart =
    let later = map (λ (x : MadeCall). entry w x.call x.reply) ms in
    ap (λ (b : Bool). cond b (entry w m.call m.reply ∷ own who later) (own who later)) (ne_eqb w who apart) ∙ none_own who w ms apart

pub own_history : (who vm : ℕ) (steps : List Step) → own who (history_of vm steps) ≡ entries_on who vm (calls_in (met_in (steps_of who steps)))
unfolding history_of
own_history who vm [] = refl
own_history who vm (x ∷ steps) =
    let ms = filter (λ (m : MadeCall). m.vm == vm) (calls_among (calls_in x.met)) in
    let rest = steps_of who steps in
    let front = filter-append (λ (e : Entry). e.who == who) (entries_on x.who vm (calls_in x.met)) (history_of vm steps) in
    ⊎_elim
    (λ (same : x.who ≡ who).
    front
    ∙ (λ i. (all_own who x.who ms same ∙ ap (λ (w : ℕ). entries_on w vm (calls_in x.met)) same) i ++ own_history who vm steps i)
    ∙ sym (entries_join who vm (calls_in x.met) (calls_in (met_in rest)))
    ∙ ap (entries_on who vm) (sym (calls_join x.met (met_in rest)))
    ∙ ap (λ (b : Bool). entries_on who vm (calls_in (met_in (if b then x ∷ rest else rest)))) (sym (eq-eqb x.who who same)))
    (λ (apart : x.who ≡ who → ⊥).
    front
    ∙ (λ i. none_own who x.who ms apart i ++ own_history who vm steps i)
    ∙ ap (λ (b : Bool). entries_on who vm (calls_in (met_in (if b then x ∷ rest else rest)))) (sym (ne_eqb x.who who apart)))
    (cases_eq x.who who)
