-- What asks from a place leave of its words, and which entries they are in the history of definitions.
use Rattle.std.proofs.Common.{◌≡◌, ℕ, ◌+◌, Bool, true, false, cond, nat_lt, List, [], ◌∷◌, ◌++◌, length, Option, Some, None, refl, ap, sym, subst, ◌∙◌, append_assoc}
use Rattle.std.proofs.lemmas.List.{append-nil}
use mathlib.Core.List.{IsPrefix}
use Rattle.store_model.specs.History.{entry, own, value_from, IsLegalFrom}
use Rattle.store_model.specs.Made.{MadeAsk}
use Rattle.store_model.specs.MetricLaws.{as_metric_reply}
use Rattle.store_model.specs.MetricNames.{Names, id_given, metric_name, names_acts, names_after, names_reply, place_among}
use Rattle.store_model.specs.declared.call.Reply.TheVariants.{Absent, Value, CasMismatch, Item, Empty, Owed, NoneOwed}
use Rattle.store_model.specs.declared.call.Reply.TheVariants as store
use Rattle.store_model.specs.declared.entry.Entry.{Entry}
use Rattle.store_model.specs.declared.metric.MetricAsk.{MetricAsk}
use Rattle.store_model.specs.declared.metric.MetricAsk.TheVariants.{Define, Add, Put, Sum}
use Rattle.store_model.specs.declared.metric.MetricKind.{MetricKind}
use Rattle.store_model.specs.declared.metric.MetricKind.TheVariants.{Counter, Gauge}
use Rattle.store_model.specs.declared.metric.MetricName.{MetricName}
use Rattle.store_model.specs.declared.metric.MetricReply.{MetricReply}
use Rattle.store_model.specs.declared.used.TheConstants.{MOST_METRICS}
use Rattle.turn_table.specs.Seats.{Seated, IsSameSeat}
use Rattle.turn_table.proofs.Prefixes.{prefix_trans}
use Rattle.metric_table.specs.Seats.{Counting}
use Rattle.metric_seats.specs.Measuring.{Measures}
use Rattle.metric_seats.specs.Places.{Asked, CountedIf, IsSamePlace, Metered, PlaceStays, SummedIf, define_call, kind_for}
use Rattle.shared_seats.specs.Asked.{as_answer, definition_of, definitions_by}

-- ---- the place stays one
seat_alike : (v w : Seated) → w ≡ v → IsSameSeat v w
seat_alike v w e = subst (IsSameSeat v) (sym e) refl

abbrev SameWords : Counting → Counting → Type 0
SameWords v w = w ≡ record v { own = w.own; looks = w.looks }

words_alike : (v w : Counting) → w ≡ v → SameWords v w
words_alike v w e = subst (SameWords v) (sym e) refl

stays_same : (v w : Metered) → PlaceStays v w → IsSamePlace v w
stays_same v w p = (p.names.same, words_alike v.words w.words p.words)

asked_same : (v w : Metered) (asked : MetricAsk) (reply : MetricReply) → Asked v asked reply w → IsSamePlace v w
asked_same v w (Define kind name) reply d = (d.same, words_alike v.words w.words d.words)
asked_same v w (Add id by) reply h = counts (kind_for v id) (Add id by) h
  where
    counts : (o : Option MetricKind) (asked : MetricAsk) → CountedIf o v id asked reply w → IsSamePlace v w
    counts (Some kind) asked h = (seat_alike v.names w.names h.names, subst (SameWords v.words) (sym h.words) refl)
    counts None asked h = subst (IsSamePlace v) (sym h.place) (refl, refl)
asked_same v w (Put id value) reply h = counts (kind_for v id) (Put id value) h
  where
    counts : (o : Option MetricKind) (asked : MetricAsk) → CountedIf o v id asked reply w → IsSamePlace v w
    counts (Some kind) asked h = (seat_alike v.names w.names h.names, subst (SameWords v.words) (sym h.words) refl)
    counts None asked h = subst (IsSamePlace v) (sym h.place) (refl, refl)
asked_same v w (Sum id) reply h = sums (kind_for v id) h
  where
    sums : (o : Option MetricKind) → SummedIf o v id reply w → IsSamePlace v w
    sums (Some kind) h = (seat_alike v.names w.names h.names, subst (SameWords v.words) (sym h.words) refl)
    sums None h = subst (IsSamePlace v) (sym h.place) (refl, refl)

same_trans : (u v w : Metered) → IsSamePlace u v → IsSamePlace v w → IsSamePlace u w
same_trans u v w p q = (
  q.0 ∙ ap (λ (s : Seated). let t : Seated = record s { seen = w.names.seen } in t) p.0,
  q.1 ∙ ap (λ (c : Counting). let t : Counting = record c { own = w.words.own; looks = w.words.looks } in t) p.1,
)

pub measured_same : (v w : Metered) (ms : List MadeAsk) → Measures v ms w → IsSamePlace v w
measured_same v w [] m = stays_same v w m
measured_same v w (a ∷ ms) m = same_trans v m.before w (stays_same v m.before m.stays) (same_trans m.before m.after w (asked_same m.before m.after a.ask a.reply m.asked) (measured_same m.after w ms m.rest))

-- ---- the entries in the history of definitions
-- the last reply of a legal history
last_legal : (s : Names) (h : List Entry) (e : Entry) → IsLegalFrom names_acts s (h ++ e ∷ []) → e.reply ≡ names_reply (value_from names_acts s h) e.call
last_legal s [] e legal = cc
last_legal s (x ∷ h) e legal = last_legal (names_after s x.call) h e (cc)

given_alike : (ns : List MetricName) (o : Option ℕ) → id_given ns o ≡ as_answer (as_metric_reply (id_given ns o))
given_alike ns (Some k) = refl
given_alike ns None = at (nat_lt (length ns) MOST_METRICS)
  where
    at : (b : Bool) → cond b (store.Id (length ns + 1)) store.Full ≡ as_answer (as_metric_reply (cond b (store.Id (length ns + 1)) store.Full))
    at true = refl
    at false = refl

defined_alike : (s : Names) (kind : MetricKind) (name : List ℕ) → names_reply s (define_call kind name) ≡ as_answer (as_metric_reply (names_reply s (define_call kind name)))
defined_alike s Counter name = given_alike s.names (place_among s.names (metric_name Counter name))
defined_alike s Gauge name = given_alike s.names (place_among s.names (metric_name Gauge name))

-- an ask's entry, if it is a definition
asked_entry : (v w : Metered) (asked : MetricAsk) (reply : MetricReply) → Asked v asked reply w → own v.names.number w.names.seen ≡ own v.names.number v.names.seen ++ definition_of v.names.number asked reply
asked_entry v w (Define kind name) reply d =
    let c = d.called in let e = entry v.names.number (define_call kind name) d.answer in
    let legal : IsLegalFrom names_acts (record { vm = w.names.table.vm; names = [] }) ((v.names.seen ++ c.others) ++ e ∷ []) = subst (λ l. IsLegalFrom names_acts (record { vm = w.names.table.vm; names = [] }) l) c.seen c.legal in
    let s = value_from names_acts (record { vm = w.names.table.vm; names = [] }) (v.names.seen ++ c.others) in
    let is : d.answer ≡ names_reply s (define_call kind name) = last_legal (record { vm = w.names.table.vm; names = [] }) (v.names.seen ++ c.others) e legal in
    let answer : d.answer ≡ as_answer reply = is ∙ (defined_alike s kind name ∙ ap (λ r. as_answer (as_metric_reply r)) (sym is)) ∙ ap as_answer (sym d.reply_is) in
    c.entries ∙ ap (λ r. own v.names.number v.names.seen ++ entry v.names.number (define_call kind name) r ∷ []) answer
asked_entry v w (Add id by) reply h = counts (kind_for v id) (Add id by) h
  where
    counts : (o : Option MetricKind) (asked : MetricAsk) → CountedIf o v id asked reply w → own v.names.number w.names.seen ≡ own v.names.number v.names.seen ++ []
    counts (Some kind) asked h = ap (λ (s : Seated). own v.names.number s.seen) h.names ∙ sym (append-nil (own v.names.number v.names.seen))
    counts None asked h = ap (λ (m : Metered). own v.names.number m.names.seen) h.place ∙ sym (append-nil (own v.names.number v.names.seen))
asked_entry v w (Put id value) reply h = counts (kind_for v id) (Put id value) h
  where
    counts : (o : Option MetricKind) (asked : MetricAsk) → CountedIf o v id asked reply w → own v.names.number w.names.seen ≡ own v.names.number v.names.seen ++ []
    counts (Some kind) asked h = ap (λ (s : Seated). own v.names.number s.seen) h.names ∙ sym (append-nil (own v.names.number v.names.seen))
    counts None asked h = ap (λ (m : Metered). own v.names.number m.names.seen) h.place ∙ sym (append-nil (own v.names.number v.names.seen))
asked_entry v w (Sum id) reply h = sums (kind_for v id) h
  where
    sums : (o : Option MetricKind) → SummedIf o v id reply w → own v.names.number w.names.seen ≡ own v.names.number v.names.seen ++ []
    sums (Some kind) h = ap (λ (s : Seated). own v.names.number s.seen) h.names ∙ sym (append-nil (own v.names.number v.names.seen))
    sums None h = ap (λ (m : Metered). own v.names.number m.names.seen) h.place ∙ sym (append-nil (own v.names.number v.names.seen))

-- the number is the same after a stay or an ask
number_of : (v w : Metered) → IsSamePlace v w → w.names.number ≡ v.names.number
number_of v w same = ap (λ (s : Seated). s.number) same.0

-- a worker's own entries are those that it had, and its definitions
pub measured_entries : (v w : Metered) (ms : List MadeAsk) → Measures v ms w → own v.names.number w.names.seen ≡ own v.names.number v.names.seen ++ definitions_by v.names.number ms
measured_entries v w [] m = m.names.own_are
measured_entries v w (a ∷ ms) m =
    let n = v.names.number in let u = m.before in let t = m.after in
    let un : u.names.number ≡ n = number_of v u (stays_same v u m.stays) in
    let tn : t.names.number ≡ n = number_of u t (asked_same u t a.ask a.reply m.asked) ∙ un in
    let first : own n u.names.seen ≡ own n v.names.seen = m.stays.names.own_are ∙ append-nil (own n v.names.seen) in
    let second : own n t.names.seen ≡ own n u.names.seen ++ definition_of n a.ask a.reply = subst (λ k. own k t.names.seen ≡ own k u.names.seen ++ definition_of k a.ask a.reply) un (asked_entry u t a.ask a.reply m.asked) in
    let rest : own n w.names.seen ≡ own n t.names.seen ++ definitions_by n ms = subst (λ k. own k w.names.seen ≡ own k t.names.seen ++ definitions_by k ms) tn (measured_entries t w ms m.rest) in
    rest ∙ (ap (λ l. l ++ definitions_by n ms) (second ∙ ap (λ l. l ++ definition_of n a.ask a.reply) first) ∙ append_assoc (own n v.names.seen) (definition_of n a.ask a.reply) (definitions_by n ms))

-- what a place had seen begins what it has seen
pub asked_begins : (v w : Metered) (asked : MetricAsk) (reply : MetricReply) → Asked v asked reply w → IsPrefix v.names.seen w.names.seen
asked_begins v w (Define kind name) reply d =
    let c = d.called in let e = entry v.names.number (define_call kind name) d.answer in
    (c.others ++ e ∷ [], sym (append_assoc v.names.seen c.others (e ∷ [])) ∙ sym c.seen)
asked_begins v w (Add id by) reply h = counts (kind_for v id) (Add id by) h
  where
    counts : (o : Option MetricKind) (asked : MetricAsk) → CountedIf o v id asked reply w → IsPrefix v.names.seen w.names.seen
    counts (Some kind) asked h = ([], append-nil v.names.seen ∙ ap (λ (s : Seated). s.seen) (sym h.names))
    counts None asked h = ([], append-nil v.names.seen ∙ ap (λ (m : Metered). m.names.seen) (sym h.place))
asked_begins v w (Put id value) reply h = counts (kind_for v id) (Put id value) h
  where
    counts : (o : Option MetricKind) (asked : MetricAsk) → CountedIf o v id asked reply w → IsPrefix v.names.seen w.names.seen
    counts (Some kind) asked h = ([], append-nil v.names.seen ∙ ap (λ (s : Seated). s.seen) (sym h.names))
    counts None asked h = ([], append-nil v.names.seen ∙ ap (λ (m : Metered). m.names.seen) (sym h.place))
asked_begins v w (Sum id) reply h = sums (kind_for v id) h
  where
    sums : (o : Option MetricKind) → SummedIf o v id reply w → IsPrefix v.names.seen w.names.seen
    sums (Some kind) h = ([], append-nil v.names.seen ∙ ap (λ (s : Seated). s.seen) (sym h.names))
    sums None h = ([], append-nil v.names.seen ∙ ap (λ (m : Metered). m.names.seen) (sym h.place))

pub measured_begins : (v w : Metered) (ms : List MadeAsk) → Measures v ms w → IsPrefix v.names.seen w.names.seen
measured_begins v w [] m = m.names.begins
measured_begins v w (a ∷ ms) m = prefix_trans v.names.seen m.before.names.seen w.names.seen m.stays.names.begins
    (prefix_trans m.before.names.seen m.after.names.seen w.names.seen (asked_begins m.before m.after a.ask a.reply m.asked) (measured_begins m.after w ms m.rest))
