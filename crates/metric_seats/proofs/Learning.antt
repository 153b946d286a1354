-- A definition that was answered with an id is known.
use Rattle.std.proofs.Common.{◌≡◌, ℕ, ◌-◌, List, [], ◌∷◌, ◌++◌, set, map, refl, ap, sym, ◌∙◌, Some}
use Rattle.store_model.specs.History.{entry, own}
use Rattle.store_model.specs.MetricNames.{definition_in, defining, metric_name, names_acts}
use Rattle.store_model.specs.declared.call.Call.{Call}
use Rattle.store_model.specs.declared.call.Reply.{Reply}
use Rattle.store_model.specs.declared.call.Reply.TheVariants.{Absent, Value, Done, CasMismatch, Full, Id, Item, Empty, Owed, NoneOwed}
use Rattle.store_model.specs.declared.entry.Entry.{Entry}
use Rattle.store_model.specs.declared.metric.MetricKind.{MetricKind}
use Rattle.store_model.specs.declared.metric.MetricKind.TheVariants.{Counter, Gauge}
use Rattle.metric_table.specs.Seats.{Counting}
use Rattle.turn_table.specs.Seats.{Seated, IsSameSeat, Called, Refused}
use Rattle.metric_seats.specs.Knowing.{Kinds, known_by, known_from, learned, learned_by}
use Rattle.metric_seats.specs.Places.{AreOne, define_call}

known_snoc : (kinds : Kinds) (es : List Entry) (e : Entry) → known_from kinds (es ++ e ∷ []) ≡ learned_by (known_from kinds es) e.call e.reply
known_snoc kinds [] e = refl
known_snoc kinds (x ∷ es) e = known_snoc (learned_by kinds x.call x.reply) es e

-- the bytes of a definition define it
pub defines : (kind : MetricKind) (name : List ℕ) → definition_in (defining kind name) ≡ Some (metric_name kind name)
defines Counter name = refl
defines Gauge name = refl

-- what is known after a call
pub known_after : (v w : Seated) (call : Call) (reply : Reply) → IsSameSeat v w → Called names_acts v w call reply → known_by (own w.number w.seen) ≡ learned_by (known_by (own v.number v.seen)) call reply
known_after v w call reply same called =
    ap known_by (ap (λ (s : Seated). own s.number w.seen) same ∙ called.entries) ∙ known_snoc _ (own v.number v.seen) (entry v.number call reply)

pub learns : (v w : Seated) (kinds : Kinds) (kind : MetricKind) (name : List ℕ) (call : Call) (reply : Reply) (id : ℕ) → IsSameSeat v w → Called names_acts v w call reply → call ≡ define_call kind name → reply ≡ Id id
    → kinds ≡ known_by (own v.number v.seen) → set kinds (id - 1) (Some kind) ≡ known_by (own w.number w.seen)
learns v w kinds kind name call reply id same called is answer known =
    ap (λ k. set k (id - 1) (Some kind)) known
    ∙ (ap (λ o. learned (known_by (own v.number v.seen)) o id) (sym (defines kind name))
    ∙ ((λ i. learned_by (known_by (own v.number v.seen)) (sym is i) (sym answer i)) ∙ sym (known_after v w call reply same called)))

nothing_learned : (kinds : Kinds) (kind : MetricKind) (name : List ℕ) (reply : Reply) → ((id : ℕ) → reply ≡ Id id → ⊥) → learned_by kinds (define_call kind name) reply ≡ kinds
nothing_learned kinds kind name (Id id) other = absurd (other id refl)
nothing_learned kinds kind name Absent other = refl
nothing_learned kinds kind name (Value v n) other = refl
nothing_learned kinds kind name (Done n) other = refl
nothing_learned kinds kind name CasMismatch other = refl
nothing_learned kinds kind name Full other = refl
nothing_learned kinds kind name (Item i) other = refl
nothing_learned kinds kind name Empty other = refl
nothing_learned kinds kind name (Owed r q) other = refl
nothing_learned kinds kind name NoneOwed other = refl

pub learns_nothing : (v w : Seated) (kinds : Kinds) (kind : MetricKind) (name : List ℕ) (call : Call) (reply : Reply) → IsSameSeat v w → Called names_acts v w call reply → call ≡ define_call kind name → ((id : ℕ) → reply ≡ Id id → ⊥)
    → kinds ≡ known_by (own v.number v.seen) → kinds ≡ known_by (own w.number w.seen)
learns_nothing v w kinds kind name call reply same called is other known =
    known ∙ (sym (nothing_learned (known_by (own v.number v.seen)) kind name reply other) ∙ (ap (λ c. learned_by (known_by (own v.number v.seen)) c reply) (sym is) ∙ sym (known_after v w call reply same called)))

-- where a call was refused memory, what is known is as before
pub known_still : (v w : Seated) (call : Call) → IsSameSeat v w → Refused names_acts v w call → known_by (own v.number v.seen) ≡ known_by (own w.number w.seen)
known_still v w call same refused = sym (ap known_by (ap (λ (s : Seated). own s.number w.seen) same ∙ refused.entries))

pub one_still : (v w : Seated) (words : Counting) → IsSameSeat v w → AreOne v words → AreOne w words
one_still v w words same one = record {
  number = ap (λ (s : Seated). s.number) same ∙ one.number;
  given = ap (λ (s : Seated). s.given) same ∙ one.given;
  ended = ap (λ (s : Seated). map (λ e. e.number) s.ended) same ∙ one.ended;
}
