-- From the steps that a call made to what its contract says.
use Rattle.std.proofs.Common.{◌≡◌, ℕ, ◌%◌, ◌^◌, true, false, List, [], ◌∷◌, ◌++◌, length, ap, sym, subst, ◌∙◌, refl}
use Rattle.std.proofs.lemmas.List.{append-nil}
use mathlib.Core.Option.{some, some-injective}
use lib.ListN.{get_elem?}
use Rattle.atomic_table.specs.Seated.{TableId}
use Rattle.atomic_table.specs.Table.{Me}
use Rattle.atomic_table.proofs.Lists.{at_last}
use Rattle.store_model.specs.History.{Acts, own, entry}
use Rattle.store_model.specs.declared.call.Call.{Call}
use Rattle.store_model.specs.declared.call.Reply.{Reply}
use Rattle.store_model.specs.declared.entry.Entry.{Entry}
use Rattle.turn_table.specs.declared.view.Ended.{Ended}
use Rattle.turn_table.specs.declared.view.View.{View}
use Rattle.turn_table.specs.Histories.{value_after, IsLegalFor}
use Rattle.turn_table.specs.Seats.{seated, Called, Joined, Closed}
use Rattle.turn_table.specs.Steps.{Won, Known, Shut}
use Rattle.turn_table.specs.Views.{ended, joined}
use Rattle.turn_table.proofs.Entries.{own-append, own-one, value_from-snoc, legal_snoc}

abbrev Holder : Type 0 → Type 0
Holder S = Me S View

-- a holder's view with one more entry
abbrev recording : View → Entry → View
recording v e = record v { seen = v.seen ++ e ∷ []; before = v.seen ++ e ∷ [] }

module _ {S : Type 0} (a : Acts S) where
  -- the value that is put back after a call that was recorded
  pub to_give : (m m1 m2 m3 : Holder S) (who : ℕ) (call : Call) (reply : Reply) → Won a m m1 → m2.0 ≡ m1.0 → m2.1 ≡ (0, a.after who call (value_after a m1.0.vm m1.0.seen)) ∷ [] → m3 ≡ (recording m2.0 (entry who call reply), m2.1)
      → (m3.0.holds ≡ true) × (m3.1 ≡ (0, value_after a m3.0.vm m3.0.seen) ∷ [])
  to_give m m1 m2 m3 who call reply won same after recorded =
      let e : Entry = entry who call reply in
      let view : m3.0 ≡ recording m1.0 e = ap (λ (x : Holder S). x.0) recorded ∙ ap (λ (v : View). recording v e) same in (
        ap (λ (x : View). x.holds) view ∙ ap (λ (x : View). x.holds) won.view,
        ap (λ (x : Holder S). x.1) recorded ∙ (after ∙ ap (λ v. (0, v) ∷ []) (sym (value_from-snoc a (a.empty m1.0.vm) m1.0.seen e) ∙ ap (λ (x : View). value_after a x.vm x.seen) (sym view))),
      )

  pub called : (t t' : TableId) (who : ℕ) (m m1 m2 m3 m4 : Holder S) (call : Call) (reply : Reply) → who ≡ m.0.number → Won a m m1 → m2.0 ≡ m1.0 → m3 ≡ (recording m2.0 (entry who call reply), m2.1)
      → m4 ≡ (record m3.0 { holds = false }, []) → reply ≡ a.reply who call (value_after a m1.0.vm m1.0.seen) → Called a (seated t m.0) (seated t' m4.0) call reply
  called t t' who m m1 m2 m3 m4 call reply is_who won same recorded gave is =
      let v : View = m.0 in
      let view : m3.0 ≡ recording m1.0 (entry who call reply) = ap (λ (x : Holder S). x.0) recorded ∙ ap (λ (x : View). recording x (entry who call reply)) same in
      let vm : m4.0.vm ≡ v.vm = ap (λ (x : Holder S). x.0.vm) gave ∙ (ap (λ (x : View). x.vm) view ∙ ap (λ (x : View). x.vm) won.view) in
      let e : Entry = entry v.number call reply in
      let mid : List Entry = v.seen ++ won.others in
      let whole : m4.0.seen ≡ mid ++ e ∷ [] =
      ap (λ (x : Holder S). x.0.seen) gave ∙ (ap (λ (x : View). x.seen) view ∙ (ap (λ (x : View). x.seen ++ entry who call reply ∷ []) won.view ∙ ap (λ n. mid ++ entry n call reply ∷ []) is_who)) in
      let answered : reply ≡ a.reply v.number call (value_after a v.vm mid) = is ∙ (ap (λ n. a.reply n call (value_after a m1.0.vm m1.0.seen)) is_who ∙ ap (λ (x : View). a.reply v.number call (value_after a x.vm x.seen)) won.view) in
      record {
        others = won.others;
        foreign = won.foreign;
        seen = whole;
        legal = subst (λ (t : ℕ × List Entry). IsLegalFor a t.0 t.1) (λ i. (sym vm i, sym whole i)) (legal_snoc a v.vm mid e won.legal answered);
        entries = ap (own v.number) whole ∙ (own-append v.number mid (e ∷ []) ∙ ((λ i. own-append v.number v.seen won.others i ++ own-one v.number call reply i)
            ∙ ((λ i. (own v.number v.seen ++ won.foreign i) ++ e ∷ []) ∙ ap (λ l. l ++ e ∷ []) (append-nil (own v.number v.seen)))));
      }

  pub joins : (t t' : TableId) (v w : View) → Known a (joined v w) → Joined a (seated t v) (seated t' w) (seated t (joined v w))
  joins t t' v w known =
      let e : Ended = ended w.number w.seen in
      let last = known.ended (length v.ended) e (at_last v.ended e (length v.ended) refl) in
      record { seat = refl; begins = known.begins; ended_begins = last.0; entries = known.entries; ended_entries = last.1; legal = known.legal }

  pub closed : (t : TableId) (v : View) (ws : List ℕ) (xs : List S) (value : S) (count : ℕ) → Shut a v ws xs → get_elem? ws 1 ≡ some count → get_elem? xs 0 ≡ some value → Closed a (seated t v) value count
  closed t v ws xs value count shut word there = record {
    value_is = some-injective value (value_after a v.vm v.seen) (sym there ∙ shut.slot);
    count_is = some-injective count (length v.seen % 2 ^ 64) (sym word ∙ ap (λ l. get_elem? l 1) shut.words_are);
    legal = shut.legal;
    ended = shut.ended;
    none_of_zero = shut.none_of_spent;
    none_past = shut.none_past;
  }
