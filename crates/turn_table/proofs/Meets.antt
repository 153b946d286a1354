-- Joining a seat into that of number 1 keeps the rule, and a look at the table tells the seat of number 1 what the rule says of it.
use Rattle.std.proofs.Common.{◌≡◌, ◌≢◌, ◌⊎◌, ℕ, ◌<◌, true, false, List, length, get_or, set, refl, ap, sym, subst, ◌∙◌, ⊎_elim, inl, inr, arith}
use mathlib.Core.List.{IsPrefix}
use mathlib.Core.Logic.{dite}
use mathlib.Core.Option.{none, some}
use native.Mathlib.Decide.{ℕ_discrete}
use lib.ListN.{get_elem?}
use Rattle.atomic_table.specs.Table.{State, Me, step, keeps, Allows, Joins}
use Rattle.atomic_table.proofs.Lists.{set_here, set_else}
use Rattle.store_model.specs.History.{Acts}
use Rattle.store_model.specs.declared.entry.Entry.{Entry}
use Rattle.turn_table.specs.declared.view.View.{View}
use Rattle.turn_table.specs.Histories.{IsLegalFor}
use Rattle.turn_table.specs.Rule.{Knows, Remains, Leads, AreApart, IsFree, IsTaken, Kept}
use Rattle.turn_table.specs.Steps.{looked}
use Rattle.turn_table.specs.Views.{Each, spent_view, ended, longer, joined}
use Rattle.turn_table.proofs.Entries.{own_between, own_up_to, legal_prefix, longer_first, longer_second, longer_within}
use Rattle.turn_table.proofs.Keeps.{same_table}
use Rattle.turn_table.proofs.Places.{at_snoc, at_below, at_same, each_set, KeepsNumbers, numbers_set, numbers_spent, numbers_trans, apart_numbers, leads_numbers}
use Rattle.turn_table.proofs.Prefixes.{prefix_trans, prefix_between}

module _ {S : Type 0} (a : Acts S) (vm : ℕ) where
  abbrev Table : Type 0
  Table = State S View

  abbrev Holder : Type 0
  Holder = Me S View

  -- ---- a look
  pub looks : (slots id : ℕ) (me : Holder) → me.0.number ≡ 1 → Allows (Kept a vm) slots id me 0 (λ n. n) (looked a (step slots 0 0 0 none) me)
  looks slots id me one s r deep at small =
      let v = me.0 in
      let k = r.knows id v at (omega arith) in
      let l = r.leads id v at one in (
        v,
        keeps,
        tt,
        same_table a vm s _ id v (⊎_elim (λ (free : IsFree a vm r.history s). ap (λ ws. set ws 0 (get_or ws 0 0)) free.words ∙ sym free.words) (λ (taken : IsTaken a vm r.history s). ap (λ ws. set ws 0 (get_or ws 0 0)) taken.words ∙ sym taken.words) r.turn) at r,
        (
          refl,
          record {
            legal = legal_prefix a v.vm v.seen r.history k.begins (subst (λ n. IsLegalFor a n r.history) (sym k.same_vm) r.legal);
            begins = k.before_begins;
            entries = k.entries ∙ sym k.before_entries;
            ended = λ i e there. let m = l.remains i e there in (m.begins, sym (own_between e.number e.seen v.seen r.history m.begins k.begins m.entries));
          },
        ),
      )

  -- ---- a join
  module _ (id : ℕ) (v : View) (other : ℕ) (w : View) (one : v.number ≡ 1) (live : 0 < w.number) (v_idle : v.holds ≡ false) (w_idle : w.holds ≡ false) (s : Table) (r : Kept a vm s) (at : get_elem? s.views id ≡ some v) (differ : other ≢ id) (at_w : get_elem? s.views other ≡ some w) where
    abbrev Stays : View
    Stays = joined v w

    abbrev First : List View
    First = set s.views id Stays

    abbrev Both : List View
    Both = set First other spent_view

    abbrev Seen : List Entry
    Seen = longer v.seen w.seen

    v_knows : Knows vm r.history v
    v_knows = r.knows id v at (omega arith)

    w_knows : Knows vm r.history w
    w_knows = r.knows other w at_w live

    v_begins : IsPrefix v.seen Seen
    v_begins = longer_first v.seen w.seen r.history v_knows.begins w_knows.begins

    w_begins : IsPrefix w.seen Seen
    w_begins = longer_second v.seen w.seen r.history v_knows.begins w_knows.begins

    within : IsPrefix Seen r.history
    within = longer_within v.seen w.seen r.history v_knows.begins w_knows.begins

    same : KeepsNumbers s.views Both
    same = numbers_trans s.views First Both (numbers_set s.views id v Stays at refl) (numbers_spent First other spent_view refl)

    here : get_elem? Both id ≡ some Stays
    here = set_else First other id spent_view (λ e. differ (sym e)) ∙ set_here s.views id Stays (at_below s.views id v at)

    spent_there : get_elem? Both other ≡ some spent_view
    spent_there = set_here First other spent_view (at_below First other w (set_else s.views id other Stays differ ∙ at_w))

    -- a fact of the two seats and of each other one
    each_both : (K : ℕ → View → Type 0) → K id Stays → K other spent_view → ((i : ℕ) (d : View) → i ≢ id → get_elem? s.views i ≡ some d → K i d) → Each Both K
    each_both K stays goes others = each_set K First other spent_view goes (λ i d ne e. each_set K s.views id Stays stays others i d e)

    -- the others stand where they stood
    stands : (i : ℕ) (u : View) → i ≢ id → i ≢ other → get_elem? s.views i ≡ some u → get_elem? Both i ≡ some u
    stands i u ne ne' e = set_else First other i spent_view ne' ∙ (set_else s.views id i Stays ne ∙ e)

    not_held : (i : ℕ) (u x : View) → get_elem? s.views i ≡ some u → u.holds ≡ true → (k : ℕ) → get_elem? s.views k ≡ some x → x.holds ≡ false → i ≢ k
    not_held i u x at_i it k at_k idle is = let whose : u ≡ x = at_same s.views at_i at_k is in let it' : x.holds ≡ true = subst (λ (y : View). y.holds ≡ true) whose it in absurd (cc)

    turn_meets : IsFree a vm r.history s ⊎ IsTaken a vm r.history s → IsFree a vm r.history (record s { views = Both }) ⊎ IsTaken a vm r.history (record s { views = Both })
    turn_meets = ⊎_elim (λ (free : IsFree a vm r.history s). inl record {
      asleep = free.asleep;
      words = free.words;
      homes = free.homes;
      none_holds = each_both (λ i d. d.holds ≡ false) v_idle refl (λ i d ne e. free.none_holds i d e);
    }) (λ (taken : IsTaken a vm r.history s). inr record {
      asleep = taken.asleep;
      words = taken.words;
      homes = taken.homes;
      holder = taken.holder;
      held = (
        taken.held.0,
        stands taken.holder taken.held.0
            (not_held taken.holder taken.held.0 v taken.held.1 taken.held.2 id at v_idle)
            (not_held taken.holder taken.held.0 w taken.held.1 taken.held.2 other at_w w_idle)
            taken.held.1,
        taken.held.2,
      );
      one_holds = each_both (λ i d. d.holds ≡ true → i ≡ taken.holder) (λ it. absurd (cc)) (λ it. absurd (cc)) (λ i d ne e it. taken.one_holds i d e it);
    })

    knows_meets : Each Both (λ i d. 0 < d.number → Knows vm r.history d)
    knows_meets = each_both (λ i d. 0 < d.number → Knows vm r.history d)
        (λ _. record {
          same_vm = v_knows.same_vm;
          begins = within;
          entries = own_up_to v.number v.seen Seen r.history v_begins within v_knows.entries;
          all = λ it. absurd (cc);
          before_begins = v_begins;
          before_entries = v_knows.entries;
        })
        (λ zero. absurd (omega arith))
        (λ i d ne e. r.knows i d e)

    apart_meets : AreApart Both
    apart_meets = apart_numbers s.views Both same r.apart

    -- no live view has the number of the seat that ended
    gone : Each Both (λ i d. d.number ≢ w.number)
    gone i d at_i is =
        let y = same i d at_i (omega arith) in
        let y_is : y.0.number ≡ d.number = y.2 in
        let place : i ≡ other = r.apart i other y.0 w y.1 at_w (omega arith) (y.2 ∙ is) in
        let spent : d ≡ spent_view = at_same Both at_i spent_there place in
        let zero : d.number ≡ 0 = ap (λ (x : View). x.number) spent in
        absurd (omega arith)

    leads_meets : Each Both (λ i d. d.number ≡ 1 → Leads r.history Both d)
    leads_meets = each_both (λ i d. d.number ≡ 1 → Leads r.history Both d)
        (λ _.
        let l = r.leads id v at one in
        let m = leads_numbers r.history s.views Both v same l in
        record {
          some_given = l.some_given;
          numbers = m.numbers;
          none_past = l.none_past;
          none_of_spent = l.none_of_spent;
          remains = λ k e at_k. ⊎_elim
              (λ (t : (k < length v.ended) × (get_elem? v.ended k ≡ some e)).
              let x = m.remains k e t.1 in
              record { begins = prefix_trans e.seen v.seen Seen x.begins v_begins; entries = x.entries; was_given = x.was_given; no_live = x.no_live })
              (λ (t : (k ≡ length v.ended) × (ended w.number w.seen ≡ e)).
              subst (Remains r.history Both Stays) t.1 (record { begins = w_begins; entries = w_knows.entries; was_given = (live, l.numbers other w at_w); no_live = gone }))
              (at_snoc v.ended (ended w.number w.seen) e k at_k);
        })
        (λ is. absurd (omega arith))
        (λ i d ne e is. leads_numbers r.history s.views Both d same (r.leads i d e is))

    whole_meets : (i : ℕ) × (u : View) × (get_elem? Both i ≡ some u) × (0 < u.number) × (u.seen ≡ r.history)
    whole_meets =
        let i = r.whole.0 in let u = r.whole.1 in
        dite (ℕ_discrete i id)
        (λ (is : i ≡ id).
        let whose : u ≡ v = at_same s.views r.whole.2 at is in
        (id, Stays, here, omega arith, prefix_between v.seen Seen r.history v_begins within (subst (λ (y : View). y.seen ≡ r.history) whose r.whole.4)))
        (λ (else : i ≢ id). dite (ℕ_discrete i other)
        (λ (is : i ≡ other).
        let whose : u ≡ w = at_same s.views r.whole.2 at_w is in
        (id, Stays, here, omega arith, prefix_between w.seen Seen r.history w_begins within (subst (λ (y : View). y.seen ≡ r.history) whose r.whole.4)))
        (λ (neither : i ≢ other). (i, u, stands i u else neither r.whole.2, r.whole.3, r.whole.4)))

    joins : Kept a vm (record { words = s.words; homes = s.homes; views = Both })
    joins = record {
      history = r.history;
      legal = r.legal;
      turn = turn_meets r.turn;
      knows = knows_meets;
      live_holds = each_both (λ i d. d.holds ≡ true → 0 < d.number) (λ it. omega arith) (λ it. absurd (cc)) (λ i d ne e. r.live_holds i d e);
      apart = apart_meets;
      leads = leads_meets;
      whole = whole_meets;
    }

  pub joins_seats : (id : ℕ) (v : View) (other : ℕ) (w : View) → v.number ≡ 1 → 0 < w.number → v.holds ≡ false → w.holds ≡ false → Joins (Kept a vm) id v other w (joined v w) spent_view
  joins_seats id v other w one live v_idle w_idle s r at differ there = joins id v other w one live v_idle w_idle s r at differ (sym (set_else s.views id other (joined v w) differ) ∙ there)
