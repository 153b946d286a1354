-- Joining a seat into that of number 1 keeps the rule.
use Rattle.std.proofs.Common.{◌≡◌, ◌≢◌, ℕ, ◌<◌, List, length, set, refl, ap, sym, subst, ◌∙◌, ⊎_elim, arith}
use mathlib.Core.Option.{some}
use lib.ListN.{get_elem?}
use Rattle.atomic_table.specs.Table.{State, Joins}
use Rattle.atomic_table.proofs.Lists.{set_here, set_else}
use Rattle.metric_table.specs.Rule.{Knows, Remains, Leads, Kept}
use Rattle.metric_table.specs.Views.{Each, spent_view, ended, joined}
use Rattle.metric_table.specs.declared.view.View.{View}
use Rattle.metric_table.proofs.Views.{at_snoc, at_below, at_same, each_set, KeepsNumbers, numbers_set, numbers_spent, numbers_trans, apart_numbers, below_numbers, none_numbers}

module _ (id : ℕ) (v : View) (other : ℕ) (w : View) (one : v.number ≡ 1) (live : 0 < w.number) (s : State Unit View) (r : Kept s) (at : get_elem? s.views id ≡ some v) (differ : other ≢ id) (at_w : get_elem? s.views other ≡ some w) where
  abbrev Stays : View
  Stays = joined v w

  abbrev First : List View
  First = set s.views id Stays

  abbrev Both : List View
  Both = set First other spent_view

  same : KeepsNumbers s.views Both
  same = numbers_trans s.views First Both (numbers_set s.views id v Stays at refl) (numbers_spent First other spent_view refl)

  spent_there : get_elem? Both other ≡ some spent_view
  spent_there = set_here First other spent_view (at_below First other w (set_else s.views id other Stays differ ∙ at_w))

  -- a fact of the two seats and of each other one
  each_both : (K : ℕ → View → Type 0) → K id Stays → K other spent_view → ((i : ℕ) (d : View) → i ≢ id → get_elem? s.views i ≡ some d → K i d) → Each Both K
  each_both K stays goes others = each_set K First other spent_view goes (λ i d ne e. each_set K s.views id Stays stays others i d e)

  -- no live view has the number of the seat that ended
  gone : Each Both (λ i d. d.number ≢ w.number)
  gone i d at_i is =
      let is' : d.number ≡ w.number = is in
      let y = same i d at_i (omega arith) in
      let place : i ≡ other = let y_is : y.0.number ≡ d.number = y.2 in r.apart i other y.0 w y.1 at_w (omega arith) (y.2 ∙ is) in
      let spent : d ≡ spent_view = at_same Both at_i spent_there place in
      let zero : d.number ≡ 0 = ap (λ (x : View). x.number) spent in
      absurd (omega arith)

  kept_leads : (l : View) → Leads s.words s.views l → Leads s.words Both l
  kept_leads l lead = record {
    some_given = lead.some_given;
    numbers = below_numbers s.views Both l.given same lead.numbers;
    none_past = lead.none_past;
    remains = λ j e there. let m = lead.remains j e there in record { own = m.own; was_given = m.was_given; no_live = none_numbers s.views Both e.number m.was_given.0 same m.no_live };
  }

  leads_meets : Each Both (λ i d. d.number ≡ 1 → Leads s.words Both d)
  leads_meets = each_both (λ i d. d.number ≡ 1 → Leads s.words Both d)
      (λ _.
      let l = r.leads id v at one in
      let m = kept_leads v l in
      record {
        some_given = l.some_given;
        numbers = m.numbers;
        none_past = l.none_past;
        remains = λ k e at_k. ⊎_elim
            (λ (t : (k < length v.ended) × (get_elem? v.ended k ≡ some e)).
            let x = m.remains k e t.1 in record { own = x.own; was_given = x.was_given; no_live = x.no_live })
            (λ (t : (k ≡ length v.ended) × (ended w.number w.own ≡ e)).
            subst (Remains s.words Both Stays) t.1 (record { own = (r.knows other w at_w live).own; was_given = (live, l.numbers other w at_w); no_live = gone }))
            (at_snoc v.ended (ended w.number w.own) e k at_k);
      })
      (λ is. absurd (omega arith))
      (λ i d ne e is. kept_leads d (r.leads i d e is))

  joins : Kept (record { words = s.words; homes = s.homes; views = Both })
  joins = record {
    as_many = r.as_many;
    knows = each_both (λ i d. 0 < d.number → Knows s.words d) (λ _. let k = r.knows id v at (omega arith) in record { in_range = k.in_range; own = k.own; seen = k.seen }) (λ zero. absurd (omega arith)) (λ i d ne e. r.knows i d e);
    apart = apart_numbers s.views Both same r.apart;
    leads = leads_meets;
  }

pub joins_words : (id : ℕ) (v : View) (other : ℕ) (w : View) → v.number ≡ 1 → 0 < w.number → Joins Kept id v other w (joined v w) spent_view
joins_words id v other w one live s r at differ there = joins id v other w one live s r at differ (sym (set_else s.views id other (joined v w) differ) ∙ there)
