-- Giving out a number keeps the rule.
use Rattle.std.proofs.Common.{◌≡◌, ◌≢◌, ℕ, ◌+◌, ◌<◌, ◌≤◌, List, [], ◌∷◌, ◌++◌, length, set, refl, sym, subst, ◌∙◌, ⊎_elim, arith}
use mathlib.Core.Option.{some}
use lib.ListN.{get_elem?}
use Rattle.atomic_table.specs.Table.{State, Splits}
use Rattle.metric_table.specs.Places.{row_of}
use Rattle.metric_table.specs.Rule.{Knows, Leads, AreApart, Kept}
use Rattle.metric_table.specs.Views.{Each, after_split, split_off}
use Rattle.metric_table.specs.declared.view.View.{View}
use Rattle.metric_table.proofs.Keeps.{zero_row}
use Rattle.metric_table.proofs.Views.{at_snoc, each_set, KeepsNumbers, numbers_set, apart_numbers, below_numbers, none_numbers}

module _ (id : ℕ) (v : View) (one : v.number ≡ 1) (room : v.given < 8) (s : State Unit View) (r : Kept s) (at : get_elem? s.views id ≡ some v) where
  abbrev Left : View
  Left = after_split v

  abbrev Right : View
  Right = split_off v

  abbrev First : List View
  First = set s.views id Left

  abbrev Both : List View
  Both = First ++ Right ∷ []

  -- a fact of each old view and of the new one
  each_both : (K : ℕ → View → Type 0) → Each First K → K (length First) Right → Each Both K
  each_both K old new i d e = ⊎_elim (λ t. old i d t.1) (λ t. subst (λ (y : ℕ × View). K y.0 y.1) (λ j. (sym t.0 j, t.1 j)) new) (at_snoc First Right d i e)

  same : KeepsNumbers s.views First
  same = numbers_set s.views id v Left at refl

  lead : Leads s.words s.views v
  lead = r.leads id v at one

  -- no number is past those given out
  below : Each First (λ i d. d.number ≤ v.given)
  below = below_numbers s.views First v.given same lead.numbers

  knows_parts : Each Both (λ i d. 0 < d.number → Knows s.words d)
  knows_parts =
      let k = r.knows id v at (omega arith) in
      each_both (λ i d. 0 < d.number → Knows s.words d)
      (each_set (λ i d. 0 < d.number → Knows s.words d) s.views id Left (λ live. record { in_range = k.in_range; own = k.own; seen = k.seen }) (λ i d ne e. r.knows i d e))
      (λ live. record { in_range = omega arith; own = zero_row s.words (v.given + 1) (λ j h. lead.none_past (row_of (v.given + 1) + j) (omega arith)); seen = λ place of. omega arith })

  apart_parts : AreApart Both
  apart_parts i k d y ei ek live is =
      let apart : AreApart First = apart_numbers s.views First same r.apart in
      each_both (λ i d. 0 < d.number → d.number ≡ y.number → i ≡ k)
      (λ i d ei live is. each_both (λ k y. d.number ≡ y.number → i ≡ k) (λ k y ek is. apart i k d y ei ek live is) (λ is. absurd (let le = below i d ei in omega arith)) k y ek is)
      (λ live is. each_both (λ k y. v.given + 1 ≡ y.number → length First ≡ k) (λ k y ek is. absurd (let le = below k y ek in omega arith)) (λ is. refl) k y ek is)
      i d ei live is

  leads_parts : Each Both (λ i d. d.number ≡ 1 → Leads s.words Both d)
  leads_parts =
      each_both (λ i d. d.number ≡ 1 → Leads s.words Both d)
      (each_set (λ i d. d.number ≡ 1 → Leads s.words Both d) s.views id Left
      (λ one. record {
        some_given = (let a = lead.some_given.0 in omega arith, omega arith);
        numbers = each_both (λ i d. d.number ≤ v.given + 1) (λ i d e. let le = below i d e in omega arith) (omega arith);
        none_past = λ place past. lead.none_past place (omega arith);
        remains = λ k e there. let m = lead.remains k e there in record {
          own = m.own;
          was_given = (m.was_given.0, let le = m.was_given.1 in omega arith);
          no_live = each_both (λ i d. d.number ≢ e.number) (none_numbers s.views First e.number m.was_given.0 same m.no_live) (λ is. let le = m.was_given.1 in absurd (omega arith));
        };
      })
      (λ i d ne e is. absurd (ne (r.apart i id d v e at (omega arith) (is ∙ sym one)))))
      (λ is. let le = lead.some_given.0 in absurd (omega arith))

  splits : Kept (record { words = s.words; homes = s.homes; views = Both })
  splits = record { as_many = r.as_many; knows = knows_parts; apart = apart_parts; leads = leads_parts }

pub splits_words : (id : ℕ) (v : View) → v.number ≡ 1 → v.given < 8 → Splits Kept id v (after_split v) (split_off v)
splits_words id v one room s r at = splits id v one room s r at
