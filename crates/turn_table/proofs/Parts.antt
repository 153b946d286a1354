-- Giving out a number keeps the rule.
use Rattle.std.proofs.Common.{◌≡◌, ◌≢◌, ◌⊎◌, ℕ, ◌+◌, ◌<◌, ◌≤◌, true, false, List, [], ◌∷◌, ◌++◌, length, set, refl, sym, subst, ◌∙◌, ⊎_elim, inl, inr, arith}
use mathlib.Core.Logic.{dite}
use mathlib.Core.Option.{some}
use native.Mathlib.Decide.{ℕ_discrete}
use lib.ListN.{get_elem?}
use Rattle.atomic_table.specs.Table.{State, Splits}
use Rattle.atomic_table.proofs.Lists.{set_here, set_else, at_longer}
use Rattle.store_model.specs.History.{Acts, own}
use Rattle.turn_table.specs.declared.view.View.{View}
use Rattle.turn_table.specs.Rule.{Knows, Leads, AreApart, IsFree, IsTaken, Kept}
use Rattle.turn_table.specs.Views.{Each, after_split, split_off}
use Rattle.turn_table.proofs.Entries.{own_between}
use Rattle.turn_table.proofs.Places.{at_snoc, at_below, at_same, each_set, KeepsNumbers, numbers_set, apart_numbers, leads_numbers, remains_numbers}

module _ {S : Type 0} (a : Acts S) (vm : ℕ) where
  abbrev Table : Type 0
  Table = State S View

  module _ (id : ℕ) (v : View) (one : v.number ≡ 1) (s : Table) (r : Kept a vm s) (at : get_elem? s.views id ≡ some v) where
    abbrev Left : View
    Left = after_split v

    abbrev Right : View
    Right = split_off v

    abbrev First : List View
    First = set s.views id Left

    abbrev Both : List View
    Both = First ++ Right ∷ []

    -- a fact of each old view and of the new one
    each_both : (K : ℕ → View → Type 0) → Each First K → K (length First) Right → Each Both K
    each_both K old new i d e = ⊎_elim (λ t. old i d t.1) (λ t. subst (λ (y : ℕ × View). K y.0 y.1) (λ j. (sym t.0 j, t.1 j)) new) (at_snoc First Right d i e)

    same : KeepsNumbers s.views First
    same = numbers_set s.views id v Left at refl

    -- no number is past those given out
    below : Each First (λ i d. d.number ≤ v.given)
    below = (leads_numbers r.history s.views First v same (r.leads id v at one)).numbers

    here : get_elem? Both id ≡ some Left
    here = at_longer First (Right ∷ []) id Left (set_here s.views id Left (at_below s.views id v at))

    turn_parts : IsFree a vm r.history s ⊎ IsTaken a vm r.history s → IsFree a vm r.history (record s { views = Both }) ⊎ IsTaken a vm r.history (record s { views = Both })
    turn_parts = ⊎_elim (λ (free : IsFree a vm r.history s). inl record {
      asleep = free.asleep;
      words = free.words;
      homes = free.homes;
      none_holds = each_both (λ i d. d.holds ≡ false) (each_set (λ i d. d.holds ≡ false) s.views id Left (free.none_holds id v at) (λ i d ne e. free.none_holds i d e)) refl;
    }) (λ (taken : IsTaken a vm r.history s). inr record {
      asleep = taken.asleep;
      words = taken.words;
      homes = taken.homes;
      holder = taken.holder;
      held = dite (ℕ_discrete taken.holder id)
          (λ (is : taken.holder ≡ id). let whose : taken.held.0 ≡ v = at_same s.views taken.held.1 at is in
          (Left, subst (λ k. get_elem? Both k ≡ some Left) (sym is) here, subst (λ (y : View). y.holds ≡ true) whose taken.held.2))
          (λ (else : taken.holder ≢ id). (taken.held.0, at_longer First (Right ∷ []) taken.holder taken.held.0 (set_else s.views id taken.holder Left else ∙ taken.held.1), taken.held.2));
      one_holds = each_both (λ i d. d.holds ≡ true → i ≡ taken.holder) (each_set (λ i d. d.holds ≡ true → i ≡ taken.holder) s.views id Left (λ it. taken.one_holds id v at it) (λ i d ne e it. taken.one_holds i d e it)) (λ it. absurd (cc));
    })

    knows_parts : Each Both (λ i d. 0 < d.number → Knows vm r.history d)
    knows_parts =
        let k = r.knows id v at (omega arith) in
        let none_yet : own (v.given + 1) r.history ≡ [] = (r.leads id v at one).none_past (v.given + 1) (omega arith) in
        each_both (λ i d. 0 < d.number → Knows vm r.history d)
        (each_set (λ i d. 0 < d.number → Knows vm r.history d) s.views id Left
        (λ live. record { same_vm = k.same_vm; begins = k.begins; entries = k.entries; all = k.all; before_begins = k.before_begins; before_entries = k.before_entries })
        (λ i d ne e. r.knows i d e))
        (λ live. record {
          same_vm = k.same_vm;
          begins = k.begins;
          entries = sym (own_between (v.given + 1) [] v.seen r.history (v.seen, refl) k.begins (sym none_yet)) ∙ sym none_yet;
          all = λ it. absurd (cc);
          before_begins = (v.seen, refl);
          before_entries = sym none_yet;
        })

    apart_parts : AreApart Both
    apart_parts i k d y ei ek live is =
        let apart : AreApart First = apart_numbers s.views First same r.apart in
        each_both (λ i d. 0 < d.number → d.number ≡ y.number → i ≡ k)
        (λ i d ei live is. each_both (λ k y. d.number ≡ y.number → i ≡ k) (λ k y ek is. apart i k d y ei ek live is) (λ is. absurd (let le = below i d ei in omega arith)) k y ek is)
        (λ live is. each_both (λ k y. v.given + 1 ≡ y.number → length First ≡ k) (λ k y ek is. absurd (let le = below k y ek in omega arith)) (λ is. refl) k y ek is)
        i d ei live is

    leads_parts : Each Both (λ i d. d.number ≡ 1 → Leads r.history Both d)
    leads_parts =
        let l = r.leads id v at one in
        each_both (λ i d. d.number ≡ 1 → Leads r.history Both d)
        (each_set (λ i d. d.number ≡ 1 → Leads r.history Both d) s.views id Left
        (λ one. record {
          some_given = omega arith;
          numbers = each_both (λ i d. d.number ≤ v.given + 1) (λ i d e. let le = below i d e in omega arith) (omega arith);
          none_past = λ n past. l.none_past n (omega arith);
          none_of_spent = l.none_of_spent;
          remains = λ k e there. let m = l.remains k e there in let m1 = remains_numbers r.history s.views First v e same m in record {
            begins = m.begins;
            entries = m.entries;
            was_given = (m.was_given.0, let le = m.was_given.1 in omega arith);
            no_live = each_both (λ i d. d.number ≢ e.number) m1.no_live (λ is. let le = m.was_given.1 in absurd (omega arith));
          };
        })
        (λ i d ne e is. absurd (ne (r.apart i id d v e at (omega arith) (is ∙ sym one)))))
        (λ is. let le = l.some_given in absurd (omega arith))

    pub splits : Kept a vm (record { words = s.words; homes = s.homes; views = Both })
    splits = record {
      history = r.history;
      legal = r.legal;
      turn = turn_parts r.turn;
      knows = knows_parts;
      live_holds = each_both (λ i d. d.holds ≡ true → 0 < d.number) (each_set (λ i d. d.holds ≡ true → 0 < d.number) s.views id Left (λ it. omega arith) (λ i d ne e. r.live_holds i d e)) (λ it. absurd (cc));
      apart = apart_parts;
      leads = leads_parts;
      whole = let i = r.whole.0 in let u = r.whole.1 in dite (ℕ_discrete i id)
          (λ (is : i ≡ id). let whose : u ≡ v = at_same s.views r.whole.2 at is in
          (id, Left, here, omega arith, subst (λ (y : View). y.seen ≡ r.history) whose r.whole.4))
          (λ (else : i ≢ id). (i, u, at_longer First (Right ∷ []) i u (set_else s.views id i Left else ∙ r.whole.2), r.whole.3, r.whole.4));
    }

  pub splits_turn : (id : ℕ) (v : View) → v.number ≡ 1 → Splits (Kept a vm) id v (after_split v) (split_off v)
  splits_turn id v one s r at = splits id v one s r at
