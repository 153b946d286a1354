-- The first state meets the rule, and the steps of a call keep it: take, record, give.
use Rattle.std.proofs.Common.{◌≡◌, ◌≢◌, ℕ, zero, suc, ◌+◌, ◌%◌, ◌^◌, ◌<◌, ◌≤◌, eqb, Bool, true, false, List, [], ◌∷◌, ◌++◌, length, get_or, set, refl, ap, sym, subst, ◌∙◌, ⊎_elim, inl, inr, arith, length-append}
use mathlib.Core.List.{IsPrefix}
use mathlib.Core.Logic.{dite}
use mathlib.Core.Option.{none, some, some-injective, some-ne-none}
use native.Mathlib.Decide.{ℕ_discrete}
use lib.ListN.{get_elem?}
use prog.Atomic.{either}
use Rattle.atomic_table.specs.Table.{State, Me, step, keeps, takes, gives, put_back, rest, Allows, opening}
use Rattle.atomic_table.proofs.Lists.{set_here, set_else, set_again}
use Rattle.store_model.specs.History.{Acts, own}
use Rattle.store_model.specs.declared.entry.Entry.{Entry}
use Rattle.turn_table.specs.declared.view.View.{View}
use Rattle.turn_table.specs.Histories.{value_after, IsLegalFor}
use Rattle.turn_table.specs.Rule.{Knows, Leads, AreApart, IsFree, IsTaken, Kept}
use Rattle.turn_table.specs.Steps.{took, recorded, gave}
use Rattle.turn_table.specs.Views.{Each, first_view}
use Rattle.turn_table.proofs.Entries.{none_behind, own-other, own_up_to, legal_snoc}
use Rattle.turn_table.proofs.Places.{at_below, at_same, each_set, KeepsNumbers, numbers_set, apart_numbers, leads_numbers, seeing, leads_seeing}
use Rattle.turn_table.proofs.Prefixes.{prefix_self, prefix_trans, prefix_between}

module _ {S : Type 0} (a : Acts S) (vm : ℕ) where
  abbrev Table : Type 0
  Table = State S View

  abbrev Holder : Type 0
  Holder = Me S View

  -- ---- the start
  pub opens : Kept a vm (opening (0 ∷ 0 ∷ 0 ∷ []) (a.empty vm ∷ []) (first_view vm))
  opens = record {
    history = [];
    legal = refl;
    turn = inl record { asleep = 0; words = refl; homes = refl; none_holds = λ i v at. alone (λ x. x.holds ≡ false) refl i v at };
    knows = λ i v at. alone (λ x. 0 < x.number → Knows vm [] x) (λ live. record { same_vm = refl; begins = ([], refl); entries = refl; all = λ _. refl; before_begins = ([], refl); before_entries = refl }) i v at;
    live_holds = λ i v at. alone (λ x. x.holds ≡ true → 0 < x.number) (λ _. omega arith) i v at;
    apart = λ i k v w ei ek live is. first_place i v ei ∙ sym (first_place k w ek);
    leads = λ i v at. alone (λ x. x.number ≡ 1 → Leads [] (first_view vm ∷ []) x) (λ one. record {
      some_given = omega arith;
      numbers = λ i v at. alone (λ x. x.number ≤ 1) (omega arith) i v at;
      none_past = λ n h. refl;
      none_of_spent = refl;
      remains = λ k e at. absurd (some-ne-none e (sym at));
    }) i v at;
    whole = (0, first_view vm, refl, omega arith, refl);
  }
    where
      alone : (K : View → Type 0) → K (first_view vm) → (i : ℕ) (v : View) → get_elem? (first_view vm ∷ []) i ≡ some v → K v
      alone K k zero v at = subst K (some-injective (first_view vm) v at) k
      alone K k (suc i) v at = absurd (some-ne-none v (sym at))

      first_place : (i : ℕ) (v : View) → get_elem? (first_view vm ∷ []) i ≡ some v → i ≡ 0
      first_place zero v at = refl
      first_place (suc i) v at = absurd (some-ne-none v (sym at))

  -- a word and a view that are written as they were
  pub same_table : (s : Table) (ws : List ℕ) (id : ℕ) (v : View) → ws ≡ s.words → get_elem? s.views id ≡ some v → Kept a vm s → Kept a vm (record { words = ws; homes = s.homes; views = set s.views id v })
  same_table s ws id v is at r =
      let again = set_again s.views id v at in
      let here : s ≡ record { words = ws; homes = s.homes; views = set s.views id v } = (λ i. record { words = sym is i; homes = s.homes; views = sym again i }) in
      subst (Kept a vm) here r

  -- ---- a seat that waits
  -- the mark that seats sleep may be anything
  pub any_mark : (s : Table) (r : Kept a vm s) (ws : List ℕ) (n : ℕ) → ws ≡ set s.words 2 n → Kept a vm (record { words = ws; homes = s.homes; views = s.views })
  any_mark s r ws n is = record {
    history = r.history;
    legal = r.legal;
    turn = ⊎_elim
        (λ (free : IsFree a vm r.history s). inl record { asleep = n; words = is ∙ ap (λ l. set l 2 n) free.words; homes = free.homes; none_holds = free.none_holds })
        (λ (taken : IsTaken a vm r.history s). inr record { asleep = n; words = is ∙ ap (λ l. set l 2 n) taken.words; homes = taken.homes; holder = taken.holder; held = taken.held; one_holds = taken.one_holds })
        r.turn;
    knows = r.knows;
    live_holds = r.live_holds;
    apart = r.apart;
    leads = r.leads;
    whole = r.whole;
  }

  -- whatever becomes of that word
  pub marks_sleep : (f : ℕ → ℕ) (slots id : ℕ) (me : Holder) → Allows (Kept a vm) slots id me 2 f (λ _ m'. m' ≡ me)
  marks_sleep f slots id me s r deep at small = (
    me.0,
    keeps,
    tt,
    subst (λ (vs : List View). Kept a vm (record { words = set s.words 2 (f (get_or s.words 2 0)); homes = s.homes; views = vs })) (sym (set_again s.views id me.0 at))
        (any_mark s r (set s.words 2 (f (get_or s.words 2 0))) (f (get_or s.words 2 0)) refl),
    refl,
  )

  -- ---- a seat sees more of the history
  module _ (s : Table) (r : Kept a vm s) (id : ℕ) (v : View) (at : get_elem? s.views id ≡ some v) (holds : Bool) (seen : List Entry) (more : IsPrefix v.seen seen) (within : IsPrefix seen r.history) where
    abbrev Sees : View
    Sees = seeing v holds seen v.before

    abbrev After : List View
    After = set s.views id Sees

    same_numbers : KeepsNumbers s.views After
    same_numbers = numbers_set s.views id v Sees at refl

    knows_more : (holds ≡ true → seen ≡ r.history) → Each After (λ i d. 0 < d.number → Knows vm r.history d)
    knows_more all = each_set (λ i d. 0 < d.number → Knows vm r.history d) s.views id Sees
        (λ live. let k = r.knows id v at live in record {
          same_vm = k.same_vm;
          begins = within;
          entries = own_up_to v.number v.seen seen r.history more within k.entries;
          all = all;
          before_begins = prefix_trans v.before v.seen seen k.before_begins more;
          before_entries = k.before_entries;
        })
        (λ i d ne e. r.knows i d e)

    leads_more : Each After (λ i d. d.number ≡ 1 → Leads r.history After d)
    leads_more = each_set (λ i d. d.number ≡ 1 → Leads r.history After d) s.views id Sees
        (λ one. leads_numbers r.history s.views After Sees same_numbers (leads_seeing r.history s.views v holds seen v.before more (r.leads id v at one)))
        (λ i d ne e one. leads_numbers r.history s.views After d same_numbers (r.leads i d e one))

    whole_more : (i : ℕ) × (u : View) × (get_elem? After i ≡ some u) × (0 < u.number) × (u.seen ≡ r.history)
    whole_more =
        let i = r.whole.0 in let u = r.whole.1 in
        dite (ℕ_discrete i id)
        (λ (here : i ≡ id).
        let same : u ≡ v = at_same s.views r.whole.2 at here in
        let live : 0 < v.number = subst (λ (x : View). 0 < x.number) same r.whole.3 in
        let all : v.seen ≡ r.history = subst (λ (x : View). x.seen ≡ r.history) same r.whole.4 in
        (id, Sees, set_here s.views id Sees (at_below s.views id v at), live, prefix_between v.seen seen r.history more within all))
        (λ (else : i ≢ id). (i, u, set_else s.views id i Sees else ∙ r.whole.2, r.whole.3, r.whole.4))

    live_more : 0 < v.number → Each After (λ i d. d.holds ≡ true → 0 < d.number)
    live_more live = each_set (λ i d. d.holds ≡ true → 0 < d.number) s.views id Sees (λ _. live) (λ i d ne e. r.live_holds i d e)

    apart_more : AreApart After
    apart_more = apart_numbers s.views After same_numbers r.apart

  -- ---- take
  pub takes_turn : (slots id : ℕ) (me : Holder) → 0 < me.0.number → me.1 ≡ [] → Allows (Kept a vm) slots id me 0 (λ n. either (eqb n 0) 1 n) (took a (step slots 0 0 1 none) me)
  takes_turn slots id me live empty s r deep at small =
      let v = me.0 in
      let k = r.knows id v at live in
      let others = k.begins.0 in
      let is : v.seen ++ others ≡ r.history = k.begins.1 in
      let seen : List Entry = v.seen ++ others in
      let w : View = seeing v true seen v.before in
      let more : IsPrefix v.seen seen = (others, refl) in
      let within : IsPrefix seen r.history = subst (IsPrefix seen) is (prefix_self seen) in
      ⊎_elim
      (λ (free : IsFree a vm r.history s).
      let zero_there : get_or s.words 0 0 ≡ 0 = ap (λ ws. get_or ws 0 0) free.words in (
        w,
        takes 0 (value_after a v.vm seen),
        ap (λ hs. get_elem? hs 0) free.homes ∙ (λ i. some (some (value_after a (sym k.same_vm i) (sym is i)))),
        record {
          history = r.history;
          legal = r.legal;
          turn = inr record {
            asleep = free.asleep;
            words = ap (λ ws. set ws 0 (either (eqb (get_or ws 0 0) 0) 1 (get_or ws 0 0))) free.words;
            homes = ap (λ hs. set hs 0 none) free.homes;
            holder = id;
            held = (w, set_here s.views id w (at_below s.views id v at), refl);
            one_holds = each_set (λ i d. d.holds ≡ true → i ≡ id) s.views id w (λ _. refl) (λ i d ne e it. absurd (let not = free.none_holds i d e in cc));
          };
          knows = knows_more s r id v at true seen more within (λ _. is);
          live_holds = live_more s r id v at true seen more within live;
          apart = apart_more s r id v at true seen more within;
          leads = leads_more s r id v at true seen more within;
          whole = whole_more s r id v at true seen more within;
        },
        (
          (λ _. record {
            others = others;
            view = refl;
            slot = ap (λ c. (0, value_after a v.vm seen) ∷ c) empty;
            legal = subst (λ (t : ℕ × List Entry). IsLegalFor a t.0 t.1) (λ i. (sym k.same_vm i, sym is i)) r.legal;
            foreign = none_behind v.number v.seen others (k.entries ∙ ap (own v.number) (sym is));
          }),
          λ ne. absurd (ne zero_there),
        ),
      ))
      (λ (taken : IsTaken a vm r.history s).
      let one_there : get_or s.words 0 0 ≡ 1 = ap (λ ws. get_or ws 0 0) taken.words in (
        v,
        keeps,
        tt,
        same_table s _ id v (ap (λ ws. set ws 0 (either (eqb (get_or ws 0 0) 0) 1 (get_or ws 0 0))) taken.words ∙ sym taken.words) at r,
        ((λ e. absurd (omega arith)), λ _. refl),
      ))
      r.turn

  -- ---- give
  not_true : (b : Bool) → (b ≡ true → ⊥) → b ≡ false
  not_true true f = absurd (f refl)
  not_true false f = refl

  pub gives_turn : (slots id : ℕ) (me : Holder) → me.0.holds ≡ true → me.1 ≡ (0, value_after a me.0.vm me.0.seen) ∷ [] → Allows (Kept a vm) slots id me 0 (λ _. 0) (λ _. gave a (step slots 0 0 0 none) me 0)
  gives_turn slots id me holding carried s r deep at small =
      let v = me.0 in
      let live = r.live_holds id v at holding in
      let k = r.knows id v at live in
      let is : v.seen ≡ r.history = k.all holding in
      let w : View = seeing v false v.seen v.before in
      let more : IsPrefix v.seen v.seen = prefix_self v.seen in
      ⊎_elim
      (λ (free : IsFree a vm r.history s). let not = free.none_holds id v at in absurd (cc))
      (λ (taken : IsTaken a vm r.history s).
      let here : id ≡ taken.holder = taken.one_holds id v at holding in (
        w,
        gives,
        tt,
        record {
          history = r.history;
          legal = r.legal;
          turn = inl record {
            asleep = taken.asleep;
            words = ap (λ ws. set ws 0 0) taken.words;
            homes = (λ i. put_back (taken.homes i) (carried i)) ∙ (λ i. some (value_after a (k.same_vm i) (is i)) ∷ []);
            none_holds = each_set (λ i d. d.holds ≡ false) s.views id w refl (λ i d ne e. not_true d.holds (λ it. ne (taken.one_holds i d e it ∙ sym here)));
          };
          knows = knows_more s r id v at false v.seen more k.begins (λ e. absurd (cc));
          live_holds = live_more s r id v at false v.seen more k.begins live;
          apart = apart_more s r id v at false v.seen more k.begins;
          leads = leads_more s r id v at false v.seen more k.begins;
          whole = whole_more s r id v at false v.seen more k.begins;
        },
        (λ i. (w, rest (carried i))),
      ))
      r.turn

  -- ---- record
  -- the view of number 1, after an entry of a live view
  leads_entry : (h : List Entry) (views : List View) (d : View) (e : Entry) (id : ℕ) (v : View) → get_elem? views id ≡ some v → e.who ≡ v.number → 0 < v.number → Leads h views d → Leads (h ++ e ∷ []) views d
  leads_entry h views d e id v at who live l = record {
    some_given = l.some_given;
    numbers = l.numbers;
    none_past = λ n past. let le = l.numbers id v at in own-other n h e (λ same. absurd (omega arith)) ∙ l.none_past n past;
    none_of_spent = own-other 0 h e (λ same. absurd (omega arith)) ∙ l.none_of_spent;
    remains = λ k x there. let m = l.remains k x there in record {
      begins = m.begins;
      entries = m.entries ∙ sym (own-other x.number h e (λ same. m.no_live id v at (sym who ∙ same)));
      was_given = m.was_given;
      no_live = m.no_live;
    };
  }

  count_up : (n : ℕ) → (n % 2 ^ 64 + 1) % 2 ^ 64 ≡ (n + 1) % 2 ^ 64
  count_up n = omega arith

  pub records_entry : (slots id : ℕ) (me : Holder) (e : Entry) → me.0.holds ≡ true → e.who ≡ me.0.number → e.reply ≡ a.reply e.who e.call (value_after a me.0.vm me.0.seen)
      → Allows (Kept a vm) slots id me 1 (λ n. (n + 1) % 2 ^ 64) (recorded a e (step slots 1 1 0 none) me)
  records_entry slots id me e holding who reply s r deep at small =
      let v = me.0 in
      let live = r.live_holds id v at holding in
      let k = r.knows id v at live in
      let is : v.seen ≡ r.history = k.all holding in
      let longer : List Entry = v.seen ++ e ∷ [] in
      let w : View = seeing v v.holds longer longer in
      let more : IsPrefix v.seen longer = (e ∷ [], refl) in
      let same : KeepsNumbers s.views (set s.views id w) = numbers_set s.views id v w at refl in
      let leads : (d : View) → Leads r.history s.views d → Leads longer s.views d = λ d l. leads_entry v.seen s.views d e id v at who live (subst (λ h. Leads h s.views d) (sym is) l) in
      let others : (n : ℕ) → n ≢ v.number → own n r.history ≡ own n longer = λ n ne. ap (own n) (sym is) ∙ sym (own-other n v.seen e (λ same. ne (sym same ∙ who))) in
      ⊎_elim
      (λ (free : IsFree a vm r.history s). let not = free.none_holds id v at in absurd (cc))
      (λ (taken : IsTaken a vm r.history s).
      let here : id ≡ taken.holder = taken.one_holds id v at holding in (
        w,
        keeps,
        tt,
        record {
          history = longer;
          legal = legal_snoc a vm v.seen e (subst (IsLegalFor a vm) (sym is) r.legal) (reply ∙ ap (λ n. a.reply e.who e.call (value_after a n v.seen)) k.same_vm);
          turn = inr record {
            asleep = taken.asleep;
            words = ap (λ ws. set ws 1 ((get_or ws 1 0 + 1) % 2 ^ 64)) taken.words ∙ ap (λ n. 1 ∷ n ∷ taken.asleep ∷ []) (count_up (length r.history) ∙ ap (λ n. n % 2 ^ 64) (ap (λ l. length l + 1) (sym is) ∙ sym (length-append v.seen (e ∷ []))));
            homes = taken.homes;
            holder = id;
            held = (w, set_here s.views id w (at_below s.views id v at), holding);
            one_holds = each_set (λ i d. d.holds ≡ true → i ≡ id) s.views id w (λ _. refl) (λ i d ne x it. taken.one_holds i d x it ∙ sym here);
          };
          knows = each_set (λ i d. 0 < d.number → Knows vm longer d) s.views id w
              (λ _. record { same_vm = k.same_vm; begins = prefix_self longer; entries = refl; all = λ _. refl; before_begins = prefix_self longer; before_entries = refl })
              (λ i d ne x there.
              let g = r.knows i d x there in
              let apart : d.number ≢ v.number = λ one. ne (sym (r.apart id i v d at x live (sym one))) in
              record {
                same_vm = g.same_vm;
                begins = prefix_trans d.seen v.seen longer (subst (IsPrefix d.seen) (sym is) g.begins) more;
                entries = g.entries ∙ others d.number apart;
                all = λ it. absurd (ne (taken.one_holds i d x it ∙ sym here));
                before_begins = g.before_begins;
                before_entries = g.before_entries ∙ others d.number apart;
              });
          live_holds = each_set (λ i d. d.holds ≡ true → 0 < d.number) s.views id w (λ _. live) (λ i d ne x. r.live_holds i d x);
          apart = apart_numbers s.views (set s.views id w) same r.apart;
          leads = each_set (λ i d. d.number ≡ 1 → Leads longer (set s.views id w) d) s.views id w
              (λ one. leads_numbers longer s.views (set s.views id w) w same (leads_seeing longer s.views v v.holds longer longer more (leads v (r.leads id v at one))))
              (λ i d ne x one. leads_numbers longer s.views (set s.views id w) d same (leads d (r.leads i d x one)));
          whole = (id, w, set_here s.views id w (at_below s.views id v at), live, refl);
        },
        refl,
      ))
      r.turn
