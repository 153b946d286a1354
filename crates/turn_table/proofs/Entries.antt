-- The entries of one worker, and legal histories.
use Rattle.std.proofs.Common.{◌≡◌, ◌≢◌, ℕ, ◌==◌, ltb, cond, true, false, List, [], ◌∷◌, ◌++◌, map, length, refl, ap, sym, subst, ◌∙◌, arith, append_assoc, ne_eqb, eq-eqb}
use Rattle.std.proofs.lemmas.List.{append-nil}
use Rattle.std.proofs.lemmas.List.Elements.{filter-append}
use Rattle.std.proofs.lemmas.Bool.Decides.{nat_tests}
use mathlib.Core.List.{IsPrefix, map-append}
use Rattle.store_model.specs.History.{Acts, entry, reply_in, own, value_from, replies_from}
use Rattle.store_model.specs.declared.call.Call.{Call}
use Rattle.store_model.specs.declared.call.Reply.{Reply}
use Rattle.store_model.specs.declared.entry.Entry.{Entry}
use Rattle.turn_table.specs.Histories.{value_after, IsLegalFor}
use Rattle.turn_table.specs.Views.{longer}
use Rattle.turn_table.proofs.Prefixes.{prefix_self, prefix_shorter, first_empty, nothing_behind}

pub own-append : (n : ℕ) (xs ys : List Entry) → own n (xs ++ ys) ≡ own n xs ++ own n ys
own-append n xs ys = filter-append (λ e. e.who == n) xs ys

-- a worker's own entry
pub own-one : (n : ℕ) (call : Call) (reply : Reply) → own n (entry n call reply ∷ []) ≡ entry n call reply ∷ []
own-one n call reply = ap (λ b. cond b (entry n call reply ∷ []) []) (eq-eqb n n refl)

-- another worker's entry
pub own-other : (n : ℕ) (h : List Entry) (e : Entry) → e.who ≢ n → own n (h ++ e ∷ []) ≡ own n h
own-other n h e ne = own-append n h (e ∷ []) ∙ (ap (λ b. own n h ++ cond b (e ∷ []) []) (ne_eqb e.who n ne) ∙ append-nil (own n h))

-- what comes behind a beginning that has all entries of a worker is by others
pub none_behind : (n : ℕ) (xs ys : List Entry) → own n xs ≡ own n (xs ++ ys) → own n ys ≡ []
none_behind n xs ys e = nothing_behind (own n xs) (own n ys) (sym (e ∙ own-append n xs ys))

-- between a beginning that has all entries of a worker and the whole there are no more of them
pub own_between : (n : ℕ) (xs ys zs : List Entry) → IsPrefix xs ys → IsPrefix ys zs → own n xs ≡ own n zs → own n xs ≡ own n ys
own_between n xs ys zs p q e =
    let whole : xs ++ (p.0 ++ q.0) ≡ zs = sym (append_assoc xs p.0 q.0) ∙ (ap (λ w. w ++ q.0) p.1 ∙ q.1) in
    let none : own n (p.0 ++ q.0) ≡ [] = none_behind n xs (p.0 ++ q.0) (e ∙ ap (own n) (sym whole)) in
    let none_first : own n p.0 ≡ [] = first_empty (own n p.0) (own n q.0) (sym (own-append n p.0 q.0) ∙ none) in
    sym (append-nil (own n xs)) ∙ (ap (λ w. own n xs ++ w) (sym none_first) ∙ (sym (own-append n xs p.0) ∙ ap (own n) p.1))

pub own_up_to : (n : ℕ) (xs ys zs : List Entry) → IsPrefix xs ys → IsPrefix ys zs → own n xs ≡ own n zs → own n ys ≡ own n zs
own_up_to n xs ys zs p q e = sym (own_between n xs ys zs p q e) ∙ e

-- the longer of two beginnings of one list
module _ (xs ys zs : List Entry) (p : IsPrefix xs zs) (q : IsPrefix ys zs) where
  pub longer_first : IsPrefix xs (longer xs ys)
  longer_first = elim (ltb (length xs) (length ys)) as (λ b. ltb (length xs) (length ys) ≡ b → IsPrefix xs (cond b ys xs)) [
    | true ↦ λ is. prefix_shorter xs ys zs p q (grind (arith, nat_tests))
    | false ↦ λ is. prefix_self xs
  ] refl

  pub longer_second : IsPrefix ys (longer xs ys)
  longer_second = elim (ltb (length xs) (length ys)) as (λ b. ltb (length xs) (length ys) ≡ b → IsPrefix ys (cond b ys xs)) [
    | true ↦ λ is. prefix_self ys
    | false ↦ λ is. prefix_shorter ys xs zs q p (grind (arith, nat_tests))
  ] refl

  pub longer_within : IsPrefix (longer xs ys) zs
  longer_within = elim (ltb (length xs) (length ys)) as (λ b. IsPrefix (cond b ys xs) zs) [ true ↦ q | false ↦ p ]

module _ {S : Type 0} (a : Acts S) where
  pub value_from-snoc : (s : S) (h : List Entry) (e : Entry) → value_from a s (h ++ e ∷ []) ≡ a.after e.who e.call (value_from a s h)
  value_from-snoc s [] e = refl
  value_from-snoc s (x ∷ h) e = value_from-snoc (a.after x.who x.call s) h e

  replies_from-snoc : (s : S) (h : List Entry) (e : Entry) → replies_from a s (h ++ e ∷ []) ≡ replies_from a s h ++ a.reply e.who e.call (value_from a s h) ∷ []
  replies_from-snoc s [] e = refl
  replies_from-snoc s (x ∷ h) e = ap (λ w. a.reply x.who x.call s ∷ w) (replies_from-snoc (a.after x.who x.call s) h e)

  -- a legal history goes on by an entry whose reply is the value's
  pub legal_snoc : (vm : ℕ) (h : List Entry) (e : Entry) → IsLegalFor a vm h → e.reply ≡ a.reply e.who e.call (value_after a vm h) → IsLegalFor a vm (h ++ e ∷ [])
  legal_snoc vm h e legal is =
      map-append reply_in h (e ∷ []) ∙ (ap (λ w. w ++ e.reply ∷ []) legal ∙ (ap (λ r. replies_from a (a.empty vm) h ++ r ∷ []) is ∙ sym (replies_from-snoc (a.empty vm) h e)))

  legal_first : (s : S) (xs ys : List Entry) → map reply_in (xs ++ ys) ≡ replies_from a s (xs ++ ys) → map reply_in xs ≡ replies_from a s xs
  legal_first s [] ys e = refl
  legal_first s (x ∷ xs) ys e = let rest = legal_first (a.after x.who x.call s) xs ys (cc) in cc

  -- a beginning of a legal history is legal
  pub legal_prefix : (vm : ℕ) (xs ys : List Entry) → IsPrefix xs ys → IsLegalFor a vm ys → IsLegalFor a vm xs
  legal_prefix vm xs ys p legal = legal_first (a.empty vm) xs p.0 (subst (IsLegalFor a vm) (sym p.1) legal)
