-- The stages that are made are of VMs that are not dead.
use Rattle.std.proofs.Common.{◌≡◌, ℕ, zero, suc, Bool, true, false, not, ◌&&◌, ◌||◌, ◌==◌, List, [], ◌∷◌, ◌++◌, sym, refl, subst, inr, ⊎_elim}
use Rattle.std.proofs.lemmas.List.{reverse-append}
use Rattle.std.specs.List.{list_any}
use Rattle.std.specs.Prelude.{Some, filter, map, reverse}
use Rattle.exchange.specs.declared.types.Exchange.{Exchange}
use Rattle.exchange.specs.declared.types.Filter.{Filter}
use Rattle.filter_chain.specs.declared.stage.Stage.{Stage}
use Rattle.worker_model.specs.Steps.{is_live, new_stage, exchange_with_stages}
use Rattle.law_body.specs.Spent.{Spent, IsIn, Spares}
use Rattle.law_body.proofs.Spent.{of_if, neither, not_both, same_some}

-- none of them is one of which it is needed
abbrev pub NoneNeeded : (ℕ → Type 0) → List Stage → Type 0
NoneNeeded D [] = Unit {0}
NoneNeeded D (s ∷ ss) = (D s.vm → ⊥) × NoneNeeded D ss

pub fresh_spent : (D : ℕ → Type 0) (ss : List Stage) → NoneNeeded D ss → Spent (λ (j w : ℕ). D w) ss
fresh_spent D [] none j s at d = absurd (cc at)
fresh_spent D (x ∷ xs) none zero s at d = let same : x ≡ s = same_some x s (Some x) refl at in absurd (none.0 (subst (λ (t : Stage). D t.vm) (sym same) d))
fresh_spent D (x ∷ xs) none (suc j) s at d = fresh_spent D xs none.1 j s at d

none-append : (D : ℕ → Type 0) (a b : List Stage) → NoneNeeded D a → NoneNeeded D b → NoneNeeded D (a ++ b)
none-append D [] b one other = other
none-append D (s ∷ a) b one other = (one.0, none-append D a b one.1 other)

pub none-reverse : (D : ℕ → Type 0) (ss : List Stage) → NoneNeeded D ss → NoneNeeded D (reverse ss)
none-reverse D [] none = tt
none-reverse D (s ∷ ss) none = subst (NoneNeeded D) (sym (reverse-append (s ∷ []) ss)) (none-append D (reverse ss) (s ∷ []) (none-reverse D ss none.1) (none.0, tt))

live_not_dead : (dead : List ℕ) (f : Filter) → is_live dead f ≡ true → list_any (λ (d : ℕ). d == f.vm) dead ≡ true → ⊥
live_not_dead dead f live is = by_bools f.created (list_any (λ (d : ℕ). d == f.vm) dead) live is
  where
    by_bools : (c d : Bool) → (c && not d) ≡ true → d ≡ true → ⊥
    by_bools true true one two = cc
    by_bools true false one two = cc
    by_bools false d one two = cc

module _ (dead : List ℕ) where
  new_alive : (response : Bool) (fs : List Filter) → NoneNeeded (IsIn dead) (map (new_stage response) (filter (is_live dead) fs))
  new_alive response [] = tt
  new_alive response (f ∷ fs) =
      of_if (λ (l : List Filter). NoneNeeded (IsIn dead) (map (new_stage response) l)) (is_live dead f) (f ∷ filter (is_live dead) fs) (filter (is_live dead) fs)
      (λ live. (live_not_dead dead f live, new_alive response fs)) (λ gone. new_alive response fs)

  pub entered_spares : (x : Exchange) → Spares dead x → Spares dead (exchange_with_stages dead x)
  entered_spares x spares =
      of_if (λ (y : Exchange). Spares dead y) (x.has_ended || x.is_answered) _ _ (λ is. spares)
      (λ is. inr (record {
        request = λ j s at m.
            ⊎_elim (λ (d : IsIn dead s.vm). fresh_spent (IsIn dead) (map (new_stage false) (filter (is_live dead) x.filters)) (new_alive false x.filters) j s at d)
            (λ (answered : x.is_answered ≡ true). absurd (not_both x.is_answered answered (neither x.has_ended x.is_answered is).1)) m;
        response =
            fresh_spent (IsIn dead) (reverse (map (new_stage true) (filter (is_live dead) x.filters)))
            (none-reverse (IsIn dead) (map (new_stage true) (filter (is_live dead) x.filters)) (new_alive true x.filters));
      }))
