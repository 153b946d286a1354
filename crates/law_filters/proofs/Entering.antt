-- The stages of an exchange as they are made.
use Rattle.std.proofs.Common.{◌≡◌, inr, refl, ℕ, zero, suc, Bool, true, false, cond, ◌||◌, List, [], ◌∷◌, map, Some, ap, ◌∙◌, sym, subst}
use Rattle.std.specs.List.{filter}
use Rattle.std.specs.Prelude.{slice_get, reverse}
use Rattle.exchange.specs.declared.types.Exchange.{Exchange}
use Rattle.exchange.specs.declared.types.Filter.{Filter}
use Rattle.filter_chain.specs.declared.stage.Stage.{Stage}
use Rattle.worker_model.specs.Steps.{exchange_with_stages, is_live, new_stage}
use Rattle.law_filters.proofs.Doing.{by_ended}
use Rattle.law_filters.specs.Heads.{AreIdle, Awaits, StagesAwait, WaitsYet}

abbrev stages : List Filter → List Stage
stages fs = map (new_stage false) fs

all_idle : (fs : List Filter) → AreIdle (stages fs)
all_idle [] = tt
all_idle (f ∷ fs) = (record { waiting = refl; holding = refl }, all_idle fs)

-- the stage of the filter is at some place
abbrev HasStage : Filter → List Filter → Type 0
HasStage f fs = (t : ℕ) × Awaits f.vm f.context t (stages fs)

filter_same : (a b : Filter) → Some a ≡ Some b → a ≡ b
filter_same a b is = cc is

live_stage : (dead : List ℕ) (fs : List Filter) (k : ℕ) (f : Filter) → slice_get fs k ≡ Some f → is_live dead f ≡ true → HasStage f (filter (is_live dead) fs)
live_stage dead [] zero f at live = absurd (cc at)
live_stage dead [] (suc k) f at live = absurd (cc at)
live_stage dead (x ∷ fs) zero f at live =
    subst (λ (b : Bool). HasStage f (cond b (x ∷ filter (is_live dead) fs) (filter (is_live dead) fs))) (sym (ap (is_live dead) (filter_same x f at) ∙ live))
    (subst (λ (y : Filter). HasStage f (y ∷ filter (is_live dead) fs)) (sym (filter_same x f at))
    (0, (record { vm_is = refl; context_is = refl; asking = refl }, record { waiting = refl; holding = refl }, all_idle (filter (is_live dead) fs))))
live_stage dead (x ∷ fs) (suc k) f at live = by_live (live_stage dead fs k f at live) (is_live dead x)
  where
    by_live : HasStage f (filter (is_live dead) fs) → (b : Bool) → HasStage f (cond b (x ∷ filter (is_live dead) fs) (filter (is_live dead) fs))
    by_live has true = (suc has.0, (record { waiting = refl; holding = refl }, has.1))
    by_live has false = has

either_false : (a b : Bool) → a ≡ false → b ≡ false → (a || b) ≡ true → ⊥
either_false true b x y is = cc x
either_false false true x y is = cc y
either_false false false x y is = cc is

pub stages_await : StagesAwait
stages_await dead x k f runs free at live =
    by_ended (WaitsYet f.vm f.context) (x.has_ended || x.is_answered) x
    (record x {
      request = map (new_stage false) (filter (is_live dead) x.filters);
      response = reverse (map (new_stage true) (filter (is_live dead) x.filters));
      is_entered = true;
    }) (λ e. absurd (either_false x.has_ended x.is_answered runs free e)) (λ e. inr (runs, free, live_stage dead x.filters k f at live))

pub stages_entered : (dead : List ℕ) (x : Exchange) → x.has_ended ≡ false → x.is_answered ≡ false → (exchange_with_stages dead x).is_entered ≡ true
stages_entered dead x runs free =
    by_ended (λ (y : Exchange). y.is_entered ≡ true) (x.has_ended || x.is_answered) x
    (record x {
      request = map (new_stage false) (filter (is_live dead) x.filters);
      response = reverse (map (new_stage true) (filter (is_live dead) x.filters));
      is_entered = true;
    }) (λ e. absurd (either_false x.has_ended x.is_answered runs free e)) (λ e. refl)
