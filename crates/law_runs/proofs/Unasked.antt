-- What a worker itself does asks for no answer.
use Rattle.std.proofs.Common.{◌≡◌, ℕ, zero, suc, false, List, [], ◌∷◌, ◌++◌, Option, None, Some, refl, ap, ◌∙◌, sym, subst}
use Rattle.std.proofs.lemmas.Option.{none-some}
use Rattle.std.specs.Option.{option_map}
use Rattle.std.specs.Prelude.{is_none, position, slice_set}
use Rattle.contexts.proofs.Places.{from_some}
use Rattle.contexts.specs.Creating.{ended_one, new_exchange, placed_at}
use Rattle.contexts.specs.Reached.{Changes, context_in, exchange_at, view_at, with_view, viewed_by, exchanges_by, exchanges_after}
use Rattle.contexts.specs.declared.parts.Context.{Context}
use Rattle.contexts.specs.declared.parts.Contexts.{Contexts}
use Rattle.contexts.specs.declared.parts.ExchangeEntry.{ExchangeEntry}
use Rattle.contexts.specs.declared.parts.ExchangeView.{ExchangeView}
use Rattle.exchange.specs.Maps.{in_view}
use Rattle.law_runs.specs.Marks.{is_asking, IsUnasked}
use Rattle.law_runs.proofs.Changing.{IsClosed}

abbrev Quiet : List (Option ExchangeEntry) → ℕ → Type 0
Quiet xs n = is_asking (exchange_at xs n) ≡ false

-- another exchange at a place
put_quiet : (xs : List (Option ExchangeEntry)) (i n : ℕ) (o : Option ExchangeEntry) → Quiet xs n → (i ≡ n → is_asking o ≡ false) → Quiet (slice_set xs i o) n
put_quiet [] i n o is own = is
put_quiet (x ∷ xs) zero zero o is own = own refl
put_quiet (x ∷ xs) zero (suc n) o is own = is
put_quiet (x ∷ xs) (suc i) zero o is own = is
put_quiet (x ∷ xs) (suc i) (suc n) o is own = put_quiet xs i n o is (λ e. own (ap suc e))

more_quiet : (xs : List (Option ExchangeEntry)) (n : ℕ) (x : ExchangeEntry) → Quiet xs n → x.view.is_answering ≡ false → Quiet (xs ++ Some x ∷ []) n
more_quiet [] zero x is own = own
more_quiet [] (suc n) x is own = refl
more_quiet (y ∷ xs) zero x is own = is
more_quiet (y ∷ xs) (suc n) x is own = more_quiet xs n x is own

-- a change that is none of an exchange
nothing_by : (s : Changes) (o : Option ℕ) (xs : List (Option ExchangeEntry)) → s.exchange ≡ None → exchanges_by s o xs ≡ xs
nothing_by s None xs none = refl
nothing_by s (Some n) xs none = ap (λ (w : Option ExchangeView). viewed_by n w xs) none

nothing_after : (s : Changes) (o : Option Context) (xs : List (Option ExchangeEntry)) → s.exchange ≡ None → exchanges_after s o xs ≡ xs
nothing_after s None xs none = refl
nothing_after s (Some c) xs none = nothing_by s c.exchange xs none

with_quiet : (w : ExchangeView) (o : Option ExchangeEntry) → w.is_answering ≡ false → is_asking (option_map (with_view w) o) ≡ false
with_quiet w None is = refl
with_quiet w (Some x) is = is

view_quiet : (o : Option ExchangeEntry) (v : ExchangeView) → option_map (λ (x : ExchangeEntry). x.view) o ≡ Some v → is_asking o ≡ false → v.is_answering ≡ false
view_quiet None v is quiet = absurd (none-some v is)
view_quiet (Some x) v is quiet = ap (λ (w : ExchangeView). w.is_answering) (sym (from_some is)) ∙ quiet

viewed_quiet : (n : ℕ) (change : ExchangeView → ExchangeView) (place : ℕ) (o : Option ExchangeView) (h : Contexts) → view_at h.exchanges place ≡ o
    → ((v : ExchangeView) → v.is_answering ≡ false → (change v).is_answering ≡ false) → IsUnasked n h → IsUnasked n (in_view change place o h)
viewed_quiet n change place None h at lowers is = is
viewed_quiet n change place (Some v) h at lowers is =
    put_quiet h.exchanges place n (option_map (with_view (change v)) (exchange_at h.exchanges place)) is
    (λ same. with_quiet (change v) (exchange_at h.exchanges place) (lowers v (view_quiet (exchange_at h.exchanges place) v at (subst (λ (k : ℕ). Quiet h.exchanges k) (sym same) is))))

ended_quiet : (o : Option ExchangeEntry) → is_asking o ≡ false → is_asking (option_map ended_one o) ≡ false
ended_quiet None is = refl
ended_quiet (Some x) is = is

placed_quiet : (n : ℕ) (x : ExchangeEntry) (o : Option ℕ) (xs : List (Option ExchangeEntry)) → x.view.is_answering ≡ false → Quiet xs n → Quiet (placed_at x o xs) n
placed_quiet n x (Some k) xs own is = put_quiet xs k n (Some x) is (λ same. own)
placed_quiet n x None xs own is = more_quiet xs n x is own

pub unasked : IsClosed IsUnasked
unasked = record {
  put = λ n s vm e h none is. subst (λ (xs : List (Option ExchangeEntry)). Quiet xs n) (sym (nothing_after s (context_in h vm e) h.exchanges none)) is;
  view = λ n change place h lowers is. viewed_quiet n change place (view_at h.exchanges place) h refl lowers is;
  free = λ n k h is. put_quiet h.exchanges k n None is (λ same. refl);
  end = λ n k h is.
      put_quiet h.exchanges k n (option_map ended_one (exchange_at h.exchanges k)) is
      (λ same. ended_quiet (exchange_at h.exchanges k) (subst (λ (i : ℕ). Quiet h.exchanges i) (sym same) is));
  begin = λ n line request h is. placed_quiet n (new_exchange line request) (position is_none h.exchanges) h.exchanges refl is;
  vm = λ n k v h is. is;
  plugins = λ n ps h is. is;
  effects = λ n es h is. is;
  calls = λ n c h is. is;
}

-- ---- and what is marked has no mark

-- where an exchange is told anew, no answer was asked for of it
pub lowered : (change : ExchangeView → ExchangeView) (place : ℕ) (o : Option ExchangeView) (h : Contexts) → view_at h.exchanges place ≡ o
    → ((v : ExchangeView) → (change v).is_answering ≡ false) → IsUnasked place (in_view change place o h)
lowered change place None h at lowers = none_there (exchange_at h.exchanges place) at
  where
    none_there : (e : Option ExchangeEntry) → option_map (λ (x : ExchangeEntry). x.view) e ≡ None → is_asking e ≡ false
    none_there None is = refl
    none_there (Some x) is = absurd (none-some x.view (sym is))
lowered change place (Some v) h at lowers = set_same h.exchanges place
  where
    set_same : (xs : List (Option ExchangeEntry)) (k : ℕ) → is_asking (exchange_at (slice_set xs k (option_map (with_view (change v)) (exchange_at xs k))) k) ≡ false
    set_same [] k = refl
    set_same (x ∷ xs) zero = with_quiet (change v) x (lowers v)
    set_same (x ∷ xs) (suc k) = set_same xs k

-- and it is told that
set_view : (xs : List (Option ExchangeEntry)) (k : ℕ) (w v : ExchangeView) → view_at (slice_set xs k (option_map (with_view w) (exchange_at xs k))) k ≡ Some v → w ≡ v
set_view [] k w v is = absurd (none-some v is)
set_view (None ∷ xs) zero w v is = absurd (none-some v is)
set_view (Some x ∷ xs) zero w v is = from_some is
set_view (x ∷ xs) (suc k) w v is = set_view xs k w v is

pub told : (P : ExchangeView → Type 0) (change : ExchangeView → ExchangeView) (place : ℕ) (o : Option ExchangeView) (h : Contexts) → view_at h.exchanges place ≡ o
    → ((v : ExchangeView) → P (change v)) → (v : ExchangeView) → view_at (in_view change place o h).exchanges place ≡ Some v → P v
told P change place None h at is v viewed = absurd (none-some v (sym at ∙ viewed))
told P change place (Some w) h at is v viewed = subst P (set_view h.exchanges place (change w) v viewed) (is w)
