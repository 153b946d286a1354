-- The map of a request, among what changes of the contexts.
use Rattle.std.proofs.Common.{◌≡◌, ◌<◌, ℕ, zero, suc, Bool, List, [], ◌∷◌, ◌++◌, length, refl, ap, ◌∙◌, sym, arith}
use Rattle.std.proofs.lemmas.List.Quantifiers.{position-Some}
use Rattle.std.specs.Prelude.{Option, None, Some, option_map, slice_set, position, is_none, slice_index_or}
use Rattle.contexts.specs.declared.parts.Contexts.{Contexts}
use Rattle.contexts.specs.declared.parts.ExchangeEntry as parts
use Rattle.contexts.specs.declared.parts.ExchangeView.{ExchangeView}
use Rattle.contexts.specs.Creating.{new_exchange, open_exchange, placed_at, place_or}
use Rattle.contexts.specs.Reached.{exchange_at, view_at, with_view}
use Rattle.exchange.specs.Maps.{or_none, request_in, request_map, in_view, put_request_trailers, mark}
use Rattle.header_maps.specs.Headers.{Headers}
use Rattle.worker_model.specs.Steps.{free_place}

-- a view that changes at a place, with the same map of the request
set_view : (xs : List (Option parts.ExchangeEntry)) (q p : ℕ) (v w : ExchangeView) → view_at xs q ≡ Some v → w.maps.request ≡ v.maps.request
    → request_in (view_at (slice_set xs q (option_map (with_view w) (exchange_at xs q))) p) ≡ request_in (view_at xs p)
set_view [] q p v w at same = refl
set_view (None ∷ xs) zero zero v w at same = refl
set_view (Some e ∷ xs) zero zero v w at same = let is : e.view ≡ v = cc in ap or_none (same ∙ ap (λ (u : ExchangeView). u.maps.request) (sym is))
set_view (o ∷ xs) zero (suc p) v w at same = refl
set_view (o ∷ xs) (suc q) zero v w at same = refl
set_view (o ∷ xs) (suc q) (suc p) v w at same = set_view xs q p v w at same

pub view_map : (change : ExchangeView → ExchangeView) (q p : ℕ) (h : Contexts) → ((v : ExchangeView) → (change v).maps.request ≡ v.maps.request) → request_map p (in_view change q (view_at h.exchanges q) h) ≡ request_map p h
view_map change q p h same = by_view (view_at h.exchanges q) refl
  where
    by_view : (o : Option ExchangeView) → view_at h.exchanges q ≡ o → request_map p (in_view change q o h) ≡ request_map p h
    by_view None at = refl
    by_view (Some v) at = set_view h.exchanges q p v (change v) at (same v)

pub trailers_map : (map : Headers) (q p : ℕ) (h : Contexts) → request_map p (put_request_trailers map q h) ≡ request_map p h
trailers_map map q p h = view_map _ q p h (λ v. refl)

pub mark_map : (a b c : Bool) (q p : ℕ) (h : Contexts) → request_map p (mark a b c q h) ≡ request_map p h
mark_map a b c q p h = view_map _ q p h (λ v. refl)

-- ---- an exchange that was opened

pub set_there : {A : Type 0} (xs : List A) (n : ℕ) (x d : A) → n < length xs → slice_index_or (slice_set xs n x) n d ≡ x
set_there [] n x d inside = let never : ⊥ = omega arith in absurd never
set_there (y ∷ xs) zero x d inside = refl
set_there (y ∷ xs) (suc n) x d inside = set_there xs n x d (omega arith)

pub last_there : {A : Type 0} (xs : List A) (x d : A) → slice_index_or (xs ++ x ∷ []) (length xs) d ≡ x
last_there [] x d = refl
last_there (y ∷ xs) x d = last_there xs x d

abbrev view_of : Option parts.ExchangeEntry → Headers
view_of o = request_in (option_map (λ (x : parts.ExchangeEntry). x.view) o)

placed_there : (number : ℕ) (fields : Headers) (xs : List (Option parts.ExchangeEntry)) (o : Option ℕ) → position is_none xs ≡ o
    → view_of (slice_index_or (placed_at (new_exchange number fields) o xs) (place_or (length xs) o) None) ≡ fields
placed_there number fields xs None is = ap view_of (last_there xs (Some (new_exchange number fields)) None)
placed_there number fields xs (Some n) is = ap view_of (set_there xs n (Some (new_exchange number fields)) None (position-Some is_none xs n None is).0)

pub opened_map : (number : ℕ) (fields : Headers) (h : Contexts) → request_map (free_place h) (open_exchange number fields h) ≡ fields
opened_map number fields h = placed_there number fields h.exchanges (position is_none h.exchanges) refl
