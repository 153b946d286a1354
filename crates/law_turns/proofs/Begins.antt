-- How an exchange begins.
use Rattle.std.proofs.Common.{◌≡◌, ◌<◌, ℕ, zero, suc, true, false, List, [], ◌∷◌, ◌++◌, length, map, filter, reverse, refl, ap, arith}
use Rattle.std.proofs.lemmas.List.Quantifiers.{position-Some}
use Rattle.std.specs.Prelude.{Option, None, Some, option_map, slice_set, position, is_none, slice_index_or}
use Rattle.contexts.specs.declared.parts.ExchangeEntry as parts
use Rattle.contexts.specs.Creating.{new_exchange, placed_at, place_or}
use Rattle.exchange.specs.declared.types.Filter.{Filter}
use Rattle.exchange.specs.Maps.{request_in}
use Rattle.filter_chain.specs.declared.stage.Stage.{Stage}
use Rattle.header_maps.specs.Headers.{Headers}
use Rattle.worker_model.specs.Steps.{is_live, new_stage}
use Rattle.law_turns.specs.Begins.{ExchangesBeginNew}

set_there : {A : Type 0} (xs : List A) (n : ℕ) (x d : A) → n < length xs → slice_index_or (slice_set xs n x) n d ≡ x
set_there [] n x d inside = let never : ⊥ = omega arith in absurd never
set_there (y ∷ xs) zero x d inside = refl
set_there (y ∷ xs) (suc n) x d inside = set_there xs n x d (omega arith)

last_there : {A : Type 0} (xs : List A) (x d : A) → slice_index_or (xs ++ x ∷ []) (length xs) d ≡ x
last_there [] x d = refl
last_there (y ∷ xs) x d = last_there xs x d

-- what was placed is found at its place
abbrev view_of : Option parts.ExchangeEntry → Headers
view_of o = request_in (option_map (λ (x : parts.ExchangeEntry). x.view) o)

placed_there : (number : ℕ) (fields : Headers) (xs : List (Option parts.ExchangeEntry)) (o : Option ℕ) → position is_none xs ≡ o
    → view_of (slice_index_or (placed_at (new_exchange number fields) o xs) (place_or (length xs) o) None) ≡ fields
placed_there number fields xs None is = ap view_of (last_there xs (Some (new_exchange number fields)) None)
placed_there number fields xs (Some n) is = ap view_of (set_there xs n (Some (new_exchange number fields)) None (position-Some is_none xs n None is).0)

pub no_stages : (dead : List ℕ) (filters : List Filter) → filters ≡ [] → ◌≡◌ {A = List Stage} (map (new_stage false) (filter (is_live dead) filters)) []
no_stages dead filters is = ap (λ (l : List Filter). map (new_stage false) (filter (is_live dead) l)) is

pub no_stages_back : (dead : List ℕ) (filters : List Filter) → filters ≡ [] → ◌≡◌ {A = List Stage} (reverse (map (new_stage true) (filter (is_live dead) filters))) []
no_stages_back dead filters is = ap (λ (l : List Filter). reverse (map (new_stage true) (filter (is_live dead) l))) is

pub begins_new : ExchangesBeginNew
begins_new plan now number dead h route contexts = record {
  request = refl;
  response = refl;
  head = refl;
  running = refl;
  unanswered = refl;
  judged = placed_there number h.fields contexts.exchanges (position is_none contexts.exchanges) refl;
  framed = refl;
  version = refl;
  no_request_stage = λ none. no_stages dead _ none;
  no_response_stage = λ none. no_stages_back dead _ none;
}
