-- How many bytes the calls give that give bytes of maps.
use Rattle.std.proofs.Common.{◌≡◌, ℕ, List, length, Option, None, Some, Result, Ok, Err, refl, sym, ◌∙◌, subst}
use Rattle.std.specs.Option.{option_map}
use Rattle.header_maps.specs.Headers.{Headers}
use Rattle.header_maps.specs.Operations.{get_of, size_of}
use Rattle.pair_codec.proofs.RoundTrip.{size_is_length}
use Rattle.abi_model.specs.Reading.{Measures}
use Rattle.abi_maps.specs.Maps.{value_as, value_in, pairs_as}

some_value : (v : Option (List ℕ)) (n : ℕ) → Some n ≡ option_map length v → Measures (Ok n) (value_as v)
some_value None n is = absurd (cc)
some_value (Some v) n is = (refl, cc)

no_value : (v : Option (List ℕ)) → None ≡ option_map length v → Measures (Err 1) (value_as v)
no_value None is = refl
no_value (Some v) is = absurd (cc)

pub value_measured :
    (key : List ℕ) (r : Result Headers ℕ) (l : Headers) (n : ℕ) → r ≡ Ok l → Some n ≡ option_map length (get_of l key)
    → Measures (Ok n) (value_in key r)
value_measured key r l n there is =
    subst (λ (x : Result Headers ℕ). Measures (Ok n) (value_in key x)) (sym there) (some_value (get_of l key) n is)

pub no_value_measured :
    (key : List ℕ) (r : Result Headers ℕ) (l : Headers) → r ≡ Ok l → None ≡ option_map length (get_of l key) → Measures (Err 1) (value_in key r)
no_value_measured key r l there is =
    subst (λ (x : Result Headers ℕ). Measures (Err 1) (value_in key x)) (sym there) (no_value (get_of l key) is)

pub pairs_measured : (r : Result Headers ℕ) (l : Headers) (n : ℕ) → r ≡ Ok l → n ≡ size_of l.pairs → Measures (Ok n) (pairs_as r)
pairs_measured r l n there is =
    subst (λ (x : Result Headers ℕ). Measures (Ok n) (pairs_as x)) (sym there) (refl, size_is_length l.pairs ∙ sym is)
