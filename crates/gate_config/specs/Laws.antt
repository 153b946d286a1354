-- The routes of the plain configuration.
use Rattle.std.specs.Prelude.{◌≡◌, ◌≢◌, ℕ, ◌<◌, List, [], ◌∷◌, None, Some}
use Rattle.gate_config.specs.Plain.{plain_routes}
use Rattle.gate_config.specs.Routes.{route_of}

-- `/` is taken by the first route, a longer path that begins with it by the second, and any other path by none
pub record PlainRoutes : Type 0 where
  pub slash : (n : ℕ) → route_of (plain_routes n) (47 ∷ []) ≡ Some 0
  pub longer : (n b : ℕ) (path : List ℕ) → b < 256 → route_of (plain_routes n) (47 ∷ b ∷ path) ≡ Some 1
  pub other : (n b : ℕ) (path : List ℕ) → b < 256 → b ≢ 47 → route_of (plain_routes n) (b ∷ path) ≡ None
  pub empty : (n : ℕ) → route_of (plain_routes n) [] ≡ None
