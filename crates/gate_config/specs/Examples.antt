-- Worked examples: names, and the routes of paths.
use Rattle.std.specs.Prelude.{◌≡◌, List, [], ◌∷◌, true, false, None, Some, codes}
use Rattle.gate_config.specs.declared.entries.RouteEntry.{RouteEntry}
use Rattle.gate_config.specs.Plain.{name_of, plain_routes, plain_route}
use Rattle.gate_config.specs.Routes.{all_fit, route_of}

-- `/a`, `/b/{x}` and `/b/c`
abbrev three : List RouteEntry
three = plain_route (codes "/a") 0 ∷ plain_route (codes "/b/{x}") 0 ∷ plain_route (codes "/b/c") 0 ∷ []

pub record RouteExamples : Type 0 where
  pub first_name : name_of 0 ≡ codes "m1"
  pub ninth_name : name_of 8 ≡ codes "m9"
  pub tenth_name : name_of 9 ≡ codes "m10"
  pub last_name : name_of 15 ≡ codes "m16"
  pub literal : route_of three (codes "/a") ≡ Some 0
  pub parameter : route_of three (codes "/b/d") ≡ Some 1
  pub literal_first : route_of three (codes "/b/c") ≡ Some 2
  pub longer : route_of three (codes "/a/") ≡ None
  pub no_routes : route_of [] (codes "/") ≡ None
  pub star : route_of (plain_routes 0) (codes "*") ≡ None
  pub taken : all_fit 0 three [] ≡ true
  pub conflict : all_fit 0 (plain_route (codes "/b/{x}") 0 ∷ plain_route (codes "/b/{y}") 0 ∷ []) [] ≡ false
  pub no_route : all_fit 0 (plain_route (codes "/{") 0 ∷ []) [] ≡ false
