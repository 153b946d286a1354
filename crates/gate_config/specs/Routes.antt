-- The route of a path: what `matchit` finds in a router that was given the routes in order, each with its place.
use Rattle.std.specs.Prelude.{ℕ, ◌+◌, ◌&&◌, Bool, true, false, List, [], ◌∷◌, Option, is_none, option_map, Result, Ok, Err}
use Rattle.matchit.specs.Order.{placed}
use Rattle.matchit.specs.Route.{Scan, parse_route}
use Rattle.matchit.specs.Router.{RouteOf, route_from, nearest}
use Rattle.matchit.specs.Rows.{RowsOf}
use Rattle.matchit.specs.Seek.{first}
use Rattle.matchit.specs.declared.error.InsertError.{InsertError}
use Rattle.gate_config.specs.declared.entries.RouteEntry.{RouteEntry}

abbrev pub Table : Type 0
Table = RowsOf (RouteOf ℕ)

-- with one more route, whose text is read so
abbrev pub with_read : Result Scan InsertError → ℕ → Table → Table
with_read (Ok s) place table = placed (s.pattern, route_from s place) table
with_read (Err e) place table = table

-- the router takes the route: it reads well, and no route is there that conflicts with it
abbrev pub fits : Result Scan InsertError → Table → Bool
fits (Ok s) table = is_none (nearest s.pattern table)
fits (Err e) table = false

abbrev pub with_route : List ℕ → ℕ → Table → Table
with_route path place table = with_read (parse_route path) place table

-- with these routes, whose places go on from one
abbrev pub with_routes : ℕ → List RouteEntry → Table → Table
with_routes place [] table = table
with_routes place (route ∷ routes) table = with_routes (place + 1) routes (with_route route.path place table)

-- each of these routes, whose places go on from one, is taken by the router of those before it
abbrev pub all_fit : ℕ → List RouteEntry → Table → Bool
all_fit place [] table = true
all_fit place (route ∷ routes) table = fits (parse_route route.path) table && all_fit (place + 1) routes (with_route route.path place table)

abbrev pub table_of : List RouteEntry → Table
table_of routes = with_routes 0 routes []

-- the place of the route that a path matches
abbrev pub route_of : List RouteEntry → List ℕ → Option ℕ
route_of routes path = option_map (λ route. route.value) (first (table_of routes) path)
