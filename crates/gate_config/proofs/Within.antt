-- What a router answers is the value of one of its routes, so a place of the list that it was made of.
use Rattle.std.proofs.Common.{ℕ, zero, suc, ◌+◌, ◌-◌, ◌<◌, ◌≤◌, List, [], ◌∷◌, Bool, true, false, cond, ltb, ◌==◌, length, Option, None, Some, IfSome, Result, Ok, Err, arith}
use Rattle.std.specs.Prelude.{option_map}
use Rattle.matchit.proofs.OnLiterals.{matchit_on_literals}
use Rattle.matchit.specs.Order.{placed}
use Rattle.matchit.specs.Route.{Scan, parse_route}
use Rattle.matchit.specs.Router.{RouteOf, route_from}
use Rattle.matchit.specs.Rows.{comes_before, param_token, catch_all_token}
use Rattle.matchit.specs.Seek.{own, step, or_else, segment, has_slash, same_text, longest_suffix, with_suffix, param_step, seek}
use Rattle.matchit.specs.declared.error.InsertError.{InsertError}
use Rattle.gate_config.specs.declared.entries.RouteEntry.{RouteEntry}
use Rattle.gate_config.specs.Routes.{Table, with_read, with_route, with_routes, table_of, route_of}

-- each row's route has a value below n
abbrev Below : ℕ → Table → Type 0
Below n [] = Unit {0}
Below n (row ∷ rows) = (row.1.value < n) × Below n rows

-- a route, if there is one, has a value below n
abbrev IsBelow : ℕ → Option (RouteOf ℕ) → Type 0
IsBelow n route = IfSome route (λ r. r.value < n)

below_or_else : (n : ℕ) (a b : Option (RouteOf ℕ)) → IsBelow n a → IsBelow n b → IsBelow n (or_else a b)
below_or_else n None b first second = second
below_or_else n (Some r) b first second = first

below_own : (n : ℕ) (rows : Table) → Below n rows → IsBelow n (own rows)
below_own n [] all = tt
below_own n (([], r) ∷ rows) all = all.0
below_own n ((x ∷ t, r) ∷ rows) all = below_own n rows all.1

below_choice : (n : ℕ) (b : Bool) (rows others : Table) → Below n rows → Below n others → Below n (cond b rows others)
below_choice n true rows others first second = first
below_choice n false rows others first second = second

below_step : (n b : ℕ) (rows : Table) → Below n rows → Below n (step b rows)
below_step n b [] all = tt
below_step n b (([], r) ∷ rows) all = below_step n b rows all.1
below_step n b ((x ∷ t, r) ∷ rows) all =
    below_choice n (x == b) ((t, r) ∷ step b rows) (step b rows) (all.0, below_step n b rows all.1) (below_step n b rows all.1)

below_suffix : (n : ℕ) (suffix : List ℕ) (rows : Table) → Below n rows → Below n (with_suffix suffix rows)
below_suffix n suffix [] all = tt
below_suffix n suffix ((t, r) ∷ rows) all =
    below_choice n (same_text (segment t) suffix) ((t, r) ∷ with_suffix suffix rows) (with_suffix suffix rows) (all.0, below_suffix n suffix rows all.1) (below_suffix n suffix rows all.1)

below_cases : (n : ℕ) (b c : Bool) (x y z : ℕ) (rows others : Table) → Below n rows → Below n others
    → (let r : ℕ × Table = cond b (x, rows) (cond c (y, []) (z, others)) in Below n r.1)
below_cases n true c x y z rows others first second = first
below_cases n false true x y z rows others first second = tt
below_cases n false false x y z rows others first second = second

below_param : (n : ℕ) (rows : Table) (path : List ℕ) → Below n rows → Below n (param_step rows path).1
unfolding matchit_on_literals
below_param n rows path all =
    let suffix : List ℕ = longest_suffix (segment path) rows in
    below_cases n (ltb 0 (length suffix)) (has_slash path) (length (segment path) - length suffix) 0 (length path) (with_suffix suffix rows) rows (below_suffix n suffix rows all) all

below_seek : (n skip : ℕ) (rows : Table) (path : List ℕ) → Below n rows → IsBelow n (seek skip rows path)
unfolding matchit_on_literals
below_seek n skip rows [] all = below_own n rows all
below_seek n (suc skip) rows (b ∷ path) all = below_seek n skip rows path all
below_seek n zero rows (b ∷ path) all =
    let params : ℕ × Table = param_step (step param_token rows) (b ∷ path) in
    below_or_else n (seek 0 (step b rows) path) (or_else (seek (params.0 - 1) params.1 path) (own (step catch_all_token rows))) (below_seek n 0 (step b rows) path (below_step n b rows all))
    (below_or_else n (seek (params.0 - 1) params.1 path) (own (step catch_all_token rows))
    (below_seek n (params.0 - 1) params.1 path (below_param n (step param_token rows) (b ∷ path) (below_step n param_token rows all)))
    (below_own n (step catch_all_token rows) (below_step n catch_all_token rows all)))

below_placed : (n : ℕ) (row : List ℕ × RouteOf ℕ) (rows : Table) → row.1.value < n → Below n rows → Below n (placed row rows)
below_placed n row [] low all = (low, tt)
below_placed n row (x ∷ rows) low all =
    below_choice n (comes_before row.0 x.0) (row ∷ x ∷ rows) (x ∷ placed row rows) (low, all) (all.0, below_placed n row rows low all.1)

below_read : (n place : ℕ) (read : Result Scan InsertError) (table : Table) → place < n → Below n table → Below n (with_read read place table)
below_read n place (Ok s) table low all = below_placed n (s.pattern, route_from s place) table low all
below_read n place (Err e) table low all = all

below_routes : (n place : ℕ) (routes : List RouteEntry) (table : Table) → place + length routes ≤ n → Below n table → Below n (with_routes place routes table)
below_routes n place [] table few all = all
below_routes n place (route ∷ routes) table few all =
    below_routes n (place + 1) routes (with_route route.path place table) (omega (arith, few)) (below_read n place (parse_route route.path) table (omega (arith, few)) all)

place_below : (n : ℕ) (route : Option (RouteOf ℕ)) → IsBelow n route → IfSome (option_map (λ r. r.value) route) (λ place. place < n)
place_below n None below = tt
place_below n (Some r) below = below

-- the place of a path's route is one of the list's
pub within : (routes : List RouteEntry) (path : List ℕ) → IfSome (route_of routes path) (λ place. place < length routes)
within routes path =
    place_below (length routes) (seek 0 (table_of routes) path) (below_seek (length routes) 0 (table_of routes) path (below_routes (length routes) 0 routes [] (omega arith) tt))
