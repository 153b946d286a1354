-- The paths that the routes of the plain configuration take.
use Rattle.std.proofs.Common.{◌≡◌, ◌≢◌, ℕ, zero, suc, ◌-◌, ◌<◌, List, [], ◌∷◌, Bool, true, false, cond, length, Option, None, Some, refl, ap, ◌∙◌, arith}
use Rattle.std.specs.Prelude.{option_map, codes}
use Rattle.std.proofs.lemmas.Bool.Decides.{nat_tests}
use Rattle.matchit.proofs.OnLiterals.{matchit_on_literals}
use Rattle.matchit.specs.Router.{RouteOf}
use Rattle.matchit.specs.Rows.{RowsOf}
use Rattle.matchit.specs.Seek.{has_slash, step, or_else, param_step, seek}
use Rattle.gate_config.specs.Laws.{PlainRoutes}
use Rattle.gate_config.specs.Plain.{plain_routes}
use Rattle.gate_config.specs.Routes.{Table, table_of, route_of}

abbrev Row : Type 0
Row = RouteOf ℕ

none_chosen : (b : Bool) (n : ℕ) → (let r : ℕ × RowsOf Row = cond b (0, []) (n, []) in r.1) ≡ []
none_chosen true n = refl
none_chosen false n = refl

param_none : (path : List ℕ) → (param_step {K = Row} [] path).1 ≡ []
unfolding matchit_on_literals
param_none path = none_chosen (has_slash path) (length path)

-- two steps that find nothing
over : (first second last : Option Row) → first ≡ None → second ≡ None → or_else first (or_else second last) ≡ last
over first second last a b = ap (λ (o : Option Row). or_else o (or_else second last)) a ∙ ap (λ (o : Option Row). or_else o last) b

-- no rows, no route
seek_none : (skip : ℕ) (path : List ℕ) → seek {K = Row} skip [] path ≡ None
unfolding matchit_on_literals
seek_none skip [] = refl
seek_none (suc skip) (b ∷ path) = seek_none skip path
seek_none zero (b ∷ path) =
    let n : ℕ = (param_step {K = Row} [] (b ∷ path)).0 - 1 in
    over (seek 0 [] path) (seek n (param_step {K = Row} [] (b ∷ path)).1 path) None (seek_none 0 path)
    (ap (λ (rows : RowsOf Row). seek n rows path) (param_none (b ∷ path)) ∙ seek_none n path)

-- no row begins with a parameter
by_param : (path : List ℕ) (n : ℕ) (rest : List ℕ) → seek n (param_step {K = Row} [] path).1 rest ≡ None
by_param path n rest = ap (λ (rows : RowsOf Row). seek n rows rest) (param_none path) ∙ seek_none n rest

-- after the slash: a catch-all, and the end
abbrev behind : Row → Row → RowsOf Row
behind rest root = (257 ∷ [], rest) ∷ ([], root) ∷ []

abbrev both : Row → Row → RowsOf Row
both rest root = (47 ∷ 257 ∷ [], rest) ∷ (47 ∷ [], root) ∷ []

-- no row goes on with a byte
no_byte : (b : ℕ) (rest root : Row) → b < 256 → step b (behind rest root) ≡ []
no_byte b rest root low = grind (arith, nat_tests)

not_slash : (b : ℕ) (rest root : Row) → b ≢ 47 → step b (both rest root) ≡ []
not_slash b rest root other = grind (arith, nat_tests)

some_rest : (b : ℕ) (path : List ℕ) (rest root : Row) → b < 256 → seek 0 (behind rest root) (b ∷ path) ≡ Some rest
unfolding matchit_on_literals
some_rest b path rest root low =
    over (seek 0 (step b (behind rest root)) path) (seek ((param_step {K = Row} [] (b ∷ path)).0 - 1) (param_step {K = Row} [] (b ∷ path)).1 path) (Some rest)
    (ap (λ (rows : RowsOf Row). seek 0 rows path) (no_byte b rest root low) ∙ seek_none 0 path)
    (by_param (b ∷ path) ((param_step {K = Row} [] (b ∷ path)).0 - 1) path)

no_route : (b : ℕ) (path : List ℕ) (rest root : Row) → b ≢ 47 → seek 0 (both rest root) (b ∷ path) ≡ None
unfolding matchit_on_literals
no_route b path rest root other =
    over (seek 0 (step b (both rest root)) path) (seek ((param_step {K = Row} [] (b ∷ path)).0 - 1) (param_step {K = Row} [] (b ∷ path)).1 path) None
    (ap (λ (rows : RowsOf Row). seek 0 rows path) (not_slash b rest root other) ∙ seek_none 0 path)
    (by_param (b ∷ path) ((param_step {K = Row} [] (b ∷ path)).0 - 1) path)

found : (o other : Option Row) (row : Row) → o ≡ Some row → or_else o other ≡ Some row
found o other row is = ap (λ (x : Option Row). or_else x other) is

slash_rest : (b : ℕ) (path : List ℕ) (rest root : Row) → b < 256 → seek 0 (both rest root) (47 ∷ b ∷ path) ≡ Some rest
unfolding matchit_on_literals
slash_rest b path rest root low = found (seek 0 (behind rest root) (b ∷ path)) _ rest (some_rest b path rest root low)

abbrev rest_row : Row
rest_row = record { pattern = 47 ∷ 257 ∷ []; text = codes "/{*rest}"; names = (3, 7) ∷ []; value = 1 }

abbrev root_row : Row
root_row = record { pattern = 47 ∷ []; text = codes "/"; names = []; value = 0 }

table_is : (n : ℕ) → table_of (plain_routes n) ≡ both rest_row root_row
unfolding matchit_on_literals
table_is n = refl

abbrev value_of : Option Row → Option ℕ
value_of row = option_map (λ route. route.value) row

taken : (n : ℕ) (path : List ℕ) (row : Option Row) → seek 0 (both rest_row root_row) path ≡ row → route_of (plain_routes n) path ≡ value_of row
taken n path row is = ap (λ (table : Table). value_of (seek 0 table path)) (table_is n) ∙ ap value_of is

root_found : seek 0 (both rest_row root_row) (47 ∷ []) ≡ Some root_row
unfolding matchit_on_literals
root_found = refl

nothing_found : seek 0 (both rest_row root_row) [] ≡ None
unfolding matchit_on_literals
nothing_found = refl

pub plain_routes_taken : PlainRoutes
plain_routes_taken = record {
  slash = λ n. taken n (47 ∷ []) (Some root_row) root_found;
  longer = λ n b path low. taken n (47 ∷ b ∷ path) (Some rest_row) (slash_rest b path rest_row root_row low);
  other = λ n b path low not. taken n (b ∷ path) None (no_route b path rest_row root_row not);
  empty = λ n. taken n [] None nothing_found;
}
