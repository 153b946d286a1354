-- What is right for a head is right for its list.
use Rattle.std.proofs.Common.{◌≡◌, ℕ, Bool, true, false, ◌||◌, List, [], ◌∷◌, refl, bytes_eq, codes}
use Rattle.std.proofs.lemmas.Bool.{false≢true}
use Rattle.std.specs.List.{list_all}
use Rattle.header_maps.specs.Judged.{is_path}
use Rattle.h1_model.specs.Head.{host_of, is_host_right}
use Rattle.h1_model.specs.Target.{is_path_value, is_visible}

-- the value of Host lines that are right is one of visible bytes
pub host_visible : (minor : ℕ) (hosts : List (List ℕ)) → is_host_right minor hosts ≡ true → list_all is_visible (host_of hosts) ≡ true
host_visible minor [] right = refl
host_visible minor (host ∷ []) right = right
host_visible minor (host ∷ other ∷ hosts) right = absurd (false≢true right)

-- a path that this profile takes is one that a list takes
pub path_taken : (path : List ℕ) → is_path_value path ≡ true → is_path path ≡ true
path_taken path value = or_true (bytes_eq path (codes "*")) (is_path_value path) value
  where
    or_true : (a b : Bool) → b ≡ true → (a || b) ≡ true
    or_true true b e = refl
    or_true false b e = e
