-- What a request's target gives (RFC 9112, section 3.2; RFC 3986).
use Rattle.std.specs.Prelude.{◌≡◌, ℕ, ◌+◌, Bool, ◌&&◌, ◌||◌, not, List, ◌∷◌, length, drop, slice_index, codes, bytes_eq, Option, None, Some, ◌==◌, nat_lt, if◌then◌else◌}
use Rattle.std.specs.List.{list_all, list_any}
use Rattle.http_uri.specs.ByteClasses.{slash, question_mark, hash_sign, at_sign}
use Rattle.http_uri.specs.Grammar.{IsUriText}

-- the forms of a target that this profile takes
pub data TargetForm : Type 0 where
  origin : TargetForm
  absolute : TargetForm
  asterisk : TargetForm

pub data Scheme : Type 0 where
  http : Scheme
  https : Scheme

-- the parts that a target gives; where it gives no authority, Host does
pub record Target : Type 0 where
  pub form : TargetForm
  pub scheme : Scheme
  pub authority : Option (List ℕ)
  pub path : List ℕ

-- a byte 21 to 7E
abbrev pub is_visible : ℕ → Bool
is_visible b = nat_lt 32 b && nat_lt b 127

-- a byte of a path with its query: visible, and no `#`
abbrev pub is_path_value_byte : ℕ → Bool
is_path_value_byte b = is_visible b && not (b == hash_sign)

-- a path begins with `/`, and may have a query after a `?`
abbrev pub is_path_value : List ℕ → Bool
is_path_value path = slice_index path 0 == slash && list_all is_path_value_byte path

abbrev pub is_options : List ℕ → Bool
is_options method = bytes_eq method (codes "OPTIONS")

-- the origin form `/path?query`, and the asterisk form, which is for OPTIONS alone (RFC 9112, sections 3.2.1 and 3.2.4)
abbrev pub origin_target : List ℕ → List ℕ → Option Target
origin_target method target =
    if bytes_eq target (codes "*") then
    (if is_options method then Some (record { form = asterisk; scheme = http; authority = None; path = target }) else None)
    else
    (if is_path_value target then Some (record { form = origin; scheme = http; authority = None; path = target }) else None)

-- the scheme in lower case, where it is one that this profile takes
abbrev pub scheme_of : List ℕ → Option Scheme
scheme_of text =
    if bytes_eq text (codes "http") then Some http else (if bytes_eq text (codes "https") then Some https else None)

-- the path of an absolute target with this text after its authority: no path is `/`, and `*` for OPTIONS
-- (RFC 9112, section 3.2.4)
abbrev pub absolute_path : List ℕ → List ℕ → List ℕ
absolute_path method tail =
    if length tail == 0 then (if is_options method then codes "*" else codes "/")
    else (if slice_index tail 0 == question_mark then slash ∷ tail else tail)

-- `*`, or a path
abbrev pub is_absolute_path : List ℕ → Bool
is_absolute_path path = bytes_eq path (codes "*") || is_path_value path

abbrev pub absolute_parts : Option Scheme → List ℕ → List ℕ → Option Target
absolute_parts None authority path = None
absolute_parts (Some scheme) authority path =
    if not (list_any (λ b. b == at_sign) authority) && is_absolute_path path
    then Some (record { form = absolute; scheme = scheme; authority = Some authority; path = path }) else None

-- the absolute form `scheme://authority path` (RFC 9112, section 3.2.2)
abbrev pub absolute_target : List ℕ → List ℕ → List ℕ → List ℕ → Option Target
absolute_target method target scheme authority =
    absolute_parts (scheme_of scheme) authority (absolute_path method (drop (length scheme + 3 + length authority) target))

-- what the target gives where `http_uri` reads this scheme and this authority in it; the authority form is for CONNECT alone
abbrev pub target_of : List ℕ → List ℕ → Option (List ℕ) → Option (List ℕ) → Option Target
target_of method target None None = origin_target method target
target_of method target None (Some authority) = None
target_of method target (Some scheme) None = None
target_of method target (Some scheme) (Some authority) = absolute_target method target scheme authority

-- The target gives these parts. The texts that `http_uri` reads are known by its relation, so this is a relation too.
pub record GivesTarget (method target : List ℕ) (parts : Target) : Type 0 where
  pub scheme : Option (List ℕ)
  pub authority : Option (List ℕ)
  pub kept : List ℕ
  pub reads : IsUriText target scheme authority kept
  pub gives : target_of method target scheme authority ≡ Some parts

-- what the target of a request of that method gives: these parts, or none
abbrev pub IsTargetOf : List ℕ → List ℕ → Option Target → Type 0
IsTargetOf method target None = (parts : Target) → GivesTarget method target parts → ⊥
IsTargetOf method target (Some parts) = GivesTarget method target parts
