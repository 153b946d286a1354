-- Single words of a configuration: names, numbers of an address, levels.
use Rattle.std.specs.Prelude.{ℕ, ◌+◌, ◌-◌, ◌*◌, min, List, [], ◌∷◌, Bool, true, false, not, ◌&&◌, ◌||◌, ◌==◌, nat_le, length, bytes_eq, codes, Option, Some, None, if◌then◌else◌}
use Rattle.std.specs.List.{list_all}
use Rattle.gate_base.specs.declared.level.Level.{Level}
use Rattle.gate_base.specs.declared.level.Level.TheVariants.{Trace, Debug, Info, Warn, Error, Critical}

-- `a` to `z`, `0` to `9`, `_` and `-`
abbrev pub is_name_byte : ℕ → Bool
is_name_byte b = ((nat_le 97 b && nat_le b 122) || (nat_le 48 b && nat_le b 57)) || (b == 95 || b == 45)

-- 1 to 32 such bytes
abbrev pub is_name : List ℕ → Bool
is_name s = (nat_le 1 (length s) && nat_le (length s) 32) && list_all is_name_byte s

abbrev pub is_digit : ℕ → Bool
is_digit b = nat_le 48 b && nat_le b 57

-- decimal digits, with no zero in front of others
abbrev pub is_decimal : List ℕ → Bool
is_decimal [] = false
is_decimal (only ∷ []) = is_digit only
is_decimal (first ∷ (second ∷ more)) = not (first == 48) && list_all is_digit (first ∷ (second ∷ more))

-- the number that digits write after others, and 1,000,000 where it is more
unfoldable pub number_from : ℕ → List ℕ → ℕ
number_from n [] = n
number_from n (b ∷ bs) = number_from (min (n * 10 + (b - 48)) 1000000) bs

-- a number within these bounds, which are below 1,000,000
abbrev pub is_between : ℕ → ℕ → List ℕ → Bool
is_between least most s = is_decimal s && (nat_le least (number_from 0 s) && nat_le (number_from 0 s) most)

abbrev pub level_of : List ℕ → Option Level
level_of s =
    if bytes_eq s (codes "trace") then Some Trace
    else (if bytes_eq s (codes "debug") then Some Debug
    else (if bytes_eq s (codes "info") then Some Info
    else (if bytes_eq s (codes "warn") then Some Warn
    else (if bytes_eq s (codes "error") then Some Error
    else (if bytes_eq s (codes "critical") then Some Critical else None)))))
