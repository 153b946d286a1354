-- Which bytes are the name and the value of a field, and the value of a pseudo-header.
use Rattle.std.specs.Prelude.{ℕ, ◌+◌, ◌/◌, ◌%◌, Bool, false, ◌&&◌, ◌||◌, not, List, [], ◌∷◌, length, slice_index, bytes_eq, codes, Option, None, Some, ◌==◌, nat_lt, nat_le, if◌then◌else◌}
use Rattle.std.specs.List.{list_all}
use Rattle.std.specs.Char.{is_ascii_digit}
use Rattle.std.specs.Str.Parse.{digits_value}
use Rattle.http_header.specs.Token.{is_token_byte, is_value_byte}

-- the longest name that `http_header` takes
abbrev pub name_limit : ℕ
name_limit = 65535

-- a token (RFC 9110, section 5.6.2)
abbrev pub is_token_text : List ℕ → Bool
is_token_text bytes = nat_lt 0 (length bytes) && list_all is_token_byte bytes

-- the name of a field, in any case of letters
abbrev pub is_field_name : List ℕ → Bool
is_field_name bytes = is_token_text bytes && nat_le (length bytes) name_limit

-- the value of a field: no byte of it is a control byte, but for the tab (RFC 9110, section 5.5)
abbrev pub is_field_value : List ℕ → Bool
is_field_value bytes = list_all is_value_byte bytes

-- a byte 21 to 7E
abbrev pub is_visible : ℕ → Bool
is_visible b = nat_lt 32 b && nat_lt b 127

-- a method that passes: a token other than CONNECT; methods have their case (RFC 9110, section 9.1)
abbrev pub is_method : List ℕ → Bool
is_method bytes = is_token_text bytes && not (bytes_eq bytes (codes "CONNECT"))

-- a scheme that passes
abbrev pub is_scheme : List ℕ → Bool
is_scheme bytes = bytes_eq bytes (codes "http") || bytes_eq bytes (codes "https")

-- an authority: visible bytes, possibly none
abbrev pub is_authority : List ℕ → Bool
is_authority bytes = list_all is_visible bytes

-- a byte of a path with its query: visible, and no `#`
abbrev pub is_path_byte : ℕ → Bool
is_path_byte b = is_visible b && not (b == 35)

-- `*`, or `/` and such bytes
abbrev pub is_path : List ℕ → Bool
is_path bytes = bytes_eq bytes (codes "*") || (slice_index bytes 0 == 47 && list_all is_path_byte bytes)

-- the number of a status code's three digits (RFC 9112, section 4)
abbrev pub status_of : List ℕ → Option ℕ
status_of bytes = if length bytes == 3 && list_all is_ascii_digit bytes then Some (digits_value 10 bytes) else None

-- the three digits of a number below 1000
abbrev pub status_text : ℕ → List ℕ
status_text n = (48 + n / 100) ∷ (48 + n / 10 % 10) ∷ (48 + n % 10) ∷ []

abbrev pub is_within : ℕ → ℕ → Option ℕ → Bool
is_within low high None = false
is_within low high (Some n) = nat_le low n && nat_le n high

-- a status code from `low` to `high`
abbrev pub is_status : ℕ → ℕ → List ℕ → Bool
is_status low high bytes = is_within low high (status_of bytes)
