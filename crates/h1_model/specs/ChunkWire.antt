-- The bytes of a chunked body on its way out (RFC 9112, section 7.1).
use Rattle.std.specs.Prelude.{ℕ, ◌+◌, List, [], ◌∷◌, ◌++◌, length, map, codes, nat_lt, if◌then◌else◌}
use Rattle.std.specs.Int.Digits.{digits_of}
use Rattle.std.specs.List.{flat_map}
use Rattle.httparse.specs.Ascii.{crlf_bytes}
use Rattle.h1_model.specs.Fields.{Pair}
use Rattle.h1_model.specs.Wire.{field_lines}

-- a digit below 16, in lower case
abbrev pub hex_digit : ℕ → ℕ
hex_digit d = if nat_lt d 10 then 48 + d else 87 + d

-- a number above 0, without leading zeros
abbrev pub hex_text : ℕ → List ℕ
hex_text n = map hex_digit (digits_of 16 n)

-- a piece is one chunk; an empty one is none, since a chunk of size 0 would end the body
abbrev pub chunk_of : List ℕ → List ℕ
chunk_of [] = []
chunk_of (b ∷ bytes) = hex_text (length (b ∷ bytes)) ++ crlf_bytes ++ (b ∷ bytes) ++ crlf_bytes

abbrev pub chunks_of : List (List ℕ) → List ℕ
chunks_of pieces = flat_map chunk_of pieces

-- the last chunk
abbrev pub last_chunk : List ℕ
last_chunk = codes "0" ++ crlf_bytes

-- the end of a body: the last chunk, the field lines of its trailers, and the empty line
abbrev pub body_end : List Pair → List ℕ
body_end trailers = last_chunk ++ field_lines trailers ++ crlf_bytes
