-- The lines of a text, and where a head ends (RFC 9112, sections 2.1 and 2.2).
use Rattle.std.specs.Prelude.{ℕ, ◌+◌, Bool, ◌||◌, List, [], ◌∷◌, length, take, drop, Option, None, Some, ◌==◌, nat_lt, nat_le, bytes_eq, if◌then◌else◌}
use Rattle.std.specs.Option.{option_map}
use Rattle.httparse.specs.Ascii.{line_feed, crlf_bytes}

-- how many bytes of a head may come, from its first line on, with the ends of its lines
abbrev pub head_limit : ℕ
head_limit = 65536

-- how many lines may stand between a head's first line and its empty line
abbrev pub line_limit : ℕ
line_limit = 100

-- the byte in front of the first of the lines
abbrev pub with_first : ℕ → List (List ℕ) → List (List ℕ)
with_first b [] = []
with_first b (line ∷ lines) = (b ∷ line) ∷ lines

-- the whole lines of a text, each with its end: a line ends with LF, and what stands after the last LF is in none
abbrev pub whole_lines : List ℕ → List (List ℕ)
whole_lines [] = []
whole_lines (b ∷ bytes) =
    let after = whole_lines bytes in if b == line_feed then (b ∷ []) ∷ after else with_first b after

-- the line is an LF, or a CR and an LF
abbrev pub is_empty_line : List ℕ → Bool
is_empty_line line = bytes_eq line (line_feed ∷ []) || bytes_eq line crlf_bytes

-- how many bytes the empty lines at the front take, and the text after them (RFC 9112, section 2.2: a server skips them)
abbrev pub empty_len : List (List ℕ) → ℕ
empty_len [] = 0
empty_len (line ∷ lines) = if is_empty_line line then length line + empty_len lines else 0

abbrev pub empty_line_bytes : List ℕ → ℕ
empty_line_bytes text = empty_len (whole_lines text)

abbrev pub after_empty_lines : List ℕ → List ℕ
after_empty_lines text = drop (empty_line_bytes text) text

-- the lines up to the first empty one: how many stand before it, and how many bytes they take with it
abbrev pub section_of : List (List ℕ) → Option (ℕ × ℕ)
section_of [] = None
section_of (line ∷ lines) =
    if is_empty_line line then Some (0, length line)
    else option_map (λ (s : ℕ × ℕ). (s.0 + 1, length line + s.1)) (section_of lines)

-- a head has come and takes so many bytes; it has grown too large; or its empty line has not come
pub data Cut : Type 0 where
  whole : ℕ → Cut
  too_large : Cut
  unfinished : Cut

-- a section after a first line of so many bytes
abbrev pub cut_at : ℕ → ℕ × ℕ → Cut
cut_at first (lines, len) = if nat_lt line_limit lines then too_large else whole (first + len)

-- no empty line among so many bytes and so many lines after the first
abbrev pub cut_open : ℕ → ℕ → Cut
cut_open bytes lines = if nat_le head_limit bytes || nat_lt line_limit lines then too_large else unfinished

abbrev pub cut_lines : ℕ → ℕ → ℕ → Option (ℕ × ℕ) → Cut
cut_lines bytes first lines None = cut_open bytes lines
cut_lines bytes first lines (Some section) = cut_at first section

-- the head in a text whose whole lines these are
abbrev pub cut_of : ℕ → List (List ℕ) → Cut
cut_of bytes [] = cut_open bytes 0
cut_of bytes (first ∷ after) = cut_lines bytes (length first) (length after) (section_of after)

-- the head at the front of a text, of which no more is looked at
abbrev pub window_cut : List ℕ → Cut
window_cut window = cut_of (length window) (whole_lines window)

-- The head that a text begins with, judged by its first 65,536 bytes alone: too large where they hold no end of it,
-- or where more than 100 lines stand after its first line before an empty one.
abbrev pub head_cut : List ℕ → Cut
head_cut text = window_cut (take head_limit text)
