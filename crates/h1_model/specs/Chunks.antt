-- The chunked coding (RFC 9112, section 7.1): size lines, the data after them, and what a text carries from a place in it on.
use Rattle.std.specs.Prelude.{ℕ, zero, suc, ◌+◌, ◌-◌, Bool, true, ◌&&◌, not, List, [], ◌∷◌, length, drop, slice_index, Option, None, Some, ◌==◌, nat_lt, nat_le, if◌then◌else◌}
use Rattle.std.specs.List.{list_all, take_while}
use Rattle.std.specs.Char.{is_ascii_hexdigit}
use Rattle.std.specs.Str.Parse.{digits_value}
use Rattle.httparse.specs.Ascii.{carriage_return, line_feed, semicolon}
use Rattle.httparse.specs.Grammar.{skip_ows}
use Rattle.h1_model.specs.Length.{length_limit}

-- ---- a size line: `1*16HEXDIG *( SP / HTAB ) [ ";" extension ] CR LF`

-- how many bytes a size line may have, its CR LF with them
abbrev pub size_line_limit : ℕ
size_line_limit = 4096

-- how many digits a size may have
abbrev pub digit_limit : ℕ
digit_limit = 16

-- the bytes in front of the first CR
abbrev pub is_before_end : ℕ → Bool
is_before_end b = not (b == carriage_return)

abbrev pub front_of : List ℕ → List ℕ
front_of text = take_while is_before_end text

-- the number that hexadecimal digits write, up to 2^63 - 1; leading zeros count as digits
abbrev pub number_of_digits : List ℕ → Option ℕ
number_of_digits digits =
    if (nat_lt 0 (length digits) && nat_le (length digits) digit_limit) && nat_le (digits_value 16 digits) length_limit
    then Some (digits_value 16 digits) else None

-- no extensions, or a `;` and any bytes but LF: they are passed over unread (RFC 9112, section 7.1.1)
abbrev pub is_no_line_end : ℕ → Bool
is_no_line_end b = not (b == line_feed)

abbrev pub are_extensions : List ℕ → Bool
are_extensions [] = true
are_extensions (b ∷ bytes) = b == semicolon && list_all is_no_line_end bytes

-- the size that a line tells whose bytes in front of CR LF these are
abbrev pub size_told : List ℕ → Option ℕ
size_told front =
    let digits = take_while is_ascii_hexdigit front in
    if are_extensions (skip_ows (drop (length digits) front)) then number_of_digits digits else None

-- what a text spells where a size line is due: a line with this size, which takes so many bytes; the front of one;
-- or what no bytes that follow can make one
pub data SizeStep : Type 0 where
  sized : ℕ → ℕ → SizeStep
  size_open : SizeStep
  no_size : SizeStep

-- after so many bytes that tell this size stands CR LF, the front of CR LF, or something else
abbrev pub line_ended : ℕ → ℕ → List ℕ → SizeStep
line_ended size len [] = size_open
line_ended size len (cr ∷ []) = size_open
line_ended size len (cr ∷ b ∷ bytes) = if b == line_feed then sized size (len + 2) else no_size

abbrev pub told_step : Option ℕ → ℕ → List ℕ → SizeStep
told_step None len behind = no_size
told_step (Some size) len behind = line_ended size len behind

-- the bytes in front of the first CR, and those from it on; a front that is too long for its CR LF is no line
abbrev pub front_step : List ℕ → List ℕ → SizeStep
front_step front behind =
    if nat_lt size_line_limit (length front + 2) then no_size else told_step (size_told front) (length front) behind

abbrev pub size_step : List ℕ → SizeStep
size_step text =
    let front = front_of text in if length text == 0 then size_open else front_step front (drop (length front) text)

-- ---- places in the coding, and the next byte of data

-- what is due in a chunked body: a size line; so many bytes of a chunk's data, and then CR LF; the trailer section, after the
-- last chunk's line; or nothing, after its end
pub data Place : Type 0 where
  size_line : Place
  inside : ℕ → Place
  section : Place
  over : Place

-- where a body begins
abbrev pub start : Place
start = size_line

-- what a text has next, from a place on: after so many bytes of the coding stands a byte of data, of a chunk of which so many bytes are
-- left, that byte among them; after so many bytes, the last chunk's line with them, a trailer section is due; its front is there and no more; or
-- it is malformed
pub data Sought : Type 0 where
  data_at : ℕ → ℕ → Sought
  section_at : ℕ → Sought
  waiting : Sought
  malformed : Sought

-- after a size line: the last chunk has the size 0, and any other one at least a byte of data
abbrev pub behind_size : List ℕ → SizeStep → Sought
behind_size text (sized size used) =
    if size == 0 then section_at used else (if nat_lt used (length text) then data_at used size else waiting)
behind_size text size_open = waiting
behind_size text no_size = malformed

-- the same, after so many bytes more
abbrev pub sought_after : ℕ → Sought → Sought
sought_after n (data_at at left) = data_at (n + at) left
sought_after n (section_at at) = section_at (n + at)
sought_after n waiting = waiting
sought_after n malformed = malformed

-- after the last byte of a chunk's data stand exactly CR LF, and then a size line
abbrev pub behind_data : List ℕ → Sought
behind_data [] = waiting
behind_data (cr ∷ []) = if cr == carriage_return then waiting else malformed
behind_data (cr ∷ lf ∷ text) =
    if cr == carriage_return && lf == line_feed then sought_after 2 (behind_size text (size_step text)) else malformed

abbrev pub sought : Place → List ℕ → Sought
sought size_line text = behind_size text (size_step text)
sought (inside left) text =
    if left == 0 then behind_data text else (if nat_lt 0 (length text) then data_at 0 left else waiting)
sought section text = section_at 0
sought over text = waiting

-- Where a trailer section is next, what stands in front of it, the last chunk's line with it, may count as read: so many bytes of the
-- text, and then this is the place.
abbrev pub section_taken : Sought → ℕ
section_taken (data_at at left) = 0
section_taken (section_at at) = at
section_taken waiting = 0
section_taken malformed = 0

abbrev pub place_taken : Place → Sought → Place
place_taken place (data_at at left) = place
place_taken place (section_at at) = section
place_taken place waiting = place
place_taken place malformed = place

-- ---- the data that a text carries

-- bytes of data, how many bytes of the text they take with the coding in front of and between them, and the place after the last
pub record Run : Type 0 where
  pub bytes : List ℕ
  pub used : ℕ
  pub place : Place

abbrev pub no_run : Place → Run
no_run place = record { bytes = []; used = 0; place = place }

-- a run with bytes in front of it, which take so many
abbrev pub with_byte : ℕ → ℕ → Run → Run
with_byte b used run = record { bytes = b ∷ run.bytes; used = used + run.used; place = run.place }

-- the answer for a byte of data, or that for anything else
abbrev pub if_data : {A : Type 0} → Sought → A → (ℕ → ℕ → A) → A
if_data (data_at at left) other some = some at left
if_data (section_at at) other some = other
if_data waiting other some = other
if_data malformed other some = other

-- The first `room` bytes of data that a text carries from a place on, or as many as there are.
unfoldable pub run_of : ℕ → Place → List ℕ → Run
run_of zero place text = no_run place
run_of (suc room) place text =
    if_data (sought place text) (no_run place)
    (λ at left. with_byte (slice_index text at) (at + 1) (run_of room (inside (left - 1)) (drop (at + 1) text)))
