-- `fd_write` of WASI: the pieces joined go to the log, those of the file 1 at the level info, those of 2 at the level error.
use Rattle.std.specs.Prelude.{◌≡◌, ◌<◌, ℕ, zero, suc, ◌+◌, ◌*◌, ◌==◌, ◌||◌, ◌&&◌, Bool, true, cond, nat_lt, List, [], ◌∷◌, ◌++◌, length, slice_index, Option, None, Some, if◌then◌else◌}
use Rattle.gate_io.specs.declared.event.Sent.{Sent}
use Rattle.gate_io.specs.declared.event.Sent.TheVariants.{Log}
use Rattle.wasm_syntax.specs.Memory.{bytes_at}
use Rattle.abi_types.specs.GuestAt.{GuestAt, is_range}
use Rattle.contexts.specs.Reached.{Seen}
use Rattle.abi_model.specs.Calls.{called, given}
use Rattle.abi_model.specs.Rows.{all_inside}
use Rattle.abi_model.specs.Table.{arg, wasi_row_of}
use Rattle.abi_model.specs.Writing.{Logged, Writes, quiet, writes_logged}
use Rattle.abi_model.specs.declared.table.WasiCall.TheVariants as wasi
use Rattle.abi_model.specs.declared.ends.Gives.TheVariants.{Number}
use Rattle.abi_services.specs.Logging.{text_limit, level_at}

-- the number of four bytes, the lowest first
abbrev pub word_in : List ℕ → ℕ
word_in bytes = slice_index bytes 0 + 256 * (slice_index bytes 1 + 256 * (slice_index bytes 2 + 256 * slice_index bytes 3))

abbrev pub word_at : List ℕ → ℕ → ℕ
word_at memory at = word_in (bytes_at memory at 4)

-- an entry of eight bytes says where a piece begins, and how many bytes it has

-- each piece of so many entries is inside
abbrev pub pieces_inside : List ℕ → (at count : ℕ) → Bool
pieces_inside memory at zero = true
pieces_inside memory at (suc n) = is_range memory (word_at memory at) (word_at memory (at + 4)) && pieces_inside memory (at + 8) n

-- the entries are inside, and each piece
abbrev pub are_inside : List ℕ → (at count : ℕ) → Bool
are_inside memory at count = is_range memory at (8 * count) && pieces_inside memory at count

-- the pieces joined
abbrev pub pieces : List ℕ → (at count : ℕ) → List ℕ
pieces memory at zero = []
pieces memory at (suc n) = bytes_at memory (word_at memory at) (word_at memory (at + 4)) ++ pieces memory (at + 8) n

-- ---- what is written

abbrev pub is_file : ℕ → Bool
is_file fd = (fd == 1) || (fd == 2)

-- info and error
abbrev pub level_of_file : ℕ → ℕ
level_of_file fd = cond (fd == 1) 2 4

abbrev pub lines_of : (fd : ℕ) → List ℕ → Seen → List Sent
lines_of fd text s = if nat_lt (level_of_file fd) s.common.level then [] else Log (level_at (level_of_file fd)) text ∷ []

-- no such file, and then too many bytes
abbrev pub file_written : (fd : ℕ) → List ℕ → Seen → Logged
file_written fd text s =
    if is_file fd
    then (if nat_lt text_limit (length text) then quiet 28 else (record { outcome = given (Number (length text)); lines = lines_of fd text s }))
    else quiet 8

-- THE CALL: its ranges and place and those of the pieces come before everything else
abbrev pub fd_writes : List ℕ → GuestAt → Seen → Writes
fd_writes args g s =
    if all_inside g.config.store.memory (wasi_row_of wasi.FdWrite) 0 args && are_inside g.config.store.memory (arg args 1) (arg args 2)
    then writes_logged 21 (wasi_row_of wasi.FdWrite) args g (file_written (arg args 0) (pieces g.config.store.memory (arg args 1) (arg args 2)) s)
    else (record { called = called 21 g; lines = [] })

-- the same of what is known of the pieces: too long ones are not kept
abbrev pub text_written : (fd : ℕ) → Option (List ℕ) → Seen → Logged
text_written fd None s = if is_file fd then quiet 28 else quiet 8
text_written fd (Some text) s = file_written fd text s

abbrev pub IsText : List ℕ → Option (List ℕ) → Type 0
IsText pieces None = text_limit < length pieces
IsText pieces (Some text) = text ≡ pieces
