-- The calls of WASI.
use Rattle.std.specs.Prelude.{◌≡◌, ℕ, List, [], ◌∷◌, ◌++◌, Some, codes, replicate, take}
use Rattle.std.specs.Int.{w32, to_le_bytes}
use Rattle.abi_calls.specs.Hosting.{Hosted}
use Rattle.abi_model.specs.Calls.{called_trapped}
use Rattle.abi_model.specs.declared.table.WasiCall.{WasiCall}
use Rattle.abi_model.specs.declared.table.WasiCall.TheVariants as wasi
use Rattle.contexts.specs.Reached.{Seen, no_changes}
use Rattle.gate_base.specs.declared.cause.Cause.TheVariants.{Exit}
use Rattle.gate_base.specs.declared.level.Level.TheVariants.{Info, Error}
use Rattle.gate_io.specs.declared.event.Sent.TheVariants.{Log}
use Rattle.rand_chacha.specs.ChaCha.{word_at}
use Rattle.store_model.specs.Program.{Program, done}
use Rattle.law_host_calls.specs.Scenes.{guest, letters, told, seen, ends, wasi_on, answers, writes}

-- 24 bytes: an entry of three bytes at place 13
abbrev pub entry : List ℕ
entry = told 13 3 (codes "mnopqrstuvwx")

-- the same, where the number of bytes stands at place 18
abbrev pub counted : (number : ℕ) → List ℕ
counted number = told 13 3 (codes "mnopqr" ++ number ∷ 0 ∷ 0 ∷ 0 ∷ codes "wx")

-- two entries, of three bytes at place 21 and of two at place 20
abbrev pub entries : List ℕ → List ℕ
entries first = first ++ 21 ∷ 0 ∷ 0 ∷ 0 ∷ 3 ∷ 0 ∷ 0 ∷ 0 ∷ 20 ∷ 0 ∷ 0 ∷ 0 ∷ 2 ∷ 0 ∷ 0 ∷ 0 ∷ codes "uvwx"

-- every line is sent
abbrev pub of_all : Seen
of_all = record seen { common = record seen.common { level = 0 } }

abbrev pub refuses : (status : ℕ) → List ℕ → Program Hosted
refuses status memory = done (ends status (guest memory 9) no_changes [])

abbrev pub wasi_calls : WasiCall → List ℕ → Program Hosted
wasi_calls call args = wasi_on letters seen call args

pub record WasiExamples : Type 0 where
  -- file 2 is written at the level error, file 1 at info, which is below the least
  pub errors : wasi_on entry seen wasi.FdWrite (2 ∷ 4 ∷ 1 ∷ 18 ∷ []) ≡ done (ends 0 (guest (counted 3) 9) no_changes (Log Error (codes "nop") ∷ []))
  pub output : wasi_on entry of_all wasi.FdWrite (1 ∷ 4 ∷ 1 ∷ 18 ∷ []) ≡ done (ends 0 (guest (counted 3) 9) no_changes (Log Info (codes "nop") ∷ []))
  pub below : wasi_on entry seen wasi.FdWrite (1 ∷ 4 ∷ 1 ∷ 18 ∷ []) ≡ done (ends 0 (guest (counted 3) 9) no_changes [])
  pub no_such_file : wasi_on entry seen wasi.FdWrite (3 ∷ 4 ∷ 1 ∷ 18 ∷ []) ≡ refuses 8 entry
  -- the pieces `vwx` and `uv` are one line of five bytes
  pub joined : wasi_on (entries (codes "abcd")) seen wasi.FdWrite (2 ∷ 4 ∷ 2 ∷ 0 ∷ []) ≡ done (ends 0 (guest (entries (5 ∷ 0 ∷ 0 ∷ 0 ∷ [])) 9) no_changes (Log Error (codes "vwxuv") ∷ []))
  -- a second entry would begin at place 12, and its piece is outside
  pub piece_outside : wasi_on entry seen wasi.FdWrite (2 ∷ 4 ∷ 2 ∷ 18 ∷ []) ≡ refuses 21 entry
  pub entries_outside : wasi_on entry seen wasi.FdWrite (2 ∷ 18 ∷ 1 ∷ 4 ∷ []) ≡ refuses 21 entry
  pub count_outside : wasi_on entry seen wasi.FdWrite (2 ∷ 4 ∷ 1 ∷ 21 ∷ []) ≡ refuses 21 entry
  -- both clocks give the moment, 1,000
  pub time_of_day : wasi_calls wasi.ClockTimeGet (0 ∷ 5 ∷ 4 ∷ []) ≡ done (writes (codes "abcd" ++ 232 ∷ 3 ∷ 0 ∷ 0 ∷ 0 ∷ 0 ∷ 0 ∷ 0 ∷ codes "mnopqrstuvwx"))
  pub rising : wasi_calls wasi.ClockTimeGet (1 ∷ 5 ∷ 4 ∷ []) ≡ done (writes (codes "abcd" ++ 232 ∷ 3 ∷ 0 ∷ 0 ∷ 0 ∷ 0 ∷ 0 ∷ 0 ∷ codes "mnopqrstuvwx"))
  pub no_such_clock : wasi_calls wasi.ClockTimeGet (2 ∷ 5 ∷ 4 ∷ []) ≡ answers 28
  pub time_outside : wasi_calls wasi.ClockTimeGet (1 ∷ 5 ∷ 17 ∷ []) ≡ answers 21
  pub random_outside : wasi_calls wasi.RandomGet (21 ∷ 4 ∷ []) ≡ answers 21

pub record NoArguments : Type 0 where
  pub environment : wasi_calls wasi.EnvironGet (4 ∷ 8 ∷ []) ≡ answers 0
  pub arguments : wasi_calls wasi.ArgsGet (4 ∷ 8 ∷ []) ≡ answers 0
  pub environment_sizes : wasi_calls wasi.EnvironSizesGet (4 ∷ 8 ∷ []) ≡ done (writes (told 0 0 (codes "mnopqrstuvwx")))
  pub argument_sizes : wasi_calls wasi.ArgsSizesGet (4 ∷ 8 ∷ []) ≡ done (writes (told 0 0 (codes "mnopqrstuvwx")))
  pub environment_outside : wasi_calls wasi.EnvironSizesGet (4 ∷ 21 ∷ []) ≡ answers 21
  pub arguments_outside : wasi_calls wasi.ArgsSizesGet (21 ∷ 4 ∷ []) ≡ answers 21
  -- a trap, by which what was done is kept no more
  pub exit : wasi_calls wasi.ProcExit (3 ∷ []) ≡ done (record { called = called_trapped Exit 9; changes = no_changes; lines = [] })

pub record RandomExamples : Type 0 where
  -- word 7 of stream 0, which has four bytes: the first three of them, and then the next place
  pub drawn : wasi_calls wasi.RandomGet (4 ∷ 3 ∷ []) ≡ done (ends 0 (guest (codes "abcd" ++ take 3 (to_le_bytes w32 (word_at 4 (replicate 8 0) 0 7)) ++ codes "hijklmnopqrstuvwx") 9) (record no_changes { random_place = Some 8 }) [])
