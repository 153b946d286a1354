-- The calls of WASI. Their statuses are their own: 0 success, 8 no such file, 21 a range outside, 28 a wrong argument.
use Rattle.std.specs.Prelude.{ℕ, zero, suc, ◌+◌, ◌-◌, ◌/◌, ◌^◌, min, nat_lt, List, [], ◌++◌, take, Some, if◌then◌else◌}
use Rattle.std.specs.Int.{w32, to_le_bytes}
use Rattle.rand_chacha.specs.ChaCha.{word_at, key_of}
use Rattle.contexts.specs.Reached.{Seen, no_changes}
use Rattle.abi_model.specs.Calls.{Made, Own, answers, reads, only, given}
use Rattle.abi_model.specs.Table.{arg}
use Rattle.abi_model.specs.declared.ends.Gives.TheVariants.{Numbers, Wide, Written}

-- ---- the clock: 0 is the time of day, 1 the one that never falls

abbrev pub own_clock_time_get : (now : ℕ) → Own
own_clock_time_get now args inputs s = reads (if nat_lt 1 (arg args 0) then only 28 else given (Wide now))

-- ---- no arguments and no environment

abbrev pub own_nothing : Own
own_nothing args inputs s = reads (only 0)

abbrev pub own_no_sizes : Own
own_no_sizes args inputs s = reads (given (Numbers 0 0))

-- ---- random bytes: the words of the ChaCha8 stream 0 of the world's seed, in order, the lowest byte of each first

abbrev pub random_limit : ℕ
random_limit = 65536

-- so many words from a place on
abbrev pub words_from : (count : ℕ) → List ℕ → (place : ℕ) → List ℕ
words_from zero seed place = []
words_from (suc n) seed place = to_le_bytes w32 (word_at 4 (key_of seed) 0 place) ++ words_from n seed (place + 1)

-- how many words have so many bytes
abbrev pub words_for : ℕ → ℕ
words_for len = (len + 3) / 4

abbrev pub random_bytes : ℕ → List ℕ → (place : ℕ) → List ℕ
random_bytes len seed place = take len (words_from (words_for len) seed place)

abbrev pub randomly : ℕ → Seen → Made
randomly len s =
    if nat_lt random_limit len then answers 28
    else (record {
      status = 0;
      changes = record no_changes { random_place = Some (min (s.common.random_place + words_for len) (2 ^ 64 - 1)) };
      gives = Written (random_bytes len s.common.random_key s.common.random_place);
    })

abbrev pub own_random_get : Own
own_random_get args inputs s = randomly (arg args 1) s
