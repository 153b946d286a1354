-- What a row says of a call's arguments: which ranges and places are judged, and what is taken from them.
use Rattle.std.specs.Prelude.{◌≤◌, ℕ, ◌+◌, ◌&&◌, Bool, true, List, [], ◌∷◌, length, Option, None, Some, slice_get, slice_index_or}
use Rattle.wasm_syntax.specs.Memory.{bytes_at}
use Rattle.abi_types.specs.GuestAt.{is_range}
use Rattle.abi_model.specs.Table.{arg}
use Rattle.abi_model.specs.declared.table.Param.{Param}
use Rattle.abi_model.specs.declared.table.Param.TheVariants.{Number, Wide, Input, Result, WideResult, Output}
use Rattle.abi_model.specs.declared.opening.Inputs.{Inputs}
use Rattle.abi_model.specs.declared.ends.Places.{Places}

-- ---- from the i-th argument on

-- each range and each result place is inside
abbrev pub all_inside : List ℕ → List Param → ℕ → List ℕ → Bool
all_inside m [] i args = true
all_inside m (Number ∷ ps) i args = all_inside m ps (i + 1) args
all_inside m (Wide ∷ ps) i args = all_inside m ps (i + 1) args
all_inside m (Input ∷ ps) i args = is_range m (arg args i) (arg args (i + 1)) && all_inside m ps (i + 2) args
all_inside m (Result ∷ ps) i args = is_range m (arg args i) 4 && all_inside m ps (i + 1) args
all_inside m (WideResult ∷ ps) i args = is_range m (arg args i) 8 && all_inside m ps (i + 1) args
all_inside m (Output ∷ ps) i args = is_range m (arg args i) (arg args (i + 1)) && all_inside m ps (i + 2) args

-- where bytes are taken from, and how many
abbrev pub ranges : List Param → ℕ → List ℕ → List (ℕ × ℕ)
ranges [] i args = []
ranges (Number ∷ ps) i args = ranges ps (i + 1) args
ranges (Wide ∷ ps) i args = ranges ps (i + 1) args
ranges (Input ∷ ps) i args = (arg args i, arg args (i + 1)) ∷ ranges ps (i + 2) args
ranges (Result ∷ ps) i args = ranges ps (i + 1) args
ranges (WideResult ∷ ps) i args = ranges ps (i + 1) args
ranges (Output ∷ ps) i args = ranges ps (i + 2) args

-- where results are written
abbrev pub places : List Param → ℕ → List ℕ → List ℕ
places [] i args = []
places (Number ∷ ps) i args = places ps (i + 1) args
places (Wide ∷ ps) i args = places ps (i + 1) args
places (Input ∷ ps) i args = places ps (i + 2) args
places (Result ∷ ps) i args = arg args i ∷ places ps (i + 1) args
places (WideResult ∷ ps) i args = arg args i ∷ places ps (i + 1) args
places (Output ∷ ps) i args = arg args i ∷ places ps (i + 2) args

-- ---- what is taken

abbrev pub bytes_in : List ℕ → Option (ℕ × ℕ) → List ℕ
bytes_in m None = []
bytes_in m (Some r) = bytes_at m r.0 r.1

-- the bytes of the ranges
abbrev pub input_bytes : List ℕ → List Param → List ℕ → Inputs
input_bytes m row args = record {
  first = bytes_in m (slice_get (ranges row 0 args) 0);
  second = bytes_in m (slice_get (ranges row 0 args) 1);
  third = bytes_in m (slice_get (ranges row 0 args) 2);
  fourth = bytes_in m (slice_get (ranges row 0 args) 3);
}

abbrev pub places_of : List Param → List ℕ → Places
places_of row args = record {
  first = slice_index_or (places row 0 args) 0 0;
  second = slice_index_or (places row 0 args) 1 0;
  third = slice_index_or (places row 0 args) 2 0;
}

-- no more bytes than a guest's memory may have
pub record AreInputs (inputs : Inputs) : Type 0 where
  pub first : length inputs.first ≤ 16777216
  pub second : length inputs.second ≤ 16777216
  pub third : length inputs.third ≤ 16777216
  pub fourth : length inputs.fourth ≤ 16777216
