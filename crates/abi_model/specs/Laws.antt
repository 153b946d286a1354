-- What holds of every host call, and worked examples of rows.
use Rattle.std.specs.Prelude.{◌≡◌, ℕ, true, false, List, [], ◌∷◌, replicate, codes, None, Some}
use Rattle.abi_memory.specs.Giving.{gave, refused, no_allocator}
use Rattle.abi_types.specs.GuestAt.{GuestAt}
use Rattle.contexts.specs.Reached.{Seen, no_changes}
use Rattle.abi_model.specs.Calls.{Own, called, does, finishing}
use Rattle.abi_model.specs.Rows.{all_inside, input_bytes, places_of}
use Rattle.abi_model.specs.Table.{row_of, call_named, wasi_call_named}
use Rattle.abi_model.specs.declared.table.Param.{Param}
use Rattle.abi_model.specs.declared.table.HostCall.TheVariants as call
use Rattle.abi_model.specs.declared.table.WasiCall.TheVariants as wasi

-- where a range or a place is outside, nothing of the call happens, whatever its values are
abbrev pub RangesComeFirst : Type 0
RangesComeFirst = (outside : ℕ) (row : List Param) (own : Own) (args : List ℕ) (g : GuestAt) (s : Seen) → all_inside g.config.store.memory row 0 args ≡ false
    → does outside row own args g s ≡ record { called = called outside g; changes = no_changes }

-- what a call changes stands, however handing over ends
abbrev pub EffectStands : Type 0
EffectStands = (outside : ℕ) (row : List Param) (own : Own) (args : List ℕ) (g : GuestAt) (s : Seen) → all_inside g.config.store.memory row 0 args ≡ true
    → (does outside row own args g s).changes ≡ (own args (input_bytes g.config.store.memory row args) s).changes

-- rows over memories that are written out
pub record RowExamples : Type 0 where
  pub last_byte : all_inside (replicate 4 0) (row_of call.Log) 0 (2 ∷ 3 ∷ 1 ∷ []) ≡ true
  pub past_the_end : all_inside (replicate 4 0) (row_of call.Log) 0 (2 ∷ 3 ∷ 2 ∷ []) ≡ false
  pub no_bytes_anywhere : all_inside (replicate 4 0) (row_of call.Log) 0 (2 ∷ 9 ∷ 0 ∷ []) ≡ true
  pub last_place : all_inside (replicate 8 0) (row_of call.GetLogLevel) 0 (4 ∷ []) ≡ true
  pub last_three_bytes : all_inside (replicate 8 0) (row_of call.GetLogLevel) 0 (5 ∷ []) ≡ false
  pub wide_place : all_inside (replicate 8 0) (row_of call.GetMetric) 0 (1 ∷ 0 ∷ []) ≡ true
  pub wide_place_past : all_inside (replicate 8 0) (row_of call.GetMetric) 0 (1 ∷ 1 ∷ []) ≡ false
  pub key : (input_bytes (codes "abcdef") (row_of call.SetSharedData) (1 ∷ 2 ∷ 3 ∷ 1 ∷ 7 ∷ [])).first ≡ codes "bc"
  pub value : (input_bytes (codes "abcdef") (row_of call.SetSharedData) (1 ∷ 2 ∷ 3 ∷ 1 ∷ 7 ∷ [])).second ≡ codes "d"
  pub no_third : (input_bytes (codes "abcdef") (row_of call.SetSharedData) (1 ∷ 2 ∷ 3 ∷ 1 ∷ 7 ∷ [])).third ≡ []
  pub places : places_of (row_of call.GetSharedData) (0 ∷ 1 ∷ 8 ∷ 12 ∷ 16 ∷ []) ≡ record { first = 8; second = 12; third = 16 }
  pub named : call_named (codes "proxy_log") ≡ Some call.Log
  pub named_last : call_named (codes "proxy_get_metric") ≡ Some call.GetMetric
  pub not_named : call_named (codes "proxy_call_foreign_function") ≡ None
  pub wasi_named : wasi_call_named (codes "proc_exit") ≡ Some wasi.ProcExit
  pub refused_is_outside : (g : GuestAt) → finishing 6 0 (refused g) ≡ called 6 g
  pub no_allocator_is_ten : (g : GuestAt) → finishing 6 0 (no_allocator g) ≡ called 10 g
  pub given_is_the_status : (g : GuestAt) → finishing 6 8 (gave g) ≡ called 8 g
