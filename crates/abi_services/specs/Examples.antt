-- Worked examples: what the calls on the log, ticks, stores and metrics, and those of WASI, answer.
use Rattle.std.specs.Prelude.{◌≡◌, ◌-◌, ◌^◌, ℕ, true, false, List, [], ◌∷◌, ◌++◌, codes, None, Some}
use Rattle.gate_base.specs.declared.level.Level.TheVariants.{Warn, Critical}
use Rattle.store_model.specs.Program.{done}
use Rattle.store_model.specs.declared.call.Call.{Call}
use Rattle.store_model.specs.declared.call.Reply.{Reply}
use Rattle.store_model.specs.declared.call.Reply.TheVariants as reply
use Rattle.store_model.specs.declared.metric.MetricReply.TheVariants as total
use Rattle.contexts.specs.Reached.{Seen}
use Rattle.abi_model.specs.Calls.{answers, only, given}
use Rattle.abi_model.specs.Writing.{quiet}
use Rattle.abi_model.specs.declared.ends.Outcome.{Outcome}
use Rattle.abi_model.specs.declared.ends.Gives.TheVariants.{Bytes, BytesAndNumber, Number}
use Rattle.abi_services.specs.Local.{tick_of, ticked}
use Rattle.abi_services.specs.Logging.{level_at, logging}
use Rattle.abi_services.specs.Data.{got, was_set}
use Rattle.abi_services.specs.Queues.{asking_of, registering, vm_named, vm_of_queue, item_in, was_put}
use Rattle.abi_services.specs.Metrics.{defining, was_defined, was_added, total_in}
use Rattle.abi_services.specs.Properties.{pseudo_of, is_fixed, set_in}
use Rattle.abi_services.specs.Wasi.{words_for, random_bytes, randomly}
use Rattle.abi_services.specs.Files.{pieces_inside, pieces, file_written}

pub record LocalExamples : Type 0 where
  pub stopped : tick_of 1000 0 ≡ None
  pub a_millisecond : tick_of 5 1 ≡ Some (record { period = 1000000; due = 1000005 })
  pub at_the_last_moment : tick_of (2 ^ 64 - 1) 1 ≡ Some (record { period = 1000000; due = 2 ^ 64 - 1 })
  pub no_context : ticked 0 1 None ≡ answers 2
  pub level : level_at 3 ≡ Warn
  pub last_level : level_at 5 ≡ Critical
  pub no_such_level : (s : Seen) → logging 6 [] s ≡ quiet 2
  pub path : pseudo_of (codes "request" ++ 0 ∷ codes "path") ≡ Some (codes ":path")
  pub no_pseudo : pseudo_of (codes "request") ≡ None
  pub plugin_is_fixed : (s : Seen) → is_fixed (codes "plugin_name") s ≡ true
  pub nobody_sets : (s : Seen) → set_in (codes "a") (codes "b") s None ≡ answers 2

pub record StoreExamples : Type 0 where
  pub absent : got reply.Absent ≡ only 1
  pub empty_value : got (reply.Value [] 1) ≡ given (BytesAndNumber [] 1)
  pub stale_number : was_set reply.CasMismatch ≡ only 8
  pub full : was_set reply.Full ≡ only 10
  pub no_root : registering 0 (codes "q") None ≡ done (only 2)
  pub second_vm : vm_named (codes "m2") (codes "m1" ∷ codes "m2" ∷ []) ≡ Some 1
  pub no_vm : vm_named (codes "m3") (codes "m1" ∷ codes "m2" ∷ []) ≡ None
  pub of_queue : vm_of_queue 16777217 ≡ 1
  pub of_first_queue : vm_of_queue 1 ≡ 0
  pub names_no_vm : (c : Call) (f : Reply → Outcome) → asking_of 2 c f (codes "m1" ∷ codes "m2" ∷ []) ≡ done (only 1)
  pub item : item_in (reply.Item (codes "x")) ≡ given (Bytes (codes "x"))
  pub empty_queue : item_in reply.Empty ≡ only 7
  pub no_queue : item_in reply.Absent ≡ only 1
  pub full_queue : was_put reply.Full ≡ only 10
  pub no_such_type : defining 0 3 (codes "n") ≡ done (only 2)
  pub name_before_type : defining 0 2 [] ≡ done (only 2)
  pub histogram : defining 0 2 (codes "n") ≡ done (only 12)
  pub metric : was_defined (total.Id 7) ≡ given (Number 7)
  pub not_built : was_defined total.NotBuilt ≡ only 12
  pub counter_falls : was_added total.BadKind ≡ only 2
  pub unknown : total_in total.Unknown ≡ only 1

-- one entry, and its piece after it
abbrev pub one_piece : (len : ℕ) → List ℕ
one_piece len = 8 ∷ 0 ∷ 0 ∷ 0 ∷ len ∷ 0 ∷ 0 ∷ 0 ∷ codes "hi"

pub record WasiExamples : Type 0 where
  pub no_words : words_for 0 ≡ 0
  pub one_word : words_for 4 ≡ 1
  pub two_words : words_for 5 ≡ 2
  pub no_bytes : random_bytes 0 [] 0 ≡ []
  pub too_many : (s : Seen) → randomly 65537 s ≡ answers 28
  pub piece : pieces (one_piece 2) 0 1 ≡ codes "hi"
  pub piece_inside : pieces_inside (one_piece 2) 0 1 ≡ true
  pub piece_outside : pieces_inside (one_piece 3) 0 1 ≡ false
  pub no_pieces : pieces (one_piece 2) 0 0 ≡ []
  pub no_such_file : (s : Seen) → file_written 3 (codes "hi") s ≡ quiet 8
