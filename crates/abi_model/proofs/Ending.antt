-- How a call that writes to the log leaves it.
use Rattle.std.proofs.Common.{◌≡◌, ◌≢◌, ◌++◌, ℕ, Bool, true, List, [], refl, sym, ap, subst, if◌then◌else◌}
use Rattle.gate_io.specs.declared.event.Sent.{Sent}
use Rattle.abi_types.specs.GuestAt.{GuestAt}
use Rattle.contexts.specs.Reached.{Seen}
use Rattle.abi_model.specs.Calls.{called}
use Rattle.abi_model.specs.Rows.{all_inside, input_bytes}
use Rattle.abi_model.specs.Writing.{Writing, Writes, writes, writes_logged, LogEnds}
use Rattle.abi_model.specs.declared.table.Param.{Param}
use Rattle.abi_model.specs.declared.ends.HostEnd.{HostEnd}
use Rattle.abi_model.specs.declared.ends.HostEnd.TheVariants.{Status, Trapped, FuelSpent, OutOfMemory}

module _ (outside : ℕ) (row : List Param) (own : Writing) (args : List ℕ) (g : GuestAt) (s : Seen) where
  by_test : all_inside g.config.store.memory row 0 args ≡ true → writes outside row own args g s ≡ writes_logged outside row args g (own args (input_bytes g.config.store.memory row args) s)
  by_test is = ap (λ (b : Bool). if b then writes_logged outside row args g (own args (input_bytes g.config.store.memory row args) s) else (record { called = called outside g; lines = [] })) is

  by_end : (lines : List Sent) (end : HostEnd) (old new : List Sent) → end ≢ OutOfMemory → new ≡ old ++ lines → LogEnds lines end old new
  by_end lines (Status n) old new sure same = same
  by_end lines (Trapped c) old new sure same = same
  by_end lines FuelSpent old new sure same = same
  by_end lines OutOfMemory old new sure same = absurd (sure refl)

  pub lines_end : (end : HostEnd) (old new : List Sent) → end ≢ OutOfMemory → all_inside g.config.store.memory row 0 args ≡ true
      → new ≡ old ++ (own args (input_bytes g.config.store.memory row args) s).lines → LogEnds (writes outside row own args g s).lines end old new
  lines_end end old new sure is same =
      subst (λ (w : Writes). LogEnds w.lines end old new) (sym (by_test is)) (by_end (own args (input_bytes g.config.store.memory row args) s).lines end old new sure same)
