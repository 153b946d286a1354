-- How a call that asks the shared stores ends.
use Rattle.std.proofs.Common.{◌≡◌, ℕ, Bool, true, false, List, [], ap, if◌then◌else◌}
use Rattle.store_model.specs.Made.{Made as Answered}
use Rattle.store_model.specs.Program.{Program, done, bind, Runs}
use Rattle.store_model.specs.Runs.{runs_none, runs_as, runs_from, runs_bind}
use Rattle.abi_types.specs.GuestAt.{GuestAt}
use Rattle.contexts.specs.Reached.{Seen}
use Rattle.abi_model.specs.Asking.{Asking, asks, AskingEnds}
use Rattle.abi_model.specs.Calls.{Called, called, ending, CallEnds}
use Rattle.abi_model.specs.Rows.{all_inside, input_bytes}
use Rattle.abi_model.specs.declared.table.Param.{Param}
use Rattle.abi_model.specs.declared.ends.Outcome.{Outcome}
use Rattle.abi_model.specs.declared.ends.HostEnd.{HostEnd}
use Rattle.abi_model.specs.declared.ends.HostEnd.TheVariants.{Status, Trapped, FuelSpent, OutOfMemory}

module _ {S : Type 0} (performs : S → List Answered → S → Type 0) (row : List Param) (own : Asking) (vm : ℕ) (args : List ℕ) (g : GuestAt) (s : Seen) where
  abbrev pub goes_on : Outcome → Program Called
  goes_on o = done (ending 6 row args g o)

  by_test : (b : Bool) → all_inside g.config.store.memory row 0 args ≡ b
      → asks row own vm args g s ≡ (if b then bind (own vm args (input_bytes g.config.store.memory row args) s) goes_on else done (called 6 g))
  by_test b is = ap (λ (x : Bool). if x then bind (own vm args (input_bytes g.config.store.memory row args) s) goes_on else done (called 6 g)) is

  -- the last step gives the answer
  pub ended : (end : HostEnd) (h : GuestAt) (a t : S) (p : Program Called) (x : Called) → Runs performs a p (done x) t → CallEnds x end h → AskingEnds performs a p end h t
  ended (Status n) h a t p x run is = runs_as run (ap done is)
  ended (Trapped c) h a t p x run is = runs_as run (ap done is)
  ended FuelSpent h a t p x run is = runs_as run (ap done is)
  ended OutOfMemory h a t p x run is = (done x, run)

  -- it ran to its outcome, which was handed over
  pub asked : (end : HostEnd) (h : GuestAt) (a t : S) (o : Outcome) → all_inside g.config.store.memory row 0 args ≡ true
      → Runs performs a (own vm args (input_bytes g.config.store.memory row args) s) (done o) t → CallEnds (ending 6 row args g o) end h
      → AskingEnds performs a (asks row own vm args g s) end h t
  asked end h a t o is run ends = ended end h a t (asks row own vm args g s) (ending 6 row args g o) (runs_from (by_test true is) (runs_bind performs goes_on run)) ends

  -- it was cut short
  pub cut : (h : GuestAt) (a t : S) (q : Program Outcome) → all_inside g.config.store.memory row 0 args ≡ true
      → Runs performs a (own vm args (input_bytes g.config.store.memory row args) s) q t → AskingEnds performs a (asks row own vm args g s) OutOfMemory h t
  cut h a t q is run = (bind q goes_on, runs_from (by_test true is) (runs_bind performs goes_on run))

  -- a range is outside
  pub outside : ((x : S) → performs x [] x) → all_inside g.config.store.memory row 0 args ≡ false → (a : S) → AskingEnds performs a (asks row own vm args g s) (Status 6) g a
  outside nothing is a = runs_from (by_test false is) (runs_none performs nothing a (done (called 6 g)))
