-- A line of too many bytes is refused whatever they are.
use Rattle.std.proofs.Common.{◌≡◌, ℕ, Bool, true, false, ◌&&◌, ◌||◌, List, [], length, refl, ap, ◌∙◌, if◌then◌else◌}
use Rattle.std.specs.Prelude.{nat_lt}
use Rattle.wasm_syntax.specs.Memory.{bytes_at}
use Rattle.abi_types.specs.GuestAt.{GuestAt, is_range}
use Rattle.contexts.specs.Reached.{Seen}
use Rattle.abi_model.specs.Calls.{called}
use Rattle.abi_model.specs.Table.{arg, row_of}
use Rattle.abi_model.specs.Writing.{writes, writes_logged, quiet}
use Rattle.abi_model.specs.declared.table.HostCall.TheVariants as call
use Rattle.abi_services.specs.Logging.{text_limit, written, logging, own_log}
use Rattle.abi_services.proofs.Pieces.{range_size}

or_true : (b : Bool) → (b || true) ≡ true
or_true true = refl
or_true false = refl

and_true : (b : Bool) → b ≡ true → (b && true) ≡ true
and_true b is = ap (λ x. x && true) is

first_of : (a b : Bool) → (a && b) ≡ true → a ≡ true
first_of true b is = refl
first_of false b is = is

second_of : (a b : Bool) → (a && b) ≡ true → b ≡ true
second_of true b is = is
second_of false b is = absurd (cc)

refused : (level : ℕ) (text : List ℕ) (s : Seen) → nat_lt text_limit (length text) ≡ true → logging level text s ≡ quiet 2
refused level text s long =
    ap (λ b. if nat_lt 5 level || b then quiet 2 else written level text s) long
    ∙ ap (λ b. if b then quiet 2 else written level text s) (or_true (nat_lt 5 level))

module _ (args : List ℕ) (g : GuestAt) (s : Seen) (is : (nat_lt text_limit (arg args 2) && is_range g.config.store.memory (arg args 1) (arg args 2)) ≡ true) where
  inside : is_range g.config.store.memory (arg args 1) (arg args 2) ≡ true
  inside = second_of (nat_lt text_limit (arg args 2)) (is_range g.config.store.memory (arg args 1) (arg args 2)) is

  long : nat_lt text_limit (length (bytes_at g.config.store.memory (arg args 1) (arg args 2))) ≡ true
  long = ap (nat_lt text_limit) (range_size g.config.store.memory (arg args 1) (arg args 2) inside) ∙ first_of (nat_lt text_limit (arg args 2)) (is_range g.config.store.memory (arg args 1) (arg args 2)) is

  pub too_long : writes 6 (row_of call.Log) own_log args g s ≡ record { called = called 2 g; lines = [] }
  too_long =
      ap (λ b. if b then writes_logged 6 (row_of call.Log) args g (logging (arg args 0) (bytes_at g.config.store.memory (arg args 1) (arg args 2)) s) else (record { called = called 6 g; lines = [] })) (and_true (is_range g.config.store.memory (arg args 1) (arg args 2)) inside)
      ∙ ap (writes_logged 6 (row_of call.Log) args g) (refused (arg args 0) (bytes_at g.config.store.memory (arg args 1) (arg args 2)) s long)
